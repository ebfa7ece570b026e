-- Where a command's edits are of leaves, no byte of a body is changed that stands in extents.
use Rattle.std.proofs.Common.{◌≡◌, inl, inr, ℕ, ◌+◌, ◌*◌, ◌<◌, ◌^◌, ◌==◌, Bool, true, false, not, ◌∷◌}
use Rattle.std.proofs.Common.{[], List, Option, Some, None, refl, sym, ap, subst, ◌∙◌, arith}
use Rattle.std.specs.Prelude.{Contains, map, nat_lt, ◌&&◌, ◌||◌, if◌then◌else◌}
use Rattle.std.specs.List.{list_any}
use Rattle.std.proofs.lemmas.Bool.{cases_Bool, eq-eqb, eqb-true, or_left, or_right}
use Rattle.std.proofs.lemmas.Option.{none-some}
use Rattle.r4_base.specs.Tree.{Holds, IsTree, Node, Root, Store}
use Rattle.r4_base.specs.Value.{Content, Value}
use Rattle.r4_base.specs.Volume.{HasExtents, HasStat, byte_rank, blocks_for, is_directory}
use Rattle.r4_base.specs.declared.items.Attr.{Attr}
use Rattle.r4_base.specs.declared.items.Target.{Target}
use Rattle.r4_base.proofs.Trees.{one_cell, unit_range}
use Rattle.r4_sets_told.specs.r4_cell.Patch.{by_name, root_of_pair}
use Rattle.r4_sets_told.specs.r4_cell.Seen.{CellSeen}
use Rattle.r4_sets_told.specs.r4_cell.declared.change.Root.{Root as RootPair}
use Rattle.r4_content.specs.Edited.{Intervals, changed, is_in}
use Rattle.r4_content.specs.Fields.{HasBytePaths, NamesUnused}
use Rattle.r4_content.specs.Lawful.{IsLawful}
use Rattle.r4_content.specs.Meaning.{greatest_size}
use Rattle.r4_content.specs.Seen.{IsSeen}
use Rattle.r4_content.specs.declared.command.Command.{Command}
use Rattle.r4_build.specs.r4_leaf_edits.Made.{spread_keys}
use Rattle.r4_sets_told.proofs.r4_patch.Holding.{one_holder, unit_held}
use Rattle.r4_sets_told.proofs.r4_patch.Members.{cases, none}
use Rattle.r4_sets_told.proofs.r4_patch.PartCells.{tree_is_part}
use Rattle.r4_build.specs.r4_reach.Answer.{IsReachOf}
use Rattle.r4_build.specs.r4_reach.Needs.{demand_on}
use Rattle.r4_build.specs.r4_reach.Reach.{HasReached, Touches}
use Rattle.r4_build.specs.r4_reach.Touched.{Body, IsKindIn, body_of, body_on, changes_on, edits_on, first_byte, has_unit}
use Rattle.r4_build.specs.r4_reach.Touched.{is_spread}
use Rattle.r4_build.specs.r4_reach.Touched.{coming, raw_changes, shown_at, turns_out, with_blocks}
use Rattle.r4_build.proofs.r4_reach.Trees.{held}
use Rattle.r4_applied.proofs.BodyTold.{key, shown, told, was_is}

-- where no body is spread, what changes is what edits set or take away
pub plain_changes : (b : Option Body) (rs : Intervals) → spread_keys b ≡ None → raw_changes b rs ≡ rs
plain_changes None rs none = refl
plain_changes (Some b) rs unspread = by (is_spread b) refl
  where
    by : (t : Bool) → is_spread b ≡ t → raw_changes (Some b) rs ≡ rs
    by true is =
        absurd (none-some (first_byte b, first_byte b + 2 ^ 64) (sym unspread ∙ ap (λ (t : Bool).
        if t then Some (first_byte b, first_byte b + 2 ^ 64) else None) is))
    by false is =
        ap (λ (t : Bool). if t then (if turns_out b
        then coming b
        ∷ map (with_blocks b) rs
        else map (with_blocks b) rs) else rs) is

not_spread : (b : Body) → spread_keys (Some b) ≡ None → b.in_extents ≡ false
not_spread b unspread = by b.in_extents refl
  where
    by : (t : Bool) → b.in_extents ≡ t → t ≡ false
    by true is =
        absurd (none-some (first_byte b, first_byte b + 2 ^ 64) (sym unspread ∙ ap (λ (t : Bool).
        if t || nat_lt 16384 b.now then Some (first_byte b, first_byte b + 2 ^ 64) else None) is))
    by false is = refl

has_one : (us : List (ℕ × Value)) (k : ℕ) (v : Value) → Contains us (k, v) → list_any (λ w. w.0 == k) us ≡ true
has_one [] k v has = absurd (none (k, v) has)
has_one (w ∷ us) k v has = elim (cases w (k, v) us has) [
  | inl is ↦
      or_left (w.0 == k) (list_any (λ x. x.0 == k) us) (eq-eqb w.0 k (ap (λ (x : ℕ × Value). x.0) (sym is)))
  | inr rest ↦ or_right (w.0 == k) (list_any (λ x. x.0 == k) us) (has_one us k v rest)
]

module _ (pair : RootPair) (c : Command) (met reads writes : List CellSeen) (rises : Option RootPair)
    (h : IsReachOf pair c met reads writes rises) (u : Store Value) (root : Root) (it : IsTree u root)
    (same : HasReached (demand_on c h.seen h.in_extents) (by_name met) u)
    (tails : spread_keys (body_on c h.seen h.in_extents) ≡ None) (n : Content)
    (saw : IsSeen greatest_size c h.seen n) (lawful : IsLawful greatest_size n) (paths : HasBytePaths c)
    (unused : NamesUnused n c) where
  -- what changes is what the edits change
  pub changes_are : changes_on c h.seen h.in_extents ≡ changed (edits_on c h.seen)
  changes_are = plain_changes (body_on c h.seen h.in_extents) (changed (edits_on c h.seen)) tails

  module _ (o : Target) (a : Attr) (stat : HasStat n o a) (file : is_directory a ≡ false) (some : 0 < a.size)
      (extents : HasExtents u o a.size) (y : ℕ) (lt : y < 2 ^ 64)
      (on : is_in (changed (edits_on c h.seen)) (byte_rank o y) ≡ true) where
    b : Body
    b = body_of (edits_on c h.seen) h.seen h.in_extents (key c h.seen n saw lawful paths unused o stat.0 y lt on)

    body_is : body_on c h.seen h.in_extents ≡ Some b
    unfolding b
    body_is = told c h.seen n saw lawful paths unused o stat.0 y lt on h.in_extents

    in_none : b.in_extents ≡ false
    in_none = not_spread b (subst (λ (x : Option Body). spread_keys x ≡ None) body_is tails)

    was : b.was ≡ a.size
    unfolding b
    was = was_is c h.seen n saw lawful paths unused o stat.0 y lt on h.in_extents a stat

    kind : IsKindIn (by_name met) (Some b)
    kind = subst (IsKindIn (by_name met)) body_is h.kind

    shows : (z : ℕ) × (z < a.size) × (shown_at b ≡ byte_rank o z)
        × Touches (demand_on c h.seen h.in_extents) (byte_rank o z)
    unfolding b
    shows =
        let (z, low, is, touch) =
        shown c h.seen n saw lawful paths unused o stat.0 y lt on h.in_extents a stat file some in (
          z,
          low,
          is,
          elim touch [
            | inl read ↦ inl read
            | inr change ↦
                inr (ap (λ (rs : Intervals). is_in rs (byte_rank o z)) changes_are ∙ change)
          ],
        )

    -- the cell that holds the key that tells it has a unit there, and is no leaf
    in_extent : (i : ℕ) (d : Node Value) → by_name met i ≡ Some d → Holds d (shown_at b)
        → (not (d.level == 1) && has_unit d (shown_at b)) ≡ true
    in_extent i d at holds =
        let (z, low, is, touch) = shows in
        let small : z < 2 ^ 64 = lesser z low in
        let (j, x, v, ux, level, has) = (extents.offsets z small).1 (block_of z low) in
        let (from, to) = unit_range u root it (byte_rank o z) v (j, x, ux, has) in
        let (k, w, tw, holds_w, reached) =
        held (demand_on c h.seen h.in_extents) (by_name met) (root_of_pair pair) h.part h.has (byte_rank o z) touch
        from to in
        let here = subst (Holds d) is holds in
        let one : i ≡ k = one_holder (by_name met) (root_of_pair pair) h.part
        (byte_rank o z) i k d w at tw here holds_w in
        let dw : d ≡ w = one_cell (by_name met) k d w (subst (λ (q : ℕ). by_name met q ≡ Some d) one at) tw in
        let part = tree_is_part u root it in
        let uw = same k w reached tw in
        let two : j ≡ k =
        one_holder u root part (byte_rank o z) j k x w ux uw
        (unit_held x (byte_rank o z) v (part.nodes j x ux) has) holds_w in
        let xw : x ≡ w = one_cell u k x w (subst (λ (q : ℕ). u q ≡ Some x) two ux) uw in
        subst (λ (q : Node Value). (not (q.level == 1) && has_unit q (shown_at b)) ≡ true) (xw ∙ sym dw)
        (not_leaf x level (ap (λ (q : ℕ). has_unit x q) is ∙ has_one x.units (byte_rank o z) v has))
      where
        lesser : (z : ℕ) → z < a.size → z < 2 ^ 64
        lesser z low = let small = lawful.bodies.small o a stat file in omega (arith, low, small)

        block_of : (z : ℕ) → z < a.size → z < 4096 * blocks_for a.size
        block_of z low = omega (arith, low)

        not_leaf : (x : Node Value) → (x.level ≡ 1 → ⊥) → has_unit x (shown_at b) ≡ true
            → (not (x.level == 1) && has_unit x (shown_at b)) ≡ true
        not_leaf x other has = elim (cases_Bool (x.level == 1)) [
          | inl is ↦ absurd (other (eqb-true x.level 1 is))
          | inr no_leaf ↦ rw (no_leaf, has) refl
        ]

    pub not_changed : ⊥
    not_changed = elim kind [
      | inl empty ↦ let none = empty.0 in let size = was in omega (arith, none, size, some)
      | inr shown_in ↦
          let (i, d, at, holds, is) = shown_in in
          let both : true ≡ false = sym (in_extent i d at holds) ∙ sym is ∙ in_none in
          cc
    ]
