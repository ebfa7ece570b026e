-- Where edits change a key, no extent has it; and where the change of a task leaves it as it is, nothing stands there, and
-- nothing is to come there.
use Rattle.std.proofs.Common.{◌≡◌, inl, inr, ℕ, ◌+◌, ◌<◌, ◌≤◌, ◌^◌, ◌==◌, Bool, true, false, List, [], ◌∷◌, Option, Some, None}
use Rattle.std.proofs.Common.{refl, sym, ap, subst, ◌∙◌, arith}
use Rattle.std.specs.Prelude.{◌&&◌, Contains, nat_lt, if◌then◌else◌}
use Rattle.std.specs.FinMap.{find}
use Rattle.std.specs.List.{list_any}
use Rattle.std.specs.Ordering.{nat_cmp}
use Rattle.std.proofs.Math.Decide.{ℕ_discrete}
use Rattle.std.proofs.lemmas.Bool.{eq-eqb, le-leb, lt-ltb}
use Rattle.r4_base.specs.Key.{key_of_rank, least, offset_of, top}
use Rattle.r4_base.specs.Tree.{Holds, InNode, InSpan, IsTree, Node, Root, Span, Store}
use Rattle.r4_base.specs.Value.{Byte, Content, Entry, Stat, Value, at_key}
use Rattle.r4_base.specs.Volume.{HasExtents, HasFiles, HasStat, HasUnits, InExtent, IsVisible, KeyFits, byte_rank}
use Rattle.r4_base.specs.Volume.{is_directory, object_of}
use Rattle.r4_base.specs.declared.items.Attr.{Attr}
use Rattle.r4_base.specs.declared.items.Target.{Target}
use Rattle.r4_base.proofs.Trees.{one_cell, unit_range}
use Rattle.r4_content.specs.Edited.{Edits, Intervals, changed, is_between, is_in}
use Rattle.r4_content.specs.Fields.{HasBytePaths, NamesUnused}
use Rattle.r4_content.specs.Lawful.{IsLawful}
use Rattle.r4_content.specs.Listed.{list_edited}
use Rattle.r4_content.specs.Meaning.{greatest_size}
use Rattle.r4_content.specs.Seen.{IsSeen}
use Rattle.r4_content.specs.declared.command.Command.{Command}
use Rattle.r4_content.proofs.Keeping.{byte_key}
use Rattle.r4_turned_tasks.specs.r4_extent_put.Whole.{is_putting, put_keys}
use Rattle.r4_turned_tasks.specs.r4_extent_put.r4_extent_among.Among.{values_among}
use Rattle.r4_turned_tasks.specs.r4_extent_put.r4_extent_demands.Putting.{put_into}
use Rattle.r4_turned_tasks.specs.r4_extent_put.r4_extent_demands.Ranges.{puts_into}
use Rattle.r4_turned_tasks.specs.r4_extent_put.r4_extent_demands.r4_leaf_demands.Leaves.{IsInLeaves}
use Rattle.r4_turned_tasks.specs.r4_extent_put.r4_extent_growth.r4_measure.r4_leaf.Units.{LeafUnit}
use Rattle.r4_turned_tasks.proofs.r4_extent_put.r4_extent_among.Values.{to_spans}
use Rattle.r4_turned_tasks.proofs.r4_extent_put.r4_extent_growth.r4_extent_change.r4_build.Pairs.{found_in}
use Rattle.r4_turned_tasks.proofs.r4_extent_put.r4_extent_growth.r4_extent_change.r4_extent_build.r4_extent_demands.Meets.{keys_meet}
use Rattle.r4_turned_tasks.proofs.r4_extent_put.r4_extent_growth.r4_extent_change.r4_extent_build.r4_extent_demands.PutsInto.{among_is, any_there, into_is}
use Rattle.r4_turned_tasks.proofs.r4_extent_put.r4_extent_growth.r4_extent_change.r4_extent_build.r4_extent_demands.r4_leaf_demands.Alike.{in_leaves_changes, in_leaves_edits}
use Rattle.r4_turned_tasks.proofs.r4_extent_put.r4_extent_growth.r4_measure.r4_work.UnitMembers.{to_filtered}
use Rattle.r4_turned_tasks.proofs.r4_task_moves.r4_extent_moves.r4_applied.SeenThere.{stat_seen}
use Rattle.r4_turned_tasks.proofs.r4_task_moves.r4_extent_moves.r4_applied.SpreadSpared.{not_changed}
use Rattle.r4_turned_tasks.proofs.r4_task_moves.r4_extent_moves.r4_applied.r4_build.r4_path.Rising.{hi_is, level_is, lo_is}
use Rattle.r4_turned_tasks.proofs.r4_task_moves.r4_extent_moves.r4_applied.r4_build.r4_reach.Same.{by_key}
use Rattle.r4_turned_tasks.proofs.r4_task_moves.r4_extent_moves.r4_applied.r4_build.r4_reach.Trees.{held}
use Rattle.r4_turned_tasks.proofs.r4_task_moves.r4_extent_moves.r4_applied.r4_sets.BodyKinds.{extent_shows}
use Rattle.r4_turned_tasks.proofs.r4_task_moves.r4_extent_moves.r4_applied.r4_sets_told.r4_patch.Holding.{one_holder, unit_held}
use Rattle.r4_turned_tasks.proofs.r4_task_moves.r4_extent_moves.r4_applied.r4_sets_told.r4_patch.Members.{found, none}
use Rattle.r4_turned_tasks.proofs.r4_task_moves.r4_extent_moves.r4_applied.r4_sets_told.r4_patch.PartCells.{tree_is_part}
use Rattle.r4_turned_tasks.specs.r4_task_moves.r4_extent_moves.r4_applied.r4_build.r4_leaf_edits.Made.{spread_keys}
use Rattle.r4_turned_tasks.specs.r4_task_moves.r4_extent_moves.r4_applied.r4_path.Sharing.{IsSound}
use Rattle.r4_turned_tasks.specs.r4_task_moves.r4_extent_moves.r4_applied.r4_reach.Answer.{IsReachOf}
use Rattle.r4_turned_tasks.specs.r4_task_moves.r4_extent_moves.r4_applied.r4_reach.Demand.{Covers, Demand}
use Rattle.r4_turned_tasks.specs.r4_task_moves.r4_extent_moves.r4_applied.r4_reach.Needs.{Ask, changes_pieces, demand_on, is_met, is_touched, leaf_edits, leaves_for, put_among, twig_turns}
use Rattle.r4_turned_tasks.specs.r4_task_moves.r4_extent_moves.r4_applied.r4_reach.Reach.{HasReached, IsWritten, is_body}
use Rattle.r4_turned_tasks.specs.r4_task_moves.r4_extent_moves.r4_applied.r4_reach.Touched.{Body, body_on, changes_on, edits_on, first_byte}
use Rattle.r4_turned_tasks.specs.r4_task_moves.r4_extent_moves.r4_applied.r4_sets_told.r4_cell.Patch.{by_name, root_of_pair}
use Rattle.r4_turned_tasks.specs.r4_task_moves.r4_extent_moves.r4_applied.r4_sets_told.r4_cell.Seen.{CellSeen, node_of}
use Rattle.r4_turned_tasks.specs.r4_task_moves.r4_extent_moves.r4_applied.r4_sets_told.r4_cell.declared.change.Root.{Root as RootPair}
use Rattle.r4_put_tasks.proofs.PutKeys.{leaf_key, twig_key}
use Rattle.r4_put_tasks.proofs.TwigBytes.{IsSomeByte, data_byte, twig_byte}

-- No extent of the tree has a key that the edits change, and no byte of a body is changed that stands in extents and is
-- not empty. At a key that they change and these cells leave as it is, nothing stands, and nothing comes.
pub record AreUntouched (b : Option Body) (e : Edits) (cells : List CellSeen) (u : Store Value) (raw n : Content)
    : Type 0 where
  pub apart : (k : ℕ) → is_in (changed e) k ≡ true → InExtent u k → ⊥
  pub spread : (o : Target) (a : Attr) → HasStat n o a → is_directory a ≡ false → 0 < a.size → HasExtents u o a.size
      → (y : ℕ) → y < 2 ^ 64 → is_in (changed e) (byte_rank o y) ≡ true → ⊥
  pub nothing : (k : ℕ) → is_in (changed e) k ≡ true → least ≤ k → k < top → put_keys b e cells k ≡ false
      → (find nat_cmp k (list_edited e []) ≡ None) × (at_key raw k ≡ None)

-- ---- what a twig gets

none_spread : (b : Option Body) → IsInLeaves b → spread_keys b ≡ None
none_spread None h = refl
none_spread (Some b) h =
    ap (λ (t : Bool). if t then Some (first_byte b, first_byte b + 2 ^ 64) else None) h

some_leaves : (us : List LeafUnit) (u : LeafUnit) → Contains us u → nat_lt 0 (leaves_for us) ≡ true
some_leaves [] u at = absurd (none u at)
some_leaves (v ∷ us) u at = lt-ltb 0 (leaves_for (v ∷ us)) (omega arith)

pieces_change : (b : Option Body) (e : Edits) (c : Node Value) → nat_lt 0 (put_among b e c) ≡ true
    → changes_pieces b e c ≡ true
pieces_change None e c h = h
pieces_change (Some b) e c h = rw h refl

module _ (b : Option Body) (e : Edits) (leaves : IsInLeaves b) (c : Node Value) (s : Span) (has : Contains c.spans s)
    (k : ℕ) (within : InSpan s k) (v : Value) (is : find nat_cmp k (list_edited e []) ≡ Some v) where
  value_in : Contains (put_into b e s.lo s.hi) (k, v)
  value_in =
      to_filtered (λ (w : LeafUnit). is_between s.lo s.hi w.0) (list_edited (leaf_edits b e) []) (k, v)
      (rw (le-leb s.lo k within.0, lt-ltb k s.hi within.1) refl)
      (subst (λ (x : Edits). Contains (list_edited x []) (k, v)) (sym (in_leaves_edits b e leaves))
      (found_in k (list_edited e []) v is))

  some_among : nat_lt 0 (put_among b e c) ≡ true
  some_among =
      among_is b e c.spans
      ∙ any_there (puts_into b e) c.spans s has
      (sym (into_is b e s.lo s.hi) ∙ some_leaves (put_into b e s.lo s.hi) (k, v) value_in)

  it_turns : (rs : Intervals) → is_in rs k ≡ true → c.level ≡ 2 → twig_turns b e rs c ≡ true
  it_turns rs on level =
      both (is_touched rs c) (c.level == 2) (changes_pieces b e c)
      (ap (λ (l : ℕ). if l == 1 then is_met rs c.lo c.hi else list_any (λ (z : Span). is_met rs z.lo z.hi) c.spans) level
      ∙ any_there (λ (z : Span). is_met rs z.lo z.hi) c.spans s has (keys_meet rs s.lo s.hi (k, on, within.0, within.1)))
      (eq-eqb c.level 2 level) (pieces_change b e c some_among)
    where
      both : (x y z : Bool) → x ≡ true → y ≡ true → z ≡ true → (x && (y && z)) ≡ true
      both x y z p q r = rw (p, q, r) refl

-- ---- in a tree in which the reach stands

module _ (pair : RootPair) (c : Command) (met reads writes : List CellSeen) (rises : Option RootPair)
    (h : IsReachOf pair c met reads writes rises) (u : Store Value) (root : Root) (it : IsTree u root)
    (same : HasReached (demand_on c h.seen h.in_extents) (by_name met) u) (raw n : Content) (units : HasUnits u raw)
    (files : HasFiles u raw) (visible : IsVisible raw n) (saw : IsSeen greatest_size c h.seen n)
    (lawful : IsLawful greatest_size n) (paths : HasBytePaths c) (unused : NamesUnused n c)
    (leaves : IsInLeaves (body_on c h.seen h.in_extents))
    (sound : (y : CellSeen) → Contains writes y → y.level ≡ 2 → IsSound y) where
  abbrev b : Option Body
  b = body_on c h.seen h.in_extents

  abbrev e : Edits
  e = edits_on c h.seen

  abbrev d : Demand Ask
  d = demand_on c h.seen h.in_extents

  touched : (k : ℕ) → is_in (changed (edits_on c h.seen)) k ≡ true
      → is_in (changes_on c h.seen h.in_extents) k ≡ true
  touched k on = ap (λ (rs : Intervals). is_in rs k) (in_leaves_changes b (changed e) leaves) ∙ on

  among_writes : (y : CellSeen) (w : Node Value) (i : ℕ) → Contains met y → y.id ≡ i → by_name met i ≡ Some w
      → IsWritten (demand_on c h.seen h.in_extents) (by_name met) i → Contains writes y
  among_writes y w i has id at written =
      (h.written y).1 (has, subst (IsWritten d (by_name met)) (sym id) written)

  -- ---- what an extent has is a byte

  module _ (k : ℕ) (on : is_in (changed (edits_on c h.seen)) k ≡ true) (off : is_body k ≡ false) (j : ℕ)
      (x : Node Value) (v : Value) (ux : u j ≡ Some x) (level : x.level ≡ 1 → ⊥) (has : Contains x.units (k, v)) where
    beside_leaves : IsSomeByte v
    beside_leaves =
        let (low, high) = unit_range u root it k v (j, x, ux, has) in
        let (i, w, tw, holds, reached) = held d (by_name met) (root_of_pair pair) h.part h.has k (inr (touched k on)) low high in
        let uw = same i w reached tw in
        let part = tree_is_part u root it in
        let one : j ≡ i = one_holder u root part k j i x w ux uw (unit_held x k v (part.nodes j x ux) has) holds in
        let xw : x ≡ w = one_cell u i x w (subst (λ (q : ℕ). u q ≡ Some x) one ux) uw in
        let (y, among, id, says) = found met i w tw in
        by_holder i w tw y among id says (xw ∙ says) (λ leaf. level (ap (λ (z : Node Value). z.level) xw ∙ leaf)) holds
      where
        by_holder : (i : ℕ) (w : Node Value) → by_name met i ≡ Some w → (y : CellSeen) → Contains met y → y.id ≡ i
            → w ≡ node_of y → x ≡ node_of y → (w.level ≡ 1 → ⊥) → Holds w k → IsSomeByte v
        by_holder i w tw y among id says is other (inl (low, within)) = elim (ℕ_discrete y.level 0) [
          | yes zero ↦ data_byte y zero k v (subst (λ (z : Node Value). Contains z.units (k, v)) is has)
          | no more ↦ absurd (no_leaf low more)
        ]
          where
            level_w : w.level ≡ y.level
            level_w = ap (λ (z : Node Value). z.level) says ∙ level_is y

            no_leaf : w.level ≤ 1 → (y.level ≡ 0 → ⊥) → ⊥
            no_leaf le more = elim (ℕ_discrete w.level 1) [
              | yes leaf ↦ other leaf
              | no less ↦ elim (ℕ_discrete w.level 0) [
                | yes zero ↦ more (sym level_w ∙ zero)
                | no some ↦ absurd (omega (arith, le, less, some))
              ]
            ]
        by_holder i w tw y among id says is other (inr (s, spans, within, rest)) =
            let two : w.level ≡ 2 = (h.part.nodes i w tw).spans_in_twigs s spans in
            let level_y : y.level ≡ 2 = sym (ap (λ (z : Node Value). z.level) says ∙ level_is y) ∙ two in
            let written : IsWritten d (by_name met) i = (w, tw, inl (k, touched k on, inr ((s, spans, within), off))) in
            twig_byte y (sound y (among_writes y w i among id tw written) level_y) level_y k v
            (subst (λ (z : Node Value). Contains z.units (k, v)) is has)

  tails : spread_keys (body_on c h.seen h.in_extents) ≡ None
  tails = none_spread b leaves

  spread : (o : Target) (a : Attr) → HasStat n o a → is_directory a ≡ false → 0 < a.size → HasExtents u o a.size
      → (y : ℕ) → y < 2 ^ 64 → is_in (changed (edits_on c h.seen)) (byte_rank o y) ≡ true → ⊥
  spread o a stat file some extents y lt on =
      not_changed pair c met reads writes rises h u root it same tails n saw lawful paths unused o a stat file some
      extents y lt on

  apart : (k : ℕ) → is_in (changed (edits_on c h.seen)) k ≡ true → InExtent u k → ⊥
  apart k on (j, x, v, ux, level, has) = by v refl (files.keys k v ((units k v).1 (j, x, ux, has)))
    where
      by : (w : Value) → v ≡ w → KeyFits raw (key_of_rank k) w → ⊥
      by (Byte y) is (four, (a, stat, file)) =
          let (at, small) = byte_key k four in
          let o = object_of (key_of_rank k) in
          let extent : InExtent u (byte_rank o (offset_of (key_of_rank k))) =
          subst (InExtent u) at (j, x, v, ux, level, has) in
          let extents : HasExtents u o a.size =
          extent_shows u raw o a files stat file (offset_of (key_of_rank k)) small extent in
          let low = (extents.offsets (offset_of (key_of_rank k)) small).0 extent in
          spread o a (stat_seen raw n visible o a stat) file (omega (arith, low)) extents (offset_of (key_of_rank k))
          small (ap (is_in (changed e)) (sym at) ∙ on)
      by (Stat a) is (one, zero) =
          let (y, byte) = beside_leaves k on (ap (λ (m : ℕ). m == 4) one) j x v ux level has in
          let bad : Stat a ≡ Byte y = sym is ∙ byte in
          absurd cc
      by (Entry m t) is zero =
          let (y, byte) = beside_leaves k on (ap (λ (m : ℕ). m == 4) zero) j x v ux level has in
          let bad : Entry m t ≡ Byte y = sym is ∙ byte in
          absurd cc

  -- ---- where the change leaves a key as it is

  module _ (k : ℕ) (on : is_in (changed (edits_on c h.seen)) k ≡ true)
      (off : put_keys (body_on c h.seen h.in_extents) (edits_on c h.seen) writes k ≡ false) where
    not_put : put_keys (body_on c h.seen h.in_extents) (edits_on c h.seen) writes k ≡ true → ⊥
    not_put put = let bad : true ≡ false = sym put ∙ off in absurd cc

    in_leaf_then : (i : ℕ) (w : Node Value) → by_name met i ≡ Some w → w.level ≡ 1 → InNode w k → ⊥
    in_leaf_then i w tw one within =
        let (y, among, id, says) = found met i w tw in
        let level_w = ap (λ (z : Node Value). z.level) says ∙ level_is y in
        let lo_w = ap (λ (z : Node Value). z.lo) says ∙ lo_is y in
        let hi_w = ap (λ (z : Node Value). z.hi) says ∙ hi_is y in
        let written : IsWritten d (by_name met) i = (w, tw, inl (k, touched k on, inl (omega (arith, one), within))) in
        not_put (leaf_key b e writes k y (among_writes y w i among id tw written) (sym level_w ∙ one)
        (omega (arith, within, lo_w)) (omega (arith, within, hi_w)) on)

    module _ (i : ℕ) (w : Node Value) (tw : by_name met i ≡ Some w) (s : Span) (spans : Contains w.spans s)
        (within : InSpan s k) where
      no_value : (o : Option Value) → find nat_cmp k (list_edited (edits_on c h.seen) []) ≡ o → o ≡ None
      no_value None is = refl
      no_value (Some v) is =
          let (y, among, id, says) = found met i w tw in
          let two : w.level ≡ 2 = (h.part.nodes i w tw).spans_in_twigs s spans in
          let level_y : y.level ≡ 2 = sym (ap (λ (z : Node Value). z.level) says ∙ level_is y) ∙ two in
          let turns = it_turns b e leaves w s spans k within v is (changes_on c h.seen h.in_extents) (touched k on) two in
          let written : IsWritten d (by_name met) i = (w, tw, inr (inl turns)) in
          let some : nat_lt 0 (put_among b e (node_of y)) ≡ true =
          ap (λ (z : Node Value). nat_lt 0 (put_among b e z)) (sym says)
          ∙ some_among b e leaves w s spans k within v is in
          let putting : is_putting b e y ≡ true = rw (eq-eqb y.level 2 level_y, some) refl in
          let value : Contains (values_among b e y) (k, v) =
          to_spans b e (node_of y).spans s (k, v) (subst (λ (z : Node Value). Contains z.spans s) says spans)
          (value_in b e leaves w s spans k within v is) in
          absurd (not_put (twig_key b e writes k y (among_writes y w i among id tw written) putting v value))

      none_there : (o : Option Value) → at_key raw k ≡ o → o ≡ None
      none_there None is = refl
      none_there (Some v) is =
          let (j, x, ux, has) = (units k v).0 is in
          elim (ℕ_discrete x.level 1) [
            | no other ↦ absurd (apart k on (j, x, v, ux, other, has))
            | yes one ↦
                let reached = by_key d (by_name met) i w k tw (inr (touched k on)) (inr (s, spans, within)) in
                absurd (it.leaf_or_extent j i x w s k ux (same i w reached tw) one spans
                ((it.nodes j x ux).unit_in k v has) within)
          ]

  nothing : (k : ℕ) → is_in (changed (edits_on c h.seen)) k ≡ true → least ≤ k → k < top
      → put_keys (body_on c h.seen h.in_extents) (edits_on c h.seen) writes k ≡ false
      → (find nat_cmp k (list_edited (edits_on c h.seen) []) ≡ None) × (at_key raw k ≡ None)
  nothing k on low high off =
      let (i, w, tw, covers) = h.has.piece k (inr (touched k on)) low high in
      by i w tw covers
    where
      by : (i : ℕ) (w : Node Value) → by_name met i ≡ Some w → Covers w k
          → (find nat_cmp k (list_edited (edits_on c h.seen) []) ≡ None) × (at_key raw k ≡ None)
      by i w tw (inl (one, within)) = absurd (in_leaf_then k on off i w tw one within)
      by i w tw (inr (s, spans, within)) = (
        no_value k on off i w tw s spans within (find nat_cmp k (list_edited e [])) refl,
        none_there k on off i w tw s spans within (at_key raw k) refl,
      )

  pub untouched : AreUntouched (body_on c h.seen h.in_extents) (edits_on c h.seen) writes u raw n
  untouched = record { apart = apart; spread = spread; nothing = nothing }
