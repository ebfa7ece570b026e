-- The turn of a twig of which blocks go takes what stood at their keys.
use Rattle.std.proofs.Common.{◌≡◌, ◌↔◌, ◌⊎◌, inl, inr, ℕ, ◌^◌, ◌<◌, ◌≤◌, true, false, List, [], ◌++◌, refl, sym, ap, subst, ◌∙◌, arith}
use Rattle.std.specs.Prelude.{Contains, Option, None, Some, ◌==◌}
use Rattle.std.proofs.lemmas.List.{append-nil}
use Rattle.std.proofs.lemmas.List.Elements.{Contains-append_cases, Contains-append_left, Contains-append_right}
use Rattle.std.proofs.lemmas.Option.{none-some}
use Rattle.r4_base.specs.Cell.{units_in}
use Rattle.r4_base.specs.Key.{rank}
use Rattle.r4_base.specs.Node.{items_of, mkfs_id_of}
use Rattle.r4_base.specs.Tree.{Holds, InName, IsData, IsNode, Name}
use Rattle.r4_base.specs.Value.{Value}
use Rattle.r4_base.specs.declared.key.Key.{Key}
use Rattle.r4_extent_build.specs.r4_branch.Pieces.{units_of}
use Rattle.r4_extent_build.specs.r4_branch.declared.piece.TwigPiece.{TwigPiece}
use Rattle.r4_extent_build.specs.r4_cell.Seen.{CellSeen, node_of}
use Rattle.r4_content.specs.Edited.{Edits}
use Rattle.r4_extent_build.specs.r4_edit.Extents.{given_cells}
use Rattle.r4_extent_build.proofs.r4_edit.NewLeaves.{leaf_node}
use Rattle.r4_extent_build.proofs.r4_twig_work.r4_extent_edit.ExtentEffect.{both_ways, is_off, is_on}
use Rattle.r4_extent_build.proofs.r4_twig_work.r4_extent_edit.PutEffect.{cut_members}
use Rattle.r4_extent_build.proofs.r4_twig_work.r4_extent_edit.WholeBlocks.{whole_blocks}
use Rattle.r4_extent_build.specs.r4_leaf.Units.{cut_units}
use Rattle.r4_extent_build.proofs.r4_leaf.Lying.{units_nil}
use Rattle.r4_extent_build.specs.r4_patch.Effect.{Placed}
use Rattle.r4_extent_build.proofs.r4_patch.Holding.{find_name}
use Rattle.r4_extent_build.proofs.r4_patch.Members.{cases, here, none}
use Rattle.r4_extent_build.specs.r4_path.Steps.{name_of}
use Rattle.r4_extent_build.proofs.r4_path.CellNodes.{units_are}
use Rattle.r4_extent_build.proofs.r4_path.Rising.{in_cell, in_node, level_is}
use Rattle.r4_extent_build.specs.r4_reach.Touched.{Body}
use Rattle.r4_extent_build.specs.r4_twig_work.Regrafting.{SetsBelow, StandsBelow}
use Rattle.r4_extent_build.proofs.r4_work.UnitMembers.{between}
use Rattle.r4_extent_loss.specs.Losing.{IsLeft, IsLosing, IsLossOf, Loss, gone_from, gone_to, in_gone, losing_turn, no_value, taken_block, taken_id}
use Rattle.r4_extent_loss.proofs.LosingTurns.{cells, come_is, each, end, fresh_leaf, qs, qs_are, come}
use Rattle.r4_extent_loss.proofs.LostPieces.{high, low}
use Rattle.r4_extent_loss.proofs.Taken.{is_taken}

module _ (b : Body) (x : Loss) (c : IsLossOf b x) where
  abbrev from : ℕ
  from = gone_from b x.twig

  abbrev to : ℕ
  to = gone_to b x.twig

  -- ---- the blocks that go

  block_name : (d : CellSeen) → Contains x.blocks d → Contains (node_of x.twig).names (name_of d) × ((d.level ≡ 0) × ((from ≤ rank d.lo) × (rank d.lo < to)))
  block_name d at = (c.goes (name_of d)).0 (d, at, refl)

  whole : (n : Name) → Contains (node_of x.twig).names n → IsData n → ((n.hi ≤ from) ⊎ (to ≤ n.lo)) ⊎ ((from ≤ n.lo) × (n.hi ≤ to))
  whole = whole_blocks x.twig c.pieces from to (low b x c) c.some (high b x c) c.first_border c.last_border

  block_in : (d : CellSeen) → Contains x.blocks d → (from ≤ rank d.lo) × (rank d.hi ≤ to)
  block_in d at =
      let h = block_name d at in
      let first = h.1.1.0 in
      let last = h.1.1.1 in
      let some = c.node.name_nonempty (name_of d) h.0 in
      elim (whole (name_of d) h.0 h.1.0) [
        | inl beside ↦ absurd (elim beside [ inl below ↦ omega (arith, below, some, first) | inr behind ↦ omega (arith, behind, last) ])
        | inr inside ↦ inside
      ]

  block_units : (d : CellSeen) (k : ℕ) (v : Value) → Contains x.blocks d → Contains (node_of d).units (k, v) → in_gone b x.twig k ≡ true
  block_units d k v at has =
      let range = in_cell d k ((c.nodes d at).unit_in k v has) in
      let r = block_in d at in
      is_on from to k (omega (arith, range, r)) (omega (arith, range, r))

  block_goes : (n : Name) (k : ℕ) → Contains (node_of x.twig).names n → IsData n → InName n k → from ≤ k → k < to → (d : CellSeen) × (Contains x.blocks d × (n ≡ name_of d))
  block_goes n k named block range first last = elim (whole n named block) [
    | inl beside ↦ absurd (elim beside [ inl below ↦ omega (arith, below, range, first) | inr behind ↦ omega (arith, behind, range, last) ])
    | inr inside ↦ let h = (c.goes n).1 (named, (block, (inside.0, omega (arith, range, last)))) in (h.0, (h.1, h.2))
  ]

  abbrev IsHeld : ℕ → Type 0
  IsHeld k = (d : CellSeen) × (Contains (x.blocks ++ given_cells x.leaf) d ⊎ (d ≡ x.twig)) × Holds (node_of d) k

  held : (k : ℕ) → in_gone b x.twig k ≡ true → IsHeld k
  held k on =
      let (first, last) = between from to k on in
      elim (find_name (node_of x.twig).names k) [
        | inl h ↦
            let (n, named, block, range) = h in
            let (d, (at, same)) = block_goes n k named block range first last in
            let l = level_is d in
            let zero_is = (block_name d at).1.0 in
            let a : n.lo ≡ rank d.lo = ap (λ (m : Name). m.lo) same in
            let z : n.hi ≡ rank d.hi = ap (λ (m : Name). m.hi) same in
            (d, inl (Contains-append_left x.blocks (given_cells x.leaf) d at), inl (omega (arith, l, zero_is), in_node d k (omega (arith, range, a), omega (arith, range, z))))
        | inr free ↦ (x.twig, inr refl, own k first last free)
      ]
    where
      own : (k : ℕ) → from ≤ k → k < to → ((n : Name) → Contains (node_of x.twig).names n → IsData n → InName n k → ⊥) → Holds (node_of x.twig) k
      own k first last free =
          let a = low b x c in
          let z = high b x c in
          let l = level_is x.twig in
          let two = c.level in
          elim (c.node.covered k (omega (arith, l, two)) (in_node x.twig k (omega (arith, a, first), omega (arith, z, last)))) [
            | inl h ↦
                let (n, named, up, range) = h in
                let one : n.level ≡ 1 = omega (arith, up, l, two) in
                absurd (elim (c.clear n named one) [ inl below ↦ omega (arith, below, range, first) | inr behind ↦ omega (arith, behind, range, last) ])
            | inr h ↦ let (s, spans, range) = h in inr (s, spans, range, free)
          ]

  -- ---- the leaf that takes up their range

  leaf_off : (o : Option CellSeen) → IsLeft b x.twig o → (d : CellSeen) (k : ℕ) (v : Value) → Contains (given_cells o) d → Contains (node_of d).units (k, v) → in_gone b x.twig k ≡ false
  leaf_off None left d k v at has = absurd (none d at)
  leaf_off (Some l) left d k v at has = elim (cases l d [] at) [
    | inl is ↦
        let named = left.named in
        let a = c.node.from_least in
        let z = c.node.to_top in
        let f = c.node.name_from (name_of l) named in
        let t = c.node.name_to (name_of l) named in
        let some = c.node.name_nonempty (name_of l) named in
        let node : IsNode (node_of l) = leaf_node l left.level (omega (arith, a, f)) some (omega (arith, z, t)) left.sound in
        let range = in_cell l k (node.unit_in k v (subst (λ (y : CellSeen). Contains (node_of y).units (k, v)) is has)) in
        let ends = left.ends in
        is_off from to k (λ first last. omega (arith, first, range, ends))
    | inr nil ↦ absurd (none d nil)
  ]

  -- its units are those of the leaf that goes on, if one does
  taker_units : (n : ℕ) (d : CellSeen) → Contains (cells b x c n) d → (node_of d).units ≡ units_in (items_of (taken_block x))
  taker_units n d at = let t = each b x c n d at in units_are d 0 t.level ∙ ap (λ bytes. units_in (items_of bytes)) t.bytes

  abbrev HasUnit : List CellSeen → ℕ → Placed Value → Type 0
  HasUnit ds k u = (d : CellSeen) × Contains ds d × Contains (node_of d).units (k, u.0) × ((d.level == 1) ≡ u.1)

  come_units : (n k : ℕ) (u : Placed Value) → HasUnit (cells b x c n) k u ↔ HasUnit (given_cells x.leaf) k u
  come_units n k u = by_leaf x.leaf refl c.left
    where
      by_leaf : (o : Option CellSeen) → x.leaf ≡ o → IsLeft b x.twig o → HasUnit (cells b x c n) k u ↔ HasUnit (given_cells x.leaf) k u
      by_leaf None is left =
          let nothing : units_in (items_of (taken_block x)) ≡ [] =
          ap (λ (o : Option CellSeen). units_in (items_of (taken_block (record x { leaf = o })))) is ∙ (ap units_in (fresh_leaf (mkfs_id_of x.twig.block) c.mkfs_id).items_are ∙ units_nil) in (
            λ (d, at, has, kind). absurd (none (k, u.0) (subst (λ us. Contains us (k, u.0)) (taker_units n d at ∙ nothing) has)),
            λ (d, at, has, kind). absurd (none d (subst (λ (o : Option CellSeen). Contains (given_cells o) d) is at)),
          )
      by_leaf (Some l) is left =
          let same : units_in (items_of (taken_block x)) ≡ (node_of l).units =
          ap (λ (o : Option CellSeen). units_in (items_of (taken_block (record x { leaf = o })))) is ∙ sym (units_are l 0 left.level) in (
            λ (d, at, has, kind).
                let t = each b x c n d at in (
                  l,
                  subst (λ (o : Option CellSeen). Contains (given_cells o) l) (sym is) (here l []),
                  subst (λ us. Contains us (k, u.0)) (taker_units n d at ∙ same) has,
                  ap (λ (j : ℕ). j == 1) (left.level ∙ sym t.level) ∙ kind,
                ),
            λ (d, at, has, kind).
                let (y, in_cells) = (is_taken b x c).goes_on l is n (end b x c) (taken_block x) in
                let this : d ≡ l = elim (cases l d [] (subst (λ (o : Option CellSeen). Contains (given_cells o) d) is at)) [ inl it ↦ it | inr nil ↦ absurd (none d nil) ] in (
                  y,
                  in_cells,
                  subst (λ us. Contains us (k, u.0)) (sym (taker_units n y in_cells ∙ same)) (subst (λ (z : CellSeen). Contains (node_of z).units (k, u.0)) this has),
                  ap (λ (j : ℕ). j == 1) ((each b x c n y in_cells).level ∙ sym (ap (λ (z : CellSeen). z.level) this ∙ left.level)) ∙ kind,
                ),
          )

  module _ (first : Key) (e : Edits) (g : IsLosing b first e) (n : ℕ) (unplaced : 2 ^ 63 ≤ n) where
    abbrev all : List TwigPiece
    all = qs b x c first e g n

    abbrev new : List CellSeen
    new = come b x c first e g n

    units_left : units_of all ≡ cut_units from to (node_of x.twig).units
    units_left = ap units_of (qs_are b x c first e g n) ∙ (is_taken b x c).units (taken_id x n)

    comes : (k : ℕ) (u : Placed Value) → StandsBelow (new ++ []) (units_of all) k u
        → HasUnit (given_cells x.leaf) k u ⊎ (Contains (cut_units from to (node_of x.twig).units) (k, u.0) × (u.1 ≡ false))
    comes k u h = elim h [
      | inl low_in ↦
          let (d, at, has, kind) = low_in in
          inl ((come_units (taken_id x n) k u).0 (d, subst (λ ds. Contains ds d) (append-nil new ∙ come_is b x c first e g n) at, has, kind))
      | inr mine ↦ inr (subst (λ us. Contains us (k, u.0)) units_left mine.0, mine.1)
    ]

    comes_to : (k : ℕ) (u : Placed Value) → HasUnit (given_cells x.leaf) k u ⊎ (Contains (cut_units from to (node_of x.twig).units) (k, u.0) × (u.1 ≡ false))
        → StandsBelow (new ++ []) (units_of all) k u
    comes_to k u h = elim h [
      | inl low_in ↦
          let (d, at, has, kind) = (come_units (taken_id x n) k u).1 low_in in
          inl (d, subst (λ ds. Contains ds d) (sym (append-nil new ∙ come_is b x c first e g n)) at, has, kind)
      | inr mine ↦ inr (subst (λ us. Contains us (k, u.0)) (sym units_left) mine.0, mine.1)
    ]

    pub sets_below : SetsBelow x.twig ((losing_turn b e x).pieces n) ((losing_turn b e x).beside n) (in_gone b x.twig) no_value
    sets_below = record {
      held = held;
      there = λ k u on. (
        λ h. absurd (elim (comes k u h) [
          | inl low_in ↦ let (d, at, has, kind) = low_in in both_ways (in_gone b x.twig k) on (leaf_off x.leaf c.left d k u.0 at has)
          | inr mine ↦ both_ways (in_gone b x.twig k) on ((cut_members from to (node_of x.twig).units k u.0).0 mine.0).1
        ]),
        λ is. absurd (none-some u is),
      );
      others = λ k u off. (
        λ h. elim (comes k u h) [
          | inl low_in ↦ let (d, at, has, kind) = low_in in inl (d, Contains-append_right x.blocks (given_cells x.leaf) d at, has, kind)
          | inr mine ↦ inr (((cut_members from to (node_of x.twig).units k u.0).0 mine.0).0, mine.1)
        ],
        λ h. comes_to k u (elim h [
          | inl low_in ↦ let (d, at, has, kind) = low_in in elim (Contains-append_cases x.blocks (given_cells x.leaf) d at) [
            | inl block ↦ absurd (both_ways (in_gone b x.twig k) (block_units d k u.0 block has) off)
            | inr leaf ↦ inl (d, leaf, has, kind)
          ]
          | inr mine ↦ inr ((cut_members from to (node_of x.twig).units k u.0).1 (mine.0, off), mine.1)
        ]),
      );
    }
