-- Leaves that go, and those that come in the place of some of them.
use Rattle.std.proofs.Common.{◌≡◌, ◌≢◌, ◌⊎◌, inl, inr, ℕ, ◌^◌, ◌<◌, ◌≤◌, List, [], ◌∷◌, refl, sym, ap, subst}
use Rattle.std.proofs.Common.{◌∙◌, arith}
use Rattle.std.specs.Prelude.{if◌then◌else◌, nat_le, true, false, Bool, Contains}
use Rattle.std.proofs.lemmas.Bool.Decides.{nat_tests}
use Rattle.std.proofs.lemmas.Option.{same_Some}
use Rattle.r4_base.specs.Cell.{cell_of, units_in}
use Rattle.r4_base.specs.Key.{rank}
use Rattle.r4_base.specs.Node.{items_of}
use Rattle.r4_base.specs.Tree.{IsNode, Node, Store}
use Rattle.r4_base.specs.Value.{Value}
use Rattle.r4_work.specs.r4_branch.Pieces.{Follow, piece_end}
use Rattle.r4_work.specs.r4_branch.declared.piece.TwigPiece.{TwigPiece}
use Rattle.r4_work.proofs.r4_cell.Nodes.{cell_node}
use Rattle.r4_work.specs.r4_cell.Seen.{CellSeen, node_of}
use Rattle.r4_work.proofs.r4_graft.Placed.{has_end}
use Rattle.r4_work.specs.r4_leaf.Units.{LeafUnit}
use Rattle.r4_work.proofs.r4_patch.Members.{Distinct, cases, here, later, none}
use Rattle.r4_work.proofs.r4_path.Rising.{hi_is, lo_is}
use Rattle.r4_rows.specs.Rows.{AreThere}
use Rattle.r4_work.specs.r4_edit.LeafParts.{units_from}
use Rattle.r4_row_gather.proofs.Going.{going_low}
use Rattle.r4_row_gather.specs.Clearing.{Begins, Fate, Goes, MayHave, Stays, coming, going}

-- ---- units

-- a leaf without items has none
no_units : (level lo hi : ℕ) (b : List ℕ) → level ≡ 1 → items_of b ≡ [] → (cell_of level lo hi b).units ≡ []
unfolding cell_of units_in
no_units level lo hi b leaf empty = rw leaf (rw empty refl)

-- those from a key on are among them
in_from : (k : ℕ) (us : List LeafUnit) (w : LeafUnit) → Contains (units_from k us) w → Contains us w
in_from k [] w at = at
in_from k (u ∷ us) w at = by_test (nat_le k u.0) (in_from k us w) at
  where
    by_test : (b : Bool) → (Contains (units_from k us) w → Contains us w)
        → Contains (if b then u ∷ units_from k us else units_from k us) w → Contains (u ∷ us) w
    by_test true rest m = elim (cases u w (units_from k us) m) [
      | inl is ↦ subst (Contains (u ∷ us)) (sym is) (here u us)
      | inr more ↦ later u w us (rest more)
    ]
    by_test false rest m = later u w us (rest m)

from_in : (k : ℕ) (us : List LeafUnit) (w : LeafUnit) → Contains us w → k ≤ w.0 → Contains (units_from k us) w
from_in k [] w at le = at
from_in k (u ∷ us) w at le = by_test (nat_le k u.0) refl (λ m. from_in k us w m le) (cases u w us at)
  where
    by_test : (b : Bool) → nat_le k u.0 ≡ b → (Contains us w → Contains (units_from k us) w)
        → (w ≡ u) ⊎ Contains us w → Contains (if b then u ∷ units_from k us else units_from k us) w
    by_test true e rest (inl is) = subst (Contains (u ∷ units_from k us)) (sym is) (here u (units_from k us))
    by_test true e rest (inr more) = later u w (units_from k us) (rest more)
    by_test false e rest (inl is) = absurd (let same = ap (λ (x : LeafUnit). x.0) is in grind (arith, nat_tests, e, le, same))
    by_test false e rest (inr more) = rest more

module _ (hi : ℕ) where
  -- a unit of a leaf that goes is one of a leaf that comes
  pub gone_unit : (ps : List TwigPiece) (fs : List Fate) → MayHave hi ps fs
      → ((c : CellSeen) → Contains (going fs) c → IsNode (node_of c)) → (c : CellSeen) → Contains (going fs) c
      → (w : ℕ × Value) → Contains (node_of c).units w
      → (d : CellSeen) × Contains (coming fs) d × Contains (node_of d).units w
  gone_unit [] [] may nodes c at w unit = absurd (none c at)
  gone_unit [] (x ∷ fs) may nodes c at w unit = absurd may
  gone_unit (p ∷ ps) [] may nodes c at w unit = absurd may
  gone_unit (p ∷ ps) (Stays ∷ fs) may nodes c at w unit = gone_unit ps fs may.1 nodes c at w unit
  gone_unit (p ∷ ps) (Goes e ∷ fs) may nodes c at w unit = elim (cases e c (going fs) at) [
    | inl is ↦ absurd (none w (subst (λ us. Contains us w)
        (no_units e.level (rank e.lo) (rank e.hi) e.block may.0.level may.1)
        (subst (λ (x : CellSeen). Contains (node_of x).units w) is unit)))
    | inr more ↦ gone_unit ps fs may.2 (λ x m. nodes x (later e x (going fs) m)) c more w unit
  ]
  gone_unit (p ∷ ps) (Begins e d ∷ fs) may nodes c at w unit = elim (cases e c (going fs) at) [
    | inl is ↦
        let mine = subst (λ (x : CellSeen). Contains (node_of x).units w) is unit in
        let low = ((nodes e (here e (going fs))).unit_in w.0 w.1 mine).0 in
        let lo = lo_is e in (
          d,
          here d (coming fs),
          subst (λ us. Contains us w) (sym may.1.part.units) (from_in (rank e.lo) (node_of e).units w mine (omega (arith, low, lo))),
        )
    | inr more ↦
        let (x, m, there) = gone_unit ps fs may.3 (λ x m. nodes x (later e x (going fs) m)) c more w unit in
        (x, later d x (coming fs) m, there)
  ]

  pub came_unit : (ps : List TwigPiece) (fs : List Fate) → MayHave hi ps fs → (d : CellSeen) → Contains (coming fs) d
      → (w : ℕ × Value) → Contains (node_of d).units w
      → (c : CellSeen) × Contains (going fs) c × Contains (node_of c).units w
  came_unit [] [] may d at w unit = absurd (none d at)
  came_unit [] (x ∷ fs) may d at w unit = absurd may
  came_unit (p ∷ ps) [] may d at w unit = absurd may
  came_unit (p ∷ ps) (Stays ∷ fs) may d at w unit = came_unit ps fs may.1 d at w unit
  came_unit (p ∷ ps) (Goes e ∷ fs) may d at w unit =
      let (c, m, there) = came_unit ps fs may.2 d at w unit in (c, later e c (going fs) m, there)
  came_unit (p ∷ ps) (Begins c e ∷ fs) may d at w unit = elim (cases e d (coming fs) at) [
    | inl is ↦ (
      c,
      here c (going fs),
      in_from (rank c.lo) (node_of c).units w (subst (λ us. Contains us w) may.1.part.units
          (subst (λ (x : CellSeen). Contains (node_of x).units w) is unit)),
    )
    | inr more ↦ let (x, m, there) = came_unit ps fs may.3 d more w unit in (x, later c x (going fs) m, there)
  ]

  -- ---- what comes

  -- a leaf that comes has the number of one that goes
  pub came_id : (ps : List TwigPiece) (fs : List Fate) → MayHave hi ps fs → (d : CellSeen) → Contains (coming fs) d
      → (d.level ≡ 1) × ((c : CellSeen) × Contains (going fs) c × (d.id ≡ c.id))
  came_id [] [] may d at = absurd (none d at)
  came_id [] (x ∷ fs) may d at = absurd may
  came_id (p ∷ ps) [] may d at = absurd may
  came_id (p ∷ ps) (Stays ∷ fs) may d at = came_id ps fs may.1 d at
  came_id (p ∷ ps) (Goes e ∷ fs) may d at =
      let (leaf, (c, m, same)) = came_id ps fs may.2 d at in (leaf, (c, later e c (going fs) m, same))
  came_id (p ∷ ps) (Begins c e ∷ fs) may d at = elim (cases e d (coming fs) at) [
    | inl is ↦ (
      ap (λ (x : CellSeen). x.level) is ∙ may.1.part.level_is,
      (c, here c (going fs), ap (λ (x : CellSeen). x.id) is ∙ may.1.part.number),
    )
    | inr more ↦
        let (leaf, (x, m, same)) = came_id ps fs may.3 d more in (leaf, (x, later c x (going fs) m, same))
  ]

  -- it is a node, as the one that goes for it is
  pub came_nodes : (ps : List TwigPiece) (fs : List Fate) → MayHave hi ps fs
      → ((c : CellSeen) → Contains (going fs) c → IsNode (node_of c)) → (d : CellSeen) → Contains (coming fs) d
      → IsNode (node_of d)
  came_nodes [] [] may nodes d at = absurd (none d at)
  came_nodes [] (x ∷ fs) may nodes d at = absurd may
  came_nodes (p ∷ ps) [] may nodes d at = absurd may
  came_nodes (p ∷ ps) (Stays ∷ fs) may nodes d at = came_nodes ps fs may.1 nodes d at
  came_nodes (p ∷ ps) (Goes e ∷ fs) may nodes d at =
      came_nodes ps fs may.2 (λ x m. nodes x (later e x (going fs) m)) d at
  came_nodes (p ∷ ps) (Begins c e ∷ fs) may nodes d at = elim (cases e d (coming fs) at) [
    | inl is ↦
        let was = nodes c (here c (going fs)) in
        let least_low = was.from_least in
        let top_high = was.to_top in
        let lo = lo_is c in
        let high = hi_is c in
        let behind = may.1.behind in
        let within = may.1.within in
        let to = ap rank may.1.part.to in
        let level = may.1.part.level_is in
        subst (λ (x : CellSeen). IsNode (node_of x)) (sym is)
        (cell_node true (2 ^ 64) e.level (rank e.lo) (rank e.hi) e.block may.1.part.sound.whole (omega (arith, level))
        (omega (arith, least_low, lo, behind)) (omega (arith, within, to)) (omega (arith, top_high, high, to))
        may.1.part.sound.accepted)
    | inr more ↦ came_nodes ps fs may.3 (λ x m. nodes x (later c x (going fs) m)) d more
  ]

  -- ---- each has a number of its own

  -- a leaf of a tree is not one that begins behind it
  apart : (t : Store Value) (p : TwigPiece) (ps : List TwigPiece) (fs : List Fate) (d c : CellSeen) → Follow (piece_end p) hi ps
      → rank p.key < piece_end p → MayHave hi ps fs → rank d.lo ≡ rank p.key → AreThere t (d ∷ going fs)
      → Contains (going fs) c → d.id ≢ c.id
  apart t p ps fs d c f end may begin there at same =
      let (low, leaf) = going_low (piece_end p) hi ps fs f may c at in
      let one = there d (here d (going fs)) in
      let two = there c (later d c (going fs) at) in
      let nodes = same_Some (node_of d) (node_of c) (sym one ∙ (ap t same ∙ two)) in
      let los = sym (lo_is d) ∙ (ap (λ (x : Node Value). x.lo) nodes ∙ lo_is c) in
      omega (arith, low, los, begin, end)

  pub going_distinct : (t : Store Value) (lo : ℕ) (ps : List TwigPiece) (fs : List Fate) → Follow lo hi ps
      → MayHave hi ps fs → AreThere t (going fs) → Distinct (going fs)
  going_distinct t lo [] [] f may there = tt
  going_distinct t lo [] (x ∷ fs) f may there = absurd may
  going_distinct t lo (p ∷ ps) [] f may there = absurd may
  going_distinct t lo (p ∷ ps) (Stays ∷ fs) f may there = going_distinct t (piece_end p) ps fs f.2 may.1 there
  going_distinct t lo (p ∷ ps) (Goes d ∷ fs) f may there = (
    (λ c at. apart t p ps fs d c f.2 (has_end p f.1) may.2 may.0.begins there at),
    going_distinct t (piece_end p) ps fs f.2 may.2 (λ c at. there c (later d c (going fs) at)),
  )
  going_distinct t lo (p ∷ ps) (Begins d e ∷ fs) f may there = (
    (λ c at. apart t p ps fs d c f.2 (has_end p f.1) may.3 may.0.begins there at),
    going_distinct t (piece_end p) ps fs f.2 may.3 (λ c at. there c (later d c (going fs) at)),
  )

  pub coming_distinct : (ps : List TwigPiece) (fs : List Fate) → MayHave hi ps fs → Distinct (going fs)
      → Distinct (coming fs)
  coming_distinct [] [] may once = tt
  coming_distinct [] (x ∷ fs) may once = absurd may
  coming_distinct (p ∷ ps) [] may once = absurd may
  coming_distinct (p ∷ ps) (Stays ∷ fs) may once = coming_distinct ps fs may.1 once
  coming_distinct (p ∷ ps) (Goes c ∷ fs) may once = coming_distinct ps fs may.2 once.1
  coming_distinct (p ∷ ps) (Begins c d ∷ fs) may once = (
    (λ e at same.
        let (leaf, (x, m, its)) = came_id ps fs may.3 e at in
        once.0 x m (sym may.1.part.number ∙ (same ∙ its))),
    coming_distinct ps fs may.3 once.1,
  )
