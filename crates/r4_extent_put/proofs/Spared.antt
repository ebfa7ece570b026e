-- A twig of which no key of a block and of a hole changes is free for the values that come.
use Rattle.std.proofs.Common.{◌≡◌, inl, inr, ℕ, ◌+◌, ◌*◌, ◌^◌, ◌<◌, ◌≤◌, Bool, true, false, List, [], ◌∷◌, sym, ap, subst, ◌∙◌, arith}
use Rattle.std.specs.Prelude.{◌||◌, Contains, None, Option, Some, cond, if◌then◌else◌, nat_lt, not}
use Rattle.std.specs.FinMap.{find}
use Rattle.std.specs.List.{list_all}
use Rattle.std.specs.Option.{is_some}
use Rattle.std.specs.Ordering.{nat_cmp}
use Rattle.std.proofs.lemmas.Bool.{or_parts}
use Rattle.std.proofs.lemmas.List.Elements.{Contains-append_cases, Contains-append_left}
use Rattle.r4_base.specs.Cell.{zeros_from}
use Rattle.r4_base.specs.Extents.{is_hole}
use Rattle.r4_base.specs.Key.{offset_of, rank}
use Rattle.r4_base.specs.Tree.{InName, IsData, Name}
use Rattle.r4_base.specs.Value.{Byte, Value}
use Rattle.r4_base.specs.declared.key.Key.{Key}
use Rattle.r4_content.proofs.EditLaws.{in_changed, put_off}
use Rattle.r4_content.specs.Edited.{Edits, changed, is_between, is_in, put_keys}
use Rattle.r4_content.specs.Listed.{list_edited}
use Rattle.r4_extent_among.proofs.Values.{from_spans}
use Rattle.r4_extent_among.specs.Among.{IsFree, values_among}
use Rattle.r4_extent_turned.proofs.r4_extent_growth.Turns.{each}
use Rattle.r4_extent_turned.proofs.r4_extent_growth.r4_extent_change.r4_build.r4_leaf_edits.Lookups.{contains_in, found, in_is_found}
use Rattle.r4_extent_turned.proofs.r4_extent_growth.r4_extent_change.r4_extent_build.UnitsOfRuns.{zeros_members}
use Rattle.r4_extent_turned.proofs.r4_extent_growth.r4_extent_change.r4_extent_build.r4_extent_edit.WholeBlocks.{data_within}
use Rattle.r4_extent_turned.proofs.r4_extent_growth.r4_extent_change.r4_extent_build.r4_extent_demands.Meets.{keys_meet}
use Rattle.r4_extent_turned.proofs.r4_extent_growth.r4_extent_change.r4_extent_build.r4_extent_demands.r4_leaf_demands.Alike.{in_leaves_edits}
use Rattle.r4_extent_turned.proofs.r4_extent_growth.r4_measure.r4_patch.Members.{cases, here, later, none}
use Rattle.r4_extent_turned.proofs.r4_extent_growth.r4_measure.r4_work.UnitMembers.{filtered}
use Rattle.r4_extent_turned.specs.r4_extent_growth.r4_extent_demands.r4_leaf_demands.Leaves.{IsInLeaves}
use Rattle.r4_extent_turned.specs.r4_extent_growth.r4_measure.r4_branch.Pieces.{Follow, IsSound, names_of, next_of, part_names, part_units, piece_end, units_of}
use Rattle.r4_extent_turned.specs.r4_extent_growth.r4_measure.r4_branch.declared.piece.TwigPart.{TwigPart}
use Rattle.r4_extent_turned.specs.r4_extent_growth.r4_measure.r4_branch.declared.piece.TwigPart.TheVariants.{Blocks, Pointer}
use Rattle.r4_extent_turned.specs.r4_extent_growth.r4_measure.r4_branch.declared.piece.TwigPiece.{TwigPiece}
use Rattle.r4_extent_turned.specs.r4_extent_growth.r4_measure.r4_cell.Seen.{CellSeen, node_of}
use Rattle.r4_extent_turned.specs.r4_extent_growth.r4_measure.r4_leaf.Units.{LeafUnit}
use Rattle.r4_extent_turned.specs.r4_extent_growth.r4_measure.r4_path.TwigPieces.{ArePiecesOf, twig_pieces}
use Rattle.r4_extent_turned.specs.r4_extent_growth.r4_measure.r4_reach.Needs.{is_met, leaf_edits}
use Rattle.r4_extent_turned.specs.r4_extent_growth.r4_measure.r4_reach.Touched.{Body}
use Rattle.r4_extent_put.specs.Taking.{is_spared, is_spared_to}

-- ---- the key of a value that is put changes

module _ (e : Edits) (k : ℕ) where
  nothing : (z c : Bool) → z ≡ false → c ≡ false → cond z (Some (Byte 0)) (cond c None None) ≡ None
  nothing true c h g = absurd cc
  nothing false true h g = absurd cc
  nothing false false h g = cc

  pub key_changes : (v : Value) → Contains (list_edited e []) (k, v) → is_in (changed e) k ≡ true
  key_changes v at = by_test (is_in (changed e) k) cc
    where
      there : is_some (find nat_cmp k (list_edited e [])) ≡ true
      there = sym (in_is_found (list_edited e []) k) ∙ contains_in (list_edited e []) k v at

      by_test : (t : Bool) → is_in (changed e) k ≡ t → is_in (changed e) k ≡ true
      by_test true h = h
      by_test false h =
          let (puts, more) = or_parts (is_in (put_keys e.puts) k) (is_in e.zeros k || is_in e.cuts k) (sym (in_changed e k) ∙ h) in
          let (zeros, cuts) = or_parts (is_in e.zeros k) (is_in e.cuts k) more in
          let old : Option Value = cond (is_in e.zeros k) (Some (Byte 0)) (cond (is_in e.cuts k) None None) in
          let is : find nat_cmp k (list_edited e []) ≡ None = found e [] k tt ∙ (put_off e.puts k old puts ∙ nothing (is_in e.zeros k) (is_in e.cuts k) zeros cuts) in
          let bad : true ≡ false = sym there ∙ ap is_some is in
          absurd cc

pub value_changes : (b : Option Body) (e : Edits) (c : CellSeen) → IsInLeaves b → (u : LeafUnit) → Contains (values_among b e c) u → is_in (changed e) u.0 ≡ true
value_changes b e c leaves u at =
    let (s, among, mine) = from_spans b e (node_of c).spans u at in
    let (there, inside) = filtered (λ (w : LeafUnit). is_between s.lo s.hi w.0) (list_edited (leaf_edits b e) []) u mine in
    key_changes e u.0 u.1 (subst (λ (x : Edits). Contains (list_edited x []) u) (in_leaves_edits b e leaves) there)

-- ---- the names and the units of pieces

-- the key lies in the blocks or in the hole of the piece
abbrev HasPiece : ℕ → TwigPiece → Type 0
HasPiece k p = by_part p.part
  where
    by_part : TwigPart → Type 0
    by_part (Pointer to) = ⊥
    by_part (Blocks u) = (rank p.key ≤ k) × (k < rank p.key + 4096 * u.width)

block_in : (key : Key) (next k : ℕ) (t : TwigPart) (n : Name) → IsSound (record { key = key; part = t }) → Contains (part_names (rank key) next t) n → IsData n → InName n k → HasPiece k (record { key = key; part = t })
unfolding names_of
block_in key next k (Pointer to) n sound at data_is inside = elim (cases _ n [] at) [
  | inl is ↦ let l = ap (λ (x : Name). x.level) is in omega (arith, l, data_is)
  | inr nil ↦ none n nil
]
block_in key next k (Blocks u) n sound at data_is inside =
    let p : TwigPiece = record { key = key; part = Blocks u } in
    let h = data_within (rank key) (rank key + 4096 * u.width) next (p ∷ []) n (omega arith, sound, omega arith) data_is (Contains-append_left (part_names (rank key) next (Blocks u)) [] n at) in
    (omega (arith, h, inside), omega (arith, h, inside))

hole_in : (key : Key) (k : ℕ) (t : TwigPart) (v : Value) → Contains (part_units (rank key) t) (k, v) → HasPiece k (record { key = key; part = t })
hole_in key k (Pointer to) v at = none (k, v) at
hole_in key k (Blocks u) v at = by_hole (is_hole u) at
  where
    by_hole : (t : Bool) → Contains (if t then zeros_from (rank key) (4096 * u.width) else []) (k, v) → (rank key ≤ k) × (k < rank key + 4096 * u.width)
    by_hole true mine = let h = ((zeros_members (rank key) (4096 * u.width) k v).0 mine).0 in (omega (arith, h), omega (arith, h))
    by_hole false nil = absurd (none (k, v) nil)

-- a piece has the key of a block that is named, and of a unit
of_block : (from to hi k : ℕ) (ps : List TwigPiece) (n : Name) → Follow from to ps → Contains (names_of hi ps) n → IsData n → InName n k → (p : TwigPiece) × Contains ps p × HasPiece k p
unfolding names_of
of_block from to hi k [] n f at data_is inside = absurd (none n at)
of_block from to hi k (p ∷ ps) n f at data_is inside = elim (Contains-append_cases (part_names (rank p.key) (next_of hi ps) p.part) (names_of hi ps) n at) [
  | inl mine ↦ (p, here p ps, block_in p.key (next_of hi ps) k p.part n f.1 mine data_is inside)
  | inr more ↦ let (q, m, has) = of_block (piece_end p) to hi k ps n f.2 more data_is inside in (q, later p q ps m, has)
]

of_hole : (k : ℕ) (ps : List TwigPiece) (v : Value) → Contains (units_of ps) (k, v) → (p : TwigPiece) × Contains ps p × HasPiece k p
unfolding units_of
of_hole k [] v at = absurd (none (k, v) at)
of_hole k (p ∷ ps) v at = elim (Contains-append_cases (part_units (rank p.key) p.part) (units_of ps) (k, v) at) [
  | inl mine ↦ (p, here p ps, hole_in p.key k p.part v mine)
  | inr more ↦ let (q, m, has) = of_hole k ps v more in (q, later p q ps m, has)
]

-- ---- a piece that is spared has no key that changes

spared_part : (e : Edits) (key : Key) (k : ℕ) (t : TwigPart) → is_spared e (record { key = key; part = t }) ≡ true → is_in (changed e) k ≡ true → HasPiece k (record { key = key; part = t }) → ⊥
spared_part e key k (Pointer to) spared on has = has
spared_part e key k (Blocks u) spared on (low, high) = by_test (nat_lt (offset_of key + 4096 * u.width) (2 ^ 64)) spared
  where
    met : is_met (changed e) (rank key) (rank key + 4096 * u.width) ≡ true
    met = keys_meet (changed e) (rank key) (rank key + 4096 * u.width) (k, on, low, high)

    off : (t : Bool) → not t ≡ true → t ≡ true → ⊥
    off true h g = absurd cc
    off false h g = absurd cc

    by_test : (v : Bool) → is_spared_to e (rank key) (if v then Some (rank key + 4096 * u.width) else None) ≡ true → ⊥
    by_test true h = off (is_met (changed e) (rank key) (rank key + 4096 * u.width)) h met
    by_test false h = absurd cc

pub free_for : (e : Edits) (c : CellSeen) → ArePiecesOf c (twig_pieces c) → list_all (is_spared e) (twig_pieces c) ≡ true → (k : ℕ) → is_in (changed e) k ≡ true → IsFree c k
free_for e c are all k on = record {
  blocks = λ n at data_is inside.
      let (p, m, has) = of_block (rank c.lo) (rank c.hi) (rank c.hi) k (twig_pieces c) n are.pieces.follow (subst (λ (ns : List Name). Contains ns n) (sym are.names) at) data_is inside in
      spared_part e p.key k p.part (each (is_spared e) (twig_pieces c) all p m) on has;
  holes = λ v at.
      let (p, m, has) = of_hole k (twig_pieces c) v (subst (λ (us : List LeafUnit). Contains us (k, v)) (sym are.units) at) in
      spared_part e p.key k p.part (each (is_spared e) (twig_pieces c) all p m) on has;
}
