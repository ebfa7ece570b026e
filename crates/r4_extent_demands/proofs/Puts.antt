-- Values that are put into a range, measured as a leaf of their own.
use Rattle.std.specs.Prelude.{◌≡◌, ℕ, suc, ◌+◌, ◌-◌, ◌/◌, ◌^◌, ◌<◌, ◌≤◌, List, [], ◌∷◌, ◌++◌, drop}
use Rattle.std.specs.Prelude.{true, None, Option, Some, min, nat_lt, slice_get, if◌then◌else◌, Bool, false}
use Rattle.std.proofs.Common.{arith, refl, sym, ap, subst, ◌∙◌}
use Rattle.std.specs.Option.{option_map}
use Rattle.std.proofs.lemmas.List.Elements.{All-nil}
use Rattle.std.proofs.lemmas.List.Sums.{sum_by-cons}
use Rattle.r4_base.specs.Cell.{next_key, spans_in, units_in}
use Rattle.r4_base.specs.Key.{rank}
use Rattle.r4_base.specs.Node.{Item, items_of}
use Rattle.r4_base.specs.Tree.{Span}
use Rattle.r4_base.specs.Value.{Byte, Entry, Stat}
use Rattle.r4_bodies.specs.r4_cell.Seen.{CellSeen, node_of}
use Rattle.r4_content.specs.Edited.{Edits, is_between}
use Rattle.r4_content.specs.Held.{interval_of}
use Rattle.r4_content.specs.declared.edits.Interval.{Interval}
use Rattle.r4_bodies.specs.r4_leaf.Remade.{AreWithin, CanPutAll, cut_all, put_all, units_after as units_left}
use Rattle.r4_bodies.specs.r4_leaf.Units.{LeafUnit, bytes_behind, leaf_bytes, unit_bytes}
use Rattle.r4_bodies.specs.r4_leaf.declared.remaking.Given.{Given}
use Rattle.r4_bodies.specs.r4_leaf.declared.remaking.KeyRange.{KeyRange}
use Rattle.r4_bodies.specs.r4_leaf_demands.Touching.{item_spans, spans_at}
use Rattle.r4_bodies.specs.r4_leaf_edits.Made.{AreOfLeaf, MakesEdits, bytes_end, spread_keys}
use Rattle.r4_bodies.specs.r4_leaf_edits.Suiting.{SuitLeaves}
use Rattle.r4_bodies.proofs.Premises.{suits_later}
use Rattle.r4_graft.proofs.r4_node40.Following.{item_first}
use Rattle.r4_bodies.proofs.r4_leaf_edits.r4_path.CellNodes.{spans_are}
use Rattle.r4_bodies.specs.r4_leaf_edits.r4_reach.Needs.{leaf_edits, leaves_for, over}
use Rattle.r4_bodies.specs.r4_leaf_edits.r4_reach.Touched.{Body, first_byte, is_spread}
use Rattle.r4_extent_demands.specs.Putting.{leaves_in, put_into}
use Rattle.r4_extent_demands.specs.Sizes.{AreExtentEdits, IsSized, end_of_bytes}

-- ---- edits

not_both : (o : Option (ℕ × ℕ)) (r : ℕ × ℕ) → None ≡ o → o ≡ Some r → ⊥
not_both None r none some = absurd cc
not_both (Some x) r none some = absurd cc

-- what is told of a body says where its bytes end
pub told_suits : (b : Option Body) (spread : Option Interval) (e : Edits) → option_map interval_of spread ≡ spread_keys b
    → IsSized b → SuitLeaves (end_of_bytes b) e → SuitLeaves (bytes_end spread) e
told_suits None None e told is suit = suit
told_suits None (Some i) e told is suit = absurd cc
told_suits (Some b) (Some i) e told is suit = suits_later (end_of_bytes (Some b)) (2 ^ 64) e (low (is_spread b)) suit
  where
    low : (t : Bool) → (if t then 2 ^ 30 else 16384) ≤ 2 ^ 64
    low true = omega arith
    low false = omega arith
told_suits (Some b) None e told is suit = by_test (is_spread b) told suit
  where
    keys : Bool → Option (ℕ × ℕ)
    keys t = if t then Some (first_byte b, first_byte b + 2 ^ 64) else None

    by_test : (t : Bool) → None ≡ keys t → SuitLeaves (if t then 2 ^ 30 else 16384) e → SuitLeaves 16384 e
    by_test true none s = absurd (not_both (keys true) (first_byte b, first_byte b + 2 ^ 64) none refl)
    by_test false none s = s

-- ---- no units

pub none_of_leaf : (lo hi : ℕ) → AreOfLeaf lo hi []
none_of_leaf lo hi = record {
  rises = tt;
  within = All-nil (λ (u : LeafUnit). is_between lo hi u.0 ≡ true);
}

no_units : units_in [] ≡ []
unfolding units_in
no_units = refl

no_leaf_bytes : leaf_bytes [] ≡ 0
unfolding bytes_behind
no_leaf_bytes = refl

pub within_more : (lo hi end : ℕ) (gs : List Given) → hi ≤ end → AreWithin lo hi gs → AreWithin lo end gs
within_more lo hi end [] le h = tt
within_more lo hi end (g ∷ gs) le h = let a = h.1 in (h.0, omega (arith, a, le), within_more lo hi end gs le h.2)

module _ (b : Option Body) (e : Edits) (ok : AreExtentEdits b e) (lo hi : ℕ) (cuts : List KeyRange) (gs : List Given)
    (m : MakesEdits lo hi (leaf_edits b e) cuts gs []) where
  few : leaf_bytes (put_into b e lo hi) < 58912
  few = ok.small (record { level = 1; lo = lo; hi = hi; block = []; names = []; spans = []; units = [] }) tt
      (let z = no_leaf_bytes in omega (arith, z))

  module _ (given : List Given) (ranges : List KeyRange) (items : List Item) (same : given ≡ gs) (also : ranges ≡ cuts)
      (none : items ≡ []) where
    left : units_in items ≡ []
    left = ap units_in none ∙ no_units

    pub can : CanPutAll given (cut_all ranges (units_in items))
    can =
        subst (λ (g : List Given). CanPutAll g (cut_all ranges (units_in items))) (sym same)
        (subst (λ (r : List KeyRange). CanPutAll gs (cut_all r (units_in items))) (sym also)
        (subst (λ (us : List LeafUnit). CanPutAll gs (cut_all cuts us)) (sym left) m.can))

    bytes_are : leaf_bytes (units_left ranges given items) ≡ leaf_bytes (put_into b e lo hi)
    bytes_are = (λ i. leaf_bytes (put_all (same i) (cut_all (also i) (left i)))) ∙ ap leaf_bytes m.units

    module _ (n : ℕ) (is : n ≡ min (leaf_bytes (units_left ranges given items)) (2 ^ 64 - 1)) where
      pub measured : n ≡ leaf_bytes (put_into b e lo hi)
      measured = let small = few in let same_bytes = bytes_are in let all = is in omega (arith, small, same_bytes, all)

      pub measured_few : n < 58912
      measured_few = let small = few in let same_bytes = measured in omega (arith, small, same_bytes)

-- ---- how many leaves come

some_bytes : (u : LeafUnit) (us : List LeafUnit) → 1 ≤ leaf_bytes (u ∷ us)
unfolding bytes_behind unit_bytes
some_bytes (k, Stat a) us = omega arith
some_bytes (k, Entry n t) us = omega arith
some_bytes (k, Byte x) us = omega arith

pub leaves_none : (us : List LeafUnit) → leaf_bytes us ≡ 0 → leaves_for us ≡ 0
leaves_none [] none = refl
leaves_none (u ∷ us) none = let some = some_bytes u us in absurd (omega (arith, some, none))

pub leaves_some : (us : List LeafUnit) (n : ℕ) → n ≡ leaf_bytes us → 1 ≤ n → 1 + over n ≡ leaves_for us
leaves_some [] n is some = let z = no_leaf_bytes in absurd (omega (arith, is, some, z))
leaves_some (u ∷ us) n is some = ap (λ (x : ℕ). 1 + over x) is

pub over_few : (n : ℕ) → n < 58912 → over n ≤ 55
over_few n lt = by_test (nat_lt 4068 n)
  where
    by_test : (t : Bool) → (if t then 1 + (n - 4068 + 1023) / 1024 else 0) ≤ 55
    by_test true = omega (arith, lt)
    by_test false = omega arith

pub leaves_more : (b : Option Body) (e : Edits) (s : Span) (ss : List Span)
    → leaves_in b e (s ∷ ss) ≡ leaves_for (put_into b e s.lo s.hi) + leaves_in b e ss
leaves_more b e s ss = sum_by-cons (λ (x : Span). leaves_for (put_into b e x.lo x.hi)) s ss

-- ---- the extents of a twig

pub spans_cons : (hi : ℕ) (it : Item) (items : List Item) → spans_in hi (it ∷ items)
    ≡ item_spans (next_key hi items) it ++ spans_in hi items
unfolding spans_in
spans_cons hi it items = refl

pub spans_nil : (hi : ℕ) → spans_in hi [] ≡ []
unfolding spans_in
spans_nil hi = refl

pub cell_spans : (c : CellSeen) → 1 ≤ c.level → (node_of c).spans ≡ spans_in (rank c.hi) (items_of c.block)
cell_spans c some = let e : c.level ≡ suc (c.level - 1) = omega (arith, some) in spans_are c (c.level - 1) e

pub spans_next : (c : CellSeen) (place : ℕ) (it : Item) → slice_get (items_of c.block) place ≡ Some it
    → spans_in (rank c.hi) (drop place (items_of c.block))
    ≡ spans_at c place it ++ spans_in (rank c.hi) (drop (place + 1) (items_of c.block))
spans_next c place it is =
    ap (spans_in (rank c.hi)) (item_first (items_of c.block) place it is)
    ∙ spans_cons (rank c.hi) it (drop (place + 1) (items_of c.block))
