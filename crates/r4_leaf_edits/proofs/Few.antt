-- How many ranges and items come.
use Rattle.std.specs.Prelude.{◌≡◌, ℕ, ◌+◌, ◌≤◌, [], ◌∷◌, ◌++◌, length}
use Rattle.std.proofs.Common.{arith, ap}
use Rattle.std.proofs.lemmas.List.{length_push}
use Rattle.r4_base.specs.Node.{Item}
use Rattle.r4_reach.specs.r4_leaf.declared.remaking.KeyRange.{KeyRange}
use Rattle.r4_leaf_edits.specs.Made.{HasAtMost, cuts_in, items_in}
use Rattle.r4_leaf_edits.specs.Making.{Grows}
use Rattle.r4_leaf_edits.specs.declared.leaf_edits.LeafEdits.{LeafEdits}

pub grows_none : (n : ℕ) (x : LeafEdits) → Grows n x x
grows_none n x = record { cuts = omega arith; items = omega arith }

pub grows_cut : (x y : LeafEdits) (c : KeyRange) → cuts_in y ≡ cuts_in x ++ c ∷ [] → items_in y ≡ items_in x → Grows 1 x y
grows_cut x y c cut same =
    let a = ap length cut in
    let b = length_push (cuts_in x) c in
    let d = ap length same in
    record { cuts = omega (arith, a, b); items = omega (arith, d) }

pub grows_item : (x y : LeafEdits) (c : KeyRange) (it : Item) → cuts_in y ≡ cuts_in x ++ c ∷ [] → items_in y ≡ items_in x ++ it ∷ [] → Grows 1 x y
grows_item x y c it cut more =
    let a = ap length cut in
    let b = length_push (cuts_in x) c in
    let d = ap length more in
    let e = length_push (items_in x) it in
    record { cuts = omega (arith, a, b); items = omega (arith, d, e) }

pub grows_both : (n m k : ℕ) (x y z : LeafEdits) → n + m ≤ k → Grows n x y → Grows m y z → Grows k x z
grows_both n m k x y z le a b =
    let p = a.cuts in
    let q = a.items in
    let r = b.cuts in
    let s = b.items in
    record { cuts = omega (arith, le, p, r); items = omega (arith, le, q, s) }

pub grows_less : (n k : ℕ) (x y : LeafEdits) → n ≤ k → Grows n x y → Grows k x y
grows_less n k x y le a =
    let p = a.cuts in
    let q = a.items in
    record { cuts = omega (arith, le, p); items = omega (arith, le, q) }

pub has_at_most : (n k : ℕ) (x y : LeafEdits) → n ≤ k → cuts_in x ≡ [] → items_in x ≡ [] → Grows n x y → HasAtMost k y
has_at_most n k x y le no_cuts no_items g =
    let a = ap length no_cuts in
    let b = ap length no_items in
    let p = g.cuts in
    let q = g.items in
    (omega (arith, a, p, le), omega (arith, b, q, le))
