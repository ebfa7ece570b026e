-- Keys that rise, and how many of them are not above a key.
use Rattle.std.proofs.Common.{◌≡◌, ℕ, zero, suc, ◌+◌, ◌<◌, ◌≤◌, List, length, subst, arith}
use Rattle.std.specs.Prelude.{Some, slice_get}
use Rattle.std.proofs.lemmas.Option.{same_Some, slice_get_within}
use Rattle.std.proofs.Common.{sym, ◌∙◌, ap}
use Rattle.std.proofs.Math.Decide.{ℕ_discrete}
use Rattle.r4_base.specs.Key.{rank}
use Rattle.r4_base.specs.Node.{Item, KeysRise}
use Rattle.r4_search.proofs.Places.{item_in}
use Rattle.r4_units.specs.Leaf.{AreUpTo}

pub rises : (items : List Item) → KeysRise items → (i j : ℕ) (x y : Item) → slice_get items i ≡ Some x → slice_get items j ≡ Some y → i < j → rank x.key < rank y.key
rises items h i zero x y ex ey lt = absurd (omega (arith, lt))
rises items h i (suc j) x y ex ey lt =
    elim (ℕ_discrete i j) [
      | yes same ↦ (let e : suc j ≡ i + 1 = omega (arith, same) in h i x y ex (subst (λ (n : ℕ). slice_get items n ≡ Some y) e ey))
      | no other ↦
          let within = slice_get_within items (suc j) y ey in
          let (z, ez) = item_in items j (omega (arith, within)) in
          let first = rises items h i j x z ex ez (omega (arith, lt, other)) in
          let e : suc j ≡ j + 1 = omega arith in
          let last = h j z y ez (subst (λ (n : ℕ). slice_get items n ≡ Some y) e ey) in
          omega (arith, first, last)
    ]

-- the first `low` are not above the key, and those from `high` on are
pub record Narrows (items : List Item) (key low high : ℕ) : Type 0 where
  pub order : low ≤ high
  pub within : high ≤ length items
  pub below : (i : ℕ) (x : Item) → slice_get items i ≡ Some x → i < low → rank x.key ≤ key
  pub above : (i : ℕ) (x : Item) → slice_get items i ≡ Some x → high ≤ i → key < rank x.key

pub narrows : (items : List Item) (key : ℕ) → Narrows items key 0 (length items)
narrows items key = record {
  order = omega arith;
  within = omega arith;
  below = λ i x e lt. absurd (omega (arith, lt));
  above = λ i x e le. let within = slice_get_within items i x e in absurd (omega (arith, within, le));
}

module _ (items : List Item) (key low high middle : ℕ) (rise : KeysRise items) (n : Narrows items key low high) (x : Item) (is : slice_get items middle ≡ Some x) (from : low ≤ middle) (to : middle < high) where
  pub lower : key < rank x.key → Narrows items key low middle
  lower lt =
      let high_within = n.within in
      record {
        order = from;
        within = omega (arith, to, high_within);
        below = n.below;
        above = λ i y e le. elim (ℕ_discrete middle i) [
          | yes same ↦ let k = ap (λ (z : Item). rank z.key) (same_Some x y (sym is ∙ (ap (slice_get items) same ∙ e))) in omega (arith, lt, k)
          | no other ↦ let up = rises items rise middle i x y is e (omega (arith, le, other)) in omega (arith, lt, up)
        ];
      }

  pub higher : rank x.key ≤ key → Narrows items key (middle + 1) high
  higher le = record {
    order = omega (arith, to);
    within = n.within;
    below = λ i y e lt. elim (ℕ_discrete i middle) [
      | yes same ↦ let k = ap (λ (z : Item). rank z.key) (same_Some x y (sym is ∙ (ap (slice_get items) (sym same) ∙ e))) in omega (arith, le, k)
      | no other ↦ let up = rises items rise i middle y x e is (omega (arith, lt, other)) in omega (arith, le, up)
    ];
    above = n.above;
  }

pub narrowed : (items : List Item) (key low high : ℕ) → Narrows items key low high → high ≤ low → AreUpTo items key low
narrowed items key low high n le =
    let order = n.order in
    let within = n.within in
    record {
      within = omega (arith, order, within);
      low = n.below;
      high = λ i x e from. n.above i x e (omega (arith, le, from));
    }
