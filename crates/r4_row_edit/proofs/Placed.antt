-- The place of a key among items that stand one after the other.
use Rattle.std.proofs.Common.{◌≡◌, ◌⊎◌, inl, inr, ℕ, zero, suc, ◌+◌, ◌<◌, ◌≤◌, List, [], ◌∷◌, ◌++◌, get_or, length, refl, sym, ap, arith, ◌∙◌}
use Rattle.std.specs.Prelude.{slice_get, Some}
use Rattle.r4_base.specs.Key.{rank}
use Rattle.r4_base.specs.Node.{Item}
use Rattle.r4_cell.specs.Seen.{CellSeen}
use Rattle.r4_path.specs.Steps.{Follow}
use Rattle.r4_rows.specs.Pointers.{PointTo}
use Rattle.std.proofs.lemmas.Option.{none-some, same_Some}
use Rattle.r4_squeeze.specs.Items.{Stand, item_meant, items_meant}
use Rattle.r4_squeeze.specs.declared.items.NodeItem.{NodeItem}

-- an item stands below each one behind it
stands_below : (hi : ℕ) (x : Item) (bs : List Item) (q : Item) (rest : List Item) → Stand hi (x ∷ (bs ++ q ∷ rest))
    → rank x.key < rank q.key
stands_below hi x [] q rest (placed, below, end, more) = below
stands_below hi x (b ∷ bs) q rest (placed, below, end, more) =
    let h = stands_below hi b bs q rest more in omega (arith, below, h)

pub place_is : (hi key p : ℕ) (bs : List Item) (q : Item) (rest : List Item) → Stand hi (bs ++ q ∷ rest)
    → rank q.key ≡ key
    → ((k : ℕ) (x : Item) → k < p → slice_get (bs ++ q ∷ rest) k ≡ Some x → rank x.key < key)
    → ((x : Item) → slice_get (bs ++ q ∷ rest) p ≡ Some x → key ≤ rank x.key) → p ≡ length bs
place_is hi key zero [] q rest stand is below at = refl
place_is hi key (suc p) [] q rest stand is below at =
    absurd (let h = below 0 q (omega arith) refl in omega (arith, h, is))
place_is hi key zero (b ∷ bs) q rest stand is below at =
    absurd (let lt = stands_below hi b bs q rest stand in let h = at b refl in omega (arith, lt, h, is))
place_is hi key (suc p) (b ∷ bs) q rest (placed, less, end, stand) is below at =
    ap suc (place_is hi key p bs q rest stand is (λ k x lt e. below (suc k) x (omega (arith, lt)) e) at)

-- there are as many pointers as cells
pub point_many : (items : List Item) (cells : List CellSeen) → PointTo items cells → length items ≡ length cells
point_many [] [] p = refl
point_many [] (c ∷ cells) p = absurd p
point_many (x ∷ xs) [] p = absurd p
point_many (x ∷ xs) (c ∷ cells) p = ap suc (point_many xs cells p.3)

-- The pointers to cells beside each other begin with one to the first of them.
pub record Begins (key : ℕ) (items : List Item) : Type 0 where
  pub first : Item
  pub rest : List Item
  pub are : items ≡ first ∷ rest
  pub at : rank first.key ≡ key

pub point_first : (l begin end : ℕ) (items : List Item) (cells : List CellSeen) → begin < end → Follow l begin end cells
    → PointTo items cells → Begins begin items
point_first l begin end items [] lt follow p = absurd (omega (arith, lt, follow))
point_first l begin end [] (c ∷ cells) lt follow p = absurd p
point_first l begin end (x ∷ xs) (c ∷ cells) lt follow p = record {
  first = x;
  rest = xs;
  are = refl;
  at = p.2 ∙ follow.1;
}

-- ---- items that a node gets

pub meant_at : (xs : List NodeItem) (n : ℕ) (x : NodeItem) (it : Item) → n < length xs → x ≡ get_or xs n x
    → slice_get (items_meant xs) n ≡ Some it → item_meant x ≡ it
meant_at [] n x it lt is at = absurd (omega (arith, lt))
meant_at (y ∷ ys) zero x it lt is at = ap item_meant is ∙ same_Some (item_meant y) it at
meant_at (y ∷ ys) (suc n) x it lt is at = meant_at ys n x it (omega (arith, lt)) is at

pub none_behind : (xs : List NodeItem) (n : ℕ) (it : Item) → length xs ≤ n → slice_get (items_meant xs) n ≡ Some it → ⊥
none_behind [] zero it le at = none-some it at
none_behind [] (suc n) it le at = none-some it at
none_behind (x ∷ xs) zero it le at = omega (arith, le)
none_behind (x ∷ xs) (suc n) it le at = none_behind xs n it (omega (arith, le)) at

pub one_more_below : (xs : List NodeItem) (n key : ℕ) (x : NodeItem) → n < length xs → x ≡ get_or xs n x
    → ((k : ℕ) (it : Item) → k < n → slice_get (items_meant xs) k ≡ Some it → rank it.key < key)
    → rank (item_meant x).key < key
    → (k : ℕ) (it : Item) → k < n + 1 → slice_get (items_meant xs) k ≡ Some it → rank it.key < key
one_more_below xs n key x lt is below less k it in_range at = elim (le_cases k n (omega (arith, in_range))) [
  | inl before ↦ below k it before at
  | inr same ↦
      let one = meant_at xs n x it lt is (ap (slice_get (items_meant xs)) (sym same) ∙ at) in
      let key_is = ap (λ (i : Item). rank i.key) one in
      omega (arith, less, key_is)
]
  where
    le_cases : (a b : ℕ) → a ≤ b → (a < b) ⊎ (a ≡ b)
    le_cases a b le = grind (arith, le)
