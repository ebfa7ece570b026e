-- How much of a listing is left falls.
use Rattle.std.proofs.Common.{◌≡◌, ℕ, ◌+◌, ◌*◌, ◌-◌, ◌^◌, ◌<◌, ◌≤◌, List, [], ◌∷◌, ◌++◌, ap, ◌∙◌, arith}
use Rattle.std.specs.List.{sum_by}
use Rattle.std.proofs.lemmas.List.Sums.{sum_by_push}
use Rattle.std.specs.Arc.{arc_value}
use Rattle.r4_base.specs.Key.{rank}
use Rattle.r4_list.specs.declared.frame.Frame.{Frame}
use Rattle.r4_list.specs.Below.{weight}

pub weights_pushed : (fs : List Frame) (f : Frame) → sum_by weight (fs ++ f ∷ []) ≡ sum_by weight fs + weight f
weights_pushed fs f = sum_by_push weight fs f

pub weight_small : (f : Frame) → weight f ≤ 2 ^ 300
weight_small f = small (rank (arc_value f.leaf).hi) f.item f.entry
  where
    small : (r i e : ℕ) → (2 ^ 256 - r) * 2 ^ 34 + (2 ^ 16 - i) * 2 ^ 17 + (2 ^ 16 - e) + 1 ≤ 2 ^ 300
    small r i e = omega arith

-- a directory that was not printed before
pub opened : (n n' rest rest' w : ℕ) → n < 2 ^ 63 → n' ≡ n + 1 → rest' ≡ rest + w → w ≤ 2 ^ 300 → (2 ^ 64 - n') * 2 ^ 300 + rest' ≤ (2 ^ 64 - n) * 2 ^ 300 + rest
opened n n' rest rest' w lt e f small = omega (arith, lt, e, f, small)

pub opened_none : (n n' rest : ℕ) → n ≤ n' → (2 ^ 64 - n') * 2 ^ 300 + rest ≤ (2 ^ 64 - n) * 2 ^ 300 + rest
opened_none n n' rest le = omega (arith, le)

-- the place moves on in its item, to the next item, or to a later leaf
pub passed_entry : (r i e : ℕ) → e + 1 < 2 ^ 16 → (2 ^ 256 - r) * 2 ^ 34 + (2 ^ 16 - i) * 2 ^ 17 + (2 ^ 16 - (e + 1)) + 1 < (2 ^ 256 - r) * 2 ^ 34 + (2 ^ 16 - i) * 2 ^ 17 + (2 ^ 16 - e) + 1
passed_entry r i e lt = omega (arith, lt)

pub passed_item : (r i e : ℕ) → i + 1 < 2 ^ 16 → (2 ^ 256 - r) * 2 ^ 34 + (2 ^ 16 - (i + 1)) * 2 ^ 17 + (2 ^ 16 - 0) + 1 < (2 ^ 256 - r) * 2 ^ 34 + (2 ^ 16 - i) * 2 ^ 17 + (2 ^ 16 - e) + 1
passed_item r i e lt = omega (arith, lt)

pub passed_leaf : (r r' i e i' e' : ℕ) → r < r' → r < 2 ^ 256 → (2 ^ 256 - r') * 2 ^ 34 + (2 ^ 16 - i') * 2 ^ 17 + (2 ^ 16 - e') + 1 < (2 ^ 256 - r) * 2 ^ 34 + (2 ^ 16 - i) * 2 ^ 17 + (2 ^ 16 - e) + 1
passed_leaf r r' i e i' e' lt le = omega (arith, lt, le)

pub pushed_less : (a w : ℕ) (old new : List Frame) (f : Frame) → new ≡ old ++ f ∷ [] → weight f < w → a + sum_by weight new < a + sum_by weight old + w
pushed_less a w old new f is lt =
    let e = ap (λ (fs : List Frame). sum_by weight fs) is ∙ weights_pushed old f in
    omega (arith, lt, e)

pub weight_later : (f next : Frame) → rank (arc_value f.leaf).hi < rank (arc_value next.leaf).hi → rank (arc_value f.leaf).hi < 2 ^ 256 → weight next < weight f
weight_later f next lt le = passed_leaf (rank (arc_value f.leaf).hi) (rank (arc_value next.leaf).hi) f.item f.entry next.item next.entry lt le
