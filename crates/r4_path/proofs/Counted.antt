-- Numbers that count up from free ones.
use Rattle.std.proofs.Common.{◌≢◌, inl, inr, ℕ, zero, suc, ◌+◌, ◌<◌, ◌≤◌, List, [], ◌∷◌, length, arith}
use Rattle.std.specs.Prelude.{AllPairs, Contains}
use Rattle.std.proofs.lemmas.List.Kept.{AllPairs-cons}
use Rattle.std.specs.List.{slice_index_or}
use Rattle.r4_base.specs.Tree.{Store}
use Rattle.r4_base.specs.Value.{Value}
use Rattle.r4_patch.specs.r4_cell.Patch.{HaveNames}
use Rattle.r4_path.specs.Steps.{CountUp, IsFree}
use Rattle.r4_patch.proofs.Members.{here, later}
use Rattle.r4_path.proofs.Rising.{count_within}
use Rattle.r4_path.specs.Twigs.{AreCounted, Below, HaveNumbers, IsUnused}

index : (xs : List ℕ) (k d : ℕ) → k < length xs → Contains xs (slice_index_or xs k d)
index [] k d less = absurd (omega (arith, less))
index (x ∷ xs) zero d less = here x xs
index (x ∷ xs) (suc k) d less = later x (slice_index_or xs k d) xs (index xs k d (omega (arith, less)))

pub count_once : (n : ℕ) (ids : List ℕ) → CountUp n ids → AllPairs (λ (i j : ℕ). i ≢ j) ids
count_once n [] counts = λ i j d a b. absurd (omega (arith, b))
count_once n (i ∷ ids) (is, rest) = AllPairs-cons (λ (x y : ℕ). x ≢ y) i ids
    (λ k d less same. let w = count_within (n + 1) ids (slice_index_or ids k d) rest (index ids k d less) in omega
    (arith, w, is, same))
    (count_once (n + 1) ids rest)

module _ (t : Store Value) (from to : ℕ) (free : IsFree from to t) where
  pub unused : (n : ℕ) (ids : List ℕ) (i : ℕ) → CountUp n ids → from ≤ n → n + length ids ≤ to → Contains ids i → IsUnused t i
  unused n ids i counts low high at =
      let w = count_within n ids i counts at in (
        free.cells i (omega (arith, w, low)) (omega (arith, w, high)),
        free.names i (omega (arith, w, low)) (omega (arith, w, high)),
      )

pub have_numbers : (t : Store Value) (b : Below) (from to : ℕ) (mine taken : List ℕ) → HaveNames b.old → HaveNames b.new
    → AreCounted t b from to mine taken → HaveNumbers t b taken
have_numbers t b from to mine taken old new are = record {
  old = old;
  new = new;
  each = λ c in_b. elim (are.each c in_b) [
    | inl again ↦ inl again
    | inr own ↦ inr (
      unused t from to are.free are.first mine c.id are.counts_mine are.from_mine are.to_mine own,
      apart c.id own,
    )
  ];
  once = count_once are.next taken are.counts_taken;
  unused = λ i at. unused t from to are.free are.next taken i are.counts_taken are.from_taken are.to_taken at;
}
  where
    apart : (i : ℕ) → Contains mine i → Contains taken i → ⊥
    apart i own other =
        let w = count_within are.first mine i are.counts_mine own in
        let v = count_within are.next taken i are.counts_taken other in
        elim are.apart [ inl before ↦ omega (arith, w, v, before) | inr behind ↦ omega (arith, w, v, behind) ]
