-- What one pointer names, or one unit of an extent.
use Rattle.std.proofs.Common.{◌≡◌, inl, inr, ℕ, zero, suc, ◌+◌, ◌-◌, ◌*◌, ◌<◌, ◌≤◌, [], ap, subst, ◌∙◌, arith}
use Rattle.std.specs.Prelude.{Contains}
use Rattle.r4_base.specs.Cell.{run_names}
use Rattle.r4_base.specs.Key.{rank}
use Rattle.r4_base.specs.Tree.{Name}
use Rattle.r4_base.proofs.Choices.{nothing_in}
use Rattle.r4_base.proofs.FreshTree.{only}
use Rattle.r4_marking.proofs.r4_patch.Members.{cases, here, later}
use Rattle.r4_search.specs.Place.{child_name}
use Rattle.r4_sight.specs.r4_units.Extent.{block_name}
use Rattle.r4_judging.specs.Judging.{names_meant, number_count, number_from}
use Rattle.r4_judging.specs.declared.named.Named.{Named}
use Rattle.r4_judging.specs.declared.named.Named.TheVariants.{Blocks, Child}

-- ---- a run of blocks

pub run_block : (k start n : ℕ) (x : Name) → Contains (run_names k start n) x
    → (j : ℕ) × (j < n) × (x ≡ block_name (start + j) (k + 4096 * j))
run_block k start zero x h = absurd (nothing_in x h)
run_block k start (suc n) x h = elim (cases (block_name start k) x (run_names (k + 4096) (start + 1) n) h) [
  | inl is ↦ (zero, omega arith, is ∙ first)
  | inr more ↦ let (j, lt, is) = run_block (k + 4096) (start + 1) n x more in (suc j, omega (arith, lt), is ∙ on j)
]
  where
    first : block_name start k ≡ block_name (start + 0) (k + 4096 * 0)
    first =
        let a : start ≡ start + 0 = omega arith in
        let b : k ≡ k + 4096 * 0 = omega arith in
        λ i. block_name (a i) (b i)

    on : (j : ℕ) → block_name (start + 1 + j) (k + 4096 + 4096 * j) ≡ block_name (start + suc j) (k + 4096 * suc j)
    on j =
        let a : start + 1 + j ≡ start + suc j = omega arith in
        let b : k + 4096 + 4096 * j ≡ k + 4096 * suc j = omega arith in
        λ i. block_name (a i) (b i)

pub run_has : (k start n j : ℕ) → j < n → Contains (run_names k start n) (block_name (start + j) (k + 4096 * j))
run_has k start zero j lt = absurd (omega (arith, lt))
run_has k start (suc n) zero lt =
    let a : start ≡ start + 0 = omega arith in
    let b : k ≡ k + 4096 * 0 = omega arith in
    subst (Contains (run_names k start (suc n))) (λ i. block_name (a i) (b i))
    (here (block_name start k) (run_names (k + 4096) (start + 1) n))
run_has k start (suc n) (suc j) lt =
    let a : start + 1 + j ≡ start + suc j = omega arith in
    let b : k + 4096 + 4096 * j ≡ k + 4096 * suc j = omega arith in
    subst (Contains (run_names k start (suc n))) (λ i. block_name (a i) (b i))
    (later (block_name start k) (block_name (start + 1 + j) (k + 4096 + 4096 * j)) (run_names (k + 4096) (start + 1) n)
    (run_has (k + 4096) (start + 1) n j (omega (arith, lt))))

-- ---- its numbers

pub meant_within : (m : Named) (n : Name) → Contains (names_meant m) n
    → (number_from m ≤ n.id) × (n.id < number_from m + number_count m)
meant_within (Child child) n h = let e = ap (λ (x : Name). x.id) (only (child_name child) n h) in
    (omega (arith, e), omega (arith, e))
meant_within (Blocks start count lo) n h =
    let (j, lt, is) = run_block (rank lo) start count n h in
    let e = ap (λ (x : Name). x.id) is in
    (omega (arith, e), omega (arith, e, lt))

pub meant_has : (m : Named) (i : ℕ) → number_from m ≤ i → i < number_from m + number_count m
    → (n : Name) × Contains (names_meant m) n × (n.id ≡ i)
meant_has (Child child) i from below = (child_name child, here (child_name child) [], omega (arith, from, below))
meant_has (Blocks start count lo) i from below = (
  block_name (start + (i - start)) (rank lo + 4096 * (i - start)),
  run_has (rank lo) start count (i - start)
      (omega (arith, from, below)),
  omega (arith, from),
)
