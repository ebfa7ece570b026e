-- Numbers in a range, or what stands for them.
use Rattle.std.proofs.Common.{◌≡◌, ℕ, ◌≤◌, Option, Some, None, subst, sym}
use Rattle.std.specs.Prelude.{IfSome, unwrap_or}

pub within : (o : Option ℕ) (n other low high : ℕ) → IfSome o (λ m. (low ≤ m) × (m ≤ high))
    → n ≡ unwrap_or o other → low ≤ other → other ≤ high → (low ≤ n) × (n ≤ high)
within None n other low high all is least most = subst (λ (m : ℕ). (low ≤ m) × (m ≤ high)) (sym is) (least, most)
within (Some m) n other low high all is least most = subst (λ (k : ℕ). (low ≤ k) × (k ≤ high)) (sym is) all
