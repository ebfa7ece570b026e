-- What a source tells, and what a read does to that.
use Rattle.std.specs.Prelude.{◌≡◌, ◌↔◌, ◌⊎◌, ℕ, ◌≤◌, List, length, take, drop, Option, Some, IsSome, Result, IfOk, OnErr}
use Rattle.r4_outside.specs.Device.{Rose}

-- What a source tells of itself.
pub record SourceState : Type 0 where
  -- the bytes that are still to come, where they are told
  pub rest : Option (List ℕ)
  -- the number of failed calls
  pub faults : ℕ

-- The first n bytes of the rest come into the start of the slice; none only where the slice or the rest is empty.
pub record TakesFirst (n : ℕ) (into_old into_new rest : List ℕ) (after : Option (List ℕ)) : Type 0 where
  pub within : n ≤ length rest
  pub bytes : take n into_new ≡ take n rest
  pub left : after ≡ Some (drop n rest)
  pub stops : n ≡ 0 → (length into_old ≡ 0) ⊎ (length rest ≡ 0)

-- `read`
pub record Takes {E : Type 0} (into_old into_new : List ℕ) (old : SourceState) (result : Result ℕ E) (new : SourceState) : Type 0 where
  pub told : IsSome new.rest ↔ IsSome old.rest
  pub faults : old.faults ≤ new.faults
  pub cause : OnErr result (Rose old.faults new.faults)
  pub fits : IfOk result (λ n. n ≤ length into_old)
  pub took : (rest : List ℕ) → old.rest ≡ Some rest → IfOk result (λ n. TakesFirst n into_old into_new rest new.rest)
