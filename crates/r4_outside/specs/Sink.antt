-- What a sink tells, and what a write does to that.
use Rattle.std.specs.Prelude.{◌≡◌, ◌↔◌, ℕ, ◌≤◌, List, ◌++◌, Option, Some, IsSome, Result, OnOk, OnErr}
use Rattle.r4_outside.specs.Device.{Rose}

-- What a sink tells of itself.
pub record SinkState : Type 0 where
  -- the bytes that were written, where they are told
  pub written : Option (List ℕ)
  -- the number of failed calls
  pub faults : ℕ

-- A prefix of the bytes was appended.
pub record AppendsPart (bytes before : List ℕ) (after : Option (List ℕ)) : Type 0 where
  pub part : List ℕ
  pub rest : List ℕ
  pub splits : bytes ≡ part ++ rest
  pub written : after ≡ Some (before ++ part)

-- `write`, and several of them: all the bytes are appended, or a prefix of them and the count of faults rose.
pub record Appends {T E : Type 0} (bytes : List ℕ) (old : SinkState) (result : Result T E) (new : SinkState) : Type 0 where
  pub told : IsSome new.written ↔ IsSome old.written
  pub faults : old.faults ≤ new.faults
  pub cause : OnErr result (Rose old.faults new.faults)
  pub whole : (before : List ℕ) → old.written ≡ Some before → OnOk result (new.written ≡ Some (before ++ bytes))
  pub part : (before : List ℕ) → old.written ≡ Some before → OnErr result (AppendsPart bytes before new.written)
