-- What is read of a source as the text of the scripts (docs/scripts.md, "The text").
use Rattle.std.specs.Prelude.{◌≡◌, ◌↔◌, ◌⊎◌, ◌+◌, ◌++◌, ℕ, ◌≤◌, List, length, take, drop}
use Rattle.std.specs.Prelude.{Option, Some, IsSome, Result, IfOk, IfErr, vec_len}
use Rattle.std.specs.Global.{Vec}
use Rattle.r4_outside.specs.Device.{Rose}
use Rattle.r4_outside.specs.Source.{SourceState}
use Rattle.r4_script.specs.Text.{job_of}
use Rattle.r4_source.specs.declared.reading.ReadFault.{ReadFault}
use Rattle.r4_source.specs.declared.reading.ReadFault.TheVariants.{Memory, Source}

-- the longest text, and one byte more
abbrev pub most : ℕ
most = 16777217

-- where the source failed it counts that, and its count is named
abbrev pub HasCause : (old new : SourceState) → ReadFault → Type 0
HasCause old new (Source n) = (n ≡ new.faults) × Rose old.faults n
HasCause old new Memory = Unit {0}

-- The text is the first n bytes of the rest, and what is left stands behind them.
pub record IsStart (n : ℕ) (rest text : List ℕ) (after : Option (List ℕ)) : Type 0 where
  pub bytes : text ≡ take n rest
  pub left : after ≡ Some (drop n rest)

-- `read_text`
pub record Reads (old : SourceState) (result : Result (Vec ℕ) ReadFault) (new : SourceState)
    : Type 0 where
  pub told : IsSome new.rest ↔ IsSome old.rest
  pub faults : old.faults ≤ new.faults
  pub cause : IfErr result (HasCause old new)
  pub few : IfOk result (λ text. vec_len text ≤ most)
  pub whole : (rest : List ℕ) → old.rest ≡ Some rest
      → IfOk result (λ text. IsStart most rest text.items new.rest)
  -- the job, or the fault, of what was read is that of the whole text
  pub job : (rest : List ℕ) → old.rest ≡ Some rest
      → IfOk result (λ text. job_of text.items ≡ job_of rest)

-- The first n bytes of the rest come behind the text; none only where no room or no rest is.
pub record AddsFirst (n room : ℕ) (rest before text : List ℕ) (after : Option (List ℕ))
    : Type 0 where
  pub bytes : text ≡ before ++ take n rest
  pub left : after ≡ Some (drop n rest)
  pub stops : n ≡ 0 → (room ≡ 0) ⊎ (length rest ≡ 0)

-- one piece of it
pub record AddsPiece (room : ℕ) (before : List ℕ) (old : SourceState) (result : Result ℕ ReadFault)
    (text : List ℕ) (new : SourceState) : Type 0 where
  pub told : IsSome new.rest ↔ IsSome old.rest
  pub faults : old.faults ≤ new.faults
  pub cause : IfErr result (HasCause old new)
  pub fits : IfOk result (λ n. n ≤ room)
  pub longer : IfOk result (λ n. length text ≡ length before + n)
  pub took : (rest : List ℕ) → old.rest ≡ Some rest
      → IfOk result (λ n. AddsFirst n room rest before text new.rest)
