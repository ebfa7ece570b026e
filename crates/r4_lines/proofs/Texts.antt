-- Writes one after the other.
use Rattle.std.proofs.Common.{◌≡◌, inl, inr, ℕ, List, ◌++◌, ap, subst, Result, Ok, Err, IsErr}
use Rattle.r4_outside.specs.Sink.{SinkState, Appends}
use Rattle.r4_outside.proofs.Texts.{appends_both as both, appends_stopped as stopped}
use Rattle.r4_outside.specs.declared.device.Failed.{Failed}
use Rattle.r4_lines.specs.Printed.{Prints}
use Rattle.r4_lines.specs.Lines.{image_line}

-- what a write gives back
abbrev pub Written : Type 0
Written = Result (Unit {0}) Failed

abbrev pub Adds : List ℕ → SinkState → Written → SinkState → Type 0
Adds text s r t = Appends {T = Unit {0}} {E = Failed} text s r t

-- a write after writes that went well
pub appends_both : (a b : List ℕ) (s t u : SinkState) (v : Unit {0}) (r : Written) → Adds a s (Ok v) t → Adds b t r u → Adds (a ++ b) s r u
appends_both a b s t u v r f g = both a b s t u v r f g

-- no write after one that failed
pub appends_stopped : (a b : List ℕ) (s t : SinkState) (e : Failed) (r : Written) → IsErr r → Adds a s (Err e) t → Adds (a ++ b) s r t
appends_stopped a b s t e (Ok v) never f = absurd (cc (never))
appends_stopped a b s t e (Err e') is f = stopped a b s t e e' f

-- what was written is printed
pub printed : (text : List ℕ) (s t : SinkState) (r : Written) → Adds text s r t → Prints text s t
printed text s t (Ok v) f = inl (record { told = f.told; faults = f.faults; cause = tt; whole = f.whole; part = λ before is. tt })
printed text s t (Err e) f = inr (record { told = f.told; faults = f.faults; cause = f.cause; whole = λ before is. tt; part = f.part })

-- the same text
pub same_text : (a b : List ℕ) (s t : SinkState) (r : Written) → a ≡ b → Adds a s r t → Adds b s r t
same_text a b s t r is f = subst (λ (l : List ℕ). Adds l s r t) is f

-- an image's line whose words are these
pub printed_image : (block : ℕ) (what words : List ℕ) (s t : SinkState) (r : Written) → what ≡ words → Adds (image_line block what) s r t → Prints (image_line block words) s t
printed_image block what words s t r is f = printed (image_line block words) s t r (same_text (image_line block what) (image_line block words) s t r (ap (image_line block) is) f)
