use Rattle.std.proofs.Common.{◌≡◌, ◌++◌, ◌∙◌, ℕ, List, subst, decimal, codes}
use Rattle.std.specs.Prelude.{Result, Ok, Err, IsErr}
use Rattle.r4_outside.specs.Sink.{SinkState, Appends}
use Rattle.r4_outside.proofs.Texts.{appends_both, appends_stopped}
use Rattle.r4_outside.specs.declared.device.Failed.{Failed}
use Rattle.r4_check_objects.specs.Faults.{fault_line, word_of}
use Rattle.r4_check.proofs.lines.write_fault.Goals as goal

abbrev Written : Type 0
Written = Result (Unit {0}) Failed

abbrev Adds : List ℕ → SinkState → Written → SinkState → Type 0
Adds text s r t = Appends {T = Unit {0}} {E = Failed} text s r t

stops : (a b : List ℕ) (s t : SinkState) (e : Failed) (r : Written) → IsErr r → Adds a s (Err e) t → Adds (a ++ b) s r t
stops a b s t e (Ok v) never f = absurd cc
stops a b s t e (Err e') is f = appends_stopped a b s t e e' f

same : (a b : List ℕ) (s t : SinkState) (r : Written) → a ≡ b → Adds a s r t → Adds b s r t
same a b s t r is f = subst (λ (l : List ℕ). Adds l s r t) is f

pub returns-in_err-write : goal.returns-in_err-write
unfolding fault_line
returns-in_err-write g c = stops (codes "fault block ") (decimal c.args.fault.block.0 ++ (codes ": " ++ (word_of c.args.fault.what ++ codes "\n"))) _ _ _ c.from_residual.result c.from_residual.ensures.0 c.in_err-write.ensures

pub returns-in_err-write-2 : goal.returns-in_err-write-2
unfolding fault_line
returns-in_err-write-2 g c =
    let n = decimal c.args.fault.block.0 in
    let rest = codes ": " ++ (word_of c.args.fault.what ++ codes "\n") in
    let digits : Adds n _ (Err c.in_err-write-2.field-0.0) _ = same _ _ _ _ (Err c.in_err-write-2.field-0.0) (c.as_bytes.ensures.value ∙ c.format.ensures.text) c.in_err-write-2.ensures in
    appends_both (codes "fault block ") (n ++ rest) _ _ _ _ c.from_residual-in_err-write-2.result c.in_ok-write.ensures (stops n rest _ _ _ c.from_residual-in_err-write-2.result c.from_residual-in_err-write-2.ensures.0 digits)

pub returns-in_err-write-3 : goal.returns-in_err-write-3
unfolding fault_line
returns-in_err-write-3 g c =
    let n = decimal c.args.fault.block.0 in
    let rest = word_of c.args.fault.what ++ codes "\n" in
    let r = c.from_residual-in_err-write-3.result in
    let digits : Adds n _ (Ok c.in_ok-write-2.field-0) _ = same _ _ _ _ (Ok c.in_ok-write-2.field-0) (c.as_bytes.ensures.value ∙ c.format.ensures.text) c.in_ok-write-2.ensures in
    appends_both (codes "fault block ") (n ++ (codes ": " ++ rest)) _ _ _ _ r c.in_ok-write.ensures
    (appends_both n (codes ": " ++ rest) _ _ _ _ r digits (stops (codes ": ") rest _ _ _ r c.from_residual-in_err-write-3.ensures.0 c.in_err-write-3.ensures))

pub returns-in_err-write-4 : goal.returns-in_err-write-4
unfolding fault_line
returns-in_err-write-4 g c =
    let n = decimal c.args.fault.block.0 in
    let w = word_of c.args.fault.what in
    let r = c.from_residual-in_err-write-4.result in
    let digits : Adds n _ (Ok c.in_ok-write-2.field-0) _ = same _ _ _ _ (Ok c.in_ok-write-2.field-0) (c.as_bytes.ensures.value ∙ c.format.ensures.text) c.in_ok-write-2.ensures in
    let words : Adds w _ (Err c.in_err-write-4.field-0.0) _ = same _ _ _ _ (Err c.in_err-write-4.field-0.0) (c.as_bytes-2.ensures.value ∙ c.word.ensures) c.in_err-write-4.ensures in
    appends_both (codes "fault block ") (n ++ (codes ": " ++ (w ++ codes "\n"))) _ _ _ _ r c.in_ok-write.ensures
    (appends_both n (codes ": " ++ (w ++ codes "\n")) _ _ _ _ r digits (appends_both (codes ": ") (w ++ codes "\n") _ _ _ _ r c.in_ok-write-3.ensures (stops w (codes "\n") _ _ _ r c.from_residual-in_err-write-4.ensures.0 words)))

pub returns : goal.returns
unfolding fault_line
returns g c =
    let n = decimal c.args.fault.block.0 in
    let w = word_of c.args.fault.what in
    let digits : Adds n _ (Ok c.in_ok-write-2.field-0) _ = same _ _ _ _ (Ok c.in_ok-write-2.field-0) (c.as_bytes.ensures.value ∙ c.format.ensures.text) c.in_ok-write-2.ensures in
    let words : Adds w _ (Ok c.in_ok-write-4.field-0) _ = same _ _ _ _ (Ok c.in_ok-write-4.field-0) (c.as_bytes-2.ensures.value ∙ c.word.ensures) c.in_ok-write-4.ensures in
    appends_both (codes "fault block ") (n ++ (codes ": " ++ (w ++ codes "\n"))) _ _ _ _ _ c.in_ok-write.ensures
    (appends_both n (codes ": " ++ (w ++ codes "\n")) _ _ _ _ _ digits (appends_both (codes ": ") (w ++ codes "\n") _ _ _ _ _ c.in_ok-write-3.ensures (appends_both w (codes "\n") _ _ _ _ c.write-5.result words c.write-5.ensures)))
