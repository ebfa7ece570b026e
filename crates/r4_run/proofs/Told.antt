-- The status and the line of a run's end.
use Rattle.std.proofs.Common.{◌≡◌, ◌∙◌, inl, inr, refl, sym, subst, ap, ℕ, List, Result, Ok}
use Rattle.r4_lines.specs.Lines.{device_line, memory_line, script_line}
use Rattle.r4_lines.proofs.Texts.{Adds, Written, printed, same_text}
use Rattle.r4_lines.specs.Printed.{Prints}
use Rattle.r4_outside.specs.Device.{Rose, State}
use Rattle.r4_outside.specs.Sink.{SinkState}
use Rattle.r4_print.specs.declared.printing.PrintFault.{PrintFault}
use Rattle.r4_script.specs.declared.fault.ParseFault.{ParseFault}
use Rattle.r4_source.specs.declared.reading.ReadFault.{ReadFault}
use Rattle.r4_shared.specs.r4_start.declared.fault.OpenWhy.{OpenWhy}
use Rattle.r4_run.specs.Scripts.{TellsFault, TellsUnread}
use Rattle.r4_run.specs.Ending.{PrintsDevice, TellsEnd, TellsServed, TellsWhy}
use Rattle.r4_run.specs.declared.ending.End.{End}
use Rattle.r4_run.specs.declared.ending.Standing.{Standing}
use Rattle.r4_run.specs.declared.ending.Standing.TheVariants.{Broken}

module _ (before : ℕ) (e : State) (s : Standing) (printed : Result (Unit {0}) PrintFault) (old new : SinkState) where
  pub told_device : (clock faults : ℕ) → s ≡ Broken → printed ≡ Ok tt → Rose before faults
      → clock ≡ e.clock → faults ≡ e.faults → Prints (device_line clock faults) old new
      → TellsServed before e s printed 6 old new
  told_device clock faults is all rose now count line =
      let counted : Prints (device_line clock e.faults) old new =
      subst (λ n. Prints (device_line clock n) old new) count line in
      let told : Prints (device_line e.clock e.faults) old new =
      subst (λ n. Prints (device_line n e.faults) old new) now counted in record {
        codes = inr (inr (inl refl));
        done = λ z. absurd (cc z);
        sink = λ z. absurd (cc z);
        device = λ z. (
          is,
          subst (λ n. Rose before n) count rose,
          subst (λ p. PrintsDevice e p old new)
              (sym all) told,
        );
        memory = λ z. absurd (cc z);
      }

  pub told_memory : (code : ℕ) → code ≡ 9 → Prints memory_line old new → TellsServed before e s printed code old new
  told_memory code nine line = record {
    codes = inr (inr (inr nine));
    done = λ z. absurd (cc (sym z ∙ nine));
    sink = λ z. absurd (cc (sym z ∙ nine));
    device = λ z. absurd (cc (sym z ∙ nine));
    memory = λ z. line;
  }

-- the same fault
pub unread_same : (f g : ReadFault) (code : ℕ) (old new : SinkState) → f ≡ g → TellsUnread g code old new
    → TellsUnread f code old new
unread_same f g code old new is t = subst (λ x. TellsUnread x code old new) (sym is) t

pub fault_same : (f g : ParseFault) (code : ℕ) (old new : SinkState) → f ≡ g → TellsFault g code old new
    → TellsFault f code old new
fault_same f g code old new is t = subst (λ x. TellsFault x code old new) (sym is) t

pub end_same : (f g : End) (before : ℕ) (e : State) (code : ℕ) (old new : SinkState) → f ≡ g
    → TellsEnd before e g code old new → TellsEnd before e f code old new
end_same f g before e code old new is t = subst (λ x. TellsEnd before e x code old new) (sym is) t

pub why_same : (f g : OpenWhy) (code : ℕ) (old new : SinkState) → f ≡ g → TellsWhy g code old new
    → TellsWhy f code old new
why_same f g code old new is t = subst (λ x. TellsWhy x code old new) (sym is) t

-- the line of a text that is no job, whose word is this
pub printed_script : (line column : ℕ) (what word : List ℕ) (s t : SinkState) (r : Written) → what ≡ word
    → Adds (script_line line column what) s r t → Prints (script_line line column word) s t
printed_script line column what word s t r is f =
    printed (script_line line column word) s t r
    (same_text (script_line line column what) (script_line line column word) s t r
    (ap (script_line line column) is) f)
