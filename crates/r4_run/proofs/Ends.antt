-- What the status and the printed text tell of a run's end.
use Rattle.std.proofs.Common.{◌≡◌, ◌∙◌, ◌++◌, append-nil, ap, arith, inl, inr, refl, sym, subst, ℕ, Bool, true}
use Rattle.std.proofs.Common.{false, List, [], Option, Some, None, Result, Ok, Err, IsSome}
use Rattle.r4_base.specs.Image.{Image}
use Rattle.r4_base.specs.Volume.{HasVolume}
use Rattle.r4_content.specs.Locality.{Meaning, commands}
use Rattle.r4_content.specs.Meaning.{greatest_size}
use Rattle.r4_content.specs.declared.command.Command.{Command}
use Rattle.r4_content.specs.declared.reply.Reply.{Reply}
use Rattle.r4_shared.specs.r4_durable.Meaning.{Beginning, IsNamed, Names}
use Rattle.r4_shared.specs.r4_history.Tables.{asked}
use Rattle.r4_shared.specs.r4_kept.View.{CoreSeen}
use Rattle.r4_lines.specs.Lines.{device_line, memory_line}
use Rattle.r4_lines.specs.Printed.{Gets, GetsPart, Prints}
use Rattle.r4_outside.specs.Device.{State}
use Rattle.r4_outside.specs.Sink.{SinkState}
use Rattle.r4_outside.proofs.Texts.{appends_both, appends_stopped}
use Rattle.r4_print.specs.Printing.{Prints as PrintsSome}
use Rattle.r4_print.specs.declared.printing.PrintFault.{PrintFault}
use Rattle.r4_print.specs.declared.printing.PrintFault.TheVariants.{Memory, Sink}
use Rattle.r4_trace.specs.Folds.{after_first}
use Rattle.r4_trace.specs.Ids.{Start}
use Rattle.r4_trace.specs.Job.{Asked}
use Rattle.r4_trace.specs.Legal.{IsLegal}
use Rattle.r4_trace.specs.Traced.{broken_at, committed_in}
use Rattle.r4_trace.specs.declared.entry.Entry.{Entry}
use Rattle.r4_run.specs.Ending.{PrintsDevice, StandsSo, TellsEnd, TellsServed, TellsWhy}
use Rattle.r4_run.specs.Naming.{named}
use Rattle.r4_run.specs.Running.{CameTo, Ends, EndsSo, IsPrinted, Ran, Served, StandsFor}
use Rattle.r4_run.specs.declared.ending.End.{End}
use Rattle.r4_run.specs.declared.ending.End.TheVariants.{Opened, Unopened}
use Rattle.r4_run.specs.Stopping.{EndsOver, RanOver}
use Rattle.r4_run.specs.declared.ending.Standing.{Standing}
use Rattle.r4_run.specs.declared.ending.Standing.TheVariants.{Broken, Unfinished, Whole}

-- a run without an entry
pub empty_legal : (w : Meaning Command Reply) (start : Option Start) (job : Asked) → IsLegal w start (Some job) []
empty_legal w None job = record {
  so_far = record { order = tt; replies = tt; ids = tt; answers = tt };
  closed = λ s t is. cc is;
}
empty_legal w (Some b) job = record {
  so_far = record { order = tt; replies = tt; ids = tt; answers = tt };
  closed = λ s t is. cc is;
}

module _ (text : List ℕ) (old mid new : SinkState) where
  gets_of : PrintsSome {T = Unit {0}} text old (Ok tt) mid → Gets text old mid
  gets_of p = record { told = p.told; faults = p.faults; cause = tt; whole = p.whole; part = λ before is. tt }

  gets_part : PrintsSome {T = Unit {0}} text old (Err Sink) mid → GetsPart text old mid
  gets_part p = record { told = p.told; faults = p.faults; cause = p.cause; whole = λ before is. tt; part = p.part }

  -- the device's line behind the text
  device_behind : (e : State) (printed : Result (Unit {0}) PrintFault) → PrintsSome text old printed mid
      → PrintsDevice e printed mid new → Prints (text ++ device_line e.clock e.faults) old new
  device_behind e (Ok tt) p (inl g) = inl (appends_both text _ old mid new tt (Ok tt) (gets_of p) g)
  device_behind e (Ok tt) p (inr g) = inr (appends_both text _ old mid new tt (Err tt) (gets_of p) g)
  device_behind e (Err f) p (is, same) =
      let q : PrintsSome {T = Unit {0}} text old (Err Sink) mid = subst (λ x. PrintsSome {T = Unit {0}} text old
      (Err x) mid) is p in
      subst (λ m. Prints (text ++ device_line e.clock e.faults) old m) (sym same)
      (inr (appends_stopped text _ old mid tt tt (gets_part q)))

-- what is shown of the trace is printed, and the status told
pub ends_so : (shown : List Entry → List ℕ) (r : Names) (job : Asked) (trace : List Entry) (before : ℕ) (e : State) (s : Standing)
    (printed : Result (Unit {0}) PrintFault) (code : ℕ) (old mid new : SinkState)
    → StandsFor r job trace e s → PrintsSome (shown trace) old printed mid
    → TellsServed before e s printed code mid new
    → Ends shown r job trace before old code e new
ends_so shown r job trace before e s printed code old mid new stands prints tells = record {
  codes = tells.codes;
  done = λ z. let t = tells.done z in (
    subst (λ x. StandsFor r job trace e x) t.0 stands,
    subst (λ m. Gets (shown trace) old m) (sym t.2) (gets_of (shown trace) old mid new
        (subst (λ x. PrintsSome (shown trace) old x mid) t.1 prints)),
  );
  sink = λ z. let t = tells.sink z in (
    subst (λ x. StandsFor r job trace e x) t.0 stands,
    subst (λ m. GetsPart (shown trace) old m) (sym t.2) (gets_part (shown trace) old mid new
        (subst (λ x. PrintsSome (shown trace) old x mid) t.1 prints)),
  );
  device = λ z. let t = tells.device z in (
    subst (λ x. StandsFor r job trace e x) t.0 stands,
    t.1,
    device_behind (shown trace) old mid new e printed prints t.2,
  );
  memory = λ z. (mid, record { result = printed; prints = prints }, tells.memory z);
}

-- what is known of a core that stands so, once its device is back
pub stands_for : {D : Type 0} (r : Names) (c : CoreSeen D) (e : State) (s : Standing) → StandsSo c s
    → ((b : Beginning) → IsNamed r e.blocks b → c.broken ≡ None → c.commit ≡ None → HasVolume e.blocks e.seen
    (after_first (commands greatest_size) b.content c.trace.entries (committed_in c.trace.entries)))
    → c.broken ≡ broken_at c.trace.entries → StandsFor r (asked c.turns.job) c.trace.entries e s
stands_for r c e Whole so volume told = record { whole = so.whole; volume = λ b is. volume b is so.sound so.rests }
stands_for r c e Broken so volume told = subst (λ (o : Option ℕ). IsSome o) told so
stands_for r c e Unfinished so volume told = tt

-- ---- a run that is told

module _ (shown : List Entry → List ℕ) (start : Option Image) (clock : Option ℕ) (job : Asked) (d e : State)
    (old mid new : SinkState) where
  ends_told : (trace : List Entry) (before : ℕ) (end : End) (code : ℕ) → before ≡ d.faults
      → CameTo shown start clock job trace d old end e mid → TellsEnd before e end code mid new
      → EndsSo shown start clock job trace d old code e new
  ends_told trace before (Unopened why) code at (is, empty, same) tells = inl (record {
    why = why;
    is = is;
    tells = subst (λ (m : SinkState). TellsWhy why code m new) same tells;
    empty = empty;
  })
  ends_told trace before (Opened s printed) code at (size, stands, prints) tells = inr (
    size,
    subst (λ (n : ℕ). Ends shown (named start clock job) job trace n old code e new) at
        (ends_so shown (named start clock job) job trace before e s printed code old mid new stands prints tells),
  )

  pub ran_told : (before : ℕ) (end : End) (code : ℕ) → before ≡ d.faults
      → Served shown start clock job d old end e mid → TellsEnd before e end code mid new
      → Ran shown start clock job d old code e new
  ran_told before end code at s tells = record {
    trace = s.trace;
    is = s.is;
    ends = ends_told s.trace before end code at s.came_to tells;
  }

  -- nothing is a beginning of each text
  nothing_printed : (text : List ℕ) → mid ≡ old → IsPrinted text old mid
  nothing_printed text same =
      subst (λ (m : SinkState). IsPrinted text old m) (sym same) (record {
        result = Err Memory;
        prints = record {
          told = (λ w. w, λ w. w);
          faults = omega arith;
          cause = tt;
          whole = λ before is. tt;
          part = λ before is. record {
            part = [];
            rest = text;
            splits = refl;
            written = is ∙ ap Some (sym (append-nil before));
          };
        };
      })

  pub some_printed : (trace : List Entry) (end : End) → CameTo shown start clock job trace d old end e mid
      → IsPrinted (shown trace) old mid
  some_printed trace (Unopened why) (is, empty, same) = nothing_printed (shown trace) same
  some_printed trace (Opened s printed) (size, stands, prints) = record { result = printed; prints = prints }

  pub over_told : (before : ℕ) (end : End) (code : ℕ) (starved : Bool) → starved ≡ false → before ≡ d.faults
      → Served shown start clock job d old end e mid → TellsEnd before e end code mid new
      → RanOver shown start clock job d old starved code e new
  over_told before end code starved is at s tells = record {
    trace = s.trace;
    is = s.is;
    ends = subst (λ (b : Bool). EndsOver b shown start clock job s.trace d old code e new) (sym is)
        (ends_told s.trace before end code at s.came_to tells);
  }

  pub over_starved : (end : End) (code : ℕ) (starved : Bool) → starved ≡ true → code ≡ 9
      → Served shown start clock job d old end e mid → Prints memory_line mid new
      → RanOver shown start clock job d old starved code e new
  over_starved end code starved is nine s line = record {
    trace = s.trace;
    is = s.is;
    ends = subst (λ (b : Bool). EndsOver b shown start clock job s.trace d old code e new) (sym is)
        (record { nine = nine; mid = mid; printed = some_printed s.trace end s.came_to; line = line });
  }
