-- What becomes of a source's text, and what is said of a borrowed device is so of the device.
use Rattle.std.proofs.Common.{◌≡◌, ◌⊎◌, ◌↔◌, ◌∙◌, ap, inl, inr, refl, sym, subst, ℕ, ◌≤◌, List, Option, Some, None}
use Rattle.std.proofs.Common.{IsSome, Ok}
use Rattle.std.specs.Borrow.{GName}
use Rattle.r4_base.specs.Image.{Image, IsLawful as IsSize}
use Rattle.r4_gen.specs.Workload.{workload_of}
use Rattle.r4_lines.specs.Lines.{memory_line}
use Rattle.r4_lines.specs.Printed.{Prints}
use Rattle.r4_summary.specs.Totals.{summary_text}
use Rattle.r4_run.specs.Generated.{RunsWorkload}
use Rattle.r4_devices.specs.declared.torn.Stop.{Stop}
use Rattle.r4_shared.specs.r4_history.Tables.{asked}
use Rattle.r4_outside.specs.Device.{State, lent_to}
use Rattle.r4_outside.specs.Sink.{SinkState}
use Rattle.r4_outside.specs.Source.{SourceState}
use Rattle.r4_script.specs.Text.{Faults, job_of}
use Rattle.r4_script.specs.declared.fault.ParseFault.{ParseFault}
use Rattle.r4_script.specs.declared.fault.ParseFault.TheVariants.{Memory, Script}
use Rattle.r4_script.specs.declared.job.Job.{Job}
use Rattle.r4_shared.specs.r4_start.Starting.{IsOpenFault, IsReplayed}
use Rattle.r4_shared.specs.r4_start.declared.fault.OpenWhy.{OpenWhy}
use Rattle.r4_shared.specs.r4_start.declared.fault.OpenWhy.TheVariants as why
use Rattle.r4_trace.specs.Job.{Asked}
use Rattle.r4_trace.specs.Text.{trace_text}
use Rattle.r4_trace.specs.declared.entry.Entry.{Entry}
use Rattle.r4_outside.proofs.Lent.{lent_quiet}
use Rattle.r4_run.specs.Naming.{Begins, named}
use Rattle.r4_words.specs.Options.{StopAsked}
use Rattle.r4_run.specs.Running.{Ends, EndsSo, IsTraceOf, IsUnopened, IsWholeRun, Ran}
use Rattle.r4_run.specs.Scripts.{Runs, TellsFault}
use Rattle.r4_run.specs.Stopping.{EndsStarved, RanStopped, RunsBy, stopping}

-- ---- a borrowed device

module _ (shown : List Entry → List ℕ) (start : Option Image) (clock : Option ℕ) (job : Asked) (n m : GName)
    (d e : State) where
  replayed_lent : IsReplayed (lent_to n d) (lent_to m e) → IsReplayed d e
  replayed_lent (count, p) = (
    count,
    record {
      chain = p.chain;
      log = p.log;
      count = p.count;
      settled = p.settled;
      footer = p.footer;
      equal = p.equal;
    },
  )

  fault_lent : (w : OpenWhy) → IsOpenFault (lent_to n d) w (lent_to m e) → IsOpenFault d w e
  fault_lent (why.Log block fault) (size, idle, refused) =
      (size, record { seen = idle.seen; clock = idle.clock }, refused)
  fault_lent (why.Image block fault) (size, refused) =
      (size, λ tells. let f = refused tells in (replayed_lent f.0, f.1))
  fault_lent (why.Device clock faults) told = told
  fault_lent (why.Size blocks) (is, unlawful, idle) =
      (is, unlawful, record { seen = idle.seen; clock = idle.clock })
  fault_lent why.Memory (size, inl idle) = (size, inl (record { seen = idle.seen; clock = idle.clock }))
  fault_lent why.Memory (size, inr put) = (size, inr (λ tells. replayed_lent (put tells)))

  trace_lent : (trace : List Entry) → IsTraceOf (named start clock job) (lent_to m e) trace
      → IsTraceOf (named start clock job) e trace
  trace_lent trace t = record {
    legal = t.legal;
    time = t.time;
    safe = λ o is. record { each = (t.safe o is).each };
  }

  whole_lent : (trace : List Entry) → IsWholeRun (named start clock job) job trace (lent_to m e)
      → IsWholeRun (named start clock job) job trace e
  whole_lent trace w = record { whole = w.whole; volume = w.volume }

  ends_lent : (trace : List Entry) (before code : ℕ) (old new : SinkState)
      → Ends shown (named start clock job) job trace before old code (lent_to m e) new
      → Ends shown (named start clock job) job trace before old code e new
  ends_lent trace before code old new f = record {
    codes = f.codes;
    done = λ z. let t = f.done z in (whole_lent trace t.0, t.1);
    sink = λ z. let t = f.sink z in (whole_lent trace t.0, t.1);
    device = f.device;
    memory = f.memory;
  }

  came_lent : (trace : List Entry) (code : ℕ) (old new : SinkState)
      → IsUnopened (lent_to n d) trace old code (lent_to m e) new
      ⊎ (IsSize d.blocks × Ends shown (named start clock job) job trace d.faults old code (lent_to m e) new)
      → IsUnopened d trace old code e new
      ⊎ (IsSize d.blocks × Ends shown (named start clock job) job trace d.faults old code e new)
  came_lent trace code old new (inl u) =
      inl (record { why = u.why; is = fault_lent u.why u.is; tells = u.tells; empty = u.empty })
  came_lent trace code old new (inr f) = inr (f.0, ends_lent trace d.faults code old new f.1)

  ran_lent : (code : ℕ) (old new : SinkState) → Ran shown start clock job (lent_to n d) old code (lent_to m e) new
      → Ran shown start clock job d old code e new
  ran_lent code old new r = record {
    trace = r.trace;
    is = trace_lent r.trace r.is;
    ends = came_lent r.trace code old new r.ends;
  }

module _ (shown : List Entry → List ℕ) (start : Option Image) (clock : Option ℕ) (job : Asked) (n m : GName)
    (d e : State) where
  ended_lent : (stop : StopAsked) (halt : Option Stop) (trace : List Entry) (code : ℕ) (old new : SinkState)
      → EndsStarved shown trace old code new ⊎ EndsSo shown start clock job trace
      (stopping stop (lent_to n d) (lent_to n d) None) old code
      (stopping stop (lent_to n d) (lent_to m e) halt) new
      → EndsStarved shown trace old code new ⊎ EndsSo shown start clock job trace (stopping stop d d None) old code
      (stopping stop d e halt) new
  ended_lent stop halt trace code old new (inl starved) = inl starved
  ended_lent stop halt trace code old new (inr ends) =
      inr (came_lent shown start clock job n m (stopping stop d d None) (stopping stop d e halt) trace code old new ends)

  stopped_lent : (stop : StopAsked) (code : ℕ) (old new : SinkState)
      → RanStopped shown stop start clock job (lent_to n d) old code (lent_to m e) new
      → RanStopped shown stop start clock job d old code e new
  stopped_lent stop code old new r = record {
    halt = r.halt;
    covered = record { each = r.covered.each };
    trace = r.trace;
    is = trace_lent shown start clock job n m (stopping stop d d None) (stopping stop d e r.halt) r.trace r.is;
    safe = λ o is. record { each = (r.safe o is).each };
    ends = ended_lent stop r.halt r.trace code old new r.ends;
    cause = r.cause;
  }

  pub runs_lent : (stop : Option StopAsked) (code : ℕ) (old new : SinkState)
      → RunsBy shown stop start clock job (lent_to n d) old code (lent_to m e) new
      → RunsBy shown stop start clock job d old code e new
  runs_lent None code old new r = ran_lent shown start clock job n m d e code old new r
  runs_lent (Some stop) code old new (inl u) = inl (record {
    nine = u.nine;
    idle = record { seen = u.idle.seen; clock = u.idle.clock };
    line = u.line;
  })
  runs_lent (Some stop) code old new (inr r) = inr (stopped_lent stop code old new r)

pub begins_lent : (start : Option Image) (clock : Option ℕ) (n : GName) (d : State) → Begins start clock d
    → Begins start clock (lent_to n d)
begins_lent start clock n d b = record {
  start_is = b.start_is;
  clock_is = b.clock_is;
  quiet = λ s t tells. lent_quiet n d (b.quiet s t tells);
}

-- ---- the text

module _ (stop : Option StopAsked) (start : Option Image) (clock : Option ℕ) (s s' : SourceState) (d e : State)
    (k k' : SinkState)
    (told : IsSome s'.rest ↔ IsSome s.rest) (faults : s.faults ≤ s'.faults) (items text : List ℕ)
    (job : (rest : List ℕ) → s.rest ≡ Some rest → job_of items ≡ job_of rest) (same : text ≡ items) where
  pub no_job : (code : ℕ) (f : ParseFault) → Faults f (job_of text) → TellsFault f code k k'
      → Runs stop start clock s s' d k code d k'
  no_job code (Script f) is t = record {
    told = told;
    faults = faults;
    came_to = inr (inl (record {
      idle = record { seen = refl; clock = refl };
      fault = f;
      is = λ rest at. sym (job rest at) ∙ sym (ap job_of same) ∙ is;
      told = t;
    }));
  }
  no_job code Memory is t = record {
    told = told;
    faults = faults;
    came_to = inl (record { idle = record { seen = refl; clock = refl }; told = inr t });
  }

  pub is_run : (n m : GName) (code : ℕ) (j : Job) → job_of text ≡ Ok j
      → RunsBy trace_text stop start clock (asked j) (lent_to n d) k code (lent_to m e) k'
      → Runs stop start clock s s' d k code e k'
  is_run n m code j is r = record {
    told = told;
    faults = faults;
    came_to = inr (inr (record {
      job = j;
      is = λ rest at. sym (job rest at) ∙ sym (ap job_of same) ∙ is;
      ran = runs_lent trace_text start clock (asked j) n m d e stop code k k' r;
    }));
  }

-- ---- a workload

module _ (stop : Option StopAsked) (start : Option Image) (clock : Option ℕ) (seed : ℕ) (d e : State)
    (k k' : SinkState) (code : ℕ) where
  pub workload_unmade : code ≡ 9 → Prints memory_line k k' → RunsWorkload seed stop start clock d k code d k'
  workload_unmade nine line = inl (record { nine = nine; idle = record { seen = refl; clock = refl }; line = line })

  pub workload_run : (n m : GName) (job : Job) → job ≡ workload_of seed
      → RunsBy (summary_text seed) stop start clock (asked job) (lent_to n d) k code (lent_to m e) k'
      → RunsWorkload seed stop start clock d k code e k'
  workload_run n m job is r = inr (subst
      (λ (j : Job). RunsBy (summary_text seed) stop start clock (asked j) d k code e k') is
      (runs_lent (summary_text seed) start clock (asked job) n m d e stop code k k' r))
