-- A session that was opened or not, in the words of a run.
use Rattle.std.proofs.Common.{◌≡◌, ◌∙◌, ap, refl, sym, subst, arith, ℕ, ◌≤◌, List, [], Option, Some}
use Rattle.std.proofs.Common.{None, Result, Ok}
use Rattle.std.specs.Option.{option_map}
use Rattle.r4_base.specs.Image.{Image, IsLawful as IsSize}
use Rattle.r4_base.specs.Volume.{HasVolume}
use Rattle.r4_content.specs.Locality.{commands}
use Rattle.r4_content.specs.Meaning.{greatest_size}
use Rattle.r4_shared.specs.r4_durable.Meaning.{Beginning, BeginsWith, IsNamed, IsSafeTrace, Names, start_of}
use Rattle.r4_shared.specs.r4_history.Tables.{asked}
use Rattle.r4_shared.specs.r4_kept.Naming.{job_named, job_read, names_of}
use Rattle.r4_shared.specs.r4_kept.View.{CoreSeen}
use Rattle.r4_outside.specs.Device.{State}
use Rattle.r4_outside.specs.Sink.{SinkState}
use Rattle.r4_print.specs.Printing.{Prints as PrintsSome}
use Rattle.r4_print.specs.declared.printing.PrintFault.{PrintFault}
use Rattle.r4_script.specs.Text.{job_of}
use Rattle.r4_script.specs.declared.job.Job.{Job}
use Rattle.r4_shared.specs.r4_start.Starting.{IsOpenFault}
use Rattle.r4_shared.specs.r4_start.declared.fault.OpenWhy.{OpenWhy}
use Rattle.r4_trace.specs.Folds.{after_first}
use Rattle.r4_trace.specs.Job.{Asked}
use Rattle.r4_trace.specs.Legal.{IsLegal}
use Rattle.r4_trace.specs.declared.entry.Entry.{Entry}
use Rattle.r4_trace.specs.Traced.{broken_at, committed_in, latest}
use Rattle.r4_run.specs.Ending.{StandsSo}
use Rattle.r4_run.specs.Naming.{named}
use Rattle.r4_run.specs.Running.{Closed, IsTraceOf, Served, StandsFor}
use Rattle.r4_run.specs.declared.ending.End.TheVariants.{Opened, Unopened}
use Rattle.r4_run.specs.declared.ending.Standing.{Standing}
use Rattle.r4_run.proofs.Ends.{empty_legal, stands_for}

-- the job that the scripts name
pub job_is : (scripts : Option (List ℕ)) (text : List ℕ) (job : Job) → scripts ≡ Some text → job_of text ≡ Ok job
    → job_named scripts ≡ Some (asked job)
job_is scripts text job is spells =
    subst (λ (x : Option (List ℕ)). job_named x ≡ Some (asked job)) (sym is) (ap job_read spells)

module _ {D : Type 0} (shown : List Entry → List ℕ) (start : Option Image) (clock : Option ℕ)
    (scripts : Option (List ℕ)) (c : CoreSeen D) (e : State)
    (legal : (o : Option Beginning) → BeginsWith (names_of start clock scripts) e.blocks o
    → IsLegal (commands greatest_size) (option_map start_of o) (Some (asked c.turns.job)) c.trace.entries)
    (time : latest c.trace.entries ≤ e.clock)
    (safe : IsSafeTrace greatest_size (names_of start clock scripts) c.trace.entries e)
    (content : (b : Beginning) → IsNamed (names_of start clock scripts) e.blocks b → c.broken ≡ None → c.commit ≡ None
    → HasVolume e.blocks e.seen
    (after_first (commands greatest_size) b.content c.trace.entries (committed_in c.trace.entries)))
    (job : (text : List ℕ) → scripts ≡ Some text → job_of text ≡ Ok c.turns.job)
    (broken : c.broken ≡ broken_at c.trace.entries) where
  named_here : (text : List ℕ) → scripts ≡ Some text → job_named scripts ≡ Some (asked c.turns.job)
  named_here text is = job_is scripts text c.turns.job is (job text is)

  trace_is : (text : List ℕ) → scripts ≡ Some text → IsTraceOf (names_of start clock scripts) e c.trace.entries
  trace_is text is = record {
    legal = λ o b. subst
        (λ (j : Option Asked). IsLegal (commands greatest_size) (option_map start_of o) j c.trace.entries)
        (sym (named_here text is)) (legal o b);
    time = time;
    safe = safe;
  }

  pub closed_so : (s : Standing) (printed : Result (Unit {0}) PrintFault) (old new : SinkState) → StandsSo c s
      → PrintsSome (shown c.trace.entries) old printed new → Closed shown start clock scripts old s printed e new
  closed_so s printed old new so prints = record {
    job = asked c.turns.job;
    trace = c.trace.entries;
    named_job = named_here;
    is = trace_is;
    stands = stands_for (names_of start clock scripts) c e s so content broken;
    prints = prints;
  }

module _ (shown : List Entry → List ℕ) (start : Option Image) (clock : Option ℕ) (scripts : Option (List ℕ))
    (text : List ℕ) (job : Job) (scripts_are : scripts ≡ Some text) (spells : job_of text ≡ Ok job) (d e : State)
    (old new : SinkState) where
  names_are : names_of start clock scripts ≡ named start clock (asked job)
  names_are = ap (λ (j : Option Asked). record { start = start; clock = clock; job = j })
      (job_is scripts text job scripts_are spells)

  pub unopened_so : (why : OpenWhy) → IsOpenFault d why e
      → IsSafeTrace greatest_size (names_of start clock scripts) [] e
      → Served shown start clock (asked job) d old (Unopened why) e old
  unopened_so why is safe = record {
    trace = [];
    is = record {
      legal = λ o b. empty_legal (commands greatest_size) (option_map start_of o) (asked job);
      time = omega arith;
      safe = subst (λ (r : Names). IsSafeTrace greatest_size r [] e) names_are safe;
    };
    came_to = (is, refl, refl);
  }

  pub served_so : (s : Standing) (printed : Result (Unit {0}) PrintFault) → IsSize d.blocks
      → Closed shown start clock scripts old s printed e new
      → Served shown start clock (asked job) d old (Opened s printed) e new
  served_so s printed size c = record {
    trace = c.trace;
    is = subst (λ (r : Names). IsTraceOf r e c.trace) names_are (c.is text scripts_are);
    came_to = (
      size,
      subst (λ (j : Asked). StandsFor (named start clock (asked job)) j c.trace e s) same
          (subst (λ (r : Names). StandsFor r c.job c.trace e s) names_are c.stands),
      c.prints,
    );
  }
    where
      same : c.job ≡ asked job
      same = some_same (sym (c.named_job text scripts_are) ∙ job_is scripts text job scripts_are spells)
        where
          some_same : {a b : Asked} → Some a ≡ Some b → a ≡ b
          some_same {a} {b} is = cc (is)
