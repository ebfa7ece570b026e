-- What a run on a device that stops leaves of the device below.
use Rattle.std.proofs.Common.{◌≡◌, ◌⊎◌, ◌↔◌, ◌∙◌, ap, arith, inl, inr, refl, sym, subst, ⊎_elim, ℕ, ◌≤◌}
use Rattle.std.proofs.Common.{min, Bool, true, false, ◌+◌, List, [], ◌∷◌, Option, Some, None, IsSome}
use Rattle.std.proofs.lemmas.Bool.{cases_lt}
use Rattle.r4_base.specs.Image.{Image}
use Rattle.r4_base.specs.Value.{Content}
use Rattle.r4_content.specs.Locality.{Meaning, commands}
use Rattle.r4_content.specs.Meaning.{greatest_size}
use Rattle.r4_content.specs.declared.command.Command.{Command}
use Rattle.r4_content.specs.declared.reply.Reply.{Reply}
use Rattle.r4_devices.specs.Stop.{Begins as BeginsOver, IsCovered, StopView, stop_state, stopped_after, told}
use Rattle.r4_devices.specs.declared.torn.Stop.{Stop}
use Rattle.r4_devices.proofs.Stopping.{begins_quiet, tells_in}
use Rattle.r4_shared.specs.r4_durable.Meaning.{IsSafeTrace, Names}
use Rattle.r4_lines.specs.Lines.{memory_line}
use Rattle.r4_lines.specs.Printed.{Prints}
use Rattle.r4_outside.specs.Device.{Goes, Rose, State, TellsCrashes, Untouched}
use Rattle.r4_outside.specs.Sink.{SinkState}
use Rattle.r4_shared.specs.r4_start.Starting.{IsOpenFault}
use Rattle.r4_shared.specs.r4_start.declared.fault.OpenWhy.{OpenWhy}
use Rattle.r4_shared.specs.r4_start.declared.fault.OpenWhy.TheVariants as why
use Rattle.r4_trace.proofs.FirstOnes.{all_by}
use Rattle.r4_trace.proofs.Stepping.{said_is_acked}
use Rattle.r4_trace.specs.Job.{Asked}
use Rattle.r4_trace.specs.Order.{IsOrdered}
use Rattle.r4_trace.specs.Safe.{Holds}
use Rattle.r4_trace.specs.Traced.{IsAcked, IsSaid, committed_by, latest}
use Rattle.r4_trace.specs.declared.entry.Entry.{Entry}
use Rattle.r4_trace.specs.declared.entry.Entry.TheVariants.{Acked}
use Rattle.r4_words.specs.Options.{StopAsked}
use Rattle.r4_run.specs.Ending.{TellsWhy}
use Rattle.r4_run.specs.Naming.{Begins, named}
use Rattle.r4_run.specs.Running.{EndsSo}
use Rattle.r4_run.specs.Stopping.{EndsOver, EndsStarved, RanOver, RanStopped, RunsBy, first_stop, stopping}

-- ---- the beginning

begins_over : (u : ℕ) (d : State) → BeginsOver d (stop_state u None d)
begins_over u d = record {
  blocks = refl;
  seen = refl;
  clock = refl;
  faults = refl;
  lender = refl;
  may_hold = λ tells m b s x. (λ h. h.1, λ h. (tells, h));
  none = λ m b s x h. h.0;
}

begins_stopping : (start : Option Image) (clock : Option ℕ) (u : ℕ) (d : State) → Begins start clock d
    → Begins start clock (stop_state u None d)
begins_stopping start clock u d b = record {
  start_is = b.start_is;
  clock_is = b.clock_is;
  quiet = λ s t tells.
      begins_quiet d (stop_state u None d) (begins_over u d) (b.quiet s t (tells_in u None d tells));
}

pub begins_view : {D : Type 0} (state : D → State) (start : Option Image) (clock : Option ℕ) (dev : D)
    (device : StopView D)
    (writes tear : ℕ) (pick : Option ℕ) → device ≡ stopped_after dev (state dev).clock writes tear pick
    → Begins start clock (state dev) → Begins start clock (told state device)
begins_view state start clock dev device writes tear pick made b =
    subst (λ v. Begins start clock (told state v)) (sym made) (begins_stopping start clock _ (state dev) b)

-- ---- a trace that is crash-safe

acked_said : (trace : List Entry) (m t : ℕ) → IsAcked trace m t → IsSaid trace t
acked_said [] m t a = a
acked_said (Acked s u c ∷ older) m t (inl a) = inl (a.1, a.2)
acked_said (Acked s u c ∷ older) m t (inr a) = inr (acked_said older m t a)
acked_said (e ∷ older) m t a = acked_said older m t a

-- no clock of the trace is above this one: what holds at it holds at each later moment
module _ (trace : List Entry) (ordered : IsOrdered trace) (top : ℕ) (time : latest trace ≤ top) (m : ℕ) where
  same_by : committed_by (min m top) trace ≡ committed_by m trace
  same_by = ⊎_elim
      (λ above. let is : min m top ≡ top = omega (arith, above) in
      ap (λ n. committed_by n trace) is ∙ all_by trace top ordered time
      ∙ sym (all_by trace m ordered (omega (arith, time, above))))
      (λ below. let is : min m top ≡ m = omega (arith, below) in ap (λ n. committed_by n trace) is)
      (cases_lt top m)

  acked_by : (t : ℕ) → IsAcked trace m t → IsAcked trace (min m top) t
  acked_by t a = ⊎_elim
      (λ above. let is : top ≡ min m top = omega (arith, above) in
      subst (λ n. IsAcked trace n t) is (said_is_acked trace top t ordered time (acked_said trace m t a)))
      (λ below. let is : m ≡ min m top = omega (arith, below) in subst (λ n. IsAcked trace n t) is a)
      (cases_lt top m)

  holds_on : (means : Image → Content → Type 0) (w : Meaning Command Reply) (start : Option Content)
      (clock : Option ℕ)
      (image : Image) → ((t : ℕ) → clock ≡ Some t → t ≤ top) → Holds means w start clock trace (min m top) image
      → Holds means w start clock trace m image
  holds_on means w start clock image early h = record {
    k = h.k;
    at_least = subst (λ n. n ≤ h.k) same_by h.at_least;
    at_most = subst (λ n. h.k ≤ n + 1) same_by h.at_most;
    in_sealed = h.in_sealed;
    acked = λ t a. h.acked t (acked_by t a);
    ended = h.ended;
    has = λ x t is at low. h.has x t is at (omega (arith, low, early t at));
  }

module _ (r : Names) (trace : List Entry) (u : ℕ) (halt : Option Stop) (e : State) where
  safe_below : IsCovered e (stop_state u halt e) → (TellsCrashes (stop_state u halt e) ↔ TellsCrashes e)
      → IsOrdered trace → latest trace ≤ (stop_state u halt e).clock
      → ((t : ℕ) → r.clock ≡ Some t → t ≤ (stop_state u halt e).clock)
      → IsSafeTrace greatest_size r trace (stop_state u halt e) → IsSafeTrace greatest_size r trace e
  safe_below covered tells ordered time early safe o is = record {
    each = λ told m image within left.
        let top = (stop_state u halt e).clock in
        holds_on trace ordered top time m _ (commands greatest_size) _ r.clock image early
        ((safe o is).each (tells.1 told) (min m top) image (omega arith) (covered.each told m image within left));
  }

-- ---- the cause of a failure

module _ (shown : List Entry → List ℕ) (start : Option Image) (clock : Option ℕ) (job : Asked) (trace : List Entry)
    (d e : State) (old new : SinkState) (code : ℕ) (six : code ≡ 6) where
  unopened_rose : (w : OpenWhy) → IsOpenFault d w e → TellsWhy w code old new → Rose d.faults e.faults
  unopened_rose (why.Log block fault) is tells = absurd (cc (sym six ∙ tells.0))
  unopened_rose (why.Image block fault) is tells = absurd (cc (sym six ∙ tells.0))
  unopened_rose (why.Device c f) is tells = is.0
  unopened_rose (why.Size blocks) is tells = absurd (cc (sym six ∙ tells.0))
  unopened_rose why.Memory is tells = absurd (cc (sym six ∙ tells.0))

  ends_rose : EndsSo shown start clock job trace d old code e new → Rose d.faults e.faults
  ends_rose (inl u) = unopened_rose u.why u.is u.tells
  ends_rose (inr ends) = (ends.1.device six).1

module _ (shown : List Entry → List ℕ) (start : Option Image) (clock : Option ℕ) (job : Asked) (trace : List Entry)
    (u : ℕ) (d e : State) (old new : SinkState) (code : ℕ) where
  may_fail : (starved : Bool) (halt : Option Stop)
      → EndsOver starved shown start clock job trace (stop_state u None d) old code (stop_state u halt e) new
      → (IsSome halt → starved ≡ false → u ≤ e.clock) → code ≡ 6 → Rose d.faults e.faults ⊎ (u ≤ e.clock)
  may_fail true halt starves reached six = absurd (cc (sym six ∙ starves.nine))
  may_fail false None ends reached six =
      inl (ends_rose shown start clock job trace (stop_state u None d) (stop_state u None e) old new code six ends)
  may_fail false (Some s) ends reached six = inr (reached refl refl)

  ends_either : (starved : Bool) (halt : Option Stop)
      → EndsOver starved shown start clock job trace (stop_state u None d) old code (stop_state u halt e) new
      → EndsStarved shown trace old code new ⊎ EndsSo shown start clock job trace (stop_state u None d) old code
      (stop_state u halt e) new
  ends_either true halt ends = inl ends
  ends_either false halt ends = inr ends

-- ---- the run

module _ (shown : List Entry → List ℕ) (stop : StopAsked) (start : Option Image) (clock : Option ℕ) (job : Asked)
    (d e : State) (old new : SinkState) (code : ℕ) where
  stopped_so : (halt : Option Stop) (starved : Bool) → Begins start clock d
      → Goes (stopping stop d d None) (stopping stop d e halt) → IsCovered e (stopping stop d e halt)
      → (TellsCrashes (stopping stop d e halt) ↔ TellsCrashes e)
      → (IsSome halt → starved ≡ false → first_stop stop d ≤ e.clock)
      → RanOver shown start clock job (stopping stop d d None) old starved code (stopping stop d e halt) new
      → RanStopped shown stop start clock job d old code e new
  stopped_so halt starved begins goes covered tells reached ran = record {
    halt = halt;
    covered = covered;
    trace = ran.trace;
    is = ran.is;
    safe = safe_below (named start clock job) ran.trace (first_stop stop d) halt e covered tells
        (ran.is.legal None tt).so_far.order ran.is.time
        (λ t at. omega (arith, begins.clock_is t at, goes.time)) ran.is.safe;
    ends = ends_either shown start clock job ran.trace (first_stop stop d) d e old new code starved halt ran.ends;
    cause = may_fail shown start clock job ran.trace (first_stop stop d) d e old new code starved halt ran.ends reached;
  }

  same_until : {n m : ℕ} → Some n ≡ Some m → n ≡ m
  same_until {n} {m} is = cc (is)

  stopped_at : (u : ℕ) (halt : Option Stop) (starved : Bool) → u ≡ first_stop stop d → Begins start clock d
      → Goes (stopping stop d d None) (stop_state u halt e) → IsCovered e (stop_state u halt e)
      → (TellsCrashes (stop_state u halt e) ↔ TellsCrashes e) → (IsSome halt → starved ≡ false → u ≤ e.clock)
      → RanOver shown start clock job (stopping stop d d None) old starved code (stop_state u halt e) new
      → RanStopped shown stop start clock job d old code e new
  stopped_at u halt starved at begins goes covered tells reached ran = stopped_so halt starved begins
      (subst (λ n. Goes (stopping stop d d None) (stop_state n halt e)) at goes)
      (subst (λ n. IsCovered e (stop_state n halt e)) at covered)
      (subst (λ n. TellsCrashes (stop_state n halt e) ↔ TellsCrashes e) at tells)
      (λ some fed. subst (λ n. n ≤ e.clock) at (reached some fed))
      (subst (λ n. RanOver shown start clock job (stopping stop d d None) old starved code (stop_state n halt e) new) at
      ran)

module _ {D : Type 0} (state : D → State) (shown : List Entry → List ℕ) (stop : StopAsked) (start : Option Image)
    (clock : Option ℕ) (job : Asked) (dev : D) (device after : StopView D) (old new : SinkState) (code : ℕ) where
  pub stopped_view : device ≡ stopped_after dev (state dev).clock stop.writes stop.tear stop.pick
      → Begins start clock (state dev) → Goes (told state device) (told state after)
      → IsCovered (state after.dev) (told state after)
      → (TellsCrashes (told state after) ↔ TellsCrashes (state after.dev))
      → (IsSome after.stop → after.starved ≡ false → after.until ≤ (state after.dev).clock)
      → RanOver shown start clock job (told state device) old after.starved code (told state after) new
      → RanStopped shown stop start clock job (state dev) old code (state after.dev) new
  stopped_view made begins goes covered tells reached ran =
      let went : Goes (stopping stop (state dev) (state dev) None) (told state after) = subst
      (λ v. Goes (told state v) (told state after)) made goes in
      stopped_at shown stop start clock job (state dev) (state after.dev) old new code after.until after.stop after.starved
      (same_until shown stop start clock job (state dev) (state after.dev) old new code went.stop) begins went covered
      tells reached
      (subst (λ v. RanOver shown start clock job (told state v) old after.starved code (told state after) new) made ran)

-- what comes back untouched
pub unmade : {D : Type 0} (state : D → State) (shown : List Entry → List ℕ) (stop : StopAsked) (start : Option Image) (clock : Option ℕ)
    (job : Asked)
    (dev back : D) (old new : SinkState) (code : ℕ) → back ≡ dev → code ≡ 9 → Prints memory_line old new
    → RunsBy shown (Some stop) start clock job (state dev) old code (state back) new
unmade state shown stop start clock job dev back old new code same nine line = inl (record {
  nine = nine;
  idle = subst (λ x. Untouched (state dev) (state x)) (sym same) (record { seen = refl; clock = refl });
  line = line;
})
