-- What is answered, by what replay answers.
use Rattle.std.proofs.Common.{◌≡◌, inl, inr, ⊎_elim, ℕ, refl, sym, subst, arith, Ok, Err}
use Rattle.r4_outside.specs.Device.{State}
use Rattle.r4_outside.specs.Sink.{SinkState, Appends}
use Rattle.r4_replay.specs.Replay.{Replayed}
use Rattle.r4_replay.specs.declared.fault.ReplayFault.{ReplayFault}
use Rattle.r4_replay.specs.declared.replaying.PlacedLog.{PlacedLog}
use Rattle.r4_replay.specs.declared.fault.ReplayFault.TheVariants.{Log, Device, Size, Memory}
use Rattle.r4_lines.specs.Printed.{Prints}
use Rattle.r4_offline.specs.Answers.{Replays, TellsFault}
use Rattle.r4_lines.specs.Lines.{replayed_line, device_line, size_line}

module _ (d d' : State) (k k' : SinkState) where
  pub told_done : {T E : Type 0} (log : PlacedLog) (v : T) → Replayed d (Ok log) d' → Appends {E = E} (replayed_line log.count) k (Ok v) k' → Replays d k 0 d' k'
  told_done {T} {E} log v was got = record {
    codes = inl refl;
    done = λ is. (log.count, record { lawful = was.0; none = was.1; put = was.2 }, record { told = got.told; faults = got.faults; cause = tt; whole = got.whole; part = λ before is. tt });
    sink = λ is. absurd (omega (arith, is));
    device = λ is. absurd (omega (arith, is));
    image = λ is. absurd (omega (arith, is));
    size = λ is. absurd (omega (arith, is));
    size_only = λ out. absurd (⊎_elim (λ few. omega (arith, few, was.0.0)) (λ many. omega (arith, many, was.0.1)) out);
    memory = λ is. absurd (omega (arith, is));
    complete = λ lawful tells fine dev out. inl refl;
  }

  pub told_sink : {T E : Type 0} (log : PlacedLog) (e : E) → Replayed d (Ok log) d' → Appends {T = T} (replayed_line log.count) k (Err e) k' → Replays d k 5 d' k'
  told_sink {T} {E} log e was got = record {
    codes = inr (inl refl);
    done = λ is. absurd (omega (arith, is));
    sink = λ is. (log.count, record { lawful = was.0; none = was.1; put = was.2 }, record { told = got.told; faults = got.faults; cause = got.cause; whole = λ before is. tt; part = got.part }, got.cause);
    device = λ is. absurd (omega (arith, is));
    image = λ is. absurd (omega (arith, is));
    size = λ is. absurd (omega (arith, is));
    size_only = λ out. absurd (⊎_elim (λ few. omega (arith, few, was.0.0)) (λ many. omega (arith, many, was.0.1)) out);
    memory = λ is. absurd (omega (arith, is));
    complete = λ lawful tells fine dev out. absurd (out got.cause);
  }

  pub told_fault : (code : ℕ) (fault : ReplayFault) → Replayed d (Err fault) d' → TellsFault fault code k k' → Replays d k code d' k'
  told_fault code (Log block fault) was told = record {
    codes = inr (inr (inr (inl told.0)));
    done = λ is. absurd (omega (arith, is, told.0));
    sink = λ is. absurd (omega (arith, is, told.0));
    device = λ is. absurd (omega (arith, is, told.0));
    image = λ is. (record { block = block.0; fault = fault }, record { lawful = was.0; idle = was.1; refused = was.2 }, told.1);
    size = λ is. absurd (omega (arith, is, told.0));
    size_only = λ out. absurd (⊎_elim (λ few. omega (arith, few, was.0.0)) (λ many. omega (arith, many, was.0.1)) out);
    memory = λ is. absurd (omega (arith, is, told.0));
    complete = λ lawful tells fine dev out. absurd (fine (record { block = block.0; fault = fault }) (was.2 tells));
  }
  told_fault code (Device clock faults) was told = record {
    codes = inr (inr (inl told.0));
    done = λ is. absurd (omega (arith, is, told.0));
    sink = λ is. absurd (omega (arith, is, told.0));
    device = λ is. (was.0, subst (λ (f : ℕ). Prints (device_line d'.clock f) k k') was.2 (subst (λ (c : ℕ). Prints (device_line c faults) k k') was.1 told.1));
    image = λ is. absurd (omega (arith, is, told.0));
    size = λ is. absurd (omega (arith, is, told.0));
    size_only = λ out. inr told.0;
    memory = λ is. absurd (omega (arith, is, told.0));
    complete = λ lawful tells fine dev out. absurd (dev was.0);
  }
  told_fault code (Size blocks) was told = record {
    codes = inr (inr (inr (inr (inl told.0))));
    done = λ is. absurd (omega (arith, is, told.0));
    sink = λ is. absurd (omega (arith, is, told.0));
    device = λ is. absurd (omega (arith, is, told.0));
    image = λ is. absurd (omega (arith, is, told.0));
    size = λ is. (⊎_elim (λ few. inl (omega (arith, few, was.0))) (λ many. inr (omega (arith, many, was.0))) was.1, was.2, subst (λ (n : ℕ). Prints (size_line n) k k') was.0 told.1);
    size_only = λ out. inl told.0;
    memory = λ is. absurd (omega (arith, is, told.0));
    complete = λ lawful tells fine dev out. absurd (⊎_elim (λ few. omega (arith, few, was.0, lawful.0)) (λ many. omega (arith, many, was.0, lawful.1)) was.1);
  }
  told_fault code Memory was told = record {
    codes = inr (inr (inr (inr (inr told.0))));
    done = λ is. absurd (omega (arith, is, told.0));
    sink = λ is. absurd (omega (arith, is, told.0));
    device = λ is. absurd (omega (arith, is, told.0));
    image = λ is. absurd (omega (arith, is, told.0));
    size = λ is. absurd (omega (arith, is, told.0));
    size_only = λ out. absurd (⊎_elim (λ few. omega (arith, few, was.0.0)) (λ many. omega (arith, many, was.0.1)) out);
    memory = λ is. (was.1, told.1);
    complete = λ lawful tells fine dev out. inr told.0;
  }

-- the same fault
pub tells_same : (fault known : ReplayFault) (code : ℕ) (k k' : SinkState) → fault ≡ known → TellsFault known code k k' → TellsFault fault code k k'
tells_same fault known code k k' is told = subst (λ (f : ReplayFault). TellsFault f code k k') (sym is) told
