-- What reading the log leaves, and what it finds.
use Rattle.std.specs.Prelude.{◌≡◌, ℕ, Result, Ok, Err}
use Rattle.r4_base.specs.Refusal.{Refusal}
use Rattle.r4_outside.specs.Device.{State, Goes, TellsReads, Rose}
use Rattle.r4_replay.specs.declared.fault.ReplayFault.{ReplayFault}
use Rattle.r4_replay.specs.declared.fault.ReplayFault.TheVariants.{Device, Memory as NoMemory, Log as Refused}
use Rattle.r4_replay.specs.declared.fault.Stop.{Stop}
use Rattle.r4_replay.specs.declared.fault.Stop.TheVariants.{Failed, Memory, Log}

-- Nothing was written.
pub record Idles (old new : State) : Type 0 where
  pub goes : Goes old new
  pub seen : new.seen ≡ old.seen
  pub clock : new.clock ≡ old.clock

-- What was found is what the image of a device says, where the device tells what reading gives; a failure has its cause.
abbrev pub Finds : {X Y : Type 0} → (Y → X) → State → Result X Refusal → Result Y Stop → State → Type 0
Finds view old says (Ok y) new = TellsReads old → says ≡ Ok (view y)
Finds view old says (Err (Log b f)) new = TellsReads old → says ≡ Err (record { block = b; fault = f })
Finds view old says (Err Failed) new = Rose old.faults new.faults
Finds view old says (Err Memory) new = Unit {0}

-- a finding as it is answered
abbrev pub as_stop : {X : Type 0} → Result X Refusal → Result X Stop
as_stop (Ok x) = Ok x
as_stop (Err r) = Err (Log r.block r.fault)

-- what is answered where reading the log stopped
abbrev pub fault_by : (clock faults : ℕ) → Stop → ReplayFault
fault_by clock faults Failed = Device clock faults
fault_by clock faults Memory = NoMemory
fault_by clock faults (Log b f) = Refused (record { 0 = b }) f
