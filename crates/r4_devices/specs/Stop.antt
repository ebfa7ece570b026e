-- What a stopped device tells.
use Rattle.std.specs.Prelude.{◌≡◌, ◌⊎◌, ℕ, ◌+◌, ◌-◌, ◌^◌, ◌<◌, ◌≤◌, ◌==◌, min, List, [], All, insert, count_by, nat_lt, Bool, true, false, not, if◌then◌else◌, Option, None, Some, Result, Ok, Err, IsErr}
use Rattle.std.specs.List.{list_any}
use Rattle.r4_base.specs.Image.{Image, block_at, sector}
use Rattle.r4_outside.specs.Device.{State, TellsReads, TellsCrashes, Leaves, Goes, Writes, Rose, next}
use Rattle.r4_outside.specs.Mix.{is_marked}
use Rattle.r4_devices.specs.declared.torn.Stop.{Stop}
use Rattle.r4_devices.specs.declared.torn.Held.{Held}
use Rattle.r4_devices.specs.Picks.{Changes, left_by}

-- the device's moment for a moment of the stopped one
abbrev pub limit : Option Stop → ℕ → ℕ
limit None m = m
limit (Some stop) m = min m stop.cut

abbrev pub clock_by : Option Stop → ℕ → ℕ
clock_by None clock = clock
clock_by (Some stop) clock = stop.clock

abbrev pub faults_by : Option Stop → ℕ → ℕ
faults_by None faults = faults
faults_by (Some stop) faults = stop.faults

-- Before the stop all is as the device tells it. From then on a crash leaves what it might leave right after the torn write.
-- Where the device does not tell what a crash leaves, nothing is told of that here.
abbrev pub stop_state : ℕ → Option Stop → State → State
stop_state until stop d = record {
  blocks = d.blocks;
  seen = d.seen;
  may_hold = λ m b s x. TellsCrashes d × d.may_hold (limit stop m) b s x;
  clock = clock_by stop d.clock;
  faults = faults_by stop d.faults;
  lender = d.lender;
  stop = Some until;
}

-- What a contract sees of a stopped device.
pub record StopView (D : Type 0) : Type 0 where
  pub dev : D
  -- how many writes still pass, and which sectors of the next one are written
  pub left : ℕ
  pub tear : ℕ
  -- the number that picks which sectors go back, where some do
  pub pick : Option ℕ
  -- with a pick: the blocks that were written since the last good sync, as they read before, in rising order
  pub held : List Held
  -- whether it stopped for want of memory, and what it counts since it stopped
  pub starved : Bool
  pub stop : Option Stop
  -- the first moment at which the stop may come
  pub until : ℕ

-- a device that was just made: so many writes pass
abbrev pub stopped_after : {D : Type 0} → D → (clock stop tear : ℕ) → Option ℕ → StopView D
stopped_after dev clock stop tear pick = record {
  dev = dev;
  left = stop;
  tear = tear;
  pick = pick;
  held = [];
  starved = false;
  stop = None;
  until = min (clock + stop) (2 ^ 64 - 1);
}

-- ---- what a stopped device keeps

-- Each sector that is held back is possible now.
pub record HeldAt (d : State) (held : Held) : Type 0 where
  pub below : held.at < d.blocks
  pub possible : TellsCrashes d → (s : ℕ) → s < 8 → d.may_hold d.clock held.at s (sector held.block s)

-- The device after the stop's call.
pub record IsStopped (d : State) (stop : Stop) : Type 0 where
  pub cut : stop.cut ≤ d.clock
  pub clock : stop.cut ≤ stop.clock
  pub later : TellsCrashes d → (m b s : ℕ) (x : List ℕ) → stop.cut ≤ m → m ≤ d.clock → s < 8 → d.may_hold m b s x → d.may_hold stop.cut b s x

pub record IsKept (d : State) (stop : Option Stop) (until left : ℕ) (starved : Bool) (blocks : List Held) : Type 0 where
  pub stopped : (s : Stop) → stop ≡ Some s → IsStopped d s
  pub blocks_held : stop ≡ None → All (HeldAt d) blocks
  -- the writes that are left lead to the stop, and it is not before its moment
  pub count : stop ≡ None → until ≤ d.clock + left
  pub reached : (s : Stop) → stop ≡ Some s → starved ≡ false → until ≤ d.clock
  pub fits : until ≤ 2 ^ 64 - 1

-- ---- what calls do to the device below

-- From one state to the other nothing is written, and nothing is read anew.
pub record Idles (old new : State) : Type 0 where
  pub goes : Goes old new
  pub seen : new.seen ≡ old.seen
  pub clock : new.clock ≡ old.clock

-- From one state to the other a crash comes to leave no more than it might have left at the start.
pub record Keeps (old new : State) : Type 0 where
  pub goes : Goes old new
  pub within : TellsCrashes old → (m b s : ℕ) (x : List ℕ) → old.clock ≤ m → m ≤ new.clock → s < 8 → new.may_hold m b s x → old.may_hold old.clock b s x
  pub no_less : (b s : ℕ) (x : List ℕ) → old.may_hold old.clock b s x → new.may_hold new.clock b s x

-- The marked sectors of a block are written, by one call at most.
pub record Tears (mask at : ℕ) (block : List ℕ) (old new : State) : Type 0 where
  pub goes : Goes old new
  pub one : new.clock ≤ old.clock + 1
  pub no_more : TellsCrashes old → (b s : ℕ) (x : List ℕ) → s < 8 → new.may_hold new.clock b s x → old.may_hold old.clock b s x ⊎ ((b ≡ at) × (is_marked mask s ≡ true) × (x ≡ sector block s))
  pub no_less : (b s : ℕ) (x : List ℕ) → old.may_hold old.clock b s x → new.may_hold new.clock b s x

-- The stop's call: of its write only the sectors whose bits are set in `tear`, and a crash right after that leaves no less than
-- one at any later moment.
pub record Halts (tear at : ℕ) (block : List ℕ) (pick : Option ℕ) (held : List Held) (old : State) (stop : Stop) (new : State) : Type 0 where
  pub goes : Goes old new
  pub after : old.clock ≤ stop.cut
  pub short : stop.cut ≤ next old.clock
  pub clock : stop.clock ≡ next old.clock
  pub faults : stop.faults ≡ next new.faults
  pub fits : new.faults ≤ stop.faults
  pub stopped : IsStopped new stop
  pub no_more : TellsCrashes old → (b s : ℕ) (x : List ℕ) → s < 8 → new.may_hold stop.cut b s x → old.may_hold old.clock b s x ⊎ ((b ≡ at) × (is_marked tear s ≡ true) × (x ≡ sector block s))
  pub no_less : (b s : ℕ) (x : List ℕ) → old.may_hold old.clock b s x → new.may_hold stop.cut b s x
  pub changes : old.clock < 2 ^ 64 - 1 → Changes (left_by at block tear pick held) old new
  -- at the clock's end nothing is touched
  pub over : old.clock ≡ 2 ^ 64 - 1 → (new.seen ≡ old.seen) × (new.clock ≡ old.clock)

-- ---- blocks that are held back

abbrev pub is_held : ℕ → List Held → Bool
is_held at held = list_any (λ h. h.at == at) held

-- Is a block to be held back before it is written?
abbrev pub is_wanted : Option ℕ → ℕ → List Held → Bool
is_wanted None at held = false
is_wanted (Some pick) at held = not (is_held at held)

-- one block more, behind those that are below it
abbrev pub hold_back : ℕ → List ℕ → List Held → List Held
hold_back at content held = insert held (count_by (λ h. nat_lt h.at at) held) (record { at = at; block = content })

-- What is held back before a write: the block as it reads, where that is wanted.
pub record IsHeldFirst (wanted : Bool) (at : ℕ) (d : State) (before after : List Held) : Type 0 where
  pub content : List ℕ
  pub reads : TellsReads d → content ≡ block_at d.seen at
  pub held : after ≡ (if wanted then hold_back at content before else before)

-- What comes of holding a block back: it is done, or the block cannot be read, or there is no memory.
abbrev pub Holds : {E : Type 0} → (wanted : Bool) (at : ℕ) → State → List Held → Result Bool E → List Held → State → Type 0
Holds wanted at old before (Ok true) after new = IsHeldFirst wanted at old before after
Holds wanted at old before (Ok false) after new = (wanted ≡ true) × (after ≡ before) × Rose old.faults new.faults
Holds wanted at old before (Err e) after new = (wanted ≡ true) × (after ≡ before)

-- ---- the stopped device's own calls

-- The stop of a call of which nothing is written.
abbrev pub stop_here : State → Stop
stop_here d = record { cut = d.clock; clock = next d.clock; faults = next d.faults }

-- The count of faults of a call that fails after the stop, and with it the clock of a write or a sync.
abbrev pub after_fault : Stop → Stop
after_fault stop = record stop { faults = next stop.faults }

abbrev pub after_miss : Stop → Stop
after_miss stop = record { cut = stop.cut; clock = next stop.clock; faults = next stop.faults }

-- A call after the stop: it fails, and nothing but the counts changes.
pub record Refuses {D T E : Type 0} (stop : Stop) (old : StopView D) (result : Result T E) (new : StopView D) : Type 0 where
  pub failed : IsErr result
  pub view : new ≡ record old { stop = Some stop }

-- A write that passes: the device has made it, and its answer is handed on, but for a block that was to be held back and could
-- not be read.
pub record Passes {D T E : Type 0} (state : D → State) (at : ℕ) (block : List ℕ) (old : StopView D) (result : Result T E) (new : StopView D) : Type 0 where
  pub answer : Result T E
  pub wrote : Writes at block (state old.dev) answer (state new.dev)
  pub held : (IsHeldFirst (is_wanted old.pick at old.held) at (state old.dev) old.held new.held × (result ≡ answer))
      ⊎ ((is_wanted old.pick at old.held ≡ true) × (new.held ≡ old.held) × Rose (state old.dev).faults (state new.dev).faults × IsErr result)
  pub view : new ≡ record old { dev = new.dev; left = old.left - 1; held = new.held }

-- The write in which it becomes starved: nothing of it is written.
pub record Starves {D T E : Type 0} (state : D → State) (at : ℕ) (old : StopView D) (result : Result T E) (new : StopView D) : Type 0 where
  pub failed : IsErr result
  pub wanted : is_wanted old.pick at old.held ≡ true
  pub idles : Idles (state old.dev) (state new.dev)
  pub view : new ≡ record old { dev = new.dev; starved = true; stop = Some (stop_here (state new.dev)) }

-- The write that is torn.
pub record Stops {D T E : Type 0} (state : D → State) (at : ℕ) (block : List ℕ) (old : StopView D) (result : Result T E) (new : StopView D) : Type 0 where
  pub failed : IsErr result
  pub stop : Stop
  pub halts : Halts old.tear at block old.pick old.held (state old.dev) stop (state new.dev)
  pub view : new ≡ record old { dev = new.dev; stop = Some stop }

-- what a stopped device tells
abbrev pub told : {D : Type 0} → (D → State) → StopView D → State
told state view = stop_state view.until view.stop (state view.dev)

-- what is held back after a sync
abbrev pub held_after : {T E : Type 0} → Result T E → List Held → List Held
held_after (Ok v) held = []
held_after (Err e) held = held

-- Each image that a crash of the device may leave is one that a crash of the stopped device may leave, at the same moment or at its last one.
pub record IsCovered (d over : State) : Type 0 where
  pub each : TellsCrashes d → (m : ℕ) (image : Image) → m ≤ d.clock → Leaves d m image → Leaves over (min m over.clock) image

-- The stopped device at its making tells what the device tells.
pub record Begins (d over : State) : Type 0 where
  pub blocks : over.blocks ≡ d.blocks
  pub seen : over.seen ≡ d.seen
  pub clock : over.clock ≡ d.clock
  pub faults : over.faults ≡ d.faults
  pub lender : over.lender ≡ d.lender
  pub may_hold : TellsCrashes d → (m b s : ℕ) (x : List ℕ) → (over.may_hold m b s x → d.may_hold m b s x) × (d.may_hold m b s x → over.may_hold m b s x)
  pub none : (m b s : ℕ) (x : List ℕ) → over.may_hold m b s x → TellsCrashes d
