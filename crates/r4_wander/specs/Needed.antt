-- No write of a commit falls on a needed block (docs/commit.md, "Needed blocks").
use Rattle.std.specs.Prelude.{ℕ, ◌<◌, ◌≤◌, List}
use Rattle.r4_base.specs.Image.{Image}
use Rattle.r4_base.specs.Value.{Content}
use Rattle.r4_base.specs.Volume.{HasVolume, Needs}
use Rattle.r4_outside.specs.Device.{State, Leaves}

-- From one state to the other each block is spared that the volume of some image needs which a crash
-- at any moment of the way leaves.
pub record SparesNeeded (old new : State) : Type 0 where
  pub each : (k : ℕ) (image : Image) (m : Content) (v : HasVolume old.blocks image m) (b t s : ℕ) (x : List ℕ) → old.clock ≤ k → k ≤ new.clock
      → Leaves new k image → Needs v b → old.clock ≤ t → t ≤ new.clock → s < 8 → new.may_hold t b s x → old.may_hold old.clock b s x
