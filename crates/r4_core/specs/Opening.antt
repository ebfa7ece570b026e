-- What `open` answers: a core at the start of its job, on the device with its log in place; or why
-- there is none (docs/core.md, "Opening").
use Rattle.std.specs.Prelude.{◌≡◌, ℕ, [], None}
use Rattle.r4_base.specs.Volume.{root_of}
use Rattle.r4_ready.specs.r4_durable.Kept.{space_of}
use Rattle.r4_start.specs.r4_open.declared.opened.Opened.{Opened}
use Rattle.r4_outside.specs.Device.{State}
use Rattle.r4_script.specs.declared.job.Job.{Job}
use Rattle.r4_turns.specs.Turns.{started}
use Rattle.r4_ready.specs.r4_kept.View.{CoreSeen, root_seen}
use Rattle.r4_start.specs.Starting.{IsFound, first_numbers, first_volume}

-- ---- a core at its start

-- Nothing is told, held, owned or in memory, no commit is under way, and no call failed.
pub record IsAtStart {D : Type 0} (job : Job) (limit : ℕ) (c : CoreSeen D) : Type 0 where
  pub trace : c.trace.entries ≡ []
  pub turns : c.turns ≡ started job
  pub locks : c.locks.tasks ≡ []
  pub atoms : (c.atoms.txns ≡ []) × (c.atoms.atoms ≡ []) × (c.atoms.captured ≡ [])
  pub buffer : c.buffer.entries ≡ []
  pub commit : c.commit ≡ None
  pub broken : c.broken ≡ None
  pub threshold : c.threshold ≡ limit

-- It has the superblock, the head, the root pair and the space of the image that was opened.
pub record OpensFrom {D : Type 0} (old new : State) (c : CoreSeen D) : Type 0 where
  pub found : Opened
  pub is_found : IsFound old new found
  pub volume : c.volume ≡ first_volume found
  pub root : root_seen c.tree ≡ root_of found.super40
  pub space : c.space ≡ space_of found
  pub numbers : c.numbers ≡ first_numbers found
