-- What holds of every core, in groups, each in a file of its own:
--     IsHistory    A, the history: the trace and what the tables tell of it
--     AreTables    B, the tables: tasks, what they hold, and their scripts
--     AreAccounts  C, the accounts: what atoms take up, and what tasks may still use up
--     AreCells     D, the cells in memory and the commit, on every image
--     AreOut       E, the tasks that are out, on every image
--     HasMeaning   F, what the cells mean, where the run names an image with a volume
--     IsDurable    G, what a crash leaves, where it names its clock too
use Rattle.std.specs.Prelude.{◌≡◌, ℕ, List, Some}
use Rattle.std.specs.Borrow.{GName}
use Rattle.r4_durable.specs.Meaning.{Beginning, IsNamed}
use Rattle.r4_outside.specs.Device.{State, TellsCrashes}
use Rattle.r4_kept.specs.Accounts.{AreAccounts}
use Rattle.r4_kept.specs.Cells.{AreCells}
use Rattle.r4_kept.specs.Durable.{IsDurable}
use Rattle.r4_kept.specs.History.{IsHistory}
use Rattle.r4_kept.specs.Meaning.{HasMeaning}
use Rattle.r4_kept.specs.Naming.{Naming, job_named, names_in}
use Rattle.r4_kept.specs.Story.{Story}
use Rattle.r4_kept.specs.Tables.{AreTables}
use Rattle.r4_kept.specs.TasksOut.{AreOut}
use Rattle.r4_kept.specs.View.{CoreSeen}

-- what is known of a run that began with this
pub record HasStory {D : Type 0} (r : Naming) (b : Beginning) (d : State) (c : CoreSeen D)
    : Type 0 where
  pub story : Story
  pub means : HasMeaning b (job_named r.scripts) d c story
  pub durable : (t : ℕ) → r.clock ≡ Some t → TellsCrashes d → IsDurable b t d c story

pub record IsKept {D : Type 0} (r : Naming) (d : State) (c : CoreSeen D) : Type 0 where
  pub history : IsHistory r d c
  pub tables : AreTables c
  pub accounts : AreAccounts c
  pub cells : AreCells d c
  pub tasks : AreOut c
  -- the device goes back to whom the run names
  pub lender : (l : List GName) → r.lender ≡ Some l → d.lender ≡ l
  pub story : (b : Beginning) → IsNamed (names_in r) d.blocks b → HasStory r b d c
