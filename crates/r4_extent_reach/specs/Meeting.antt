-- The cells that are met for a command's changes (docs/volume.md, "Reach"). A key is its rank.
use Rattle.std.specs.Prelude.{◌≡◌, ◌⊎◌, ℕ, ◌<◌, ◌≤◌, ◌||◌, Bool, true, nat_lt, List, Contains, Option, None, Some}
use Rattle.r4_base.specs.Key.{least, top}
use Rattle.r4_base.specs.Tree.{Name}
use Rattle.r4_extent_commands.specs.r4_cell.Seen.{CellSeen, node_of}
use Rattle.r4_extent_commands.specs.r4_cell.declared.change.Root.{Root}
use Rattle.r4_content.specs.Edited.{Edits, Intervals, is_in}
use Rattle.r4_extent_asks.specs.Demands.{DemandsSeen}
use Rattle.r4_content.specs.Held.{edits_of}
use Rattle.r4_extent_reaching.specs.r4_extent_touching.Holding.{AreHeld, AreLeftMet, StopsLeft}
use Rattle.r4_outside.specs.Device.{State}
use Rattle.r4_extent_reaching.specs.r4_touching.r4_reach.Needs.{going_of, twig_turns}
use Rattle.r4_extent_reaching.specs.r4_touching.r4_reach.Touched.{Body, kind_reads}
use Rattle.r4_extent_reaching.specs.r4_reaching.Gathering.{IsOneMet}
use Rattle.r4_extent_asks.specs.r4_search.Path.{root_name}
use Rattle.r4_extent_asks.specs.r4_search.Pool.{Goes, IsKnown, IsNamed, LeavesDevice, PoolState}
use Rattle.r4_extent_asks.specs.r4_search.declared.pool.FetchFault.{FetchFault}
use Rattle.r4_extent_asks.specs.r4_search.declared.pool.FetchFault.TheVariants.{Memory}
use Rattle.r4_extent_reaching.specs.r4_touching.r4_seeing.Looking.{AreHung}
use Rattle.r4_extent_reaching.specs.r4_touching.Touching.{StopsFor}

-- ---- a pool that keeps all cells

-- Cells of the tree with this root can be met.
pub record CanMeet (p : PoolState) (root : Root) : Type 0 where
  pub height : 2 ≤ root.height
  pub begins : IsKnown p (root_name root)
  pub keeps : (level : ℕ) → p.keeps level ≡ true
  pub hung : AreHung p root

-- Nothing was written, it goes on, and what was met still hangs together.
pub record GoesOn (d e : State) (root : Root) (old new : PoolState) : Type 0 where
  pub device : LeavesDevice d e
  pub goes : Goes old new
  pub hung : AreHung old root → AreHung new root

-- ---- leaves beside

-- the twig turns by these edits of the body and these keys that change
abbrev pub turns_by : Option Body → Edits → Intervals → CellSeen → Bool
turns_by b e changes x = twig_turns b e changes (node_of x)

abbrev pub turns_of : DemandsSeen → CellSeen → Bool
turns_of d x = turns_by d.body (edits_of d.edits) d.changes x

-- Nothing was met from then on but what this twig names, and that only where it turns.
abbrev pub MeetsBesideOne : (turns : CellSeen → Bool) → CellSeen → (old new : PoolState) → Type 0
MeetsBesideOne turns c old new = (i : ℕ) (x : CellSeen) → new.met i ≡ Some x → old.met i ≡ None
    → (turns c ≡ true) × ((n : Name) × Contains (node_of c).names n × IsNamed n x)

-- or what one of these twigs names that turn
abbrev pub MeetsBeside : (turns : CellSeen → Bool) → List CellSeen → (old new : PoolState) → Type 0
MeetsBeside turns cells old new = (i : ℕ) (x : CellSeen) → new.met i ≡ Some x → old.met i ≡ None
    → (c : CellSeen) × Contains cells c × (turns c ≡ true)
    × ((n : Name) × Contains (node_of c).names n × IsNamed n x)

-- A leaf beside one of these twigs that turn was refused.
abbrev pub StopsBesideOf : (turns : CellSeen → Bool) → List CellSeen → (key : ℕ) → (old : PoolState)
    → FetchFault → (new : PoolState) → Type 0
StopsBesideOf turns cells key old e new = (c : CellSeen) × Contains cells c × (turns c ≡ true)
    × StopsLeft c key old e new

-- Where blocks go, the leaves beside twigs that turn were met.
abbrev pub AreBesideMet : Option Body → Edits → Intervals → PoolState → Type 0
AreBesideMet b e changes p = (x : CellSeen) → p.met x.id ≡ Some x → turns_by b e changes x ≡ true
    → nat_lt (going_of b).0 (going_of b).1 ≡ true → AreLeftMet p x (going_of b).0

-- ---- all of them

abbrev pub touched_keys : Option Body → Intervals → ℕ → Bool
touched_keys b changes k = is_in (kind_reads b) k || is_in changes k

-- The cells were met that hold the key which tells where the body stands and those that change, and the leaves beside.
pub record HasMet (b : Option Body) (e : Edits) (changes : Intervals) (p : PoolState) : Type 0 where
  pub held : AreHeld p (touched_keys b changes)
  pub beside : AreBesideMet b e changes p
  pub some : IsOneMet p

-- A look-up ended at such a key, or at the least one.
pub record StopsAtKey (b : Option Body) (changes : Intervals) (old : PoolState) (e : FetchFault)
    (new : PoolState) : Type 0 where
  pub keys : ℕ → Bool
  pub are : (k : ℕ) → least ≤ k → k < top → keys k ≡ true
      → (touched_keys b changes k ≡ true) ⊎ (k ≡ least)
  pub stops : StopsFor keys old e new

-- A leaf beside a twig that turns was refused, where blocks go.
pub record StopsAtLeft (b : Option Body) (e : Edits) (changes : Intervals) (old : PoolState)
    (f : FetchFault) (new : PoolState) : Type 0 where
  pub mid : PoolState
  pub goes : Goes old mid
  pub twig : CellSeen
  pub met : mid.met twig.id ≡ Some twig
  pub turns : turns_by b e changes twig ≡ true
  pub go : nat_lt (going_of b).0 (going_of b).1 ≡ true
  pub stops : StopsLeft twig (going_of b).0 mid f new

abbrev pub StopsMeeting : Option Body → Edits → Intervals → (old : PoolState) → FetchFault
    → (new : PoolState) → Type 0
StopsMeeting b e changes old f new = (f ≡ Memory)
    ⊎ (StopsAtKey b changes old f new ⊎ StopsAtLeft b e changes old f new)
