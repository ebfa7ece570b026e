-- What is known of a command, step by step (docs/volume.md, "Reach"). A key is its rank.
use Rattle.std.specs.Prelude.{◌≡◌, ℕ, ◌^◌, ◌<◌, ◌≤◌, Bool, true, Option}
use Rattle.r4_base.specs.Key.{least, top}
use Rattle.r4_extent_reaching.specs.r4_build.Building.{HaveLawfulKeys}
use Rattle.r4_extent_commands.specs.r4_cell.declared.change.Root.{Root}
use Rattle.r4_content.specs.Edited.{Intervals, changed, is_in}
use Rattle.r4_content.specs.Held.{edits_of, pairs_of}
use Rattle.r4_content.specs.declared.command.Command.{Command}
use Rattle.r4_content.specs.declared.edits.Edits.{Edits as HeldEdits}
use Rattle.r4_content.specs.declared.seen.Seen.{Seen}
use Rattle.r4_extent_commands.specs.Bodies.{KeepsFileSize, LiesInBody}
use Rattle.r4_extent_asks.specs.r4_extent_demands.Sizes.{AreExtentEdits, IsSized}
use Rattle.r4_extent_reaching.specs.Standing.{HasFileSizes}
use Rattle.r4_extent_asks.specs.r4_leaf_edits.Suiting.{SuitLeaves}
use Rattle.r4_extent_reaching.specs.r4_touching.r4_reach.Touched.{Body, body_on, changes_on, edits_on, raw_changes}
use Rattle.r4_extent_reaching.specs.r4_reaching.Answers.{IsAllSeen}
use Rattle.r4_extent_asks.specs.r4_search.Pool.{PoolState}
use Rattle.r4_extent_reach.specs.Meeting.{HasMet}
use Rattle.r4_extent_reach.specs.Standing.{IsTold, stood}

-- The edits are the command's, on what was seen, and change keys of a tree, in one body, which has no more bytes than a
-- file may have where it had no more.
pub record HasEdits
    (p : PoolState) (root : Root) (c : Command) (s : Seen) (known questions : Intervals) (e : HeldEdits)
    : Type 0
  where
    pub all_seen : IsAllSeen p root c s known questions
    pub edits : edits_of e ≡ edits_on c (pairs_of s)
    pub suits : SuitLeaves (2 ^ 64) (edits_of e)
    pub keeps : (t : Bool) → KeepsFileSize (body_on c (pairs_of s) t)
    pub lies : (t : Bool) → LiesInBody (body_on c (pairs_of s) t) (changed (edits_on c (pairs_of s)))
    pub keys : HaveLawfulKeys (edits_on c (pairs_of s))
    pub asks : (t : Bool) → IsSized (body_on c (pairs_of s) t)
        → AreExtentEdits (body_on c (pairs_of s) t) (edits_on c (pairs_of s))

-- And the body is that which they change, with where it stood, told by cells that were met.
pub record HasBody
    (p : PoolState) (root : Root) (c : Command) (s : Seen) (known questions : Intervals) (e : HeldEdits)
    (b : Option Body)
    : Type 0
  where
    pub all_seen : IsAllSeen p root c s known questions
    pub edits : edits_of e ≡ edits_on c (pairs_of s)
    pub body : b ≡ body_on c (pairs_of s) (stood b)
    pub told : IsTold p b
    pub sizes : HasFileSizes b
    pub asks : AreExtentEdits b (edits_of e)
    pub lawful : (k : ℕ) → is_in (changes_on c (pairs_of s) (stood b)) k ≡ true
        → (least ≤ k) × (k < top)

-- These keys are those that count as changed.
abbrev pub AreChanges : Option Body → HeldEdits → Intervals → Type 0
AreChanges b e changes = (k : ℕ) → k < top
    → is_in changes k ≡ is_in (raw_changes b (changed (edits_of e))) k

-- And all cells were met for these changes.
pub record IsMetFor
    (p : PoolState) (root : Root) (c : Command) (s : Seen) (known questions : Intervals) (e : HeldEdits)
    (b : Option Body) (changes : Intervals)
    : Type 0
  where
    pub has : HasBody p root c s known questions e b
    pub are : AreChanges b e changes
    pub met : HasMet b (edits_of e) changes p
