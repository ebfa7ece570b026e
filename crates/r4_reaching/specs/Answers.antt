-- What is answered on what a command reads and writes, where all keys that it changes lie in leaves (docs/volume.md,
-- "Reach"). A key is its rank.
use Rattle.std.specs.Prelude.{◌≡◌, ◌⊎◌, ℕ, ◌<◌, ◌≤◌, ◌||◌, List, [], All, Bool, true, false, reverse}
use Rattle.std.specs.Prelude.{◌+◌, ◌^◌, Contains, Option, Some, length, map, slice_index}
use Rattle.std.specs.Arc.{arc_value}
use Rattle.std.specs.Option.{option_map}
use Rattle.std.specs.FinMap.{find}
use Rattle.std.specs.Ordering.{nat_cmp}
use Rattle.r4_base.specs.Key.{key_of_rank, least, top}
use Rattle.r4_base.specs.Tree.{Store}
use Rattle.r4_base.specs.Value.{Stat, Value}
use Rattle.r4_base.specs.declared.items.Attr.{Attr}
use Rattle.r4_base.specs.declared.items.CellFault.TheVariants.{Range}
use Rattle.r4_spared.specs.r4_build.Building.{HaveLawfulKeys}
use Rattle.r4_bodies.specs.Told.{AreOfTree, intervals_of}
use Rattle.r4_cell.specs.Patch.{HaveNames, by_name, root_of_pair}
use Rattle.r4_cell.specs.Seen.{CellSeen}
use Rattle.r4_cell.specs.declared.change.Root.{Root}
use Rattle.r4_content.specs.Course.{asked}
use Rattle.r4_content.specs.Edited.{Intervals, Pairs, changed, is_in}
use Rattle.r4_content.specs.Held.{edits_of, pairs_of}
use Rattle.r4_content.specs.Meaning.{course, greatest_size}
use Rattle.r4_content.specs.Seen.{Rises, of_seen}
use Rattle.r4_content.specs.declared.command.Command.{Command}
use Rattle.r4_content.specs.declared.edits.Edits.{Edits as HeldEdits}
use Rattle.r4_content.specs.declared.edits.Interval.{Interval}
use Rattle.r4_content.specs.declared.seen.Seen.{Seen}
use Rattle.r4_touching.specs.r4_gather.Asking.{EndsIn, StaysOver}
use Rattle.r4_judging.specs.Judging.{IsSound}
use Rattle.r4_bodies.specs.r4_leaf_demands.Leaves.{AreLeafEdits, IsInLeaves}
use Rattle.r4_outside.specs.Device.{State}
use Rattle.r4_touching.specs.r4_reach.Answer.{IsReachOf}
use Rattle.r4_judging.specs.r4_marking.Marks.{ask_seen}
use Rattle.r4_judging.specs.r4_marking.declared.marking.Marks.{Marks}
use Rattle.r4_touching.specs.r4_reach.Leaves.{LieInLeaves, most_of, rise_of}
use Rattle.r4_touching.specs.r4_reach.Needs.{demand_on}
use Rattle.r4_touching.specs.r4_reach.Touched.{IsKindIn, body_on, changes_on, edits_on, kind_reads}
use Rattle.r4_search.specs.Keeping.{Shared, WereAnswered, keeping_state}
use Rattle.r4_search.specs.Path.{root_name}
use Rattle.r4_search.specs.Pool.{IsKnown, PoolState}
use Rattle.r4_search.specs.declared.pool.FetchFault.{FetchFault}
use Rattle.r4_search.specs.declared.pool.FetchFault.TheVariants.{Damaged, Memory}
use Rattle.r4_touching.specs.r4_seeing.Looking.{AreFound, AreHung, IsFoundAt, met_cells}
use Rattle.r4_touching.specs.r4_seeing.Seeing.{IsStopped}
use Rattle.r4_touching.specs.Touching.{AreInLeaves, IsInExtent, StopsFor}
use Rattle.r4_spared.specs.r4_work.Order.{AreInOrder}
use Rattle.r4_reaching.specs.Gathering.{AreAllMet, IsOneMet, IsRefusedFor}
use Rattle.r4_reaching.specs.declared.reached.Reach.{Reach}

-- the questions of a command, on what was seen
abbrev pub asked_by : Command → Pairs → Intervals
asked_by c s = asked (course greatest_size c) (of_seen s)

-- a key that has to lie in a leaf: one that changes, or the one that tells where the body stands which changes
abbrev pub has_to_lie : Command → Pairs → (key : ℕ) → Bool
has_to_lie c s k = is_in (kind_reads (body_on c s false)) k || is_in (changed (edits_on c s)) k

-- ---- what was seen

-- All that the command asks for was seen in the cells that were met.
pub record IsSeenIn (p : PoolState) (c : Command) (s : Pairs) : Type 0 where
  pub rises : Rises s
  pub found : (k : ℕ) → is_in (asked_by c s) k ≡ true → least ≤ k → k < top
      → IsFoundAt (met_cells p) k (find nat_cmp k s)

-- the number of the object whose stat data have this key
abbrev pub number_in : (key : ℕ) → ℕ
number_in k = slice_index (key_of_rank k).el 2

-- Each object whose attributes were seen has a number from 42 on, that of the root directory, and a
-- size of 64 bits.
abbrev pub HaveObjectNumbers : Pairs → Type 0
HaveObjectNumbers s = (k : ℕ) (a : Attr) → Contains s (k, Stat a)
    → (42 ≤ number_in k) × (a.size < 2 ^ 64)

-- Attributes were seen of one that has a smaller number.
pub record SeesLowObject (s : Pairs) : Type 0 where
  pub key : ℕ
  pub attr : Attr
  pub among : Contains s (key, Stat attr)
  pub low : number_in key < 42

-- So it was over a pool that keeps all cells, by these questions.
pub record IsAllSeen
    (p : PoolState) (root : Root) (c : Command) (s : Seen) (known questions : Intervals)
    : Type 0
  where
    pub height : 2 ≤ root.height
    pub begins : IsKnown p (root_name root)
    pub keeps : (level : ℕ) → p.keeps level ≡ true
    pub hung : AreHung p root
    pub found : AreFound (met_cells p) known (pairs_of s)
    pub questions_are : questions ≡ asked_by c (pairs_of s)
    pub looked : (k : ℕ) → is_in questions k ≡ true → least ≤ k → k < top
        → is_in known k ≡ true

-- The edits are the command's, and of leaves where no byte of the body that they change stands in extents; the key is
-- the one that tells whether one does.
pub record IsPlanned
    (p : PoolState) (root : Root) (c : Command) (s : Seen) (known questions : Intervals) (e : HeldEdits)
    (read : Option Interval)
    : Type 0
  where
    pub all_seen : IsAllSeen p root c s known questions
    pub edits : edits_of e ≡ edits_on c (pairs_of s)
    pub body : IsInLeaves (body_on c (pairs_of s) false)
    pub own : changes_on c (pairs_of s) false ≡ changed (edits_on c (pairs_of s))
    pub read_is : intervals_of read ≡ kind_reads (body_on c (pairs_of s) false)
    pub kind : (t : Store Value) → AreOfTree (pairs_of s) → LieInLeaves t (has_to_lie c (pairs_of s))
        → IsKindIn t (body_on c (pairs_of s) false)
    pub leaves : AreLeafEdits (edits_of e)
    pub keys : HaveLawfulKeys (edits_on c (pairs_of s))

-- And all keys that have to lie in leaves do so.
pub record IsTouched
    (p : PoolState) (root : Root) (c : Command) (s : Seen) (known questions : Intervals) (e : HeldEdits)
    (read : Option Interval)
    : Type 0
  where
    pub planned : IsPlanned p root c s known questions e read
    pub held : AreInLeaves p (has_to_lie c (pairs_of s))
    pub some : IsOneMet p

-- The keys of a tree among these are those of the questions, and the one that is read beside.
abbrev pub AreReadKeys : (held questions : Intervals) → (read : Option Interval) → Type 0
AreReadKeys held questions read = (k : ℕ) → least ≤ k → k < top
    → is_in held k ≡ (is_in questions k || is_in (intervals_of read) k)

-- ---- the pool

-- The pool below is over the same tree as before, and answered each of these cells.
pub record IsSamePool (d e : State) (p q : PoolState) (root : Root) (met : List (ℕ × Shared))
    : Type 0 where
  pub stays : StaysOver d e (record { root = root; pool = keeping_state p true [] })
      (record { root = root; pool = keeping_state q true met })
  pub answered : WereAnswered q met

-- ---- the answers

-- The cells that were met are a part of a tree with all that the command touches; those that it
-- reads and writes, what was seen, and how many new cells come at most. All are in order, each
-- once, and each is a cell by itself. The keys that change are keys of a tree and lie in leaves,
-- and so does the body afterwards.
pub record IsReach (p : PoolState) (root : Root) (c : Command) (r : Reach) : Type 0 where
  pub answer : IsReachOf root c r.met r.reads r.writes r.root
  pub seen : answer.seen ≡ pairs_of r.seen
  pub in_leaves : answer.in_extents ≡ false
  pub body : IsInLeaves (body_on c (pairs_of r.seen) false)
  pub keys : HaveLawfulKeys (edits_on c (pairs_of r.seen))
  pub lie : LieInLeaves (by_name r.met) (is_in (changed (edits_on c (pairs_of r.seen))))
  pub most : r.most ≡ most_of (demand_on c (pairs_of r.seen) false) (by_name r.met)
      (root_of_pair root) r.writes
  pub rises : (x : Root) → r.root ≡ Some x → x ≡ root
  pub all : AreAllMet p.met r.met
  pub sound : All IsSound r.met
  pub met_order : AreInOrder r.met
  pub reads_order : AreInOrder r.reads
  pub writes_order : AreInOrder r.writes
  pub reads_once : HaveNames r.reads
  pub writes_once : HaveNames r.writes

-- It is made of these cells and marks.
pub record IsFrom (root : Root) (seen : Seen) (met : List CellSeen) (m : Marks) (r : Reach) : Type 0
  where
    pub reads : r.reads ≡ map (λ c. arc_value c) m.reads.items
    pub writes : r.writes ≡ map (λ c. arc_value c) m.writes.items
    pub met_are : r.met ≡ met
    pub root_is : r.root ≡ option_map (λ a. root) m.rises
    pub seen_is : r.seen ≡ seen
    pub most : r.most ≡ length m.writes.items + m.more + rise_of (option_map ask_seen m.rises)

-- On what was seen the body stands in extents afterwards, or a key that has to lie in a leaf lies
-- in an extent.
pub record TouchesExtent (p : PoolState) (c : Command) : Type 0 where
  pub seen : Pairs
  pub saw : IsSeenIn p c seen
  pub extent : (IsInLeaves (body_on c seen false) → ⊥)
      ⊎ ((k : ℕ) × (least ≤ k) × (k < top) × (has_to_lie c seen k ≡ true) × IsInExtent p k)

-- ---- why there is none

-- A look-up ended at a key that has to lie in a leaf, or, where nothing was met before, at the least key.
pub record StopsOnWay (p : PoolState) (c : Command) (e : FetchFault) : Type 0 where
  pub seen : Pairs
  pub before : PoolState
  pub saw : IsSeenIn before c seen
  pub keys : ℕ → Bool
  pub are : (k : ℕ) → least ≤ k → k < top → keys k ≡ true → (has_to_lie c seen k ≡ true) ⊎ (k ≡ least)
  pub stops : StopsFor keys before e p

-- or a cell that was met is not the one that another one names, or there was no memory
abbrev pub StopsJudging : PoolState → FetchFault → Type 0
StopsJudging p e = (e ≡ Memory) ⊎ IsRefusedFor p e

-- Or an object was seen with a number that none has, and the block of the root is damaged.
pub record StopsAtObject (p : PoolState) (root : Root) (c : Command) (e : FetchFault) : Type 0 where
  pub seen : Pairs
  pub saw : IsSeenIn p c seen
  pub object : SeesLowObject seen
  pub fault : e ≡ Damaged (record { 0 = root.id.0 }) (Range 0)

abbrev pub StopsWriting : PoolState → Root → Command → FetchFault → Type 0
StopsWriting p root c e = StopsAtObject p root c e ⊎ (StopsJudging p e ⊎ StopsOnWay p c e)

-- The questions of the command were asked, one after another, up to one of which a look-up ended.
pub record StopsAsking (p : PoolState) (c : Command) (e : FetchFault) : Type 0 where
  pub seen : Pairs
  pub known : Intervals
  pub found : AreFound (met_cells p) known seen
  pub questions : Intervals
  pub so_far : EndsIn questions (reverse (asked_by c seen))
  pub stopped : (e ≡ Memory) ⊎ IsStopped p questions e

abbrev pub StopsReach : PoolState → Root → Command → FetchFault → Type 0
StopsReach p root c e = StopsAsking p c e ⊎ StopsWriting p root c e
