-- What is answered on what a command reads and writes, bodies in extents included (docs/volume.md, "Reach"). A key is
-- its rank.
use Rattle.std.specs.Prelude.{◌≡◌, ◌⊎◌, ℕ, ◌<◌, ◌≤◌, All, Bool, true, false, nat_lt, Contains, Some}
use Rattle.r4_base.specs.Tree.{InSpan, Span}
use Rattle.r4_base.specs.Key.{least, top}
use Rattle.r4_base.specs.declared.items.CellFault.TheVariants.{Range}
use Rattle.r4_reaching.specs.r4_cell.Patch.{HaveNames, by_name, root_of_pair}
use Rattle.r4_reaching.specs.r4_cell.Seen.{CellSeen, node_of}
use Rattle.r4_reaching.specs.r4_cell.declared.change.Root.{Root}
use Rattle.r4_content.specs.Edited.{Intervals, Pairs, changed, is_in}
use Rattle.r4_content.specs.Held.{pairs_of}
use Rattle.r4_content.specs.declared.command.Command.{Command}
use Rattle.r4_extent_touching.specs.Holding.{StopsLeft}
use Rattle.r4_reaching.specs.r4_judging.Judging.{IsSound}
use Rattle.r4_reaching.specs.r4_reach.Answer.{IsReachOf}
use Rattle.r4_reaching.specs.r4_reach.Leaves.{LieInLeaves}
use Rattle.r4_reaching.specs.r4_reach.Needs.{demand_on, going_of, twig_turns}
use Rattle.r4_reaching.specs.r4_reach.Touched.{body_on, changes_on, edits_on, kind_reads}
use Rattle.r4_reaching.specs.Answers.{IsSeenIn, StopsAsking, StopsAtObject, StopsJudging}
use Rattle.r4_reaching.specs.Gathering.{AreAllMet}
use Rattle.r4_reaching.specs.r4_bodies.r4_leaf_demands.Leaves.{IsInLeaves}
use Rattle.r4_reaching.specs.r4_search.Pool.{PoolState}
use Rattle.r4_reaching.specs.r4_search.declared.pool.FetchFault.{FetchFault}
use Rattle.r4_reaching.specs.r4_search.declared.pool.FetchFault.TheVariants.{Damaged}
use Rattle.r4_reaching.specs.r4_touching.Touching.{StopsFor}
use Rattle.r4_reaching.specs.r4_work.Order.{AreInOrder}
use Rattle.r4_extent_counts.specs.Coming.{most_with}
use Rattle.r4_extent_reaching.specs.Standing.{HasFileSizes, IsTooLong}
use Rattle.r4_extent_reaching.specs.declared.reached.Reach.{Reach}

-- No body stands in extents, before or afterwards, and each key that changes lies in a leaf.
pub record LiesInLeaves (c : Command) (r : Reach) : Type 0 where
  pub kind : r.in_extents ≡ false
  pub body : IsInLeaves (body_on c (pairs_of r.seen) r.in_extents)
  pub lie : LieInLeaves (by_name r.met) (is_in (changed (edits_on c (pairs_of r.seen))))

-- No body stands in extents, before or afterwards, and no cell that was met has an extent with a key that counts as
-- changed.
pub record MeetsNoExtent (c : Command) (r : Reach) : Type 0 where
  pub kind : r.in_extents ≡ false
  pub body : IsInLeaves (body_on c (pairs_of r.seen) r.in_extents)
  pub none : (x : CellSeen) (s : Span) (k : ℕ) → Contains r.met x → Contains (node_of x).spans s → InSpan s k
      → is_in (changes_on c (pairs_of r.seen) r.in_extents) k ≡ false

-- The cells that were met are a part of a tree with all that the command touches; those that it reads and writes, what
-- was seen, where the body that it changes stood, whether all that it changes lies in leaves (so it is told just where no
-- extent is met), and how many new cells come at most. All are in order, each once, and each is a cell by itself. The keys that count as changed are keys of a tree, and the body has such sizes as a file
-- may have.
pub record IsReach (p : PoolState) (root : Root) (c : Command) (r : Reach) : Type 0 where
  pub answer : IsReachOf root c r.met r.reads r.writes r.root
  pub seen : answer.seen ≡ pairs_of r.seen
  pub kind : answer.in_extents ≡ r.in_extents
  pub leaves : r.in_leaves ≡ true → LiesInLeaves c r
  pub told : MeetsNoExtent c r → r.in_leaves ≡ true
  pub sizes : HasFileSizes (body_on c (pairs_of r.seen) r.in_extents)
  pub keys : (k : ℕ) → is_in (changes_on c (pairs_of r.seen) r.in_extents) k ≡ true
      → (least ≤ k) × (k < top)
  pub most : r.most ≡ most_with (body_on c (pairs_of r.seen) r.in_extents)
      (edits_on c (pairs_of r.seen)) (demand_on c (pairs_of r.seen) r.in_extents) (by_name r.met)
      (root_of_pair root) r.writes
  pub rises : (x : Root) → r.root ≡ Some x → x ≡ root
  pub all : AreAllMet p.met r.met
  pub sound : All IsSound r.met
  pub met_order : AreInOrder r.met
  pub reads_order : AreInOrder r.reads
  pub writes_order : AreInOrder r.writes
  pub reads_once : HaveNames r.reads
  pub writes_once : HaveNames r.writes

-- ---- why there is none

-- a key that is met beside the questions: the one that tells where the body stands, one that changes, or one that counts
-- as changed
abbrev pub is_met_besides : Command → Pairs → (in_extents : Bool) → (key : ℕ) → Type 0
is_met_besides c s in_extents k = (is_in (kind_reads (body_on c s in_extents)) k ≡ true)
    ⊎ ((is_in (changed (edits_on c s)) k ≡ true) ⊎ (is_in (changes_on c s in_extents) k ≡ true))

-- A look-up ended at such a key, or, where nothing was met before, at the least key.
pub record StopsOnWay (p : PoolState) (c : Command) (e : FetchFault) : Type 0 where
  pub seen : Pairs
  pub in_extents : Bool
  pub before : PoolState
  pub saw : IsSeenIn before c seen
  pub keys : ℕ → Bool
  pub are : (k : ℕ) → least ≤ k → k < top → keys k ≡ true
      → is_met_besides c seen in_extents k ⊎ (k ≡ least)
  pub stops : StopsFor keys before e p

-- Or the leaf beside a twig that turns, by the keys of a tree that count as changed, was refused: it ends where blocks
-- go, if some do.
pub record StopsBeside (p : PoolState) (c : Command) (e : FetchFault) : Type 0 where
  pub seen : Pairs
  pub in_extents : Bool
  pub before : PoolState
  pub saw : IsSeenIn before c seen
  pub twig : CellSeen
  pub met : before.met twig.id ≡ Some twig
  pub changes : Intervals
  pub are : (k : ℕ) → k < top → is_in changes k ≡ is_in (changes_on c seen in_extents) k
  pub turns : twig_turns (body_on c seen in_extents) (edits_on c seen) changes (node_of twig) ≡ true
  pub go : nat_lt (going_of (body_on c seen in_extents)).0 (going_of (body_on c seen in_extents)).1 ≡ true
  pub stops : StopsLeft twig (going_of (body_on c seen in_extents)).0 before e p

-- Or a file whose body changes was seen with more bytes than one may have, and the block of the root is damaged.
pub record StopsAtSize (p : PoolState) (root : Root) (c : Command) (e : FetchFault) : Type 0 where
  pub seen : Pairs
  pub in_extents : Bool
  pub saw : IsSeenIn p c seen
  pub body : IsTooLong (body_on c seen in_extents)
  pub fault : e ≡ Damaged (record { 0 = root.id.0 }) (Range 0)

abbrev pub StopsWriting : PoolState → Root → Command → FetchFault → Type 0
StopsWriting p root c e = (StopsAtObject p root c e ⊎ StopsAtSize p root c e)
    ⊎ (StopsJudging p e ⊎ (StopsOnWay p c e ⊎ StopsBeside p c e))

abbrev pub StopsReach : PoolState → Root → Command → FetchFault → Type 0
StopsReach p root c e = StopsAsking p c e ⊎ StopsWriting p root c e
