-- What becomes of a command before its work (docs/core.md, "Asking").
use Rattle.std.specs.Prelude.{◌≡◌, ◌⊎◌, ℕ, ◌<◌, ◌≤◌, ◌++◌, ◌∷◌, List, Contains}
use Rattle.std.specs.Prelude.{MatchResult, Option, IsSome, None, Some}
use Rattle.std.specs.Prelude.{Result, Ok, Err, true}
use Rattle.std.specs.Option.{option_map}
use Rattle.r4_atoms.specs.Atoms.{AtomsSeen, is_sealed, owner_of}
use Rattle.r4_base.specs.declared.limits.TheConstants.{MOST_LEVELS}
use Rattle.r4_buffer.specs.Reading.{IsReadable, captured_in, reading_places}
use Rattle.r4_buffer.specs.Seen.{BufferSeen, buffered}
use Rattle.r4_cell.specs.Seen.{CellSeen}
use Rattle.r4_cell.specs.declared.change.Root.{Root}
use Rattle.r4_commit.specs.Planned.{CommitSeen}
use Rattle.r4_content.specs.declared.command.Command.{Command}
use Rattle.r4_content.specs.declared.reply.Reply.{Reply}
use Rattle.r4_content.specs.declared.reply.Reply.TheVariants.{Damaged, Readfault}
use Rattle.r4_history.specs.Held.{Need, names_of}
use Rattle.r4_history.specs.Serving.{IsInTheWay}
use Rattle.r4_history.specs.declared.why.Why.{Why}
use Rattle.r4_history.specs.declared.why.Why.TheVariants as why
use Rattle.r4_locks.specs.Locks.{LocksSeen}
use Rattle.r4_outside.specs.Device.{State}
use Rattle.r4_extent_reach.specs.r4_reaching.Answers.{IsSamePool}
use Rattle.r4_extent_reach.specs.r4_extent_reaching.Answers.{IsReach, StopsReach}
use Rattle.r4_extent_reach.specs.r4_extent_reaching.declared.reached.Reach.{Reach}
use Rattle.r4_search.specs.Keeping.{Shared, keeping_state}
use Rattle.r4_search.specs.OnDevice.{device_state}
use Rattle.r4_search.specs.Path.{root_name}
use Rattle.r4_search.specs.Pool.{PoolState}
use Rattle.r4_search.specs.declared.pool.FetchFault.{FetchFault}
use Rattle.r4_search.specs.declared.pool.FetchFault.TheVariants as fetching
use Rattle.r4_commit.specs.r4_wander.Parts.{FallsOn}
use Rattle.r4_serve.specs.declared.asked.Asked.{Asked}
use Rattle.r4_serve.specs.declared.asked.Asked.TheVariants as asked
use Rattle.r4_serve.specs.declared.parts.Parts.{Parts}

-- the parts that decide it
pub record PartsSeen : Type 0 where
  pub buffer : BufferSeen
  pub locks : LocksSeen
  pub atoms : AtomsSeen
  pub root : Root
  pub blocks : ℕ
  -- the commit under way, where it writes anything
  pub plan : Option CommitSeen

abbrev pub parts_seen : Parts → PartsSeen
parts_seen parts = record {
  buffer = parts.buffer.now;
  locks = parts.locks.now;
  atoms = parts.atoms.now;
  root = parts.root;
  blocks = parts.blocks;
  plan = option_map (λ plan. plan.now) parts.plan;
}

-- ---- what is read

-- The volume lies on the device; the cells in memory can be read from; and the root is one of them
-- or has a block.
pub record CanAsk (d : State) (p : PartsSeen) : Type 0 where
  pub within : p.blocks ≤ d.blocks
  pub readable : IsReadable d p.buffer p.blocks
  pub height : 2 ≤ p.root.height
  pub stands : IsSome (captured_in p.buffer p.root.id.0) ⊎ (p.root.id.0 < p.blocks)

-- the pool over the cells in memory and the device, before anything of it was kept
abbrev pub read_over : PartsSeen → State → PoolState
read_over p d = device_state (reading_places (root_name p.root) p.buffer p.blocks) d

-- What a command reaches there, over the cells that were met. The pool afterwards is over the same
-- tree.
pub record Reaches
    (d e : State) (p : PartsSeen) (c : Command) (r : Result Reach FetchFault)
    : Type 0
  where
    pub after : PoolState
    pub met : List (ℕ × Shared)
    pub same : IsSamePool d e (read_over p d) after p.root met
    pub is : MatchResult r
        (IsReach (keeping_state after true met) p.root c)
        (StopsReach (keeping_state after true met) p.root c)

-- ---- what it needs

-- the nodes of the cells of a reach
abbrev pub need_in : Reach → Need
need_in r = record { reads = names_of r.reads; writes = names_of r.writes }

-- the atom is sealed, and owns one of the nodes
pub record IsSealedOwnerOf (s : AtomsSeen) (nodes : List ℕ) (a : ℕ) : Type 0 where
  pub node : ℕ
  pub among : Contains nodes node
  pub owner : owner_of s node ≡ Some a
  pub sealed : is_sealed s a ≡ true

-- no sealed atom owns one of the nodes
abbrev pub NoneSealed : AtomsSeen → (nodes : List ℕ) → Type 0
NoneSealed s nodes = (a : ℕ) → IsSealedOwnerOf s nodes a → ⊥

-- ---- what becomes of it

-- the reply where what it reads ended at a block
abbrev pub IsReplyTo : FetchFault → Reply → Type 0
IsReplyTo (fetching.Read block faults) reply = reply ≡ Readfault block faults
IsReplyTo (fetching.Damaged block fault) reply = reply ≡ Damaged block
IsReplyTo fetching.Memory reply = ⊥

-- no sealed atom and no hold stands in the way
abbrev pub IsClear : PartsSeen → Reach → Type 0
IsClear p r = (w : Why) → IsInTheWay p.atoms p.locks (need_in r) w → ⊥

-- the root asks, and the tree cannot grow
abbrev pub IsTall : PartsSeen → Reach → Type 0
IsTall p r = IsSome r.root × (MOST_LEVELS ≤ p.root.height)

-- the commit under way writes the block
abbrev pub IsOverwritten : Option CommitSeen → (block : ℕ) → Type 0
IsOverwritten None b = ⊥
IsOverwritten (Some w) b = FallsOn w.work.plan b

-- No cell of this name is in memory, and its block was read, which no cell of a volume has: an atom
-- took the cell away, or the commit under way writes there.
pub record IsStray (p : PartsSeen) (x : CellSeen) : Type 0 where
  pub gone : buffered p.buffer x.id ≡ None
  pub taken : IsSome (owner_of p.atoms x.id) ⊎ IsOverwritten p.plan x.id

-- none of these is such a cell
abbrev pub NoneStray : PartsSeen → List CellSeen → Type 0
NoneStray p xs = (x : CellSeen) → Contains xs x → IsStray p x → ⊥

-- one of them is, and the reply tells the first as damaged
pub record IsStrayReply (p : PartsSeen) (xs : List CellSeen) (reply : Reply) : Type 0 where
  pub before : List CellSeen
  pub cell : CellSeen
  pub behind : List CellSeen
  pub among : xs ≡ before ++ cell ∷ behind
  pub none : NoneStray p before
  pub stray : IsStray p cell
  pub reply_is : reply ≡ Damaged (record { 0 = cell.id })

-- What becomes of a command with this reach, where no such cell was met, the first of these: a
-- sealed atom or a hold stands in the way; the tree would have to grow; else it is ready.
abbrev pub IsWeighed : PartsSeen → Reach → Asked → Type 0
IsWeighed p r (asked.Refused reply) = ⊥
IsWeighed p r (asked.Sealed atom) = IsInTheWay p.atoms p.locks (need_in r) (why.Sealed atom)
IsWeighed p r (asked.Busy node holder) =
    IsInTheWay p.atoms p.locks (need_in r) (why.Held node holder)
IsWeighed p r (asked.Tall height) = IsClear p r × IsTall p r × (height ≡ p.root.height)
IsWeighed p r (asked.Ready ready) =
    IsClear p r × (IsTall p r → ⊥) × (ready.reach ≡ r) × (ready.need ≡ need_in r)

-- a cell that was met and that an atom took away is damage
abbrev pub IsDecided : PartsSeen → Reach → Asked → Type 0
IsDecided p r (asked.Refused reply) = IsStrayReply p r.met reply
IsDecided p r a = NoneStray p r.met × IsWeighed p r a

-- the reading ended at a block, which the reply names
abbrev pub IsStoppedWith : PoolState → PartsSeen → Command → Reply → Type 0
IsStoppedWith q p c reply = (e : FetchFault) × StopsReach q p.root c e × IsReplyTo e reply

-- Of what was met: where reading ended at a block the command is refused.
abbrev pub IsAskedOf : PoolState → PartsSeen → Command → Asked → Type 0
IsAskedOf q p c (asked.Refused reply) =
    IsStoppedWith q p c reply
    ⊎ ((r : Reach) × IsReach q p.root c r × IsDecided p r (asked.Refused reply))
IsAskedOf q p c a = (r : Reach) × IsReach q p.root c r × IsDecided p r a

-- The cells that were met are those of the tree of all atoms, as the cells in memory and the device
-- have it.
pub record Asks (d e : State) (p : PartsSeen) (c : Command) (a : Asked) : Type 0 where
  pub after : PoolState
  pub met : List (ℕ × Shared)
  pub same : IsSamePool d e (read_over p d) after p.root met
  pub is : IsAskedOf (keeping_state after true met) p c a

-- the answer where this was found
abbrev pub IsAnswerTo : PartsSeen → Result Reach FetchFault → Asked → Type 0
IsAnswerTo p (Ok r) a = IsDecided p r a
IsAnswerTo p (Err e) a = (reply : Reply) × (a ≡ asked.Refused reply) × IsReplyTo e reply
