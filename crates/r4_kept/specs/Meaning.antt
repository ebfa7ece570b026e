-- Group F, what the cells mean, in a run that names an image with a volume (docs/durable.md).
use Rattle.std.specs.Prelude.{◌≡◌, ◌++◌, ℕ, ◌<◌, ◌≤◌, ◌==◌, true, if◌then◌else◌, Contains, Option}
use Rattle.std.specs.Prelude.{Some, None, IsSome, List, [], Ok}
use Rattle.r4_history.specs.r4_atoms.Atoms.{AtomsSeen, IsOpenAtom, account_of, is_sealed, owner_of}
use Rattle.r4_base.specs.Cell.{IsCellOf}
use Rattle.r4_base.specs.Chain.{committed as head_named}
use Rattle.r4_base.specs.Image.{block_at}
use Rattle.r4_base.specs.Layout.{super_of}
use Rattle.r4_base.specs.Tree.{Node}
use Rattle.r4_base.specs.Value.{Value}
use Rattle.r4_base.specs.declared.things.AtomNo.{AtomNo}
use Rattle.r4_base.specs.declared.limits.TheConstants.{SUPER_BLOCK}
use Rattle.r4_buffer.specs.Seen.{EntrySeen, buffered, is_dirty_by}
use Rattle.r4_history.specs.r4_cell.Seen.{CellSeen, node_of}
use Rattle.r4_durable.specs.r4_commit.Planned.{CommitSeen}
use Rattle.r4_content.specs.Meaning.{greatest_size}
use Rattle.r4_durable.specs.GoingOn.{GoesOn, MarksAlike}
use Rattle.r4_durable.specs.Kept.{IsSession, IsUnderWay, Means as MeansAtRest}
use Rattle.r4_durable.specs.Meaning.{Beginning}
use Rattle.r4_durable.specs.Sealing.{session_after}
use Rattle.r4_durable.specs.r4_flushed.Deferred.{AreDeferred, AreDeferredBut}
use Rattle.r4_history.specs.Held.{IsOut}
use Rattle.r4_outside.specs.Device.{State, TellsReads}
use Rattle.r4_durable.specs.r4_placed.Flushing.{commit_by_block}
use Rattle.r4_durable.specs.r4_sealed.Commits.{IsLater, super_after}
use Rattle.r4_durable.specs.r4_sets.Atoms.{committed, sealed}
use Rattle.r4_durable.specs.r4_sets.Session.{Session}
use Rattle.r4_durable.specs.r4_sets_told.Runs.{born_in, gone_in}
use Rattle.r4_durable.specs.r4_space.Lawful.{IsLawful}
use Rattle.r4_durable.specs.r4_space.Space.{Space, settled}
use Rattle.r4_history.specs.r4_trace.Job.{Asked}
use Rattle.r4_history.specs.r4_trace.Traced.{atom_in}
use Rattle.r4_history.specs.r4_trace.declared.entry.Entry.{Entry}
use Rattle.r4_history.specs.r4_turns.declared.out.Out.{Out}
use Rattle.r4_durable.specs.r4_wander.Parts.{part}
use Rattle.r4_durable.specs.r4_wander.Progress.{Commits, ReadsAs}
use Rattle.r4_durable.specs.r4_wander.Torn.{IsTarget}
use Rattle.r4_kept.specs.Story.{Flush, Headed, Story, sealing_in}
use Rattle.r4_kept.specs.View.{CoreSeen, blocks_of, root_seen}
use Rattle.r4_kept.specs.declared.parts.Commit.{Commit}
use Rattle.r4_kept.specs.declared.parts.Volume.{Volume}

-- ---- owners

-- the owner, unless it is sealed: what a session calls the owner of a cell
abbrev pub if_open : AtomsSeen → Option ℕ → Option ℕ
if_open s None = None
if_open s (Some a) = if is_sealed s a then None else Some a

-- ---- while no commit is under way

-- All is as at rest, with the superblock of the core, and the head that its journal header names.
pub record IsAtRest
    (b : Beginning) (job : Option Asked) (c : Session) (s : Space) (v : Volume) (d : State)
    : Type 0 where
  pub means : MeansAtRest greatest_size b job c s d.seen
  pub super40 : super_of b.blocks (block_at d.seen SUPER_BLOCK.0) ≡ Ok v.super40
  pub prev : v.prev.0 ≡ head_named d.seen

-- ---- while a commit with a plan is under way

-- The session goes on from the sealed one by these entries, and over the Committed one where that
-- has come.
pub record ComesOver
    (b : Beginning) (job : Option Asked) (f : Flush) (more : List Entry) (h : Headed) (c : Session)
    : Type 0 where
  pub before : GoesOn (session_after (sealing_in f)) h.session more
  pub session : IsSession greatest_size b job h.session
  pub deferred : AreDeferredBut f.work.atom h.session h.space
  pub later : IsLater (commit_by_block f.work f.plan).space h.space f.work.atom
  pub lawful : IsLawful (settled h.space f.work.atom)
  pub behind : GoesOn (committed h.session f.work.atom h.clock) c h.later

abbrev pub ComesFrom :
    Beginning → Option Asked → Flush → (more : List Entry) → Option Headed → Session → Type 0
ComesFrom b job f more None c = GoesOn (session_after (sealing_in f)) c more
ComesFrom b job f more (Some h) c = ComesOver b job f more h c

-- The Committed entry comes as the journal header is written.
abbrev pub IsInPart : Option Headed → (part : ℕ) → Type 0
IsInPart None part = part < 2
IsInPart (Some h) part = 2 ≤ part

pub record Comes
    (b : Beginning) (job : Option Asked) (f : Flush) (c : Session) (part : ℕ) : Type 0 where
  pub more : List Entry
  pub headed : Option Headed
  pub from : ComesFrom b job f more headed c
  pub in_part : IsInPart headed part

pub record IsFlushing
    (b : Beginning) (job : Option Asked) (c : Session) (s : Space) (d : State) (f : Flush)
    (a : AtomNo) (w : CommitSeen) : Type 0 where
  pub way : IsUnderWay greatest_size b job f.before f.work f.plan
  pub comes : Comes b job f c w.work.part
  pub atom : a ≡ f.work.atom
  -- it tells the superblock and the head that the plan writes
  pub super40 : w.super40 ≡ super_after (commit_by_block f.work f.plan)
  pub head : w.head ≡ f.plan.head
  -- the writer makes the plan, and reading gives what it has written so far
  pub commits : Commits w.work b.blocks f.work.base [] f.plan
  pub reads : ReadsAs w.work f.work.base d
  -- the space is that of the commit, or later, and can settle
  pub deferred : AreDeferredBut f.work.atom c s
  pub later : IsLater (commit_by_block f.work f.plan).space s f.work.atom
  pub lawful : IsLawful (settled s f.work.atom)

-- ---- while an atom is sealed that owns no cell

pub record IsSealedEmpty
    (b : Beginning) (job : Option Asked) (c : Session) (s : Space) (v : Volume) (d : State)
    (a : AtomNo) : Type 0 where
  pub before : Session
  pub space : Space
  pub more : List Entry
  pub rest : IsAtRest b job before space v d
  pub none : (i : ℕ) → before.owner i ≡ Some a.0 → ⊥
  pub goes : GoesOn (sealed before a) c more
  pub alike : MarksAlike space s
  pub lawful : IsLawful s
  pub deferred : AreDeferred c s

-- ---- by what is under way

abbrev pub IsInCommit :
    Beginning → Option Asked → Session → Space → Volume → State → Option Flush → AtomNo
    → Option CommitSeen → Type 0
IsInCommit b job c s v d flush a None = IsSealedEmpty b job c s v d a
IsInCommit b job c s v d None a (Some w) = ⊥
IsInCommit b job c s v d (Some f) a (Some w) = IsFlushing b job c s d f a w

-- after a call of the device failed nothing is said
abbrev pub IsAt :
    Beginning → Option Asked → Session → Space → Volume → State → Option Flush → (broken : Option ℕ)
    → Option Commit → Type 0
IsAt b job c s v d flush (Some clock) commit = Unit {0}
IsAt b job c s v d flush None None = IsAtRest b job c s v d
IsAt b job c s v d flush None (Some k) = IsInCommit b job c s v d flush k.atom k.work

-- no write of the commit falls on a cell of this name
abbrev pub SparesIn : (name : ℕ) → Option CommitSeen → Type 0
SparesIn i None = Unit {0}
SparesIn i (Some w) = (p : ℕ) → IsTarget (part w.work.plan p) i → ⊥

abbrev pub Spares : (name : ℕ) → Option Commit → Type 0
Spares i None = Unit {0}
Spares i (Some k) = SparesIn i k.work

-- ---- the group

pub record HasMeaning {D : Type 0}
    (b : Beginning) (job : Option Asked) (d : State) (c : CoreSeen D) (story : Story)
    : Type 0 where
  -- the device tells what reading gives
  pub reads : TellsReads d
  -- the session began with the content of the beginning, and each of its sets means what it should
  pub session : IsSession greatest_size b job story.session
  -- it has the trace, the owners that are not sealed, and the root pair of the core
  pub trace : story.session.trace ≡ c.trace.entries
  pub owner : (i : ℕ) → story.session.owner i ≡ if_open c.atoms (owner_of c.atoms i)
  pub root : story.session.root ≡ root_seen c.tree
  -- the cells in memory are its own; those that are not there stand on the device
  pub cells : (i : ℕ) (e : EntrySeen) → buffered c.buffer i ≡ Some e
      → story.session.memory i ≡ Some (node_of e.cell)
  pub clean : c.broken ≡ None → (i : ℕ) (n : Node Value) → story.session.memory i ≡ Some n
      → buffered c.buffer i ≡ None
      → IsCellOf (blocks_of c) (block_at d.seen i) n × Spares i c.commit
  -- so are those that a task was given
  pub reach : (s : ℕ) (out : Out) (x : CellSeen) → IsOut c.turns s out
      → Contains (out.reads ++ out.writes) x → story.session.memory x.id ≡ Some (node_of x)
  -- and each one that is owned stands dirty in memory
  pub owned : (i : ℕ) (n : Node Value) → IsSome (owner_of c.atoms i)
      → story.session.memory i ≡ Some n → is_dirty_by (buffered c.buffer i) ≡ true
  -- the accounts of open atoms count the objects that they made and took away
  pub born : (a : ℕ) → IsOpenAtom c.atoms a → (account_of c.atoms a).born
      ≡ born_in greatest_size b.content (λ t. atom_in c.trace.entries t == a) c.trace.entries
  pub gone : (a : ℕ) → IsOpenAtom c.atoms a → (account_of c.atoms a).gone
      ≡ gone_in greatest_size b.content (λ t. atom_in c.trace.entries t == a) c.trace.entries
  -- the image is at rest, or so far as the commit is
  pub at : IsAt b job story.session c.space c.volume d story.flush c.broken c.commit
