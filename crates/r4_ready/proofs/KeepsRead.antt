-- What holds of a core holds while its device is read.
use Rattle.std.proofs.Common.{◌≡◌, ◌≤◌, ℕ, List, Option, Some, None, sym, ◌∙◌, ap, subst, arith}
use Rattle.r4_base.specs.Cell.{IsCellOf}
use Rattle.r4_base.specs.Image.{Image, block_at}
use Rattle.r4_base.specs.Chain.{committed as head_named}
use Rattle.r4_base.specs.Layout.{IsLawfulSuper, super_of}
use Rattle.r4_base.specs.declared.limits.TheConstants.{SUPER_BLOCK}
use Rattle.r4_base.specs.declared.things.AtomNo.{AtomNo}
use Rattle.r4_atoms.specs.Atoms.{numbers}
use Rattle.r4_serve.specs.r4_buffer.Seen.{BufferSeen}
use Rattle.r4_serve.specs.r4_commit.Planned.{CommitSeen}
use Rattle.r4_content.specs.Locality.{commands}
use Rattle.r4_content.specs.Meaning.{greatest_size}
use Rattle.r4_taking.specs.r4_durable.Kept.{Means as MeansAtRest}
use Rattle.r4_taking.specs.r4_durable.Meaning.{Beginning, BeginsWith, IsNamed, start_of}
use Rattle.r4_outside.specs.Device.{Goes, State, TellsReads, Untouched}
use Rattle.r4_outside.proofs.Moments.{left_before, quiet_on, tells_on}
use Rattle.r4_taking.specs.r4_sets.Session.{Session}
use Rattle.r4_serve.specs.r4_space.Space.{Space}
use Rattle.r4_serve.specs.r4_trace.Job.{Asked}
use Rattle.r4_serve.specs.r4_wander.Progress.{FitOn, under_way}
use Rattle.r4_serve.specs.r4_wander.Parts.{base_of}
use Rattle.r4_serve.proofs.r4_wander.Standing.{made_read, reads_read}
use Rattle.r4_taking.specs.r4_kept.Cells.{AreReadable, FitsCommit, IsWriting, IsWritingOf}
use Rattle.r4_taking.specs.r4_kept.Durable.{LeavesNow, StandsAt}
use Rattle.r4_taking.specs.r4_kept.Kept.{HasStory, IsKept}
use Rattle.r4_taking.specs.r4_kept.Meaning.{IsAt, IsAtRest, IsFlushing, IsInCommit}
use Rattle.r4_taking.specs.r4_kept.Naming.{Naming, job_named, names_in}
use Rattle.r4_taking.specs.r4_kept.Story.{Flush}
use Rattle.r4_taking.specs.r4_kept.View.{CoreSeen, blocks_of, tables_of}
use Rattle.r4_taking.specs.r4_kept.declared.parts.Commit.{Commit}
use Rattle.r4_taking.specs.r4_kept.declared.parts.Volume.{Volume}
use Rattle.std.specs.Option.{option_map}
use Rattle.r4_serve.specs.r4_history.Told.{IsTold}

module _ (d e : State) (goes : Goes d e) (idle : Untouched d e) where
  told_before : TellsReads e → TellsReads d
  told_before = goes.reads.0

  same_block : (i : ℕ) → block_at d.seen i ≡ block_at e.seen i
  same_block i = ap (λ (image : Image). block_at image i) (sym idle.seen)

  -- ---- cells

  readable_on : (b : BufferSeen) (blocks : ℕ) → AreReadable d b blocks → AreReadable e b blocks
  readable_on b blocks h = record {
    accepted = h.accepted;
    same = λ tells i f at clean. h.same (told_before tells) i f at clean ∙ same_block i;
    names = h.names;
  }

  writing_on : (b : BufferSeen) (blocks : ℕ) (nodes : List ℕ) (w : CommitSeen) → IsWriting d b blocks nodes w
      → IsWriting e b blocks nodes w
  writing_on b blocks nodes w h = record {
    fits = subst (λ (n : ℕ). FitOn n w.work.plan) (sym goes.blocks) h.fits;
    unfinished = h.unfinished;
    within = h.within;
    super40 = subst (λ (n : ℕ). IsLawfulSuper n w.super40) (sym goes.blocks) h.super40;
    count = h.count;
    base = h.base;
    reads = λ tells. reads_read w.work h.base d e (h.reads (told_before tells)) goes idle.seen;
    apart = h.apart;
    below = h.below;
    accepted = h.accepted;
    lands = λ tells. h.lands (told_before tells);
  }

  fits_on : (b : BufferSeen) (blocks : ℕ) (o : Option Commit) → FitsCommit d b blocks o → FitsCommit e b blocks o
  fits_on b blocks None h = h
  fits_on b blocks (Some k) h = by k.work h
    where
      by : (w : Option CommitSeen) → IsWritingOf d b blocks (numbers k.nodes) w
          → IsWritingOf e b blocks (numbers k.nodes) w
      by None g = g
      by (Some w) g = writing_on b blocks (numbers k.nodes) w g

  -- ---- the image

  rest_on : (b : Beginning) (job : Option Asked) (c : Session) (s : Space) (v : Volume) → IsAtRest b job c s v d
      → IsAtRest b job c s v e
  rest_on b job c s v h = record {
    means = subst (MeansAtRest greatest_size b job c s) (sym idle.seen) h.means;
    super40 = ap (super_of b.blocks) (sym (same_block SUPER_BLOCK.0)) ∙ h.super40;
    prev = h.prev ∙ ap head_named (sym idle.seen);
  }

  flushing_on : (b : Beginning) (job : Option Asked) (c : Session) (s : Space) (f : Flush) (a : AtomNo) (w : CommitSeen)
      → IsFlushing b job c s d f a w → IsFlushing b job c s e f a w
  flushing_on b job c s f a w h = record {
    way = h.way;
    comes = h.comes;
    atom = h.atom;
    super40 = h.super40;
    head = h.head;
    commits = h.commits;
    reads = reads_read w.work f.work.base d e h.reads goes idle.seen;
    deferred = h.deferred;
    later = h.later;
    lawful = h.lawful;
  }

  in_commit_on : (b : Beginning) (job : Option Asked) (c : Session) (s : Space) (v : Volume) (f : Option Flush)
      (a : AtomNo) (w : Option CommitSeen) → IsInCommit b job c s v d f a w → IsInCommit b job c s v e f a w
  in_commit_on b job c s v f a None h = record {
    before = h.before;
    space = h.space;
    more = h.more;
    rest = rest_on b job h.before h.space v h.rest;
    none = h.none;
    goes = h.goes;
    alike = h.alike;
    lawful = h.lawful;
    deferred = h.deferred;
  }
  in_commit_on b job c s v None a (Some w) h = h
  in_commit_on b job c s v (Some f) a (Some w) h = flushing_on b job c s f a w h

  at_on : (b : Beginning) (job : Option Asked) (c : Session) (s : Space) (v : Volume) (f : Option Flush)
      (broken : Option ℕ) (o : Option Commit) → IsAt b job c s v d f broken o → IsAt b job c s v e f broken o
  at_on b job c s v f (Some clock) o h = h
  at_on b job c s v f None None h = rest_on b job c s v h
  at_on b job c s v f None (Some k) h = in_commit_on b job c s v f k.atom k.work h

  -- ---- what a crash leaves

  stands_on : (f : Option Flush) (w : Option CommitSeen) → StandsAt d f w → StandsAt e f w
  stands_on f None h = quiet_on d e goes idle.seen idle.clock h
  stands_on None (Some w) h = h
  stands_on (Some f) (Some w) h =
      made_read (under_way w.work) (base_of w.work.plan f.work.base w.work.part) w.work.done d e h goes idle.seen
      idle.clock

  leaves_on : (f : Option Flush) (broken : Option ℕ) (o : Option Commit) → LeavesNow d f broken o
      → LeavesNow e f broken o
  leaves_on f (Some clock) o h = h
  leaves_on f None None h = quiet_on d e goes idle.seen idle.clock h
  leaves_on f None (Some k) h = stands_on f k.work h

  -- ---- a core

  module _ {D : Type 0} (r : Naming) (c : CoreSeen D) (k : IsKept r d c) (dev : D) where
    abbrev after : CoreSeen D
    after = record c { dev = dev }

    same_size : (b : Beginning) → IsNamed (names_in r) e.blocks b → IsNamed (names_in r) d.blocks b
    same_size b named = subst (λ (n : ℕ). IsNamed (names_in r) n b) goes.blocks named

    begun : (o : Option Beginning) → BeginsWith (names_in r) e.blocks o → BeginsWith (names_in r) d.blocks o
    begun None named = named
    begun (Some b) named = same_size b named

    story_on : (b : Beginning) (named : IsNamed (names_in r) d.blocks b) → HasStory r b e after
    story_on b named =
        let h = k.story b named in
        let m = h.means in
        record {
          story = h.story;
          means = record {
            reads = tells_on d e goes m.reads;
            session = m.session;
            trace = m.trace;
            owner = m.owner;
            root = m.root;
            cells = m.cells;
            clean = λ sound i n at none.
                (let (is, spares) = m.clean sound i n at none in (
                  subst (λ (block : List ℕ). IsCellOf (blocks_of c) block n) (same_block i) is,
                  spares,
                ));
            reach = m.reach;
            owned = m.owned;
            born = m.born;
            gone = m.gone;
            at = at_on b (job_named r.scripts) h.story.session c.space c.volume h.story.flush c.broken c.commit m.at;
          };
          durable = λ t clock tells.
              (let g = h.durable t clock (goes.crashes.0 tells) in
              record {
                each = record {
                  each = λ moment image from to left.
                      (let now = idle.clock in
                      let before : moment ≤ d.clock = omega (arith, to, now) in
                      g.each.each moment image from before (left_before d e moment image goes before left));
                };
                now = leaves_on h.story.flush c.broken c.commit g.now;
              });
        }

    abbrev IsToldAt : Option Beginning → ℕ → Type 0
    IsToldAt o n = IsTold (commands greatest_size) (option_map start_of o) n (tables_of c) c.trace.entries

    pub keeps_read : IsKept r e after
    keeps_read = record {
      history = record {
        told = λ o named.
            subst (λ (n : ℕ). IsToldAt o n) (sym idle.clock) (k.history.told o (begun o named));
        job = k.history.job;
        first = k.history.first;
        drawn = k.history.drawn;
        begins = λ b named. k.history.begins b (same_size b named);
        committed = k.history.committed;
        room = k.history.room;
      };
      tables = record {
        tasks = k.tables.tasks;
        ordered = k.tables.ordered;
      };
      accounts = record {
        covered = k.accounts.covered;
        same = k.accounts.same;
        counted = k.accounts.counted;
        unknown = k.accounts.unknown;
        objects = k.accounts.objects;
        holds = k.accounts.holds;
        room_to_capture = k.accounts.room_to_capture;
        room_for_cells = k.accounts.room_for_cells;
        room_to_defer = k.accounts.room_to_defer;
      };
      cells = record {
        super40 = subst (λ (n : ℕ). IsLawfulSuper n c.volume.super40) (sym goes.blocks) k.cells.super40;
        space = k.cells.space;
        root = k.cells.root;
        height = k.cells.height;
        root_stands = k.cells.root_stands;
        buffered_names = k.cells.buffered_names;
        reached_names = k.cells.reached_names;
        owned_names = k.cells.owned_names;
        named = k.cells.named;
        given_cells = k.cells.given_cells;
        dirty = k.cells.dirty;
        fresh = k.cells.fresh;
        clean = λ sound. readable_on c.buffer (blocks_of c) (k.cells.clean sound);
        nodes = k.cells.nodes;
        commit = fits_on c.buffer (blocks_of c) c.commit k.cells.commit;
      };
      tasks = record {
        uses = k.tasks.uses;
        drawn = k.tasks.drawn;
        apart = k.tasks.apart;
        unused = k.tasks.unused;
        unnamed = k.tasks.unnamed;
        unreached = k.tasks.unreached;
        unowned = k.tasks.unowned;
        given = k.tasks.given;
      };
      lender = λ l is. goes.lender ∙ k.lender l is;
      story = λ b named. story_on b (same_size b named);
    }
