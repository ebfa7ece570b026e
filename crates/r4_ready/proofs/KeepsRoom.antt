-- What holds of a core holds once it has made room.
use Rattle.std.proofs.Common.{◌≡◌, ℕ, ◌≤◌, List, [], Option, Some, None, refl, sym, ◌∙◌, ap, subst, arith}
use Rattle.std.specs.Prelude.{IsSome}
use Rattle.std.specs.Option.{option_map}
use Rattle.r4_atoms.specs.Atoms.{AtomsSeen, numbers, owner_of, IsBegun, IsOpenAtom}
use Rattle.r4_base.specs.Tree.{Name}
use Rattle.r4_serve.specs.r4_buffer.Seen.{BufferSeen, IsLawful, buffered, is_dirty_by}
use Rattle.r4_serve.specs.r4_commit.Planned.{CommitSeen}
use Rattle.r4_content.specs.Locality.{commands}
use Rattle.r4_content.specs.Meaning.{greatest_size}
use Rattle.r4_taking.specs.r4_durable.GoingOn.{GoesOn}
use Rattle.r4_taking.specs.r4_durable.Meaning.{Beginning, start_of, IsNamed}
use Rattle.r4_serve.specs.r4_history.Held.{IsServed}
use Rattle.r4_serve.proofs.r4_history.RunSteps.{told_owners}
use Rattle.r4_outside.specs.Device.{State}
use Rattle.r4_taking.specs.r4_sets.Session.{Session}
use Rattle.r4_serve.specs.r4_space.Lawful.{IsLawful as IsLawfulSpace}
use Rattle.r4_serve.specs.r4_space.Space.{Space, unused_count}
use Rattle.r4_serve.specs.r4_trace.Order.{IsOrdered}
use Rattle.r4_taking.specs.r4_kept.Accounts.{CountsCells}
use Rattle.r4_taking.specs.r4_kept.Cells.{FitsCommit, IsWritingOf, NamesAt}
use Rattle.r4_taking.specs.r4_kept.Kept.{HasStory, IsKept}
use Rattle.r4_taking.specs.r4_kept.Meaning.{if_open}
use Rattle.r4_taking.specs.r4_kept.Naming.{Naming, job_named, names_in}
use Rattle.r4_taking.specs.r4_kept.View.{CoreSeen, blocks_of, tables_of}
use Rattle.r4_taking.specs.r4_kept.declared.parts.Commit.{Commit}
use Rattle.r4_taking.proofs.r4_kept.Staying.{named_on, still_like}
use Rattle.r4_taking.proofs.r4_kept.Unused.{AreLike, IsLike, readable_like}
use Rattle.r4_taking.specs.Following.{Follows}
use Rattle.r4_taking.proofs.Going.{at_over}
use Rattle.r4_ready.specs.Rooms.{HasMoreRoom}
use Rattle.r4_base.specs.declared.things.AtomNo.{AtomNo}
use Rattle.r4_serve.specs.r4_buffer.Changed.{uses_of, Standing}
use Rattle.r4_taking.specs.r4_sealed.Commits.{IsLater}
use Rattle.r4_serve.specs.r4_turns.declared.out.Out.{Out}
use Rattle.r4_taking.specs.r4_kept.TasksOut.{pins_on}

like_itself : (o : Standing) → IsLike o o
like_itself None = tt
like_itself (Some e) = record { cell = refl; dirty = refl }

-- room for claims is no block
unused_same : (s : Space) (claims : ℕ) → unused_count (record s { spare = claims }) ≡ unused_count s
unfolding unused_count
unused_same s claims = refl

module _ {D : Type 0} (r : Naming) (d : State) (c : CoreSeen D) (k : IsKept r d c) (captured : List (ℕ × ℕ))
    (captures txns : ℕ) (buffer : BufferSeen) (claims entries : ℕ) (lawful : IsLawful c.buffer)
    (still : IsLawful buffer) (space_lawful : IsLawfulSpace c.space)
    (cells : (i : ℕ) → buffered buffer i ≡ buffered c.buffer i) (more_captures : c.atoms.spare ≤ captures)
    (places : c.buffer.spare ≤ buffer.spare) (more_claims : c.space.spare ≤ claims)
    (more_entries : c.trace.spare ≤ entries) where
  abbrev table : AtomsSeen
  table = record c.atoms { captured = captured; spare = captures; txn_spare = txns }

  abbrev room : Space
  room = record c.space { spare = claims }

  abbrev after : CoreSeen D
  after = record c {
    trace = record c.trace { spare = entries };
    atoms = table;
    buffer = buffer;
    space = room;
  }

  begun_then : (a : ℕ) → IsBegun c.atoms a → IsBegun table a
  begun_then a h = record { some = h.some; within = h.within }

  open_before : (a : ℕ) → IsOpenAtom table a → IsOpenAtom c.atoms a
  open_before a h = record {
    atom = record {
      begun = record { some = h.atom.begun.some; within = h.atom.begun.within };
      own = h.atom.own;
    };
    unsealed = h.unsealed;
  }

  module _ (same_owners : (n : ℕ) → owner_of table n ≡ owner_of c.atoms n) where
    like : AreLike c.buffer buffer
    like i = subst (IsLike (buffered c.buffer i)) (sym (cells i)) (like_itself (buffered c.buffer i))

    dirty_same : (i : ℕ) → is_dirty_by (buffered buffer i) ≡ is_dirty_by (buffered c.buffer i)
    dirty_same i = ap is_dirty_by (cells i)

    names_before : (i : ℕ) (n : Name) → NamesAt buffer i n → NamesAt c.buffer i n
    names_before i n x = record { entry = x.entry; is = sym (cells i) ∙ x.is; among = x.among }

    counts_same : (a cells_are fresh_are : ℕ) → CountsCells c.buffer c.atoms a cells_are fresh_are
        → CountsCells buffer table a cells_are fresh_are
    counts_same a cells_are fresh_are h = record {
      nodes = h.nodes;
      different = h.different;
      just = λ i. (
        (λ has. (same_owners i ∙ ((h.just i).0 has).0, dirty_same i ∙ ((h.just i).0 has).1)),
        (λ both. (h.just i).1 (sym (same_owners i) ∙ both.0, sym (dirty_same i) ∙ both.1)),
      );
      cells_are = h.cells_are;
      fresh_are = h.fresh_are;
    }

    served_same : (s : ℕ) (out : Out) → IsServed (tables_of c) s out → IsServed (tables_of after) s out
    served_same s out h = record {
      within = h.within;
      transaction = h.transaction;
      txn = h.txn;
      command = h.command;
      next = h.next;
      work = h.work;
      owners = λ node a has owned. h.owners node a has (sym (same_owners node) ∙ owned);
    }

    fits_same : (o : Option Commit) → FitsCommit d c.buffer (blocks_of c) o → FitsCommit d buffer (blocks_of c) o
    fits_same None h = h
    fits_same (Some x) h = by x.work h
      where
        by : (w : Option CommitSeen) → IsWritingOf d c.buffer (blocks_of c) (numbers x.nodes) w
            → IsWritingOf d buffer (blocks_of c) (numbers x.nodes) w
        by None g = g
        by (Some w) g = record {
          fits = g.fits;
          unfinished = g.unfinished;
          within = g.within;
          super40 = g.super40;
          count = g.count;
          base = g.base;
          reads = g.reads;
          apart = λ i p f target at. g.apart i p f target (sym (cells i) ∙ at);
          below = g.below;
          accepted = λ i f has at. g.accepted i f has (sym (cells i) ∙ at);
          lands = λ tells i f has at. g.lands tells i f has (sym (cells i) ∙ at);
        }

    -- the space tells what it told
    follows : (was : Session) → Follows c.commit was was c.space room
    follows was = record {
      defers = λ h a b. h a b;
      alike = record { count = refl; marked = refl; placed = refl };
      lawful = record {
        least = space_lawful.least;
        most = space_lawful.most;
        marked_size = space_lawful.marked_size;
        placed_size = space_lawful.placed_size;
        fixed = space_lawful.fixed;
        held_within = space_lawful.held_within;
        deferred_within = space_lawful.deferred_within;
        once = space_lawful.once;
        dues_small = space_lawful.dues_small;
      };
      under_way = λ x is. record {
        but = λ h. record { others = h.others; none = h.none };
        on = λ older later. later_on x.atom older later;
      };
    }
      where
        later_on : (a : AtomNo) (older : Space) → IsLater older c.space a → IsLater older room a
        later_on a older h = record {
          count = h.count;
          marked = h.marked;
          placed = h.placed;
          freed = h.freed;
        }

    goes_nowhere : (was : Session) → IsOrdered was.trace → GoesOn was was []
    goes_nowhere was legal = record {
      start = refl;
      trace = refl;
      base = refl;
      under = refl;
      legal = legal;
      none = tt;
    }

    legal : IsOrdered c.trace.entries
    legal = (k.history.told None tt).legal.order

    story_same : (b : Beginning) → IsNamed (names_in r) d.blocks b → HasStory r b d after
    story_same b named =
        let h = k.story b named in
        let m = h.means in
        let was = h.story.session in
        record {
          story = h.story;
          means = record {
            reads = m.reads;
            session = m.session;
            trace = m.trace;
            owner = λ i. m.owner i ∙ ap (if_open c.atoms) (sym (same_owners i));
            root = m.root;
            cells = λ i f at. m.cells i f (sym (cells i) ∙ at);
            clean = λ sound i n at none. m.clean sound i n at (sym (cells i) ∙ none);
            reach = m.reach;
            owned = λ i n some at. dirty_same i ∙ m.owned i n (subst IsSome (same_owners i) some) at;
            born = λ a opened. m.born a (open_before a opened);
            gone = λ a opened. m.gone a (open_before a opened);
            at = at_over b (job_named r.scripts) was was []
                (goes_nowhere was (subst IsOrdered (sym m.trace) legal)) c.space room c.commit (follows was) c.volume d
                m.session h.story.flush c.broken m.at;
          };
          durable = λ t clock tells.
              (let g = h.durable t clock tells in record { each = g.each; now = g.now });
        }

    pub keeps_room : IsKept r d after
    keeps_room = record {
      history = record {
        told = λ o named.
            told_owners (commands greatest_size) (option_map start_of o) d.clock (tables_of c) c.trace.entries
            (k.history.told o named) table refl refl;
        job = k.history.job;
        first = k.history.first;
        drawn = k.history.drawn;
        begins = k.history.begins;
        committed = k.history.committed;
        room = let had = k.history.room in omega (arith, had, more_entries);
      };
      tables = record {
        tasks = record {
          held = k.tables.tasks.held;
          served = λ s out is. served_same s out (k.tables.tasks.served s out is);
        };
        ordered = k.tables.ordered;
      };
      accounts =
          (let g = k.accounts in
          record {
            covered = let same = unused_same c.space claims in let had = g.covered in omega (arith, had, same);
            same = λ a opened. g.same a (open_before a.0 opened);
            counted = λ a opened. counts_same a _ _ (g.counted a (open_before a opened));
            unknown = λ a none. g.unknown a (λ begun. none (begun_then a.0 begun));
            objects = λ a opened. g.objects a (open_before a opened);
            holds = g.holds;
            room_to_capture = let had = g.room_to_capture in omega (arith, had, more_captures);
            room_for_cells = let had = g.room_for_cells in omega (arith, had, places);
            room_to_defer = let had = g.room_to_defer in omega (arith, had, more_claims);
          });
      cells =
          (let g = k.cells in
          record {
            super40 = g.super40;
            space = g.space;
            root = g.root;
            height = g.height;
            root_stands = λ high. dirty_same c.tree.id.0 ∙ g.root_stands high;
            buffered_names = λ i f at. g.buffered_names i f (sym (cells i) ∙ at);
            reached_names = g.reached_names;
            owned_names = λ i some. g.owned_names i (subst IsSome (same_owners i) some);
            named = named_on c.buffer buffer c.tree.id.0 (λ i n x high. names_before i n x) g.named;
            given_cells = λ sound s out x is has.
                still_like c.buffer buffer like (blocks_of c) x (g.given_cells sound s out x is has);
            dirty = λ i f at.
                (let (to, from) = g.dirty i f (sym (cells i) ∙ at) in (
                  λ on. subst IsSome (sym (same_owners i)) (to on),
                  λ some. from (subst IsSome (same_owners i) some),
                ));
            fresh = λ i f at high. g.fresh i f (sym (cells i) ∙ at) high;
            clean = λ sound. readable_like c.buffer buffer like lawful still d (blocks_of c) (g.clean sound);
            nodes = λ x is i.
                (let (to, from) = g.nodes x is i in (
                  λ has. same_owners i ∙ to has,
                  λ owned. from (sym (same_owners i) ∙ owned),
                ));
            commit = fits_same c.commit g.commit;
          });
      tasks =
          (let g = k.tasks in
          record {
            uses = λ i. subst (λ (n : ℕ). n ≤ pins_on c.turns.turns i) (ap uses_of (sym (cells i))) (g.uses i);
            drawn = g.drawn;
            apart = g.apart;
            unused = λ s i n f is had at. g.unused s i n f is had (sym (cells i) ∙ at);
            unnamed = λ s i n m is had x. g.unnamed s i n m is had (names_before i m x);
            unreached = g.unreached;
            unowned = λ s i n is had from to. same_owners i ∙ g.unowned s i n is had from to;
            given = g.given;
          });
      lender = k.lender;
      story = story_same;
    }

-- the same of whatever has more room
pub keeps_roomier : {D : Type 0} (r : Naming) (d : State) (old new : CoreSeen D) → IsKept r d old → IsLawful old.buffer
    → IsLawful new.buffer → IsLawfulSpace old.space → HasMoreRoom old new → IsKept r d new
keeps_roomier r d old new k lawful still space h =
    let table = record old.atoms {
      captured = new.atoms.captured;
      spare = new.atoms.spare;
      txn_spare = new.atoms.txn_spare;
    } in
    let is : new.atoms ≡ table = ap (λ (c : CoreSeen _). c.atoms) h.same in
    subst (IsKept r d) (sym h.same)
    (keeps_room r d old k new.atoms.captured new.atoms.spare new.atoms.txn_spare new.buffer new.space.spare
    new.trace.spare lawful still space h.cells h.captures h.places h.claims h.entries
    (λ n. ap (λ (s : AtomsSeen). owner_of s n) (sym is) ∙ h.owners n))
