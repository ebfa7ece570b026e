-- Where an entry comes that changes no cell, seals nothing and commits nothing: the session goes on.
use Rattle.std.proofs.Common.{ℕ, List, [], ◌∷◌, Option, Some, None, refl, ap, subst}
use Rattle.r4_base.specs.declared.things.AtomNo.{AtomNo}
use Rattle.r4_content.specs.Locality.{commands}
use Rattle.r4_content.specs.Meaning.{greatest_size}
use Rattle.r4_durable.specs.GoingOn.{GoesOn, SealsNothing}
use Rattle.r4_durable.specs.Kept.{IsSession}
use Rattle.r4_durable.specs.Meaning.{Beginning}
use Rattle.r4_durable.proofs.Steps.{kept_after}
use Rattle.r4_durable.specs.r4_flushed.Deferred.{AreDeferred, AreDeferredBut}
use Rattle.r4_durable.specs.r4_commit.Planned.{CommitSeen}
use Rattle.r4_outside.specs.Device.{State}
use Rattle.r4_durable.specs.r4_sets.Atoms.{ChangesNoCell, told}
use Rattle.r4_durable.specs.r4_sets.Session.{Session}
use Rattle.r4_durable.proofs.r4_sets.Gathered.{told_sets}
use Rattle.r4_durable.specs.r4_sets_told.Runs.{IsLawfulRun}
use Rattle.r4_durable.specs.r4_space.Space.{Space}
use Rattle.r4_history.specs.r4_trace.Ids.{Start}
use Rattle.r4_history.specs.r4_trace.Job.{Asked}
use Rattle.r4_history.specs.r4_trace.Order.{IsOrdered}
use Rattle.r4_history.specs.r4_trace.Safe.{IsNoCommit}
use Rattle.r4_history.specs.r4_trace.declared.entry.Entry.{Entry}
use Rattle.r4_history.specs.r4_trace.declared.entry.Entry.TheVariants.{Begin, Fuse, Done, Refused, Ended, Sealed, Committed}
use Rattle.r4_history.specs.r4_trace.declared.entry.Entry.TheVariants.{Acked, Broken}
use Rattle.r4_kept.specs.Meaning.{Comes, ComesFrom, IsAt, IsAtRest, IsInCommit, IsInPart}
use Rattle.r4_kept.specs.Story.{Flush, Headed}
use Rattle.r4_kept.specs.declared.parts.Commit.{Commit}
use Rattle.r4_kept.specs.declared.parts.Volume.{Volume}

-- ---- the entry

seals_nothing : (e : Entry) → ChangesNoCell e → SealsNothing e
seals_nothing (Sealed atom) h = absurd h
seals_nothing (Committed atom clock) h = absurd h
seals_nothing e h = tt

pub commits_nothing : (e : Entry) → ChangesNoCell e → IsNoCommit e
commits_nothing (Committed atom clock) h = absurd h
commits_nothing e h = tt

run_told : (limit : ℕ) (start : Start) (job : Option Asked) (trace : List Entry) (e : Entry) → ChangesNoCell e
    → IsLawfulRun limit start job trace → IsLawfulRun limit start job (e ∷ trace)
run_told limit start job trace (Begin txn script) q h =
    record { lawful = h.lawful; room = h.room; paths = h.paths; ids = h.ids }
run_told limit start job trace (Refused txn script i r) q h =
    record { lawful = h.lawful; room = h.room; paths = h.paths; ids = h.ids }
run_told limit start job trace (Ended txn) q h =
    record { lawful = h.lawful; room = h.room; paths = h.paths; ids = h.ids }
run_told limit start job trace (Acked script txn clock) q h =
    record { lawful = h.lawful; room = h.room; paths = h.paths; ids = h.ids }
run_told limit start job trace (Broken clock faults) q h =
    record { lawful = h.lawful; room = h.room; paths = h.paths; ids = h.ids }
run_told limit start job trace (Fuse a b n) q h = absurd q
run_told limit start job trace (Done txn script i c r) q h = absurd q
run_told limit start job trace (Sealed atom) q h = absurd q
run_told limit start job trace (Committed atom clock) q h = absurd q

-- ---- the session

module _ (b : Beginning) (job : Option Asked) (c : Session) (e : Entry) (quiet : ChangesNoCell e) where
  pub session_told : IsSession greatest_size b job c → IsSession greatest_size b job (told c e)
  session_told h = record {
    start = h.start;
    sets = told_sets (commands greatest_size) c h.sets e quiet;
    run = run_told greatest_size _ job c.trace e quiet h.run;
    owns = h.owns;
  }

  deferred_told : (s : Space) → AreDeferred c s → AreDeferred (told c e) s
  deferred_told s h a k = (
    (λ is. (let g = (h a k).0 is in record { own = g.own; gone = g.gone; was = g.was })),
    (λ g. (h a k).1 (record { own = g.own; gone = g.gone; was = g.was })),
  )

  but_told : (atom : AtomNo) (s : Space) → AreDeferredBut atom c s → AreDeferredBut atom (told c e) s
  but_told atom s h = record {
    others = λ a k other. (
      (λ is. (let g = (h.others a k other).0 is in record { own = g.own; gone = g.gone; was = g.was })),
      (λ g. (h.others a k other).1 (record { own = g.own; gone = g.gone; was = g.was })),
    );
    none = h.none;
  }

  module _ (legal : IsOrdered (e ∷ c.trace)) where
    goes_told : (from : Session) (more : List Entry) → GoesOn from c more → GoesOn from (told c e) (e ∷ more)
    goes_told from more g = record {
      start = g.start;
      trace = ap (λ (l : List Entry). e ∷ l) g.trace;
      base = g.base;
      under = g.under;
      legal = subst (λ (l : List Entry). IsOrdered (e ∷ l)) g.trace legal;
      none = (seals_nothing e quiet, g.none);
    }

    from_told : (f : Flush) (part : ℕ) → Comes b job f c part → Comes b job f (told c e) part
    from_told f part g = by g.headed g.from g.in_part
      where
        by : (h : Option Headed) → ComesFrom b job f g.more h c → IsInPart h part → Comes b job f (told c e) part
        by None from part = record {
          more = e ∷ g.more;
          headed = None;
          from = goes_told _ g.more from;
          in_part = part;
        }
        by (Some h) from part = record {
          more = g.more;
          headed = Some (record h { later = e ∷ h.later });
          from = record {
            before = from.before;
            session = from.session;
            deferred = from.deferred;
            later = from.later;
            lawful = from.lawful;
            behind = goes_told _ h.later from.behind;
          };
          in_part = part;
        }

    module _ (s : Space) (v : Volume) (d : State) (session : IsSession greatest_size b job (told c e)) where
      rest_told : IsAtRest b job c s v d → IsAtRest b job (told c e) s v d
      rest_told h = record {
        means = kept_after greatest_size b job c (told c e) s s (e ∷ []) d.seen h.means
            (record {
              start = refl;
              trace = refl;
              base = refl;
              under = refl;
              legal = legal;
              none = (seals_nothing e quiet, tt);
            })
            (record { count = refl; marked = refl; placed = refl }) h.means.rests.lawful session
            (deferred_told s h.means.deferred);
        super40 = h.super40;
        prev = h.prev;
      }

      in_commit_told : (f : Option Flush) (k : AtomNo) (w : Option CommitSeen) → IsInCommit b job c s v d f k w
          → IsInCommit b job (told c e) s v d f k w
      in_commit_told f k None h = record {
        before = h.before;
        space = h.space;
        more = e ∷ h.more;
        rest = h.rest;
        none = h.none;
        goes = goes_told _ h.more h.goes;
        alike = h.alike;
        lawful = h.lawful;
        deferred = deferred_told s h.deferred;
      }
      in_commit_told None k (Some w) h = absurd h
      in_commit_told (Some f) k (Some w) h = record {
        way = h.way;
        comes = from_told f w.work.part h.comes;
        atom = h.atom;
        super40 = h.super40;
        head = h.head;
        commits = h.commits;
        reads = h.reads;
        deferred = but_told f.work.atom s h.deferred;
        later = h.later;
        lawful = h.lawful;
      }

      pub at_told : (f : Option Flush) (broken : Option ℕ) (k : Option Commit) → IsAt b job c s v d f broken k
          → IsAt b job (told c e) s v d f broken k
      at_told f (Some clock) k h = tt
      at_told f None None h = rest_told h
      at_told f None (Some k) h = in_commit_told f k.atom k.work h
