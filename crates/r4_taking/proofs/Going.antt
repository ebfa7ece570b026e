-- A run goes on by entries that seal nothing and commit nothing, and what is deferred goes along: what is said of the
-- image, of the commit under way and of what a crash leaves stays.
use Rattle.std.proofs.Common.{◌≡◌, ℕ, List, [], ◌∷◌, ◌++◌, Option, Some, None, refl, sym, ◌∙◌, ap, subst}
use Rattle.std.proofs.lemmas.List.{append_assoc}
use Rattle.r4_base.specs.declared.things.AtomNo.{AtomNo}
use Rattle.r4_kept.specs.r4_commit.Planned.{CommitSeen}
use Rattle.r4_content.specs.Meaning.{greatest_size}
use Rattle.r4_kept.specs.r4_durable.GoingOn.{GoesOn, SealNothing}
use Rattle.r4_kept.specs.r4_durable.Kept.{IsSession}
use Rattle.r4_kept.specs.r4_durable.Meaning.{Beginning}
use Rattle.r4_kept.proofs.r4_durable.Steps.{kept_after}
use Rattle.r4_outside.specs.Device.{State}
use Rattle.r4_kept.specs.r4_sets.Session.{Session}
use Rattle.r4_kept.specs.r4_space.Space.{Space}
use Rattle.r4_kept.specs.r4_trace.Job.{Asked}
use Rattle.r4_kept.specs.r4_trace.Order.{IsOrdered}
use Rattle.r4_kept.specs.r4_trace.declared.entry.Entry.{Entry}
use Rattle.r4_kept.specs.Meaning.{Comes, ComesFrom, IsAt, IsAtRest, IsFlushing, IsInCommit, IsInPart}
use Rattle.r4_kept.specs.Story.{Flush, Headed}
use Rattle.r4_kept.specs.declared.parts.Commit.{Commit}
use Rattle.r4_kept.specs.declared.parts.Volume.{Volume}
pub use Rattle.r4_taking.specs.Following.{Follows, FollowsFor}
use Rattle.r4_taking.proofs.Merged.{lawful_settled}

seal_none : (es more : List Entry) → SealNothing es → SealNothing more → SealNothing (es ++ more)
seal_none [] more one two = two
seal_none (e ∷ es) more one two = (one.0, seal_none es more one.1 two)

module _ (b : Beginning) (job : Option Asked) (c now : Session) (es : List Entry) (goes : GoesOn c now es) where
  goes_over : (from : Session) (more : List Entry) → GoesOn from c more → GoesOn from now (es ++ more)
  goes_over from more g =
      let same : es ++ c.trace ≡ (es ++ more) ++ from.trace =
      ap (λ (l : List Entry). es ++ l) g.trace ∙ sym (append_assoc es more from.trace) in
      record {
        start = goes.start ∙ g.start;
        trace = goes.trace ∙ same;
        base = goes.base ∙ g.base;
        under = goes.under ∙ g.under;
        legal = subst IsOrdered same goes.legal;
        none = seal_none es more goes.none g.none;
      }

  comes_over : (f : Flush) (part : ℕ) → Comes b job f c part → Comes b job f now part
  comes_over f part g = by g.headed g.from g.in_part
    where
      by : (h : Option Headed) → ComesFrom b job f g.more h c → IsInPart h part → Comes b job f now part
      by None from part = record {
        more = es ++ g.more;
        headed = None;
        from = goes_over _ g.more from;
        in_part = part;
      }
      by (Some h) from part = record {
        more = g.more;
        headed = Some (record h { later = es ++ h.later });
        from = record {
          before = from.before;
          session = from.session;
          deferred = from.deferred;
          later = from.later;
          lawful = from.lawful;
          behind = goes_over _ h.later from.behind;
        };
        in_part = part;
      }

module _ (b : Beginning) (job : Option Asked) (c now : Session) (es : List Entry) (goes : GoesOn c now es)
    (s later : Space) (commit : Option Commit) (follows : Follows commit c now s later) (v : Volume) (d : State)
    (session : IsSession greatest_size b job now) where
  rest_over : IsAtRest b job c s v d → IsAtRest b job now later v d
  rest_over h = record {
    means = kept_after greatest_size b job c now s later es d.seen h.means goes follows.alike follows.lawful session
        (follows.defers h.means.deferred);
    super40 = h.super40;
    prev = h.prev;
  }

  flushing_over : (f : Flush) (a : AtomNo) (w : CommitSeen) → FollowsFor a c now s later
      → IsFlushing b job c s d f a w → IsFlushing b job now later d f a w
  flushing_over f a w along h =
      let mine : FollowsFor f.work.atom c now s later =
      subst (λ (x : AtomNo). FollowsFor x c now s later) h.atom along in
      record {
        way = h.way;
        comes = comes_over b job c now es goes f w.work.part h.comes;
        atom = h.atom;
        super40 = h.super40;
        head = h.head;
        commits = h.commits;
        reads = h.reads;
        deferred = mine.but h.deferred;
        later = mine.on _ h.later;
        lawful = lawful_settled later f.work.atom follows.lawful;
      }

  in_commit_over : (f : Option Flush) (a : AtomNo) (w : Option CommitSeen) → FollowsFor a c now s later
      → IsInCommit b job c s v d f a w → IsInCommit b job now later v d f a w
  in_commit_over f a None along h = record {
    before = h.before;
    space = h.space;
    more = es ++ h.more;
    rest = h.rest;
    none = h.none;
    goes = goes_over b job c now es goes _ h.more h.goes;
    alike = record {
      count = follows.alike.count ∙ h.alike.count;
      marked = follows.alike.marked ∙ h.alike.marked;
      placed = follows.alike.placed ∙ h.alike.placed;
    };
    lawful = follows.lawful;
    deferred = follows.defers h.deferred;
  }
  in_commit_over None a (Some w) along h = absurd h
  in_commit_over (Some f) a (Some w) along h = flushing_over f a w along h

  at_by : (f : Option Flush) (broken : Option ℕ) (k : Option Commit) → commit ≡ k → IsAt b job c s v d f broken k
      → IsAt b job now later v d f broken k
  at_by f (Some clock) k is h = tt
  at_by f None None is h = rest_over h
  at_by f None (Some k) is h = in_commit_over f k.atom k.work (follows.under_way k is) h

  pub at_over : (f : Option Flush) (broken : Option ℕ) → IsAt b job c s v d f broken commit
      → IsAt b job now later v d f broken commit
  at_over f broken h = at_by f broken commit refl h
