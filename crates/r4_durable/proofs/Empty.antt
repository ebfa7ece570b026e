-- An atom without cells is sealed and committed, and nothing changes.
use Rattle.std.proofs.Common.{◌≡◌, ℕ, ◌+◌, ◌<◌, Bool, false, cond, List, Option, Some, None, get_or, refl, sym, ap}
use Rattle.std.proofs.Common.{◌∙◌, subst, arith}
use Rattle.std.specs.Prelude.{◌↔◌}
use Rattle.std.proofs.lemmas.Bool.{ne_eqb}
use Rattle.r4_base.specs.Image.{Image}
use Rattle.r4_base.specs.Tree.{Store}
use Rattle.r4_base.specs.Value.{Content, Value}
use Rattle.r4_base.specs.Volume.{IsLost}
use Rattle.r4_base.specs.declared.things.AtomNo.{AtomNo}
use Rattle.r4_content.specs.Locality.{commands}
use Rattle.r4_open.specs.r4_space.Lawful.{IsLawful}
use Rattle.r4_open.specs.r4_space.Space.{Space}
use Rattle.r4_flushed.specs.r4_trace.declared.entry.Entry.{Entry}
use Rattle.r4_flushed.specs.r4_trace.Job.{Asked}
use Rattle.r4_flushed.specs.r4_trace.Safe.{AddsNothing}
use Rattle.r4_flushed.specs.r4_trace.Traced.{committed_in, sealed_in}
use Rattle.r4_flushed.specs.r4_sets.Atoms.{committed, sealed, without}
use Rattle.r4_flushed.specs.r4_sets.Session.{Layer, Session}
use Rattle.r4_flushed.proofs.r4_sets.Gathered.{committed_sets, sealed_sets}
use Rattle.r4_flushed.proofs.r4_sets.Patches.{empty_sealed}
use Rattle.r4_flushed.proofs.r4_sets_told.OneContent.{adds_nothing}
use Rattle.r4_flushed.specs.r4_sealed.Contents.{HasContentWith}
use Rattle.r4_flushed.specs.r4_sealed.Written.{IsSpaceOf}
use Rattle.r4_flushed.specs.Deferred.{AreDeferred, AreDeferredBut}
use Rattle.r4_flushed.proofs.Owned.{committed_owns, still_owned}
use Rattle.r4_durable.specs.GoingOn.{GoesOn, MarksAlike}
use Rattle.r4_durable.specs.Kept.{IsSession, Means}
use Rattle.r4_durable.specs.Meaning.{Beginning, WasLost}
use Rattle.r4_durable.specs.Sealing.{made_by}
use Rattle.r4_durable.proofs.Steps.{counts_stay, made_is}
use Rattle.r4_durable.proofs.SealedContent.{same_before}

kept_owner : (a k : ℕ) (o : Option ℕ) → (o ≡ Some a → ⊥) → o ≡ Some k → without a o ≡ Some k
kept_owner a k o none is =
    ap (without a) is ∙ ap (λ (t : Bool). cond t None (Some k))
    (ne_eqb k a (λ e. none (is ∙ ap (λ (j : ℕ). Some j) e)))

module _ (limit : ℕ) (b : Beginning) (job : Option Asked) (c : Session) (s : Space) (image : Image)
    (kept : Means limit b job c s image) (a : AtomNo) (none : (i : ℕ) → c.owner i ≡ Some a.0 → ⊥) where
  abbrev now : Session
  now = sealed c a

  -- the cells under the open atoms are as they were
  same_cells : now.under.cells ≡ c.under.cells
  same_cells = (empty_sealed c a.0 none).0

  same_layer : now.under ≡ c.base
  same_layer =
      (λ i. record { cells = (empty_sealed c a.0 none).0 i; root = (empty_sealed c a.0 none).1 i }) ∙ kept.alone

  pub empty_session : IsSession limit b job now
  empty_session = record {
    start = kept.session.start;
    sets = sealed_sets (commands limit) c kept.session.sets a;
    run = record {
      lawful = kept.session.run.lawful;
      room = kept.session.run.room;
      paths = kept.session.run.paths;
      ids = kept.session.run.ids;
    };
    owns = λ i k own low.
        let (d, is) = kept.session.owns i k (still_owned a.0 k (c.owner i) own).0 low in
        (d, ap (λ (t : Store Value). t i) same_cells ∙ is);
  }

  pub empty_deferred : AreDeferredBut a now s
  empty_deferred = record {
    others = λ e k other. (
      λ is.
          let g = (kept.deferred e k).0 is in
          let (d, was) = g.was in
          record {
            own = kept_owner a.0 e.0 (c.owner k) (none k) g.own;
            gone = g.gone;
            was = (d, ap (λ (t : Store Value). t k) same_cells ∙ was);
          },
      λ g.
          let (d, was) = g.was in
          (kept.deferred e k).1 (record {
            own = (still_owned a.0 e.0 (c.owner k) g.own).0;
            gone = g.gone;
            was = (d, sym (ap (λ (t : Store Value). t k) same_cells) ∙ was);
          }),
    );
    none = λ k own. none k (still_owned a.0 a.0 (c.owner k) own).0;
  }

  module _ (go : Session) (more : List Entry) (goes : GoesOn now go more) (session : IsSession limit b job go)
      (later : Space) (alike : MarksAlike s later) (lawful : IsLawful later) (deferred : AreDeferred go later)
      (clock : ℕ) where
    abbrev after : Session
    after = committed go a clock

    one_more : sealed_in go.trace ≡ committed_in go.trace + 1
    one_more =
        let counts = counts_stay limit now go more goes in
        counts.0 ∙ ap (λ (k : ℕ). k + 1) (kept.none_sealed ∙ sym counts.1)

    nothing : AddsNothing (commands limit) now.start now.trace
    nothing =
        adds_nothing (commands limit) now empty_session.sets (ap (λ (l : Layer). l.cells) same_layer)
        (ap (λ (k : ℕ). k + 1) kept.none_sealed)

    same_made : made_by limit after (committed_in after.trace) ≡ made_by limit c (committed_in c.trace)
    same_made =
        let counts = counts_stay limit now go more goes in
        let all = kept.none_sealed in
        ap (λ (k : ℕ). made_by limit go (k + 1)) counts.1
        ∙ made_is limit now go more goes (committed_in now.trace + 1) (omega (arith, all))
        ∙ nothing.same
        ∙ same_before (commands limit) c.start c.trace a (committed_in c.trace) kept.session.sets.counts

    record Has (t : Store Value) (m : Content) : Type 0 where
      pub has : HasContentWith b.blocks image kept.rests.super40 t m
      pub here : IsSpaceOf has.content later
      pub lost : (k : ℕ) → IsLost has.content k ↔ WasLost b k

    has_before : Has c.base.cells (made_by limit c (committed_in c.trace))
    has_before = record {
      has = kept.rests.has;
      here = record {
        count = kept.rests.here.count ∙ sym alike.count;
        marks = λ k lt. ap (λ (l : List Bool). get_or l k false) alike.marked
            ∙ kept.rests.here.marks k (subst (λ (j : ℕ). k < j) alike.count lt);
      };
      lost = kept.rests.lost;
    }

    layer_now : after.base ≡ c.base
    layer_now = goes.under ∙ same_layer

    has_after : Has after.base.cells (made_by limit after (committed_in after.trace))
    has_after =
        subst (Has after.base.cells) (sym same_made)
        (subst (λ (l : Layer). Has l.cells (made_by limit c (committed_in c.trace))) (sym layer_now) has_before)

    pub empty_kept : Means limit b job after later image
    empty_kept = record {
      session = record {
        start = session.start;
        sets = committed_sets (commands limit) go session.sets a clock one_more;
        run = record {
          lawful = session.run.lawful;
          room = session.run.room;
          paths = session.run.paths;
          ids = session.run.ids;
        };
        owns = committed_owns go session.owns a clock;
      };
      none_sealed = one_more;
      alone = refl;
      deferred = λ e k. (
        λ is. let g = (deferred e k).0 is in record { own = g.own; gone = g.gone; was = g.was },
        λ g. (deferred e k).1 (record { own = g.own; gone = g.gone; was = g.was }),
      );
      rests = record {
        whole = kept.rests.whole;
        log = kept.rests.log;
        super40 = kept.rests.super40;
        has = has_after.has;
        root = ap (λ (l : Layer). l.root) layer_now ∙ kept.rests.root;
        lawful = lawful;
        here = has_after.here;
        none_placed = λ k. ap (λ (l : List Bool). get_or l k false) alike.placed ∙ kept.rests.none_placed k;
        next_id = kept.rests.next_id;
        lost = has_after.lost;
      };
    }
