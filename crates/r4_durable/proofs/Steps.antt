-- What is kept while nothing is under way stays kept over steps that seal and commit nothing.
use Rattle.std.proofs.Common.{◌≡◌, ℕ, ◌≤◌, ◌<◌, Bool, false, List, Option, get_or, sym, ap, ◌∙◌, subst, arith}
use Rattle.std.specs.Prelude.{◌↔◌}
use Rattle.r4_base.specs.Image.{Image}
use Rattle.r4_base.specs.Tree.{Store}
use Rattle.r4_base.specs.Value.{Content, Value}
use Rattle.r4_base.specs.Volume.{IsLost}
use Rattle.r4_content.specs.Locality.{commands}
use Rattle.r4_outside.specs.Device.{State, TellsReads}
use Rattle.r4_open.specs.r4_space.Lawful.{IsLawful}
use Rattle.r4_open.specs.r4_space.Space.{Space}
use Rattle.r4_flushed.specs.r4_trace.declared.entry.Entry.{Entry}
use Rattle.r4_flushed.specs.r4_trace.Folds.{after_first}
use Rattle.r4_flushed.specs.r4_trace.Safe.{IsSafeFrom}
use Rattle.r4_flushed.specs.r4_trace.Job.{Asked}
use Rattle.r4_flushed.specs.r4_trace.Traced.{committed_in, sealed_in}
use Rattle.r4_flushed.specs.r4_sets.Session.{Layer, Session}
use Rattle.r4_flushed.specs.r4_sealed.Contents.{HasContentWith}
use Rattle.r4_flushed.specs.r4_sealed.Written.{IsSpaceOf}
use Rattle.r4_flushed.specs.Deferred.{AreDeferred}
use Rattle.r4_durable.specs.GoingOn.{GoesOn, MarksAlike}
use Rattle.r4_durable.specs.Kept.{IsKept, IsSession, Means}
use Rattle.r4_durable.specs.Meaning.{Beginning, WasLost, means}
use Rattle.r4_durable.specs.Sealing.{made_by}
use Rattle.r4_durable.proofs.Staying.{made_stays, safe_stays, same_counts}

-- what the first atoms of a session made, which goes on
module _ (limit : ℕ) (c now : Session) (more : List Entry) (goes : GoesOn c now more) where
  pub counts_stay : (sealed_in now.trace ≡ sealed_in c.trace) × (committed_in now.trace ≡ committed_in c.trace)
  counts_stay =
      let counts = same_counts more c.trace goes.none in
      (ap sealed_in goes.trace ∙ counts.0, ap committed_in goes.trace ∙ counts.1)

  pub made_is : (k : ℕ) → k ≤ sealed_in c.trace → made_by limit now k ≡ made_by limit c k
  made_is k le =
      (λ i. after_first (commands limit) (goes.start i) (goes.trace i) k)
      ∙ made_stays (commands limit) c.start more c.trace k goes.legal goes.none le

module _ (limit : ℕ) (b : Beginning) (job : Option Asked) (c now : Session) (s later : Space) (more : List Entry)
    (image : Image) (kept : Means limit b job c s image) (goes : GoesOn c now more) (alike : MarksAlike s later)
    (lawful : IsLawful later) (session : IsSession limit b job now)
    (deferred : AreDeferred now later) where
  record Has (t : Store Value) (m : Content) : Type 0 where
    pub has : HasContentWith b.blocks image kept.rests.super40 t m
    pub here : IsSpaceOf has.content later
    pub lost : (k : ℕ) → IsLost has.content k ↔ WasLost b k

  has_before : Has c.base.cells (made_by limit c (committed_in c.trace))
  has_before = record {
    has = kept.rests.has;
    here = record {
      count = kept.rests.here.count ∙ sym alike.count;
      marks = λ k lt. ap (λ (l : List Bool). get_or l k false) alike.marked
          ∙ kept.rests.here.marks k (subst (λ (j : ℕ). k < j) alike.count lt);
    };
    lost = kept.rests.lost;
  }

  same_made : made_by limit now (committed_in now.trace) ≡ made_by limit c (committed_in c.trace)
  same_made =
      let none = kept.none_sealed in
      ap (made_by limit now) (counts_stay limit c now more goes).1
      ∙ made_is limit c now more goes (committed_in c.trace) (omega (arith, none))

  has_after : Has now.base.cells (made_by limit now (committed_in now.trace))
  has_after =
      subst (Has now.base.cells) (sym same_made)
      (subst (λ (l : Layer). Has l.cells (made_by limit c (committed_in c.trace))) (sym goes.base) has_before)

  pub kept_after : Means limit b job now later image
  kept_after =
      let counts = counts_stay limit c now more goes in
      record {
        session = session;
        none_sealed = counts.0 ∙ kept.none_sealed ∙ sym counts.1;
        alone = goes.under ∙ kept.alone ∙ sym goes.base;
        deferred = deferred;
        rests = record {
          whole = kept.rests.whole;
          log = kept.rests.log;
          super40 = kept.rests.super40;
          has = has_after.has;
          root = ap (λ (l : Layer). l.root) goes.base ∙ kept.rests.root;
          lawful = lawful;
          here = has_after.here;
          none_placed = λ k. ap (λ (l : List Bool). get_or l k false) alike.placed ∙ kept.rests.none_placed k;
          next_id = kept.rests.next_id;
          lost = has_after.lost;
        };
      }

-- and so on a device
module _ (limit : ℕ) (b : Beginning) (job : Option Asked) (c now : Session) (s later : Space) (more : List Entry)
    (t : ℕ) (d : State) (kept : IsKept limit b job c s t d) (goes : GoesOn c now more) (alike : MarksAlike s later)
    (lawful : IsLawful later) (session : TellsReads d → IsSession limit b job now)
    (deferred : TellsReads d → AreDeferred now later) where
  pub device_after : IsKept limit b job now later t d
  device_after = record {
    means = λ reads. kept_after limit b job c now s later more d.seen (kept.means reads) goes alike lawful
        (session reads) (deferred reads);
    durable = λ tells.
        subst (λ (trace : List Entry). IsSafeFrom (means b) (commands limit) b.content t trace d) (sym goes.trace)
        (safe_stays (means b) (commands limit) b.content t d more c.trace goes.legal goes.none (kept.durable tells));
    now = kept.now;
  }
