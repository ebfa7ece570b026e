-- Once a commit has settled, what was kept is kept again.
use Rattle.std.proofs.Common.{◌≡◌, ℕ, ◌+◌, ◌^◌, ◌<◌, [], List, Option, refl, sym, ap, ◌∙◌, subst, arith}
use Rattle.std.specs.Prelude.{◌↔◌}
use Rattle.r4_base.specs.Image.{Image}
use Rattle.r4_base.specs.Tree.{Store}
use Rattle.r4_base.specs.Value.{Content, Value}
use Rattle.r4_base.specs.Volume.{IsLost}
use Rattle.r4_base.specs.declared.superblock.Super40.{Super40}
use Rattle.r4_content.specs.Locality.{commands}
use Rattle.r4_open.specs.r4_space.Space.{Space, settled}
use Rattle.r4_flushed.specs.r4_trace.declared.entry.Entry.{Entry}
use Rattle.r4_flushed.specs.r4_trace.Job.{Asked}
use Rattle.r4_flushed.specs.r4_trace.Traced.{committed_in, sealed_in}
use Rattle.r4_flushed.specs.r4_wander.Kept.{IsVolumeOf}
use Rattle.r4_flushed.specs.r4_sets.Atoms.{committed}
use Rattle.r4_flushed.specs.r4_sets.Session.{Layer, Session}
use Rattle.r4_flushed.proofs.r4_sets.Gathered.{committed_sets}
use Rattle.r4_flushed.specs.r4_sealed.Commits.{image_after, super_after}
use Rattle.r4_flushed.specs.r4_sealed.Contents.{HasContentWith}
use Rattle.r4_flushed.specs.r4_sealed.Written.{IsSpaceOf}
use Rattle.r4_flushed.proofs.r4_sealed.Kept.{ended}
use Rattle.r4_flushed.proofs.r4_sealed.Resting.{Rests, lost_rested, rested}
use Rattle.r4_flushed.proofs.r4_sealed.Settled.{settled_space}
use Rattle.r4_flushed.specs.Deferred.{AreDeferredBut}
use Rattle.r4_flushed.proofs.Deferring.{deferred_settled}
use Rattle.r4_flushed.proofs.FlushedCells.{FitsOnDisk}
use Rattle.r4_flushed.proofs.Owned.{committed_owns}
use Rattle.r4_durable.specs.GoingOn.{GoesOn}
use Rattle.r4_durable.specs.Kept.{HasSettled, IsSession, Means}
use Rattle.r4_durable.specs.Meaning.{Beginning, IsNextId, WasLost, first_id}
use Rattle.r4_durable.specs.Sealing.{IsSealing, Sealing, commit_in, made_by, session_after}
use Rattle.r4_durable.proofs.Opened.{none_in}
use Rattle.r4_durable.proofs.SealedContent.{count_is, lost_is, new_content, ok}
use Rattle.r4_durable.proofs.Steps.{counts_stay, made_is}

module _ (disk : FitsOnDisk) (limit : ℕ) (small : limit < 2 ^ 64) (b : Beginning) (job : Option Asked) (x : Sealing)
    (h : IsSealing limit (first_id b) job b.blocks x) (will : IsNextId b x.flush.next.oid)
    (same : (k : ℕ) → IsLost h.rest.content k ↔ WasLost b k) (later : Space) (image : Image)
    (end : HasSettled b x later image) (go : Session) (more : List Entry) (goes : GoesOn (session_after x) go more)
    (session : IsSession limit b job go) (defers : AreDeferredBut x.flush.atom go later) (clock : ℕ) where
  abbrev now : Session
  now = session_after x

  abbrev after : Session
  after = committed go x.flush.atom clock

  abbrev space : Space
  space = settled later x.flush.atom

  abbrev new : HasContentWith b.blocks (image_after (commit_in x)) (super_after (commit_in x)) x.under
      (made_by limit now (sealed_in now.trace))
  new = new_content disk limit small (first_id b) job b.blocks x h

  volume_now : IsVolumeOf b.blocks image (image_after (commit_in x))
      (made_by limit now (sealed_in now.trace)) new.content
  volume_now =
      ended b.blocks (commit_in x) (made_by limit now (sealed_in now.trace)) new.content image
      (ok disk limit small (first_id b) job b.blocks x h) end.whole end.with_it

  abbrev r : Rests b.blocks (image_after (commit_in x)) image (made_by limit now (sealed_in now.trace)) new.content []
  r = rested b.blocks (image_after (commit_in x)) image
      (made_by limit now (sealed_in now.trace)) new.content volume_now
      end.log

  there : IsSpaceOf new.content space
  there =
      settled_space b.blocks (commit_in x) (ok disk limit small (first_id b) job b.blocks x h) _ new.content
      (count_is disk limit small (first_id b) job b.blocks x h) later end.is_later

  -- what the image has, whichever way its content and its cells are written
  record Left (t : Store Value) (m : Content) : Type 0 where
    pub has : HasContentWith b.blocks image (super_after (commit_in x)) t m
    pub here : IsSpaceOf has.content space
    pub lost : (k : ℕ) → IsLost has.content k ↔ WasLost b k

  left : Left x.under (made_by limit now (sealed_in now.trace))
  left = record {
    has = record {
      content = r.has.content;
      same_super = r.has.same_super ∙ new.same_super;
      same_store = r.has.same_store ∙ new.same_store;
    };
    here = record {
      count = ap (λ (s : Super40). s.block_count) r.has.same_super ∙ there.count;
      marks = λ k lt. there.marks k lt ∙ sym (r.marks k (subst (λ (j : ℕ). k < j) (sym there.count) lt));
    };
    lost = λ k.
        let one = lost_rested b.blocks (image_after (commit_in x)) image _ new.content r k in
        let two = lost_is disk limit small (first_id b) job b.blocks x h k in
        let three = same k in
        (λ l. three.0 (two.1 (one.0 l)), λ l. one.1 (two.0 (three.1 l)));
  }

  one_more : sealed_in go.trace ≡ committed_in go.trace + 1
  one_more =
      let counts = counts_stay limit now go more goes in
      counts.0 ∙ ap (λ (k : ℕ). k + 1) (h.none_sealed ∙ sym counts.1)

  same_made : made_by limit after (committed_in after.trace) ≡ made_by limit now (sealed_in now.trace)
  same_made =
      ap (made_by limit go) (sym one_more ∙ (counts_stay limit now go more goes).0)
      ∙ made_is limit now go more goes (sealed_in now.trace) (omega arith)

  left_after : Left after.base.cells (made_by limit after (committed_in after.trace))
  left_after =
      subst (Left go.under.cells) (sym same_made)
      (subst (λ (l : Layer). Left l.cells (made_by limit now (sealed_in now.trace))) (sym goes.under) left)

  pub means_again : Means limit b job after space image
  means_again = record {
    session = record {
      start = session.start;
      sets = committed_sets (commands limit) go session.sets x.flush.atom clock one_more;
      run = record {
        lawful = session.run.lawful;
        room = session.run.room;
        paths = session.run.paths;
        ids = session.run.ids;
      };
      owns = committed_owns go session.owns x.flush.atom clock;
    };
    none_sealed = one_more;
    alone = refl;
    deferred = deferred_settled go later x.flush.atom clock defers;
    rests = record {
      whole = end.whole;
      log = end.log;
      super40 = super_after (commit_in x);
      has = left_after.has;
      root = ap (λ (l : Layer). l.root) goes.under ∙ h.root;
      lawful = end.lawful;
      here = left_after.here;
      none_placed = λ k. none_in later.block_count k;
      next_id = will;
      lost = left_after.lost;
    };
  }
