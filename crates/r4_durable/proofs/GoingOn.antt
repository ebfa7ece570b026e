-- From what is kept through a commit, to what is kept again.
use Rattle.std.proofs.Common.{◌≡◌, ℕ, suc, ◌+◌, ◌^◌, ◌≤◌, ◌<◌, List, ◌∷◌, ◌++◌, Option, sym, ap, ◌∙◌, subst, arith}
use Rattle.r4_base.specs.Image.{Image, IsImage}
use Rattle.r4_base.specs.Value.{Content}
use Rattle.r4_content.specs.Locality.{commands}
use Rattle.r4_outside.specs.Device.{Goes, Leaves, LeavesOnly, State}
use Rattle.r4_open.specs.r4_space.Space.{Space, settled}
use Rattle.r4_flushed.specs.r4_trace.declared.entry.Entry.{Entry}
use Rattle.r4_flushed.specs.r4_trace.declared.entry.Entry.TheVariants.{Committed, Sealed}
use Rattle.r4_flushed.specs.r4_trace.Order.{IsOrdered}
use Rattle.r4_flushed.specs.r4_trace.Job.{Asked}
use Rattle.r4_flushed.specs.r4_trace.Safe.{CommitStep, HasFirst, HasNow, Step}
use Rattle.r4_flushed.specs.r4_trace.Traced.{committed_in, latest, sealed_in}
use Rattle.r4_flushed.proofs.r4_trace.Safely.{has_push}
use Rattle.r4_flushed.specs.r4_wander.declared.plan.LogPlan.{LogPlan}
use Rattle.r4_flushed.specs.r4_sets.Atoms.{committed}
use Rattle.r4_flushed.specs.r4_sets.Session.{Session}
use Rattle.r4_flushed.specs.r4_sealed.Commits.{LeftInPart}
use Rattle.r4_flushed.specs.Deferred.{AreDeferredBut}
use Rattle.r4_flushed.specs.r4_placed.Flushing.{Flushing, commit_by_block}
use Rattle.r4_flushed.proofs.FlushedCells.{FitsOnDisk}
use Rattle.r4_durable.specs.GoingOn.{GoesOn, SealNothing}
use Rattle.r4_durable.specs.Kept.{CanSeal, HasSettled, IsSession, IsUnderWay, Means, sealing_of}
use Rattle.r4_durable.specs.Meaning.{Beginning, IsNextId, first_id, means}
use Rattle.r4_durable.specs.Sealing.{IsSealing, Sealing, session_after}
use Rattle.r4_durable.proofs.Commits.{means_again}
use Rattle.r4_durable.proofs.Crashed.{durable, found_in_part}
use Rattle.r4_durable.proofs.SealedContent.{all_sets, run_now}
use Rattle.r4_durable.proofs.Staying.{first_stays, now_stays, same_counts}
use Rattle.r4_durable.proofs.Flushes.{id_may_be, is_sealing, same_lost, still_owned}

module _ (disk : FitsOnDisk) (limit : ℕ) (small : limit < 2 ^ 64) (b : Beginning) (job : Option Asked) (c : Session)
    (work : Flushing) (plan : LogPlan) (way : IsUnderWay limit b job c work plan) where
  abbrev kept : Means limit b job c work.space work.base
  kept = way.kept

  abbrev can : CanSeal limit b c kept.rests.super40 work plan
  can = way.can

  abbrev will : IsNextId b work.next.oid
  will = way.next_id

  abbrev x : Sealing
  x = sealing_of c work plan

  abbrev h : IsSealing limit (first_id b) job b.blocks x
  h = is_sealing limit b job c work plan kept can

  abbrev trace : List Entry
  trace = Sealed work.atom ∷ c.trace

  -- with the steps that are made meanwhile
  module _ (more : List Entry) (legal : IsOrdered (more ++ trace)) (none : SealNothing more) where
    pub found : (i : ℕ) (image : Image) → IsImage b.blocks image
        → LeftInPart b.blocks (commit_by_block work plan) i image
        → HasNow (means b) (commands limit) b.content (more ++ trace) image
    found i image whole by =
        now_stays (means b) (commands limit) b.content more trace image legal none
        (subst (λ (m : Content). HasNow (means b) (commands limit) m trace image) kept.session.start
        (found_in_part disk limit small b (first_id b) job x h (id_may_be limit b job c work plan kept can) will
        (λ k l. (same_lost limit b job c work plan kept can k).0 l) i image whole by))

    pub there : (i : ℕ) (image : Image) → IsImage b.blocks image
        → LeftInPart b.blocks (commit_by_block work plan) (suc (suc i)) image
        → HasFirst (means b) (commands limit) b.content (more ++ trace) (committed_in c.trace + 1) image
    there i image whole by =
        let all = kept.none_sealed in
        first_stays (means b) (commands limit) b.content more trace (committed_in c.trace + 1) image legal none
        (omega (arith, all))
        (subst (λ (m : Content). HasFirst (means b) (commands limit) m trace (committed_in c.trace + 1) image)
        kept.session.start
        (durable disk limit small b (first_id b) job x h (id_may_be limit b job c work plan kept can) will
        (λ k l. (same_lost limit b job c work plan kept can k).0 l) i image whole by))

  pub again : (later : Space) (image : Image) → HasSettled b x later image → (go : Session) (more : List Entry)
      → GoesOn (session_after x) go more → IsSession limit b job go → AreDeferredBut work.atom go later → (clock : ℕ)
      → Means limit b job (committed go work.atom clock) (settled later work.atom) image
  again later image end go more goes session defers clock =
      means_again disk limit small b job x h will (same_lost limit b job c work plan kept can) later image end go more
      goes session defers clock

  -- and the session with the atom sealed is one
  pub session_sealed : IsSession limit b job (session_after x)
  session_sealed = record {
    start = kept.session.start;
    sets = all_sets disk limit small (first_id b) job b.blocks x h;
    run = run_now disk limit small (first_id b) job b.blocks x h;
    owns = still_owned limit b job c work plan kept can;
  }

  -- ---- on a device

  module _ (more : List Entry) (legal : IsOrdered (more ++ trace)) (none : SealNothing more) where
    pub part_step : (i : ℕ) (d e : State) → e.blocks ≡ b.blocks → latest (more ++ trace) ≤ d.clock → Goes d e
        → LeavesOnly d e (LeftInPart b.blocks (commit_by_block work plan) i)
        → Step (means b) (commands limit) b.content (more ++ trace) d e
    part_step i d e size time goes left = record {
      ordered = legal;
      time = time;
      goes = goes;
      leaves = record {
        each = λ m image lo hi is. found more legal none i image
            (subst (λ (k : ℕ). IsImage k image) size (record { blocks = is.blocks; whole = is.whole }))
            (left.each m image lo hi is);
      };
    }

    counts : (sealed_in (more ++ trace) ≡ committed_in c.trace + 1)
        × (committed_in (more ++ trace) ≡ committed_in c.trace)
    counts =
        let all = kept.none_sealed in
        let same = same_counts more trace none in
        (same.0 ∙ ap (λ (k : ℕ). k + 1) all, same.1)

    -- the step at whose end the journal header is written
    pub header_step : (i : ℕ) (d e : State) → e.blocks ≡ b.blocks → latest (more ++ trace) ≤ d.clock → Goes d e
        → LeavesOnly d e (LeftInPart b.blocks (commit_by_block work plan) i)
        → IsOrdered (Committed work.atom e.clock ∷ (more ++ trace)) → d.clock < e.clock
        → ((image : Image) → Leaves e e.clock image → LeftInPart b.blocks (commit_by_block work plan) 2 image)
        → CommitStep (means b) (commands limit) b.content (more ++ trace) work.atom d e
    header_step i d e size time goes left next rose headed = record {
      step = part_step i d e size time goes left;
      ordered = next;
      rose = rose;
      durable = λ image is.
          subst (λ (k : ℕ). HasFirst (means b) (commands limit) b.content (more ++ trace) (k + 1) image)
          (sym counts.1)
          (there more legal none 0 image
          (subst (λ (k : ℕ). IsImage k image) size (record { blocks = is.blocks; whole = is.whole }))
          (headed image is));
    }

    -- and those behind it
    module _ (clock : ℕ) (later : List Entry) (on : IsOrdered
        (later ++ (Committed work.atom clock ∷ (more ++ trace))))
        (no_more : SealNothing later) (next : IsOrdered (Committed work.atom clock ∷ (more ++ trace))) where
      abbrev last : List Entry
      last = later ++ (Committed work.atom clock ∷ (more ++ trace))

      found_behind : (i : ℕ) (image : Image) → IsImage b.blocks image
          → LeftInPart b.blocks (commit_by_block work plan) (suc (suc i)) image
          → HasNow (means b) (commands limit) b.content last image
      found_behind i image whole by =
          let is = counts in
          let sealed = is.0 in
          let committed = is.1 in
          let first = has_push (means b) (commands limit) b.content (more ++ trace) (Committed work.atom clock)
          (committed_in c.trace + 1) image next (omega (arith, sealed)) (there more legal none i image whole by) in
          now_stays (means b) (commands limit) b.content later (Committed work.atom clock ∷ (more ++ trace)) image on
          no_more (record {
            k = committed_in c.trace + 1;
            at_least = omega (arith, committed);
            at_most = omega (arith, committed);
            in_sealed = omega (arith, sealed);
            has = first;
          })

      pub step_behind : (i : ℕ) (d e : State) → e.blocks ≡ b.blocks → latest last ≤ d.clock → Goes d e
          → LeavesOnly d e (LeftInPart b.blocks (commit_by_block work plan) (suc (suc i)))
          → Step (means b) (commands limit) b.content last d e
      step_behind i d e size time goes left = record {
        ordered = on;
        time = time;
        goes = goes;
        leaves = record {
          each = λ m image lo hi is. found_behind i image
              (subst (λ (k : ℕ). IsImage k image) size (record { blocks = is.blocks; whole = is.whole }))
              (left.each m image lo hi is);
        };
      }
