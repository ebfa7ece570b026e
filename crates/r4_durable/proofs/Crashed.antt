-- What a crash leaves of a sealed atom's commit.
use Rattle.std.proofs.Common.{◌≡◌, ⊎_elim, inl, inr, ℕ, zero, suc, ◌+◌, ◌^◌, ◌<◌, Option, sym, ap}
use Rattle.std.proofs.Common.{◌∙◌, subst, arith}
use Rattle.r4_base.specs.Image.{Image, IsImage}
use Rattle.r4_base.specs.Volume.{HasContent, IsLost}
use Rattle.r4_content.specs.Locality.{commands}
use Rattle.r4_flushed.specs.r4_trace.Job.{Asked}
use Rattle.r4_flushed.specs.r4_trace.Safe.{HasFirst, HasNow}
use Rattle.r4_flushed.specs.r4_trace.Traced.{committed_in, sealed_in}
use Rattle.r4_flushed.specs.r4_wander.Kept.{IsVolumeOf}
use Rattle.r4_flushed.specs.r4_sets.Session.{Session}
use Rattle.r4_flushed.specs.r4_sealed.Commits.{LeftInPart, image_after}
use Rattle.r4_flushed.specs.r4_sealed.Contents.{HasEither}
use Rattle.r4_flushed.proofs.r4_sealed.Kept.{by_part}
use Rattle.r4_flushed.proofs.FlushedCells.{FitsOnDisk}
use Rattle.r4_durable.specs.Meaning.{Beginning, IsNextId, IsVolumeLike, WasLost, means}
use Rattle.r4_durable.specs.Sealing.{IsSealing, MeansFirst, MeansInPart, Sealing, commit_in, made_by, session_after}
use Rattle.r4_durable.proofs.Meant.{like_means, volume_like}
use Rattle.r4_durable.proofs.SealedContent.{base_is, here, id_is, lost_is, new_content, ok}
use Rattle.r4_durable.proofs.SealedContent.{replies_before}
use Rattle.r4_durable.proofs.SealedContent.{replies_now}

module _ (disk : FitsOnDisk) (limit : ℕ) (small : limit < 2 ^ 64) (next_id : ℕ) (job : Option Asked) (n : ℕ)
    (x : Sealing) (h : IsSealing limit next_id job n x) where
  abbrev now : Session
  now = session_after x

  abbrev old : HasContent n x.flush.base (made_by limit x.session (committed_in x.session.trace))
  old = h.rest.content

  was_old : (image : Image) → IsVolumeOf n image x.flush.base
      (made_by limit x.session (committed_in x.session.trace)) old
      → MeansFirst limit now (committed_in now.trace) old old.super.oid image
  was_old image v = record {
    content =
        subst (IsVolumeLike old old.super.oid image) (sym (base_is disk limit small next_id job n x h))
        (volume_like n x.flush.base image _ old v);
    replies = replies_before disk limit small next_id job n x h;
  }

  is_new : (image : Image)
      → IsVolumeOf n image (image_after (commit_in x)) (made_by limit now (sealed_in now.trace))
      (new_content disk limit small next_id job n x h).content
      → MeansFirst limit now (sealed_in now.trace) old x.flush.next.oid image
  is_new image v =
      let c = (new_content disk limit small next_id job n x h).content in
      let like = volume_like n (image_after (commit_in x)) image _ c v in
      record {
        content = record {
          volume = like.volume;
          id_is = like.id_is ∙ id_is disk limit small next_id job n x h;
          lost = λ b.
              let same = lost_is disk limit small next_id job n x h b in
              let there = like.lost b in
              (λ l. same.1 (there.0 l), λ l. there.1 (same.0 l));
        };
        replies = replies_now disk limit small next_id job n x h;
      }

  pub in_part : (i : ℕ) (image : Image) → IsImage n image → LeftInPart n (commit_in x) i image
      → MeansInPart limit now old x.flush.next.oid i image
  in_part i image whole by = go i
      (by_part n (commit_in x) (ok disk limit small next_id job n x h) _ old
      (here disk limit small next_id job n x h) _
      (new_content disk limit small next_id job n x h).content i image whole by)
    where
      go : (j : ℕ) → HasEither old (new_content disk limit small next_id job n x h).content j image
          → MeansInPart limit now old x.flush.next.oid j image
      go zero v = was_old image v
      go (suc zero) v = ⊎_elim (λ o. inl (was_old image o)) (λ w. inr (is_new image w)) v
      go (suc (suc j)) v = is_new image v

-- ---- in a run that began with a volume

module _ (disk : FitsOnDisk) (limit : ℕ) (small : limit < 2 ^ 64) (b : Beginning) (next_id : ℕ) (job : Option Asked)
    (x : Sealing) (h : IsSealing limit next_id job b.blocks x) (was : IsNextId b h.rest.content.super.oid)
    (will : IsNextId b x.flush.next.oid) (lost : (k : ℕ) → IsLost h.rest.content k → WasLost b k) where
  abbrev after : Session
  after = session_after x

  one_more : sealed_in after.trace ≡ committed_in after.trace + 1
  one_more = ap (λ (k : ℕ). k + 1) h.none_sealed

  first_means : (k i : ℕ) (image : Image) → IsNextId b i → MeansFirst limit after k h.rest.content i image
      → HasFirst (means b) (commands limit) after.start after.trace k image
  first_means k i image may f = record {
    content = like_means b x.flush.base _ h.rest.content i image _ f.content may lost;
    replies = f.replies;
  }

  old_now : (image : Image)
      → MeansFirst limit after (committed_in after.trace) h.rest.content h.rest.content.super.oid image
      → HasNow (means b) (commands limit) after.start after.trace image
  old_now image f =
      let more = one_more in
      record {
        k = committed_in after.trace;
        at_least = omega arith;
        at_most = omega arith;
        in_sealed = omega (arith, more);
        has = first_means (committed_in after.trace) h.rest.content.super.oid image was f;
      }

  new_now : (image : Image) → MeansFirst limit after (sealed_in after.trace) h.rest.content x.flush.next.oid image
      → HasNow (means b) (commands limit) after.start after.trace image
  new_now image f =
      let more = one_more in
      record {
        k = sealed_in after.trace;
        at_least = omega (arith, more);
        at_most = omega (arith, more);
        in_sealed = omega arith;
        has = first_means (sealed_in after.trace) x.flush.next.oid image will f;
      }

  found : (i : ℕ) (image : Image) → MeansInPart limit after h.rest.content x.flush.next.oid i image
      → HasNow (means b) (commands limit) after.start after.trace image
  found zero image f = old_now image f
  found (suc zero) image f = ⊎_elim (λ o. old_now image o) (λ w. new_now image w) f
  found (suc (suc j)) image f = new_now image f

  pub found_in_part : (i : ℕ) (image : Image) → IsImage b.blocks image → LeftInPart b.blocks (commit_in x) i image
      → HasNow (means b) (commands limit) after.start after.trace image
  found_in_part i image whole by = found i image (in_part disk limit small next_id job b.blocks x h i image whole by)

  -- once the journal header is written, the atom is there
  pub durable : (i : ℕ) (image : Image) → IsImage b.blocks image
      → LeftInPart b.blocks (commit_in x) (suc (suc i)) image
      → HasFirst (means b) (commands limit) after.start after.trace (committed_in after.trace + 1) image
  durable i image whole by =
      subst (λ (k : ℕ). HasFirst (means b) (commands limit) after.start after.trace k image) one_more
      (first_means (sealed_in after.trace) x.flush.next.oid image will
      (in_part disk limit small next_id job b.blocks x h (suc (suc i)) image whole by))
