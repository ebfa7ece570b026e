-- How many objects there are with what an atom made and took away.
use Rattle.std.proofs.Common.{◌≡◌, inl, inr, ℕ, ◌+◌, ◌<◌, ◌≤◌, ◌||◌, Bool, true, false, cond}
use Rattle.std.proofs.Common.{List, [], ◌∷◌, Some, refl, sym, ◌∙◌, arith}
use Rattle.r4_base.specs.Image.{Image}
use Rattle.r4_base.specs.Value.{Content}
use Rattle.r4_base.specs.Volume.{HasContent, HasIds, objects_in, root_of, stat_rank}
use Rattle.r4_base.specs.declared.superblock.Super40.{Super40}
use Rattle.r4_content.specs.Counts.{born, gone}
use Rattle.r4_content.specs.Locality.{commands}
use Rattle.r4_renaming.specs.r4_sets.Session.{IsTreeOf}
use Rattle.r4_renaming.specs.r4_sets_told.Runs.{born_in, gone_in}
use Rattle.r4_renaming.proofs.r4_sets_told.Blocks.{raw_ids}
use Rattle.r4_trace.specs.Folds.{content_of, everything}
use Rattle.r4_trace.specs.Ids.{HasNewIds, IsDrawn, IsWithin, Start, makers, no_id}
use Rattle.r4_trace.specs.Job.{Asked}
use Rattle.r4_trace.specs.declared.entry.Entry.{Entry}
use Rattle.r4_trace.specs.declared.entry.Entry.TheVariants.{Acked, Begin, Broken, Committed, Done, Ended, Fuse, Refused}
use Rattle.r4_trace.specs.declared.entry.Entry.TheVariants.{Sealed}

-- the superblock of a content counts its objects
pub counts_objects : (n : ℕ) (image : Image) (m : Content) (h : HasContent n image m)
    → h.super.file_count ≡ objects_in m
counts_objects n image m h =
    let counted : Super40 = record h.super { file_count = objects_in m } in
    let seen : HasIds counted m = record {
      ids = λ o a s. h.ids.ids o a (s.0, ((h.visible (stat_rank o) _).0 s.1).0);
      count = refl;
    } in
    let tree : IsTreeOf h.store (root_of h.super) m = record {
      tree = h.tree;
      raw = h.raw;
      units = h.units;
      files = h.files;
      visible = h.visible;
    } in
    h.ids.count ∙ sym (raw_ids h.store (root_of h.super) m tree counted seen).count

-- ---- two choices that have no transaction in common

either : (v : ℕ) (s t : Bool) → (s ≡ true → t ≡ false) → cond (s || t) v 0 ≡ cond s v 0 + cond t v 0
either v true true apart = absurd (cc (apart refl))
either v true false apart = omega arith
either v false t apart = omega arith

module _ (limit : ℕ) (start : Content) (p q : ℕ → Bool) (apart : (t : ℕ) → p t ≡ true → q t ≡ false) where
  pub born_either : (trace : List Entry) → born_in limit start (λ (t : ℕ). p t || q t) trace
      ≡ born_in limit start p trace + born_in limit start q trace
  born_either [] = refl
  born_either (Done txn script index x reply ∷ older) =
      let rest = born_either older in
      let here =
      either (born limit x (content_of (commands limit) start everything older)) (p txn.0) (q txn.0) (apart txn.0) in
      omega (arith, rest, here)
  born_either (Begin txn script ∷ older) = born_either older
  born_either (Fuse kept other node ∷ older) = born_either older
  born_either (Refused txn script i reply ∷ older) = born_either older
  born_either (Ended txn ∷ older) = born_either older
  born_either (Sealed atom ∷ older) = born_either older
  born_either (Committed atom clock ∷ older) = born_either older
  born_either (Acked script txn clock ∷ older) = born_either older
  born_either (Broken clock faults ∷ older) = born_either older

  pub gone_either : (trace : List Entry) → gone_in limit start (λ (t : ℕ). p t || q t) trace
      ≡ gone_in limit start p trace + gone_in limit start q trace
  gone_either [] = refl
  gone_either (Done txn script index x reply ∷ older) =
      let rest = gone_either older in
      let here =
      either (gone limit x (content_of (commands limit) start everything older)) (p txn.0) (q txn.0) (apart txn.0) in
      omega (arith, rest, here)
  gone_either (Begin txn script ∷ older) = gone_either older
  gone_either (Fuse kept other node ∷ older) = gone_either older
  gone_either (Refused txn script i reply ∷ older) = gone_either older
  gone_either (Ended txn ∷ older) = gone_either older
  gone_either (Sealed atom ∷ older) = gone_either older
  gone_either (Committed atom clock ∷ older) = gone_either older
  gone_either (Acked script txn clock ∷ older) = gone_either older
  gone_either (Broken clock faults ∷ older) = gone_either older

-- ---- ids that were drawn

-- each is at least the next id of the start, or stands for none
pub drawn_from : (start : Start) (job : Asked) (trace : List Entry) → HasNewIds (Some start) (Some job) trace → (y : ℕ)
    → IsDrawn trace y → y < no_id → start.next_id ≤ y
drawn_from start job [] new y drawn low = absurd drawn
drawn_from start job (Done txn script index x reply ∷ older) new y (inl here) low = by (new.0 y here).bounds
  where
    by : IsWithin start.next_id (makers job) y → start.next_id ≤ y
    by (inl h) = h.0
    by (inr h) = let is = h.0 in absurd (omega (arith, is, low))
drawn_from start job (Done txn script index x reply ∷ older) new y (inr later) low =
    drawn_from start job older new.1 y later low
drawn_from start job (Begin txn script ∷ older) new y drawn low = drawn_from start job older new y drawn low
drawn_from start job (Fuse kept other node ∷ older) new y drawn low = drawn_from start job older new y drawn low
drawn_from start job (Refused txn script i reply ∷ older) new y drawn low =
    drawn_from start job older new y drawn low
drawn_from start job (Ended txn ∷ older) new y drawn low = drawn_from start job older new y drawn low
drawn_from start job (Sealed atom ∷ older) new y drawn low = drawn_from start job older new y drawn low
drawn_from start job (Committed atom clock ∷ older) new y drawn low = drawn_from start job older new y drawn low
drawn_from start job (Acked script txn clock ∷ older) new y drawn low = drawn_from start job older new y drawn low
drawn_from start job (Broken clock faults ∷ older) new y drawn low = drawn_from start job older new y drawn low
