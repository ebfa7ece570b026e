-- What is found of a run stays found where entries follow that seal and commit nothing.
use Rattle.std.proofs.Common.{◌≡◌, ℕ, ◌≤◌, List, [], ◌∷◌, ◌++◌, refl, ◌∙◌, arith}
use Rattle.r4_base.specs.Image.{Image}
use Rattle.r4_base.specs.Value.{Content}
use Rattle.r4_content.specs.Locality.{Meaning}
use Rattle.r4_content.specs.declared.command.Command.{Command}
use Rattle.r4_content.specs.declared.reply.Reply.{Reply}
use Rattle.r4_outside.specs.Device.{State}
use Rattle.r4_flushed.specs.r4_trace.declared.entry.Entry.{Entry}
use Rattle.r4_flushed.specs.r4_trace.declared.entry.Entry.TheVariants.{Committed, Sealed}
use Rattle.r4_flushed.specs.r4_trace.Folds.{after_first}
use Rattle.r4_flushed.specs.r4_trace.Order.{IsOrdered}
use Rattle.r4_flushed.specs.r4_trace.Safe.{HasFirst, HasNow, IsNoCommit, IsSafeFrom}
use Rattle.r4_flushed.specs.r4_trace.Traced.{committed_in, sealed_in}
use Rattle.r4_flushed.proofs.r4_trace.Folded.{after_stays}
use Rattle.r4_flushed.proofs.r4_trace.Safely.{has_push, safe_push}
use Rattle.r4_durable.specs.GoingOn.{SealNothing, SealsNothing}

one_count : (e : Entry) (trace : List Entry) → SealsNothing e
    → (sealed_in (e ∷ trace) ≡ sealed_in trace) × (committed_in (e ∷ trace) ≡ committed_in trace)
one_count (Sealed atom) trace h = absurd h
one_count (Committed atom clock) trace h = absurd h
one_count e trace h = (refl, refl)

pub same_counts : (more trace : List Entry) → SealNothing more
    → (sealed_in (more ++ trace) ≡ sealed_in trace) × (committed_in (more ++ trace) ≡ committed_in trace)
same_counts [] trace h = (refl, refl)
same_counts (e ∷ es) trace h =
    let one = one_count e (es ++ trace) h.0 in
    let rest = same_counts es trace h.1 in
    (one.0 ∙ rest.0, one.1 ∙ rest.1)

-- what was in order before
pub ordered_before : (more trace : List Entry) → IsOrdered (more ++ trace) → IsOrdered trace
ordered_before [] trace legal = legal
ordered_before (e ∷ es) trace legal = ordered_before es trace legal.2

-- what as many atoms made as were sealed stays
module _ (w : Meaning Command Reply) (x : Content) where
  pub made_stays : (more trace : List Entry) (k : ℕ) → IsOrdered (more ++ trace) → SealNothing more
      → k ≤ sealed_in trace → after_first w x (more ++ trace) k ≡ after_first w x trace k
  made_stays [] trace k legal none le = refl
  made_stays (e ∷ es) trace k legal none le =
      let count = (same_counts es trace none.1).0 in
      after_stays w x (es ++ trace) e k legal (omega (arith, le, count))
      ∙ made_stays es trace k legal.2 none.1 le

module _ (means : Image → Content → Type 0) (w : Meaning Command Reply) (x : Content) where
  pub first_stays : (more trace : List Entry) (k : ℕ) (image : Image) → IsOrdered (more ++ trace) → SealNothing more
      → k ≤ sealed_in trace → HasFirst means w x trace k image → HasFirst means w x (more ++ trace) k image
  first_stays [] trace k image legal none le h = h
  first_stays (e ∷ es) trace k image legal none le h =
      let count = (same_counts es trace none.1).0 in
      has_push means w x (es ++ trace) e k image legal (omega (arith, le, count))
      (first_stays es trace k image legal.2 none.1 le h)

  pub now_stays : (more trace : List Entry) (image : Image) → IsOrdered (more ++ trace) → SealNothing more
      → HasNow means w x trace image → HasNow means w x (more ++ trace) image
  now_stays more trace image legal none h =
      let counts = same_counts more trace none in
      let sealed = counts.0 in
      let committed = counts.1 in
      let low = h.at_least in
      let high = h.at_most in
      let inside = h.in_sealed in
      record {
        k = h.k;
        at_least = omega (arith, low, committed);
        at_most = omega (arith, high, committed);
        in_sealed = omega (arith, inside, sealed);
        has = first_stays more trace h.k image legal none h.in_sealed h.has;
      }

  no_commit : (e : Entry) → SealsNothing e → IsNoCommit e
  no_commit (Sealed atom) h = absurd h
  no_commit (Committed atom clock) h = absurd h
  no_commit e h = tt

  pub safe_stays : (t : ℕ) (d : State) (more trace : List Entry) → IsOrdered (more ++ trace) → SealNothing more
      → IsSafeFrom means w x t trace d → IsSafeFrom means w x t (more ++ trace) d
  safe_stays t d [] trace legal none h = h
  safe_stays t d (e ∷ es) trace legal none h =
      safe_push means w x t d (es ++ trace) e legal (no_commit e none.0) (safe_stays t d es trace legal.2 none.1 h)
