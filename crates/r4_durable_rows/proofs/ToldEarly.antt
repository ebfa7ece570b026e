-- A Committed entry with the clock of a moment at which its atom may not be there.
use Rattle.std.proofs.Common.{◌≡◌, ◌≢◌, ℕ, ◌+◌, ◌<◌, ◌≤◌, List, ◌∷◌, Result, sym, ap, ◌∙◌, subst, arith}
use Rattle.std.specs.Prelude.{nat_le}
use Rattle.std.proofs.lemmas.Bool.{cond-true, le-leb}
use Rattle.r4_base.specs.Image.{Image}
use Rattle.r4_base.specs.declared.things.AtomNo.{AtomNo}
use Rattle.r4_content.specs.Locality.{commands}
use Rattle.r4_outside.specs.Device.{Leaves, State, TellsCrashes, Writes}
use Rattle.r4_trace.specs.Folds.{after_first}
use Rattle.r4_trace.specs.Order.{IsOrdered}
use Rattle.r4_trace.specs.Safe.{Found, IsSafeFrom}
use Rattle.r4_trace.specs.Traced.{committed_by, committed_in}
use Rattle.r4_trace.specs.declared.entry.Entry.{Entry}
use Rattle.r4_trace.specs.declared.entry.Entry.TheVariants.{Committed}
use Rattle.r4_trace.proofs.FirstOnes.{all_by}
use Rattle.r4_durable.specs.Meaning.{Beginning, means}
use Rattle.r4_durable.proofs.Meant.{one_meaning}

pub unsynced : {T E : Type 0} (at : ℕ) (block : List ℕ) (old new : State) (answer : Result T E) → TellsCrashes old
    → Writes at block old answer new → Leaves new new.clock old.seen
unsynced at block old new answer tells wrote = record {
  blocks = tells.blocks ∙ sym wrote.goes.blocks;
  whole = λ b lt. tells.whole b (subst (λ (k : ℕ). b < k) wrote.goes.blocks lt);
  sectors = λ b s lt ls. wrote.no_less b s _ (tells.sectors b s (subst (λ (k : ℕ). b < k) wrote.goes.blocks lt) ls);
}

module _ (limit : ℕ) (b : Beginning) (older : List Entry) (atom : AtomNo) (t clock : ℕ) (image : Image) (d : State)
    (ordered : IsOrdered (Committed atom clock ∷ older)) (from : t ≤ clock) (by : clock ≤ d.clock)
    (left : Leaves d clock image)
    (old : means b image (after_first (commands limit) b.content older (committed_in older)))
    (changes : after_first (commands limit) b.content older (committed_in older)
    ≢ after_first (commands limit) b.content older (committed_in older + 1)) where
  one_more : committed_by clock (Committed atom clock ∷ older) ≡ committed_in older + 1
  one_more =
      cond-true (nat_le clock clock) (committed_by clock older + 1) (committed_by clock older)
      (le-leb clock clock (omega arith))
      ∙ ap (λ (k : ℕ). k + 1) (all_by older clock ordered.2 ordered.0.2)

  pub too_early : IsSafeFrom (means b) (commands limit) b.content t (Committed atom clock ∷ older) d → ⊥
  too_early safe =
      let found : Found (means b) (commands limit) b.content (Committed atom clock ∷ older) clock image =
      safe.each clock image from by left in
      let is : found.k ≡ committed_in older + 1 =
      omega (arith, one_more, found.at_least, found.in_sealed, ordered.0.1) in
      let new : means b image (after_first (commands limit) b.content older (committed_in older + 1)) =
      subst (λ (k : ℕ). means b image (after_first (commands limit) b.content older k)) is found.has.content in
      changes (one_meaning b image _ _ old new)
