use Rattle.std.proofs.Common.{◌∙◌, arith, inl, inr}
use Rattle.std.proofs.lemmas.Bool.{cases_lt}
use Rattle.r4_space.proofs.WordLaws.{joined, none_past, or_zeros}
use Rattle.r4_space.proofs.words.join_words.Goals as goal

pub returns : goal.returns
returns c k = joined c.args.words.now c.args.other.now c.loop-w.words (λ v. elim (cases_lt v c.loop-w.w) [
  | inl early ↦ c.loop-w.invariant.done v early
  | inr late ↦
      let end = c.loop-w-test.false in
      let same = c.requires in
      c.loop-w.invariant.rest v late ∙ or_zeros _ _ (none_past c.args.words.now v (omega arith)) (none_past c.args.other.now v (omega arith))
]) k
