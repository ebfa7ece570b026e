use Rattle.std.proofs.Common.{◌≡◌, ℕ, List, length, ap, sym, ◌∙◌, subst, arith, inl, inr}
use Rattle.std.specs.Prelude.{Some}
use Rattle.std.proofs.lemmas.Bool.{cases_eq}
use Rattle.std.proofs.lemmas.List.{length-map}
use Rattle.r4_base.specs.Log.{record_of, record_block}
use Rattle.r4_wander.specs.LogPlan.{record_says}
use Rattle.r4_wander.proofs.Encoding.{log_more}
use Rattle.r4_wander.proofs.making.make_log.Goals as goal

pub loop-k-preserved : goal.loop-k-preserved
loop-k-preserved c = record {
  made = log_more c.args.plan.now c.loop-k.k _ _ _ _ _ c.loop-k.invariant.made c.in_ok-push.ensures.items c.in_ok-of_block.ensures c.block_after.ensures c.in_ok-block.ensures.spelled (let long = sym (length-map c.as_slice-count.result.now (λ block. block.0)) ∙ ap (λ (l : List ℕ). length l) c.as_slice-count.ensures in omega (arith, c.loop-k-test.true, long));
  again = λ j lt. elim (cases_eq j c.loop-k.k) [
    | inl is ↦ subst (λ (i : ℕ). record_of (record_block (record_says c.args.plan.now i)) ≡ Some (record_says c.args.plan.now i)) (sym is) c.in_ok-block.ensures.again
    | inr other ↦ c.loop-k.invariant.again j (omega (arith, lt, other))
  ];
}
