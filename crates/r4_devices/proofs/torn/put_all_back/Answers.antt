use Rattle.std.proofs.Common.{◌≡◌, ◌+◌, ◌∷◌, drop, sym, ◌∙◌, ap, arith}
use Rattle.std.proofs.lemmas.List.{drop_more, drop_all}
use Rattle.r4_devices.specs.declared.torn.Held.{Held}
use Rattle.r4_devices.proofs.Changing.{none_back, one_back, all_back}
use Rattle.r4_devices.proofs.Stopping.{keeps_same, keeps_both}
use Rattle.r4_devices.proofs.torn.put_all_back.Goals as goal

pub loop-block-init : goal.loop-block-init
loop-block-init g c = record { keeps = keeps_same _; back = none_back _ _ _ _ _ }

pub loop-block-preserved : goal.loop-block-preserved
loop-block-preserved g c =
    let held = c.args.held.now in
    let i = c.loop-block.block-index in
    let item = c.block-item.result in
    let split : drop i held ≡ item ∷ drop (i + 1) held = drop_more held i item c.loop-block-test.true ∙ ap (λ (h : Held). h ∷ drop (i + 1) held) (sym c.block-item.is) in
    record {
      keeps = keeps_both _ _ _ c.loop-block.invariant.keeps c.put_one_back.ensures.keeps;
      back = one_back _ _ _ _ _ _ _ _ _ _ item _ _ _ split c.skip_of.ensures c.picks-mask.ensures.number c.picks-mask.ensures.marks c.loop-block.invariant.keeps.goes c.put_one_back.ensures.keeps.goes c.put_one_back.ensures.changes c.loop-block.invariant.back;
    }

pub returns-clause-changes : goal.returns-clause-changes
returns-clause-changes g c = all_back _ _ _ _ _ _ _ _ (drop_all c.loop-block.block-index c.args.held.now (omega arith)) c.loop-block.invariant.back
