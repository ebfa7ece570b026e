use Rattle.std.proofs.Common.{◌∙◌, refl, sym}
use Rattle.r4_check.proofs.Meets.{data_gathers, data_sound, is_no, is_yes, marked_is, steps_accepted, steps_again}
use Rattle.r4_check.proofs.look.look_at_block.Goals as goal

pub returns-then-not-reach-clause-steps : goal.returns-then-not-reach-clause-steps
returns-then-not-reach-clause-steps g c image n bitmaps id data_level =
    let blocks = c.args.settled.now.found.super40.block_count in
    let e = c.if-not-reach.ensures in
    steps_again blocks c.args.b image n id _ _ _ _ _ c.look_again.result
    (record { within = c.requires.within; reached = e.reached blocks (sym c.requires.size); gathered = e.gathered; faults = e.faults; whole = e.whole })
    (is_yes _ e.first) (c.look_again.ensures.steps blocks)

pub returns-clause-steps : goal.returns-clause-steps
returns-clause-steps g c image n bitmaps id data_level =
    let blocks = c.args.settled.now.found.super40.block_count in
    let e = c.if-not-reach.ensures in
    steps_accepted blocks c.args.b image n id _ _ _ _ _ c.tell_wrong.result
    (record { within = c.requires.within; reached = e.reached blocks (sym c.requires.size); gathered = e.gathered; faults = e.faults; whole = e.whole })
    _ c.is_marked-marked.result c.wrong_with.result (is_no _ e.first) (data_sound blocks n.level n.lo n.hi _ data_level)
    (c.is_marked-marked.ensures ∙ marked_is blocks c.args.b image _ bitmaps c.requires.within) c.wrong_with.ensures
    refl (data_gathers c.args.b n.level n.lo n.hi _ _ data_level) refl refl (c.tell_wrong.ensures.steps blocks)
