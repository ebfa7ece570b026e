use Rattle.std.proofs.Common.{◌∙◌}
use Rattle.std.specs.Arc.{arc_value}
use Rattle.std.proofs.lemmas.Result.{IfOk-weaker}
use Rattle.r4_content.specs.Held.{edits_of}
use Rattle.r4_extent_turn.proofs.OverBlocks.{none_below, put_over}
use Rattle.r4_extent_turn.proofs.blocks.block_over.Goals as goal

pub returns-then-not-sets_bytes : goal.returns-then-not-sets_bytes
returns-then-not-sets_bytes c =
    let t = edits_of c.args.tails.now in
    let e = edits_of c.args.edits.now in
    IfOk-weaker c.new_block.result _ _ (λ x is. is ∙ none_below t e c.args.id.0 c.args.key (c.sets_bytes.ensures.none c.if-not-sets_bytes.true)) c.new_block.ensures

pub returns : goal.returns
returns c =
    let t = edits_of c.args.tails.now in
    let e = edits_of c.args.edits.now in
    IfOk-weaker c.overwritten.result _ _ (λ x is. put_over t e c.args.id.0 c.args.key c.deref.result.now (arc_value x) (c.deref.ensures ∙ c.in_ok-tail.ensures) is) c.overwritten.ensures
