use Rattle.r4_base.specs.Key.{rank}
use Rattle.std.proofs.lemmas.Result.{IfOk-weaker}
use Rattle.r4_edit_testing.proofs.Together.{alone_stands, tail_stands}
use Rattle.r4_edit_testing.proofs.remaking.item_stands.Goals as goal

pub returns-then-plugin-eq-TAIL : goal.returns-then-plugin-eq-TAIL
returns-then-plugin-eq-TAIL c = λ true-is.
    let (good, tail) = c.is_tail.ensures true-is in
    tail_stands c.args.key c.args.plugin c.args.body.now (rank c.args.end) c.if-plugin-eq-TAIL.true good tail

pub returns : goal.returns
returns c =
    IfOk-weaker c.stands_alone.result _ _
    (λ b alone true-is. alone_stands (record { key = c.args.key; plugin = c.args.plugin; body = c.args.body.now })
    (rank c.args.end) (alone true-is)) c.stands_alone.ensures
