use Rattle.std.proofs.Common.{◌≤◌, ap, subst, arith, rules}
use Rattle.std.proofs.lemmas.Result.{IfOk-weaker}
use Rattle.r4_base.specs.Key.{IsKey, rank}
use Rattle.r4_edit.specs.Editing.{given_item}
use Rattle.r4_edit_testing.specs.Trials.{StandsAlone}
use Rattle.r4_edit_testing.proofs.RunTwig.{byte_at, least_byte}
use Rattle.r4_edit_testing.proofs.trials.goes_apart.Goals as goal

pub stands_alone-requires-clause-least : goal.stands_alone-requires-clause-least
stands_alone-requires-clause-least c =
    let from : rank c.key_of.result ≤ rank c.args.key = search rules in
    let same = ap rank c.key_of.ensures in
    let at = byte_at 16384 in
    omega (arith, from, same, at, least_byte)

pub returns : goal.returns
returns c =
    let whole : IsKey c.args.key = search rules in
    let from : rank c.key_of.result ≤ rank c.args.key = search rules in
    let same = ap rank c.key_of.ensures in
    IfOk-weaker c.stands_alone.result _ _ (λ b alone is. (
      whole,
      omega (arith, from, same),
      subst (StandsAlone (given_item c.args.key c.args.plugin c.args.body.now)) c.top.ensures (alone is),
    )) c.stands_alone.ensures
