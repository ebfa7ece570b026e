use Rattle.std.proofs.Common.{rules, ◌≡◌, ◌<◌, length, get_or}
use Rattle.std.proofs.lemmas.List.{take_more_same}
use Rattle.r4_content.proofs.path.are_same.Goals as goal

pub loop-i-preserved : goal.loop-i-preserved
loop-i-preserved c =
    let lt : c.loop-i.i < length c.args.others.now = search rules in
    let same : get_or c.args.names.now c.loop-i.i c.index-names-i.result ≡ get_or c.args.others.now c.loop-i.i c.index-names-i.result = search rules in
    take_more_same c.args.names.now c.args.others.now c.loop-i.i c.index-names-i.result c.loop-i-test.true lt c.loop-i.invariant same
