use Rattle.std.proofs.Common.{arith, ◌<◌}
use Rattle.r4_node40.proofs.Laid.{length-items_of, shown_is}
use Rattle.r4_node40.proofs.view.NodeView.item.Goals as goal

pub place_of-from-requires-clause-within : goal.place_of-from-requires-clause-within
place_of-from-requires-clause-within c = let n = length-items_of c.args.self.now.block.now in omega (arith, c.args.self.now.counted)

pub key_of-requires-clause-within : goal.key_of-requires-clause-within
key_of-requires-clause-within c = let n = length-items_of c.args.self.now.block.now in omega (arith, c.args.self.now.counted)

pub plugin_of-requires-clause-within : goal.plugin_of-requires-clause-within
plugin_of-requires-clause-within c = let n = length-items_of c.args.self.now.block.now in omega (arith, c.args.self.now.counted)

pub returns-clause-shown : goal.returns-clause-shown
returns-clause-shown c =
    let n = length-items_of c.args.self.now.block.now in
    let lt : c.args.i < c.args.self.now.count = omega (arith, c.args.self.now.counted) in
    shown_is c.args.self.now.block.now c.args.self.now.count c.args.i c.plugin_of.result c.place_of-from.result.0 c.place_of-from.result.1 c.key_of.result c.args.self.now.counted lt c.key_of.ensures c.plugin_of.ensures c.place_of-from.ensures.from c.place_of-from.ensures.to
