use Rattle.std.proofs.Common.{refl}
use Rattle.r4_edit_testing.proofs.Trying.{alone}
use Rattle.r4_edit_testing.proofs.trials.stands_alone.Goals as goal

pub returns : goal.returns
returns c true =
    alone c.args.key.now c.args.hi c.lay.new.block
    (record { key = c.args.key.now; plugin = c.args.plugin; body = c.args.body.now }) refl c.requires.least c.requires.top
    c.lay.ensures c.requires.item.2 c.requires.item.1 (c.stands.ensures true)
