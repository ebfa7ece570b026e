use Rattle.r4_cell.proofs.body.last_key.Goals as goal

pub returns-in-0 : goal.returns-in-0
returns-in-0 c = c.last_of_stat.ensures c.args.blocks

pub returns-in-2 : goal.returns-in-2
returns-in-2 c = c.last_of_directory.ensures c.args.blocks

pub returns-in_default : goal.returns-in_default
returns-in_default c = c.last_of_tail.ensures c.args.blocks
