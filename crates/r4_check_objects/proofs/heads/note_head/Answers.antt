use Rattle.r4_check_objects.proofs.FirstThings.{heads_kept, heads_put}
use Rattle.r4_check_objects.proofs.heads.note_head.Goals as goal

pub returns-in_ok-put : goal.returns-in_ok-put
returns-in_ok-put c found heads = heads_put found c.args.held.now c.args.heads.now heads c.args.id c.at.result.now c.goes_first.result c.put.new.self c.requires c.at.ensures c.goes_first.ensures c.if-goes_first.true c.in_ok-put.ensures

pub returns-else-goes_first : goal.returns-else-goes_first
returns-else-goes_first c found heads = heads_kept found c.args.held.now c.args.heads.now heads c.args.id c.at.result.now c.goes_first.result c.requires c.at.ensures c.goes_first.ensures c.if-goes_first.false
