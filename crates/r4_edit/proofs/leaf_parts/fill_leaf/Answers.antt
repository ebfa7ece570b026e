use Rattle.r4_edit.specs.Editing.{given_item}
use Rattle.r4_edit.proofs.NewLeaves.{given_some}
use Rattle.r4_edit.proofs.leaf_parts.fill_leaf.Goals as goal

pub append-requires-clause-some : goal.append-requires-clause-some
append-requires-clause-some c = given_some (given_item c.args.key c.args.plugin c.args.body.now) c.requires.given
