use Rattle.r4_content.specs.Edited.{changed}
use Rattle.r4_marking.specs.r4_reach.Touched.{body_on, edits_on}
use Rattle.r4_leaf_demands.proofs.Alike.{in_leaves_changes}
use Rattle.r4_leaf_demands.proofs.OfCommands.{leaf_edits_of}
use Rattle.r4_leaf_demands.proofs.laws.commands_of_leaves_may_ask.Goals as goal

pub returns : goal.returns
returns g = record {
  edits = λ c s in_extents paths rises lawful leaves. leaf_edits_of c s in_extents paths rises lawful leaves;
  keys = λ c s in_extents leaves. in_leaves_changes (body_on c s in_extents) (changed (edits_on c s)) leaves;
}
