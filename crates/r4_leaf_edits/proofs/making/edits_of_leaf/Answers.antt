use Rattle.std.proofs.lemmas.Result.{IfOk-weaker}
use Rattle.r4_base.specs.Key.{rank}
use Rattle.r4_leaf_edits.specs.Making.{all_cuts, all_pairs}
use Rattle.r4_leaf_edits.proofs.Gathered.{makes_edits, within}
use Rattle.r4_leaf_edits.proofs.making.edits_of_leaf.Goals as goal

pub returns-clause-items : goal.returns-clause-items
returns-clause-items c =
    IfOk-weaker c.gather.result _ _
    (λ v all gs are. within (rank c.args.lo.now) (rank c.args.hi.now) (all_cuts c.args.spread c.args.edits.now) (all_pairs c.args.spread c.args.edits.now) v all gs are) c.gather.ensures.gains

pub returns-clause-edits : goal.returns-clause-edits
returns-clause-edits c =
    IfOk-weaker c.gather.result _ _
    (λ v all. makes_edits (rank c.args.lo.now) (rank c.args.hi.now) c.args.edits.now c.args.spread v c.requires all) c.gather.ensures.gains
