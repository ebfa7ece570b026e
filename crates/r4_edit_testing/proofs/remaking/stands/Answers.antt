use Rattle.std.proofs.Common.{subst, sym, ◌≤◌}
use Rattle.std.proofs.lemmas.Result.{IfOk-weaker}
use Rattle.r4_base.specs.Key.{least, rank}
use Rattle.r4_leaf.specs.Remade.{item_of}
use Rattle.r4_leaf.specs.declared.remaking.Given.{Given}
use Rattle.r4_edit_testing.specs.Remaking.{Stands}
use Rattle.r4_edit_testing.proofs.remaking.stands.Goals as goal

pub item_stands-requires-clause-low : goal.item_stands-requires-clause-low
item_stands-requires-clause-low c = subst (λ (g : Given). least ≤ rank (item_of g).key) c.in-Item.is c.requires.low

pub returns-in-Item : goal.returns-in-Item
returns-in-Item c =
    IfOk-weaker c.item_stands.result _ _
    (λ b stands true-is. subst (λ (g : Given). Stands (item_of g) (rank c.args.end)) (sym c.in-Item.is)
    (stands true-is)) c.item_stands.ensures

pub returns-in-Fill : goal.returns-in-Fill
returns-in-Fill c = λ true-is. subst (λ (g : Given). Stands (item_of g) (rank c.args.end)) (sym c.in-Fill.is)
    (c.fill_stands.ensures true-is)
