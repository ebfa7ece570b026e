use Rattle.std.proofs.Common.{Bool, true, false, Option, sym, subst}
use Rattle.std.specs.Prelude.{IfSome}
use Rattle.std.specs.Bool.{then_some}
use Rattle.r4_base.specs.Key.{IsKey}
use Rattle.r4_reach.specs.r4_leaf.declared.remaking.KeyRange.{KeyRange}
use Rattle.r4_leaf_edits.proofs.keys.part_of.Goals as goal

if_some : (b : Bool) (r : KeyRange) → IsKey r.from → IfSome (then_some b r) (λ (x : KeyRange). IsKey x.from)
if_some true r is = is
if_some false r is = tt

pub returns-clause-key : goal.returns-clause-key
returns-clause-key c =
    subst (λ (o : Option KeyRange). IfSome o (λ (x : KeyRange). IsKey x.from)) (sym c.then_some.ensures)
    (if_some c.is_below.result (record { from = c.higher-from.result; to = c.lower-to.result }) c.higher-from.ensures.key)
