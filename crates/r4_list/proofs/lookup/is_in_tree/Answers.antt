use Rattle.std.proofs.Common.{rules, arith}
use Rattle.std.proofs.lemmas.Bool.{ltb-true}
use Rattle.r4_base.proofs.Keys.{is_key}
use Rattle.r4_list.proofs.Lookups.{below_top}
use Rattle.r4_list.proofs.lookup.is_in_tree.Goals as goal

pub returns-then-not-is_below-clause-below : goal.returns-then-not-is_below-clause-below
returns-then-not-is_below-clause-below c = λ h.
    let lt = ltb-true _ _ h in
    below_top c.args.key (is_key c.args.key (search rules) (search rules) (search rules) (search rules) (search rules)) (omega (arith, lt))
