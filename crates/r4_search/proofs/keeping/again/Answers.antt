use Rattle.std.proofs.Common.{refl, sym, ap, ◌∙◌}
use Rattle.r4_search.specs.Pool.{called, place_fault}
use Rattle.r4_search.proofs.keeping.again.Goals as goal

pub returns-in-Some-clause-err : goal.returns-in-Some-clause-err
returns-in-Some-clause-err c =
    let n = called c.args.at.0 c.args.level c.args.lo c.args.hi in
    (refl, ap (place_fault n) (sym c.deref.ensures) ∙ sym (c.fault_of_place.ensures c.args.at.0) ∙ c.in-Some.is)

pub returns-clause-ok : goal.returns-clause-ok
returns-clause-ok c =
    let n = called c.args.at.0 c.args.level c.args.lo c.args.hi in
    (ap (λ x. x) c.in_ok-try_clone.ensures, ap (place_fault n) (sym c.deref.ensures) ∙ sym (c.fault_of_place.ensures c.args.at.0) ∙ c.in_default.is)
