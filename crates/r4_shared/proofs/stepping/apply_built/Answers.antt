use Rattle.std.proofs.Common.{subst}
use Rattle.r4_apply.specs.Applying.{Applies}
use Rattle.r4_apply.specs.declared.applying.Applied.TheVariants.{Stale}
use Rattle.r4_shared.proofs.stepping.apply_built.Goals as goal

pub returns : goal.returns
returns g c =
    let old = c.args.core.now in
    let mid = c.apply.new.core in
    let s = c.in-Stale in (
      Stale s.task s.node s.differs,
      (mid, subst (Applies old mid c.args.built) s.is c.apply.ensures, c.give_task_back.ensures),
    )
