use Rattle.std.proofs.Common.{ℕ, ◌+◌, subst}
use Rattle.std.specs.Prelude.{IfErr}
use Rattle.r4_content.specs.Edited.{is_between}
use Rattle.r4_extent_reaching.specs.r4_touching.Touching.{StopsFor}
use Rattle.r4_extent_reach.proofs.standing.stood_in_extents.Goals as goal

pub returns-clause-err : goal.returns-clause-err
returns-clause-err g c =
    subst (λ (k : ℕ). IfErr c.stands_in_extents.result (λ e. StopsFor (is_between k (k + 1))
    (g.P.Pool.state c.args.pool.now) e (g.P.Pool.state c.stands_in_extents.new.pool))) c.shown_key-key.ensures
    c.stands_in_extents.ensures.err
