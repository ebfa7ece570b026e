use Rattle.std.proofs.Common.{subst, sym}
use Rattle.std.specs.Option.{option_copied}
use Rattle.r4_extent_asks.proofs.r4_search.Walks.{handed}
use Rattle.r4_extent_reaching.specs.r4_touching.Touching.{StopsFor, Touches}
use Rattle.r4_extent_reach.specs.Standing.{shown_keys}
use Rattle.r4_extent_reach.proofs.standing.standing_body.Goals as goal

pub returns-in_err-in_extents-in-Some-clause-touches : goal.returns-in_err-in_extents-in-Some-clause-touches
returns-in_err-in_extents-in-Some-clause-touches g c =
    subst (λ o. Touches c.args.root.now (shown_keys (option_copied o)) (g.P.Pool.state c.args.pool.now)
    (g.P.Pool.state c.stood_in_extents.new.pool)) (sym c.in-Some.is) c.in_err-in_extents-in-Some.ensures.touches

pub returns-in_err-in_extents-in-Some-clause-err : goal.returns-in_err-in_extents-in-Some-clause-err
returns-in_err-in_extents-in-Some-clause-err g c =
    let old = g.P.Pool.state c.args.pool.now in
    let new = g.P.Pool.state c.stood_in_extents.new.pool in
    handed (λ e. StopsFor (shown_keys (option_copied c.args.change)) old e new) c.from_residual.result
    c.in_err-in_extents-in-Some.field-0.0 c.from_residual.ensures.1
    (subst (λ o. StopsFor (shown_keys (option_copied o)) old c.in_err-in_extents-in-Some.field-0.0 new)
    (sym c.in-Some.is) c.in_err-in_extents-in-Some.ensures.err)
