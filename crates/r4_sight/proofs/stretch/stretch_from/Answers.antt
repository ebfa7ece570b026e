use Rattle.std.proofs.Common.{sym, subst}
use Rattle.std.specs.Arc.{arc_value}
use Rattle.r4_base.specs.Key.{rank}
use Rattle.r4_units.specs.r4_cell.Seen.{CellSeen}
use Rattle.r4_units.proofs.r4_search.Walks.{goes_both, handed, map_push}
use Rattle.r4_units.specs.r4_search.Pool.{IsOf}
use Rattle.r4_sight.specs.Stretches.{IsWaysEnd}
use Rattle.r4_sight.proofs.Fetching.{end_of_pool, err_before, looks_only, ok_before, way_stops, ways_end}
use Rattle.r4_sight.proofs.stretch.stretch_from.Goals as goal

pub returns-in_err-path-clause-err : goal.returns-in_err-path-clause-err
returns-in_err-path-clause-err g c =
    handed _ c.from_residual.result c.in_err-path.field-0.0 c.from_residual.ensures.1
    (way_stops c.args.root.now (rank c.args.from) _ c.in_err-path.field-0.0 _ c.requires.from c.requires.below c.in_err-path.ensures.err)

pub returns-in_err-path-clause-looks : goal.returns-in_err-path-clause-looks
returns-in_err-path-clause-looks g c = looks_only c.args.root.now (rank c.args.from) _ _ c.in_err-path.ensures.meets

pub stretch_in-requires-clause-end : goal.stretch_in-requires-clause-end
stretch_in-requires-clause-end g c =
    let pushed = map_push (λ cell. arc_value cell) c.pop.new.self.items c.in_ok-path.path.items c.in-Some.cell c.in-Some.ensures.items in
    let end = ways_end c.args.root.now (rank c.args.from) (g.P.Pool.state c.cover.new.pool) _ _ _ pushed c.requires.some c.requires.from c.requires.below c.in_ok-path.ensures.path c.in_ok-path.ensures.knows c.in_ok-path.ensures.met in
    subst (λ (x : CellSeen). IsWaysEnd (g.P.Pool.state c.cover.new.pool) (rank c.args.from) x) (sym c.deref.ensures) end

pub returns-clause-goes : goal.returns-clause-goes
returns-clause-goes g c = goes_both _ _ _ c.in_ok-path.ensures.goes c.stretch_in.ensures.goes

pub returns-clause-stretch : goal.returns-clause-stretch
returns-clause-stretch g c =
    let pushed = map_push (λ cell. arc_value cell) c.pop.new.self.items c.in_ok-path.path.items c.in-Some.cell c.in-Some.ensures.items in
    let old = g.P.Pool.state c.args.pool.now in
    let is = subst (λ (x : CellSeen). IsOf old x) (sym c.deref.ensures) (end_of_pool old _ _ _ pushed c.in_ok-path.ensures.are_of) in
    ok_before old (g.P.Pool.state c.cover.new.pool) (g.P.Pool.state c.stretch_in.new.pool) _ (rank c.args.from) (rank c.args.to) c.stretch_in.result c.in_ok-path.ensures.goes is c.stretch_in.ensures.stretch

pub returns-clause-err : goal.returns-clause-err
returns-clause-err g c = err_before (rank c.args.from) _ _ _ c.stretch_in.result c.in_ok-path.ensures.goes c.stretch_in.ensures.err
