use Rattle.std.proofs.Common.{◌+◌, sym, subst, ◌∙◌}
use Rattle.std.specs.Arc.{arc_value}
use Rattle.r4_base.specs.Key.{rank}
use Rattle.r4_cell.specs.Seen.{CellSeen}
use Rattle.r4_content.specs.Edited.{is_between}
use Rattle.r4_seeing.proofs.r4_search.Walks.{handed, map_push}
use Rattle.r4_seeing.specs.r4_sight.Stretches.{IsWaysEnd}
use Rattle.r4_seeing.proofs.r4_sight.Fetching.{way_stops, ways_end}
use Rattle.r4_touching.specs.Touching.{StopsFor}
use Rattle.r4_touching.proofs.Touched.{ends_of, stops_one, touches_one}
use Rattle.r4_touching.proofs.touching.leaf_end.Goals as goal

pub returns-in_err-path-clause-touches : goal.returns-in_err-path-clause-touches
returns-in_err-path-clause-touches g c = touches_one c.args.root.now (rank c.args.key) (g.P.Pool.state c.args.pool.now)
    (g.P.Pool.state c.cover.new.pool) c.requires.keeps c.requires.from c.requires.below c.in_err-path.ensures.goes
    c.in_err-path.ensures.meets

pub returns-in_err-path-clause-err : goal.returns-in_err-path-clause-err
returns-in_err-path-clause-err g c =
    handed (λ e. StopsFor (is_between (rank c.args.key) (rank c.args.key + 1)) (g.P.Pool.state c.args.pool.now) e
    (g.P.Pool.state c.cover.new.pool)) c.from_residual.result c.in_err-path.field-0.0 c.from_residual.ensures.1
    (stops_one (rank c.args.key) (g.P.Pool.state c.args.pool.now)
    (g.P.Pool.state c.cover.new.pool) c.in_err-path.field-0.0 c.requires.from c.requires.below
    c.in_err-path.ensures.goes (way_stops c.args.root.now (rank c.args.key) _ c.in_err-path.field-0.0 _
    c.requires.from c.requires.below
    c.in_err-path.ensures.err))

pub returns-clause-touches : goal.returns-clause-touches
returns-clause-touches g c = touches_one c.args.root.now (rank c.args.key) (g.P.Pool.state c.args.pool.now)
    (g.P.Pool.state c.cover.new.pool) c.requires.keeps c.requires.from c.requires.below c.in_ok-path.ensures.goes
    c.in_ok-path.ensures.meets

pub returns-clause-end : goal.returns-clause-end
returns-clause-end g c =
    let new = g.P.Pool.state c.cover.new.pool in
    let pushed = map_push (λ cell. arc_value cell) c.pop.new.self.items c.in_ok-path.path.items c.in-Some.cell
    c.in-Some.ensures.items in
    let end = ways_end c.args.root.now (rank c.args.key) new _ _ _ pushed c.requires.some c.requires.from
    c.requires.below c.in_ok-path.ensures.path c.in_ok-path.ensures.knows c.in_ok-path.ensures.met in
    ends_of new (rank c.args.key) c.deref.result.now c.end_of.result
    (λ level. c.in_ok-path.ensures.goes.keeps level ∙ c.requires.keeps level) c.end_of.ensures.leaf
    c.end_of.ensures.other
    (subst (λ (x : CellSeen). IsWaysEnd new (rank c.args.key) x) (sym c.deref.ensures) end)
