use Rattle.std.proofs.Common.{◌+◌, ◌∙◌}
use Rattle.r4_base.specs.Key.{rank}
use Rattle.r4_content.specs.Edited.{is_between}
use Rattle.r4_marking.proofs.r4_search.Walks.{handed}
use Rattle.r4_touching.specs.Touching.{StopsFor}
use Rattle.r4_touching.proofs.Touched.{stops_one}
use Rattle.r4_extent_touching.proofs.Held.{stretch_held, touches_looked}
use Rattle.r4_extent_touching.proofs.touching.piece_end.Goals as goal

pub returns-in_err-stretch-clause-touches : goal.returns-in_err-stretch-clause-touches
returns-in_err-stretch-clause-touches g c =
    touches_looked c.args.root.now (rank c.args.key) (g.P.Pool.state c.args.pool.now)
    (g.P.Pool.state c.stretch_from.new.pool) c.requires.keeps c.requires.from c.requires.below
    c.in_err-stretch.ensures.goes c.in_err-stretch.ensures.looks

pub returns-in_err-stretch-clause-err : goal.returns-in_err-stretch-clause-err
returns-in_err-stretch-clause-err g c =
    handed (λ e. StopsFor (is_between (rank c.args.key) (rank c.args.key + 1)) (g.P.Pool.state c.args.pool.now) e
    (g.P.Pool.state c.stretch_from.new.pool)) c.from_residual.result c.in_err-stretch.field-0.0
    c.from_residual.ensures.1
    (stops_one (rank c.args.key) (g.P.Pool.state c.args.pool.now) (g.P.Pool.state c.stretch_from.new.pool)
    c.in_err-stretch.field-0.0 c.requires.from c.requires.below c.in_err-stretch.ensures.goes
    c.in_err-stretch.ensures.err)

pub returns-clause-touches : goal.returns-clause-touches
returns-clause-touches g c =
    touches_looked c.args.root.now (rank c.args.key) (g.P.Pool.state c.args.pool.now)
    (g.P.Pool.state c.stretch_from.new.pool) c.requires.keeps c.requires.from c.requires.below
    c.in_ok-stretch.ensures.goes c.in_ok-stretch.ensures.looks

pub returns-clause-held : goal.returns-clause-held
returns-clause-held g c =
    stretch_held (g.P.Pool.state c.args.pool.now) (g.P.Pool.state c.stretch_from.new.pool) (rank c.args.key)
    (rank c.args.to) c.in_ok-stretch.stretch
    (λ level. c.in_ok-stretch.ensures.goes.keeps level ∙ c.requires.keeps level) c.in_ok-stretch.ensures.stretch
