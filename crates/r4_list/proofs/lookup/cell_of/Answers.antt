use Rattle.std.proofs.Common.{map}
use Rattle.std.specs.Arc.{arc_value}
use Rattle.r4_base.specs.Key.{rank}
use Rattle.r4_search.proofs.Walks.{map_push, last_among}
use Rattle.r4_list.proofs.Lookups.{last_ends, last_inside, last_is, last_knows, last_of_pool, fetch_cause, handed}
use Rattle.r4_list.proofs.OverPaths.{found_none, over_path, over_stop, path_stored, undamaged}
use Rattle.r4_list.specs.Over.{IsUndamaged}
use Rattle.r4_list.proofs.lookup.cell_of.Goals as goal

pub returns-in_err-path-clause-fetched : goal.returns-in_err-path-clause-fetched
returns-in_err-path-clause-fetched g c = record {
  goes = c.in_err-path.ensures.goes;
  device = c.in_err-path.ensures.device;
  cause = handed _ c.from_residual.result c.in_err-path.field-0.0 c.from_residual.ensures.1 (fetch_cause c.args.root.now (rank c.args.key) _ _ c.in_err-path.field-0.0 c.requires.root c.cover.ensures.goes c.in_err-path.ensures.err);
}

pub returns-clause-from : goal.returns-clause-from
returns-clause-from g c =
    let pushed = map_push (λ cell. arc_value cell) c.pop.new.self.items c.in_ok-path.path.items c.in-Some.cell c.in-Some.ensures.items in
    (last_inside c.args.root.now (rank c.args.key) (g.P.Pool.state c.args.pool.now) (g.P.Pool.state c.cover.new.pool) _ _ _ pushed c.requires.from c.requires.below c.in_ok-path.ensures.path).from

pub returns-clause-inside : goal.returns-clause-inside
returns-clause-inside g c =
    let pushed = map_push (λ cell. arc_value cell) c.pop.new.self.items c.in_ok-path.path.items c.in-Some.cell c.in-Some.ensures.items in
    (last_inside c.args.root.now (rank c.args.key) (g.P.Pool.state c.args.pool.now) (g.P.Pool.state c.cover.new.pool) _ _ _ pushed c.requires.from c.requires.below c.in_ok-path.ensures.path).inside

pub returns-clause-ends : goal.returns-clause-ends
returns-clause-ends g c =
    let pushed = map_push (λ cell. arc_value cell) c.pop.new.self.items c.in_ok-path.path.items c.in-Some.cell c.in-Some.ensures.items in
    last_ends c.args.root.now (rank c.args.key) (g.P.Pool.state c.args.pool.now) (g.P.Pool.state c.cover.new.pool) _ _ _ pushed c.requires.from c.requires.below c.in_ok-path.ensures.path

pub returns-clause-is_of : goal.returns-clause-is_of
returns-clause-is_of g c =
    let pushed = map_push (λ cell. arc_value cell) c.pop.new.self.items c.in_ok-path.path.items c.in-Some.cell c.in-Some.ensures.items in
    last_of_pool c.args.root.now (rank c.args.key) (g.P.Pool.state c.args.pool.now) (g.P.Pool.state c.cover.new.pool) _ _ _ pushed c.requires.from c.requires.below c.in_ok-path.ensures.path c.in_ok-path.ensures.are_of

pub returns-clause-knows : goal.returns-clause-knows
returns-clause-knows g c =
    let pushed = map_push (λ cell. arc_value cell) c.pop.new.self.items c.in_ok-path.path.items c.in-Some.cell c.in-Some.ensures.items in
    last_knows c.args.root.now (rank c.args.key) (g.P.Pool.state c.args.pool.now) (g.P.Pool.state c.cover.new.pool) _ _ _ pushed c.requires.from c.requires.below c.in_ok-path.ensures.path c.in_ok-path.ensures.knows

pub returns-in_err-path-clause-over : goal.returns-in_err-path-clause-over
returns-in_err-path-clause-over g c = λ n image m has over. record {
  over = over_stop has c.args.root.now (g.P.Pool.state c.args.pool.now) over (rank c.args.key) (g.P.Pool.state c.cover.new.pool) c.in_err-path.field-0.0 c.in_err-path.ensures.goes c.in_err-path.ensures.err;
  found = found_none _ c.from_residual.result c.in_err-path.field-0.0 c.from_residual.ensures.1;
  undamaged = handed IsUndamaged c.from_residual.result c.in_err-path.field-0.0 c.from_residual.ensures.1 (undamaged has c.args.root.now (g.P.Pool.state c.args.pool.now) over (rank c.args.key) (g.P.Pool.state c.cover.new.pool) c.in_err-path.field-0.0 c.in_err-path.ensures.err);
}

pub returns-clause-over : goal.returns-clause-over
returns-clause-over g c = λ n image m has over.
    let pushed = map_push (λ cell. arc_value cell) c.pop.new.self.items c.in_ok-path.path.items c.in-Some.cell c.in-Some.ensures.items in
    let old = g.P.Pool.state c.args.pool.now in
    let new = g.P.Pool.state c.cover.new.pool in
    let cells = map (λ cell. arc_value cell) c.in_ok-path.path.items in
    let is = last_is c.args.root.now (rank c.args.key) old new _ _ _ pushed c.requires.from c.requires.below c.in_ok-path.ensures.path in
    record {
      over = over_path has c.args.root.now old over (rank c.args.key) new cells c.in_ok-path.ensures.goes c.in_ok-path.ensures.path.descends c.in_ok-path.ensures.are_of c.in_ok-path.ensures.only;
      found = path_stored has c.args.root.now old over (rank c.args.key) cells c.in_ok-path.ensures.path.descends c.in_ok-path.ensures.are_of (arc_value c.in-Some.cell) (last_among cells (arc_value c.in-Some.cell) is);
      undamaged = tt;
    }
