use Rattle.std.proofs.Common.{◌≡◌, sym, subst, map, ◌+◌, List}
use Rattle.std.specs.Prelude.{Option, IfSome, IfNone}
use Rattle.std.specs.Option.{option_map}
use Rattle.std.specs.Arc.{arc_value}
use Rattle.r4_base.specs.Key.{rank}
use Rattle.r4_cell.specs.Seen.{CellSeen}
use Rattle.r4_search.specs.Path.{LeadsTo, EndsAt}
use Rattle.r4_search.specs.Place.{child_name}
use Rattle.r4_search.specs.declared.inside.Child.{Child}
use Rattle.r4_search.specs.declared.pool.FetchFault.TheVariants.{Memory}
use Rattle.r4_search.proofs.Walks.{Reached, goes_both, leaves_both, meets_short, onward, stops, stops_short, handed, map_push}
use Rattle.r4_search.proofs.covering.cover.Goals as goal

pub returns-in_err-cell-clause-goes : goal.returns-in_err-cell-clause-goes
returns-in_err-cell-clause-goes g c = goes_both _ _ _ c.loop-next.invariant.walk.goes c.fetch.ensures.fetches.goes

pub returns-in_err-cell-clause-err : goal.returns-in_err-cell-clause-err
returns-in_err-cell-clause-err g c =
    let old = g.P.Pool.state c.args.pool.now in
    let mid = g.P.Pool.state c.loop-next.pool in
    let cells = map (λ cell. arc_value cell) c.loop-next.path.items in
    let so_far = subst (λ (o : Option Child). Reached c.args.root.now (rank c.args.key.now) old mid cells (option_map child_name o)) c.in-Some.is c.loop-next.invariant.walk in
    handed _ c.from_residual.result c.in_err-cell.field-0.0 c.from_residual.ensures.1
    (stops c.args.root.now (rank c.args.key.now) old mid cells (child_name c.in-Some.child) so_far (g.P.Pool.state c.fetch.new.self) c.in_err-cell.ensures.fetches.only c.fetch.ensures.fetches.goes c.in_err-cell.field-0.0 c.in_err-cell.ensures.fetches.err)

pub loop-next-preserved : goal.loop-next-preserved
loop-next-preserved g c =
    let old = g.P.Pool.state c.args.pool.now in
    let mid = g.P.Pool.state c.loop-next.pool in
    let new = g.P.Pool.state c.fetch.new.self in
    let key = rank c.args.key.now in
    let cells = map (λ cell. arc_value cell) c.loop-next.path.items in
    let cell = arc_value c.in_ok-cell.cell in
    let d = c.child_of-next.result in
    let so_far = subst (λ (o : Option Child). Reached c.args.root.now key old mid cells (option_map child_name o)) c.in-Some.is c.loop-next.invariant.walk in
    let leads = subst (λ (x : CellSeen). IfSome d (λ y. LeadsTo x key (child_name y))) c.deref.ensures c.child_of-next.ensures.child in
    let level = subst (λ (x : CellSeen). IfSome d (λ y. y.level + 1 ≡ x.level)) c.deref.ensures c.child_of-next.ensures.level in
    let ends = subst (λ (x : CellSeen). IfNone d (EndsAt x key)) c.deref.ensures c.child_of-next.ensures.end in
    let pushed = map_push (λ cell. arc_value cell) c.loop-next.path.items c.push.new.self.items c.in_ok-cell.cell c.in_ok-push.ensures.items in
    record {
      walk = subst (λ (cs : List CellSeen). Reached c.args.root.now key old new cs (option_map child_name d)) (sym pushed)
          (onward c.args.root.now key old mid new cells (child_name c.in-Some.child) cell so_far c.in_ok-cell.ensures.fetches.goes c.in_ok-cell.ensures.fetches.only c.in_ok-cell.ensures.fetches.only_met c.in_ok-cell.ensures.fetches.met c.in_ok-cell.ensures.fetches.ok d leads level ends);
      device = leaves_both _ _ _ c.loop-next.invariant.device c.fetch.ensures.device;
    }

pub returns-in_err-push-clause-goes : goal.returns-in_err-push-clause-goes
returns-in_err-push-clause-goes g c = goes_both _ _ _ c.loop-next.invariant.walk.goes c.fetch.ensures.fetches.goes

pub returns-in_err-cell-clause-device : goal.returns-in_err-cell-clause-device
returns-in_err-cell-clause-device g c = leaves_both _ _ _ c.loop-next.invariant.device c.fetch.ensures.device

pub returns-in_err-push-clause-device : goal.returns-in_err-push-clause-device
returns-in_err-push-clause-device g c = leaves_both _ _ _ c.loop-next.invariant.device c.fetch.ensures.device

pub returns-in_err-push-clause-err : goal.returns-in_err-push-clause-err
returns-in_err-push-clause-err g c =
    let old = g.P.Pool.state c.args.pool.now in
    let mid = g.P.Pool.state c.loop-next.pool in
    let cells = map (λ cell. arc_value cell) c.loop-next.path.items in
    let so_far = subst (λ (o : Option Child). Reached c.args.root.now (rank c.args.key.now) old mid cells (option_map child_name o)) c.in-Some.is c.loop-next.invariant.walk in
    handed _ c.from_residual-in_err-push.result Memory c.from_residual-in_err-push.ensures.1
    (stops_short c.args.root.now (rank c.args.key.now) old mid (g.P.Pool.state c.fetch.new.self) cells (child_name c.in-Some.child) (arc_value c.in_ok-cell.cell) so_far c.in_ok-cell.ensures.fetches.goes c.in_ok-cell.ensures.fetches.only c.in_ok-cell.ensures.fetches.ok)

pub returns-in_err-push-clause-meets : goal.returns-in_err-push-clause-meets
returns-in_err-push-clause-meets g c =
    let old = g.P.Pool.state c.args.pool.now in
    let mid = g.P.Pool.state c.loop-next.pool in
    let cells = map (λ cell. arc_value cell) c.loop-next.path.items in
    let so_far = subst (λ (o : Option Child). Reached c.args.root.now (rank c.args.key.now) old mid cells (option_map child_name o)) c.in-Some.is c.loop-next.invariant.walk in
    let fetched = c.in_ok-cell.ensures.fetches in
    meets_short c.args.root.now (rank c.args.key.now) old mid (g.P.Pool.state c.fetch.new.self) cells (child_name c.in-Some.child) (arc_value c.in_ok-cell.cell) so_far fetched.goes fetched.only fetched.only_met fetched.met fetched.ok
