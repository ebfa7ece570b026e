use Rattle.std.proofs.Common.{◌≡◌, arith, map, subst, sym, true}
use Rattle.std.specs.Arc.{arc_value}
use Rattle.std.specs.Prelude.{Contains}
use Rattle.r4_base.specs.Key.{rank}
use Rattle.r4_extent_commands.specs.r4_cell.Seen.{CellSeen}
use Rattle.r4_extent_asks.proofs.r4_search.Walks.{goes_both, goes_same, handed, leaves_both, leaves_same}
use Rattle.r4_extent_reaching.specs.r4_extent_touching.Holding.{AreLeftMet}
use Rattle.r4_extent_reach.specs.Meeting.{StopsBesideOf, turns_of}
use Rattle.r4_extent_reach.proofs.LeftMet.{each_none, item_among, met_all, met_next, met_none, only_next, seen_of, stops_next}
use Rattle.r4_extent_reach.proofs.beside.meet_beside_each.Goals as goal

pub loop-cell-init : goal.loop-cell-init
loop-cell-init g c =
    let p = g.P.Pool.state c.args.pool.now in
    let turns = turns_of c.args.demands.now in (
      leaves_same (g.P.Pool.device c.args.pool.now),
      goes_same p,
      each_none turns (map (λ x. arc_value x) c.args.cells.now) p,
      met_none turns (rank c.args.at.now) c.args.cells.now p,
    )

pub meet_beside_one-requires-clause-knows : goal.meet_beside_one-requires-clause-knows
meet_beside_one-requires-clause-knows g c = λ m named.
    let among = subst (λ (x : CellSeen). Contains (seen_of c.args.cells.now) x) (sym c.deref.ensures)
    (item_among c.args.cells.now c.loop-cell.cell-index c.cell-item.result c.loop-cell-test.true c.cell-item.is) in
    c.loop-cell.invariant.1.known m (c.requires.knows c.deref.result.now among m named)

pub returns-in_err-meet_beside_one-clause-goes : goal.returns-in_err-meet_beside_one-clause-goes
returns-in_err-meet_beside_one-clause-goes g c =
    goes_both (g.P.Pool.state c.args.pool.now) (g.P.Pool.state c.loop-cell.pool)
    (g.P.Pool.state c.meet_beside_one.new.pool) c.loop-cell.invariant.1 c.in_err-meet_beside_one.ensures.goes

pub returns-in_err-meet_beside_one-clause-only : goal.returns-in_err-meet_beside_one-clause-only
returns-in_err-meet_beside_one-clause-only g c =
    let among = subst (λ (x : CellSeen). Contains (seen_of c.args.cells.now) x) (sym c.deref.ensures)
    (item_among c.args.cells.now c.loop-cell.cell-index c.cell-item.result c.loop-cell-test.true c.cell-item.is) in
    only_next (turns_of c.args.demands.now) (rank c.args.at.now) (seen_of c.args.cells.now) c.deref.result.now among
    (g.P.Pool.state c.args.pool.now) (g.P.Pool.state c.loop-cell.pool) (g.P.Pool.state c.meet_beside_one.new.pool)
    c.loop-cell.invariant.1 c.in_err-meet_beside_one.ensures.goes c.loop-cell.invariant.2
    c.in_err-meet_beside_one.ensures.only

pub returns-in_err-meet_beside_one-clause-err : goal.returns-in_err-meet_beside_one-clause-err
returns-in_err-meet_beside_one-clause-err g c =
    let turns = turns_of c.args.demands.now in
    let cells = seen_of c.args.cells.now in
    let old = g.P.Pool.state c.args.pool.now in
    let mid = g.P.Pool.state c.loop-cell.pool in
    let new = g.P.Pool.state c.meet_beside_one.new.pool in
    let among = subst (λ (x : CellSeen). Contains cells x) (sym c.deref.ensures)
    (item_among c.args.cells.now c.loop-cell.cell-index c.cell-item.result c.loop-cell-test.true c.cell-item.is) in
    handed (λ e. StopsBesideOf turns cells (rank c.args.at.now) old e new) c.from_residual.result
    c.in_err-meet_beside_one.field-0.0 c.from_residual.ensures.1
    (stops_next turns (rank c.args.at.now) cells c.deref.result.now among old mid new c.loop-cell.invariant.1
    c.in_err-meet_beside_one.ensures.goes c.in_err-meet_beside_one.field-0.0 c.in_err-meet_beside_one.ensures.err)

pub loop-cell-preserved : goal.loop-cell-preserved
loop-cell-preserved g c =
    let turns = turns_of c.args.demands.now in
    let key = rank c.args.at.now in
    let cells = seen_of c.args.cells.now in
    let old = g.P.Pool.state c.args.pool.now in
    let mid = g.P.Pool.state c.loop-cell.pool in
    let new = g.P.Pool.state c.meet_beside_one.new.pool in
    let on = c.in_ok-meet_beside_one.ensures.goes in
    let among = subst (λ (x : CellSeen). Contains cells x) (sym c.deref.ensures)
    (item_among c.args.cells.now c.loop-cell.cell-index c.cell-item.result c.loop-cell-test.true c.cell-item.is) in
    let met = subst (λ (x : CellSeen). turns x ≡ true → AreLeftMet new x key) c.deref.ensures
    c.in_ok-meet_beside_one.ensures.met in (
      leaves_both (g.P.Pool.device c.args.pool.now) (g.P.Pool.device c.loop-cell.pool)
          (g.P.Pool.device c.meet_beside_one.new.pool) c.loop-cell.invariant.0 c.in_ok-meet_beside_one.ensures.device,
      goes_both old mid new c.loop-cell.invariant.1 on,
      only_next turns key cells c.deref.result.now among old mid new c.loop-cell.invariant.1 on c.loop-cell.invariant.2
          c.in_ok-meet_beside_one.ensures.only,
      met_next turns key c.args.cells.now c.loop-cell.cell-index c.cell-item.result c.loop-cell-test.true
          c.cell-item.is mid new on c.loop-cell.invariant.3 met,
    )

pub returns-clause-met : goal.returns-clause-met
returns-clause-met g c =
    let past = c.loop-cell-test.false in
    met_all (turns_of c.args.demands.now) (rank c.args.at.now) c.args.cells.now c.loop-cell.cell-index
    (g.P.Pool.state c.loop-cell.pool) (omega (arith, past)) c.loop-cell.invariant.3
