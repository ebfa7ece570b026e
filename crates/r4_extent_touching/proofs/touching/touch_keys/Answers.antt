use Rattle.std.proofs.Common.{◌<◌, ◌+◌, arith}
use Rattle.std.proofs.lemmas.Bool.Decides.{nat_tests}
use Rattle.r4_base.specs.Key.{rank}
use Rattle.r4_content.specs.Edited.{is_between}
use Rattle.r4_marking.proofs.r4_search.Walks.{handed, leaves_both}
use Rattle.r4_touching.specs.Touching.{StopsFor}
use Rattle.r4_touching.proofs.Touched.{stops_wider, touches_both, touches_wider, within}
use Rattle.r4_extent_touching.proofs.Held.{so_far_on}
use Rattle.r4_extent_touching.proofs.touching.touch_keys.Goals as goal

pub returns-in_err-at-clause-touches : goal.returns-in_err-at-clause-touches
returns-in_err-at-clause-touches g c =
    let old = g.P.Pool.state c.args.pool.now in
    let mid = g.P.Pool.state c.loop-alloc.pool in
    let new = g.P.Pool.state c.piece_end.new.pool in
    let from = rank c.args.from in
    let to = rank c.args.to in
    let at = rank c.loop-alloc.at in
    let low = c.loop-alloc.invariant.1 in
    let test = c.loop-alloc-test.ensures in
    let high : at < to = grind (arith, nat_tests, test) in
    touches_both c.args.root.now (is_between from to) old mid new c.loop-alloc.invariant.3
    (touches_wider c.args.root.now (is_between at (at + 1)) (is_between from to) mid new
    (λ k is. within from to at k low high is) c.in_err-at.ensures.touches)

pub returns-in_err-at-clause-err : goal.returns-in_err-at-clause-err
returns-in_err-at-clause-err g c =
    let old = g.P.Pool.state c.args.pool.now in
    let mid = g.P.Pool.state c.loop-alloc.pool in
    let new = g.P.Pool.state c.piece_end.new.pool in
    let from = rank c.args.from in
    let to = rank c.args.to in
    let at = rank c.loop-alloc.at in
    let low = c.loop-alloc.invariant.1 in
    let test = c.loop-alloc-test.ensures in
    let high : at < to = grind (arith, nat_tests, test) in
    handed (λ e. StopsFor (is_between from to) old e new) c.from_residual.result c.in_err-at.field-0.0
    c.from_residual.ensures.1
    (stops_wider (is_between at (at + 1)) (is_between from to) old mid new c.in_err-at.field-0.0
    (λ k is. within from to at k low high is) c.loop-alloc.invariant.3.goes c.in_err-at.ensures.err)

pub loop-alloc-preserved : goal.loop-alloc-preserved
loop-alloc-preserved g c =
    let old = g.P.Pool.state c.args.pool.now in
    let mid = g.P.Pool.state c.loop-alloc.pool in
    let new = g.P.Pool.state c.piece_end.new.pool in
    let from = rank c.args.from in
    let to = rank c.args.to in
    let at = rank c.loop-alloc.at in
    let least_at = c.loop-alloc.invariant.0 in
    let low = c.loop-alloc.invariant.1 in
    let test = c.loop-alloc-test.ensures in
    let high : at < to = grind (arith, nat_tests, test) in
    let on = c.in_ok-at.ensures.onward in (
      omega (arith, least_at, on),
      omega (arith, low, on),
      leaves_both (g.P.Pool.device c.args.pool.now) (g.P.Pool.device c.loop-alloc.pool)
          (g.P.Pool.device c.piece_end.new.pool) c.loop-alloc.invariant.2 c.in_ok-at.ensures.device,
      touches_both c.args.root.now (is_between from to) old mid new c.loop-alloc.invariant.3
          (touches_wider c.args.root.now (is_between at (at + 1)) (is_between from to) mid new
          (λ k is. within from to at k low high is) c.in_ok-at.ensures.touches),
      so_far_on from at (rank c.in_ok-at.at) mid new c.in_ok-at.ensures.touches.goes c.loop-alloc.invariant.4
          c.in_ok-at.ensures.held,
    )
