use Rattle.std.proofs.Common.{◌<◌, ◌+◌, subst, arith, rules}
use Rattle.std.specs.Option.{option_map}
use Rattle.std.proofs.lemmas.Bool.Decides.{nat_tests}
use Rattle.r4_base.specs.Key.{rank}
use Rattle.r4_content.specs.Edited.{is_between}
use Rattle.r4_seeing.proofs.r4_search.Walks.{handed, leaves_both}
use Rattle.r4_touching.specs.Touching.{EndsLeaf, StopsFor}
use Rattle.r4_touching.proofs.Touched.{so_far_on, stops_wider, touches_both, touches_none, touches_wider, within}
use Rattle.r4_touching.proofs.touching.touch_keys.Goals as goal

pub loop-alloc-init : goal.loop-alloc-init
loop-alloc-init g c = (
  omega arith,
  search rules,
  touches_none c.args.root.now (is_between (rank c.args.from) (rank c.args.to)) (g.P.Pool.state c.args.pool.now),
  (λ k low high. absurd (omega (arith, low, high))),
)

pub leaf_end-requires-clause-known : goal.leaf_end-requires-clause-known
leaf_end-requires-clause-known g c = c.loop-alloc.invariant.2.goes.known _ c.requires.known

pub loop-alloc-preserved : goal.loop-alloc-preserved
loop-alloc-preserved g c =
    let old = g.P.Pool.state c.args.pool.now in
    let mid = g.P.Pool.state c.loop-alloc.pool in
    let new = g.P.Pool.state c.leaf_end.new.pool in
    let from = rank c.args.from in
    let to = rank c.args.to in
    let at = rank c.loop-alloc.at in
    let low = c.loop-alloc.invariant.0 in
    let test = c.loop-alloc-test.ensures in
    let high : at < to = grind (arith, nat_tests, test) in
    let end = subst (λ o. EndsLeaf new at (option_map (λ k. rank k) o)) c.in-Some.is c.in_ok-end.ensures.end in
    let on = end.0 in
    let here = touches_wider c.args.root.now (is_between at (at + 1)) (is_between from to) mid new
    (λ k is. within from to at k low high is) c.in_ok-end.ensures.touches in (
      omega (arith, low, on),
      leaves_both (g.P.Pool.device c.args.pool.now) (g.P.Pool.device c.loop-alloc.pool)
          (g.P.Pool.device c.leaf_end.new.pool) c.loop-alloc.invariant.1 c.in_ok-end.ensures.device,
      touches_both c.args.root.now (is_between from to) old mid new c.loop-alloc.invariant.2 here,
      so_far_on from at (rank c.in-Some.end) mid new c.in_ok-end.ensures.touches.goes c.loop-alloc.invariant.3 end,
    )

pub returns-in_err-end-clause-touches : goal.returns-in_err-end-clause-touches
returns-in_err-end-clause-touches g c =
    let old = g.P.Pool.state c.args.pool.now in
    let mid = g.P.Pool.state c.loop-alloc.pool in
    let new = g.P.Pool.state c.leaf_end.new.pool in
    let from = rank c.args.from in
    let to = rank c.args.to in
    let at = rank c.loop-alloc.at in
    let low = c.loop-alloc.invariant.0 in
    let test = c.loop-alloc-test.ensures in
    let high : at < to = grind (arith, nat_tests, test) in
    touches_both c.args.root.now (is_between from to) old mid new c.loop-alloc.invariant.2
    (touches_wider c.args.root.now (is_between at (at + 1)) (is_between from to) mid new
    (λ k is. within from to at k low high is) c.in_err-end.ensures.touches)

pub returns-in_err-end-clause-err : goal.returns-in_err-end-clause-err
returns-in_err-end-clause-err g c =
    let old = g.P.Pool.state c.args.pool.now in
    let mid = g.P.Pool.state c.loop-alloc.pool in
    let new = g.P.Pool.state c.leaf_end.new.pool in
    let from = rank c.args.from in
    let to = rank c.args.to in
    let at = rank c.loop-alloc.at in
    let low = c.loop-alloc.invariant.0 in
    let test = c.loop-alloc-test.ensures in
    let high : at < to = grind (arith, nat_tests, test) in
    handed (λ e. StopsFor (is_between from to) old e new) c.from_residual.result c.in_err-end.field-0.0
    c.from_residual.ensures.1
    (stops_wider (is_between at (at + 1)) (is_between from to) old mid new c.in_err-end.field-0.0
    (λ k is. within from to at k low high is) c.loop-alloc.invariant.2.goes c.in_err-end.ensures.err)

pub returns-in-None-clause-touches : goal.returns-in-None-clause-touches
returns-in-None-clause-touches g c =
    let old = g.P.Pool.state c.args.pool.now in
    let mid = g.P.Pool.state c.loop-alloc.pool in
    let new = g.P.Pool.state c.leaf_end.new.pool in
    let from = rank c.args.from in
    let to = rank c.args.to in
    let at = rank c.loop-alloc.at in
    let low = c.loop-alloc.invariant.0 in
    let test = c.loop-alloc-test.ensures in
    let high : at < to = grind (arith, nat_tests, test) in
    touches_both c.args.root.now (is_between from to) old mid new c.loop-alloc.invariant.2
    (touches_wider c.args.root.now (is_between at (at + 1)) (is_between from to) mid new
    (λ k is. within from to at k low high is) c.in_ok-end.ensures.touches)
