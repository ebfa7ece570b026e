use Rattle.std.proofs.Common.{◌≡◌, ◌⊎◌, map, subst}
use Rattle.r4_base.specs.Key.{rank}
use Rattle.r4_content.specs.Edited.{is_between, is_in}
use Rattle.r4_content.specs.Held.{interval_of}
use Rattle.r4_seeing.proofs.r4_search.Walks.{goes_same, handed}
use Rattle.r4_touching.specs.Touching.{StopsFor}
use Rattle.r4_touching.proofs.Touched.{first_all, held_first, held_rest, in_first_or_rest, rest_all, stops_wider}
use Rattle.r4_touching.proofs.Touched.{touches_both, touches_wider}
use Rattle.r4_touching.proofs.touching.+touch.Goals as goal

pub returns-in_err-touch_keys-in-Some-clause-touches : goal.returns-in_err-touch_keys-in-Some-clause-touches
returns-in_err-touch_keys-in-Some-clause-touches g t c =
    touches_wider c.args.root.now (is_between (rank c.higher-from.result) (rank c.lower-to.result))
    (is_in (map interval_of c.args.keys.now)) (g.P.Pool.state c.args.pool.now)
    (g.P.Pool.state c.touch_keys.new.pool)
    (first_all c.in-Some.first.now c.in-Some.rest.now c.args.keys.now (rank c.higher-from.result)
    (rank c.lower-to.result) c.in-Some.ensures.cases.0 c.higher-from.ensures.one c.lower-to.ensures.one)
    c.in_err-touch_keys-in-Some.ensures.touches

pub returns-in_err-touch_keys-in-Some-clause-err : goal.returns-in_err-touch_keys-in-Some-clause-err
returns-in_err-touch_keys-in-Some-clause-err g t c =
    let old = g.P.Pool.state c.args.pool.now in
    let new = g.P.Pool.state c.touch_keys.new.pool in
    handed (λ e. StopsFor (is_in (map interval_of c.args.keys.now)) old e new) c.from_residual.result
    c.in_err-touch_keys-in-Some.field-0.0 c.from_residual.ensures.1
    (stops_wider (is_between (rank c.higher-from.result) (rank c.lower-to.result))
    (is_in (map interval_of c.args.keys.now)) old old new c.in_err-touch_keys-in-Some.field-0.0
    (first_all c.in-Some.first.now c.in-Some.rest.now c.args.keys.now (rank c.higher-from.result)
    (rank c.lower-to.result) c.in-Some.ensures.cases.0 c.higher-from.ensures.one c.lower-to.ensures.one)
    (goes_same old) c.in_err-touch_keys-in-Some.ensures.err)

pub returns-in_err-touch-in-Some-clause-touches : goal.returns-in_err-touch-in-Some-clause-touches
returns-in_err-touch-in-Some-clause-touches g t c =
    let old = g.P.Pool.state c.args.pool.now in
    let mid = g.P.Pool.state c.touch_keys.new.pool in
    let new = g.P.Pool.state c.touch.new.pool in
    let keys = is_in (map interval_of c.args.keys.now) in
    touches_both c.args.root.now keys old mid new
    (touches_wider c.args.root.now (is_between (rank c.higher-from.result) (rank c.lower-to.result)) keys old mid
    (first_all c.in-Some.first.now c.in-Some.rest.now c.args.keys.now (rank c.higher-from.result)
    (rank c.lower-to.result) c.in-Some.ensures.cases.0 c.higher-from.ensures.one c.lower-to.ensures.one)
    c.in_ok-touch_keys-in-Some.ensures.touches)
    (touches_wider c.args.root.now (is_in (map interval_of c.in-Some.rest.now)) keys mid new
    (rest_all c.in-Some.first.now c.in-Some.rest.now c.args.keys.now c.in-Some.ensures.cases.0)
    c.in_err-touch-in-Some.ensures.touches)

pub returns-in_ok-touch-in-Some-clause-touches : goal.returns-in_ok-touch-in-Some-clause-touches
returns-in_ok-touch-in-Some-clause-touches g t c =
    let old = g.P.Pool.state c.args.pool.now in
    let mid = g.P.Pool.state c.touch_keys.new.pool in
    let new = g.P.Pool.state c.touch.new.pool in
    let keys = is_in (map interval_of c.args.keys.now) in
    touches_both c.args.root.now keys old mid new
    (touches_wider c.args.root.now (is_between (rank c.higher-from.result) (rank c.lower-to.result)) keys old mid
    (first_all c.in-Some.first.now c.in-Some.rest.now c.args.keys.now (rank c.higher-from.result)
    (rank c.lower-to.result) c.in-Some.ensures.cases.0 c.higher-from.ensures.one c.lower-to.ensures.one)
    c.in_ok-touch_keys-in-Some.ensures.touches)
    (touches_wider c.args.root.now (is_in (map interval_of c.in-Some.rest.now)) keys mid new
    (rest_all c.in-Some.first.now c.in-Some.rest.now c.args.keys.now c.in-Some.ensures.cases.0)
    c.in_ok-touch-in-Some.ensures.touches)

pub returns-in_err-touch-in-Some-clause-err : goal.returns-in_err-touch-in-Some-clause-err
returns-in_err-touch-in-Some-clause-err g t c =
    let old = g.P.Pool.state c.args.pool.now in
    let mid = g.P.Pool.state c.touch_keys.new.pool in
    let new = g.P.Pool.state c.touch.new.pool in
    let keys = is_in (map interval_of c.args.keys.now) in
    handed (λ e. StopsFor keys old e new) c.from_residual-in_err-touch-in-Some.result c.in_err-touch-in-Some.field-0.0
    c.from_residual-in_err-touch-in-Some.ensures.1
    (stops_wider (is_in (map interval_of c.in-Some.rest.now)) keys old mid new c.in_err-touch-in-Some.field-0.0
    (rest_all c.in-Some.first.now c.in-Some.rest.now c.args.keys.now c.in-Some.ensures.cases.0)
    c.in_ok-touch_keys-in-Some.ensures.touches.goes c.in_err-touch-in-Some.ensures.err)

pub returns-in_ok-touch-in-Some-clause-held : goal.returns-in_ok-touch-in-Some-clause-held
returns-in_ok-touch-in-Some-clause-held g t c =
    let mid = g.P.Pool.state c.touch_keys.new.pool in
    let new = g.P.Pool.state c.touch.new.pool in
    let low = subst (λ k. (rank c.higher-from.result ≡ rank c.in-Some.first.now.from) ⊎ (rank c.higher-from.result ≡ k))
    c.least.ensures c.higher-from.ensures.is in
    let high = subst (λ k. (rank c.lower-to.result ≡ rank c.in-Some.first.now.to) ⊎ (rank c.lower-to.result ≡ k))
    c.top.ensures c.lower-to.ensures.is in
    held_rest mid new (is_between (rank c.higher-from.result) (rank c.lower-to.result))
    (is_in (map interval_of c.in-Some.rest.now))
    (is_in (map interval_of c.args.keys.now)) c.in_ok-touch_keys-in-Some.field-0 c.in_ok-touch-in-Some.field-0
    c.if-branch.true c.in_ok-touch-in-Some.ensures.touches.goes
    (in_first_or_rest c.in-Some.first.now c.in-Some.rest.now c.args.keys.now (rank c.higher-from.result)
    (rank c.lower-to.result) c.in-Some.ensures.cases.0 low high)
    (rest_all c.in-Some.first.now c.in-Some.rest.now c.args.keys.now c.in-Some.ensures.cases.0)
    c.in_ok-touch_keys-in-Some.ensures.held c.in_ok-touch-in-Some.ensures.held

pub returns-else-branch-clause-touches : goal.returns-else-branch-clause-touches
returns-else-branch-clause-touches g t c =
    touches_wider c.args.root.now (is_between (rank c.higher-from.result) (rank c.lower-to.result))
    (is_in (map interval_of c.args.keys.now)) (g.P.Pool.state c.args.pool.now)
    (g.P.Pool.state c.touch_keys.new.pool)
    (first_all c.in-Some.first.now c.in-Some.rest.now c.args.keys.now (rank c.higher-from.result)
    (rank c.lower-to.result) c.in-Some.ensures.cases.0 c.higher-from.ensures.one c.lower-to.ensures.one)
    c.in_ok-touch_keys-in-Some.ensures.touches

pub returns-else-branch-clause-held : goal.returns-else-branch-clause-held
returns-else-branch-clause-held g t c =
    held_first (g.P.Pool.state c.touch_keys.new.pool) (is_between (rank c.higher-from.result) (rank c.lower-to.result))
    (is_in (map interval_of c.args.keys.now)) c.in_ok-touch_keys-in-Some.field-0 c.if-branch.false
    (first_all c.in-Some.first.now c.in-Some.rest.now c.args.keys.now (rank c.higher-from.result)
    (rank c.lower-to.result) c.in-Some.ensures.cases.0 c.higher-from.ensures.one c.lower-to.ensures.one)
    c.in_ok-touch_keys-in-Some.ensures.held
