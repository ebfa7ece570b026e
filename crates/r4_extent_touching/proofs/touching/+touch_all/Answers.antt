use Rattle.std.proofs.Common.{arith, map}
use Rattle.std.proofs.lemmas.Result.{IfErr-weaker, on_ok_weaker}
use Rattle.r4_base.specs.Key.{rank}
use Rattle.r4_content.specs.Edited.{is_between, is_in}
use Rattle.r4_content.specs.Held.{interval_of}
use Rattle.r4_marking.proofs.r4_search.Walks.{goes_same, handed}
use Rattle.r4_touching.specs.Touching.{StopsFor}
use Rattle.r4_touching.proofs.Touched.{first_all, rest_all, stops_wider, touches_both, touches_wider}
use Rattle.r4_extent_touching.proofs.Held.{held_both}
use Rattle.r4_extent_touching.proofs.touching.+touch_all.Goals as goal

pub returns-in_err-touch_keys-in-Some-clause-touches : goal.returns-in_err-touch_keys-in-Some-clause-touches
returns-in_err-touch_keys-in-Some-clause-touches g t c =
    touches_wider c.args.root.now (is_between (rank c.in-Some.first.now.from) (rank c.in-Some.first.now.to))
    (is_in (map interval_of c.args.keys.now)) (g.P.Pool.state c.args.pool.now)
    (g.P.Pool.state c.touch_keys.new.pool)
    (first_all c.in-Some.first.now c.in-Some.rest.now c.args.keys.now (rank c.in-Some.first.now.from)
    (rank c.in-Some.first.now.to) c.in-Some.ensures.cases.0 (omega arith) (omega arith))
    c.in_err-touch_keys-in-Some.ensures.touches

pub returns-in_err-touch_keys-in-Some-clause-err : goal.returns-in_err-touch_keys-in-Some-clause-err
returns-in_err-touch_keys-in-Some-clause-err g t c =
    let old = g.P.Pool.state c.args.pool.now in
    let new = g.P.Pool.state c.touch_keys.new.pool in
    handed (λ e. StopsFor (is_in (map interval_of c.args.keys.now)) old e new) c.from_residual.result
    c.in_err-touch_keys-in-Some.field-0.0 c.from_residual.ensures.1
    (stops_wider (is_between (rank c.in-Some.first.now.from) (rank c.in-Some.first.now.to))
    (is_in (map interval_of c.args.keys.now)) old old new c.in_err-touch_keys-in-Some.field-0.0
    (first_all c.in-Some.first.now c.in-Some.rest.now c.args.keys.now (rank c.in-Some.first.now.from)
    (rank c.in-Some.first.now.to) c.in-Some.ensures.cases.0 (omega arith) (omega arith))
    (goes_same old) c.in_err-touch_keys-in-Some.ensures.err)

pub returns-in_ok-touch_keys-in-Some-clause-touches : goal.returns-in_ok-touch_keys-in-Some-clause-touches
returns-in_ok-touch_keys-in-Some-clause-touches g t c =
    let old = g.P.Pool.state c.args.pool.now in
    let mid = g.P.Pool.state c.touch_keys.new.pool in
    let new = g.P.Pool.state c.touch_all.new.pool in
    let keys = is_in (map interval_of c.args.keys.now) in
    touches_both c.args.root.now keys old mid new
    (touches_wider c.args.root.now (is_between (rank c.in-Some.first.now.from) (rank c.in-Some.first.now.to)) keys old mid
    (first_all c.in-Some.first.now c.in-Some.rest.now c.args.keys.now (rank c.in-Some.first.now.from)
    (rank c.in-Some.first.now.to) c.in-Some.ensures.cases.0 (omega arith) (omega arith))
    c.in_ok-touch_keys-in-Some.ensures.touches)
    (touches_wider c.args.root.now (is_in (map interval_of c.in-Some.rest.now)) keys mid new
    (rest_all c.in-Some.first.now c.in-Some.rest.now c.args.keys.now c.in-Some.ensures.cases.0)
    c.touch_all.ensures.touches)

pub returns-in_ok-touch_keys-in-Some-clause-held : goal.returns-in_ok-touch_keys-in-Some-clause-held
returns-in_ok-touch_keys-in-Some-clause-held g t c =
    let mid = g.P.Pool.state c.touch_keys.new.pool in
    let new = g.P.Pool.state c.touch_all.new.pool in
    on_ok_weaker c.touch_all.result
    (held_both mid new c.in-Some.first.now c.in-Some.rest.now c.args.keys.now c.in-Some.ensures.cases.0
    c.touch_all.ensures.touches.goes c.in_ok-touch_keys-in-Some.ensures.held)
    c.touch_all.ensures.held

pub returns-in_ok-touch_keys-in-Some-clause-err : goal.returns-in_ok-touch_keys-in-Some-clause-err
returns-in_ok-touch_keys-in-Some-clause-err g t c =
    let old = g.P.Pool.state c.args.pool.now in
    let mid = g.P.Pool.state c.touch_keys.new.pool in
    let new = g.P.Pool.state c.touch_all.new.pool in
    let keys = is_in (map interval_of c.args.keys.now) in
    IfErr-weaker c.touch_all.result (λ e. StopsFor (is_in (map interval_of c.in-Some.rest.now)) mid e new)
    (λ e. StopsFor keys old e new)
    (λ e s. stops_wider (is_in (map interval_of c.in-Some.rest.now)) keys old mid new e
    (rest_all c.in-Some.first.now c.in-Some.rest.now c.args.keys.now c.in-Some.ensures.cases.0)
    c.in_ok-touch_keys-in-Some.ensures.touches.goes s) c.touch_all.ensures.err
