use Rattle.std.proofs.Common.{ap, arith, map, subst, sym, ◌∙◌}
use Rattle.std.specs.Prelude.{Option}
use Rattle.std.specs.Option.{option_copied}
use Rattle.r4_extent_reaching.specs.Answers.{IsReach, StopsWriting}
use Rattle.r4_extent_reaching.specs.Standing.{IsTooLong}
use Rattle.r4_extent_reaching.specs.r4_touching.r4_gather.Finding.{asked_keys}
use Rattle.r4_extent_reaching.specs.r4_touching.r4_reach.Touched.{Body, kind_reads}
use Rattle.r4_extent_reaching.proofs.r4_reaching.Touched.{handed_match}
use Rattle.r4_extent_asks.specs.r4_search.Keeping.{keeping_state}
use Rattle.r4_extent_reaching.specs.r4_touching.Touching.{StopsFor}
use Rattle.r4_extent_reach.specs.Standing.{IsStood, MayBeShown, shown_keys}
use Rattle.r4_extent_reach.proofs.Going.{on_both, on_same, on_touch, seen_on}
use Rattle.r4_extent_reach.proofs.Planned.{has_body, long_stops, may_show}
use Rattle.r4_extent_reach.proofs.Stood.{not_long, same_reads}
use Rattle.r4_extent_reach.proofs.Stops.{standing_stops}
use Rattle.r4_extent_reach.proofs.reaching.reach_of_edits.Goals as goal

pub body_changed-change-requires-clause-rises : goal.body_changed-change-requires-clause-rises
body_changed-change-requires-clause-rises g c = let (held, h) = c.requires in h.all_seen.found.rises

pub body_changed-change-requires-clause-suits : goal.body_changed-change-requires-clause-suits
body_changed-change-requires-clause-suits g c = let (held, h) = c.requires in h.suits

pub returns-then-is_too_long-clause-on : goal.returns-then-is_too_long-clause-on
returns-then-is_too_long-clause-on g c =
    let k = c.args.pool.now in
    on_same (g.P.Pool.device k.pool) c.args.root.now (keeping_state (g.P.Pool.state k.pool) k.all k.met.entries)

pub returns-then-is_too_long-clause-reach : goal.returns-then-is_too_long-clause-reach
returns-then-is_too_long-clause-reach g c =
    let k = c.args.pool.now in
    let (held, h) = c.requires in
    let long = subst IsTooLong c.as_ref.ensures.value (c.is_too_long.ensures.0 c.if-is_too_long.true) in
    long_stops (keeping_state (g.P.Pool.state k.pool) k.all k.met.entries) c.args.root.now c.args.command.now c.args.seen
    held (map asked_keys c.args.asked.now) c.args.edits h c.body_changed-change.result c.body_changed-change.ensures.body
    long c.no_volume.result c.no_volume.ensures

pub standing_body-requires-clause-some : goal.standing_body-requires-clause-some
standing_body-requires-clause-some g c =
    let (held, h) = c.requires in
    let high = h.all_seen.height in
    omega (arith, high)

pub standing_body-requires-clause-known : goal.standing_body-requires-clause-known
standing_body-requires-clause-known g c = let (held, h) = c.requires in h.all_seen.begins

pub standing_body-requires-clause-keeps : goal.standing_body-requires-clause-keeps
standing_body-requires-clause-keeps g c = let (held, h) = c.requires in h.all_seen.keeps

pub standing_body-requires-clause-shown : goal.standing_body-requires-clause-shown
standing_body-requires-clause-shown g c =
    let k = c.args.pool.now in
    let (held, h) = c.requires in
    let change = c.body_changed-change.result in
    let short : IsTooLong change → ⊥ = (λ long. not_long c.is_too_long.result c.if-is_too_long.false
    (c.is_too_long.ensures.1 (subst IsTooLong (sym c.as_ref.ensures.value) long))) in
    subst MayBeShown (sym c.as_ref-2.ensures.value)
    (may_show (keeping_state (g.P.Pool.state k.pool) k.all k.met.entries) c.args.root.now c.args.command.now c.args.seen
    held (map asked_keys c.args.asked.now) c.args.edits h change c.body_changed-change.ensures.body short)

pub returns-in_err-body-clause-on : goal.returns-in_err-body-clause-on
returns-in_err-body-clause-on g c =
    let k = c.args.pool.now in
    let m = c.standing_body.new.pool in
    on_touch (g.P.Pool.device k.pool) (g.P.Pool.device m.pool) c.args.root.now (shown_keys (option_copied c.as_ref-2.result))
    (keeping_state (g.P.Pool.state k.pool) k.all k.met.entries)
    (keeping_state (g.P.Pool.state m.pool) m.all m.met.entries) c.in_err-body.ensures.device c.in_err-body.ensures.touches

pub returns-in_err-body-clause-reach : goal.returns-in_err-body-clause-reach
returns-in_err-body-clause-reach g c =
    let k = c.args.pool.now in
    let m = c.standing_body.new.pool in
    let p = keeping_state (g.P.Pool.state k.pool) k.all k.met.entries in
    let q = keeping_state (g.P.Pool.state m.pool) m.all m.met.entries in
    let root = c.args.root.now in
    let command = c.args.command.now in
    let (held, h) = c.requires in
    handed_match (IsReach q root command) (StopsWriting q root command) c.from_residual.result c.in_err-body.field-0.0
    c.from_residual.ensures.1
    (standing_stops p q root command c.args.seen held (map asked_keys c.args.asked.now) c.args.edits h
    c.body_changed-change.result c.body_changed-change.ensures.body c.in_err-body.field-0.0
    (subst (λ (o : Option Body). StopsFor (shown_keys o) p c.in_err-body.field-0.0 q) c.as_ref-2.ensures.value
    c.in_err-body.ensures.err))

pub reach_of_known-requires-clause-body : goal.reach_of_known-requires-clause-body
reach_of_known-requires-clause-body g c =
    let k = c.args.pool.now in
    let m = c.standing_body.new.pool in
    let p = keeping_state (g.P.Pool.state k.pool) k.all k.met.entries in
    let q = keeping_state (g.P.Pool.state m.pool) m.all m.met.entries in
    let root = c.args.root.now in
    let command = c.args.command.now in
    let questions = map asked_keys c.args.asked.now in
    let (held, h) = c.requires in
    let change = c.body_changed-change.result in
    let short : IsTooLong change → ⊥ = (λ long. not_long c.is_too_long.result c.if-is_too_long.false
    (c.is_too_long.ensures.1 (subst IsTooLong (sym c.as_ref.ensures.value) long))) in
    let on = on_touch (g.P.Pool.device k.pool) (g.P.Pool.device m.pool) root (shown_keys (option_copied c.as_ref-2.result))
    p q c.in_ok-body.ensures.device c.in_ok-body.ensures.touches in
    let seen = seen_on (g.P.Pool.device k.pool) (g.P.Pool.device m.pool) root p q on command c.args.seen held questions
    h.all_seen in
    let at = subst (λ (o : Option Body). IsStood q o c.in_ok-body.body) c.as_ref-2.ensures.value c.in_ok-body.ensures.stood in (
      held,
      has_body p root command c.args.seen held questions c.args.edits h change c.body_changed-change.ensures.body
          short q seen c.in_ok-body.body at,
    )

pub reach_of_known-requires-clause-read : goal.reach_of_known-requires-clause-read
reach_of_known-requires-clause-read g c =
    let k = c.args.pool.now in
    let m = c.standing_body.new.pool in
    let q = keeping_state (g.P.Pool.state m.pool) m.all m.met.entries in
    let read = c.kind_read-read.ensures ∙ ap kind_reads c.as_ref-3.ensures.value in
    let at = subst (λ (o : Option Body). IsStood q o c.in_ok-body.body) c.as_ref-2.ensures.value c.in_ok-body.ensures.stood in
    read ∙ sym (same_reads c.body_changed-change.result q c.in_ok-body.body at)

pub returns-clause-on : goal.returns-clause-on
returns-clause-on g c =
    let k = c.args.pool.now in
    let m = c.standing_body.new.pool in
    let n = c.reach_of_known.new.pool in
    let p = keeping_state (g.P.Pool.state k.pool) k.all k.met.entries in
    let q = keeping_state (g.P.Pool.state m.pool) m.all m.met.entries in
    let r = keeping_state (g.P.Pool.state n.pool) n.all n.met.entries in
    let root = c.args.root.now in
    let on = on_touch (g.P.Pool.device k.pool) (g.P.Pool.device m.pool) root (shown_keys (option_copied c.as_ref-2.result))
    p q c.in_ok-body.ensures.device c.in_ok-body.ensures.touches in
    on_both (g.P.Pool.device k.pool) (g.P.Pool.device m.pool) (g.P.Pool.device n.pool) root p q r on
    c.reach_of_known.ensures.on
