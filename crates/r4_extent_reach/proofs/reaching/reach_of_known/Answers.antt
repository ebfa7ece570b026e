use Rattle.std.proofs.Common.{List, ap, map, subst, sym, ◌∙◌}
use Rattle.std.specs.Prelude.{Option}
use Rattle.r4_content.specs.Edited.{changed, is_in}
use Rattle.r4_content.specs.Held.{edits_of, interval_of}
use Rattle.r4_content.specs.declared.edits.Interval.{Interval}
use Rattle.r4_extent_asks.specs.r4_extent_demands.Sizes.{AreExtentEdits}
use Rattle.r4_extent_reaching.specs.Answers.{IsReach, StopsWriting}
use Rattle.r4_extent_reaching.specs.r4_touching.r4_gather.Finding.{asked_keys}
use Rattle.r4_extent_reaching.specs.r4_touching.r4_reach.Touched.{Body, raw_changes}
use Rattle.r4_extent_reaching.proofs.r4_reaching.Touched.{handed_match}
use Rattle.r4_extent_asks.specs.r4_search.Keeping.{keeping_state}
use Rattle.r4_extent_reach.specs.Known.{AreChanges}
use Rattle.r4_extent_reach.specs.Meeting.{HasMet}
use Rattle.r4_extent_reach.proofs.Going.{body_still, on_same, seen_meets}
use Rattle.r4_extent_reach.proofs.Stops.{judging_stops, meeting_stops}
use Rattle.r4_extent_reach.proofs.reaching.reach_of_known.Goals as goal

pub changes_of-requires : goal.changes_of-requires
changes_of-requires g c =
    let (held, has) = c.requires.body in
    subst (λ (o : Option Body). AreExtentEdits o (edits_of c.args.known.now.edits)) (sym c.as_ref.ensures.value) has.asks

pub returns-in_err-changes-clause-on : goal.returns-in_err-changes-clause-on
returns-in_err-changes-clause-on g c =
    let k = c.args.pool.now in
    on_same (g.P.Pool.device k.pool) c.args.root.now (keeping_state (g.P.Pool.state k.pool) k.all k.met.entries)

pub meet_all-requires-clause-meet : goal.meet_all-requires-clause-meet
meet_all-requires-clause-meet g c =
    let k = c.args.pool.now in
    let (held, has) = c.requires.body in
    seen_meets (keeping_state (g.P.Pool.state k.pool) k.all k.met.entries) c.args.root.now c.args.command.now c.args.seen
    held (map asked_keys c.args.asked.now) has.all_seen

pub meet_all-requires-clause-edits : goal.meet_all-requires-clause-edits
meet_all-requires-clause-edits g c = let (held, has) = c.requires.body in has.asks

pub returns-in_err-meet_all-clause-reach : goal.returns-in_err-meet_all-clause-reach
returns-in_err-meet_all-clause-reach g c =
    let k = c.args.pool.now in
    let m = c.meet_all.new.pool in
    let p = keeping_state (g.P.Pool.state k.pool) k.all k.met.entries in
    let q = keeping_state (g.P.Pool.state m.pool) m.all m.met.entries in
    let root = c.args.root.now in
    let command = c.args.command.now in
    let e = c.args.known.now.edits in
    let b = c.args.known.now.body in
    let changes = map interval_of c.as_slice.result.now in
    let (held, has) = c.requires.body in
    let are : AreChanges b e changes =
    (λ x high. ap (λ (xs : List Interval). is_in (map interval_of xs) x) c.as_slice.ensures.value
    ∙ (c.in_ok-changes.ensures x high
    ∙ ap (λ (o : Option Body). is_in (raw_changes o (changed (edits_of e))) x) c.as_ref.ensures.value)) in
    handed_match (IsReach q root command) (StopsWriting q root command) c.from_residual-in_err-meet_all.result
    c.in_err-meet_all.field-0.0 c.from_residual-in_err-meet_all.ensures.1
    (meeting_stops p q root command c.args.seen held (map asked_keys c.args.asked.now) e b has changes are
    c.in_err-meet_all.field-0.0 c.in_err-meet_all.ensures.err)

pub reach_of_met-requires-clause-met : goal.reach_of_met-requires-clause-met
reach_of_met-requires-clause-met g c =
    let k = c.args.pool.now in
    let m = c.meet_all.new.pool in
    let p = keeping_state (g.P.Pool.state k.pool) k.all k.met.entries in
    let q = keeping_state (g.P.Pool.state m.pool) m.all m.met.entries in
    let root = c.args.root.now in
    let command = c.args.command.now in
    let e = c.args.known.now.edits in
    let b = c.args.known.now.body in
    let changes = map interval_of c.as_slice-2.result.now in
    let questions = map asked_keys c.args.asked.now in
    let (held, has) = c.requires.body in
    let are : AreChanges b e changes =
    (λ x high. ap (λ (xs : List Interval). is_in (map interval_of xs) x) c.as_slice-2.ensures.value
    ∙ (c.in_ok-changes.ensures x high
    ∙ ap (λ (o : Option Body). is_in (raw_changes o (changed (edits_of e))) x) c.as_ref.ensures.value)) in
    let there = body_still (g.P.Pool.device k.pool) (g.P.Pool.device m.pool) root p q c.in_ok-meet_all.ensures.on command
    c.args.seen held questions e b has in
    let same = c.as_slice.ensures.value ∙ sym c.as_slice-2.ensures.value in (
      command,
      held,
      record {
        has = there;
        are = are;
        met = subst (λ (xs : List Interval). HasMet b (edits_of e) (map interval_of xs) q) same c.in_ok-meet_all.ensures.met;
      },
    )

pub returns-in_err-reach-clause-reach : goal.returns-in_err-reach-clause-reach
returns-in_err-reach-clause-reach g c =
    let m = c.meet_all.new.pool in
    let q = keeping_state (g.P.Pool.state m.pool) m.all m.met.entries in
    let root = c.args.root.now in
    let command = c.args.command.now in
    handed_match (IsReach q root command) (StopsWriting q root command) c.from_residual-in_err-reach.result
    c.in_err-reach.field-0.0 c.from_residual-in_err-reach.ensures.1
    (judging_stops q root command c.in_err-reach.field-0.0 c.in_err-reach.ensures.err)

pub returns-clause-reach : goal.returns-clause-reach
returns-clause-reach g c =
    let k = c.args.pool.now in
    let m = c.meet_all.new.pool in
    let p = keeping_state (g.P.Pool.state k.pool) k.all k.met.entries in
    let q = keeping_state (g.P.Pool.state m.pool) m.all m.met.entries in
    let root = c.args.root.now in
    let command = c.args.command.now in
    let e = c.args.known.now.edits in
    let b = c.args.known.now.body in
    let questions = map asked_keys c.args.asked.now in
    let (held, has) = c.requires.body in
    let are : AreChanges b e (map interval_of c.as_slice-2.result.now) =
    (λ x high. ap (λ (xs : List Interval). is_in (map interval_of xs) x) c.as_slice-2.ensures.value
    ∙ (c.in_ok-changes.ensures x high
    ∙ ap (λ (o : Option Body). is_in (raw_changes o (changed (edits_of e))) x) c.as_ref.ensures.value)) in
    let there = body_still (g.P.Pool.device k.pool) (g.P.Pool.device m.pool) root p q c.in_ok-meet_all.ensures.on command
    c.args.seen held questions e b has in
    let same = c.as_slice.ensures.value ∙ sym c.as_slice-2.ensures.value in
    c.in_ok-reach.ensures.ok command held (record {
      has = there;
      are = are;
      met = subst (λ (xs : List Interval). HasMet b (edits_of e) (map interval_of xs) q) same c.in_ok-meet_all.ensures.met;
    })
