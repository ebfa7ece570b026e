use Rattle.std.proofs.Common.{◌≡◌, ◌+◌, ◌∷◌, [], ◌||◌, ◌<◌, ◌≤◌, ℕ, inr, Bool, List, ap, map, subst, ◌∙◌}
use Rattle.std.specs.Prelude.{MatchOption}
use Rattle.r4_base.specs.Key.{least, top}
use Rattle.r4_bodies.specs.Told.{intervals_of}
use Rattle.r4_content.specs.Edited.{changed, is_in}
use Rattle.r4_content.specs.Held.{edits_of, interval_of}
use Rattle.r4_content.specs.declared.edits.Interval.{Interval}
use Rattle.r4_touching.proofs.r4_gather.Staying.{stays_same}
use Rattle.r4_touching.specs.r4_gather.Finding.{asked_keys}
use Rattle.r4_search.specs.Keeping.{keeping_state}
use Rattle.r4_touching.specs.Touching.{AreHeld}
use Rattle.r4_reaching.specs.Answers.{IsReach, StopsWriting, TouchesExtent}
use Rattle.r4_reaching.proofs.Touched.{handed_match, in_extent, one_stays, planned_still, stays_touching, stops_touching}
use Rattle.r4_reaching.proofs.Touched.{touched}
use Rattle.r4_reaching.proofs.reaching.reach_of_edits.Goals as goal

pub returns-in_err-keys-clause-stays : goal.returns-in_err-keys-clause-stays
returns-in_err-keys-clause-stays g c =
    let k = c.args.pool.now in
    stays_same (g.P.Pool.device k.pool)
    (record { root = c.args.root.now; pool = keeping_state (g.P.Pool.state k.pool) k.all k.met.entries })

pub returns-in_err-touch-clause-stays : goal.returns-in_err-touch-clause-stays
returns-in_err-touch-clause-stays g c =
    let k = c.args.pool.now in
    let m = c.meet_some.new.pool in
    let n = c.touch.new.pool in
    stays_touching (g.P.Pool.device k.pool) (g.P.Pool.device m.pool) (g.P.Pool.device n.pool)
    (keeping_state (g.P.Pool.state k.pool) k.all k.met.entries)
    (keeping_state (g.P.Pool.state m.pool) m.all m.met.entries)
    (keeping_state (g.P.Pool.state n.pool) n.all n.met.entries) c.args.root.now c.meet_some.ensures.stays
    c.touch.ensures.device c.touch.ensures.touches.goes

pub returns-in_err-touch-clause-reach : goal.returns-in_err-touch-clause-reach
returns-in_err-touch-clause-reach g c =
    let root = c.args.root.now in
    let command = c.args.command.now in
    let seen = c.args.seen in
    let asked = map asked_keys c.args.asked.now in
    let edits = c.args.edits.now in
    let read = c.args.read in
    let k = c.args.pool.now in
    let m = c.meet_some.new.pool in
    let n = c.touch.new.pool in
    let p = keeping_state (g.P.Pool.state k.pool) k.all k.met.entries in
    let q = keeping_state (g.P.Pool.state m.pool) m.all m.met.entries in
    let r = keeping_state (g.P.Pool.state n.pool) n.all n.met.entries in
    let keys = c.deref.result.now in
    let (known, planned) = c.requires in
    let first = planned_still p q root (is_in ((least, least + 1) ∷ [])) command seen known asked edits read
    c.meet_some.ensures.touches planned in
    let are : (x : ℕ) → least ≤ x → x < top → is_in (map interval_of keys) x
    ≡ (is_in (intervals_of read) x || is_in (changed (edits_of edits)) x) =
    (λ x low high. ap (λ (xs : List Interval). is_in (map interval_of xs) x) c.deref.ensures.value
    ∙ c.in_ok-keys.ensures x low high) in
    handed_match (λ found. MatchOption found (TouchesExtent r command) (IsReach r root command))
    (StopsWriting r root command) c.from_residual-in_err-touch.result c.in_err-touch.field-0.0
    c.from_residual-in_err-touch.ensures.1
    (inr (inr (stops_touching q root command seen known asked edits read first keys are r c.in_err-touch.field-0.0
    c.in_err-touch.ensures.err)))

pub reach_of_met-requires : goal.reach_of_met-requires
reach_of_met-requires g c =
    let root = c.args.root.now in
    let command = c.args.command.now in
    let seen = c.args.seen in
    let asked = map asked_keys c.args.asked.now in
    let edits = c.args.edits.now in
    let read = c.args.read in
    let k = c.args.pool.now in
    let m = c.meet_some.new.pool in
    let n = c.touch.new.pool in
    let p = keeping_state (g.P.Pool.state k.pool) k.all k.met.entries in
    let q = keeping_state (g.P.Pool.state m.pool) m.all m.met.entries in
    let r = keeping_state (g.P.Pool.state n.pool) n.all n.met.entries in
    let keys = c.deref.result.now in
    let (known, planned) = c.requires in
    let first = planned_still p q root (is_in ((least, least + 1) ∷ [])) command seen known asked edits read
    c.meet_some.ensures.touches planned in
    let are : (x : ℕ) → least ≤ x → x < top → is_in (map interval_of keys) x
    ≡ (is_in (intervals_of read) x || is_in (changed (edits_of edits)) x) =
    (λ x low high. ap (λ (xs : List Interval). is_in (map interval_of xs) x) c.deref.ensures.value
    ∙ c.in_ok-keys.ensures x low high) in
    let then = planned_still q r root (is_in (map interval_of keys)) command seen known asked edits read
    c.touch.ensures.touches first in (
      command,
      known,
      touched r root command seen known asked edits read then keys are
          (subst (λ (b : Bool). AreHeld r (is_in (map interval_of keys)) b) c.if-branch.true c.in_ok-touch.ensures.held)
          (one_stays q r c.touch.ensures.touches.goes c.in_ok-meet_some.ensures.some),
    )

pub returns-then-branch-clause-reach : goal.returns-then-branch-clause-reach
returns-then-branch-clause-reach g c =
    let root = c.args.root.now in
    let command = c.args.command.now in
    let seen = c.args.seen in
    let asked = map asked_keys c.args.asked.now in
    let edits = c.args.edits.now in
    let read = c.args.read in
    let k = c.args.pool.now in
    let m = c.meet_some.new.pool in
    let n = c.touch.new.pool in
    let p = keeping_state (g.P.Pool.state k.pool) k.all k.met.entries in
    let q = keeping_state (g.P.Pool.state m.pool) m.all m.met.entries in
    let r = keeping_state (g.P.Pool.state n.pool) n.all n.met.entries in
    let keys = c.deref.result.now in
    let (known, planned) = c.requires in
    let first = planned_still p q root (is_in ((least, least + 1) ∷ [])) command seen known asked edits read
    c.meet_some.ensures.touches planned in
    let are : (x : ℕ) → least ≤ x → x < top → is_in (map interval_of keys) x
    ≡ (is_in (intervals_of read) x || is_in (changed (edits_of edits)) x) =
    (λ x low high. ap (λ (xs : List Interval). is_in (map interval_of xs) x) c.deref.ensures.value
    ∙ c.in_ok-keys.ensures x low high) in
    let then = planned_still q r root (is_in (map interval_of keys)) command seen known asked edits read
    c.touch.ensures.touches first in
    c.in_ok-reach.ensures.ok command known
    (touched r root command seen known asked edits read then keys are
    (subst (λ (b : Bool). AreHeld r (is_in (map interval_of keys)) b) c.if-branch.true c.in_ok-touch.ensures.held)
    (one_stays q r c.touch.ensures.touches.goes c.in_ok-meet_some.ensures.some))

pub returns-in_err-reach-clause-stays : goal.returns-in_err-reach-clause-stays
returns-in_err-reach-clause-stays g c =
    let k = c.args.pool.now in
    let m = c.meet_some.new.pool in
    let n = c.touch.new.pool in
    stays_touching (g.P.Pool.device k.pool) (g.P.Pool.device m.pool) (g.P.Pool.device n.pool)
    (keeping_state (g.P.Pool.state k.pool) k.all k.met.entries)
    (keeping_state (g.P.Pool.state m.pool) m.all m.met.entries)
    (keeping_state (g.P.Pool.state n.pool) n.all n.met.entries) c.args.root.now c.meet_some.ensures.stays
    c.touch.ensures.device c.touch.ensures.touches.goes

pub returns-then-branch-clause-stays : goal.returns-then-branch-clause-stays
returns-then-branch-clause-stays g c =
    let k = c.args.pool.now in
    let m = c.meet_some.new.pool in
    let n = c.touch.new.pool in
    stays_touching (g.P.Pool.device k.pool) (g.P.Pool.device m.pool) (g.P.Pool.device n.pool)
    (keeping_state (g.P.Pool.state k.pool) k.all k.met.entries)
    (keeping_state (g.P.Pool.state m.pool) m.all m.met.entries)
    (keeping_state (g.P.Pool.state n.pool) n.all n.met.entries) c.args.root.now c.meet_some.ensures.stays
    c.touch.ensures.device c.touch.ensures.touches.goes

pub returns-clause-stays : goal.returns-clause-stays
returns-clause-stays g c =
    let k = c.args.pool.now in
    let m = c.meet_some.new.pool in
    let n = c.touch.new.pool in
    stays_touching (g.P.Pool.device k.pool) (g.P.Pool.device m.pool) (g.P.Pool.device n.pool)
    (keeping_state (g.P.Pool.state k.pool) k.all k.met.entries)
    (keeping_state (g.P.Pool.state m.pool) m.all m.met.entries)
    (keeping_state (g.P.Pool.state n.pool) n.all n.met.entries) c.args.root.now c.meet_some.ensures.stays
    c.touch.ensures.device c.touch.ensures.touches.goes

pub returns-clause-reach : goal.returns-clause-reach
returns-clause-reach g c =
    let root = c.args.root.now in
    let command = c.args.command.now in
    let seen = c.args.seen in
    let asked = map asked_keys c.args.asked.now in
    let edits = c.args.edits.now in
    let read = c.args.read in
    let k = c.args.pool.now in
    let m = c.meet_some.new.pool in
    let n = c.touch.new.pool in
    let p = keeping_state (g.P.Pool.state k.pool) k.all k.met.entries in
    let q = keeping_state (g.P.Pool.state m.pool) m.all m.met.entries in
    let r = keeping_state (g.P.Pool.state n.pool) n.all n.met.entries in
    let keys = c.deref.result.now in
    let (known, planned) = c.requires in
    let first = planned_still p q root (is_in ((least, least + 1) ∷ [])) command seen known asked edits read
    c.meet_some.ensures.touches planned in
    let are : (x : ℕ) → least ≤ x → x < top → is_in (map interval_of keys) x
    ≡ (is_in (intervals_of read) x || is_in (changed (edits_of edits)) x) =
    (λ x low high. ap (λ (xs : List Interval). is_in (map interval_of xs) x) c.deref.ensures.value
    ∙ c.in_ok-keys.ensures x low high) in
    let then = planned_still q r root (is_in (map interval_of keys)) command seen known asked edits read
    c.touch.ensures.touches first in
    in_extent r root command seen known asked edits read then keys are
    (subst (λ (b : Bool). AreHeld r (is_in (map interval_of keys)) b) c.if-branch.false c.in_ok-touch.ensures.held)
