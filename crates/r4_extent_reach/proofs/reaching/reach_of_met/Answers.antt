use Rattle.std.proofs.Common.{◌≡◌, ◌||◌, ◌<◌, ◌≤◌, ℕ, Bool, List, ap, map, subst, ◌∙◌}
use Rattle.std.specs.Arc.{arc_value}
use Rattle.r4_base.specs.Key.{least, top}
use Rattle.r4_extent_asks.specs.r4_bodies.Told.{intervals_of}
use Rattle.r4_extent_commands.specs.r4_cell.Patch.{by_name, root_of_pair}
use Rattle.r4_extent_commands.specs.r4_cell.Seen.{CellSeen}
use Rattle.r4_content.specs.Edited.{Intervals, is_in}
use Rattle.r4_content.specs.Held.{edits_of, interval_of}
use Rattle.r4_content.specs.declared.edits.Interval.{Interval}
use Rattle.r4_extent_reaching.proofs.Assembled.{is_reach}
use Rattle.r4_extent_reaching.specs.r4_touching.r4_gather.Finding.{asked_keys}
use Rattle.r4_extent_asks.specs.r4_marking.Marks.{AreMarksOf}
use Rattle.r4_extent_reaching.specs.r4_touching.r4_reach.Leaves.{more_in}
use Rattle.r4_extent_reaching.specs.r4_touching.r4_reach.Needs.{Ask, demand_of}
use Rattle.r4_extent_reaching.specs.r4_touching.r4_reach.Demand.{Demand}
use Rattle.r4_extent_asks.specs.r4_search.Keeping.{keeping_state}
use Rattle.r4_extent_reach.proofs.Planned.{are_read, is_touched, planned_of}
use Rattle.r4_extent_reach.proofs.reaching.reach_of_met.Goals as goal

pub returns-clause-ok : goal.returns-clause-ok
returns-clause-ok g c = λ command held metfor.
    let k = c.args.pool.now in
    let p = keeping_state (g.P.Pool.state k.pool) k.all k.met.entries in
    let root = c.args.root.now in
    let e = c.args.known.now.edits in
    let b = c.args.known.now.body in
    let changes = map interval_of c.args.changes.now in
    let questions = map asked_keys c.args.asked.now in
    let met = map (λ x. arc_value x) c.in_ok-met.met.items in
    let m = c.in_ok-marks.marks in
    let d = c.new-demands.result in
    let rs = d.reads in
    let same_met = ap (map (λ x. arc_value x)) c.deref-2.ensures.value in
    let body_is : d.body ≡ b = c.new-demands.ensures.body ∙ c.as_ref.ensures.value in
    let reads : (x : ℕ) → least ≤ x → x < top
    → is_in rs x ≡ (is_in questions x || is_in (intervals_of c.args.known.now.read) x) =
    (λ x low high. ap (λ (qs : Intervals). is_in qs x) c.new-demands.ensures.reads
    ∙ (ap (λ (xs : List Interval). is_in (map interval_of xs) x) c.deref.ensures.value
    ∙ (c.in_ok-add_read.ensures x low high
    ∙ ap (λ (t : Bool). t || is_in (intervals_of c.args.known.now.read) x) (c.in_ok-reads.ensures x low high)))) in
    let same : demand_of d.body (edits_of d.edits) d.reads d.changes ≡ demand_of b (edits_of e) rs changes =
    (λ i. demand_of (body_is i) (edits_of (c.new-demands.ensures.edits i)) rs (c.new-demands.ensures.changes i)) in
    let marked = subst (λ (f : Demand Ask). AreMarksOf f met (root_of_pair root) m) same
    (subst (λ (xs : List CellSeen). AreMarksOf (demand_of d.body (edits_of d.edits) d.reads d.changes) xs
    (root_of_pair root) m) same_met c.in_ok-marks.ensures.marks) in
    let more = c.in_ok-marks.ensures.more
    ∙ (λ i. more_in (same i) (by_name (same_met i)) (map (λ x. arc_value x) m.writes.items)) in
    is_reach p root command c.args.seen held questions (planned_of e b changes)
    (is_touched p root command c.args.seen held questions e b changes metfor met c.in_ok-met.ensures) met
    c.in_ok-met.ensures rs (are_read rs questions (intervals_of c.args.known.now.read) b c.requires.read reads)
    m marked more c.in_ok-reach_from.field-0 c.in_ok-reach_from.ensures
