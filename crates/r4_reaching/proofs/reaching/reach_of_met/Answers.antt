use Rattle.std.proofs.Common.{◌≡◌, ◌||◌, ◌<◌, ◌≤◌, ℕ, Bool, List, ap, map, subst, ◌∙◌}
use Rattle.std.specs.Arc.{arc_value}
use Rattle.r4_base.specs.Key.{least, top}
use Rattle.r4_bodies.specs.Told.{intervals_of}
use Rattle.r4_cell.specs.Patch.{by_name, root_of_pair}
use Rattle.r4_cell.specs.Seen.{CellSeen}
use Rattle.r4_content.specs.Edited.{Intervals, is_in}
use Rattle.r4_content.specs.Held.{edits_of, interval_of}
use Rattle.r4_content.specs.declared.edits.Edits.{Edits as HeldEdits}
use Rattle.r4_content.specs.declared.edits.Interval.{Interval}
use Rattle.r4_touching.specs.r4_gather.Finding.{asked_keys}
use Rattle.r4_bodies.specs.r4_leaf_demands.Leaves.{leaf_demand}
use Rattle.r4_judging.specs.r4_marking.Marks.{AreMarksOf}
use Rattle.r4_touching.specs.r4_reach.Leaves.{more_in}
use Rattle.r4_search.specs.Keeping.{keeping_state}
use Rattle.r4_reaching.proofs.Answering.{is_reach}
use Rattle.r4_reaching.proofs.reaching.reach_of_met.Goals as goal

pub returns-clause-ok : goal.returns-clause-ok
returns-clause-ok g c = λ command known touched.
    let k = c.args.pool.now in
    let met = map (λ x. arc_value x) c.in_ok-met.met.items in
    let m = c.in_ok-marks.marks in
    let held = c.new.result.reads in
    let same_met = ap (map (λ x. arc_value x)) c.deref-2.ensures.value in
    let reads : (x : ℕ) → least ≤ x → x < top
    → is_in held x ≡ (is_in (map asked_keys c.args.asked.now) x || is_in (intervals_of c.args.read) x) =
    (λ x low high. ap (λ (rs : Intervals). is_in rs x) c.new.ensures.reads
    ∙ (ap (λ (xs : List Interval). is_in (map interval_of xs) x) c.deref.ensures.value
    ∙ (c.in_ok-add_read.ensures x low high
    ∙ ap (λ (b : Bool). b || is_in (intervals_of c.args.read) x) (c.in_ok-reads.ensures x low high)))) in
    let marked = subst (λ (e : HeldEdits). AreMarksOf (leaf_demand (edits_of e) held) met
    (root_of_pair c.args.root.now) m) c.new.ensures.edits
    (subst (λ (xs : List CellSeen). AreMarksOf (leaf_demand (edits_of c.new.result.edits) held) xs
    (root_of_pair c.args.root.now) m) same_met c.in_ok-marks.ensures.marks) in
    let more = c.in_ok-marks.ensures.more
    ∙ (λ i. more_in (leaf_demand (edits_of (c.new.ensures.edits i)) held) (by_name (same_met i))
    (map (λ x. arc_value x) m.writes.items)) in
    is_reach (keeping_state (g.P.Pool.state k.pool) k.all k.met.entries) c.args.root.now command
    c.args.seen known (map asked_keys c.args.asked.now) c.args.edits.now c.args.read touched met c.in_ok-met.ensures
    held reads m marked more c.in_ok-reach_from.field-0 c.in_ok-reach_from.ensures
