use Rattle.std.proofs.Common.{List, ap, map, subst}
use Rattle.std.specs.Prelude.{MatchBool}
use Rattle.std.specs.List.{flat_map}
use Rattle.r4_content.specs.Held.{pairs_of, part_pairs}
use Rattle.r4_content.specs.declared.seen.SeenPart.{SeenPart}
use Rattle.r4_extent_reaching.proofs.r4_touching.r4_gather.Staying.{stays_same}
use Rattle.r4_extent_reaching.specs.r4_touching.r4_gather.Finding.{asked_keys}
use Rattle.r4_extent_reaching.specs.r4_reaching.Answers.{HaveObjectNumbers, SeesLowObject}
use Rattle.r4_extent_asks.specs.r4_search.Keeping.{keeping_state}
use Rattle.r4_extent_reach.proofs.Going.{on_stays}
use Rattle.r4_extent_reach.proofs.Numbers.{good_numbers, low_object}
use Rattle.r4_extent_reach.proofs.Planned.{has_edits, low_stops}
use Rattle.r4_extent_reach.proofs.reaching.reach_of_seen.Goals as goal

pub returns-then-sees_low_object-clause-stays : goal.returns-then-sees_low_object-clause-stays
returns-then-sees_low_object-clause-stays g c =
    let k = c.args.pool.now in
    stays_same (g.P.Pool.device k.pool)
    (record { root = c.args.root.now; pool = keeping_state (g.P.Pool.state k.pool) k.all k.met.entries })

pub returns-then-sees_low_object-clause-reach : goal.returns-then-sees_low_object-clause-reach
returns-then-sees_low_object-clause-reach g c =
    let k = c.args.pool.now in
    let (known, all_seen) = c.requires.seen in
    let low = low_object c.sees_low_object.result (pairs_of c.args.seen) c.if-sees_low_object.true
    (subst (λ (l : List SeenPart). MatchBool c.sees_low_object.result (SeesLowObject (flat_map part_pairs l))
    (HaveObjectNumbers (flat_map part_pairs l))) c.as_slice.ensures.value c.sees_low_object.ensures) in
    low_stops (g.P.Pool.state k.pool) k.all k.met.entries k.sound c.args.root.now c.args.command.now c.args.seen known
    (map asked_keys c.args.asked.now) all_seen c.requires.paths low c.no_volume.result c.no_volume.ensures

pub returns-in_err-edits-clause-stays : goal.returns-in_err-edits-clause-stays
returns-in_err-edits-clause-stays g c =
    let k = c.args.pool.now in
    stays_same (g.P.Pool.device k.pool)
    (record { root = c.args.root.now; pool = keeping_state (g.P.Pool.state k.pool) k.all k.met.entries })

pub reach_of_edits-requires : goal.reach_of_edits-requires
reach_of_edits-requires g c =
    let k = c.args.pool.now in
    let (known, all_seen) = c.requires.seen in
    let is = ap (λ x. x.edits) c.in_ok-edits.ensures.ending in
    let numbers = good_numbers c.sees_low_object.result (pairs_of c.args.seen) c.if-sees_low_object.false
    (subst (λ (l : List SeenPart). MatchBool c.sees_low_object.result (SeesLowObject (flat_map part_pairs l))
    (HaveObjectNumbers (flat_map part_pairs l))) c.as_slice.ensures.value c.sees_low_object.ensures) in (
      known,
      has_edits (g.P.Pool.state k.pool) k.all k.met.entries k.sound c.args.root.now c.args.command.now c.args.seen known
          (map asked_keys c.args.asked.now) all_seen c.requires.paths c.commands_change_lawful_keys.ensures numbers
          c.in_ok-edits.edits is,
    )

pub returns-clause-stays : goal.returns-clause-stays
returns-clause-stays g c =
    let k = c.args.pool.now in
    let n = c.reach_of_edits.new.pool in
    on_stays (g.P.Pool.device k.pool) (g.P.Pool.device n.pool) c.args.root.now
    (keeping_state (g.P.Pool.state k.pool) k.all k.met.entries)
    (keeping_state (g.P.Pool.state n.pool) n.all n.met.entries) c.reach_of_edits.ensures.on
