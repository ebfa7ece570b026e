use Rattle.std.proofs.Common.{List, ap, inl, map, refl, subst}
use Rattle.std.specs.Prelude.{MatchBool}
use Rattle.std.specs.List.{flat_map}
use Rattle.r4_content.specs.Held.{pairs_of, part_pairs}
use Rattle.r4_content.specs.declared.seen.SeenPart.{SeenPart}
use Rattle.r4_reaching.specs.Answers.{HaveObjectNumbers, SeesLowObject}
use Rattle.r4_reaching.proofs.Numbers.{good_numbers, low_object, stops_at_object}
use Rattle.r4_reaching.proofs.Touched.{seen_in}
use Rattle.r4_touching.proofs.r4_gather.Staying.{stays_same}
use Rattle.r4_touching.specs.r4_gather.Finding.{asked_keys}
use Rattle.r4_search.specs.Keeping.{keeping_state}
use Rattle.r4_reaching.proofs.Planned.{holds, holds_not, is_planned, spreads, suits}
use Rattle.r4_reaching.proofs.reaching.reach_of_seen.Goals as goal

pub returns-in_err-edits-clause-stays : goal.returns-in_err-edits-clause-stays
returns-in_err-edits-clause-stays g c =
    let k = c.args.pool.now in
    stays_same (g.P.Pool.device k.pool)
    (record { root = c.args.root.now; pool = keeping_state (g.P.Pool.state k.pool) k.all k.met.entries })

pub returns-then-sees_low_object-clause-stays : goal.returns-then-sees_low_object-clause-stays
returns-then-sees_low_object-clause-stays g c =
    let k = c.args.pool.now in
    stays_same (g.P.Pool.device k.pool)
    (record { root = c.args.root.now; pool = keeping_state (g.P.Pool.state k.pool) k.all k.met.entries })

pub returns-then-sees_low_object-clause-reach : goal.returns-then-sees_low_object-clause-reach
returns-then-sees_low_object-clause-reach g c =
    let k = c.args.pool.now in
    let p = keeping_state (g.P.Pool.state k.pool) k.all k.met.entries in
    let (known, all_seen) = c.requires.seen in
    let low = low_object c.sees_low_object.result (pairs_of c.args.seen) c.if-sees_low_object.true
    (subst (λ (l : List SeenPart). MatchBool c.sees_low_object.result (SeesLowObject (flat_map part_pairs l))
    (HaveObjectNumbers (flat_map part_pairs l))) c.as_slice.ensures.value c.sees_low_object.ensures) in
    inl (stops_at_object p c.args.root.now c.args.command.now (pairs_of c.args.seen) _
    (seen_in p c.args.root.now c.args.command.now c.args.seen known (map asked_keys c.args.asked.now) all_seen)
    low refl)

pub told_by_body-told-requires-clause-suits : goal.told_by_body-told-requires-clause-suits
told_by_body-told-requires-clause-suits g c =
    let k = c.args.pool.now in
    let root = c.args.root.now in
    let command = c.args.command.now in
    let asked = map asked_keys c.args.asked.now in
    let (known, all_seen) = c.requires.seen in
    let is = ap (λ x. x.edits) c.in_ok-edits.ensures.ending in
    suits (g.P.Pool.state k.pool) k.all k.met.entries k.sound root command c.args.seen known asked all_seen
    c.requires.paths c.in_ok-edits.edits is

pub returns-then-not-told-clause-stays : goal.returns-then-not-told-clause-stays
returns-then-not-told-clause-stays g c =
    let k = c.args.pool.now in
    stays_same (g.P.Pool.device k.pool)
    (record { root = c.args.root.now; pool = keeping_state (g.P.Pool.state k.pool) k.all k.met.entries })

pub returns-then-not-told-clause-reach : goal.returns-then-not-told-clause-reach
returns-then-not-told-clause-reach g c =
    let k = c.args.pool.now in
    let root = c.args.root.now in
    let command = c.args.command.now in
    let asked = map asked_keys c.args.asked.now in
    let (known, all_seen) = c.requires.seen in
    let is = ap (λ x. x.edits) c.in_ok-edits.ensures.ending in
    spreads (g.P.Pool.state k.pool) k.all k.met.entries k.sound root command c.args.seen known asked all_seen
    c.requires.paths c.in_ok-edits.edits is
    (λ leaves. holds_not c.told_by_body-told.result.in_leaves c.if-not-told.true
    ((c.told_by_body-told.ensures.leaves command is).1 leaves))

pub reach_of_edits-requires : goal.reach_of_edits-requires
reach_of_edits-requires g c =
    let k = c.args.pool.now in
    let root = c.args.root.now in
    let command = c.args.command.now in
    let asked = map asked_keys c.args.asked.now in
    let (known, all_seen) = c.requires.seen in
    let is = ap (λ x. x.edits) c.in_ok-edits.ensures.ending in
    let inside = holds c.told_by_body-told.result.in_leaves c.if-not-told.false in
    let told = c.told_by_body-told.ensures in
    let numbers = good_numbers c.sees_low_object.result (pairs_of c.args.seen) c.if-sees_low_object.false
    (subst (λ (l : List SeenPart). MatchBool c.sees_low_object.result (SeesLowObject (flat_map part_pairs l))
    (HaveObjectNumbers (flat_map part_pairs l))) c.as_slice.ensures.value c.sees_low_object.ensures) in (
      known,
      is_planned (g.P.Pool.state k.pool) k.all k.met.entries k.sound root command c.args.seen known asked all_seen
          c.requires.paths c.in_ok-edits.edits is c.commands_change_lawful_keys.ensures numbers
          c.told_by_body-told.result.read ((told.leaves command is).0 inside)
          (told.reads command is) (told.changes command is inside) (λ t. told.kind command t is),
    )
