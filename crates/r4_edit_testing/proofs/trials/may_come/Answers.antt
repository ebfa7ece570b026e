use Rattle.std.proofs.Common.{◌⊎◌, ℕ, ◌≤◌, ◌<◌, ap, subst, arith, rules}
use Rattle.std.specs.Prelude.{Contains}
use Rattle.std.proofs.lemmas.Result.{IfOk-weaker}
use Rattle.std.specs.Arc.{arc_value}
use Rattle.r4_base.specs.Key.{least, rank}
use Rattle.r4_base.specs.Value.{Value}
use Rattle.r4_cell.specs.Seen.{CellSeen, node_of}
use Rattle.r4_edit_testing.proofs.Trying.{first_level, first_of, may_take}
use Rattle.r4_edit_testing.proofs.trials.may_come.Goals as goal

pub stands_alone-requires-clause-top : goal.stands_alone-requires-clause-top
stands_alone-requires-clause-top c =
    let (rest, e) = first_of arc_value c.args.leaves.now c.index-leaves-0.result c.requires.some c.index-leaves-0.is in
    let f = first_level _ (arc_value c.index-leaves-0.result) rest e c.requires in
    let within : rank c.args.end.now ≤ rank c.hi.result = search rules in
    let same = ap rank c.hi.ensures in
    let seen = ap (λ (x : CellSeen). rank x.hi) c.deref.ensures in
    let high = f.2 in
    omega (arith, within, same, seen, high)

pub returns : goal.returns
returns c =
    let (rest, e) = first_of arc_value c.args.leaves.now c.index-leaves-0.result c.requires.some c.index-leaves-0.is in
    let from : least ≤ rank c.args.key.now = search rules in
    let within : rank c.args.end.now ≤ rank c.hi.result = search rules in
    let same = ap rank c.hi.ensures in
    let seen = ap (λ (x : CellSeen). rank x.hi) c.deref.ensures in
    IfOk-weaker c.is_clear.result _ _ (λ b clear true-is.
    may_take _ (arc_value c.index-leaves-0.result) rest
    (record { key = c.args.key.now; plugin = c.args.plugin; body = c.args.body.now }) (rank c.args.end.now) e c.requires from
    (c.in_ok-stands_alone.ensures c.if-not-branch.false)
    (omega (arith, within, same, seen))
    (subst (λ (x : CellSeen). (k : ℕ) (v : Value) → Contains (node_of x).units (k, v)
    → (k < rank c.args.key.now) ⊎ (rank c.args.end.now ≤ k)) c.deref-2.ensures (clear true-is))) c.is_clear.ensures
