use Rattle.std.proofs.Common.{◌⊎◌, ℕ, ◌≤◌, ◌<◌, ap, subst, arith, rules}
use Rattle.std.specs.Prelude.{Contains}
use Rattle.std.proofs.lemmas.Result.{IfOk-weaker}
use Rattle.std.specs.Arc.{arc_value}
use Rattle.r4_base.specs.Key.{least, rank}
use Rattle.r4_base.specs.Value.{Value}
use Rattle.r4_cell.specs.Seen.{CellSeen, node_of}
use Rattle.r4_edit.specs.Editing.{given_item}
use Rattle.r4_edit_testing.proofs.ShortOver.{first_may_lie}
use Rattle.r4_edit_testing.proofs.Trying.{first_of}
use Rattle.r4_edit_testing.proofs.trials.may_lie.Goals as goal

pub returns : goal.returns
returns c =
    let (rest, e) = first_of arc_value c.args.leaves.now c.index-leaves-0.result c.requires.some c.index-leaves-0.is in
    let from : least ≤ rank c.args.key.now = search rules in
    let within : rank c.in-Some.end ≤ rank c.hi.result = search rules in
    let same = ap rank c.hi.ensures in
    let seen = ap (λ (x : CellSeen). rank x.hi) c.deref.ensures in
    IfOk-weaker c.is_clear.result _ _ (λ b clear true-is.
    first_may_lie _ (arc_value c.index-leaves-0.result) rest (given_item c.args.key.now 5 c.args.body.now)
    (rank c.in-Some.end) e c.requires from (c.are_new_blocks.ensures c.if-not-are_new_blocks.false)
    (c.two_blocks_behind.ensures c.in-Some.end c.in-Some.is)
    (omega (arith, within, same, seen))
    (subst (λ (x : CellSeen). (k : ℕ) (v : Value) → Contains (node_of x).units (k, v)
    → (k < rank c.args.key.now) ⊎ (rank c.in-Some.end ≤ k)) c.deref-2.ensures (clear true-is))) c.is_clear.ensures
