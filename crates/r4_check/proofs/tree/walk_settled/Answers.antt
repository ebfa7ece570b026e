use Rattle.std.proofs.Common.{ap, refl}
use Rattle.r4_base.specs.Tree.{Name}
use Rattle.r4_check.specs.Looking.{name_of}
use Rattle.r4_check.specs.Walk.{check_of, judged, look, nothing_met}
use Rattle.r4_check.proofs.Answered.{tally_of, walk_printed, walk_stopped}
use Rattle.r4_check.proofs.Judged.{judged_extends}
use Rattle.r4_check.proofs.Steps.{steps_stopped, steps_then}
use Rattle.r4_check.proofs.tree.walk_settled.Goals as goal

pub returns-in_err-look_at_node-clause-walk : goal.returns-in_err-look_at_node-clause-walk
returns-in_err-look_at_node-clause-walk g c image ground =
    let s = c.args.settled.now.found.super40 in
    let blocks = s.block_count in
    walk_stopped {S = Unit {0}} blocks (check_of s image) _ _ _ _ (λ w. judged s (look c.root_of.result.level blocks image w (name_of c.root_of.result))) (ap (λ (n : Name). judged s (look n.level blocks image nothing_met n)) c.root_of.ensures.name)
    (tally_of _ blocks c.in_ok-tally.tally c.blocks-2.ensures c.in_ok-tally.ensures.nothing) _ c.from_residual-in_err-look_at_node.result c.from_residual-in_err-look_at_node.ensures.1
    (steps_stopped blocks _ _ _ _ _ _ (λ w. look c.root_of.result.level blocks image w (name_of c.root_of.result)) _ (λ w. judged_extends s (look c.root_of.result.level blocks image w (name_of c.root_of.result))) (c.in_err-look_at_node.ensures.steps image ground))

pub returns-in_err-tell_objects-clause-walk : goal.returns-in_err-tell_objects-clause-walk
returns-in_err-tell_objects-clause-walk g c image ground =
    let s = c.args.settled.now.found.super40 in
    let blocks = s.block_count in
    walk_stopped {S = Unit {0}} blocks (check_of s image) _ _ _ _ (λ w. judged s (look c.root_of.result.level blocks image w (name_of c.root_of.result))) (ap (λ (n : Name). judged s (look n.level blocks image nothing_met n)) c.root_of.ensures.name)
    (tally_of _ blocks c.in_ok-tally.tally c.blocks-2.ensures c.in_ok-tally.ensures.nothing) _ c.from_residual-in_err-tell_objects.result c.from_residual-in_err-tell_objects.ensures.1
    (steps_then blocks _ _ _ _ _ _ c.in_ok-look_at_node.field-0 _ (λ w. look c.root_of.result.level blocks image w (name_of c.root_of.result)) (judged s) (c.in_ok-look_at_node.ensures.steps image ground) (c.in_err-tell_objects.ensures.steps blocks))

pub returns-clause-walk : goal.returns-clause-walk
returns-clause-walk g c image ground =
    let s = c.args.settled.now.found.super40 in
    let blocks = s.block_count in
    walk_printed blocks (check_of s image) _ _ _ _ (λ w. judged s (look c.root_of.result.level blocks image w (name_of c.root_of.result))) (ap (λ (n : Name). judged s (look n.level blocks image nothing_met n)) c.root_of.ensures.name)
    (tally_of _ blocks c.in_ok-tally.tally c.blocks-2.ensures c.in_ok-tally.ensures.nothing) c.in_ok-tell_objects.field-0 _
    (steps_then blocks _ _ _ _ _ _ c.in_ok-look_at_node.field-0 _ (λ w. look c.root_of.result.level blocks image w (name_of c.root_of.result)) (judged s) (c.in_ok-look_at_node.ensures.steps image ground) (c.in_ok-tell_objects.ensures.steps blocks)) refl refl
