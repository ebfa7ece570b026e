use Rattle.std.proofs.Common.{◌≡◌, ◌∙◌, ◌++◌, [], ◌∷◌, List, map, ap, sym, subst}
use Rattle.std.specs.Arc.{arc_value}
use Rattle.r4_base.specs.Tree.{Root, Store}
use Rattle.r4_base.specs.Value.{Value}
use Rattle.r4_cell.specs.Seen.{CellSeen}
use Rattle.r4_edit.specs.CutBlocks.{IsTakenOutIn}
use Rattle.r4_edit_testing.specs.Trials.{IsRunBlock, IsRunTwig}
use Rattle.r4_edit_testing.proofs.RunCuts.{one_out}
use Rattle.r4_edit_testing.proofs.trials.take_one.Goals as goal

pub cut-requires-clause-path : goal.cut-requires-clause-path
cut-requires-clause-path c =
    let twig = arc_value c.args.twig.now in
    let block = arc_value c.args.block.now in
    let cells : map arc_value c.as_slice.result.now ≡ twig ∷ (block ∷ []) =
    ap (map arc_value) (c.as_slice.ensures.value ∙ (c.in_ok-push-2.ensures.items
    ∙ ap (λ xs. xs ++ c.in_ok-try_clone-2.field-0 ∷ []) (c.in_ok-push.ensures.items
    ∙ ap (λ xs. xs ++ c.in_ok-try_clone.field-0 ∷ []) c.in_ok-path.ensures.items)))
    ∙ (λ i. c.in_ok-try_clone.ensures i ∷ (c.in_ok-try_clone-2.ensures i ∷ [])) in
    subst (λ (p : List CellSeen). (t : Store Value) × ((r : Root)
    × IsTakenOutIn t r p c.key_of-from.result c.key_of-to.result c.numbers-fresh.result)) (sym cells)
    (one_out twig block c.numbers-fresh.result c.numbers-fresh.ensures.next c.numbers-fresh.ensures.end c.key_of-from.result
    c.key_of-to.result c.args.leaf c.args.nth (c.is_one.ensures c.if-not-is_one.false)
    (subst (IsRunTwig c.args.leaf) c.deref-else-not-is_run_block.ensures (c.in_ok-is_run_twig.ensures c.if-not-branch.false))
    (subst (IsRunBlock c.args.nth) c.deref.ensures (c.is_run_block.ensures c.if-not-is_run_block.false))
    c.key_of-from.ensures c.key_of-to.ensures)
