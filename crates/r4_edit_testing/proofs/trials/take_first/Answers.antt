use Rattle.std.proofs.Common.{true, ◌≡◌, ◌∙◌, ◌++◌, [], ◌∷◌, List, map, ap, sym, subst}
use Rattle.std.specs.Arc.{arc_value}
use Rattle.r4_base.specs.Tree.{Root, Store}
use Rattle.r4_base.specs.Value.{Value}
use Rattle.r4_cell.specs.Seen.{CellSeen}
use Rattle.r4_edit.specs.CutBlocks.{IsTakenOutIn}
use Rattle.r4_edit_testing.specs.Trials.{IsRunBlock, IsRunLeaf, IsRunTwig}
use Rattle.r4_edit_testing.proofs.RunCuts.{first_out}
use Rattle.r4_edit_testing.proofs.trials.take_first.Goals as goal

pub cut-requires-clause-path : goal.cut-requires-clause-path
cut-requires-clause-path c =
    let twig = arc_value c.args.twig.now in
    let leaf = arc_value c.args.leaf.now in
    let block = arc_value c.args.block.now in
    let cells : map arc_value c.as_slice.result.now ≡ twig ∷ (leaf ∷ (block ∷ [])) =
    ap (map arc_value) (c.as_slice.ensures.value ∙ (c.in_ok-push-3.ensures.items
    ∙ ap (λ xs. xs ++ c.in_ok-try_clone-3.field-0 ∷ []) (c.in_ok-push-2.ensures.items
    ∙ ap (λ xs. xs ++ c.in_ok-try_clone-2.field-0 ∷ []) (c.in_ok-push.ensures.items
    ∙ ap (λ xs. xs ++ c.in_ok-try_clone.field-0 ∷ []) c.in_ok-path.ensures.items))))
    ∙ (λ i. c.in_ok-try_clone.ensures i ∷ (c.in_ok-try_clone-2.ensures i ∷ (c.in_ok-try_clone-3.ensures i ∷ []))) in
    subst (λ (p : List CellSeen). (t : Store Value) × ((r : Root)
    × IsTakenOutIn t r p c.key_of.result c.key_of-2.result c.numbers-fresh.result)) (sym cells)
    (first_out twig leaf block
    (subst (IsRunTwig true) c.deref-else-not-is_run_block.ensures (c.in_ok-is_run_twig.ensures c.if-not-branch.false))
    (subst IsRunLeaf c.deref.ensures (c.is_run_leaf.ensures c.if-not-is_run_leaf.false))
    (subst (IsRunBlock 0) c.deref-else-not-is_run_leaf.ensures (c.is_run_block.ensures c.if-not-is_run_block.false))
    c.numbers-fresh.result c.numbers-fresh.ensures.next c.numbers-fresh.ensures.end c.key_of.result c.key_of-2.result
    c.key_of.ensures c.key_of-2.ensures)
