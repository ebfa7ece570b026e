use Rattle.std.proofs.Common.{true, ◌≡◌, ◌∙◌, ◌++◌, [], ◌∷◌, List, map, ap, sym, subst}
use Rattle.std.specs.Arc.{arc_value}
use Rattle.r4_base.specs.Tree.{Root, Store}
use Rattle.r4_base.specs.Value.{Value}
use Rattle.r4_cell.specs.Seen.{CellSeen}
use Rattle.r4_edit.specs.Editing.{given_item}
use Rattle.r4_edit.specs.Extents.{IsPutIn}
use Rattle.r4_edit_testing.specs.Trials.{IsRunTwig}
use Rattle.r4_edit_testing.proofs.RunPuts.{apart_here}
use Rattle.r4_edit_testing.proofs.trials.put_apart.Goals as goal

pub insert-requires-clause-path : goal.insert-requires-clause-path
insert-requires-clause-path c =
    let twig = arc_value c.args.twig.now in
    let cells : map arc_value c.as_slice.result.now ≡ twig ∷ [] =
    ap (map arc_value) (c.as_slice.ensures.value ∙ (c.in_ok-push.ensures.items
    ∙ ap (λ xs. xs ++ c.in_ok-try_clone.field-0 ∷ []) c.in_ok-path.ensures.items))
    ∙ (λ i. c.in_ok-try_clone.ensures i ∷ []) in
    let (whole, behind, alone) = c.in_ok-goes_apart.ensures c.if-not-branch.false in
    subst (λ (p : List CellSeen). (t : Store Value) × ((r : Root) × IsPutIn t r p
    (given_item c.args.key.now c.args.plugin c.args.body.now) c.numbers-fresh.result)) (sym cells)
    (apart_here twig (subst (IsRunTwig true) c.deref.ensures (c.in_ok-is_run_twig.ensures c.if-not-branch-2.false))
    (given_item c.args.key.now c.args.plugin c.args.body.now) whole behind alone
    c.numbers-fresh.result c.numbers-fresh.ensures.next c.numbers-fresh.ensures.end)
