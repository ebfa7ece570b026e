use Rattle.std.proofs.Common.{true, ◌≡◌, ◌∙◌, ◌++◌, [], ◌∷◌, List, map, refl, ap, sym, subst}
use Rattle.std.specs.Arc.{arc_value}
use Rattle.r4_base.specs.Tree.{Root, Store}
use Rattle.r4_base.specs.Value.{Value}
use Rattle.r4_cell.specs.Seen.{CellSeen}
use Rattle.r4_edit.specs.Editing.{given_item}
use Rattle.r4_edit.specs.Extents.{IsPutIn}
use Rattle.r4_edit_testing.specs.Trials.{IsRunTwig}
use Rattle.r4_edit_testing.proofs.RunPuts.{spread_at}
use Rattle.r4_edit_testing.proofs.trials.put_behind.Goals as goal

pub insert-requires-clause-path : goal.insert-requires-clause-path
insert-requires-clause-path c =
    let twig = arc_value c.args.twig.now in
    let cells : map arc_value c.as_slice.result.now ≡ twig ∷ [] =
    ap (map arc_value) (c.as_slice.ensures.value ∙ (c.in_ok-push.ensures.items
    ∙ ap (λ xs. xs ++ c.in_ok-try_clone.field-0 ∷ []) c.in_ok-path.ensures.items))
    ∙ (λ i. c.in_ok-try_clone.ensures i ∷ []) in
    subst (λ (p : List CellSeen). (t : Store Value) × ((r : Root) × IsPutIn t r p
    (given_item c.key_of.result 5 c.args.body.now) (record { next = 9223372036854776808; end = 9223372036854777808 }))) (sym cells)
    (spread_at twig (subst (IsRunTwig true) c.deref.ensures (c.in_ok-is_run_twig.ensures c.if-not-branch.false)) c.args.offset
    (c.is_behind.ensures c.if-not-is_behind.false) c.key_of.result c.key_of.ensures c.args.body.now
    (c.are_new_blocks.ensures c.if-not-are_new_blocks.false)
    (record { next = 9223372036854776808; end = 9223372036854777808 }) refl refl)
