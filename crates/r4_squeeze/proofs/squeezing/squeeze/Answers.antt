use Rattle.std.proofs.Common.{◌∙◌, None, ap, map, refl, subst, sym}
use Rattle.std.specs.Arc.{arc_value}
use Rattle.std.proofs.lemmas.List.{take_all}
use Rattle.r4_squeeze.specs.Over.{ComesOver, IsOver}
use Rattle.r4_squeeze.proofs.SqueezedSlums.{comes, has_effect, is_change, meets_part, pushed, squeezes}
use Rattle.r4_squeeze.proofs.squeezing.squeeze.Goals as goal

pub rewritten-requires-clause-come : goal.rewritten-requires-clause-come
rewritten-requires-clause-come c =
    let slum = map arc_value c.args.slum.now in
    let cells = map arc_value c.in_ok-cells.cells.items in
    let parent = arc_value c.args.parent.now in
    subst (λ xs. ComesOver slum (map arc_value xs)) (sym c.as_slice.ensures.value)
    (comes slum cells parent parent c.in_ok-cells.ensures.packed c.in_ok-cells.ensures.sound)

pub returns-clause-change : goal.returns-clause-change
returns-clause-change c =
    let slum = map arc_value c.args.slum.now in
    let cells = map arc_value c.in_ok-cells.cells.items in
    let parent = arc_value c.args.parent.now in
    let over = arc_value c.in_ok-over.over in
    let is_over = subst (λ p. IsOver p slum cells over) c.deref.ensures
    (subst (λ xs. IsOver c.deref.result.now slum (map arc_value xs) over) c.as_slice.ensures.value c.in_ok-over.ensures) in
    let done = squeezes slum cells parent over (record { old = c.from_vec.result; new = c.from_vec-2.result; root = None })
    c.in_ok-cells.ensures.packed c.in_ok-cells.ensures.sound is_over
    (c.from_vec.ensures ∙ pushed arc_value c.loop-cell.old.items c.push-2.new.self.items c.in_ok-try_clone-2.field-0 slum parent
    c.in_ok-push-2.ensures.items (c.loop-cell.invariant
    ∙ ap (map arc_value) (take_all c.loop-cell.cell-index c.args.slum.now c.loop-cell-test.false))
    c.in_ok-try_clone-2.ensures)
    (c.from_vec-2.ensures ∙ pushed arc_value c.in_ok-cells.cells.items c.push-3.new.self.items c.in_ok-over.over cells over
    c.in_ok-push-3.ensures.items refl refl) refl in
    is_change slum parent _ done

pub returns-clause-meets : goal.returns-clause-meets
returns-clause-meets c =
    let slum = map arc_value c.args.slum.now in
    let cells = map arc_value c.in_ok-cells.cells.items in
    let parent = arc_value c.args.parent.now in
    let over = arc_value c.in_ok-over.over in
    let is_over = subst (λ p. IsOver p slum cells over) c.deref.ensures
    (subst (λ xs. IsOver c.deref.result.now slum (map arc_value xs) over) c.as_slice.ensures.value c.in_ok-over.ensures) in
    let done = squeezes slum cells parent over (record { old = c.from_vec.result; new = c.from_vec-2.result; root = None })
    c.in_ok-cells.ensures.packed c.in_ok-cells.ensures.sound is_over
    (c.from_vec.ensures ∙ pushed arc_value c.loop-cell.old.items c.push-2.new.self.items c.in_ok-try_clone-2.field-0 slum parent
    c.in_ok-push-2.ensures.items (c.loop-cell.invariant
    ∙ ap (map arc_value) (take_all c.loop-cell.cell-index c.args.slum.now c.loop-cell-test.false))
    c.in_ok-try_clone-2.ensures)
    (c.from_vec-2.ensures ∙ pushed arc_value c.in_ok-cells.cells.items c.push-3.new.self.items c.in_ok-over.over cells over
    c.in_ok-push-3.ensures.items refl refl) refl in
    meets_part slum parent _ done

pub returns-clause-effect : goal.returns-clause-effect
returns-clause-effect c =
    let slum = map arc_value c.args.slum.now in
    let cells = map arc_value c.in_ok-cells.cells.items in
    let parent = arc_value c.args.parent.now in
    let over = arc_value c.in_ok-over.over in
    let is_over = subst (λ p. IsOver p slum cells over) c.deref.ensures
    (subst (λ xs. IsOver c.deref.result.now slum (map arc_value xs) over) c.as_slice.ensures.value c.in_ok-over.ensures) in
    let done = squeezes slum cells parent over (record { old = c.from_vec.result; new = c.from_vec-2.result; root = None })
    c.in_ok-cells.ensures.packed c.in_ok-cells.ensures.sound is_over
    (c.from_vec.ensures ∙ pushed arc_value c.loop-cell.old.items c.push-2.new.self.items c.in_ok-try_clone-2.field-0 slum parent
    c.in_ok-push-2.ensures.items (c.loop-cell.invariant
    ∙ ap (map arc_value) (take_all c.loop-cell.cell-index c.args.slum.now c.loop-cell-test.false))
    c.in_ok-try_clone-2.ensures)
    (c.from_vec-2.ensures ∙ pushed arc_value c.in_ok-cells.cells.items c.push-3.new.self.items c.in_ok-over.over cells over
    c.in_ok-push-3.ensures.items refl refl) refl in
    has_effect slum parent _ done

pub returns-clause-squeezes : goal.returns-clause-squeezes
returns-clause-squeezes c =
    let slum = map arc_value c.args.slum.now in
    let cells = map arc_value c.in_ok-cells.cells.items in
    let parent = arc_value c.args.parent.now in
    let over = arc_value c.in_ok-over.over in
    let is_over = subst (λ p. IsOver p slum cells over) c.deref.ensures
    (subst (λ xs. IsOver c.deref.result.now slum (map arc_value xs) over) c.as_slice.ensures.value c.in_ok-over.ensures) in
    let done = squeezes slum cells parent over (record { old = c.from_vec.result; new = c.from_vec-2.result; root = None })
    c.in_ok-cells.ensures.packed c.in_ok-cells.ensures.sound is_over
    (c.from_vec.ensures ∙ pushed arc_value c.loop-cell.old.items c.push-2.new.self.items c.in_ok-try_clone-2.field-0 slum parent
    c.in_ok-push-2.ensures.items (c.loop-cell.invariant
    ∙ ap (map arc_value) (take_all c.loop-cell.cell-index c.args.slum.now c.loop-cell-test.false))
    c.in_ok-try_clone-2.ensures)
    (c.from_vec-2.ensures ∙ pushed arc_value c.in_ok-cells.cells.items c.push-3.new.self.items c.in_ok-over.over cells over
    c.in_ok-push-3.ensures.items refl refl) refl in
    done
