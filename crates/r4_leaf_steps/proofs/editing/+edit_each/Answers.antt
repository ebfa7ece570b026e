use Rattle.std.proofs.Common.{◌≡◌, ◌∙◌, ◌∷◌, [], List, length, refl, ap, arith, map, rules, subst, sym}
use Rattle.std.specs.Arc.{arc_value}
use Rattle.std.proofs.lemmas.Result.{on_ok_weaker}
use Rattle.r4_build.specs.Making.{AreMadeIn}
use Rattle.r4_build.specs.r4_measure.r4_cell.Patch.{root_of_pair}
use Rattle.r4_content.specs.Held.{edits_of}
use Rattle.r4_leaf_steps.proofs.Edited.{no_more, one_more}
use Rattle.r4_leaf_steps.proofs.editing.+edit_each.Goals as goal

no_cells : {A : Type 0} (xs : List A) → length xs ≡ 0 → xs ≡ []
no_cells [] h = refl
no_cells (x ∷ xs) h = absurd (omega (arith, h))

pub edit_each-requires : goal.edit_each-requires
edit_each-requires t c =
    let (s, working) = c.requires.working in
    let first = c.in_ok-edit_in-in-Some.ensures.edited s working in
    let numbers = c.in_ok-edit_in-in-Some.ensures.numbers in
    let had = c.requires.numbers in
    (search rules, ((s, first.working), (c.requires.suits, (omega (arith, numbers, had), omega (arith, numbers)))))

pub returns-in-None-clause-made : goal.returns-in-None-clause-made
returns-in-None-clause-made t c = λ s working.
    let e = edits_of c.args.edits.now in
    let r = root_of_pair c.args.root.now in
    subst (λ cs. AreMadeIn s r e (map (λ x. arc_value x) cs) c.args.fresh.now c.args.fresh.now c.args.set.now c.args.set.now) (sym (no_cells c.args.cells.now c.in-None.ensures.cases))
    (no_more s r e c.args.fresh.now c.args.set.now working)

pub returns-in_ok-edit_in-in-Some-clause-made : goal.returns-in_ok-edit_in-in-Some-clause-made
returns-in_ok-edit_in-in-Some-clause-made t c =
    let e = edits_of c.args.edits.now in
    let r = root_of_pair c.args.root.now in
    let rest = map (λ x. arc_value x) c.in-Some.rest.now in
    let are = ap (map (λ x. arc_value x)) c.in-Some.ensures.cases.0 ∙ ap (λ x. x ∷ map (λ y. arc_value y) c.in-Some.rest.now) (sym c.deref.ensures) in
    on_ok_weaker c.edit_each.result (λ made s working.
    let first = c.in_ok-edit_in-in-Some.ensures.edited s working in
    subst (λ cs. AreMadeIn s r e cs c.args.fresh.now c.edit_each.new.fresh c.args.set.now c.edit_each.new.set) (sym are)
    (one_more s r e c.deref.result.now rest c.args.fresh.now c.edit_in.new.fresh c.edit_each.new.fresh c.args.set.now c.edit_in.new.set c.edit_each.new.set c.in_ok-edit_in-in-Some.ensures.numbers.0 first (made s first.working))) c.edit_each.ensures.made
