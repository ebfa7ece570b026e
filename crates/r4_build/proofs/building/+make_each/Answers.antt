use Rattle.std.proofs.Common.{◌≡◌, ◌∙◌, ◌∷◌, [], List, length, refl, ap, arith, map, rules, subst, sym}
use Rattle.std.specs.Arc.{arc_value}
use Rattle.std.proofs.lemmas.Result.{on_ok_weaker}
use Rattle.r4_content.specs.Held.{edits_of}
use Rattle.r4_build.specs.Making.{AreMadeIn, CanMake}
use Rattle.r4_build.proofs.Made.{none_among, one_more}
use Rattle.r4_build.proofs.building.+make_each.Goals as goal

no_cells : {A : Type 0} (xs : List A) → length xs ≡ 0 → xs ≡ []
no_cells [] h = refl
no_cells (x ∷ xs) h = absurd (omega (arith, h))

pub make_each-requires : goal.make_each-requires
make_each-requires t c =
    let (s, (r, can)) = c.requires.can in
    let are = ap (map (λ x. arc_value x)) c.in-Some.ensures.cases.0 ∙ ap (λ x. x ∷ map (λ y. arc_value y) c.in-Some.rest.now) (sym c.deref.ensures) in
    let first = c.in_ok-make_in-in-Some.ensures.made s r (map (λ x. arc_value x) c.in-Some.rest.now) (subst (λ cs. CanMake s r (edits_of c.args.edits.now) cs c.args.fresh.now c.args.set.now) are can) in
    let numbers = c.in_ok-make_in-in-Some.ensures.numbers in
    let had = c.requires.numbers in
    (search rules, ((s, (r, first.rest)), (c.requires.suits, (omega (arith, numbers, had), omega (arith, numbers)))))

pub returns-in-None-clause-made : goal.returns-in-None-clause-made
returns-in-None-clause-made t c = λ s r can.
    let e = edits_of c.args.edits.now in
    subst (λ cs. AreMadeIn s r e (map (λ x. arc_value x) cs) c.args.fresh.now c.args.fresh.now c.args.set.now c.args.set.now) (sym (no_cells c.args.cells.now c.in-None.ensures.cases))
    (none_among s r e c.args.fresh.now c.args.set.now (subst (λ cs. CanMake s r e (map (λ x. arc_value x) cs) c.args.fresh.now c.args.set.now) (no_cells c.args.cells.now c.in-None.ensures.cases) can))

pub returns-in_ok-make_in-in-Some-clause-made : goal.returns-in_ok-make_in-in-Some-clause-made
returns-in_ok-make_in-in-Some-clause-made t c =
    let e = edits_of c.args.edits.now in
    let rest = map (λ x. arc_value x) c.in-Some.rest.now in
    let are = ap (map (λ x. arc_value x)) c.in-Some.ensures.cases.0 ∙ ap (λ x. x ∷ map (λ y. arc_value y) c.in-Some.rest.now) (sym c.deref.ensures) in
    on_ok_weaker c.make_each.result (λ made s r can.
    let first = c.in_ok-make_in-in-Some.ensures.made s r rest (subst (λ cs. CanMake s r e cs c.args.fresh.now c.args.set.now) are can) in
    subst (λ cs. AreMadeIn s r e cs c.args.fresh.now c.make_each.new.fresh c.args.set.now c.make_each.new.set) (sym are)
    (one_more s r e c.deref.result.now rest c.args.fresh.now c.make_in.new.fresh c.make_each.new.fresh c.args.set.now c.make_in.new.set c.make_each.new.set c.in_ok-make_in-in-Some.ensures.numbers.0 first (made s r first.rest))) c.make_each.ensures.made
