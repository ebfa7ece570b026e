use Rattle.std.proofs.Common.{◌++◌, [], ◌∷◌, map, sym, ap, ◌∙◌}
use Rattle.std.proofs.lemmas.List.{append_assoc}
use Rattle.std.proofs.lemmas.List.Elements.{filter-append}
use Rattle.std.proofs.lemmas.Result.{on_ok_weaker}
use Rattle.std.specs.Arc.{arc_value}
use Rattle.r4_content.specs.Held.{edits_of}
use Rattle.r4_extent_change.specs.Beside.{is_turning, turning_among}
use Rattle.r4_extent_change.proofs.growing.+pick_each.Goals as goal

pub returns-in_ok-pick-in-Some : goal.returns-in_ok-pick-in-Some
returns-in_ok-pick-in-Some t c =
    let b = c.args.body.now in
    let e = edits_of c.args.edits.now in
    let old = map (λ x. arc_value x) c.args.twigs.now.items in
    let first = arc_value c.in-Some.first.now in
    let rest = map (λ x. arc_value x) c.in-Some.rest.now in
    let is = ap (map (λ x. arc_value x)) c.in-Some.ensures.cases.0 in
    on_ok_weaker c.pick_each.result (λ done.
    done ∙ (ap (λ xs. xs ++ turning_among b e rest) c.in_ok-pick-in-Some.ensures ∙ (append_assoc old (turning_among b e (first ∷ [])) (turning_among b e rest)
    ∙ ap (λ xs. old ++ xs) (sym (filter-append (is_turning b e) (first ∷ []) rest) ∙ ap (turning_among b e) (sym is)))))
    c.pick_each.ensures
