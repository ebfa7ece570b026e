use Rattle.std.proofs.Common.{◌++◌, [], ◌∷◌, map, sym, ap, ◌∙◌}
use Rattle.std.proofs.lemmas.List.{append_assoc, map-append}
use Rattle.std.proofs.lemmas.List.Elements.{filter-append}
use Rattle.std.proofs.lemmas.Result.{on_ok_weaker}
use Rattle.std.specs.Arc.{arc_value}
use Rattle.r4_extent_loss.specs.LosingEach.{loss_of}
use Rattle.r4_extent_change.specs.Among.{is_losing, losing_twigs, loss_among}
use Rattle.r4_extent_change.proofs.finding.+add_each.Goals as goal

pub returns-in_ok-add-in-Some : goal.returns-in_ok-add-in-Some
returns-in_ok-add-in-Some t c =
    let b = c.args.body.now in
    let cells = map (λ x. arc_value x) c.args.cells.now in
    let old = map (λ x. loss_of x) c.args.losing.now.items in
    let first = arc_value c.in-Some.first.now in
    let rest = map (λ x. arc_value x) c.in-Some.rest.now in
    let is = ap (map (λ x. arc_value x)) c.in-Some.ensures.cases.0 in
    on_ok_weaker c.add_each.result (λ done.
    done ∙ (ap (λ xs. xs ++ map (loss_among b cells) (losing_twigs b rest)) c.in_ok-add-in-Some.ensures
    ∙ (append_assoc old (map (loss_among b cells) (losing_twigs b (first ∷ []))) (map (loss_among b cells) (losing_twigs b rest))
    ∙ ap (λ xs. old ++ xs) (sym (map-append (loss_among b cells) (losing_twigs b (first ∷ [])) (losing_twigs b rest))
    ∙ ap (map (loss_among b cells)) (sym (filter-append (is_losing b) (first ∷ []) rest) ∙ ap (losing_twigs b) (sym is))))))
    c.add_each.ensures
