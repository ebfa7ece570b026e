use Rattle.std.proofs.Common.{◌++◌, [], ◌∷◌, map, sym, ap, ◌∙◌}
use Rattle.std.proofs.lemmas.List.{append_assoc}
use Rattle.std.proofs.lemmas.List.Elements.{filter-append}
use Rattle.std.proofs.lemmas.Result.{on_ok_weaker}
use Rattle.std.specs.Arc.{arc_value}
use Rattle.std.specs.List.{filter}
use Rattle.r4_extent_change.specs.Among.{is_block_of}
use Rattle.r4_extent_change.proofs.finding.+add_blocks.Goals as goal

pub returns-in_ok-add_block-in-Some : goal.returns-in_ok-add_block-in-Some
returns-in_ok-add_block-in-Some t c =
    let p = is_block_of c.args.body.now c.args.twig.now in
    let old = map (λ x. arc_value x) c.args.blocks.now.items in
    let first = arc_value c.in-Some.first.now in
    let rest = map (λ x. arc_value x) c.in-Some.rest.now in
    let is = ap (map (λ x. arc_value x)) c.in-Some.ensures.cases.0 in
    on_ok_weaker c.add_blocks.result (λ done.
    done ∙ (ap (λ xs. xs ++ filter p rest) c.in_ok-add_block-in-Some.ensures ∙ (append_assoc old (filter p (first ∷ [])) (filter p rest)
    ∙ ap (λ xs. old ++ xs) (sym (filter-append p (first ∷ []) rest) ∙ ap (filter p) (sym is)))))
    c.add_blocks.ensures
