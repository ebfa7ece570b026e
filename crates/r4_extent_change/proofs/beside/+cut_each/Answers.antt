use Rattle.std.proofs.Common.{◌++◌, [], ◌∷◌, map, not, sym, ap, ◌∙◌}
use Rattle.std.specs.List.{filter}
use Rattle.std.proofs.lemmas.List.{append_assoc}
use Rattle.std.proofs.lemmas.List.Elements.{filter-append}
use Rattle.std.proofs.lemmas.Result.{on_ok_weaker}
use Rattle.r4_content.specs.Held.{interval_of}
use Rattle.r4_build.specs.r4_measure.r4_reach.Reach.{is_body}
use Rattle.r4_extent_change.proofs.beside.+cut_each.Goals as goal

pub returns-in_ok-cut-in-Some : goal.returns-in_ok-cut-in-Some
returns-in_ok-cut-in-Some t c =
    let old = map interval_of c.args.cuts.now.items in
    let first = interval_of c.in-Some.first.now in
    let rest = map interval_of c.in-Some.rest.now in
    let is = ap (map interval_of) c.in-Some.ensures.cases.0 in
    on_ok_weaker c.cut_each.result (λ done.
    done ∙ (ap (λ xs. xs ++ filter (λ r. not (is_body r.0)) rest) c.in_ok-cut-in-Some.ensures ∙ (append_assoc old (filter (λ r. not (is_body r.0)) (first ∷ [])) (filter (λ r. not (is_body r.0)) rest)
    ∙ ap (λ xs. old ++ xs) (sym (filter-append (λ r. not (is_body r.0)) (first ∷ []) rest) ∙ ap (filter (λ r. not (is_body r.0))) (sym is)))))
    c.cut_each.ensures
