use Rattle.std.proofs.Common.{◌++◌, [], ◌∷◌, map, not, sym, ap, ◌∙◌}
use Rattle.std.specs.List.{filter}
use Rattle.std.proofs.lemmas.List.{append_assoc}
use Rattle.std.proofs.lemmas.List.Elements.{filter-append}
use Rattle.std.proofs.lemmas.Result.{on_ok_weaker}
use Rattle.r4_content.specs.Held.{pair_of}
use Rattle.r4_build.specs.r4_leaf_edits.Suiting.{is_byte}
use Rattle.r4_extent_change.proofs.beside.+put_each.Goals as goal

pub returns-in_ok-put-in-Some : goal.returns-in_ok-put-in-Some
returns-in_ok-put-in-Some t c =
    let old = map pair_of c.args.puts.now.items in
    let first = pair_of c.in-Some.first.now in
    let rest = map pair_of c.in-Some.rest.now in
    let is = ap (map pair_of) c.in-Some.ensures.cases.0 in
    on_ok_weaker c.put_each.result (λ done.
    done ∙ (ap (λ xs. xs ++ filter (λ p. not (is_byte p.1)) rest) c.in_ok-put-in-Some.ensures ∙ (append_assoc old (filter (λ p. not (is_byte p.1)) (first ∷ [])) (filter (λ p. not (is_byte p.1)) rest)
    ∙ ap (λ xs. old ++ xs) (sym (filter-append (λ p. not (is_byte p.1)) (first ∷ []) rest) ∙ ap (filter (λ p. not (is_byte p.1))) (sym is)))))
    c.put_each.ensures
