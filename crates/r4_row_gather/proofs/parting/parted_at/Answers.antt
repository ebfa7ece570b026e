use Rattle.std.proofs.Common.{◌≡◌, ◌-◌, ◌∙◌, ◌++◌, [], ap, map, rules, subst, sym, take, true}
use Rattle.std.proofs.lemmas.List.{append_assoc, take-append-drop}
use Rattle.r4_row_gather.proofs.PartsTogether.{no_parts}
use Rattle.r4_row_gather.specs.Parting.{AreParts}
use Rattle.r4_row_gather.proofs.parting.parted_at.Goals as goal

pub returns-clause-parts : goal.returns-clause-parts
returns-clause-parts c =
    let xs = c.args.pieces.now in
    let front = c.split_at.result.0.now in
    let rest = c.split_at.result.1.now in
    let middle = c.split_at-2.result.0.now in
    let behind = c.split_at-2.result.1.now in
    let one : c.in_ok-add_part.field-0 ≡ true = search rules in
    let two : c.in_ok-add_part-2.field-0 ≡ true = search rules in
    let three : c.in_ok-add_part-3.field-0 ≡ true = search rules in
    let begun : AreParts [] (map (λ p. p.items) c.new-parts.result.items) =
    subst (λ ps. AreParts [] (map (λ p. p.items) ps)) (sym c.new-parts.ensures.items) no_parts in
    let all = c.in_ok-add_part-3.ensures three (front ++ middle)
    (c.in_ok-add_part-2.ensures two front (c.in_ok-add_part.ensures one [] begun)) in
    let right : middle ++ behind ≡ rest = ap (λ ys. ys ++ behind) c.split_at-2.ensures.front
    ∙ (ap (λ ys. take (c.args.end - c.args.begin) rest ++ ys) c.split_at-2.ensures.back
    ∙ take-append-drop (c.args.end - c.args.begin) rest) in
    let whole : (front ++ middle) ++ behind ≡ xs = append_assoc front middle behind
    ∙ (ap (λ ys. front ++ ys) right
    ∙ (ap (λ ys. ys ++ rest) c.split_at.ensures.front
    ∙ (ap (λ ys. take c.args.begin xs ++ ys) c.split_at.ensures.back ∙ take-append-drop c.args.begin xs))) in
    subst (λ ps. AreParts ps (map (λ p. p.items) c.add_part-3.new.parts.items)) whole all
