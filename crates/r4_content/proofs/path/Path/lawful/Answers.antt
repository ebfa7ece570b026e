use Rattle.std.proofs.Common.{All, List, length, subst, sym, take, ℕ, ◌+◌, ◌<◌, ◌≤◌, ◌∙◌}
use Rattle.std.proofs.lemmas.List.{take_all}
use Rattle.std.proofs.lemmas.List.Elements.{All-more}
use Rattle.r4_content.specs.Fields.{HasBytes}
use Rattle.r4_content.proofs.path.Path.lawful.Goals as goal

pub loop-name-preserved : goal.loop-name-preserved
loop-name-preserved c =
    let names = c.as_slice-name-items.result.now in
    let same = c.as_slice-name-items.ensures in
    let one = subst (All (λ x. x < 256)) (c.as_slice.ensures ∙ c.name-item.is) c.are_bytes.ensures in
    subst (λ (l : List (List ℕ)). HasBytes (take (c.loop-name.name-index + 1) l)) same
    (All-more (All (λ x. x < 256)) names c.loop-name.name-index c.name-item.result c.loop-name-test.true
    (subst (λ (l : List (List ℕ)). HasBytes (take c.loop-name.name-index l)) (sym same) c.loop-name.invariant) one)

pub returns : goal.returns
returns c =
    subst HasBytes (take_all c.loop-name.name-index c.args.self.now
    (subst (λ (l : List (List ℕ)). length l ≤ c.loop-name.name-index) c.as_slice-name-items.ensures
    c.loop-name-test.false))
    c.loop-name.invariant
