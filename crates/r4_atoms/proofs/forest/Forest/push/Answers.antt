use Rattle.std.proofs.Common.{◌≡◌, ◌<◌, ◌++◌, ◌∷◌, [], ◌∙◌, ap, length, arith, ℕ}
use Rattle.r4_atoms.specs.Names.{Names}
use Rattle.r4_atoms.specs.Forest.{names_of}
use Rattle.r4_atoms.proofs.ForestLaws.{HasRoom-more, length-names, names_of-more}
use Rattle.r4_atoms.proofs.forest.Forest.push.Goals as goal

pub invariant_of-self : goal.invariant_of-self
invariant_of-self c =
    let i = c.self.inside in
    let same = length-names i.links.items in
    let e = ap (λ (n : Names). length n.names) c.self.view_is in
    let s = ap (λ (n : Names). n.spare) c.self.view_is in
    let some : 0 < i.spare = omega (arith, c.requires.room) in
    let few : length i.links.items < 4294967295 = omega (arith, c.requires.few) in
    let next : c.len-next.result ≡ length i.links.items = omega (arith, c.len-next.ensures, i.links.ok) in
    rw (c.add.ensures.items, next) (HasRoom-more i.links.items i.spare _ _ c.self.invariant some few c.add.ensures.capacity)

pub returns-clause-names : goal.returns-clause-names
returns-clause-names c =
    let i = c.self.inside in
    let same = length-names i.links.items in
    let next : c.len-next.result ≡ length i.links.items = omega (arith, c.len-next.ensures, i.links.ok) in
    rw (c.add.ensures.items, next) (names_of-more i.links.items c.self.invariant.forest
    ∙ ap (λ (n : ℕ). names_of i.links.items ++ n ∷ []) (omega arith) ∙ ap (λ (n : Names). n.names ++ length n.names ∷ []) c.self.view_is)
