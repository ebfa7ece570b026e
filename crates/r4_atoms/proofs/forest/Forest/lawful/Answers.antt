use Rattle.std.proofs.Common.{ap, length, arith}
use Rattle.r4_atoms.specs.Names.{Names}
use Rattle.r4_atoms.proofs.ForestLaws.{length-names}
use Rattle.r4_atoms.proofs.forest.Forest.lawful.Goals as goal

pub returns-clause-few : goal.returns-clause-few
returns-clause-few c =
    let same = length-names c.self.inside.links.items in
    let e = ap (λ (n : Names). length n.names) c.self.view_is in
    omega (arith, c.self.invariant.few)
