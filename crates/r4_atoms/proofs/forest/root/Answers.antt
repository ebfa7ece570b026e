use Rattle.std.proofs.Common.{◌∙◌, sym}
use Rattle.r4_atoms.specs.Forest.{IsTop}
use Rattle.r4_atoms.proofs.ForestLaws.{root_of_up, root_of_top}
use Rattle.r4_atoms.proofs.forest.root.Goals as goal

pub loop-at-preserved : goal.loop-at-preserved
loop-at-preserved c =
    let i = c.loop-at.invariant in
    record { within = c.requires.forest.up_in c.loop-at.at i.within; same = root_of_up c.args.links.now c.requires.forest c.loop-at.at i.within ∙ i.same }

pub returns-clause-root : goal.returns-clause-root
returns-clause-root c =
    let i = c.loop-at.invariant in
    let top : IsTop c.args.links.now c.loop-at.at = record { within = i.within; top = c.loop-at-test.false } in
    sym (root_of_top c.args.links.now c.requires.forest c.loop-at.at top) ∙ i.same
