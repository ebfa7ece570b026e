use Rattle.std.proofs.Common.{sym, ap, ◌∙◌, subst}
use Rattle.r4_atoms.specs.Atoms.{AtomsSeen, owner_of}
use Rattle.r4_renaming.specs.Steps.{OnlyOwnersChange}
use Rattle.r4_renaming.proofs.Owning.{placed_stays, unplaced_goes}
use Rattle.r4_renaming.proofs.owners.drop_unplaced.Goals as goal
use Rattle.r4_renaming.proofs.owners.drop_unplaced.Goals.{then-is_unplaced, else-is_unplaced}

pub loop-node-preserved : goal.loop-node-preserved
loop-node-preserved c = elim c.if-is_unplaced.branch [
  | then-is_unplaced w ↦
      (let e = w.rename.ensures in
      let rest = c.loop-node.invariant.rest in
      record {
        owners = λ i. ap (λ (z : AtomsSeen). owner_of z i) w.atoms-is
            ∙ unplaced_goes c.args.atoms.now c.loop-node.atoms w.rename.new.self c.args.nodes.now c.loop-node.node-index
            c.loop-node-test.true c.loop-node.invariant.owners (sym c.is_unplaced.ensures ∙ w.if-is_unplaced.true)
            c.args.kept.0 c.requires.placed c.requires.owned e.from e.to e.others i;
        rest = record {
          txns = ap (λ (z : AtomsSeen). z.txns) w.atoms-is ∙ e.txns ∙ rest.txns;
          states = ap (λ (z : AtomsSeen). z.atoms) w.atoms-is ∙ e.atoms ∙ rest.states;
          captures = ap (λ (z : AtomsSeen). z.spare) w.atoms-is ∙ e.spare ∙ rest.captures;
          begins = ap (λ (z : AtomsSeen). z.txn_spare) w.atoms-is ∙ e.room ∙ rest.begins;
        };
      })
  | else-is_unplaced w ↦
      record {
        owners = placed_stays c.args.atoms.now c.loop-node.atoms c.if-is_unplaced.atoms c.args.nodes.now
            c.loop-node.node-index c.loop-node-test.true c.loop-node.invariant.owners
            (sym c.is_unplaced.ensures ∙ w.if-is_unplaced.false) w.atoms-is;
        rest = subst (λ (z : AtomsSeen). OnlyOwnersChange c.args.atoms.now z) (sym w.atoms-is)
            c.loop-node.invariant.rest;
      }
]
