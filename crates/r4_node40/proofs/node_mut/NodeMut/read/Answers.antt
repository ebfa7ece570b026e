use Rattle.std.proofs.Common.{◌≡◌, ◌∙◌, refl, sym, ap, None}
use Rattle.r4_base.specs.Node.{node_fault}
use Rattle.r4_node40.proofs.Faults.{laid_from_good}
use Rattle.r4_node40.proofs.node_mut.NodeMut.read.Goals as goal

pub returns : goal.returns
returns c =
    let good : node_fault c.args.block.now ≡ None = ap node_fault (sym c.bytes.ensures.value) ∙ c.in_default.ensures.ok.0 in
    (refl, record { ok = (good, laid_from_good c.args.block.now c.bytes.ensures.len good, refl); err = tt; lends = tt })
