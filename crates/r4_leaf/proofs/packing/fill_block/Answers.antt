use Rattle.std.proofs.Common.{◌≡◌, ◌∙◌, rules}
use Rattle.std.specs.Prelude.{OnOk}
use Rattle.r4_base.specs.Node.{mkfs_id_of}
use Rattle.r4_node40.specs.Loan.{bytes_of}
use Rattle.r4_leaf.proofs.CutPieces.{on_ok}
use Rattle.r4_leaf.proofs.Packed.{fresh_filled}
use Rattle.r4_leaf.proofs.packing.fill_block.Goals as goal

pub fill-requires-clause-empty : goal.fill-requires-clause-empty
fill-requires-clause-empty c = λ lo. fresh_filled lo c.args.mkfs_id (bytes_of c.format-node.result) c.format-node.ensures.fresh

pub returns-clause-mkfs_id : goal.returns-clause-mkfs_id
returns-clause-mkfs_id c =
    let kept : OnOk c.fill.result (mkfs_id_of (bytes_of c.fill.new.node) ≡ c.args.mkfs_id) = on_ok c.fill.result _ _ (λ same. same ∙ c.format-node.ensures.fresh.mkfs_id_is) c.fill.ensures.mkfs_id in
    search (rules, kept)
