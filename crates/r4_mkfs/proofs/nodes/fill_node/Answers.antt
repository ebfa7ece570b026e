use Rattle.std.proofs.Common.{arith, rules, sym, ◌∙◌, ap, length, subst, List, ℕ}
use Rattle.r4_base.specs.Fresh.{IsFreshNode}
use Rattle.r4_base.specs.Lending.{written}
use Rattle.r4_base.specs.Node.{offset_at}
use Rattle.r4_base.specs.declared.key.Key.{Key}
use Rattle.r4_base.proofs.Choices.{went_well}
use Rattle.r4_node40.specs.Edits.{InsertsItem}
use Rattle.r4_mkfs.proofs.OneItem.{long, fresh_node}
use Rattle.r4_mkfs.proofs.nodes.fill_node.Goals as goal

pub copy_from_slice-requires : goal.copy_from_slice-requires
copy_from_slice-requires c =
    let room = c.format-node.ensures.fresh.room in
    let put = went_well c.insert.result _ (c.insert.ensures.fits.1 (omega (arith, room))) c.insert.ensures.ok in
    ap length c.body_mut.ensures.value
    ∙ sym (long c.format-node.result.block.now c.insert.new.self.block.now c.args.body.now c.args.level c.args.plugin c.format-node.ensures.fresh c.requires.plugin c.requires.some (subst (λ (k : Key). InsertsItem c.format-node.result.block.now 0 k c.args.plugin (length c.args.body.now) c.insert.new.self.block.now) c.root_key.ensures put))

pub returns : goal.returns
returns c =
    let room = c.format-node.ensures.fresh.room in
    let put = went_well c.insert.result _ (c.insert.ensures.fits.1 (omega (arith, room))) c.insert.ensures.ok in
    let done = fresh_node c.format-node.result.block.now c.insert.new.self.block.now c.args.body.now c.args.level c.args.plugin c.format-node.ensures.fresh c.requires.plugin c.requires.some (subst (λ (k : Key). InsertsItem c.format-node.result.block.now 0 k c.args.plugin (length c.args.body.now) c.insert.new.self.block.now) c.root_key.ensures put) in
    let there = subst (λ (w : List ℕ). IsFreshNode (written c.insert.new.self.block.now (offset_at c.insert.new.self.block.now 0) w) c.args.level c.args.plugin c.args.body.now) (sym c.copy_from_slice.ensures.after) done in
    search (rules, there)
