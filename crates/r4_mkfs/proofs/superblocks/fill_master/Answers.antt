use Rattle.std.proofs.Common.{ap, sym, ◌∙◌, List, ℕ, length}
use Rattle.r4_base.specs.Layout.{master_block}
use Rattle.r4_base.proofs.Lent.{refilled_is}
use Rattle.r4_base.proofs.Superblocks.{length-master_block}
use Rattle.r4_mkfs.proofs.Labels.{label_filled, length-full_label}
use Rattle.r4_mkfs.proofs.superblocks.fill_master.Goals as goal

pub returns : goal.returns
returns c =
    let says = c.write_master.ensures.spelled ∙ ap (λ (l : List ℕ). master_block (record { label = l })) (label_filled c.args.label.now _ c.requires.0 c.copy_from_slice.ensures.after) in
    refilled_is _ _ (ap length says ∙ length-master_block _ (length-full_label c.args.label.now c.requires.0) ∙ sym c.bytes_mut.ensures.len) ∙ says
