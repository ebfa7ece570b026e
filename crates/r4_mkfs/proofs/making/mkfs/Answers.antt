use Rattle.std.proofs.Common.{ℕ, sym, subst, ◌∙◌, ap}
use Rattle.r4_base.specs.Image.{IsLawful}
use Rattle.r4_base.specs.Fresh.{fresh_free}
use Rattle.r4_mkfs.proofs.Idling.{idle_order, order_after, is_made}
use Rattle.r4_outside.specs.Device.{Spares}
use Rattle.r4_mkfs.specs.Mkfs.{IsWritten}
use Rattle.r4_mkfs.proofs.Sparing.{spares_after}
use Rattle.r4_mkfs.proofs.making.mkfs.Goals as goal

pub returns-in_err-blocks-clause-any_moment : goal.returns-in_err-blocks-clause-any_moment
returns-in_err-blocks-clause-any_moment g c = λ quiet. idle_order _ _ c.lawful_blocks.ensures.goes c.lawful_blocks.ensures.idle quiet

pub returns-in_default-clause-any_moment : goal.returns-in_default-clause-any_moment
returns-in_default-clause-any_moment g c = λ quiet. idle_order _ _ c.lawful_blocks.ensures.goes c.lawful_blocks.ensures.idle quiet

pub returns-in-Ok-write_volume-clause-answers : goal.returns-in-Ok-write_volume-clause-answers
returns-in-Ok-write_volume-clause-answers g c =
    let blocks = c.in_ok-blocks.ensures.counts.0 in
    let lawful = c.in_ok-blocks.ensures.counts.1 in
    let went = c.lawful_blocks.ensures.goes in (
      lawful,
      blocks,
      c.free_blocks.ensures ∙ ap fresh_free blocks,
      λ tells. is_made c.args.label.now c.in_ok-blocks.blocks (g.D.Device.state c.write_volume.new.dev) c.requires (subst IsLawful (sym blocks) lawful)
          (blocks ∙ sym went.blocks ∙ sym c.write_volume.ensures.goes.blocks) (c.in-Ok-write_volume.ensures.made (went.reads.1 tells)),
    )

pub returns-in-Ok-write_volume-clause-any_moment : goal.returns-in-Ok-write_volume-clause-any_moment
returns-in-Ok-write_volume-clause-any_moment g c = λ quiet. order_after _ _ _ c.lawful_blocks.ensures.goes c.lawful_blocks.ensures.idle quiet c.write_volume.ensures.any_moment

pub returns-clause-any_moment : goal.returns-clause-any_moment
returns-clause-any_moment g c = λ quiet. order_after _ _ _ c.lawful_blocks.ensures.goes c.lawful_blocks.ensures.idle quiet c.write_volume.ensures.any_moment

pub returns-in_default-zeroed-clause-any_moment : goal.returns-in_default-zeroed-clause-any_moment
returns-in_default-zeroed-clause-any_moment g c = λ quiet. idle_order _ _ c.lawful_blocks.ensures.goes c.lawful_blocks.ensures.idle quiet

pub returns-in-Ok-write_volume-clause-spares : goal.returns-in-Ok-write_volume-clause-spares
returns-in-Ok-write_volume-clause-spares g c = subst (λ (n : ℕ). Spares (IsWritten n) (g.D.Device.state c.args.dev.now) (g.D.Device.state c.write_volume.new.dev)) c.in_ok-blocks.ensures.counts.0
    (spares_after (IsWritten c.in_ok-blocks.blocks) _ (g.D.Device.state c.lawful_blocks.new.dev) _ c.lawful_blocks.ensures.goes c.lawful_blocks.ensures.idle c.write_volume.ensures.goes c.write_volume.ensures.spares)

pub returns-clause-spares : goal.returns-clause-spares
returns-clause-spares g c = subst (λ (n : ℕ). Spares (IsWritten n) (g.D.Device.state c.args.dev.now) (g.D.Device.state c.write_volume.new.dev)) c.in_ok-blocks.ensures.counts.0
    (spares_after (IsWritten c.in_ok-blocks.blocks) _ (g.D.Device.state c.lawful_blocks.new.dev) _ c.lawful_blocks.ensures.goes c.lawful_blocks.ensures.idle c.write_volume.ensures.goes c.write_volume.ensures.spares)
