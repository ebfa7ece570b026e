use Rattle.std.proofs.Common.{refl}
use Rattle.r4_base.specs.Words.{layout_word_of, log_word_of}
use Rattle.r4_lines.proofs.Texts.{printed, printed_image}
use Rattle.r4_shared.specs.r4_start.declared.fault.OpenWhy.TheVariants.{Device, Image, Log, Memory, Size}
use Rattle.r4_run.proofs.Told.{why_same}
use Rattle.r4_run.proofs.ending.tell_why.Goals as goal

pub returns-in-Log : goal.returns-in-Log
returns-in-Log g c =
    why_same _ (Log c.in-Log.block c.in-Log.fault) 7 _ _ c.in-Log.is (
      refl,
      printed_image c.in-Log.block.0 c.word.result.now (log_word_of c.in-Log.fault) _ _ c.write_image.result
          c.word.ensures c.write_image.ensures,
    )

pub returns-in-Image : goal.returns-in-Image
returns-in-Image g c =
    why_same _ (Image c.in-Image.block c.in-Image.fault) 7 _ _ c.in-Image.is (
      refl,
      printed_image c.in-Image.block.0 c.word-in-Image.result.now (layout_word_of c.in-Image.fault) _ _
          c.write_image-in-Image.result c.word-in-Image.ensures c.write_image-in-Image.ensures,
    )

pub returns-in-Device : goal.returns-in-Device
returns-in-Device g c =
    why_same _ (Device c.in-Device.clock c.in-Device.faults) 6 _ _ c.in-Device.is
    (refl, printed _ _ _ c.write_device.result c.write_device.ensures)

pub returns-in-Size : goal.returns-in-Size
returns-in-Size g c =
    why_same _ (Size c.in-Size.blocks) 8 _ _ c.in-Size.is
    (refl, printed _ _ _ c.write_size.result c.write_size.ensures)

pub returns-in-Memory : goal.returns-in-Memory
returns-in-Memory g c =
    why_same _ Memory c.tell_memory.result _ _ c.in-Memory.is
    (c.tell_memory.ensures.code, c.tell_memory.ensures.line)
