use Rattle.std.proofs.Common.{refl}
use Rattle.r4_check_laws.specs.r4_list.declared.fault.ListFault.TheVariants.{Log, Image, Device, Size, Memory}
use Rattle.r4_base.specs.Words.{log_word_of}
use Rattle.r4_mkfs.specs.r4_cell.Words.{image_word_of}
use Rattle.r4_lines.proofs.Texts.{printed, printed_image}
use Rattle.r4_offline.proofs.Listed.{tells_same}
use Rattle.r4_offline.proofs.listing.tell_fault.Goals as goal

pub returns-in-Log : goal.returns-in-Log
returns-in-Log g c = tells_same _ (Log c.in-Log.block c.in-Log.fault) 7 _ _ c.in-Log.is (refl, printed_image c.in-Log.block.0 c.word.result.now (log_word_of c.in-Log.fault) _ _ c.write_image.result c.word.ensures c.write_image.ensures)

pub returns-in-Image : goal.returns-in-Image
returns-in-Image g c = tells_same _ (Image c.in-Image.block c.in-Image.fault) 7 _ _ c.in-Image.is (refl, printed_image c.in-Image.block.0 c.word-in-Image.result.now (image_word_of c.in-Image.fault) _ _ c.write_image-in-Image.result c.word-in-Image.ensures c.write_image-in-Image.ensures)

pub returns-in-Device : goal.returns-in-Device
returns-in-Device g c = tells_same _ (Device c.in-Device.clock c.in-Device.faults) 6 _ _ c.in-Device.is (refl, printed _ _ _ c.write_device.result c.write_device.ensures)

pub returns-in-Size : goal.returns-in-Size
returns-in-Size g c = tells_same _ (Size c.in-Size.blocks) 8 _ _ c.in-Size.is (refl, printed _ _ _ c.write_size.result c.write_size.ensures)

pub returns-in-Memory : goal.returns-in-Memory
returns-in-Memory g c = tells_same _ Memory 9 _ _ c.in-Memory.is (refl, printed _ _ _ c.write_memory.result c.write_memory.ensures)
