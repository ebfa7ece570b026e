use Rattle.std.proofs.Common.{refl}
use Rattle.r4_mkfs.specs.declared.fault.MkfsFault.TheVariants.{Small, Large, Device, Memory}
use Rattle.r4_lines.proofs.Texts.{printed}
use Rattle.r4_offline.proofs.MkfsTold.{tells_same}
use Rattle.r4_offline.proofs.making.tell_fault.Goals as goal

pub returns-in-Device : goal.returns-in-Device
returns-in-Device g c = tells_same _ (Device c.in-Device.clock c.in-Device.faults) 6 _ _ c.in-Device.is (refl, printed _ _ _ c.write_device.result c.write_device.ensures)

pub returns-in-Small : goal.returns-in-Small
returns-in-Small g c = tells_same _ (Small c.in-Small.blocks) 8 _ _ c.in-Small.is (refl, printed _ _ _ c.write_size.result c.write_size.ensures)

pub returns-in-Large : goal.returns-in-Large
returns-in-Large g c = tells_same _ (Large c.in-Large.blocks) 8 _ _ c.in-Large.is (refl, printed _ _ _ c.write_size-in-Large.result c.write_size-in-Large.ensures)

pub returns-in-Memory : goal.returns-in-Memory
returns-in-Memory g c = tells_same _ Memory 9 _ _ c.in-Memory.is (refl, printed _ _ _ c.write_memory.result c.write_memory.ensures)
