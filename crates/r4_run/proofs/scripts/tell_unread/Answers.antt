use Rattle.std.proofs.Common.{refl}
use Rattle.r4_lines.proofs.Texts.{printed}
use Rattle.r4_source.specs.declared.reading.ReadFault.TheVariants.{Memory, Source}
use Rattle.r4_run.proofs.Told.{unread_same}
use Rattle.r4_run.proofs.scripts.tell_unread.Goals as goal

pub returns-in-Source : goal.returns-in-Source
returns-in-Source g c =
    unread_same _ (Source c.in-Source.faults) 4 _ _ c.in-Source.is
    (refl, printed _ _ _ c.write_source.result c.write_source.ensures)

pub returns-in-Memory : goal.returns-in-Memory
returns-in-Memory g c =
    unread_same _ Memory c.tell_memory.result _ _ c.in-Memory.is
    (c.tell_memory.ensures.code, c.tell_memory.ensures.line)
