use Rattle.std.proofs.Common.{refl}
use Rattle.r4_script.specs.declared.fault.ParseFault.TheVariants.{Memory, Script}
use Rattle.r4_run.specs.Scripts.{script_word}
use Rattle.r4_run.proofs.Told.{fault_same, printed_script}
use Rattle.r4_run.proofs.scripts.tell_fault.Goals as goal

pub returns-in-Script : goal.returns-in-Script
returns-in-Script g c =
    let f = c.in-Script.field-0 in
    fault_same _ (Script f) 3 _ _ c.in-Script.is (
      refl,
      printed_script f.line f.column c.word_of.result.now (script_word f.what) _ _ c.write_script.result
          c.word_of.ensures c.write_script.ensures,
    )

pub returns-in-Memory : goal.returns-in-Memory
returns-in-Memory g c =
    fault_same _ Memory c.tell_memory.result _ _ c.in-Memory.is
    (c.tell_memory.ensures.code, c.tell_memory.ensures.line)
