use Rattle.std.proofs.Common.{◌≡◌, map, take}
use Rattle.r4_flushed.specs.r4_placed.Flushing.{answer_by_block}
use Rattle.r4_flush.proofs.names.by_block.Given as goal

abbrev pub invariant-loop-answer : goal.invariant-loop-answer
invariant-loop-answer l = l.renamed.items ≡ map answer_by_block (take l.answer-index l.answers)
