use Rattle.r4_flushed.proofs.r4_commit.CellPlaces.{places_given, places_kept}
use Rattle.r4_flush.proofs.names.read_names.Goals as goal
use Rattle.r4_flush.proofs.names.read_names.Goals.{in-Some+in_ok-insert, in_default}

pub loop-answer-preserved : goal.loop-answer-preserved
loop-answer-preserved c = elim c.match-block_given.branch [
  | in-Some+in_ok-insert w ↦ places_given c.args.answers.now c.loop-answer.answer-index _ c.loop-answer-test.true c.loop-answer.names w.insert.new.self c.match-block_given.names c.block_given.result w.in-Some.block c.block_given.ensures w.in-Some.is w.names-is c.loop-answer.invariant w.in_ok-insert.ensures.updates
  | in_default w ↦ places_kept c.args.answers.now c.loop-answer.answer-index _ c.loop-answer-test.true c.loop-answer.names c.match-block_given.names c.block_given.result c.block_given.ensures w.in_default.is w.names-is c.loop-answer.invariant
]
