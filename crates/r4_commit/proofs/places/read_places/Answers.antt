use Rattle.r4_commit.proofs.CellPlaces.{places_given, places_kept}
use Rattle.r4_commit.proofs.places.read_places.Goals as goal
use Rattle.r4_commit.proofs.places.read_places.Goals.{in-Some+in_ok-insert, in_default}

pub loop-answer-preserved : goal.loop-answer-preserved
loop-answer-preserved c = elim c.match-block_given.branch [
  | in-Some+in_ok-insert w ↦ places_given c.args.placed.now c.loop-answer.answer-index _ c.loop-answer-test.true c.loop-answer.places w.insert.new.self c.match-block_given.places c.block_given.result w.in-Some.block c.block_given.ensures w.in-Some.is w.places-is c.loop-answer.invariant w.in_ok-insert.ensures.updates
  | in_default w ↦ places_kept c.args.placed.now c.loop-answer.answer-index _ c.loop-answer-test.true c.loop-answer.places c.match-block_given.places c.block_given.result c.block_given.ensures w.in_default.is w.places-is c.loop-answer.invariant
]
