use Rattle.std.specs.Prelude.{length}
use Rattle.r4_extent_turn.proofs.tails.+add_parts.Given as goal

abbrev pub decreases-add_parts : goal.decreases-add_parts
decreases-add_parts l = length l.parts.now
