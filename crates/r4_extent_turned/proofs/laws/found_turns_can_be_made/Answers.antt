use Rattle.r4_extent_turned.proofs.FoundTurns.{can_turn}
use Rattle.r4_extent_turned.proofs.laws.found_turns_can_be_made.Goals as goal

pub returns : goal.returns
returns c = λ b e u t r f cells x may is in_part names measured quiet unplaced suffices.
    can_turn t r f cells in_part b e x may is u names measured quiet unplaced suffices
