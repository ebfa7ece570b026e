use Rattle.r4_row_edit.proofs.Effects.{shift_change, shift_effect, shift_meets, shift_turn}
use Rattle.r4_row_edit.proofs.laws.shifts_are_patches.Goals as goal

pub returns-clause-change : goal.returns-clause-change
returns-clause-change c = λ t r b row ps above before after x i s. shift_change t r b row ps above before after x i s

pub returns-clause-meets : goal.returns-clause-meets
returns-clause-meets c = λ t r b row ps above before after x i s. shift_meets t r b row ps above before after x i s

pub returns-clause-effect : goal.returns-clause-effect
returns-clause-effect c = λ t r b row ps above before after x at to i s e.
    shift_effect t r b row ps above before after x i s at to e

pub returns-clause-turn : goal.returns-clause-turn
returns-clause-turn c = λ t r b row ps above before after x from to values i s e.
    shift_turn t r b row ps above before after x i s from to values e
