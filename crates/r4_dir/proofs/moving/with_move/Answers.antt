use Rattle.r4_dir.proofs.Below.{name_low}
use Rattle.r4_dir.proofs.moving.with_move.Goals as goal

pub one-requires : goal.one-requires
one-requires c = name_low _ _ _ c.requires.key c.requires.small.0.0
