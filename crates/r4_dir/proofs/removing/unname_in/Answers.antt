use Rattle.r4_dir.proofs.Below.{name_low}
use Rattle.r4_dir.proofs.removing.unname_in.Goals as goal

pub one-requires : goal.one-requires
one-requires c = name_low _ _ _ c.requires.key c.requires.dir.0
