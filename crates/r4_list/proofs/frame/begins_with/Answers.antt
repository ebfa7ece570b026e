use Rattle.std.proofs.Common.{rules}
use Rattle.r4_base.proofs.Keys.{is_key}
use Rattle.r4_list.proofs.FrameLeaves.{first_high}
use Rattle.r4_list.proofs.frame.begins_with.Goals as goal

pub returns-clause-below : goal.returns-clause-below
returns-clause-below c = first_high c.args.key (is_key c.args.key (search rules) (search rules) (search rules) (search rules) (search rules))
