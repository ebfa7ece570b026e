use Rattle.std.proofs.Common.{◌∙◌, sym}
use Rattle.r4_cde.proofs.Shows.{long_name_is}
use Rattle.r4_cde.proofs.lent.NameRef.read.Goals as goal

pub returns-then-is_long-clause-name : goal.returns-then-is_long-clause-name
returns-then-is_long-clause-name c = long_name_is c.args.key.now c.args.body.now c.args.from c.args.to (sym c.is_long.ensures ∙ c.if-is_long.true) (c.requires.room (sym c.is_long.ensures ∙ c.if-is_long.true)) c.requires.inside
