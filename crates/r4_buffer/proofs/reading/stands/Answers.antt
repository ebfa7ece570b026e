use Rattle.std.proofs.Common.{◌∙◌, sym}
use Rattle.r4_buffer.proofs.Pools.{no_level}
use Rattle.r4_buffer.proofs.reading.stands.Goals as goal

pub returns-then-level-eq0 : goal.returns-then-level-eq0
returns-then-level-eq0 c = no_level _ _ _ _ _ _ (sym c.level.ensures ∙ c.if-level-eq0.true)
