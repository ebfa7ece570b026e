use Rattle.r4_space.proofs.HalfLaws.{all_used}
use Rattle.r4_space.proofs.check.is_half_held.Goals as goal

pub returns-then-get32-clause-held : goal.returns-then-get32-clause-held
returns-then-get32-clause-held c = λ same k from to always.
    all_used c.args.j k c.get32.result c.args.block.now c.get32.ensures c.if-get32.true from to
