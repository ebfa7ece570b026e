use Rattle.std.proofs.Common.{◌≡◌, ◌+◌, sym, subst, arith}
use Rattle.r4_base.specs.Key.{rank}
use Rattle.r4_base.specs.declared.key.Key.{Key}
use Rattle.r4_cell.proofs.BodyEnds.{last_rank}
use Rattle.r4_cell.proofs.body.last_byte.Goals as goal

pub returns : goal.returns
unfolding rank
returns c = (omega arith, subst (λ (k : Key). rank k + 1 ≡ rank c.args.key.now + c.args.bytes) (sym c.with_offset.ensures) (last_rank _ _ _ _ c.args.bytes c.requires.some))
