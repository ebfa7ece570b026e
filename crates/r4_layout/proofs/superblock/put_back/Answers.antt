use Rattle.std.proofs.Common.{refl, arith}
use Rattle.r4_layout.proofs.superblock.put_back.Goals as goal

pub returns-clause-fit : goal.returns-clause-fit
returns-clause-fit c = (omega arith, (omega arith, (omega arith, (omega arith, (omega arith, tt)))))

pub returns-clause-spelled : goal.returns-clause-spelled
returns-clause-spelled c = rw (c.put32-2.ensures, c.put32.ensures, c.put64.ensures, c.put16-2.ensures, c.put16.ensures) refl
