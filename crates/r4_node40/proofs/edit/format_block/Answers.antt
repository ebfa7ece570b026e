use Rattle.std.proofs.Common.{refl}
use Rattle.r4_node40.specs.Laid.{fresh_node}
use Rattle.r4_node40.proofs.edit.format_block.Goals as goal

pub returns : goal.returns
unfolding fresh_node
returns c = record { bytes = rw (c.put32-2.ensures, c.put32.ensures, c.put16-2.ensures, c.put16.ensures, c.blank.ensures, c.requires.whole) refl }
