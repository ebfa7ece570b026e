use Rattle.std.proofs.Common.{◌≡◌, ◌+◌, ◌≤◌, length, take}
use Rattle.r4_renaming.specs.Renaming.{HaveNewNames}
use Rattle.r4_renaming.proofs.cells.rename_cells.Given as goal

abbrev pub invariant-loop-cell : goal.invariant-loop-cell
invariant-loop-cell l = record {
  same : l.yielded ≡ take (length l.yielded) l.fn.renamed.items;
  cells : HaveNewNames l.initial.buffer l.buffer (take (length l.yielded) l.fn.renamed.items);
  spare : l.initial.buffer.spare ≤ l.buffer.spare + length l.yielded;
}
