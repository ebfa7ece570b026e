use Rattle.std.proofs.Common.{◌≡◌, length, map}
use Rattle.r4_commit.proofs.FoundBlocks.{IsFound}
use Rattle.r4_commit.proofs.log_blocks.find_blocks.Given as goal

abbrev pub invariant-loop-found : goal.invariant-loop-found
invariant-loop-found l = record {
  found : IsFound l.space l.fn.prev.0 l.from.0 (map (λ b. b.0) l.blocks.items);
  counted : length l.blocks.items ≡ l._found;
}
