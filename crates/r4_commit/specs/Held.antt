-- The blocks of a log.
use Rattle.std.specs.Prelude.{ℕ, List, map}
use Rattle.r4_commit.specs.declared.log_blocks.LogBlocks.{LogBlocks}

-- those of the copies, then those of the records, and the head's
abbrev pub blocks_in : LogBlocks → List ℕ
blocks_in log = map (λ b. b.0) log.all.items
