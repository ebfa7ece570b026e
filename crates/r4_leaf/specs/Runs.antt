-- Runs of bytes (docs/volume.md, "Leaves").
use Rattle.std.specs.Prelude.{ℕ, List, replicate}
use Rattle.r4_leaf.specs.declared.run.RunBytes.{RunBytes}
use Rattle.r4_leaf.specs.declared.run.RunBytes.TheVariants.{Lent, Same}

-- the bytes themselves
abbrev pub bytes_of_run : RunBytes → List ℕ
bytes_of_run (Lent bytes) = bytes.now
bytes_of_run (Same count byte) = replicate count byte
