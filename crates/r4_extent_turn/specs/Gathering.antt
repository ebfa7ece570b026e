-- What stood in leaves, gathered as runs of bytes (docs/volume.md, "Bodies in extents"). A key is
-- its rank.
use Rattle.std.specs.Prelude.{◌≡◌, ℕ, List, [], ◌∷◌}
use Rattle.std.specs.List.{flat_map}
use Rattle.std.specs.Option.{option_or}
use Rattle.r4_base.specs.Value.{Byte}
use Rattle.r4_extent_build.specs.r4_cell.Seen.{CellSeen, node_of}
use Rattle.r4_content.specs.Edited.{Pairs}
use Rattle.r4_content.specs.Held.{run_pairs}
use Rattle.r4_content.specs.Seen.{pairs_in}
use Rattle.r4_content.specs.declared.edits.ByteRun.{ByteRun}
use Rattle.r4_extent_build.specs.r4_extent_blocks.Setting.{last_put}

-- what leaves have from one key up to another, one leaf's units behind the other's
abbrev pub units_within : (from to : ℕ) → List CellSeen → Pairs
units_within from to cells = flat_map (λ (c : CellSeen). pairs_in (node_of c).units from to) cells

abbrev pub byte_pair : (key byte : ℕ) → Pairs
byte_pair k x = (k, Byte x) ∷ []

-- The runs put the bytes of these pairs after those that they put before. (What is no byte is left
-- out.)
abbrev pub Adds : (old : List ByteRun) → Pairs → (new : List ByteRun) → Type 0
Adds old pairs new = (k : ℕ) → last_put (flat_map run_pairs new) k
    ≡ option_or (last_put pairs k) (last_put (flat_map run_pairs old) k)
