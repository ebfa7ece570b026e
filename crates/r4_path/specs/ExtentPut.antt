-- A small change of a twig: behind the item of a fresh volume's leaf comes an extent (docs/volume.md, "Edits").
use Rattle.std.specs.Prelude.{ℕ, ◌+◌, ◌*◌, ◌^◌, ◌-◌, List, [], ◌∷◌, ◌++◌, length, replicate, None}
use Rattle.r4_base.specs.Bytes.{fields_bytes, number_bytes}
use Rattle.r4_base.specs.Fresh.{root_key}
use Rattle.r4_base.specs.Key.{body_key}
use Rattle.r4_base.specs.Stat.{stat_body}
use Rattle.r4_base.specs.Tree.{Store}
use Rattle.r4_base.specs.Value.{Value}
use Rattle.r4_base.specs.Volume.{root_attr}
use Rattle.r4_base.specs.declared.key.Key.{Key}
use Rattle.r4_patch.specs.r4_cell.Patch.{patch_of, place}
use Rattle.r4_patch.specs.r4_cell.Seen.{CellSeen}
use Rattle.r4_leaf.specs.r4_node40.Edits.{header_fields}
use Rattle.r4_patch.specs.SecondRoot.{small_tree}
use Rattle.r4_path.specs.Steps.{Step}
use Rattle.r4_path.specs.Twigs.{Below}

-- the fields of a node's head
abbrev pub head_fields : (level count free start : ℕ) → List (ℕ × ℕ)
head_fields level count free start =
    (2, 0) ∷ (2, count) ∷ (2, free) ∷ (2, start) ∷ (4, 0x52344653) ∷ (4, 1) ∷ (8, 0) ∷ (2, 0) ∷ (1, level) ∷ (1, 0) ∷ []

-- a node of a level: its head, the bodies of its items, free space, and the item headers, the last one's first
abbrev pub node_block : (level count free : ℕ) → (bodies headers : List ℕ) → List ℕ
node_block level count free bodies headers =
    fields_bytes (head_fields level count free (28 + length bodies)) ++ (bodies ++ (replicate free 0 ++ headers))

abbrev pub header_of : Key → (offset plugin : ℕ) → List ℕ
header_of key offset plugin = fields_bytes (header_fields key offset plugin)

-- the key of a file's first byte, and of others
abbrev pub file_key : (offset : ℕ) → Key
file_key offset = body_key 42 0 (record { 0 = 65536 }) offset

abbrev pub last_key : Key
last_key = record { el = (2 ^ 64 - 1) ∷ (2 ^ 64 - 1) ∷ (2 ^ 64 - 1) ∷ (2 ^ 64 - 1) ∷ [] }

-- the pointer to the leaf alone, and with the extent of blocks 24 and 25
abbrev pub pointer_block : List ℕ
pointer_block = node_block 2 1 4022 (number_bytes 8 23) (header_of root_key 28 3)

abbrev pub extent_block : List ℕ
extent_block = node_block 2 2 3968 (number_bytes 8 23 ++ fields_bytes ((8, 24) ∷ (8, 2) ∷ []))
    (header_of (file_key 0) 36 5 ++ header_of root_key 28 3)

-- the root directory's stat data alone
abbrev pub stat_block : List ℕ
stat_block = node_block 1 1 3986 (stat_body root_attr) (header_of root_key 28 0)

abbrev pub twig_cell : List ℕ → CellSeen
twig_cell block = record { id = 22; level = 2; lo = root_key; hi = last_key; block = block }

abbrev pub leaf_cell : (hi : Key) → CellSeen
leaf_cell hi = record { id = 23; level = 1; lo = root_key; hi = hi; block = stat_block }

-- one of the file's blocks, a zero each byte
abbrev pub data_cell : (nth : ℕ) → CellSeen
data_cell nth = record {
  id = 24 + nth;
  level = 0;
  lo = file_key (4096 * nth);
  hi = file_key (4096 * nth + 4096);
  block = replicate 4096 0;
}

-- The leaf goes, and comes again with less range; two blocks come.
abbrev pub extent_below : Below
extent_below = record { old = leaf_cell last_key ∷ []; new = leaf_cell (file_key 0) ∷ data_cell 0 ∷ data_cell 1 ∷ [] }

abbrev pub extent_step : Step
extent_step = record { old = twig_cell pointer_block; new = twig_cell extent_block ∷ [] }

abbrev pub extent_tree : Store Value
extent_tree = small_tree pointer_block stat_block

-- The tree with the change in place, and the way back: the extent and its blocks go, and the leaf has all keys again.
abbrev pub back_tree : Store Value
back_tree =
    place (patch_of (extent_below.old ++ extent_step.old ∷ []) (extent_below.new ++ extent_step.new) None) extent_tree

abbrev pub back_below : Below
back_below = record { old = extent_below.new; new = extent_below.old }

abbrev pub back_step : Step
back_step = record { old = twig_cell extent_block; new = twig_cell pointer_block ∷ [] }
