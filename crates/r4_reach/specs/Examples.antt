-- Small changes, computed (docs/volume.md, "Reach").
use Rattle.std.specs.Prelude.{ℕ, ◌+◌, ◌-◌, ◌*◌, ◌^◌, List, [], ◌∷◌, ◌++◌, length, replicate, true, false}
use Rattle.r4_base.specs.Bytes.{fields_bytes, number_bytes}
use Rattle.r4_base.specs.Fresh.{root_key}
use Rattle.r4_base.specs.Key.{key_of_rank, rank}
use Rattle.r4_base.specs.Tree.{Name, Node}
use Rattle.r4_base.specs.Value.{Byte, Value}
use Rattle.r4_base.specs.Volume.{byte_rank}
use Rattle.r4_path.specs.r4_branch.declared.piece.TwigPart.TheVariants.{Blocks, Pointer}
use Rattle.r4_path.specs.r4_branch.declared.piece.TwigPiece.{TwigPiece}
use Rattle.r4_content.specs.Edited.{Edits}
use Rattle.r4_content.specs.Examples.{f, made}
use Rattle.r4_base.specs.declared.key.Key.{Key}
use Rattle.r4_path.specs.r4_node40.Edits.{header_fields}
use Rattle.r4_reach.specs.Needs.{Ask}
use Rattle.r4_reach.specs.Touched.{Body}

-- the key of the file's byte at an offset
abbrev pub byte : ℕ → ℕ
byte n = byte_rank (made f 65536) n

-- the file's body in extents, of so many bytes before and after
abbrev pub spread : (was now : ℕ) → Body
spread was now = record {
  file = made f 65536;
  first = byte_rank (made f 65536) 0;
  was = was;
  now = now;
  in_extents =
      true;
}

-- one byte is put at an offset
abbrev pub put_at : ℕ → Edits
put_at n = record { cuts = []; zeros = []; puts = (byte n, Byte 7) ∷ [] }

-- a unit of so many blocks from a number on, 0 for a hole, at the block of the body
abbrev pub unit_at : (block start width : ℕ) → TwigPiece
unit_at n start width = record {
  key = key_of_rank (byte (4096 * n));
  part = Blocks
      (record { start = start; width = width });
}

abbrev pub pointer_to : (key id : ℕ) → TwigPiece
pointer_to k id = record { key = key_of_rank k; part = Pointer (record { 0 = id }) }

-- a twig that names a leaf up to the file's first byte
abbrev pub twig : (lo : ℕ) → List Name → Node Value
twig lo names = record {
  level = 2;
  lo = lo;
  hi = 2 ^ 256 - 1;
  block = [];
  names = names;
  spans = record
      { lo = byte 0; hi = 2 ^ 256 - 1 } ∷ [];
  units = [];
}

abbrev pub left_leaf : (lo : ℕ) → Name
left_leaf lo = record { id = 23; level = 1; lo = lo; hi = byte 0 }

-- ---- a twig's bytes: a pointer to leaf 23, and behind it an extent of blocks 24 and 25 and a hole of one block

abbrev pub node_block : (level count free : ℕ) → (bodies headers : List ℕ) → List ℕ
node_block level count free bodies headers =
    fields_bytes ((2, 0) ∷ (2, count) ∷ (2, free) ∷ (2, 28 + length bodies) ∷ (4, 0x52344653) ∷ (4, 1) ∷ (8, 0) ∷
    (2, 0) ∷ (1, level) ∷ (1, 0) ∷ [])
    ++ (bodies ++ (replicate free 0 ++ headers))

abbrev pub header_of : Key → (offset plugin : ℕ) → List ℕ
header_of key offset plugin = fields_bytes (header_fields key offset plugin)

abbrev pub hole_block : List ℕ
hole_block = node_block 2 2 3952 (number_bytes 8 23 ++ fields_bytes ((8, 24) ∷ (8, 2) ∷ (8, 0) ∷ (8, 1) ∷ []))
    (header_of (key_of_rank (byte 0)) 36 5 ++ header_of root_key 28 3)

abbrev pub hole_twig : Node Value
hole_twig = record {
  level = 2;
  lo = rank root_key;
  hi = 2 ^ 256 - 1;
  block = hole_block;
  names = left_leaf (rank root_key) ∷ record { id = 24; level = 0; lo = byte 0; hi = byte 4096 } ∷ record
      { id = 25; level = 0; lo = byte 4096; hi = byte 8192 } ∷ [];
  spans = record { lo = byte 0; hi = 2 ^ 256 - 1 } ∷ [];
  units = [];
}

-- a tail of a leaf below it asks for two pointers
abbrev pub two_more : List (Name × Ask)
two_more = (left_leaf (rank root_key), record { more = 2; gone = false }) ∷ []

abbrev pub no_puts : Edits
no_puts = record { cuts = []; zeros = []; puts = [] }

-- ---- a body of three bytes in tails that turns to extents of five blocks

abbrev pub turning : Body
turning = record {
  file = made f 65536;
  first = byte_rank (made f 65536) 16384;
  was = 3;
  now = 16385;
  in_extents =
      false;
}

-- a key behind all of the body's
abbrev pub behind : ℕ
behind = byte 0 + 2 ^ 64

-- a leaf with bytes of the body, and maybe units before and behind
abbrev pub tail_leaf : (lo hi : ℕ) → List (ℕ × Value) → Node Value
tail_leaf lo hi units = record { level = 1; lo = lo; hi = hi; block = []; names = []; spans = []; units = units }

abbrev pub three : List (ℕ × Value)
three = (byte 0, Byte 1) ∷ (byte 1, Byte 2) ∷ (byte 2, Byte 3) ∷ []

-- two bytes of another file, whose keys lie in the range of the extent
abbrev pub other_file : Edits
other_file = record { cuts = []; zeros = []; puts = (behind, Byte 1) ∷ (behind + 1, Byte 2) ∷ [] }

-- the leaf goes
abbrev pub leaf_gone : List (Name × Ask)
leaf_gone = (left_leaf (rank root_key), record { more = 0; gone = true }) ∷ []

-- three leaves below the twig need too much, which its bytes alone would count as two new twigs
abbrev pub three_grow : List (Name × Ask)
three_grow =
    (left_leaf (rank root_key), record { more = 84; gone = false })
    ∷ (left_leaf (byte 0), record { more = 1; gone = false })
    ∷ (left_leaf 5, record { more = 1; gone = false }) ∷ []
