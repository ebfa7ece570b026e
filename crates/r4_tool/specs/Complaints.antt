-- What is said on standard error (docs/program.md, "Standard error").
use Rattle.std.specs.Prelude.{◌≡◌, ◌≤◌, ◌+◌, ◌⊎◌, ℕ, List, [], ◌++◌, codes, decimal, drop}
use Rattle.std.specs.Io.{StartsWith}
use Rattle.r4_base.specs.Words.{cell_word_of, layout_word_of, log_word_of}
use Rattle.r4_base.specs.declared.items.CellFault.{CellFault}
use Rattle.r4_base.specs.declared.journal.LogFault.{LogFault}
use Rattle.r4_base.specs.declared.superblock.LayoutFault.{LayoutFault}
use Rattle.r4_devices.specs.declared.trouble.FileCall.{FileCall}
use Rattle.r4_devices.specs.declared.trouble.FileCall.TheVariants.{Open, Read, Write, Sync}

-- the call that failed, before what the system says of it
abbrev pub call_text : FileCall → List ℕ
call_text Open = []
call_text (Read at) = codes "read of block " ++ (decimal at.0 ++ codes ": ")
call_text (Write at) = codes "write of block " ++ (decimal at.0 ++ codes ": ")
call_text Sync = codes "sync: "

-- an image of so many blocks, which are too few or too many
abbrev pub size_text : ℕ → List ℕ
size_text blocks =
    codes "it has " ++ (decimal blocks
    ++ codes " blocks of 4096 bytes, and a volume has from 64 to 1048576")

-- no memory
abbrev pub memory_text : List ℕ
memory_text = codes "there is not enough memory"

-- at a byte of what was printed a line of an image begins, which says so much
abbrev pub BeginsAt : (printed : List ℕ) (at : ℕ) (line : List ℕ) → Type 0
BeginsAt printed at line = drop at printed ≡ codes "image: block " ++ line

-- from a byte on no line of an image begins
abbrev pub LacksFrom : (printed : List ℕ) (from : ℕ) → Type 0
LacksFrom printed from = (at : ℕ) (line : List ℕ) → from ≤ at → BeginsAt printed at line → ⊥

-- the last line of an image says so much
abbrev pub IsLast : (printed line : List ℕ) → Type 0
IsLast printed line = (at : ℕ) × BeginsAt printed at line × LacksFrom printed (at + 1)

-- it names this block
abbrev pub IsLastBlock : (printed block : List ℕ) → Type 0
IsLastBlock printed block = (rest : List ℕ) × IsLast printed (block ++ (codes ": " ++ rest))

-- a refused image: the block that the last line names comes first, or none is told
abbrev pub TellsImage : (printed text : List ℕ) → Type 0
TellsImage printed text =
    ((block : List ℕ) × IsLastBlock printed block
    × StartsWith text (codes "block " ++ (block ++ codes ": ")))
    ⊎ (text ≡ codes "the image is refused")

-- ---- that it is told

-- a word of a fault of an image, as it is printed
abbrev pub IsWord : List ℕ → Type 0
IsWord w = ((f : LogFault) × (w ≡ log_word_of f))
    ⊎ (((f : LayoutFault) × (w ≡ layout_word_of f)) ⊎ ((f : CellFault) × (w ≡ cell_word_of f)))

-- what a line of an image says of a block
abbrev pub line_text : (block : ℕ) (word : List ℕ) → List ℕ
line_text block word = decimal block ++ (codes ": " ++ (word ++ codes "\n"))

abbrev pub block_text : (block : ℕ) → List ℕ
block_text block = codes "block " ++ (decimal block ++ codes ": ")
