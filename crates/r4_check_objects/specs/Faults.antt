-- The faults that a check prints, and their lines (docs/check.md).
use Rattle.std.specs.Prelude.{ℕ, List, [], ◌∷◌, ◌++◌, codes, decimal}
use Rattle.r4_base.specs.Words.{cell_word_of}
use Rattle.r4_check_objects.specs.declared.fault.Fault.{Fault}
use Rattle.r4_check_objects.specs.declared.fault.What.{What}
use Rattle.r4_check_objects.specs.declared.fault.What.TheVariants.{Cell, Twice, Unmarked, Size, Links, Lost, Id, Files}

-- what is wrong at a block
abbrev pub word_of : What → List ℕ
word_of (Cell f) = cell_word_of f
word_of Twice = codes "twice"
word_of Unmarked = codes "unmarked"
word_of Size = codes "size"
word_of Links = codes "links"
word_of Lost = codes "lost"
word_of Id = codes "id"
word_of Files = codes "files"

-- one fault is one line
unfoldable pub fault_line : Fault → List ℕ
fault_line f = codes "fault block " ++ (decimal f.block.0 ++ (codes ": " ++ (word_of f.what ++ codes "\n")))

abbrev pub fault_lines : List Fault → List ℕ
fault_lines [] = []
fault_lines (f ∷ faults) = fault_line f ++ fault_lines faults

-- the fault of a block by its number
abbrev pub fault_at : (block : ℕ) → What → Fault
fault_at b what = record { block = record { 0 = b }; what = what }
