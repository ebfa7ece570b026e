-- The lines that are printed (docs/program.md, "Lines and statuses").
use Rattle.std.specs.Prelude.{ℕ, List, ◌++◌, codes, decimal}

abbrev pub usage_line : List ℕ
usage_line = codes "usage: r4_tool replay, mkfs, run, list or check, then IMAGE and options\n"

abbrev pub device_line : (clock faults : ℕ) → List ℕ
device_line clock faults = codes "device: clock " ++ decimal clock ++ codes " faults " ++ (decimal faults ++ codes "\n")

abbrev pub size_line : (blocks : ℕ) → List ℕ
size_line blocks = codes "size: " ++ decimal blocks ++ codes " blocks\n"

abbrev pub image_line : (block : ℕ) (what : List ℕ) → List ℕ
image_line block what = codes "image: block " ++ decimal block ++ codes ": " ++ (what ++ codes "\n")

abbrev pub memory_line : List ℕ
memory_line = codes "memory\n"

abbrev pub replayed_line : (count : ℕ) → List ℕ
replayed_line count = codes "replayed " ++ decimal count ++ codes "\n"

abbrev pub made_line : (blocks free : ℕ) → List ℕ
made_line blocks free = codes "made " ++ decimal blocks ++ codes " blocks " ++ (decimal free ++ codes " free\n")

abbrev pub source_line : (faults : ℕ) → List ℕ
source_line faults = codes "source: faults " ++ decimal faults ++ codes "\n"

abbrev pub script_line : (line column : ℕ) (what : List ℕ) → List ℕ
script_line line column what =
    codes "script: line " ++ decimal line ++ codes " column "
    ++ (decimal column ++ codes ": " ++ (what ++ codes "\n"))
