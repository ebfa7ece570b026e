-- The summary of a run: how many objects and bytes its commands made, and how many were refused
-- (docs/scripts.md, "The generated workload").
use Rattle.std.specs.Prelude.{ℕ, ◌-◌, ◌^◌, min, List, ◌++◌, codes, decimal, sum_by}
use Rattle.std.specs.Prelude.{if◌then◌else◌}
use Rattle.std.specs.FinMap.{entries}
use Rattle.r4_base.specs.Value.{Value, Stat, Entry, Byte, Content, value_of}
use Rattle.r4_base.specs.Volume.{empty_volume, is_directory, is_stat_value, objects_in}
use Rattle.r4_content.specs.Locality.{commands}
use Rattle.r4_content.specs.Meaning.{greatest_size}
use Rattle.r4_content.specs.declared.seen.SeenPart.{SeenPart}
use Rattle.r4_content.specs.declared.seen.SeenPart.TheVariants.{One, Run}
use Rattle.r4_trace.specs.Folds.{content_of, everything}
use Rattle.r4_trace.specs.declared.entry.Entry.{Entry as TraceEntry}
use Rattle.r4_trace.specs.declared.entry.Entry.TheVariants.{Refused}

-- the size of a file, where a value is its stat data
abbrev pub file_size : Value → ℕ
file_size (Stat a) = if is_directory a then 0 else a.size
file_size (Entry n o) = 0
file_size (Byte x) = 0

-- the sizes of all files of a content
abbrev pub bytes_in : Content → ℕ
bytes_in m = sum_by (λ u. file_size u.1) (entries m)

-- what the Done entries, in their order, make of the empty volume; the newest entry stands first
abbrev pub made_by : List TraceEntry → Content
made_by trace = content_of (commands greatest_size) empty_volume everything trace

abbrev pub refused_one : TraceEntry → ℕ
refused_one (Refused txn script index reply) = 1
refused_one e = 0

-- how many entries are of commands that were refused
abbrev pub refused_in : List TraceEntry → ℕ
refused_in trace = sum_by refused_one trace

-- a number as it is counted: counts stand still at 2^64 - 1
abbrev pub counted : ℕ → ℕ
counted n = min n (2 ^ 64 - 1)

-- the one line that tells them, of the workload of a seed
abbrev pub refused_text : (bytes refused : ℕ) → List ℕ
refused_text bytes refused = decimal bytes ++ codes " refused " ++ (decimal refused ++ codes "\n")

abbrev pub totals_text : (objects bytes refused : ℕ) → List ℕ
totals_text objects bytes refused = decimal objects ++ codes " bytes " ++ refused_text bytes refused

abbrev pub summary_line : (seed objects bytes refused : ℕ) → List ℕ
summary_line seed objects bytes refused = codes "gen " ++ decimal seed ++ codes ": objects "
    ++ totals_text objects bytes refused

-- the summary of a trace
abbrev pub summary_text : (seed : ℕ) → (trace : List TraceEntry) → List ℕ
summary_text seed trace =
    summary_line seed (objects_in (made_by trace)) (counted (bytes_in (made_by trace))) (refused_in trace)

-- ---- of the parts in which a content is kept: whether one is stat data, and of a file of what size

abbrev pub stats_in : SeenPart → ℕ
stats_in (One k v) = if is_stat_value (value_of v) then 1 else 0
stats_in (Run r) = 0

abbrev pub size_in : SeenPart → ℕ
size_in (One k v) = file_size (value_of v)
size_in (Run r) = 0
