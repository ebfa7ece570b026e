-- Edits, and what was seen, as they are held in memory: bytes of a file stand in intervals and in
-- runs (docs/commands.md, "Edits").
use Rattle.std.specs.Prelude.{ℕ, ◌≤◌, ◌-◌, [], ◌∷◌, ◌++◌, length, map, replicate}
use Rattle.std.specs.List.{flat_map}
use Rattle.r4_base.specs.Key.{rank}
use Rattle.r4_base.specs.Value.{Value, value_of}
use Rattle.r4_base.specs.declared.key.Key.{Key}
use Rattle.r4_base.specs.declared.values.Value.{Value as HeldValue}
use Rattle.r4_content.specs.Course.{Ending}
use Rattle.r4_content.specs.Edited.{Edits, Pairs}
use Rattle.r4_content.specs.Objects.{byte_pairs}
use Rattle.r4_content.specs.declared.edits.ByteRun.{ByteRun}
use Rattle.r4_content.specs.declared.edits.Edits.{Edits as HeldEdits}
use Rattle.r4_content.specs.declared.edits.FilledInterval.{FilledInterval}
use Rattle.r4_content.specs.declared.edits.Interval.{Interval}
use Rattle.r4_content.specs.declared.seen.Seen.{Seen}
use Rattle.r4_content.specs.declared.seen.SeenPart.{SeenPart}
use Rattle.r4_content.specs.declared.seen.SeenPart.TheVariants.{One, Run}

abbrev pub interval_of : Interval → ℕ × ℕ
interval_of i = (rank i.from, rank i.to)

abbrev pub pair_of : Key × HeldValue → ℕ × Value
pair_of p = (rank p.0, value_of p.1)

-- one byte after another
abbrev pub run_pairs : ByteRun → Pairs
run_pairs r = byte_pairs (rank r.from) r.bytes

-- the same byte at each key
abbrev pub fill_pairs : FilledInterval → Pairs
fill_pairs f = byte_pairs (rank f.from) (replicate (rank f.to - rank f.from) f.byte)

-- the edits that are meant
abbrev pub edits_of : HeldEdits → Edits
edits_of e = record {
  cuts = map interval_of e.cuts.items;
  zeros = map interval_of e.zeros.items;
  puts = flat_map fill_pairs e.fills.items ++ (flat_map run_pairs e.runs.items
      ++ map pair_of e.puts.items);
}

-- with the reply, how a command ends
abbrev pub ending_of : HeldEdits → Ending
ending_of e = record { edits = edits_of e; reply = e.reply }

-- they take no more memory than for so many runs, fills and values: the bytes of a text or of a
-- fill are none of these
abbrev pub HoldsAtMost : (runs fills puts : ℕ) → HeldEdits → Type 0
HoldsAtMost runs fills puts e =
    (length e.runs.items ≤ runs) × (length e.fills.items ≤ fills) × (length e.puts.items ≤ puts)

abbrev pub part_pairs : SeenPart → Pairs
part_pairs (One k v) = (rank k, value_of v) ∷ []
part_pairs (Run r) = run_pairs r

-- what was seen, as one list of pairs
abbrev pub pairs_of : Seen → Pairs
pairs_of s = flat_map part_pairs s.parts.items
