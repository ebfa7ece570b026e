-- Changes that are still collected, as edits (docs/commands.md, "Edits").
use Rattle.std.specs.Prelude.{[], map}
use Rattle.r4_content.specs.Edited.{Edits}
use Rattle.r4_content.specs.Held.{interval_of, pair_of}
use Rattle.r4_dir.specs.declared.editing.Changes.{Changes}

abbrev pub edits_made : Changes → Edits
edits_made c = record {
  cuts = map interval_of c.cuts.items;
  zeros = [];
  puts = map pair_of
      c.puts.items;
}
