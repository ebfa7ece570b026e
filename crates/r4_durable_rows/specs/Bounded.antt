-- How long a commit may take (docs/durable.md, "How long a commit takes").
use Rattle.std.specs.Prelude.{ℕ, ◌+◌, ◌*◌, ◌/◌}

-- The most writes and syncs of the commit of so many cells, on a volume of so many bitmaps: what is
-- overwritten, at most the cells, the bitmaps and the superblock, is written twice, in the log and at
-- home; there is a record for each 254 of these or part of them; and the head, the journal header, the
-- journal footer and the syncs of the four parts are seven.
abbrev pub most_calls : (cells bitmaps : ℕ) → ℕ
most_calls cells bitmaps = 2 * (cells + bitmaps + 1) + (cells + bitmaps + 1 + 253) / 254 + 7
