-- What a record that was read says, and the block that it lends.
use Rattle.std.specs.Prelude.{List, ℕ}
use Rattle.std.specs.Borrow.{Bor}
use Rattle.r4_base.specs.Log.{Record, pairs_of}
use Rattle.r4_logfmt.specs.declared.record.LogRecord.{LogRecord}

-- the block
abbrev pub view_block : LogRecord → Bor (List ℕ)
view_block r = r.block

-- the record, with the pairs that the block spells
abbrev pub view_record : LogRecord → Record
view_record r = record { id = r.id; total = r.total; serial = r.serial; next_block = r.next_block; pairs = pairs_of r.block.now }
