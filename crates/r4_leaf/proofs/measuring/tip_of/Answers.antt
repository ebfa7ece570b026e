use Rattle.std.proofs.Common.{◌+◌, ap, ◌∙◌}
use Rattle.r4_base.specs.Key.{rank}
use Rattle.r4_leaf.proofs.Measured.{bytes_tip, entry_tip, stat_tip}
use Rattle.r4_leaf.proofs.measuring.tip_of.Goals as goal

pub returns-in-Stat : goal.returns-in-Stat
returns-in-Stat c = stat_tip c.args.piece.now _ _ c.in-Stat.is

pub returns-in-Entry : goal.returns-in-Entry
returns-in-Entry c = entry_tip c.args.piece.now c.in-Entry.entry c.in-Entry.is c.requires

pub returns-in-Bytes : goal.returns-in-Bytes
returns-in-Bytes c =
    bytes_tip c.args.piece.now c.in-Bytes.key c.in-Bytes.bytes c.behind.result c.in-Bytes.is c.requires
    (c.behind.ensures.rank ∙ ap (λ n. rank c.in-Bytes.key + n) c.len.ensures)
