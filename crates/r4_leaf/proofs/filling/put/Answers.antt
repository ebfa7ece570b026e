use Rattle.std.proofs.Common.{◌<◌, length, sym, subst, ◌∙◌, arith}
use Rattle.r4_base.specs.Key.{rank}
use Rattle.r4_node40.specs.Loan.{bytes_of}
use Rattle.r4_leaf.specs.Filling.{Puts}
use Rattle.r4_leaf.specs.Pieces.{piece_end, piece_key, piece_units}
use Rattle.r4_leaf.specs.declared.piece.Piece.{Piece}
use Rattle.r4_leaf.proofs.LeftOver.{all_bytes, left_bytes, left_entry, left_stat}
use Rattle.r4_leaf.proofs.filling.put.Goals as goal

pub returns-then-put_stat-clause-takes : goal.returns-then-put_stat-clause-takes
unfolding piece_units
returns-then-put_stat-clause-takes c = subst (λ (x : Piece). Puts (rank (piece_key x)) (piece_end x) (piece_units x) (bytes_of c.args.node.now) (bytes_of c.put_stat.new.node)) (sym c.in-Stat.is) (c.put_stat.ensures.puts c.if-put_stat.true)

pub returns-then-put_entry-clause-takes : goal.returns-then-put_entry-clause-takes
unfolding piece_units
returns-then-put_entry-clause-takes c = subst (λ (x : Piece). Puts (rank (piece_key x)) (piece_end x) (piece_units x) (bytes_of c.args.node.now) (bytes_of c.put_entry.new.node)) (sym c.in-Entry.is) (c.put_entry.ensures.puts c.if-put_entry.true)

pub returns-then-count-len-clause-takes : goal.returns-then-count-len-clause-takes
returns-then-count-len-clause-takes c = all_bytes c.args.piece c.in-Bytes.key c.in-Bytes.bytes (bytes_of c.args.node.now) (bytes_of c.put_run-count.new.node) c.in-Bytes.is c.requires.sound c.put_run-count.result c.put_run-count.ensures.within c.put_run-count.ensures.puts (c.if-count-len.true ∙ c.len.ensures)

pub returns-else-put_stat-clause-takes : goal.returns-else-put_stat-clause-takes
returns-else-put_stat-clause-takes c = left_stat c.args.piece c.in-Stat.key c.in-Stat.body (bytes_of c.args.node.now) (bytes_of c.put_stat.new.node) c.in-Stat.is c.requires.sound (c.put_stat.ensures.same c.if-put_stat.false) (c.put_stat.ensures.full c.if-put_stat.false)

pub returns-else-put_entry-clause-takes : goal.returns-else-put_entry-clause-takes
returns-else-put_entry-clause-takes c = left_entry c.args.piece c.in-Entry.entry (bytes_of c.args.node.now) (bytes_of c.put_entry.new.node) c.in-Entry.is c.requires.sound (c.put_entry.ensures.same c.if-put_entry.false) (c.put_entry.ensures.full c.if-put_entry.false)

pub returns-else-count-len-clause-takes : goal.returns-else-count-len-clause-takes
returns-else-count-len-clause-takes c =
    let within = c.put_run-count.ensures.within in let other = c.if-count-len.false in let long = c.len.ensures in
    let lt : c.put_run-count.result < length c.in-Bytes.bytes = omega (arith, within, other, long) in
    left_bytes c.args.piece c.in-Bytes.key c.in-Bytes.bytes (bytes_of c.args.node.now) (bytes_of c.put_run-count.new.node) c.in-Bytes.is c.requires.sound c.put_run-count.result c.put_run-count.ensures.within c.put_run-count.ensures.puts
    c.behind.result c.tail.result lt c.tail.ensures c.behind.ensures.rank c.behind.ensures.offset (c.put_run-count.ensures.full lt)
