use Rattle.std.proofs.Common.{List, sym}
use Rattle.r4_cell.specs.Seen.{CellSeen}
use Rattle.r4_core.specs.r4_flushing.Sealable.{MaySeal}
use Rattle.r4_core.specs.r4_flushing.Sealing.{HasSealed}
use Rattle.r4_core.specs.r4_ready.Rooms.{HasMoreRoom}
use Rattle.r4_seal.proofs.Roomy.{more_and_more}
use Rattle.r4_seal.proofs.Sealings.{flushed_empty, flushed_with, none_of, on_err, on_ok}
use Rattle.r4_seal.specs.Flushing.{IsFlushed}
use Rattle.r4_seal.proofs.flushing.seal.Goals as goal

pub returns-then-is_empty-clause-ok : goal.returns-then-is_empty-clause-ok
returns-then-is_empty-clause-ok g c =
    flushed_empty c.args.core.now c.make_room.new.self c.seal_empty.new.self c.args.atom c.in_ok-nodes.nodes.items
    c.in_ok-make_room.ensures.more (none_of c.in_ok-nodes.nodes.items c.in_ok-nodes.nodes.len (sym c.in_ok-nodes.nodes.ok.0) (sym c.if-is_empty.ensures)) (rw c.atoms.ensures at c.in_ok-nodes.ensures.owned)
    c.seal_empty.ensures

pub returns-clause-ok : goal.returns-clause-ok
returns-clause-ok g c =
    on_ok c.seal.result
    ((cells : List CellSeen) → MaySeal c.make_room.new.self c.args.atom c.in_ok-prepared.prepared cells
    → HasSealed c.make_room.new.self c.seal.new.self c.args.atom cells c.in_ok-prepared.prepared)
    (IsFlushed c.args.core.now c.seal.new.self c.args.atom)
    (flushed_with c.args.core.now c.make_room.new.self c.seal.new.self c.args.atom c.in_ok-prepared.prepared
    c.in_ok-make_room.ensures.more c.in_ok-prepared.ensures.0 c.in_ok-prepared.ensures.1)
    c.seal.ensures.ok

pub returns-clause-err : goal.returns-clause-err
returns-clause-err g c =
    on_err c.seal.result (HasMoreRoom c.make_room.new.self c.seal.new.self)
    (HasMoreRoom c.args.core.now c.seal.new.self)
    (λ more. more_and_more c.args.core.now c.make_room.new.self c.seal.new.self c.in_ok-make_room.ensures.more more)
    c.seal.ensures.err
