use Rattle.std.proofs.Common.{ap, refl}
use Rattle.r4_cell.specs.declared.change.Root.{Root}
use Rattle.r4_seal.proofs.Judged.{IsLookedAt, closed_so, may_seal, prepared_so, room_for, stand_in}
use Rattle.r4_seal.specs.Cells.{cells_under}
use Rattle.r4_seal.proofs.preparing.prepare_for.Goals as goal

pub prepare-requires-clause-room : goal.prepare-requires-clause-room
prepare-requires-clause-room g c =
    room_for _ _ c.args.core.now c.args.atom c.args.nodes.now c.lawful.ensures.kept
    (rw c.space.ensures at c.lawful-2.ensures) c.lawful.ensures.buffer (record {
      sound = c.requires.sound;
      rest = c.requires.rest;
      closed = c.requires.closed;
      entries = c.requires.entries;
      rising = c.requires.rising;
      owned = c.requires.owned;
      counted = c.if-not-are_counted.ensures refl;
    }) c.in_ok-cells.cells.items c.space-2.result.now (rw c.buffer.ensures at c.in_ok-cells.ensures) c.space-2.ensures

pub prepare-requires-clause-stand : goal.prepare-requires-clause-stand
prepare-requires-clause-stand g c =
    stand_in _ _ c.args.core.now c.args.atom c.args.nodes.now c.lawful.ensures.kept
    (rw c.space.ensures at c.lawful-2.ensures) c.lawful.ensures.buffer (record {
      sound = c.requires.sound;
      rest = c.requires.rest;
      closed = c.requires.closed;
      entries = c.requires.entries;
      rising = c.requires.rising;
      owned = c.requires.owned;
      counted = c.if-not-are_counted.ensures refl;
    }) c.in_ok-cells.cells.items c.space-2.result.now (rw c.buffer.ensures at c.in_ok-cells.ensures) c.space-2.ensures

pub returns-then-names_are_clear : goal.returns-then-names_are_clear
returns-then-names_are_clear g c =
    let kept = c.lawful.ensures.kept in
    let lawful = rw c.space.ensures at c.lawful-2.ensures in
    let cells = rw c.buffer.ensures at c.in_ok-cells.ensures in
    let looked : IsLookedAt c.args.core.now c.args.atom c.args.nodes.now =
    record {
      sound = c.requires.sound;
      rest = c.requires.rest;
      closed = c.requires.closed;
      entries = c.requires.entries;
      rising = c.requires.rising;
      owned = c.requires.owned;
      counted = c.if-not-are_counted.ensures refl;
    } in (
      cells_under c.args.core.now.buffer c.args.nodes.now,
      may_seal _ _ c.args.core.now c.args.atom c.args.nodes.now kept lawful c.lawful.ensures.buffer looked
          c.in_ok-prepared.prepared c.in_ok-blocks.blocks.items
          (closed_so _ _ c.args.core.now c.args.atom c.args.nodes.now kept lawful c.lawful.ensures.buffer looked
          c.in_ok-cells.cells.items c.tree.result.id c.in_ok-are_closed.field-0 cells (ap (λ (t : Root). t.id) c.tree.ensures) c.if-not-branch.false
          (rw c.as_slice.ensures.value at c.in_ok-are_closed.ensures))
          (rw c.space-else-not-are_counted.ensures at c.if-not-are_used.ensures refl)
          (prepared_so _ _ c.args.core.now c.args.atom c.args.nodes.now kept lawful c.lawful.ensures.buffer looked
          c.in_ok-cells.cells.items _ _ _ c.in_ok-prepared.prepared cells c.super_to_come-next.ensures
          (ap (λ v. v.prev) c.volume.ensures) c.space-2.ensures c.in_ok-prepared.ensures)
          c.in_ok-blocks.ensures (rw c.as_slice-2.ensures.value at c.if-are_clear.ensures refl) (rw c.as_slice-then-are_clear.ensures.value at c.if-names_are_clear.ensures refl),
    )
