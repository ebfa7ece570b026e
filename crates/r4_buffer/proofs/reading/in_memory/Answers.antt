use Rattle.std.proofs.Common.{sym, ap, ◌∙◌}
use Rattle.std.specs.Arc.{arc_value}
use Rattle.r4_search.specs.Pool.{called, place_fault}
use Rattle.r4_buffer.proofs.reading.in_memory.Goals as goal

pub returns-in-None : goal.returns-in-None
returns-in-None c =
    let n = called c.args.id.0 c.args.level c.args.lo c.args.hi in
    (sym c.in-Some.ensures, ap (place_fault n) (sym c.deref.ensures) ∙ sym (c.fault_of_place.ensures c.args.id.0) ∙ c.in-None.is)

pub returns-in-Some-fault_of_place : goal.returns-in-Some-fault_of_place
returns-in-Some-fault_of_place c =
    let n = called c.args.id.0 c.args.level c.args.lo c.args.hi in (
      sym c.is_captured.ensures ∙ c.if-is_captured.true,
      (
        arc_value c.in-Some.cell.now,
        sym c.in-Some.ensures,
        ap (place_fault n) (sym c.deref.ensures) ∙ sym (c.fault_of_place.ensures c.args.id.0) ∙ c.in-Some-fault_of_place.is,
      ),
    )
