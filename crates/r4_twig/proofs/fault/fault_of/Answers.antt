use Rattle.std.proofs.Common.{◌≡◌, Some, None, length, sym, ap, ◌∙◌}
use Rattle.std.proofs.lemmas.Bool.{eqb-false}
use Rattle.r4_base.specs.declared.items.Unit.{Unit as ExtentUnit}
use Rattle.r4_base.specs.Extents.{unit_at, unit_fault}
use Rattle.r4_twig.proofs.Faults.{fault_first, fault_here, fault_later, fault_none, no_fault}
use Rattle.r4_twig.proofs.fault.fault_of.Goals as goal

pub loop-i-init : goal.loop-i-init
loop-i-init c = fault_first c.args.in_memory c.args.blocks c.args.body.now (eqb-false (length c.args.body.now) 0 (sym c.is_empty.ensures ∙ c.if-is_empty.false)) c.if-body-ne0.false

pub returns-in-Some : goal.returns-in-Some
returns-in-Some c =
    let unit : unit_at c.args.body.now c.loop-i.i ≡ c.unit_in-unit.result = sym (c.unit_in-unit.ensures ∙ ap (unit_at c.args.body.now) c.from.ensures) in
    let is : unit_fault c.args.in_memory c.args.blocks c.loop-i.i (unit_at c.args.body.now c.loop-i.i) ≡ Some c.in-Some.fault = ap (λ (u : ExtentUnit). unit_fault c.args.in_memory c.args.blocks c.loop-i.i u) unit ∙ sym c.fault_of_unit.ensures ∙ c.in-Some.is in
    sym (c.loop-i.invariant ∙ fault_here c.args.in_memory c.args.blocks c.loop-i.i c.args.body.now c.in-Some.fault c.loop-i-test.true is)

pub loop-i-preserved : goal.loop-i-preserved
loop-i-preserved c =
    let unit : unit_at c.args.body.now c.loop-i.i ≡ c.unit_in-unit.result = sym (c.unit_in-unit.ensures ∙ ap (unit_at c.args.body.now) c.from.ensures) in
    let none : unit_fault c.args.in_memory c.args.blocks c.loop-i.i (unit_at c.args.body.now c.loop-i.i) ≡ None = ap (λ (u : ExtentUnit). unit_fault c.args.in_memory c.args.blocks c.loop-i.i u) unit ∙ sym c.fault_of_unit.ensures ∙ no_fault c.fault_of_unit.result c.in_default.not-Some in
    c.loop-i.invariant ∙ fault_later c.args.in_memory c.args.blocks c.loop-i.i c.args.body.now c.loop-i-test.true none

pub returns : goal.returns
returns c = sym (c.loop-i.invariant ∙ fault_none c.args.in_memory c.args.blocks c.loop-i.i c.args.body.now c.loop-i-test.false)
