use Rattle.std.proofs.Common.{◌≡◌, ◌+◌, suc, ℕ, List, length, sym, ap, ◌∙◌, subst, arith}
use Rattle.std.specs.Ordering.{nat_cmp}
use Rattle.std.specs.BTreeMap.{get}
use Rattle.r4_base.specs.Extents.{unit_at, units_of}
use Rattle.r4_base.specs.declared.items.Unit.{Unit as ExtentUnit}
use Rattle.r4_twig.proofs.Places.{get-units_of, length-units_of}
use Rattle.r4_flush.specs.Anew.{new_name, unit_anew}
use Rattle.r4_flush.proofs.Made.{AreMadeTo, made_all, made_map, made_set}
use Rattle.r4_flush.proofs.bodies.rename_units.Goals as goal

pub loop-i-preserved : goal.loop-i-preserved
loop-i-preserved c =
    let g : ExtentUnit → ExtentUnit = unit_anew (new_name (get nat_cmp c.args.names.now)) in
    let us : List ExtentUnit = units_of c.args.body.now in
    let one : c.loop-i.i + 1 ≡ suc c.loop-i.i = omega arith in
    let long = c.loop-i.invariant.1 in
    let here = get-units_of c.loop-i.i c.loop-i.body (omega (arith, long)) in
    let unit = c.renamed_unit-unit.ensures ∙ ap g c.unit_in.ensures in (
      subst (λ (n : ℕ). AreMadeTo (λ (u v : ExtentUnit). v ≡ g u) n us (units_of c.replace.new.body)) (sym one)
          (subst (AreMadeTo (λ (u v : ExtentUnit). v ≡ g u) (suc c.loop-i.i) us) (sym c.replace.ensures.all)
          (made_set (λ (u v : ExtentUnit). v ≡ g u) c.loop-i.i us (units_of c.loop-i.body)
          (unit_at c.loop-i.body c.loop-i.i) c.renamed_unit-unit.result c.loop-i.invariant.0 here unit)),
      c.replace.auto.body ∙ long,
    )

pub returns-clause-units : goal.returns-clause-units
returns-clause-units c =
    let g : ExtentUnit → ExtentUnit = unit_anew (new_name (get nat_cmp c.args.names.now)) in
    let us : List ExtentUnit = units_of c.args.body.now in
    let long = length-units_of c.args.body.now in
    let all : c.loop-i.i ≡ length us = omega (arith, long) in
    made_map g us (units_of c.loop-i.body) (made_all (λ (u v : ExtentUnit). v ≡ g u) us (units_of c.loop-i.body)
    (subst (λ (n : ℕ). AreMadeTo (λ (u v : ExtentUnit). v ≡ g u) n us (units_of c.loop-i.body)) all
    c.loop-i.invariant.0))
