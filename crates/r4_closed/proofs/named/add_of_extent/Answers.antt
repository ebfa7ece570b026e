use Rattle.std.proofs.Common.{◌++◌, ◌∷◌, [], ◌≤◌, ℕ, List, length, sym, ap, ◌∙◌, arith}
use Rattle.std.specs.Prelude.{flat_map}
use Rattle.std.proofs.lemmas.Option.{slice_get_within}
use Rattle.r4_base.specs.declared.items.Unit.{Unit as ExtentUnit}
use Rattle.r4_twig.specs.View.{view_units}
use Rattle.r4_closed.specs.Named.{new_of}
use Rattle.r4_closed.proofs.Items.{extent_new}
use Rattle.r4_closed.proofs.Taken.{flat_all, flat_next, read_at}
use Rattle.r4_closed.proofs.named.add_of_extent.Goals as goal

pub loop-i-preserved : goal.loop-i-preserved
loop-i-preserved c = flat_next (λ (u : ExtentUnit). new_of (u.start ∷ [])) (view_units c.in-Ok.extent) c.loop-i.i
    c.unit.result c.args.named.now.items c.loop-i.named.items c.add_if_new.new.named.items
    (slice_get_within (view_units c.in-Ok.extent) c.loop-i.i c.unit.result c.unit.ensures)
    (read_at (view_units c.in-Ok.extent) c.loop-i.i c.unit.result c.unit.ensures)
    c.loop-i.invariant c.in_ok-add_if_new.ensures

pub returns-clause-named : goal.returns-clause-named
returns-clause-named c = λ yes key.
    let past : length (view_units c.in-Ok.extent) ≤ c.loop-i.i =
    omega (arith, c.loop-i-test.false, c.len-i-end.ensures.units) in
    flat_all (λ (u : ExtentUnit). new_of (u.start ∷ [])) (view_units c.in-Ok.extent) c.loop-i.i c.args.named.now.items
    c.loop-i.named.items past c.loop-i.invariant
    ∙ ap (λ (us : List ExtentUnit). c.args.named.now.items ++ flat_map (λ (u : ExtentUnit). new_of (u.start ∷ [])) us)
    c.in-Ok.ensures.units
    ∙ ap (λ (l : List ℕ). c.args.named.now.items ++ l) (sym (extent_new key c.args.body.now c.in-Ok.ensures.ok))
