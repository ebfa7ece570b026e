use Rattle.std.proofs.Common.{◌≡◌, List, [], ◌∷◌, length, refl, ◌∙◌, arith}
use Rattle.std.specs.Prelude.{slice_set}
use Rattle.r4_base.specs.declared.items.Unit.{Unit as ExtentUnit}
use Rattle.r4_twig.proofs.Places.{length-units_of}
use Rattle.r4_branch.proofs.spelling.spell_unit.Goals as goal

one_unit : (us : List ExtentUnit) (u : ExtentUnit) → length us ≡ 1 → slice_set us 0 u ≡ u ∷ []
one_unit [] u e = absurd (omega (arith, e))
one_unit (x ∷ []) u e = refl
one_unit (x ∷ (y ∷ us)) u e = absurd (omega (arith, e))

pub returns-clause-units : goal.returns-clause-units
returns-clause-units c = c.replace.ensures.all ∙ one_unit _ c.args.unit.now (length-units_of _)
