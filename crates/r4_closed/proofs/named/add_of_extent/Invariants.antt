use Rattle.std.proofs.Common.{◌≡◌, ◌++◌, ◌∷◌, [], take}
use Rattle.std.specs.Prelude.{flat_map}
use Rattle.r4_twig.specs.View.{view_units}
use Rattle.r4_closed.specs.Named.{new_of}
use Rattle.r4_closed.proofs.named.add_of_extent.Given as goal

abbrev pub invariant-loop-i : goal.invariant-loop-i
invariant-loop-i l = l.named.items ≡ l.initial.named.items
    ++ flat_map (λ u. new_of (u.start ∷ [])) (take l.i (view_units l.extent))
