-- Nodes that are filled from the left are no more than any others with the same in them
-- (docs/volume.md, "Edits").
use Rattle.std.specs.Prelude.{ℕ, ◌≤◌, List, [], ◌∷◌, ◌++◌}

-- all the lists, one after the other
abbrev pub joined : {A : Type 0} → List (List A) → List A
joined [] = []
joined (g ∷ gs) = g ++ joined gs

-- each of the lists has room
abbrev pub EachFits : {A : Type 0} → (size : List A → ℕ) → (room : ℕ) → List (List A) → Type 0
EachFits size room [] = Unit {0}
EachFits size room (g ∷ gs) = (size g ≤ room) × EachFits size room gs
