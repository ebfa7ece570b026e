-- Texts that are split at a byte.
use Rattle.std.specs.Prelude.{ℕ, List, [], ◌∷◌, nat_eq, if◌then◌else◌}

-- what stands before the first such byte, and all where there is none
abbrev pub until : (stop : ℕ) → List ℕ → List ℕ
until stop [] = []
until stop (b ∷ bytes) = if nat_eq b stop then [] else (b ∷ until stop bytes)

-- a byte before the first of these texts
abbrev pub onto_first : ℕ → List (List ℕ) → List (List ℕ)
onto_first b [] = (b ∷ []) ∷ []
onto_first b (part ∷ parts) = (b ∷ part) ∷ parts

-- what stands between such bytes, before the first and behind the last: always one more than there are of them
abbrev pub split : (stop : ℕ) → List ℕ → List (List ℕ)
split stop [] = [] ∷ []
split stop (b ∷ bytes) = if nat_eq b stop then [] ∷ split stop bytes else onto_first b (split stop bytes)
