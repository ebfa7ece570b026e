-- A list that was gone through to its end.
use Rattle.std.proofs.Common.{ℕ, ◌≤◌, List, length, subst, take}
use Rattle.std.specs.Prelude.{All}
use Rattle.std.proofs.lemmas.List.{take_all}

pub all_there : {X : Type 0} (P : X → Type 0) (xs : List X) (i : ℕ) → length xs ≤ i → All P (take i xs) → All P xs
all_there {X} P xs i le h = subst (All P) (take_all i xs le) h
