-- Shared cells, counted and looked for.
use Rattle.std.proofs.Common.{◌≡◌, ◌+◌, ◌<◌, ◌||◌, ◌++◌, ℕ, Bool, cond, List, [], ◌∷◌, count_by}
use Rattle.std.proofs.Common.{Contains, zero, suc, get_or, length, take, refl, sym, ◌∙◌, ap, arith}
use Rattle.std.proofs.lemmas.List.{map-append, take_more}
use Rattle.std.proofs.lemmas.List.Sums.{sum_by-cons}
use Rattle.std.specs.Arc.{arc_value}
use Rattle.std.specs.List.{list_any}
use Rattle.r4_done.specs.r4_buffer.Seen.{cells_of}
use Rattle.r4_cell.specs.Seen.{CellSeen}
use Rattle.r4_done.specs.r4_search.Keeping.{Shared}

pub any_cell : (p : CellSeen → Bool) (xs : List Shared)
    → list_any (λ (x : Shared). p (arc_value x)) xs ≡ list_any p (cells_of xs)
any_cell p [] = refl
any_cell p (x ∷ xs) = ap (λ (b : Bool). p (arc_value x) || b) (any_cell p xs)

pub count_cells : (p : CellSeen → Bool) (xs : List Shared)
    → count_by (λ (x : Shared). p (arc_value x)) xs ≡ count_by p (cells_of xs)
count_cells p [] = refl
count_cells p (x ∷ xs) =
    sum_by-cons (λ (y : Shared). cond {A = ℕ} (p (arc_value y)) 1 0) x xs
    ∙ ap (λ (n : ℕ). cond {A = ℕ} (p (arc_value x)) 1 0 + n) (count_cells p xs)
    ∙ sym (sum_by-cons (λ (y : CellSeen). cond {A = ℕ} (p y) 1 0) (arc_value x) (cells_of xs))

-- the first cells of a list, and one more
pub cells_more : (xs : List Shared) (i : ℕ) (d : Shared) → i < length xs
    → cells_of (take (i + 1) xs) ≡ cells_of (take i xs) ++ arc_value (get_or xs i d) ∷ []
cells_more xs i d lt =
    ap cells_of (take_more xs i d lt)
    ∙ map-append (λ (x : Shared). arc_value x) (take i xs) (get_or xs i d ∷ [])

pub only_cell : (y x : CellSeen) → Contains (y ∷ []) x → x ≡ y
only_cell y x (zero, lt, is) = sym is
only_cell y x (suc k, lt, is) = absurd (omega (arith, lt))
