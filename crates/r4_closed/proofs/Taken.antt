-- A list that is taken element by element.
use Rattle.std.proofs.Common.{◌≡◌, ℕ, ◌+◌, ◌<◌, ◌≤◌, List, [], ◌∷◌, ◌++◌, length, get_or, take, sym, ap, ◌∙◌, subst}
use Rattle.std.specs.Prelude.{All, Some, flat_map, slice_get}
use Rattle.std.proofs.lemmas.List.{flat_map_more, take_all, take_more}
use Rattle.std.proofs.lemmas.List.Elements.{All-get_or, All-more}
use Rattle.std.proofs.lemmas.Option.{get_or_from_slice_get, slice_get_within}

-- what one more element adds
pub flat_next : {X : Type 0} (f : X → List ℕ) (xs : List X) (i : ℕ) (x : X) (was has now : List ℕ) → i < length xs
    → x ≡ get_or xs i x → has ≡ was ++ flat_map f (take i xs) → now ≡ has ++ f x
    → now ≡ was ++ flat_map f (take (i + 1) xs)
flat_next {X} f xs i x was has now lt is so adds =
    let more : take (i + 1) xs ≡ take i xs ++ (x ∷ []) =
    take_more xs i x lt ∙ ap (λ (y : X). take i xs ++ (y ∷ [])) (sym is) in
    adds ∙ ap (λ (l : List ℕ). l ++ f x) so ∙ flat_map_more f was (take i xs) x
    ∙ ap (λ (l : List X). was ++ flat_map f l) (sym more)

pub flat_all : {X : Type 0} (f : X → List ℕ) (xs : List X) (i : ℕ) (was now : List ℕ) → length xs ≤ i
    → now ≡ was ++ flat_map f (take i xs) → now ≡ was ++ flat_map f xs
flat_all {X} f xs i was now le so = so ∙ ap (λ (l : List X). was ++ flat_map f l) (take_all i xs le)

pub all_next : {X : Type 0} (P : X → Type 0) (xs : List X) (i : ℕ) (x : X) → i < length xs → x ≡ get_or xs i x
    → All P (take i xs) → P x → All P (take (i + 1) xs)
all_next P xs i x lt is before here = All-more P xs i x lt before (subst P is here)

pub all_there : {X : Type 0} (P : X → Type 0) (xs : List X) (i : ℕ) → length xs ≤ i → All P (take i xs) → All P xs
all_there {X} P xs i le h = subst (All P) (take_all i xs le) h

-- one that was read is the one at its place
pub read_at : {X : Type 0} (xs : List X) (i : ℕ) (x : X) → slice_get xs i ≡ Some x → x ≡ get_or xs i x
read_at xs i x is = sym (get_or_from_slice_get xs i x x is)

-- what holds of all holds of the one that was read
pub at_place : {X : Type 0} (P : X → Type 0) (xs : List X) (i : ℕ) (x : X) → slice_get xs i ≡ Some x → All P xs → P x
at_place P xs i x is all =
    subst P (get_or_from_slice_get xs i x x is) (All-get_or P xs i x (slice_get_within xs i x is) all)
