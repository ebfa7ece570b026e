-- Steps taken one after another.
use Rattle.std.proofs.Common.{◌≡◌, ℕ, ◌+◌, ◌<◌, List, [], ◌∷◌, ◌++◌, length, map, take, get_or, refl, ap, ◌∙◌}
use Rattle.std.specs.Prelude.{Option}
use Rattle.std.proofs.lemmas.List.{take_more}
use Rattle.r4_buffer.specs.Seen.{EntrySeen}
use Rattle.r4_buffer.specs.Changed.{in_turn}

pub in_turn-push : {A : Type 0} (step : A → ℕ → Option EntrySeen → Option EntrySeen) (xs : List A) (x : A) (i : ℕ) (o : Option EntrySeen) → in_turn step (xs ++ x ∷ []) i o ≡ step x i (in_turn step xs i o)
in_turn-push {A} step [] x i o = refl
in_turn-push {A} step (y ∷ xs) x i o = in_turn-push step xs x i (step y i o)

pub in_turn-map_push : {A B : Type 0} (step : A → ℕ → Option EntrySeen → Option EntrySeen) (f : B → A) (ys : List B) (y : B) (i : ℕ) (o : Option EntrySeen) → in_turn step (map f (ys ++ y ∷ [])) i o ≡ step (f y) i (in_turn step (map f ys) i o)
in_turn-map_push {A} {B} step f [] y i o = refl
in_turn-map_push {A} {B} step f (x ∷ ys) y i o = in_turn-map_push step f ys y i (step (f x) i o)

pub in_turn-take : {A : Type 0} (step : A → ℕ → Option EntrySeen → Option EntrySeen) (xs : List A) (k : ℕ) (d : A) (i : ℕ) (o : Option EntrySeen) → k < length xs → in_turn step (take (k + 1) xs) i o ≡ step (get_or xs k d) i (in_turn step (take k xs) i o)
in_turn-take {A} step xs k d i o lt = ap (λ (l : List A). in_turn step l i o) (take_more xs k d lt) ∙ in_turn-push step (take k xs) (get_or xs k d) i o

pub in_turn-map_take : {A B : Type 0} (step : A → ℕ → Option EntrySeen → Option EntrySeen) (f : B → A) (xs : List B) (k : ℕ) (d : B) (i : ℕ) (o : Option EntrySeen) → k < length xs → in_turn step (map f (take (k + 1) xs)) i o ≡ step (f (get_or xs k d)) i (in_turn step (map f (take k xs)) i o)
in_turn-map_take {A} {B} step f xs k d i o lt = ap (λ (l : List B). in_turn step (map f l) i o) (take_more xs k d lt) ∙ in_turn-map_push step f (take k xs) (get_or xs k d) i o
