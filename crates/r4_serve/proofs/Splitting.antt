-- A list parted at one of its places.
use Rattle.std.proofs.Common.{◌≡◌, ℕ, ◌+◌, ◌<◌, List, [], ◌∷◌, ◌++◌, sym, ap, ◌∙◌, map, take, drop, length, get_or}
use Rattle.std.proofs.lemmas.List.{append_assoc, map-append, take-append-drop, take_more}

pub parted_at : {A B : Type 0} (f : A → B) (xs : List A) (i : ℕ) (d : A) → i < length xs
    → map f xs ≡ map f (take i xs) ++ f (get_or xs i d) ∷ map f (drop (i + 1) xs)
parted_at f xs i d lt =
    ap (map f) (sym (take-append-drop (i + 1) xs)) ∙ map-append f (take (i + 1) xs) (drop (i + 1) xs)
    ∙ ap (λ l. map f l ++ map f (drop (i + 1) xs)) (take_more xs i d lt)
    ∙ ap (λ l. l ++ map f (drop (i + 1) xs)) (map-append f (take i xs) (get_or xs i d ∷ []))
    ∙ append_assoc (map f (take i xs)) (f (get_or xs i d) ∷ []) (map f (drop (i + 1) xs))
