-- Texts that are split at a byte.
use Rattle.std.proofs.Common.{◌≡◌, ℕ, ◌+◌, ◌≤◌, ◌<◌, true, false, cond, nat_eq, List, [], ◌∷◌, ◌++◌, length, drop, refl, ap, ◌∙◌, append_assoc, arith, sym, length-drop, suc, add-one, add_assoc}
use Rattle.std.proofs.lemmas.List.{drop-drop}
use Rattle.r4_script.specs.Split.{until, onto_first, split}

pub until_short : (s : ℕ) (xs : List ℕ) → length (until s xs) ≤ length xs
until_short s [] = omega arith
until_short s (b ∷ bs) =
    let below : length (until s bs) ≤ length bs = until_short s bs in
    elim (nat_eq b s) as (λ v. length (cond v [] (b ∷ until s bs)) ≤ length (b ∷ bs)) [ true ↦ omega arith | false ↦ omega arith ]

-- the last part
pub split_last : (s : ℕ) (xs : List ℕ) → length xs ≤ length (until s xs) → split s xs ≡ until s xs ∷ []
split_last s [] h = refl
split_last s (b ∷ bs) h =
    (elim (nat_eq b s) as (λ v. length (b ∷ bs) ≤ length (cond v [] (b ∷ until s bs)) → cond v ([] ∷ split s bs) (onto_first b (split s bs)) ≡ cond v [] (b ∷ until s bs) ∷ [])
    [ true ↦ λ g. absurd (omega arith) | false ↦ λ g. ap (onto_first b) (split_last s bs (omega arith)) ]) h

-- a part that others follow
pub split_more : (s : ℕ) (xs : List ℕ) → length (until s xs) < length xs → split s xs ≡ until s xs ∷ split s (drop (length (until s xs) + 1) xs)
split_more s [] h = absurd (omega arith)
split_more s (b ∷ bs) h =
    (elim (nat_eq b s) as (λ v. length (cond v [] (b ∷ until s bs)) < length (b ∷ bs) → cond v ([] ∷ split s bs) (onto_first b (split s bs)) ≡ cond v [] (b ∷ until s bs) ∷ split s (drop (length (cond v [] (b ∷ until s bs)) + 1) (b ∷ bs)))
    [ true ↦ λ g. refl | false ↦ λ g. ap (onto_first b) (split_more s bs (omega arith)) ∙ ap (λ (l : List ℕ). (b ∷ until s bs) ∷ split s l) (next b (length (until s bs)) bs) ]) h
  where
    next : (b n : ℕ) (bs : List ℕ) → drop (n + 1) bs ≡ drop (suc n + 1) (b ∷ bs)
    next b n bs = rw (add-one, add-one) refl

-- One name more, where others follow and where none does.
pub names_more : (at : ℕ) (xs : List ℕ) (names : List (List ℕ)) → at ≤ length xs → names ++ split 47 (drop at xs) ≡ split 47 xs → at + length (until 47 (drop at xs)) + 1 ≤ length xs → (names ++ until 47 (drop at xs) ∷ []) ++ split 47 (drop (at + length (until 47 (drop at xs)) + 1) xs) ≡ split 47 xs
names_more at xs names h e k =
    let short : length (until 47 (drop at xs)) < length (drop at xs) = simp length-drop (omega arith) in
    let further : drop (at + length (until 47 (drop at xs)) + 1) xs ≡ drop (length (until 47 (drop at xs)) + 1) (drop at xs) = ap (λ (n : ℕ). drop n xs) (add_assoc at (length (until 47 (drop at xs))) 1) ∙ sym (drop-drop (length (until 47 (drop at xs)) + 1) at xs) in
    append_assoc names (until 47 (drop at xs) ∷ []) _ ∙ ap (λ (l : List ℕ). names ++ (until 47 (drop at xs) ∷ split 47 l)) further
    ∙ ap (λ (l : List (List ℕ)). names ++ l) (sym (split_more 47 (drop at xs) short)) ∙ e

pub names_last : (at : ℕ) (xs : List ℕ) (names : List (List ℕ)) → at ≤ length xs → names ++ split 47 (drop at xs) ≡ split 47 xs → length xs < at + length (until 47 (drop at xs)) + 1 → names ++ until 47 (drop at xs) ∷ [] ≡ split 47 xs
names_last at xs names h e k =
    let short : length (drop at xs) ≤ length (until 47 (drop at xs)) = simp length-drop (omega arith) in
    ap (λ (l : List (List ℕ)). names ++ l) (sym (split_last 47 (drop at xs) short)) ∙ e

-- The same, as the loop has it.
pub names_more_at : (at next : ℕ) (xs part : List ℕ) (names new : List (List ℕ)) → at ≤ length xs → (at ≤ length xs → names ++ split 47 (drop at xs) ≡ split 47 xs) → part ≡ until 47 (drop at xs) → new ≡ names ++ part ∷ [] → next ≡ at + length part + 1 → next ≤ length xs → new ++ split 47 (drop next xs) ≡ split 47 xs
names_more_at at next xs part names new h e is made goes below =
    let same : next ≡ at + length (until 47 (drop at xs)) + 1 = goes ∙ ap (λ (l : List ℕ). at + length l + 1) is in
    ap (λ (l : List (List ℕ)). l ++ split 47 (drop next xs)) (made ∙ ap (λ (l : List ℕ). names ++ l ∷ []) is)
    ∙ ap (λ (n : ℕ). (names ++ until 47 (drop at xs) ∷ []) ++ split 47 (drop n xs)) same
    ∙ names_more at xs names h (e h) (omega arith)

pub names_last_at : (at next : ℕ) (xs part : List ℕ) (names new : List (List ℕ)) → at ≤ length xs → (at ≤ length xs → names ++ split 47 (drop at xs) ≡ split 47 xs) → part ≡ until 47 (drop at xs) → new ≡ names ++ part ∷ [] → next ≡ at + length part + 1 → length xs < next → new ≡ split 47 xs
names_last_at at next xs part names new h e is made goes above =
    let same : next ≡ at + length (until 47 (drop at xs)) + 1 = goes ∙ ap (λ (l : List ℕ). at + length l + 1) is in
    made ∙ ap (λ (l : List ℕ). names ++ l ∷ []) is ∙ names_last at xs names h (e h) (omega arith)
