-- Words that spell no command.
use Rattle.std.proofs.Common.{◌≡◌, ◌≢◌, ℕ, ◌<◌, Bool, true, false, cond, List, [], ◌∷◌, bytes_eq, codes, get_or, length, map, Option, None, refl, ap, ◌∙◌, arith, subst, sym}
use Rattle.std.proofs.lemmas.Slice.Eq.{bytes_eq-Decides}
use Rattle.r4_words.specs.Words.{Asked, asked_of}

pub too_few : {A : Type 0} (f : A → List ℕ) (words : List A) → length words < 2 → None ≡ asked_of (map f words)
too_few f [] below = refl
too_few f (name ∷ []) below = refl
too_few f (name ∷ image ∷ rest) below = absurd (omega (arith, below))

-- where a test leads to none on one side, none comes from the other
otherwise : (b : Bool) (x : Option Asked) → None ≡ x → None ≡ cond b None x
otherwise true x none = refl
otherwise false x none = none

-- a word that is not this one
differs : (b : Bool) → (b ≡ true → ⊥) → b ≡ false
differs true never = absurd (never refl)
differs false never = refl

past : (word other : List ℕ) (x y : Option Asked) → word ≢ other → None ≡ y → None ≡ cond (bytes_eq word other) x y
past word other x y other_one none = none ∙ ap (λ b. cond b x y) (sym (differs (bytes_eq word other) (λ same. other_one ((bytes_eq-Decides word other).0 same))))

module _ (name : List ℕ) (not_replay : name ≢ codes "replay") (not_check : name ≢ codes "check") (not_mkfs : name ≢ codes "mkfs") (not_list : name ≢ codes "list") (not_run : name ≢ codes "run") where
  unknown_name : (image : List ℕ) (words : List (List ℕ)) → None ≡ asked_of (name ∷ image ∷ words)
  unknown_name image words = otherwise _ _ (past name (codes "replay") _ _ not_replay (past name (codes "check") _ _ not_check (past name (codes "mkfs") _ _ not_mkfs (past name (codes "list") _ _ not_list (past name (codes "run") _ _ not_run refl)))))

pub unknown : {A : Type 0} (f : A → List ℕ) (words : List A) (first : A) (name : List ℕ) → first ≡ get_or words 0 first → name ≡ f first → name ≢ codes "replay" → name ≢ codes "check" → name ≢ codes "mkfs" → name ≢ codes "list" → name ≢ codes "run" → None ≡ asked_of (map f words)
unknown f [] first name is named a b c d e = refl
unknown f (word ∷ []) first name is named a b c d e = refl
unknown f (word ∷ image ∷ words) first name is named a b c d e =
    subst (λ (n : List ℕ). None ≡ asked_of (n ∷ f image ∷ map f words)) (named ∙ ap f is) (unknown_name name a b c d e (f image) (map f words))
