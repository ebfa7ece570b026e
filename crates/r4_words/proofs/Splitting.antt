-- The first option of some words.
use Rattle.std.proofs.Common.{◌≡◌, ◌∙◌, ℕ, ◌-◌, ◌<◌, ◌≤◌, true, false, List, [], ◌∷◌, drop, get_or, length}
use Rattle.std.proofs.Common.{map, take, take_all, Option, Some, None, refl, ap, arith, sym, subst, Bor}
use Rattle.std.proofs.Common.{nat_eq}
use Rattle.std.specs.Prelude.{◌==◌}
use Rattle.std.proofs.lemmas.Bool.{cond-true, cond-false, eqb-true, lt-ltb, le-ltb}
use Rattle.std.proofs.lemmas.Option.{MatchOption-at_some, MatchOption-at_none}
use Rattle.std.proofs.lemmas.Str.Pattern.{IsSplitOnceResult, split_once_first}
use Rattle.std.specs.List.{after_first, position_or_len}
use Rattle.r4_words.specs.declared.options.First.{First}
use Rattle.r4_words.specs.declared.options.RunOption.{RunOption}
use Rattle.std.specs.Prelude.{option_map}
use Rattle.r4_words.specs.Options.{IsFirst, given_by, given_in, given_in_one, has_sign, option_named, put_before}

-- ---- in one word or in two

pub given_one : (word : List ℕ) (words : List (List ℕ)) → has_sign word ≡ true
    → given_in (word ∷ words) ≡ put_before (given_in_one word) (given_in words)
unfolding given_in
given_one word [] signed = cond-true (has_sign word) _ _ signed
given_one word (next ∷ words) signed = cond-true (has_sign word) _ _ signed

pub given_two : (word next : List ℕ) (words : List (List ℕ)) → has_sign word ≡ false
    → given_in (word ∷ next ∷ words) ≡ put_before (given_by word next) (given_in words)
unfolding given_in
given_two word next words plain = cond-false (has_sign word) _ _ plain

pub given_last : (word : List ℕ) → has_sign word ≡ false → given_in (word ∷ []) ≡ None
unfolding given_in
given_last word plain = cond-false (has_sign word) _ _ plain

-- ---- the sign

module _ (word : List ℕ) (r : Option (Bor (List ℕ) × Bor (List ℕ))) (split : IsSplitOnceResult 61 word r) where
  pub signed : (x : Bor (List ℕ) × Bor (List ℕ)) → r ≡ Some x → (has_sign word ≡ true)
      × (given_in_one word ≡ given_by x.0.now x.1.now)
  signed x is =
      let m = MatchOption-at_some _ _ x is (split_once_first 61 word r split (omega arith)) in (
        lt-ltb (position_or_len (λ byte. nat_eq byte 61) word) (length word) m.0,
        ap (λ n. given_by n (after_first (λ byte. nat_eq byte 61) word)) (sym m.1)
            ∙ ap (λ v. given_by x.0.now v) (sym m.2),
      )

  pub plain : r ≡ None → has_sign word ≡ false
  plain is =
      let m = MatchOption-at_none _ _ is (split_once_first 61 word r split (omega arith)) in
      le-ltb (position_or_len (λ byte. nat_eq byte 61) word) (length word) (omega (arith, m))

-- ---- a list in another form

module _ {A : Type 0} (f : A → List ℕ) where
  -- its first element and the others
  pub parted : (words : List A) (word : A) → 1 ≤ length words → word ≡ get_or words 0 word
      → map f words ≡ f word ∷ map f (take (length words - 1) (drop 1 words))
  parted [] word some is = absurd (omega (arith, some))
  parted (first ∷ words) word some is =
      ap (λ w. f w ∷ map f words) (sym is)
      ∙ ap (λ ws. f word ∷ map f ws) (sym (take_all (length (first ∷ words) - 1) words (omega arith)))

  pub one_here : (words : List A) (word : A) → 1 ≤ length words → word ≡ get_or words 0 word
      → has_sign (f word) ≡ true
      → given_in (map f words) ≡ put_before (given_in_one (f word))
      (given_in (map f (take (length words - 1) (drop 1 words))))
  one_here words word some is sign =
      ap given_in (parted words word some is) ∙ given_one (f word) _ sign

  pub two_here : (words others : List A) (word value : A) → 1 ≤ length words → word ≡ get_or words 0 word
      → has_sign (f word) ≡ false
      → others ≡ take (length words - 1) (drop 1 words) → 1 ≤ length others → value ≡ get_or others 0 value
      → given_in (map f words) ≡ put_before (given_by (f word) (f value))
      (given_in (map f (take (length others - 1) (drop 1 others))))
  two_here words others word value some is sign rest more next =
      ap given_in (parted words word some is ∙ ap (λ ws. f word ∷ map f ws) (sym rest)
      ∙ ap (λ ws. f word ∷ ws) (parted others value more next))
      ∙ given_two (f word) (f value) _ sign

  pub last_here : (words others : List A) (word : A) → 1 ≤ length words → word ≡ get_or words 0 word
      → has_sign (f word) ≡ false
      → others ≡ take (length words - 1) (drop 1 words) → length others < 1 → given_in (map f words) ≡ None
  last_here words [] word some is sign rest none =
      ap given_in (parted words word some is ∙ ap (λ ws. f word ∷ map f ws) (sym rest)) ∙ given_last (f word) sign
  last_here words (other ∷ others) word some is sign rest none = absurd (omega (arith, none))

-- an option that has no name
pub unnamed : (name value : List ℕ) → option_named name ≡ None → given_by name value ≡ None
unnamed name value none = ap (option_map (λ option. record { option = option; value = value })) none

pub named : (name value : List ℕ) (option : RunOption) → option_named name ≡ Some option
    → given_by name value ≡ Some (record { option = option; value = value })
named name value option is = ap (option_map (λ o. record { option = o; value = value })) is

pub is_none : (words : List (List ℕ)) (o : Option First) → o ≡ None → given_in words ≡ None → IsFirst words o
is_none words o is none = subst (λ (x : Option First). IsFirst words x) (sym is) none

pub none_left : {A : Type 0} (f : A → List ℕ) (words : List A) → true ≡ (length words == 0) → map f words ≡ []
none_left f [] is = refl
none_left f (word ∷ words) is = absurd (omega (arith, eqb-true (length (word ∷ words)) 0 (sym is)))
