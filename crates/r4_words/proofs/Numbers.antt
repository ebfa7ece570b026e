-- A word of decimal digits, as the kit reads it.
use Rattle.std.proofs.Common.{◌≡◌, ℕ, ◌≤◌, ◌<◌, ◌-◌, ◌^◌, true, cond, ◌&&◌, nat_le, List, [], ◌∷◌, length}
use Rattle.std.proofs.Common.{drop, Some, None, ⊎_elim, refl, ap, arith, sym, subst, leb-true}
use Rattle.std.specs.Char.{is_ascii_digit}
use Rattle.std.specs.List.{list_all}
use Rattle.std.specs.Str.Parse.{AllDigits, IsNumeral, digits_value, without_leading_plus}
use Rattle.std.proofs.lemmas.Bool.{and_parts, and_right, cases_lt, lt-leb, ne_eqb}
use Rattle.std.proofs.lemmas.Str.{digit_value_digit}
use Rattle.r4_words.specs.declared.options.RunOption.{RunOption}
use Rattle.r4_words.specs.declared.options.RunOption.TheVariants.{Threads, Stop, Tear, Pick, Gen}
use Rattle.r4_words.specs.Options.{is_numeral, is_in_range, greatest, least, number_for}

all_digits : (ds : List ℕ) → list_all is_ascii_digit ds ≡ true → AllDigits 10 ds
all_digits [] all = tt
all_digits (d ∷ ds) all =
    let parts = and_parts (is_ascii_digit d) (list_all is_ascii_digit ds) all in
    let within = and_parts (nat_le 48 d) (nat_le d 57) parts.0 in
    let low = leb-true 48 d within.0 in
    let high = leb-true d 57 within.1 in
    (omega (arith, high, digit_value_digit d (low, high)), all_digits ds parts.1)

no_plus : (ds : List ℕ) → list_all is_ascii_digit ds ≡ true → without_leading_plus ds ≡ ds
no_plus [] all = refl
no_plus (d ∷ ds) all =
    let parts = and_parts (is_ascii_digit d) (list_all is_ascii_digit ds) all in
    let within = and_parts (nat_le 48 d) (nat_le d 57) parts.0 in
    let low = leb-true 48 d within.0 in
    ap (λ b. drop (cond b 1 0) (d ∷ ds)) (ne_eqb d 43 (λ e. omega (arith, low, e)))

-- no option has a number of more than 64 bits
below_all : (option : RunOption) (n : ℕ) → 2 ^ 64 - 1 < n → greatest option < n
below_all Threads n above = omega (arith, above)
below_all Stop n above = above
below_all Tear n above = omega (arith, above)
below_all Pick n above = above
below_all Gen n above = above

module _ (word : List ℕ) (numeral : is_numeral word ≡ true) where
  digits : list_all is_ascii_digit word ≡ true
  digits = (and_parts (nat_le 1 (length word) && nat_le (length word) 20) (list_all is_ascii_digit word) numeral).1

  some : 1 ≤ length word
  some = let parts = and_parts (nat_le 1 (length word) && nat_le (length word) 20) (list_all is_ascii_digit word)
      numeral in
      leb-true 1 (length word) (and_parts (nat_le 1 (length word)) (nat_le (length word) 20) parts.0).0

  -- what the kit reads is the word itself
  pub read_whole : without_leading_plus word ≡ word
  read_whole = no_plus word digits

  -- a number of more than 64 bits is too large
  pub too_large : (option : RunOption)
      → (IsNumeral 10 (without_leading_plus word) × (digits_value 10 (without_leading_plus word) < 2 ^ 64) → ⊥)
      → None ≡ number_for option word
  too_large option refused =
      let unread : IsNumeral 10 word × (digits_value 10 word < 2 ^ 64)
      → ⊥ = subst (λ (w : List ℕ). IsNumeral 10 w × (digits_value 10 w < 2 ^ 64) → ⊥) read_whole refused in
      let above : 2 ^ 64 - 1 < digits_value 10 word =
      ⊎_elim (λ many. many) (λ few. absurd (unread ((some, all_digits word digits), omega (arith, few))))
      (cases_lt (2 ^ 64 - 1) (digits_value 10 word)) in
      let high = lt-leb (digits_value 10 word) (greatest option) (below_all option (digits_value 10 word) above) in
      ap (λ b. cond b (Some (digits_value 10 word)) None)
      (sym (and_right (is_numeral word) (is_in_range option (digits_value 10 word))
      (and_right (nat_le (least option) (digits_value 10 word))
      (nat_le (digits_value 10 word) (greatest option)) high)))
