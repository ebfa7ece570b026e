-- The bytes in which a key spells a short name.
use Rattle.std.proofs.Common.{◌≡◌, ◌≢◌, ℕ, zero, suc, ◌+◌, ◌-◌, ◌*◌, ◌/◌, ◌%◌, ◌^◌, ◌<◌, ◌≤◌, inl, inr, not, eqb, List, [], ◌∷◌, length, get_or, set, take, refl, sym, ap, ◌∙◌, arith, ne_eqb, get_or-set_same, get_or-set_other}
use Rattle.std.proofs.lemmas.Bool.{cases_eq, eq-eqb}
use Rattle.std.proofs.lemmas.List.{places, length-append, ext_get_or, length-take-le, get_or-take, length-set}
use Rattle.std.proofs.lemmas.List.Sums.{take_while-cons}
use Rattle.std.proofs.lemmas.Nat.{pow-add}
use Rattle.std.proofs.Math.Nat.{pow-suc}
use Rattle.std.specs.List.{take_while}
use Rattle.r4_base.specs.declared.key.Key.{Key}
use Rattle.r4_base.specs.Name.{unpacked, short_name_in}
use Rattle.r4_cde.specs.Spelling.{spelling}

length-unpacked : (n v : ℕ) → length (unpacked n v) ≡ n
unfolding unpacked
length-unpacked zero v = refl
length-unpacked (suc n) v = let ih = length-unpacked n v in omega arith

get_or-unpacked : (n v i j : ℕ) → i + j + 1 ≡ n → get_or (unpacked n v) i 0 ≡ v / 256 ^ j % 256
unfolding unpacked
get_or-unpacked zero v i j e = absurd (omega arith)
get_or-unpacked (suc n) v zero j e = let same : n ≡ j = omega arith in ap (λ (k : ℕ). v / 256 ^ k % 256) same
get_or-unpacked (suc n) v (suc i) j e = get_or-unpacked n v i j (omega arith)

bits : (k : ℕ) → 2 ^ (8 * k) ≡ 256 ^ k
bits zero = refl
bits (suc k) =
    let more : 8 * suc k ≡ 8 * k + 8 = omega arith in
    rw (more, pow-add 2 (8 * k) 8, bits k, pow-suc 256 k) refl

pub length-spelling : (k : Key) → length (spelling k) ≡ 23
unfolding spelling
length-spelling k =
    let a = length-unpacked 7 (get_or k.el 1 0) in
    let b = length-unpacked 8 (get_or k.el 2 0) in
    let c = length-unpacked 8 (get_or k.el 3 0) in
    simp (length-append) (omega arith)

pub spelled_first : (k : Key) (i : ℕ) → i ≤ 6 → get_or k.el 1 0 / 2 ^ (8 * (6 - i)) % 256 ≡ get_or (spelling k) i 0
unfolding spelling
spelled_first k i le =
    let a = length-unpacked 7 (get_or k.el 1 0) in
    let here : get_or (spelling k) i 0 ≡ get_or (unpacked 7 (get_or k.el 1 0)) i 0 = grind (arith, places) in
    rw (bits (6 - i)) (sym (here ∙ get_or-unpacked 7 (get_or k.el 1 0) i (6 - i) (omega arith)))

pub spelled_second : (k : Key) (i : ℕ) → 7 ≤ i → i ≤ 14 → get_or k.el 2 0 / 2 ^ (8 * (14 - i)) % 256 ≡ get_or (spelling k) i 0
unfolding spelling
spelled_second k i ge le =
    let a = length-unpacked 7 (get_or k.el 1 0) in
    let b = length-unpacked 8 (get_or k.el 2 0) in
    let here : get_or (spelling k) i 0 ≡ get_or (unpacked 8 (get_or k.el 2 0)) (i - 7) 0 = grind (arith, places) in
    rw (bits (14 - i)) (sym (here ∙ get_or-unpacked 8 (get_or k.el 2 0) (i - 7) (14 - i) (omega arith)))

pub spelled_third : (k : Key) (i : ℕ) → 15 ≤ i → i ≤ 22 → get_or k.el 3 0 / 2 ^ (8 * (22 - i)) % 256 ≡ get_or (spelling k) i 0
unfolding spelling
spelled_third k i ge le =
    let a = length-unpacked 7 (get_or k.el 1 0) in
    let b = length-unpacked 8 (get_or k.el 2 0) in
    let c = length-unpacked 8 (get_or k.el 3 0) in
    let here : get_or (spelling k) i 0 ≡ get_or (unpacked 8 (get_or k.el 3 0)) (i - 15) 0 = grind (arith, places) in
    rw (bits (22 - i)) (sym (here ∙ get_or-unpacked 8 (get_or k.el 3 0) (i - 15) (22 - i) (omega arith)))

-- ---- the loop

pub record IsSpelledSoFar (k : Key) (bytes : List ℕ) (len : ℕ) : Type 0 where
  pub few : len ≤ 23
  pub long : length bytes ≡ 23
  pub same : (i : ℕ) → i < len → get_or bytes i 0 ≡ get_or (spelling k) i 0
  pub some : (i : ℕ) → i < len → get_or (spelling k) i 0 ≢ 0

pub spelled_none : (k : Key) (bytes : List ℕ) → length bytes ≡ 23 → IsSpelledSoFar k bytes 0
spelled_none k bytes long = record { few = omega arith; long = long; same = λ i lt. absurd (omega arith); some = λ i lt. absurd (omega arith) }

pub spelled_more : (k : Key) (bytes : List ℕ) (len byte : ℕ) → IsSpelledSoFar k bytes len → len < 23 → byte ≡ get_or (spelling k) len 0 → byte ≢ 0 → IsSpelledSoFar k (set bytes len byte) (len + 1)
spelled_more k bytes len byte s lt is some =
    let long = s.long in
    record {
      few = omega arith;
      long = length-set bytes len byte ∙ s.long;
      same = λ i below. elim (cases_eq i len) [
        | inl here ↦ rw here (get_or-set_same bytes len byte 0 (omega arith) ∙ is)
        | inr other ↦ get_or-set_other bytes len i byte 0 other ∙ s.same i (omega arith)
      ];
      some = λ i below. elim (cases_eq i len) [
        | inl here ↦ rw here (λ e. some (is ∙ e))
        | inr other ↦ s.some i (omega arith)
      ];
    }

kept : (xs : List ℕ) (i : ℕ) → i ≤ length xs → ((j : ℕ) → j < i → get_or xs j 0 ≢ 0) → (i < length xs → get_or xs i 0 ≡ 0) → take_while (λ x. not (eqb x 0)) xs ≡ take i xs
kept [] zero le some none = refl
kept [] (suc i) le some none = absurd (omega arith)
kept (x ∷ xs) zero le some none = take_while-cons (λ x. not (eqb x 0)) x xs ∙ rw (eq-eqb x 0 (none (omega arith))) refl
kept (x ∷ xs) (suc i) le some none =
    let ih = kept xs i (omega arith) (λ j lt. some (suc j) (omega arith)) (λ lt. none (omega arith)) in
    take_while-cons (λ x. not (eqb x 0)) x xs ∙ rw (ne_eqb x 0 (some 0 (omega arith)), ih) refl

pub all_spelled : (k : Key) (bytes : List ℕ) (len : ℕ) → IsSpelledSoFar k bytes len → (len < 23 → get_or (spelling k) len 0 ≡ 0) → take len bytes ≡ short_name_in k
unfolding short_name_in spelling
all_spelled k bytes len s none =
    let few = s.few in
    let long = s.long in
    let all = length-spelling k in
    let n = length-take-le len bytes (omega arith) in
    let m = length-take-le len (spelling k) (omega arith) in
    ext_get_or 0 (take len bytes) (take len (spelling k)) (omega arith) (λ i lt.
    get_or-take len bytes i 0 (omega arith) ∙ s.same i (omega arith) ∙ sym (get_or-take len (spelling k) i 0 (omega arith)))
    ∙ sym (kept (spelling k) len (omega arith) s.some (λ lt. none (omega arith)))
