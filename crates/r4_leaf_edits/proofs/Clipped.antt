-- The part of an interval, and of bytes at one key after another, that lies in a range.
use Rattle.std.specs.Prelude.{◌≡◌, ℕ, ◌+◌, ◌-◌, ◌%◌, ◌^◌, ◌<◌, ◌≤◌, List, [], ◌∷◌, ◌++◌, length, take, drop, Bool, true, false, ◌&&◌, All, cond}
use Rattle.std.proofs.Common.{arith, refl, sym, ap, subst, ◌∙◌}
use Rattle.std.specs.List.{filter}
use Rattle.std.proofs.lemmas.Bool.Decides.{nat_tests}
use Rattle.std.proofs.lemmas.Grind.{common_steps}
use Rattle.std.proofs.lemmas.List.{append-nil, length-drop, length-take-le, take-append-drop}
use Rattle.std.proofs.lemmas.List.Elements.{All-cons, All-head, All-nil, All-tail, filter-append}
use Rattle.r4_base.specs.Cell.{bytes_from}
use Rattle.r4_base.specs.Key.{key_of_rank, offset_of}
use Rattle.r4_base.specs.Value.{Byte, Value}
use Rattle.r4_content.specs.Bodies.{larger, smaller}
use Rattle.r4_content.specs.Edited.{Pairs, is_between}
use Rattle.r4_content.specs.Objects.{byte_pairs}
use Rattle.r4_leaf_edits.specs.Suiting.{IsBefore}

pub part_keys : (lo hi a b k : ℕ) → is_between (larger lo a) (smaller hi b) k ≡ (is_between lo hi k && is_between a b k)
part_keys lo hi a b k = grind (arith, common_steps)

pub no_part : (lo hi a b k : ℕ) → smaller hi b ≤ larger lo a → (is_between lo hi k && is_between a b k) ≡ false
no_part lo hi a b k h = grind (arith, common_steps)

-- ---- bytes

pub same_bytes : (k : ℕ) (xs : List ℕ) → bytes_from k xs ≡ byte_pairs k xs
same_bytes k [] = refl
same_bytes k (x ∷ xs) = ap (λ (ps : Pairs). (k, Byte x) ∷ ps) (same_bytes (k + 1) xs)

pub bytes_append : (k : ℕ) (xs ys : List ℕ) → byte_pairs k (xs ++ ys) ≡ byte_pairs k xs ++ byte_pairs (k + length xs) ys
bytes_append k [] ys = ap (λ (j : ℕ). byte_pairs j ys) (let e : k ≡ k + 0 = omega arith in e)
bytes_append k (x ∷ xs) ys =
    ap (λ (ps : Pairs). (k, Byte x) ∷ ps) (bytes_append (k + 1) xs ys
    ∙ ap (λ (j : ℕ). byte_pairs (k + 1) xs ++ byte_pairs j ys) (let e : k + 1 + length xs ≡ k + length (x ∷ xs) = omega arith in e))

pub all_out : (test : ℕ → Bool) (a : ℕ) (xs : List ℕ) → ((k : ℕ) → a ≤ k → k < a + length xs → test k ≡ false) → filter (λ p. test p.0) (byte_pairs a xs) ≡ []
all_out test a [] h = refl
all_out test a (x ∷ xs) h =
    ap (λ (b : Bool). cond b ((a, Byte x) ∷ filter (λ p. test p.0) (byte_pairs (a + 1) xs)) (filter (λ p. test p.0) (byte_pairs (a + 1) xs))) (h a (omega arith) (omega arith))
    ∙ all_out test (a + 1) xs (λ k low high. h k (omega arith) (omega arith))

pub all_in : (test : ℕ → Bool) (a : ℕ) (xs : List ℕ) → ((k : ℕ) → a ≤ k → k < a + length xs → test k ≡ true) → filter (λ p. test p.0) (byte_pairs a xs) ≡ byte_pairs a xs
all_in test a [] h = refl
all_in test a (x ∷ xs) h =
    ap (λ (b : Bool). cond b ((a, Byte x) ∷ filter (λ p. test p.0) (byte_pairs (a + 1) xs)) (filter (λ p. test p.0) (byte_pairs (a + 1) xs))) (h a (omega arith) (omega arith))
    ∙ ap (λ (ps : Pairs). (a, Byte x) ∷ ps) (all_in test (a + 1) xs (λ k low high. h k (omega arith) (omega arith)))

is_out : (lo hi a b k : ℕ) → smaller hi b ≤ larger lo a → a ≤ k → k < b → is_between lo hi k ≡ false
is_out lo hi a b k h low high = grind (arith, nat_tests)

pub no_bytes : (lo hi a : ℕ) (xs : List ℕ) → smaller hi (a + length xs) ≤ larger lo a → filter (λ p. is_between lo hi p.0) (byte_pairs a xs) ≡ []
no_bytes lo hi a xs h = all_out (is_between lo hi) a xs (λ k low high. is_out lo hi a (a + length xs) k h low high)

-- the bytes of the part from f on and below t
abbrev pub part_bytes : (a f t : ℕ) → List ℕ → List ℕ
part_bytes a f t xs = take (t - f) (drop (f - a) xs)

pub record IsPartOf (lo hi a : ℕ) (xs : List ℕ) (f t : ℕ) (ys : List ℕ) : Type 0 where
  pub long : f + length ys ≡ t
  pub before : Pairs
  pub behind : Pairs
  pub all : byte_pairs a xs ≡ before ++ (byte_pairs f ys ++ behind)
  pub kept : filter (λ p. is_between lo hi p.0) (byte_pairs a xs) ≡ byte_pairs f ys

before_out : (lo hi a f k : ℕ) → f ≡ larger lo a → k < f → a ≤ k → is_between lo hi k ≡ false
before_out lo hi a f k e lt le = grind (arith, nat_tests)

within_in : (lo hi a b f t k : ℕ) → f ≡ larger lo a → t ≡ smaller hi b → f ≤ k → k < t → is_between lo hi k ≡ true
within_in lo hi a b f t k e g le lt = grind (arith, nat_tests)

behind_out : (lo hi b t k : ℕ) → t ≡ smaller hi b → t ≤ k → k < b → is_between lo hi k ≡ false
behind_out lo hi b t k e le lt = grind (arith, nat_tests)

bounds : (lo hi a b f t : ℕ) → f ≡ larger lo a → t ≡ smaller hi b → (a ≤ f) × (t ≤ b)
bounds lo hi a b f t e g = (grind (arith, nat_tests), grind (arith, nat_tests))

pub part_of_bytes : (lo hi a : ℕ) (xs : List ℕ) (f t : ℕ) → f ≡ larger lo a → t ≡ smaller hi (a + length xs) → f < t → IsPartOf lo hi a xs f t (part_bytes a f t xs)
part_of_bytes lo hi a xs f t from to lt =
    let (low, high) = bounds lo hi a (a + length xs) f t from to in
    let head = take (f - a) xs in
    let rest = drop (f - a) xs in
    let mid = take (t - f) rest in
    let end = drop (t - f) rest in
    let long_head : length head ≡ f - a = length-take-le (f - a) xs (omega arith) in
    let long_rest : length rest ≡ length xs - (f - a) = length-drop (f - a) xs in
    let long_mid : length mid ≡ t - f = length-take-le (t - f) rest (omega arith) in
    let long_end : length end ≡ length rest - (t - f) = length-drop (t - f) rest in
    let at_mid : a + length head ≡ f = omega arith in
    let at_end : f + length mid ≡ t = omega arith in
    let split : byte_pairs a xs ≡ byte_pairs a head ++ (byte_pairs f mid ++ byte_pairs t end) =
    ap (byte_pairs a) (sym (take-append-drop (f - a) xs)) ∙ bytes_append a head rest
    ∙ ap (λ (j : ℕ). byte_pairs a head ++ byte_pairs j rest) at_mid
    ∙ ap (λ (ps : Pairs). byte_pairs a head ++ ps) (ap (byte_pairs f) (sym (take-append-drop (t - f) rest)) ∙ bytes_append f mid end ∙ ap (λ (j : ℕ). byte_pairs f mid ++ byte_pairs j end) at_end) in
    let test = λ (p : ℕ × Value). is_between lo hi p.0 in
    record {
      long = at_end;
      before = byte_pairs a head;
      behind = byte_pairs t end;
      all = split;
      kept =
          ap (filter test) split ∙ filter-append test (byte_pairs a head) (byte_pairs f mid ++ byte_pairs t end)
          ∙ ap (λ (ps : Pairs). ps ++ filter test (byte_pairs f mid ++ byte_pairs t end)) (all_out (is_between lo hi) a head (λ k le below. before_out lo hi a f k from (omega arith) le))
          ∙ filter-append test (byte_pairs f mid) (byte_pairs t end)
          ∙ ap (λ (ps : Pairs). ps ++ filter test (byte_pairs t end)) (all_in (is_between lo hi) f mid (λ k le below. within_in lo hi a (a + length xs) f t k from to le (omega arith)))
          ∙ ap (λ (ps : Pairs). byte_pairs f mid ++ ps) (all_out (is_between lo hi) t end (λ k le below. behind_out lo hi (a + length xs) t k to le (omega arith)))
          ∙ append-nil (byte_pairs f mid);
    }

-- ---- bytes of a tail

pub all_left : {A : Type 0} (P : A → Type 0) (xs ys : List A) → All P (xs ++ ys) → All P xs
all_left P [] ys h = All-nil P
all_left P (x ∷ xs) ys h = All-cons P x xs (All-head P x (xs ++ ys) h) (all_left P xs ys (All-tail P x (xs ++ ys) h))

pub all_right : {A : Type 0} (P : A → Type 0) (xs ys : List A) → All P (xs ++ ys) → All P ys
all_right P [] ys h = h
all_right P (x ∷ xs) ys h = all_right P xs ys (All-tail P x (xs ++ ys) h)

offset_at : (k : ℕ) → offset_of (key_of_rank k) ≡ k % 2 ^ 64
unfolding key_of_rank
offset_at k = refl

next_offset : (k : ℕ) → k % 2 ^ 64 < 16384 → (k + 1) % 2 ^ 64 ≡ k % 2 ^ 64 + 1
next_offset k h = omega arith

-- they end before byte 16384 of their file
pub ends_before : (k : ℕ) (xs : List ℕ) → 1 ≤ length xs → All (IsBefore 16384) (byte_pairs k xs) → k % 2 ^ 64 + length xs ≤ 16384
ends_before k [] some all = absurd (omega arith)
ends_before k (x ∷ []) some all =
    let first = All-head (IsBefore 16384) (k, Byte x) [] all in
    let at = offset_at k in
    let lt = first.1 in
    omega (arith, at, lt)
ends_before k (x ∷ (y ∷ xs)) some all =
    let first = All-head (IsBefore 16384) (k, Byte x) (byte_pairs (k + 1) (y ∷ xs)) all in
    let at = offset_at k in
    let lt = first.1 in
    let next = next_offset k (omega (arith, at, lt)) in
    let rest = ends_before (k + 1) (y ∷ xs) (omega arith) (All-tail (IsBefore 16384) (k, Byte x) (byte_pairs (k + 1) (y ∷ xs)) all) in
    omega (arith, next, rest)

pub part_before : (lo hi a : ℕ) (xs : List ℕ) (f t : ℕ) (ys : List ℕ) → IsPartOf lo hi a xs f t ys → All (IsBefore 16384) (byte_pairs a xs) → All (IsBefore 16384) (byte_pairs f ys)
part_before lo hi a xs f t ys part all =
    all_left (IsBefore 16384) (byte_pairs f ys) part.behind (all_right (IsBefore 16384) part.before (byte_pairs f ys ++ part.behind) (subst (All (IsBefore 16384)) part.all all))
