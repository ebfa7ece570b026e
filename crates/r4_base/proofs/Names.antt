-- Names and the numbers of their keys: what a key spells, and that names of one key are equal.
use Rattle.std.proofs.Common.{◌≡◌, ◌≢◌, ℕ, zero, suc, ◌+◌, ◌-◌, ◌*◌, ◌/◌, ◌%◌, ◌^◌, ◌<◌, ◌≤◌, Bool, true, false, not, cond, eqb, ltb, ◌&&◌, ◌||◌, List, [], ◌∷◌, ◌++◌, length, get_or, drop, Option, Some, None, refl, sym, ap, subst, ◌∙◌, arith, inl, inr}
use Rattle.std.proofs.lemmas.Bool.{and_parts, cases_lt, eq-eqb, eqb-false, le-ltb, lt-ltb, ltb-false, ne_eqb}
use Rattle.std.proofs.lemmas.List.{get_or_past, drop-drop, drop_all, get_or-drop}
use Rattle.std.proofs.lemmas.List.Sums.{take_while-cons}
use Rattle.std.proofs.lemmas.Nat.{div-mul-add, mul-mod_first}
use Rattle.std.proofs.Math.Nat.{pow-suc, mul-le-mul_left, one-le-pow, pow-le-pow_right, zero-div, mul-add-div_right}
use Rattle.std.proofs.Math.Seq.{drop-cons}
use Rattle.std.proofs.lemmas.List.Elements.{All-get_or}
use Rattle.std.specs.List.{All, take_while, position_from}
use Rattle.std.specs.Option.{is_none, option_map, option_or}
use Rattle.r4_base.specs.declared.items.NameFault.{NameFault}
use Rattle.r4_base.specs.declared.items.NameFault.TheVariants.{Byte, Dot}
use Rattle.r4_base.specs.declared.key.Key.{Key}
use Rattle.r4_base.specs.Key.{IsKey, rank}
use Rattle.r4_base.specs.Name.{is_name_byte, bad_byte, is_dots, name_fault, packed, r5_from, r5_of, key_of_name, dir_of_key, IsShortNameKey, unpacked, short_name_in}
use Rattle.std.specs.Bool.{MatchBool}
use Rattle.std.specs.Cmp.Lexicographic.{told_text, pointwise}
use Rattle.std.specs.Prelude.{nat_eq}
use Rattle.r4_base.proofs.Keys.{is_key, equal}
use Rattle.r4_base.proofs.Numbers.{AreBytes}

pub bytes_of : (s : List ℕ) → All (λ x. x < 256) s → AreBytes s
bytes_of s h k = elim (cases_lt k (length s)) [
  | inl lt ↦ All-get_or (λ x. x < 256) s k 0 lt h
  | inr past ↦ rw (get_or_past s k 0 past) (omega arith)
]

-- ---- bytes packed into a number

packed_none : (n : ℕ) → packed n [] ≡ 0
unfolding packed
packed_none zero = refl
packed_none (suc n) = refl

packed_first : (n : ℕ) (s : List ℕ) → packed (suc n) s ≡ get_or s 0 0 * 256 ^ n + packed n (drop 1 s)
unfolding packed
packed_first n [] = rw (packed_none n) (omega arith)
packed_first n (x ∷ s) = refl

pub packed_step : (n i : ℕ) (s : List ℕ) → packed (suc n) (drop i s) ≡ get_or s i 0 * 256 ^ n + packed n (drop (i + 1) s)
packed_step n i s =
    let here : get_or (drop i s) 0 0 ≡ get_or s i 0 = get_or-drop i s 0 0 ∙ ap (λ (k : ℕ). get_or s k 0) (omega arith) in
    let rest : drop 1 (drop i s) ≡ drop (i + 1) s = drop-drop 1 i s ∙ ap (λ (k : ℕ). drop k s) (omega arith) in
    packed_first n (drop i s) ∙ rw (here, rest) refl

bytes_tail : (x : ℕ) (s : List ℕ) → AreBytes (x ∷ s) → AreBytes s
bytes_tail x s h k = h (suc k)

pub packed_lt : (n : ℕ) (s : List ℕ) → AreBytes s → packed n s < 256 ^ n
unfolding packed
packed_lt zero s h = omega arith
packed_lt (suc n) [] h = let some = one-le-pow (suc n) 256 (omega arith) in omega arith
packed_lt (suc n) (x ∷ s) h =
    let first : x < 256 = h 0 in
    let rest = packed_lt n s (bytes_tail x s h) in
    let power = pow-suc 256 n in
    let small : x ≤ 255 = omega arith in
    let most = mul-le-mul_left (256 ^ n) small in
    omega arith

-- ---- a number unpacked

-- n bytes: those of s, and zeros behind them
pub padded : ℕ → List ℕ → List ℕ
padded zero s = []
padded (suc n) [] = 0 ∷ padded n []
padded (suc n) (x ∷ s) = x ∷ padded n s

unpacked_low : (n y p : ℕ) → unpacked n (y * 256 ^ n + p) ≡ unpacked n p
unfolding unpacked
unpacked_low zero y p = refl
unpacked_low (suc n) y p =
    let power : y * 256 ^ suc n + p ≡ y * 256 * 256 ^ n + p = rw (pow-suc 256 n) (omega arith) in
    let some : 0 < 256 ^ n = one-le-pow n 256 (omega arith) in
    let first : (y * 256 * 256 ^ n + p) / 256 ^ n ≡ y * 256 + p / 256 ^ n = mul-add-div_right some (y * 256) p in
    let digit : (y * 256 + p / 256 ^ n) % 256 ≡ p / 256 ^ n % 256 = omega arith in
    rw (power, first, digit, unpacked_low n (y * 256) p) refl

unpacked_zero : (n : ℕ) → unpacked n 0 ≡ padded n []
unfolding unpacked padded
unpacked_zero zero = refl
unpacked_zero (suc n) = let none : 0 / 256 ^ n % 256 ≡ 0 = rw (zero-div (256 ^ n)) refl in rw (none, unpacked_zero n) refl

pub unpacked_packed : (n : ℕ) (s : List ℕ) → AreBytes s → unpacked n (packed n s) ≡ padded n s
unfolding unpacked packed padded
unpacked_packed zero s h = refl
unpacked_packed (suc n) [] h = let none : 0 / 256 ^ n % 256 ≡ 0 = rw (zero-div (256 ^ n)) refl in rw (none, unpacked_zero n) refl
unpacked_packed (suc n) (x ∷ s) h =
    let first : x < 256 = h 0 in
    let rest = packed_lt n s (bytes_tail x s h) in
    let here : (x * 256 ^ n + packed n s) / 256 ^ n ≡ x = div-mul-add x (256 ^ n) (packed n s) rest in
    let digit : x % 256 ≡ x = omega arith in
    rw (here, digit, unpacked_low n x (packed n s), unpacked_packed n s (bytes_tail x s h)) refl

padded-append : (m n : ℕ) (s : List ℕ) → padded m s ++ padded n (drop m s) ≡ padded (m + n) s
unfolding padded
padded-append zero n s = let e : n ≡ 0 + n = omega arith in ap (λ (k : ℕ). padded k s) e
padded-append (suc m) n [] =
    let e : suc m + n ≡ suc (m + n) = omega arith in
    let none : drop {A = ℕ} m [] ≡ [] = drop_all m [] (omega arith) in
    let ih = padded-append m n [] in
    rw e (ap (λ (xs : List ℕ). 0 ∷ xs) (rw none at ih))
padded-append (suc m) n (x ∷ s) =
    let e : suc m + n ≡ suc (m + n) = omega arith in
    rw e (ap (λ (xs : List ℕ). x ∷ xs) (padded-append m n s))

pub padded_23 : (s : List ℕ) → padded 7 s ++ (padded 8 (drop 7 s) ++ padded 8 (drop 15 s)) ≡ padded 23 s
padded_23 s =
    let past : drop 15 s ≡ drop 8 (drop 7 s) = sym (drop-drop 8 7 s) in
    rw past (ap (λ (xs : List ℕ). padded 7 s ++ xs) (padded-append 8 8 (drop 7 s)) ∙ padded-append 7 16 s)

-- ---- the bytes of a name

bytes_drop : (i : ℕ) (s : List ℕ) → AreBytes s → AreBytes (drop i s)
bytes_drop i s h k = rw (get_or-drop i s k 0) (h (i + k))

none_bad : (i x : ℕ) (s : List ℕ) → bad_byte i (x ∷ s) ≡ None → (is_name_byte x ≡ true) × (bad_byte (i + 1) s ≡ None)
unfolding bad_byte
none_bad i x s e = split (is_name_byte x) refl
  where
    split : (t : Bool) → is_name_byte x ≡ t → (is_name_byte x ≡ true) × (bad_byte (i + 1) s ≡ None)
    split true is = (is, rw is at e)
    split false is = let bad : Some i ≡ None = rw is at e in absurd cc

no_zero : (x : ℕ) → is_name_byte x ≡ true → not (eqb x 0) ≡ true
no_zero x e = (and_parts (not (eqb x 0)) (not (eqb x 47)) e).0

-- what a name and zeros behind it say up to the first zero
taken : (n i : ℕ) (s : List ℕ) → length s ≤ n → bad_byte i s ≡ None → take_while (λ x. not (eqb x 0)) (padded n s) ≡ s
unfolding padded
taken zero i [] le e = refl
taken zero i (x ∷ s) le e = absurd (omega arith)
taken (suc n) i [] le e = take_while-cons (λ x. not (eqb x 0)) 0 (padded n [])
taken (suc n) i (x ∷ s) le e =
    let parts = none_bad i x s e in
    let ih = taken n (i + 1) s (omega arith) parts.1 in
    take_while-cons (λ x. not (eqb x 0)) x (padded n s) ∙ rw (no_zero x parts.0, ih) refl

option_none : {X : Type 0} (x y : Option X) → option_or x y ≡ None → (x ≡ None) × (y ≡ None)
option_none None y e = (refl, e)
option_none (Some x) y e = absurd cc

chosen_none : {X : Type 0} (t : Bool) (x y : Option X) → cond t x y ≡ None → (x ≡ None → ⊥) → (t ≡ false) × (y ≡ None)
chosen_none true x y e some = absurd (some e)
chosen_none false x y e some = (refl, e)

-- What it says of bytes that they are a name.
pub record IsName (s : List ℕ) : Type 0 where
  pub some : length s ≢ 0
  pub few : length s ≤ 255
  pub bytes : bad_byte 0 s ≡ None

pub is_name : (s : List ℕ) → name_fault s ≡ None → IsName s
unfolding name_fault
is_name s e =
    let some = chosen_none (eqb (length s) 0) _ _ e (λ h. cc) in
    let few = chosen_none (ltb 255 (length s)) _ _ some.1 (λ h. cc) in
    record {
      some = eqb-false (length s) 0 some.0;
      few = ltb-false 255 (length s) few.0;
      bytes = mapped (bad_byte 0 s) (option_none (option_map Byte (bad_byte 0 s)) _ few.1).0;
    }
  where
    mapped : (o : Option ℕ) → option_map Byte o ≡ None → o ≡ None
    mapped None e = refl
    mapped (Some i) e = absurd cc

-- ---- the key of a short name spells it

pub key_spells : (dir : ℕ) (s : List ℕ) → AreBytes s → name_fault s ≡ None → length s ≤ 23 → short_name_in (key_of_name dir s) ≡ s
unfolding short_name_in key_of_name
key_spells dir s bytes legal short =
    let name = is_name s legal in
    let is_short : ltb 23 (length s) ≡ false = le-ltb 23 (length s) short in
    let parts : unpacked 7 (packed 7 s) ++ (unpacked 8 (packed 8 (drop 7 s)) ++ unpacked 8 (packed 8 (drop 15 s))) ≡ padded 23 s =
    rw (unpacked_packed 7 s bytes, unpacked_packed 8 (drop 7 s) (bytes_drop 7 s bytes), unpacked_packed 8 (drop 15 s) (bytes_drop 15 s bytes)) (padded_23 s) in
    rw (is_short, parts) (taken 23 0 s short name.bytes)

pub dir_is : (dir : ℕ) (s : List ℕ) → dir_of_key (key_of_name dir s) ≡ dir
unfolding key_of_name
dir_is dir s = omega arith

pub short_key : (dir : ℕ) (s : List ℕ) → name_fault s ≡ None → length s ≤ 23 → IsShortNameKey (key_of_name dir s) s
short_key dir s legal short = record { legal = legal; short = short; key = ap (λ (d : ℕ). key_of_name d s) (dir_is dir s) }

-- the short name of a key is the one that it spells
pub spelled_is : (k : Key) (s : List ℕ) → AreBytes s → IsShortNameKey k s → short_name_in k ≡ s
spelled_is k s bytes h = ap short_name_in (sym h.key) ∙ key_spells (dir_of_key k) s bytes h.legal h.short

pub one_name : (dir : ℕ) (s t : List ℕ) → AreBytes s → AreBytes t → name_fault s ≡ None → name_fault t ≡ None → length s ≤ 23 → length t ≤ 23 → key_of_name dir s ≡ key_of_name dir t → s ≡ t
one_name dir s t bytes bytes' legal legal' short short' e =
    sym (key_spells dir s bytes legal short) ∙ ap short_name_in e ∙ key_spells dir t bytes' legal' short'

-- ---- the numbers of a key

pub ordering_long : (dir : ℕ) (s : List ℕ) → AreBytes s → 23 < length s → get_or (key_of_name dir s).el 1 0 / 2 ^ 56 ≡ 1
unfolding key_of_name
ordering_long dir s bytes long =
    let is_long : ltb 23 (length s) ≡ true = lt-ltb 23 (length s) long in
    let low = packed_lt 7 s bytes in
    let e : (2 ^ 56 + packed 7 s) / 2 ^ 56 ≡ 1 = omega arith in
    rw is_long e

pub ordering_short : (dir : ℕ) (s : List ℕ) → AreBytes s → length s ≤ 23 → get_or (key_of_name dir s).el 1 0 / 2 ^ 56 ≡ 0
unfolding key_of_name
ordering_short dir s bytes short =
    let is_short : ltb 23 (length s) ≡ false = le-ltb 23 (length s) short in
    let low = packed_lt 7 s bytes in
    let e : packed 7 s / 2 ^ 56 ≡ 0 = omega arith in
    rw is_short e

pub long_apart : (dir other : ℕ) (s t : List ℕ) → AreBytes s → AreBytes t → length s ≤ 23 → 23 < length t → key_of_name dir s ≡ key_of_name other t → ⊥
long_apart dir other s t bytes bytes' short long e =
    let a = ordering_short dir s bytes short in
    let b = ordering_long other t bytes' long in
    let same : get_or (key_of_name dir s).el 1 0 / 2 ^ 56 ≡ get_or (key_of_name other t).el 1 0 / 2 ^ 56 = ap (λ (k : Key). get_or k.el 1 0 / 2 ^ 56) e in
    omega arith

r5_lt : (a : ℕ) (s : List ℕ) → a < 2 ^ 64 → r5_from a s < 2 ^ 64
unfolding r5_from
r5_lt a [] lt = lt
r5_lt a (x ∷ s) lt = r5_lt ((a + 16 * x + x / 16) * 11 % 2 ^ 64) s (omega arith)

pub key_fits : (dir : ℕ) (s : List ℕ) → dir < 2 ^ 60 → AreBytes s → IsKey (key_of_name dir s)
unfolding key_of_name
key_fits dir s small bytes =
    let one = packed_lt 7 s bytes in
    let two = packed_lt 8 (drop 7 s) (bytes_drop 7 s bytes) in
    let three = packed_lt 8 (drop 15 s) (bytes_drop 15 s bytes) in
    let hash = r5_lt 0 (drop 15 s) (omega arith) in
    is_key (key_of_name dir s) refl (omega arith) (either (ltb 23 (length s)) (2 ^ 56 + packed 7 s) (packed 7 s) (omega arith) (omega arith)) two (either (ltb 23 (length s)) (r5_of (drop 15 s)) (packed 8 (drop 15 s)) hash (omega arith))
  where
    either : (t : Bool) (x y : ℕ) → x < 2 ^ 64 → y < 2 ^ 64 → cond t x y < 2 ^ 64
    either true x y a b = a
    either false x y a b = b

-- ---- what the code computes

pub bad_byte_is : (i : ℕ) (s : List ℕ) → position_from (λ x. eqb x 0 || eqb x 47) i s ≡ bad_byte i s
unfolding bad_byte
bad_byte_is i [] = refl
bad_byte_is i (x ∷ s) = rw (bad_byte_is (i + 1) s) (turn (eqb x 0) (eqb x 47) (Some i) (bad_byte (i + 1) s))
  where
    turn : {X : Type 0} (p q : Bool) (a b : X) → cond (p || q) a b ≡ cond (not p && not q) b a
    turn true q a b = refl
    turn false true a b = refl
    turn false false a b = refl

pub r5_step : (a i : ℕ) (s : List ℕ) → i < length s → r5_from a (drop i s) ≡ r5_from ((a + (16 * get_or s i 0 + get_or s i 0 / 16)) % 2 ^ 64 * 11 % 2 ^ 64) (drop (i + 1) s)
unfolding r5_from
r5_step a i s lt =
    let next : suc i ≡ i + 1 = omega arith in
    let x : ℕ = get_or s i 0 in
    let sum : (a + 16 * x + x / 16) * 11 % 2 ^ 64 ≡ (a + (16 * x + x / 16)) % 2 ^ 64 * 11 % 2 ^ 64 = ap (λ (m : ℕ). m * 11 % 2 ^ 64) (omega arith) ∙ sym (mul-mod_first (a + (16 * x + x / 16)) 11 (2 ^ 64)) in
    rw (drop-cons s i 0, next) (ap (λ (m : ℕ). r5_from m (drop (i + 1) s)) sum)

pub r5_done : (a i : ℕ) (s : List ℕ) → length s ≤ i → r5_from a (drop i s) ≡ a
unfolding r5_from
r5_done a i s le = rw (drop_all i s le) refl

-- one more byte behind a number
pub packed_more : (number i end : ℕ) (s : List ℕ) → i < end → number * 256 ^ (end - i) + packed (end - i) (drop i s) ≡ (number * 256 + get_or s i 0) * 256 ^ (end - (i + 1)) + packed (end - (i + 1)) (drop (i + 1) s)
packed_more number i end s lt =
    let n : ℕ = end - (i + 1) in
    let size : end - i ≡ suc n = omega arith in
    let power = pow-suc 256 n in
    let regroup : number * 256 ^ suc n + (get_or s i 0 * 256 ^ n + packed n (drop (i + 1) s)) ≡ (number * 256 + get_or s i 0) * 256 ^ n + packed n (drop (i + 1) s) = rw power (omega arith) in
    ap (λ (m : ℕ). number * 256 ^ m + packed m (drop i s)) size ∙ ap (λ (p : ℕ). number * 256 ^ suc n + p) (packed_step n i s) ∙ regroup

pub packed_done : (number i end : ℕ) (s : List ℕ) → end ≤ i → number ≡ number * 256 ^ (end - i) + packed (end - i) (drop i s)
unfolding packed
packed_done number i end s le =
    let none : end - i ≡ 0 = omega arith in
    let one : number ≡ number * 1 + 0 = omega arith in
    rw none one

pub packed_small : (k next number x : ℕ) → next ≡ suc k → number < 256 ^ k → x < 256 → number * 256 + x < 256 ^ next
packed_small k next number x e lt small =
    let power = pow-suc 256 k in
    rw (e, power) (omega arith)

pub packed_fits : (k number x : ℕ) → k < 8 → number < 256 ^ k → x < 256 → number * 256 + x < 2 ^ 64
packed_fits k number x few lt small =
    let some : 0 < 256 = omega arith in
    let least : suc k ≤ 8 = omega arith in
    let power : 256 ^ suc k ≤ 256 ^ 8 = pow-le-pow_right some least in
    let next = packed_small k (suc k) number x refl lt small in
    omega arith

pub fault_at_byte : (s : List ℕ) (at : ℕ) → eqb (length s) 0 ≡ false → length s ≤ 255 → bad_byte 0 s ≡ Some at → Some (Byte at) ≡ name_fault s
unfolding name_fault
fault_at_byte s at some few bad = rw (some, le-ltb 255 (length s) few, bad) refl

pub fault_of_dots : (s : List ℕ) → eqb (length s) 0 ≡ false → length s ≤ 255 → bad_byte 0 s ≡ None → cond (is_dots s) (Some Dot) None ≡ name_fault s
unfolding name_fault
fault_of_dots s some few none = rw (some, le-ltb 255 (length s) few, none) refl

-- ---- keys that code compares

keys_told : (a b : Key) (r : Bool) → IsKey a → IsKey b → MatchBool r (a.el ≡ b.el) (a.el ≢ b.el) → r ≡ eqb (rank a) (rank b)
unfolding rank
keys_told a b true h g same = sym (eq-eqb (rank a) (rank b) (ap (λ (xs : List ℕ). get_or xs 0 0 * 2 ^ 192 + (get_or xs 1 0 * 2 ^ 128 + (get_or xs 2 0 * 2 ^ 64 + get_or xs 3 0))) same))
keys_told a b false h g other = sym (ne_eqb (rank a) (rank b) (λ e. other (ap (λ (k : Key). k.el) (equal a b h g e))))

-- keys are equal exactly where their ranks are
pub keys_equal : (a b : Key) (r : Bool) → IsKey a → IsKey b → r ≡ pointwise nat_eq a.el b.el → r ≡ eqb (rank a) (rank b)
keys_equal a b r h g e = keys_told a b r h g (told_text a.el b.el r e)

pub keys_same : (a b : Key) (r : Bool) → r ≡ pointwise nat_eq a.el b.el → r ≡ true → a ≡ b
keys_same a b r e is = ap (λ (xs : List ℕ). let k : Key = record { el = xs } in k) (told a b r is (told_text a.el b.el r e))
  where
    told : (a b : Key) (r : Bool) → r ≡ true → MatchBool r (a.el ≡ b.el) (a.el ≢ b.el) → a.el ≡ b.el
    told a b true is h = h
    told a b false is h = absurd cc

-- what the code answers to whether a key is that of a name
pub key_is_of : (k named : Key) (s : List ℕ) (r : Bool) → IsKey k → AreBytes s → name_fault s ≡ None → named ≡ key_of_name (dir_of_key k) s → r ≡ pointwise nat_eq named.el k.el
    → r ≡ is_none (name_fault s) && eqb (rank (key_of_name (dir_of_key k) s)) (rank k)
key_is_of k named s r key bytes legal is e =
    let high = key.small 0 in
    let fits = key_fits (dir_of_key k) s (omega arith) bytes in
    let same = keys_equal named k r (subst IsKey (sym is) fits) key e in
    rw (legal, ← is) same

pub of_none : (s : List ℕ) (e : NameFault) (t : Bool) → name_fault s ≡ Some e → false ≡ is_none (name_fault s) && t
of_none s e t is = rw is refl

pub is_none_none : {X : Type 0} (o : Option X) → is_none o ≡ true → o ≡ None
is_none_none None e = refl
is_none_none (Some x) e = absurd cc
