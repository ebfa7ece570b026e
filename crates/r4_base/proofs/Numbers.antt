-- Numbers in bytes: what is written is read, and a write elsewhere does not matter.
use Rattle.std.proofs.Common.{◌≡◌, ℕ, zero, suc, ◌+◌, ◌-◌, ◌%◌, ◌^◌, ◌<◌, ◌≤◌, List, [], ◌∷◌, ◌++◌, length, get_or, take, drop, replicate, refl, sym, ap, subst, ◌∙◌, arith}
use Rattle.std.proofs.lemmas.List.{places, length-take-le, ext_get_or, drop-replicate, take_at, drop_at, drop_all, take_rest, append-nil, drop-drop, get_or-drop, get_or-take, length-append, length-take, length-drop, append_assoc}
use Rattle.byteorder.specs.Endian.{little_from, little_bytes}
use Rattle.byteorder.specs.Numbers.{little_number-reads_back, length-bytes_low_first}
use Rattle.r4_base.specs.Bytes.{number_at, number_bytes, overwrite, fields_bytes, width_of, FieldsFit, HasFields, put_all}
use Rattle.std.proofs.Math.Nat.{pow-suc}
use Rattle.std.specs.Int.{byte_at, bytes_low_first}
use Rattle.std.specs.List.{copy_within}
use Rattle.std.specs.Prelude.{slice_range}
use borrow.Rule.Slice.PartMut.{put_mid}

-- the items are bytes
abbrev pub AreBytes : List ℕ → Type 0
AreBytes xs = (k : ℕ) → get_or xs k 0 < 256

pub number_at-lt : (n at : ℕ) (xs : List ℕ) → number_at n at xs < 256 ^ n
unfolding number_at
number_at-lt zero at xs = omega arith
number_at-lt (suc n) at xs = let rest : number_at n (suc at) xs < 256 ^ n = number_at-lt n (suc at) xs in rw (pow-suc 256 n) (omega (arith, rest))

-- of bytes it is the number that byteorder reads
pub number_at-is : (n at : ℕ) (xs : List ℕ) → AreBytes xs → number_at n at xs ≡ little_from at n xs
unfolding number_at
number_at-is zero at xs h = refl
number_at-is (suc n) at xs h =
    let here : get_or xs at 0 < 256 = h at in
    let same : get_or xs at 0 % 256 ≡ get_or xs at 0 = omega (arith, here) in
    rw (same, number_at-is n (suc at) xs h) refl

-- a number that stands at another place
pub number_at-moved : (n i j : ℕ) (xs ys : List ℕ) → ((k : ℕ) → k < n → get_or xs (i + k) 0 ≡ get_or ys (j + k) 0) → number_at n i xs ≡ number_at n j ys
unfolding number_at
number_at-moved zero i j xs ys h = refl
number_at-moved (suc n) i j xs ys h =
    let zi : i + 0 ≡ i = omega arith in
    let zj : j + 0 ≡ j = omega arith in
    let here : get_or xs i 0 ≡ get_or ys j 0 = ap (λ (k : ℕ). get_or xs k 0) (sym zi) ∙ h 0 (omega arith) ∙ ap (λ (k : ℕ). get_or ys k 0) zj in
    let rest = number_at-moved n (suc i) (suc j) xs ys (λ k lt.
    let si : suc i + k ≡ i + suc k = omega arith in
    let sj : suc j + k ≡ j + suc k = omega arith in
    ap (λ (m : ℕ). get_or xs m 0) si ∙ h (suc k) (omega arith) ∙ ap (λ (m : ℕ). get_or ys m 0) (sym sj)) in
    rw (here, rest) refl

-- two lists that agree at the places of a number have the same number there
pub number_at-same : (n at : ℕ) (xs ys : List ℕ) → ((k : ℕ) → at ≤ k → k < at + n → get_or xs k 0 ≡ get_or ys k 0) → number_at n at xs ≡ number_at n at ys
number_at-same n at xs ys h = number_at-moved n at at xs ys (λ k lt. h (at + k) (omega arith) (omega arith))

little_from-drop : (i n at : ℕ) (xs : List ℕ) → little_from i n (drop at xs) ≡ little_from (at + i) n xs
little_from-drop i zero at xs = refl
little_from-drop i (suc n) at xs =
    let here : get_or (drop at xs) i 0 ≡ get_or xs (at + i) 0 = get_or-drop at xs i 0 in
    let rest = little_from-drop (suc i) n at xs in
    let next : at + suc i ≡ suc (at + i) = omega arith in
    rw (here, rest, next) refl

little_at-drop : (n at : ℕ) (xs : List ℕ) → little_from 0 n (drop at xs) ≡ little_from at n xs
little_at-drop n at xs = little_from-drop 0 n at xs ∙ ap (λ (k : ℕ). little_from k n xs) (omega arith)

byte_small : (i v : ℕ) → byte_at i v < 256
byte_small zero v = omega arith
byte_small (suc i) v = omega arith

bytes_below : (j n v k : ℕ) → get_or (bytes_low_first j n v) k 0 < 256
bytes_below j zero v k = omega arith
bytes_below j (suc n) v zero = byte_small j v
bytes_below j (suc n) v (suc k) = bytes_below (suc j) n v k

pub length-number_bytes : (n v : ℕ) → length (number_bytes n v) ≡ n
unfolding number_bytes
length-number_bytes n v = length-bytes_low_first 0 n v

-- ---- a write

pub length-overwrite : {X : Type 0} (at : ℕ) (ys xs : List X) → at + length ys ≤ length xs → length (overwrite at ys xs) ≡ length xs
unfolding overwrite
length-overwrite at ys xs h = grind (arith, places)

pub get_or-overwrite_below : {X : Type 0} (at : ℕ) (ys xs : List X) (k : ℕ) (d : X) → at + length ys ≤ length xs → k < at → get_or (overwrite at ys xs) k d ≡ get_or xs k d
unfolding overwrite
get_or-overwrite_below at ys xs k d h lt = grind (arith, places)

pub get_or-overwrite_inside : {X : Type 0} (at : ℕ) (ys xs : List X) (k : ℕ) (d : X) → at + length ys ≤ length xs → at ≤ k → k < at + length ys → get_or (overwrite at ys xs) k d ≡ get_or ys (k - at) d
unfolding overwrite
get_or-overwrite_inside at ys xs k d h le lt = grind (arith, places)

pub get_or-overwrite_above : {X : Type 0} (at : ℕ) (ys xs : List X) (k : ℕ) (d : X) → at + length ys ≤ length xs → at + length ys ≤ k → get_or (overwrite at ys xs) k d ≡ get_or xs k d
unfolding overwrite
get_or-overwrite_above at ys xs k d h le = grind (arith, places)

-- ---- what byteorder's calls at `b[at..]` say

pub number_is : (n at r : ℕ) (xs : List ℕ) → AreBytes xs → r ≡ little_from 0 n (take (length xs - at) (drop at xs)) → r ≡ number_at n at xs
number_is n at r xs bytes e = e ∙ ap (little_from 0 n) (take_rest xs at) ∙ little_at-drop n at xs ∙ sym (number_at-is n at xs bytes)

pub number_written : (n at v : ℕ) (xs part : List ℕ) → at + n ≤ length xs → part ≡ little_bytes n v ++ drop n (take (length xs - at) (drop at xs)) → put_mid at (length xs - at) xs part ≡ overwrite at (number_bytes n v) xs
unfolding overwrite number_bytes
number_written n at v xs part h e =
    let len : length (little_bytes n v) ≡ n = length-bytes_low_first 0 n v in
    let past : drop (length xs - at) (drop at xs) ≡ [] = drop_all (length xs - at) (drop at xs) (omega (arith, length-drop at xs)) in
    rw (e, past, take_rest xs at, append-nil, len, drop-drop n at xs) refl

-- ---- what is written is read

pub number_at-bytes : (n v : ℕ) (front rest : List ℕ) (at : ℕ) → length front ≡ at → v < 256 ^ n → number_at n at (front ++ (number_bytes n v ++ rest)) ≡ v
unfolding number_bytes
number_at-bytes n v front rest at len lt =
    let bytes = little_bytes n v in
    let long : length bytes ≡ n = length-bytes_low_first 0 n v in
    let moved : number_at n at (front ++ (bytes ++ rest)) ≡ number_at n 0 bytes = number_at-moved n at 0 (front ++ (bytes ++ rest)) bytes (λ k short. grind (arith, places)) in
    let alone : bytes ++ [] ≡ bytes = append-nil bytes in
    moved ∙ number_at-is n 0 bytes (bytes_below 0 n v) ∙ rw (← alone) (little_number-reads_back n v [] lt)

pub number_at-overwrite : (n at v : ℕ) (xs : List ℕ) → at + n ≤ length xs → v < 256 ^ n → number_at n at (overwrite at (number_bytes n v) xs) ≡ v
unfolding overwrite
number_at-overwrite n at v xs h lt =
    number_at-bytes n v (take at xs) (drop (at + length (number_bytes n v)) xs) at (omega (arith, length-take at xs)) lt

-- a write that ends before the number, or begins after it
pub number_at-overwrite_before : (n i at : ℕ) (ys xs : List ℕ) → at + length ys ≤ length xs → at + length ys ≤ i → number_at n i (overwrite at ys xs) ≡ number_at n i xs
number_at-overwrite_before n i at ys xs h before =
    number_at-same n i (overwrite at ys xs) xs (λ k lo hi. get_or-overwrite_above at ys xs k 0 h (omega arith))

pub number_at-overwrite_after : (n i at : ℕ) (ys xs : List ℕ) → at + length ys ≤ length xs → i + n ≤ at → number_at n i (overwrite at ys xs) ≡ number_at n i xs
number_at-overwrite_after n i at ys xs h after =
    number_at-same n i (overwrite at ys xs) xs (λ k lo hi. get_or-overwrite_below at ys xs k 0 h (omega arith))

-- ---- fields one after the other

pub length-fields_bytes : (fs : List (ℕ × ℕ)) → length (fields_bytes fs) ≡ width_of fs
length-fields_bytes [] = refl
length-fields_bytes (f ∷ fs) = omega (arith, length-append (number_bytes f.0 f.1) (fields_bytes fs), length-number_bytes f.0 f.1, length-fields_bytes fs)

-- what stands behind a front of the right length is read
pub fields_read : (fs : List (ℕ × ℕ)) (front rest : List ℕ) (at : ℕ) → length front ≡ at → FieldsFit fs → HasFields fs at (front ++ (fields_bytes fs ++ rest))
fields_read [] front rest at len fit = tt
fields_read (f ∷ fs) front rest at len fit =
    let bytes = number_bytes f.0 f.1 in
    let regrouped : front ++ ((bytes ++ fields_bytes fs) ++ rest) ≡ (front ++ bytes) ++ (fields_bytes fs ++ rest) = simp append_assoc in
    let first : number_at f.0 at (front ++ ((bytes ++ fields_bytes fs) ++ rest)) ≡ f.1 = rw (append_assoc bytes (fields_bytes fs) rest) (number_at-bytes f.0 f.1 front (fields_bytes fs ++ rest) at len fit.0) in
    let others = fields_read fs (front ++ bytes) rest (at + f.0) (omega (arith, length-append front bytes, length-number_bytes f.0 f.1)) fit.1 in
    (first, subst (λ (xs : List ℕ). HasFields fs (at + f.0) xs) (sym regrouped) others)

-- a write behind what is written, over what is still blank
pub overwrite_next : (at : ℕ) (front ys : List ℕ) (blank : ℕ) → length front ≡ at → length ys ≤ blank → overwrite at ys (front ++ replicate blank 0) ≡ (front ++ ys) ++ replicate (blank - length ys) 0
unfolding overwrite
overwrite_next at front ys blank len le =
    let past : drop (at + length ys) (front ++ replicate blank 0) ≡ replicate (blank - length ys) 0 = sym (drop-drop (length ys) at (front ++ replicate blank 0)) ∙ rw (drop_at front (replicate blank 0) at len) (drop-replicate (length ys) blank 0) in
    rw (take_at front (replicate blank 0) at len, past) (sym (append_assoc front ys (replicate (blank - length ys) 0)))

pub put_all-blank : (fs : List (ℕ × ℕ)) (at : ℕ) (front : List ℕ) (blank : ℕ) → length front ≡ at → width_of fs ≤ blank → put_all fs at (front ++ replicate blank 0) ≡ front ++ (fields_bytes fs ++ replicate (blank - width_of fs) 0)
put_all-blank [] at front blank len le = let e : blank ≡ blank - 0 = omega arith in ap (λ (k : ℕ). front ++ replicate k 0) e
put_all-blank (f ∷ fs) at front blank len le =
    let bytes = number_bytes f.0 f.1 in
    let n : length bytes ≡ f.0 = length-number_bytes f.0 f.1 in
    let one : overwrite at bytes (front ++ replicate blank 0) ≡ (front ++ bytes) ++ replicate (blank - f.0) 0 = overwrite_next at front bytes blank len (omega arith) ∙ ap (λ (k : ℕ). (front ++ bytes) ++ replicate (blank - k) 0) n in
    let ih = put_all-blank fs (at + f.0) (front ++ bytes) (blank - f.0) (omega (arith, length-append front bytes)) (omega arith) in
    let left : blank - f.0 - width_of fs ≡ blank - (f.0 + width_of fs) = omega arith in
    rw (one, ih, left) (simp append_assoc)

-- what `copy_from_slice` to a part leaves
pub pasted : (at n : ℕ) (xs ys part : List ℕ) → n ≡ length ys → part ≡ ys → put_mid at n xs part ≡ overwrite at ys xs
unfolding overwrite
pasted at n xs ys part len e = rw (e, len, drop-drop (length ys) at xs) refl

-- what `copy_within` leaves
pub moved_is : (xs new : List ℕ) (from to at : ℕ) → from ≤ to → to ≤ length xs → new ≡ copy_within xs from to at → new ≡ overwrite at (slice_range xs from to) xs
unfolding overwrite
moved_is xs new from to at order within e =
    let long : length (take (to - from) (drop from xs)) ≡ to - from = length-take-le (to - from) (drop from xs) (omega (arith, length-drop from xs)) in
    e ∙ append_assoc (take at xs) (take (to - from) (drop from xs)) (drop (at + (to - from)) xs) ∙ rw long refl

pub length-slice_range : (xs : List ℕ) (from to : ℕ) → from ≤ to → to ≤ length xs → length (slice_range xs from to) ≡ to - from
length-slice_range xs from to order within = length-take-le (to - from) (drop from xs) (omega (arith, length-drop from xs))

pub get_or-slice_range : (xs : List ℕ) (from to k : ℕ) → k < to - from → get_or (slice_range xs from to) k 0 ≡ get_or xs (from + k) 0
get_or-slice_range xs from to k lt = get_or-take (to - from) (drop from xs) k 0 lt ∙ get_or-drop from xs k 0

-- two ranges with the same bytes
pub slice_range-same : (xs ys : List ℕ) (a e b f : ℕ) → a ≤ e → e ≤ length xs → b ≤ f → f ≤ length ys → e - a ≡ f - b → ((k : ℕ) → k < e - a → get_or xs (a + k) 0 ≡ get_or ys (b + k) 0) → slice_range xs a e ≡ slice_range ys b f
slice_range-same xs ys a e b f order within order' within' len same =
    let n = length-slice_range xs a e order within in
    let m = length-slice_range ys b f order' within' in
    ext_get_or 0 (slice_range xs a e) (slice_range ys b f) (omega arith) (λ k lt.
    get_or-slice_range xs a e k (omega arith) ∙ same k (omega arith) ∙ sym (get_or-slice_range ys b f k (omega arith)))

pub put_all-append : (fs gs : List (ℕ × ℕ)) (at : ℕ) (xs : List ℕ) → put_all (fs ++ gs) at xs ≡ put_all gs (at + width_of fs) (put_all fs at xs)
put_all-append [] gs at xs = let e : at ≡ at + 0 = omega arith in ap (λ (k : ℕ). put_all gs k xs) e
put_all-append (f ∷ fs) gs at xs =
    let e : at + f.0 + width_of fs ≡ at + (f.0 + width_of fs) = omega arith in
    put_all-append fs gs (at + f.0) (overwrite at (number_bytes f.0 f.1) xs) ∙ ap (λ (k : ℕ). put_all gs k (put_all fs (at + f.0) (overwrite at (number_bytes f.0 f.1) xs))) e
