-- The bytes of a file in a content, from an offset on, and what items have of them.
use Rattle.std.proofs.Common.{◌≡◌, inl, inr, ℕ, zero, suc, ◌+◌, ◌-◌, ◌*◌, ◌<◌, Bool, true, false, List, [], ◌∷◌, ◌++◌, length, get_or, refl, sym, ap, subst, ◌∙◌, arith}
use Rattle.std.specs.Prelude.{Some, None, Contains, if◌then◌else◌}
use Rattle.std.proofs.lemmas.Bool.{lt-ltb, le-ltb, cases_lt}
use Rattle.std.proofs.lemmas.List.{append_assoc}
use Rattle.std.proofs.lemmas.List.Elements.{Contains-append_left, Contains-append_right}
use Rattle.r4_base.specs.Cell.{bytes_from as units_from, hole_bytes, zeros_from}
use Rattle.r4_base.specs.Extents.{block_of, blocks_in, is_hole}
use Rattle.r4_base.specs.Value.{Content, Byte, at_key}
use Rattle.r4_base.specs.Volume.{byte_rank}
use Rattle.r4_base.specs.declared.items.Target.{Target}
use Rattle.r4_base.specs.declared.items.Unit.{Unit as ExtentUnit}
use Rattle.r4_list.specs.Listing.{bytes_from, byte_in}

-- ---- texts that a content has

-- the bytes of a file from an offset on are these
pub record Spells (m : Content) (o : Target) (from : ℕ) (s : List ℕ) : Type 0 where
  pub at : (i : ℕ) → i < length s → at_key m (byte_rank o (from + i)) ≡ Some (Byte (get_or s i 0))

pub spelled : (m : Content) (o : Target) (from : ℕ) (s : List ℕ) → Spells m o from s → bytes_from m o (length s) from ≡ s
unfolding bytes_from
spelled m o from [] h = refl
spelled m o from (x ∷ s) h =
    let zero_is : from + 0 ≡ from = omega arith in
    let first : at_key m (byte_rank o from) ≡ Some (Byte x) = subst (λ (f : ℕ). at_key m (byte_rank o f) ≡ Some (Byte x)) zero_is (h.at 0 (omega arith)) in
    let rest = spelled m o (from + 1) s (record { at = λ i lt. let e : from + suc i ≡ from + 1 + i = omega arith in subst (λ (f : ℕ). at_key m (byte_rank o f) ≡ Some (Byte (get_or s i 0))) e (h.at (suc i) (omega (arith, lt))) }) in
    rw (first, rest) refl

pub bytes_split : (m : Content) (o : Target) (a b from : ℕ) → bytes_from m o (a + b) from ≡ bytes_from m o a from ++ bytes_from m o b (from + a)
unfolding bytes_from
bytes_split m o zero b from =
    let e : zero + b ≡ b = omega arith in
    let f : from ≡ from + zero = omega arith in
    ap (λ (n : ℕ). bytes_from m o n from) e ∙ ap (λ (n : ℕ). bytes_from m o b n) f
bytes_split m o (suc a) b from =
    let e : suc a + b ≡ suc (a + b) = omega arith in
    let f : from + 1 + a ≡ from + suc a = omega arith in
    let rest : bytes_from m o (a + b) (from + 1) ≡ bytes_from m o a (from + 1) ++ bytes_from m o b (from + suc a) = bytes_split m o a b (from + 1) ∙ ap (λ (n : ℕ). bytes_from m o a (from + 1) ++ bytes_from m o b n) f in
    ap (λ (n : ℕ). bytes_from m o n from) e
    ∙ (ap (λ (t : List ℕ). byte_in (at_key m (byte_rank o from)) ++ t) rest ∙ sym (append_assoc (byte_in (at_key m (byte_rank o from))) (bytes_from m o a (from + 1)) (bytes_from m o b (from + suc a))))

-- ---- units of bytes

pub byte_unit : (k : ℕ) (s : List ℕ) (i : ℕ) → i < length s → Contains (units_from k s) (k + i, Byte (get_or s i 0))
byte_unit k [] i lt = absurd (omega (arith, lt))
byte_unit k (x ∷ s) zero lt =
    let e : k ≡ k + 0 = omega arith in
    subst (λ (n : ℕ). Contains (units_from k (x ∷ s)) (n, Byte x)) e (zero, omega arith, refl)
byte_unit k (x ∷ s) (suc i) lt =
    let e : k + 1 + i ≡ k + suc i = omega arith in
    Contains-append_right ((k, Byte x) ∷ []) (units_from (k + 1) s) _ (subst (λ (n : ℕ). Contains (units_from (k + 1) s) (n, Byte (get_or s i 0))) e (byte_unit (k + 1) s i (omega (arith, lt))))

zero_unit : (k n i : ℕ) → i < n → Contains (zeros_from k n) (k + i, Byte 0)
zero_unit k zero i lt = absurd (omega (arith, lt))
zero_unit k (suc n) zero lt =
    let e : k ≡ k + 0 = omega arith in
    subst (λ (j : ℕ). Contains (zeros_from k (suc n)) (j, Byte 0)) e (zero, omega arith, refl)
zero_unit k (suc n) (suc i) lt =
    let e : k + 1 + i ≡ k + suc i = omega arith in
    Contains-append_right ((k, Byte 0) ∷ []) (zeros_from (k + 1) n) _ (subst (λ (j : ℕ). Contains (zeros_from (k + 1) n) (j, Byte 0)) e (zero_unit (k + 1) n i (omega (arith, lt))))

-- a byte of a block that is a hole
pub hole_unit : (k : ℕ) (us : List ExtentUnit) (block i : ℕ) → block_of us block ≡ None → block < blocks_in us → i < 4096 → Contains (hole_bytes k us) (k + 4096 * block + i, Byte 0)
unfolding block_of
hole_unit k [] block i is lt small = absurd (omega (arith, lt))
hole_unit k (u ∷ us) block i is lt small = elim (cases_lt block u.width) [
  | inl first ↦ here (is_hole u) (sym (at_first first) ∙ is) first
  | inr past ↦
      let later : block_of (u ∷ us) block ≡ block_of us (block - u.width) = rw (le-ltb block u.width past) refl in
      let e : k + 4096 * u.width + 4096 * (block - u.width) + i ≡ k + 4096 * block + i = omega (arith, past) in
      Contains-append_right (if is_hole u then zeros_from k (4096 * u.width) else []) (hole_bytes (k + 4096 * u.width) us) _
      (subst (λ (j : ℕ). Contains (hole_bytes (k + 4096 * u.width) us) (j, Byte 0)) e (hole_unit (k + 4096 * u.width) us (block - u.width) i (sym later ∙ is) (omega (arith, lt, past)) small))
]
  where
    at_first : block < u.width → block_of (u ∷ us) block ≡ (if is_hole u then None else Some (u.start + block))
    at_first first = rw (lt-ltb block u.width first) refl

    here : (hole : Bool) → (if hole then None else Some (u.start + block)) ≡ None → block < u.width → Contains ((if hole then zeros_from k (4096 * u.width) else []) ++ hole_bytes (k + 4096 * u.width) us) (k + 4096 * block + i, Byte 0)
    here true e first =
        let f : k + (4096 * block + i) ≡ k + 4096 * block + i = omega arith in
        Contains-append_left (zeros_from k (4096 * u.width)) (hole_bytes (k + 4096 * u.width) us) _
        (subst (λ (j : ℕ). Contains (zeros_from k (4096 * u.width)) (j, Byte 0)) f (zero_unit k (4096 * u.width) (4096 * block + i) (omega (arith, first, small))))
    here false e first = absurd cc
