-- The units of an extent as pieces.
use Rattle.std.proofs.Common.{◌≡◌, inl, inr, ℕ, zero, suc, ◌+◌, ◌*◌, ◌^◌, ◌<◌, ◌≤◌, Bool, true, false, List, [], ◌∷◌, ◌++◌, length, take, refl, ap, subst, ◌∙◌, arith}
use Rattle.std.specs.Prelude.{Option, nat_lt, slice_get, Some, if◌then◌else◌}
use Rattle.std.proofs.lemmas.Bool.{eq-eqb, lt-ltb}
use Rattle.std.proofs.lemmas.Option.{same_Some}
use Rattle.r4_base.specs.Cell.{block_names, hole_bytes}
use Rattle.r4_base.specs.Extents.{AreLawfulUnits, IsLawfulUnit, blocks_in}
use Rattle.r4_base.specs.Key.{IsKey, offset_of, rank, later}
use Rattle.r4_base.specs.declared.items.Unit.{Unit as ExtentUnit}
use Rattle.r4_base.specs.declared.key.Key.{Key}
use Rattle.r4_base.proofs.Keys.{is_key}
use Rattle.r4_branch.specs.Pieces.{Follow, bytes_behind, is_at, names_of, open_end, part_names, part_units, twig_bytes, unit_pieces, units_of}
use Rattle.r4_branch.specs.declared.piece.TwigPart.TheVariants.{Blocks}

-- ---- one unit more

pub blocks_more : (n : ℕ) (us : List ExtentUnit) (u : ExtentUnit) → slice_get us n ≡ Some u → blocks_in (take (n + 1) us) ≡ blocks_in (take n us) + u.width
blocks_more zero [] u e = absurd cc
blocks_more (suc n) [] u e = absurd cc
blocks_more zero (y ∷ us) u e = let w = ap (λ (v : ExtentUnit). v.width) (same_Some y u e) in omega (arith, w)
blocks_more (suc n) (y ∷ us) u e =
    let h = blocks_more n us u e in
    let step : suc n + 1 ≡ suc (n + 1) = omega arith in
    let s = ap (λ k. blocks_in (take k (y ∷ us))) step in
    omega (arith, h, s)

pub blocks_within : (n : ℕ) (us : List ExtentUnit) (u : ExtentUnit) → slice_get us n ≡ Some u → blocks_in (take n us) + u.width ≤ blocks_in us
blocks_within zero [] u e = absurd cc
blocks_within (suc n) [] u e = absurd cc
blocks_within zero (y ∷ us) u e = let w = ap (λ (v : ExtentUnit). v.width) (same_Some y u e) in omega (arith, w)
blocks_within (suc n) (y ∷ us) u e = let h = blocks_within n us u e in omega (arith, h)

pub lawful_at : (n : ℕ) (us : List ExtentUnit) (u : ExtentUnit) → slice_get us n ≡ Some u → AreLawfulUnits true (2 ^ 64) us → IsLawfulUnit true (2 ^ 64) u
lawful_at zero [] u e h = absurd cc
lawful_at (suc n) [] u e h = absurd cc
lawful_at zero (y ∷ us) u e h = subst (λ v. IsLawfulUnit true (2 ^ 64) v) (same_Some y u e) h.0
lawful_at (suc n) (y ∷ us) u e h = lawful_at n us u e h.1

pub some_width : (u : ExtentUnit) → IsLawfulUnit true (2 ^ 64) u → 1 ≤ u.width
some_width u (inl h) = let w = h.2 in omega (arith, w)
some_width u (inr (inl h)) = let w = h.1 in omega (arith, w)
some_width u (inr (inr h)) = let w = h.width in omega (arith, w)

pub some_blocks : (us : List ExtentUnit) → 1 ≤ length us → AreLawfulUnits true (2 ^ 64) us → 1 ≤ blocks_in us
some_blocks [] some h = absurd (omega (arith, some))
some_blocks (u ∷ us) some h = let w = some_width u h.0 in omega (arith, w)

-- ---- keys behind another

pub rank_later : (k : Key) (n : ℕ) → rank (later k n) ≡ rank k + n
unfolding rank
rank_later k n = omega arith

pub key_later : (k : Key) (n : ℕ) → IsKey k → offset_of k + n < 2 ^ 64 → IsKey (later k n)
key_later k n h low = is_key (later k n) refl (h.small 0) (h.small 1) (h.small 2) low

-- ---- units one behind the other, as pieces

pub unit_pieces_more : (k : Key) (n i : ℕ) (us : List ExtentUnit) (u : ExtentUnit) → slice_get us i ≡ Some u
    → unit_pieces k n (take (i + 1) us) ≡ unit_pieces k n (take i us) ++ (record { key = later k (4096 * (n + blocks_in (take i us))); part = Blocks u }) ∷ []
unit_pieces_more k n zero [] u e = absurd cc
unit_pieces_more k n (suc i) [] u e = absurd cc
unit_pieces_more k n zero (y ∷ us) u e =
    let none : n ≡ n + 0 = omega arith in
    λ j. (record { key = later k (4096 * none j); part = Blocks (same_Some y u e j) }) ∷ []
unit_pieces_more k n (suc i) (y ∷ us) u e =
    let step : suc i + 1 ≡ suc (i + 1) = omega arith in
    let far : n + y.width + blocks_in (take i us) ≡ n + (y.width + blocks_in (take i us)) = omega arith in
    ap (λ j. unit_pieces k n (take j (y ∷ us))) step
    ∙ ap (λ ps. (record { key = later k (4096 * n); part = Blocks y }) ∷ ps) (unit_pieces_more k (n + y.width) i us u e
    ∙ ap (λ (m : ℕ). unit_pieces k (n + y.width) (take i us) ++ (record { key = later k (4096 * m); part = Blocks u }) ∷ []) far)

pub names_of_units : (next : ℕ) (k : Key) (n : ℕ) (us : List ExtentUnit) → names_of next (unit_pieces k n us) ≡ block_names (rank k + 4096 * n) us
unfolding names_of
names_of_units next k n [] = refl
names_of_units next k n (u ∷ us) =
    let far : rank k + 4096 * (n + u.width) ≡ rank k + 4096 * n + 4096 * u.width = omega arith in
    let rest : names_of next (unit_pieces k (n + u.width) us) ≡ block_names (rank k + 4096 * n + 4096 * u.width) us = names_of_units next k (n + u.width) us ∙ ap (λ (m : ℕ). block_names m us) far in
    λ j. part_names (rank_later k (4096 * n) j) next (Blocks u) ++ rest j

pub units_of_units : (k : Key) (n : ℕ) (us : List ExtentUnit) → units_of (unit_pieces k n us) ≡ hole_bytes (rank k + 4096 * n) us
unfolding units_of
units_of_units k n [] = refl
units_of_units k n (u ∷ us) =
    let far : rank k + 4096 * (n + u.width) ≡ rank k + 4096 * n + 4096 * u.width = omega arith in
    let rest : units_of (unit_pieces k (n + u.width) us) ≡ hole_bytes (rank k + 4096 * n + 4096 * u.width) us = units_of_units k (n + u.width) us ∙ ap (λ (m : ℕ). hole_bytes m us) far in
    λ j. part_units (rank_later k (4096 * n) j) (Blocks u) ++ rest j

pub follow_units : (k : Key) (n : ℕ) (us : List ExtentUnit) → IsKey k → AreLawfulUnits true (2 ^ 64) us → offset_of k + 4096 * (n + blocks_in us) ≤ 2 ^ 64
    → Follow (rank k + 4096 * n) (rank k + 4096 * (n + blocks_in us)) (unit_pieces k n us)
follow_units k n [] key h fits = omega arith
follow_units k n (u ∷ us) key h fits =
    let width = some_width u h.0 in
    let at = rank_later k (4096 * n) in
    let from : rank k + 4096 * (n + u.width) ≡ rank (later k (4096 * n)) + 4096 * u.width = omega (arith, at) in
    let to : n + u.width + blocks_in us ≡ n + blocks_in (u ∷ us) = omega arith in
    let rest = follow_units k (n + u.width) us key h.1 (omega (arith, fits)) in (
      omega (arith, at),
      (key_later k (4096 * n) key (omega (arith, width, fits)), (h.0, omega (arith, fits))),
      subst (λ (m : ℕ). Follow m (rank k + 4096 * (n + blocks_in (u ∷ us))) (unit_pieces k (n + u.width) us)) from
          (subst (λ (m : ℕ). Follow (rank k + 4096 * (n + u.width)) (rank k + 4096 * m) (unit_pieces k (n + u.width) us)) to rest),
    )

cost : Bool → ℕ
cost t = if t then 16 else 54

-- a unit continues the one before it
next_at : (k : Key) (n : ℕ) (u : ExtentUnit) → offset_of k + 4096 * (n + u.width) < 2 ^ 64 → is_at (open_end (record { key = later k (4096 * n); part = Blocks u })) (rank (later k (4096 * (n + u.width)))) ≡ true
next_at k n u low =
    let test : nat_lt (offset_of (later k (4096 * n)) + 4096 * u.width) (2 ^ 64) ≡ true = lt-ltb _ _ (omega (arith, low)) in
    let here = rank_later k (4096 * n) in
    let there = rank_later k (4096 * (n + u.width)) in
    rw test (eq-eqb (rank (later k (4096 * n)) + 4096 * u.width) (rank (later k (4096 * (n + u.width)))) (omega (arith, here, there)))

units_behind : (before : Option ℕ) (k : Key) (n : ℕ) (us : List ExtentUnit) → AreLawfulUnits true (2 ^ 64) us → offset_of k + 4096 * (n + blocks_in us) ≤ 2 ^ 64
    → (1 ≤ length us → is_at before (rank (later k (4096 * n))) ≡ true) → bytes_behind before (unit_pieces k n us) ≡ 16 * length us
unfolding bytes_behind cost
units_behind before k n [] h fits at = refl
units_behind before k n (u ∷ us) h fits at =
    let one : cost (is_at before (rank (later k (4096 * n)))) ≡ 16 = ap cost (at (omega arith)) in
    let rest = units_behind (open_end (record { key = later k (4096 * n); part = Blocks u })) k (n + u.width) us h.1 (omega (arith, fits)) (λ some. next_at k n u (let b = some_blocks us some h.1 in omega (arith, b, fits))) in
    omega (arith, one, rest)

most : (t : Bool) → cost t ≤ 54
unfolding cost
most true = omega arith
most false = omega arith

pub bytes_of_units : (k : Key) (n : ℕ) (us : List ExtentUnit) → AreLawfulUnits true (2 ^ 64) us → offset_of k + 4096 * (n + blocks_in us) ≤ 2 ^ 64 → twig_bytes (unit_pieces k n us) ≤ 38 + 16 * length us
unfolding bytes_behind
bytes_of_units k n [] h fits = omega arith
bytes_of_units k n (u ∷ us) h fits =
    let rest = units_behind (open_end (record { key = later k (4096 * n); part = Blocks u })) k (n + u.width) us h.1 (omega (arith, fits)) (λ some. next_at k n u (let b = some_blocks us some h.1 in omega (arith, b, fits))) in
    omega (arith, rest)
