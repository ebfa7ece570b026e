-- What counts as changed besides is of a tree too.
use Rattle.std.proofs.Common.{◌≡◌, inl, inr, ℕ, ◌+◌, ◌*◌, ◌/◌, ◌%◌, ◌^◌, ◌<◌, ◌≤◌, Bool, true, false, [], ◌∷◌, ◌||◌, map, refl}
use Rattle.std.proofs.Common.{ap, ◌∙◌, arith}
use Rattle.std.specs.Prelude.{Contains, Some, ◌&&◌, not, if◌then◌else◌}
use Rattle.std.proofs.lemmas.Bool.{eqb-true, or_cases}
use Rattle.std.proofs.lemmas.Bool.Decides.{nat_tests}
use Rattle.r4_base.specs.Key.{key_of_rank, least, rank, top}
use Rattle.r4_base.specs.Volume.{byte_rank, object_of}
use Rattle.r4_base.specs.declared.items.Target.{Target}
use Rattle.r4_content.specs.Edited.{Intervals, is_between, is_in}
use Rattle.r4_reaching.proofs.r4_patch.Members.{here, later}
use Rattle.r4_reaching.specs.r4_reach.Reach.{is_body}
use Rattle.r4_reaching.specs.r4_reach.Touched.{Body, blocks_end, coming, first_byte, is_spread, raw_changes, turns_out, whole_blocks, with_blocks}
use Rattle.r4_extent_reaching.specs.Standing.{HasFileSizes}
use Rattle.r4_extent_reaching.specs.Within.{AreOneBody}

abbrev IsLawfulKey : ℕ → Type 0
IsLawfulKey k = (least ≤ k) × (k < top)

-- ---- the file of a key

parts : (k : ℕ) → k ≡ k / 2 ^ 192 * 2 ^ 192 + (k / 2 ^ 128 % 2 ^ 64 * 2 ^ 128 + (k / 2 ^ 64 % 2 ^ 64 * 2 ^ 64 + k % 2 ^ 64))
parts k = omega arith

file_at : (k : ℕ) → is_body k ≡ true → byte_rank (object_of (key_of_rank k)) 0 + k % 2 ^ 64 ≡ k
unfolding rank key_of_rank
file_at k body =
    let four : k / 2 ^ 192 % 16 ≡ 4 = eqb-true (k / 2 ^ 192 % 16) 4 body in
    let whole : k / 2 ^ 192 / 16 * 16 + 4 ≡ k / 2 ^ 192 = omega (arith, four) in
    let p = parts k in
    omega (arith, whole, p)

low_end : (f k : ℕ) → f + k % 2 ^ 64 ≡ k → least ≤ k → least ≤ f
unfolding least
low_end f k at low = omega (arith, at, low)

high_end : (f k : ℕ) → f + k % 2 ^ 64 ≡ k → k / 2 ^ 192 % 16 ≡ 4 → k < top → f + 2 ^ 64 ≤ top
unfolding top
high_end f k at four high = omega (arith, at, four, high)

four_at : (k : ℕ) → is_body k ≡ true → k / 2 ^ 192 % 16 ≡ 4
unfolding key_of_rank
four_at k body = eqb-true (k / 2 ^ 192 % 16) 4 body

-- ---- the keys

module _ (b : Body) (rs : Intervals) (sizes : HasFileSizes (Some b)) (h : AreOneBody b rs) where
  at : first_byte b + b.first % 2 ^ 64 ≡ b.first
  at = ap (λ (o : Target). byte_rank o 0 + b.first % 2 ^ 64) h.file ∙ file_at b.first h.first

  low : least ≤ first_byte b
  low = low_end (first_byte b) b.first at (h.keys b.first h.among).0

  high : first_byte b + 2 ^ 64 ≤ top
  high = high_end (first_byte b) b.first at (four_at b.first h.first) (h.keys b.first h.among).1

  -- from the first byte on, up to 2^64 bytes
  pub inside : (k : ℕ) → first_byte b ≤ k → k < first_byte b + 2 ^ 64 → IsLawfulKey k
  inside k from below = let l = low in let u = high in (omega (arith, l, from), omega (arith, u, below))

  one_of : (r : ℕ × ℕ) (k : ℕ) → (r.1 ≤ first_byte b + 2 ^ 64) → is_between (whole_blocks b r).0 (whole_blocks b r).1 k ≡ true
      → IsLawfulKey k
  one_of r k end on =
      let from : (whole_blocks b r).0 ≤ k = grind (arith, nat_tests, on) in
      let below : k < (whole_blocks b r).1 = grind (arith, nat_tests, on) in
      inside k (omega (arith, from)) (omega (arith, below, end))

  blocks_of : (ss : Intervals) (k : ℕ) → ((r : ℕ × ℕ) → Contains ss r → Contains rs r)
      → ((j : ℕ) → is_in ss j ≡ true → IsLawfulKey j) → is_in (map (with_blocks b) ss) k ≡ true → IsLawfulKey k
  blocks_of [] k all keys on = absurd (let none = on in cc)
  blocks_of (r ∷ ss) k all keys on = elim
      (or_cases (is_between (with_blocks b r).0 (with_blocks b r).1 k) (is_in (map (with_blocks b) ss) k) on) [
        | inl first ↦ by (is_body r.0) refl first
        | inr rest ↦ blocks_of ss k (λ q has. all q (later r q ss has)) (λ j more. keys j (behind j more)) rest
      ]
    where
      behind : (j : ℕ) → is_in ss j ≡ true → (is_between r.0 r.1 j || is_in ss j) ≡ true
      behind j more = by_test (is_between r.0 r.1 j) more
        where
          by_test : (t : Bool) → is_in ss j ≡ true → (t || is_in ss j) ≡ true
          by_test true is = refl
          by_test false is = is

      before : (j : ℕ) → is_between r.0 r.1 j ≡ true → (is_between r.0 r.1 j || is_in ss j) ≡ true
      before j is = ap (λ (t : Bool). t || is_in ss j) is

      by : (t : Bool) → is_body r.0 ≡ t
          → is_between (if t then whole_blocks b r else r).0 (if t then whole_blocks b r else r).1 k ≡ true → IsLawfulKey k
      by true body is = one_of r k (h.within r (all r (here r ss)) body) is
      by false plain is = keys k (before k is)

  abbrev come_by : (spread was_there : Bool) → ℕ × ℕ
  come_by t u = if t then (if u then blocks_end b b.was else first_byte b, blocks_end b b.now) else (0, 0)

  comes : (k : ℕ) → turns_out b ≡ true → is_between (coming b).0 (coming b).1 k ≡ true → IsLawfulKey k
  comes k turns on = by (is_spread b) b.in_extents turns on
    where
      by : (t u : Bool) → (t && not u) ≡ true
          → is_between (come_by t u).0 (come_by t u).1 k ≡ true → IsLawfulKey k
      by true false is on =
          let from : first_byte b ≤ k = grind (arith, nat_tests, on) in
          let below : k < blocks_end b b.now = grind (arith, nat_tests, on) in
          let now = sizes.1 in
          inside k from (omega (arith, below, now))
      by true true is on = absurd (let none = is in cc)
      by false u is on = absurd (let none = is in cc)

  pub still_of_tree : (k : ℕ) → is_in (raw_changes (Some b) rs) k ≡ true → IsLawfulKey k
  still_of_tree k on = by (is_spread b) (turns_out b) refl on
    where
      by : (t u : Bool) → turns_out b ≡ u
          → is_in (if t then (if u then coming b ∷ map (with_blocks b) rs else map (with_blocks b) rs) else rs) k ≡ true
          → IsLawfulKey k
      by false u turns is = h.keys k is
      by true false turns is = blocks_of rs k (λ r has. has) h.keys is
      by true true turns is = elim
          (or_cases (is_between (coming b).0 (coming b).1 k) (is_in (map (with_blocks b) rs) k) is) [
            | inl first ↦ comes k turns first
            | inr rest ↦ blocks_of rs k (λ r has. has) h.keys rest
          ]
