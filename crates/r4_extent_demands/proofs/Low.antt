-- Blocks that get bytes lie below the greatest size of a file.
use Rattle.std.specs.Prelude.{◌≡◌, ℕ, ◌+◌, ◌-◌, ◌^◌, ◌<◌, ◌≤◌, [], ◌∷◌, ◌++◌, All, true, false, ◌&&◌, nat_lt}
use Rattle.std.proofs.Common.{arith, inl, inr, refl, sym, ap, ◌∙◌}
use Rattle.std.specs.List.{filter, flat_map}
use Rattle.std.proofs.lemmas.Bool.{and_parts, both_ways, eq-eqb, eqb-true, ltb-true, or_cases, or_left, or_right}
use Rattle.std.proofs.lemmas.Grind.{common_steps}
use Rattle.std.proofs.lemmas.List.Elements.{All-head, All-tail}
use Rattle.r4_base.specs.Key.{key_of_rank, later, offset_of, rank}
use Rattle.r4_base.specs.declared.key.Key.{Key}
use Rattle.r4_content.specs.Bodies.{larger, smaller}
use Rattle.r4_content.specs.Edited.{Edits, Intervals, Pairs, is_between, is_in, put_keys}
use Rattle.r4_content.proofs.EditLaws.{one_key}
use Rattle.r4_graft.proofs.Halves.{later_key, later_rank}
use Rattle.r4_bodies.specs.r4_leaf_edits.Suiting.{IsBefore, SuitLeaves, is_byte, zero_pairs}
use Rattle.r4_bodies.proofs.r4_leaf_edits.KeyRanks.{body_is, key_again}
use Rattle.r4_bodies.proofs.r4_leaf_edits.Whole.{bodies_are_bytes}
use Rattle.r4_bodies.specs.r4_leaf_edits.r4_reach.Needs.{gets_bytes, is_met, meets}
use Rattle.r4_bodies.specs.r4_leaf_edits.r4_reach.Reach.{is_body}
use Rattle.r4_bodies.specs.r4_leaf_edits.r4_reach.Touched.{Body, first_byte, turns_out}
use Rattle.r4_extent_demands.specs.Sizes.{IsFirstKey}

-- a range that meets an interval has a key of it
clip : (lo hi a b k : ℕ) → larger lo a ≤ k → k < smaller hi b → (lo ≤ k) × (k < hi) × (is_between a b k ≡ true)
clip lo hi a b k low high = (grind (arith, common_steps), grind (arith, common_steps), grind (arith, common_steps))

one_met : (lo hi a b : ℕ) → nat_lt (larger lo a) (smaller hi b) ≡ true
    → (lo ≤ larger lo a) × (larger lo a < hi) × (is_between a b (larger lo a) ≡ true)
one_met lo hi a b e = clip lo hi a b (larger lo a) (omega arith) (ltb-true (larger lo a) (smaller hi b) e)

met_key : (rs : Intervals) (lo hi : ℕ) → is_met rs lo hi ≡ true → (k : ℕ) × (is_in rs k ≡ true) × (lo ≤ k) × (k < hi)
met_key [] lo hi e = absurd (both_ways false refl e)
met_key (r ∷ rs) lo hi e = elim (or_cases (meets lo hi r) (is_met rs lo hi) e) [
  | inl first ↦
      let (low, high, at) = one_met lo hi r.0 r.1 first in
      (larger lo r.0, or_left (is_between r.0 r.1 (larger lo r.0)) (is_in rs (larger lo r.0)) at, low, high)
  | inr rest ↦
      let (k, at, low, high) = met_key rs lo hi rest in
      (k, or_right (is_between r.0 r.1 k) (is_in rs k) at, low, high)
]

before_in : (end : ℕ) (ps : Pairs) (k : ℕ) → All (IsBefore end) ps → is_in (put_keys ps) k ≡ true
    → offset_of (key_of_rank k) < end
before_in end [] k all e = absurd (both_ways false refl e)
before_in end (p ∷ ps) k all e = elim (or_cases (is_between p.0 (p.0 + 1) k) (is_in (put_keys ps) k) e) [
  | inl first ↦
      let same = eqb-true k p.0 (sym (one_key k p.0) ∙ first) in
      let lt = (All-head (IsBefore end) p ps all).1 in
      let at = ap (λ (j : ℕ). offset_of (key_of_rank j)) same in
      omega (arith, lt, at)
  | inr rest ↦ before_in end ps k (All-tail (IsBefore end) p ps all) rest
]

all_behind : (end : ℕ) (ps qs : Pairs) → All (IsBefore end) (ps ++ qs) → All (IsBefore end) qs
all_behind end [] qs all = all
all_behind end (p ∷ ps) qs all = all_behind end ps qs (All-tail (IsBefore end) p (ps ++ qs) all)

module _ (b : Body) (h : Key) (first : IsFirstKey b h) where
  module _ (k : ℕ) (low : first_byte b ≤ k) (high : k < first_byte b + 2 ^ 64) where
    here : rank (later h (k - first_byte b)) ≡ k
    here = let r = later_rank h (k - first_byte b) in let at = first.at in omega (arith, r, at, low)

    is_here : key_of_rank k ≡ later h (k - first_byte b)
    is_here =
        let begins = first.begins in
        ap key_of_rank (sym here)
        ∙ key_again (later h (k - first_byte b)) (later_key h (k - first_byte b) first.key (omega (arith, begins, high)))

    pub of_body : is_body k ≡ true
    of_body =
        let begins = first.begins in
        ap is_body (sym here)
        ∙ body_is (later h (k - first_byte b)) (later_key h (k - first_byte b) first.key (omega (arith, begins, high)))
        ∙ eq-eqb _ 4 first.body

    pub at_offset : offset_of (key_of_rank k) ≡ k - first_byte b
    at_offset = let begins = first.begins in let at = ap offset_of is_here in omega (arith, begins, at)

  pub gets_low : (e : Edits) (k : ℕ) → SuitLeaves (2 ^ 30) e → b.was ≤ 2 ^ 30 → first_byte b ≤ k
      → k + 4096 ≤ first_byte b + 2 ^ 64 → gets_bytes b e k ≡ true → k < first_byte b + 2 ^ 30
  gets_low e k suit was low high gets = elim
      (or_cases (is_met (put_keys e.puts) k (k + 4096)) (turns_out b && nat_lt k (first_byte b + b.was)) gets) [
        | inl puts ↦
            let (j, at, from, to) = met_key (put_keys e.puts) k (k + 4096) puts in
            let body = of_body j (omega (arith, low, from)) (omega (arith, high, to)) in
            let byte = bodies_are_bytes e.puts j suit.values body ∙ at in
            let bytes = all_behind (2 ^ 30) (flat_map zero_pairs e.zeros) (filter (λ p. is_byte p.1) e.puts) suit.bytes in
            let less : offset_of (key_of_rank j) < 2 ^ 30
            = before_in (2 ^ 30) (filter (λ p. is_byte p.1) e.puts) j bytes byte in
            let offset = at_offset j (omega (arith, low, from)) (omega (arith, high, to)) in
            omega (arith, less, offset, low, from)
        | inr tails ↦
            let (turns, lt) = and_parts (turns_out b) (nat_lt k (first_byte b + b.was)) tails in
            let below = ltb-true k (first_byte b + b.was) lt in
            omega (arith, below, was)
      ]
