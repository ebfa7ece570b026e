-- Blocks that get bytes, among others.
use Rattle.std.specs.Prelude.{◌≡◌, ℕ, ◌+◌, ◌*◌, ◌<◌, ◌≤◌, [], ◌∷◌, Bool, true, false, ◌&&◌, ◌||◌, nat_lt}
use Rattle.std.proofs.Common.{arith, refl}
use Rattle.std.proofs.lemmas.Bool.{le-ltb, ltb-false, or_parts}
use Rattle.std.proofs.lemmas.Grind.{common_steps}
use Rattle.r4_content.specs.Bodies.{larger, smaller}
use Rattle.r4_content.specs.Edited.{Edits, Intervals, put_keys}
use Rattle.r4_bodies.specs.r4_leaf_edits.r4_reach.Needs.{gets_bytes, is_met, meets}
use Rattle.r4_bodies.specs.r4_leaf_edits.r4_reach.Touched.{Body, first_byte, turns_out}
use Rattle.r4_extent_demands.specs.Pieces.{gets_among}

one_apart : (lo hi a b c d : ℕ) → lo ≤ a → b ≤ hi → nat_lt (larger lo c) (smaller hi d) ≡ false
    → nat_lt (larger a c) (smaller b d) ≡ false
one_apart lo hi a b c d low high none = grind (arith, common_steps)

-- intervals that have no key of a range have none of a part of it
met_less : (rs : Intervals) (lo hi a b : ℕ) → lo ≤ a → b ≤ hi → is_met rs lo hi ≡ false → is_met rs a b ≡ false
met_less [] lo hi a b low high none = refl
met_less (r ∷ rs) lo hi a b low high none =
    let (first, rest) = or_parts (meets lo hi r) (is_met rs lo hi) none in
    (λ i. one_apart lo hi a b r.0 r.1 low high first i || met_less rs lo hi a b low high rest i)

late_false : (t : Bool) (k j e : ℕ) → k ≤ j → (t && nat_lt k e) ≡ false → (t && nat_lt j e) ≡ false
late_false true k j e le none =
    let past = ltb-false k e none in le-ltb j e (omega (arith, past, le))
late_false false k j e le none = refl

module _ (b : Body) (e : Edits) where
  -- where none of the blocks gets bytes, no one does
  pub none_gets : (k n i : ℕ) → gets_among b e k n ≡ false → i < n → gets_bytes b e (k + 4096 * i) ≡ false
  none_gets k n i none lt =
      let (puts, tails) = or_parts (is_met (put_keys e.puts) k (k + 4096 * n))
      (turns_out b && nat_lt k (first_byte b + b.was)) none in
      (λ j. met_less (put_keys e.puts) k (k + 4096 * n) (k + 4096 * i) (k + 4096 * i + 4096) (omega arith)
      (omega (arith, lt)) puts j || late_false (turns_out b) k (k + 4096 * i) (first_byte b + b.was) (omega arith) tails j)

  -- one block is its first one
  pub one_gets : (k : ℕ) → gets_among b e k 1 ≡ gets_bytes b e k
  one_gets k =
      let f : k + 4096 * 1 ≡ k + 4096 = omega arith in
      (λ i. is_met (put_keys e.puts) k (f i) || (turns_out b && nat_lt k (first_byte b + b.was)))
