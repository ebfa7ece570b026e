-- Which keys lie in a range.
use Rattle.std.specs.Prelude.{◌≡◌, ℕ, suc, ◌+◌, ◌-◌, List, [], ◌∷◌, ◌++◌, length, replicate, map, Bool, true, false, ◌||◌, ◌==◌, nat_lt}
use Rattle.std.proofs.Common.{arith, refl, sym, ap, ◌∙◌}
use Rattle.std.specs.List.{flat_map, list_any}
use Rattle.std.proofs.lemmas.Bool.Decides.{nat_tests}
use Rattle.std.proofs.lemmas.Grind.{common_steps}
use Rattle.std.proofs.lemmas.List.{length-replicate}
use Rattle.r4_base.specs.Key.{rank}
use Rattle.r4_base.specs.declared.key.Key.{Key}
use Rattle.r4_base.specs.declared.values.Value.{Value as HeldValue}
use Rattle.r4_content.specs.Bodies.{larger, smaller}
use Rattle.r4_content.specs.Edited.{Intervals, Pairs, is_between, is_in, put_keys}
use Rattle.r4_content.specs.Held.{fill_pairs, interval_of, pair_of}
use Rattle.r4_content.specs.Objects.{byte_pairs}
use Rattle.r4_content.specs.declared.edits.FilledInterval.{FilledInterval}
use Rattle.r4_content.specs.declared.edits.Interval.{Interval}
use Rattle.r4_content.proofs.EditLaws.{one_key}
use Rattle.r4_reach.specs.Needs.{is_met, meets}
use Rattle.r4_leaf_edits.proofs.Puts.{put_keys_append}

pub or_true : (a b w : Bool) → w ≡ (a || b) → a ≡ true → a ≡ w
or_true true b w e h = sym e
or_true false b w e h = absurd cc

pub or_false : (a b w : Bool) → w ≡ (a || b) → a ≡ false → b ≡ w
or_false false b w e h = sym e
or_false true b w e h = absurd cc

or_again : (a b c : Bool) → ((a || b) || c) ≡ (a || (b || c))
or_again true b c = refl
or_again false b c = refl

pub met_both : (rs ss : Intervals) (lo hi : ℕ) → is_met (rs ++ ss) lo hi ≡ (is_met rs lo hi || is_met ss lo hi)
met_both [] ss lo hi = refl
met_both (r ∷ rs) ss lo hi = ap (λ (b : Bool). meets lo hi r || b) (met_both rs ss lo hi) ∙ sym (or_again (meets lo hi r) (is_met rs lo hi) (is_met ss lo hi))

pub keys_met : (ps qs : Pairs) (lo hi : ℕ) → is_met (put_keys (ps ++ qs)) lo hi ≡ (is_met (put_keys ps) lo hi || is_met (put_keys qs) lo hi)
keys_met ps qs lo hi = ap (λ (rs : Intervals). is_met rs lo hi) (put_keys_append ps qs) ∙ met_both (put_keys ps) (put_keys qs) lo hi

none_met : (lo hi a : ℕ) → false ≡ nat_lt (larger lo a) (smaller hi (a + 0))
none_met lo hi a = grind (arith, nat_tests)

one_more : (lo hi a n : ℕ) → (nat_lt (larger lo a) (smaller hi (a + 1)) || nat_lt (larger lo (a + 1)) (smaller hi (a + 1 + n))) ≡ nat_lt (larger lo a) (smaller hi (a + suc n))
one_more lo hi a n = grind (arith, common_steps)

pub bytes_met : (lo hi a : ℕ) (xs : List ℕ) → is_met (put_keys (byte_pairs a xs)) lo hi ≡ nat_lt (larger lo a) (smaller hi (a + length xs))
bytes_met lo hi a [] = none_met lo hi a
bytes_met lo hi a (x ∷ xs) = ap (λ (b : Bool). meets lo hi (a, a + 1) || b) (bytes_met lo hi (a + 1) xs) ∙ one_more lo hi a (length xs)

to_end : (lo hi a b : ℕ) → nat_lt (larger lo a) (smaller hi (a + (b - a))) ≡ nat_lt (larger lo a) (smaller hi b)
to_end lo hi a b = grind (arith, common_steps)

pub fills_met : (lo hi : ℕ) (fs : List FilledInterval) → is_met (put_keys (flat_map fill_pairs fs)) lo hi ≡ list_any (λ f. meets lo hi (rank f.from, rank f.to)) fs
fills_met lo hi [] = refl
fills_met lo hi (f ∷ fs) =
    keys_met (fill_pairs f) (flat_map fill_pairs fs) lo hi
    ∙ ap (λ (b : Bool). b || is_met (put_keys (flat_map fill_pairs fs)) lo hi)
    (bytes_met lo hi (rank f.from) (replicate (rank f.to - rank f.from) f.byte) ∙ ap (λ (n : ℕ). nat_lt (larger lo (rank f.from)) (smaller hi (rank f.from + n))) (length-replicate (rank f.to - rank f.from) f.byte) ∙ to_end lo hi (rank f.from) (rank f.to))
    ∙ ap (λ (b : Bool). meets lo hi (rank f.from, rank f.to) || b) (fills_met lo hi fs)

one_met : (lo hi k : ℕ) → nat_lt (larger lo k) (smaller hi (k + 1)) ≡ is_between lo hi k
one_met lo hi k = grind (arith, common_steps)

pub values_met : (lo hi : ℕ) (vs : List (Key × HeldValue)) → is_met (put_keys (map pair_of vs)) lo hi ≡ list_any (λ p. is_between lo hi (rank p.0)) vs
values_met lo hi [] = refl
values_met lo hi (v ∷ vs) = (λ i. one_met lo hi (rank v.0) i || values_met lo hi vs i)

pub intervals_met : (lo hi : ℕ) (is : List Interval) → is_met (map interval_of is) lo hi ≡ list_any (λ i. meets lo hi (interval_of i)) is
intervals_met lo hi [] = refl
intervals_met lo hi (x ∷ xs) = ap (λ (b : Bool). meets lo hi (interval_of x) || b) (intervals_met lo hi xs)

pub low_first : (lo hi a n : ℕ) (low : ℕ) → low ≡ larger lo a → nat_lt low hi ≡ true → nat_lt low (a + n) ≡ nat_lt (larger lo a) (smaller hi (a + n))
low_first lo hi a n low e h = grind (arith, common_steps)

pub low_past : (lo hi a n : ℕ) (low : ℕ) → low ≡ larger lo a → nat_lt low hi ≡ false → false ≡ nat_lt (larger lo a) (smaller hi (a + n))
low_past lo hi a n low e h = grind (arith, common_steps)

-- ---- a key that is among those of values

turned : (a b : ℕ) → (a == b) ≡ (b == a)
turned a b = grind (arith, common_steps)

pub put_any : (k : ℕ) (vs : List (Key × HeldValue)) → list_any (λ p. rank p.0 == k) vs ≡ is_in (put_keys (map pair_of vs)) k
put_any k [] = refl
put_any k (v ∷ vs) = (λ i. (turned (rank v.0) k ∙ sym (one_key k (rank v.0))) i || put_any k vs i)
