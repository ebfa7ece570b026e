-- Intervals with the whole of their blocks.
use Rattle.std.specs.Prelude.{◌≡◌, ℕ, ◌<◌, List, [], ◌∷◌, ◌++◌, map}
use Rattle.std.specs.Prelude.{Bool, true, false, not, ◌&&◌, ◌||◌, nat_le, nat_lt, if◌then◌else◌, Option, None, Some}
use Rattle.std.proofs.Common.{refl, sym, ap, ◌∙◌}
use Rattle.std.proofs.lemmas.List.{map-append}
use Rattle.r4_base.specs.Key.{rank, top}
use Rattle.r4_content.specs.Edited.{Intervals, is_between, is_in}
use Rattle.r4_content.specs.Held.{interval_of}
use Rattle.r4_content.specs.declared.edits.Interval.{Interval}
use Rattle.r4_content.proofs.EditLaws.{in_append}
use Rattle.r4_twig_asks.specs.r4_reach.Reach.{is_body}
use Rattle.r4_twig_asks.specs.r4_reach.Touched.{Body, coming, is_spread, raw_changes, turns_out, whole_blocks, with_blocks}
use Rattle.r4_extent_asks.specs.Widening.{AddsKeys, widened}

-- ---- what counts as changed

-- where it turns to extents, all blocks that come
abbrev pub turned : Option Body → Intervals
turned None = []
turned (Some b) = if turns_out b then coming b ∷ [] else []

pub map_same : (rs : Intervals) → map (λ (r : ℕ × ℕ). r) rs ≡ rs
map_same [] = refl
map_same (r ∷ rs) = ap (λ (ss : Intervals). r ∷ ss) (map_same rs)

raw_is : (b : Option Body) (rs : Intervals) (k : ℕ) → is_in (raw_changes b rs) k
    ≡ (is_in (turned b) k || is_in (map (widened b) rs) k)
raw_is None rs k = ap (λ (ss : Intervals). is_in ss k) (sym (map_same rs))
raw_is (Some b) rs k = by_tests (is_spread b) b.in_extents
  where
    or_one : (x y : Bool) → (x || y) ≡ ((x || false) || y)
    or_one true y = refl
    or_one false y = refl

    by_tests : (t u : Bool) → is_in (if t then (if t && not u then coming b ∷ map (with_blocks b) rs
        else map (with_blocks b) rs) else rs) k
        ≡ (is_in (if t && not u then coming b ∷ [] else []) k
        || is_in (map (λ r. if t then with_blocks b r else r) rs) k)
    by_tests false u = ap (λ (ss : Intervals). is_in ss k) (sym (map_same rs))
    by_tests true true = refl
    by_tests true false = or_one (is_between (coming b).0 (coming b).1 k) (is_in (map (with_blocks b) rs) k)

-- intervals by which as much counts as changed
pub raw_same : (b : Option Body) (rs ss : Intervals) (k : ℕ)
    → is_in (map (widened b) rs) k ≡ is_in (map (widened b) ss) k
    → is_in (raw_changes b rs) k ≡ is_in (raw_changes b ss) k
raw_same b rs ss k same = raw_is b rs k ∙ ap (λ (t : Bool). is_in (turned b) k || t) same ∙ sym (raw_is b ss k)

-- ---- keys that come behind others

or_none : (b : Bool) → b ≡ (b || false)
or_none true = refl
or_none false = refl

or_assoc : (a b c : Bool) → ((a || b) || c) ≡ (a || (b || c))
or_assoc true b c = refl
or_assoc false b c = refl

pub keys_none : (a : List Interval) (rs : Intervals) → rs ≡ [] → AddsKeys a rs a
keys_none a rs none k low = or_none (is_in (map interval_of a) k)
    ∙ ap (λ (ss : Intervals). is_in (map interval_of a) k || is_in ss k) (sym none)

pub keys_one : (a c : List Interval) (r : Interval) (s : ℕ × ℕ) → c ≡ a ++ r ∷ []
    → ((k : ℕ) → k < top → is_in (interval_of r ∷ []) k ≡ is_in (s ∷ []) k) → AddsKeys a (s ∷ []) c
keys_one a c r s is same k low =
    ap (λ (xs : List Interval). is_in (map interval_of xs) k) is
    ∙ ap (λ (ss : Intervals). is_in ss k) (map-append interval_of a (r ∷ []))
    ∙ in_append (map interval_of a) (interval_of r ∷ []) k
    ∙ ap (λ (t : Bool). is_in (map interval_of a) k || t) (same k low)

pub keys_next : (a c d : List Interval) (s : ℕ × ℕ) (ss all : Intervals) → all ≡ s ∷ ss → AddsKeys a (s ∷ []) c
    → AddsKeys c ss d → AddsKeys a all d
keys_next a c d s ss all is first next k low =
    next k low ∙ ap (λ (t : Bool). t || is_in ss k) (first k low)
    ∙ or_assoc (is_in (map interval_of a) k) (is_in (s ∷ []) k) (is_in ss k)
    ∙ ap (λ (t : Bool). is_in (map interval_of a) k || t)
    (sym (ap (λ (qs : Intervals). is_in qs k) is ∙ in_append (s ∷ []) ss k))

-- ---- one interval

between_as : (from to a b k : ℕ) → from ≡ a → nat_lt k to ≡ nat_lt k b → is_between from to k ≡ is_between a b k
between_as from to a b k f t = (λ i. nat_le (f i) k && t i)

pub blocks_in : (b : Body) (r : Interval) (from to k : ℕ) → is_body (rank r.from) ≡ true
    → from ≡ (whole_blocks b (interval_of r)).0 → nat_lt k to ≡ nat_lt k (whole_blocks b (interval_of r)).1
    → is_in ((from, to) ∷ []) k ≡ is_in (with_blocks b (interval_of r) ∷ []) k
blocks_in b r from to k body f t =
    ap (λ (x : Bool). x || false) (between_as from to (whole_blocks b (interval_of r)).0
    (whole_blocks b (interval_of r)).1 k f t)
    ∙ sym (λ i. is_in ((if body i then whole_blocks b (interval_of r) else interval_of r) ∷ []) k)

pub no_blocks : (b : Body) (r : Interval) (k : ℕ) → is_body (rank r.from) ≡ false
    → is_in (interval_of r ∷ []) k ≡ is_in (with_blocks b (interval_of r) ∷ []) k
no_blocks b r k body = sym (λ i. is_in ((if body i then whole_blocks b (interval_of r) else interval_of r) ∷ []) k)
