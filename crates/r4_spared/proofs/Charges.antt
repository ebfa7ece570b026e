-- What a leaf may ask for after edits, charged to the keys of its range at which they put in or cut out.
use Rattle.std.specs.Prelude.{◌≡◌, ℕ, suc, ◌+◌, ◌-◌, ◌*◌, ◌<◌, ◌≤◌, List, [], ◌∷◌, ◌++◌, length, map}
use Rattle.std.specs.Prelude.{Bool, true, false, not, ◌||◌, ◌&&◌, ◌==◌, nat_le, nat_lt, All, Option, Some, None}
use Rattle.std.specs.Prelude.{cond, if◌then◌else◌}
use Rattle.std.specs.FinMap.{find}
use Rattle.std.specs.List.{filter, list_any}
use Rattle.std.specs.Ordering.{nat_cmp}
use Rattle.std.proofs.Common.{arith, inl, inr, refl, sym, ap, subst, ◌∙◌}
use Rattle.std.proofs.lemmas.Bool.{cases_lt, or_left, or_right}
use Rattle.std.proofs.lemmas.Bool.Decides.{nat_tests}
use Rattle.std.proofs.lemmas.Grind.{common_steps}
use Rattle.std.proofs.lemmas.List.Elements.{All-cons, All-head, All-nil, All-tail, filter-append}
use Rattle.r4_base.specs.Value.{Byte, Value}
use Rattle.r4_content.specs.Bodies.{larger, smaller}
use Rattle.r4_content.specs.Edited.{Edits, Intervals, Pairs, changed, is_between, is_in, put_keys}
use Rattle.r4_content.specs.Listed.{list_cut, list_edited, list_put, list_zero, list_zero_from}
use Rattle.r4_content.specs.Objects.{byte_pairs}
use Rattle.r4_content.specs.Seen.{Rises}
use Rattle.r4_content.proofs.EditLaws.{in_changed, last_put}
use Rattle.r4_content.proofs.SeenLaws.{content_of}
use Rattle.r4_build.specs.r4_leaf.Units.{bytes_behind, leaf_bytes}
use Rattle.r4_build.proofs.r4_leaf_edits.Clipped.{no_bytes, part_bytes, part_keys, part_of_bytes}
use Rattle.r4_build.proofs.r4_leaf_edits.Puts.{in_both}
use Rattle.r4_build.proofs.r4_leaf_edits.Lookups.{edited_rises, found, kept_found, kept_rises, same_rising}
use Rattle.r4_build.specs.r4_reach.Needs.{meets, over}
use Rattle.r4_suited.proofs.Few.{IsValue}
use Rattle.r4_suited.proofs.Small.{put_append}
use Rattle.r4_suited.proofs.Weights.{Grows, cuts_grow, grows_both, grows_none, run_grows, values_grow, zeros_grow}
use Rattle.r4_build.proofs.r4_work.Halving.{true_or_false}
use Rattle.r4_build.proofs.r4_work.Remade.{or_true}
use Rattle.r4_build.proofs.LeafKeys.{listed_off, listed_on}
use Rattle.r4_spared.proofs.Climbing.{over_cases}

-- ---- charges: so much below a key

-- for the ends of an interval
abbrev pub ends : ℕ × ℕ → (key : ℕ) → ℕ
ends r k = (if nat_lt r.0 k then 2126 else 0) + (if nat_le r.1 k then 2126 else 0)

-- for the keys in it
abbrev pub size : ℕ × ℕ → (key : ℕ) → ℕ
size r k = smaller k r.1 - r.0

abbrev pub all_ends : Intervals → (key : ℕ) → ℕ
all_ends [] k = 0
all_ends (r ∷ rs) k = ends r k + all_ends rs k

abbrev pub sizes : Intervals → (key : ℕ) → ℕ
sizes [] k = 0
sizes (r ∷ rs) k = size r k + sizes rs k

-- for values
abbrev pub points : Pairs → (key : ℕ) → ℕ
points [] k = 0
points (p ∷ ps) k = (if nat_lt p.0 k then 2433 else 0) + points ps k

-- ---- they grow with the key

ends_up : (a b k j : ℕ) → k ≤ j
    → (if nat_lt a k then 2126 else 0) + (if nat_le b k then 2126 else 0) ≤ (if nat_lt a j then 2126 else 0) +
    (if nat_le b j then 2126 else 0)
ends_up a b k j le = grind (arith, nat_tests, le)

size_up : (a b k j : ℕ) → k ≤ j → smaller k b - a ≤ smaller j b - a
size_up a b k j le = grind (arith, nat_tests, le)

point_up : (a k j : ℕ) → k ≤ j → (if nat_lt a k then 2433 else 0) ≤ (if nat_lt a j then 2433 else 0)
point_up a k j le = grind (arith, nat_tests, le)

pub one_ends_up : (r : ℕ × ℕ) (k j : ℕ) → k ≤ j → ends r k ≤ ends r j
one_ends_up r k j le = ends_up r.0 r.1 k j le

pub one_size_up : (r : ℕ × ℕ) (k j : ℕ) → k ≤ j → size r k ≤ size r j
one_size_up r k j le = size_up r.0 r.1 k j le

pub all_ends_up : (rs : Intervals) (k j : ℕ) → k ≤ j → all_ends rs k ≤ all_ends rs j
all_ends_up [] k j le = omega arith
all_ends_up (r ∷ rs) k j le =
    let one = ends_up r.0 r.1 k j le in
    let rest = all_ends_up rs k j le in
    omega (arith, one, rest)

pub sizes_up : (rs : Intervals) (k j : ℕ) → k ≤ j → sizes rs k ≤ sizes rs j
sizes_up [] k j le = omega arith
sizes_up (r ∷ rs) k j le =
    let one = size_up r.0 r.1 k j le in
    let rest = sizes_up rs k j le in
    omega (arith, one, rest)

pub points_up : (ps : Pairs) (k j : ℕ) → k ≤ j → points ps k ≤ points ps j
points_up [] k j le = omega arith
points_up (p ∷ ps) k j le =
    let one = point_up p.0 k j le in
    let rest = points_up ps k j le in
    omega (arith, one, rest)

-- ---- what of them belongs to a range

abbrev covers : (lo hi : ℕ) → ℕ × ℕ → Bool
covers lo hi r = nat_le r.0 lo && nat_le hi r.1

abbrev one : (lo hi : ℕ) → ℕ × ℕ → ℕ
one lo hi r = if meets lo hi r then 1 else 0

abbrev part : (lo hi : ℕ) → ℕ × ℕ → ℕ
part lo hi r = smaller hi r.1 - larger lo r.0

abbrev count : (lo hi : ℕ) → Intervals → ℕ
count lo hi [] = 0
count lo hi (r ∷ rs) = one lo hi r + count lo hi rs

abbrev parts : (lo hi : ℕ) → Intervals → ℕ
parts lo hi [] = 0
parts lo hi (r ∷ rs) = part lo hi r + parts lo hi rs

ends_part : (lo hi a b : ℕ) → lo ≤ hi → (nat_le a lo && nat_le hi b) ≡ false
    → (if nat_lt a lo then 2126 else 0) + (if nat_le b lo then 2126 else 0) + 2126 *
    (if nat_lt (larger lo a) (smaller hi b) then 1 else 0)
    ≤ (if nat_lt a hi then 2126 else 0) + (if nat_le b hi then 2126 else 0)
ends_part lo hi a b le h = grind (arith, nat_tests, le, h)

size_part : (lo hi a b : ℕ) → lo ≤ hi → smaller lo b - a + (smaller hi b - larger lo a) ≤ smaller hi b - a
size_part lo hi a b le = grind (arith, nat_tests, le)

no_part : (lo hi a b : ℕ) → nat_lt (larger lo a) (smaller hi b) ≡ false → smaller hi b - larger lo a ≡ 0
no_part lo hi a b h = grind (arith, nat_tests, h)

point_part : (lo hi a : ℕ) → lo ≤ hi → is_between lo hi a ≡ true
    → (if nat_lt a lo then 2433 else 0) + 2433 ≤ (if nat_lt a hi then 2433 else 0)
point_part lo hi a le h = grind (arith, nat_tests, le, h)

-- an interval that does not cover the range ends in it, where it meets it
module _ (lo hi : ℕ) (le : lo ≤ hi) where
  first_off : (v w : Bool) → (v || w) ≡ false → (v ≡ false) × (w ≡ false)
  first_off true w h = absurd cc
  first_off false w h = (refl, h)

  all_ends_part : (rs : Intervals) → list_any (covers lo hi) rs ≡ false
      → all_ends rs lo + 2126 * count lo hi rs ≤ all_ends rs hi
  all_ends_part [] h = omega arith
  all_ends_part (r ∷ rs) h =
      let (own, others) = first_off (covers lo hi r) (list_any (covers lo hi) rs) h in
      let a = ends_part lo hi r.0 r.1 le own in
      let rest = all_ends_part rs others in
      omega (arith, a, rest)

  sizes_part : (rs : Intervals) → sizes rs lo + parts lo hi rs ≤ sizes rs hi
  sizes_part [] = omega arith
  sizes_part (r ∷ rs) =
      let a = size_part lo hi r.0 r.1 le in
      let rest = sizes_part rs in
      omega (arith, a, rest)

  none_met : (r : ℕ × ℕ) → one lo hi r ≡ 0 → part lo hi r ≡ 0
  none_met r h = by_test (meets lo hi r) refl h
    where
      by_test : (v : Bool) → meets lo hi r ≡ v → (let n : ℕ = if v then 1 else 0 in n) ≡ 0 → part lo hi r ≡ 0
      by_test true g z = absurd (omega (arith, z))
      by_test false g z = no_part lo hi r.0 r.1 g

  none_parts : (rs : Intervals) → count lo hi rs ≡ 0 → parts lo hi rs ≡ 0
  none_parts [] h = refl
  none_parts (r ∷ rs) h =
      let a = none_met r (omega (arith, h)) in
      let rest = none_parts rs (omega (arith, h)) in
      omega (arith, a, rest)

  one_most : (r : ℕ × ℕ) → one lo hi r ≤ 1
  one_most r = by_test (meets lo hi r)
    where
      by_test : (v : Bool) → (if v then 1 else 0) ≤ 1
      by_test true = omega arith
      by_test false = omega arith

  count_most : (rs : Intervals) → count lo hi rs ≤ length rs
  count_most [] = omega arith
  count_most (r ∷ rs) = let a = one_most r in let rest = count_most rs in omega (arith, a, rest)

  points_part : (ps : Pairs) → points ps lo + 2433 * length (filter (λ p. is_between lo hi p.0) ps) ≤ points ps hi
  points_part [] = omega arith
  points_part (p ∷ ps) = by_test (points_part ps) (is_between lo hi p.0) refl
    where
      by_test : points ps lo + 2433 * length (filter (λ q. is_between lo hi q.0) ps) ≤ points ps hi
          → (v : Bool) → is_between lo hi p.0 ≡ v
          → (if nat_lt p.0 lo then 2433 else 0) + points ps lo
          + 2433 * length (cond v (p ∷ filter (λ q. is_between lo hi q.0) ps) (filter (λ q. is_between lo hi q.0) ps))
          ≤ (if nat_lt p.0 hi then 2433 else 0) + points ps hi
      by_test r true h = let a = point_part lo hi p.0 le h in omega (arith, a, r)
      by_test r false h = let a = point_up p.0 lo hi le in omega (arith, a, r)

-- ---- edits within a range

abbrev clip : (lo hi : ℕ) → ℕ × ℕ → ℕ × ℕ
clip lo hi r = (larger lo r.0, smaller hi r.1)

abbrev clipped : (lo hi : ℕ) → Edits → Edits
clipped lo hi e = record {
  cuts = map (clip lo hi) e.cuts;
  zeros = map (clip lo hi) e.zeros;
  puts = filter (λ p. is_between lo hi p.0) e.puts;
}

none_between : (a b k : ℕ) → b ≤ a → is_between a b k ≡ false
none_between a b k le = grind (arith, nat_tests, le)

not_lt : (a b : ℕ) → nat_lt a b ≡ false → b ≤ a
not_lt a b h = grind (arith, nat_tests, h)

is_lt : (a b : ℕ) → nat_lt a b ≡ true → a < b
is_lt a b h = grind (arith, nat_tests, h)

keep_all : (p : ℕ × Value → Bool) (us : Pairs) → ((u : ℕ × Value) → p u ≡ true) → filter p us ≡ us
keep_all p [] h = refl
keep_all p (u ∷ us) h = ap (λ (v : Bool). cond v (u ∷ filter p us) (filter p us)) (h u)
    ∙ ap (λ (ws : Pairs). u ∷ ws) (keep_all p us h)

module _ (lo hi : ℕ) where
  cut_in : (r : ℕ × ℕ) (us : Pairs) → Rises us
      → Grows (40 * one lo hi r) us (filter (λ u. not (is_between (larger lo r.0) (smaller hi r.1) u.0)) us)
  cut_in r us rises = by_test (meets lo hi r) refl
    where
      by_test : (v : Bool) → meets lo hi r ≡ v
          → Grows (40 * (if v then 1 else 0)) us
          (filter (λ u. not (is_between (larger lo r.0) (smaller hi r.1) u.0)) us)
      by_test true h = cuts_grow (clip lo hi r ∷ []) us rises
      by_test false h = subst (λ (ws : Pairs). Grows 0 us ws)
          (sym (keep_all (λ u. not (is_between (larger lo r.0) (smaller hi r.1) u.0)) us
          (λ u. ap not
          (none_between (larger lo r.0) (smaller hi r.1) u.0 (not_lt (larger lo r.0) (smaller hi r.1) h)))))
          (grows_none us rises)

  cuts_in : (rs : Intervals) (us : Pairs) → Rises us
      → Grows (40 * count lo hi rs) us (list_cut (map (clip lo hi) rs) us)
  cuts_in [] us rises = grows_none us rises
  cuts_in (r ∷ rs) us rises =
      let a = cut_in r us rises in
      grows_both (40 * one lo hi r) (40 * count lo hi rs) (40 * count lo hi (r ∷ rs)) us _ _ (omega arith) a
      (cuts_in rs _ a.rises)

  zero_in : (r : ℕ × ℕ) (us : Pairs) → Rises us → Grows (79 * one lo hi r + part lo hi r) us
      (list_zero_from (larger lo r.0) (smaller hi r.1 - larger lo r.0) us)
  zero_in r us rises = by_test (meets lo hi r) refl
    where
      by_test : (v : Bool) → meets lo hi r ≡ v → Grows (79 * (if v then 1 else 0) + part lo hi r) us
          (list_zero_from (larger lo r.0) (smaller hi r.1 - larger lo r.0) us)
      by_test true h = zeros_grow (larger lo r.0) (smaller hi r.1) us rises
      by_test false h =
          let z = no_part lo hi r.0 r.1 h in
          subst (λ (n : ℕ). Grows (0 + n) us (list_zero_from (larger lo r.0) n us)) (sym z) (grows_none us rises)

  zeros_in : (rs : Intervals) (us : Pairs) → Rises us
      → Grows (79 * count lo hi rs + parts lo hi rs) us (list_zero (map (clip lo hi) rs) us)
  zeros_in [] us rises = grows_none us rises
  zeros_in (r ∷ rs) us rises =
      let a = zero_in r us rises in
      grows_both (79 * one lo hi r + part lo hi r) (79 * count lo hi rs + parts lo hi rs)
      (79 * count lo hi (r ∷ rs) + parts lo hi (r ∷ rs)) us _ _ (omega arith) a (zeros_in rs _ a.rises)

  run_in : (a : ℕ) (xs : List ℕ) (us : Pairs) → Rises us
      → Grows (79 * one lo hi (a, a + length xs) + part lo hi (a, a + length xs)) us
      (list_put (filter (λ p. is_between lo hi p.0) (byte_pairs a xs)) us)
  run_in a xs us rises = by_test (meets lo hi (a, a + length xs)) refl
    where
      by_test : (v : Bool) → meets lo hi (a, a + length xs) ≡ v
          → Grows (79 * (if v then 1 else 0) + part lo hi (a, a + length xs)) us
          (list_put (filter (λ p. is_between lo hi p.0) (byte_pairs a xs)) us)
      by_test true h =
          let lt = is_lt (larger lo a) (smaller hi (a + length xs)) h in
          let p = part_of_bytes lo hi a xs (larger lo a) (smaller hi (a + length xs)) refl refl lt in
          let ys = part_bytes a (larger lo a) (smaller hi (a + length xs)) xs in
          let run = run_grows (larger lo a) ys us rises in
          let long = p.long in
          subst (λ (ps : Pairs). Grows (79 * 1 + part lo hi (a, a + length xs)) us (list_put ps us)) (sym p.kept)
          (grows_both (79 + length ys) 0 (79 * 1 + part lo hi (a, a + length xs)) us _ _ (omega (arith, long)) run
          (grows_none _ run.rises))
      by_test false h = subst (λ (ps : Pairs). Grows (0 + part lo hi (a, a + length xs)) us (list_put ps us))
          (sym (no_bytes lo hi a xs (not_lt (larger lo a) (smaller hi (a + length xs)) h)))
          (grows_both 0 0 (0 + part lo hi (a, a + length xs)) us us us (omega arith) (grows_none us rises)
          (grows_none us rises))

  kept_values : (ps : Pairs) → All IsValue ps → All IsValue (filter (λ p. is_between lo hi p.0) ps)
  kept_values [] h = All-nil IsValue
  kept_values (p ∷ ps) h = by_test (kept_values ps (All-tail IsValue p ps h)) (is_between lo hi p.0)
    where
      by_test : All IsValue (filter (λ q. is_between lo hi q.0) ps) → (v : Bool)
          → All IsValue (cond v (p ∷ filter (λ q. is_between lo hi q.0) ps) (filter (λ q. is_between lo hi q.0) ps))
      by_test rest true = All-cons IsValue p (filter (λ q. is_between lo hi q.0) ps) (All-head IsValue p ps h) rest
      by_test rest false = rest

-- ---- a window of what edits make is what the edits within it make

none_cut : (rs : Intervals) → list_cut rs [] ≡ []
none_cut [] = refl
none_cut (r ∷ rs) = none_cut rs

and_on : (v w : Bool) → v ≡ true → (v && w) ≡ w
and_on true w h = refl
and_on false w h = absurd cc

and_off : (v w : Bool) → v ≡ false → (v && w) ≡ false
and_off true w h = absurd cc
and_off false w h = refl

or_off : (v w : Bool) → v ≡ false → w ≡ false → (v || w) ≡ false
or_off false w h g = g
or_off true w h g = absurd cc

other_key : (lo hi k a : ℕ) → is_between lo hi k ≡ true → is_between lo hi a ≡ false → (k == a) ≡ false
other_key lo hi k a h g = grind (arith, common_steps, h, g)

off_key : (lo hi k a : ℕ) → is_between lo hi k ≡ false → is_between lo hi a ≡ true → is_between a (a + 1) k ≡ false
off_key lo hi k a h g = grind (arith, common_steps, h, g)

module _ (lo hi k : ℕ) where
  clip_in : (rs : Intervals) → is_between lo hi k ≡ true → is_in (map (clip lo hi) rs) k ≡ is_in rs k
  clip_in [] at = refl
  clip_in (r ∷ rs) at =
      λ i. (part_keys lo hi r.0 r.1 k ∙ and_on (is_between lo hi k) (is_between r.0 r.1 k) at) i || clip_in rs at i

  clip_out : (rs : Intervals) → is_between lo hi k ≡ false → is_in (map (clip lo hi) rs) k ≡ false
  clip_out [] at = refl
  clip_out (r ∷ rs) at = or_off (is_between (larger lo r.0) (smaller hi r.1) k) (is_in (map (clip lo hi) rs) k)
      (part_keys lo hi r.0 r.1 k ∙ and_off (is_between lo hi k) (is_between r.0 r.1 k) at) (clip_out rs at)

  put_in : (ps : Pairs) → is_between lo hi k ≡ true → (v : Option Value)
      → last_put (filter (λ p. is_between lo hi p.0) ps) k v ≡ last_put ps k v
  put_in [] at v = refl
  put_in (p ∷ ps) at v = by_test (put_in ps at) (is_between lo hi p.0) refl
    where
      by_test : ((w : Option Value) → last_put (filter (λ q. is_between lo hi q.0) ps) k w ≡ last_put ps k w)
          → (b : Bool) → is_between lo hi p.0 ≡ b
          → last_put (cond b (p ∷ filter (λ q. is_between lo hi q.0) ps) (filter (λ q. is_between lo hi q.0) ps)) k v
          ≡ last_put ps k (cond (k == p.0) (Some p.1) v)
      by_test rest true h = rest (cond (k == p.0) (Some p.1) v)
      by_test rest false h = rest v ∙ ap (λ (b : Bool). last_put ps k (cond b (Some p.1) v))
          (sym (other_key lo hi k p.0 at h))

  put_out : (ps : Pairs) → is_between lo hi k ≡ false → is_in (put_keys (filter (λ p. is_between lo hi p.0) ps)) k
      ≡ false
  put_out [] at = refl
  put_out (p ∷ ps) at = by_test (put_out ps at) (is_between lo hi p.0) refl
    where
      by_test : is_in (put_keys (filter (λ q. is_between lo hi q.0) ps)) k ≡ false → (b : Bool) → is_between lo hi p.0
          ≡ b
          → is_in (put_keys
          (cond b (p ∷ filter (λ q. is_between lo hi q.0) ps) (filter (λ q. is_between lo hi q.0) ps))) k ≡ false
      by_test rest true h = or_off (is_between p.0 (p.0 + 1) k)
          (is_in (put_keys (filter (λ q. is_between lo hi q.0) ps)) k)
          (off_key lo hi k p.0 at h) rest
      by_test rest false h = rest

module _ (lo hi : ℕ) (e : Edits) (us : Pairs) (rises : Rises us)
    (within : (k : ℕ) → is_between lo hi k ≡ false → find nat_cmp k us ≡ None) where
  window : filter (λ u. is_between lo hi u.0) (list_edited e us) ≡ list_edited (clipped lo hi e) us
  window = same_rising (filter (λ u. is_between lo hi u.0) (list_edited e us)) (list_edited (clipped lo hi e) us)
      (kept_rises (is_between lo hi) (list_edited e us) (edited_rises e us rises))
      (edited_rises (clipped lo hi e) us rises)
      (λ k. kept_found (is_between lo hi) (list_edited e us) k ∙ elim (true_or_false (is_between lo hi k)) [
        | inl at ↦ ap (λ (v : Bool). cond v (find nat_cmp k (list_edited e us)) None) at ∙ inside k at
        | inr out ↦ ap (λ (v : Bool). cond v (find nat_cmp k (list_edited e us)) None) out ∙ sym (outside k out)
      ])
    where
      inside : (k : ℕ) → is_between lo hi k ≡ true → find nat_cmp k (list_edited e us)
          ≡ find nat_cmp k (list_edited (clipped lo hi e) us)
      inside k at =
          found e us k rises
          ∙ sym (put_in lo hi k e.puts at
          (cond (is_in e.zeros k) (Some (Byte 0)) (cond (is_in e.cuts k) None (find nat_cmp k us))))
          ∙ (λ i. last_put (filter (λ p. is_between lo hi p.0) e.puts) k
          (cond (sym (clip_in lo hi k e.zeros at) i) (Some (Byte 0))
          (cond (sym (clip_in lo hi k e.cuts at) i) None (find nat_cmp k us))))
          ∙ sym (found (clipped lo hi e) us k rises)

      outside : (k : ℕ) → is_between lo hi k ≡ false → find nat_cmp k (list_edited (clipped lo hi e) us) ≡ None
      outside k out = listed_off (clipped lo hi e) us k rises
          (in_changed (clipped lo hi e) k
          ∙ or_off (is_in (put_keys (filter (λ p. is_between lo hi p.0) e.puts)) k)
          (is_in (map (clip lo hi) e.zeros) k || is_in (map (clip lo hi) e.cuts) k)
          (put_out lo hi k e.puts out)
          (or_off (is_in (map (clip lo hi) e.zeros) k) (is_in (map (clip lo hi) e.cuts) k)
          (clip_out lo hi k e.zeros out) (clip_out lo hi k e.cuts out)))
          ∙ within k out

  -- where each of its keys changes, what stood there does not matter
  anew : ((k : ℕ) → is_between lo hi k ≡ true → is_in (changed e) k ≡ true)
      → filter (λ u. is_between lo hi u.0) (list_edited e us) ≡ filter (λ u. is_between lo hi u.0) (list_edited e [])
  anew all = same_rising (filter (λ u. is_between lo hi u.0) (list_edited e us))
      (filter (λ u. is_between lo hi u.0) (list_edited e []))
      (kept_rises (is_between lo hi) (list_edited e us) (edited_rises e us rises))
      (kept_rises (is_between lo hi) (list_edited e []) (edited_rises e [] tt))
      (λ k. kept_found (is_between lo hi) (list_edited e us) k ∙ (elim (true_or_false (is_between lo hi k)) [
        | inl at ↦ ap (λ (o : Option Value). cond (is_between lo hi k) o None)
            (listed_on e us (content_of []) k rises (all k at) ∙ sym (listed_on e [] (content_of []) k tt (all k at)))
        | inr out ↦ ap (λ (v : Bool). cond v (find nat_cmp k (list_edited e us)) None) out
            ∙ sym (ap (λ (v : Bool). cond v (find nat_cmp k (list_edited e [])) None) out)
      ] ∙ sym (kept_found (is_between lo hi) (list_edited e []) k)))

-- ---- an interval that covers the range

covered_key : (lo hi a b k : ℕ) → (nat_le a lo && nat_le hi b) ≡ true → is_between lo hi k ≡ true → is_between a b k
    ≡ true
covered_key lo hi a b k h g = grind (arith, common_steps, h, g)

covered_keys : (lo hi : ℕ) (rs : Intervals) → list_any (covers lo hi) rs ≡ true → (k : ℕ) → is_between lo hi k ≡ true
    → is_in rs k ≡ true
covered_keys lo hi [] h k at = absurd cc
covered_keys lo hi (r ∷ rs) h k at = elim (or_true (covers lo hi r) (list_any (covers lo hi) rs) h) [
  | inl own ↦ or_left (is_between r.0 r.1 k) (is_in rs k) (covered_key lo hi r.0 r.1 k own at)
  | inr more ↦ or_right (is_between r.0 r.1 k) (is_in rs k) (covered_keys lo hi rs more k at)
]

run_key : (a k n : ℕ) → (is_between a (a + 1) k || is_between (a + 1) (a + 1 + n) k) ≡ is_between a (a + suc n) k
run_key a k n = grind (arith, common_steps)

pub run_keys : (a : ℕ) (xs : List ℕ) (k : ℕ) → is_in (put_keys (byte_pairs a xs)) k ≡ is_between a (a + length xs) k
run_keys a [] k = sym (none_between a (a + 0) k (omega arith))
run_keys a (x ∷ xs) k = ap (λ (v : Bool). is_between a (a + 1) k || v) (run_keys (a + 1) xs k) ∙ run_key a k (length xs)

-- ---- a leaf

pub nothing_weighs : leaf_bytes [] ≡ 0
unfolding bytes_behind
nothing_weighs = refl

module _ (lo hi : ℕ) (le : lo ≤ hi) (e : Edits) (a : ℕ) (xs : List ℕ) (vs : Pairs)
    (puts : e.puts ≡ byte_pairs a xs ++ vs)
    (values : All IsValue vs) (few : length e.zeros ≤ 1) where
  abbrev run : ℕ × ℕ
  run = (a, a + length xs)

  abbrev pub charge : ℕ → ℕ
  charge k = all_ends e.cuts k + (all_ends e.zeros k + sizes e.zeros k) + (ends run k + size run k) + points vs k

  abbrev Within : (ℕ × Value → Bool)
  Within = λ p. is_between lo hi p.0

  abbrev zeros_more : ℕ
  zeros_more = 79 * count lo hi e.zeros + parts lo hi e.zeros

  abbrev run_more : ℕ
  run_more = 79 * one lo hi run + part lo hi run

  abbrev values_more : ℕ
  values_more = 386 * length (filter Within vs)

  puts_within : filter Within e.puts ≡ filter Within (byte_pairs a xs) ++ filter Within vs
  puts_within = ap (filter Within) puts ∙ filter-append Within (byte_pairs a xs) vs

  -- by so much what stands in the range grows, where cuts make it grow by so much
  grown : (g : ℕ) (ws : Pairs) → Grows g ws (list_cut (map (clip lo hi) e.cuts) ws)
      → Grows (g + zeros_more + run_more + values_more) ws (list_edited (clipped lo hi e) ws)
  grown g ws cut =
      let cuts = list_cut (map (clip lo hi) e.cuts) ws in
      let zeroed = list_zero (map (clip lo hi) e.zeros) cuts in
      let z = zeros_in lo hi e.zeros cuts cut.rises in
      let r = run_in lo hi a xs zeroed z.rises in
      let filled = list_put (filter Within (byte_pairs a xs)) zeroed in
      let v = values_grow (filter Within vs) filled r.rises (kept_values lo hi vs values) in
      let all = grows_both (g + zeros_more) (run_more + values_more) (g + zeros_more + run_more + values_more) ws zeroed
      (list_put (filter Within vs) filled) (omega arith)
      (grows_both g zeros_more (g + zeros_more) ws cuts zeroed (omega arith) cut z)
      (grows_both run_more values_more (run_more + values_more) zeroed filled (list_put (filter Within vs) filled)
      (omega arith) r v) in
      subst (λ (ps : Pairs). Grows (g + zeros_more + run_more + values_more) ws (list_put ps zeroed)) (sym puts_within)
      (subst (λ (xs : Pairs). Grows (g + zeros_more + run_more + values_more) ws xs)
      (sym (put_append (filter Within (byte_pairs a xs)) (filter Within vs) zeroed)) all)

  module _ (us : Pairs) (rises : Rises us) (within : (k : ℕ) → is_between lo hi k ≡ false → find nat_cmp k us ≡ None)
      (small : leaf_bytes us ≤ 4068) where
    after : Pairs
    after = filter Within (list_edited e us)

    -- no interval covers the range
    in_part : list_any (covers lo hi) e.cuts ≡ false → list_any (covers lo hi) e.zeros ≡ false → covers lo hi run
        ≡ false
        → 1024 * over (leaf_bytes after) + charge lo ≤ charge hi
    unfolding after
    in_part no_cut no_zero no_run =
        let g = grown (40 * count lo hi e.cuts) us (cuts_in lo hi e.cuts us rises) in
        let bytes = g.bytes in
        let same = ap leaf_bytes (window lo hi e us rises within) in
        let c = all_ends_part lo hi le e.cuts no_cut in
        let z = all_ends_part lo hi le e.zeros no_zero in
        let zs = sizes_part lo hi le e.zeros in
        let r = ends_part lo hi a (a + length xs) le no_run in
        let rs = size_part lo hi a (a + length xs) le in
        let v = points_part lo hi le vs in
        elim (over_cases (leaf_bytes (filter Within (list_edited e us)))) [
          | inl fits ↦ let none = fits.1 in omega (arith, none, c, z, zs, r, rs, v)
          | inr full ↦ let (big, is) = full in
              elim (cases_lt 0 (count lo hi e.cuts + count lo hi e.zeros + one lo hi run + length (filter Within vs))) [
                | inl some ↦ omega (arith, big, is, some, bytes, same, small, c, z, zs, r, rs, v)
                | inr none ↦
                    let p = none_parts lo hi le e.zeros (omega (arith, none)) in
                    let q = none_met lo hi le run (omega (arith, none)) in
                    absurd (omega (arith, big, none, bytes, same, small, p, q))
              ]
        ]

    -- one does
    in_whole : ((k : ℕ) → is_between lo hi k ≡ true → is_in (changed e) k ≡ true)
        → 1024 * over (leaf_bytes after) + charge lo ≤ charge hi
    unfolding after
    in_whole all =
        let g = grown 0 []
        (subst (λ (ws : Pairs). Grows 0 [] ws) (sym (none_cut (map (clip lo hi) e.cuts))) (grows_none [] tt)) in
        let bytes = g.bytes in
        let same = ap leaf_bytes (anew lo hi e us rises within all ∙ window lo hi e [] tt (λ k out. refl)) in
        let c = all_ends_up e.cuts lo hi le in
        let z = all_ends_up e.zeros lo hi le in
        let zs = sizes_part lo hi le e.zeros in
        let r = one_ends_up run lo hi le in
        let rs = size_part lo hi a (a + length xs) le in
        let v = points_part lo hi le vs in
        let most = count_most lo hi le e.zeros in
        let once = one_most lo hi le run in
        elim (over_cases (leaf_bytes (filter Within (list_edited e us)))) [
          | inl fits ↦ let none = fits.1 in omega (arith, none, c, z, zs, r, rs, v)
          | inr full ↦
              let (big, is) = full in
              let base = nothing_weighs in
              omega (arith, big, is, bytes, base, same, c, z, zs, r, rs, v, most, once, few)
        ]

    pub leaf_charged : 1024 * over (leaf_bytes (filter Within (list_edited e us))) + charge lo ≤ charge hi
    unfolding after
    leaf_charged = elim (true_or_false (list_any (covers lo hi) e.cuts)) [
      | inl cut ↦ in_whole (λ k at. in_changed e k
          ∙ or_right (is_in (put_keys e.puts) k) (is_in e.zeros k || is_in e.cuts k)
          (or_right (is_in e.zeros k) (is_in e.cuts k) (covered_keys lo hi e.cuts cut k at)))
      | inr no_cut ↦ elim (true_or_false (list_any (covers lo hi) e.zeros)) [
        | inl zero_all ↦ in_whole (λ k at. in_changed e k
            ∙ or_right (is_in (put_keys e.puts) k) (is_in e.zeros k || is_in e.cuts k)
            (or_left (is_in e.zeros k) (is_in e.cuts k) (covered_keys lo hi e.zeros zero_all k at)))
        | inr no_zero ↦ elim (true_or_false (covers lo hi run)) [
          | inl own ↦ in_whole (λ k at. in_changed e k
              ∙ or_left (is_in (put_keys e.puts) k) (is_in e.zeros k || is_in e.cuts k)
              (in_run k (covered_key lo hi a (a + length xs) k own at)))
          | inr no_run ↦ in_part no_cut no_zero no_run
        ]
      ]
    ]
      where
        in_run : (k : ℕ) → is_between a (a + length xs) k ≡ true → is_in (put_keys e.puts) k ≡ true
        in_run k h = ap (λ (ps : Pairs). is_in (put_keys ps) k) puts
            ∙ (in_both (byte_pairs a xs) vs k ∙ or_left (is_in (put_keys (byte_pairs a xs)) k) (is_in (put_keys vs) k)
            (run_keys a xs k ∙ h))

-- ---- all charges together

abbrev pub widths : Intervals → ℕ
widths [] = 0
widths (r ∷ rs) = (r.1 - r.0) + widths rs

ends_most : (r : ℕ × ℕ) (k : ℕ) → ends r k ≤ 4252
ends_most r k = by_tests (nat_lt r.0 k) (nat_le r.1 k)
  where
    by_tests : (v w : Bool) → (if v then 2126 else 0) + (if w then 2126 else 0) ≤ 4252
    by_tests true true = omega arith
    by_tests true false = omega arith
    by_tests false true = omega arith
    by_tests false false = omega arith

size_most : (a b k : ℕ) → smaller k b - a ≤ b - a
size_most a b k = grind (arith, nat_tests)

all_ends_most : (rs : Intervals) (k : ℕ) → all_ends rs k ≤ 4252 * length rs
all_ends_most [] k = omega arith
all_ends_most (r ∷ rs) k = let a = ends_most r k in let rest = all_ends_most rs k in omega (arith, a, rest)

sizes_most : (rs : Intervals) (k : ℕ) → sizes rs k ≤ widths rs
sizes_most [] k = omega arith
sizes_most (r ∷ rs) k = let a = size_most r.0 r.1 k in let rest = sizes_most rs k in omega (arith, a, rest)

points_most : (ps : Pairs) (k : ℕ) → points ps k ≤ 2433 * length ps
points_most [] k = omega arith
points_most (p ∷ ps) k = by_test (nat_lt p.0 k) (points_most ps k)
  where
    by_test : (v : Bool) → points ps k ≤ 2433 * length ps
        → (if v then 2433 else 0) + points ps k ≤ 2433 * length (p ∷ ps)
    by_test true rest = omega (arith, rest)
    by_test false rest = omega (arith, rest)

-- Edits of few intervals and values, and of one run of bytes.
pub record AreCharged (e : Edits) : Type 0 where
  pub first : ℕ
  pub bytes : List ℕ
  pub values : Pairs
  pub puts : e.puts ≡ byte_pairs first bytes ++ values
  pub lawful : All IsValue values
  pub zeros : length e.zeros ≤ 1
  pub few : 4252 * length e.cuts + (4252 * length e.zeros + widths e.zeros) + (4252 + length bytes)
      + 2433 * length values ≤ 27647

abbrev pub charge_of : (e : Edits) → AreCharged e → ℕ → ℕ
charge_of e h k = all_ends e.cuts k + (all_ends e.zeros k + sizes e.zeros k)
    + (ends (h.first, h.first + length h.bytes) k + size (h.first, h.first + length h.bytes) k) + points h.values k

pub charge_up : (e : Edits) (h : AreCharged e) (k j : ℕ) → k ≤ j → charge_of e h k ≤ charge_of e h j
charge_up e h k j le =
    let c = all_ends_up e.cuts k j le in
    let z = all_ends_up e.zeros k j le in
    let zs = sizes_up e.zeros k j le in
    let r = one_ends_up (h.first, h.first + length h.bytes) k j le in
    let rs = one_size_up (h.first, h.first + length h.bytes) k j le in
    let v = points_up h.values k j le in
    omega (arith, c, z, zs, r, rs, v)

pub charge_most : (e : Edits) (h : AreCharged e) (k : ℕ) → charge_of e h k ≤ 27647
charge_most e h k =
    let c = all_ends_most e.cuts k in
    let z = all_ends_most e.zeros k in
    let zs = sizes_most e.zeros k in
    let r = ends_most (h.first, h.first + length h.bytes) k in
    let rs = size_most h.first (h.first + length h.bytes) k in
    let v = points_most h.values k in
    let few = h.few in
    omega (arith, c, z, zs, r, rs, v, few)
