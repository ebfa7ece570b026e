-- Edits change only keys such as items may have, where each of their intervals, fills, runs and
-- values is such.
use Rattle.std.proofs.Common.{◌≡◌, ◌↔◌, inl, inr, ℕ, suc, ◌+◌, ◌-◌, ◌<◌, ◌≤◌, Bool, true, false, List, [], ◌∷◌, ◌++◌, length, map, refl, sym, ap, ◌∙◌, arith}
use Rattle.std.specs.Prelude.{◌&&◌, ◌||◌, not, nat_le, nat_lt, replicate}
use Rattle.std.specs.List.{flat_map, list_all}
use Rattle.std.proofs.lemmas.Bool.{and_from, and_parts, le-leb, or_cases, or_left, or_right}
use Rattle.std.proofs.lemmas.Bool.Decides.{nat_tests}
use Rattle.std.proofs.lemmas.Grind.{common_steps}
use Rattle.std.proofs.lemmas.List.{length-replicate}
use Rattle.std.proofs.lemmas.List.Folds.{list_all-append, list_all-map}
use Rattle.r4_base.specs.Key.{IsKey, least, rank, top}
use Rattle.r4_base.specs.declared.key.Key.{Key}
use Rattle.r4_base.specs.declared.values.Value.{Value as HeldValue}
use Rattle.r4_content.specs.Edited.{Intervals, Pairs, changed, is_between, is_in, put_keys}
use Rattle.r4_content.specs.Held.{edits_of, fill_pairs, interval_of, pair_of, run_pairs}
use Rattle.r4_content.specs.Objects.{byte_pairs}
use Rattle.r4_content.specs.declared.edits.ByteRun.{ByteRun}
use Rattle.r4_content.specs.declared.edits.Edits.{Edits as HeldEdits}
use Rattle.r4_content.specs.declared.edits.FilledInterval.{FilledInterval}
use Rattle.r4_turned_tasks.proofs.r4_extent_put.r4_extent_growth.r4_extent_change.r4_build.r4_leaf_edits.Puts.{put_keys_append}
use Rattle.r4_put_tasks.specs.LawfulKeys.{is_lawful}
use Rattle.r4_turned_tasks.specs.r4_task_moves.r4_extent_moves.r4_applied.r4_build.Building.{HaveLawfulKeys}

-- ---- keys

pub below_top : (k : Key) → IsKey k → rank k ≤ top
unfolding rank top
below_top k is =
    let a = is.small 0 in
    let b = is.small 1 in
    let c = is.small 2 in
    let d = is.small 3 in
    omega (arith, a, b, c, d)

pub ends_low : (from to : ℕ) → nat_lt from to ≡ true → to ≤ top → not (nat_lt from least) ≡ is_lawful (from, to)
ends_low from to lt low = grind (arith, nat_tests)

-- ---- one interval

-- each key of the intervals is one that an item may have
abbrev pub AreLawful : Intervals → Type 0
AreLawful rs = (k : ℕ) → is_in rs k ≡ true → (least ≤ k) × (k < top)

one_right : (a b k : ℕ) → is_lawful (a, b) ≡ true → is_between a b k ≡ true → (least ≤ k) × (k < top)
one_right a b k on at = (grind (arith, nat_tests), grind (arith, nat_tests))

one_left : (a b : ℕ) → ((k : ℕ) → is_between a b k ≡ true → (least ≤ k) × (k < top)) → is_lawful (a, b) ≡ true
one_left a b all = by_order (nat_le b a) refl
  where
    by_order : (t : Bool) → nat_le b a ≡ t → (t || (nat_le least a && nat_le b top)) ≡ true
    by_order true e = refl
    by_order false e =
        let first = (all a (grind (arith, nat_tests))).0 in
        let last = (all (b - 1) (grind (arith, nat_tests))).1 in
        and_from (nat_le least a) (nat_le b top) (le-leb least a first) (le-leb b top (omega (arith, last)))

-- ---- all of them

all_right : (rs : Intervals) → list_all is_lawful rs ≡ true → AreLawful rs
all_right [] on k at = absurd cc
all_right (r ∷ rs) on k at =
    let (mine, others) = and_parts (is_lawful r) (list_all is_lawful rs) on in
    elim (or_cases (is_between r.0 r.1 k) (is_in rs k) at) [
      | inl here ↦ one_right r.0 r.1 k mine here
      | inr there ↦ all_right rs others k there
    ]

all_left : (rs : Intervals) → AreLawful rs → list_all is_lawful rs ≡ true
all_left [] all = refl
all_left (r ∷ rs) all =
    and_from (is_lawful r) (list_all is_lawful rs)
    (one_left r.0 r.1 (λ k at. all k (or_left (is_between r.0 r.1 k) (is_in rs k) at)))
    (all_left rs (λ k at. all k (or_right (is_between r.0 r.1 k) (is_in rs k) at)))

-- ---- keys of bytes and of values

no_key : (a : ℕ) → true ≡ is_lawful (a, a + 0)
no_key a = grind (arith, nat_tests)

one_more : (a n : ℕ) → (is_lawful (a, a + 1) && is_lawful (a + 1, a + 1 + n)) ≡ is_lawful (a, a + suc n)
one_more a n = grind (arith, common_steps)

bytes_are : (a : ℕ) (xs : List ℕ) → list_all is_lawful (put_keys (byte_pairs a xs)) ≡ is_lawful (a, a + length xs)
bytes_are a [] = no_key a
bytes_are a (x ∷ xs) = ap (λ (t : Bool). is_lawful (a, a + 1) && t) (bytes_are (a + 1) xs) ∙ one_more a (length xs)

both : (ps qs : Pairs) → list_all is_lawful (put_keys (ps ++ qs))
    ≡ (list_all is_lawful (put_keys ps) && list_all is_lawful (put_keys qs))
both ps qs = ap (list_all is_lawful) (put_keys_append ps qs) ∙ list_all-append is_lawful (put_keys ps) (put_keys qs)

to_end : (a b : ℕ) → is_lawful (a, a + (b - a)) ≡ is_lawful (a, b)
to_end a b = grind (arith, common_steps)

fill_is : (f : FilledInterval) → list_all is_lawful (put_keys (fill_pairs f)) ≡ is_lawful (rank f.from, rank f.to)
fill_is f =
    let n = rank f.to - rank f.from in
    bytes_are (rank f.from) (replicate n f.byte)
    ∙ ap (λ (m : ℕ). is_lawful (rank f.from, rank f.from + m)) (length-replicate n f.byte)
    ∙ to_end (rank f.from) (rank f.to)

fills_are : (fs : List FilledInterval) → list_all is_lawful (put_keys (flat_map fill_pairs fs))
    ≡ list_all (λ f. is_lawful (rank f.from, rank f.to)) fs
fills_are [] = refl
fills_are (f ∷ fs) = both (fill_pairs f) (flat_map fill_pairs fs) ∙ (λ i. fill_is f i && fills_are fs i)

runs_are : (rs : List ByteRun) → list_all is_lawful (put_keys (flat_map run_pairs rs))
    ≡ list_all (λ r. is_lawful (rank r.from, rank r.from + length r.bytes)) rs
runs_are [] = refl
runs_are (r ∷ rs) = both (run_pairs r) (flat_map run_pairs rs) ∙ (λ i. bytes_are (rank r.from) r.bytes i && runs_are rs i)

values_are : (vs : List (Key × HeldValue)) → list_all is_lawful (put_keys (map pair_of vs))
    ≡ list_all (λ p. is_lawful (rank p.0, rank p.0 + 1)) vs
values_are [] = refl
values_are (v ∷ vs) = ap (λ (t : Bool). is_lawful (rank v.0, rank v.0 + 1) && t) (values_are vs)

-- ---- edits

abbrev pub puts_lawful : HeldEdits → Bool
puts_lawful e = list_all (λ f. is_lawful (rank f.from, rank f.to)) e.fills.items
    && (list_all (λ r. is_lawful (rank r.from, rank r.from + length r.bytes)) e.runs.items
    && list_all (λ p. is_lawful (rank p.0, rank p.0 + 1)) e.puts.items)

abbrev pub takes_lawful : HeldEdits → Bool
takes_lawful e = list_all (λ i. is_lawful (interval_of i)) e.zeros.items
    && list_all (λ i. is_lawful (interval_of i)) e.cuts.items

puts_are : (e : HeldEdits) → list_all is_lawful (put_keys (edits_of e).puts) ≡ puts_lawful e
puts_are e =
    let fs = flat_map fill_pairs e.fills.items in
    let rs = flat_map run_pairs e.runs.items in
    let vs = map pair_of e.puts.items in
    both fs (rs ++ vs) ∙ ap (λ (t : Bool). list_all is_lawful (put_keys fs) && t) (both rs vs)
    ∙ (λ i. fills_are e.fills.items i && (runs_are e.runs.items i && values_are e.puts.items i))

edits_are : (e : HeldEdits) → list_all is_lawful (changed (edits_of e)) ≡ (puts_lawful e && takes_lawful e)
edits_are e =
    let ps = put_keys (edits_of e).puts in
    let zs = map interval_of e.zeros.items in
    let cs = map interval_of e.cuts.items in
    list_all-append is_lawful ps (zs ++ cs)
    ∙ ap (λ (t : Bool). list_all is_lawful ps && t) (list_all-append is_lawful zs cs)
    ∙ (λ i. puts_are e i && (list_all-map is_lawful interval_of e.zeros.items i && list_all-map is_lawful interval_of e.cuts.items i))

-- what is found of the puts, and of the zeros and cuts, says whether the edits are lawful
pub found : (e : HeldEdits) (t : Bool) → t ≡ (puts_lawful e && takes_lawful e)
    → (t ≡ true) ↔ HaveLawfulKeys (edits_of e)
found e t is = (
  (λ on. all_right (changed (edits_of e)) (edits_are e ∙ (sym is ∙ on))),
  (λ all. is ∙ (sym (edits_are e) ∙ all_left (changed (edits_of e)) all)),
)
