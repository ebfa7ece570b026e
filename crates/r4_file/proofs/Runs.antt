-- The bytes of what was seen that stand in an interval.
use Rattle.std.proofs.Common.{add-one, append_assoc, drop-cons, get_or, subst, ◌≡◌, ◌<◌, ◌≤◌, ◌+◌, ◌-◌, ℕ, suc, Bool, true, false, cond, List, [], ◌∷◌, ◌++◌, refl, sym, ◌∙◌, ap, arith, length, take, drop, min}
use Rattle.std.specs.Prelude.{nat_lt}
use Rattle.std.specs.List.{flat_map, slice_range}
use Rattle.std.proofs.lemmas.Grind.{common_steps}
use Rattle.std.proofs.lemmas.List.Concat.{flat_map-cons}
use Rattle.std.proofs.lemmas.List.Elements.{filter-append}
use Rattle.r4_base.specs.Value.{Value, Stat, Entry, Byte}
use Rattle.r4_content.specs.Bodies.{bytes_in}
use Rattle.r4_content.specs.Edited.{Pairs, is_between}
use Rattle.r4_content.specs.Held.{part_pairs}
use Rattle.r4_content.specs.Objects.{byte_pairs}
use Rattle.r4_content.specs.Seen.{pairs_in}
use Rattle.r4_content.specs.declared.seen.SeenPart.{SeenPart}
use Rattle.r4_content.proofs.Ranks.{between_is}

-- ---- part by part

bytes_more : (es fs : Pairs) → bytes_in (es ++ fs) ≡ bytes_in es ++ bytes_in fs
bytes_more [] fs = refl
bytes_more ((k, Stat a) ∷ es) fs = bytes_more es fs
bytes_more ((k, Entry n t) ∷ es) fs = bytes_more es fs
bytes_more ((k, Byte x) ∷ es) fs = ap (λ (ys : List ℕ). x ∷ ys) (bytes_more es fs)

pub part_more : (from to : ℕ) (p : SeenPart) (parts : List SeenPart) → bytes_in (pairs_in (flat_map part_pairs (p ∷ parts)) from to) ≡ bytes_in (pairs_in (part_pairs p) from to) ++ bytes_in (pairs_in (flat_map part_pairs parts) from to)
part_more from to p parts =
    ap (λ (es : Pairs). bytes_in (pairs_in es from to)) (flat_map-cons part_pairs p parts)
    ∙ ap bytes_in (filter-append (λ (e : ℕ × Value). is_between from to e.0) (part_pairs p) (flat_map part_pairs parts))
    ∙ bytes_more (pairs_in (part_pairs p) from to) (pairs_in (flat_map part_pairs parts) from to)

pub push_more : (from to : ℕ) (done : List ℕ) (p : SeenPart) (parts : List SeenPart)
    → (done ++ bytes_in (pairs_in (part_pairs p) from to)) ++ bytes_in (pairs_in (flat_map part_pairs parts) from to) ≡ done ++ bytes_in (pairs_in (flat_map part_pairs (p ∷ parts)) from to)
push_more from to done p parts =
    append_assoc done (bytes_in (pairs_in (part_pairs p) from to)) (bytes_in (pairs_in (flat_map part_pairs parts) from to))
    ∙ ap (λ (ys : List ℕ). done ++ ys) (sym (part_more from to p parts))

pub next_part : (from to : ℕ) (before done : List ℕ) (p : SeenPart) (parts items : List SeenPart) (i : ℕ) → items ≡ parts → i < length items → p ≡ get_or items i p
    → done ≡ before ++ bytes_in (pairs_in (part_pairs p) from to)
    → done ++ bytes_in (pairs_in (flat_map part_pairs (drop (i + 1) parts)) from to) ≡ before ++ bytes_in (pairs_in (flat_map part_pairs (drop i parts)) from to)
next_part from to before done p parts items i same lt is e =
    let below = subst (λ (ps : List SeenPart). i < length ps) same lt in
    let here = subst (λ (ps : List SeenPart). p ≡ get_or ps i p) same is in
    let split : drop i parts ≡ p ∷ drop (i + 1) parts = rw add-one (drop-cons parts i p below ∙ ap (λ (u : SeenPart). u ∷ drop (suc i) parts) (sym here)) in
    ap (λ (ys : List ℕ). ys ++ bytes_in (pairs_in (flat_map part_pairs (drop (i + 1) parts)) from to)) e
    ∙ push_more from to before p (drop (i + 1) parts)
    ∙ ap (λ (ps : List SeenPart). before ++ bytes_in (pairs_in (flat_map part_pairs ps) from to)) (sym split)

-- ---- a run

outside : (from to k : ℕ) → is_between from to k ≡ false → from ≤ k → to ≤ k
outside from to k e le = grind (arith, common_steps)

nothing : (a b : ℕ) → slice_range {X = ℕ} [] a b ≡ []
nothing a b = grind (arith, common_steps)

-- one byte more before the others
step : (from to k x : ℕ) (xs : List ℕ)
    → bytes_in (pairs_in (byte_pairs (k + 1) xs) from to) ≡ slice_range xs (min (from - (k + 1)) (length xs)) (min (to - (k + 1)) (length xs))
    → bytes_in (pairs_in (byte_pairs k (x ∷ xs)) from to) ≡ slice_range (x ∷ xs) (min (from - k) (suc (length xs))) (min (to - k) (suc (length xs)))
step from to k x xs inner = by_test (is_between from to k) refl
  where
    n : ℕ
    n = length xs

    rest : List ℕ
    rest = bytes_in (pairs_in (byte_pairs (k + 1) xs) from to)

    a : ℕ
    a = min (from - (k + 1)) (length xs)

    b : ℕ
    b = min (to - (k + 1)) (length xs)

    c : ℕ
    c = min (from - k) (suc (length xs))

    d : ℕ
    d = min (to - k) (suc (length xs))

    by_place : is_between from to k ≡ false → (l : Bool) → nat_lt k from ≡ l → rest ≡ take (d - c) (drop c (x ∷ xs))
    by_place e true l =
        let first : suc a ≡ c = grind (arith, common_steps) in
        let many : b - a ≡ d - c = grind (arith, common_steps) in
        inner ∙ ap (λ (m : ℕ). take m (drop (suc a) (x ∷ xs))) many ∙ ap (λ (m : ℕ). take (d - c) (drop m (x ∷ xs))) first
    by_place e false l =
        let past : to ≤ k = outside from to k e (grind (arith, common_steps)) in
        let none : b - a ≡ 0 = grind (arith, common_steps) in
        let also_none : 0 ≡ d - c = grind (arith, common_steps) in
        inner ∙ ap (λ (m : ℕ). take m (drop a xs)) none ∙ ap (λ (m : ℕ). take m (drop c (x ∷ xs))) also_none

    by_test : (t : Bool) → is_between from to k ≡ t → bytes_in (cond t ((k, Byte x) ∷ pairs_in (byte_pairs (k + 1) xs) from to) (pairs_in (byte_pairs (k + 1) xs) from to)) ≡ take (d - c) (drop c (x ∷ xs))
    by_test true e =
        let h = between_is from to k e in
        let le : from ≤ k = h.0 in
        let lt : k < to = h.1 in
        let zero_inner : a ≡ 0 = grind (arith, common_steps) in
        let zero_first : 0 ≡ c = grind (arith, common_steps) in
        let many : suc (b - a) ≡ d - c = grind (arith, common_steps) in
        ap (λ (ys : List ℕ). x ∷ ys) inner ∙ ap (λ (m : ℕ). x ∷ take (b - a) (drop m xs)) zero_inner
        ∙ ap (λ (m : ℕ). take m (drop 0 (x ∷ xs))) many ∙ ap (λ (m : ℕ). take (d - c) (drop m (x ∷ xs))) zero_first
    by_test false e = by_place e (nat_lt k from) refl

-- the bytes of a run in an interval are those from one place up to another one
pub run_bytes : (from to k : ℕ) (xs : List ℕ) → bytes_in (pairs_in (byte_pairs k xs) from to) ≡ slice_range xs (min (from - k) (length xs)) (min (to - k) (length xs))
run_bytes from to k [] = sym (nothing (min (from - k) 0) (min (to - k) 0))
run_bytes from to k (x ∷ xs) = step from to k x xs (run_bytes from to (k + 1) xs)

-- no bytes, where the places are none
pub no_bytes : (xs : List ℕ) (a b : ℕ) → b ≤ a → slice_range xs a b ≡ []
no_bytes xs a b le =
    let none : b - a ≡ 0 = omega (arith, le) in
    ap (λ (m : ℕ). take m (drop a xs)) none
