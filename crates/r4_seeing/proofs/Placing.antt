-- Where parts are put among others.
use Rattle.std.proofs.Common.{◌≡◌, ◌≢◌, ◌⊎◌, inl, inr, ℕ, zero, suc, ◌+◌, ◌<◌, ◌≤◌, List, [], ◌∷◌, ◌++◌, length, take}
use Rattle.std.proofs.Common.{drop, refl, sym, ap, subst, ◌∙◌, arith}
use Rattle.std.specs.Prelude.{All, Contains, Option, Some, None, T, slice_get}
use Rattle.std.specs.FinMap.{find, is_sorted}
use Rattle.std.specs.FinMap.Entries.{below_all}
use Rattle.std.specs.Ordering.{is_lt, nat_cmp}
use Rattle.std.proofs.lemmas.List.Concat.{flat_map-append}
use Rattle.std.proofs.lemmas.List.Elements.{All-append, All-cons, All-head, All-nil, All-tail, All-weaker}
use Rattle.std.proofs.lemmas.List.Elements.{Contains-append_left, Contains-append_right}
use Rattle.r4_base.specs.Key.{rank}
use Rattle.r4_base.specs.Value.{Byte, Value, value_of}
use Rattle.r4_base.specs.declared.key.Key.{Key}
use Rattle.r4_content.specs.Edited.{Pairs}
use Rattle.r4_content.specs.Held.{part_pairs}
use Rattle.r4_content.specs.Objects.{byte_pairs}
use Rattle.r4_content.specs.Seen.{Rises}
use Rattle.r4_content.specs.declared.seen.SeenPart.{SeenPart}
use Rattle.r4_content.specs.declared.seen.SeenPart.TheVariants.{One, Run}
use Rattle.r4_content.proofs.Counting.{below_lt, first_holds, second_holds}
use Rattle.r4_sight.specs.Parts.{AreFull, all_pairs}
use Rattle.r4_seeing.specs.Known.{IsPlaceFor, part_key}
use Rattle.r4_patch.proofs.Members.{here, later}
use Rattle.r4_seeing.proofs.Inserted.{rises_rest}

-- ---- the keys of a part

abbrev From : ℕ → ℕ × Value → Type 0
From k e = k ≤ e.0

abbrev Below : ℕ → ℕ × Value → Type 0
Below k e = e.0 < k

bytes_above : (k : ℕ) (xs : List ℕ) → All (From k) (byte_pairs k xs)
bytes_above k [] = All-nil (From k)
bytes_above k (x ∷ xs) = All-cons (From k) (k, Byte x) (byte_pairs (k + 1) xs) (omega arith)
    (All-weaker (From (k + 1)) (From k) (λ e le. omega (arith, le)) (byte_pairs (k + 1) xs) (bytes_above (k + 1) xs))

part_above : (p : SeenPart) → All (From (rank (part_key p))) (part_pairs p)
part_above (One k v) = All-cons (From (rank k)) (rank k, value_of v) [] (omega arith) (All-nil (From (rank k)))
part_above (Run r) = bytes_above (rank r.from) r.bytes

-- what begins above a key has its pairs there
pub parts_above : (k : ℕ) (ps : List SeenPart) → All (λ (p : SeenPart). k < rank (part_key p)) ps
    → All (From k) (all_pairs ps)
parts_above k [] h = All-nil (From k)
parts_above k (p ∷ ps) h =
    let first = All-head (λ (p : SeenPart). k < rank (part_key p)) p ps h in
    All-append (From k) (part_pairs p) (all_pairs ps)
    (All-weaker (From (rank (part_key p))) (From k) (λ e le. omega (arith, le, first)) (part_pairs p) (part_above p))
    (parts_above k ps (All-tail (λ (p : SeenPart). k < rank (part_key p)) p ps h))

-- the bytes of a run that begins at or below a key are all below it where none has it
bytes_below : (k at : ℕ) (xs : List ℕ) → k ≤ at → ((v : Value) → Contains (byte_pairs k xs) (at, v) → ⊥)
    → All (Below at) (byte_pairs k xs)
bytes_below k at [] le none = All-nil (Below at)
bytes_below k at (x ∷ xs) le none =
    let other : k ≢ at = apart in
    All-cons (Below at) (k, Byte x) (byte_pairs (k + 1) xs) (omega (arith, le, other))
    (bytes_below (k + 1) at xs (omega (arith, le, other))
    (λ v h. none v (later (k, Byte x) (at, v) (byte_pairs (k + 1) xs) h)))
  where
    apart : k ≢ at
    apart same = none (Byte x)
        (subst (λ (n : ℕ). Contains (byte_pairs k (x ∷ xs)) (n, Byte x)) same
        (here (k, Byte x) (byte_pairs (k + 1) xs)))

part_below : (at : ℕ) (p : SeenPart) → rank (part_key p) ≤ at → ((v : Value) → Contains (part_pairs p) (at, v) → ⊥)
    → All (Below at) (part_pairs p)
part_below at (One k w) le none = All-cons (Below at) (rank k, value_of w) []
    (let other : rank k ≢ at = apart in omega (arith, le, other)) (All-nil (Below at))
  where
    apart : rank k ≢ at
    apart same = none (value_of w)
        (subst (λ (n : ℕ). Contains (part_pairs (One k w)) (n, value_of w)) same (here (rank k, value_of w) []))
part_below at (Run r) le none = bytes_below (rank r.from) at r.bytes le none

-- ---- the parts before the place

abbrev pub LastUpTo : ℕ → List SeenPart → Type 0
LastUpTo k [] = Unit {0}
LastUpTo k (p ∷ []) = rank (part_key p) ≤ k
LastUpTo k (p ∷ (q ∷ ps)) = LastUpTo k (q ∷ ps)

last_up_to : (k : ℕ) (ps : List SeenPart) (at : ℕ) → at ≤ length ps
    → ((i : ℕ) (p : SeenPart) → i < at → at ≤ i + 1 → slice_get ps i ≡ Some p → rank (part_key p) ≤ k)
    → LastUpTo k (take at ps)
last_up_to k ps zero within h = tt
last_up_to k [] (suc n) within h = absurd (omega (arith, within))
last_up_to k (p ∷ ps) (suc zero) within h = h 0 p (omega arith) (omega arith) refl
last_up_to k (p ∷ []) (suc (suc n)) within h = absurd (omega (arith, within))
last_up_to k (p ∷ (q ∷ ps)) (suc (suc n)) within h = last_up_to k (q ∷ ps) (suc n) (omega (arith, within))
    (λ i x lt le is. h (suc i) x (omega (arith, lt)) (omega (arith, le)) is)

-- pairs before another one that rises with them
before_first : (xs : Pairs) (e : ℕ × Value) (ys : Pairs) → Rises (xs ++ e ∷ ys) → All (Below e.0) xs
before_first [] e ys r = All-nil (Below e.0)
before_first (x ∷ xs) e ys r =
    All-cons (Below e.0) x xs
    (below_there x.0 xs e ys
    (first_holds (below_all nat_cmp x.0 (xs ++ e ∷ ys)) (is_sorted nat_cmp (xs ++ e ∷ ys)) r))
    (before_first xs e ys (second_holds (below_all nat_cmp x.0 (xs ++ e ∷ ys)) (is_sorted nat_cmp (xs ++ e ∷ ys)) r))
  where
    below_there : (k : ℕ) (xs : Pairs) (e : ℕ × Value) (ys : Pairs) → T (below_all nat_cmp k (xs ++ e ∷ ys)) → k < e.0
    below_there k [] e ys h = below_lt k e.0 (first_holds (is_lt (nat_cmp k e.0)) (below_all nat_cmp k ys) h)
    below_there k (x ∷ xs) e ys h = below_there k xs e ys
        (second_holds (is_lt (nat_cmp k x.0)) (below_all nat_cmp k (xs ++ e ∷ ys)) h)

-- where the last part begins at or below a key that no pair has, all pairs are below it
pub parts_below : (at : ℕ) (ps : List SeenPart) → LastUpTo at ps → AreFull ps → Rises (all_pairs ps)
    → ((v : Value) → Contains (all_pairs ps) (at, v) → ⊥) → All (Below at) (all_pairs ps)
parts_below at [] last full r none = All-nil (Below at)
parts_below at (p ∷ []) last full r none =
    All-append (Below at) (part_pairs p) []
    (part_below at p last (λ v h. none v (Contains-append_left (part_pairs p) [] (at, v) h))) (All-nil (Below at))
parts_below at (p ∷ (q ∷ ps)) last full r none =
    let rest = parts_below at (q ∷ ps) last (All-tail (λ (x : SeenPart). part_pairs x ≢ []) p (q ∷ ps) full)
    (rises_rest (part_pairs p) (all_pairs (q ∷ ps)) r) (λ v h. none v (behind v h)) in
    All-append (Below at) (part_pairs p) (all_pairs (q ∷ ps)) (by (part_pairs q) refl rest) rest
  where
    behind : (v : Value) → Contains (all_pairs (q ∷ ps)) (at, v) → Contains (all_pairs (p ∷ (q ∷ ps))) (at, v)
    behind v h = Contains-append_right (part_pairs p) (all_pairs (q ∷ ps)) (at, v) h

    by : (es : Pairs) → es ≡ part_pairs q → All (Below at) (all_pairs (q ∷ ps)) → All (Below at) (part_pairs p)
    by [] is rest = absurd
        (All-head (λ (x : SeenPart). part_pairs x ≢ []) q ps
        (All-tail (λ (x : SeenPart). part_pairs x ≢ []) p (q ∷ ps) full) (sym is))
    by (e ∷ es) is rest =
        let split : all_pairs (q ∷ ps) ≡ e ∷ (es ++ all_pairs ps) = ap (λ (s : Pairs). s ++ all_pairs ps) (sym is) in
        let first = All-head (Below at) e (es ++ all_pairs ps) (subst (All (Below at)) split rest) in
        All-weaker (Below e.0) (Below at) (λ d lt. omega (arith, lt, first)) (part_pairs p)
        (before_first (part_pairs p) e (es ++ all_pairs ps) (subst (λ (s : Pairs). Rises (part_pairs p ++ s)) split r))

-- ---- at the place

pub pairs_before : (at from : ℕ) (old : List SeenPart) → IsPlaceFor old from at → LastUpTo from (take at old)
pairs_before at from old h = last_up_to from old at h.within h.last
