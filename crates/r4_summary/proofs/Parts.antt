-- Parts that are kept: one for each key, rising.
use Rattle.std.specs.Prelude.{◌≡◌, ℕ, zero, suc, ◌+◌, ◌<◌, List, [], ◌∷◌, ◌++◌, All, Bool, true, false, cond, not, length, slice_index_or, take, drop, T}
use Rattle.std.proofs.Common.{arith, refl, sym, ap, subst, ◌∙◌}
use Rattle.std.proofs.Common.{add-one, drop-cons, get_or}
use Rattle.std.proofs.lemmas.Option.{get_or_from_slice_get}
use Rattle.std.specs.Prelude.{Some, slice_get, slice_set}
use Rattle.std.proofs.lemmas.List.{drop-set, take-append-drop, take-set}
use Rattle.std.proofs.lemmas.List.Concat.{flat_map-append, flat_map-cons}
use Rattle.std.proofs.lemmas.List.Elements.{All-cons, All-drop, All-filter, All-head, All-tail, All-take}
use Rattle.std.specs.Cmp.{nat_cmp_is}
use Rattle.std.specs.FinMap.{is_sorted, put}
use Rattle.std.specs.FinMap.Entries.{below_all, by_order}
use Rattle.std.specs.List.{filter}
use Rattle.std.specs.List.Sorted.{IsNonDecreasingBy}
use Rattle.std.specs.Ordering.{is_lt, nat_cmp}
use Rattle.std.specs.declared.cmp.Ordering.TheVariants.{Less, Equal, Greater}
use Rattle.r4_base.specs.Key.{rank}
use Rattle.r4_base.specs.Value.{Value, Byte, value_of}
use Rattle.r4_base.specs.declared.key.Key.{Key}
use Rattle.r4_base.specs.declared.values.Value.{Value as HeldValue}
use Rattle.r4_content.proofs.Counting.{below_lt, first_holds, second_holds}
use Rattle.r4_content.specs.Edited.{is_between}
use Rattle.r4_content.specs.Held.{part_pairs}
use Rattle.r4_content.specs.Seen.{Rises}
use Rattle.r4_content.specs.declared.seen.SeenPart.{SeenPart}
use Rattle.r4_content.specs.declared.seen.SeenPart.TheVariants.{One, Run}
use Rattle.r4_summary.proofs.Blind.{filter_rises}
use Rattle.r4_summary.proofs.KeptEdits.{off, put_rises}
use Rattle.r4_summary.specs.Kept.{AreKept, IsOne, key_in, pairs_in}

-- what stands at the key of a part
held : SeenPart → Value
held (One k v) = value_of v
held (Run r) = Byte 0

-- the pairs of a part and those behind it
more : (p : SeenPart) (ps : List SeenPart) → IsOne p → pairs_in (p ∷ ps) ≡ (key_in p, held p) ∷ pairs_in ps
unfolding held
more (One k v) ps h = flat_map-cons part_pairs (One k v) ps
more (Run r) ps h = absurd h

-- ---- an interval goes

abbrev pub outside : (from to : ℕ) → SeenPart → Bool
outside from to p = not (is_between from to (key_in p))

pub cut_pairs : (from to : ℕ) (ps : List SeenPart) → All IsOne ps → pairs_in (filter (outside from to) ps) ≡ filter (off from to) (pairs_in ps)
cut_pairs from to [] h = refl
cut_pairs from to (p ∷ ps) h =
    by_test (not (is_between from to (key_in p))) (cut_pairs from to ps (All-tail IsOne p ps h)) ∙ sym (ap (filter (off from to)) (more p ps (All-head IsOne p ps h)))
  where
    by_test : (b : Bool) → pairs_in (filter (outside from to) ps) ≡ filter (off from to) (pairs_in ps)
        → pairs_in (cond b (p ∷ filter (outside from to) ps) (filter (outside from to) ps)) ≡ cond b ((key_in p, held p) ∷ filter (off from to) (pairs_in ps)) (filter (off from to) (pairs_in ps))
    by_test true rest = more p (filter (outside from to) ps) (All-head IsOne p ps h) ∙ ap (λ s. (key_in p, held p) ∷ s) rest
    by_test false rest = rest

pub cut_kept : (from to : ℕ) (ps : List SeenPart) → AreKept ps → AreKept (filter (outside from to) ps)
cut_kept from to ps h = record {
  ones = All-filter (outside from to) IsOne ps h.ones;
  rises = subst Rises (sym (cut_pairs from to ps h.ones)) (filter_rises (off from to) (pairs_in ps) h.rises);
}

-- ---- the order of the parts

below_each : (x : ℕ) (ps : List SeenPart) → All IsOne ps → T (below_all nat_cmp x (pairs_in ps)) → (j : ℕ) (d : SeenPart) → j < length ps → x < key_in (slice_index_or ps j d)
below_each x [] ones h j d lt = absurd (omega (arith, lt))
below_each x (p ∷ ps) ones h zero d lt =
    let below = subst (λ s. T (below_all nat_cmp x s)) (more p ps (All-head IsOne p ps ones)) h in
    below_lt x (key_in p) (first_holds (is_lt (nat_cmp x (key_in p))) (below_all nat_cmp x (pairs_in ps)) below)
below_each x (p ∷ ps) ones h (suc j) d lt =
    let below = subst (λ s. T (below_all nat_cmp x s)) (more p ps (All-head IsOne p ps ones)) h in
    below_each x ps (All-tail IsOne p ps ones) (second_holds (is_lt (nat_cmp x (key_in p))) (below_all nat_cmp x (pairs_in ps)) below) j d (omega (arith, lt))

in_order_from : (ps : List SeenPart) → All IsOne ps → Rises (pairs_in ps) → IsNonDecreasingBy key_in ps
in_order_from [] ones r i j d le lt = absurd (omega (arith, lt))
in_order_from (p ∷ ps) ones r zero zero d le lt = omega arith
in_order_from (p ∷ ps) ones r zero (suc j) d le lt =
    let rises = subst Rises (more p ps (All-head IsOne p ps ones)) r in
    let less = below_each (key_in p) ps (All-tail IsOne p ps ones) (first_holds (below_all nat_cmp (key_in p) (pairs_in ps)) (is_sorted nat_cmp (pairs_in ps)) rises) j d (omega (arith, lt)) in
    omega (arith, less)
in_order_from (p ∷ ps) ones r (suc i) zero d le lt = absurd (omega (arith, le))
in_order_from (p ∷ ps) ones r (suc i) (suc j) d le lt =
    let rises = subst Rises (more p ps (All-head IsOne p ps ones)) r in
    in_order_from ps (All-tail IsOne p ps ones) (second_holds (below_all nat_cmp (key_in p) (pairs_in ps)) (is_sorted nat_cmp (pairs_in ps)) rises) i j d (omega (arith, le)) (omega (arith, lt))

pub in_order : (ps : List SeenPart) → AreKept ps → IsNonDecreasingBy key_in ps
in_order ps h = in_order_from ps h.ones h.rises

-- ---- a value is set

-- behind the parts whose keys are below
put_behind : (k : ℕ) (v : Value) (xs ys : List SeenPart) → All IsOne xs → All (λ p. key_in p < k) xs → put nat_cmp k v (pairs_in (xs ++ ys)) ≡ pairs_in xs ++ put nat_cmp k v (pairs_in ys)
put_behind k v [] ys ones below = refl
put_behind k v (p ∷ xs) ys ones below =
    let one = All-head IsOne p xs ones in
    let lt : key_in p < k = All-head (λ p. key_in p < k) p xs below in
    ap (put nat_cmp k v) (more p (xs ++ ys) one)
    ∙ ap (λ o. by_order o ((k, v) ∷ (key_in p, held p) ∷ pairs_in (xs ++ ys)) ((key_in p, v) ∷ pairs_in (xs ++ ys)) ((key_in p, held p) ∷ put nat_cmp k v (pairs_in (xs ++ ys)))) (sym (nat_cmp_is k (key_in p) Greater lt))
    ∙ ap (λ s. (key_in p, held p) ∷ s) (put_behind k v xs ys (All-tail IsOne p xs ones) (All-tail (λ p. key_in p < k) p xs below))
    ∙ sym (ap (λ s. s ++ put nat_cmp k v (pairs_in ys)) (more p xs one))

-- before the others
pub put_first : (k : Key) (v : HeldValue) (ys : List SeenPart) → All IsOne ys → All (λ p. rank k < key_in p) ys → put nat_cmp (rank k) (value_of v) (pairs_in ys) ≡ pairs_in (One k v ∷ ys)
put_first k v [] ones above = sym (flat_map-cons part_pairs (One k v) [])
put_first k v (p ∷ ys) ones above =
    let one = All-head IsOne p ys ones in
    let lt : rank k < key_in p = All-head (λ p. rank k < key_in p) p ys above in
    ap (put nat_cmp (rank k) (value_of v)) (more p ys one)
    ∙ ap (λ o. by_order o ((rank k, value_of v) ∷ (key_in p, held p) ∷ pairs_in ys) ((key_in p, value_of v) ∷ pairs_in ys) ((key_in p, held p) ∷ put nat_cmp (rank k) (value_of v) (pairs_in ys))) (sym (nat_cmp_is (rank k) (key_in p) Less lt))
    ∙ ap (λ s. (rank k, value_of v) ∷ s) (sym (more p ys one))
    ∙ sym (flat_map-cons part_pairs (One k v) (p ∷ ys))

-- in the place of one with the same key
pub put_same : (k : Key) (v : HeldValue) (p : SeenPart) (ys : List SeenPart) → IsOne p → key_in p ≡ rank k → put nat_cmp (rank k) (value_of v) (pairs_in (p ∷ ys)) ≡ pairs_in (One k v ∷ ys)
put_same k v p ys one same =
    ap (put nat_cmp (rank k) (value_of v)) (more p ys one)
    ∙ ap (λ o. by_order o ((rank k, value_of v) ∷ (key_in p, held p) ∷ pairs_in ys) ((key_in p, value_of v) ∷ pairs_in ys) ((key_in p, held p) ∷ put nat_cmp (rank k) (value_of v) (pairs_in ys))) (sym (nat_cmp_is (rank k) (key_in p) Equal (sym same)))
    ∙ ap (λ q. (q, value_of v) ∷ pairs_in ys) same
    ∙ sym (flat_map-cons part_pairs (One k v) ys)

All-join : (P : SeenPart → Type 0) (xs ys : List SeenPart) → All P xs → All P ys → All P (xs ++ ys)
All-join P [] ys a b = b
All-join P (x ∷ xs) ys a b = All-cons P x (xs ++ ys) (All-head P x xs a) (All-join P xs ys (All-tail P x xs a) b)

-- the parts after a value is set
pub set_kept : (k : Key) (v : HeldValue) (xs ys zs : List SeenPart) → AreKept (xs ++ ys) → All IsOne xs → All IsOne zs → All (λ p. key_in p < rank k) xs
    → put nat_cmp (rank k) (value_of v) (pairs_in ys) ≡ pairs_in (One k v ∷ zs)
    → AreKept (xs ++ One k v ∷ zs) × (pairs_in (xs ++ One k v ∷ zs) ≡ put nat_cmp (rank k) (value_of v) (pairs_in (xs ++ ys)))
set_kept k v xs ys zs h ones others below e =
    let is = flat_map-append part_pairs xs (One k v ∷ zs) ∙ ap (λ s. pairs_in xs ++ s) (sym e) ∙ sym (put_behind (rank k) (value_of v) xs ys ones below) in (
      record { ones = All-join IsOne xs (One k v ∷ zs) ones (All-cons IsOne (One k v) zs tt others); rises = subst Rises (sym is) (put_rises (rank k) (value_of v) (pairs_in (xs ++ ys)) h.rises) },
      is,
    )

-- at the place of one with the same key
pub set_at : (k : Key) (v : HeldValue) (ps : List SeenPart) (at : ℕ) → AreKept ps → at < length ps → All (λ p. key_in p < rank k) (take at ps)
    → (p : SeenPart) → slice_get ps at ≡ Some p → key_in p ≡ rank k
    → AreKept (slice_set ps at (One k v)) × (pairs_in (slice_set ps at (One k v)) ≡ put nat_cmp (rank k) (value_of v) (pairs_in ps))
set_at k v ps at h lt below p is same =
    let front = take at ps in
    let back = drop (at + 1) ps in
    let here : get_or ps at p ≡ p = get_or_from_slice_get ps at p p is in
    let rest : drop at ps ≡ p ∷ back = rw add-one (drop-cons ps at p lt ∙ ap (λ q. q ∷ drop (suc at) ps) here) in
    let whole : ps ≡ front ++ p ∷ back = sym (take-append-drop at ps) ∙ ap (λ s. front ++ s) rest in
    let made : slice_set ps at (One k v) ≡ front ++ One k v ∷ back =
    sym (take-append-drop at (slice_set ps at (One k v))) ∙ ap (λ s. s ++ drop at (slice_set ps at (One k v))) (take-set ps at (One k v))
    ∙ ap (λ s. front ++ s) (drop-set ps at (One k v) lt) in
    let one : All IsOne (p ∷ back) = subst (All IsOne) rest (All-drop IsOne at ps h.ones) in
    let done = set_kept k v front (p ∷ back) back (subst AreKept whole h) (All-take IsOne at ps h.ones) (All-tail IsOne p back one) below
    (put_same k v p back (All-head IsOne p back one) same) in
    (subst AreKept (sym made) done.0, ap pairs_in made ∙ done.1 ∙ ap (λ s. put nat_cmp (rank k) (value_of v) (pairs_in s)) (sym whole))

-- at a place where no part has the key
pub insert_at : (k : Key) (v : HeldValue) (ps : List SeenPart) (at : ℕ) → AreKept ps → All (λ p. key_in p < rank k) (take at ps) → All (λ p. rank k < key_in p) (drop at ps)
    → AreKept (take at ps ++ One k v ∷ drop at ps) × (pairs_in (take at ps ++ One k v ∷ drop at ps) ≡ put nat_cmp (rank k) (value_of v) (pairs_in ps))
insert_at k v ps at h below above =
    let whole = take-append-drop at ps in
    let others = All-drop IsOne at ps h.ones in
    let done = set_kept k v (take at ps) (drop at ps) (drop at ps) (subst AreKept (sym whole) h) (All-take IsOne at ps h.ones) others below
    (put_first k v (drop at ps) others above) in
    (done.0, done.1 ∙ ap (λ s. put nat_cmp (rank k) (value_of v) (pairs_in s)) whole)
