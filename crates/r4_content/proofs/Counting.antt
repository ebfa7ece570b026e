-- How many pairs of a content a test finds, and how that number changes with what stands at a key.
use Rattle.std.specs.Prelude.{◌≡◌, ◌≢◌, ℕ, ◌+◌, ◌<◌, ◌≤◌, [], ◌∷◌, Bool, true, false, not, ◌&&◌, ◌==◌, cond, filter, count_by, length, T, Option, Some, None, if◌then◌else◌}
use Rattle.std.proofs.Common.{Equal, Greater, arith, inl, inr, refl, sym, ap, subst, ◌∙◌}
use Rattle.std.proofs.lemmas.Bool.{cases_lt, eq-eqb, eqb-true, ne_eqb}
use Rattle.std.proofs.lemmas.Cmp.{nat_cmp_total}
use Rattle.std.proofs.lemmas.List.Sums.{length-filter, sum_by-cons}
use Rattle.std.specs.Cmp.{nat_cmp_is, unsigned_tied}
use Rattle.std.specs.FinMap.{entries, entries-from_sorted, entries_sorted, find, get-entries, insert, is_sorted, len, len-entries, len-insert, retain_keys, from_sorted}
use Rattle.std.specs.FinMap.Entries.{below_all}
use Rattle.std.specs.Option.{is_some}
use Rattle.std.specs.Ordering.{is_lt, nat_cmp}
use Rattle.r4_base.specs.Value.{Value, Byte, Content, at_key}
use Rattle.r4_content.specs.Edited.{Pairs}
use Rattle.r4_content.specs.Seen.{Rises}
use Rattle.r4_content.proofs.EditLaws.{at_insert, at_retain, same_content}
use Rattle.r4_content.proofs.EditParts.{true_not_false}
use Rattle.r4_content.proofs.SeenLaws.{at_content, content_of}

pub first_holds : (a b : Bool) → T (a && b) → T a
first_holds true b h = tt
first_holds false b h = h

pub second_holds : (a b : Bool) → T (a && b) → T b
second_holds true b h = h
second_holds false b h = absurd h

pub both_hold : (a b : Bool) → T a → T b → T (a && b)
both_hold true b h g = g
both_hold false b h g = h

pub below_lt : (x y : ℕ) → T (is_lt (nat_cmp x y)) → x < y
below_lt x y h = elim (cases_lt x y) [
  | inl lt ↦ lt
  | inr ge ↦ elim (cases_lt y x) [
    | inl gt ↦ absurd (subst (λ r. T (is_lt r)) (sym (nat_cmp_is x y Greater gt)) h)
    | inr le ↦ let same : x ≡ y = omega arith in absurd (subst (λ r. T (is_lt r)) (sym (nat_cmp_is x y Equal same)) h)
  ]
]

-- ---- lists that rise

below_filtered : (p : ℕ × Value → Bool) (x : ℕ) (es : Pairs) → T (below_all nat_cmp x es) → T (below_all nat_cmp x (filter p es))
below_filtered p x [] h = tt
below_filtered p x (e ∷ es) h = by_test (p e) (below_filtered p x es (second_holds (is_lt (nat_cmp x e.0)) (below_all nat_cmp x es) h))
  where
    by_test : (b : Bool) → T (below_all nat_cmp x (filter p es)) → T (below_all nat_cmp x (cond b (e ∷ filter p es) (filter p es)))
    by_test true rest = both_hold (is_lt (nat_cmp x e.0)) (below_all nat_cmp x (filter p es)) (first_holds (is_lt (nat_cmp x e.0)) (below_all nat_cmp x es) h) rest
    by_test false rest = rest

filter_rises : (p : ℕ × Value → Bool) (es : Pairs) → Rises es → Rises (filter p es)
filter_rises p [] h = tt
filter_rises p (e ∷ es) h =
    by_test (p e) (filter_rises p es (second_holds (below_all nat_cmp e.0 es) (is_sorted nat_cmp es) h))
  where
    by_test : (b : Bool) → Rises (filter p es) → Rises (cond b (e ∷ filter p es) (filter p es))
    by_test true rest = both_hold (below_all nat_cmp e.0 (filter p es)) (is_sorted nat_cmp (filter p es)) (below_filtered p e.0 es (first_holds (below_all nat_cmp e.0 es) (is_sorted nat_cmp es) h)) rest
    by_test false rest = rest

pub none_below : (k x : ℕ) (es : Pairs) → k ≤ x → T (below_all nat_cmp x es) → find nat_cmp k es ≡ None
none_below k x [] le h = refl
none_below k x (e ∷ es) le h =
    let lt = below_lt x e.0 (first_holds (is_lt (nat_cmp x e.0)) (below_all nat_cmp x es) h) in
    ap (λ (b : Bool). cond b (Some e.1) (find nat_cmp k es)) (unsigned_tied k e.0 ∙ ne_eqb k e.0 (λ same. omega arith)) ∙ none_below k x es le (second_holds (is_lt (nat_cmp x e.0)) (below_all nat_cmp x es) h)

-- what a test leaves of what stands at a key
abbrev pub pick : (ℕ × Value → Bool) → ℕ → Option Value → Option Value
pick p k None = None
pick p k (Some v) = if p (k, v) then Some v else None

find_filtered : (p : ℕ × Value → Bool) (es : Pairs) (k : ℕ) → Rises es → find nat_cmp k (filter p es) ≡ pick p k (find nat_cmp k es)
find_filtered p [] k h = refl
find_filtered p (e ∷ es) k h =
    by_key (k == e.0) (p e) refl refl (find_filtered p es k (second_holds (below_all nat_cmp e.0 es) (is_sorted nat_cmp es) h))
    ∙ ap (λ (b : Bool). pick p k (cond b (Some e.1) (find nat_cmp k es))) (sym (unsigned_tied k e.0))
  where
    by_key : (a b : Bool) → (k == e.0) ≡ a → p e ≡ b → find nat_cmp k (filter p es) ≡ pick p k (find nat_cmp k es)
        → find nat_cmp k (cond b (e ∷ filter p es) (filter p es)) ≡ pick p k (cond a (Some e.1) (find nat_cmp k es))
    by_key true true same passes rest =
        ap (λ (c : Bool). cond c (Some e.1) (find nat_cmp k (filter p es))) (unsigned_tied k e.0 ∙ same)
        ∙ sym (ap (λ (c : Bool). if c then Some e.1 else None) (ap (λ (x : ℕ). p (x, e.1)) (eqb-true k e.0 same) ∙ passes))
    by_key true false same fails rest =
        let is = eqb-true k e.0 same in
        none_below k e.0 (filter p es) (omega arith) (below_filtered p e.0 es (first_holds (below_all nat_cmp e.0 es) (is_sorted nat_cmp es) h))
        ∙ sym (ap (λ (c : Bool). if c then Some e.1 else None) (ap (λ (x : ℕ). p (x, e.1)) is ∙ fails))
    by_key false true other passes rest = ap (λ (c : Bool). cond c (Some e.1) (find nat_cmp k (filter p es))) (unsigned_tied k e.0 ∙ other) ∙ rest
    by_key false false other fails rest = rest

-- ---- contents

abbrev pub count : (ℕ × Value → Bool) → Content → ℕ
count p m = count_by p (entries m)

chosen : (ℕ × Value → Bool) → Content → Content
chosen p m = content_of (filter p (entries m))

at_chosen : (p : ℕ × Value → Bool) (m : Content) (k : ℕ) → at_key (chosen p m) k ≡ pick p k (at_key m k)
unfolding chosen
at_chosen p m k = at_content (filter p (entries m)) k (filter_rises p (entries m) (entries_sorted m)) ∙ find_filtered p (entries m) k (entries_sorted m) ∙ ap (pick p k) (sym (get-entries m k))

count_chosen : (p : ℕ × Value → Bool) (m : Content) → count p m ≡ len (chosen p m)
unfolding chosen content_of
count_chosen p m = sym (len-entries (from_sorted (filter p (entries m))) ∙ ap length (entries-from_sorted nat_cmp (filter p (entries m)) (filter_rises p (entries m) (entries_sorted m))) ∙ length-filter p (entries m))

-- whether it is counted, as a number
abbrev pub here : (ℕ × Value → Bool) → ℕ → Option Value → ℕ
here p k v = if is_some (pick p k v) then 1 else 0

pub same_count : (p q : ℕ × Value → Bool) (m n : Content) → ((k : ℕ) → pick p k (at_key m k) ≡ pick q k (at_key n k)) → count p m ≡ count q n
same_count p q m n h = count_chosen p m ∙ ap len (same_content (chosen p m) (chosen q n) (λ k. at_chosen p m k ∙ h k ∙ sym (at_chosen q n k))) ∙ sym (count_chosen q n)

not_some : (v : Value) → Some v ≡ None → ⊥
not_some v e = cc

pub not_same : (k i : ℕ) → (k == i) ≡ false → k ≢ i
not_same k i e same = true_not_false (sym (eq-eqb k i same) ∙ e)

pub here_small : (p : ℕ × Value → Bool) (k : ℕ) (v : Option Value) → here p k v ≤ 1
here_small p k v = by_test (is_some (pick p k v))
  where
    by_test : (b : Bool) → (if b then 1 else 0) ≤ 1
    by_test true = omega arith
    by_test false = omega arith

-- what is chosen, with something at two keys besides
with_both : (ℕ × Value → Bool) → Content → (i j : ℕ) → Content
with_both p m i j = insert (insert (chosen p m) i (Byte 0)) j (Byte 0)

at_both : (p : ℕ × Value → Bool) (m : Content) (i j k : ℕ) → at_key (with_both p m i j) k ≡ cond (k == j) (Some (Byte 0)) (cond (k == i) (Some (Byte 0)) (pick p k (at_key m k)))
unfolding with_both
at_both p m i j k =
    at_insert (insert (chosen p m) i (Byte 0)) j (Byte 0) k
    ∙ ap (cond (k == j) (Some (Byte 0))) (at_insert (chosen p m) i (Byte 0) k ∙ ap (cond (k == i) (Some (Byte 0))) (at_chosen p m k))

counted_with : (p : ℕ × Value → Bool) (m : Content) (i j : ℕ) → i ≢ j → len (with_both p m i j) + (here p i (at_key m i) + here p j (at_key m j)) ≡ count p m + 2
unfolding with_both
counted_with p m i j ne =
    let first = len-insert nat_cmp_total (chosen p m) i (Byte 0) ∙ ap (λ (v : Option Value). cond (is_some v) (len (chosen p m)) (len (chosen p m) + 1)) (at_chosen p m i) in
    let there = at_insert (chosen p m) i (Byte 0) j ∙ ap (λ (b : Bool). cond b (Some (Byte 0)) (at_key (chosen p m) j)) (ne_eqb j i (λ e. ne (sym e))) ∙ at_chosen p m j in
    let next = len-insert nat_cmp_total (insert (chosen p m) i (Byte 0)) j (Byte 0)
    ∙ ap (λ (v : Option Value). cond (is_some v) (len (insert (chosen p m) i (Byte 0))) (len (insert (chosen p m) i (Byte 0)) + 1)) there in
    let all = count_chosen p m in
    adds (is_some (pick p i (at_key m i))) (is_some (pick p j (at_key m j))) (len (chosen p m)) (len (insert (chosen p m) i (Byte 0))) (len (insert (insert (chosen p m) i (Byte 0)) j (Byte 0))) (count p m) first next all
  where
    adds : (a b : Bool) (n one two c : ℕ) → one ≡ cond a n (n + 1) → two ≡ cond b one (one + 1) → c ≡ n → two + ((if a then 1 else 0) + (if b then 1 else 0)) ≡ c + 2
    adds true true n one two c e f g = omega arith
    adds true false n one two c e f g = omega arith
    adds false true n one two c e f g = omega arith
    adds false false n one two c e f g = omega arith

-- where two keys alone have other values
pub two_counts : (p q : ℕ × Value → Bool) (m n : Content) (i j : ℕ) → i ≢ j → ((k : ℕ) → k ≢ i → k ≢ j → pick p k (at_key m k) ≡ pick q k (at_key n k))
    → count q n + (here p i (at_key m i) + here p j (at_key m j)) ≡ count p m + (here q i (at_key n i) + here q j (at_key n j))
two_counts p q m n i j ne h =
    let one = counted_with p m i j ne in
    let two = counted_with q n i j ne in
    let same = ap len (same_content (with_both p m i j) (with_both q n i j) agree) in
    let a = here_small p i (at_key m i) in
    let b = here_small p j (at_key m j) in
    let c = here_small q i (at_key n i) in
    let d = here_small q j (at_key n j) in
    omega arith
  where
    agree : (k : ℕ) → at_key (with_both p m i j) k ≡ at_key (with_both q n i j) k
    agree k = at_both p m i j k ∙ by_key (k == j) (k == i) refl refl ∙ sym (at_both q n i j k)
      where
        by_key : (a b : Bool) → (k == j) ≡ a → (k == i) ≡ b → cond a (Some (Byte 0)) (cond b (Some (Byte 0)) (pick p k (at_key m k))) ≡ cond a (Some (Byte 0)) (cond b (Some (Byte 0)) (pick q k (at_key n k)))
        by_key true b e f = refl
        by_key false true e f = refl
        by_key false false e f = h k (not_same k i f) (not_same k j e)

-- where one key alone has another value
pub one_count : (p q : ℕ × Value → Bool) (m n : Content) (i : ℕ) → ((k : ℕ) → k ≢ i → pick p k (at_key m k) ≡ pick q k (at_key n k))
    → count q n + here p i (at_key m i) ≡ count p m + here q i (at_key n i)
one_count p q m n i h =
    let next : i + 1 ≢ i = λ e. omega arith in
    let both = two_counts p q m n i (i + 1) (λ e. next (sym e)) (λ k a b. h k a) in
    let more : here p (i + 1) (at_key m (i + 1)) ≡ here q (i + 1) (at_key n (i + 1)) = ap (λ (v : Option Value). if is_some v then 1 else 0) (h (i + 1) next) in
    omega arith

-- ---- what is counted is there

pub record Counted (p : ℕ × Value → Bool) (m : Content) : Type 0 where
  pub key : ℕ
  pub value : Value
  pub there : at_key m key ≡ Some value
  pub passes : p (key, value) ≡ true

find_counted : (p : ℕ × Value → Bool) (es : Pairs) → Rises es → 1 ≤ count_by p es → (k : ℕ) × (v : Value) × (find nat_cmp k es ≡ Some v) × (p (k, v) ≡ true)
find_counted p [] h some = absurd (omega arith)
find_counted p (e ∷ es) h some = by_test (p e) refl (sum_by-cons (λ (y : ℕ × Value). cond (p y) 1 0) e es) (find_counted p es (second_holds (below_all nat_cmp e.0 es) (is_sorted nat_cmp es) h))
  where
    later_one : (k : ℕ) (v : Value) → find nat_cmp k es ≡ Some v → (b : Bool) → (k == e.0) ≡ b → cond b (Some e.1) (find nat_cmp k es) ≡ Some v
    later_one k v at false is = at
    later_one k v at true is =
        let le : k ≤ e.0 = let same = eqb-true k e.0 is in omega arith in
        absurd (not_some v (sym at ∙ none_below k e.0 es le (first_holds (below_all nat_cmp e.0 es) (is_sorted nat_cmp es) h)))

    by_test : (b : Bool) → p e ≡ b → count_by p (e ∷ es) ≡ cond (p e) 1 0 + count_by p es → (1 ≤ count_by p es → (k : ℕ) × (v : Value) × (find nat_cmp k es ≡ Some v) × (p (k, v) ≡ true))
        → (k : ℕ) × (v : Value) × (find nat_cmp k (e ∷ es) ≡ Some v) × (p (k, v) ≡ true)
    by_test true passes all rest = (e.0, e.1, ap (λ (b : Bool). cond b (Some e.1) (find nat_cmp e.0 es)) (unsigned_tied e.0 e.0 ∙ eq-eqb e.0 e.0 refl), passes)
    by_test false fails all rest =
        let same : count_by p (e ∷ es) ≡ 0 + count_by p es = all ∙ ap (λ (b : Bool). cond b 1 0 + count_by p es) fails in
        let (k, v, at, passes) = rest (omega arith) in
        (k, v, ap (λ (b : Bool). cond b (Some e.1) (find nat_cmp k es)) (unsigned_tied k e.0) ∙ later_one k v at (k == e.0) refl, passes)

pub some_counted : (p : ℕ × Value → Bool) (m : Content) → 1 ≤ count p m → Counted p m
some_counted p m some =
    let (k, v, at, passes) = find_counted p (entries m) (entries_sorted m) some in
    record { key = k; value = v; there = get-entries m k ∙ at; passes = passes }

-- the content without what stands at a key
abbrev pub cut_at : Content → ℕ → Content
cut_at m k = retain_keys m (λ q. not (q == k))

pub at_cut_key : (m : Content) (k q : ℕ) → at_key (cut_at m k) q ≡ cond (q == k) None (at_key m q)
at_cut_key m k q = at_retain m (λ q. not (q == k)) q ∙ turned (q == k)
  where
    turned : (b : Bool) → cond (not b) (at_key m q) None ≡ cond b None (at_key m q)
    turned true = refl
    turned false = refl

cut_there : (m : Content) (k : ℕ) → at_key (cut_at m k) k ≡ None
cut_there m k = at_cut_key m k k ∙ ap (λ (b : Bool). cond b None (at_key m k)) (eq-eqb k k refl)

cut_elsewhere : (m : Content) (k q : ℕ) → q ≢ k → at_key (cut_at m k) q ≡ at_key m q
cut_elsewhere m k q ne = at_cut_key m k q ∙ ap (λ (b : Bool). cond b None (at_key m q)) (ne_eqb q k ne)

pub here_yes : (p : ℕ × Value → Bool) (k : ℕ) (v : Value) (w : Option Value) → w ≡ Some v → p (k, v) ≡ true → here p k w ≡ 1
here_yes p k v w e h = ap (λ (x : Option Value). here p k x) e ∙ ap (λ (b : Bool). if is_some (if b then Some v else None) then 1 else 0) h

pub here_no : (p : ℕ × Value → Bool) (k : ℕ) (v : Value) (w : Option Value) → w ≡ Some v → p (k, v) ≡ false → here p k w ≡ 0
here_no p k v w e h = ap (λ (x : Option Value). here p k x) e ∙ ap (λ (b : Bool). if is_some (if b then Some v else None) then 1 else 0) h

pub here_none : (p : ℕ × Value → Bool) (k : ℕ) (w : Option Value) → w ≡ None → here p k w ≡ 0
here_none p k w e = ap (λ (x : Option Value). here p k x) e

pub one_there : (p : ℕ × Value → Bool) (m : Content) (k : ℕ) (v : Value) → at_key m k ≡ Some v → p (k, v) ≡ true → 1 ≤ count p m
one_there p m k v at passes =
    let all = one_count p p (cut_at m k) m k (λ q ne. ap (pick p q) (cut_elsewhere m k q ne)) in
    let a = here_none p k (at_key (cut_at m k) k) (cut_there m k) in
    let b = here_yes p k v (at_key m k) at passes in
    omega arith

pub none_there : (p : ℕ × Value → Bool) (m : Content) → ((k : ℕ) (v : Value) → at_key m k ≡ Some v → p (k, v) ≡ false) → count p m ≡ 0
none_there p m h = elim (cases_lt 0 (count p m)) [
  | inl some ↦ let c = some_counted p m some in absurd (true_not_false (sym c.passes ∙ h c.key c.value c.there))
  | inr none ↦ omega arith
]

-- what is found once is at one key
pub once : (p : ℕ × Value → Bool) (m : Content) (i j : ℕ) (v w : Value) → count p m ≤ 1 → at_key m i ≡ Some v → p (i, v) ≡ true → at_key m j ≡ Some w → p (j, w) ≡ true → i ≡ j
once p m i j v w few a x b y = by_key (i == j) refl
  where
    by_key : (c : Bool) → (i == j) ≡ c → i ≡ j
    by_key true e = eqb-true i j e
    by_key false e =
        let all = one_count p p (cut_at m i) m i (λ q ne. ap (pick p q) (cut_elsewhere m i q ne)) in
        let c = here_none p i (at_key (cut_at m i) i) (cut_there m i) in
        let d = here_yes p i v (at_key m i) a x in
        let other = one_there p (cut_at m i) j w (cut_elsewhere m i j (λ same. not_same i j e (sym same)) ∙ b) y in
        absurd (omega arith)

-- at least what is counted at two keys
pub at_least : (p : ℕ × Value → Bool) (m : Content) (i j : ℕ) → i ≢ j → here p i (at_key m i) + here p j (at_key m j) ≤ count p m
at_least p m i j ne =
    let n = cut_at (cut_at m i) j in
    let all = two_counts p p n m i j ne (λ q a b. ap (pick p q) (cut_elsewhere (cut_at m i) j q b ∙ cut_elsewhere m i q a)) in
    let first = here_none p i (at_key n i) (cut_elsewhere (cut_at m i) j i ne ∙ cut_there m i) in
    let second = here_none p j (at_key n j) (cut_there (cut_at m i) j) in
    omega arith
