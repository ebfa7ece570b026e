-- Parts that rise by key: what stands at a key is in one half of them.
use Rattle.std.proofs.Common.{◌≡◌, ◌≢◌, ◌<◌, ◌≤◌, ◌+◌, ◌-◌, ℕ, suc, Bool, true, false, cond, List, [], ◌∷◌, ◌++◌, length, take, drop, get_or, refl, sym, ◌∙◌, ap, subst, arith, add-one, drop-cons}
use Rattle.std.specs.Prelude.{◌==◌, nat_lt, Option, Some, None, T, IfSome, IfNone}
use Rattle.std.specs.List.{flat_map}
use Rattle.std.specs.FinMap.{find, is_sorted}
use Rattle.std.specs.FinMap.Entries.{below_all}
use Rattle.std.specs.Ordering.{is_lt, nat_cmp}
use Rattle.std.specs.Cmp.{unsigned_tied}
use Rattle.std.proofs.lemmas.Bool.{eq-eqb, eqb-true, ltb-false, ltb-true, ne_eqb}
use Rattle.std.proofs.lemmas.Option.{same_Some}
use Rattle.std.proofs.lemmas.List.{take-append-drop, take_rest}
use Rattle.std.proofs.lemmas.List.Concat.{flat_map-append, flat_map-cons}
use Rattle.r4_base.specs.Key.{rank}
use Rattle.r4_base.specs.Value.{Value, Byte, value_of}
use Rattle.r4_content.specs.Edited.{Pairs}
use Rattle.r4_content.specs.Held.{part_pairs, run_pairs}
use Rattle.r4_content.specs.Seen.{Rises}
use Rattle.r4_content.specs.Objects.{byte_pairs}
use Rattle.r4_content.specs.declared.seen.SeenPart.{SeenPart}
use Rattle.r4_content.specs.declared.seen.SeenPart.TheVariants.{One, Run}
use Rattle.r4_content.proofs.Counting.{below_lt, both_hold, first_holds, none_below, second_holds}
use Rattle.r4_base.specs.declared.values.Value.{Value as HeldValue}
use Rattle.r4_content.proofs.EditParts.{true_not_false}
use Rattle.r4_dir.specs.Finding.{first_in, one_at}

-- ---- pairs

below_at : (x : ℕ) (xs : Pairs) (q : ℕ) (v : Value) (ys : Pairs) → T (below_all nat_cmp x (xs ++ (q, v) ∷ ys)) → x < q
below_at x [] q v ys h = below_lt x q (first_holds (is_lt (nat_cmp x q)) (below_all nat_cmp x ys) h)
below_at x (e ∷ xs) q v ys h = below_at x xs q v ys (second_holds (is_lt (nat_cmp x e.0)) (below_all nat_cmp x (xs ++ (q, v) ∷ ys)) h)

-- pairs before one at a key that is not behind k have nothing at k
none_before : (xs : Pairs) (q : ℕ) (v : Value) (ys : Pairs) (k : ℕ) → Rises (xs ++ (q, v) ∷ ys) → q ≤ k → find nat_cmp k xs ≡ None
none_before [] q v ys k r le = refl
none_before (e ∷ xs) q v ys k r le =
    let lt = below_at e.0 xs q v ys (first_holds (below_all nat_cmp e.0 (xs ++ (q, v) ∷ ys)) (is_sorted nat_cmp (xs ++ (q, v) ∷ ys)) r) in
    ap (λ (b : Bool). cond b (Some e.1) (find nat_cmp k xs)) (unsigned_tied k e.0 ∙ ne_eqb k e.0 (λ same. omega (arith, same, lt, le)))
    ∙ none_before xs q v ys k (second_holds (below_all nat_cmp e.0 (xs ++ (q, v) ∷ ys)) (is_sorted nat_cmp (xs ++ (q, v) ∷ ys)) r) le

none_of_cond : (b : Bool) (v : Value) (o : Option Value) → cond b (Some v) o ≡ None → o ≡ None
none_of_cond true v o e = absurd cc
none_of_cond false v o e = e

none_behind : (xs ys : Pairs) (k : ℕ) → find nat_cmp k (xs ++ ys) ≡ None → find nat_cmp k ys ≡ None
none_behind [] ys k e = e
none_behind (x ∷ xs) ys k e = none_behind xs ys k (none_of_cond _ x.1 (find nat_cmp k (xs ++ ys)) e)

rest_rises : (xs ys : Pairs) → Rises (xs ++ ys) → Rises ys
rest_rises [] ys r = r
rest_rises (e ∷ xs) ys r = rest_rises xs ys (second_holds (below_all nat_cmp e.0 (xs ++ ys)) (is_sorted nat_cmp (xs ++ ys)) r)

below_first : (x : ℕ) (xs ys : Pairs) → T (below_all nat_cmp x (xs ++ ys)) → T (below_all nat_cmp x xs)
below_first x [] ys h = tt
below_first x (e ∷ xs) ys h = both_hold (is_lt (nat_cmp x e.0)) (below_all nat_cmp x xs) (first_holds (is_lt (nat_cmp x e.0)) (below_all nat_cmp x (xs ++ ys)) h)
    (below_first x xs ys (second_holds (is_lt (nat_cmp x e.0)) (below_all nat_cmp x (xs ++ ys)) h))

first_rises : (xs ys : Pairs) → Rises (xs ++ ys) → Rises xs
first_rises [] ys r = tt
first_rises (e ∷ xs) ys r = both_hold (below_all nat_cmp e.0 xs) (is_sorted nat_cmp xs) (below_first e.0 xs ys (first_holds (below_all nat_cmp e.0 (xs ++ ys)) (is_sorted nat_cmp (xs ++ ys)) r))
    (first_rises xs ys (second_holds (below_all nat_cmp e.0 (xs ++ ys)) (is_sorted nat_cmp (xs ++ ys)) r))

-- ---- parts

one_pair : (k j : ℕ) (u : Value) (es : Pairs) → find nat_cmp k ((j, u) ∷ es) ≡ cond (k == j) (Some u) (find nat_cmp k es)
one_pair k j u es = ap (λ (b : Bool). cond b (Some u) (find nat_cmp k es)) (unsigned_tied k j)

none_of : (parts : List SeenPart) (k : ℕ) → find nat_cmp k (flat_map part_pairs parts) ≡ None → one_at parts k ≡ None
none_of [] k e = refl
none_of (One key u ∷ parts) k e =
    let at = sym (one_pair k (rank key) (value_of u) (flat_map part_pairs parts)) ∙ ap (find nat_cmp k) (sym (flat_map-cons part_pairs (One key u) parts)) ∙ e in
    by_test (rank key == k) refl at (none_of parts k (none_of_cond (k == rank key) (value_of u) (find nat_cmp k (flat_map part_pairs parts)) at))
  where
    by_test : (b : Bool) → (rank key == k) ≡ b → cond (k == rank key) (Some (value_of u)) (find nat_cmp k (flat_map part_pairs parts)) ≡ None → one_at parts k ≡ None
        → cond b (Some (value_of u)) (one_at parts k) ≡ None
    by_test true is at rest = absurd (not_none (sym at ∙ ap (λ (b : Bool). cond b (Some (value_of u)) (find nat_cmp k (flat_map part_pairs parts))) (eq-eqb k (rank key) (sym (eqb-true (rank key) k is)))))
      where
        not_none : None ≡ Some (value_of u) → ⊥
        not_none f = cc
    by_test false is at rest = rest
none_of (Run r ∷ parts) k e = none_of parts k (none_behind (run_pairs r) (flat_map part_pairs parts) k (ap (find nat_cmp k) (sym (flat_map-cons part_pairs (Run r) parts)) ∙ e))

one_second : (xs ys : List SeenPart) (k : ℕ) → one_at xs k ≡ None → one_at (xs ++ ys) k ≡ one_at ys k
one_second [] ys k e = refl
one_second (One key u ∷ xs) ys k e = by_test (rank key == k) e (one_second xs ys k)
  where
    by_test : (b : Bool) → cond b (Some (value_of u)) (one_at xs k) ≡ None → (one_at xs k ≡ None → one_at (xs ++ ys) k ≡ one_at ys k) → cond b (Some (value_of u)) (one_at (xs ++ ys) k) ≡ one_at ys k
    by_test true f go = absurd cc
    by_test false f go = go f
one_second (Run r ∷ xs) ys k e = one_second xs ys k e

one_first : (xs ys : List SeenPart) (k : ℕ) → one_at ys k ≡ None → one_at (xs ++ ys) k ≡ one_at xs k
one_first [] ys k e = e
one_first (One key u ∷ xs) ys k e = ap (λ (o : Option Value). cond (rank key == k) (Some (value_of u)) o) (one_first xs ys k e)
one_first (Run r ∷ xs) ys k e = one_first xs ys k e

first_pair : (p : SeenPart) (q : ℕ) → first_in p ≡ Some q → (v : Value) × (ys : Pairs) × (part_pairs p ≡ (q, v) ∷ ys)
first_pair (One key u) q e = (value_of u, [], ap (λ (x : ℕ). (x, value_of u) ∷ []) (same_Some (rank key) q e))
first_pair (Run r) q e = by_bytes r.bytes e
  where
    by_bytes : (xs : List ℕ) → cond (length xs == 0) None (Some (rank r.from)) ≡ Some q → (v : Value) × (ys : Pairs) × (byte_pairs (rank r.from) xs ≡ (q, v) ∷ ys)
    by_bytes [] f = absurd cc
    by_bytes (x ∷ xs) f =
        let some = ap (λ (b : Bool). cond b None (Some (rank r.from))) (sym (ne_eqb (suc (length xs)) 0 (λ e. omega (arith, e)))) ∙ f in
        (Byte x, byte_pairs (rank r.from + 1) xs, ap (λ (y : ℕ). (y, Byte x) ∷ byte_pairs (rank r.from + 1) xs) (same_Some (rank r.from) q some))

-- ---- halves

module _ (xs ys : List SeenPart) (p : SeenPart) (q k : ℕ) (first : first_in p ≡ Some q) (rises : Rises (flat_map part_pairs (xs ++ p ∷ ys))) where
  split : flat_map part_pairs (xs ++ p ∷ ys) ≡ flat_map part_pairs xs ++ (part_pairs p ++ flat_map part_pairs ys)
  split = flat_map-append part_pairs xs (p ∷ ys) ∙ ap (λ (es : Pairs). flat_map part_pairs xs ++ es) (flat_map-cons part_pairs p ys)

  whole : (v : Value) (es : Pairs) → part_pairs p ≡ (q, v) ∷ es → Rises (flat_map part_pairs xs ++ (q, v) ∷ (es ++ flat_map part_pairs ys))
  whole v es is = subst Rises (split ∙ ap (λ (s : Pairs). flat_map part_pairs xs ++ (s ++ flat_map part_pairs ys)) is) rises

  nothing_left : q ≤ k → one_at xs k ≡ None
  nothing_left le = let (v, es, is) = first_pair p q first in none_of xs k (none_before (flat_map part_pairs xs) q v (es ++ flat_map part_pairs ys) k (whole v es is) le)

  nothing_right : k ≤ q → one_at ys k ≡ None
  nothing_right le =
      let (v, es, is) = first_pair p q first in
      let r = rest_rises (flat_map part_pairs xs) ((q, v) ∷ (es ++ flat_map part_pairs ys)) (whole v es is) in
      none_of ys k (none_behind es (flat_map part_pairs ys) k (none_below k q (es ++ flat_map part_pairs ys) le (first_holds (below_all nat_cmp q (es ++ flat_map part_pairs ys)) (is_sorted nat_cmp (es ++ flat_map part_pairs ys)) r)))

  not_here : q ≢ k → one_at (p ∷ []) k ≡ None
  not_here ne = by_part p first
    where
      by_part : (r : SeenPart) → first_in r ≡ Some q → one_at (r ∷ []) k ≡ None
      by_part (One key u) e = ap (λ (b : Bool). cond b (Some (value_of u)) None) (ne_eqb (rank key) k (λ same. ne (sym (same_Some (rank key) q e) ∙ same)))
      by_part (Run r) e = refl

  pub at_left : k < q → one_at (xs ++ p ∷ ys) k ≡ one_at xs k
  at_left lt = one_first xs (p ∷ ys) k (one_second (p ∷ []) ys k (not_here (λ e. omega (arith, e, lt))) ∙ nothing_right (omega (arith, lt)))

  pub at_right : q < k → one_at (xs ++ p ∷ ys) k ≡ one_at ys k
  at_right lt = one_second xs (p ∷ ys) k (nothing_left (omega (arith, lt))) ∙ one_second (p ∷ []) ys k (not_here (λ e. omega (arith, e, lt)))

  pub at_middle : q ≡ k → one_at (xs ++ p ∷ ys) k ≡ one_at (p ∷ []) k
  at_middle e = one_second xs (p ∷ ys) k (nothing_left (omega (arith, e))) ∙ one_first (p ∷ []) ys k (nothing_right (omega (arith, e)))

  pub left_rises : Rises (flat_map part_pairs xs)
  left_rises = first_rises (flat_map part_pairs xs) (part_pairs p ++ flat_map part_pairs ys) (subst Rises split rises)

  pub right_rises : Rises (flat_map part_pairs ys)
  right_rises = rest_rises (part_pairs p) (flat_map part_pairs ys) (rest_rises (flat_map part_pairs xs) (part_pairs p ++ flat_map part_pairs ys) (subst Rises split rises))

-- a list around one of its parts
around : (parts : List SeenPart) (i : ℕ) (p : SeenPart) → i < length parts → p ≡ get_or parts i p → parts ≡ take i parts ++ p ∷ drop (i + 1) parts
around parts i p lt is =
    sym (take-append-drop i parts) ∙ ap (λ (ps : List SeenPart). take i parts ++ ps) (rw add-one (drop-cons parts i p lt ∙ ap (λ (r : SeenPart). r ∷ drop (suc i) parts) (sym is)))

module _ (parts : List SeenPart) (i : ℕ) (p : SeenPart) (q k : ℕ) (lt : i < length parts) (is : p ≡ get_or parts i p) (first : Some q ≡ first_in p) (rises : Rises (flat_map part_pairs parts)) where
  split_rises : Rises (flat_map part_pairs (take i parts ++ p ∷ drop (i + 1) parts))
  split_rises = subst (λ (ps : List SeenPart). Rises (flat_map part_pairs ps)) (around parts i p lt is) rises

  pub left_at : true ≡ nat_lt k q → one_at parts k ≡ one_at (take i parts) k
  left_at e = ap (λ (ps : List SeenPart). one_at ps k) (around parts i p lt is) ∙ at_left (take i parts) (drop (i + 1) parts) p q k (sym first) split_rises (ltb-true k q (sym e))

  pub right_at : false ≡ nat_lt k q → false ≡ (q == k) → one_at parts k ≡ one_at (take (length parts - (i + 1)) (drop (i + 1) parts)) k
  right_at e f =
      let le = ltb-false k q (sym e) in
      let ne : q ≡ k → ⊥ = λ same. true_not_false (sym (eq-eqb q k same) ∙ sym f) in
      ap (λ (ps : List SeenPart). one_at ps k) (around parts i p lt is) ∙ at_right (take i parts) (drop (i + 1) parts) p q k (sym first) split_rises (omega (arith, le, ne))
      ∙ ap (λ (ps : List SeenPart). one_at ps k) (sym (take_rest parts (i + 1)))

  pub middle_at : true ≡ (q == k) → one_at parts k ≡ one_at (p ∷ []) k
  middle_at e = ap (λ (ps : List SeenPart). one_at ps k) (around parts i p lt is) ∙ at_middle (take i parts) (drop (i + 1) parts) p q k (sym first) split_rises (eqb-true q k (sym e))

  pub left_half : Rises (flat_map part_pairs (take i parts))
  left_half = left_rises (take i parts) (drop (i + 1) parts) p q k (sym first) split_rises

  pub right_half : Rises (flat_map part_pairs (take (length parts - (i + 1)) (drop (i + 1) parts)))
  right_half =
      subst (λ (ps : List SeenPart). Rises (flat_map part_pairs ps)) (sym (take_rest parts (i + 1)))
      (right_rises (take i parts) (drop (i + 1) parts) p q k (sym first) split_rises)

-- what was found among some parts was found among all
pub some_too : {X : Type 0} (f : X → HeldValue) (v : Option X) (o w : Option Value) → w ≡ o → IfSome v (λ x. o ≡ Some (value_of (f x))) → IfSome v (λ x. w ≡ Some (value_of (f x)))
some_too f None o w e h = tt
some_too f (Some x) o w e h = e ∙ h

pub none_too : {X : Type 0} (v : Option X) (o w : Option Value) → w ≡ o → IfNone v (o ≡ None) → IfNone v (w ≡ None)
none_too None o w e h = e ∙ h
none_too (Some x) o w e h = tt
