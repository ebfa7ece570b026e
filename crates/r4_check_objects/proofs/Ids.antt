-- The ids under which things stand: one that stands there already changes nothing.
use Rattle.std.proofs.Common.{◌≡◌, ◌⊎◌, inl, inr, ℕ, ◌<◌, ◌≤◌, ◌==◌, Bool, true, false, cond, ◌||◌, List, [], ◌∷◌, ◌++◌, map, Option, Some, None, Less, Equal, Greater, nat_cmp, refl, sym, ap, ◌∙◌, arith}
use Rattle.std.specs.Prelude.{is_some, nat_lt}
use Rattle.std.specs.BTreeSet.{insert_key}
use Rattle.std.specs.List.{find, fold, list_any}
use Rattle.std.specs.Option.{option_or}
use Rattle.std.specs.Ordering.{match_ordering}
use Rattle.std.proofs.lemmas.Bool.{cases_eq, cases_lt, eqb-true}
use Rattle.std.proofs.lemmas.Bool.Decides.{nat_tests}
use Rattle.std.proofs.lemmas.List.{map_push}
use Rattle.std.proofs.lemmas.List.Sums.{fold_push}
use Rattle.r4_check_objects.specs.Held.{id_of}
use Rattle.r4_check_objects.specs.Objects.{head_of, ids_of, is_of, is_stat_of, owner_of}
use Rattle.r4_check_objects.specs.declared.held.Held.{Held}
use Rattle.r4_check_objects.proofs.Among.{or_cases}
use Rattle.r4_check_objects.proofs.FirstThings.{second_of_two}

-- ---- a number is put in order, where it is not there

abbrev put : List ℕ → ℕ → List ℕ
put = insert_key nat_cmp

abbrev Order : (a b : ℕ) → Type 0
Order a b = (a < b) ⊎ ((a ≡ b) ⊎ (b < a))

order : (a b : ℕ) → Order a b
order a b = elim (cases_lt a b) [ inl less ↦ inl less | inr more ↦ by more (cases_eq a b) ]
  where
    by : b ≤ a → (a ≡ b) ⊎ (a ≡ b → ⊥) → Order a b
    by more (inl same) = inr (inl same)
    by more (inr other) = inr (inr (omega (arith, more, other)))

put_before : (k x : ℕ) (xs : List ℕ) → k < x → put (x ∷ xs) k ≡ k ∷ x ∷ xs
put_before k x xs less = let is : nat_lt k x ≡ true = grind (arith, nat_tests) in
    ap (λ (t : Bool). match_ordering (cond t Less (cond (k == x) Equal Greater)) (k ∷ x ∷ xs) (x ∷ xs) (x ∷ put xs k)) is

put_there : (k x : ℕ) (xs : List ℕ) → k ≡ x → put (x ∷ xs) k ≡ x ∷ xs
put_there k x xs same = let is : nat_lt k x ≡ false = grind (arith, nat_tests) in let equal : (k == x) ≡ true = grind (arith, nat_tests) in
    ap (λ (t : Bool). match_ordering (cond t Less (cond (k == x) Equal Greater)) (k ∷ x ∷ xs) (x ∷ xs) (x ∷ put xs k)) is
    ∙ ap (λ (t : Bool). match_ordering (cond t Equal Greater) (k ∷ x ∷ xs) (x ∷ xs) (x ∷ put xs k)) equal

put_behind : (k x : ℕ) (xs : List ℕ) → x < k → put (x ∷ xs) k ≡ x ∷ put xs k
put_behind k x xs more = let is : nat_lt k x ≡ false = grind (arith, nat_tests) in let other : (k == x) ≡ false = grind (arith, nat_tests) in
    ap (λ (t : Bool). match_ordering (cond t Less (cond (k == x) Equal Greater)) (k ∷ x ∷ xs) (x ∷ xs) (x ∷ put xs k)) is
    ∙ ap (λ (t : Bool). match_ordering (cond t Equal Greater) (k ∷ x ∷ xs) (x ∷ xs) (x ∷ put xs k)) other

put_again : (k : ℕ) (xs : List ℕ) → put (put xs k) k ≡ put xs k
put_again k [] = put_there k k [] refl
put_again k (x ∷ xs) = by (put_again k xs) (order k x)
  where
    by : put (put xs k) k ≡ put xs k → Order k x → put (put (x ∷ xs) k) k ≡ put (x ∷ xs) k
    by later (inl less) = ap (λ (l : List ℕ). put l k) (put_before k x xs less) ∙ put_there k k (x ∷ xs) refl ∙ sym (put_before k x xs less)
    by later (inr (inl same)) = ap (λ (l : List ℕ). put l k) (put_there k x xs same)
    by later (inr (inr more)) = ap (λ (l : List ℕ). put l k) (put_behind k x xs more) ∙ put_behind k x (put xs k) more ∙ ap (λ (l : List ℕ). x ∷ l) later ∙ sym (put_behind k x xs more)

-- ---- two numbers are put in either order

both_in_front : (a b : ℕ) (ys : List ℕ) → put ys a ≡ a ∷ ys → put ys b ≡ b ∷ ys → put (put ys a) b ≡ put (put ys b) a
both_in_front a b ys one other = ap (λ (l : List ℕ). put l b) one ∙ by (order a b) ∙ sym (ap (λ (l : List ℕ). put l a) other)
  where
    by : Order a b → put (a ∷ ys) b ≡ put (b ∷ ys) a
    by (inl less) = put_behind b a ys less ∙ ap (λ (l : List ℕ). a ∷ l) other ∙ sym (put_before a b ys less)
    by (inr (inl same)) = put_there b a ys (sym same) ∙ ap (λ (k : ℕ). k ∷ ys) same ∙ sym (put_there a b ys same)
    by (inr (inr more)) = put_before b a ys more ∙ sym (put_behind a b ys more ∙ ap (λ (l : List ℕ). b ∷ l) one)

module _ (a b x : ℕ) (xs : List ℕ) where
  abbrev IsSwapped : Type 0
  IsSwapped = put (put (x ∷ xs) a) b ≡ put (put (x ∷ xs) b) a

  before_there : a < x → b ≡ x → IsSwapped
  before_there less same =
      ap (λ (l : List ℕ). put l b) (put_before a x xs less) ∙ put_behind b a (x ∷ xs) (omega (arith, less, same)) ∙ ap (λ (l : List ℕ). a ∷ l) (put_there b x xs same)
      ∙ sym (ap (λ (l : List ℕ). put l a) (put_there b x xs same) ∙ put_before a x xs less)

  before_behind : a < x → x < b → IsSwapped
  before_behind less more =
      ap (λ (l : List ℕ). put l b) (put_before a x xs less) ∙ put_behind b a (x ∷ xs) (omega (arith, less, more)) ∙ ap (λ (l : List ℕ). a ∷ l) (put_behind b x xs more)
      ∙ sym (ap (λ (l : List ℕ). put l a) (put_behind b x xs more) ∙ put_before a x (put xs b) less)

  there_behind : a ≡ x → x < b → IsSwapped
  there_behind same more =
      ap (λ (l : List ℕ). put l b) (put_there a x xs same) ∙ put_behind b x xs more
      ∙ sym (ap (λ (l : List ℕ). put l a) (put_behind b x xs more) ∙ put_there a x (put xs b) same)

  both_there : a ≡ x → b ≡ x → IsSwapped
  both_there one other =
      ap (λ (l : List ℕ). put l b) (put_there a x xs one) ∙ put_there b x xs other ∙ sym (ap (λ (l : List ℕ). put l a) (put_there b x xs other) ∙ put_there a x xs one)

  both_behind : put (put xs a) b ≡ put (put xs b) a → x < a → x < b → IsSwapped
  both_behind later one other =
      ap (λ (l : List ℕ). put l b) (put_behind a x xs one) ∙ put_behind b x (put xs a) other ∙ ap (λ (l : List ℕ). x ∷ l) later
      ∙ sym (ap (λ (l : List ℕ). put l a) (put_behind b x xs other) ∙ put_behind a x (put xs b) one)

put_swapped : (a b : ℕ) (xs : List ℕ) → put (put xs a) b ≡ put (put xs b) a
put_swapped a b [] = both_in_front a b [] refl refl
put_swapped a b (x ∷ xs) = by (put_swapped a b xs) (order a x) (order b x)
  where
    by : put (put xs a) b ≡ put (put xs b) a → Order a x → Order b x → put (put (x ∷ xs) a) b ≡ put (put (x ∷ xs) b) a
    by later (inl p) (inl q) = both_in_front a b (x ∷ xs) (put_before a x xs p) (put_before b x xs q)
    by later (inl p) (inr (inl q)) = before_there a b x xs p q
    by later (inl p) (inr (inr q)) = before_behind a b x xs p q
    by later (inr (inl p)) (inl q) = sym (before_there b a x xs q p)
    by later (inr (inl p)) (inr (inl q)) = both_there a b x xs p q
    by later (inr (inl p)) (inr (inr q)) = there_behind a b x xs p q
    by later (inr (inr p)) (inl q) = sym (before_behind b a x xs q p)
    by later (inr (inr p)) (inr (inl q)) = sym (there_behind b a x xs q p)
    by later (inr (inr p)) (inr (inr q)) = both_behind a b x xs later p q

-- ---- the id of a thing that is there is among the ids

stays : (q : ℕ) (ks acc : List ℕ) → put acc q ≡ acc → put (fold put acc ks) q ≡ fold put acc ks
stays q [] acc is = is
stays q (k ∷ ks) acc is = stays q ks (put acc k) (put_swapped k q acc ∙ ap (λ (l : List ℕ). put l k) is)

there_stays : (q : ℕ) (found : List Held) (acc : List ℕ) → list_any (is_of q) found ≡ true → put (fold put acc (map id_of found)) q ≡ fold put acc (map id_of found)
there_stays q [] acc is = cc
there_stays q (h ∷ found) acc is = by (there_stays q found (put acc (id_of h))) (or_cases (is_of q h) (list_any (is_of q) found) is)
  where
    by : (list_any (is_of q) found ≡ true → put (fold put (put acc (id_of h)) (map id_of found)) q ≡ fold put (put acc (id_of h)) (map id_of found))
        → (is_of q h ≡ true) ⊎ (list_any (is_of q) found ≡ true) → put (fold put acc (map id_of (h ∷ found))) q ≡ fold put acc (map id_of (h ∷ found))
    by later (inl here) =
        let same : id_of h ≡ q = eqb-true _ _ here in
        stays q (map id_of found) (put acc (id_of h)) (ap (put (put acc (id_of h))) (sym same) ∙ put_again (id_of h) acc)
    by later (inr more) = later more

-- nothing is found that passes a narrower test than one that all fail
none_found : (p r : Held → Bool) (xs : List Held) → ((h : Held) → p h ≡ true → r h ≡ true) → list_any r xs ≡ false → find p xs ≡ None
none_found p r [] wide none = refl
none_found p r (x ∷ xs) wide none = by (none_found p r xs wide) (p x) refl (r x) refl none
  where
    by : (list_any r xs ≡ false → find p xs ≡ None) → (b : Bool) → p x ≡ b → (d : Bool) → r x ≡ d → (d || list_any r xs) ≡ false → cond b (Some x) (find p xs) ≡ None
    by later b is_b true is_d none = cc
    by later true is_b false is_d none = let other : r x ≡ true = wide x is_b in cc
    by later false is_b false is_d none = later none

head_there : (found : List Held) (q : ℕ) (h : Held) → head_of found q ≡ Some h → list_any (is_of q) found ≡ true
unfolding head_of owner_of
head_there found q h is = by (list_any (is_of q) found) refl
  where
    by : (b : Bool) → list_any (is_of q) found ≡ b → b ≡ true
    by true there = refl
    by false there =
        let stat : find (is_stat_of q) found ≡ None = none_found (is_stat_of q) (is_of q) found (λ h. second_of_two _ _) there in
        let any : find (is_of q) found ≡ None = none_found (is_of q) (is_of q) found (λ h is. is) there in
        let none : option_or (find (is_stat_of q) found) (find (is_of q) found) ≡ None = ap (λ (o : Option Held). option_or o (find (is_of q) found)) stat ∙ any in
        cc

-- one thing more
ids_push : (found : List Held) (h : Held) → ids_of (found ++ h ∷ []) ≡ put (ids_of found) (id_of h)
unfolding ids_of
ids_push found h = ap (fold put (42 ∷ [])) (map_push id_of found h) ∙ fold_push put (42 ∷ []) (map id_of found) (id_of h)

same_ids : (found : List Held) (q : ℕ) → list_any (is_of q) found ≡ true → put (ids_of found) q ≡ ids_of found
unfolding ids_of
same_ids found q there = there_stays q found (42 ∷ []) there

pub ids_noted : (found : List Held) (h : Held) (o : Option Held) (id : ℕ) (old new : List ℕ) → id ≡ id_of h → o ≡ head_of found id → old ≡ ids_of found → new ≡ cond (is_some o) old (put old id) → new ≡ ids_of (found ++ h ∷ [])
ids_noted found h None id old new key is so_far told = told ∙ ap (λ (l : List ℕ). put l id) so_far ∙ ap (put (ids_of found)) key ∙ sym (ids_push found h)
ids_noted found h (Some f) id old new key is so_far told = told ∙ so_far ∙ sym (same_ids found id (head_there found id f (sym is))) ∙ ap (put (ids_of found)) key ∙ sym (ids_push found h)
