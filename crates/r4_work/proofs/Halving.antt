-- Cells in order that are looked for by halves, and taken out.
use Rattle.std.proofs.Common.{◌≡◌, ℕ, zero, suc, ◌+◌, ◌-◌, ◌<◌, ◌≤◌, ◌^◌, ◌||◌, Bool, true, false, not, List, [], ◌∷◌, ◌++◌}
use Rattle.std.proofs.Common.{length, take, drop, get_or, map, refl, sym, ap, subst, ◌∙◌, arith, inl, inr}
use Rattle.std.specs.Prelude.{Option, None, Some, ◌≢◌, Contains, if◌then◌else◌, nat_le, nat_lt, ◌==◌, ◌⊎◌}
use Rattle.std.specs.Option.{option_or}
use Rattle.std.specs.List.{filter}
use denote.Param.Members.{Mut}
use denote.Ref.{Bor}
use Rattle.std.specs.Fn.{Called, ComputesKey}
use Rattle.std.specs.List.Sorted.{IsNonDecreasingBy, IsPartitionPoint, IsPartitionedBy}
use Rattle.std.proofs.lemmas.List.Sorted.{IsPartitionPoint-from_clause, IsPartitionedBy-leb, IsPartitionedBy-ltb}
use Rattle.std.proofs.Math.Decide.{dec_le}
use Rattle.std.proofs.Math.Nat.{lt_of_not-le}
use Rattle.std.proofs.lemmas.Bool.{eq-eqb, ne_eqb}
use Rattle.std.proofs.lemmas.List.{get_or-map, map-append, take_more, take-append-drop}
use Rattle.r4_base.specs.Key.{rank}
use Rattle.r4_edit.specs.r4_cell.Seen.{CellSeen}
use Rattle.r4_edit.specs.r4_patch.Following.{is_among}
use Rattle.r4_edit.proofs.r4_patch.Members.{here, later, none}
use Rattle.r4_work.specs.Order.{AreInOrder, AreRangesApart, IsAt, cell_at, is_at, place, place_of, places_of, without_places}
use Rattle.r4_work.proofs.Paths.{found_is, stands_at}
use Rattle.r4_work.proofs.Places.{between, no_higher, top_small}

-- ---- in two lists

or_same : (o p q : Option CellSeen) → option_or (option_or o p) q ≡ option_or o (option_or p q)
or_same None p q = refl
or_same (Some x) p q = refl

pub cell_in_both : (xs ys : List CellSeen) (level k : ℕ)
    → cell_at (xs ++ ys) level k ≡ option_or (cell_at ys level k) (cell_at xs level k)
cell_in_both [] ys level k = or_none (cell_at ys level k)
  where
    or_none : (o : Option CellSeen) → o ≡ option_or o None
    or_none None = refl
    or_none (Some x) = refl
cell_in_both (x ∷ xs) ys level k =
    ap (λ o. option_or o (if is_at level k x then Some x else None)) (cell_in_both xs ys level k)
    ∙ or_same (cell_at ys level k) (cell_at xs level k) (if is_at level k x then Some x else None)

pub in_second : (xs ys : List CellSeen) (level k : ℕ) (x : CellSeen) → cell_at ys level k ≡ Some x
    → cell_at (xs ++ ys) level k ≡ Some x
in_second xs ys level k x e = cell_in_both xs ys level k ∙ ap (λ o. option_or o (cell_at xs level k)) e

pub in_first : (xs ys : List CellSeen) (level k : ℕ) → cell_at ys level k ≡ None
    → cell_at (xs ++ ys) level k ≡ cell_at xs level k
in_first xs ys level k e = cell_in_both xs ys level k ∙ ap (λ o. option_or o (cell_at xs level k)) e

-- ---- by halves

is_at_all : (level k : ℕ) (c : CellSeen) → c.level ≡ level → rank c.lo ≤ k → k < rank c.hi → is_at level k c ≡ true
is_at_all level k c a b d = grind (arith, a, b, d)

pub true_or_false : (b : Bool) → (b ≡ true) ⊎ (b ≡ false)
true_or_false true = inl refl
true_or_false false = inr refl

one_more : {A : Type 0} (h : A → CellSeen) (xs : List A) (i : ℕ) (x : A) → i < length xs → x ≡ get_or xs i x
    → map h (take (i + 1) xs) ≡ map h (take i xs) ++ h x ∷ []
one_more h xs i x lt is =
    ap (map h) (take_more xs i x lt ∙ ap (λ y. take i xs ++ y ∷ []) (sym is)) ∙ map-append h (take i xs) (x ∷ [])

module _ {A : Type 0} (h : A → CellSeen) (level k : ℕ) where
  past : (c : CellSeen) → nat_le (place c) (place_of level k) ≡ false → is_at level k c ≡ false
  past c behind = elim (true_or_false (is_at level k c)) [
    | inr no_at ↦ no_at
    | inl at ↦
        let (same, range) = stands_at level k c at in
        let low = no_higher c.level level (rank c.lo) k same range.0 in
        absurd (grind (arith, low, behind))
  ]

  none_past : (xs : List A) → ((i : ℕ) (d : A) → i < length xs → nat_le (place (h (get_or xs i d))) (place_of level k) ≡ false)
      → cell_at (map h xs) level k ≡ None
  none_past [] behind = refl
  none_past (x ∷ xs) behind =
      ap (λ o. option_or o (if is_at level k (h x) then Some (h x) else None))
      (none_past xs (λ i d lt. behind (suc i) d (omega (arith, lt))))
      ∙ ap (λ b. if b then Some (h x) else None) (past (h x) (behind 0 x (omega arith)))

  behind_drop : (xs : List A) (n : ℕ)
      → ((i : ℕ) (d : A) → n ≤ i → i < length xs → nat_le (place (h (get_or xs i d))) (place_of level k) ≡ false)
      → cell_at (map h (drop n xs)) level k ≡ None
  behind_drop xs zero behind = none_past xs (λ i d lt. behind i d (omega arith) lt)
  behind_drop [] (suc n) behind = refl
  behind_drop (x ∷ xs) (suc n) behind =
      behind_drop xs n (λ i d low lt. behind (suc i) d (omega (arith, low)) (omega (arith, lt)))

  parted : (xs : List A) (n : ℕ)
      → ((i : ℕ) (d : A) → n ≤ i → i < length xs → nat_le (place (h (get_or xs i d))) (place_of level k) ≡ false)
      → cell_at (map h xs) level k ≡ cell_at (map h (take n xs)) level k
  parted xs n behind =
      ap (λ zs. cell_at (map h zs) level k) (sym (take-append-drop n xs))
      ∙ (ap (λ zs. cell_at zs level k) (map-append h (take n xs) (drop n xs))
      ∙ in_first (map h (take n xs)) (map h (drop n xs)) level k (behind_drop xs n behind))

  among_take : (xs : List A) (n : ℕ) (c : CellSeen) (d : A) → Contains (map h (take n xs)) c
      → (j : ℕ) × (j < n) × (j < length xs) × (h (get_or xs j d) ≡ c)
  among_take xs zero c d at = absurd (none c at)
  among_take [] (suc n) c d at = absurd (none c at)
  among_take (x ∷ xs) (suc n) c d (zero, l, e) = (zero, omega arith, omega arith, e)
  among_take (x ∷ xs) (suc n) c d (suc j, l, e) =
      let (i, less, lt, is) = among_take xs n c d (j, omega (arith, l), e) in
      (suc i, omega (arith, less), omega (arith, lt), is)

  at_place : (xs : List A) (j : ℕ) (d : A) → j < length xs → Contains (map h xs) (h (get_or xs j d))
  at_place [] j d lt = absurd (omega (arith, lt))
  at_place (x ∷ xs) zero d lt = here (h x) (map h xs)
  at_place (x ∷ xs) (suc j) d lt = later (h x) (h (get_or xs j d)) (map h xs) (at_place xs j d (omega (arith, lt)))

  module _ (xs : List A) (order : IsNonDecreasingBy (λ y. place (h y)) xs) (small : k < 2 ^ 256) (m : ℕ) (x : A) (lt : m < length xs) (is : x ≡ get_or xs m x) (reaches : nat_le (place (h x)) (place_of level k) ≡ true) (behind : (i : ℕ) (d : A) → m + 1 ≤ i → i < length xs → nat_le (place (h (get_or xs i d))) (place_of level k) ≡ false) where
    last_of : cell_at (map h xs) level k ≡ option_or (if is_at level k (h x) then Some (h x) else None) (cell_at (map h (take m xs)) level k)
    last_of =
        parted xs (m + 1) behind
        ∙ (ap (λ zs. cell_at zs level k) (one_more h xs m x lt is)
        ∙ cell_in_both (map h (take m xs)) (h x ∷ []) level k)

    pub halved : is_at level k (h x) ≡ true → cell_at (map h xs) level k ≡ Some (h x)
    halved at = last_of ∙ ap (λ b. option_or (if b then Some (h x) else None) (cell_at (map h (take m xs)) level k)) at

    -- one before it that has the key, in its level, would have its range
    module _ (apart : AreRangesApart (map h xs)) where
      before : (c : CellSeen) → cell_at (map h (take m xs)) level k ≡ Some c → is_at level k (h x) ≡ true
      before c e =
          let at = found_is (map h (take m xs)) level k c e in
          let (j, less, within, same) = among_take xs m c x at.among in
          let in_x : Contains (map h xs) (h x) = subst (λ z. Contains (map h xs) (h z)) (sym is) (at_place xs m x lt) in
          let in_c : Contains (map h xs) c = subst (Contains (map h xs)) same (at_place xs j x within) in
          let low : place c ≤ place (h x) =
          subst (λ z. place z ≤ place (h x)) same (subst (λ z. place (h (get_or xs j x)) ≤ place (h z)) (sym is) (order j m x (omega (arith, less)) lt)) in
          let high : place (h x) ≤ place_of level k = grind (arith, reaches) in
          let (some_x, most_x) = apart.some (h x) in_x in
          let level_c = at.level_is in
          let low_c : place_of level (rank c.lo) ≤ place (h x) = subst (λ l. place_of l (rank c.lo) ≤ place (h x)) level_c low in
          let (lev, from, to) = between level (h x).level (rank c.lo) (rank (h x).lo) k
          (top_small (rank (h x).lo) (omega (arith, some_x, most_x))) small low_c high in
          let range = at.range in
          let (_, hi) = apart.one c (h x) (rank (h x).lo) in_c in_x (level_c ∙ sym lev)
          (from, omega (arith, range, to)) (omega arith, some_x) in
          is_at_all level k (h x) lev to (omega (arith, range, hi))

      pub not_halved : is_at level k (h x) ≡ false → cell_at (map h xs) level k ≡ None
      not_halved out =
          last_of
          ∙ (ap (λ b. option_or (if b then Some (h x) else None) (cell_at (map h (take m xs)) level k)) out
          ∙ none_of (cell_at (map h (take m xs)) level k) refl)
        where
          none_of : (o : Option CellSeen) → cell_at (map h (take m xs)) level k ≡ o → o ≡ None
          none_of None e = refl
          none_of (Some c) e = let at = before c e in absurd (grind (arith, at, out))

-- ---- what is taken out

module _ {A : Type 0} (p : A → Bool) where
  kept_first : (b : Bool) (x : A) (zs : List A) → b ≡ true → (if b then x ∷ zs else zs) ≡ x ∷ zs
  kept_first true x zs e = refl
  kept_first false x zs e = absurd (grind (arith, e))

  lost_first : (b : Bool) (x : A) (zs : List A) → b ≡ false → (if b then x ∷ zs else zs) ≡ zs
  lost_first false x zs e = refl
  lost_first true x zs e = absurd (grind (arith, e))

  pub removed : (xs : List A) (a b : ℕ) → a ≤ b → b ≤ length xs
      → ((i : ℕ) (d : A) → i < a → p (get_or xs i d) ≡ true)
      → ((i : ℕ) (d : A) → a ≤ i → i < b → p (get_or xs i d) ≡ false)
      → ((i : ℕ) (d : A) → b ≤ i → i < length xs → p (get_or xs i d) ≡ true)
      → take a xs ++ drop b xs ≡ filter p xs
  removed [] zero zero ab bl front mid back = refl
  removed [] (suc a) b ab bl front mid back = absurd (omega (arith, ab, bl))
  removed [] zero (suc b) ab bl front mid back = absurd (omega (arith, bl))
  removed (x ∷ xs) zero zero ab bl front mid back =
      ap (λ zs. x ∷ zs) (removed xs zero zero (omega arith) (omega arith) (λ i d l. absurd (omega (arith, l)))
      (λ i d l g. absurd (omega (arith, g))) (λ i d l g. back (suc i) d (omega arith) (omega (arith, g))))
      ∙ sym (kept_first (p x) x (filter p xs) (back zero x (omega arith) (omega arith)))
  removed (x ∷ xs) zero (suc b) ab bl front mid back =
      removed xs zero b (omega arith) (omega (arith, bl)) (λ i d l. absurd (omega (arith, l)))
      (λ i d l g. mid (suc i) d (omega arith) (omega (arith, g))) (λ i d l g. back (suc i) d (omega (arith, l)) (omega (arith, g)))
      ∙ sym (lost_first (p x) x (filter p xs) (mid zero x (omega arith) (omega arith)))
  removed (x ∷ xs) (suc a) zero ab bl front mid back = absurd (omega (arith, ab))
  removed (x ∷ xs) (suc a) (suc b) ab bl front mid back =
      ap (λ zs. x ∷ zs) (removed xs a b (omega (arith, ab)) (omega (arith, bl)) (λ i d l. front (suc i) d (omega (arith, l)))
      (λ i d l g. mid (suc i) d (omega (arith, l)) (omega (arith, g))) (λ i d l g. back (suc i) d (omega (arith, l)) (omega (arith, g))))
      ∙ sym (kept_first (p x) x (filter p xs) (front zero x (omega arith)))

pub filter_map : {A : Type 0} (h : A → CellSeen) (p : CellSeen → Bool) (xs : List A)
    → map h (filter (λ x. p (h x)) xs) ≡ filter p (map h xs)
filter_map h p [] = refl
filter_map h p (x ∷ xs) = by_test (p (h x)) (filter_map h p xs)
  where
    by_test : (b : Bool) → map h (filter (λ x. p (h x)) xs) ≡ filter p (map h xs)
        → map h (if b then x ∷ filter (λ x. p (h x)) xs else filter (λ x. p (h x)) xs)
        ≡ (if b then h x ∷ filter p (map h xs) else filter p (map h xs))
    by_test true e = ap (λ zs. h x ∷ zs) e
    by_test false e = e

-- one more place
pub more_places : (ps : List ℕ) (n : ℕ) (xs : List CellSeen)
    → without_places (ps ++ n ∷ []) xs ≡ filter (λ c. not (n == place c)) (without_places ps xs)
more_places ps n [] = refl
more_places ps n (x ∷ xs) =
    ap (λ b. if not b then x ∷ without_places (ps ++ n ∷ []) xs else without_places (ps ++ n ∷ []) xs) (among_more ps)
    ∙ (ap (λ zs. if not (is_among ps (place x) || (n == place x)) then x ∷ zs else zs) (more_places ps n xs)
    ∙ by_tests (is_among ps (place x)) (n == place x) refl)
  where
    among_more : (ps : List ℕ) → is_among (ps ++ n ∷ []) (place x) ≡ (is_among ps (place x) || (n == place x))
    among_more [] = or_false (n == place x)
      where
        or_false : (b : Bool) → (b || false) ≡ b
        or_false true = refl
        or_false false = refl
    among_more (q ∷ qs) = ap (λ b. (q == place x) || b) (among_more qs) ∙ or_assoc (q == place x) (is_among qs (place x)) (n == place x)
      where
        or_assoc : (a b c : Bool) → (a || (b || c)) ≡ ((a || b) || c)
        or_assoc true b c = refl
        or_assoc false b c = refl

    rest : List CellSeen
    rest = without_places ps xs

    by_tests : (a b : Bool) → (n == place x) ≡ b
        → (if not (a || b) then x ∷ filter (λ c. not (n == place c)) rest else filter (λ c. not (n == place c)) rest)
        ≡ filter (λ c. not (n == place c)) (if not a then x ∷ rest else rest)
    by_tests true b e = refl
    by_tests false true e = sym (ap (λ v. if not v then x ∷ filter (λ c. not (n == place c)) rest else filter (λ c. not (n == place c)) rest) e)
    by_tests false false e = sym (ap (λ v. if not v then x ∷ filter (λ c. not (n == place c)) rest else filter (λ c. not (n == place c)) rest) e)

pub no_places : (xs : List CellSeen) → xs ≡ without_places [] xs
no_places [] = refl
no_places (x ∷ xs) = ap (λ zs. x ∷ zs) (no_places xs)

-- those at the place of one cell more
pub one_more_out : {A : Type 0} (h : A → CellSeen) (xs : List A) (i : ℕ) (x : A) (at : CellSeen) (start was now : List CellSeen)
    → i < length xs → x ≡ get_or xs i x → at ≡ h x → was ≡ without_places (places_of (map h (take i xs))) start
    → now ≡ filter (λ c. not (place at == place c)) was
    → now ≡ without_places (places_of (map h (take (i + 1) xs))) start
one_more_out h xs i x at start was now lt is same before out =
    out
    ∙ (ap (λ zs. filter (λ c. not (place at == place c)) zs) before
    ∙ (ap (λ n. filter (λ c. not (n == place c)) (without_places (places_of (map h (take i xs))) start)) (ap place same)
    ∙ (sym (more_places (places_of (map h (take i xs))) (place (h x)) start)
    ∙ ap (λ ps. without_places ps start)
    (sym (ap places_of (one_more h xs i x lt is) ∙ map-append place (map h (take i xs)) (h x ∷ []))))))

-- the first that does not stand before a place, and the first that stands behind it
abbrev pub EndsBefore : {A : Type 0} → (A → CellSeen) → ℕ → List A → ℕ → Type 0
EndsBefore h n = IsPartitionPoint (λ y. nat_lt (place (h y)) n ≡ true) (λ y. nat_lt (place (h y)) n ≡ false)

abbrev pub EndsBy : {A : Type 0} → (A → CellSeen) → ℕ → List A → ℕ → Type 0
EndsBy h n = IsPartitionPoint (λ y. nat_le (place (h y)) n ≡ true) (λ y. nat_le (place (h y)) n ≡ false)

-- ---- the order of what a list shows

length_map : {A : Type 0} (h : A → CellSeen) (xs : List A) → length (map h xs) ≡ length xs
length_map h [] = refl
length_map h (x ∷ xs) = let e = length_map h xs in omega (arith, e)

pub order_shown : {A : Type 0} (h : A → CellSeen) (xs : List A) → IsNonDecreasingBy (λ x. place (h x)) xs
    → IsNonDecreasingBy place (map h xs)
order_shown h [] up i j d low lt = absurd (omega (arith, lt))
order_shown h (x ∷ xs) up i j d low lt =
    let long = length_map h (x ∷ xs) in
    subst (λ c. place c ≤ place (get_or (map h (x ∷ xs)) j d)) (sym (get_or-map h (x ∷ xs) i x d (omega (arith, low, lt, long))))
    (subst (λ c. place (h (get_or (x ∷ xs) i x)) ≤ place c) (sym (get_or-map h (x ∷ xs) j x d (omega (arith, lt, long)))) (up i j x low (omega (arith, lt, long))))

pub order_hidden : {A : Type 0} (h : A → CellSeen) (xs : List A) → IsNonDecreasingBy place (map h xs)
    → IsNonDecreasingBy (λ x. place (h x)) xs
order_hidden h xs up i j d low lt =
    let long = length_map h xs in
    subst (λ c. place c ≤ place (h (get_or xs j d))) (get_or-map h xs i d (h d) (omega (arith, low, lt)))
    (subst (λ c. place (get_or (map h xs) i (h d)) ≤ place c) (get_or-map h xs j d (h d) lt) (up i j (h d) low (omega (arith, lt, long))))

-- ---- the two ends of a place

-- from what `partition_point` says, where each call of its closure gives the test
pub ends_before : {A : Type 0} (h : A → CellSeen) (n : ℕ) {F : Type 0} {g : Mut F (Bor A × Unit {0}) Bool} {f : F}
    (xs ys : List A) (i : ℕ) → ys ≡ xs → AreInOrder (map h xs)
    → ((q : A → Bool) → ComputesKey g q f → IsPartitionedBy q ys → IsPartitionPoint (λ y. q y ≡ true) (λ y. q y ≡ false) ys i)
    → ((a : Bor A × Unit {0}) (r : Bool) (f' : F) → Called g f a r f' → (r ≡ nat_lt (place (h a.0.now)) n) × (f' ≡ f))
    → EndsBefore h n xs i
ends_before h n xs ys i same order clause calls =
    subst (λ zs. EndsBefore h n zs i) same
    (IsPartitionPoint-from_clause (λ y. nat_lt (place (h y)) n) ys i clause
    (IsPartitionedBy-ltb (λ y. place (h y)) ys n (order_hidden h ys (subst (λ zs. AreInOrder (map h zs)) (sym same) order))) calls)

pub ends_by : {A : Type 0} (h : A → CellSeen) (n : ℕ) {F : Type 0} {g : Mut F (Bor A × Unit {0}) Bool} {f : F}
    (xs ys : List A) (i : ℕ) → ys ≡ xs → AreInOrder (map h xs)
    → ((q : A → Bool) → ComputesKey g q f → IsPartitionedBy q ys → IsPartitionPoint (λ y. q y ≡ true) (λ y. q y ≡ false) ys i)
    → ((a : Bor A × Unit {0}) (r : Bool) (f' : F) → Called g f a r f' → (r ≡ nat_le (place (h a.0.now)) n) × (f' ≡ f))
    → EndsBy h n xs i
ends_by h n xs ys i same order clause calls =
    subst (λ zs. EndsBy h n zs i) same
    (IsPartitionPoint-from_clause (λ y. nat_le (place (h y)) n) ys i clause
    (IsPartitionedBy-leb (λ y. place (h y)) ys n (order_hidden h ys (subst (λ zs. AreInOrder (map h zs)) (sym same) order))) calls)

pub bound_in : {A : Type 0} (xs ys : List A) (i : ℕ) → ys ≡ xs → i ≤ length ys → i ≤ length xs
bound_in xs ys i same h = subst (λ zs. i ≤ length zs) same h

-- what stands between them is taken out
module _ {A : Type 0} (h : A → CellSeen) (xs : List A) (n a b : ℕ) (within : a ≤ length xs) (low : EndsBefore h n xs a) (high : EndsBy h n xs b) where
  pub in_turn : a ≤ b
  in_turn = elim (dec_le a b) [
    | yes le ↦ le
    | no more ↦ by_first xs refl
  ]
    where
      by_first : (ys : List A) → ys ≡ xs → a ≤ b
      by_first [] e =
          let none : length xs ≡ 0 = ap length (sym e) in
          omega (arith, none, within)
      by_first (y ∷ ys) e = elim (dec_le a b) [
        | yes le ↦ le
        | no more ↦
            let less = lt_of_not-le more in
            let before = low.0 b y (omega arith) less in
            let behind = high.1 b y (omega arith) (omega (arith, less, within)) in
            absurd (grind (arith, before, behind))
      ]

  pub taken_out : b ≤ length xs → map h (take a xs ++ drop b xs) ≡ filter (λ c. not (n == place c)) (map h xs)
  taken_out bl =
      ap (map h) (removed (λ x. not (n == place (h x))) xs a b in_turn bl
      (λ i d l. let t = low.0 i d (omega arith) l in off (place (h (get_or xs i d))) (inl (grind (arith, t))))
      (λ i d l g.
      let s = low.1 i d l (omega (arith, g, bl)) in
      let t = high.0 i d (omega arith) g in
      on (place (h (get_or xs i d))) (grind (arith, s)) (grind (arith, t)))
      (λ i d l g. let t = high.1 i d l g in off (place (h (get_or xs i d))) (inr (grind (arith, t)))))
      ∙ filter_map h (λ c. not (n == place c)) xs
    where
      off : (m : ℕ) → (m < n) ⊎ (n < m) → not (n == m) ≡ true
      off m (inl less) = ap not (ne_eqb n m (λ e. omega (arith, e, less)))
      off m (inr more) = ap not (ne_eqb n m (λ e. omega (arith, e, more)))

      on : (m : ℕ) → n ≤ m → m ≤ n → not (n == m) ≡ false
      on m l g = ap not (eq-eqb n m (omega (arith, l, g)))

-- ---- what is found by halves

-- the cell before the end of those that stand no further than the key's place
module _ {A : Type 0} (h : A → CellSeen) (xs : List A) (level k i : ℕ) (small : k < 2 ^ 256) (order : AreInOrder (map h xs)) (ends : EndsBy h (place_of level k) xs i) (within : i ≤ length xs) where
  pub no_one : i ≡ 0 → cell_at (map h xs) level k ≡ None
  no_one none = behind_drop h level k xs 0 (λ j d low lt. ends.1 j d (omega (arith, none)) lt)

  module _ (some : i ≢ 0) (x : A) (is : x ≡ get_or xs (i - 1) x) where
    reaches : nat_le (place (h x)) (place_of level k) ≡ true
    reaches = subst (λ y. nat_le (place (h y)) (place_of level k) ≡ true) (sym is) (ends.0 (i - 1) x (omega arith) (omega (arith, some)))

    pub is_one : Contains (map h xs) (h x)
    is_one = subst (λ y. Contains (map h xs) (h y)) (sym is) (at_place h level k xs (i - 1) x (omega (arith, some, within)))

    pub found : true ≡ is_at level k (h x) → IsAt (map h xs) level k (h x)
    found e = let (a, b) = stands_at level k (h x) (sym e) in record { among = is_one; level_is = a; range = b }

    pub found_one : true ≡ is_at level k (h x) → cell_at (map h xs) level k ≡ Some (h x)
    found_one e =
        halved h level k xs (order_hidden h xs order) small (i - 1) x (omega (arith, some, within)) is reaches
        (λ j d low lt. ends.1 j d (omega (arith, low)) lt) (sym e)

    pub found_none : AreRangesApart (map h xs) → false ≡ is_at level k (h x) → cell_at (map h xs) level k ≡ None
    found_none apart e =
        not_halved h level k xs (order_hidden h xs order) small (i - 1) x (omega (arith, some, within)) is reaches
        (λ j d low lt. ends.1 j d (omega (arith, low)) lt) apart (sym e)
