-- Each block of a volume is of one kind: not marked, fixed, lost, or that of a cell.
use Rattle.std.proofs.Common.{◌≡◌, ℕ, zero, suc, ◌+◌, ◌<◌, Bool, true, false, not, ◌&&◌, ◌||◌, if◌then◌else◌, List}
use Rattle.std.proofs.Common.{[], ◌∷◌, length, Option, Some, None, get_or, refl, sym, ap, ◌∙◌, subst, arith, inl, inr}
use Rattle.std.proofs.Common.{⊎_elim}
use Rattle.std.specs.Prelude.{Contains, count_by}
use Rattle.std.specs.List.{range_with_len}
use Rattle.std.proofs.lemmas.Bool.{cases_Bool, cases_eq, cond-false, cond-true}
use Rattle.r4_base.specs.Bitmap.{is_fixed, is_marked}
use Rattle.r4_base.specs.Image.{AreDifferent, Image}
use Rattle.r4_base.specs.Tree.{Node, Store}
use Rattle.r4_base.specs.Value.{Content, Value}
use Rattle.r4_base.specs.Volume.{HasContent, IsLost}
use Rattle.r4_base.proofs.Members.{member_cases, member_here, member_later, no_member}
use Rattle.r4_commit.specs.Plannable.{is_marked_in}
use Rattle.r4_space.specs.Lawful.{IsLawful}
use Rattle.r4_space.specs.Space.{Space, is_claimed, is_taken, is_taken_by, unused_count}
use Rattle.r4_sets.specs.Session.{Session}
use Rattle.r4_sealed.specs.Written.{IsSpaceOf}
use Rattle.r4_durable.specs.Kept.{Rests}
use Rattle.r4_durable.specs.Meaning.{Beginning, WasLost}
use Rattle.r4_durable_rows.specs.Counted.{HasCell, Lists, fixed_count, unmarked_count}
use Rattle.r4_durable_rows.proofs.Tally.{count-tally, one_if, tally-four, tally-list, tally-same}

some : Option (Node Value) → Bool
some None = false
some (Some c) = true

some_is : (o : Option (Node Value)) (c : Node Value) → o ≡ Some c → some o ≡ true
unfolding some
some_is o c is = ap some is

has_some : (o : Option (Node Value)) → some o ≡ true → (c : Node Value) × (o ≡ Some c)
unfolding some
has_some None e = absurd cc
has_some (Some c) e = (c, refl)

is_not : (o : Option (Node Value)) → o ≡ None → some o ≡ false
unfolding some
is_not o is = ap some is

none_is : (o : Option (Node Value)) → some o ≡ false → o ≡ None
unfolding some
none_is None e = refl
none_is (Some c) e = absurd cc

-- whether a block is lost, by its mark, whether it is fixed, and what stands there
lost_by : (marked fixed cell : Bool) → Bool
lost_by marked fixed cell = marked && (not fixed && not cell)

-- one of the four, where a fixed block is marked, and a cell's is marked and not fixed
one_kind : (marked fixed cell : Bool) → (fixed ≡ true → marked ≡ true) → (cell ≡ true → marked ≡ true)
    → (cell ≡ true → fixed ≡ false)
    → one_if (not marked) + one_if fixed + one_if (lost_by marked fixed cell) + one_if cell ≡ 1
unfolding lost_by
one_kind false false false f c g = refl
one_kind false true cell f c g = absurd (cc (f refl))
one_kind false false true f c g = absurd (cc (c refl))
one_kind true true true f c g = absurd (cc (g refl))
one_kind true true false f c g = refl
one_kind true false true f c g = refl
one_kind true false false f c g = refl

lost_parts : (marked fixed cell : Bool) → lost_by marked fixed cell ≡ true
    → (marked ≡ true) × (fixed ≡ false) × (cell ≡ false)
unfolding lost_by
lost_parts true false false e = (refl, refl, refl)
lost_parts true false true e = absurd cc
lost_parts true true cell e = absurd cc
lost_parts false fixed cell e = absurd cc

lost_from : (marked fixed cell : Bool) → marked ≡ true → fixed ≡ false → cell ≡ false
    → lost_by marked fixed cell ≡ true
unfolding lost_by
lost_from marked fixed cell a b c = rw (a, b, c) refl

module _ (n : ℕ) (image : Image) (m : Content) (c : HasContent n image m) (s : Space) (lawful : IsLawful s)
    (here : IsSpaceOf c s) where
  abbrev lost_at : ℕ → Bool
  lost_at k = lost_by (is_marked_in s k) (is_fixed s.block_count k) (some (c.store k))

  abbrev cell_at : ℕ → Bool
  cell_at k = some (c.store k)

  -- a cell's block is one of the volume's, is marked, and is not fixed
  place : (k : ℕ) → cell_at k ≡ true
      → (k < s.block_count) × (is_fixed s.block_count k ≡ false) × (is_marked_in s k ≡ true)
  place k is =
      let (e, at) = has_some (c.store k) is in
      let (lt, free, marked) = c.places k e at in
      let inside : k < s.block_count = subst (λ (j : ℕ). k < j) here.count lt in
      (inside, subst (λ (j : ℕ). is_fixed j k ≡ false) here.count free, here.marks k inside ∙ marked)

  kinds : (k : ℕ) → k < s.block_count
      → one_if (not (is_marked_in s k)) + one_if (is_fixed s.block_count k) + one_if (lost_at k) + one_if
      (cell_at k) ≡ 1
  kinds k lt =
      one_kind (is_marked_in s k) (is_fixed s.block_count k) (cell_at k) (λ fixed. lawful.fixed k lt fixed)
      (λ is. (place k is).2) (λ is. (place k is).1)

  is_lost : (k : ℕ) → IsLost c k → (k < s.block_count) × (lost_at k ≡ true)
  is_lost k (lt, marked, free, none) =
      let inside : k < s.block_count = subst (λ (j : ℕ). k < j) here.count lt in (
        inside,
        lost_from (is_marked_in s k) (is_fixed s.block_count k) (cell_at k) (here.marks k inside ∙ marked)
            (subst (λ (j : ℕ). is_fixed j k ≡ false) here.count free) (is_not (c.store k) none),
      )

  lost_is : (k : ℕ) → k < s.block_count → lost_at k ≡ true → IsLost c k
  lost_is k lt is =
      let (marked, free, none) = lost_parts (is_marked_in s k) (is_fixed s.block_count k) (cell_at k) is in (
        subst (λ (j : ℕ). k < j) (sym here.count) lt,
        sym (here.marks k lt) ∙ marked,
        subst (λ (j : ℕ). is_fixed j k ≡ false) (sym here.count) free,
        none_is (c.store k) none,
      )

  pub counted : (cells lost : List ℕ) → Lists (HasCell c.store) cells → Lists (IsLost c) lost
      → unmarked_count s + fixed_count s + length lost + length cells ≡ s.block_count
  counted cells lost has gone =
      let all = tally-four (λ k. not (is_marked_in s k)) (is_fixed s.block_count) lost_at cell_at s.block_count kinds in
      let a = count-tally (λ k. not (is_marked_in s k)) s.block_count in
      let f = count-tally (is_fixed s.block_count) s.block_count in
      let l = tally-list lost lost_at s.block_count gone.different (λ k h. is_lost k ((gone.each k).0 h))
      (λ k lt is. (gone.each k).1 (lost_is k lt is)) in
      let e = tally-list cells cell_at s.block_count has.different
      (λ k h. let (d, at) = (has.each k).0 h in
      let is = some_is (c.store k) d at in ((place k is).0, is))
      (λ k lt is. (has.each k).1 (has_some (c.store k) is)) in
      omega (arith, all, a, f, l, e)

-- ---- each kind has a list

numbers : (ℕ → Bool) → ℕ → List ℕ
numbers f zero = []
numbers f (suc n) = if f n then n ∷ numbers f n else numbers f n

-- they are those below a number that have it
below : (f : ℕ → Bool) (n k : ℕ) → Contains (numbers f n) k → (k < n) × (f k ≡ true)
unfolding numbers
below f zero k h = absurd (no_member k h)
below f (suc n) k h = elim (cases_Bool (f n)) [
  | inl is ↦ ⊎_elim (λ at. (omega (arith, at), ap f at ∙ is)) (λ later. more (below f n k later))
      (member_cases n (numbers f n) k (subst (λ (l : List ℕ). Contains l k) (cond-true (f n) _ _ is) h))
  | inr none ↦ more (below f n k (subst (λ (l : List ℕ). Contains l k) (cond-false (f n) _ _ none) h))
]
  where
    more : (k < n) × (f k ≡ true) → (k < suc n) × (f k ≡ true)
    more (lt, is) = (omega arith, is)

all_below : (f : ℕ → Bool) (n k : ℕ) → k < n → f k ≡ true → Contains (numbers f n) k
unfolding numbers
all_below f zero k lt is = absurd (omega arith)
all_below f (suc n) k lt is = elim (cases_eq k n) [
  | inl at ↦
      subst (λ (l : List ℕ). Contains l k) (sym (cond-true (f n) _ _ (ap f (sym at) ∙ is)))
      (member_here n (numbers f n) k at)
  | inr other ↦
      let earlier = all_below f n k (omega arith) is in
      elim (cases_Bool (f n)) [
        | inl has ↦ subst (λ (l : List ℕ). Contains l k) (sym (cond-true (f n) _ _ has)) (member_later n
            (numbers f n) k earlier)
        | inr none ↦ subst (λ (l : List ℕ). Contains l k) (sym (cond-false (f n) _ _ none)) earlier
      ]
]

numbers_differ : (f : ℕ → Bool) (n : ℕ) → AreDifferent (numbers f n)
unfolding numbers
numbers_differ f zero = tt
numbers_differ f (suc n) = elim (cases_Bool (f n)) [
  | inl has ↦ subst AreDifferent (sym (cond-true (f n) _ _ has)) (
    (λ h. absurd (omega (
      arith,
      (below f n n h).0,
    ))),
    numbers_differ f n,
  )
  | inr none ↦ subst AreDifferent (sym (cond-false (f n) _ _ none)) (numbers_differ f n)
]

listed_by : (IsOne : ℕ → Type 0) (f : ℕ → Bool) (n : ℕ) → ((k : ℕ) → IsOne k → (k < n) × (f k ≡ true))
    → ((k : ℕ) → k < n → f k ≡ true → IsOne k) → Lists IsOne (numbers f n)
listed_by IsOne f n has only = record {
  different = numbers_differ f n;
  each = λ k. (
    (λ h. let (lt, is) = below f n k h in only k lt is),
    (λ one. let (lt, is) = has k one in all_below f n k lt is),
  );
}

module _ (n : ℕ) (image : Image) (m : Content) (c : HasContent n image m) where
  abbrev lost_there : ℕ → Bool
  lost_there k = lost_by (is_marked image k) (is_fixed c.super.block_count k) (some (c.store k))

  abbrev cell_there : ℕ → Bool
  cell_there k = some (c.store k)

  pub listed : (cells : List ℕ) × (lost : List ℕ) × Lists (HasCell c.store) cells × Lists (IsLost c) lost
  listed = (
    numbers cell_there c.super.block_count,
    numbers lost_there c.super.block_count,
    listed_by (HasCell c.store) cell_there c.super.block_count
        (λ k (d, at). ((c.places k d at).0, some_is (c.store k) d at)) (λ k lt is. has_some (c.store k) is),
    listed_by (IsLost c) lost_there c.super.block_count
        (λ k (lt, marked, free, none). (
          lt,
          lost_from (is_marked image k) (is_fixed c.super.block_count k)
              (cell_there k) marked free (is_not (c.store k) none),
        ))
        (λ k lt is. let (marked, free, none) = lost_parts (is_marked image k) (is_fixed c.super.block_count k)
        (cell_there k) is in (lt, marked, free, none_is (c.store k) none)),
  )

-- ---- while nothing is under way

module _ (limit : ℕ) (b : Beginning) where
  pub at_rest : (c : Session) (s : Space) (image : Image) (cells lost : List ℕ) → Rests limit b c s image
      → Lists (HasCell c.base.cells) cells → Lists (WasLost b) lost
      → unmarked_count s + fixed_count s + length lost + length cells ≡ s.block_count
  at_rest c s image cells lost r has gone =
      counted b.blocks image _ r.has.content s r.lawful r.here cells lost
      (subst (λ (t : Store Value). Lists (HasCell t) cells) (sym r.has.same_store) has)
      (record {
        different = gone.different;
        each = λ k. ((λ h. (r.lost k).1 ((gone.each k).0 h)), (λ l. (gone.each k).1 ((r.lost k).0 l)));
      })

  pub again : (c now : Session) (s later : Space) (image new : Image) (cells cells_now : List ℕ)
      → Rests limit b c s image → Rests limit b now later new → Lists (HasCell c.base.cells) cells
      → Lists (HasCell now.base.cells) cells_now → later.block_count ≡ s.block_count
      → length cells_now ≡ length cells → unmarked_count later ≡ unmarked_count s
  again c now s later image new cells cells_now r r_now has has_now count same =
      let (old, lost, h, gone) = listed b.blocks _ b.content b.volume.content in
      let one = at_rest c s image cells lost r has gone in
      let two = at_rest now later new cells_now lost r_now has_now gone in
      let fixed : fixed_count later ≡ fixed_count s =
      ap (λ (j : ℕ). count_by (is_fixed j) (range_with_len 0 j)) count in
      omega (arith, one, two, fixed, count, same)

-- ---- the unused ones

pub unused : (s : Space) → ((k : ℕ) → get_or s.placed k false ≡ false) → ((k : ℕ) → is_claimed s.held k ≡ false)
    → ((k : ℕ) → is_claimed s.deferred k ≡ false) → unused_count s ≡ unmarked_count s
unfolding unused_count is_taken_by
unused s placed held deferred =
    count-tally (λ k. not (is_taken s k)) s.block_count
    ∙ tally-same (λ k. not (is_taken s k)) (λ k. not (is_marked_in s k)) s.block_count
    (λ k lt. ap not (marked_alone (is_marked_in s k) (get_or s.placed k false) (is_claimed s.held k)
    (is_claimed s.deferred k) (placed k) (held k) (deferred k)))
    ∙ sym (count-tally (λ k. not (is_marked_in s k)) s.block_count)
  where
    marked_alone : (a p h d : Bool) → p ≡ false → h ≡ false → d ≡ false → (a || (p || (h || d))) ≡ a
    marked_alone true p h d x y z = refl
    marked_alone false p h d x y z = rw (x, y, z) refl
