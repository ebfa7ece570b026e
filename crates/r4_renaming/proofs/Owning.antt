-- Who owns a node, as the cells of an atom get their new names.
use Rattle.std.proofs.Common.{◌≡◌, ◌≢◌, inl, inr, ⊎_elim, ℕ, ◌+◌, ◌<◌, ◌≤◌, ◌^◌, ◌==◌, ◌||◌, ◌&&◌, Bool, true, false}
use Rattle.std.proofs.Common.{cond, List, [], ◌∷◌, map, take, length, get_or, Option, Some, None, refl, sym, ◌∙◌, ap, subst, arith}
use Rattle.std.specs.Prelude.{Contains, IsSome, ◌↔◌, nat_eq, nat_le}
use Rattle.std.specs.List.{IsDistinct}
use Rattle.std.specs.Option.{option_or, unwrap_or}
use Rattle.std.proofs.lemmas.Bool.{cases_eq, cond-false, cond-true, eq-eqb, le-leb}
use Rattle.std.proofs.lemmas.Bool.{leb-true, lt-leb, ne_eqb, or_from, or_right, and_left, and_from}
use Rattle.std.proofs.lemmas.List.Folds.{list_any_more}
use Rattle.r4_atoms.specs.Atoms.{AtomsSeen, numbers, owner_of, without_owner}
use Rattle.r4_base.proofs.Choices.{nothing_in}
use Rattle.r4_base.specs.declared.things.NodeId.{NodeId}
use Rattle.r4_buffer.specs.Changed.{has_name}
use Rattle.r4_flush.specs.Prepared.{cells_of}
use Rattle.r4_flush.specs.declared.cells.RenamedCell.{RenamedCell}
use Rattle.r4_renaming.specs.Renaming.{owner_then, was_named}
use Rattle.r4_renaming.specs.Steps.{IsFreeNode, has_node, owner_moved}
use Rattle.r4_renaming.proofs.Lists.{any_here, any_one, from_map, in_map, one_any}
use Rattle.r4_renaming.proofs.Prefix.{earlier, here, is_named, named_more, new_name, no_number, not_was, old_name}
use Rattle.r4_renaming.proofs.Prefix.{one_named, one_was, was_more}

-- the tests of `owner_moved`: whether it is a new name, and whether a cell had it
abbrev moved : (a : ℕ) → (new was : Bool) → Option ℕ → Option ℕ
moved a new was o = cond new (Some a) (cond was None o)

some_stays : (o p : Option ℕ) → IsSome o → option_or o p ≡ o
some_stays None p some = absurd (cc some)
some_stays (Some n) p some = refl

-- each new name is that of a block
pub new_placed : (s : AtomsSeen) (rs : List RenamedCell) → ((r : RenamedCell) → Contains rs r → IsFreeNode s r)
    → (r : RenamedCell) → Contains rs r → new_name r < 2 ^ 63
new_placed s rs free r has =
    ⊎_elim (λ (same, low). omega (arith, same, low)) (λ (high, low, none). low) (free r has)

-- ---- a cell more

module _ (a : ℕ) (rs : List RenamedCell) (s : AtomsSeen) (once : IsDistinct nat_eq (map old_name rs))
    (own : (r : RenamedCell) → Contains rs r → owner_of s (old_name r) ≡ Some a)
    (free : (r : RenamedCell) → Contains rs r → IsFreeNode s r) where
  module _ (k : ℕ) (x : RenamedCell) (lt : k < length rs) (is : x ≡ get_or rs k x) (b c : AtomsSeen)
      (so_far : (i : ℕ) → owner_of b i ≡ owner_moved a (take k rs) i (owner_of s i))
      (from : old_name x ≢ new_name x → owner_of c (old_name x) ≡ None)
      (to : old_name x ≢ new_name x
      → owner_of c (new_name x) ≡ option_or (owner_of b (new_name x)) (owner_of b (old_name x)))
      (itself : old_name x ≡ new_name x → c ≡ b)
      (others : (i : ℕ) → i ≢ old_name x → i ≢ new_name x → owner_of c i ≡ owner_of b i) where
    abbrev first : List RenamedCell
    first = take k rs

    abbrev new : ℕ → Bool
    new i = has_name (cells_of first) i

    abbrev was : ℕ → Bool
    was i = was_named first i

    -- by the tests of the cells before this one, and of this one
    then_is : (i : ℕ) (n w : Bool) → (new i || (new_name x == i)) ≡ n → (was i || (old_name x == i)) ≡ w
        → owner_moved a (take (k + 1) rs) i (owner_of s i) ≡ moved a n w (owner_of s i)
    then_is i n w is_new is_old =
        ap (λ (t : Bool). moved a t (was_named (take (k + 1) rs) i) (owner_of s i)) (named_more rs k x lt is i ∙ is_new)
        ∙ ap (λ (t : Bool). moved a n t (owner_of s i)) (was_more rs k x lt is i ∙ is_old)

    own_x : owner_of s (old_name x) ≡ Some a
    own_x = own x (here rs k x lt is)

    -- this cell was not moved yet
    before_x : new (old_name x) ≡ false → owner_of b (old_name x) ≡ Some a
    before_x not =
        so_far (old_name x)
        ∙ ap (λ (t : Bool). moved a t (was (old_name x)) (owner_of s (old_name x))) not
        ∙ ap (λ (t : Bool). moved a false t (owner_of s (old_name x))) (not_was rs k x lt is once)
        ∙ own_x

    stays_x : (t : Bool) → moved a t (was (old_name x)) (owner_of s (old_name x)) ≡ Some a
    stays_x true = refl
    stays_x false = ap (λ (t : Bool). moved a false t (owner_of s (old_name x))) (not_was rs k x lt is once) ∙ own_x

    other_test : (i j : ℕ) (t : Bool) → i ≢ j → (t || (j == i)) ≡ t
    other_test i j true other = refl
    other_test i j false other = ne_eqb j i (λ same. other (sym same))

    -- all nodes but the two names of this cell
    kept_other : (i : ℕ) → i ≢ old_name x → i ≢ new_name x
        → owner_of b i ≡ owner_moved a (take (k + 1) rs) i (owner_of s i)
    kept_other i not_old not_new =
        so_far i
        ∙ sym (then_is i (new i) (was i) (other_test i (new_name x) (new i) not_new)
        (other_test i (old_name x) (was i) not_old))

    at_new : owner_moved a (take (k + 1) rs) (new_name x) (owner_of s (new_name x)) ≡ Some a
    at_new =
        then_is (new_name x) true (was (new_name x) || (old_name x == new_name x))
        (or_right (new (new_name x)) (new_name x == new_name x) (eq-eqb (new_name x) (new_name x) refl)) refl

    same_name : old_name x ≡ new_name x → (i : ℕ) → owner_of c i ≡ owner_moved a (take (k + 1) rs) i (owner_of s i)
    same_name same i = elim (cases_eq i (new_name x)) [
      | inl at ↦
          subst (λ (j : ℕ). owner_of c j ≡ owner_moved a (take (k + 1) rs) j (owner_of s j)) (sym at)
          (ap (λ (z : AtomsSeen). owner_of z (new_name x)) (itself same)
          ∙ subst (λ (j : ℕ). owner_of b j ≡ Some a) same (so_far (old_name x) ∙ stays_x (new (old_name x)))
          ∙ sym at_new)
      | inr other ↦
          ap (λ (z : AtomsSeen). owner_of z i) (itself same)
          ∙ kept_other i (λ old. other (old ∙ same)) other
    ]

    module _ (high : 2 ^ 63 ≤ old_name x) (low : new_name x < 2 ^ 63)
        (none : owner_of s (new_name x) ≡ None) where
      apart : old_name x ≢ new_name x
      apart same = absurd (omega (arith, same, high, low))

      no_new : new (old_name x) ≡ false
      no_new = no_number first (λ r has. new_placed s rs free r (earlier rs k x lt is r has)) (old_name x) high

      -- nobody owned the new name, or it was one of the cells before
      or_mine : (t w : Bool) → option_or (moved a t w (owner_of s (new_name x))) (Some a) ≡ Some a
      or_mine true w = refl
      or_mine false true = refl
      or_mine false false = ap (λ (o : Option ℕ). option_or o (Some a)) none

      other_name : (i : ℕ) → owner_of c i ≡ owner_moved a (take (k + 1) rs) i (owner_of s i)
      other_name i = elim (cases_eq i (old_name x)) [
        | inl at ↦
            subst (λ (j : ℕ). owner_of c j ≡ owner_moved a (take (k + 1) rs) j (owner_of s j)) (sym at)
            (from apart ∙ sym (then_is (old_name x) false true
            (or_from (new (old_name x)) (new_name x == old_name x) no_new
            (ne_eqb (new_name x) (old_name x) (λ same. apart (sym same))))
            (or_right (was (old_name x)) (old_name x == old_name x) (eq-eqb (old_name x) (old_name x) refl))))
        | inr not_old ↦ elim (cases_eq i (new_name x)) [
          | inl at ↦
              subst (λ (j : ℕ). owner_of c j ≡ owner_moved a (take (k + 1) rs) j (owner_of s j)) (sym at)
              (to apart ∙ ap (λ (o : Option ℕ). option_or (owner_of b (new_name x)) o) (before_x no_new)
              ∙ ap (λ (o : Option ℕ). option_or o (Some a)) (so_far (new_name x))
              ∙ or_mine (new (new_name x)) (was (new_name x)) ∙ sym at_new)
          | inr not_new ↦ others i not_old not_new ∙ kept_other i not_old not_new
        ]
      ]

    pub owners_next : (i : ℕ) → owner_of c i ≡ owner_moved a (take (k + 1) rs) i (owner_of s i)
    owners_next i = ⊎_elim
        (λ (same, low). same_name same i)
        (λ (high, low, none). other_name high low none i)
        (free x (here rs k x lt is))

-- ---- a node more that goes

module _ (s b c : AtomsSeen) (nodes : List NodeId) (k : ℕ) (lt : k < length nodes)
    (so_far : (i : ℕ) → owner_of b i ≡ cond (nat_le (2 ^ 63) i && has_node (take k nodes) i) None (owner_of s i)) where
  abbrev node : ℕ
  node = (get_or nodes k (record { 0 = 0 })).0

  abbrev dropped : Bool → ℕ → Option ℕ
  dropped t i = cond (nat_le (2 ^ 63) i && t) None (owner_of s i)

  then_dropped : (i : ℕ) → dropped (has_node (take (k + 1) nodes) i) i
      ≡ dropped (has_node (take k nodes) i || (node == i)) i
  then_dropped i =
      ap (λ (t : Bool). dropped t i) (list_any_more (λ (n : NodeId). n.0 == i) nodes k (record { 0 = 0 }) lt)

  other_node : (t : Bool) (i : ℕ) → i ≢ node → dropped (t || (node == i)) i ≡ dropped t i
  other_node true i other = refl
  other_node false i other = ap (λ (t : Bool). dropped t i) (ne_eqb node i (λ same. other (sym same)))

  low_node : (t : Bool) (i : ℕ) → nat_le (2 ^ 63) i ≡ false → dropped t i ≡ owner_of s i
  low_node t i low =
      cond-false (nat_le (2 ^ 63) i && t) None (owner_of s i) (and_left (nat_le (2 ^ 63) i) t low)

  -- one that has a block stays
  pub placed_stays : nat_le (2 ^ 63) node ≡ false → c ≡ b → (i : ℕ)
      → owner_of c i ≡ dropped (has_node (take (k + 1) nodes) i) i
  placed_stays low same i =
      ap (λ (z : AtomsSeen). owner_of z i) same ∙ so_far i ∙ sym (then_dropped i ∙ (elim (cases_eq i node) [
        | inl at ↦
            (let here : nat_le (2 ^ 63) i ≡ false = ap (nat_le (2 ^ 63)) at ∙ low in
            low_node (has_node (take k nodes) i || (node == i)) i here
            ∙ sym (low_node (has_node (take k nodes) i) i here))
        | inr other ↦ other_node (has_node (take k nodes) i) i other
      ]))

  -- one that has none goes
  pub unplaced_goes : nat_le (2 ^ 63) node ≡ true → (kept : ℕ) → kept < 2 ^ 63 → IsSome (owner_of s kept)
      → (node ≢ kept → owner_of c node ≡ None)
      → (node ≢ kept → owner_of c kept ≡ option_or (owner_of b kept) (owner_of b node))
      → ((i : ℕ) → i ≢ node → i ≢ kept → owner_of c i ≡ owner_of b i) → (i : ℕ)
      → owner_of c i ≡ dropped (has_node (take (k + 1) nodes) i) i
  unplaced_goes high kept low some from to others i =
      (elim (cases_eq i node) [
        | inl at ↦
            subst (λ (j : ℕ). owner_of c j ≡ dropped (has_node (take k nodes) j || (node == j)) j) (sym at)
            (from apart ∙ sym (cond-true (nat_le (2 ^ 63) node && (has_node (take k nodes) node || (node == node)))
            None (owner_of s node)
            (and_from (nat_le (2 ^ 63) node) (has_node (take k nodes) node || (node == node)) high
            (or_right (has_node (take k nodes) node) (node == node) (eq-eqb node node refl)))))
        | inr not_node ↦ elim (cases_eq i kept) [
          | inl at ↦
              subst (λ (j : ℕ). owner_of c j ≡ dropped (has_node (take k nodes) j || (node == j)) j) (sym at)
              (to apart ∙ some_stays (owner_of b kept) (owner_of b node) (subst IsSome (sym stays) some) ∙ stays
              ∙ sym (low_node (has_node (take k nodes) kept || (node == kept)) kept (lt-leb (2 ^ 63) kept low)))
          | inr not_kept ↦
              others i not_node not_kept ∙ so_far i ∙ sym (other_node (has_node (take k nodes) i) i not_node)
        ]
      ]) ∙ sym (then_dropped i)
    where
      apart : node ≢ kept
      apart same = let le = leb-true (2 ^ 63) node high in absurd (omega (arith, le, same, low))

      stays : owner_of b kept ≡ owner_of s kept
      stays = so_far kept ∙ low_node (has_node (take k nodes) kept) kept (lt-leb (2 ^ 63) kept low)

-- ---- all of it

has_all : (ns : List NodeId) (i : ℕ) → Contains (numbers ns) i → has_node ns i ≡ true
has_all ns i has =
    let (n, there, is) = from_map (λ (n : NodeId). n.0) ns i has in
    subst (λ (j : ℕ). has_node ns j ≡ true) (sym is) (one_any (λ (n : NodeId). n.0) ns n there)

all_has : (ns : List NodeId) (i : ℕ) → has_node ns i ≡ true → Contains (numbers ns) i
all_has ns i is =
    let (n, there, at) = any_one (λ (n : NodeId). n.0) i ns is in
    subst (Contains (numbers ns)) at (in_map (λ (n : NodeId). n.0) ns n there)

by_tests : (a : ℕ) (new was high listed : Bool) (o : Option ℕ) → (new ≡ true → high ≡ false)
    → (was ≡ true → new ≡ false → high ≡ true) → (was ≡ true → o ≡ Some a) → (o ≡ Some a → listed ≡ true)
    → (listed ≡ true → o ≡ Some a)
    → cond (high && listed) None (moved a new was o) ≡ cond new (Some a) (cond high (without_owner a o) o)
by_tests a true was true listed o low kept mine to from = absurd (cc (low refl))
by_tests a true was false listed o low kept mine to from = refl
by_tests a false true false listed o low kept mine to from = absurd (cc (kept refl refl))
by_tests a false false false listed o low kept mine to from = refl
by_tests a false true true true None low kept mine to from = refl
by_tests a false true true false None low kept mine to from = refl
by_tests a false false true true None low kept mine to from = refl
by_tests a false false true false None low kept mine to from = refl
by_tests a false was true true (Some b) low kept mine to from =
    let same : b ≡ a = cc (from refl) in sym (cond-true (b == a) None (Some b) (eq-eqb b a same))
by_tests a false true true false (Some b) low kept mine to from = absurd (cc (to (mine refl)))
by_tests a false false true false (Some b) low kept mine to from =
    sym (cond-false (b == a) None (Some b) (ne_eqb b a (λ same. cc (to (ap (λ (n : ℕ). Some n) same)))))

module _ (a : ℕ) (rs : List RenamedCell) (s : AtomsSeen)
    (own : (r : RenamedCell) → Contains rs r → owner_of s (old_name r) ≡ Some a)
    (free : (r : RenamedCell) → Contains rs r → IsFreeNode s r) (owned : List NodeId)
    (mine : (i : ℕ) → Contains (numbers owned) i ↔ (owner_of s i ≡ Some a)) where
  pub owners_all : (i : ℕ) → cond (nat_le (2 ^ 63) i && has_node owned i) None (owner_moved a rs i (owner_of s i))
      ≡ owner_then a rs i (owner_of s i)
  owners_all i =
      by_tests a (has_name (cells_of rs) i) (was_named rs i) (nat_le (2 ^ 63) i) (has_node owned i) (owner_of s i)
      (λ is. let (r, has, at) = one_named rs i is in
      let low = new_placed s rs free r has in
      lt-leb (2 ^ 63) i (omega (arith, low, at)))
      (λ is not. let (r, has, at) = one_was rs i is in
      ⊎_elim
      (λ (same, low). absurd (cc (
      sym (subst (λ (j : ℕ). has_name (cells_of rs) j ≡ true) (sym same ∙ at) (is_named rs r has)) ∙ not)))
      (λ (high, low, none). le-leb (2 ^ 63) i (omega (arith, high, at)))
      (free r has))
      (λ is. let (r, has, at) = one_was rs i is in
      subst (λ (j : ℕ). owner_of s j ≡ Some a) at (own r has))
      (λ is. has_all owned i ((mine i).1 is))
      (λ is. (mine i).0 (all_has owned i is))

-- ---- which atom it is

abbrev pub first_owner : AtomsSeen → List RenamedCell → ℕ
first_owner s [] = 0
first_owner s (r ∷ rs) = unwrap_or (owner_of s (old_name r)) 0

pub is_first_owner : (a : ℕ) (rs : List RenamedCell) (s : AtomsSeen) → (r : RenamedCell) × Contains rs r
    → ((r : RenamedCell) → Contains rs r → owner_of s (old_name r) ≡ Some a) → first_owner s rs ≡ a
is_first_owner a [] s some own = absurd (nothing_in some.0 some.1)
is_first_owner a (r ∷ rs) s some own = ap (λ (o : Option ℕ). unwrap_or o 0) (own r (any_here r rs r refl))
