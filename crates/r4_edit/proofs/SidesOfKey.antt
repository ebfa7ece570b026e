-- The units of a leaf on the two sides of a key.
use Rattle.std.proofs.Common.{◌≡◌, ℕ, ◌+◌, ◌<◌, ◌≤◌, Bool, true, false, List, [], ◌∷◌, ◌++◌, inl, inr, refl, sym, ap, arith}
use Rattle.std.specs.Prelude.{Some, None, nat_le, nat_lt, if◌then◌else◌}
use Rattle.std.proofs.lemmas.Bool.{cases_lt, le-leb, lt-ltb}
use Rattle.std.proofs.lemmas.Bool.Decides.{nat_tests}
use Rattle.r4_base.specs.Value.{Byte, Entry as EntryValue, Stat as StatValue}
use Rattle.r4_path.specs.r4_leaf.Units.{LeafUnit, bytes_behind, cut_units, leaf_bytes, unit_bytes}
use Rattle.r4_path.proofs.r4_leaf.Rising.{Rise, above_kept, below_kept, between_cut, rise_order}
use Rattle.r4_path.proofs.r4_leaf.Weighed.{behind_append, headed, stat_cost}
use Rattle.r4_edit.specs.LeafParts.{first_from, units_below, units_from}

not_from : (k j : ℕ) → j < k → nat_le k j ≡ false
not_from k j lt = grind (arith, nat_tests, lt)

not_below : (k j : ℕ) → k ≤ j → nat_lt j k ≡ false
not_below k j le = grind (arith, nat_tests, le)

pub none_below : (k a b : ℕ) (us : List LeafUnit) → k ≤ a → Rise a b us → units_below k us ≡ []
none_below k a b [] le h = refl
none_below k a b (u ∷ us) le h =
    let low = h.0 in
    let gone = not_below k u.0 (omega (arith, le, low)) in
    let rest = none_below k (u.0 + 1) b us (omega (arith, le, low)) h.1 in
    rw gone rest

pub all_from : (k a b : ℕ) (us : List LeafUnit) → k ≤ a → Rise a b us → units_from k us ≡ us
all_from k a b [] le h = refl
all_from k a b (u ∷ us) le h =
    let low = h.0 in
    let kept = le-leb k u.0 (omega (arith, le, low)) in
    let rest = all_from k (u.0 + 1) b us (omega (arith, le, low)) h.1 in
    rw kept (ap (λ vs. u ∷ vs) rest)

pub sides : (k a b : ℕ) (us : List LeafUnit) → Rise a b us → us ≡ units_below k us ++ units_from k us
sides k a b [] h = refl
sides k a b (u ∷ us) h = elim (cases_lt u.0 k) [
  | inl below ↦
      let kept = lt-ltb u.0 k below in
      let gone = not_from k u.0 below in
      let rest = sides k (u.0 + 1) b us h.1 in
      rw (kept, gone) (ap (λ vs. u ∷ vs) rest)
  | inr past ↦
      let gone = not_below k u.0 past in
      let kept = le-leb k u.0 past in
      let none = none_below k (u.0 + 1) b us (omega (arith, past)) h.1 in
      let all = all_from k (u.0 + 1) b us (omega (arith, past)) h.1 in
      rw (gone, kept, none) (ap (λ vs. u ∷ vs) (sym all))
]

pub rise_below : (k a b : ℕ) (us : List LeafUnit) → a ≤ k → Rise a b us → Rise a k (units_below k us)
rise_below k a b [] le h = le
rise_below k a b (u ∷ us) le h = elim (cases_lt u.0 k) [
  | inl below ↦
      let kept = lt-ltb u.0 k below in
      let rest = rise_below k (u.0 + 1) b us (omega (arith, below)) h.1 in
      rw kept (h.0, rest)
  | inr past ↦
      let gone = not_below k u.0 past in
      let none = none_below k (u.0 + 1) b us (omega (arith, past)) h.1 in
      rw (gone, none) le
]

pub rise_from : (k a b : ℕ) (us : List LeafUnit) → k ≤ b → Rise a b us → Rise k b (units_from k us)
rise_from k a b [] le h = le
rise_from k a b (u ∷ us) le h = elim (cases_lt u.0 k) [
  | inl below ↦
      let gone = not_from k u.0 below in
      let rest = rise_from k (u.0 + 1) b us le h.1 in
      rw gone rest
  | inr past ↦
      let kept = le-leb k u.0 past in
      let all = all_from k (u.0 + 1) b us (omega (arith, past)) h.1 in
      rw (kept, all) (past, h.1)
]

pub below_twice : (k : ℕ) (us : List LeafUnit) → units_below k (units_below k us) ≡ units_below k us
below_twice k [] = refl
below_twice k (u ∷ us) = by_test (nat_lt u.0 k) refl (below_twice k us)
  where
    by_test : (t : Bool) → nat_lt u.0 k ≡ t → units_below k (units_below k us) ≡ units_below k us → units_below k (if t then u ∷ units_below k us else units_below k us) ≡ (if t then u ∷ units_below k us else units_below k us)
    by_test true is rest = rw is (ap (λ vs. u ∷ vs) rest)
    by_test false is rest = rest

-- ---- as what is left of cuts

pub cut_behind : (k hi a b : ℕ) (us : List LeafUnit) → b ≤ hi → Rise a b us → cut_units k hi us ≡ units_below k us
cut_behind k hi a b [] le h = refl
cut_behind k hi a b (u ∷ us) le h = elim (cases_lt u.0 k) [
  | inl below ↦
      let kept = below_kept k hi u.0 below in
      let there = lt-ltb u.0 k below in
      let rest = cut_behind k hi (u.0 + 1) b us le h.1 in
      rw (kept, there) (ap (λ vs. u ∷ vs) rest)
  | inr past ↦
      let order = rise_order (u.0 + 1) b us h.1 in
      let gone = between_cut k hi u.0 past (omega (arith, le, order)) in
      let out = not_below k u.0 past in
      let rest = cut_behind k hi (u.0 + 1) b us le h.1 in
      rw (gone, out) rest
]

pub cut_before : (k lo a b : ℕ) (us : List LeafUnit) → lo ≤ a → Rise a b us → cut_units lo k us ≡ units_from k us
cut_before k lo a b [] le h = refl
cut_before k lo a b (u ∷ us) le h = elim (cases_lt u.0 k) [
  | inl below ↦
      let low = h.0 in
      let gone = between_cut lo k u.0 (omega (arith, le, low)) below in
      let out = not_from k u.0 below in
      let rest = cut_before k lo (u.0 + 1) b us (omega (arith, le, low)) h.1 in
      rw (gone, out) rest
  | inr past ↦
      let low = h.0 in
      let kept = above_kept lo k u.0 past in
      let there = le-leb k u.0 past in
      let rest = cut_before k lo (u.0 + 1) b us (omega (arith, le, low)) h.1 in
      rw (kept, there) (ap (λ vs. u ∷ vs) rest)
]

-- ---- the first one

same_first : (x y : LeafUnit) (xs ys : List LeafUnit) → x ∷ xs ≡ y ∷ ys → x ≡ y
same_first x y xs ys h = cc

pub first_is : (k : ℕ) (us : List LeafUnit) (u : LeafUnit) (rest : List LeafUnit) → units_from k us ≡ u ∷ rest → first_from k us ≡ Some u.0
first_is k [] u rest e = absurd cc
first_is k (v ∷ us) u rest e = by_test (nat_le k v.0) (λ h. first_is k us u rest h) e
  where
    by_test : (t : Bool) → (units_from k us ≡ u ∷ rest → first_from k us ≡ Some u.0) → (if t then v ∷ units_from k us else units_from k us) ≡ u ∷ rest → (if t then Some v.0 else first_from k us) ≡ Some u.0
    by_test true later h = ap (λ (x : LeafUnit). Some x.0) (same_first v u (units_from k us) rest h)
    by_test false later h = later h

pub none_from : (k : ℕ) (us : List LeafUnit) → units_from k us ≡ [] → first_from k us ≡ None
none_from k [] e = refl
none_from k (v ∷ us) e = by_test (nat_le k v.0) (λ h. none_from k us h) e
  where
    by_test : (t : Bool) → (units_from k us ≡ [] → first_from k us ≡ None) → (if t then v ∷ units_from k us else units_from k us) ≡ [] → (if t then Some v.0 else first_from k us) ≡ None
    by_test true later h = absurd cc
    by_test false later h = later h

-- ---- the bytes that they take up

byte_alone : (k x : ℕ) → unit_bytes None (k, Byte x) ≡ 39
unfolding unit_bytes
byte_alone k x = refl

-- a header for the next unit costs no more than the unit before it
first_pays : (u v : LeafUnit) → unit_bytes None v ≤ unit_bytes None u + unit_bytes (Some u) v
unfolding unit_bytes
first_pays (k, StatValue a) v =
    let cost = stat_cost None k a in
    let h = (headed (Some (k, StatValue a)) v).1 in
    omega (arith, cost, h)
first_pays (k, EntryValue name target) v = let h = (headed (Some (k, EntryValue name target)) v).1 in omega (arith, h)
first_pays (k, Byte x) (j, StatValue a) = omega arith
first_pays (k, Byte x) (j, EntryValue name target) = omega arith
first_pays (k, Byte x) (j, Byte y) = omega arith

without_first : (u : LeafUnit) (us : List LeafUnit) → leaf_bytes us ≤ leaf_bytes (u ∷ us)
unfolding bytes_behind
without_first u [] = omega arith
without_first u (v ∷ us) = let pays = first_pays u v in omega (arith, pays)

less_behind : (us vs : List LeafUnit) → leaf_bytes vs ≤ leaf_bytes (us ++ vs)
less_behind [] vs = omega arith
less_behind (u ∷ us) vs = let rest = less_behind us vs in let one = without_first u (us ++ vs) in omega (arith, rest, one)

pub below_fits : (k a b : ℕ) (us : List LeafUnit) → Rise a b us → leaf_bytes (units_below k us) ≤ leaf_bytes us
below_fits k a b us h =
    let all = ap leaf_bytes (sides k a b us h) in
    let both = behind_append None (units_below k us) (units_from k us) in
    omega (arith, all, both)

pub from_fits : (k a b : ℕ) (us : List LeafUnit) → Rise a b us → leaf_bytes (units_from k us) ≤ leaf_bytes us
from_fits k a b us h =
    let all = ap leaf_bytes (sides k a b us h) in
    let less = less_behind (units_below k us) (units_from k us) in
    omega (arith, all, less)
