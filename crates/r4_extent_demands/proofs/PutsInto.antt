-- Whether values are put into the ranges of extents.
use Rattle.std.specs.Prelude.{◌≡◌, ◌↔◌, ℕ, ◌+◌, ◌^◌, List, [], ◌∷◌, ◌++◌, map, All, Contains}
use Rattle.std.specs.Prelude.{Bool, true, false, not, ◌&&◌, ◌||◌, ◌==◌, cond, nat_lt, Option, None, Some, if◌then◌else◌}
use Rattle.std.proofs.Common.{arith, inl, inr, refl, sym, ap, subst, ◌∙◌}
use Rattle.std.specs.List.{filter, flat_map, list_any}
use Rattle.std.specs.FinMap.{find}
use Rattle.std.specs.Option.{is_some}
use Rattle.std.specs.Ordering.{nat_cmp}
use Rattle.std.proofs.lemmas.Bool.{and_from, and_parts, both_ways, leb-true, le-leb, lt-ltb, ltb-true, or_cases, or_left, or_right}
use Rattle.std.proofs.lemmas.List.Elements.{All-head, All-tail, filter-append}
use Rattle.r4_base.specs.Key.{rank}
use Rattle.r4_base.specs.Tree.{Span}
use Rattle.r4_base.specs.Value.{Byte, Value}
use Rattle.r4_base.specs.declared.key.Key.{Key}
use Rattle.r4_base.specs.declared.values.Value.{Value as HeldValue}
use Rattle.r4_content.specs.Edited.{Edits, Pairs, is_between, is_in, put_keys}
use Rattle.r4_content.specs.Held.{edits_of, fill_pairs, pair_of, run_pairs}
use Rattle.r4_content.specs.Listed.{list_edited}
use Rattle.r4_content.specs.declared.edits.Edits.{Edits as HeldEdits}
use Rattle.r4_content.proofs.EditLaws.{in_append, last_put, put_off, put_on}
use Rattle.r4_bodies.specs.r4_leaf_edits.Suiting.{IsBefore, SuitLeaves, is_byte, zero_pairs}
use Rattle.r4_bodies.proofs.r4_leaf_edits.Clipped.{all_left, all_right}
use Rattle.r4_bodies.proofs.r4_leaf_edits.Lookups.{found, in_is_found, kept_found}
use Rattle.r4_bodies.proofs.r4_leaf_edits.Lookups.{here as here_key}
use Rattle.r4_bodies.proofs.r4_leaf_edits.Touched.{values_met}
use Rattle.r4_bodies.proofs.r4_leaf_edits.Whole.{fills_filter, runs_filter}
use Rattle.r4_extent_demands.proofs.Meets.{keys_meet, met_keys}
use Rattle.r4_bodies.specs.r4_leaf.Units.{LeafUnit}
use Rattle.r4_bodies.proofs.r4_leaf_edits.r4_patch.Members.{cases, here, later, none}
use Rattle.r4_bodies.specs.r4_leaf_edits.r4_reach.Needs.{is_met, leaf_edits, leaves_for}
use Rattle.r4_bodies.specs.r4_leaf_edits.r4_reach.Reach.{is_body}
use Rattle.r4_bodies.specs.r4_leaf_edits.r4_reach.Touched.{Body, first_byte, is_spread}
use Rattle.r4_extent_demands.specs.Putting.{leaves_in, put_into}
use Rattle.r4_extent_demands.specs.Ranges.{puts_into}
use Rattle.r4_extent_demands.proofs.Puts.{leaves_more}

-- ---- two tests

pub same_bool : (t u : Bool) → (t ≡ true → u ≡ true) → (u ≡ true → t ≡ true) → t ≡ u
same_bool true u f g = sym (f refl)
same_bool false true f g = g refl
same_bool false false f g = refl

pub any_there : {X : Type 0} (p : X → Bool) (xs : List X) (x : X) → Contains xs x → p x ≡ true → list_any p xs ≡ true
any_there p [] x at h = absurd (none x at)
any_there p (y ∷ ys) x at h = elim (cases y x ys at) [
  | inl same ↦ or_left (p y) (list_any p ys) (ap p (sym same) ∙ h)
  | inr more ↦ or_right (p y) (list_any p ys) (any_there p ys x more h)
]

pub there_any : {X : Type 0} (p : X → Bool) (xs : List X) → list_any p xs ≡ true
    → (x : X) × Contains xs x × (p x ≡ true)
there_any p [] e = absurd (both_ways false refl e)
there_any p (y ∷ ys) e = elim (or_cases (p y) (list_any p ys) e) [
  | inl first ↦ (y, here y ys, first)
  | inr rest ↦ (let (x, at, h) = there_any p ys rest in (x, later y x ys at, h))
]

-- a test that holds of one of them
pub any_is : {X : Type 0} (t : Bool) (p : X → Bool) (xs : List X)
    → (t ≡ true) ↔ ((x : X) × Contains xs x × (p x ≡ true)) → t ≡ list_any p xs
any_is t p xs h = same_bool t (list_any p xs)
    (λ e. let (x, at, is) = h.0 e in any_there p xs x at is) (λ e. h.1 (there_any p xs e))

-- ---- which keys the values have that are put into a range

last_some : (ps : Pairs) (k : ℕ) (v : Value) → is_some (last_put ps k (Some v)) ≡ true
last_some [] k v = refl
last_some (p ∷ ps) k v = by_test (k == p.0) (last_some ps k p.1) (last_some ps k v)
  where
    by_test : (t : Bool) → is_some (last_put ps k (Some p.1)) ≡ true → is_some (last_put ps k (Some v)) ≡ true
        → is_some (last_put ps k (cond t (Some p.1) (Some v))) ≡ true
    by_test true f g = f
    by_test false f g = g

last_is : (ps : Pairs) (k : ℕ) (z c : Bool) → is_some (last_put ps k (cond z (Some (Byte 0)) (cond c None None)))
    ≡ (is_in (put_keys ps) k || z)
last_is ps k z c = by_test (is_in (put_keys ps) k) refl
  where
    some_start : (x y : Bool) → is_some (cond x (Some (Byte 0)) (cond y None None)) ≡ x
    some_start true y = refl
    some_start false true = refl
    some_start false false = refl

    by_test : (t : Bool) → is_in (put_keys ps) k ≡ t
        → is_some (last_put ps k (cond z (Some (Byte 0)) (cond c None None))) ≡ (t || z)
    by_test true e = ap is_some (put_on ps k (cond z (Some (Byte 0)) (cond c None None)) (Some (Byte 0)) e)
        ∙ last_some ps k (Byte 0)
    by_test false e = ap is_some (put_off ps k (cond z (Some (Byte 0)) (cond c None None)) e) ∙ some_start z c

kept_some : (t : Bool) (o : Option Value) → is_some (cond t o None) ≡ (t && is_some o)
kept_some true o = refl
kept_some false o = refl

module _ (b : Option Body) (e : Edits) (lo hi : ℕ) where
  keys_are : (k : ℕ) → is_in (put_keys (put_into b e lo hi)) k
      ≡ (is_between lo hi k && (is_in (put_keys (leaf_edits b e).puts) k || is_in (leaf_edits b e).zeros k))
  keys_are k =
      in_is_found (put_into b e lo hi) k
      ∙ ap is_some (kept_found (is_between lo hi) (list_edited (leaf_edits b e) []) k)
      ∙ kept_some (is_between lo hi k) (find nat_cmp k (list_edited (leaf_edits b e) []))
      ∙ ap (λ (t : Bool). is_between lo hi k && t) (ap is_some (found (leaf_edits b e) [] k tt)
      ∙ last_is (leaf_edits b e).puts k (is_in (leaf_edits b e).zeros k) (is_in (leaf_edits b e).cuts k))

  flip : (x y : Bool) → (x || y) ≡ true → (y || x) ≡ true
  flip true true h = refl
  flip true false h = refl
  flip false true h = refl
  flip false false h = absurd (both_ways false refl h)

  -- a unit that is put there has such a key
  unit_into : (u : LeafUnit) (us : List LeafUnit) → put_into b e lo hi ≡ u ∷ us
      → is_met ((leaf_edits b e).zeros ++ put_keys (leaf_edits b e).puts) lo hi ≡ true
  unit_into u us is =
      let at : is_in (put_keys (put_into b e lo hi)) u.0 ≡ true = ap (λ (ps : Pairs). is_in (put_keys ps) u.0) is
      ∙ or_left (is_between u.0 (u.0 + 1) u.0) (is_in (put_keys us) u.0) (here_key u) in
      let (range, keys) = and_parts (is_between lo hi u.0)
      (is_in (put_keys (leaf_edits b e).puts) u.0 || is_in (leaf_edits b e).zeros u.0) (sym (keys_are u.0) ∙ at) in
      let (low, high) = and_parts _ _ range in
      keys_meet ((leaf_edits b e).zeros ++ put_keys (leaf_edits b e).puts) lo hi (
        u.0,
        in_append (leaf_edits b e).zeros (put_keys (leaf_edits b e).puts) u.0
            ∙ flip (is_in (put_keys (leaf_edits b e).puts) u.0) (is_in (leaf_edits b e).zeros u.0) keys,
        leb-true lo u.0 low,
        ltb-true u.0 hi high,
      )

  into_some : (us : List LeafUnit) → put_into b e lo hi ≡ us
      → is_met ((leaf_edits b e).zeros ++ put_keys (leaf_edits b e).puts) lo hi ≡ true → nat_lt 0 (leaves_for us) ≡ true
  into_some [] is met =
      let (k, at, low, high) = met_keys ((leaf_edits b e).zeros ++ put_keys (leaf_edits b e).puts) lo hi met in
      let keys = flip (is_in (leaf_edits b e).zeros k) (is_in (put_keys (leaf_edits b e).puts) k)
      (sym (in_append (leaf_edits b e).zeros (put_keys (leaf_edits b e).puts) k) ∙ at) in
      let there = keys_are k ∙ and_from (is_between lo hi k)
      (is_in (put_keys (leaf_edits b e).puts) k || is_in (leaf_edits b e).zeros k)
      (and_from _ _ (le-leb lo k low) (lt-ltb k hi high)) keys in
      absurd (both_ways false refl (sym (ap (λ (ps : Pairs). is_in (put_keys ps) k) is) ∙ there))
  into_some (u ∷ us) is met = lt-ltb 0 (leaves_for (u ∷ us)) (omega arith)

  some_into : (us : List LeafUnit) → put_into b e lo hi ≡ us → nat_lt 0 (leaves_for us) ≡ true
      → is_met ((leaf_edits b e).zeros ++ put_keys (leaf_edits b e).puts) lo hi ≡ true
  some_into [] is some = absurd (both_ways false refl some)
  some_into (u ∷ us) is some = unit_into u us is

  pub into_is : nat_lt 0 (leaves_for (put_into b e lo hi))
      ≡ is_met ((leaf_edits b e).zeros ++ put_keys (leaf_edits b e).puts) lo hi
  into_is = same_bool _ _ (some_into (put_into b e lo hi) refl) (into_some (put_into b e lo hi) refl)

sum_some : (m n : ℕ) → nat_lt 0 (m + n) ≡ (nat_lt 0 m || nat_lt 0 n)
sum_some m n = grind arith

pub among_is : (b : Option Body) (e : Edits) (ss : List Span) → nat_lt 0 (leaves_in b e ss) ≡ list_any (puts_into b e) ss
among_is b e [] = refl
among_is b e (s ∷ ss) =
    ap (nat_lt 0) (leaves_more b e s ss) ∙ sum_some (leaves_for (put_into b e s.lo s.hi)) (leaves_in b e ss)
    ∙ (λ i. into_is b e s.lo s.hi i || among_is b e ss i)

-- ---- where the body stands in extents afterwards

abbrev others : Pairs → Pairs
others ps = filter (λ p. not (is_body p.0)) ps

no_others : (end : ℕ) (ps : Pairs) → All (IsBefore end) ps → others ps ≡ []
no_others end [] all = refl
no_others end (p ∷ ps) all = by_test (is_body p.0) (All-head (IsBefore end) p ps all).0
    (no_others end ps (All-tail (IsBefore end) p ps all))
  where
    by_test : (t : Bool) → t ≡ true → others ps ≡ [] → (if not t then p ∷ others ps else others ps) ≡ []
    by_test true is rest = rest
    by_test false is rest = absurd (both_ways false refl is)

strip : (x y : Bool) → (x || false) ≡ (y || false) → x ≡ y
strip true true e = refl
strip true false e = e
strip false true e = e
strip false false e = refl

one_value : (lo hi : ℕ) (v : Key × HeldValue) → is_met (put_keys (pair_of v ∷ [])) lo hi ≡ is_between lo hi (rank v.0)
one_value lo hi v = strip _ (is_between lo hi (rank v.0)) (flat ∙ values_met lo hi (v ∷ []))
  where
    flat : (is_met (put_keys (pair_of v ∷ [])) lo hi || false) ≡ is_met (put_keys (pair_of v ∷ [])) lo hi
    flat = or_nothing (is_met (put_keys (pair_of v ∷ [])) lo hi)
      where
        or_nothing : (t : Bool) → (t || false) ≡ t
        or_nothing true = refl
        or_nothing false = refl

values_others : (lo hi : ℕ) (vs : List (Key × HeldValue)) → is_met (put_keys (others (map pair_of vs))) lo hi
    ≡ list_any (λ p. is_between lo hi (rank p.0) && not (is_body (rank p.0))) vs
values_others lo hi [] = refl
values_others lo hi (v ∷ vs) = by_test (is_body (rank v.0)) (values_others lo hi vs) (one_value lo hi v)
  where
    and_false : (x r : Bool) → r ≡ ((x && false) || r)
    and_false true r = refl
    and_false false r = refl

    and_true : (m x r q : Bool) → (m || false) ≡ x → q ≡ r → (m || q) ≡ ((x && true) || r)
    and_true true x r q e f = ap (λ (t : Bool). (t && true) || r) e
    and_true false x r q e f = f ∙ ap (λ (t : Bool). (t && true) || r) e

    by_test : (t : Bool) → is_met (put_keys (others (map pair_of vs))) lo hi
        ≡ list_any (λ p. is_between lo hi (rank p.0) && not (is_body (rank p.0))) vs
        → is_met (put_keys (pair_of v ∷ [])) lo hi ≡ is_between lo hi (rank v.0)
        → is_met (put_keys (if not t then pair_of v ∷ others (map pair_of vs) else others (map pair_of vs))) lo hi
        ≡ ((is_between lo hi (rank v.0) && not t)
        || list_any (λ p. is_between lo hi (rank p.0) && not (is_body (rank p.0))) vs)
    by_test true rest one = rest ∙ and_false (is_between lo hi (rank v.0)) _
    by_test false rest one = and_true _ (is_between lo hi (rank v.0)) _ _ one rest

-- fills and runs set bytes of bodies alone
module _ (h : HeldEdits) (end : ℕ) (suit : SuitLeaves end (edits_of h)) where
  set_bytes : All (IsBefore end) (filter (λ p. is_byte p.1) (edits_of h).puts)
  set_bytes = all_right (IsBefore end) (flat_map zero_pairs (edits_of h).zeros)
      (filter (λ p. is_byte p.1) (edits_of h).puts) suit.bytes

  filtered : filter (λ p. is_byte p.1) (edits_of h).puts ≡ flat_map fill_pairs h.fills.items
      ++ (flat_map run_pairs h.runs.items ++ filter (λ p. is_byte p.1) (map pair_of h.puts.items))
  filtered =
      filter-append (λ p. is_byte p.1) (flat_map fill_pairs h.fills.items)
      (flat_map run_pairs h.runs.items ++ map pair_of h.puts.items)
      ∙ (λ i. fills_filter h.fills.items i
      ++ (filter-append (λ p. is_byte p.1) (flat_map run_pairs h.runs.items) (map pair_of h.puts.items)
      ∙ ap (λ (ps : Pairs). ps ++ filter (λ p. is_byte p.1) (map pair_of h.puts.items)) (runs_filter h.runs.items)) i)

  all_set : All (IsBefore end) (flat_map fill_pairs h.fills.items
      ++ (flat_map run_pairs h.runs.items ++ filter (λ p. is_byte p.1) (map pair_of h.puts.items)))
  all_set = subst (λ (ps : Pairs). All (IsBefore end) ps) filtered set_bytes

  others_are : others (edits_of h).puts ≡ others (map pair_of h.puts.items)
  others_are =
      filter-append (λ p. not (is_body p.0)) (flat_map fill_pairs h.fills.items)
      (flat_map run_pairs h.runs.items ++ map pair_of h.puts.items)
      ∙ (λ i. no_others end (flat_map fill_pairs h.fills.items) (all_left (IsBefore end)
      (flat_map fill_pairs h.fills.items) _ all_set) i
      ++ (filter-append (λ p. not (is_body p.0)) (flat_map run_pairs h.runs.items) (map pair_of h.puts.items)
      ∙ ap (λ (ps : Pairs). ps ++ others (map pair_of h.puts.items))
      (no_others end (flat_map run_pairs h.runs.items) (all_left (IsBefore end) (flat_map run_pairs h.runs.items) _
      (all_right (IsBefore end) (flat_map fill_pairs h.fills.items) _ all_set)))) i)

  pub spread_into : (b : Body) (s : Span) → is_spread b ≡ true → puts_into (Some b) (edits_of h) s
      ≡ list_any (λ p. is_between s.lo s.hi (rank p.0) && not (is_body (rank p.0))) h.puts.items
  spread_into b s is =
      ap (λ (e : Edits). is_met (e.zeros ++ put_keys e.puts) s.lo s.hi) (ap chosen is)
      ∙ ap (λ (ps : Pairs). is_met (put_keys ps) s.lo s.hi) others_are ∙ values_others s.lo s.hi h.puts.items
    where
      chosen : Bool → Edits
      chosen t = if t then record {
        cuts = (first_byte b, first_byte b + 2 ^ 64) ∷ (edits_of h).cuts;
        zeros = [];
        puts = filter (λ p. not (is_body p.0)) (edits_of h).puts;
      } else edits_of h

-- it stands in none
pub plain_into : (b : Body) (e : Edits) (s : Span) → is_spread b ≡ false → puts_into (Some b) e s ≡ puts_into None e s
plain_into b e s off = ap (λ (x : Edits). is_met (x.zeros ++ put_keys x.puts) s.lo s.hi) (ap chosen off)
  where
    chosen : Bool → Edits
    chosen t = if t then record {
      cuts = (first_byte b, first_byte b + 2 ^ 64) ∷ e.cuts;
      zeros = [];
      puts = filter (λ p. not (is_body p.0)) e.puts;
    } else e
