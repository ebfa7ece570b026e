-- What leaves ask for after a command, bodies in extents included.
use Rattle.std.specs.Prelude.{◌≡◌, ◌⊎◌, ℕ, zero, suc, ◌+◌, ◌-◌, ◌^◌, ◌≤◌, ◌==◌, List, [], ◌∷◌, length, All, min}
use Rattle.std.specs.Prelude.{Bool, true, false, not, ◌&&◌, ◌||◌, cond, nat_le, nat_lt, if◌then◌else◌, Option, None, Some}
use Rattle.std.proofs.Common.{arith, inl, inr, refl, sym, ap, subst, ◌∙◌}
use Rattle.std.specs.List.{filter}
use Rattle.std.specs.FinMap.{find}
use Rattle.std.specs.Option.{is_some}
use Rattle.std.specs.Ordering.{nat_cmp}
use Rattle.std.proofs.lemmas.Bool.{and_from, and_parts, both_ways, eqb-true, leb-true, le-leb, lt-ltb, ltb-true, ne_eqb, or_cases, or_left, or_right}
use Rattle.std.proofs.lemmas.Bool.Decides.{nat_tests}
use Rattle.std.proofs.lemmas.List.Elements.{All-cons, All-head, All-nil, All-tail}
use Rattle.r4_base.specs.Cell.{cell_fault, units_in}
use Rattle.r4_base.specs.Key.{rank}
use Rattle.r4_base.specs.Node.{Item, items_of}
use Rattle.r4_base.specs.Value.{Byte, Value}
use Rattle.r4_units.specs.r4_cell.Seen.{CellSeen, node_of}
use Rattle.r4_content.specs.Edited.{Edits, Pairs, is_between, is_in, put_keys}
use Rattle.r4_content.specs.Listed.{list_edited}
use Rattle.r4_content.specs.Seen.{Rises}
use Rattle.r4_content.proofs.EditLaws.{last_put, one_key}
use Rattle.r4_twig_asks.specs.r4_leaf.Remade.{AreWithin, CanPutAll, cut_all, put_all, units_after as units_left}
use Rattle.r4_twig_asks.specs.r4_leaf.Units.{LeafUnit, bytes_behind, cut_units, leaf_bytes}
use Rattle.r4_twig_asks.specs.r4_leaf.declared.remaking.Given.{Given}
use Rattle.r4_twig_asks.specs.r4_leaf.declared.remaking.KeyRange.{KeyRange}
use Rattle.r4_extent_asks.proofs.Measured.{of_leaf}
use Rattle.r4_twig_asks.specs.r4_leaf_edits.Made.{AreOfLeaf, MakesEdits}
use Rattle.r4_twig_asks.proofs.r4_leaf_edits.Lookups.{contains_in, found, in_is_found, kept_found, kept_rises}
use Rattle.r4_twig_asks.proofs.r4_leaf_edits.Lookups.{here as here_key}
use Rattle.r4_twig_asks.proofs.r4_path.CellNodes.{units_are}
use Rattle.r4_twig_asks.proofs.r4_path.Rising.{hi_is, lo_is}
use Rattle.r4_twig_asks.specs.r4_reach.Needs.{asking, come_of, cut_in_two, is_gone, leaf_asks, leaf_edits, meets, over, units_after}
use Rattle.r4_twig_asks.specs.r4_reach.Touched.{Body}
use Rattle.r4_twig_asks.proofs.r4_extent_demands.Puts.{leaves_none, leaves_some}
use Rattle.r4_twig_asks.proofs.r4_extent_demands.PutsInto.{same_bool, there_any}
use Rattle.r4_extent_asks.specs.Behind.{has_behind}

-- ---- which units a leaf has afterwards

keys_after : (lo hi : ℕ) (e : Edits) (us : Pairs) (k : ℕ) → Rises us
    → is_in (put_keys (filter (λ u. is_between lo hi u.0) (list_edited e us))) k
    ≡ (is_between lo hi k && is_some (last_put e.puts k
    (cond (is_in e.zeros k) (Some (Byte 0)) (cond (is_in e.cuts k) None (find nat_cmp k us)))))
keys_after lo hi e us k up =
    in_is_found (filter (λ u. is_between lo hi u.0) (list_edited e us)) k
    ∙ ap is_some (kept_found (is_between lo hi) (list_edited e us) k)
    ∙ kept_some (is_between lo hi k) (find nat_cmp k (list_edited e us))
    ∙ ap (λ (o : Option Value). is_between lo hi k && is_some o) (found e us k up)
  where
    kept_some : (t : Bool) (o : Option Value) → is_some (cond t o None) ≡ (t && is_some o)
    kept_some true o = refl
    kept_some false o = refl

-- a key that is there, at or behind another one
behind_there : (from k : ℕ) (us : List LeafUnit) → from ≤ k → is_in (put_keys us) k ≡ true → has_behind from us ≡ true
behind_there from k [] le at = absurd (both_ways false refl at)
behind_there from k (u ∷ us) le at = elim (or_cases (is_between u.0 (u.0 + 1) k) (is_in (put_keys us) k) at) [
  | inl first ↦
      let same = eqb-true k u.0 (sym (one_key k u.0) ∙ first) in
      or_left (nat_le from u.0) (has_behind from us) (le-leb from u.0 (omega (arith, le, same)))
  | inr rest ↦ or_right (nat_le from u.0) (has_behind from us) (behind_there from k us le rest)
]

there_behind : (from : ℕ) (us : List LeafUnit) → has_behind from us ≡ true
    → (k : ℕ) × (from ≤ k) × (is_in (put_keys us) k ≡ true)
there_behind from us e =
    let (u, at, le) = there_any (λ (u : LeafUnit). nat_le from u.0) us e in
    (u.0, leb-true from u.0 le, contains_in us u.0 u.1 at)

some_units : (us : List LeafUnit) (k : ℕ) → is_in (put_keys us) k ≡ true → 1 ≤ leaf_bytes us
some_units [] k at = absurd (both_ways false refl at)
some_units (u ∷ us) k at = elim (cases_zero (leaf_bytes (u ∷ us))) [
  | inl none ↦ (let z = leaves_none (u ∷ us) none in absurd (omega (arith, z)))
  | inr some ↦ some
]
  where
    cases_zero : (n : ℕ) → (n ≡ 0) ⊎ (1 ≤ n)
    cases_zero zero = inl refl
    cases_zero (suc n) = inr (omega arith)

units_some : (us : List LeafUnit) → 1 ≤ leaf_bytes us → (k : ℕ) × (is_in (put_keys us) k ≡ true)
units_some [] some = let n = leaves_some [] (leaf_bytes []) refl some in absurd (omega (arith, n))
units_some (u ∷ us) some = (u.0, or_left (is_between u.0 (u.0 + 1) u.0) (is_in (put_keys us) u.0) (here_key u))

pub within_low : (lo from hi : ℕ) (gs : List Given) → lo ≤ from → AreWithin from hi gs → AreWithin lo hi gs
within_low lo from hi [] le h = tt
within_low lo from hi (g ∷ gs) le h = let a = h.0 in (omega (arith, a, le), h.1, within_low lo from hi gs le h.2)

-- ---- units that stay behind a key

module _ (x : CellSeen) (level : x.level ≡ 1) (whole : length x.block ≡ 4096)
    (stands : cell_fault true (2 ^ 64) x.level (rank x.lo) (rank x.hi) x.block ≡ None)
    (from : ℕ) (low : rank x.lo ≤ from) (high : from ≤ rank x.hi) where
  pub le : rank x.lo ≤ rank x.hi
  le = omega (arith, low, high)

  leaf : AreOfLeaf (rank x.lo) (rank x.hi) (node_of x).units
  leaf = of_leaf x level whole stands le

  abbrev rest : List LeafUnit
  rest = cut_units (rank x.lo) from (node_of x).units

  kept_within : (us : List LeafUnit) → All (λ (u : LeafUnit). is_between (rank x.lo) (rank x.hi) u.0 ≡ true) us
      → All (λ (u : LeafUnit). is_between from (rank x.hi) u.0 ≡ true) (cut_units (rank x.lo) from us)
  kept_within [] all = All-nil (λ (u : LeafUnit). is_between from (rank x.hi) u.0 ≡ true)
  kept_within (u ∷ us) all = by_test (is_between (rank x.lo) from u.0) refl
      (All-head (λ (v : LeafUnit). is_between (rank x.lo) (rank x.hi) v.0 ≡ true) u us all)
      (kept_within us (All-tail (λ (v : LeafUnit). is_between (rank x.lo) (rank x.hi) v.0 ≡ true) u us all))
    where
      later_key : is_between (rank x.lo) from u.0 ≡ false → is_between (rank x.lo) (rank x.hi) u.0 ≡ true
          → is_between from (rank x.hi) u.0 ≡ true
      later_key off on = grind (arith, off, on)

      by_test : (t : Bool) → is_between (rank x.lo) from u.0 ≡ t → is_between (rank x.lo) (rank x.hi) u.0 ≡ true
          → All (λ (v : LeafUnit). is_between from (rank x.hi) v.0 ≡ true) (cut_units (rank x.lo) from us)
          → All (λ (v : LeafUnit). is_between from (rank x.hi) v.0 ≡ true)
          (if not t then u ∷ cut_units (rank x.lo) from us else cut_units (rank x.lo) from us)
      by_test true off on all = all
      by_test false off on all = All-cons (λ (v : LeafUnit). is_between from (rank x.hi) v.0 ≡ true) u
          (cut_units (rank x.lo) from us) (later_key off on) all

  pub of_rest : AreOfLeaf from (rank x.hi) (cut_units (rank x.lo) from (node_of x).units)
  of_rest = record {
    rises = kept_rises (λ k. not (is_between (rank x.lo) from k)) (node_of x).units leaf.rises;
    within = kept_within (node_of x).units leaf.within;
  }

  module _ (b : Option Body) (e : Edits) where
    abbrev stays : ℕ → Bool
    stays k = is_some (last_put (leaf_edits b e).puts k (cond (is_in (leaf_edits b e).zeros k) (Some (Byte 0))
        (cond (is_in (leaf_edits b e).cuts k) None (find nat_cmp k (node_of x).units))))

    after_keys : (k : ℕ) → is_in (put_keys (units_after b e (node_of x))) k
        ≡ (is_between (rank x.lo) (rank x.hi) k && stays k)
    after_keys k = keys_after (node_of x).lo (node_of x).hi (leaf_edits b e) (node_of x).units k leaf.rises
        ∙ (λ i. is_between (lo_is x i) (hi_is x i) k && stays k)

    later_found : (k : ℕ) → from ≤ k → find nat_cmp k (cut_units (rank x.lo) from (node_of x).units)
        ≡ find nat_cmp k (node_of x).units
    later_found k le_k = kept_found (λ j. not (is_between (rank x.lo) from j)) (node_of x).units k
        ∙ ap (λ (t : Bool). cond (not t) (find nat_cmp k (node_of x).units) None) off
      where
        off : is_between (rank x.lo) from k ≡ false
        off = grind (arith, le_k)

    rest_keys : (k : ℕ) → from ≤ k → is_in (put_keys (filter (λ u. is_between from (rank x.hi) u.0)
        (list_edited (leaf_edits b e) (cut_units (rank x.lo) from (node_of x).units)))) k
        ≡ (is_between from (rank x.hi) k && stays k)
    rest_keys k le_k = keys_after from (rank x.hi) (leaf_edits b e) (cut_units (rank x.lo) from (node_of x).units) k
        of_rest.rises
        ∙ ap (λ (o : Option Value). is_between from (rank x.hi) k && is_some (last_put (leaf_edits b e).puts k
        (cond (is_in (leaf_edits b e).zeros k) (Some (Byte 0)) (cond (is_in (leaf_edits b e).cuts k) None o))))
        (later_found k le_k)

    module _ (cuts : List KeyRange) (gs : List Given)
        (m : MakesEdits from (rank x.hi) (leaf_edits b e) cuts gs (cut_units (rank x.lo) from (node_of x).units)) where
      abbrev made : List LeafUnit
      made = put_all gs (cut_all cuts (cut_units (rank x.lo) from (node_of x).units))

      low_key : (k : ℕ) → is_in (put_keys made) k ≡ true → from ≤ k
      low_key k at =
          let (range, value) = and_parts (is_between from (rank x.hi) k) _ (sym (keys_after from (rank x.hi)
          (leaf_edits b e) (cut_units (rank x.lo) from (node_of x).units) k of_rest.rises)
          ∙ ap (λ (us : Pairs). is_in (put_keys us) k) (sym m.units) ∙ at) in
          leb-true from k (and_parts (nat_le from k) (nat_lt k (rank x.hi)) range).0

      made_on : 1 ≤ leaf_bytes made → has_behind from (units_after b e (node_of x)) ≡ true
      made_on some =
          let (k, at) = units_some made some in
          let le_k = low_key k at in
          let (range, value) = and_parts (is_between from (rank x.hi) k) (stays k) (sym (rest_keys k le_k)
          ∙ ap (λ (us : Pairs). is_in (put_keys us) k) (sym m.units) ∙ at) in
          let high_k = ltb-true k (rank x.hi) (and_parts (nat_le from k) (nat_lt k (rank x.hi)) range).1 in
          behind_there from k (units_after b e (node_of x)) le_k
          (after_keys k ∙ and_from (is_between (rank x.lo) (rank x.hi) k) (stays k)
          (and_from (nat_le (rank x.lo) k) (nat_lt k (rank x.hi)) (le-leb (rank x.lo) k (omega (arith, low, le_k)))
          (lt-ltb k (rank x.hi) high_k)) value)

      on_made : has_behind from (units_after b e (node_of x)) ≡ true → 1 ≤ leaf_bytes made
      on_made on =
          let (k, le_k, at) = there_behind from (units_after b e (node_of x)) on in
          let (range, value) = and_parts (is_between (rank x.lo) (rank x.hi) k) (stays k) (sym (after_keys k) ∙ at) in
          let high_k = ltb-true k (rank x.hi) (and_parts (nat_le (rank x.lo) k) (nat_lt k (rank x.hi)) range).1 in
          some_units made k (ap (λ (us : Pairs). is_in (put_keys us) k) m.units ∙ rest_keys k le_k
          ∙ and_from (is_between from (rank x.hi) k) (stays k)
          (and_from (nat_le from k) (nat_lt k (rank x.hi)) (le-leb from k le_k) (lt-ltb k (rank x.hi) high_k)) value)

      module _ (given : List Given) (ranges : List KeyRange) (items : List Item) (same : given ≡ gs)
          (first : KeyRange) (also : ranges ≡ first ∷ cuts) (starts : rank first.from ≡ rank x.lo)
          (ends : rank first.to ≡ from) (shown : items ≡ items_of x.block) where
        left : units_in items ≡ (node_of x).units
        left = ap units_in shown ∙ sym (units_are x 0 level)

        cut_is : cut_all ranges (units_in items) ≡ cut_all cuts (cut_units (rank x.lo) from (node_of x).units)
        cut_is = (λ i. cut_all (also i) (left i))
            ∙ (λ i. cut_all cuts (cut_units (starts i) (ends i) (node_of x).units))

        pub can_behind : CanPutAll given (cut_all ranges (units_in items))
        can_behind =
            subst (λ (g : List Given). CanPutAll g (cut_all ranges (units_in items))) (sym same)
            (subst (λ (us : List LeafUnit). CanPutAll gs us) (sym cut_is) m.can)

        bytes_are : leaf_bytes (units_left ranges given items) ≡ leaf_bytes made
        bytes_are = (λ i. leaf_bytes (put_all (same i) (cut_is i)))

        pub measured_behind : (n : ℕ) → n ≡ min (leaf_bytes (units_left ranges given items)) (2 ^ 64 - 1)
            → nat_lt 0 n ≡ has_behind from (units_after b e (node_of x))
        measured_behind n is = same_bool (nat_lt 0 n) (has_behind from (units_after b e (node_of x)))
            (λ t. let lt = ltb-true 0 n t in let all = bytes_are in made_on (omega (arith, lt, is, all)))
            (λ t. let some = on_made t in let all = bytes_are in lt-ltb 0 n (omega (arith, some, is, all)))

-- ---- what a leaf asks for

zero_test : (leaf_bytes [] == 0) ≡ true
unfolding bytes_behind
zero_test = refl

zero_asks : asking false (record { more = over (leaf_bytes []); gone = false }) ≡ None
unfolding bytes_behind
zero_asks = refl

module _ (b : Option Body) (e : Edits) (x : CellSeen) where
  meets_at : meets (node_of x).lo (node_of x).hi (come_of b) ≡ meets (rank x.lo) (rank x.hi) (come_of b)
  meets_at = (λ i. meets (lo_is x i) (hi_is x i) (come_of b))

  by_meet : (t : Bool) → meets (rank x.lo) (rank x.hi) (come_of b) ≡ t → leaf_asks b e (node_of x)
      ≡ (if t then asking true (record {
        more = over (leaf_bytes (units_after b e (node_of x)))
            + cut_in_two (come_of b) (node_of x) (units_after b e (node_of x));
        gone = is_gone (come_of b) (node_of x) (units_after b e (node_of x));
      }) else asking false (record { more = over (leaf_bytes (units_after b e (node_of x))); gone = false }))
  by_meet t is = ap (λ (y : Bool). if y then asking true (record {
    more = over (leaf_bytes (units_after b e (node_of x)))
        + cut_in_two (come_of b) (node_of x) (units_after b e (node_of x));
    gone = is_gone (come_of b) (node_of x) (units_after b e (node_of x));
  }) else asking false (record { more = over (leaf_bytes (units_after b e (node_of x))); gone = false }))
      (meets_at ∙ is)

  pub asks_plain : meets (rank x.lo) (rank x.hi) (come_of b) ≡ false → leaf_asks b e (node_of x)
      ≡ asking false (record { more = over (leaf_bytes (units_after b e (node_of x))); gone = false })
  asks_plain is = by_meet false is

  pub asks_come : meets (rank x.lo) (rank x.hi) (come_of b) ≡ true → leaf_asks b e (node_of x)
      ≡ asking true (record {
        more = over (leaf_bytes (units_after b e (node_of x)))
            + cut_in_two (come_of b) (node_of x) (units_after b e (node_of x));
        gone = is_gone (come_of b) (node_of x) (units_after b e (node_of x));
      })
  asks_come is = by_meet true is

  -- ---- one whose range has no keys

  module _ (none : rank x.hi ≤ rank x.lo) where
    no_meet : (r : ℕ × ℕ) → meets (rank x.lo) (rank x.hi) r ≡ false
    no_meet r = grind (arith, none)

    no_units : (vs : List LeafUnit) → filter (λ u. is_between (node_of x).lo (node_of x).hi u.0) vs ≡ []
    no_units [] = refl
    no_units (v ∷ vs) = by_test (is_between (node_of x).lo (node_of x).hi v.0) off (no_units vs)
      where
        off : is_between (node_of x).lo (node_of x).hi v.0 ≡ false
        off = (λ i. is_between (lo_is x i) (hi_is x i) v.0) ∙ out
          where
            out : is_between (rank x.lo) (rank x.hi) v.0 ≡ false
            out = grind (arith, none)

        by_test : (t : Bool) → t ≡ false → filter (λ u. is_between (node_of x).lo (node_of x).hi u.0) vs ≡ []
            → (if t then v ∷ filter (λ u. is_between (node_of x).lo (node_of x).hi u.0) vs
            else filter (λ u. is_between (node_of x).lo (node_of x).hi u.0) vs) ≡ []
        by_test true is rest = absurd cc
        by_test false is rest = rest

    pub asks_nothing : leaf_asks b e (node_of x) ≡ None
    asks_nothing = asks_plain (no_meet (come_of b))
        ∙ ap (λ (vs : List LeafUnit). asking false (record { more = over (leaf_bytes vs); gone = false }))
        (no_units (list_edited (leaf_edits b e) (node_of x).units)) ∙ zero_asks

-- ---- a leaf that is cut in two, and one that goes

module _ (come : ℕ × ℕ) (x : CellSeen) (vs : List LeafUnit) where
  two_is : (t : Bool) → (nat_lt (rank x.lo) come.0 && has_behind come.1 vs) ≡ t
      → (if t then 1 else 0) ≡ cut_in_two come (node_of x) vs
  two_is t is = ap (λ (y : Bool). if y then 1 else 0) (sym ((λ i. nat_lt (lo_is x i) come.0 && has_behind come.1 vs) ∙ is))

  pub cut_low : nat_lt (rank x.lo) come.0 ≡ false → 0 ≡ cut_in_two come (node_of x) vs
  cut_low low = two_is false (λ i. low i && has_behind come.1 vs)

  pub cut_none : has_behind come.1 vs ≡ false → 0 ≡ cut_in_two come (node_of x) vs
  cut_none off = two_is false ((λ i. nat_lt (rank x.lo) come.0 && off i) ∙ and_off (nat_lt (rank x.lo) come.0))
    where
      and_off : (y : Bool) → (y && false) ≡ false
      and_off true = refl
      and_off false = refl

  pub cut_as : (t : Bool) → nat_lt (rank x.lo) come.0 ≡ true → t ≡ has_behind come.1 vs
      → (if t then 1 else 0) ≡ cut_in_two come (node_of x) vs
  cut_as t low is = two_is t ((λ i. low i && sym is i))

  pub gone_is : (n : ℕ) (t : Bool) → n ≡ leaf_bytes vs → nat_lt (rank x.lo) come.0 ≡ t
      → (not t && (n == 0)) ≡ is_gone come (node_of x) vs
  gone_is n t bytes low = (λ i. (not (sym low i)) && empty i)
      ∙ (λ i. at_or_behind i && (length vs == 0))
    where
      turned : (a m : ℕ) → not (nat_lt a m) ≡ nat_le m a
      turned a m = grind (arith, nat_tests)

      at_or_behind : not (nat_lt (rank x.lo) come.0) ≡ nat_le come.0 (node_of x).lo
      at_or_behind = turned (rank x.lo) come.0 ∙ sym (ap (nat_le come.0) (lo_is x))

      none_test : (us : List LeafUnit) → (leaf_bytes us == 0) ≡ (length us == 0)
      none_test [] = zero_test
      none_test (u ∷ us) =
          let some = some_units (u ∷ us) u.0 (or_left (is_between u.0 (u.0 + 1) u.0) (is_in (put_keys us) u.0) (here_key u)) in
          ne_eqb (leaf_bytes (u ∷ us)) 0 (λ z. omega (arith, z, some)) ∙ sym (ne_eqb (length (u ∷ us)) 0 (λ z. omega (arith, z)))

      empty : (n == 0) ≡ (length vs == 0)
      empty = ap (λ (m : ℕ). m == 0) bytes ∙ none_test vs

-- behind the end of its range it has none
pub none_behind : (b : Option Body) (e : Edits) (x : CellSeen) (k : ℕ) → rank x.hi ≤ k
    → has_behind k (units_after b e (node_of x)) ≡ false
none_behind b e x k past = none_at (list_edited (leaf_edits b e) (node_of x).units)
  where
    none_at : (vs : List LeafUnit) → has_behind k (filter (λ u. is_between (node_of x).lo (node_of x).hi u.0) vs) ≡ false
    none_at [] = refl
    none_at (v ∷ vs) = by_test (is_between (node_of x).lo (node_of x).hi v.0) refl (none_at vs)
      where
        before : is_between (node_of x).lo (node_of x).hi v.0 ≡ true → nat_le k v.0 ≡ false
        before on = out (sym (λ i. is_between (lo_is x i) (hi_is x i) v.0) ∙ on)
          where
            out : is_between (rank x.lo) (rank x.hi) v.0 ≡ true → nat_le k v.0 ≡ false
            out h = grind (arith, nat_tests, h, past)

        by_test : (t : Bool) → is_between (node_of x).lo (node_of x).hi v.0 ≡ t
            → has_behind k (filter (λ u. is_between (node_of x).lo (node_of x).hi u.0) vs) ≡ false
            → has_behind k (if t then v ∷ filter (λ u. is_between (node_of x).lo (node_of x).hi u.0) vs
            else filter (λ u. is_between (node_of x).lo (node_of x).hi u.0) vs) ≡ false
        by_test true on rest = (λ i. before on i || rest i)
        by_test false on rest = rest
