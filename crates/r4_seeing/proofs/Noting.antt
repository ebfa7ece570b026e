-- What is known after parts were put among the others.
use Rattle.std.proofs.Common.{◌≡◌, ◌≢◌, ◌⊎◌, inl, inr, ℕ, zero, suc, ◌+◌, ◌<◌, ◌≤◌, Bool, true, false, List, [], ◌∷◌}
use Rattle.std.proofs.Common.{◌++◌, length, take, drop, map, refl, sym, ap, subst, ◌∙◌, arith}
use Rattle.std.specs.Prelude.{All, Contains, Option, Some, None, ◌||◌}
use Rattle.std.specs.FinMap.{find}
use Rattle.std.specs.Ordering.{nat_cmp}
use Rattle.std.proofs.lemmas.Bool.Decides.{nat_tests}
use Rattle.std.proofs.lemmas.List.{map-append, take-append-drop}
use Rattle.std.proofs.lemmas.List.Concat.{flat_map-append}
use Rattle.std.proofs.lemmas.List.Elements.{All-append, All-drop, All-take, Contains-append_left}
use Rattle.r4_base.specs.Key.{least, top}
use Rattle.r4_base.specs.Tree.{Holds, Node, Store}
use Rattle.r4_base.specs.Value.{Value}
use Rattle.r4_content.specs.Edited.{Intervals, Pairs, is_between, is_in}
use Rattle.r4_content.specs.Held.{part_pairs}
use Rattle.r4_content.specs.Seen.{Rises, pairs_in}
use Rattle.r4_content.specs.declared.seen.SeenPart.{SeenPart}
use Rattle.r4_sight.specs.Parts.{AreFull, all_pairs}
use Rattle.r4_seeing.specs.Known.{AreKnown, AreNew, IsNoted}
use Rattle.r4_seeing.specs.Looking.{AreFound, IsFoundAt}
use Rattle.r4_seeing.proofs.Found.{found_iff, interval_keys, rising_found}
use Rattle.r4_seeing.proofs.Inserted.{all_both, all_there, inserted_in, inserted_out, inserted_rise, rises_first}
use Rattle.r4_seeing.proofs.Placing.{pairs_before, parts_above, parts_below}

-- ---- one interval more

pub known_more : (known : Intervals) (r : ℕ × ℕ) (k : ℕ) → is_in (known ++ r ∷ []) k
    ≡ (is_in known k || is_between r.0 r.1 k)
known_more [] r k = grind (arith, nat_tests)
known_more (q ∷ known) r k = ap (λ (b : Bool). is_between q.0 q.1 k || b) (known_more known r k)
    ∙ either (is_between q.0 q.1 k) (is_in known k) (is_between r.0 r.1 k)
  where
    either : (a b c : Bool) → (a || (b || c)) ≡ ((a || b) || c)
    either true b c = refl
    either false b c = refl

pub was_known : (known : Intervals) (r : ℕ × ℕ) (k : ℕ) → is_in known k ≡ true → is_in (known ++ r ∷ []) k ≡ true
was_known known r k h = known_more known r k ∙ ap (λ (b : Bool). b || is_between r.0 r.1 k) h

pub is_known : (known : Intervals) (r : ℕ × ℕ) (k : ℕ) → r.0 ≤ k → k < r.1 → is_in (known ++ r ∷ []) k ≡ true
is_known known r k le lt = known_more known r k ∙ by (is_in known k)
  where
    by : (b : Bool) → (b || is_between r.0 r.1 k) ≡ true
    by true = refl
    by false = grind (arith, nat_tests, le, lt)

-- a key that is known now was so before, or is of the interval
pub known_cases : (known : Intervals) (r : ℕ × ℕ) (k : ℕ) → is_in (known ++ r ∷ []) k ≡ true
    → (is_in known k ≡ true) ⊎ ((r.0 ≤ k) × (k < r.1))
known_cases known r k h = by (is_in known k) (is_between r.0 r.1 k) refl refl (sym (known_more known r k) ∙ h)
  where
    by : (a b : Bool) → is_in known k ≡ a → is_between r.0 r.1 k ≡ b → (a || b) ≡ true
        → (is_in known k ≡ true) ⊎ ((r.0 ≤ k) × (k < r.1))
    by true b is between e = inl is
    by false true is between e = inr (grind (arith, nat_tests, between), grind (arith, nat_tests, between))
    by false false is between e = absurd cc

-- and one that is not known now was not, and is not of it
pub unknown_both : (known : Intervals) (r : ℕ × ℕ) (k : ℕ) → is_in (known ++ r ∷ []) k ≡ false
    → (is_in known k ≡ false) × ((k < r.0) ⊎ (r.1 ≤ k))
unknown_both known r k h = by (is_in known k) (is_between r.0 r.1 k) refl refl (sym (known_more known r k) ∙ h)
  where
    by : (a b : Bool) → is_in known k ≡ a → is_between r.0 r.1 k ≡ b → (a || b) ≡ false
        → (is_in known k ≡ false) × ((k < r.0) ⊎ (r.1 ≤ k))
    by true b is between e = absurd cc
    by false true is between e = absurd cc
    by false false is between e = (is, grind (arith, nat_tests, between))

compare : (m n : ℕ) → (m < n) ⊎ (n ≤ m)
compare m n = grind (arith, nat_tests)

-- ---- the parts with those of the interval

abbrev P : SeenPart → Type 0
P p = part_pairs p ≢ []

abbrev pub Apart : (from to k : ℕ) → Type 0
Apart from to k = (k < from) ⊎ (to ≤ k)

-- a cell holds the keys of an interval, and these parts are what it has there
pub record IsShown (t : Store Value) (from to : ℕ) (parts : List SeenPart) : Type 0 where
  pub id : ℕ
  pub cell : Node Value
  pub is : t id ≡ Some cell
  pub order : from < to
  pub low : least ≤ from
  pub high : to ≤ top
  pub holds : (k : ℕ) → from ≤ k → k < to → Holds cell k
  pub pairs : all_pairs parts ≡ pairs_in cell.units from to
  pub rises : Rises (all_pairs parts)
  pub full : AreFull parts

module _ (t : Store Value) (known : Intervals) (old parts new : List SeenPart) (from to : ℕ)
    (f : AreFound t known (all_pairs old)) (full : AreFull old) (fresh : AreNew known from to)
    (s : IsShown t from to parts) (n : IsNoted from old parts new) where
  abbrev xs : Pairs
  xs = all_pairs (take n.at old)

  abbrev ys : Pairs
  ys = all_pairs (drop n.at old)

  abbrev zs : Pairs
  zs = all_pairs parts

  old_is : all_pairs old ≡ xs ++ ys
  old_is = ap all_pairs (sym (take-append-drop n.at old)) ∙ flat_map-append part_pairs (take n.at old) (drop n.at old)

  pub new_is : all_pairs new ≡ xs ++ (zs ++ ys)
  new_is = ap all_pairs n.put
      ∙ (flat_map-append part_pairs (take n.at old) (parts ++ drop n.at old)
      ∙ ap (λ (es : Pairs). xs ++ es) (flat_map-append part_pairs parts (drop n.at old)))

  rises_old : Rises (xs ++ ys)
  rises_old = subst Rises old_is f.rises

  -- no pair stands at a key of the interval
  none_here : (k : ℕ) → from ≤ k → k < to → find nat_cmp k (xs ++ ys) ≡ None
  none_here k le lt = subst (λ (es : Pairs). find nat_cmp k es ≡ None) old_is (f.only k (fresh k le lt))

  low : All (λ (e : ℕ × Value). e.0 < from) xs
  low = parts_below from (take n.at old) (pairs_before n.at from old n.place) (full_first n.at old full)
      (rises_first xs ys rises_old) none_there
    where
      full_first : (at : ℕ) (ps : List SeenPart) → AreFull ps → AreFull (take at ps)
      full_first at ps h = All-take (λ (p : SeenPart). part_pairs p ≢ []) at ps h

      none_there : (v : Value) → Contains xs (from, v) → ⊥
      none_there v at =
          let order = s.order in
          let none = none_here from (omega arith) (omega (arith, order)) in
          let found = rising_found (xs ++ ys) from v rises_old (Contains-append_left xs ys (from, v) at) in
          cc

  high : All (λ (e : ℕ × Value). to ≤ e.0) ys
  high = all_both (λ (e : ℕ × Value). from ≤ e.0) (λ (e : ℕ × Value). find nat_cmp e.0 (xs ++ ys) ≢ None)
      (λ (e : ℕ × Value). to ≤ e.0) ys beyond (parts_above from (drop n.at old) n.place.above) (all_there xs ys)
    where
      beyond : (e : ℕ × Value) → from ≤ e.0 → find nat_cmp e.0 (xs ++ ys) ≢ None → to ≤ e.0
      beyond e le there = elim (compare e.0 to) [ inl lt ↦ absurd (there (none_here e.0 le lt)) | inr past ↦ past ]

  mid : All (λ (e : ℕ × Value). (from ≤ e.0) × (e.0 < to)) zs
  mid = subst (All (λ (e : ℕ × Value). (from ≤ e.0) × (e.0 < to))) (sym s.pairs) (interval_keys s.cell.units from to)

  order : from ≤ to
  order = let lt = s.order in omega (arith, lt)

  found_in_it : (k : ℕ) → from ≤ k → k < to → find nat_cmp k (all_pairs new) ≡ find nat_cmp k zs
  found_in_it k le lt = ap (find nat_cmp k) new_is
      ∙ inserted_in xs zs ys from to order rises_old s.rises low mid high k le lt

  pub found_out : (k : ℕ) → Apart from to k → find nat_cmp k (all_pairs new) ≡ find nat_cmp k (all_pairs old)
  found_out k out = ap (find nat_cmp k) new_is
      ∙ (inserted_out xs zs ys from to order rises_old s.rises low mid high k out ∙ ap (find nat_cmp k) (sym old_is))

  -- a key that was known is not of the interval
  apart : (k : ℕ) → is_in known k ≡ true → Apart from to k
  apart k is = elim (compare k from) [
    | inl lt ↦ inl lt
    | inr le ↦ elim (compare k to) [ inl lt ↦ absurd (let none = fresh k le lt in cc) | inr past ↦ inr past ]
  ]

  pub values_stay : (k : ℕ) → is_in known k ≡ true → find nat_cmp k (all_pairs new) ≡ find nat_cmp k (all_pairs old)
  values_stay k is = found_out k (apart k is)

  pub noted_full : AreFull new
  noted_full = subst AreFull (sym n.put)
      (All-append P (take n.at old) (parts ++ drop n.at old) (All-take P n.at old full)
      (All-append P parts (drop n.at old) s.full (All-drop P n.at old full)))

  pub noted : AreFound t (known ++ (from, to) ∷ []) (all_pairs new)
  noted = record {
    rises = subst Rises (sym new_is) (inserted_rise xs zs ys from to order rises_old s.rises low mid high);
    within = λ k is. elim (known_cases known (from, to) k is) [
      | inl was ↦ f.within k was
      | inr has ↦ (
        let a = s.low in let b = has.0 in omega (arith, a, b),
        let a = s.high in let b = has.1 in omega
            (arith, a, b),
      )
    ];
    found = λ k is. elim (known_cases known (from, to) k is) [
      | inl was ↦ subst (λ (o : Option Value). IsFoundAt t k o) (sym (values_stay k was)) (f.found k was)
      | inr has ↦ shown k has.0 has.1
    ];
    only = λ k none. let both = unknown_both known (from, to) k none in found_out k both.1 ∙ f.only k both.0;
  }
    where
      shown : (k : ℕ) → from ≤ k → k < to → IsFoundAt t k (find nat_cmp k (all_pairs new))
      shown k le lt = record {
        id = s.id;
        cell = s.cell;
        is = s.is;
        holds = s.holds k le lt;
        has = λ v. let iff = found_iff s.cell.units zs from to k v s.pairs s.rises le lt in
            let same = found_in_it k le lt in
            ((λ h. iff.0 (sym same ∙ h)), (λ at. same ∙ iff.1 at));
      }
