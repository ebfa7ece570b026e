-- Units that are put into a list that rises, none of whose keys is there yet.
use Rattle.std.specs.Prelude.{◌≡◌, ℕ, ◌+◌, List, [], ◌∷◌, ◌++◌, Bool, true, false, ◌||◌, ◌==◌, cond, if◌then◌else◌, map, Option, Some, None, nat_lt}
use Rattle.std.proofs.Common.{refl, sym, ap, subst, ◌∙◌, Less, Equal, Greater}
use Rattle.std.specs.Cmp.{unsigned_tied}
use Rattle.std.specs.FinMap.{find, put}
use Rattle.std.specs.FinMap.Entries.{by_order, find-put, is_sorted-put}
use Rattle.std.specs.Ordering.{nat_cmp}
use Rattle.std.specs.Option.{is_some}
use Rattle.std.proofs.lemmas.Bool.{both_ways, eqb-true, or_parts}
use Rattle.std.proofs.lemmas.Cmp.{nat_cmp_total}
use Rattle.r4_base.specs.Cell.{item_units, units_in}
use Rattle.r4_base.specs.Value.{Value}
use Rattle.r4_content.specs.Edited.{Pairs, is_between, is_in, put_keys}
use Rattle.r4_content.specs.Seen.{Rises}
use Rattle.r4_content.proofs.EditLaws.{in_append, last_put, one_key, put_off}
use Rattle.r4_reach.specs.r4_leaf.Leaves.{AreApart, MayBePut}
use Rattle.r4_reach.specs.r4_leaf.Remade.{CanPutAll, item_of, put_all}
use Rattle.r4_reach.specs.r4_leaf.Units.{LeafUnit, put_unit, put_units}
use Rattle.r4_reach.specs.r4_leaf.declared.remaking.Given.{Given}
use Rattle.r4_leaf_edits.specs.Suiting.{AreOnce}
use Rattle.r4_leaf_edits.proofs.Lookups.{contains_in, here, in_is_found, none_in}

pub put_keys_append : (xs ys : Pairs) → put_keys (xs ++ ys) ≡ put_keys xs ++ put_keys ys
put_keys_append [] ys = refl
put_keys_append (x ∷ xs) ys = ap (λ rs. (x.0, x.0 + 1) ∷ rs) (put_keys_append xs ys)

pub in_both : (xs ys : Pairs) (k : ℕ) → is_in (put_keys (xs ++ ys)) k ≡ (is_in (put_keys xs) k || is_in (put_keys ys) k)
in_both xs ys k = ap (λ rs. is_in rs k) (put_keys_append xs ys) ∙ in_append (put_keys xs) (put_keys ys) k

pub last_of_both : (xs ys : Pairs) (k : ℕ) (v : Option Value) → last_put (xs ++ ys) k v ≡ last_put ys k (last_put xs k v)
last_of_both [] ys k v = refl
last_of_both (x ∷ xs) ys k v = last_of_both xs ys k _

-- no key of the first is one of the second
abbrev pub Off : Pairs → Pairs → Type 0
Off gs us = (k : ℕ) → is_in (put_keys gs) k ≡ true → is_in (put_keys us) k ≡ false

or_true_left : (a b : Bool) → a ≡ true → (a || b) ≡ true
or_true_left true b e = refl
or_true_left false b e = absurd cc

or_true_right : (a b : Bool) → b ≡ true → (a || b) ≡ true
or_true_right true b e = refl
or_true_right false b e = e

pub off_first : (g : ℕ × Value) (gs us : Pairs) → Off (g ∷ gs) us → is_in (put_keys us) g.0 ≡ false
off_first g gs us off = off g.0 (or_true_left (is_between g.0 (g.0 + 1) g.0) (is_in (put_keys gs) g.0) (here g))

pub off_rest : (g : ℕ × Value) (gs us : Pairs) → Off (g ∷ gs) us → Off gs us
off_rest g gs us off k h = off k (or_true_right (is_between g.0 (g.0 + 1) k) (is_in (put_keys gs) k) h)

-- ---- lists in which no key comes twice

pub once_left : (xs ys : Pairs) → AreOnce (xs ++ ys) → AreOnce xs
once_left [] ys h = tt
once_left (x ∷ xs) ys h = ((or_parts _ (is_in (put_keys ys) x.0) (sym (in_both xs ys x.0) ∙ h.0)).0, once_left xs ys h.1)

pub once_right : (xs ys : Pairs) → AreOnce (xs ++ ys) → AreOnce ys
once_right [] ys h = h
once_right (x ∷ xs) ys h = once_right xs ys h.1

pub once_cross : (xs ys : Pairs) → AreOnce (xs ++ ys) → Off xs ys
once_cross [] ys h k at = absurd cc
once_cross (x ∷ xs) ys h k at = by_first (k == x.0) refl (ap (λ (b : Bool). b || is_in (put_keys xs) k) (sym (one_key k x.0)) ∙ at) (once_cross xs ys h.1 k)
  where
    by_first : (b : Bool) → (k == x.0) ≡ b → (b || is_in (put_keys xs) k) ≡ true → (is_in (put_keys xs) k ≡ true → is_in (put_keys ys) k ≡ false) → is_in (put_keys ys) k ≡ false
    by_first true e g rest =
        let off = (or_parts (is_in (put_keys xs) x.0) _ (sym (in_both xs ys x.0) ∙ h.0)).1 in
        ap (λ (j : ℕ). is_in (put_keys ys) j) (eqb-true k x.0 e) ∙ off
    by_first false e g rest = rest g

pub once_both : (xs ys : Pairs) → AreOnce xs → AreOnce ys → Off xs ys → AreOnce (xs ++ ys)
once_both [] ys hx hy off = hy
once_both (x ∷ xs) ys hx hy off = (
  in_both xs ys x.0 ∙ or_false (is_in (put_keys xs) x.0) (is_in (put_keys ys) x.0) hx.0 (off_first x xs ys off),
  once_both xs ys hx.1 hy (off_rest x xs ys off),
)
  where
    or_false : (a b : Bool) → a ≡ false → b ≡ false → (a || b) ≡ false
    or_false false b e f = f
    or_false true b e f = absurd cc

-- ---- one unit, and units

-- a unit whose key is none of theirs comes to the same place by both ways
pub put_is : (u : LeafUnit) (us : List LeafUnit) → is_in (put_keys us) u.0 ≡ false → put_unit u us ≡ put nat_cmp u.0 u.1 us
put_is u [] h = refl
put_is u (x ∷ us) h =
    let parts = or_parts (is_between x.0 (x.0 + 1) u.0) (is_in (put_keys us) u.0) h in
    by_tests (nat_lt u.0 x.0) (u.0 == x.0) (sym (one_key u.0 x.0) ∙ parts.0) (put_is u us parts.1)
  where
    by_tests : (lt eq : Bool) → eq ≡ false → put_unit u us ≡ put nat_cmp u.0 u.1 us
        → (if lt then u ∷ (x ∷ us) else x ∷ put_unit u us) ≡ by_order (cond lt Less (cond eq Equal Greater)) ((u.0, u.1) ∷ (x ∷ us)) ((x.0, u.1) ∷ us) (x ∷ put nat_cmp u.0 u.1 us)
    by_tests true eq e rest = refl
    by_tests false false e rest = ap (λ (vs : List LeafUnit). x ∷ vs) rest
    by_tests false true e rest = absurd cc

pub record IsPut (gs us : Pairs) : Type 0 where
  pub rises : Rises (put_units gs us)
  pub finds : (k : ℕ) → find nat_cmp k (put_units gs us) ≡ last_put gs k (find nat_cmp k us)

pub units_put : (gs us : Pairs) → AreOnce gs → Off gs us → Rises us → IsPut gs us
units_put [] us once off r = record { rises = r; finds = λ k. refl }
units_put (g ∷ gs) us once off r =
    let rest = units_put gs us once.1 (off_rest g gs us off) r in
    let none : is_in (put_keys (put_units gs us)) g.0 ≡ false =
    in_is_found (put_units gs us) g.0 ∙ ap is_some (rest.finds g.0 ∙ put_off gs g.0 (find nat_cmp g.0 us) once.0) ∙ sym (in_is_found us g.0) ∙ off_first g gs us off in
    let is = put_is g (put_units gs us) none in
    record {
      rises = subst Rises (sym is) (is_sorted-put nat_cmp nat_cmp_total g.0 g.1 (put_units gs us) rest.rises);
      finds = λ k.
          ap (λ (s : Pairs). find nat_cmp k s) is
          ∙ find-put nat_cmp nat_cmp_total k g.0 g.1 (put_units gs us)
          ∙ ap (λ (b : Bool). cond b (Some g.1) (find nat_cmp k (put_units gs us))) (unsigned_tied k g.0)
          ∙ ap (λ (v : Option Value). cond (k == g.0) (Some g.1) v) (rest.finds k)
          ∙ turned (k == g.0) k refl (find nat_cmp k us);
    }
  where
    turned : (b : Bool) (k : ℕ) → (k == g.0) ≡ b → (v : Option Value) → cond b (Some g.1) (last_put gs k v) ≡ last_put gs k (cond b (Some g.1) v)
    turned true k e v = sym (put_off gs k (Some g.1) (ap (λ (j : ℕ). is_in (put_keys gs) j) (eqb-true k g.0 e) ∙ once.0))
    turned false k e v = refl

-- ---- items

abbrev pub AreGivenUnits : List Given → Pairs
AreGivenUnits gs = units_in (map item_of gs)

abbrev pub MayAll : List Given → Type 0
MayAll [] = Unit {0}
MayAll (g ∷ gs) = MayBePut (item_of g) × MayAll gs

pub record ArePut (gs : List Given) (us : Pairs) : Type 0 where
  pub can : CanPutAll gs us
  pub rises : Rises (put_all gs us)
  pub finds : (k : ℕ) → find nat_cmp k (put_all gs us) ≡ last_put (units_in (map item_of gs)) k (find nat_cmp k us)

apart_from : (gs us : Pairs) → Off gs us → AreApart us gs
apart_from gs us off k v w at in_gs = both_ways _ (off k (contains_in gs k w in_gs)) (contains_in us k v at)

pub items_put : (gs : List Given) (us : Pairs) → MayAll gs → AreOnce (units_in (map item_of gs)) → Off (units_in (map item_of gs)) us → Rises us → ArePut gs us
unfolding units_in
items_put [] us may once off r = record { can = tt; rises = r; finds = λ k. refl }
items_put (g ∷ gs) us may once off r =
    let a = item_units (item_of g) in
    let b = units_in (map item_of gs) in
    let off_a : Off a us = λ k h. off k (in_both a b k ∙ or_true_left (is_in (put_keys a) k) (is_in (put_keys b) k) h) in
    let first = units_put a us (once_left a b once) off_a r in
    let off_b : Off b (put_units a us) = λ k h. none_in (put_units a us) k
    (first.finds k ∙ put_off a k (find nat_cmp k us) (turned_off a b (once_cross a b once) k h) ∙ no_unit us k (off k (in_both a b k ∙ or_true_right (is_in (put_keys a) k) (is_in (put_keys b) k) h))) in
    let rest = items_put gs (put_units a us) may.1 (once_right a b once) off_b first.rises in
    record {
      can = (may.0, apart_from a us off_a, rest.can);
      rises = rest.rises;
      finds = λ k. rest.finds k ∙ ap (last_put b k) (first.finds k) ∙ sym (last_of_both a b k (find nat_cmp k us));
    }
  where
    turned_off : (xs ys : Pairs) → Off xs ys → Off ys xs
    turned_off xs ys off k h = by_test (is_in (put_keys xs) k) refl
      where
        by_test : (t : Bool) → is_in (put_keys xs) k ≡ t → t ≡ false
        by_test false e = refl
        by_test true e = absurd (both_ways _ (off k e) h)

    no_unit : (s : Pairs) (k : ℕ) → is_in (put_keys s) k ≡ false → find nat_cmp k s ≡ None
    no_unit s k h = by_value (find nat_cmp k s) (sym (in_is_found s k) ∙ h)
      where
        by_value : (o : Option Value) → is_some o ≡ false → o ≡ None
        by_value None e = refl
        by_value (Some v) e = absurd cc
