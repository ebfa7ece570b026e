-- Members of the units that edits put in and cut out.
use Rattle.std.specs.Prelude.{◌≡◌, ℕ, ◌+◌, ◌<◌, ◌≤◌, ◌⊎◌, ◌==◌, ◌&&◌, if◌then◌else◌, not, nat_le, nat_lt, Bool, true, false}
use Rattle.std.specs.Prelude.{List, [], ◌∷◌, Contains, Option, Some}
use Rattle.std.specs.List.{filter}
use mathlib.Core.Path.{refl, sym, ap, subst, ◌∙◌}
use mathlib.Core.Logic.{inl, inr}
use native.Mathlib.Omega.{arith}
use Rattle.std.proofs.lemmas.Bool.{eq-eqb, eqb-true}
use Rattle.std.proofs.lemmas.Option.{none-some, same_Some}
use Rattle.r4_base.specs.Value.{Value}
use Rattle.r4_edit.specs.r4_leaf.Units.{LeafUnit, is_between, put_unit, put_units}
use Rattle.r4_edit.proofs.r4_leaf.Rising.{Rise, rise_order}
use Rattle.r4_edit.proofs.r4_patch.Members.{cases, here, later, none}
use Rattle.r4_work.specs.Remaking.{value_in}

-- ---- members

put_one : (b : Bool) (u x w : LeafUnit) (xs more : List LeafUnit) → Contains (if b then u ∷ (x ∷ xs) else x ∷ more) w → (Contains more w → (w ≡ u) ⊎ Contains xs w) → (w ≡ u) ⊎ Contains (x ∷ xs) w
put_one true u x w xs more h rec = cases u w (x ∷ xs) h
put_one false u x w xs more h rec = elim (cases x w more h) [
  | inl same ↦ inr (subst (Contains (x ∷ xs)) (sym same) (here x xs))
  | inr beyond ↦ elim (rec beyond) [ inl same ↦ inl same | inr among ↦ inr (later x w xs among) ]
]

from_put_unit : (u w : LeafUnit) (xs : List LeafUnit) → Contains (put_unit u xs) w → (w ≡ u) ⊎ Contains xs w
from_put_unit u w [] h = cases u w [] h
from_put_unit u w (x ∷ xs) h = put_one (nat_lt u.0 x.0) u x w xs (put_unit u xs) h (from_put_unit u w xs)

to_one : (b : Bool) (u x w : LeafUnit) (xs more : List LeafUnit) → (w ≡ u) ⊎ Contains (x ∷ xs) w → ((w ≡ u) ⊎ Contains xs w → Contains more w) → Contains (if b then u ∷ (x ∷ xs) else x ∷ more) w
to_one true u x w xs more (inl same) rec = subst (Contains (u ∷ (x ∷ xs))) (sym same) (here u (x ∷ xs))
to_one true u x w xs more (inr among) rec = later u w (x ∷ xs) among
to_one false u x w xs more (inl same) rec = later x w more (rec (inl same))
to_one false u x w xs more (inr among) rec = elim (cases x w xs among) [
  | inl same ↦ subst (Contains (x ∷ more)) (sym same) (here x more)
  | inr beyond ↦ later x w more (rec (inr beyond))
]

to_put_unit : (u w : LeafUnit) (xs : List LeafUnit) → (w ≡ u) ⊎ Contains xs w → Contains (put_unit u xs) w
to_put_unit u w [] (inl same) = subst (Contains (u ∷ [])) (sym same) (here u [])
to_put_unit u w [] (inr among) = absurd (none w among)
to_put_unit u w (x ∷ xs) h = to_one (nat_lt u.0 x.0) u x w xs (put_unit u xs) h (to_put_unit u w xs)

pub from_put : (gs us : List LeafUnit) (w : LeafUnit) → Contains (put_units gs us) w → Contains gs w ⊎ Contains us w
from_put [] us w h = inr h
from_put (g ∷ gs) us w h = elim (from_put_unit g w (put_units gs us) h) [
  | inl same ↦ inl (subst (Contains (g ∷ gs)) (sym same) (here g gs))
  | inr more ↦ elim (from_put gs us w more) [ inl a ↦ inl (later g w gs a) | inr b ↦ inr b ]
]

pub to_put : (gs us : List LeafUnit) (w : LeafUnit) → Contains gs w ⊎ Contains us w → Contains (put_units gs us) w
to_put [] us w (inl at) = absurd (none w at)
to_put [] us w (inr at) = at
to_put (g ∷ gs) us w (inr at) = to_put_unit g w (put_units gs us) (inr (to_put gs us w (inr at)))
to_put (g ∷ gs) us w (inl at) = to_put_unit g w (put_units gs us) (elim (cases g w gs at) [
  | inl same ↦ inl same
  | inr more ↦ inr (to_put gs us w (inl more))
])

pub not_true : (b : Bool) → not b ≡ true → b ≡ false
not_true false h = refl
not_true true h = grind (arith, h)

cut_pass : (b : Bool) (x w : LeafUnit) (xs rest : List LeafUnit) (test : LeafUnit → Bool) → test x ≡ b → (Contains rest w → Contains xs w × (test w ≡ true)) → Contains (if b then x ∷ rest else rest) w → Contains (x ∷ xs) w × (test w ≡ true)
cut_pass true x w xs rest test e rec h = elim (cases x w rest h) [
  | inl same ↦ (subst (Contains (x ∷ xs)) (sym same) (here x xs), ap test same ∙ e)
  | inr more ↦ let (a, b) = rec more in (later x w xs a, b)
]
cut_pass false x w xs rest test e rec h = let (a, b) = rec h in (later x w xs a, b)

pub filtered : (test : LeafUnit → Bool) (us : List LeafUnit) (w : LeafUnit) → Contains (filter test us) w → Contains us w × (test w ≡ true)
filtered test [] w h = absurd (none w h)
filtered test (x ∷ xs) w h = cut_pass (test x) x w xs (filter test xs) test refl (filtered test xs w) h

cut_keep : (b : Bool) (x w : LeafUnit) (xs rest : List LeafUnit) (test : LeafUnit → Bool) → test x ≡ b → test w ≡ true → (Contains xs w → Contains rest w) → Contains (x ∷ xs) w → Contains (if b then x ∷ rest else rest) w
cut_keep true x w xs rest test is e rec h = elim (cases x w xs h) [
  | inl same ↦ subst (Contains (x ∷ rest)) (sym same) (here x rest)
  | inr more ↦ later x w rest (rec more)
]
cut_keep false x w xs rest test is e rec h = elim (cases x w xs h) [
  | inl same ↦ absurd (let no_test : test w ≡ false = ap test same ∙ is in grind (arith, no_test, e))
  | inr more ↦ rec more
]

pub to_filtered : (test : LeafUnit → Bool) (us : List LeafUnit) (w : LeafUnit) → test w ≡ true → Contains us w → Contains (filter test us) w
to_filtered test [] w e h = absurd (none w h)
to_filtered test (x ∷ xs) w e h = cut_keep (test x) x w xs (filter test xs) test refl e (to_filtered test xs w e) h

-- ---- values

value_or : (b : Bool) (k j : ℕ) (x v : Value) (us : List LeafUnit) → (j == k) ≡ b → (value_in us k ≡ Some v → Contains us (k, v)) → (if b then Some x else value_in us k) ≡ Some v → Contains ((j, x) ∷ us) (k, v)
value_or true k j x v us e rec h =
    let same : (k, v) ≡ (j, x) = λ i. (sym (eqb-true j k e) i, sym (same_Some x v h) i) in
    subst (Contains ((j, x) ∷ us)) (sym same) (here (j, x) us)
value_or false k j x v us e rec h = later (j, x) (k, v) us (rec h)

pub value_there : (us : List LeafUnit) (k : ℕ) (v : Value) → value_in us k ≡ Some v → Contains us (k, v)
value_there [] k v h = absurd (none-some v h)
value_there ((j, x) ∷ us) k v h = value_or (j == k) k j x v us refl (value_there us k v) h

some_or : (b : Bool) (x : Value) (rest : Option Value) → ((w : Value) × (rest ≡ Some w)) ⊎ (b ≡ true) → (w : Value) × ((if b then Some x else rest) ≡ Some w)
some_or true x rest h = (x, refl)
some_or false x rest (inl h) = h
some_or false x rest (inr h) = absurd (grind (arith, h))

pub some_value : (us : List LeafUnit) (k : ℕ) (v : Value) → Contains us (k, v) → (w : Value) × (value_in us k ≡ Some w)
some_value [] k v h = absurd (none (k, v) h)
some_value ((j, x) ∷ us) k v h = some_or (j == k) x (value_in us k) (elim (cases (j, x) (k, v) us h) [
  | inl same ↦ inr (eq-eqb j k (ap (λ (u : LeafUnit). u.0) (sym same)))
  | inr more ↦ inl (some_value us k v more)
])

pub rise_in : (from to : ℕ) (us : List LeafUnit) (k : ℕ) (v : Value) → Rise from to us → Contains us (k, v) → (from ≤ k) × (k < to)
rise_in from to [] k v r h = absurd (none (k, v) h)
rise_in from to ((j, x) ∷ us) k v (low, rest) h = elim (cases (j, x) (k, v) us h) [
  | inl same ↦
      let e : k ≡ j = ap (λ (u : LeafUnit). u.0) same in
      let order = rise_order (j + 1) to us rest in
      (omega (arith, e, low), omega (arith, e, order))
  | inr more ↦ let (a, b) = rise_in (j + 1) to us k v rest more in (omega (arith, a, low), b)
]

pub between : (from to k : ℕ) → is_between from to k ≡ true → (from ≤ k) × (k < to)
between from to k h = let (a, b) = both (nat_le from k) (nat_lt k to) h in (le from k a, lt k to b)
  where
    both : (a b : Bool) → a && b ≡ true → (a ≡ true) × (b ≡ true)
    both true b h = (refl, h)
    both false b h = grind (arith, h)

    le : (a b : ℕ) → nat_le a b ≡ true → a ≤ b
    le a b h = grind (arith, h)

    lt : (a b : ℕ) → nat_lt a b ≡ true → a < b
    lt a b h = grind (arith, h)

pub not_false : (b : Bool) → b ≡ false → not b ≡ true
not_false false h = refl
not_false true h = grind (arith, h)
