-- The content in which keys of intervals have what a function has for them.
use Rattle.std.proofs.Common.{◌≡◌, ℕ, zero, suc, ◌+◌, ◌-◌, Bool, true, false, [], ◌∷◌, Option, Some, None}
use Rattle.std.proofs.Common.{refl, sym, ap, ◌∙◌, arith, cond}
use Rattle.std.specs.FinMap.{insert, retain_keys}
use Rattle.std.specs.Option.{option_map}
use Rattle.std.specs.Prelude.{◌||◌, ◌==◌, not}
use Rattle.std.proofs.lemmas.Bool.{eqb-true}
use Rattle.std.proofs.lemmas.Grind.{common_steps}
use Rattle.r4_base.specs.Value.{Content, Value, at_key}
use Rattle.r4_content.specs.Edited.{Intervals, is_between, is_in}
use Rattle.r4_content.proofs.EditLaws.{at_insert, at_retain}
use Rattle.r4_sets_told.specs.r4_patch.Effect.{IsSetAt, Placed}

value_of : Option (Placed Value) → Option Value
value_of o = option_map (λ u. u.0) o

set_key : (k : ℕ) → Option (Placed Value) → Content → Content
set_key k None m = retain_keys m (λ q. not (q == k))
set_key k (Some v) m = insert m k v.0

swapped : (b : Bool) (x : Option Value) → cond (not b) x None ≡ cond b None x
swapped true x = refl
swapped false x = refl

at_set : (k : ℕ) (o : Option (Placed Value)) (m : Content) (q : ℕ)
    → at_key (set_key k o m) q ≡ cond (q == k) (value_of o) (at_key m q)
unfolding set_key value_of
at_set k None m q = at_retain m (λ x. not (x == k)) q ∙ swapped (q == k) (at_key m q)
at_set k (Some v) m q = at_insert m k v.0 q

module _ (to : ℕ → Option (Placed Value)) where
  fill_from : (from n : ℕ) → Content → Content
  fill_from from zero m = m
  fill_from from (suc n) m = set_key from (to from) (fill_from (from + 1) n m)

  pub fill : Intervals → Content → Content
  fill [] m = m
  fill (r ∷ rs) m = fill rs (fill_from r.0 (r.1 - r.0) m)

  step : (b c : Bool) (x y z : Option Value) → (b ≡ true → x ≡ y) → cond b x (cond c y z) ≡ cond (c || b) y z
  step true true x y z h = h refl
  step true false x y z h = h refl
  step false true x y z h = refl
  step false false x y z h = refl

  first_or_rest : (k from n : ℕ) → (is_between (from + 1) (from + 1 + n) k || k == from) ≡ is_between from (from + suc n) k
  first_or_rest k from n = grind (arith, common_steps)

  none_yet : (k from : ℕ) → is_between from (from + 0) k ≡ false
  none_yet k from = grind (arith, common_steps)

  at_fill_from : (from n : ℕ) (m : Content) (k : ℕ)
      → at_key (fill_from from n m) k ≡ cond (is_between from (from + n) k) (value_of (to k)) (at_key m k)
  unfolding fill_from value_of
  at_fill_from from zero m k =
      sym (ap (λ (b : Bool). cond b (value_of (to k)) (at_key m k)) (none_yet k from))
  at_fill_from from (suc n) m k =
      at_set from (to from) (fill_from (from + 1) n m) k
      ∙ ap (cond (k == from) (value_of (to from))) (at_fill_from (from + 1) n m k)
      ∙ step (k == from) (is_between (from + 1) (from + 1 + n) k) (value_of (to from)) (value_of (to k)) (at_key m k)
      (λ same. ap (λ (q : ℕ). value_of (to q)) (sym (eqb-true k from same)))
      ∙ ap (λ (b : Bool). cond b (value_of (to k)) (at_key m k)) (first_or_rest k from n)

  to_end : (from end k : ℕ) → is_between from (from + (end - from)) k ≡ is_between from end k
  to_end from end k = grind (arith, common_steps)

  one_of : (a b : Bool) (v w : Option Value) → cond b v (cond a v w) ≡ cond (a || b) v w
  one_of true true v w = refl
  one_of true false v w = refl
  one_of false b v w = refl

  at_fill : (rs : Intervals) (m : Content) (k : ℕ)
      → at_key (fill rs m) k ≡ cond (is_in rs k) (value_of (to k)) (at_key m k)
  unfolding fill value_of
  at_fill [] m k = refl
  at_fill (r ∷ rs) m k =
      at_fill rs (fill_from r.0 (r.1 - r.0) m) k
      ∙ ap (cond (is_in rs k) (value_of (to k)))
      (at_fill_from r.0 (r.1 - r.0) m k
      ∙ ap (λ (b : Bool). cond b (value_of (to k)) (at_key m k)) (to_end r.0 r.1 k))
      ∙ one_of (is_between r.0 r.1 k) (is_in rs k) (value_of (to k)) (at_key m k)

  pub filled : (rs : Intervals) (m : Content) → IsSetAt (is_in rs) to m (fill rs m)
  unfolding value_of
  filled rs m k = at_fill rs m k
