-- The ids that entries name, one more entry at a time; and those that pass a test, one more at a time.
use Rattle.std.proofs.Common.{◌≡◌, ℕ, zero, suc, ◌+◌, ◌<◌, ◌==◌, Bool, true, false, cond, ◌||◌, ◌&&◌, List, [], ◌∷◌, ◌++◌, length, take, get_or, Option, Some, None, refl, sym, ap, ◌∙◌, arith}
use Rattle.std.specs.BTreeMap.{BTreeMap, is_at}
use Rattle.std.specs.Global.{Vec}
use Rattle.std.specs.List.{filter, find, list_any}
use Rattle.std.specs.Map.{lookup}
use Rattle.std.specs.Option.{option_map_or}
use Rattle.std.specs.Ordering.{nat_cmp}
use Rattle.std.proofs.lemmas.List.{append-nil}
use Rattle.std.proofs.lemmas.List.Elements.{filter_more}
use Rattle.std.proofs.lemmas.List.Folds.{list_any_more}
use Rattle.r4_base.specs.declared.items.Target.{Target}
use Rattle.r4_check_objects.specs.Held.{id_of}
use Rattle.r4_check_objects.specs.Objects.{target_of}
use Rattle.r4_check_objects.specs.Reach.{AddsName, AreNamed, is_among, is_named, leads}
use Rattle.r4_check_objects.specs.declared.held.Held.{Held}

pub no_names : (named : BTreeMap ℕ (Vec ℕ)) → named.entries ≡ [] → AreNamed [] named
no_names named none = record { each = λ p q. ap (λ (es : List (ℕ × Vec ℕ)). option_map_or (λ v. is_among q v.items) (lookup (is_at (nat_cmp p)) es) false) none }

or_turned : (s t : Bool) → (s || t) ≡ (t || s)
or_turned true true = refl
or_turned true false = refl
or_turned false true = refl
or_turned false false = refl

or_none : (s : Bool) → s ≡ (s || false)
or_none true = refl
or_none false = refl

module _ (found : List Held) (i : ℕ) (d : Held) (lt : i < length found) (now after : BTreeMap ℕ (Vec ℕ)) (so_far : AreNamed (take i found) now) where
  pub name_more : (o : Option Target) (t : Target) (from : ℕ) (new : BTreeMap ℕ (Vec ℕ)) → o ≡ target_of (get_or found i d).thing → o ≡ Some t → from ≡ id_of (get_or found i d) → AddsName from t.oid.0 now new → after ≡ new → AreNamed (take (i + 1) found) after
  name_more o t from new told is id a same =
      let h : Held = get_or found i d in
      record {
        each = λ p q. ap (λ (m : BTreeMap ℕ (Vec ℕ)). is_named m p q) same ∙ a.each p q ∙ or_turned (t.oid.0 == q && from == p) (is_named now p q) ∙ ap (λ (s : Bool). s || (t.oid.0 == q && from == p)) (so_far.each p q)
            ∙ ap (λ (x : ℕ). list_any (leads p q) (take i found) || (t.oid.0 == q && x == p)) id
            ∙ ap (λ (x : Option Target). list_any (leads p q) (take i found) || (option_map_or (λ o. o.oid.0 == q) x false && id_of h == p)) (sym is ∙ told) ∙ sym (list_any_more (leads p q) found i d lt);
      }

  pub name_none : (o : Option Target) → o ≡ target_of (get_or found i d).thing → o ≡ None → after ≡ now → AreNamed (take (i + 1) found) after
  name_none o told is same =
      let h : Held = get_or found i d in
      record {
        each = λ p q. ap (λ (m : BTreeMap ℕ (Vec ℕ)). is_named m p q) same ∙ so_far.each p q ∙ or_none (list_any (leads p q) (take i found))
            ∙ ap (λ (x : Option Target). list_any (leads p q) (take i found) || (option_map_or (λ o. o.oid.0 == q) x false && id_of h == p)) (sym is ∙ told) ∙ sym (list_any_more (leads p q) found i d lt);
      }

-- ---- those that pass

module _ (p : Held → Bool) (found : List Held) (i : ℕ) (d : Held) (lt : i < length found) (old : List Held) (so_far : old ≡ filter p (take i found)) where
  pub filter_put : (new : List Held) → p (get_or found i d) ≡ true → new ≡ old ++ get_or found i d ∷ [] → new ≡ filter p (take (i + 1) found)
  filter_put new holds is = is ∙ ap (λ (l : List Held). l ++ get_or found i d ∷ []) so_far ∙ ap (λ (t : Bool). filter p (take i found) ++ cond t (get_or found i d ∷ []) []) (sym holds) ∙ sym (filter_more p found i d lt)

  pub filter_kept : (new : List Held) → p (get_or found i d) ≡ false → new ≡ old → new ≡ filter p (take (i + 1) found)
  filter_kept new fails is = is ∙ so_far ∙ sym (append-nil (filter p (take i found))) ∙ ap (λ (t : Bool). filter p (take i found) ++ cond t (get_or found i d ∷ []) []) (sym fails) ∙ sym (filter_more p found i d lt)

-- ---- the first one that passes

pub find_more : (p : Held → Bool) (found : List Held) (i : ℕ) (d : Held) → i < length found → find p (take i found) ≡ None → p (get_or found i d) ≡ false → find p (take (i + 1) found) ≡ None
find_more p [] i d lt none fails = absurd (omega (arith, lt))
find_more p (x ∷ found) zero d lt none fails = ap (λ (t : Bool). cond t (Some x) None) fails
find_more p (x ∷ found) (suc i) d lt none fails = by (p x) refl (find_more p found i d (omega (arith, lt))) none
  where
    by : (b : Bool) → p x ≡ b → (find p (take i found) ≡ None → p (get_or found i d) ≡ false → find p (take (i + 1) found) ≡ None) → cond b (Some x) (find p (take i found)) ≡ None → find p (take (suc i + 1) (x ∷ found)) ≡ None
    by true is later none = cc
    by false is later none = let e : suc i + 1 ≡ suc (i + 1) = omega arith in ap (λ (n : ℕ). find p (take n (x ∷ found))) e ∙ ap (λ (t : Bool). cond t (Some x) (find p (take (i + 1) found))) is ∙ later none fails

pub find_here : (p : Held → Bool) (found : List Held) (i : ℕ) (d : Held) → i < length found → find p (take i found) ≡ None → p (get_or found i d) ≡ true → find p found ≡ Some (get_or found i d)
find_here p [] i d lt none holds = absurd (omega (arith, lt))
find_here p (x ∷ found) zero d lt none holds = ap (λ (t : Bool). cond t (Some x) (find p found)) holds
find_here p (x ∷ found) (suc i) d lt none holds = by (p x) refl (find_here p found i d (omega (arith, lt))) none
  where
    by : (b : Bool) → p x ≡ b → (find p (take i found) ≡ None → p (get_or found i d) ≡ true → find p found ≡ Some (get_or found i d)) → cond b (Some x) (find p (take i found)) ≡ None → find p (x ∷ found) ≡ Some (get_or (x ∷ found) (suc i) d)
    by true is later none = cc
    by false is later none = ap (λ (t : Bool). cond t (Some x) (find p found)) is ∙ later none holds
