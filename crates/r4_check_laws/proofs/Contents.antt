-- The content that has given units, and how many of its units are of a kind.
use Rattle.std.proofs.Common.{◌≡◌, inl, inr, ℕ, ◌≢◌, Bool, true, false, cond, List, [], ◌∷◌, ◌++◌, refl, sym, ap, subst, ◌∙◌, arith, nat_cmp}
use Rattle.std.specs.Prelude.{Option, Some, None, Contains, count_by, ◌==◌}
use Rattle.std.specs.FinMap.{entries, from_entries, get-empty, insert}
use Rattle.std.proofs.lemmas.Bool.{cases_eq, eq-eqb}
use Rattle.std.proofs.lemmas.Bool.Decides.{nat_tests}
use Rattle.std.proofs.lemmas.List.Sums.{sum_by-cons}
use Rattle.std.proofs.lemmas.Option.{none-some, same_Some}
use Rattle.r4_base.proofs.FreshVolume.{none_in_empty}
use Rattle.r4_base.specs.Value.{Byte, Content, Entry, Stat, Value, at_key}
use Rattle.r4_content.proofs.Counting.{here as one_at, one_count, pick}
use Rattle.r4_content.proofs.EditLaws.{at_insert}
use Rattle.r4_check_laws.proofs.Lists.{either_in, here, later, none_in, one_of}

abbrev pub Units : Type 0
Units = List (ℕ × Value)

-- A key has one value.
abbrev pub HaveOne : Units → Type 0
HaveOne us = (k : ℕ) (v w : Value) → Contains us (k, v) → Contains us (k, w) → v ≡ w

abbrev pub raw_of : Units → Content
raw_of us = from_entries us

-- ---- what is found

same_key : (k j : ℕ) (v : Value) (o : Option Value) → k ≡ j → cond (k == j) (Some v) o ≡ Some v
same_key k j v o e = let t = eq-eqb k j e in rw t refl

other_key : (k j : ℕ) (v : Value) (o : Option Value) → k ≢ j → cond (k == j) (Some v) o ≡ o
other_key k j v o ne = let t : (k == j) ≡ false = grind (arith, nat_tests) in rw t refl

pub in_units : (us : Units) (k : ℕ) (v : Value) → at_key (raw_of us) k ≡ Some v → Contains us (k, v)
in_units [] k v e = absurd (none-some v (sym (get-empty nat_cmp k) ∙ e))
in_units (u ∷ us) k v e =
    let step = at_insert (raw_of us) u.0 u.1 k in
    elim (cases_eq k u.0) [
      | inl is ↦
          let val : u.1 ≡ v = same_Some u.1 v (sym (step ∙ same_key k u.0 u.1 (at_key (raw_of us) k) is) ∙ e) in
          subst (λ (j : ℕ). Contains (u ∷ us) (j, v)) (sym is) (subst (λ (x : Value). Contains (u ∷ us) (u.0, x)) val (here u us))
      | inr other ↦ later u us (k, v) (in_units us k v (sym (step ∙ other_key k u.0 u.1 (at_key (raw_of us) k) other) ∙ e))
    ]

some_there : (us : Units) (k : ℕ) (v : Value) → Contains us (k, v) → (w : Value) × (at_key (raw_of us) k ≡ Some w)
some_there [] k v at = absurd (none_in (k, v) at)
some_there (u ∷ us) k v at =
    let step = at_insert (raw_of us) u.0 u.1 k in
    elim (cases_eq k u.0) [
      | inl is ↦ (u.1, step ∙ same_key k u.0 u.1 (at_key (raw_of us) k) is)
      | inr other ↦ elim (one_of u us (k, v) at) [
        | inl e ↦ absurd (other (sym (ap (λ (p : ℕ × Value). p.0) e)))
        | inr more ↦ let (w, is) = some_there us k v more in (w, step ∙ other_key k u.0 u.1 (at_key (raw_of us) k) other ∙ is)
      ]
    ]

pub in_raw : (us : Units) → HaveOne us → (k : ℕ) (v : Value) → Contains us (k, v) → at_key (raw_of us) k ≡ Some v
in_raw us one k v at =
    let (w, is) = some_there us k v at in
    is ∙ ap (λ (x : Value). Some x) (one k w v (in_units us k w is) at)

-- ---- counts

abbrev pub is_named : Value → Bool
is_named (Stat a) = true
is_named (Entry n o) = true
is_named (Byte x) = false

-- stat data and entries have keys of their own
abbrev pub AreApart : Units → Type 0
AreApart [] = Unit {0}
AreApart (u ∷ us) = (is_named u.1 ≡ true → (v : Value) → Contains us (u.0, v) → ⊥) × AreApart us

pub apart_append : (xs ys : Units) → AreApart xs → AreApart ys → ((k : ℕ) (v w : Value) → is_named v ≡ true → Contains xs (k, v) → Contains ys (k, w) → ⊥) → AreApart (xs ++ ys)
apart_append [] ys a b cross = b
apart_append (x ∷ xs) ys a b cross = (
  λ named v at. elim (either_in xs ys (x.0, v) at) [
    | inl front ↦ a.0 named v front
    | inr back ↦ cross x.0 x.1 v named (here x xs) back
  ],
  apart_append xs ys a.1 b (λ k v w named at. cross k v w named (later x xs (k, v) at)),
)

pub apart_bytes : (us : Units) → ((u : ℕ × Value) → Contains us u → is_named u.1 ≡ false) → AreApart us
apart_bytes [] all = tt
apart_bytes (u ∷ us) all = (λ named v at. (let bare = all u (here u us) in absurd (cc)), apart_bytes us (λ x at. all x (later u us x at)))

-- a test that bytes do not pass
abbrev pub PassesNamed : (ℕ × Value → Bool) → Type 0
PassesNamed p = (k : ℕ) (v : Value) → p (k, v) ≡ true → is_named v ≡ true

module _ (p : ℕ × Value → Bool) (fits : PassesNamed p) where
  picked_at : (k : ℕ) (o : Option Value) → ((v : Value) → o ≡ Some v → p (k, v) ≡ false) → one_at p k o ≡ 0
  picked_at k None none = refl
  picked_at k (Some v) none = let t = none v refl in rw t refl

  one_here : (k : ℕ) (v : Value) → one_at p k (Some v) ≡ cond (p (k, v)) 1 0
  one_here k v = by (p (k, v)) refl
    where
      by : (b : Bool) → p (k, v) ≡ b → one_at p k (Some v) ≡ cond (p (k, v)) 1 0
      by true t = rw t refl
      by false t = rw t refl

  pub counted_raw : (us : Units) → HaveOne us → AreApart us → count_by p (entries (raw_of us)) ≡ count_by p us
  counted_raw [] one apart = ap (count_by p) none_in_empty
  counted_raw (u ∷ us) one apart =
      let m = raw_of us in
      let rest = counted_raw us (λ k v w a b. one k v w (later u us (k, v) a) (later u us (k, w) b)) apart.1 in
      let other = λ (k : ℕ) (ne : k ≢ u.0). ap (pick p k) (sym (at_insert m u.0 u.1 k ∙ other_key k u.0 u.1 (at_key m k) ne)) in
      let both = one_count p p m (insert m u.0 u.1) u.0 other in
      let now = ap (one_at p u.0) (at_insert m u.0 u.1 u.0 ∙ same_key u.0 u.0 u.1 (at_key m u.0) refl) ∙ one_here u.0 u.1 in
      let before = picked_at u.0 (at_key m u.0) (λ v is. not_counted v (in_units us u.0 v is) (p (u.0, v)) refl) in
      let sum = sum_by-cons (λ (x : ℕ × Value). cond (p x) 1 0) u us in
      omega (arith, rest, both, now, before, sum)
    where
      not_counted : (v : Value) → Contains us (u.0, v) → (b : Bool) → p (u.0, v) ≡ b → p (u.0, v) ≡ false
      not_counted v at false is = is
      not_counted v at true is =
          let same = one u.0 u.1 v (here u us) (later u us (u.0, v) at) in
          absurd (apart.0 (ap is_named same ∙ fits u.0 v is) v at)
