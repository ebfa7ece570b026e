-- The first things under ids, one more thing at a time.
use Rattle.std.proofs.Common.{◌≡◌, ℕ, ◌==◌, Bool, true, false, cond, not, ◌&&◌, List, [], ◌∷◌, ◌++◌, Option, Some, None, refl, sym, ap, ◌∙◌}
use Rattle.std.specs.List.{find}
use Rattle.std.specs.Option.{option_or}
use Rattle.std.proofs.lemmas.Bool.{eqb-true}
use Rattle.std.proofs.lemmas.List.Folds.{find-append}
use Rattle.r4_check_objects.specs.Held.{id_of, is_stat_data}
use Rattle.r4_check_objects.specs.Known.{AreHeads, goes_first}
use Rattle.r4_check_objects.specs.Objects.{head_of, is_of, is_stat_of, owner_of}
use Rattle.r4_check_objects.specs.Table.{value_at}
use Rattle.r4_check_objects.specs.declared.held.Held.{Held}
use Rattle.r4_check_objects.specs.declared.table.Table.{Table}
use Rattle.r4_check_objects.proofs.Finds.{find_none, find_true}

pub first_of_two : (s t : Bool) → (s && t) ≡ true → s ≡ true
first_of_two true t both = refl
first_of_two false t both = cc

pub second_of_two : (s t : Bool) → (s && t) ≡ true → t ≡ true
second_of_two true t both = both
second_of_two false t both = cc

-- the first stat data, and the first thing where there are none
stat_first : (found : List Held) (q : ℕ) (h : Held) → find (is_stat_of q) found ≡ Some h → is_stat_data h ≡ true
stat_first found q h is = first_of_two (is_stat_data h) (id_of h == q) (find_true (is_stat_of q) found h is)

other_first : (found : List Held) (q : ℕ) (h : Held) → find (is_stat_of q) found ≡ None → find (is_of q) found ≡ Some h → is_stat_data h ≡ false
other_first found q h none is = by (is_stat_data h) (find_none (is_stat_of q) (is_of q) found h none is) (find_true (is_of q) found h is)
  where
    by : (s : Bool) → (s && (id_of h == q)) ≡ false → (id_of h == q) ≡ true → s ≡ false
    by true none is = cc
    by false none is = refl

-- what is first after one thing more
merged : (h : Held) (a b : Option Held) (s o : Bool) → is_stat_data h ≡ s → ((f : Held) → a ≡ Some f → is_stat_data f ≡ true) → ((f : Held) → a ≡ None → b ≡ Some f → is_stat_data f ≡ false)
    → option_or (option_or a (cond (s && o) (Some h) None)) (option_or b (cond o (Some h) None)) ≡ cond (o && goes_first (option_or a b) h) (Some h) (option_or a b)
merged h (Some f) b s true is stat other = ap (λ (t : Bool). cond (not t && is_stat_data h) (Some h) (Some f)) (sym (stat f refl))
merged h (Some f) b s false is stat other = refl
merged h None (Some f) true true is stat other = sym (ap (λ (t : Bool). cond (not t && is_stat_data h) (Some h) (Some f)) (other f refl refl) ∙ ap (λ (t : Bool). cond t (Some h) (Some f)) is)
merged h None (Some f) true false is stat other = refl
merged h None (Some f) false true is stat other = sym (ap (λ (t : Bool). cond (not t && is_stat_data h) (Some h) (Some f)) (other f refl refl) ∙ ap (λ (t : Bool). cond t (Some h) (Some f)) is)
merged h None (Some f) false false is stat other = refl
merged h None None true true is stat other = refl
merged h None None true false is stat other = refl
merged h None None false true is stat other = refl
merged h None None false false is stat other = refl

head_push : (found : List Held) (h : Held) (q : ℕ) → head_of (found ++ h ∷ []) q ≡ cond ((id_of h == q) && goes_first (head_of found q) h) (Some h) (head_of found q)
unfolding head_of owner_of
head_push found h q =
    ap (λ (a : Option Held). option_or a (find (is_of q) (found ++ h ∷ []))) (find-append (is_stat_of q) found (h ∷ []))
    ∙ ap (λ (b : Option Held). option_or (option_or (find (is_stat_of q) found) (find (is_stat_of q) (h ∷ []))) b) (find-append (is_of q) found (h ∷ []))
    ∙ merged h (find (is_stat_of q) found) (find (is_of q) found) (is_stat_data h) (id_of h == q) refl (stat_first found q) (other_first found q)

pub no_heads : (m : Table (Option Held)) → ((q : ℕ) → value_at m q ≡ None) → AreHeads [] m
unfolding head_of owner_of
no_heads m none = record { each = none }

put_or : (h : Held) (t f : Bool) (a b : Option Held) → a ≡ b → (t ≡ true → f ≡ true) → cond t (Some h) a ≡ cond (t && f) (Some h) b
put_or h true f a b is first = ap (λ (x : Bool). cond x (Some h) b) (sym (first refl))
put_or h false f a b is first = is

kept_or : (h : Held) (t f : Bool) (b : Option Held) → (t ≡ true → f ≡ false) → b ≡ cond (t && f) (Some h) b
kept_or h true f b first = ap (λ (x : Bool). cond x (Some h) b) (sym (first refl))
kept_or h false f b first = refl

module _ (found : List Held) (h : Held) (now : Table (Option Held)) (so_far : AreHeads found now) where
  at_id : (b : Bool) → goes_first (value_at now (id_of h)) h ≡ b → (q : ℕ) → (id_of h == q) ≡ true → goes_first (head_of found q) h ≡ b
  at_id b first q same =
      let here : id_of h ≡ q = eqb-true _ _ same in
      ap (λ (o : Option Held). goes_first o h) (sym (so_far.each q)) ∙ ap (λ (k : ℕ). goes_first (value_at now k) h) (sym here) ∙ first

  first_is : (k : ℕ) (o : Option Held) (r b : Bool) → k ≡ id_of h → o ≡ value_at now k → r ≡ goes_first o h → r ≡ b → goes_first (value_at now (id_of h)) h ≡ b
  first_is k o r b key is told was = ap (λ (x : ℕ). goes_first (value_at now x) h) (sym key) ∙ ap (λ (x : Option Held). goes_first x h) (sym is) ∙ sym told ∙ was

  -- the thing goes first, or does not
  pub heads_put : (k : ℕ) (o : Option Held) (r : Bool) (new : Table (Option Held)) → k ≡ id_of h → o ≡ value_at now k → r ≡ goes_first o h → r ≡ true
      → ((q : ℕ) → value_at new q ≡ cond (k == q) (Some h) (value_at now q)) → AreHeads (found ++ h ∷ []) new
  heads_put k o r new key is told was u =
      let first = first_is k o r true key is told was in
      record {
        each = λ q. u q ∙ ap (λ (x : ℕ). cond (x == q) (Some h) (value_at now q)) key
            ∙ put_or h (id_of h == q) (goes_first (head_of found q) h) (value_at now q) (head_of found q) (so_far.each q) (at_id true first q) ∙ sym (head_push found h q);
      }

  pub heads_kept : (k : ℕ) (o : Option Held) (r : Bool) → k ≡ id_of h → o ≡ value_at now k → r ≡ goes_first o h → r ≡ false → AreHeads (found ++ h ∷ []) now
  heads_kept k o r key is told was =
      let first = first_is k o r false key is told was in
      record { each = λ q. so_far.each q ∙ kept_or h (id_of h == q) (goes_first (head_of found q) h) (head_of found q) (at_id false first q) ∙ sym (head_push found h q) }

-- ---- owners

stat_or_none : (found : List Held) (q : ℕ) (h : Held) → (a : Option Held) → owner_of found q ≡ a → head_of found q ≡ Some h → is_stat_data h ≡ true → a ≡ Some h
unfolding head_of owner_of
stat_or_none found q h (Some f) owner is stat = sym (ap (λ (o : Option Held). option_or o (find (is_of q) found)) owner) ∙ is
stat_or_none found q h None owner is stat =
    let first : find (is_of q) found ≡ Some h = sym (ap (λ (o : Option Held). option_or o (find (is_of q) found)) owner) ∙ is in
    let fails : is_stat_data h ≡ false = other_first found q h owner first in
    cc

pub owner_stat : (found : List Held) (q : ℕ) (h : Held) → head_of found q ≡ Some h → is_stat_data h ≡ true → owner_of found q ≡ Some h
owner_stat found q h is stat = stat_or_none found q h (owner_of found q) refl is stat

other_is_none : (found : List Held) (q : ℕ) → (a : Option Held) → owner_of found q ≡ a → ((h : Held) → head_of found q ≡ Some h → is_stat_data h ≡ false) → a ≡ None
unfolding head_of owner_of
other_is_none found q None owner other = refl
other_is_none found q (Some f) owner other =
    let fails : is_stat_data f ≡ false = other f (ap (λ (o : Option Held). option_or o (find (is_of q) found)) owner) in
    let holds : is_stat_data f ≡ true = stat_first found q f owner in
    cc

pub owner_none : (found : List Held) (q : ℕ) → ((h : Held) → head_of found q ≡ Some h → is_stat_data h ≡ false) → owner_of found q ≡ None
owner_none found q other = other_is_none found q (owner_of found q) refl other
