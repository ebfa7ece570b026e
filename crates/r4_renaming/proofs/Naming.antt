-- What becomes of names, one more cell at a time.
use Rattle.std.proofs.Common.{◌≡◌, inl, inr, ℕ, ◌+◌, ◌<◌, ◌==◌, Bool, true, false, cond, List, [], ◌∷◌, ◌++◌}
use Rattle.std.proofs.Common.{map, take, length, get_or, Option, Some, refl, sym, ◌∙◌, ap, arith}
use Rattle.std.specs.Prelude.{nat_eq}
use Rattle.std.specs.BTreeMap.{BTreeMap, Updates, get, is_at}
use Rattle.std.specs.List.{IsDistinct}
use Rattle.std.specs.Option.{unwrap_or}
use Rattle.std.specs.Ordering.{nat_cmp}
use Rattle.std.proofs.lemmas.Bool.{cases_eq, cases_lt, eq-eqb, eqb-true, or_parts}
use Rattle.std.proofs.lemmas.Bool.Decides.{nat_tests}
use Rattle.r4_flush.specs.declared.cells.RenamedCell.{RenamedCell}
use Rattle.r4_renaming.specs.Renaming.{name_then, was_named}
use Rattle.r4_renaming.specs.Steps.{name_in}
use Rattle.r4_renaming.proofs.Prefix.{more, new_name, not_was, old_name}

-- ---- a cell more

swap_tests : (s t : Bool) (x y z : ℕ) → (s ≡ true → t ≡ true → ⊥) → cond s x (cond t y z) ≡ cond t y (cond s x z)
swap_tests true true x y z never = absurd (never refl refl)
swap_tests true false x y z never = refl
swap_tests false t x y z never = refl

name_then-push : (rs : List RenamedCell) (x : RenamedCell) (i : ℕ) → was_named rs (old_name x) ≡ false
    → name_then (rs ++ x ∷ []) i ≡ cond (old_name x == i) (new_name x) (name_then rs i)
name_then-push [] x i none = refl
name_then-push (r ∷ rs) x i none =
    let (apart, rest) = or_parts (old_name r == old_name x) (was_named rs (old_name x)) none in
    ap (λ (n : ℕ). cond (old_name r == i) (new_name r) n) (name_then-push rs x i rest)
    ∙ swap_tests (old_name r == i) (old_name x == i) (new_name r) (new_name x) (name_then rs i)
    (λ one other. cc (
    sym (eq-eqb (old_name r) (old_name x) (eqb-true (old_name r) i one ∙ sym (eqb-true (old_name x) i other))) ∙ apart))

-- ---- the table

at_is : (k b : ℕ) → is_at (nat_cmp k) b ≡ (k == b)
at_is k b = elim (cases_eq b k) [
  | inl is ↦ grind (arith, nat_tests)
  | inr other ↦ elim (cases_lt k b) [ inl lt ↦ grind (arith, nat_tests) | inr ge ↦ grind (arith, nat_tests) ]
]

some_or : (t : Bool) (v : ℕ) (o : Option ℕ) (i : ℕ) → unwrap_or (cond t (Some v) o) i ≡ cond t v (unwrap_or o i)
some_or true v o i = refl
some_or false v o i = refl

module _ (rs : List RenamedCell) (k : ℕ) (x : RenamedCell) (lt : k < length rs) (is : x ≡ get_or rs k x) where
  pub names_next : IsDistinct nat_eq (map old_name rs) → (now new : BTreeMap ℕ ℕ) (v : ℕ) → v ≡ new_name x
      → ((i : ℕ) → name_in now i ≡ name_then (take k rs) i) → Updates nat_cmp now new (old_name x) (Some v)
      → (i : ℕ) → name_in new i ≡ name_then (take (k + 1) rs) i
  names_next once now new v named so_far u i =
      ap (λ (o : Option ℕ). unwrap_or o i)
      (u.0 i ∙ ap (λ (t : Bool). cond t (Some v) (get nat_cmp now i)) (at_is (old_name x) i))
      ∙ some_or (old_name x == i) v (get nat_cmp now i) i
      ∙ ap (λ (n : ℕ). cond (old_name x == i) n (name_in now i)) named
      ∙ ap (λ (n : ℕ). cond (old_name x == i) (new_name x) n) (so_far i)
      ∙ sym (name_then-push (take k rs) x i (not_was rs k x lt is once))
      ∙ ap (λ (l : List RenamedCell). name_then l i) (sym (more rs k x lt is))
