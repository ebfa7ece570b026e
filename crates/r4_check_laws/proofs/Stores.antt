-- The cells of a walk as a store, where each has a block of its own.
use Rattle.std.proofs.Common.{◌≡◌, inl, inr, ℕ, Bool, true, false, List, [], ◌∷◌, refl, sym, ap, subst, ◌∙◌, arith}
use Rattle.std.specs.Prelude.{Option, Some, None, Contains, ◌==◌, if◌then◌else◌}
use Rattle.std.proofs.lemmas.Bool.{cases_eq, eq-eqb}
use Rattle.std.proofs.lemmas.Bool.Decides.{nat_tests}
use Rattle.std.proofs.lemmas.Option.{none-some, same_Some}
use Rattle.r4_base.specs.Tree.{Node, Store}
use Rattle.r4_base.specs.Value.{Value}
use Rattle.r4_check_laws.proofs.Lists.{here, later, none_in, one_of}

abbrev pub Cells : Type 0
Cells = List (ℕ × Node Value)

-- no two of them have one block
abbrev pub AreOnce : Cells → Type 0
AreOnce [] = Unit {0}
AreOnce (c ∷ cells) = ((d : Node Value) → Contains cells (c.0, d) → ⊥) × AreOnce cells

abbrev pub store_of : Cells → Store Value
store_of [] i = None
store_of (c ∷ cells) i = if c.0 == i then Some c.1 else store_of cells i

picked : (b : Bool) (c : Node Value) (o : Option (Node Value)) → b ≡ true → (if b then Some c else o) ≡ Some c
picked true c o e = refl
picked false c o e = absurd (cc)

passed : (b : Bool) (c : Node Value) (o : Option (Node Value)) → b ≡ false → (if b then Some c else o) ≡ o
passed true c o e = absurd (cc)
passed false c o e = refl

pub stored : (cells : Cells) → AreOnce cells → (i : ℕ) (c : Node Value) → Contains cells (i, c) → store_of cells i ≡ Some c
stored [] once i c at = absurd (none_in (i, c) at)
stored (x ∷ cells) once i c at = elim (one_of x cells (i, c) at) [
  | inl e ↦
      let id : x.0 ≡ i = ap (λ (p : ℕ × Node Value). p.0) e in
      let is : x.1 ≡ c = ap (λ (p : ℕ × Node Value). p.1) e in
      picked (x.0 == i) x.1 (store_of cells i) (eq-eqb x.0 i id) ∙ ap (λ (d : Node Value). Some d) is
  | inr more ↦ elim (cases_eq x.0 i) [
    | inl id ↦ absurd (once.0 c (subst (λ (j : ℕ). Contains cells (j, c)) (sym id) more))
    | inr other ↦ (let t : (x.0 == i) ≡ false = grind (arith, nat_tests) in passed (x.0 == i) x.1 (store_of cells i) t ∙ stored cells once.1 i c more)
  ]
]

pub in_cells : (cells : Cells) (i : ℕ) (c : Node Value) → store_of cells i ≡ Some c → Contains cells (i, c)
in_cells [] i c e = absurd (none-some c e)
in_cells (x ∷ cells) i c e = elim (cases_eq x.0 i) [
  | inl id ↦
      let is : x.1 ≡ c = same_Some x.1 c (sym (picked (x.0 == i) x.1 (store_of cells i) (eq-eqb x.0 i id)) ∙ e) in
      subst (λ (j : ℕ). Contains (x ∷ cells) (j, c)) id (subst (λ (d : Node Value). Contains (x ∷ cells) (x.0, d)) is (here x cells))
  | inr other ↦
      let t : (x.0 == i) ≡ false = grind (arith, nat_tests) in
      later x cells (i, c) (in_cells cells i c (sym (passed (x.0 == i) x.1 (store_of cells i) t) ∙ e))
]

pub one_cell : (cells : Cells) → AreOnce cells → (i : ℕ) (c d : Node Value) → Contains cells (i, c) → Contains cells (i, d) → c ≡ d
one_cell cells once i c d at also = same_Some c d (sym (stored cells once i c at) ∙ stored cells once i d also)
