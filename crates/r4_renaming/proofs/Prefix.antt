-- The first of the renamed cells, and the next one.
use Rattle.std.proofs.Common.{◌≡◌, ℕ, ◌+◌, ◌<◌, ◌≤◌, ◌^◌, ◌==◌, ◌||◌, Bool, true, false, List, [], ◌∷◌, ◌++◌}
use Rattle.std.proofs.Common.{map, take, drop, length, get_or, refl, sym, ◌∙◌, ap, subst, arith}
use Rattle.std.specs.Prelude.{Contains, nat_eq}
use Rattle.std.specs.Arc.{arc_value}
use Rattle.std.specs.List.{IsDistinct, list_any}
use Rattle.std.proofs.lemmas.Bool.{false_from_ne_true}
use Rattle.std.proofs.lemmas.List.{take-append-drop, take_more}
use Rattle.std.proofs.lemmas.List.Elements.{Contains-append_left, Contains-get_or}
use Rattle.std.proofs.lemmas.List.Folds.{list_any_more}
use Rattle.r4_buffer.specs.Changed.{has_name}
use Rattle.r4_flush.specs.Prepared.{cells_of}
use Rattle.r4_flush.specs.declared.cells.RenamedCell.{RenamedCell}
use Rattle.r4_renaming.specs.Renaming.{was_named}
use Rattle.r4_renaming.proofs.Lists.{any_one, none_before, one_any}

abbrev pub old_name : RenamedCell → ℕ
old_name r = r.was.0

abbrev pub new_name : RenamedCell → ℕ
new_name r = (arc_value r.cell).id

-- the cells' names, by the cells themselves
pub named : (rs : List RenamedCell) (i : ℕ)
    → has_name (cells_of rs) i ≡ list_any (λ (r : RenamedCell). new_name r == i) rs
named [] i = refl
named (r ∷ rs) i = ap (λ (b : Bool). (new_name r == i) || b) (named rs i)

pub one_named : (rs : List RenamedCell) (i : ℕ) → has_name (cells_of rs) i ≡ true
    → (r : RenamedCell) × Contains rs r × (new_name r ≡ i)
one_named rs i is = any_one new_name i rs (sym (named rs i) ∙ is)

pub one_was : (rs : List RenamedCell) (i : ℕ) → was_named rs i ≡ true
    → (r : RenamedCell) × Contains rs r × (old_name r ≡ i)
one_was rs i is = any_one old_name i rs is

pub is_named : (rs : List RenamedCell) (r : RenamedCell) → Contains rs r
    → has_name (cells_of rs) (new_name r) ≡ true
is_named rs r has = named rs (new_name r) ∙ one_any new_name rs r has

pub was_one : (rs : List RenamedCell) (r : RenamedCell) → Contains rs r → was_named rs (old_name r) ≡ true
was_one rs r has = one_any old_name rs r has

-- where each new name is that of a block, no cell has a number of a new cell for its name
pub no_number : (rs : List RenamedCell) → ((r : RenamedCell) → Contains rs r → new_name r < 2 ^ 63) → (i : ℕ)
    → 2 ^ 63 ≤ i → has_name (cells_of rs) i ≡ false
no_number rs low i high =
    false_from_ne_true (has_name (cells_of rs) i)
    (λ is. let (r, has, at) = one_named rs i is in let lt = low r has in absurd (omega (arith, lt, at, high)))

module _ (rs : List RenamedCell) (k : ℕ) (x : RenamedCell) (lt : k < length rs) (is : x ≡ get_or rs k x) where
  pub more : take (k + 1) rs ≡ take k rs ++ x ∷ []
  more = take_more rs k x lt ∙ ap (λ (y : RenamedCell). take k rs ++ y ∷ []) (sym is)

  pub here : Contains rs x
  here = subst (Contains rs) (sym is) (Contains-get_or rs k x lt)

  pub earlier : (r : RenamedCell) → Contains (take k rs) r → Contains rs r
  earlier r has =
      subst (λ (l : List RenamedCell). Contains l r) (take-append-drop k rs)
      (Contains-append_left (take k rs) (drop k rs) r has)

  pub was_more : (i : ℕ) → was_named (take (k + 1) rs) i ≡ (was_named (take k rs) i || (old_name x == i))
  was_more i =
      list_any_more (λ (r : RenamedCell). old_name r == i) rs k x lt
      ∙ ap (λ (r : RenamedCell). was_named (take k rs) i || (old_name r == i)) (sym is)

  pub named_more : (i : ℕ)
      → has_name (cells_of (take (k + 1) rs)) i ≡ (has_name (cells_of (take k rs)) i || (new_name x == i))
  named_more i =
      named (take (k + 1) rs) i
      ∙ list_any_more (λ (r : RenamedCell). new_name r == i) rs k x lt
      ∙ ap (λ (r : RenamedCell). list_any (λ (q : RenamedCell). new_name q == i) (take k rs) || (new_name r == i))
      (sym is)
      ∙ ap (λ (b : Bool). b || (new_name x == i)) (sym (named (take k rs) i))

  pub not_was : IsDistinct nat_eq (map old_name rs) → was_named (take k rs) (old_name x) ≡ false
  not_was once =
      subst (λ (r : RenamedCell). was_named (take k rs) (old_name r) ≡ false) (sym is)
      (none_before old_name rs k x lt once)

  pub not_named : IsDistinct nat_eq (map new_name rs) → has_name (cells_of (take k rs)) (new_name x) ≡ false
  not_named once =
      named (take k rs) (new_name x)
      ∙ subst (λ (r : RenamedCell). list_any (λ (q : RenamedCell). new_name q == new_name r) (take k rs) ≡ false)
      (sym is) (none_before new_name rs k x lt once)
