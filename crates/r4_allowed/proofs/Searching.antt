-- Cells that are looked through one after another.
use Rattle.std.proofs.Common.{◌≡◌, inl, inr, ℕ, ◌≤◌, Bool, true, false, List, ◌∷◌, length, take, sym, subst}
use Rattle.std.specs.Prelude.{◌↔◌, All, Contains}
use Rattle.std.proofs.lemmas.Bool.{both_ways}
use Rattle.std.proofs.lemmas.List.{take_all}
use Rattle.std.proofs.lemmas.List.Elements.{All-cons, All-contains, All-head, All-tail, Contains-get_or}
use Rattle.r4_base.specs.Tree.{Root}
use Rattle.r4_extent_put.specs.r4_extent_change.r4_measure.r4_cell.Seen.{CellSeen}
use Rattle.r4_extent_put.proofs.r4_extent_change.r4_measure.r4_patch.Members.{cases, later}
use Rattle.r4_allowed.specs.Allowing.{BearsBy, IsAllowed, IsEntry}
use Rattle.r4_allowed.specs.declared.table.Allowance.{Allowance}

-- ---- one of the cells

module _ (A B : CellSeen → Type 0) where
  abbrev pub OneHas : List CellSeen → Type 0
  OneHas cells = (c : CellSeen) × Contains cells c × A c × B c

  pub one_later : (first : CellSeen) (rest cells : List CellSeen) (v w : Bool) → cells ≡ first ∷ rest → v ≡ false
      → ((v ≡ true) ↔ (A first × B first)) → ((w ≡ true) ↔ OneHas rest) → ((w ≡ true) ↔ OneHas cells)
  one_later first rest cells v w is off here_so rest_so = (
    λ on.
        let (c, member, a, b) = rest_so.0 on in
        (c, subst (λ xs. Contains xs c) (sym is) (later first c rest member), a, b),
    λ (c, member, a, b). elim (cases first c rest (subst (λ xs. Contains xs c) is member)) [
      | inl same ↦ absurd (both_ways v off (here_so.1 (subst A same a, subst B same b)))
      | inr behind ↦ rest_so.1 (c, behind, a, b)
    ],
  )

-- ---- each of the cells

module _ (P : CellSeen → Type 0) (first : CellSeen) (rest cells : List CellSeen) (is : cells ≡ first ∷ rest) where
  pub all_later : (v w : Bool) → v ≡ true → ((v ≡ true) ↔ P first) → ((w ≡ true) ↔ All P rest) → ((w ≡ true) ↔ All P cells)
  all_later v w on here_so rest_so = (
    λ all. subst (All P) (sym is) (All-cons P first rest (here_so.0 on) (rest_so.0 all)),
    λ all. rest_so.1 (All-tail P first rest (subst (All P) is all)),
  )

  pub not_first : (v : Bool) → v ≡ false → ((v ≡ true) ↔ P first) → ((v ≡ true) ↔ All P cells)
  not_first v off here_so = (
    λ on. absurd (both_ways v off on),
    λ all. here_so.1 (All-head P first rest (subst (All P) is all)),
  )

-- ---- the table

each_of : {A : Type 0} (P : A → Type 0) (xs : List A) → ((x : A) → Contains xs x → P x) → All P xs
each_of P xs h k d within = h _ (Contains-get_or xs k d within)

module _ (r : Root) (cells : List CellSeen) (table : List Allowance) where
  pub all_allowed : (v w : Bool) → v ≡ true → ((v ≡ true) ↔ All (IsEntry r cells) table) → ((w ≡ true) ↔ All (BearsBy table) cells)
      → ((w ≡ true) ↔ IsAllowed r cells table)
  all_allowed v w on entries bear = (
    λ all. record {
      entries = λ a member. All-contains (IsEntry r cells) table a (entries.0 on) member;
      bear = λ c member. All-contains (BearsBy table) cells c (bear.0 all) member;
    },
    λ is. bear.1 (each_of (BearsBy table) cells is.bear),
  )

  pub not_entries : (v : Bool) → v ≡ false → ((v ≡ true) ↔ All (IsEntry r cells) table) → ((v ≡ true) ↔ IsAllowed r cells table)
  not_entries v off entries = (
    λ on. absurd (both_ways v off on),
    λ is. entries.1 (each_of (IsEntry r cells) table is.entries),
  )

-- ---- a list of which all were looked at

pub all_there : {A : Type 0} (P : A → Type 0) (xs : List A) (i : ℕ) → length xs ≤ i → All P (take i xs) → All P xs
all_there {A} P xs i past h = subst (All P) (take_all i xs past) h
