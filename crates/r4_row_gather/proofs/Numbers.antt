-- Cells and their numbers, where a change follows one without effect.
use Rattle.std.proofs.Common.{◌≡◌, ◌⊎◌, inl, inr, ℕ, Bool, true, false, List, [], ◌∷◌, ◌++◌, sym, ap, subst, refl, ◌∙◌, cond}
use Rattle.std.specs.Prelude.{◌||◌, not, Contains, if◌then◌else◌}
use Rattle.std.proofs.lemmas.List.Elements.{Contains-append_cases, Contains-append_left, Contains-append_right}
use Rattle.r4_work.specs.r4_cell.Seen.{CellSeen}
use Rattle.r4_work.specs.r4_cell.declared.change.Change.{Change}
use Rattle.r4_work.specs.r4_patch.Following.{IsFollowed, is_among, without}
use Rattle.r4_work.specs.r4_patch.Joining.{ids_of}
use Rattle.r4_work.proofs.r4_patch.Followed.{among_cell, among_or_not, cell_among, in_without, to_without}
use Rattle.r4_work.proofs.r4_patch.LeftOut.{among_contained, contained_among}
use Rattle.r4_work.proofs.r4_path.Rising.{id_member}
use Rattle.r4_row_gather.specs.Gathering.{StaysStill}
use Rattle.r4_row_gather.specs.declared.gathering.Gathered.{Gathered}
use Rattle.r4_row_gather.proofs.Still.{either_stands}

-- cells without those of some numbers, and then without those of others
pub without_twice : (a b u : List ℕ) (cells : List CellSeen) → ((i : ℕ) → is_among u i ≡ (is_among a i || is_among b i))
    → without b (without a cells) ≡ without u cells
without_twice a b u [] same = refl
without_twice a b u (c ∷ cs) same =
    step (is_among a c.id) (is_among b c.id) refl (without_twice a b u cs same)
    ∙ ap (λ (t : Bool). if not t then c ∷ without u cs else without u cs) (sym (same c.id))
  where
    step : (x y : Bool) → is_among b c.id ≡ y → without b (without a cs) ≡ without u cs
        → without b (if not x then c ∷ without a cs else without a cs) ≡ (if not (x || y) then c ∷ without u cs else without u cs)
    step true y e ih = ih
    step false true e ih = ap (λ (t : Bool). if not t then c ∷ without b (without a cs) else without b (without a cs)) e ∙ ih
    step false false e ih = ap (λ (t : Bool). if not t then c ∷ without b (without a cs) else without b (without a cs)) e
        ∙ ap (λ (zs : List CellSeen). c ∷ zs) ih

both_ways : (a b : Bool) → (a ≡ true → b ≡ true) → (b ≡ true → a ≡ true) → a ≡ b
both_ways true true one two = refl
both_ways false false one two = refl
both_ways true false one two = sym (one refl)
both_ways false true one two = two refl

either_true : (a b : Bool) → (a || b) ≡ true → (a ≡ true) ⊎ (b ≡ true)
either_true true b h = inl refl
either_true false b h = inr h

or_true : (a b : Bool) → (a ≡ true) ⊎ (b ≡ true) → (a || b) ≡ true
or_true true b h = refl
or_true false b (inl h) = absurd cc
or_true false b (inr h) = h

module _ (cells : List CellSeen) (one : Gathered) (first : StaysStill cells one) (d c : Change)
    (f : IsFollowed one.change d c) (old_in : (y : CellSeen) → Contains d.old y → Contains one.cells y) where
  pub from_cells : (y : CellSeen) → Contains c.old y → Contains cells y
  from_cells y at = elim (Contains-append_cases one.change.old (without (ids_of one.change.new) d.old) y
      (subst (λ xs. Contains xs y) f.old at)) [
        | inl own ↦ first.old y own
        | inr rest ↦
            let (its, out) = in_without (ids_of one.change.new) d.old y rest in
            elim (either_stands cells one first y (old_in y its)) [
              | inl was ↦ was.0
              | inr new ↦ absurd (let same : true ≡ false = sym (among_cell one.change.new y.id y new refl) ∙ out in cc)
            ]
      ]

  -- the number of an old cell of the first change is one of both
  first_number : (i : ℕ) → is_among (ids_of one.change.old) i ≡ true → Contains (ids_of c.old) i
  first_number i at = let (z, old, is) = cell_among one.change.old i at in
      subst (Contains (ids_of c.old)) is (id_member c.old z
      (subst (λ xs. Contains xs z) (sym f.old) (Contains-append_left one.change.old (without (ids_of one.change.new) d.old) z old)))

  pub new_number : (y : CellSeen) → Contains one.change.new y → Contains (ids_of c.old) y.id
  new_number y at = first_number y.id (among_contained (ids_of one.change.old) y.id (first.new y at))

  pub second_number : (i : ℕ) → is_among (ids_of d.old) i ≡ true → Contains (ids_of c.old) i
  second_number i at =
      let (y, old, is) = cell_among d.old i at in
      elim (among_or_not (ids_of one.change.new) y.id) [
        | inl made ↦ let (z, new, same) = cell_among one.change.new y.id made in
            subst (Contains (ids_of c.old)) (same ∙ is) (new_number z new)
        | inr other ↦ subst (Contains (ids_of c.old)) is (id_member c.old y (subst (λ xs. Contains xs y) (sym f.old)
            (Contains-append_right one.change.old (without (ids_of one.change.new) d.old) y
            (to_without (ids_of one.change.new) d.old y old other))))
      ]

  from_either : (i : ℕ) → is_among (ids_of c.old) i ≡ true
      → (is_among (ids_of one.change.old) i ≡ true) ⊎ (is_among (ids_of d.old) i ≡ true)
  from_either i at =
      let (z, old, is) = cell_among c.old i at in
      elim (Contains-append_cases one.change.old (without (ids_of one.change.new) d.old) z
      (subst (λ xs. Contains xs z) f.old old)) [
        | inl own ↦ inl (among_cell one.change.old i z own is)
        | inr rest ↦ inr (among_cell d.old i z (in_without (ids_of one.change.new) d.old z rest).0 is)
      ]

  pub old_numbers : (i : ℕ) → is_among (ids_of c.old) i
      ≡ (is_among (ids_of one.change.old) i || is_among (ids_of d.old) i)
  old_numbers i = both_ways (is_among (ids_of c.old) i) (is_among (ids_of one.change.old) i || is_among (ids_of d.old) i)
      (λ at. or_true (is_among (ids_of one.change.old) i) (is_among (ids_of d.old) i) (from_either i at))
      (λ at. elim (either_true (is_among (ids_of one.change.old) i) (is_among (ids_of d.old) i) at) [
        | inl own ↦ among_contained (ids_of c.old) i (first_number i own)
        | inr its ↦ among_contained (ids_of c.old) i (second_number i its)
      ])
