-- Which names are captured.
use Rattle.std.proofs.Common.{◌≡◌, ◌⊎◌, inl, inr, ⊎_elim, ℕ, suc, Bool, true, false, ◌&&◌, ◌||◌, List, [], ◌∷◌, refl, ap, ◌∙◌, arith}
use Rattle.std.specs.Prelude.{Contains, Option, Some, None}
use Rattle.std.specs.Cmp.{nat_eq_equiv}
use Rattle.std.specs.List.{list_any}
use Rattle.std.specs.Map.{values_of}
use Rattle.std.proofs.lemmas.Bool.{and_parts, eqb-true}
use Rattle.std.proofs.lemmas.List.Folds.{list_any_at}
use Rattle.std.proofs.lemmas.Map.Made.{Contains-from_values_of, Contains-values_of}
use Rattle.std.proofs.lemmas.Map.Views.{Contains-from_lookup, lookup-from_Contains}
use Rattle.r4_search.specs.r4_cell.Seen.{CellSeen}
use Rattle.r4_buffer.specs.Seen.{BufferSeen, EntrySeen, IsAncestor, IsCaptured, IsLawful, buffered, is_above, is_above_dirty, is_captured, is_captured_by}

found : (p : EntrySeen → Bool) (vs : List EntrySeen) → list_any p vs ≡ true → (v : EntrySeen) × Contains vs v × (p v ≡ true)
found p [] h = absurd cc
found p (v ∷ vs) h = by_test (p v) refl h (λ g. found p vs g)
  where
    by_test : (t : Bool) → p v ≡ t → (t || list_any p vs) ≡ true → (list_any p vs ≡ true → (w : EntrySeen) × Contains vs w × (p w ≡ true)) → (w : EntrySeen) × Contains (v ∷ vs) w × (p w ≡ true)
    by_test true is g rest = (v, (0, omega arith, refl), is)
    by_test false is g rest = let (w, (k, lt, at), passes) = rest g in (w, (suc k, omega arith, at), passes)

there : (p : EntrySeen → Bool) (vs : List EntrySeen) (v : EntrySeen) → Contains vs v → p v ≡ true → list_any p vs ≡ true
there p vs v (k, lt, at) passes = list_any_at p vs k v lt (ap p at ∙ passes)

module _ (b : BufferSeen) (lawful : IsLawful b) where
  ancestor_found : (a : CellSeen) → is_above_dirty b a ≡ true → IsAncestor b a
  ancestor_found a h =
      let (v, has, passes) = found (λ (e : EntrySeen). e.dirty && is_above a e.cell) (values_of b.entries) h in
      let (k, at) = Contains-from_values_of b.entries v has in
      let both = and_parts v.dirty (is_above a v.cell) passes in
      record { name = k; entry = v; is = lookup-from_Contains nat_eq_equiv k v b.entries lawful.unique at; dirty = both.0; above = both.1 }

  is_ancestor : (a : CellSeen) → IsAncestor b a → is_above_dirty b a ≡ true
  is_ancestor a h =
      let passes : (h.entry.dirty && is_above a h.entry.cell) ≡ true = rw (h.dirty, h.above) refl in
      there (λ (e : EntrySeen). e.dirty && is_above a e.cell) (values_of b.entries) h.entry (Contains-values_of b.entries h.name h.entry (Contains-from_lookup eqb-true h.name h.entry b.entries h.is)) passes

  pub captured_is : (i : ℕ) → is_captured b i ≡ true → IsCaptured b i
  captured_is i h = by_entry (buffered b i) refl h
    where
      by_dirty : (e : EntrySeen) (t : Bool) → e.dirty ≡ t → (t || is_above_dirty b e.cell) ≡ true → (e.dirty ≡ true) ⊎ IsAncestor b e.cell
      by_dirty e true is g = inl is
      by_dirty e false is g = inr (ancestor_found e.cell g)

      by_entry : (o : Option EntrySeen) → buffered b i ≡ o → is_captured_by b o ≡ true → IsCaptured b i
      by_entry None at g = absurd cc
      by_entry (Some e) at g = record { entry = e; is = at; why = by_dirty e e.dirty refl g }

  pub is_captured_from : (i : ℕ) → IsCaptured b i → is_captured b i ≡ true
  is_captured_from i h = ap (is_captured_by b) h.is ∙ ⊎_elim (λ dirty. dirty_first h.entry.dirty dirty) (λ above. above_last h.entry.dirty (is_ancestor h.entry.cell above)) h.why
    where
      dirty_first : (t : Bool) → t ≡ true → (t || is_above_dirty b h.entry.cell) ≡ true
      dirty_first true is = refl
      dirty_first false is = absurd cc

      above_last : (t : Bool) → is_above_dirty b h.entry.cell ≡ true → (t || is_above_dirty b h.entry.cell) ≡ true
      above_last true is = refl
      above_last false is = is
