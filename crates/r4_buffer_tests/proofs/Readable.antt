-- What can be read over one data block in memory.
use Rattle.std.proofs.Common.{◌≡◌, ℕ, zero, suc, ◌<◌, ◌||◌, List, [], ◌∷◌, Bool, true, false, cond, refl, sym, ap, subst, ◌∙◌, arith}
use Rattle.std.specs.Prelude.{Option, Some, None, Contains, ◌==◌, nat_lt}
use Rattle.std.proofs.lemmas.Option.{none-some, same_Some}
use Rattle.r4_base.proofs.Choices.{nothing_in}
use Rattle.r4_base.specs.Cell.{cell_of}
use Rattle.r4_base.specs.Key.{rank}
use Rattle.r4_base.specs.Tree.{Name}
use Rattle.r4_outside.specs.Device.{State}
use Rattle.r4_cell.specs.Seen.{CellSeen, node_of}
use Rattle.r4_buffer.specs.Seen.{BufferSeen, EntrySeen, buffered, is_captured, is_captured_by}
use Rattle.r4_buffer.specs.Changed.{has_name, replaced}
use Rattle.r4_buffer.specs.Reading.{IsReadable, NamesStand}

no_names : (level lo hi : ℕ) (b : List ℕ) (n : Name) → level ≡ 0 → Contains (cell_of level lo hi b).names n → ⊥
unfolding cell_of
no_names zero lo hi b n is h = nothing_in n h
no_names (suc level) lo hi b n is h = absurd (omega (arith, is))

abbrev dirty_one : CellSeen → EntrySeen
dirty_one c = record { cell = c; uses = 0; dirty = true }

module _ (d : State) (b : BufferSeen) (blocks : ℕ) (c : CellSeen) (at : (i : ℕ) → buffered b i ≡ cond (c.id == i) (Some (dirty_one c)) None) (level : c.level ≡ 0) where
  is_it : (i : ℕ) (e : EntrySeen) → buffered b i ≡ Some e → e ≡ dirty_one c
  is_it i e h = by_name (c.id == i) (sym (at i) ∙ h)
    where
      by_name : (t : Bool) → cond t (Some (dirty_one c)) None ≡ Some e → e ≡ dirty_one c
      by_name true g = sym (same_Some (dirty_one c) e g)
      by_name false g = absurd (none-some e g)

  is_held : (i : ℕ) (e : EntrySeen) → buffered b i ≡ Some e → is_captured b i ≡ true
  is_held i e h = ap (is_captured_by b) (h ∙ ap Some (is_it i e h))

  pub readable_one : IsReadable d b blocks
  readable_one = record {
    accepted = λ i e h free. absurd (not_both (is_captured b i) (is_held i e h) free);
    same = λ tells i e h free. absurd (not_both (is_captured b i) (is_held i e h) free);
    names = λ i e h held n has. absurd (no_names c.level (rank c.lo) (rank c.hi) c.block n level (subst (λ (x : EntrySeen). Contains (node_of x.cell).names n) (is_it i e h) has));
  }
    where
      not_both : (t : Bool) → t ≡ true → t ≡ false → ⊥
      not_both true a f = cc
      not_both false a f = cc

-- a cell that is put where there is none stands alone, and dirty
pub placed_alone : (olds : List CellSeen) (c : CellSeen) (i : ℕ) (b : BufferSeen) → b ≡ record { entries = []; spare = 0 }
    → replaced olds (c ∷ []) i (buffered b i) ≡ cond (c.id == i) (Some (dirty_one c)) None
placed_alone olds c i b is = ap (λ (x : BufferSeen). replaced olds (c ∷ []) i (buffered x i)) is ∙ by_name (c.id == i) (has_name olds i)
  where
    by_name : (t u : Bool) → cond (t || false) (cond t (Some (dirty_one c)) None) (cond u None None) ≡ cond t (Some (dirty_one c)) None
    by_name true u = refl
    by_name false true = refl
    by_name false false = refl
