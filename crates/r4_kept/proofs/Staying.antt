-- Where cells in memory stay: what they name, and cells that tasks were given.
use Rattle.std.proofs.Common.{◌≡◌, inl, inr, ⊎_elim, ℕ, ◌<◌, ◌≤◌, ◌^◌, true, List, Some, None, Contains, refl, sym, ◌∙◌}
use Rattle.std.proofs.Common.{ap, subst, true≢false}
use Rattle.std.specs.Option.{option_map}
use Rattle.std.proofs.lemmas.Bool.{cases_Bool}
use Rattle.r4_history.specs.r4_atoms.Atoms.{numbers}
use Rattle.r4_base.proofs.Members.{member_or_not}
use Rattle.r4_base.specs.Tree.{Name}
use Rattle.r4_base.specs.declared.things.NodeId.{NodeId}
use Rattle.r4_buffer.specs.Changed.{Standing, cleaned, in_turn}
use Rattle.r4_buffer.specs.Seen.{BufferSeen, EntrySeen, buffered, cell_at, is_dirty_by}
use Rattle.r4_history.specs.r4_cell.Seen.{CellSeen, node_of}
use Rattle.r4_kept.specs.Cells.{AreNamedOnce, IsAccepted, IsStillThere, NamesAt}
use Rattle.r4_kept.proofs.Cleaned.{none_dirty, same_now}
use Rattle.r4_kept.proofs.Unused.{AreLike, same_cell, same_dirty}

-- what a cell names that stood there
pub names_as : (b : BufferSeen) (i : ℕ) (e f : EntrySeen) → buffered b i ≡ Some e → f.cell ≡ e.cell → (n : Name)
    → Contains (node_of f.cell).names n → NamesAt b i n
names_as b i e f at cell n has = record {
  entry = e;
  is = at;
  among = subst (λ (x : CellSeen). Contains (node_of x).names n) cell has;
}

-- what names the number of a new cell did so before
pub named_on : (b new : BufferSeen) (root : ℕ)
    → ((i : ℕ) (n : Name) → NamesAt new i n → 2 ^ 63 ≤ n.id → NamesAt b i n)
    → AreNamedOnce b root → AreNamedOnce new root
named_on b new root was h = record {
  once = λ i j n m x y same high.
      h.once i j n m (was i n x high) (was j m y (subst (λ (k : ℕ). 2 ^ 63 ≤ k) same high)) same high;
  not_root = λ i n x same high.
      h.not_root i n (was i n x (subst (λ (k : ℕ). 2 ^ 63 ≤ k) (sym same) high)) same high;
}

-- a cell that a task was given is as dirty as it was, and stands there still where it is
pub still_on : (b new : BufferSeen) (blocks : ℕ) (x : CellSeen)
    → is_dirty_by (buffered new x.id) ≡ is_dirty_by (buffered b x.id)
    → (is_dirty_by (buffered b x.id) ≡ true → cell_at new x.id ≡ cell_at b x.id)
    → IsStillThere b blocks x → IsStillThere new blocks x
still_on b new blocks x same stays h = record {
  dirty = λ yes. (let was = sym same ∙ yes in stays was ∙ h.dirty was);
  clean = λ no. h.clean (sym same ∙ no);
}

pub still_like : (b new : BufferSeen) → AreLike b new → (blocks : ℕ) (x : CellSeen) → IsStillThere b blocks x
    → IsStillThere new blocks x
still_like b new like blocks x h =
    still_on b new blocks x (same_dirty b new like x.id) (λ yes. same_cell b new like x.id) h

-- so it is where cells are dirty no more that have a block each and are accepted there
module _ (b new : BufferSeen) (ids : List NodeId)
    (cells : (i : ℕ) → buffered new i ≡ in_turn cleaned ids i (buffered b i)) (blocks : ℕ)
    (below : (i : ℕ) → Contains (numbers ids) i → i < blocks)
    (accepted : (i : ℕ) (e : EntrySeen) → Contains (numbers ids) i → buffered b i ≡ Some e
    → IsAccepted blocks e.cell) where
  dirty_accepted : (x : CellSeen) → Contains (numbers ids) x.id → (o : Standing) → buffered b x.id ≡ o
      → option_map (λ (e : EntrySeen). e.cell) o ≡ Some x → IsAccepted blocks x
  dirty_accepted x has None at h = absurd (cc h)
  dirty_accepted x has (Some e) at h =
      let same : e.cell ≡ x = cc h in subst (IsAccepted blocks) same (accepted x.id e has at)

  pub still_cleaned : (x : CellSeen) → IsStillThere b blocks x → IsStillThere new blocks x
  still_cleaned x h = ⊎_elim
      (λ has. record {
        dirty = λ yes. absurd (true≢false (sym yes ∙ none_dirty b new ids cells x.id has));
        clean = λ no. (
          below x.id has,
          elim (cases_Bool (is_dirty_by (buffered b x.id))) [
            | inl was ↦ dirty_accepted x has (buffered b x.id) refl (h.dirty was)
            | inr not ↦ (h.clean not).1
          ],
        );
      })
      (λ not.
      (let same = same_now b new ids cells x.id not in
      still_on b new blocks x (ap is_dirty_by same)
      (λ yes. ap (option_map (λ (e : EntrySeen). e.cell)) same) h)) (member_or_not (numbers ids) x.id)
