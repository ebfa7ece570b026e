-- Cells in memory that an atom owned, once they are committed.
use Rattle.std.proofs.Common.{◌≡◌, ◌⊎◌, inl, inr, ⊎_elim, ℕ, ◌==◌, true, false, List, [], ◌∷◌, Some}
use Rattle.std.proofs.Common.{None, refl, sym, ◌∙◌, ap}
use Rattle.std.specs.Prelude.{Contains}
use Rattle.std.specs.Option.{option_map}
use Rattle.std.proofs.lemmas.Bool.{cases_Bool, cond-true, cond-false, eq-eqb, eqb-true, ne_eqb}
use Rattle.r4_history.specs.r4_atoms.Atoms.{numbers}
use Rattle.r4_base.proofs.Members.{member_cases, member_here, member_later, member_or_not, no_member}
use Rattle.r4_base.specs.declared.things.NodeId.{NodeId}
use Rattle.r4_buffer.specs.Changed.{Standing, cleaned, in_turn, not_dirty}
use Rattle.r4_buffer.specs.Seen.{BufferSeen, EntrySeen, IsCaptured, buffered, is_above, is_dirty_by}
use Rattle.r4_history.specs.r4_cell.Seen.{CellSeen}

-- ---- one name after another

abbrev clean : Standing → Standing
clean o = option_map not_dirty o

clean_twice : (o : Standing) → clean (clean o) ≡ clean o
clean_twice None = refl
clean_twice (Some e) = refl

one_cleaned : (n : NodeId) (i : ℕ) (o : Standing) → n.0 ≡ i → cleaned n i o ≡ clean o
one_cleaned n i o is = cond-true (n.0 == i) (clean o) o (eq-eqb n.0 i is)

other_cleaned : (n : NodeId) (i : ℕ) (o : Standing) → (n.0 ≡ i → ⊥) → cleaned n i o ≡ o
other_cleaned n i o not = cond-false (n.0 == i) (clean o) o (ne_eqb n.0 i not)

stays_clean : (ids : List NodeId) (i : ℕ) (o : Standing) → in_turn cleaned ids i (clean o) ≡ clean o
stays_clean [] i o = refl
stays_clean (n ∷ ids) i o = elim (cases_Bool (n.0 == i)) [
  | inl same ↦
      ap (in_turn cleaned ids i) (one_cleaned n i (clean o) (eqb-true n.0 i same) ∙ clean_twice o)
      ∙ stays_clean ids i o
  | inr not ↦
      ap (in_turn cleaned ids i) (cond-false (n.0 == i) (clean (clean o)) (clean o) not) ∙ stays_clean ids i o
]

-- a name that is not among them stands as it was
pub others_stand : (ids : List NodeId) (i : ℕ) (o : Standing) → (Contains (numbers ids) i → ⊥)
    → in_turn cleaned ids i o ≡ o
others_stand [] i o not = refl
others_stand (n ∷ ids) i o not =
    ap (in_turn cleaned ids i) (other_cleaned n i o (λ is. not (member_here n.0 (numbers ids) i (sym is))))
    ∙ others_stand ids i o (λ has. not (member_later n.0 (numbers ids) i has))

-- and one that is stands clean
pub these_clean : (ids : List NodeId) (i : ℕ) (o : Standing) → Contains (numbers ids) i
    → in_turn cleaned ids i o ≡ clean o
these_clean [] i o has = absurd (no_member i has)
these_clean (n ∷ ids) i o has = ⊎_elim
    (λ is. ap (in_turn cleaned ids i) (one_cleaned n i o (sym is)) ∙ stays_clean ids i o)
    (λ later. elim (cases_Bool (n.0 == i)) [
      | inl same ↦ ap (in_turn cleaned ids i) (one_cleaned n i o (eqb-true n.0 i same)) ∙ stays_clean ids i o
      | inr not ↦
          ap (in_turn cleaned ids i) (cond-false (n.0 == i) (clean o) o not) ∙ these_clean ids i o later
    ]) (member_cases n.0 (numbers ids) i has)

-- ---- all cells in memory

-- An entry was there, as it is or dirty.
pub record Was (b : BufferSeen) (ids : List NodeId) (i : ℕ) (f : EntrySeen) : Type 0 where
  pub entry : EntrySeen
  pub is : buffered b i ≡ Some entry
  pub cell : f.cell ≡ entry.cell
  pub uses : f.uses ≡ entry.uses
  pub how : (Contains (numbers ids) i × (f.dirty ≡ false))
      ⊎ ((Contains (numbers ids) i → ⊥) × (f.dirty ≡ entry.dirty))

module _ (b new : BufferSeen) (ids : List NodeId)
    (cells : (i : ℕ) → buffered new i ≡ in_turn cleaned ids i (buffered b i)) where
  pub cleaned_now : (i : ℕ) → Contains (numbers ids) i → buffered new i ≡ clean (buffered b i)
  cleaned_now i has = cells i ∙ these_clean ids i (buffered b i) has

  -- none of these is dirty
  pub none_dirty : (i : ℕ) → Contains (numbers ids) i → is_dirty_by (buffered new i) ≡ false
  none_dirty i has = ap is_dirty_by (cleaned_now i has) ∙ by (buffered b i)
    where
      by : (o : Standing) → is_dirty_by (clean o) ≡ false
      by None = refl
      by (Some e) = refl

  pub same_now : (i : ℕ) → (Contains (numbers ids) i → ⊥) → buffered new i ≡ buffered b i
  same_now i not = cells i ∙ others_stand ids i (buffered b i) not

  pub was_there : (i : ℕ) (f : EntrySeen) → buffered new i ≡ Some f → Was b ids i f
  was_there i f at = ⊎_elim
      (λ has. by has (buffered b i) refl (sym (cleaned_now i has) ∙ at))
      (λ not. record {
        entry = f;
        is = sym (same_now i not) ∙ at;
        cell = refl;
        uses = refl;
        how = inr (not, refl);
      }) (member_or_not (numbers ids) i)
    where
      by : Contains (numbers ids) i → (o : Standing) → buffered b i ≡ o → clean o ≡ Some f → Was b ids i f
      by has None is e = absurd (cc e)
      by has (Some old) is e =
          let same : not_dirty old ≡ f = cc e in
          record {
            entry = old;
            is = is;
            cell = sym (ap (λ (x : EntrySeen). x.cell) same);
            uses = sym (ap (λ (x : EntrySeen). x.uses) same);
            how = inl (has, sym (ap (λ (x : EntrySeen). x.dirty) same));
          }

  pub none_before : (i : ℕ) → buffered new i ≡ None → buffered b i ≡ None
  none_before i at = ⊎_elim
      (λ has. by (buffered b i) refl (sym (cleaned_now i has) ∙ at))
      (λ not. sym (same_now i not) ∙ at) (member_or_not (numbers ids) i)
    where
      by : (o : Standing) → buffered b i ≡ o → clean o ≡ None → buffered b i ≡ None
      by None is e = is
      by (Some old) is e = absurd (cc e)

  -- what is dirty was dirty, and is none of them
  pub dirty_before : (i : ℕ) (f : EntrySeen) → buffered new i ≡ Some f → f.dirty ≡ true → buffered b i ≡ Some f
  dirty_before i f at dirty =
      let w = was_there i f at in
      ⊎_elim
      (λ x. absurd (cc (sym x.1 ∙ dirty)))
      (λ x. sym (same_now i x.0) ∙ at) w.how

  -- and so with what is captured
  pub captured_before : (i : ℕ) → IsCaptured new i → IsCaptured b i
  captured_before i h =
      let w = was_there i h.entry h.is in
      record {
        entry = w.entry;
        is = w.is;
        why = ⊎_elim
            (λ dirty. inl (ap (λ (o : Standing). is_dirty_by o) (sym w.is ∙ dirty_before i h.entry h.is dirty) ∙ dirty))
            (λ above. inr (record {
              name = above.name;
              entry = above.entry;
              is = dirty_before above.name above.entry above.is above.dirty;
              dirty = above.dirty;
              above = ap (λ (x : CellSeen). is_above x above.entry.cell) (sym w.cell) ∙ above.above;
            })) h.why;
      }
