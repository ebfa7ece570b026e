-- The cells in memory, as one more of them gets its new name.
use Rattle.std.proofs.Common.{◌≡◌, ◌≢◌, inl, inr, ⊎_elim, ℕ, ◌+◌, ◌<◌, ◌≤◌, ◌^◌, ◌==◌, true, false}
use Rattle.std.proofs.Common.{cond, List, map, take, length, get_or, Option, Some, None, refl, sym, ◌∙◌, ap}
use Rattle.std.proofs.Common.{subst, arith}
use Rattle.std.specs.Prelude.{Contains, IsSome, nat_eq, nat_le}
use Rattle.std.specs.Arc.{arc_value}
use Rattle.std.specs.List.{IsDistinct}
use Rattle.std.specs.Option.{option_map}
use Rattle.std.proofs.lemmas.Bool.{cases_eq, cond-false, cond-true, eq-eqb, eqb-false, le-leb, lt-leb, ne_eqb, or_cases}
use Rattle.std.proofs.lemmas.Bool.{eqb-true, false_from_ne_true, or_parts}
use Rattle.std.proofs.lemmas.List.Elements.{Contains-push_cases}
use Rattle.r4_base.proofs.Choices.{never_both}
use Rattle.r4_buffer.specs.Changed.{Standing, has_name, joined, renamed, renamed_by, renewed, with_cell}
use Rattle.r4_buffer.specs.Seen.{BufferSeen, EntrySeen, buffered}
use Rattle.r4_flush.specs.r4_cell.Seen.{CellSeen}
use Rattle.r4_flush.specs.Prepared.{cells_of}
use Rattle.r4_flush.specs.declared.cells.RenamedCell.{RenamedCell}
use Rattle.r4_renaming.specs.Renaming.{HaveNewNames, was_named}
use Rattle.r4_renaming.specs.Steps.{IsFreeName, cell_moved}
use Rattle.r4_renaming.proofs.Prefix.{earlier, here, is_named, more, named_more, new_name, no_number, not_named, not_was}
use Rattle.r4_renaming.proofs.Prefix.{old_name, one_was, was_more}

some_of : (o : Option EntrySeen) → IsSome o → (e : EntrySeen) × (o ≡ Some e)
some_of None some = absurd (cc some)
some_of (Some e) some = (e, refl)

module _ (rs : List RenamedCell) (before : IsDistinct nat_eq (map old_name rs)) (then : IsDistinct nat_eq (map new_name rs))
    (b : BufferSeen) (there : (r : RenamedCell) → Contains rs r → IsSome (buffered b (old_name r)))
    (free : (r : RenamedCell) → Contains rs r → IsFreeName b r) where
  new_low : (r : RenamedCell) → Contains rs r → new_name r < 2 ^ 63
  new_low r has = ⊎_elim (λ (same, low). omega (arith, same, low)) (λ (high, low, none). low) (free r has)

  module _ (k : ℕ) (x : RenamedCell) (lt : k < length rs) (is : x ≡ get_or rs k x) (c : BufferSeen)
      (so_far : HaveNewNames b c (take k rs)) where
    abbrev first : List RenamedCell
    first = take k rs

    in_rs : Contains rs x
    in_rs = here rs k x lt is

    new_unnamed : has_name (cells_of first) (new_name x) ≡ false
    new_unnamed = not_named rs k x lt is then

    old_unwas : was_named first (old_name x) ≡ false
    old_unwas = not_was rs k x lt is before

    old_unnamed : has_name (cells_of first) (old_name x) ≡ false
    old_unnamed = ⊎_elim
        (λ (same, low). subst (λ (i : ℕ). has_name (cells_of first) i ≡ false) (sym same) new_unnamed)
        (λ (high, low, none). no_number first (λ r has. new_low r (earlier rs k x lt is r has)) (old_name x) high)
        (free x in_rs)

    -- the cell stands still as it did
    old_stands : buffered c (old_name x) ≡ buffered b (old_name x)
    old_stands = so_far.others (old_name x) old_unwas old_unnamed

    new_unwas : buffered b (new_name x) ≡ None → was_named first (new_name x) ≡ false
    new_unwas none =
        false_from_ne_true (was_named first (new_name x))
        (λ was. let (r, has, at) = one_was first (new_name x) was in
        let (e, stands) = some_of (buffered b (old_name r)) (there r (earlier rs k x lt is r has)) in
        let nothing : buffered b (old_name r) ≡ None = ap (buffered b) at ∙ none in
        absurd (cc (sym nothing ∙ stands)))

    new_stands : buffered b (new_name x) ≡ None → buffered c (new_name x) ≡ None
    new_stands none = so_far.others (new_name x) (new_unwas none) new_unnamed ∙ none

    pub free_next : IsFreeName c x
    free_next = ⊎_elim (λ same. inl same) (λ (high, low, none). inr (high, low, new_stands none)) (free x in_rs)

    -- ---- what the step leaves

    module _ (d : BufferSeen) (step : (i : ℕ) → buffered d i ≡ cell_moved c x i) where
      abbrev cell : CellSeen
      cell = arc_value x.cell

      entry : (e : EntrySeen) × (buffered b (old_name x) ≡ Some e)
      entry = some_of (buffered b (old_name x)) (there x in_rs)

      abbrev e : EntrySeen
      e = entry.0

      stood : buffered c (old_name x) ≡ Some e
      stood = old_stands ∙ entry.1

      -- one that keeps its name is another cell
      kept : old_name x < 2 ^ 63 → (i : ℕ) → buffered d i ≡ renewed cell i (buffered c i)
      kept low i =
          step i
          ∙ cond-false (nat_le (2 ^ 63) (old_name x)) (renamed c (old_name x) cell i) (renewed cell i (buffered c i))
          (lt-leb (2 ^ 63) (old_name x) low)

      -- one that had no block has another name
      placed : 2 ^ 63 ≤ old_name x → (i : ℕ)
          → buffered d i ≡ renamed_by (old_name x) cell (Some e) i (buffered c i)
      placed high i =
          step i
          ∙ cond-true (nat_le (2 ^ 63) (old_name x)) (renamed c (old_name x) cell i) (renewed cell i (buffered c i))
          (le-leb (2 ^ 63) (old_name x) high)
          ∙ ap (λ (o : Standing). renamed_by (old_name x) cell o i (buffered c i)) stood

      at_new : buffered d (new_name x) ≡ Some (record e { cell = arc_value x.cell })
      at_new = ⊎_elim
          (λ (same, low).
          kept low (new_name x)
          ∙ cond-true (new_name x == new_name x) (option_map (with_cell cell) (buffered c (new_name x)))
          (buffered c (new_name x)) (eq-eqb (new_name x) (new_name x) refl)
          ∙ ap (option_map (with_cell cell)) (ap (buffered c) (sym same) ∙ stood))
          (λ (high, low, none).
          placed high (new_name x)
          ∙ cond-true (new_name x == new_name x) (Some (joined cell e (buffered c (new_name x))))
          (cond (old_name x == new_name x) None (buffered c (new_name x)))
          (eq-eqb (new_name x) (new_name x) refl)
          ∙ ap (λ (o : Standing). Some (joined cell e o)) (new_stands none))
          (free x in_rs)

      at_old : old_name x ≢ new_name x → buffered d (old_name x) ≡ None
      at_old other = ⊎_elim
          (λ (same, low). absurd (other same))
          (λ (high, low, none).
          placed high (old_name x)
          ∙ cond-false (new_name x == old_name x) (Some (joined cell e (buffered c (old_name x))))
          (cond (old_name x == old_name x) None (buffered c (old_name x)))
          (ne_eqb (new_name x) (old_name x) (λ same. other (sym same)))
          ∙ cond-true (old_name x == old_name x) None (buffered c (old_name x))
          (eq-eqb (old_name x) (old_name x) refl))
          (free x in_rs)

      at_others : (i : ℕ) → i ≢ new_name x → i ≢ old_name x → buffered d i ≡ buffered c i
      at_others i not_new not_old =
          let no_new = ne_eqb (new_name x) i (λ same. not_new (sym same)) in
          ⊎_elim
          (λ (same, low).
          kept low i
          ∙ cond-false (new_name x == i) (option_map (with_cell cell) (buffered c i)) (buffered c i) no_new)
          (λ (high, low, none).
          placed high i
          ∙ cond-false (new_name x == i) (Some (joined cell e (buffered c i)))
          (cond (old_name x == i) None (buffered c i)) no_new
          ∙ cond-false (old_name x == i) None (buffered c i) (ne_eqb (old_name x) i (λ same. not_old (sym same))))
          (free x in_rs)

      -- ---- all so far

      then_there : (r : RenamedCell) (f : EntrySeen) → Contains (take (k + 1) rs) r → buffered b (old_name r) ≡ Some f
          → buffered d (new_name r) ≡ Some (record f { cell = arc_value r.cell })
      then_there r f has stands = ⊎_elim
          (λ in_first.
          at_others (new_name r)
          (λ same. never_both (has_name (cells_of first) (new_name r)) (is_named first r in_first)
          (ap (has_name (cells_of first)) same ∙ new_unnamed))
          (λ same. never_both (has_name (cells_of first) (new_name r)) (is_named first r in_first)
          (ap (has_name (cells_of first)) same ∙ old_unnamed))
          ∙ so_far.there r f in_first stands)
          (λ last.
          let also : Some e ≡ Some f =
          sym entry.1 ∙ ap (λ (q : RenamedCell). buffered b (old_name q)) last ∙ stands in
          let one : e ≡ f = cc also in
          ap (λ (q : RenamedCell). buffered d (new_name q)) (sym last) ∙ at_new
          ∙ ap (λ (g : EntrySeen). Some (record g { cell = arc_value x.cell })) one
          ∙ ap (λ (q : RenamedCell). Some (record f { cell = arc_value q.cell })) last)
          (Contains-push_cases first x r (subst (λ (l : List RenamedCell). Contains l r) (more rs k x lt is) has))

      not_new_name : (i : ℕ) → has_name (cells_of (take (k + 1) rs)) i ≡ false
          → (has_name (cells_of first) i ≡ false) × (i ≢ new_name x)
      not_new_name i not =
          let (none, other) =
          or_parts (has_name (cells_of first) i) (new_name x == i) (sym (named_more rs k x lt is i) ∙ not) in
          (none, λ same. eqb-false (new_name x) i other (sym same))

      then_gone : (i : ℕ) → was_named (take (k + 1) rs) i ≡ true → has_name (cells_of (take (k + 1) rs)) i ≡ false
          → buffered d i ≡ None
      then_gone i was not =
          let (none, not_new) = not_new_name i not in
          elim (cases_eq i (old_name x)) [
            | inl at ↦ ap (buffered d) at ∙ at_old (λ same. not_new (at ∙ same))
            | inr other ↦
                at_others i not_new other
                ∙ so_far.gone i
                (⊎_elim (λ yes. yes) (λ yes. absurd (other (sym (eqb-true (old_name x) i yes))))
                (or_cases (was_named first i) (old_name x == i) (sym (was_more rs k x lt is i) ∙ was)))
                none
          ]

      then_others : (i : ℕ) → was_named (take (k + 1) rs) i ≡ false
          → has_name (cells_of (take (k + 1) rs)) i ≡ false → buffered d i ≡ buffered b i
      then_others i was not =
          let (none, not_new) = not_new_name i not in
          let (unwas, other) =
          or_parts (was_named first i) (old_name x == i) (sym (was_more rs k x lt is i) ∙ was) in
          at_others i not_new (λ same. eqb-false (old_name x) i other (sym same)) ∙ so_far.others i unwas none

      pub cells_next : HaveNewNames b d (take (k + 1) rs)
      cells_next = record { there = then_there; gone = then_gone; others = then_others }

-- what stands under the names of another table that has the same
pub from_same : (a b c : BufferSeen) (rs : List RenamedCell) → ((i : ℕ) → buffered b i ≡ buffered a i)
    → HaveNewNames b c rs → HaveNewNames a c rs
from_same a b c rs same h = record {
  there = λ r e has stands. h.there r e has (same (old_name r) ∙ stands);
  gone = h.gone;
  others = λ i was not. h.others i was not ∙ same i;
}
