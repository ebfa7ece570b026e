-- Ancestors of dirty cells stay.
use Rattle.std.proofs.Common.{◌≡◌, ◌≢◌, ℕ, suc, Bool, true, false, ◌||◌, cond, List, [], ◌∷◌, refl, sym, subst, ◌∙◌, arith}
use Rattle.std.specs.Prelude.{Contains, Option, Some, None, ◌==◌}
use Rattle.std.proofs.lemmas.Bool.{eqb-true}
use Rattle.r4_base.specs.declared.things.NodeId.{NodeId}
use Rattle.r4_search.specs.r4_cell.Seen.{CellSeen}
use Rattle.r4_buffer.specs.Seen.{BufferSeen, EntrySeen, StandsAs, Stays, buffered, is_above_dirty, is_idle}
use Rattle.r4_buffer.specs.Changed.{cleaned, forgotten, in_turn, renamed, renamed_by, swept, unused, used, used_entry}

same_place : (c : CellSeen) → StandsAs c c
same_place c = record { level = refl; lo = refl; hi = refl }

both_places : (c d e : CellSeen) → StandsAs c d → StandsAs d e → StandsAs c e
both_places c d e f g = record { level = g.level ∙ f.level; lo = g.lo ∙ f.lo; hi = g.hi ∙ f.hi }

-- a step that leaves each cell its place leaves it there in the end
stays_on : {A : Type 0} (step : A → ℕ → Option EntrySeen → Option EntrySeen) (P : A → Type 0) (i : ℕ) (e : EntrySeen) → ((x : A) (f : EntrySeen) → P x → StandsAs e.cell f.cell → Stays e (step x i (Some f)))
    → (xs : List A) → ((x : A) → Contains xs x → P x) → (o : Option EntrySeen) → Stays e o → Stays e (in_turn step xs i o)
stays_on {A} step P i e one [] all o h = h
stays_on {A} step P i e one (x ∷ xs) all None h = absurd h
stays_on {A} step P i e one (x ∷ xs) all (Some f) h =
    stays_on step P i e one xs (λ y (k, lt, at). all y (suc k, omega (arith, lt), at)) (step x i (Some f)) (one x f (all x (0, omega arith, refl)) h)

pub used_stays : (i : ℕ) (e : EntrySeen) (met : List CellSeen) → ((c : CellSeen) → Contains met c → c.id ≡ i → StandsAs e.cell c) → Stays e (in_turn used met i (Some e))
used_stays i e met all = stays_on used (λ (c : CellSeen). c.id ≡ i → StandsAs e.cell c) i e one met all (Some e) (same_place e.cell)
  where
    entry_place : (c : CellSeen) (f : EntrySeen) (t : Bool) → is_idle f ≡ t → StandsAs e.cell c → StandsAs e.cell f.cell → StandsAs e.cell (used_entry c (Some f)).cell
    entry_place c f true is place was = rw is place
    entry_place c f false is place was = rw is was

    by_name : (c : CellSeen) (f : EntrySeen) (t : Bool) → (c.id == i) ≡ t → (c.id ≡ i → StandsAs e.cell c) → StandsAs e.cell f.cell → Stays e (cond t (Some (used_entry c (Some f))) (Some f))
    by_name c f true is place was = entry_place c f (is_idle f) refl (place (eqb-true _ _ is)) was
    by_name c f false is place was = was

    one : (c : CellSeen) (f : EntrySeen) → (c.id ≡ i → StandsAs e.cell c) → StandsAs e.cell f.cell → Stays e (used c i (Some f))
    one c f place was = by_name c f (c.id == i) refl place was

pub unused_stays : (i : ℕ) (e : EntrySeen) (ids : List NodeId) → Stays e (in_turn unused ids i (Some e))
unused_stays i e ids = stays_on unused (λ (x : NodeId). Unit {0}) i e one ids (λ x h. tt) (Some e) (same_place e.cell)
  where
    by_name : (f : EntrySeen) (t : Bool) (n : ℕ) → StandsAs e.cell f.cell → Stays e (cond t (Some (record f { uses = n })) (Some f))
    by_name f true n was = was
    by_name f false n was = was

    one : (x : NodeId) (f : EntrySeen) → Unit {0} → StandsAs e.cell f.cell → Stays e (unused x i (Some f))
    one x f u was = by_name f (x.0 == i) _ was

pub cleaned_stays : (i : ℕ) (e : EntrySeen) (ids : List NodeId) → Stays e (in_turn cleaned ids i (Some e))
cleaned_stays i e ids = stays_on cleaned (λ (x : NodeId). Unit {0}) i e one ids (λ x h. tt) (Some e) (same_place e.cell)
  where
    by_name : (f : EntrySeen) (t : Bool) → StandsAs e.cell f.cell → Stays e (cond t (Some (record f { dirty = false })) (Some f))
    by_name f true was = was
    by_name f false was = was

    one : (x : NodeId) (f : EntrySeen) → Unit {0} → StandsAs e.cell f.cell → Stays e (cleaned x i (Some f))
    one x f u was = by_name f (x.0 == i) was

pub renamed_stays : (b : BufferSeen) (i from : ℕ) (e : EntrySeen) (c : CellSeen) → buffered b i ≡ Some e → i ≢ from → Stays e (renamed b from c i)
renamed_stays b i from e c at other = subst (λ (o : Option EntrySeen). Stays e (renamed_by from c (buffered b from) i o)) (sym at) (by_from (buffered b from))
  where
    by_from : (o : Option EntrySeen) → Stays e (renamed_by from c o i (Some e))
    by_from None = same_place e.cell
    by_from (Some was) = by_test was (c.id == i) (from == i) refl refl
      where
        by_test : (was : EntrySeen) (t u : Bool) → (c.id == i) ≡ t → (from == i) ≡ u → Stays e (renamed_by from c (Some was) i (Some e))
        by_test was true u is at = rw is (same_place e.cell)
        by_test was false true is at = absurd (other (sym (eqb-true _ _ at)))
        by_test was false false is at = rw (is, at) (same_place e.cell)

captured_too : (d a : Bool) → a ≡ true → (d || a) ≡ true
captured_too true a h = refl
captured_too false a h = h

pub forgotten_stays : (b : BufferSeen) (e : EntrySeen) → is_above_dirty b e.cell ≡ true → Stays e (forgotten b (Some e))
forgotten_stays b e h = let held = captured_too e.dirty (is_above_dirty b e.cell) h in rw held (same_place e.cell)

pub swept_stays : (b : BufferSeen) (e : EntrySeen) → is_above_dirty b e.cell ≡ true → Stays e (swept b (Some e))
swept_stays b e h = by_idle (is_idle e) refl
  where
    by_idle : (t : Bool) → is_idle e ≡ t → Stays e (swept b (Some e))
    by_idle true is = rw (is, h) (same_place e.cell)
    by_idle false is = rw is (same_place e.cell)
