-- New cells in place of old ones.
use Rattle.std.proofs.Common.{◌≡◌, ℕ, Bool, true, false, cond, List, [], ◌∷◌, refl, ap, ◌∙◌}
use Rattle.std.specs.Prelude.{Option, Some, None, ◌==◌, ◌||◌}
use Rattle.std.specs.Option.{option_map}
use Rattle.r4_search.specs.r4_cell.Seen.{CellSeen}
use Rattle.r4_buffer.specs.Seen.{EntrySeen}
use Rattle.r4_buffer.specs.Changed.{has_name, if_dirty, in_turn, laid_aside, not_dirty, placed, replaced, taken, uses_of}

abbrev Entries : Type 0
Entries = Option EntrySeen

abbrev as_clean : Entries → Entries
as_clean o = option_map not_dirty o

abbrev as_new : CellSeen → Entries → Entries
as_new c o = Some (record { cell = c; uses = uses_of o; dirty = true })

-- ---- old cells are laid aside

laid_uses : (cs : List CellSeen) (i : ℕ) (o : Entries) → uses_of (in_turn laid_aside cs i o) ≡ uses_of o
laid_uses [] i o = refl
laid_uses (c ∷ cs) i o = laid_uses cs i (laid_aside c i o) ∙ one (c.id == i) o
  where
    one : (b : Bool) (o : Entries) → uses_of (cond b (as_clean o) o) ≡ uses_of o
    one true None = refl
    one true (Some e) = refl
    one false o = refl

laid_other : (cs : List CellSeen) (i : ℕ) (o : Entries) → has_name cs i ≡ false → in_turn laid_aside cs i o ≡ o
laid_other [] i o h = refl
laid_other (c ∷ cs) i o h = one (c.id == i) h (λ g. laid_other cs i o g)
  where
    one : (b : Bool) → (b || has_name cs i) ≡ false → (has_name cs i ≡ false → in_turn laid_aside cs i o ≡ o) → in_turn laid_aside cs i (cond b (as_clean o) o) ≡ o
    one true g ih = absurd cc
    one false g ih = ih g

clean_is : (o : Entries) → if_dirty (as_clean o) ≡ None
clean_is None = refl
clean_is (Some e) = refl

laid_still : (cs : List CellSeen) (i : ℕ) (o : Entries) → if_dirty o ≡ None → if_dirty (in_turn laid_aside cs i o) ≡ None
laid_still [] i o h = h
laid_still (c ∷ cs) i o h = laid_still cs i (laid_aside c i o) (one (c.id == i))
  where
    one : (b : Bool) → if_dirty (cond b (as_clean o) o) ≡ None
    one true = clean_is o
    one false = h

laid_clean : (cs : List CellSeen) (i : ℕ) (o : Entries) → has_name cs i ≡ true → if_dirty (in_turn laid_aside cs i o) ≡ None
laid_clean [] i o h = absurd cc
laid_clean (c ∷ cs) i o h = one (c.id == i) h (λ g. laid_clean cs i o g)
  where
    one : (b : Bool) → (b || has_name cs i) ≡ true → (has_name cs i ≡ true → if_dirty (in_turn laid_aside cs i o) ≡ None) → if_dirty (in_turn laid_aside cs i (cond b (as_clean o) o)) ≡ None
    one true g ih = laid_still cs i (as_clean o) (clean_is o)
    one false g ih = ih g

-- ---- new cells stand dirty

placed_other : (cs : List CellSeen) (i : ℕ) (o : Entries) → has_name cs i ≡ false → in_turn placed cs i o ≡ o
placed_other [] i o h = refl
placed_other (c ∷ cs) i o h = one (c.id == i) h (λ g. placed_other cs i o g)
  where
    one : (b : Bool) → (b || has_name cs i) ≡ false → (has_name cs i ≡ false → in_turn placed cs i o ≡ o) → in_turn placed cs i (cond b (as_new c o) o) ≡ o
    one true g ih = absurd cc
    one false g ih = ih g

placed_same : (cs : List CellSeen) (i : ℕ) (x y : Entries) → has_name cs i ≡ true → uses_of x ≡ uses_of y → in_turn placed cs i x ≡ in_turn placed cs i y
placed_same [] i x y h u = absurd cc
placed_same (c ∷ cs) i x y h u = one (c.id == i) h (λ g. placed_same cs i x y g u)
  where
    one : (b : Bool) → (b || has_name cs i) ≡ true → (has_name cs i ≡ true → in_turn placed cs i x ≡ in_turn placed cs i y) → in_turn placed cs i (cond b (as_new c x) x) ≡ in_turn placed cs i (cond b (as_new c y) y)
    one true g ih = ap (λ (n : ℕ). in_turn placed cs i (Some (record { cell = c; uses = n; dirty = true }))) u
    one false g ih = ih g

placed_still : (cs : List CellSeen) (i : ℕ) (o : Entries) → if_dirty o ≡ o → if_dirty (in_turn placed cs i o) ≡ in_turn placed cs i o
placed_still [] i o h = h
placed_still (c ∷ cs) i o h = placed_still cs i (placed c i o) (one (c.id == i))
  where
    one : (b : Bool) → if_dirty (cond b (as_new c o) o) ≡ cond b (as_new c o) o
    one true = refl
    one false = h

placed_dirty : (cs : List CellSeen) (i : ℕ) (o : Entries) → has_name cs i ≡ true → if_dirty (in_turn placed cs i o) ≡ in_turn placed cs i o
placed_dirty [] i o h = absurd cc
placed_dirty (c ∷ cs) i o h = one (c.id == i) h (λ g. placed_dirty cs i o g)
  where
    one : (b : Bool) → (b || has_name cs i) ≡ true → (has_name cs i ≡ true → if_dirty (in_turn placed cs i o) ≡ in_turn placed cs i o) → if_dirty (in_turn placed cs i (cond b (as_new c o) o)) ≡ in_turn placed cs i (cond b (as_new c o) o)
    one true g ih = placed_still cs i (as_new c o) refl
    one false g ih = ih g

-- ---- old cells that are still clean go

taken_same : (cs : List CellSeen) (i : ℕ) (o : Entries) → if_dirty o ≡ o → in_turn taken cs i o ≡ o
taken_same [] i o h = refl
taken_same (c ∷ cs) i o h = ap (λ (z : Entries). in_turn taken cs i z) (one (c.id == i)) ∙ taken_same cs i o h
  where
    one : (b : Bool) → cond b (if_dirty o) o ≡ o
    one true = h
    one false = refl

taken_other : (cs : List CellSeen) (i : ℕ) (o : Entries) → has_name cs i ≡ false → in_turn taken cs i o ≡ o
taken_other [] i o h = refl
taken_other (c ∷ cs) i o h = one (c.id == i) h (λ g. taken_other cs i o g)
  where
    one : (b : Bool) → (b || has_name cs i) ≡ false → (has_name cs i ≡ false → in_turn taken cs i o ≡ o) → in_turn taken cs i (cond b (if_dirty o) o) ≡ o
    one true g ih = absurd cc
    one false g ih = ih g

taken_clean : (cs : List CellSeen) (i : ℕ) (o : Entries) → if_dirty o ≡ None → has_name cs i ≡ true → in_turn taken cs i o ≡ None
taken_clean [] i o h n = absurd cc
taken_clean (c ∷ cs) i o h n = one (c.id == i) n (λ g. taken_clean cs i o h g)
  where
    one : (b : Bool) → (b || has_name cs i) ≡ true → (has_name cs i ≡ true → in_turn taken cs i o ≡ None) → in_turn taken cs i (cond b (if_dirty o) o) ≡ None
    one true g ih = ap (λ (z : Entries). in_turn taken cs i z) h ∙ taken_same cs i None refl
    one false g ih = ih g

-- ---- all three

pub replaced_is : (old new : List CellSeen) (i : ℕ) (o x y z : Entries) → x ≡ in_turn laid_aside old i o → y ≡ in_turn placed new i x → z ≡ in_turn taken old i y → z ≡ replaced old new i o
replaced_is old new i o x y z a b c =
    c ∙ ap (λ (q : Entries). in_turn taken old i q) (b ∙ ap (λ (q : Entries). in_turn placed new i q) a) ∙ by_names (has_name new i) (has_name old i) refl refl
  where
    by_names : (n m : Bool) → has_name new i ≡ n → has_name old i ≡ m → in_turn taken old i (in_turn placed new i (in_turn laid_aside old i o)) ≡ cond n (in_turn placed new i o) (cond m None o)
    by_names true m h g =
        let same = placed_same new i (in_turn laid_aside old i o) o h (laid_uses old i o) in
        ap (λ (q : Entries). in_turn taken old i q) same ∙ taken_same old i (in_turn placed new i o) (placed_dirty new i o h)
    by_names false true h g =
        ap (λ (q : Entries). in_turn taken old i q) (placed_other new i (in_turn laid_aside old i o) h) ∙ taken_clean old i (in_turn laid_aside old i o) (laid_clean old i o g) g
    by_names false false h g =
        ap (λ (q : Entries). in_turn taken old i q) (placed_other new i (in_turn laid_aside old i o) h ∙ laid_other old i o g) ∙ taken_other old i o g
