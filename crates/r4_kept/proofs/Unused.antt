-- Where a task uses cells in memory no more: the cells stay, and what is said of them.
use Rattle.std.proofs.Common.{◌≡◌, inl, inr, ⊎_elim, ℕ, ◌-◌, ◌≤◌, ◌==◌, Bool, true, false, ◌||◌, cond, List, [], ◌∷◌}
use Rattle.std.proofs.Common.{Some, None, refl, sym, ◌∙◌, ap, subst, arith, nat_lt}
use Rattle.std.specs.Prelude.{count_by}
use Rattle.std.specs.Option.{option_map}
use Rattle.std.proofs.lemmas.Bool.{cases_Bool, cond-true, cond-false}
use Rattle.std.proofs.lemmas.List.Sums.{sum_by-cons}
use Rattle.r4_base.specs.declared.things.NodeId.{NodeId}
use Rattle.r4_buffer.specs.Changed.{Standing, in_turn, one_less, unused, uses_of}
use Rattle.r4_buffer.specs.Reading.{NamesStand}
use Rattle.r4_buffer.specs.Seen.{BufferSeen, EntrySeen, IsCaptured, IsLawful, buffered, cell_at, is_above}
use Rattle.r4_buffer.specs.Seen.{is_captured, is_dirty_by}
use Rattle.r4_buffer.proofs.Captured.{captured_is, is_captured_from}
use Rattle.r4_history.specs.r4_cell.Seen.{CellSeen}
use Rattle.r4_outside.specs.Device.{State}
use Rattle.r4_kept.specs.Cells.{AreReadable, IsAccepted}

-- the same but for how often it is used
pub record IsEntryLike (e f : EntrySeen) : Type 0 where
  pub cell : f.cell ≡ e.cell
  pub dirty : f.dirty ≡ e.dirty

-- what stands under a name is such an entry, or nothing
abbrev pub IsLike : Standing → Standing → Type 0
IsLike None None = Unit {0}
IsLike None (Some f) = ⊥
IsLike (Some e) None = ⊥
IsLike (Some e) (Some f) = IsEntryLike e f

like_itself : (o : Standing) → IsLike o o
like_itself None = tt
like_itself (Some e) = record { cell = refl; dirty = refl }

like_on : (o p q : Standing) → IsLike o p → IsLike p q → IsLike o q
like_on None None None a b = tt
like_on None None (Some g) a b = absurd b
like_on None (Some f) q a b = absurd a
like_on (Some e) None q a b = absurd a
like_on (Some e) (Some f) None a b = absurd b
like_on (Some e) (Some f) (Some g) a b = record { cell = b.cell ∙ a.cell; dirty = b.dirty ∙ a.dirty }

one_like : (o : Standing) → IsLike o (option_map one_less o)
one_like None = tt
one_like (Some e) = record { cell = refl; dirty = refl }

one_fewer : (o : Standing) → uses_of (option_map one_less o) ≡ uses_of o - 1
one_fewer None = omega arith
one_fewer (Some e) = refl

pub unused_like : (ids : List NodeId) (i : ℕ) (o : Standing) → IsLike o (in_turn unused ids i o)
unused_like [] i o = like_itself o
unused_like (n ∷ ids) i o =
    let one : IsLike o (unused n i o) = elim (cases_Bool (n.0 == i)) [
      | inl same ↦ subst (IsLike o) (sym (cond-true (n.0 == i) (option_map one_less o) o same)) (one_like o)
      | inr not ↦ subst (IsLike o) (sym (cond-false (n.0 == i) (option_map one_less o) o not)) (like_itself o)
    ] in
    like_on o (unused n i o) (in_turn unused ids i (unused n i o)) one (unused_like ids i (unused n i o))

pub unused_fewer : (ids : List NodeId) (i : ℕ) (o : Standing)
    → uses_of (in_turn unused ids i o) ≤ uses_of o - count_by (λ (n : NodeId). n.0 == i) ids
unused_fewer [] i o = omega arith
unused_fewer (n ∷ ids) i o =
    let rest = unused_fewer ids i (unused n i o) in
    let count = sum_by-cons (λ (m : NodeId). cond (m.0 == i) 1 0) n ids in
    elim (cases_Bool (n.0 == i)) [
      | inl same ↦
          let here : uses_of (unused n i o) ≡ uses_of o - 1 =
          ap uses_of (cond-true (n.0 == i) (option_map one_less o) o same) ∙ one_fewer o in
          let one = cond-true {A = ℕ} (n.0 == i) 1 0 same in
          omega (arith, rest, count, here, one)
      | inr not ↦
          let here : uses_of (unused n i o) ≡ uses_of o =
          ap uses_of (cond-false (n.0 == i) (option_map one_less o) o not) in
          let one = cond-false {A = ℕ} (n.0 == i) 1 0 not in
          omega (arith, rest, count, here, one)
    ]

-- it is as dirty, and has the same cell
pub like_dirty : (o p : Standing) → IsLike o p → is_dirty_by p ≡ is_dirty_by o
like_dirty None None h = refl
like_dirty None (Some f) h = absurd h
like_dirty (Some e) None h = absurd h
like_dirty (Some e) (Some f) h = h.dirty

pub like_cell : (o p : Standing) → IsLike o p
    → option_map (λ (e : EntrySeen). e.cell) p ≡ option_map (λ (e : EntrySeen). e.cell) o
like_cell None None h = refl
like_cell None (Some f) h = absurd h
like_cell (Some e) None h = absurd h
like_cell (Some e) (Some f) h = ap (λ (x : CellSeen). Some x) h.cell

-- ---- all cells in memory

abbrev pub AreLike : (b new : BufferSeen) → Type 0
AreLike b new = (i : ℕ) → IsLike (buffered b i) (buffered new i)

-- an entry like the one that was there
pub record Was (b : BufferSeen) (i : ℕ) (f : EntrySeen) : Type 0 where
  pub entry : EntrySeen
  pub is : buffered b i ≡ Some entry
  pub like : IsEntryLike entry f

pub was_there : (b new : BufferSeen) → AreLike b new → (i : ℕ) (f : EntrySeen) → buffered new i ≡ Some f → Was b i f
was_there b new like i f at = by (buffered b i) refl (subst (IsLike (buffered b i)) at (like i))
  where
    by : (o : Standing) → buffered b i ≡ o → IsLike o (Some f) → Was b i f
    by None is h = absurd h
    by (Some e) is h = record { entry = e; is = is; like = h }

is_there : (b new : BufferSeen) → AreLike b new → (i : ℕ) (e : EntrySeen) → buffered b i ≡ Some e
    → (f : EntrySeen) × (buffered new i ≡ Some f) × IsEntryLike e f
is_there b new like i e at = by (buffered new i) refl (subst (λ (o : Standing). IsLike o (buffered new i)) at (like i))
  where
    by : (o : Standing) → buffered new i ≡ o → IsLike (Some e) o
        → (f : EntrySeen) × (buffered new i ≡ Some f) × IsEntryLike e f
    by None is h = absurd h
    by (Some f) is h = (f, is, h)

pub none_there : (b new : BufferSeen) → AreLike b new → (i : ℕ) → buffered new i ≡ None → buffered b i ≡ None
none_there b new like i at = by (buffered b i) refl (subst (IsLike (buffered b i)) at (like i))
  where
    by : (o : Standing) → buffered b i ≡ o → IsLike o None → buffered b i ≡ None
    by None is h = is
    by (Some e) is h = absurd h

pub same_dirty : (b new : BufferSeen) → AreLike b new → (i : ℕ)
    → is_dirty_by (buffered new i) ≡ is_dirty_by (buffered b i)
same_dirty b new like i = like_dirty (buffered b i) (buffered new i) (like i)

pub same_cell : (b new : BufferSeen) → AreLike b new → (i : ℕ) → cell_at new i ≡ cell_at b i
same_cell b new like i = like_cell (buffered b i) (buffered new i) (like i)

-- ---- which are captured

same_Bool : (x y : Bool) → (x ≡ true → y ≡ true) → (y ≡ true → x ≡ true) → x ≡ y
same_Bool true y f g = sym (f refl)
same_Bool false true f g = g refl
same_Bool false false f g = refl

module _ (b new : BufferSeen) (like : AreLike b new) where
  captured_there : (i : ℕ) → IsCaptured b i → IsCaptured new i
  captured_there i h =
      let f = is_there b new like i h.entry h.is in
      record {
        entry = f.0;
        is = f.1;
        why = ⊎_elim (λ dirty. inl (f.2.dirty ∙ dirty)) (λ above.
            (let g = is_there b new like above.name above.entry above.is in
            inr (record {
              name = above.name;
              entry = g.0;
              is = g.1;
              dirty = g.2.dirty ∙ above.dirty;
              above = ap (λ (x : CellSeen). is_above x g.0.cell) f.2.cell
                  ∙ ap (is_above h.entry.cell) g.2.cell ∙ above.above;
            }))) h.why;
      }

  captured_here : (i : ℕ) → IsCaptured new i → IsCaptured b i
  captured_here i h =
      let e = was_there b new like i h.entry h.is in
      record {
        entry = e.entry;
        is = e.is;
        why = ⊎_elim (λ dirty. inl (sym e.like.dirty ∙ dirty)) (λ above.
            (let g = was_there b new like above.name above.entry above.is in
            inr (record {
              name = above.name;
              entry = g.entry;
              is = g.is;
              dirty = sym g.like.dirty ∙ above.dirty;
              above = ap (λ (x : CellSeen). is_above x g.entry.cell) (sym e.like.cell)
                  ∙ ap (is_above h.entry.cell) (sym g.like.cell) ∙ above.above;
            }))) h.why;
      }

  module _ (lawful : IsLawful b) (still : IsLawful new) where
    pub same_captured : (i : ℕ) → is_captured new i ≡ is_captured b i
    same_captured i = same_Bool (is_captured new i) (is_captured b i)
        (λ h. is_captured_from b lawful i (captured_here i (captured_is new still i h)))
        (λ h. is_captured_from new still i (captured_there i (captured_is b lawful i h)))

    pub readable_like : (d : State) (blocks : ℕ) → AreReadable d b blocks → AreReadable d new blocks
    readable_like d blocks h = record {
      accepted = λ i f at not.
          (let e = was_there b new like i f at in
          subst (IsAccepted blocks) (sym e.like.cell) (h.accepted i e.entry e.is (sym e.like.dirty ∙ not)));
      same = λ tells i f at not.
          (let e = was_there b new like i f at in
          ap (λ (x : CellSeen). x.block) e.like.cell ∙ h.same tells i e.entry e.is (sym e.like.dirty ∙ not));
      names = λ i f at yes.
          (let e = was_there b new like i f at in
          subst (NamesStand new blocks) (sym e.like.cell)
          (λ n has. ap (λ (x : Bool). nat_lt n.id blocks || x) (same_captured n.id)
          ∙ h.names i e.entry e.is (sym (same_captured i) ∙ yes) n has));
    }
