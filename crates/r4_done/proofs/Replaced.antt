-- The cells of a change stand in memory in place of old ones, and its task uses cells no more: what stands there then.
use Rattle.std.proofs.Common.{◌≡◌, ◌||◌, Bool, false, ◌⊎◌, inl, inr, ⊎_elim, ℕ, ◌-◌, ◌≤◌, ◌==◌, true, cond, List, []}
use Rattle.std.proofs.Common.{◌∷◌}
use Rattle.std.proofs.Common.{Some, None}
use Rattle.std.proofs.Common.{Contains, refl, sym, ◌∙◌, ap, subst, arith}
use Rattle.std.specs.Prelude.{count_by}
use Rattle.std.proofs.lemmas.Bool.{cases_Bool, cond-false, cond-true, eqb-true}
use Rattle.r4_base.specs.declared.things.NodeId.{NodeId}
use Rattle.r4_taking.specs.r4_buffer.Changed.{Standing, has_name, in_turn, placed, replaced, unused, uses_of}
use Rattle.r4_taking.specs.r4_buffer.Seen.{BufferSeen, EntrySeen, buffered, is_dirty_by}
use Rattle.r4_taking.specs.r4_cell.Seen.{CellSeen}
use Rattle.r4_taking.proofs.r4_history.ServingSteps.{cons_here, cons_later}
use Rattle.r4_taking.proofs.r4_kept.Unused.{IsLike, like_dirty, unused_fewer, unused_like}

or_false : (x : Bool) → (x || false) ≡ x
or_false true = refl
or_false false = refl

or_true : (x : Bool) → (x || true) ≡ true
or_true true = refl
or_true false = refl

-- one of the new cells stands under the name
pub record IsPlaced (new : List CellSeen) (i : ℕ) (p : Standing) : Type 0 where
  pub entry : EntrySeen
  pub is : p ≡ Some entry
  pub there : Contains new entry.cell
  pub named : entry.cell.id ≡ i
  pub dirty : entry.dirty ≡ true

module _ (new : List CellSeen) (i : ℕ) (o : Standing) where
  abbrev Stands : Standing → Type 0
  Stands p = (p ≡ o) ⊎ IsPlaced new i p

  one_placed : (x : CellSeen) → Contains new x → (p : Standing) → Stands p → Stands (placed x i p)
  one_placed x there p h = elim (cases_Bool (x.id == i)) [
    | inl same ↦
        subst Stands (sym (cond-true (x.id == i) _ p same)) (inr (record {
          entry = record { cell = x; uses = uses_of p; dirty = true };
          is = refl;
          there = there;
          named = eqb-true x.id i same;
          dirty = refl;
        }))
    | inr not ↦ subst Stands (sym (cond-false (x.id == i) _ p not)) h
  ]

  placed_from : (xs : List CellSeen) → ((x : CellSeen) → Contains xs x → Contains new x) → (p : Standing) → Stands p
      → Stands (in_turn placed xs i p)
  placed_from [] all p h = h
  placed_from (x ∷ xs) all p h =
      placed_from xs (λ y c. all y (cons_later x xs y c)) (placed x i p) (one_placed x (all x (cons_here x xs)) p h)

  -- where a new cell has the name, one stands there
  placed_here : (xs : List CellSeen) → ((x : CellSeen) → Contains xs x → Contains new x) → (p : Standing)
      → has_name xs i ≡ true → IsPlaced new i (in_turn placed xs i p)
  placed_here [] all p h = absurd (cc h)
  placed_here (x ∷ xs) all p h = elim (cases_Bool (x.id == i)) [
    | inl same ↦
        let is = cond-true (x.id == i) (Some (record { cell = x; uses = uses_of p; dirty = true })) p same in
        let one : IsPlaced new i (placed x i p) = subst (IsPlaced new i) (sym is) (record {
          entry = record { cell = x; uses = uses_of p; dirty = true };
          is = refl;
          there = all x (cons_here x xs);
          named = eqb-true x.id i same;
          dirty = refl;
        }) in
        over xs (λ y c. all y (cons_later x xs y c)) (placed x i p) one
    | inr not ↦
        let rest : has_name xs i ≡ true = rw not at h in
        placed_here xs (λ y c. all y (cons_later x xs y c)) (placed x i p) rest
  ]
    where
      over : (ys : List CellSeen) → ((y : CellSeen) → Contains ys y → Contains new y) → (q : Standing)
          → IsPlaced new i q → IsPlaced new i (in_turn placed ys i q)
      over [] all q h = h
      over (y ∷ ys) all q h = elim (cases_Bool (y.id == i)) [
        | inl same ↦
            let is = cond-true (y.id == i) (Some (record { cell = y; uses = uses_of q; dirty = true })) q same in
            over ys (λ z c. all z (cons_later y ys z c)) (placed y i q) (subst (IsPlaced new i) (sym is) (record {
              entry = record { cell = y; uses = uses_of q; dirty = true };
              is = refl;
              there = all y (cons_here y ys);
              named = eqb-true y.id i same;
              dirty = refl;
            }))
        | inr not ↦
            let is = cond-false (y.id == i) (Some (record { cell = y; uses = uses_of q; dirty = true })) q not in
            over ys (λ z c. all z (cons_later y ys z c)) (placed y i q) (subst (IsPlaced new i) (sym is) h)
      ]

  -- what was there, a new cell, or nothing
  pub replaced_cases : (old : List CellSeen)
      → (replaced old new i o ≡ o) ⊎ (IsPlaced new i (replaced old new i o) ⊎ (replaced old new i o ≡ None))
  replaced_cases old = elim (cases_Bool (has_name new i)) [
    | inl here ↦
        let same = cond-true (has_name new i) (in_turn placed new i o) (cond (has_name old i) None o) here in
        ⊎_elim (λ e. inl (same ∙ e)) (λ p. inr (inl (subst (IsPlaced new i) (sym same) p)))
        (placed_from new (λ x c. c) o (inl refl))
    | inr not ↦
        let same = cond-false (has_name new i) (in_turn placed new i o) (cond (has_name old i) None o) not in
        elim (cases_Bool (has_name old i)) [
          | inl gone ↦ inr (inr (same ∙ cond-true (has_name old i) None o gone))
          | inr stays ↦ inl (same ∙ cond-false (has_name old i) None o stays)
        ]
  ]

-- ---- how often

uses_placed : (xs : List CellSeen) (i : ℕ) (p : Standing) → uses_of (in_turn placed xs i p) ≤ uses_of p
uses_placed [] i p = omega arith
uses_placed (x ∷ xs) i p =
    let rest = uses_placed xs i (placed x i p) in
    elim (cases_Bool (x.id == i)) [
      | inl same ↦
          let here : uses_of (placed x i p) ≡ uses_of p = rw same refl in
          omega (arith, rest, here)
      | inr not ↦
          let here : uses_of (placed x i p) ≡ uses_of p = rw not refl in
          omega (arith, rest, here)
    ]

pub uses_replaced : (old new : List CellSeen) (i : ℕ) (o : Standing) → uses_of (replaced old new i o) ≤ uses_of o
uses_replaced old new i o = elim (cases_Bool (has_name new i)) [
  | inl here ↦ let le = uses_placed new i o in rw here le
  | inr not ↦ elim (cases_Bool (has_name old i)) [
    | inl gone ↦ rw (not, gone) (omega arith)
    | inr stays ↦ rw (not, stays) (omega arith)
  ]
]

-- ---- what is dirty

placed_dirty : (xs : List CellSeen) (i : ℕ) (p : Standing)
    → is_dirty_by (in_turn placed xs i p) ≡ (is_dirty_by p || has_name xs i)
placed_dirty [] i p = sym (or_false (is_dirty_by p))
placed_dirty (x ∷ xs) i p =
    placed_dirty xs i (placed x i p) ∙ elim (cases_Bool (x.id == i)) [
      | inl same ↦ rw same (sym (or_true (is_dirty_by p)))
      | inr not ↦ rw not refl
    ]

dirty_replaced : (old new : List CellSeen) (i : ℕ) (o : Standing) → is_dirty_by (replaced old new i o)
    ≡ cond (has_name new i) true (cond (has_name old i) false (is_dirty_by o))
dirty_replaced old new i o = elim (cases_Bool (has_name new i)) [
  | inl here ↦ rw here (placed_dirty new i o ∙ rw here (or_true (is_dirty_by o)))
  | inr not ↦ elim (cases_Bool (has_name old i)) [
    | inl gone ↦ rw (not, gone) refl
    | inr stays ↦ rw (not, stays) refl
  ]
]

-- ---- all cells in memory

-- an entry like one that was there
pub record Was (b : BufferSeen) (i : ℕ) (f : EntrySeen) : Type 0 where
  pub entry : EntrySeen
  pub is : buffered b i ≡ Some entry
  pub cell : f.cell ≡ entry.cell
  pub dirty : f.dirty ≡ entry.dirty

-- a new cell
pub record IsNewCell (new : List CellSeen) (i : ℕ) (f : EntrySeen) : Type 0 where
  pub there : Contains new f.cell
  pub named : f.cell.id ≡ i
  pub dirty : f.dirty ≡ true

-- an entry under a name that is none of an old or a new cell
pub record Untouched (b : BufferSeen) (old new : List CellSeen) (i : ℕ) (f : EntrySeen) : Type 0 where
  pub was : Was b i f
  pub not_new : has_name new i ≡ false
  pub not_old : has_name old i ≡ false

module _ (b now : BufferSeen) (old new : List CellSeen) (pins : List NodeId)
    (cells : (i : ℕ) → buffered now i ≡ in_turn unused pins i (replaced old new i (buffered b i))) where
  abbrev mid : ℕ → Standing
  mid i = replaced old new i (buffered b i)

  like_mid : (i : ℕ) → IsLike (mid i) (buffered now i)
  like_mid i = subst (IsLike (mid i)) (sym (cells i)) (unused_like pins i (mid i))

  pub entry_cases : (i : ℕ) (f : EntrySeen) → buffered now i ≡ Some f → Was b i f ⊎ IsNewCell new i f
  entry_cases i f at = by (mid i) refl (subst (IsLike (mid i)) at (like_mid i))
    where
      by : (p : Standing) → mid i ≡ p → IsLike p (Some f) → Was b i f ⊎ IsNewCell new i f
      by None is h = absurd h
      by (Some g) is h =
          ⊎_elim (λ same. inl (record { entry = g; is = sym same ∙ is; cell = h.cell; dirty = h.dirty }))
          (λ rest.
          ⊎_elim (λ p.
          (let e : g ≡ p.entry = cc (sym is ∙ p.is) in
          inr (record {
            there = subst (Contains new) (sym (h.cell ∙ ap (λ (x : EntrySeen). x.cell) e)) p.there;
            named = ap (λ (x : CellSeen). x.id) h.cell ∙ ap (λ (x : EntrySeen). x.cell.id) e ∙ p.named;
            dirty = h.dirty ∙ ap (λ (x : EntrySeen). x.dirty) e ∙ p.dirty;
          })))
          (λ none. absurd (cc (sym none ∙ is))) rest)
          (replaced_cases new i (buffered b i) old)

  new_by : (i : ℕ) (f : EntrySeen) → buffered now i ≡ Some f → IsPlaced new i (mid i) → IsNewCell new i f
  new_by i f at p =
      let h : IsLike (Some p.entry) (Some f) =
      subst (λ (o : Standing). IsLike o (Some f)) p.is (subst (IsLike (mid i)) at (like_mid i)) in
      record {
        there = subst (Contains new) (sym h.cell) p.there;
        named = ap (λ (x : CellSeen). x.id) h.cell ∙ p.named;
        dirty = h.dirty ∙ p.dirty;
      }

  was_by : (i : ℕ) (f : EntrySeen) → buffered now i ≡ Some f → mid i ≡ buffered b i → Was b i f
  was_by i f at same = by (buffered b i) refl (subst (λ (o : Standing). IsLike o (Some f)) same
      (subst (IsLike (mid i)) at (like_mid i)))
    where
      by : (o : Standing) → buffered b i ≡ o → IsLike o (Some f) → Was b i f
      by None is h = absurd h
      by (Some g) is h = record { entry = g; is = is; cell = h.cell; dirty = h.dirty }

  none_then : (i : ℕ) (f : EntrySeen) → buffered now i ≡ Some f → mid i ≡ None → ⊥
  none_then i f at none =
      subst (λ (o : Standing). IsLike o (Some f)) none (subst (IsLike (mid i)) at (like_mid i))

  -- a new cell, or an entry under a name that the change does not touch
  pub entries_then : (i : ℕ) (f : EntrySeen) → buffered now i ≡ Some f → IsNewCell new i f ⊎ Untouched b old new i f
  entries_then i f at = elim (cases_Bool (has_name new i)) [
    | inl here ↦
        inl (new_by i f at (subst (IsPlaced new i) (sym (cond-true (has_name new i) _ _ here))
        (placed_here new i (buffered b i) new (λ x c. c) (buffered b i) here)))
    | inr not ↦
        let rest = cond-false (has_name new i) (in_turn placed new i (buffered b i))
        (cond (has_name old i) None (buffered b i)) not in
        elim (cases_Bool (has_name old i)) [
          | inl gone ↦ absurd (none_then i f at (rest ∙ cond-true (has_name old i) None (buffered b i) gone))
          | inr stays ↦ inr (record {
            was = was_by i f at (rest ∙ cond-false (has_name old i) None (buffered b i) stays);
            not_new = not;
            not_old = stays;
          })
        ]
  ]

  -- where nothing stands that the change does not touch, nothing stood
  pub none_before : (i : ℕ) → has_name new i ≡ false → has_name old i ≡ false → buffered now i ≡ None
      → buffered b i ≡ None
  none_before i not_new not_old none = by (buffered b i) refl
    where
      stays : mid i ≡ buffered b i
      stays =
          cond-false (has_name new i) (in_turn placed new i (buffered b i)) (cond (has_name old i) None (buffered b i))
          not_new ∙ cond-false (has_name old i) None (buffered b i) not_old

      by : (o : Standing) → buffered b i ≡ o → buffered b i ≡ None
      by None is = is
      by (Some e) is =
          absurd (subst (λ (o : Standing). IsLike o None) (stays ∙ is) (subst (IsLike (mid i)) none (like_mid i)))

  -- what the change does not touch stands as it stood, but for how often it is used
  pub like_then : (i : ℕ) → has_name old i ≡ false → has_name new i ≡ false → IsLike (buffered b i) (buffered now i)
  like_then i not_old not_new =
      let stays : mid i ≡ buffered b i =
      cond-false (has_name new i) (in_turn placed new i (buffered b i)) (cond (has_name old i) None (buffered b i))
      not_new ∙ cond-false (has_name old i) None (buffered b i) not_old in
      subst (λ (o : Standing). IsLike o (buffered now i)) stays (like_mid i)

  pub uses_then : (i : ℕ) → uses_of (buffered now i)
      ≤ uses_of (buffered b i) - count_by (λ (n : NodeId). n.0 == i) pins
  uses_then i =
      let one = uses_replaced old new i (buffered b i) in
      let two = unused_fewer pins i (mid i) in
      let same = ap uses_of (cells i) in
      omega (arith, one, two, same)

  -- what is dirty then
  pub dirty_then : (i : ℕ) → is_dirty_by (buffered now i)
      ≡ cond (has_name new i) true (cond (has_name old i) false (is_dirty_by (buffered b i)))
  dirty_then i = like_dirty (mid i) (buffered now i) (like_mid i) ∙ dirty_replaced old new i (buffered b i)
