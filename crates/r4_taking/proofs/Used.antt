-- Where a task uses the cells that a reading met: what stands in memory then.
use Rattle.std.proofs.Common.{◌≡◌, ◌⊎◌, inl, inr, ℕ, ◌+◌, ◌≤◌, ◌==◌, Bool, true, false, not, cond, List, [], ◌∷◌}
use Rattle.std.proofs.Common.{Some, None, Contains, refl, sym, ◌∙◌, ap, subst, arith}
use Rattle.std.specs.Prelude.{count_by}
use Rattle.std.proofs.lemmas.Bool.{and_parts, cases_Bool, cond-false, cond-true, eqb-true}
use Rattle.std.proofs.lemmas.List.Sums.{sum_by-cons}
use Rattle.r4_kept.proofs.r4_history.ServingSteps.{cons_here, cons_later}
use Rattle.r4_kept.specs.r4_buffer.Changed.{Standing, in_turn, used, used_entry, uses_of}
use Rattle.r4_kept.specs.r4_buffer.Seen.{EntrySeen, is_idle}
use Rattle.r4_kept.specs.r4_cell.Seen.{CellSeen}
use Rattle.r4_kept.proofs.Unused.{IsLike}

abbrev pub IsClean : Standing → Type 0
IsClean None = Unit {0}
IsClean (Some e) = e.dirty ≡ false

-- one of the cells stands under the name, clean, where nothing stood, or something clean
pub record IsNew (met : List CellSeen) (i : ℕ) (o p : Standing) : Type 0 where
  pub was : IsClean o
  pub entry : EntrySeen
  pub is : p ≡ Some entry
  pub clean : entry.dirty ≡ false
  pub there : Contains met entry.cell
  pub named : entry.cell.id ≡ i

-- what stood there, or a new one
abbrev pub IsUsed : (met : List CellSeen) (i : ℕ) (o p : Standing) → Type 0
IsUsed met i o p = IsLike o p ⊎ IsNew met i o p

like_same : (o : Standing) → IsLike o o
like_same None = tt
like_same (Some e) = record { cell = refl; dirty = refl }

clean_now : (met : List CellSeen) (i : ℕ) (o : Standing) (e : EntrySeen) → e.dirty ≡ false
    → IsUsed met i o (Some e) → IsClean o
clean_now met i None e clean h = tt
clean_now met i (Some f) e clean (inl like) = sym like.dirty ∙ clean
clean_now met i (Some f) e clean (inr new) = new.was

-- one that is idle is not dirty
idle_clean : (e : EntrySeen) → is_idle e ≡ true → e.dirty ≡ false
idle_clean e idle = by e.dirty (and_parts (not e.dirty) (e.uses == 0) idle).0
  where
    by : (b : Bool) → not b ≡ true → b ≡ false
    by true h = absurd (cc h)
    by false h = refl

same_like : (o : Standing) (e f : EntrySeen) → f.cell ≡ e.cell → f.dirty ≡ e.dirty → IsLike o (Some e)
    → IsLike o (Some f)
same_like None e f cell dirty h = h
same_like (Some g) e f cell dirty h = record { cell = cell ∙ h.cell; dirty = dirty ∙ h.dirty }

module _ (met : List CellSeen) (i : ℕ) (o : Standing) where
  one_new : (x : CellSeen) → Contains met x → x.id ≡ i → IsClean o
      → IsUsed met i o (Some (record { cell = x; uses = 1; dirty = false }))
  one_new x there named was = inr (record {
    was = was;
    entry = record { cell = x; uses = 1; dirty = false };
    is = refl;
    clean = refl;
    there = there;
    named = named;
  })

  one_more : (e : EntrySeen) (n : ℕ) → IsUsed met i o (Some e) → IsUsed met i o (Some (record e { uses = n }))
  one_more e n (inl like) = inl (same_like o e (record e { uses = n }) refl refl like)
  one_more e n (inr new) =
      let same : e ≡ new.entry = cc new.is in
      inr (record {
        was = new.was;
        entry = record e { uses = n };
        is = refl;
        clean = ap (λ (x : EntrySeen). x.dirty) same ∙ new.clean;
        there = subst (λ (x : EntrySeen). Contains met x.cell) (sym same) new.there;
        named = ap (λ (x : EntrySeen). x.cell.id) same ∙ new.named;
      })

  none_clean : (q : Standing) → IsLike q None → IsClean q
  none_clean None h = tt
  none_clean (Some e) h = absurd h

  one_entry : (x : CellSeen) → Contains met x → x.id ≡ i → (p : Standing) → IsUsed met i o p
      → IsUsed met i o (Some (used_entry x p))
  one_entry x there named None (inl like) = one_new x there named (none_clean o like)
  one_entry x there named None (inr new) = absurd (cc new.is)
  one_entry x there named (Some e) h = elim (cases_Bool (is_idle e)) [
    | inl idle ↦
        subst (λ (f : EntrySeen). IsUsed met i o (Some f)) (sym (cond-true (is_idle e) _ _ idle))
        (one_new x there named (clean_now met i o e (idle_clean e idle) h))
    | inr busy ↦
        subst (λ (f : EntrySeen). IsUsed met i o (Some f)) (sym (cond-false (is_idle e) _ _ busy)) (one_more e _ h)
  ]

  one_used : (x : CellSeen) → Contains met x → (p : Standing) → IsUsed met i o p → IsUsed met i o (used x i p)
  one_used x there p h = elim (cases_Bool (x.id == i)) [
    | inl same ↦
        subst (IsUsed met i o) (sym (cond-true (x.id == i) (Some (used_entry x p)) p same))
        (one_entry x there (eqb-true x.id i same) p h)
    | inr not ↦ subst (IsUsed met i o) (sym (cond-false (x.id == i) (Some (used_entry x p)) p not)) h
  ]

  used_from : (xs : List CellSeen) → ((x : CellSeen) → Contains xs x → Contains met x) → (p : Standing)
      → IsUsed met i o p → IsUsed met i o (in_turn used xs i p)
  used_from [] all p h = h
  used_from (x ∷ xs) all p h =
      used_from xs (λ y c. all y (cons_later x xs y c)) (used x i p) (one_used x (all x (cons_here x xs)) p h)

  pub all_used : IsUsed met i o (in_turn used met i o)
  all_used = used_from met (λ x c. c) o (inl (like_same o))

-- ---- how often

uses_more : (x : CellSeen) (o : Standing) → uses_of (Some (used_entry x o)) ≤ uses_of o + 1
uses_more x None = omega arith
uses_more x (Some e) = elim (cases_Bool (is_idle e)) [
  | inl idle ↦ rw idle (omega arith)
  | inr busy ↦ rw busy (omega arith)
]

pub uses_then : (xs : List CellSeen) (i : ℕ) (o : Standing)
    → uses_of (in_turn used xs i o) ≤ uses_of o + count_by (λ (x : CellSeen). x.id == i) xs
uses_then [] i o = omega arith
uses_then (x ∷ xs) i o =
    let rest = uses_then xs i (used x i o) in
    let count = sum_by-cons (λ (y : CellSeen). cond (y.id == i) 1 0) x xs in
    elim (cases_Bool (x.id == i)) [
      | inl same ↦
          let here : uses_of (used x i o) ≡ uses_of (Some (used_entry x o)) =
          ap uses_of (cond-true (x.id == i) (Some (used_entry x o)) o same) in
          let more = uses_more x o in
          let one = cond-true {A = ℕ} (x.id == i) 1 0 same in
          omega (arith, rest, count, here, more, one)
      | inr not ↦
          let here : uses_of (used x i o) ≡ uses_of o =
          ap uses_of (cond-false (x.id == i) (Some (used_entry x o)) o not) in
          let one = cond-false {A = ℕ} (x.id == i) 1 0 not in
          omega (arith, rest, count, here, one)
    ]
