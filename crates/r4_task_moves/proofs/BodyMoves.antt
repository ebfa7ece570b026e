-- A patch that moves a body's units moves them as the task's command means.
use Rattle.std.proofs.Common.{◌≡◌, ◌⊎◌, inl, inr, ℕ, zero, suc, ◌+◌, Bool, true, false, [], ◌∷◌}
use Rattle.std.proofs.Common.{Option, refl, sym, ap, subst, ◌∙◌, arith}
use Rattle.std.specs.Prelude.{◌||◌, ◌&&◌, if◌then◌else◌}
use Rattle.std.proofs.lemmas.Bool.{cases_Bool, eqb-true, le-leb, lt-ltb}
use Rattle.std.proofs.lemmas.Grind.{common_steps}
use Rattle.r4_base.specs.Tree.{Root, Store}
use Rattle.r4_base.specs.Value.{Content, Value}
use Rattle.r4_content.specs.Edited.{Intervals, changed, is_between, is_in}
use Rattle.r4_content.proofs.EditLaws.{one_key}
use Rattle.r4_turned_moves.specs.r4_extent_moves.Moving.{ChangesBody, in_body}
use Rattle.r4_turned_moves.proofs.r4_extent_moves.Moved as moved
use Rattle.r4_turned_moves.proofs.r4_extent_moves.Standing as standing
use Rattle.r4_turned_moves.specs.r4_extent_moves.r4_applied.r4_build.Built.{IsBesideByte, IsMove, IsPlaceFor, MovesAsMeant, edits_for}
use Rattle.r4_turned_moves.specs.r4_extent_moves.r4_applied.r4_build.declared.task.Task.{Task}
use Rattle.r4_turned_moves.specs.r4_extent_moves.r4_applied.r4_patch.Effect.{HasEffect, IsSetAt, Placed}
use Rattle.r4_turned_moves.specs.r4_extent_moves.r4_applied.r4_patch.Part.{MeetsPart}
use Rattle.r4_turned_moves.specs.r4_extent_moves.r4_applied.r4_reach.Touched.{Body}
use Rattle.r4_turned_moves.specs.r4_extent_moves.r4_applied.r4_sets_told.r4_cell.Patch.{Patch}
use Rattle.r4_task_moves.specs.Doing.{IsBodyMove}
use Rattle.r4_task_moves.proofs.TaskBody.{beside_byte, changes_body}

-- ---- keys one by one

module _ (at : ℕ → Bool) where
  -- those of so many keys that are in the set
  pub singles : (from n : ℕ) → Intervals
  singles from zero = []
  singles from (suc n) = if at from then (from, from + 1) ∷ singles (from + 1) n else singles (from + 1) n

  none_yet : (k from : ℕ) → is_between from (from + 0) k ≡ false
  none_yet k from = grind (arith, common_steps)

  first_or_rest : (k from n : ℕ) → is_between from (from + suc n) k ≡ (is_between from (from + 1) k || is_between (from + 1) (from + 1 + n) k)
  first_or_rest k from n = grind (arith, common_steps)

  spread : (a b c : Bool) → ((a || b) && c) ≡ ((a && c) || (b && c))
  spread true true true = refl
  spread true true false = refl
  spread true false true = refl
  spread true false false = refl
  spread false true c = refl
  spread false false c = refl

  -- at one key the set is what it is at the first of them
  at_first : (k from : ℕ) → (is_between from (from + 1) k && at k) ≡ (is_between from (from + 1) k && at from)
  at_first k from = by (is_between from (from + 1) k) refl
    where
      by : (t : Bool) → is_between from (from + 1) k ≡ t → (t && at k) ≡ (t && at from)
      by true is = ap at (eqb-true k from (sym (one_key k from) ∙ is))
      by false is = refl

  pub in_singles : (from n k : ℕ) → is_in (singles from n) k ≡ (is_between from (from + n) k && at k)
  unfolding singles
  in_singles from zero k = sym (ap (λ (t : Bool). t && at k) (none_yet k from))
  in_singles from (suc n) k =
      step (at from) (in_singles (from + 1) n k)
      ∙ (sym (ap (λ (t : Bool). t || (is_between (from + 1) (from + 1 + n) k && at k)) (at_first k from))
      ∙ (sym (spread (is_between from (from + 1) k) (is_between (from + 1) (from + 1 + n) k) (at k))
      ∙ sym (ap (λ (t : Bool). t && at k) (first_or_rest k from n))))
    where
      drop : (a : Bool) → (a && false) ≡ false
      drop true = refl
      drop false = refl

      keep : (a : Bool) → (a && true) ≡ a
      keep true = refl
      keep false = refl

      step : (t : Bool) → is_in (singles (from + 1) n) k ≡ (is_between (from + 1) (from + 1 + n) k && at k)
          → is_in (if t then (from, from + 1) ∷ singles (from + 1) n else singles (from + 1) n) k
          ≡ ((is_between from (from + 1) k && t) || (is_between (from + 1) (from + 1 + n) k && at k))
      step true rest = (λ i. sym (keep (is_between from (from + 1) k)) i || rest i)
      step false rest = rest ∙ sym (ap (λ (a : Bool). a || (is_between (from + 1) (from + 1 + n) k && at k))
          (drop (is_between from (from + 1) k)))

-- ---- a body's move

module _ (task : Task) (p : Patch Value) (b : Body) (at : ℕ → Bool) (to : ℕ → Option (Placed Value))
    (h : IsBodyMove task p b at to) where
  keys : Intervals
  keys = singles at 0 h.end

  are : (k : ℕ) → is_in keys k ≡ at k
  unfolding keys
  are k = in_singles at 0 h.end k ∙ by (at k) refl
    where
      all_before : at k ≡ true → is_between 0 (0 + h.end) k ≡ true
      all_before on = rw (le-leb 0 k (omega arith), lt-ltb k (0 + h.end) (let lt = h.within k on in omega (arith, lt))) refl

      drop : (a : Bool) → (a && false) ≡ false
      drop true = refl
      drop false = refl

      by : (t : Bool) → at k ≡ t → (is_between 0 (0 + h.end) k && t) ≡ t
      by true on = ap (λ (a : Bool). a && true) (all_before on)
      by false off = drop (is_between 0 (0 + h.end) k)

  same : (λ (k : ℕ). is_in keys k) ≡ at
  same = λ i k. are k i

  effect : HasEffect p (is_in keys) to
  effect = subst (λ (f : ℕ → Bool). HasEffect p f to) (sym same) h.effect

  meant : (u : Store Value) (root : Root) (raw n after : Content) → IsPlaceFor task u root raw n → MeetsPart p u root
      → IsSetAt (is_in keys) to raw after → MovesAsMeant task p u raw n after keys
  meant u root raw n after place meets set =
      let changes = changes_body task b u root raw n h.body place in
      let moves = h.moves u root raw n place changes in
      let set_at : IsSetAt at to raw after = subst (λ (f : ℕ → Bool). IsSetAt f to raw after) same set in
      record {
        own = λ k on. own u root raw n place changes k (sym (are k) ∙ on);
        units = moved.moves b (edits_for task) u raw n changes at to moves after keys are set_at;
        kinds = λ o a stat file. standing.kinds b (edits_for task) u root p raw n after at to changes moves place.tree
            meets h.effect set_at o a stat file;
      }
    where
      own : (u : Store Value) (root : Root) (raw n : Content) → IsPlaceFor task u root raw n
          → ChangesBody b (edits_for task) u raw n → (k : ℕ) → at k ≡ true
          → (is_in (changed (edits_for task)) k ≡ true) ⊎ IsBesideByte (edits_for task) k
      own u root raw n place changes k on = elim (cases_Bool (in_body b k)) [
        | inl inside ↦ inr (beside_byte task b u root raw n h.body place k inside)
        | inr outside ↦ inl (sym ((h.moves u root raw n place changes).others k outside) ∙ on)
      ]

  pub is_move : IsMove task p
  is_move = record { keys = keys; to = to; effect = effect; moves = meant }
