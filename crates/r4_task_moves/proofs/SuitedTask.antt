-- What a task's edits cut of bodies, and what they change beside them.
use Rattle.std.proofs.Common.{◌≡◌, ◌⊎◌, inl, inr, ℕ, ◌+◌, ◌≤◌, ◌^◌, Bool, true, false, not, [], ◌∷◌, Some, refl, sym, ap, subst, ◌∙◌}
use Rattle.std.specs.Prelude.{All, Contains, cond, ◌||◌, ◌==◌}
use Rattle.std.specs.Arc.{arc_value}
use Rattle.std.specs.List.{filter}
use Rattle.std.proofs.lemmas.Bool.{cases_Bool, or_cases}
use Rattle.std.proofs.lemmas.List.Elements.{All-filter}
use Rattle.r4_base.specs.Tree.{Root, Store}
use Rattle.r4_base.specs.Value.{Byte, Content, Entry, Stat, Value}
use Rattle.r4_base.specs.Volume.{byte_rank}
use Rattle.r4_base.specs.declared.items.Target.{Target}
use Rattle.r4_content.specs.Edited.{Intervals, Pairs, changed, is_between, is_in, put_keys}
use Rattle.r4_content.specs.Held.{pairs_of}
use Rattle.r4_content.proofs.EditLaws.{in_changed}
use Rattle.r4_turned_moves.specs.r4_extent_moves.Moving.{in_body}
use Rattle.r4_turned_moves.proofs.r4_extent_moves.BodyKeys.{minor_at}
use Rattle.r4_turned_moves.proofs.r4_extent_moves.r4_applied.OneBody.{cut_apart, cut_ends}
use Rattle.r4_turned_moves.proofs.r4_extent_moves.r4_applied.r4_build.r4_leaf_edits.Whole.{bodies_are_bytes}
use Rattle.r4_turned_moves.proofs.r4_extent_moves.r4_applied.r4_sets_told.r4_patch.Members.{here, later}
use Rattle.r4_turned_moves.specs.r4_extent_moves.r4_applied.r4_build.Built.{IsPlaceFor, edits_for}
use Rattle.r4_turned_moves.specs.r4_extent_moves.r4_applied.r4_build.declared.task.Task.{Task}
use Rattle.r4_turned_moves.specs.r4_extent_moves.r4_applied.r4_build.r4_leaf_edits.Suiting.{IsLawfulPut, SuitLeaves, is_byte}
use Rattle.r4_turned_moves.specs.r4_extent_moves.r4_applied.r4_reach.Reach.{is_body}
use Rattle.r4_turned_moves.specs.r4_extent_moves.r4_applied.r4_reach.Touched.{Body, body_of, first_byte}
use Rattle.r4_turned_moves.specs.r4_extent_moves.r4_extent_change.Beside.{without_bytes}
use Rattle.r4_task_moves.specs.Doing.{body_for}
use Rattle.r4_task_moves.proofs.TaskBody.{body_key_of, file_one, object, one}

-- ---- what is no byte is at no body's key

none_left : (ps : Pairs) → filter (λ p. is_byte p.1) (filter (λ p. not (is_byte p.1)) ps) ≡ []
none_left [] = refl
none_left ((q, Stat a) ∷ ps) = none_left ps
none_left ((q, Entry n t) ∷ ps) = none_left ps
none_left ((q, Byte x) ∷ ps) = none_left ps

put_off : (ps : Pairs) (k : ℕ) → All IsLawfulPut ps → is_body k ≡ true
    → is_in (put_keys (filter (λ p. not (is_byte p.1)) ps)) k ≡ false
put_off ps k all body =
    sym (bodies_are_bytes (filter (λ p. not (is_byte p.1)) ps) k
    (All-filter (λ (p : ℕ × Value). not (is_byte p.1)) IsLawfulPut ps all) body)
    ∙ ap (λ (qs : Pairs). is_in (put_keys qs) k) (none_left ps)

-- an interval that is left begins in no body, and is one of them
left_cut : (rs : Intervals) (k : ℕ) → is_in (filter (λ r. not (is_body r.0)) rs) k ≡ true
    → (r : ℕ × ℕ) × Contains rs r × (is_body r.0 ≡ false) × (is_between r.0 r.1 k ≡ true)
left_cut [] k on = absurd (let f : false ≡ true = on in cc)
left_cut (r ∷ rs) k on = by (is_body r.0) refl on (λ rest. let (q, has, off, at) = left_cut rs k rest in
    (q, later r q rs has, off, at))
  where
    by : (t : Bool) → is_body r.0 ≡ t
        → is_in (cond (not t) (r ∷ filter (λ q. not (is_body q.0)) rs) (filter (λ q. not (is_body q.0)) rs)) k ≡ true
        → (is_in (filter (λ q. not (is_body q.0)) rs) k ≡ true
        → (q : ℕ × ℕ) × Contains (r ∷ rs) q × (is_body q.0 ≡ false) × (is_between q.0 q.1 k ≡ true))
        → (q : ℕ × ℕ) × Contains (r ∷ rs) q × (is_body q.0 ≡ false) × (is_between q.0 q.1 k ≡ true)
    by true body at more = more at
    by false off at more = elim (or_cases (is_between r.0 r.1 k) (is_in (filter (λ q. not (is_body q.0)) rs) k) at) [
      | inl first ↦ (r, here r rs, off, first)
      | inr rest ↦ more rest
    ]

module _ (task : Task) (b : Body) (u : Store Value) (root : Root) (raw n : Content) (is : body_for task ≡ Some b)
    (h : IsPlaceFor task u root raw n) where
  -- a cut that begins in a body ends within this one
  pub cuts : (r : ℕ × ℕ) → Contains (edits_for task).cuts r → is_body r.0 ≡ true → r.1 ≤ first_byte b + 2 ^ 64
  cuts r has body =
      let (j, found, same) = body_key_of task b is in
      let file = file_one task u root raw n h j found in
      subst (λ (x : Body). r.1 ≤ first_byte x + 2 ^ 64) same
      (subst (λ (o : Target). r.1 ≤ byte_rank o 0 + 2 ^ 64) (sym file)
      (cut_ends (edits_for task) (one task u root raw n h) r has body))

  -- attributes and entries change outside of it
  pub beside : (end : ℕ) → SuitLeaves end (edits_for task) → (k : ℕ)
      → is_in (changed (without_bytes (edits_for task))) k ≡ true → in_body b k ≡ false
  beside end suits k on = elim (cases_Bool (in_body b k)) [
    | inr off ↦ off
    | inl inside ↦ absurd (no_body inside
        (or_cases (is_in (put_keys (without_bytes (edits_for task)).puts) k)
        (is_in (without_bytes (edits_for task)).zeros k || is_in (without_bytes (edits_for task)).cuts k)
        (sym (in_changed (without_bytes (edits_for task)) k) ∙ on)))
  ]
    where
      of_body : in_body b k ≡ true → is_body k ≡ true
      of_body inside =
          let (j, found, same) = body_key_of task b is in
          ap (λ (m : ℕ). m == 4)
          (minor_at (body_of (edits_for task) (pairs_of (arc_value task.seen)) task.scope.in_extents j)
          (object task u root raw n h j found) k (subst (λ (x : Body). in_body x k ≡ true) (sym same) inside))

      no_body : in_body b k ≡ true
          → (is_in (put_keys (without_bytes (edits_for task)).puts) k ≡ true)
          ⊎ ((false || is_in (without_bytes (edits_for task)).cuts k) ≡ true) → ⊥
      no_body inside (inl put) = let f : true ≡ false = sym put ∙ put_off (edits_for task).puts k suits.values (of_body inside) in cc
      no_body inside (inr cut) =
          let (r, has, off, at) = left_cut (edits_for task).cuts k cut in
          let f : true ≡ false = sym (of_body inside)
          ∙ cut_apart (edits_for task) (one task u root raw n h) r has off k at in cc
