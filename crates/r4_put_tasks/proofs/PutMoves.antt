-- A patch that puts values among extents moves units as the task's command means.
use Rattle.std.proofs.Common.{◌≡◌, ◌⊎◌, inl, inr, ℕ, Bool, true, false, [], Option, None, refl, sym, ap, subst, ◌∙◌}
use Rattle.std.specs.Prelude.{if◌then◌else◌}
use Rattle.std.specs.Arc.{arc_value}
use Rattle.std.specs.FinMap.{find}
use Rattle.std.specs.Option.{option_map}
use Rattle.std.specs.Ordering.{nat_cmp}
use Rattle.std.proofs.lemmas.Bool.{cases_Bool}
use Rattle.std.proofs.lemmas.Option.{none-some}
use Rattle.r4_base.specs.Tree.{Root, Store}
use Rattle.r4_base.specs.Value.{Content, Value, at_key}
use Rattle.r4_base.specs.Volume.{HasExtents, HasStat, HasTails, HasUnits, is_directory}
use Rattle.r4_base.specs.declared.items.Attr.{Attr}
use Rattle.r4_base.specs.declared.items.Target.{Target}
use Rattle.r4_content.specs.Edited.{Edits, Intervals, Pairs, changed, edited, is_in}
use Rattle.r4_content.specs.Held.{pairs_of}
use Rattle.r4_content.specs.Lawful.{HasBodies}
use Rattle.r4_content.specs.Listed.{list_edited}
use Rattle.r4_content.specs.Meaning.{greatest_size}
use Rattle.r4_content.specs.Seen.{IsSeen}
use Rattle.r4_content.specs.Units.{MovesUnits}
use Rattle.r4_content.proofs.EditLaws.{edited_off, edited_on}
use Rattle.r4_turned_tasks.specs.r4_extent_put.Whole.{put_keys}
use Rattle.r4_turned_tasks.specs.r4_extent_put.r4_extent_demands.r4_leaf_demands.Leaves.{IsInLeaves}
use Rattle.r4_turned_tasks.specs.r4_task_moves.Doing.{body_for}
use Rattle.r4_turned_tasks.proofs.r4_task_moves.TaskBody.{bodies_after, saw}
use Rattle.r4_turned_tasks.proofs.r4_task_moves.r4_extent_moves.r4_applied.BodiesThen.{HasEdits, kinds, of_file}
use Rattle.r4_turned_tasks.proofs.r4_task_moves.r4_extent_moves.r4_applied.Reached.{reached_there}
use Rattle.r4_turned_tasks.proofs.r4_task_moves.r4_extent_moves.r4_applied.r4_build.Changing.{same_effect}
use Rattle.r4_turned_tasks.proofs.r4_task_moves.r4_extent_moves.r4_applied.r4_build.Contents.{set_is}
use Rattle.r4_turned_tasks.proofs.r4_task_moves.r4_extent_moves.r4_applied.r4_build.LeafKeys.{listed_on}
use Rattle.r4_turned_tasks.proofs.r4_task_moves.r4_extent_moves.r4_applied.r4_sets_told.r4_patch.Effects.{changed_after, content_after, others_after}
use Rattle.r4_turned_tasks.proofs.r4_task_moves.r4_extent_moves.r4_applied.r4_sets_told.r4_patch.PartCells.{tree_is_part}
use Rattle.r4_turned_tasks.specs.r4_task_moves.r4_extent_moves.r4_applied.r4_build.Building.{set_by}
use Rattle.r4_turned_tasks.specs.r4_task_moves.r4_extent_moves.r4_applied.r4_build.Built.{IsMove, IsPlaceFor, MovesAsMeant, edits_for}
use Rattle.r4_turned_tasks.specs.r4_task_moves.r4_extent_moves.r4_applied.r4_build.declared.task.Task.{Task}
use Rattle.r4_turned_tasks.specs.r4_task_moves.r4_extent_moves.r4_applied.r4_patch.Effect.{HasEffect, IsSetAt, Placed, in_leaf}
use Rattle.r4_turned_tasks.specs.r4_task_moves.r4_extent_moves.r4_applied.r4_patch.Part.{IsPart, MeetsPart}
use Rattle.r4_turned_tasks.specs.r4_task_moves.r4_extent_moves.r4_applied.r4_reach.Needs.{demand_on}
use Rattle.r4_turned_tasks.specs.r4_task_moves.r4_extent_moves.r4_applied.r4_reach.Reach.{HasReached}
use Rattle.r4_turned_tasks.specs.r4_task_moves.r4_extent_moves.r4_applied.r4_reach.Touched.{Body, body_on, edits_on}
use Rattle.r4_turned_tasks.specs.r4_task_moves.r4_extent_moves.r4_applied.r4_sets_told.r4_cell.Patch.{Patch, by_name, place}
use Rattle.r4_put_tasks.specs.Put.{IsPutFor}
use Rattle.r4_put_tasks.proofs.PutKeys.{keys, keys_are, put_changes}
use Rattle.r4_put_tasks.proofs.Untouched.{AreUntouched, untouched}

module _ (task : Task) (p : Patch Value) (h : IsPutFor task p) where
  abbrev b : Option Body
  b = body_for task

  abbrev e : Edits
  e = edits_for task

  abbrev at : ℕ → Bool
  at = put_keys (body_for task) (edits_for task) task.writes

  changes : (k : ℕ) → put_keys (body_for task) (edits_for task) task.writes k ≡ true
      → is_in (changed (edits_for task)) k ≡ true
  changes = put_changes b e task.writes h.in_leaves

  spares : (k : ℕ) → is_in (changed (edits_for task)) k ≡ false
      → put_keys (body_for task) (edits_for task) task.writes k ≡ false
  spares k off = elim (cases_Bool (at k)) [
    | inl on ↦ absurd (let bad : true ≡ false = sym (changes k on) ∙ off in cc)
    | inr not ↦ not
  ]

  abbrev moved : Intervals
  moved = keys (body_for task) (edits_for task) task.writes h.in_leaves

  moved_are : (k : ℕ) → is_in (keys (body_for task) (edits_for task) task.writes h.in_leaves) k
      ≡ put_keys (body_for task) (edits_for task) task.writes k
  moved_are = keys_are b e task.writes h.in_leaves h.keys

  -- ---- where the task may be done

  module _ (u : Store Value) (root : Root) (raw n : Content) (in_place : IsPlaceFor task u root raw n)
      (meets : MeetsPart p u root) where
    part : IsPart u root
    part = tree_is_part u root in_place.tree

    same : HasReached (demand_on task.command in_place.given.reach.seen in_place.given.reach.in_extents)
        (by_name in_place.met) u
    same =
        reached_there in_place.pair task.command in_place.met task.reads task.writes in_place.rises in_place.given.reach u
        in_place.given.can.cells_in.stand in_place.there.stand

    same_body : body_on task.command in_place.given.reach.seen in_place.given.reach.in_extents ≡ body_for task
    same_body =
        ap (λ (s : Pairs). body_on task.command s in_place.given.reach.in_extents) in_place.given.seen
        ∙ ap (body_on task.command (pairs_of (arc_value task.seen))) in_place.given.kind

    same_edits : edits_on task.command in_place.given.reach.seen ≡ edits_for task
    same_edits = ap (edits_on task.command) in_place.given.seen

    saw_reach : IsSeen greatest_size task.command in_place.given.reach.seen n
    saw_reach =
        subst (λ (s : Pairs). IsSeen greatest_size task.command s n) (sym in_place.given.seen)
        (saw task u root raw n in_place)

    left : AreUntouched (body_for task) (edits_for task) task.writes u raw n
    left =
        subst (λ (x : Option Body). AreUntouched x (edits_for task) task.writes u raw n) same_body
        (subst (λ (d : Edits). AreUntouched (body_on task.command in_place.given.reach.seen
        in_place.given.reach.in_extents) d task.writes u raw n) same_edits
        (untouched in_place.pair task.command in_place.met task.reads task.writes in_place.rises in_place.given.reach u
        root in_place.tree same raw n in_place.units in_place.files in_place.visible saw_reach in_place.lawful
        in_place.paths in_place.unused (subst IsInLeaves (sym same_body) h.in_leaves) h.twigs))

    left_at : (k : ℕ) → is_in (changed (edits_for task)) k ≡ true
        → put_keys (body_for task) (edits_for task) task.writes k ≡ false
        → (find nat_cmp k (list_edited (edits_for task) []) ≡ None) × (at_key raw k ≡ None)
    left_at k on off = let (low, high) = h.keys k on in left.nothing k on low high off

    -- ---- the units afterwards

    made_at : (k : ℕ) → at_key (edited (edits_for task) raw) k
        ≡ (if put_keys (body_for task) (edits_for task) task.writes k
        then option_map (λ (w : Placed Value). w.0) (set_by (edits_for task) k) else at_key raw k)
    made_at k = by (at k) (is_in (changed e) k) refl refl
      where
        by : (t c : Bool) → at k ≡ t → is_in (changed e) k ≡ c → at_key (edited e raw) k
            ≡ (if t then option_map (λ (w : Placed Value). w.0) (set_by e k) else at_key raw k)
        by true c put is =
            set_is e raw k ∙ ap (λ (t : Bool). if t then option_map (λ (w : Placed Value). w.0) (set_by e k)
            else at_key raw k) (changes k put)
        by false true not on =
            let (none, stands) = left_at k on not in
            sym (listed_on e [] raw k tt on) ∙ none ∙ sym stands
        by false false not off = edited_off e raw k off

    units_then : HasUnits (place p u) (edited (edits_for task) raw)
    units_then = content_after p u root at (set_by e) raw (edited e raw) part meets h.effect in_place.units made_at

    bodies : HasBodies greatest_size (edited (edits_for task) n)
    bodies = bodies_after task u root raw n in_place

    has_edits : HasEdits (edits_for task) u (place p u)
    has_edits = record {
      set = λ k w on. elim (cases_Bool (at k)) [
        | inl put ↦ changed_after p u root part meets at (set_by e) h.effect k w put
        | inr not ↦
            let (none, stands) = left_at k on not in
            let others = others_after p u root part meets at (set_by e) h.effect k w not in (
              λ unit.
                  (let (i, c, uc, has, kind) = others.0 unit in
                  absurd (none-some w.0 (sym stands ∙ (in_place.units k w.0).1 (i, c, uc, has)))),
              λ is. absurd (none-some w (sym (ap in_leaf none) ∙ is)),
            )
      ];
      others = λ k w off. others_after p u root part meets at (set_by e) h.effect k w (spares k off);
      apart = left.apart;
    }

    module _ (after : Content) (set : IsSetAt
        (is_in (keys (body_for task) (edits_for task) task.writes h.in_leaves)) (set_by (edits_for task)) raw after) where
      as_edited : (k : ℕ) → at_key after k ≡ at_key (edited (edits_for task) raw) k
      as_edited k =
          set k
          ∙ (ap (λ (t : Bool). if t then option_map (λ (w : Placed Value). w.0) (set_by e k) else at_key raw k)
          (moved_are k) ∙ sym (made_at k))

      kept : (k : ℕ) → is_in (keys (body_for task) (edits_for task) task.writes h.in_leaves) k ≡ false
          → at_key after k ≡ at_key raw k
      kept k off =
          set k ∙ ap (λ (t : Bool). if t then option_map (λ (w : Placed Value). w.0) (set_by e k) else at_key raw k) off

      units : MovesUnits (edits_for task) n raw after (keys (body_for task) (edits_for task) task.writes h.in_leaves)
      units = record {
        visible = in_place.visible;
        kept = kept;
        made = λ k on. inl (as_edited k ∙ edited_on e raw n k (changes k (sym (moved_are k) ∙ on)));
        spared = λ k off on. inl (sym (kept k off) ∙ (as_edited k ∙ edited_on e raw n k on));
        padding = λ k y off still there none. of_file e u (place p u) raw n in_place.units units_then in_place.files
            in_place.visible has_edits in_place.lawful.bodies bodies k y still there none;
      }

      stand : (o : Target) (a : Attr) → HasStat after o a → is_directory a ≡ false
          → HasTails (place p u) o a.size ⊎ HasExtents (place p u) o a.size
      stand o a (is, there) file =
          kinds e u (place p u) raw n in_place.units units_then in_place.files in_place.visible has_edits
          in_place.lawful.bodies bodies left.spread o a (is, sym (as_edited _) ∙ there) file

      meant : MovesAsMeant task p u raw n after (keys (body_for task) (edits_for task) task.writes h.in_leaves)
      meant = record {
        own = λ k on. inl (changes k (sym (moved_are k) ∙ on));
        units = units;
        kinds = stand;
      }

  effect : HasEffect p (is_in (keys (body_for task) (edits_for task) task.writes h.in_leaves)) (set_by (edits_for task))
  effect = same_effect p at (is_in moved) (set_by e) (set_by e) h.effect moved_are (λ k on. refl)

  pub is_move : IsMove task p
  is_move = record {
    keys = moved;
    to = set_by (edits_for task);
    effect = effect;
    moves = λ u root raw n after in_place meets set. meant u root raw n in_place meets after set;
  }
