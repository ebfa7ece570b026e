-- What is made of a task whose body loses no blocks moves units as its command means.
use Rattle.std.proofs.Common.{◌≡◌, inl, inr, ℕ, true, List, Some, refl, sym, ap, subst, ◌∙◌, arith}
use Rattle.std.specs.Prelude.{◌<◌, Contains, ◌==◌}
use Rattle.std.proofs.lemmas.Bool.{and_from, and_parts, eqb-true}
use Rattle.std.proofs.lemmas.List.Elements.{Contains-append_left}
use Rattle.r4_base.specs.Key.{rank}
use Rattle.r4_base.specs.Tree.{Root, Store}
use Rattle.r4_base.specs.Value.{Byte, Content, Value, at_key}
use Rattle.r4_base.specs.Volume.{HasExtents}
use Rattle.r4_content.specs.Edited.{is_between, is_in}
use Rattle.r4_content.proofs.Ranks.{between_is}
use Rattle.r4_lost_tasks.specs.r4_extent_growth.r4_extent_build.Growing.{end_after, end_before}
use Rattle.r4_lost_tasks.specs.r4_extent_growth.r4_extent_build.Looping.{AreKeysOfEach}
use Rattle.r4_lost_tasks.specs.r4_extent_growth.r4_extent_build.Setting.{in_coming}
use Rattle.r4_lost_tasks.specs.r4_extent_growth.r4_extent_change.Beside.{is_turning, turning_among}
use Rattle.r4_lost_tasks.specs.r4_extent_growth.r4_extent_change.Changing.{grown_keys, grown_values}
use Rattle.r4_lost_tasks.specs.r4_extent_growth.r4_extent_change.r4_extent_blocks.Setting.{byte_set}
use Rattle.r4_lost_tasks.specs.r4_extent_growth.r4_measure.r4_cell.Seen.{CellSeen, node_of}
use Rattle.r4_lost_tasks.specs.r4_extent_growth.r4_measure.r4_patch.Effect.{HasEffect}
use Rattle.r4_lost_tasks.specs.r4_extent_growth.r4_measure.r4_reach.Touched.{coming}
use Rattle.r4_lost_tasks.proofs.r4_extent_growth.Turns.{comes_from}
use Rattle.r4_lost_tasks.proofs.r4_extent_growth.r4_extent_change.Chosen.{kept_in, picked}
use Rattle.r4_lost_tasks.proofs.r4_extent_growth.r4_extent_change.r4_extent_build.TurnEffect.{old_units}
use Rattle.r4_lost_tasks.specs.r4_extent_growth.r4_measure.r4_path.TwigPieces.{twig_pieces}
use Rattle.r4_grown_tasks.specs.GrownTask.{IsGrownFor}
use Rattle.r4_grown_tasks.specs.Places.{still}
use Rattle.r4_grown_tasks.proofs.InPlaces.{in_place, in_still}
use Rattle.r4_grown_tasks.proofs.TwigKeys.{coming_keys, keys_of}
use Rattle.r4_lost_tasks.specs.r4_task_moves.Alike.{StandLike}
use Rattle.r4_lost_tasks.proofs.r4_task_moves.Alike.{changes_alike, extents_alike, moves_alike, turned_round}
use Rattle.r4_lost_tasks.specs.r4_task_moves.Doing.{IsBodyMove}
use Rattle.r4_lost_tasks.proofs.r4_task_moves.BodyMoves.{is_move}
use Rattle.r4_lost_tasks.proofs.r4_task_moves.StoodThere.{stood_there}
use Rattle.r4_lost_tasks.proofs.r4_task_moves.SuitedTask.{beside, cuts}
use Rattle.r4_lost_tasks.proofs.r4_task_moves.r4_extent_moves.GrownMoves as grown
use Rattle.r4_lost_tasks.specs.r4_task_moves.r4_extent_moves.Grown.{GetsThere, GrowsBody}
use Rattle.r4_lost_tasks.specs.r4_task_moves.r4_extent_moves.Moving.{ChangesBody, MovesBody}
use Rattle.r4_lost_tasks.specs.r4_task_moves.r4_extent_moves.r4_applied.r4_build.Built.{IsMove, IsPlaceFor, edits_for}
use Rattle.r4_lost_tasks.specs.r4_task_moves.r4_extent_moves.r4_applied.r4_build.declared.task.Task.{Task}
use Rattle.r4_lost_tasks.specs.r4_task_moves.r4_extent_moves.r4_applied.r4_reach.Touched.{Body}
use Rattle.r4_lost_tasks.specs.r4_task_moves.r4_extent_moves.r4_applied.r4_sets_told.r4_cell.Patch.{Patch}

module _ (task : Task) (p : Patch Value) (b : Body) (cells : List CellSeen) (h : IsGrownFor task p b cells) where
  -- ---- the twigs

  keys_of_twigs : AreKeysOfEach b (edits_for task) (turning_among b (edits_for task) cells) (coming_keys b)
  keys_of_twigs = record {
    clear = h.clear;
    keys = λ c has.
        (let turns = (picked (is_turning b (edits_for task)) cells c has).1 in
        keys_of b (edits_for task) c (h.nodes c has) (eqb-true c.level 2 (and_parts (c.level == 2) _ turns).0)
        (h.clear c has));
  }

  effect : HasEffect p (grown_keys b (edits_for task) cells (coming_keys b)) (grown_values (edits_for task))
  effect = h.effect (coming_keys b) keys_of_twigs

  -- the twig that has the first key of the blocks that come has them all
  come : coming b ≡ (end_before b, end_after b)
  come = comes_from b h.first h.growing

  comes : (k : ℕ) → is_between (end_before b) (end_after b) k ≡ true
      → (c : CellSeen) × Contains (turning_among b (edits_for task) cells) c × (in_coming b c k ≡ true)
  comes k on =
      let (low, high) = between_is (end_before b) (end_after b) k on in
      let some : end_before b < end_after b = omega (arith, low, high) in
      let (c, has, at) = h.places.first (subst (λ (r : ℕ × ℕ). r.0 < r.1) (sym come) some) in
      let (turns, inside) = and_parts (is_turning b (edits_for task) c) (is_between (rank c.lo) (rank c.hi) (coming b).0) at in (
        c,
        kept_in (is_turning b (edits_for task)) cells c turns has,
        and_from (is_between (rank c.lo) (rank c.hi) (end_before b)) (is_between (end_before b) (end_after b) k)
            (ap (λ (r : ℕ × ℕ). is_between (rank c.lo) (rank c.hi) r.0) (sym come) ∙ inside) on,
      )

  -- ---- where it may be done

  module _ (u : Store Value) (root : Root) (raw n : Content) (place : IsPlaceFor task u root raw n) where
    like : StandLike u cells
    like = h.like u root raw n place

    stood : HasExtents u b.file b.was
    stood = elim h.growing.stood [
      | inl in_extents ↦ (stood_there task b u root raw n h.body place).extents in_extents
      | inr none ↦ ((stood_there task b u root raw n h.body place).empty none).1
    ]

    -- in a hole of a twig that is read a 0 stands
    still_there : (k : ℕ) → is_in (still b task.reads) k ≡ true → at_key raw k ≡ Some (Byte 0)
    still_there k on =
        let (c, has, level, hole) = in_still b task.reads k on in
        let pieces = h.places.read c has level in
        let unit : Contains (node_of c).units (k, Byte 0) =
        subst (λ (us : List (ℕ × Value)). Contains us (k, Byte 0)) pieces.units
        ((old_units b (twig_pieces c) k (Byte 0)).1 (inl (hole, refl))) in
        (place.units k (Byte 0)).1
        (c.id, node_of c, place.there.stand c (Contains-append_left task.reads task.writes c has), unit)

    covered : (k x : ℕ) → byte_set (edits_for task) k ≡ Some x → GetsThere b (edits_for task) raw cells k x
    covered k x is = elim (h.places.bytes k x is) [
      | inr zeros ↦ inr (inr (zeros.0, still_there k zeros.1))
      | inl on ↦ elim (in_place b (edits_for task) come cells k on) [
        | inl block ↦ inl block
        | inr twig ↦ inr (inl twig)
      ]
    ]

    grows : GrowsBody b (edits_for task) like.store raw cells (coming_keys b)
    grows = record {
      first = h.first;
      growing = h.growing;
      stood = extents_alike u like.store like.units b.file b.was stood;
      cells_in = like.stand;
      twigs = keys_of_twigs;
      end = _;
      suits = h.asks.suit;
      covered = covered;
      comes = comes;
      cuts = cuts task b u root raw n h.body place;
      beside = beside task b u root raw n h.body place _ h.asks.suit;
    }

    body_moves : ChangesBody b (edits_for task) u raw n
        → MovesBody b (edits_for task) u raw (grown_keys b (edits_for task) cells (coming_keys b))
        (grown_values (edits_for task))
    body_moves changes =
        moves_alike like.store u (turned_round u like.store like.units) b (edits_for task) raw
        (grown_keys b (edits_for task) cells (coming_keys b)) (grown_values (edits_for task))
        (grown.moves b (edits_for task) like.store raw n cells (coming_keys b)
        (changes_alike u like.store like.units b (edits_for task) raw n changes) grows)

  body_move : IsBodyMove task p b (grown_keys b (edits_for task) cells (coming_keys b)) (grown_values (edits_for task))
  body_move = record {
    body = h.body;
    effect = effect;
    end = h.end;
    within = λ k on. h.within k (effect.held k on);
    moves = λ u root raw n place changes. body_moves u root raw n place changes;
  }

  pub moves : IsMove task p
  moves =
      is_move task p b (grown_keys b (edits_for task) cells (coming_keys b)) (grown_values (edits_for task)) body_move
