-- What is made of a task whose body comes to extents moves units as its command means.
use Rattle.std.proofs.Common.{◌≡◌, Bool, true, false, not, refl}
use Rattle.std.proofs.lemmas.Bool.{and_parts}
use Rattle.r4_base.specs.Tree.{Root, Store}
use Rattle.r4_base.specs.Value.{Content, Value}
use Rattle.r4_turned_tasks.specs.TurnedTask.{IsTurnedFor}
use Rattle.r4_grown_tasks.specs.r4_task_moves.Alike.{StandLike}
use Rattle.r4_grown_tasks.proofs.r4_task_moves.Alike.{changes_alike, moves_alike, tails_alike, turned_round}
use Rattle.r4_grown_tasks.specs.r4_task_moves.Doing.{IsBodyMove}
use Rattle.r4_grown_tasks.proofs.r4_task_moves.BodyMoves.{is_move}
use Rattle.r4_grown_tasks.proofs.r4_task_moves.StoodThere.{stood_there}
use Rattle.r4_grown_tasks.proofs.r4_task_moves.SuitedTask.{beside, cuts}
use Rattle.r4_grown_tasks.specs.r4_task_moves.r4_extent_moves.r4_applied.r4_build.Built.{IsMove, IsPlaceFor, edits_for}
use Rattle.r4_grown_tasks.specs.r4_task_moves.r4_extent_moves.r4_applied.r4_build.declared.task.Task.{Task}
use Rattle.r4_grown_tasks.specs.r4_task_moves.r4_extent_moves.r4_applied.r4_reach.Touched.{Body, is_spread}
use Rattle.r4_grown_tasks.specs.r4_task_moves.r4_extent_moves.r4_applied.r4_sets_told.r4_cell.Patch.{Patch}
use Rattle.r4_grown_tasks.specs.r4_turned_moves.Turned.{TurnsBody}
use Rattle.r4_grown_tasks.proofs.r4_turned_moves.TurnedMoves as turned
use Rattle.r4_grown_tasks.specs.r4_turned_moves.r4_extent_turned.Whole.{turned_keys, turned_values}
use Rattle.r4_grown_tasks.specs.r4_turned_moves.r4_extent_turned.r4_extent_turn.Turning.{Turn, leaves_of}
use Rattle.r4_grown_tasks.specs.r4_task_moves.r4_extent_moves.Moving.{ChangesBody, MovesBody}

module _ (task : Task) (p : Patch Value) (b : Body) (x : Turn) (h : IsTurnedFor task p b x) where
  in_tails : b.in_extents ≡ false
  in_tails = by b.in_extents (and_parts (is_spread b) (not b.in_extents) h.turning.turns).1
    where
      by : (t : Bool) → not t ≡ true → t ≡ false
      by true is = absurd (let f : false ≡ true = is in cc)
      by false is = refl

  module _ (u : Store Value) (root : Root) (raw n : Content) (place : IsPlaceFor task u root raw n) where
    like : StandLike u (leaves_of x)
    like = h.like u root raw n place

    turns : TurnsBody b (edits_for task) like.store x
    turns = record {
      first = h.first;
      turning = h.turning;
      longer = h.longer;
      stood = tails_alike u like.store like.units b.file b.was
          ((stood_there task b u root raw n h.body place).tails in_tails);
      root = like.root;
      tree = like.tree;
      leaves_in = like.stand;
      follow = h.follow;
      around = h.around;
      end = h.end_of_bytes;
      suits = h.suits;
      cuts = cuts task b u root raw n h.body place;
      beside = beside task b u root raw n h.body place h.end_of_bytes h.suits;
    }

    body_moves : ChangesBody b (edits_for task) u raw n
        → MovesBody b (edits_for task) u raw (turned_keys b (edits_for task)) (turned_values b (edits_for task) x)
    body_moves changes =
        moves_alike like.store u (turned_round u like.store like.units) b (edits_for task) raw
        (turned_keys b (edits_for task)) (turned_values b (edits_for task) x)
        (turned.moves b (edits_for task) like.store raw n x
        (changes_alike u like.store like.units b (edits_for task) raw n changes) turns)

  body_move : IsBodyMove task p b (turned_keys b (edits_for task)) (turned_values b (edits_for task) x)
  body_move = record {
    body = h.body;
    effect = h.effect;
    end = h.end;
    within = h.within;
    moves = λ u root raw n place changes. body_moves u root raw n place changes;
  }

  pub moves : IsMove task p
  moves = is_move task p b (turned_keys b (edits_for task)) (turned_values b (edits_for task) x) body_move
