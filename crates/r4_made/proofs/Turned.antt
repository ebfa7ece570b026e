-- What the parts of the change of a task give whose body comes to extents.
use Rattle.std.proofs.Common.{◌≡◌, ℕ, ◌≤◌, [], ◌∷◌, List, Some, refl, sym, ap, subst, ◌∙◌, arith}
use Rattle.r4_put_tasks.specs.r4_allowed.Table.{budget_of}
use Rattle.r4_put_tasks.specs.r4_allowed.declared.table.Allowance.{Allowance}
use Rattle.r4_base.specs.Tree.{Root, Store}
use Rattle.r4_base.specs.Value.{Value}
use Rattle.r4_put_tasks.specs.r4_build.Built.{IsMove, IsTaskIn}
use Rattle.r4_put_tasks.specs.r4_build.declared.task.Task.{Task}
use Rattle.r4_put_tasks.specs.r4_build.r4_leaf_edits.Suiting.{SuitLeaves}
use Rattle.r4_put_tasks.specs.r4_build.r4_measure.r4_cell.declared.change.Change.{Change}
use Rattle.r4_put_tasks.specs.r4_build.r4_patch.Effect.{HasEffect}
use Rattle.r4_put_tasks.specs.r4_build.r4_patch.Joining.{patch_of_change}
use Rattle.r4_put_tasks.specs.r4_build.r4_reach.Touched.{Body}
use Rattle.r4_content.specs.Edited.{Edits}
use Rattle.r4_put_tasks.proofs.r4_lost_tasks.r4_task_moves.OldEnd.{end_among, held_below}
use Rattle.r4_put_tasks.specs.r4_lost_tasks.r4_extent_shrink.r4_extent_build.Growing.{end_after, end_before}
use Rattle.r4_put_tasks.specs.r4_lost_tasks.r4_extent_shrink.r4_extent_demands.Sizes.{end_of_bytes}
use Rattle.r4_put_tasks.proofs.r4_turned_tasks.TurnedTask as turned
use Rattle.r4_put_tasks.proofs.r4_turned_tasks.r4_extent_turned.FoundTurns.{can_turn}
use Rattle.r4_put_tasks.specs.r4_turned_tasks.r4_extent_turned.Finding.{turn_among}
use Rattle.r4_put_tasks.specs.r4_turned_tasks.r4_extent_turned.MayTurn.{MayTurnWhole, twig_turning}
use Rattle.r4_put_tasks.specs.r4_turned_tasks.r4_extent_turned.Whole.{CanTurn, turned_keys, turned_values}
use Rattle.r4_put_tasks.specs.r4_turned_tasks.r4_extent_turned.r4_extent_turn.Turning.{Turn, leaves_of}
use Rattle.r4_put_tasks.specs.r4_build.r4_measure.r4_cell.Seen.{CellSeen}
use Rattle.r4_made.specs.Making.{CountsOnce, DoesAs, IsAllowance, IsPlanned, StandFor, over}
use Rattle.r4_put_tasks.proofs.r4_build.r4_patch.Members.{cases, none}
use Rattle.std.proofs.Common.{inl, inr}
use Rattle.std.specs.Prelude.{Contains}

pub can_be_turned : (task : Task) (cells : List CellSeen) (b : Body) (e : Edits) (x : Turn) (table : List Allowance)
    → MayTurnWhole b e task.fresh cells x → turn_among b cells ≡ Some x
    → IsAllowance task cells (twig_turning b e x) table → (t : Store Value) (r : Root)
    → IsTaskIn t r (over task cells) → CanTurn b e (budget_of table) t r task.fresh cells x
can_be_turned task cells b e x table may found allowance t r is =
    let measure = allowance.measure t r is in
    can_turn t r task.fresh cells is.cells_in b e x may found (budget_of table) is.names measure.measured
    measure.quiet is.unplaced allowance.suffices

-- what stands for some cells has some of them too
fewer : (task : Task) (cells some : List CellSeen) → ((c : CellSeen) → Contains some c → Contains cells c)
    → StandFor task cells → StandFor task some
fewer task cells some among like u root raw n place =
    let h = like u root raw n place in
    record { store = h.store; root = h.root; tree = h.tree; units = h.units; stand = λ c has. h.stand c (among c has) }

module _ (task : Task) (cells : List CellSeen) (b : Body) (e : Edits) (x : Turn) (d : Change)
    (table : List Allowance) (t : Store Value) (r : Root) (planned : IsPlanned task e (Some b))
    (may : MayTurnWhole b e task.fresh cells x) (can : CanTurn b e (budget_of table) t r task.fresh cells x)
    (effect : HasEffect (patch_of_change d) (turned_keys b e) (turned_values b e x)) where
  longer : end_before b ≤ end_after b
  longer = let was = planned.longer b refl may.turning.turns in omega (arith, was)

  -- so does each change that does the same
  pub turned_moves : StandFor task cells → (c : Change) → DoesAs d c → IsMove task (patch_of_change c)
  turned_moves like c does =
      turned.moves task (patch_of_change c) b x
      (record {
        first = may.first;
        body = sym planned.body;
        turning = may.turning;
        longer = longer;
        end_of_bytes = end_of_bytes (Some b);
        suits = subst (λ (f : Edits). SuitLeaves (end_of_bytes (Some b)) f) planned.edits planned.asks.suit;
        like = fewer task cells (leaves_of x) can.turn.leaves like;
        follow = may.beside;
        around = may.around;
        effect = subst (λ (f : Edits). HasEffect (patch_of_change c) (turned_keys b f) (turned_values b f x))
            planned.edits whole;
        end = end_among c.old;
        within = λ k on. held_below c k (whole.held k (ap (λ (f : Edits). turned_keys b f k) planned.edits ∙ on));
      })
    where
      whole : HasEffect (patch_of_change c) (turned_keys b e) (turned_values b e x)
      whole = does (turned_keys b e) (turned_values b e x) effect

-- one count is once there
pub one_once : (p : ℕ × ℕ) → CountsOnce (p ∷ [])
one_once p x y has also same = elim (cases p x [] has) [
  | inl first ↦ elim (cases p y [] also) [
    | inl second ↦ ap (λ (z : ℕ × ℕ). z.1) (first ∙ sym second)
    | inr never ↦ absurd (none y never)
  ]
  | inr never ↦ absurd (none x never)
]
