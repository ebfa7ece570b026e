-- What the parts of the change of a task give whose body loses no blocks.
use Rattle.std.proofs.Common.{ℕ, List, Some, Bool, sym, subst}
use Rattle.std.specs.Prelude.{Contains}
use Rattle.r4_put_tasks.specs.r4_allowed.Table.{budget_of}
use Rattle.r4_put_tasks.specs.r4_allowed.declared.table.Allowance.{Allowance}
use Rattle.r4_base.specs.Tree.{Root, Store}
use Rattle.r4_base.specs.Value.{Value}
use Rattle.r4_put_tasks.specs.r4_build.Built.{IsMove, IsTaskIn, edits_for}
use Rattle.r4_put_tasks.specs.r4_build.declared.task.Task.{Task}
use Rattle.r4_put_tasks.specs.r4_build.r4_measure.r4_cell.Seen.{CellSeen, node_of}
use Rattle.r4_put_tasks.specs.r4_build.r4_measure.r4_cell.declared.change.Change.{Change}
use Rattle.r4_put_tasks.specs.r4_build.r4_patch.Effect.{HasEffect}
use Rattle.r4_put_tasks.specs.r4_build.r4_patch.Joining.{patch_of_change}
use Rattle.r4_put_tasks.specs.r4_build.r4_reach.Touched.{Body}
use Rattle.r4_content.specs.Edited.{Edits}
use Rattle.r4_put_tasks.specs.r4_grown_tasks.Places.{HavePlaces}
use Rattle.r4_put_tasks.proofs.r4_grown_tasks.GrownTask as grown
use Rattle.r4_put_tasks.proofs.r4_lost_tasks.r4_task_moves.OldEnd.{end_among, held_below}
use Rattle.r4_put_tasks.specs.r4_lost_tasks.r4_extent_shrink.r4_extent_build.Growing.{IsClearFor}
use Rattle.r4_put_tasks.specs.r4_lost_tasks.r4_extent_shrink.r4_extent_build.Looping.{AreKeysOfEach}
use Rattle.r4_put_tasks.specs.r4_lost_tasks.r4_extent_shrink.r4_extent_change.Beside.{is_turning, turning_among}
use Rattle.r4_put_tasks.specs.r4_lost_tasks.r4_extent_shrink.r4_extent_change.Changing.{CanGrow, grown_keys, grown_values}
use Rattle.r4_put_tasks.specs.r4_lost_tasks.r4_extent_shrink.r4_extent_demands.Sizes.{AreExtentEdits}
use Rattle.r4_put_tasks.specs.r4_lost_tasks.r4_extent_shrink.r4_extent_growth.Coming.{twigs_coming}
use Rattle.r4_put_tasks.proofs.r4_grown_tasks.r4_extent_growth.Found.{can_grow}
use Rattle.r4_made.specs.Growing.{MayBeGrown}
use Rattle.r4_made.specs.Making.{DoesAs, IsAllowance, IsPlanned, StandFor, over}
use Rattle.r4_made.proofs.Once.{kept}

pub can_be_grown : (task : Task) (cells : List CellSeen) (b : Body) (e : Edits) (table : List Allowance)
    → MayBeGrown task cells b e → IsAllowance task cells (twigs_coming b e cells) table → (t : Store Value) (r : Root)
    → IsTaskIn t r (over task cells) → CanGrow b e (budget_of table) t r task.fresh cells
can_be_grown task cells b e table may allowance t r is =
    let measure = allowance.measure t r is in
    can_grow b e (budget_of table) t r task.fresh cells may.may is.cells_in is.names measure.measured measure.quiet
    is.unplaced allowance.suffices

module _ (task : Task) (cells : List CellSeen) (b : Body) (e : Edits) (d : Change) (table : List Allowance)
    (t : Store Value) (r : Root) (is : IsTaskIn t r (over task cells)) (planned : IsPlanned task e (Some b))
    (may : MayBeGrown task cells b e) (can : CanGrow b e (budget_of table) t r task.fresh cells)
    (effect : (at : CellSeen → ℕ → Bool) → AreKeysOfEach b e (turning_among b e cells) at
    → HasEffect (patch_of_change d) (grown_keys b e cells at) (grown_values e)) where
  -- so does each change that does the same
  pub grown_moves : StandFor task cells → (c : Change) → DoesAs d c → IsMove task (patch_of_change c)
  grown_moves like c does =
      grown.moves task (patch_of_change c) b cells
      (record {
        first = may.may.first;
        body = sym planned.body;
        growing = may.may.growing;
        asks = subst (λ (f : Edits). AreExtentEdits (Some b) f) planned.edits planned.asks;
        like = like;
        nodes = λ x has. is.cells_in.part.nodes x.id (node_of x) (is.cells_in.stand x
            (kept (is_turning b (edits_for task)) cells x has));
        clear = subst (λ (f : Edits). (x : CellSeen) → Contains (turning_among b f cells) x → IsClearFor b x)
            planned.edits (λ x has. (can.twigs x has).clear);
        places = subst (λ (f : Edits). HavePlaces b f task.reads cells) planned.edits may.places;
        effect = subst (λ (f : Edits). (at : CellSeen → ℕ → Bool) → AreKeysOfEach b f (turning_among b f cells) at
            → HasEffect (patch_of_change c) (grown_keys b f cells at) (grown_values f)) planned.edits
            (λ at keys. does (grown_keys b e cells at) (grown_values e) (effect at keys));
        end = end_among c.old;
        within = λ k held. held_below c k held;
      })
