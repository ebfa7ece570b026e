-- What the parts of a task's change give together.
use Rattle.std.proofs.Common.{◌≡◌, ◌⊎◌, inl, inr, ℕ, ◌<◌, ◌≤◌, true, [], ◌∷◌, List, Some, refl, sym, ap, subst, ◌∙◌, arith, map}
use Rattle.std.specs.Prelude.{Contains, length, ◌==◌}
use Rattle.std.proofs.lemmas.Bool.{eqb-true}
use Rattle.r4_put_tasks.specs.r4_allowed.Allowing.{AreTaskCells, IsMeasure}
use Rattle.r4_put_tasks.specs.r4_allowed.Making.{told_of}
use Rattle.r4_put_tasks.specs.r4_allowed.Table.{budget_of}
use Rattle.r4_put_tasks.specs.r4_allowed.declared.table.Allowance.{Allowance}
use Rattle.r4_put_tasks.proofs.r4_allowed.Raised.{told_least}
use Rattle.r4_base.specs.Tree.{Root, Store}
use Rattle.r4_base.specs.Value.{Value}
use Rattle.r4_base.specs.declared.things.NodeId.{NodeId}
use Rattle.r4_put_tasks.specs.r4_build.Building.{AreNumbered}
use Rattle.r4_put_tasks.specs.r4_build.Built.{IsMove, IsTaskIn}
use Rattle.r4_put_tasks.specs.r4_build.declared.task.Task.{Task}
use Rattle.r4_put_tasks.specs.r4_build.r4_measure.r4_cell.Patch.{root_of_pair}
use Rattle.r4_put_tasks.specs.r4_build.r4_measure.r4_cell.Seen.{CellSeen}
use Rattle.r4_put_tasks.specs.r4_build.r4_measure.r4_cell.declared.change.Change.{Change}
use Rattle.r4_put_tasks.specs.r4_build.r4_measure.r4_cell.declared.change.Fresh.{Fresh}
use Rattle.r4_put_tasks.specs.r4_build.r4_patch.Effect.{HasEffect}
use Rattle.r4_put_tasks.specs.r4_build.r4_patch.Joining.{ids_of, patch_of_change}
use Rattle.r4_put_tasks.specs.r4_build.r4_path.Steps.{OnlyTakes}
use Rattle.r4_put_tasks.specs.r4_build.r4_reach.Touched.{Body}
use Rattle.r4_put_tasks.proofs.r4_build.r4_patch.Members.{cases, here, later, none}
use Rattle.r4_content.specs.Edited.{Edits}
use Rattle.r4_content.specs.Held.{interval_of}
use Rattle.r4_content.specs.declared.edits.Interval.{Interval}
use Rattle.r4_put_tasks.proofs.r4_lost_tasks.LostTask as lost
use Rattle.r4_put_tasks.proofs.r4_lost_tasks.r4_extent_shrink.Found.{can_lose}
use Rattle.r4_put_tasks.proofs.r4_lost_tasks.r4_task_moves.Alike.{own_stand}
use Rattle.r4_put_tasks.proofs.r4_lost_tasks.r4_task_moves.OldEnd.{end_among, held_below}
use Rattle.r4_put_tasks.specs.r4_lost_tasks.r4_extent_shrink.Shrinking.{twigs_losing}
use Rattle.r4_put_tasks.specs.r4_lost_tasks.r4_extent_shrink.r4_extent_change.Losing.{CanLose, lost_keys, lost_values}
use Rattle.r4_put_tasks.specs.r4_lost_tasks.r4_extent_shrink.r4_extent_demands.Sizes.{AreExtentEdits}
use Rattle.r4_put_tasks.specs.r4_lost_tasks.r4_extent_shrink.r4_extent_loss.Losing.{IsLosing}
use Rattle.r4_put_tasks.specs.r4_lost_tasks.r4_extent_shrink.r4_extent_growth.Coming.{SufficesFor, count_of}
use Rattle.r4_made.specs.Losing.{MayBeLost}
use Rattle.r4_made.specs.Making.{CountsOnce, IsAllowance, IsMadeIn, IsMadeOf, IsPlanned, over}
use Rattle.r4_made.proofs.Once.{mapped}

-- ---- what may still come

in_map : {X Y : Type 0} (f : X → Y) (xs : List X) (x : X) → Contains xs x → Contains (map f xs) (f x)
in_map f [] x has = absurd (none x has)
in_map f (y ∷ ys) x has = elim (cases y x ys has) [
  | inl is ↦ subst (λ z. Contains (map f (y ∷ ys)) (f z)) (sym is) (here (f y) (map f ys))
  | inr rest ↦ later (f y) (f x) (map f ys) (in_map f ys x rest)
]

pub suffices : (twigs : List (NodeId × ℕ)) (table : List Allowance)
    → ((i : ℕ) → budget_of table 2 i ≡ told_of twigs i) → CountsOnce (map count_of twigs)
    → SufficesFor (budget_of table) (map count_of twigs)
suffices twigs table raised once x has =
    let (y, at, is) = mapped count_of twigs x has in
    subst (λ (n : ℕ). x.1 ≤ n) (sym (raised x.0))
    (told_least twigs x.0 x.1 (y, at, sym (ap (λ (z : ℕ × ℕ). z.0) is))
    (λ z among same. let one = once x (count_of z) has (in_map count_of twigs z among) (sym same) in omega (arith, one)))

pub task_cells : (t : Store Value) (r : Root) (task : Task) (cells : List CellSeen) → IsTaskIn t r (over task cells)
    → AreTaskCells t (root_of_pair task.scope.root) task.fresh cells
task_cells t r task cells is = subst (λ (q : Root). AreTaskCells t q task.fresh cells) (sym is.root)
    (record { height = is.height; seen = is.seen; cells_in = is.cells_in })

pub measured : (t : Store Value) (r : Root) (task : Task) (cells : List CellSeen) (table : List Allowance)
    → IsTaskIn t r (over task cells) → IsMeasure t (root_of_pair task.scope.root) cells table
    → IsMeasure t r cells table
measured t r task cells table is measure = subst (λ (q : Root). IsMeasure t q cells table) is.root measure

-- ---- any change

module _ (task : Task) (d : Change) (after : Fresh) (numbers : OnlyTakes task.fresh after)
    (new : AreNumbered task.fresh after d) where
  pub own_numbers : (c : CellSeen) → Contains d.new c
      → Contains (ids_of d.old) c.id ⊎ ((task.fresh.next ≤ c.id) × (c.id < task.fresh.end))
  own_numbers c has = elim (new c has) [
    | inl old ↦ inl old
    | inr taken ↦ inr (taken.0, omega (arith, taken, numbers))
  ]

-- ---- blocks that go

pub can_be_lost : (task : Task) (b : Body) (e : Edits) (table : List Allowance) → MayBeLost task b e
    → IsAllowance task task.writes (twigs_losing b e task.writes) table → (t : Store Value) (r : Root) → IsTaskIn t r task
    → CanLose b e (budget_of table) t r task.fresh task.writes
can_be_lost task b e table may allowance t r is =
    let measure = allowance.measure t r is in
    can_lose b e (budget_of table) t r task.fresh task.writes may.may is.cells_in is.names measure.measured measure.quiet
    is.unplaced allowance.suffices

pub lost_moves : (task : Task) (b : Body) (e : Edits) (d : Change) → IsPlanned task e (Some b) → MayBeLost task b e
    → HasEffect (patch_of_change d) (lost_keys b e task.writes) (lost_values e) → IsMove task (patch_of_change d)
lost_moves task b e d planned may effect =
    lost.moves task (patch_of_change d) b
    (record {
      first = may.may.first;
      body = sym planned.body;
      losing = subst (λ (f : Edits). IsLosing b may.may.first f) planned.edits may.may.losing;
      asks = subst (λ (f : Edits). AreExtentEdits (Some b) f) planned.edits planned.asks;
      goes = may.goes;
      zeros = subst (λ (f : Edits). f.zeros ≡ []) planned.edits may.zeros;
      effect = subst (λ (f : Edits). HasEffect (patch_of_change d) (lost_keys b f task.writes) (lost_values f)) planned.edits effect;
      end = end_among d.old;
      within = λ k on. held_below d k (effect.held k
          (ap (λ (f : Edits). lost_keys b f task.writes k) planned.edits ∙ on));
    })

-- no interval is held, so none is meant
pub no_intervals : (rs : List Interval) → (length rs == 0) ≡ true → map interval_of rs ≡ []
no_intervals [] is = refl
no_intervals (r ∷ rs) is = absurd (omega (arith, eqb-true (length (r ∷ rs)) 0 is))

-- ---- of the task's own cells

pub made_of_own : (task : Task) (d : Change) → IsMadeIn task task.writes d → IsMadeOf task d
made_of_own task d m = record {
  change = m.change;
  move = m.move (λ u root raw n place. own_stand task u root raw n place) d (λ at to effect. effect);
  meets = m.meets;
  old = m.old;
  new = m.new;
}
