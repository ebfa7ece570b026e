-- The parts of trees on which what was built fits.
use Rattle.std.proofs.Common.{◌≡◌, inl, inr, ◌<◌, ◌≤◌, ℕ, sym, ap, subst, ◌∙◌}
use Rattle.std.specs.Prelude.{Contains, None, Some}
use Rattle.std.proofs.lemmas.Option.{none-some}
use Rattle.r4_base.specs.Tree.{Node, Root, Store}
use Rattle.r4_base.specs.Value.{Value}
use Rattle.r4_measure.specs.r4_cell.Patch.{Patch}
use Rattle.r4_measure.specs.r4_cell.Seen.{CellSeen, node_of}
use Rattle.r4_measure.specs.r4_patch.Joining.{patch_of_change}
use Rattle.r4_measure.specs.r4_patch.Part.{MeetsPart}
use Rattle.r4_measure.proofs.r4_patch.Members.{distinct, found, there}
use Rattle.r4_measure.specs.r4_path.Steps.{IsFree}
use Rattle.r4_measure.proofs.Loop.{of_id}
use Rattle.r4_build.specs.Built.{BuiltSeen, HasOldRoot, IsBuilt}

module _ (x : BuiltSeen) (is : IsBuilt x) (t : Store Value) (r : Root)
    (stand : (c : CellSeen) → Contains x.task.writes c → t c.id ≡ Some (node_of c))
    (free : IsFree x.task.fresh.next x.task.fresh.end t) (root : HasOldRoot x r) where
  abbrev p : Patch Value
  p = patch_of_change x.change

  has_old : (i : ℕ) (c : Node Value) → p.old i ≡ Some c → t i ≡ Some c
  has_old i c e =
      let (y, at, id, says) = found x.change.old i c e in
      subst (λ j. t j ≡ Some c) id (stand y (is.old y at) ∙ ap Some (sym says))

  -- a new cell that is no old one has one of the task's numbers
  new_number : (i : ℕ) (c : Node Value) → p.new i ≡ Some c → p.old i ≡ None → (x.task.fresh.next ≤ i) × (i < x.task.fresh.end)
  new_number i c e gone =
      let (y, at, id, says) = found x.change.new i c e in
      subst (λ j. (x.task.fresh.next ≤ j) × (j < x.task.fresh.end)) id (elim (is.new y at) [
        | inr number ↦ number
        | inl old ↦
            let (z, member, same) = of_id x.change.old y.id old in
            let stands : p.old i ≡ Some (node_of z) = subst (λ j. p.old j ≡ Some (node_of z)) (same ∙ id) (there x.change.old z (distinct x.change.old is.change.old_names) member) in
            absurd (none-some (node_of z) (sym gone ∙ stands))
      ])

  pub built_meets : MeetsPart p t r
  built_meets = record {
    meets = record {
      has_old = has_old;
      free = λ i c e gone. let (low, high) = new_number i c e gone in free.cells i low high;
      root_old = root;
    };
    unnamed = λ i c e gone names. let (low, high) = new_number i c e gone in free.names i low high names;
  }
