-- What was built of a command applies in a session.
use Rattle.std.proofs.Common.{◌≡◌, inl, inr, ℕ, true, false, Option, Some, None, refl, subst}
use Rattle.std.specs.Prelude.{Contains, is_some}
use Rattle.std.proofs.lemmas.Bool.{or_cases}
use Rattle.std.proofs.lemmas.List.Elements.{Contains-append_right}
use Rattle.r4_base.specs.Tree.{Node}
use Rattle.r4_base.specs.Value.{Value}
use Rattle.r4_build.specs.Built.{BuiltSeen}
use Rattle.r4_sets_told.specs.r4_cell.Patch.{Patch}
use Rattle.r4_sets_told.specs.r4_cell.Seen.{CellSeen, node_of}
use Rattle.r4_content.specs.Locality.{commands}
use Rattle.r4_content.specs.Meaning.{greatest_size}
use Rattle.r4_build.proofs.r4_measure.Loop.{of_id}
use Rattle.r4_sets_told.specs.r4_patch.Joining.{patch_of_change}
use Rattle.r4_sets_told.proofs.r4_patch.Members.{found}
use Rattle.r4_sets_told.specs.r4_sets.Change.{Applies, IsFree as IsFreeFor, touches}
use Rattle.r4_sets_told.specs.r4_sets.Session.{Session}
use Rattle.r4_sets_told.specs.r4_trace.Traced.{atom_in}
use Rattle.r4_applied.specs.Applying.{CanApply, changed_by, touched_by}
use Rattle.r4_applied.proofs.Applied.{does, in_reach}

some_value : (o : Option (Node Value)) → is_some o ≡ true → (c : Node Value) × (o ≡ Some c)
some_value None is = absurd (let f : false ≡ true = is in cc)
some_value (Some c) is = (c, refl)

module _ (x : BuiltSeen) (was : Session) (txn : ℕ) (h : CanApply x was txn) where
  abbrev p : Patch Value
  p = patch_of_change x.change

  abbrev atom : ℕ
  atom = atom_in was.trace txn

  of_old : (c : CellSeen) → Contains x.change.old c → IsFreeFor was (atom_in was.trace txn) c.id
  of_old c has = h.own c (Contains-append_right x.task.reads x.task.writes c (h.over.built.old c has))

  of_new : (c : CellSeen) → Contains x.change.new c → IsFreeFor was (atom_in was.trace txn) c.id
  of_new c has = elim (h.over.built.new c has) [
    | inl old ↦
        let (y, there, same) = of_id x.change.old c.id old in
        subst (IsFreeFor was (atom_in was.trace txn)) same (of_old y there)
    | inr number ↦ inl (h.fresh c.id number.0 number.1)
  ]

  own : (i : ℕ) → touches (patch_of_change x.change) i ≡ true → IsFreeFor was (atom_in was.trace txn) i
  own i on = elim (or_cases (is_some (p.old i)) (is_some (p.new i)) on) [
    | inl some ↦
        let (c, at) = some_value (p.old i) some in
        let (y, has, id, says) = found x.change.old i c at in
        subst (IsFreeFor was (atom_in was.trace txn)) id (of_old y has)
    | inr some ↦
        let (c, at) = some_value (p.new i) some in
        let (y, has, id, says) = found x.change.new i c at in
        subst (IsFreeFor was (atom_in was.trace txn)) id (of_new y has)
  ]

  pub applies : Applies (commands greatest_size) was txn x.task.command (patch_of_change x.change)
  applies = record {
    unsealed = h.unsealed;
    touched = touched_by x h.over.built;
    changed = changed_by x h.over.built;
    does = does x was.memory was.root _ h.over;
    own = own;
    reach = λ k on from to.
        (let r = in_reach x was.memory was.root _ h.over k on from to in
        (r.cell.id, node_of r.cell, h.over.there.stand r.cell r.among, r.holds, h.own r.cell r.among));
  }
