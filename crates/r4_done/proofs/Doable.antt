-- What is known of a task that is done, before its change is put: its atom owns what stands dirty of the change.
use Rattle.std.proofs.Common.{◌≡◌, ◌≢◌, ⊎_elim, ℕ, true, false, List, [], ◌∷◌}
use Rattle.std.proofs.Common.{Option, Some, None, Contains, refl, sym, ◌∙◌, ap}
use Rattle.std.proofs.Common.{subst}
use Rattle.std.specs.Prelude.{IsSome, nat_eq}
use Rattle.std.specs.List.{AllByRecursion, IsDistinct}
use Rattle.std.proofs.lemmas.Bool.{ne_eqb, or_cases}
use Rattle.std.proofs.lemmas.List.Elements.{Contains-append_right}
use Rattle.std.proofs.lemmas.Map.Keys.{IsDistinct-cons}
use Rattle.r4_atoms.specs.Atoms.{atom_of, numbers}
use Rattle.r4_atoms.specs.Atoms.{owner_of}
use Rattle.r4_base.specs.declared.things.AtomNo.{AtomNo}
use Rattle.r4_base.specs.declared.things.ScriptNo.{ScriptNo}
use Rattle.r4_base.specs.declared.things.TxnNo.{TxnNo}
use Rattle.r4_taking.specs.r4_buffer.Changed.{Standing, has_name}
use Rattle.r4_taking.specs.r4_buffer.Seen.{buffered, is_dirty_by}
use Rattle.r4_taking.specs.r4_cell.Patch.{HaveNames}
use Rattle.r4_taking.specs.r4_cell.Seen.{CellSeen}
use Rattle.r4_taking.specs.r4_cell.declared.change.Change.{Change}
use Rattle.r4_content.specs.declared.command.Command.{Command}
use Rattle.r4_taking.specs.r4_history.Drawn.{numbers_in, numbers_of}
use Rattle.r4_taking.specs.r4_history.Held.{IsServed, names_of}
use Rattle.r4_outside.specs.Device.{State}
use Rattle.r4_counted.specs.r4_patch.Joining.{ids_of}
use Rattle.r4_counted.proofs.r4_patch.Members.{Distinct, distinct, here, later}
use Rattle.r4_taking.specs.r4_turns.Turns.{turn_at}
use Rattle.r4_taking.specs.r4_turns.declared.out.Out.{Out}
use Rattle.r4_taking.specs.r4_turns.declared.turn.Open.{Open}
use Rattle.r4_taking.specs.r4_kept.Kept.{IsKept}
use Rattle.r4_taking.specs.r4_kept.Naming.{Naming}
use Rattle.r4_taking.specs.r4_kept.TasksOut.{IsGiven}
use Rattle.r4_taking.specs.r4_kept.View.{CoreSeen, tables_of}
use Rattle.r4_done.specs.Done.{CanBeDone, IsChangeOf}
use Rattle.r4_done.proofs.DoneTables.{is_touched}
use Rattle.r4_done.proofs.Named.{number_of, one_named, one_of_ids}

-- ---- names that stand once

none_later : (i : ℕ) (xs : List CellSeen) → ((y : CellSeen) → Contains xs y → i ≢ y.id)
    → AllByRecursion (λ (j : ℕ). nat_eq i j ≡ false) (ids_of xs)
none_later i [] h = tt
none_later i (x ∷ xs) h = (ne_eqb i x.id (h x (here x xs)), none_later i xs (λ y has. h y (later x y xs has)))

once_of : (xs : List CellSeen) → Distinct xs → IsDistinct nat_eq (ids_of xs)
unfolding IsDistinct
once_of [] h = tt
once_of (x ∷ xs) (first, rest) =
    IsDistinct-cons nat_eq x.id (ids_of xs) (none_later x.id xs first) (once_of xs rest)

pub once : (xs : List CellSeen) → HaveNames xs → IsDistinct nat_eq (ids_of xs)
once xs h = once_of xs (distinct xs h)

some_of : (o : Option ℕ) → IsSome o → (n : ℕ) × (o ≡ Some n)
some_of None h = absurd (cc h)
some_of (Some n) h = (n, refl)

-- ---- a core

module _ {D : Type 0} (r : Naming) (d : State) (c : CoreSeen D) (k : IsKept r d c) (s : ScriptNo)
    (within : Open) (out : Out) (x : Command) (change : Change) (a : AtomNo)
    (can : CanBeDone c s within out x a) (of_it : IsChangeOf c out x change) where
  pub is_served : IsServed (tables_of c) s.0 out
  is_served = k.tables.tasks.served s.0 out can.out_is

  -- what its task was given
  pub given_it : IsGiven c.tree x out
  given_it =
      subst (λ (y : Command). IsGiven c.tree y out) (sym can.made)
      (k.tasks.given s.0 out can.command can.out_is can.stands.next)

  pub own_task : atom_of c.atoms out.txn.0 ≡ a.0
  own_task =
      let same : is_served.within ≡ within = cc (sym is_served.transaction ∙ can.stands.transaction) in
      ap (λ (t : TxnNo). atom_of c.atoms t.0) (sym is_served.txn ∙ ap (λ (o : Open). o.txn) same) ∙ can.own

  -- no other atom owns a cell that it writes
  pub write_owned : (y : CellSeen) → Contains out.writes y → (n : ℕ) → owner_of c.atoms y.id ≡ Some n → n ≡ a.0
  write_owned y there n owned =
      is_served.owners y.id n
      (Contains-append_right (numbers (names_of out.reads)) (numbers (names_of out.writes)) y.id
      (number_of out.writes y there)) owned ∙ own_task

  pub own_numbers : numbers_of (turn_at c.turns s.0) ≡ Some out.numbers
  own_numbers = ap (λ (o : Option Out). numbers_in o (turn_at c.turns s.0).numbers) can.out_is.is_out

  pub old_owned : (y : CellSeen) → Contains change.old y → (n : ℕ) → owner_of c.atoms y.id ≡ Some n → n ≡ a.0
  old_owned y there = write_owned y (of_it.reached y there)

  -- nor a new cell of the change
  pub new_owned : (y : CellSeen) → Contains change.new y → (n : ℕ) → owner_of c.atoms y.id ≡ Some n → n ≡ a.0
  new_owned y there n owned =
      ⊎_elim
      (λ of_old.
      (let z = one_of_ids change.old y.id of_old in old_owned z.0 z.1 n (ap (owner_of c.atoms) z.2 ∙ owned)))
      (λ fresh.
      absurd (cc (sym (k.tasks.unowned s.0 y.id out.numbers can.out_is.is_script own_numbers fresh.0 fresh.1) ∙ owned)))
      (of_it.numbered y there)

  pub owned_by : (i n : ℕ) → is_touched change.old change.new i ≡ true → owner_of c.atoms i ≡ Some n → n ≡ a.0
  owned_by i n hit owned =
      ⊎_elim
      (λ one. (let y = one_named change.old i one in old_owned y.0 y.1 n (ap (owner_of c.atoms) y.2 ∙ owned)))
      (λ two. (let y = one_named change.new i two in new_owned y.0 y.1 n (ap (owner_of c.atoms) y.2 ∙ owned)))
      (or_cases (has_name change.old i) (has_name change.new i) hit)

  -- what stands dirty has an owner
  pub dirty_owned : (i : ℕ) → is_dirty_by (buffered c.buffer i) ≡ true → (n : ℕ) × (owner_of c.atoms i ≡ Some n)
  dirty_owned i dirty = by (buffered c.buffer i) refl dirty
    where
      by : (o : Standing) → buffered c.buffer i ≡ o → is_dirty_by o ≡ true → (n : ℕ) × (owner_of c.atoms i ≡ Some n)
      by None at h = absurd (cc h)
      by (Some f) at h = some_of (owner_of c.atoms i) ((k.cells.dirty i f at).0 h)

  pub touched_owned : (i : ℕ) → is_touched change.old change.new i ≡ true → is_dirty_by (buffered c.buffer i) ≡ true
      → owner_of c.atoms i ≡ Some a.0
  touched_owned i hit dirty =
      let (n, owned) = dirty_owned i dirty in owned ∙ ap (λ (m : ℕ). Some m) (owned_by i n hit owned)
