-- A task is done: what is said of the tasks that are still out.
use Rattle.std.proofs.Common.{◌≡◌, ◌≢◌, ◌⊎◌, inl, inr, ⊎_elim, ℕ, ◌<◌, ◌≤◌, ◌||◌, true, cond, List, Option, Some, None}
use Rattle.std.proofs.Common.{Contains, refl}
use Rattle.std.proofs.Common.{sym, ◌∙◌}
use Rattle.std.proofs.Common.{ap, subst, arith}
use Rattle.std.proofs.lemmas.Bool.{cases_Bool, cond-false, or_cases}
use Rattle.std.proofs.lemmas.List.Elements.{Contains-append_right}
use Rattle.r4_atoms.specs.Atoms.{AtomsSeen, owner_of}
use Rattle.r4_taking.specs.r4_buffer.Changed.{has_name, in_turn, replaced, unused}
use Rattle.r4_taking.specs.r4_buffer.Seen.{BufferSeen, EntrySeen, buffered}
use Rattle.r4_base.specs.Tree.{Name}
use Rattle.r4_taking.specs.r4_cell.Seen.{CellSeen}
use Rattle.r4_taking.specs.r4_cell.declared.change.Root.{Root as RootPair}
use Rattle.r4_content.specs.Meaning.{with_id}
use Rattle.r4_content.specs.declared.command.Command.{Command}
use Rattle.r4_taking.specs.r4_history.Drawn.{numbers_in, numbers_of}
use Rattle.r4_taking.specs.r4_history.Held.{IsOut}
use Rattle.r4_taking.specs.r4_history.Tables.{next_at}
use Rattle.r4_outside.specs.Device.{State}
use Rattle.r4_counted.specs.r4_patch.Joining.{ids_of}
use Rattle.r4_taking.specs.r4_turns.Turns.{IsScript, TurnsSeen, turn_at}
use Rattle.r4_taking.specs.r4_turns.declared.out.Numbers.{Numbers}
use Rattle.r4_taking.specs.r4_turns.declared.out.Out.{Out}
use Rattle.r4_taking.specs.r4_kept.Cells.{NamesAt}
use Rattle.r4_taking.specs.r4_kept.Kept.{IsKept}
use Rattle.r4_taking.specs.r4_kept.Naming.{Naming}
use Rattle.r4_taking.specs.r4_kept.TasksOut.{AreOut, IsGiven, pins_in}
use Rattle.r4_taking.specs.r4_kept.View.{CoreSeen}
use Rattle.r4_done.proofs.Dropped.{TurnsDrop}
use Rattle.r4_done.proofs.Named.{id_there, one_named, one_of_ids}
use Rattle.r4_done.proofs.Replaced.{entry_cases, uses_then}

-- each new cell has the name of an old one, or a number of the task's
abbrev pub AreNumbered : (old new : List CellSeen) → Numbers → Type 0
AreNumbered old new n =
    (x : CellSeen) → Contains new x
    → Contains (ids_of old) x.id ⊎ ((n.fresh.next ≤ x.id) × (x.id < n.fresh.end))

module _ {D : Type 0} (r : Naming) (d : State) (c : CoreSeen D) (k : IsKept r d c) (s : ℕ) (out : Out)
    (here : IsOut c.turns s out) (old new : List CellSeen) (reached : (x : CellSeen) → Contains old x
    → Contains out.writes x)
    (numbered : AreNumbered old new out.numbers) (turns : TurnsSeen) (on : TurnsDrop c.turns turns s out) where
  -- its numbers are those of its script's next command
  own : numbers_of (turn_at c.turns s) ≡ Some out.numbers
  own = ap (λ (o : Option Out). numbers_in o (turn_at c.turns s).numbers) here.is_out

  -- a name that the change touches is no number of another command
  pub not_numbers : (q i : ℕ) (n : Numbers) → IsScript c.turns q → q ≢ s → numbers_of (turn_at c.turns q) ≡ Some n
      → Contains (ids_of old) i ⊎ ((out.numbers.fresh.next ≤ i) × (i < out.numbers.fresh.end))
      → n.fresh.next ≤ i → i < n.fresh.end → ⊥
  not_numbers q i n has other is_n why low high =
      ⊎_elim (λ named.
      (let x = one_of_ids old i named in
      k.tasks.unreached q s n out x.0 has is_n here
      (Contains-append_right out.reads out.writes x.0 (reached x.0 x.1))
      (subst (λ (j : ℕ). n.fresh.next ≤ j) (sym x.2) low) (subst (λ (j : ℕ). j < n.fresh.end) (sym x.2) high)))
      (λ fresh.
      (let from = fresh.0 in
      let to = fresh.1 in
      ⊎_elim (λ below. absurd (omega (arith, below, from, high))) (λ above. absurd (omega (arith, above, to, low)))
      (k.tasks.apart q s n out.numbers has here.is_script other is_n own))) why

  module _ (buffer : BufferSeen)
      (cells : (i : ℕ) → buffered buffer i ≡ in_turn unused out.pins i (replaced old new i (buffered c.buffer i))) where
    unused_done : (q i : ℕ) (n : Numbers) (f : EntrySeen) → IsScript turns q
        → numbers_of (turn_at turns q) ≡ Some n → buffered buffer i ≡ Some f → n.fresh.next ≤ i → i < n.fresh.end → ⊥
    unused_done q i n f has is_n at low high =
        let was = on.numbers q n has is_n in
        ⊎_elim (λ e. k.tasks.unused q i n e.entry (on.scripts q has) was.1 e.is low high)
        (λ y.
        not_numbers q i n (on.scripts q has) was.0 was.1
        (subst (λ (j : ℕ). Contains (ids_of old) j ⊎ ((out.numbers.fresh.next ≤ j) × (j < out.numbers.fresh.end)))
        y.named (numbered f.cell y.there)) low high)
        (entry_cases c.buffer buffer old new out.pins cells i f at)

    -- a node of no next command is owned as it was, or the change touches it
    unowned_done : (atoms : AtomsSeen) (a : ℕ)
        → ((n : ℕ) → owner_of atoms n ≡ cond (has_name old n || has_name new n) (Some a) (owner_of c.atoms n))
        → (q i : ℕ) (n : Numbers) → IsScript turns q → numbers_of (turn_at turns q) ≡ Some n
        → n.fresh.next ≤ i → i < n.fresh.end → owner_of atoms i ≡ None
    unowned_done atoms a owners q i n has is_n low high =
        let was = on.numbers q n has is_n in
        elim (cases_Bool (has_name old i || has_name new i)) [
          | inl hit ↦ absurd (not_numbers q i n (on.scripts q has) was.0 was.1 (touched i hit) low high)
          | inr miss ↦
              owners i ∙ cond-false (has_name old i || has_name new i) (Some a) (owner_of c.atoms i) miss
              ∙ k.tasks.unowned q i n (on.scripts q has) was.1 low high
        ]
      where
        touched : (i : ℕ) → (has_name old i || has_name new i) ≡ true
            → Contains (ids_of old) i ⊎ ((out.numbers.fresh.next ≤ i) × (i < out.numbers.fresh.end))
        touched i hit =
            ⊎_elim
            (λ one. (let x = one_named old i one in inl (subst (Contains (ids_of old)) x.2 (id_there old x.0 x.1))))
            (λ two.
            (let x = one_named new i two in
            subst (λ (j : ℕ). Contains (ids_of old) j ⊎ ((out.numbers.fresh.next ≤ j) × (j < out.numbers.fresh.end)))
            x.2 (numbered x.0 x.1)))
            (or_cases (has_name old i) (has_name new i) hit)

    pub tasks_done : (tree : RootPair) (atoms : AtomsSeen) (a : ℕ)
        → ((n : ℕ) → owner_of atoms n ≡ cond (has_name old n || has_name new n) (Some a) (owner_of c.atoms n))
        → ((q i : ℕ) (n : Numbers) (m : Name) → IsScript turns q → numbers_of (turn_at turns q) ≡ Some n
        → NamesAt buffer i m → n.fresh.next ≤ m.id → m.id < n.fresh.end → ⊥)
        → ((q : ℕ) (o : Out) (x : Command) → IsOut turns q o → next_at turns q ≡ Some x
        → IsGiven tree (with_id o.numbers.oid x) o)
        → (after : CoreSeen D) → after ≡ record after {
          turns = turns;
          atoms = atoms;
          buffer = buffer;
          tree = tree;
          numbers = c.numbers;
        } → AreOut after
    tasks_done tree atoms a owners unnamed given after same =
        let g = k.tasks in
        subst AreOut (sym same) (record {
          uses = λ i.
              (let fewer = uses_then c.buffer buffer old new out.pins cells i in
              let sums = on.sums (λ o. pins_in o i) refl in
              let le = g.uses i in
              omega (arith, fewer, sums, le));
          drawn = λ q n has is_n. g.drawn q n (on.scripts q has) (on.numbers q n has is_n).1;
          apart = λ q p n m has also other is_n is_m. g.apart q p n m (on.scripts q has) (on.scripts p also) other
              (on.numbers q n has is_n).1 (on.numbers p m also is_m).1;
          unused = unused_done;
          unnamed = unnamed;
          unreached = λ q p n o x has is_n is_out. g.unreached q p n o x (on.scripts q has) (on.numbers q n has is_n).1
              (on.outs p o is_out).1;
          unowned = unowned_done atoms a owners;
          given = given;
        })
