-- A run stays lawful as a command is done whose paths are of bytes and whose id is new; and blocks that come to its
-- atom are those of cells under the open atoms.
use Rattle.std.proofs.Common.{◌≡◌, ℕ, ◌+◌, ◌<◌, ◌≤◌, ◌^◌, Bool, true, cond, inl, inr, ⊎_elim, List, Option, Some, None}
use Rattle.std.proofs.Common.{Contains, refl, sym, ◌∙◌, ap, subst, arith}
use Rattle.std.proofs.lemmas.Bool.{cases_Bool, cond-false, or_cases}
use Rattle.r4_base.specs.Tree.{Node, Store}
use Rattle.r4_taking.specs.r4_buffer.Changed.{has_name}
use Rattle.r4_taking.specs.r4_cell.Patch.{IsChange, by_name, patch_of}
use Rattle.r4_taking.specs.r4_cell.Seen.{CellSeen, node_of}
use Rattle.r4_taking.specs.r4_cell.declared.change.Root.{Root as RootPair}
use Rattle.r4_content.specs.Locality.{commands}
use Rattle.r4_taking.specs.r4_flushed.Flushed.{OwnsBlocks}
use Rattle.r4_counted.proofs.r4_patch.Members.{distinct, there}
use Rattle.r4_taking.specs.r4_sets.Session.{Sets, picks}
use Rattle.r4_taking.proofs.r4_sets.Applied.{memory_cells}
use Rattle.r4_taking.specs.r4_trace.Folds.{everything}
use Rattle.r4_taking.specs.r4_trace.Traced.{atom_in}
use Rattle.r4_taking.specs.r4_turns.declared.out.Numbers.{Numbers}
use Rattle.r4_done.proofs.DoneMeaning.{touches_is}
use Rattle.r4_done.proofs.DoneTables.{is_touched}
use Rattle.r4_done.proofs.DoneTasks.{AreNumbered}
use Rattle.r4_done.proofs.Named.{one_named, one_of_ids}
use Rattle.r4_base.specs.Value.{Content}
use Rattle.r4_base.specs.declared.things.ScriptNo.{ScriptNo}
use Rattle.r4_base.specs.declared.things.TxnNo.{TxnNo}
use Rattle.r4_taking.specs.r4_cell.Patch.{Patch}
use Rattle.r4_base.specs.Value.{Value}
use Rattle.r4_content.specs.Fields.{HasBytePaths, IsUnused}
use Rattle.r4_content.specs.Lawful.{RoomFor}
use Rattle.r4_content.specs.Meaning.{greatest_size}
use Rattle.r4_content.specs.declared.command.Command.{Command}
use Rattle.r4_taking.specs.r4_durable.Meaning.{Beginning, IsNamed, first_id, start_of}
use Rattle.r4_taking.specs.r4_durable.Sealing.{start_in}
use Rattle.r4_taking.specs.r4_history.Tables.{asked}
use Rattle.r4_outside.specs.Device.{State}
use Rattle.r4_taking.specs.r4_sets.Session.{Session}
use Rattle.r4_taking.specs.r4_sets_told.Runs.{IsLawfulRun, dones_in}
use Rattle.r4_taking.specs.r4_trace.Ids.{IsDrawn, IsInBounds, IsNewId, id_of}
use Rattle.r4_taking.specs.r4_trace.Job.{Asked}
use Rattle.r4_taking.specs.r4_trace.declared.entry.Entry.{Entry}
use Rattle.r4_taking.specs.r4_kept.Kept.{HasStory, IsKept}
use Rattle.r4_taking.specs.r4_kept.Naming.{Naming, job_named, job_read, names_in}
use Rattle.r4_taking.specs.r4_kept.View.{CoreSeen}
use Rattle.r4_done.proofs.DoneMeaning.{session_done}

module _ {D : Type 0} (r : Naming) (d : State) (c : CoreSeen D) (k : IsKept r d c) (b : Beginning)
    (named : IsNamed (names_in r) d.blocks b) (u : TxnNo) (s : ScriptNo) (index : ℕ) (x : Command) (p : Patch Value)
    (paths : HasBytePaths x) (room : RoomFor (dones_in c.trace.entries + 1 + 1) b.content)
    (new_id : (n : ℕ) → id_of x ≡ Some n
    → IsNewId (Some (start_of b)) (Some (asked c.turns.job)) c.trace.entries n) where
  abbrev h : HasStory r b d c
  h = k.story b named

  abbrev was : Session
  was = h.story.session

  bounds_by : (o : Option (List ℕ)) → r.scripts ≡ o → (n : ℕ)
      → IsInBounds (Some (start_of b)) (Some (asked c.turns.job)) n
      → IsInBounds (Some (start_in was (first_id b))) (job_named o) n
  bounds_by None is n g = tt
  bounds_by (Some text) is n g =
      subst (λ (j : Option Asked). IsInBounds (Some (start_in was (first_id b))) j n)
      (sym (ap job_read (k.history.job text is))) g

  new_then : (n : ℕ) → id_of x ≡ Some n
      → IsNewId (Some (start_in was (first_id b))) (job_named r.scripts) was.trace n
  new_then n is =
      let f = new_id n is in
      record {
        once = λ lt drawn. f.once lt (subst (λ (l : List Entry). IsDrawn l n) h.means.trace drawn);
        free = subst (λ (y : Content). IsUnused y (record { 0 = n })) (sym h.means.session.start) f.free;
        bounds = bounds_by r.scripts refl n f.bounds;
      }

  pub run_done : IsLawfulRun greatest_size (start_in (session_done was u s index x p) (first_id b))
      (job_named r.scripts) (session_done was u s index x p).trace
  run_done =
      let run = h.means.session.run in
      record {
        lawful = run.lawful;
        room = subst (λ (l : List Entry). RoomFor (dones_in l + 1 + 1) was.start) (sym h.means.trace)
            (subst (RoomFor (dones_in c.trace.entries + 1 + 1)) (sym h.means.session.start) room);
        paths = (paths, run.paths);
        ids = (new_then, run.ids);
      }

-- ---- blocks of the atom

module _ (was : Session) (sets : Sets (commands greatest_size) was) (owns : OwnsBlocks was) (old new : List CellSeen)
    (root : Option RootPair) (is : IsChange old new root)
    (has_old : (i : ℕ) (n : Node Value) → by_name old i ≡ Some n → was.memory i ≡ Some n) (numbers : Numbers)
    (least : 2 ^ 63 ≤ numbers.fresh.next) (numbered : AreNumbered old new numbers) where
  -- an old cell that is a block's stands under the open atoms
  pub old_under : (i : ℕ) → i < 2 ^ 63 → (y : CellSeen) → Contains old y → y.id ≡ i
      → (n : Node Value) × (was.under.cells i ≡ Some n)
  old_under i low y has named = by (was.owner i) refl
    where
      here : was.memory i ≡ Some (node_of y)
      here =
          has_old i (node_of y)
          (subst (λ (j : ℕ). by_name old j ≡ Some (node_of y)) named (there old y (distinct old is.old_names) has))

      by : (o : Option ℕ) → was.owner i ≡ o → (n : Node Value) × (was.under.cells i ≡ Some n)
      by (Some a) at = owns i a at low
      by None at = (
        node_of y,
        sym (ap (λ (o : Option ℕ). cond (picks everything o) (was.memory i) (was.under.cells i)) at)
            ∙ ap (λ (f : Store Value). f i) (memory_cells (commands greatest_size) was sets) ∙ here,
      )

  touched_under : (i : ℕ) → i < 2 ^ 63 → is_touched old new i ≡ true
      → (n : Node Value) × (was.under.cells i ≡ Some n)
  touched_under i low hit =
      ⊎_elim
      (λ one. (let y = one_named old i one in old_under i low y.0 y.1 y.2))
      (λ two.
      (let y = one_named new i two in
      ⊎_elim
      (λ of_old. (let z = one_of_ids old y.0.id of_old in old_under i low z.0 z.1 (z.2 ∙ y.2)))
      (λ fresh.
      (let from = fresh.0 in
      let same = y.2 in
      absurd (omega (arith, from, same, least, low)))) (numbered y.0 y.1)))
      (or_cases (has_name old i) (has_name new i) hit)

  pub owns_done : (u : TxnNo) (s : ScriptNo) (index : ℕ) (x : Command)
      → OwnsBlocks (session_done was u s index x (patch_of old new root))
  owns_done u s index x i a owned low = elim (cases_Bool (is_touched old new i)) [
    | inl hit ↦ touched_under i low hit
    | inr miss ↦
        owns i a
        (sym (ap (λ (t : Bool). cond t (Some (atom_in was.trace u.0)) (was.owner i))
        (touches_is old new root is was.memory i)
        ∙ cond-false (is_touched old new i) (Some (atom_in was.trace u.0)) (was.owner i) miss) ∙ owned) low
  ]
