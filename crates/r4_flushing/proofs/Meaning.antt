-- Group F, what the cells mean, in a run that names its beginning: the session is the one with the atom flushed and
-- sealed, and the story has that flush.
--     session  it is one still: each of its sets means what it should (r4_durable)
--     owner    the atom owns nothing any more, since it is sealed; the others own what they owned
--     root     it has the name that it gets
--     cells    the atom's cells stand in memory under their new names, and all others as they did
--     clean    what is not in memory stands on the device, on a marked block, so no write of the commit falls on it
--     at       the plan is at its beginning, and reading gives the image with which it begins
use Rattle.std.proofs.Common.{◌≡◌, ◌⊎◌, inl, inr, ⊎_elim, ℕ, ◌^◌, ◌<◌, ◌++◌, true, false}
use Rattle.std.proofs.Common.{length, List, [], ◌∷◌, Option, Some, None, refl, sym, ◌∙◌, ap, subst, arith}
use Rattle.std.specs.Prelude.{◌↔◌, Contains, IsSome}
use Rattle.std.proofs.lemmas.Bool.{cases_Bool, cases_eq, cases_lt}
use Rattle.r4_atoms.specs.Atoms.{IsOpenAtom, account_of, owner_of}
use Rattle.r4_atoms.specs.declared.things.Account.{Account}
use Rattle.r4_base.proofs.Choices.{never_both}
use Rattle.r4_base.specs.Bitmap.{is_fixed}
use Rattle.r4_base.specs.Cell.{IsCellOf}
use Rattle.r4_base.specs.Image.{block_at}
use Rattle.r4_base.specs.Tree.{Node, Root}
use Rattle.r4_base.specs.Value.{Content, Value}
use Rattle.r4_base.specs.declared.things.AtomNo.{AtomNo}
use Rattle.r4_renaming.specs.r4_buffer.Changed.{has_name}
use Rattle.r4_renaming.specs.r4_buffer.Seen.{EntrySeen, buffered, is_dirty_by}
use Rattle.r4_accounting.specs.r4_cell.Seen.{CellSeen, node_of}
use Rattle.r4_renaming.specs.r4_commit.Places.{place_of}
use Rattle.r4_renaming.proofs.r4_commit.Safety.{is_safe_alone}
use Rattle.r4_content.specs.Locality.{commands}
use Rattle.r4_content.specs.Meaning.{greatest_size}
use Rattle.r4_accounting.specs.r4_durable.Kept.{IsSession, IsUnderWay, sealing_of}
use Rattle.r4_accounting.specs.r4_durable.Meaning.{Beginning, IsNamed, first_id}
use Rattle.r4_accounting.specs.r4_durable.Sealing.{Sealing as SealingOf, session_after}
use Rattle.r4_accounting.proofs.r4_durable.Flushes.{is_sealing, still_deferred}
use Rattle.r4_accounting.proofs.r4_durable.GoingOn.{session_sealed}
use Rattle.r4_accounting.proofs.r4_durable.SealedContent.{ok}
use Rattle.r4_renaming.specs.r4_flush.Joined.{flushed_cell}
use Rattle.r4_renaming.specs.r4_flush.Prepared.{WasCell, cells_of}
use Rattle.r4_renaming.specs.r4_flush.declared.cells.RenamedCell.{RenamedCell}
use Rattle.r4_renaming.specs.r4_flush.declared.preparing.Prepared.{Prepared}
use Rattle.r4_renaming.proofs.r4_flush.Standing.{stands_off}
use Rattle.r4_renaming.specs.r4_flushed.Deferred.{AreDeferredBut}
use Rattle.r4_renaming.specs.r4_flushed.Flushed.{IsGone}
use Rattle.r4_renaming.proofs.r4_flushed.FlushedCells.{FitsOnDisk}
use Rattle.r4_accounting.specs.r4_history.Held.{IsOut}
use Rattle.r4_outside.specs.Device.{State}
use Rattle.r4_renaming.specs.r4_place.Chosen.{fresh_blocks, placed_all}
use Rattle.r4_renaming.proofs.r4_place.ChosenCells.{rest_stays}
use Rattle.r4_renaming.specs.r4_placed.Flushing.{Flushing, commit_by_block, moves, name_after}
use Rattle.r4_renaming.proofs.r4_placed.Planning.{cell_marked, from_pairs, renamed_cell}
use Rattle.r4_renaming.proofs.r4_placed.Swapped.{goes}
use Rattle.r4_renaming.specs.r4_sealed.Commits.{IsLater, spot, spot_of}
use Rattle.r4_renaming.proofs.r4_sealed.Settled.{freed_alone}
use Rattle.r4_renaming.specs.r4_sets.Session.{Session}
use Rattle.r4_renaming.proofs.r4_sets.Applied.{memory_stands}
use Rattle.r4_space.specs.Space.{Space, claims_of, is_claimed, sealed_in}
use Rattle.r4_space.specs.declared.things.Claim.{Claim}
use Rattle.r4_accounting.proofs.r4_taking.Merged.{lawful_settled}
use Rattle.r4_trace.specs.Job.{Asked}
use Rattle.r4_trace.specs.Order.{IsOrdered}
use Rattle.r4_trace.specs.declared.entry.Entry.{Entry}
use Rattle.r4_trace.specs.declared.entry.Entry.TheVariants.{Sealed}
use Rattle.r4_renaming.specs.r4_turns.Turns.{TurnsSeen}
use Rattle.r4_renaming.specs.r4_turns.declared.out.Out.{Out}
use Rattle.r4_renaming.proofs.r4_wander.Ending.{reads_first}
use Rattle.r4_renaming.proofs.r4_wander.Members.{in_map}
use Rattle.r4_renaming.proofs.r4_wander.Standing.{commits_alone}
use Rattle.r4_renaming.specs.r4_wander.declared.plan.LogPlan.{LogPlan}
use Rattle.r4_accounting.specs.r4_kept.Meaning.{HasMeaning, IsAt, IsFlushing, Spares, if_open}
use Rattle.r4_accounting.specs.r4_kept.Naming.{Naming, job_named, names_in}
use Rattle.r4_accounting.specs.r4_kept.Steps.{with_entry}
use Rattle.r4_accounting.specs.r4_kept.Story.{Story}
use Rattle.r4_accounting.specs.r4_kept.View.{CoreSeen, blocks_of, root_seen}
use Rattle.r4_accounting.specs.r4_kept.declared.parts.Commit.{Commit}
use Rattle.r4_flushing.specs.Sealable.{CountFits}
use Rattle.r4_renaming.specs.Renaming.{name_then, turns_with_pins, was_named}
use Rattle.r4_flushing.specs.Sealing.{root_renamed}
use Rattle.r4_flushing.proofs.Accounts.{lawful_sealed, still}
use Rattle.r4_flushing.proofs.Facts as facts
use Rattle.r4_flushing.proofs.Facts.{Sealing}
use Rattle.r4_flushing.proofs.Flush as flush
use Rattle.r4_flushing.proofs.History.{legal_now}
use Rattle.r4_flushing.proofs.Memory as memory
use Rattle.r4_flushing.proofs.Pins.{out_before}
use Rattle.r4_flushing.proofs.SealedAtoms.{account_then, open_before, owner_before, owner_mine}
use Rattle.r4_flushing.proofs.TasksApart.{not_mine, reach_misses}
use Rattle.r4_flushing.proofs.Under.{marked_taken, way}
use Rattle.r4_flushing.proofs.Writing.{spared}

small : greatest_size < 2 ^ 64
small = omega arith

module _ {D : Type 0} (r : Naming) (d : State) (c new : CoreSeen D) (a : AtomNo) (given : List CellSeen) (p : Prepared)
    (z : Sealing r d c new a given p) (disk : FitsOnDisk) (fits : CountFits r d c a) (b : Beginning)
    (named : IsNamed (names_in r) d.blocks b) where
  abbrev c0 : Session
  c0 = flush.c0 r d c new a given p z b named

  abbrev job : Option Asked
  job = job_named r.scripts

  abbrev m : HasMeaning b job d c (flush.was r d c new a given p z b named).story
  m = flush.m r d c new a given p z b named

  abbrev work : Flushing
  work = flush.work r d c new a given p z b named

  abbrev plan : LogPlan
  plan = flush.plan r d c new a given p z b named

  abbrev content : Content
  content = flush.content r d c new a given p z b named

  abbrev rs : List RenamedCell
  rs = p.renamed.items

  abbrev turns : TurnsSeen
  turns = turns_with_pins (name_then rs) c.turns

  pub under_way : IsUnderWay greatest_size b job c0 work plan
  under_way = way r d c new a given p z b named disk fits

  abbrev sealing : SealingOf
  sealing = sealing_of c0 work plan

  abbrev now : Session
  now = session_after sealing

  abbrev pub story : Story
  story = record { session = now; flush = Some (record { before = c0; work = work; plan = plan }) }

  -- what stands in memory then
  abbrev there : (i : ℕ) → Option (Node Value)
  there = memory.memory r d c new a given p z b named under_way

  session_now : IsSession greatest_size b job now
  session_now = session_sealed disk greatest_size small b job c0 work plan under_way

  -- ---- the root

  root_off : Contains (fresh_blocks work.answers) c0.root.id → ⊥
  root_off has =
      let tree = (memory_stands (commands greatest_size) c0 under_way.kept.session.sets).is.tree in
      stands_off (commands greatest_size) b.blocks work content (flush.rests r d c new a given p z b named) c0
      under_way.kept.session.sets (flush.same_under r d c new a given p z b named) under_way.kept.session.owns
      c0.root.id tree.root_node tree.root_is has

  root_id : c0.root.id ≡ c.tree.id.0
  root_id = ap (λ (s : Root). s.id) m.root

  spot_of_cell : (y : CellSeen) (q : RenamedCell) → WasCell (facts.f r d c new a given p z) y q
      → spot work.answers (flushed_cell q) ≡ facts.f r d c new a given p z y.id
  spot_of_cell y q made =
      ap (λ (i : ℕ). spot_of (place_of work.answers i) i)
      made.was

  -- a name that no cell of the atom had changes places with none
  not_moved : was_named rs c.tree.id.0 ≡ false → (q : ℕ × ℕ) → Contains (moves work.answers work.cells) q
      → (c.tree.id.0 ≡ q.0) ⊎ (c.tree.id.0 ≡ q.1) → ⊥
  not_moved miss q has why =
      let (v, in_cells, pair) = from_pairs work.answers work.cells q has in
      let (y, w, in_given, in_rs, made, is) = flush.flushed_from r d c new a given p z b named v in_cells in
      let id : v.id ≡ y.id = ap (λ (n : CellSeen). n.id) is ∙ made.was in
      let not_old = (λ (same : c.tree.id.0 ≡ y.id). never_both (was_named rs c.tree.id.0)
      (subst (λ (n : ℕ). was_named rs n ≡ true) (sym same) (facts.given_was r d c new a given p z y in_given)) miss) in
      ⊎_elim
      (λ first. not_old (first ∙ ap (λ (n : ℕ × ℕ). n.0) pair ∙ id))
      (λ second.
      let at : c.tree.id.0 ≡ facts.f r d c new a given p z y.id =
      second ∙ ap (λ (n : ℕ × ℕ). n.1) pair ∙ ap (spot work.answers) is ∙ spot_of_cell y w made in
      elim (cases_lt y.id (2 ^ 63)) [
        | inl low ↦ not_old (at ∙ facts.old_stays r d c new a given p z y.id low)
        | inr high ↦
            root_off (subst (Contains (fresh_blocks work.answers)) (sym (root_id ∙ at))
            (facts.fresh_there r d c new a given p z y in_given high))
      ])
      why

  same_root : name_after work c.tree.id.0 ≡ name_then rs c.tree.id.0
  same_root = elim (cases_Bool (was_named rs c.tree.id.0)) [
    | inl hit ↦
        (let (y, has, at) = facts.was_given r d c new a given p z c.tree.id.0 hit in
        let (q, in_rs, made) = facts.comes_to r d c new a given p z y has in
        ap (name_after work) (sym at ∙ sym made.was)
        ∙ renamed_cell b.blocks work content (flush.rests r d c new a given p z b named) (flushed_cell q)
        (in_map flushed_cell rs q in_rs)
        ∙ spot_of_cell y q made ∙ sym (facts.name_given r d c new a given p z y has) ∙ ap (name_then rs) at)
    | inr miss ↦
        ⊎_elim (λ stays. stays)
        (λ pair. absurd (not_moved miss pair.0 pair.1 (⊎_elim (λ h. inl h.0) (λ h. inr h.0) pair.2)))
        (goes (moves work.answers work.cells) c.tree.id.0)
        ∙ sym (facts.name_other r d c new a given p z c.tree.id.0 miss)
  ]

  root_now : now.root ≡ root_seen (root_renamed (name_then rs) c.tree)
  root_now =
      ap (λ (s : Root). record { id = name_after work s.id; height = s.height }) m.root
      ∙ ap (λ (i : ℕ). record { id = i; height = c.tree.height }) same_root

  -- ---- cells in memory

  cells_now : (i : ℕ) (e : EntrySeen) → buffered new.buffer i ≡ Some e → there i ≡ Some (node_of e.cell)
  cells_now i e at = ⊎_elim
      (λ g.
      ap there (sym g.named)
      ∙ memory.memory_new r d c new a given p z b named under_way g.cell g.renamed g.among g.in_rs g.made
      ∙ ap (λ (w : EntrySeen). Some (node_of w.cell)) (sym g.is))
      (λ same.
      memory.memory_same r d c new a given p z b named under_way i same.not_new (λ own.
      (let (in_given, at_i) =
      facts.is_given r d c new a given p z i e same.was (flush.owner_before r d c new a given p z b named i a.0 own) in
      never_both (was_named rs i)
      (subst (λ (n : ℕ). was_named rs n ≡ true) at_i (facts.given_was r d c new a given p z e.cell in_given))
      same.not_old))
      ∙ m.cells i e same.was)
      (facts.entry_cases r d c new a given p z i e at)

  -- a name of the session that is not the atom's then stood so before
  stood : (i : ℕ) (n : Node Value) → there i ≡ Some n → has_name (cells_of rs) i ≡ false
      → (c0.memory i ≡ Some n) × (c0.owner i ≡ Some a.0 → ⊥)
  stood i n is miss =
      let not : c0.owner i ≡ Some a.0 → ⊥ =
      λ own. cc (sym (memory.memory_gone r d c new a given p z b named under_way i miss own) ∙ is) in
      (sym (memory.memory_same r d c new a given p z b named under_way i miss not) ∙ is, not)

  not_was : (i : ℕ) → (c0.owner i ≡ Some a.0 → ⊥) → was_named rs i ≡ false
  not_was i not = elim (cases_Bool (was_named rs i)) [
    | inl hit ↦
        (let (y, has, at) = facts.was_given r d c new a given p z i hit in
        absurd (not (ap c0.owner (sym at) ∙ flush.owner_is r d c new a given p z b named y has)))
    | inr miss ↦ miss
  ]

  abbrev commit : Commit
  commit = record { atom = a; nodes = z.has.nodes; work = Some p.plan }

  clean_now : c.broken ≡ None → (i : ℕ) (n : Node Value) → there i ≡ Some n → buffered new.buffer i ≡ None
      → IsCellOf (blocks_of c) (block_at d.seen i) n × Spares i (Some commit)
  clean_now sound i n is none = elim (cases_Bool (has_name (cells_of rs) i)) [
    | inl hit ↦
        (let (y, has, at) = facts.named_given r d c new a given p z i hit in
        let (e, there_e, same) = facts.entry_of r d c new a given p z y has in
        let (q, in_rs, made, at_new) = facts.renamed_there r d c new a given p z y e has there_e in
        absurd (cc (sym none ∙ ap (buffered new.buffer) (sym at) ∙ at_new)))
    | inr miss ↦
        (let (stood_so, not) = stood i n is miss in
        let none_before =
        sym (facts.same_there r d c new a given p z i miss (not_was i not)) ∙ none in
        let cell = (m.clean sound i n stood_so none_before).0 in
        let unowned = no_owner (owner_of c.atoms i) refl stood_so none_before in
        let store =
        sym (under_way.kept.session.sets.clean i (m.owner i ∙ ap (if_open c.atoms) unowned)
        ∙ flush.same_under r d c new a given p z b named i) ∙ stood_so in
        let (marked, free) =
        cell_marked b.blocks work content (flush.rests r d c new a given p z b named) i n store in
        let taken = marked_taken r d c new a given p z b named disk i marked in (
          cell,
          λ part has. spared r d c new a given p z disk i part (inr taken)
              (subst (λ (k : ℕ). is_fixed k i ≡ false) (facts.count r d c new a given p z) free) miss has,
        ))
  ]
    where
      no_owner : (o : Option ℕ) → owner_of c.atoms i ≡ o → c0.memory i ≡ Some n → buffered c.buffer i ≡ None
          → owner_of c.atoms i ≡ None
      no_owner None at stood_so none_before = at
      no_owner (Some k) at stood_so none_before =
          absurd (cc (sym (ap is_dirty_by none_before) ∙ m.owned i n (subst IsSome (sym at) refl) stood_so))

  reach_now : (s : ℕ) (out : Out) (y : CellSeen) → IsOut turns s out → Contains (out.reads ++ out.writes) y
      → there y.id ≡ Some (node_of y)
  reach_now s out y is has =
      let (before, at, same) = out_before (name_then rs) c.turns s out is in
      let has_before = subst (λ (o : Out). Contains (o.reads ++ o.writes) y) same has in
      let (miss, old) = reach_misses r d c new a given p z s before at y has_before in
      memory.memory_same r d c new a given p z b named under_way y.id miss
      (λ own. not_mine r d c new a given p z s before at y has_before
      (flush.owner_before r d c new a given p z b named y.id a.0 own))
      ∙ m.reach s before y at has_before

  owned_now : (i : ℕ) (n : Node Value) → IsSome (owner_of new.atoms i) → there i ≡ Some n
      → is_dirty_by (buffered new.buffer i) ≡ true
  owned_now i n some is = elim (cases_Bool (has_name (cells_of rs) i)) [
    | inl hit ↦
        (let (y, has, at) = facts.named_given r d c new a given p z i hit in
        let (e, there_e, same) = facts.entry_of r d c new a given p z y has in
        let (q, in_rs, made, at_new) = facts.renamed_there r d c new a given p z y e has there_e in
        ap is_dirty_by (ap (buffered new.buffer) (sym at) ∙ at_new)
        ∙ facts.dirty_of r d c new a given p z y e has there_e)
    | inr miss ↦
        (let (stood_so, not) = stood i n is miss in
        ap is_dirty_by (facts.same_there r d c new a given p z i miss (not_was i not))
        ∙ m.owned i n (by miss not (owner_of new.atoms i) refl some) stood_so)
  ]
    where
      by : has_name (cells_of rs) i ≡ false → (c0.owner i ≡ Some a.0 → ⊥) → (o : Option ℕ)
          → owner_of new.atoms i ≡ o → IsSome o → IsSome (owner_of c.atoms i)
      by miss not None at e = absurd (cc e)
      by miss not (Some k) at e = elim (cases_eq k a.0) [
        | inl same ↦
            ⊎_elim (λ hit. absurd (never_both (has_name (cells_of rs) i) hit miss))
            (λ old.
            absurd (not (memory.owner_open r d c new a given p z b named under_way i a.0 old.1 z.can.opened.unsealed)))
            (owner_mine a.0 rs i (owner_of c.atoms i)
            (sym (z.has.owners i) ∙ at ∙ ap (λ (j : ℕ). Some j) same))
        | inr other ↦
            subst IsSome (sym (owner_before a.0 rs i (owner_of c.atoms i) k other (sym (z.has.owners i) ∙ at)).0) refl
      ]

  -- ---- accounts

  abbrev states_count : length c.atoms.atoms ≡ length c.atoms.txns
  states_count = (z.kept.history.told None tt).atoms.states

  accounts_same : (n : ℕ) → account_of new.atoms n ≡ account_of c.atoms n
  accounts_same = account_then c.atoms new.atoms a.0 z.has.txns z.has.states states_count z.can.opened.atom.begun

  was_open : (n : ℕ) → IsOpenAtom new.atoms n → IsOpenAtom c.atoms n
  was_open = open_before c.atoms new.atoms a.0 z.has.txns z.has.states states_count z.can.opened.atom.begun

  -- ---- the commit

  abbrev placed : Space
  placed = placed_all c.space z.has.prepared.answers

  abbrev then : Space
  then = sealed_in p.space a

  same_deferred : then.deferred ≡ placed.deferred
  same_deferred = ap (λ (s : Space). s.deferred) z.has.prepared.planned.held

  deferred_now : AreDeferredBut a now then
  deferred_now =
      let h = still_deferred greatest_size b job c0 work plan under_way.kept under_way.can in
      record {
        others = λ n k other.
            subst (λ (l : List Claim). (is_claimed (claims_of n l) k ≡ true) ↔ IsGone now n now.under.cells k)
            (sym same_deferred) (h.others n k other);
        none = h.none;
      }

  later_now : IsLater (commit_by_block work plan).space then a
  later_now = record {
    count = ap (λ (s : Space). s.block_count) z.has.prepared.planned.held;
    marked = ap (λ (s : Space). s.marked) z.has.prepared.planned.held;
    placed = ap (λ (s : Space). s.placed) z.has.prepared.planned.held;
    freed = λ k.
        ap (λ (l : List Claim). is_claimed (claims_of a l) k) same_deferred
        ∙ sym (freed_alone placed a
        (inl (ap (λ (s : Space). s.sealed) (rest_stays c.space z.has.prepared.answers)
        ∙ (still r d c new a given p z).none_sealed)) k);
  }

  legal : IsOrdered (Sealed a ∷ c0.trace)
  legal = subst (λ (l : List Entry). IsOrdered (Sealed a ∷ l)) (sym m.trace) (legal_now r d c new a given p z)

  flushing_now : IsFlushing b job now then d (record { before = c0; work = work; plan = plan }) a p.plan
  flushing_now =
      let on =
      ok disk greatest_size small (first_id b) job b.blocks sealing
      (is_sealing greatest_size b job c0 work plan under_way.kept under_way.can) in
      let x = z.has.prepared.planned in
      record {
        way = under_way;
        comes = record {
          more = [];
          headed = None;
          from = record { start = refl; trace = refl; base = refl; under = refl; legal = legal; none = tt };
          in_part = let first = x.part in omega (arith, first);
        };
        atom = refl;
        super40 = x.super40;
        head = x.head;
        commits =
            commits_alone p.plan.work b.blocks d.seen plan
            (is_safe_alone b.blocks d.seen _ a _ _ _ c.volume.prev plan on.is_for on.plannable) x.encoded x.order;
        reads = reads_first p.plan.work d m.reads x.part x.done;
        deferred = deferred_now;
        later = later_now;
        lawful = lawful_settled then a (lawful_sealed r d c new a given p z);
      }

  pub meaning_sealed : (after : CoreSeen D) → after ≡ record after {
    turns = turns;
    atoms = new.atoms;
    buffer = new.buffer;
    space = then;
    tree = root_renamed (name_then rs) c.tree;
    volume = c.volume;
    broken = c.broken;
    commit = Some commit;
    trace = with_entry c.trace (Sealed a);
  } → HasMeaning b job d after story
  meaning_sealed after same = subst (λ (w : CoreSeen D). HasMeaning b job d w story) (sym same) (record {
    reads = m.reads;
    session = session_now;
    trace = ap (λ (l : List Entry). Sealed a ∷ l) m.trace;
    owner = memory.owner_now r d c new a given p z b named under_way;
    root = root_now;
    cells = cells_now;
    clean = clean_now;
    reach = reach_now;
    owned = owned_now;
    born = λ n opened. ap (λ (y : Account). y.born) (accounts_same n) ∙ m.born n (was_open n opened);
    gone = λ n opened. ap (λ (y : Account). y.gone) (accounts_same n) ∙ m.gone n (was_open n opened);
    at =
        subst (λ (q : Option ℕ). IsAt b job now then c.volume d story.flush q (Some commit)) (sym z.can.sound)
        flushing_now;
  })
