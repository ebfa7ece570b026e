-- The cells that were met as a command was asked: those captured in memory, and others that were read.
use Rattle.std.proofs.Common.{◌≡◌, ◌⊎◌, ⊎_elim, inl, inr, ℕ, ◌<◌, true, false, List}
use Rattle.std.proofs.Common.{Option, Some, None, Contains, refl, sym, ◌∙◌, ap, subst, arith}
use Rattle.std.specs.Prelude.{IsSome, nat_lt}
use Rattle.std.specs.Option.{option_map, option_or}
use Rattle.std.proofs.lemmas.Bool.{cases_Bool, cond-false, cond-true, or_cases, ltb-true}
use Rattle.std.proofs.lemmas.Option.{same_Some}
use Rattle.r4_atoms.specs.Atoms.{owner_of, numbers}
use Rattle.r4_base.specs.Cell.{cell_fault}
use Rattle.r4_base.specs.Image.{block_at, Image}
use Rattle.r4_base.specs.Key.{rank}
use Rattle.r4_serve.specs.r4_buffer.Reading.{captured_in}
use Rattle.r4_serve.specs.r4_buffer.Seen.{EntrySeen, buffered, cell_at, is_captured, is_captured_by}
use Rattle.r4_serve.specs.r4_cell.Patch.{by_name}
use Rattle.r4_serve.specs.r4_cell.Seen.{CellSeen, node_of}
use Rattle.r4_serve.specs.r4_commit.Planned.{CommitSeen}
use Rattle.r4_content.specs.declared.command.Command.{Command}
use Rattle.r4_serve.specs.r4_gather.Asking.{StaysOver}
use Rattle.r4_outside.specs.Device.{State, TellsReads}
use Rattle.r4_serve.specs.r4_extent_reaching.Answers.{IsReach}
use Rattle.r4_serve.specs.r4_extent_reaching.declared.reached.Reach.{Reach}
use Rattle.r4_serve.specs.r4_search.Keeping.{keeping_state}
use Rattle.r4_serve.specs.r4_search.OnDevice.{block_there, is_image}
use Rattle.r4_serve.specs.r4_search.Pool.{IsRead, PoolState}
use Rattle.r4_serve.specs.Serving.{IsClear, IsOverwritten, IsTall, NoneStray}
use Rattle.r4_serve.specs.declared.asked.Ready.{Ready}
use Rattle.r4_taking.specs.GoingOut.{IsMet}
use Rattle.r4_serve.specs.r4_wander.Parts.{part}
use Rattle.r4_serve.specs.r4_wander.Torn.{IsTarget}
use Rattle.r4_taking.specs.r4_kept.Cells.{IsWritingOf, FitsCommit, IsWriting, IsName}
use Rattle.r4_taking.specs.r4_kept.Kept.{IsKept}
use Rattle.r4_taking.specs.r4_kept.Meaning.{Spares, SparesIn}
use Rattle.r4_taking.specs.r4_kept.Naming.{Naming}
use Rattle.r4_taking.specs.r4_kept.View.{CoreSeen, blocks_of}
use Rattle.r4_taking.specs.r4_kept.declared.parts.Commit.{Commit}
use Rattle.r4_taking.proofs.r4_kept.Readable.{not_dirty, root_there}
use Rattle.r4_ready.specs.Readiness.{IsReady, parts_of, plan_of}
use Rattle.r4_base.specs.Bitmap.{is_fixed}
use Rattle.r4_base.specs.Tree.{Name, Node}
use Rattle.r4_base.specs.Value.{Value}
use Rattle.r4_serve.proofs.r4_cell.NamesBelow.{names_below}
use Rattle.r4_serve.proofs.r4_patch.Members.{distinct, found, there}
use Rattle.r4_taking.proofs.NamesFree.{names_free}
use Rattle.r4_serve.proofs.r4_search.FromDevice.{tells_image}

module _ {D : Type 0} (r : Naming) (d e : State) (c : CoreSeen D) (k : IsKept r d c) (x : Command) (ready : Ready)
    (is : IsReady d e c x ready) where
  abbrev pool : PoolState
  pool = keeping_state is.asks.after true is.asks.met

  abbrev answer : Reach
  answer = is.asks.is.0

  -- the reach that was found is the answer's
  pub reach_is : ready.reach ≡ answer
  reach_is = is.asks.is.2.1.2

  pub is_reach : IsReach pool c.tree x ready.reach
  is_reach = subst (IsReach pool c.tree x) (sym reach_is) is.asks.is.1

  pub none_stray : NoneStray (parts_of c) ready.reach.met
  none_stray = subst (λ (z : Reach). NoneStray (parts_of c) z.met) (sym reach_is) is.asks.is.2.0

  pub clear : IsClear (parts_of c) ready.reach
  clear = subst (IsClear (parts_of c)) (sym reach_is) is.asks.is.2.1.0

  pub low : IsTall (parts_of c) ready.reach → ⊥
  low = subst (λ (z : Reach). IsTall (parts_of c) z → ⊥) (sym reach_is) is.asks.is.2.1.1

  -- ---- a cell that was met

  accepted_of : (o : Option (List ℕ)) (y : CellSeen) → IsRead (blocks_of c) o y
      → cell_fault false (blocks_of c) y.level (rank y.lo) (rank y.hi) y.block ≡ None
  accepted_of None y h = h
  accepted_of (Some b) y h =
      subst (λ (z : List ℕ). cell_fault false (blocks_of c) y.level (rank y.lo) (rank y.hi) z ≡ None) (sym h.0) h.1

  module _ (y : CellSeen) (has : Contains ready.reach.met y) where
    is_kept : pool.kept y.id ≡ Some y
    is_kept = ap (λ (o : Option CellSeen). option_or o (is.asks.after.kept y.id)) ((is_reach.all.are y).0 has)

    -- one that is captured is that one
    pub is_captured_one : is_captured c.buffer y.id ≡ true → cell_at c.buffer y.id ≡ Some y
    unfolding StaysOver
    is_captured_one held = by (buffered c.buffer y.id) refl
      where
        by : (o : Option EntrySeen) → buffered c.buffer y.id ≡ o → cell_at c.buffer y.id ≡ Some y
        by None at = absurd (cc (sym held ∙ ap (is_captured_by c.buffer) at))
        by (Some f) at =
            let cell : cell_at c.buffer y.id ≡ Some f.cell = ap (option_map (λ (g : EntrySeen). g.cell)) at in
            let kept : captured_in c.buffer y.id ≡ Some f.cell =
            cond-true (is_captured c.buffer y.id) (cell_at c.buffer y.id) None held ∙ cell in
            cell ∙ sym (is.asks.same.stays.kept y.id f.cell kept) ∙ is_kept

    -- each other one was read
    was_read : is_captured c.buffer y.id ≡ false → IsRead (blocks_of c) (block_there d (λ i. i) y.id) y
    unfolding StaysOver
    was_read loose =
        (is.asks.same.stays.added y.id y is_kept
        (cond-false (is_captured c.buffer y.id) (cell_at c.buffer y.id) None loose)).1

    pub accepted : is_captured c.buffer y.id ≡ false
        → cell_fault false (blocks_of c) y.level (rank y.lo) (rank y.hi) y.block ≡ None
    accepted loose = accepted_of (block_there d (λ i. i) y.id) y (was_read loose)

    not_taken : (IsSome (owner_of c.atoms y.id) ⊎ IsOverwritten (plan_of c.commit) y.id)
        → buffered c.buffer y.id ≡ None → ⊥
    not_taken why none = none_stray y has (record { gone = none; taken = why })

    clean : (f : EntrySeen) → is_captured c.buffer y.id ≡ false → buffered c.buffer y.id ≡ Some f → f.dirty ≡ false
    clean f loose at = not_dirty c.buffer y.id f at loose

    unowned : is_captured c.buffer y.id ≡ false → owner_of c.atoms y.id ≡ None
    unowned loose = by (owner_of c.atoms y.id) refl
      where
        by : (o : Option ℕ) → owner_of c.atoms y.id ≡ o → owner_of c.atoms y.id ≡ None
        by None at = at
        by (Some a) at =
            let some : IsSome (owner_of c.atoms y.id) = subst IsSome (sym at) refl in
            by_entry some (buffered c.buffer y.id) refl
          where
            by_entry : IsSome (owner_of c.atoms y.id) → (o : Option EntrySeen) → buffered c.buffer y.id ≡ o
                → owner_of c.atoms y.id ≡ None
            by_entry some None none = absurd (not_taken (inl some) none)
            by_entry some (Some f) there =
                absurd (cc (sym ((k.cells.dirty y.id f there).1 some) ∙ clean f loose there))

    spared : is_captured c.buffer y.id ≡ false → Spares y.id c.commit
    spared loose = by c.commit refl
      where
        by : (o : Option Commit) → c.commit ≡ o → Spares y.id o
        by None at = tt
        by (Some w) at = by_work w.work refl
          where
            by_work : (o : Option CommitSeen) → w.work ≡ o → SparesIn y.id o
            by_work None work = tt
            by_work (Some plan) work = λ p target. by_entry p target (buffered c.buffer y.id) refl
              where
                fits : IsWriting d c.buffer (blocks_of c) (numbers w.nodes) plan
                fits =
                    subst (IsWritingOf d c.buffer (blocks_of c) (numbers w.nodes)) work
                    (subst (FitsCommit d c.buffer (blocks_of c)) at k.cells.commit)

                plan_is : plan_of c.commit ≡ Some plan
                plan_is = ap plan_of at ∙ work

                by_entry : (p : ℕ) → IsTarget (part plan.work.plan p) y.id → (o : Option EntrySeen)
                    → buffered c.buffer y.id ≡ o → ⊥
                by_entry p target None none =
                    not_taken (inr (subst (λ (q : Option CommitSeen). IsOverwritten q y.id) (sym plan_is) (p, target)))
                    none
                by_entry p target (Some f) there =
                    absurd (cc (sym (fits.apart y.id p f target there) ∙ clean f loose there))

    same : is_captured c.buffer y.id ≡ false → TellsReads e → y.block ≡ block_at e.seen y.id
    unfolding StaysOver
    same loose tells =
        let device = is.asks.same.stays.device in
        let told : TellsReads d = device.goes.reads.0 tells in
        let here : block_there d (λ i. i) y.id ≡ Some (block_at d.seen y.id) =
        cond-true (is_image d.blocks d.seen) (Some (block_at d.seen y.id)) None (tells_image d.blocks d.seen told) in
        (subst (λ (o : Option (List ℕ)). IsRead (blocks_of c) o y) here (was_read loose)).0
        ∙ ap (λ (i : Image). block_at i y.id) (sym device.idle.seen)

  -- ---- its block

  low_name : (i : ℕ) → IsName (blocks_of c) c.numbers.next_name i → i < blocks_of c → is_fixed (blocks_of c) i ≡ false
  low_name i (inl h) lt = h.1
  low_name i (inr h) lt =
      let most = k.cells.super40.blocks.1 in
      let from = h.0 in
      absurd (omega (arith, most, from, lt))

  -- what a cell that was met names: a block, or a captured one
  named_low : (y : CellSeen) → Contains ready.reach.met y → (n : Name) → Contains (node_of y).names n
      → is_captured c.buffer n.id ≡ false → (n.id < blocks_of c) × (is_fixed (blocks_of c) n.id ≡ false)
  named_low y has n among free = elim (cases_Bool (is_captured c.buffer y.id)) [
    | inr loose ↦
        let ok = accepted y has loose in (
          names_below (blocks_of c) y.level (rank y.lo) (rank y.hi) y.block n ok among,
          names_free (blocks_of c) y.level (rank y.lo) (rank y.hi) y.block n ok among,
        )
    | inl held ↦ by_entry held (buffered c.buffer y.id) refl
  ]
    where
      by_entry : is_captured c.buffer y.id ≡ true → (o : Option EntrySeen) → buffered c.buffer y.id ≡ o
          → (n.id < blocks_of c) × (is_fixed (blocks_of c) n.id ≡ false)
      by_entry held None at = absurd (cc (sym held ∙ ap (is_captured_by c.buffer) at))
      by_entry held (Some f) at =
          let cell : f.cell ≡ y =
          same_Some f.cell y (sym (ap (option_map (λ (g : EntrySeen). g.cell)) at) ∙ is_captured_one y has held) in
          let names : Contains (node_of f.cell).names n =
          subst (λ (z : CellSeen). Contains (node_of z).names n) (sym cell) among in
          let stands = (k.cells.clean is.sound).names y.id f at held n names in
          let lt : n.id < blocks_of c =
          ⊎_elim (λ one. ltb-true n.id (blocks_of c) one) (λ two. absurd (cc (sym two ∙ free)))
          (or_cases (nat_lt n.id (blocks_of c)) (is_captured c.buffer n.id) stands) in
          (lt, low_name n.id ((k.cells.buffered_names y.id f at).named n names) lt)

  root_low : is_captured c.buffer c.tree.id.0 ≡ false
      → (c.tree.id.0 < blocks_of c) × (is_fixed (blocks_of c) c.tree.id.0 ≡ false)
  root_low free =
      let none = cond-false (is_captured c.buffer c.tree.id.0) (cell_at c.buffer c.tree.id.0) None free in
      let lt : c.tree.id.0 < blocks_of c =
      ⊎_elim (λ some. absurd (cc (subst IsSome none some))) (λ low. low) (root_there d c k.cells) in
      (lt, low_name c.tree.id.0 k.cells.root lt)

  pub on_disk_low : (y : CellSeen) → Contains ready.reach.met y → is_captured c.buffer y.id ≡ false
      → (y.id < blocks_of c) × (is_fixed (blocks_of c) y.id ≡ false)
  on_disk_low y has free =
      let met = ready.reach.met in
      let at : by_name met y.id ≡ Some (node_of y) = there met y (distinct met is_reach.all.names) has in
      ⊎_elim
      (λ root. subst (λ (i : ℕ). (i < blocks_of c) × (is_fixed (blocks_of c) i ≡ false)) (sym root)
      (root_low (subst (λ (i : ℕ). is_captured c.buffer i ≡ false) root free)))
      (λ (n, (j, z, stands, among), id).
      (let (w, in_met, _, says) = found met j z stands in
      subst (λ (i : ℕ). (i < blocks_of c) × (is_fixed (blocks_of c) i ≡ false)) id
      (named_low w in_met n (subst (λ (m : Node Value). Contains m.names n) says among)
      (subst (λ (i : ℕ). is_captured c.buffer i ≡ false) (sym id) free))))
      (is_reach.answer.part.reached y.id (node_of y) at)

  -- ---- all of it

  pub is_met : (y : CellSeen) → Contains ready.reach.met y → IsMet e c y
  is_met y has = record {
    captured = is_captured_one y has;
    on_disk = λ loose. record {
      block = (on_disk_low y has loose).0;
      free = (on_disk_low y has loose).1;
      accepted = accepted y has loose;
      same = same y has loose;
      unowned = unowned y has loose;
      spared = spared y has loose;
    };
  }
