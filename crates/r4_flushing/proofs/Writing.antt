-- The plan of an atom that is sealed may be written: group D, the commit.
use Rattle.std.proofs.Common.{◌≡◌, ◌⊎◌, inl, inr, ⊎_elim, ℕ, zero, suc, ◌^◌, ◌<◌, ◌≤◌, Bool, true, false, cond, List}
use Rattle.std.proofs.Common.{map}
use Rattle.std.proofs.Common.{Option, Some, None, refl, sym, ◌∙◌, ap, subst, arith}
use Rattle.std.specs.Prelude.{Contains, IsSome}
use Rattle.std.specs.Arc.{arc_value}
use Rattle.std.proofs.lemmas.Bool.{cases_Bool, eqb-true}
use Rattle.std.proofs.lemmas.List.Elements.{All-contains, Contains-append_cases}
use Rattle.r4_atoms.specs.Atoms.{is_atom, numbers, owner_of, owns}
use Rattle.r4_base.proofs.Choices.{never_both, nothing_in}
use Rattle.r4_base.specs.Bitmap.{is_fixed}
use Rattle.r4_base.specs.Image.{AreDifferent, block_at}
use Rattle.r4_base.specs.Layout.{IsLawfulSuper}
use Rattle.r4_base.specs.declared.superblock.Super40.{Super40}
use Rattle.r4_base.specs.declared.things.AtomNo.{AtomNo}
use Rattle.r4_base.specs.declared.things.BlockNo.{BlockNo}
use Rattle.r4_renaming.specs.r4_buffer.Changed.{has_name}
use Rattle.r4_renaming.specs.r4_buffer.Seen.{EntrySeen, buffered, is_dirty_by}
use Rattle.r4_accounting.specs.r4_cell.Seen.{CellSeen}
use Rattle.r4_accounting.specs.r4_cell.declared.change.Root.{Root}
use Rattle.r4_renaming.specs.r4_commit.Planned.{CommitSeen, IsUnused, blocks_of as log_of}
use Rattle.r4_renaming.proofs.r4_commit.PlanFacts.{given_fresh, in_fresh, placed_fresh}
use Rattle.r4_renaming.proofs.r4_commit.Safety.{first_are, fixed_low, not_fixed_range}
use Rattle.r4_renaming.specs.r4_flush.Prepared.{IsPrepared, cells_of}
use Rattle.r4_renaming.specs.r4_flush.declared.preparing.Prepared.{Prepared}
use Rattle.r4_renaming.proofs.r4_flush.Choosing.{same_count}
use Rattle.r4_renaming.proofs.r4_flush.Overwriting.{placed_by_block}
use Rattle.r4_renaming.proofs.r4_flushed.FlushedCells.{FitsOnDisk}
use Rattle.r4_outside.specs.Device.{State, TellsReads}
use Rattle.r4_renaming.specs.r4_place.Chosen.{fresh_blocks, placed_all}
use Rattle.r4_renaming.specs.r4_placed.Flushing.{answers_by_block}
use Rattle.r4_space.specs.Space.{Space, is_taken}
use Rattle.r4_renaming.specs.r4_wander.LogPlan.{parts_of}
use Rattle.r4_renaming.specs.r4_wander.Parts.{base_of, part}
use Rattle.r4_renaming.specs.r4_wander.Progress.{FitOn}
use Rattle.r4_renaming.specs.r4_wander.Seen.{Placed as PlacedCell}
use Rattle.r4_renaming.specs.r4_wander.Torn.{IsTarget}
use Rattle.r4_renaming.specs.r4_wander.declared.plan.LogPlan.{LogPlan}
use Rattle.r4_renaming.proofs.r4_wander.Ending.{reads_first}
use Rattle.r4_renaming.proofs.r4_wander.Fitting.{fits}
use Rattle.r4_renaming.proofs.r4_wander.Order.{part_target}
use Rattle.r4_renaming.proofs.r4_wander.Settling.{one_target}
use Rattle.r4_renaming.specs.r4_commit.Places.{place_of}
use Rattle.r4_accounting.specs.r4_kept.Cells.{IsAccepted, IsWriting}
use Rattle.r4_accounting.specs.r4_kept.Naming.{Naming}
use Rattle.r4_accounting.specs.r4_kept.View.{CoreSeen, blocks_of}
use Rattle.r4_renaming.specs.Renaming.{was_named}
use Rattle.r4_flushing.specs.Sealable.{IsClear}
use Rattle.r4_flushing.specs.Sealing.{root_under, super_to_come}
use Rattle.r4_flushing.proofs.Accepted.{accepted}
use Rattle.r4_flushing.proofs.Chosen.{fresh_free, given_itself, unused_before}
use Rattle.r4_flushing.proofs.Facts as facts
use Rattle.r4_flushing.proofs.Facts.{IsRenamed, Sealing}
use Rattle.r4_flushing.proofs.Lands.{home_of, lands}
use Rattle.r4_flushing.proofs.NewNames.{cell_in, once_then}
use Rattle.r4_flushing.proofs.SealedAtoms.{owner_mine}
use Rattle.r4_accounting.proofs.r4_done.Named.{has_one}

module _ {D : Type 0} (r : Naming) (d : State) (c new : CoreSeen D) (a : AtomNo) (given : List CellSeen) (p : Prepared)
    (z : Sealing r d c new a given p) (disk : FitsOnDisk) where
  abbrev f : ℕ → ℕ
  f = facts.f r d c new a given p z

  abbrev x : IsPrepared given a (super_to_come c a.0) c.volume.prev c.space p
  x = facts.x r d c new a given p z

  abbrev plan : LogPlan
  plan = x.planned.plan

  abbrev work : CommitSeen
  work = p.plan

  abbrev blocks : ℕ
  blocks = blocks_of c

  abbrev placed : Space
  placed = placed_all c.space x.answers

  abbrev cells : List CellSeen
  cells = cells_of p.renamed.items

  count : placed.block_count ≡ blocks
  count = same_count c.space x.answers ∙ facts.count r d c new a given p z

  least : 64 ≤ placed.block_count
  least = let le : 64 ≤ blocks = z.kept.cells.super40.blocks.0 in omega (arith, le, count)

  -- ---- the root to come

  abbrev root_by : Bool → Root
  root_by t = cond t c.tree (record {
    id = record { 0 = c.volume.super40.root_block };
    height = c.volume.super40.tree_height;
  })

  abbrev HasBlock : Root → Type 0
  HasBlock root = (f root.id.0 < blocks) × (is_fixed blocks (f root.id.0) ≡ false)

  -- the root of what stands under the atom has a block, or is that of a cell of the atom
  pub root_block : (f (super_to_come c a.0).root_block < blocks)
      × (is_fixed blocks (f (super_to_come c a.0).root_block) ≡ false)
  root_block = by (owner_of c.atoms c.tree.id.0) refl
    where
      mine : owner_of c.atoms c.tree.id.0 ≡ Some a.0
          → (f c.tree.id.0 < blocks) × (is_fixed blocks (f c.tree.id.0) ≡ false)
      mine own = ⊎_elim
          (λ block.
          let within = block.0 in
          let few : blocks ≤ 1048576 = z.kept.cells.super40.blocks.1 in
          subst (λ (i : ℕ). (i < blocks) × (is_fixed blocks i ≡ false))
          (sym (facts.old_stays r d c new a given p z c.tree.id.0 (omega (arith, within, few)))) block)
          (λ fresh.
          there (buffered c.buffer c.tree.id.0) refl (z.kept.cells.root_stands fresh.0))
          z.kept.cells.root
        where
          there : (o : Option EntrySeen) → buffered c.buffer c.tree.id.0 ≡ o → is_dirty_by o ≡ true
              → (f c.tree.id.0 < blocks) × (is_fixed blocks (f c.tree.id.0) ≡ false)
          there None at e = absurd (cc e)
          there (Some e) at dirty =
              let (in_given, named) = facts.is_given r d c new a given p z c.tree.id.0 e at own in
              subst (λ (i : ℕ). (f i < blocks) × (is_fixed blocks (f i) ≡ false)) named
              (facts.new_block r d c new a given p z e.cell in_given)

      committed : (f c.volume.super40.root_block < blocks) × (is_fixed blocks (f c.volume.super40.root_block) ≡ false)
      committed =
          let lawful = z.kept.cells.super40 in
          let within : c.volume.super40.root_block < blocks = lawful.root.1 in
          let few : blocks ≤ 1048576 = lawful.blocks.1 in
          subst (λ (i : ℕ). (i < blocks) × (is_fixed blocks i ≡ false))
          (sym (facts.old_stays r d c new a given p z c.volume.super40.root_block (omega (arith, within, few))))
          (within, lawful.root_not_fixed)

      by : (o : Option ℕ) → owner_of c.atoms c.tree.id.0 ≡ o → HasBlock (root_by (owns c.atoms a.0 c.tree.id.0))
      by None at = subst (λ (q : Option ℕ). HasBlock (root_by (is_atom a.0 q))) (sym at) committed
      by (Some n) at = elim (cases_Bool (is_atom a.0 (Some n))) [
        | inl hit ↦
            subst (λ (q : Option ℕ). HasBlock (root_by (is_atom a.0 q))) (sym at)
            (subst (λ (t : Bool). HasBlock (root_by t)) (sym hit)
            (mine (at ∙ ap (λ (j : ℕ). Some j) (eqb-true n a.0 hit))))
        | inr miss ↦
            subst (λ (q : Option ℕ). HasBlock (root_by (is_atom a.0 q))) (sym at)
            (subst (λ (t : Bool). HasBlock (root_by t)) (sym miss) committed)
      ]

  pub height : (2 ≤ (root_under c a.0).height) × ((root_under c a.0).height ≤ 8)
  height = by (owns c.atoms a.0 c.tree.id.0)
    where
      by : (t : Bool) → (2 ≤ (root_by t).height) × ((root_by t).height ≤ 8)
      by true = z.kept.cells.height
      by false = z.kept.cells.super40.height

  pub lawful : IsLawfulSuper d.blocks work.super40
  lawful =
      let was = z.kept.cells.super40 in
      let small = z.kept.history.drawn.small in
      let ids = z.sealable.ids in
      subst (IsLawfulSuper d.blocks) (sym x.planned.super40)
      (subst
      (λ (i : ℕ). IsLawfulSuper d.blocks (record (super_to_come c a.0) {
        root_block = i;
        free_blocks = plan.free_blocks;
        flushes = plan.id;
      })) (sym x.root) (record {
        large_keys = was.large_keys;
        nodes = was.nodes;
        height = height;
        blocks = was.blocks;
        root = (not_fixed_range blocks (f (super_to_come c a.0).root_block) root_block.1, root_block.0);
        root_not_fixed = root_block.1;
        next_id = (ids, omega (arith, small));
      }))

  -- ---- what is written

  fit : FitOn d.blocks work.work.plan
  fit =
      let here = fits placed.block_count plan x.planned.below work.work.plan least x.planned.order in
      let within : blocks ≤ d.blocks = z.kept.cells.super40.blocks.2 in
      record {
        more = let more = least in omega (arith, more, within, count);
        first = λ i n lt. (let low = here.first i n lt in omega (arith, low, within, count));
        homes = λ i n lt. (let low = here.homes i n lt in omega (arith, low, within, count));
      }

  -- a block of the first part was not used
  first_clear : (i : ℕ) → IsTarget (part work.work.plan 0) i → is_taken c.space i ≡ false
  first_clear i has = ⊎_elim
      (λ at.
      (fresh_free c.space z.sealable.space x.cells x.answers x.chosen i
      (subst (λ (l : List ℕ). Contains l i) (placed_by_block x.answers)
      (placed_fresh (answers_by_block x.answers) cells i
      (subst (λ (l : List PlacedCell). Contains (map (λ (q : PlacedCell). q.at) l) i) x.planned.is_for.placed at)))).1)
      (λ log.
      (unused_before c.space z.sealable.space x.cells x.answers x.chosen i
      (All-contains (IsUnused placed) (log_of plan) i x.planned.is_for.unused log).1).1)
      (Contains-append_cases (map (λ (q : PlacedCell). q.at) plan.placed) (log_of plan) i
      (subst (λ (l : List ℕ). Contains l i) (first_are plan)
      (part_target (parts_of plan) work.work.plan x.planned.order 0 i has)))

  not_fixed : (i : ℕ) (e : EntrySeen) → buffered c.buffer i ≡ Some e → e.dirty ≡ false → is_fixed blocks i ≡ false
  not_fixed i e at clean = ⊎_elim
      (λ block. subst (λ (n : ℕ). is_fixed blocks n ≡ false) (z.sealable.buffer.named i e at) block.1)
      (λ fresh.
      (let high = subst (λ (n : ℕ). 2 ^ 63 ≤ n) (z.sealable.buffer.named i e at) fresh.0 in
      absurd (never_both e.dirty (z.kept.cells.fresh i e at high) clean)))
      (z.kept.cells.buffered_names i e at).own

  -- no write falls on a block that is not clear or was used, and is not fixed, but on those of the
  -- atom's cells
  pub spared : (i n : ℕ) → (IsClear c i → ⊥) ⊎ (is_taken c.space i ≡ true) → is_fixed blocks i ≡ false → has_name cells i ≡ false
      → IsTarget (part work.work.plan n) i → ⊥
  spared i zero stands free miss has = ⊎_elim (λ not. not (z.sealable.clear.written i has))
      (λ taken. never_both (is_taken c.space i) taken (first_clear i has)) stands
  spared i (suc zero) stands free miss has =
      let at = one_target (19, work.work.plan.header) i has in
      never_both (is_fixed blocks i) (fixed_low blocks i (omega (arith, at))) free
  spared i (suc (suc zero)) stands free miss has = ⊎_elim
      (λ fixed. never_both (is_fixed blocks i) (subst (λ (n : ℕ). is_fixed n i ≡ true) count fixed) free)
      (λ kept.
      (let (y, in_cells, none, at) = kept in
      never_both (has_name cells i) (subst (λ (n : ℕ). has_name cells n ≡ true) (sym at) (has_one cells y in_cells))
      miss))
      (home_of placed a cells (answers_by_block x.answers) _ c.volume.prev plan x.planned.is_for work.work.plan
      x.planned.order least (given_itself x.answers) i has)
  spared i (suc (suc (suc zero))) stands free miss has =
      let at = one_target (20, work.work.plan.footer) i has in
      never_both (is_fixed blocks i) (fixed_low blocks i (omega (arith, at))) free
  spared i (suc (suc (suc (suc n)))) stands free miss has = nothing_in i has

  apart : (i n : ℕ) (e : EntrySeen) → IsTarget (part work.work.plan n) i → buffered new.buffer i ≡ Some e
      → e.dirty ≡ true
  apart i n e has at = ⊎_elim
      (λ g.
      ap (λ (h : EntrySeen). h.dirty) g.is ∙ facts.dirty_of r d c new a given p z g.cell g.entry g.among g.was)
      (λ same. elim (cases_Bool e.dirty) [
        | inl dirty ↦ dirty
        | inr clean ↦
            absurd
            (spared i n (inl (λ clear. absurd (cc (sym clear.cell ∙ same.was)))) (not_fixed i e same.was clean)
            same.not_new has)
      ])
      (facts.entry_cases r d c new a given p z i e at)

  -- ---- the nodes of the commit

  own_then : (i : ℕ) → Contains (numbers z.has.nodes) i
      → (has_name cells i ≡ true) ⊎ ((i < 2 ^ 63) × (owner_of c.atoms i ≡ Some a.0))
  own_then i has =
      owner_mine a.0 p.renamed.items i (owner_of c.atoms i) (sym (z.has.owners i) ∙ (z.has.owned i).0 has)

  below : (i : ℕ) → Contains (numbers z.has.nodes) i → i < blocks
  below i has = ⊎_elim
      (λ hit.
      let (y, in_given, named) = facts.named_given r d c new a given p z i hit in
      subst (λ (n : ℕ). n < blocks) named (facts.new_block r d c new a given p z y in_given).0)
      (λ old.
      let low = old.0 in
      ⊎_elim (λ block. block.0) (λ fresh. (let high = fresh.0 in absurd (omega (arith, low, high))))
      (z.kept.cells.owned_names i (subst IsSome (sym old.1) refl)))
      (own_then i has)

  -- what stands in memory under such a node is a renamed cell
  pub node_renamed : (i : ℕ) (e : EntrySeen) → Contains (numbers z.has.nodes) i → buffered new.buffer i ≡ Some e
      → IsRenamed r d c new a given p z i e
  node_renamed i e has at = ⊎_elim (λ g. g)
      (λ same. ⊎_elim
      (λ hit. absurd (never_both (has_name cells i) hit same.not_new))
      (λ old.
      (let (in_given, named) = facts.is_given r d c new a given p z i e same.was old.1 in
      absurd (never_both (was_named p.renamed.items i)
      (subst (λ (n : ℕ). was_named p.renamed.items n ≡ true) named
      (facts.given_was r d c new a given p z e.cell in_given)) same.not_old)))
      (own_then i has))
      (facts.entry_cases r d c new a given p z i e at)

  ends : TellsReads d → (i : ℕ) (e : EntrySeen) → Contains (numbers z.has.nodes) i → buffered new.buffer i ≡ Some e
      → e.cell.block ≡ block_at (base_of work.work.plan d.seen 4) i
  ends tells i e has at =
      let g = node_renamed i e has at in
      let v : CellSeen = arc_value g.renamed.cell in
      let id : v.id ≡ i = g.made.cell.id ∙ g.named in
      let (within, free) = facts.new_block r d c new a given p z g.cell g.among in
      let size : blocks ≤ d.blocks = z.kept.cells.super40.blocks.2 in
      let long = tells.blocks in
      let here =
      lands placed a cells (answers_by_block x.answers) _ c.volume.prev plan x.planned.is_for work.work.plan
      x.planned.order least (given_itself x.answers) d.seen once v (cell_in p.renamed.items g.renamed g.in_rs)
      (let same = g.made.cell.id in omega (arith, within, size, long, same))
      (subst (λ (n : ℕ). is_fixed n v.id ≡ false) (sym count)
      (subst (λ (n : ℕ). is_fixed blocks n ≡ false) (sym g.made.cell.id) free))
      off in
      ap (λ (h : EntrySeen). h.cell.block) g.is ∙ sym here
      ∙ ap (block_at (base_of work.work.plan d.seen 4)) id
    where
      once : AreDifferent (map (λ (y : CellSeen). y.id) cells)
      once =
          once_then given a (super_to_come c a.0) c.volume.prev c.space p x z.sealable.space z.has.cells_are.different
          (facts.stand r d c new a given p z)

      off : {j : ℕ} (b : BlockNo) → place_of (answers_by_block x.answers) j ≡ Some b
          → Contains (log_of plan) j → ⊥
      off {j} b is log =
          let fresh : Contains (fresh_blocks x.answers) j =
          subst (λ (l : List ℕ). Contains l j) (placed_by_block x.answers)
          (let (q, in_answers, named, mine) =
          given_fresh (answers_by_block x.answers) j b is in
          subst (Contains (fresh_blocks (answers_by_block x.answers))) (given_itself x.answers j b is)
          (in_fresh (answers_by_block x.answers) q b.0 in_answers mine)) in
          (unused_before c.space z.sealable.space x.cells x.answers x.chosen j
          (All-contains (IsUnused placed) (log_of plan) j x.planned.is_for.unused log).1).0 fresh

  -- ---- all

  pub writes : IsWriting d new.buffer blocks (numbers z.has.nodes) work
  writes = record {
    fits = fit;
    unfinished = let first = x.planned.part in omega (arith, first);
    within = let none = x.planned.done in omega (arith, none);
    super40 = lawful;
    count = ap (λ (n : Super40). n.block_count) x.planned.super40;
    base = d.seen;
    reads = λ tells. reads_first work.work d tells x.planned.part x.planned.done;
    apart = apart;
    below = below;
    accepted = λ i e has at.
        (let g = node_renamed i e has at in
        subst (λ (h : EntrySeen). IsAccepted blocks h.cell) (sym g.is)
        (accepted r d c new a given p z disk g.cell g.renamed g.among g.made));
    lands = ends;
  }
