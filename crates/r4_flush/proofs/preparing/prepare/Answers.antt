use Rattle.std.proofs.Common.{◌≡◌, ◌≢◌, ◌<◌, ◌≤◌, ℕ, List, Option, length, map, sym, ap, ◌∙◌, subst}
use Rattle.std.specs.Prelude.{All}
use Rattle.std.specs.Arc.{arc_value}
use Rattle.std.specs.Ordering.{nat_cmp}
use Rattle.std.specs.BTreeMap.{get}
use Rattle.std.proofs.Common.{rules}
use Rattle.std.proofs.lemmas.List.Sorted.{IsNonDecreasingBy-from_sort_by, IsPermutation-map}
use Rattle.r4_space.specs.Space.{Space, unused_count}
use Rattle.r4_place.specs.Chosen.{AreChosen, placed_all}
use Rattle.r4_place.specs.declared.placed.Placed.{Placed}
use Rattle.r4_flushed.specs.r4_commit.Places.{place_of}
use Rattle.r4_work.specs.Order.{place}
use Rattle.r4_work.proofs.Halving.{order_shown}
use Rattle.r4_flush.specs.Anew.{AreMade, new_name}
use Rattle.r4_flush.specs.Prepared.{IsPlannedByBlock, WasCell, cells_of}
use Rattle.r4_flush.specs.declared.cells.RenamedCell.{RenamedCell}
use Rattle.r4_flushed.specs.r4_sealed.Commits.{spot_of}
use Rattle.r4_base.specs.Bitmap.{bitmap_count}
use Rattle.r4_base.specs.declared.superblock.Super40.{Super40}
use Rattle.r4_base.specs.declared.things.BlockNo.{BlockNo}
use Rattle.r4_space.specs.Accounts.{price_formula}
use Rattle.r4_flush.proofs.Preparation.{asked_in_order, by_answers, in_room, in_volume, renames}
use Rattle.r4_flush.proofs.preparing.prepare.Goals as goal

pub choose-requires-clause-within : goal.choose-requires-clause-within
choose-requires-clause-within c = asked_in_order (λ x. arc_value x) c.args.cells.items c.sort_unstable_by.new.self.items
    c.as_slice.result.now c.args.space.now c.in_ok-space.space c.sort_unstable_by.ensures.permutation
    c.as_slice.ensures.value c.in_ok-space.ensures c.requires.stand

pub rename_cells-requires : goal.rename_cells-requires
rename_cells-requires c =
    let space = c.in_ok-space.ensures in
    let chosen = subst (λ (u : Space). AreChosen 22 u (map (λ x. arc_value x) c.sort_unstable_by.new.self.items)
    c.in_ok-answers.answers.items) space
    (subst (λ l. AreChosen 22 c.in_ok-space.space (map (λ x. arc_value x) l) c.in_ok-answers.answers.items)
    c.as_slice.ensures.value c.in_ok-answers.ensures.chosen) in
    let same : (i : ℕ) → get nat_cmp c.in_ok-names.names i ≡ place_of c.in_ok-answers.answers.items i =
    λ i. c.in_ok-names.ensures i ∙ ap (λ (l : List Placed). place_of l i) c.as_slice-2.ensures.value in
    renames (λ x. arc_value x) c.args.cells.items c.sort_unstable_by.new.self.items
    c.sort_unstable_by.ensures.permutation c.args.space.now c.lawful.ensures c.in_ok-answers.answers.items chosen
    (get nat_cmp c.in_ok-names.names) same

pub plan_renamed-requires-clause-room : goal.plan_renamed-requires-clause-room
plan_renamed-requires-clause-room c =
    let space = c.in_ok-space.ensures in
    let chosen = subst (λ (u : Space). AreChosen 22 u (map (λ x. arc_value x) c.sort_unstable_by.new.self.items)
    c.in_ok-answers.answers.items) space
    (subst (λ l. AreChosen 22 c.in_ok-space.space (map (λ x. arc_value x) l) c.in_ok-answers.answers.items)
    c.as_slice.ensures.value c.in_ok-answers.ensures.chosen) in
    let same : (i : ℕ) → get nat_cmp c.in_ok-names.names i ≡ place_of c.in_ok-answers.answers.items i =
    λ i. c.in_ok-names.ensures i ∙ ap (λ (l : List Placed). place_of l i) c.as_slice-2.ensures.value in
    let placed = c.in_ok-answers.ensures.space
    ∙ ap (λ (u : Space). placed_all u c.in_ok-answers.answers.items) space in
    let renamed = by_answers (λ x. arc_value x) c.args.cells.items c.sort_unstable_by.new.self.items
    c.sort_unstable_by.ensures.permutation c.args.space.now c.lawful.ensures c.in_ok-answers.answers.items chosen
    (get nat_cmp c.in_ok-names.names) same c.in_ok-renamed.renamed.items
    (subst (λ l. AreMade (WasCell (new_name (get nat_cmp c.in_ok-names.names))) (map (λ x. arc_value x) l)
    c.in_ok-renamed.renamed.items) c.as_slice-3.ensures.value c.in_ok-renamed.ensures) in
    subst (λ (l : List RenamedCell). price_formula (length l) (bitmap_count c.choose.new.space.block_count)
    ≤ unused_count c.choose.new.space) (sym c.as_slice-4.ensures.value)
    (in_room (λ x. arc_value x) c.args.cells.items c.sort_unstable_by.new.self.items
    c.sort_unstable_by.ensures.permutation c.args.space.now c.lawful.ensures c.in_ok-answers.answers.items chosen
    c.in_ok-renamed.renamed.items c.choose.new.space renamed placed c.requires.room)

pub plan_renamed-requires-clause-within : goal.plan_renamed-requires-clause-within
plan_renamed-requires-clause-within c =
    let space = c.in_ok-space.ensures in
    let chosen = subst (λ (u : Space). AreChosen 22 u (map (λ x. arc_value x) c.sort_unstable_by.new.self.items)
    c.in_ok-answers.answers.items) space
    (subst (λ l. AreChosen 22 c.in_ok-space.space (map (λ x. arc_value x) l) c.in_ok-answers.answers.items)
    c.as_slice.ensures.value c.in_ok-answers.ensures.chosen) in
    let same : (i : ℕ) → get nat_cmp c.in_ok-names.names i ≡ place_of c.in_ok-answers.answers.items i =
    λ i. c.in_ok-names.ensures i ∙ ap (λ (l : List Placed). place_of l i) c.as_slice-2.ensures.value in
    let placed = c.in_ok-answers.ensures.space
    ∙ ap (λ (u : Space). placed_all u c.in_ok-answers.answers.items) space in
    let renamed = by_answers (λ x. arc_value x) c.args.cells.items c.sort_unstable_by.new.self.items
    c.sort_unstable_by.ensures.permutation c.args.space.now c.lawful.ensures c.in_ok-answers.answers.items chosen
    (get nat_cmp c.in_ok-names.names) same c.in_ok-renamed.renamed.items
    (subst (λ l. AreMade (WasCell (new_name (get nat_cmp c.in_ok-names.names))) (map (λ x. arc_value x) l)
    c.in_ok-renamed.renamed.items) c.as_slice-3.ensures.value c.in_ok-renamed.ensures) in
    subst (λ (l : List RenamedCell). All (λ x. (x.id ≢ 0) × (x.id < c.choose.new.space.block_count)) (cells_of l))
    (sym c.as_slice-4.ensures.value)
    (in_volume (λ x. arc_value x) c.args.cells.items c.sort_unstable_by.new.self.items
    c.sort_unstable_by.ensures.permutation c.args.space.now c.lawful.ensures c.in_ok-answers.answers.items chosen
    c.in_ok-renamed.renamed.items c.choose.new.space renamed placed c.requires.stand)

pub returns : goal.returns
returns c =
    let space = c.in_ok-space.ensures in
    let chosen = subst (λ (u : Space). AreChosen 22 u (map (λ x. arc_value x) c.sort_unstable_by.new.self.items)
    c.in_ok-answers.answers.items) space
    (subst (λ l. AreChosen 22 c.in_ok-space.space (map (λ x. arc_value x) l) c.in_ok-answers.answers.items)
    c.as_slice.ensures.value c.in_ok-answers.ensures.chosen) in
    let same : (i : ℕ) → get nat_cmp c.in_ok-names.names i ≡ place_of c.in_ok-answers.answers.items i =
    λ i. c.in_ok-names.ensures i ∙ ap (λ (l : List Placed). place_of l i) c.as_slice-2.ensures.value in
    let placed = c.in_ok-answers.ensures.space
    ∙ ap (λ (u : Space). placed_all u c.in_ok-answers.answers.items) space in
    let renamed = by_answers (λ x. arc_value x) c.args.cells.items c.sort_unstable_by.new.self.items
    c.sort_unstable_by.ensures.permutation c.args.space.now c.lawful.ensures c.in_ok-answers.answers.items chosen
    (get nat_cmp c.in_ok-names.names) same c.in_ok-renamed.renamed.items
    (subst (λ l. AreMade (WasCell (new_name (get nat_cmp c.in_ok-names.names))) (map (λ x. arc_value x) l)
    c.in_ok-renamed.renamed.items) c.as_slice-3.ensures.value c.in_ok-renamed.ensures) in
    let next : Super40 = c.with_root-next.result in
    record {
      cells = map (λ x. arc_value x) c.sort_unstable_by.new.self.items;
      same = IsPermutation-map (λ x. arc_value x) c.args.cells.items c.sort_unstable_by.new.self.items
          c.sort_unstable_by.ensures.permutation;
      order = order_shown (λ x. arc_value x) c.sort_unstable_by.new.self.items
          (IsNonDecreasingBy-from_sort_by (λ x. place (arc_value x)) c.sort_unstable_by.new.self.items
          c.sort_unstable_by.ensures.sorted (λ a r f' k. search rules));
      answers = c.in_ok-answers.answers.items;
      chosen = chosen;
      renamed = renamed;
      root = c.new_name.ensures
          ∙ ap (λ (o : Option BlockNo). spot_of o c.args.next.now.root_block) (same c.args.next.now.root_block);
      planned = subst (λ (s : Super40). IsPlannedByBlock
          (placed_all c.args.space.now c.in_ok-answers.answers.items) c.plan_renamed.new.space c.args.atom
          c.in_ok-renamed.renamed.items c.in_ok-answers.answers.items s c.args.prev c.in_ok-plan.plan)
          c.with_root-next.ensures
          (subst (λ (u : Space). IsPlannedByBlock u c.plan_renamed.new.space c.args.atom
          c.in_ok-renamed.renamed.items c.in_ok-answers.answers.items next c.args.prev c.in_ok-plan.plan) placed
          (subst (λ (l : List Placed). IsPlannedByBlock c.choose.new.space c.plan_renamed.new.space c.args.atom
          c.in_ok-renamed.renamed.items l next c.args.prev c.in_ok-plan.plan) c.as_slice-5.ensures.value
          (subst (λ (l : List RenamedCell). IsPlannedByBlock c.choose.new.space c.plan_renamed.new.space c.args.atom
          l c.as_slice-5.result.now next c.args.prev c.in_ok-plan.plan) c.as_slice-4.ensures.value
          c.in_ok-plan.ensures)));
    }
