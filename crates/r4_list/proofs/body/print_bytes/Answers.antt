use Rattle.std.proofs.Common.{ℕ, List, length, refl, sym, ap, subst, ◌∙◌}
use Rattle.std.specs.Prelude.{Contains, slice_range}
use Rattle.r4_base.specs.Key.{rank}
use Rattle.r4_search.specs.Pool.{called}
use Rattle.r4_units.specs.Extent.{block_name, unit_names}
use Rattle.r4_list.proofs.Stages.{prints_same, went_both, went_same, went_written}
use Rattle.r4_cell.specs.Seen.{CellSeen}
use Rattle.r4_list.proofs.BodyOver.{fetched_block, fetched_over, over_fetching, over_writing, over_written, unfetched_over, unfetched_undamaged}
use Rattle.r4_list.proofs.OverPaths.{Stored}
use Rattle.r4_list.proofs.BodyStages.{named_fetching, named_well, named_writing}
use Rattle.r4_units.proofs.ExtentUnits.{rank_behind, run_block, unit_in}
use Rattle.r4_list.proofs.body.print_bytes.Goals as goal

pub returns-in_err-write-clause-printed : goal.returns-in_err-write-clause-printed
returns-in_err-write-clause-printed g c = named_writing c.args.root.now (unit_names c.args.unit (rank c.args.lo)) _ _ _ _ _ _ (went_same _ _ _) _ _ c.from_residual-in_err-write.result c.in_err-write.field-0.0 c.in_err-write.ensures c.from_residual-in_err-write.ensures.1

pub returns-then-unit-eq0-clause-printed : goal.returns-then-unit-eq0-clause-printed
returns-then-unit-eq0-clause-printed g c = named_well c.args.root.now (unit_names c.args.unit (rank c.args.lo)) _ _ _ _ _ _ (went_written _ _ _ _ _ _ c.in_ok-write.ensures) tt

pub fetch-requires : goal.fetch-requires
fetch-requires g c =
    let high = rank_behind c.args.lo c.behind-hi.result c.behind-hi.ensures in
    let here = unit_in c.args.unit (rank c.args.lo) c.if-unit-eq0.false in
    c.requires.known _ (subst (λ (hi : ℕ). Contains (unit_names c.args.unit (rank c.args.lo)) (record { id = c.args.unit.start; level = 0; lo = rank c.args.lo; hi = hi })) (sym high) here)

pub returns-in_err-block-clause-printed : goal.returns-in_err-block-clause-printed
returns-in_err-block-clause-printed g c =
    let high = rank_behind c.args.lo c.behind-hi.result c.behind-hi.ensures in
    let here = unit_in c.args.unit (rank c.args.lo) c.if-unit-eq0.false in
    let named : Contains (unit_names c.args.unit (rank c.args.lo)) (called c.args.unit.start 0 c.args.lo c.behind-hi.result) = subst (λ (hi : ℕ). Contains (unit_names c.args.unit (rank c.args.lo)) (record { id = c.args.unit.start; level = 0; lo = rank c.args.lo; hi = hi })) (sym high) here in
    named_fetching c.args.root.now (unit_names c.args.unit (rank c.args.lo)) _ _ _ _ _ _ (went_same _ _ _) (called c.args.unit.start 0 c.args.lo c.behind-hi.result) _ _ c.from_residual-in_err-block.result c.in_err-block.field-0.0 c.requires.root (c.requires.known _ named) c.in_err-block.ensures.fetches.goes c.in_err-block.ensures.device c.in_err-block.ensures.fetches.err c.from_residual-in_err-block.ensures.1

pub returns-in_err-write-2-clause-printed : goal.returns-in_err-write-2-clause-printed
returns-in_err-write-2-clause-printed g c = named_writing c.args.root.now (unit_names c.args.unit (rank c.args.lo)) _ _ _ _ _ _ (record { goes = c.fetch.ensures.fetches.goes; device = c.fetch.ensures.device; prints = prints_same _ }) _ _ c.from_residual-in_err-write-2.result c.in_err-write-2.field-0.0 c.in_err-write-2.ensures c.from_residual-in_err-write-2.ensures.1

pub returns-clause-printed : goal.returns-clause-printed
returns-clause-printed g c = named_well c.args.root.now (unit_names c.args.unit (rank c.args.lo)) _ _ _ _ _ _ (went_both _ _ _ _ _ _ _ _ _ (record { goes = c.fetch.ensures.fetches.goes; device = c.fetch.ensures.device; prints = prints_same _ }) (went_written _ _ _ _ _ _ c.in_ok-write-2.ensures)) tt

pub returns-in_err-block-clause-over : goal.returns-in_err-block-clause-over
returns-in_err-block-clause-over g c = λ n image m content over stored.
    let high = rank_behind c.args.lo c.behind-hi.result c.behind-hi.ensures in
    let here = stored (block_name c.args.unit.start (rank c.args.lo)) (unit_in c.args.unit (rank c.args.lo) c.if-unit-eq0.false) in
    let at : Stored content.store (called c.args.unit.start 0 c.args.lo c.behind-hi.result) = subst (λ (hi : ℕ). Stored content.store (record { id = c.args.unit.start; level = 0; lo = rank c.args.lo; hi = hi })) (sym high) here in
    let still = unfetched_over content c.args.root.now _ over _ (called c.args.unit.start 0 c.args.lo c.behind-hi.result) at _ c.in_err-block.field-0.0 c.in_err-block.ensures.fetches in
    let good = unfetched_undamaged content c.args.root.now _ over _ (called c.args.unit.start 0 c.args.lo c.behind-hi.result) at _ c.in_err-block.field-0.0 refl c.in_err-block.ensures.fetches in
    over_fetching content c.args.root.now _ still _ _ c.from_residual-in_err-block.result c.in_err-block.field-0.0 good c.from_residual-in_err-block.ensures.1

pub returns-in_err-write-2-clause-over : goal.returns-in_err-write-2-clause-over
returns-in_err-write-2-clause-over g c = λ n image m content over stored.
    let high = rank_behind c.args.lo c.behind-hi.result c.behind-hi.ensures in
    let here = stored (block_name c.args.unit.start (rank c.args.lo)) (unit_in c.args.unit (rank c.args.lo) c.if-unit-eq0.false) in
    let at : Stored content.store (called c.args.unit.start 0 c.args.lo c.behind-hi.result) = subst (λ (hi : ℕ). Stored content.store (record { id = c.args.unit.start; level = 0; lo = rank c.args.lo; hi = hi })) (sym high) here in
    let still = fetched_over content c.args.root.now _ over _ (called c.args.unit.start 0 c.args.lo c.behind-hi.result) at _ c.in_ok-block.block c.in_ok-block.ensures.fetches in
    let block = fetched_block content c.args.root.now _ over _ (called c.args.unit.start 0 c.args.lo c.behind-hi.result) at _ c.in_ok-block.block c.in_ok-block.ensures.fetches in
    let same = c.bytes-2.ensures.value ∙ (c.block.ensures ∙ (ap (λ (x : CellSeen). x.block) c.deref.ensures ∙ (block ∙ sym (run_block image c.args.unit c.if-unit-eq0.false)))) in
    over_writing content c.args.root.now _ still _ _ _ c.from_residual-in_err-write-2.result c.in_err-write-2.field-0.0 _ (ap (λ (b : List ℕ). slice_range b c.args.from c.args.to) same) c.in_err-write-2.ensures c.from_residual-in_err-write-2.ensures.1

pub returns-clause-over : goal.returns-clause-over
returns-clause-over g c = λ n image m content over stored.
    let high = rank_behind c.args.lo c.behind-hi.result c.behind-hi.ensures in
    let here = stored (block_name c.args.unit.start (rank c.args.lo)) (unit_in c.args.unit (rank c.args.lo) c.if-unit-eq0.false) in
    let at : Stored content.store (called c.args.unit.start 0 c.args.lo c.behind-hi.result) = subst (λ (hi : ℕ). Stored content.store (record { id = c.args.unit.start; level = 0; lo = rank c.args.lo; hi = hi })) (sym high) here in
    let still = fetched_over content c.args.root.now _ over _ (called c.args.unit.start 0 c.args.lo c.behind-hi.result) at _ c.in_ok-block.block c.in_ok-block.ensures.fetches in
    let block = fetched_block content c.args.root.now _ over _ (called c.args.unit.start 0 c.args.lo c.behind-hi.result) at _ c.in_ok-block.block c.in_ok-block.ensures.fetches in
    let same = c.bytes-2.ensures.value ∙ (c.block.ensures ∙ (ap (λ (x : CellSeen). x.block) c.deref.ensures ∙ (block ∙ sym (run_block image c.args.unit c.if-unit-eq0.false)))) in
    over_written content c.args.root.now _ still _ _ _ c.in_ok-write-2.field-0 tt _ (ap (λ (b : List ℕ). slice_range b c.args.from c.args.to) same) c.in_ok-write-2.ensures

pub returns-clause-whole : goal.returns-clause-whole
returns-clause-whole g c = λ n image m content over stored.
    let high = rank_behind c.args.lo c.behind-hi.result c.behind-hi.ensures in
    let here = stored (block_name c.args.unit.start (rank c.args.lo)) (unit_in c.args.unit (rank c.args.lo) c.if-unit-eq0.false) in
    let at : Stored content.store (called c.args.unit.start 0 c.args.lo c.behind-hi.result) = subst (λ (hi : ℕ). Stored content.store (record { id = c.args.unit.start; level = 0; lo = rank c.args.lo; hi = hi })) (sym high) here in
    let block = fetched_block content c.args.root.now _ over _ (called c.args.unit.start 0 c.args.lo c.behind-hi.result) at _ c.in_ok-block.block c.in_ok-block.ensures.fetches in
    let same = c.block.ensures ∙ (ap (λ (x : CellSeen). x.block) c.deref.ensures ∙ (block ∙ sym (run_block image c.args.unit c.if-unit-eq0.false))) in
    sym (ap (λ (b : List ℕ). length b) same) ∙ c.bytes-2.ensures.len
