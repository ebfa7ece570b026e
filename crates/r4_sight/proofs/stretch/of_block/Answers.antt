use Rattle.std.proofs.Common.{◌+◌, ℕ, List, inl, refl, sym, ap, ◌∙◌, arith}
use Rattle.std.specs.Arc.{arc_value}
use Rattle.std.specs.Prelude.{None, Some, ◌==◌, if◌then◌else◌}
use Rattle.r4_base.specs.Cell.{bytes_from}
use Rattle.r4_base.specs.Key.{rank}
use Rattle.r4_units.specs.r4_cell.Seen.{CellSeen}
use Rattle.r4_content.specs.Seen.{pairs_in}
use Rattle.r4_units.proofs.r4_search.Walks.{handed}
use Rattle.r4_sight.proofs.Bodies.{end_at, end_of, lesser_above}
use Rattle.r4_sight.proofs.Fetching.{block_named, block_stretch, has_key, meets_block, refused_at}
use Rattle.r4_sight.proofs.Stretching.{hole_far, hole_stretch}
use Rattle.r4_sight.proofs.stretch.of_block.Goals as goal

pub fetch-requires : goal.fetch-requires
fetch-requires g c =
    let two = c.requires.level in
    c.requires.knows _ (block_named c.args.twig.now (rank c.args.from) (rank c.key_after-hi.result) c.args.found (omega (arith, two)) c.requires.block c.if-found-eq0.false c.key_after-hi.ensures)

pub returns-then-found-eq0-clause-stretch : goal.returns-then-found-eq0-clause-stretch
returns-then-found-eq0-clause-stretch g c =
    let twig = c.args.twig.now in
    let b = c.requires.block in
    let from = rank c.args.from in
    let lo = rank c.args.found.lo in
    let s = c.in_ok-of_bytes.field-0 in
    let end = ap rank c.in_ok-of_bytes.ensures.to in
    let hi = c.key_after-hi.ensures in
    let near = b.at.below in
    let both = c.lesser-end.ensures.both in
    let below = c.lesser-end.ensures.below in
    let onward = lesser_above from c.args.to c.key_after-hi.result c.lesser-end.result c.requires.order (omega (arith, near, hi)) c.lesser-end.ensures.is in
    record {
      cell = twig;
      is = inl refl;
      stands = c.requires.stands;
      met = c.requires.met;
      of = hole_stretch twig c.requires.whole c.requires.level c.requires.stands b.place b.item b.is b.extent b.at.block lo from (rank c.args.to) s
          (b.at.unit.is ∙ ap (λ (n : ℕ). if n == 0 then None else Some n) c.if-found-eq0.true) b.at.unit.within b.at.lo b.at.from (omega (arith, end, both, hi)) (omega (arith, end, onward)) (omega (arith, end, below))
          (c.in_ok-of_bytes.ensures.pairs ∙ (ap (λ (k : ℕ). pairs_in (bytes_from lo c.in_ok-zeros.zeros) from k) (sym end) ∙ ap (λ (xs : List ℕ). pairs_in (bytes_from lo xs) from (rank s.to)) c.in_ok-zeros.ensures)) c.in_ok-of_bytes.ensures.full;
      far = hole_far twig c.requires.level b.place b.item b.is b.at.block lo (rank c.args.to) (rank s.to) b.at.lo (end_at s.to c.lesser-end.result (rank c.args.to) (lo + 4096) end (end_of c.args.to c.key_after-hi.result c.lesser-end.result _ hi c.lesser-end.ensures.is));
    }

pub returns-in_err-data-clause-err : goal.returns-in_err-data-clause-err
returns-in_err-data-clause-err g c =
    let two = c.requires.level in
    let named = block_named c.args.twig.now (rank c.args.from) (rank c.key_after-hi.result) c.args.found (omega (arith, two)) c.requires.block c.if-found-eq0.false c.key_after-hi.ensures in
    let f = c.in_err-data.ensures.fetches in
    handed _ _ c.in_err-data.field-0.0 c.from_residual-in_err-data.ensures.1
    (refused_at (rank c.args.from) _ _ _ c.in_err-data.field-0.0 (has_key c.args.twig.now (rank c.args.from) (rank c.key_after-hi.result) c.args.found c.requires.block c.key_after-hi.ensures) (f.goes.known _ (c.requires.knows _ named)) f.err)

pub returns-in_err-of_bytes-2-clause-block : goal.returns-in_err-of_bytes-2-clause-block
returns-in_err-of_bytes-2-clause-block g c =
    let two = c.requires.level in
    let f = c.in_ok-data.ensures.fetches in
    meets_block (rank c.args.from) _ _ c.args.twig.now (arc_value c.in_ok-data.data) _ f.goes c.requires.met
    (block_named c.args.twig.now (rank c.args.from) (rank c.key_after-hi.result) c.args.found (omega (arith, two)) c.requires.block c.if-found-eq0.false c.key_after-hi.ensures)
    (has_key c.args.twig.now (rank c.args.from) (rank c.key_after-hi.result) c.args.found c.requires.block c.key_after-hi.ensures) f.ok.named f.only_met

pub returns-clause-block : goal.returns-clause-block
returns-clause-block g c =
    let two = c.requires.level in
    let f = c.in_ok-data.ensures.fetches in
    meets_block (rank c.args.from) _ _ c.args.twig.now (arc_value c.in_ok-data.data) _ f.goes c.requires.met
    (block_named c.args.twig.now (rank c.args.from) (rank c.key_after-hi.result) c.args.found (omega (arith, two)) c.requires.block c.if-found-eq0.false c.key_after-hi.ensures)
    (has_key c.args.twig.now (rank c.args.from) (rank c.key_after-hi.result) c.args.found c.requires.block c.key_after-hi.ensures) f.ok.named f.only_met

pub returns-clause-stretch : goal.returns-clause-stretch
returns-clause-stretch g c =
    let b = c.requires.block in
    let from = rank c.args.from in
    let lo = rank c.args.found.lo in
    let x = arc_value c.in_ok-data.data in
    let s = c.in_ok-of_bytes-2.field-0 in
    let f = c.in_ok-data.ensures.fetches in
    let end = ap rank c.in_ok-of_bytes-2.ensures.to in
    let hi = c.key_after-hi.ensures in
    let near = b.at.below in
    let both = c.lesser-end.ensures.both in
    let below = c.lesser-end.ensures.below in
    let onward = lesser_above from c.args.to c.key_after-hi.result c.lesser-end.result c.requires.order (omega (arith, near, hi)) c.lesser-end.ensures.is in
    let same = c.block.ensures ∙ ap (λ (y : CellSeen). y.block) c.deref.ensures in
    block_stretch _ _ c.args.twig.now x _ c.args.found (rank c.key_after-hi.result) from (rank c.args.to) s refl f.goes f.ok f.met (omega (arith, end, onward)) (omega (arith, end, below)) b.at.from (omega (arith, end, both))
    (c.in_ok-of_bytes-2.ensures.pairs ∙ (ap (λ (k : ℕ). pairs_in (bytes_from lo c.block.result.now) from k) (sym end) ∙ ap (λ (xs : List ℕ). pairs_in (bytes_from lo xs) from (rank s.to)) same)) c.in_ok-of_bytes-2.ensures.full
    (end_at s.to c.lesser-end.result (rank c.args.to) (rank c.key_after-hi.result) end (end_of c.args.to c.key_after-hi.result c.lesser-end.result _ refl c.lesser-end.ensures.is))
