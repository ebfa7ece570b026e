use Rattle.std.proofs.Common.{arith, length, ℕ, ◌≡◌, ◌≤◌, ◌*◌, ◌%◌, ◌-◌, ◌/◌, refl}
use Rattle.std.specs.Prelude.{slice_index, slice_range}
use Rattle.r4_base.specs.Extents.{units_of}
use Rattle.r4_base.specs.Key.{rank}
use Rattle.r4_units.specs.Extent.{unit_block, unit_names}
use Rattle.r4_list.proofs.Stages.{went_same}
use Rattle.r4_list.proofs.BodyStages.{named_printing}
use Rattle.r4_units.proofs.ExtentUnits.{offset_is, one_body, rank_of_block, unit_among}
use Rattle.r4_list.proofs.BodyParts.{block_units, exact_len, part_none, part_printed, part_stopped, range_len, stretch}
use Rattle.r4_list.proofs.body.print_extent.Goals as goal

pub print_bytes-requires-clause-known : goal.print_bytes-requires-clause-known
print_bytes-requires-clause-known g c =
    let at = rank_of_block c.args.item.now.key c.args.key c.with_offset-lo.result (one_body _ _ c.requires.object) c.requires.from c.with_offset-lo.ensures in
    λ n h. c.requires.known n (unit_among (rank c.args.item.now.key) (units_of c.args.item.now.body.now) ((slice_index c.args.key.el 3 - slice_index c.args.item.now.key.el 3) / 4096) (rank c.with_offset-lo.result) c.in-Some.unit c.in-Some.ensures.some at n h)

pub returns-in_err-print_bytes-clause-printed : goal.returns-in_err-print_bytes-clause-printed
returns-in_err-print_bytes-clause-printed g c =
    let at = rank_of_block c.args.item.now.key c.args.key c.with_offset-lo.result (one_body _ _ c.requires.object) c.requires.from c.with_offset-lo.ensures in
    named_printing c.args.root.now _ _ _ _ _ _ _ (went_same _ _ _) (unit_names c.in-Some.unit (rank c.with_offset-lo.result)) _ _ _ c.from_residual.result _ c.in_err-print_bytes.field-0.0
    (unit_among (rank c.args.item.now.key) (units_of c.args.item.now.body.now) ((slice_index c.args.key.el 3 - slice_index c.args.item.now.key.el 3) / 4096) (rank c.with_offset-lo.result) c.in-Some.unit c.in-Some.ensures.some at)
    refl c.in_err-print_bytes.ensures.printed c.from_residual.ensures.1

pub returns-in_default-clause-over : goal.returns-in_default-clause-over
returns-in_default-clause-over g c = λ n image m content o over stored holes is file. part_none content c.args.root.now o _ _ _ _ over

pub returns-in_err-print_bytes-clause-over : goal.returns-in_err-print_bytes-clause-over
returns-in_err-print_bytes-clause-over g c = λ n image m content o over stored holes is file.
    let block : ℕ = (slice_index c.args.key.el 3 - slice_index c.args.item.now.key.el 3) / 4096 in
    let place : ℕ = (slice_index c.args.key.el 3 - slice_index c.args.item.now.key.el 3) % 4096 in
    let one = one_body _ _ c.requires.object in
    let lo = rank_of_block c.args.item.now.key c.args.key c.with_offset-lo.result one c.requires.from c.with_offset-lo.ensures in
    let at = c.in-Some.ensures.some in
    let among = unit_among (rank c.args.item.now.key) (units_of c.args.item.now.body.now) block (rank c.with_offset-lo.result) c.in-Some.unit at lo in
    let units = block_units content (rank c.args.item.now.key) (units_of c.args.item.now.body.now) block c.in-Some.unit at stored holes in
    let offset = offset_is c.args.key c.with_offset-lo.result _ c.with_offset-lo.ensures in
    let min = c.min-to.ensures in
    let from = c.requires.from in
    let below = c.requires.below in
    let spells = stretch content o c.args.item.now.key c.args.key (unit_block image c.in-Some.unit) (4096 * block) place c.min-to.result c.args.end is one file (omega (arith, from)) (omega (arith, from)) (omega (arith, from, min, offset, below)) units in
    let len = range_len (unit_block image c.in-Some.unit) place c.min-to.result in
    let few : length (slice_range (unit_block image c.in-Some.unit) place c.min-to.result) ≤ c.args.end - slice_index c.args.key.el 3 = omega (arith, len, from, min, offset, below) in
    part_stopped content c.args.root.now o (slice_index c.args.key.el 3) _ _ (slice_range (unit_block image c.in-Some.unit) place c.min-to.result) spells few _ _ c.in_err-print_bytes.field-0.0 c.from_residual.result
    (c.in_err-print_bytes.ensures.over n image m content over (λ x h. stored x (among x h))) c.from_residual.ensures.1

pub returns-clause-over : goal.returns-clause-over
returns-clause-over g c = λ n image m content o over stored holes is file.
    let block : ℕ = (slice_index c.args.key.el 3 - slice_index c.args.item.now.key.el 3) / 4096 in
    let place : ℕ = (slice_index c.args.key.el 3 - slice_index c.args.item.now.key.el 3) % 4096 in
    let one = one_body _ _ c.requires.object in
    let lo = rank_of_block c.args.item.now.key c.args.key c.with_offset-lo.result one c.requires.from c.with_offset-lo.ensures in
    let at = c.in-Some.ensures.some in
    let among = unit_among (rank c.args.item.now.key) (units_of c.args.item.now.body.now) block (rank c.with_offset-lo.result) c.in-Some.unit at lo in
    let units = block_units content (rank c.args.item.now.key) (units_of c.args.item.now.body.now) block c.in-Some.unit at stored holes in
    let offset = offset_is c.args.key c.with_offset-lo.result _ c.with_offset-lo.ensures in
    let min = c.min-to.ensures in
    let from = c.requires.from in
    let below = c.requires.below in
    let spells = stretch content o c.args.item.now.key c.args.key (unit_block image c.in-Some.unit) (4096 * block) place c.min-to.result c.args.end is one file (omega (arith, from)) (omega (arith, from)) (omega (arith, from, min, offset, below)) units in
    let len = range_len (unit_block image c.in-Some.unit) place c.min-to.result in
    let few : length (slice_range (unit_block image c.in-Some.unit) place c.min-to.result) ≤ c.args.end - slice_index c.args.key.el 3 = omega (arith, len, from, min, offset, below) in
    let whole = c.in_ok-print_bytes.ensures.whole n image m content over (λ x h. stored x (among x h)) in
    let exact : length (slice_range (unit_block image c.in-Some.unit) place c.min-to.result) ≡ c.min-to.result - place = exact_len (unit_block image c.in-Some.unit) place c.min-to.result (omega (arith, whole, min)) in
    part_printed content c.args.root.now o (slice_index c.args.key.el 3) _ _ (slice_range (unit_block image c.in-Some.unit) place c.min-to.result) spells few _ _ c.in_ok-print_bytes.field-0 (c.min-to.result - place) exact
    (c.in_ok-print_bytes.ensures.over n image m content over (λ x h. stored x (among x h)))
