use Rattle.std.proofs.Common.{◌≡◌, ◌+◌, ◌*◌, ◌^◌, List, ap, arith, false, length, refl, subst, sym, true, ◌∙◌}
use Rattle.std.specs.List.{list_any}
use Rattle.std.specs.Prelude.{drop, Some, slice_get, ◌||◌}
use Rattle.std.proofs.lemmas.List.{drop_all}
use Rattle.r4_base.specs.Extents.{units_of as units_in_body}
use Rattle.r4_base.specs.Key.{later}
use Rattle.r4_base.specs.declared.items.Unit.{Unit as ExtentUnit}
use Rattle.r4_base.specs.declared.key.Key.{Key}
use Rattle.r4_graft.specs.r4_branch.Pieces.{unit_pieces}
use Rattle.r4_graft.specs.r4_branch.declared.piece.TwigPart.TheVariants.{Blocks}
use Rattle.r4_graft.proofs.r4_branch.SoundItems.{extent_item}
use Rattle.r4_graft.proofs.r4_branch.UnitPieces.{blocks_more, blocks_within, lawful_at, some_width}
use Rattle.r4_content.specs.Held.{edits_of}
use Rattle.r4_twig.proofs.Faults.{body_lawful}
use Rattle.r4_extent_demands.specs.Changing.{is_changed}
use Rattle.r4_extent_demands.specs.Pieces.{HasRoom}
use Rattle.r4_extent_demands.proofs.Changes.{unit_first}
use Rattle.r4_extent_demands.proofs.Rooms.{unit_room}
use Rattle.r4_extent_demands.proofs.changing.changes_extent.Goals as goal

pub of_item-extent-requires-clause-few : goal.of_item-extent-requires-clause-few
of_item-extent-requires-clause-few c = let short = c.requires.sound.short in omega (arith, short)

pub of_item-extent-requires-clause-good : goal.of_item-extent-requires-clause-good
of_item-extent-requires-clause-good c = (extent_item _ refl c.requires.sound).body

pub overflow_mul-blocks : goal.overflow_mul-blocks
overflow_mul-blocks c =
    let it = extent_item _ refl c.requires.sound in
    let shown = subst (λ us. slice_get us c.loop-i.i ≡ Some c.unit-unit.result) c.of_item-extent.ensures.units c.unit-unit.ensures in
    let lawful = body_lawful true (2 ^ 64) c.args.units.now it.body in
    let w = some_width c.unit-unit.result (lawful_at c.loop-i.i (units_in_body c.args.units.now) c.unit-unit.result shown lawful.2) in
    let within = blocks_within c.loop-i.i (units_in_body c.args.units.now) c.unit-unit.result shown in
    let fits = it.fits in
    let at = c.loop-i.invariant.at in
    omega (arith, w, within, fits, at)

pub behind-requires : goal.behind-requires
behind-requires c =
    let it = extent_item _ refl c.requires.sound in
    let shown = subst (λ us. slice_get us c.loop-i.i ≡ Some c.unit-unit.result) c.of_item-extent.ensures.units c.unit-unit.ensures in
    let lawful = body_lawful true (2 ^ 64) c.args.units.now it.body in
    let w = some_width c.unit-unit.result (lawful_at c.loop-i.i (units_in_body c.args.units.now) c.unit-unit.result shown lawful.2) in
    let within = blocks_within c.loop-i.i (units_in_body c.args.units.now) c.unit-unit.result shown in
    let fits = it.fits in
    let at = c.loop-i.invariant.at in
    omega (arith, w, within, fits, at)

pub changes_unit-requires-clause-room : goal.changes_unit-requires-clause-room
changes_unit-requires-clause-room c =
    let it = extent_item _ refl c.requires.sound in
    let us = units_in_body c.args.units.now in
    let shown = subst (λ us. slice_get us c.loop-i.i ≡ Some c.unit-unit.result) c.of_item-extent.ensures.units c.unit-unit.ensures in
    let lawful = body_lawful true (2 ^ 64) c.args.units.now it.body in
    let within = blocks_within c.loop-i.i us c.unit-unit.result shown in
    let fits = it.fits in
    let at = c.loop-i.invariant.at in
    subst (λ (k : Key). HasRoom (record { key = k; part = Blocks c.unit-unit.result })) (sym c.behind.ensures)
    (unit_room c.args.key c.loop-i.blocks c.unit-unit.result c.requires.sound.key
    (lawful_at c.loop-i.i us c.unit-unit.result shown lawful.2) (omega (arith, within, fits, at)))

pub overflow_add-blocks : goal.overflow_add-blocks
overflow_add-blocks c =
    let it = extent_item _ refl c.requires.sound in
    let shown = subst (λ us. slice_get us c.loop-i.i ≡ Some c.unit-unit.result) c.of_item-extent.ensures.units c.unit-unit.ensures in
    let within = blocks_within c.loop-i.i (units_in_body c.args.units.now) c.unit-unit.result shown in
    let fits = it.fits in
    let at = c.loop-i.invariant.at in
    omega (arith, within, fits, at)

pub loop-i-init : goal.loop-i-init
loop-i-init c = record { at = refl; rest = refl }

pub returns-then-changes_unit : goal.returns-then-changes_unit
returns-then-changes_unit c =
    let f = is_changed c.args.body.now (edits_of c.args.edits.now) in
    let us = units_in_body c.args.units.now in
    let u = c.unit-unit.result in
    let shown = subst (λ us. slice_get us c.loop-i.i ≡ Some u) c.of_item-extent.ensures.units c.unit-unit.ensures in
    let here = sym c.changes_unit.ensures ∙ c.if-changes_unit.true in
    let first : f (record { key = later c.args.key (4096 * c.loop-i.blocks); part = Blocks u }) ≡ true
    = ap (λ (k : Key). f (record { key = k; part = Blocks u })) (sym c.behind.ensures) ∙ here in
    sym (sym c.loop-i.invariant.rest ∙ ap (λ (xs : List ExtentUnit). list_any f (unit_pieces c.args.key c.loop-i.blocks xs))
    (unit_first us c.loop-i.i u shown)
    ∙ (λ i. first i || list_any f (unit_pieces c.args.key (c.loop-i.blocks + u.width) (drop (c.loop-i.i + 1) us))))

pub loop-i-preserved : goal.loop-i-preserved
loop-i-preserved c =
    let f = is_changed c.args.body.now (edits_of c.args.edits.now) in
    let us = units_in_body c.args.units.now in
    let u = c.unit-unit.result in
    let shown = subst (λ us. slice_get us c.loop-i.i ≡ Some u) c.of_item-extent.ensures.units c.unit-unit.ensures in
    let here = sym c.changes_unit.ensures ∙ c.if-changes_unit.false in
    let first : f (record { key = later c.args.key (4096 * c.loop-i.blocks); part = Blocks u }) ≡ false
    = ap (λ (k : Key). f (record { key = k; part = Blocks u })) (sym c.behind.ensures) ∙ here in
    record {
      at = ap (λ n. n + u.width) c.loop-i.invariant.at ∙ sym (blocks_more c.loop-i.i us u shown);
      rest = sym (ap (λ (xs : List ExtentUnit). list_any f (unit_pieces c.args.key c.loop-i.blocks xs))
          (unit_first us c.loop-i.i u shown)
          ∙ (λ i. first i || list_any f (unit_pieces c.args.key (c.loop-i.blocks + u.width) (drop (c.loop-i.i + 1) us))))
          ∙ c.loop-i.invariant.rest;
    }

pub returns : goal.returns
returns c =
    let f = is_changed c.args.body.now (edits_of c.args.edits.now) in
    let us = units_in_body c.args.units.now in
    let past = c.loop-i-test.false in
    let count = c.len-i-end.ensures.units in
    let same = ap length c.of_item-extent.ensures.units in
    let none = ap (λ (xs : List ExtentUnit). list_any f (unit_pieces c.args.key c.loop-i.blocks xs))
    (drop_all c.loop-i.i us (omega (arith, past, count, same))) in
    sym (sym c.loop-i.invariant.rest ∙ none)
