use Rattle.std.proofs.Common.{◌≡◌, ℕ, ◌+◌, ◌*◌, ◌^◌, ◌++◌, ◌∷◌, [], List, length, take, true, refl, sym, ap, subst, ◌∙◌, arith}
use Rattle.std.specs.Prelude.{slice_get, Some}
use Rattle.std.proofs.lemmas.List.{append_assoc, append-nil, take_all}
use Rattle.r4_base.specs.Extents.{blocks_in, units_of as units_in_body}
use Rattle.r4_base.specs.declared.items.Unit.{Unit as ExtentUnit}
use Rattle.r4_base.specs.declared.key.Key.{Key}
use Rattle.r4_twig.proofs.Faults.{body_lawful}
use Rattle.r4_base.specs.Key.{later}
use Rattle.r4_branch.specs.Pieces.{unit_pieces}
use Rattle.r4_branch.specs.declared.piece.TwigPart.TheVariants.{Blocks}
use Rattle.r4_branch.specs.declared.piece.TwigPiece.{TwigPiece}
use Rattle.r4_branch.proofs.SoundItems.{extent_item}
use Rattle.r4_branch.proofs.UnitPieces.{blocks_more, blocks_within, lawful_at, some_width, unit_pieces_more}
use Rattle.r4_branch.proofs.reading.add_extent.Goals as goal

pub of_item-extent-requires-clause-good : goal.of_item-extent-requires-clause-good
of_item-extent-requires-clause-good c = (extent_item _ refl c.requires).body

pub loop-i-init : goal.loop-i-init
loop-i-init c = record { at = refl; items = sym (append-nil c.args.pieces.now.items) }

pub behind-requires : goal.behind-requires
behind-requires c =
    let it = extent_item _ refl c.requires in
    let shown = subst (λ us. slice_get us c.loop-i.i ≡ Some c.unit-unit.result) c.of_item-extent.ensures.units c.unit-unit.ensures in
    let lawful = body_lawful true (2 ^ 64) c.args.body.now it.body in
    let w = some_width c.unit-unit.result (lawful_at c.loop-i.i (units_in_body c.args.body.now) c.unit-unit.result shown lawful.2) in
    let within = blocks_within c.loop-i.i (units_in_body c.args.body.now) c.unit-unit.result shown in
    let fits = it.fits in
    let at = c.loop-i.invariant.at in
    omega (arith, w, within, fits, at)

pub overflow_add-blocks : goal.overflow_add-blocks
overflow_add-blocks c =
    let it = extent_item _ refl c.requires in
    let shown = subst (λ us. slice_get us c.loop-i.i ≡ Some c.unit-unit.result) c.of_item-extent.ensures.units c.unit-unit.ensures in
    let within = blocks_within c.loop-i.i (units_in_body c.args.body.now) c.unit-unit.result shown in
    let fits = it.fits in
    let at = c.loop-i.invariant.at in
    omega (arith, within, fits, at)

-- one piece more
more : (old ps new : List TwigPiece) (key k : Key) (us : List ExtentUnit) (i blocks : ℕ) (u : ExtentUnit) → slice_get us i ≡ Some u → blocks ≡ blocks_in (take i us) → ps ≡ old ++ unit_pieces key 0 (take i us) → k ≡ later key (4096 * blocks)
    → new ≡ ps ++ (record { key = k; part = Blocks u }) ∷ [] → new ≡ old ++ unit_pieces key 0 (take (i + 1) us)
more old ps new key k us i blocks u shown at items is pushed =
    let from : blocks ≡ 0 + blocks_in (take i us) = omega (arith, at) in
    pushed
    ∙ ((λ j. items j ++ (record { key = (is ∙ ap (λ (n : ℕ). later key (4096 * n)) from) j; part = Blocks u }) ∷ [])
    ∙ (append_assoc old (unit_pieces key 0 (take i us)) ((record { key = later key (4096 * (0 + blocks_in (take i us))); part = Blocks u }) ∷ [])
    ∙ ap (λ ps. old ++ ps) (sym (unit_pieces_more key 0 i us u shown))))

pub loop-i-preserved : goal.loop-i-preserved
loop-i-preserved c =
    let shown = subst (λ us. slice_get us c.loop-i.i ≡ Some c.unit-unit.result) c.of_item-extent.ensures.units c.unit-unit.ensures in
    record {
      at = ap (λ n. n + c.unit-unit.result.width) c.loop-i.invariant.at ∙ sym (blocks_more c.loop-i.i (units_in_body c.args.body.now) c.unit-unit.result shown);
      items = more c.args.pieces.now.items c.loop-i.pieces.items c.push.new.self.items c.args.key.now c.behind.result (units_in_body c.args.body.now) c.loop-i.i c.loop-i.blocks c.unit-unit.result shown c.loop-i.invariant.at c.loop-i.invariant.items c.behind.ensures.later c.in_ok-push.ensures.items;
    }

pub returns : goal.returns
returns c =
    let past = c.loop-i-test.false in
    let within = c.loop-i.auto.i-end in
    let count = c.len-i-end.ensures.units in
    let same = ap length c.of_item-extent.ensures.units in
    c.loop-i.invariant.items ∙ ap (λ us. c.args.pieces.now.items ++ unit_pieces c.args.key.now 0 us) (take_all c.loop-i.i (units_in_body c.args.body.now) (omega (arith, past, within, count, same)))
