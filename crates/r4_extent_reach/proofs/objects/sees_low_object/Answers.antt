use Rattle.r4_content.specs.Held.{part_pairs}
use Rattle.r4_extent_reach.proofs.Numbers.{all_numbers, good_numbers, low_object, low_there, numbers_so_far}
use Rattle.r4_extent_reach.proofs.objects.sees_low_object.Goals as goal

pub returns-then-is_low_object : goal.returns-then-is_low_object
returns-then-is_low_object c =
    low_there c.args.seen.now c.loop-part.part-index c.part-item.result c.loop-part-test.true c.part-item.is
    (low_object c.is_low_object.result (part_pairs c.part-item.result) c.if-is_low_object.true
    c.is_low_object.ensures)

pub loop-part-preserved : goal.loop-part-preserved
loop-part-preserved c =
    numbers_so_far c.args.seen.now c.loop-part.part-index c.part-item.result c.loop-part-test.true
    c.part-item.is c.loop-part.invariant
    (good_numbers c.is_low_object.result (part_pairs c.part-item.result) c.if-is_low_object.false
    c.is_low_object.ensures)

pub returns : goal.returns
returns c = all_numbers c.args.seen.now c.loop-part.part-index c.loop-part-test.false c.loop-part.invariant
