use Rattle.std.proofs.Common.{◌≡◌, ◌/◌, [], get_or, rules}
use Rattle.r4_space.proofs.HalfLaws.{marks_half}
use Rattle.r4_space.proofs.check.half_at.Goals as goal

pub returns-in-Some : goal.returns-in-Some
returns-in-Some c = λ j lt within.
    let at : get_or c.args.bitmaps.now (c.args.h / 1023) [] ≡ c.bytes.result.now = search rules in
    marks_half c.args.bitmaps.now c.args.h j c.get32.result c.bytes.result.now at lt c.get32.ensures
