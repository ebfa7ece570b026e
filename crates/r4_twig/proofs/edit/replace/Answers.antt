use Rattle.std.proofs.Common.{◌≡◌, ◌*◌, List, ℕ, take, ap, sym, ◌∙◌, refl, arith}
use Rattle.r4_base.specs.Bytes.{put_all}
use Rattle.r4_base.specs.Extents.{unit_fields, units_of}
use Rattle.std.proofs.lemmas.List.{length-take-le}
use Rattle.r4_twig.proofs.Faults.{body_replaced}
use Rattle.r4_twig.proofs.Places.{put_units, put_units_whole}
use Rattle.r4_twig.proofs.edit.replace.Goals as goal

pub returns-clause-units : goal.returns-clause-units
returns-clause-units c used le le' =
    let spelled : c.put64-2.new.b ≡ put_all (unit_fields c.args.unit.now) (16 * c.args.i) c.args.body.now = rw (c.put64-2.ensures, c.put64.ensures, c.from-at.ensures) refl in
    ap (λ (xs : List ℕ). units_of (take used xs)) spelled ∙ put_units used c.args.i c.args.unit.now c.args.body.now le le' (omega arith) (omega arith)

pub returns-clause-all : goal.returns-clause-all
returns-clause-all c =
    let spelled : c.put64-2.new.b ≡ put_all (unit_fields c.args.unit.now) (16 * c.args.i) c.args.body.now = rw (c.put64-2.ensures, c.put64.ensures, c.from-at.ensures) refl in
    ap units_of spelled ∙ put_units_whole c.args.i c.args.unit.now c.args.body.now c.requires (omega arith) (omega arith)

pub returns-clause-lawful : goal.returns-clause-lawful
returns-clause-lawful c in_memory blocks used le le' lawful accepted =
    let units = returns-clause-units c used le le' in
    let n = length-take-le used c.args.body.now le' in
    let m = length-take-le used c.put64-2.new.b (omega arith) in
    body_replaced in_memory blocks (take used c.args.body.now) (take used c.put64-2.new.b) c.args.i c.args.unit.now (m ∙ sym n) units lawful accepted
