use Rattle.std.proofs.Common.{arith}
use Rattle.r4_twig.proofs.Places.{length-units_of, get-units_of}
use Rattle.r4_twig.proofs.view.ExtentView.unit.Goals as goal

pub unit_in-requires : goal.unit_in-requires
unit_in-requires c =
    let n = length-units_of c.args.self.now.body.now in
    omega arith

pub returns : goal.returns
returns c =
    let n = length-units_of c.args.self.now.body.now in
    let e = get-units_of c.args.i c.args.self.now.body.now (omega arith) in
    cc
