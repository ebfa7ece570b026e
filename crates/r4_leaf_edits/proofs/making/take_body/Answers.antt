use Rattle.std.proofs.Common.{◌+◌, length, arith, subst}
use Rattle.std.specs.Prelude.{Option}
use Rattle.std.proofs.lemmas.Result.{on_ok_weaker}
use Rattle.r4_content.specs.Held.{edits_of}
use Rattle.r4_content.specs.declared.edits.Interval.{Interval}
use Rattle.r4_leaf_edits.specs.Made.{bytes_end}
use Rattle.r4_leaf_edits.specs.Suiting.{SuitLeaves}
use Rattle.r4_leaf_edits.proofs.Few.{grows_less}
use Rattle.r4_leaf_edits.proofs.Meant.{bytes_before}
use Rattle.r4_leaf_edits.proofs.making.take_body.Goals as goal

pub set_bytes-requires : goal.set_bytes-requires
set_bytes-requires c = bytes_before c.args.edits.now 16384 (subst (λ (o : Option Interval). SuitLeaves (bytes_end o) (edits_of c.args.edits.now)) c.in-None.is c.requires)

pub returns-in-Some-clause-few : goal.returns-in-Some-clause-few
returns-in-Some-clause-few c =
    let e = c.args.edits.now in
    on_ok_weaker c.cut.result (grows_less 1 (1 + (length e.zeros.items + (length e.fills.items + length e.runs.items))) c.args.made.now c.cut.new.edits (omega arith)) c.cut.ensures.few

pub returns-in-None-clause-few : goal.returns-in-None-clause-few
returns-in-None-clause-few c =
    let e = c.args.edits.now in
    let n = length e.zeros.items + (length e.fills.items + length e.runs.items) in
    on_ok_weaker c.set_bytes.result (grows_less n (1 + n) c.args.made.now c.set_bytes.new.made (omega arith)) c.set_bytes.ensures.few
