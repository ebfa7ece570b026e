use Rattle.std.proofs.Common.{arith, ◌≡◌, ◌≤◌, ◌<◌, ◌+◌, length, drop, sym, ap, ◌∙◌, Err}
use Rattle.std.proofs.lemmas.Result.{err_from_is_err_and}
use Rattle.std.proofs.lemmas.Grind.{common_steps}
use Rattle.r4_script.specs.Split.{until}
use Rattle.r4_script.proofs.Splits.{until_short}
use Rattle.r4_script.proofs.Lines.{reads_last, reads_line, reads_fault}
use Rattle.r4_script.proofs.text.read_lines.Goals as goal

pub line-requires : goal.line-requires
line-requires c =
    let line : c.until-line.result.now ≡ until 10 (drop c.lines.place c.args.text.now) = grind (arith, common_steps) in
    grind (arith, until_short, common_steps)

pub returns-then-end-text : goal.returns-then-end-text
returns-then-end-text c =
    let line : c.until-line.result.now ≡ until 10 (drop c.lines.place c.args.text.now) = grind (arith, common_steps) in
    reads_last c.args.long c.lines.number c.lines.place _ c.args.text.now c.until-line.result.now _ _ _ (omega arith) line (omega arith) c.lines.invariant.same c.last_line.ensures c.at_line.ensures

pub returns-in_err-progress : goal.returns-in_err-progress
returns-in_err-progress c =
    let line : c.until-line.result.now ≡ until 10 (drop c.lines.place c.args.text.now) = grind (arith, common_steps) in
    let short : length c.until-line.result.now ≤ length (drop c.lines.place c.args.text.now) = grind (arith, until_short, common_steps) in
    let below : c.lines.place + length c.until-line.result.now < length c.args.text.now = grind (arith, common_steps) in
    let p = err_from_is_err_and c.from_residual.result c.from_residual.ensures.1 in
    reads_fault c.args.long c.lines.number c.lines.place _ c.in_err-progress.field-0.0 c.args.text.now c.until-line.result.now _ _ c.from_residual.result line below c.lines.invariant.same c.line.ensures
    (sym c.in_err-progress.was ∙ c.at_line-in-lines.ensures) (p.1 ∙ ap Err p.2)

pub lines-preserved : goal.lines-preserved
lines-preserved c =
    let line : c.until-line.result.now ≡ until 10 (drop c.lines.place c.args.text.now) = grind (arith, common_steps) in
    let short : length c.until-line.result.now ≤ length (drop c.lines.place c.args.text.now) = grind (arith, until_short, common_steps) in
    let below : c.lines.place + length c.until-line.result.now < length c.args.text.now = grind (arith, common_steps) in
    record {
      within = omega arith;
      few = omega arith;
      same = reads_line c.args.long c.lines.number c.lines.place _ _ c.args.text.now c.until-line.result.now _ _ line below c.lines.invariant.same c.line.ensures c.in_ok-progress.ensures;
    }
