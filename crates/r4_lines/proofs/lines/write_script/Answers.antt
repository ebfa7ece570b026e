use Rattle.std.proofs.Common.{ℕ, ◌++◌, ap, decimal, codes, Ok, Err}
use Rattle.r4_lines.proofs.Texts.{Adds, same_text, appends_both, appends_stopped}
use Rattle.r4_lines.proofs.lines.write_script.Goals as goal

pub returns-in_err-write_number : goal.returns-in_err-write_number
returns-in_err-write_number g c =
    let line : Adds (codes "script: line " ++ decimal c.args.line ++ codes " column ") _ (Err c.in_err-write_number.field-0.0) _ =
    same_text _ _ _ _ (Err c.in_err-write_number.field-0.0) (ap (λ (n : ℕ). codes "script: line " ++ decimal n ++ codes " column ") c.from.ensures) c.in_err-write_number.ensures in
    appends_stopped (codes "script: line " ++ decimal c.args.line ++ codes " column ") (decimal c.args.column ++ codes ": " ++ (c.args.what.now ++ codes "\n")) _ _ _ c.from_residual.result c.from_residual.ensures.0 line

pub returns-in_err-write_number-2 : goal.returns-in_err-write_number-2
returns-in_err-write_number-2 g c =
    let line : Adds (codes "script: line " ++ decimal c.args.line ++ codes " column ") _ (Ok c.in_ok-write_number.field-0) _ =
    same_text _ _ _ _ (Ok c.in_ok-write_number.field-0) (ap (λ (n : ℕ). codes "script: line " ++ decimal n ++ codes " column ") c.from.ensures) c.in_ok-write_number.ensures in
    let column : Adds (decimal c.args.column ++ codes ": ") _ (Err c.in_err-write_number-2.field-0.0) _ =
    same_text _ _ _ _ (Err c.in_err-write_number-2.field-0.0) (ap (λ (n : ℕ). decimal n ++ codes ": ") c.from-2.ensures) c.in_err-write_number-2.ensures in
    let rest : Adds (decimal c.args.column ++ codes ": " ++ (c.args.what.now ++ codes "\n")) _ c.from_residual-in_err-write_number-2.result _ =
    appends_stopped (decimal c.args.column ++ codes ": ") (c.args.what.now ++ codes "\n") _ _ _ c.from_residual-in_err-write_number-2.result c.from_residual-in_err-write_number-2.ensures.0 column in
    appends_both (codes "script: line " ++ decimal c.args.line ++ codes " column ") (decimal c.args.column ++ codes ": " ++ (c.args.what.now ++ codes "\n")) _ _ _ _ c.from_residual-in_err-write_number-2.result line rest

pub returns : goal.returns
returns g c =
    let line : Adds (codes "script: line " ++ decimal c.args.line ++ codes " column ") _ (Ok c.in_ok-write_number.field-0) _ =
    same_text _ _ _ _ (Ok c.in_ok-write_number.field-0) (ap (λ (n : ℕ). codes "script: line " ++ decimal n ++ codes " column ") c.from.ensures) c.in_ok-write_number.ensures in
    let column : Adds (decimal c.args.column ++ codes ": ") _ (Ok c.in_ok-write_number-2.field-0) _ =
    same_text _ _ _ _ (Ok c.in_ok-write_number-2.field-0) (ap (λ (n : ℕ). decimal n ++ codes ": ") c.from-2.ensures) c.in_ok-write_number-2.ensures in
    appends_both (codes "script: line " ++ decimal c.args.line ++ codes " column ") (decimal c.args.column ++ codes ": " ++ (c.args.what.now ++ codes "\n")) _ _ _ _ c.write_what.result line
    (appends_both (decimal c.args.column ++ codes ": ") (c.args.what.now ++ codes "\n") _ _ _ _ c.write_what.result column c.write_what.ensures)
