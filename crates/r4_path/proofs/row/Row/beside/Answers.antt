use Rattle.std.proofs.Common.{◌∙◌, ◌+◌, ◌<◌, sym, subst}
use Rattle.r4_path.specs.Nodes.{weight}
use Rattle.r4_path.specs.Rows.{IsCut, row_part}
use Rattle.r4_path.proofs.CutRows.{cut_behind, more_long, not_le}
use Rattle.r4_path.proofs.row.Row.beside.Goals as goal

pub returns : goal.returns
returns c =
    let self = c.args.self.now in
    let over = not_le (weight (row_part self (self.at + 1) c.len.result)) 4068 (sym c.if-fits.false ∙ c.fits.ensures) in
    subst (λ k. IsCut self (self.at + 1 + k)) (more_long self c.requires.row c.requires.narrow)
    (cut_behind self c.requires.row c.requires.narrow c.requires.low
    (subst (λ n. 4068 < weight (row_part self (self.at + 1) n)) c.len.ensures over))
