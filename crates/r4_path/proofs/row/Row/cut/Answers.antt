use Rattle.std.proofs.Common.{◌∙◌, ◌/◌, sym, subst, arith}
use Rattle.r4_path.specs.Nodes.{weight}
use Rattle.r4_path.specs.Rows.{IsCut, row_items, row_part}
use Rattle.r4_path.proofs.CutRows.{cut_half, not_le}
use Rattle.r4_path.proofs.Cuts.{part_lighter}
use Rattle.r4_path.proofs.row.Row.cut.Goals as goal
use Rattle.r4_path.proofs.row.Row.cut.Goals.{else-fits-via-then-fits+else-fits-2, else-fits-via-else-fits}

pub returns-then-level-gt-TWIG : goal.returns-then-level-gt-TWIG
returns-then-level-gt-TWIG c =
    let self = c.args.self.now in
    let high = c.if-level-gt-TWIG.true in
    let level = c.level.ensures in
    subst (λ n. IsCut self (n / 2)) (sym c.len.ensures)
    (cut_half self c.requires.row c.requires.narrow c.requires.two (omega (arith, high, level)))

pub beside-requires-clause-over : goal.beside-requires-clause-over
beside-requires-clause-over c = elim c.else-fits.branch [
  | else-fits-via-then-fits+else-fits-2 w ↦
      let over = not_le (weight (row_part c.args.self.now c.middle-middle.result w.len-then-fits.result)) 4068
      (sym w.if-fits-2.false ∙ w.fits-then-fits.ensures) in
      let less = part_lighter (row_items c.args.self.now) c.middle-middle.result w.len-then-fits.result in
      omega (arith, over, less)
  | else-fits-via-else-fits w ↦
      let over = not_le (weight (row_part c.args.self.now 0 c.middle-middle.result)) 4068
      (sym w.if-fits.false ∙ c.fits.ensures) in
      let less = part_lighter (row_items c.args.self.now) 0 c.middle-middle.result in
      omega (arith, over, less)
]
