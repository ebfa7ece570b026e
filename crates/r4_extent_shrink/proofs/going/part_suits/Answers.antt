use Rattle.std.proofs.Common.{◌≡◌, List, map, sym, ap, ◌∙◌}
use Rattle.std.specs.Prelude.{◌||◌, nat_le}
use Rattle.std.specs.Arc.{arc_value}
use Rattle.std.specs.List.{list_all}
use Rattle.r4_base.specs.Key.{rank}
use Rattle.r4_extent_growth.specs.Turning.{ends_by}
use Rattle.r4_extent_growth.specs.r4_measure.r4_branch.Pieces.{part_names}
use Rattle.r4_extent_growth.specs.r4_measure.r4_branch.declared.piece.TwigPart.{TwigPart}
use Rattle.r4_extent_growth.specs.r4_measure.r4_branch.declared.piece.TwigPart.TheVariants.{Blocks}
use Rattle.r4_extent_growth.specs.r4_measure.r4_branch.declared.piece.TwigPiece.{TwigPiece}
use Rattle.r4_extent_growth.specs.r4_measure.r4_cell.Seen.{CellSeen}
use Rattle.r4_extent_shrink.specs.Going.{name_suits}
use Rattle.r4_extent_shrink.proofs.Names.{unit_apart}
use Rattle.r4_extent_shrink.proofs.going.part_suits.Goals as goal

pub returns-then-is_apart : goal.returns-then-is_apart
returns-then-is_apart c =
    let cells : List CellSeen = map (λ x. arc_value x) c.args.cells.now in
    let from = rank c.args.gone.now.from in
    let to = rank c.args.gone.now.to in
    let p = c.args.piece.now in
    let u = c.in-Blocks.unit in
    let is : p.part ≡ Blocks u = c.in-Blocks.is in
    let same : p ≡ record { key = p.key; part = Blocks u } = λ i. record { key = p.key; part = is i } in
    let apart = ap (λ (q : TwigPiece). nat_le to (rank q.key) || ends_by from q) (sym same) ∙ (sym c.is_apart.ensures ∙ c.if-is_apart.true) in
    c.if-is_apart.true ∙ sym (ap (λ (x : TwigPart). list_all (name_suits from to cells) (part_names (rank p.key) (rank c.args.next) x)) is ∙ unit_apart from to cells p.key u apart)
