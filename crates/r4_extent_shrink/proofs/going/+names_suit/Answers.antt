use Rattle.std.proofs.Common.{List, map, sym, ap, ◌∙◌}
use Rattle.std.specs.Arc.{arc_value}
use Rattle.std.specs.List.{list_all}
use Rattle.r4_base.specs.Key.{rank}
use Rattle.r4_extent_growth.specs.r4_measure.r4_branch.Pieces.{names_of, part_names}
use Rattle.r4_extent_growth.specs.r4_measure.r4_branch.declared.piece.TwigPiece.{TwigPiece}
use Rattle.r4_extent_growth.specs.r4_measure.r4_cell.Seen.{CellSeen}
use Rattle.r4_extent_growth.proofs.Tests.{and_off, and_on}
use Rattle.r4_extent_shrink.specs.Going.{name_suits}
use Rattle.r4_extent_shrink.proofs.Names.{first_named, none_named}
use Rattle.r4_extent_shrink.proofs.going.+names_suit.Goals as goal

pub returns-in-None : goal.returns-in-None
returns-in-None t c =
    let cells : List CellSeen = map (λ x. arc_value x) c.args.cells.now in
    let P = name_suits (rank c.args.gone.now.from) (rank c.args.gone.now.to) cells in
    sym (none_named P (rank c.args.hi) c.args.pieces.now c.in-None.ensures.cases)

pub returns-then-part_suits : goal.returns-then-part_suits
returns-then-part_suits t c =
    let cells : List CellSeen = map (λ x. arc_value x) c.args.cells.now in
    let P = name_suits (rank c.args.gone.now.from) (rank c.args.gone.now.to) cells in
    let hi = rank c.args.hi in
    let first = c.in-Some.first.now in
    let rest = c.in-Some.rest.now in
    let told = ap (λ n. list_all P (part_names (rank first.key) n first.part)) (sym c.first_key-next.ensures) ∙ (sym c.part_suits.ensures ∙ c.if-part_suits.true) in
    and_on _ _ c.names_suit.result told c.names_suit.ensures
    ∙ sym (ap (λ (ps : List TwigPiece). list_all P (names_of hi ps)) c.in-Some.ensures.cases.0 ∙ first_named P hi first rest)

pub returns-else-part_suits : goal.returns-else-part_suits
returns-else-part_suits t c =
    let cells : List CellSeen = map (λ x. arc_value x) c.args.cells.now in
    let P = name_suits (rank c.args.gone.now.from) (rank c.args.gone.now.to) cells in
    let hi = rank c.args.hi in
    let first = c.in-Some.first.now in
    let rest = c.in-Some.rest.now in
    let told = ap (λ n. list_all P (part_names (rank first.key) n first.part)) (sym c.first_key-next.ensures) ∙ (sym c.part_suits.ensures ∙ c.if-part_suits.false) in
    and_off _ (list_all P (names_of hi rest)) c.part_suits.result told c.if-part_suits.false
    ∙ sym (ap (λ (ps : List TwigPiece). list_all P (names_of hi ps)) c.in-Some.ensures.cases.0 ∙ first_named P hi first rest)
