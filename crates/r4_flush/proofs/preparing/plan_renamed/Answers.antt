use Rattle.std.proofs.Common.{◌≢◌, ◌<◌, ◌≤◌, ℕ, List, length, map, sym, ap, ◌∙◌, subst}
use Rattle.std.specs.Prelude.{All}
use Rattle.std.specs.Arc.{arc_value}
use Rattle.std.proofs.lemmas.List.{length-map}
use Rattle.std.proofs.lemmas.List.Elements.{All-contains}
use Rattle.r4_base.specs.Bitmap.{bitmap_count}
use Rattle.r4_cell.specs.Seen.{CellSeen}
use Rattle.r4_space.specs.Accounts.{price_formula}
use Rattle.r4_space.specs.Space.{unused_count}
use Rattle.r4_place.specs.Chosen.{fresh_blocks}
use Rattle.r4_flushed.specs.r4_commit.Places.{overwritten_blocks}
use Rattle.r4_flush.specs.Prepared.{cells_of}
use Rattle.r4_flush.proofs.Overwriting.{overwritten_stand, placed_by_block, price_pays}
use Rattle.r4_flush.proofs.preparing.plan_renamed.Goals as goal

pub plan-requires-clause-room : goal.plan-requires-clause-room
plan-requires-clause-room c =
    let cells = ap (map (λ x. arc_value x)) c.as_slice.ensures.value ∙ c.in_ok-cells.ensures in
    subst (λ (l : List CellSeen). price_formula (length (overwritten_blocks c.as_slice-2.result.now l))
    (bitmap_count c.args.space.now.block_count) ≤ unused_count c.args.space.now) (sym cells)
    (price_pays c.as_slice-2.result.now (cells_of c.args.renamed.now) (length c.args.renamed.now)
    (bitmap_count c.args.space.now.block_count) (unused_count c.args.space.now)
    (length-map c.args.renamed.now (λ r. arc_value r.cell)) c.requires.room)

pub plan-requires-clause-overwritten : goal.plan-requires-clause-overwritten
plan-requires-clause-overwritten c =
    let cells = ap (map (λ x. arc_value x)) c.as_slice.ensures.value ∙ c.in_ok-cells.ensures in
    subst (λ (l : List CellSeen). All (λ (b : ℕ). (b ≢ 0) × (b < c.args.space.now.block_count))
    (overwritten_blocks c.as_slice-2.result.now l)) (sym cells)
    (overwritten_stand (λ (b : ℕ). (b ≢ 0) × (b < c.args.space.now.block_count)) c.as_slice-2.result.now
    (cells_of c.args.renamed.now)
    (λ x one. All-contains (λ (y : CellSeen). (y.id ≢ 0) × (y.id < c.args.space.now.block_count))
    (cells_of c.args.renamed.now) x c.requires.within one))

pub plan-requires-clause-placed : goal.plan-requires-clause-placed
plan-requires-clause-placed c =
    let answers = ap fresh_blocks (c.as_slice-2.ensures.value ∙ c.in_ok-answers.ensures)
    ∙ placed_by_block c.args.answers.now in
    subst (All (λ (b : ℕ). b < c.args.space.now.block_count)) (sym answers) c.requires.placed
