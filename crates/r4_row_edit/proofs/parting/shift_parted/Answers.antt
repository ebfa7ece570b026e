use Rattle.std.proofs.Common.{arith, map, subst, sym}
use Rattle.std.specs.Arc.{arc_value}
use Rattle.std.proofs.lemmas.Result.{IfOk-weaker}
use Rattle.r4_cell.specs.declared.change.Fresh.{Fresh}
use Rattle.r4_rows.specs.Fewest.{joined}
use Rattle.r4_row_edit.proofs.Parted.{can_shift}
use Rattle.r4_row_edit.proofs.Still.{is_parted}
use Rattle.r4_row_edit.proofs.TwigRows.{can_climb_on}
use Rattle.r4_row_edit.specs.Climbing.{CanClimb, row_of}
use Rattle.r4_row_edit.specs.Parting.{MayPart}
use Rattle.r4_row_edit.specs.Shifting.{HasRows}
use Rattle.r4_row_edit.specs.Twigs.{AreTwigsWith}
use Rattle.r4_row_edit.proofs.parting.shift_parted.Goals as goal

pub parted_twigs-requires : goal.parted_twigs-requires
parted_twigs-requires c = subst (λ row. MayPart row (map (λ p. p.items) c.args.parts.now)) (sym c.as_slice.ensures)
    c.requires.may

pub with_rows-requires : goal.with_rows-requires
with_rows-requires c =
    let parts = map (λ p. p.items) c.args.parts.now in
    let cells = map arc_value c.in_ok-new.new.items in
    let none : Fresh = record { next = 0; end = 0 } in
    let w = subst (λ row. AreTwigsWith row (joined parts) none none cells) c.as_slice.ensures
    (c.in_ok-new.ensures.twigs none) in
    subst (λ cs. CanClimb 2 (record { old = c.args.row; new = cs }) c.args.above.items none) (sym c.from_vec.ensures)
    (can_climb_on c.args.row cells (joined parts) c.args.above.items 0 none none
    (can_shift c.args.row parts c.args.above.items none c.requires (omega arith)) w)

pub returns : goal.returns
returns c =
    let parts = map (λ p. p.items) c.args.parts.now in
    let cells = map arc_value c.in_ok-new.new.items in
    let none : Fresh = record { next = 0; end = 0 } in
    IfOk-weaker c.with_rows.result _ _ (λ d h.
    is_parted (row_of c.args.below) c.args.row parts c.args.above.items cells none c.with_rows.new.fresh d
    c.requires.may c.in_ok-new.ensures.have
    (λ f. subst (λ row. AreTwigsWith row (joined parts) f f cells) c.as_slice.ensures (c.in_ok-new.ensures.twigs f))
    (subst (λ cs. HasRows (row_of c.args.below) (record { old = c.args.row; new = cs }) c.args.above.items none
    c.with_rows.new.fresh d) c.from_vec.ensures h)) c.with_rows.ensures
