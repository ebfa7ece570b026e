use Rattle.std.proofs.Common.{sym, ◌∙◌}
use Rattle.r4_cell.proofs.BodyEnds.{pointer_found_at, pointer_refused, names_none, names_other}
use Rattle.r4_cell.proofs.body.last_of_pointer.Goals as goal

pub returns-in_default : goal.returns-in_default
returns-in_default c = pointer_refused c.args.blocks _ c.requires (names_none c.args.blocks _ (sym c.in_default.ensures.value))

pub returns : goal.returns
returns c = pointer_found_at c.args.blocks c.in-Some.field-0.0 _ c.requires (sym c.in-Some.ensures.value) (sym c.is_block.ensures ∙ c.if-not-is_block.false)

pub returns-then-not-is_block : goal.returns-then-not-is_block
returns-then-not-is_block c = pointer_refused c.args.blocks _ c.requires (names_other c.args.blocks c.in-Some.field-0.0 _ (sym c.in-Some.ensures.value) (sym c.is_block.ensures ∙ c.if-not-is_block.true))
