use Rattle.std.proofs.Common.{List, ap, map, subst, sym, refl, ◌∙◌, ◌+◌, ◌^◌}
use Rattle.std.specs.Arc.{arc_value}
use Rattle.r4_cell.specs.Seen.{CellSeen}
use Rattle.r4_edit.specs.Editing.{given_item}
use Rattle.r4_edit_testing.specs.Trials.{IsPathOver}
use Rattle.r4_edit_testing.proofs.ShortOver.{over_here, twig_fits}
use Rattle.r4_edit_testing.proofs.trials.put_blocks.Goals as goal

pub insert-requires-clause-path : goal.insert-requires-clause-path
insert-requires-clause-path c =
    over_here (map arc_value c.args.leaves.now) (map arc_value c.as_slice-2.result.now) c.path_over.new.fresh
    (record { next = c.path_over.new.fresh.next; end = 2 ^ 63 + 2000 }) (given_item c.args.key.now 5 c.args.body.now) refl
    (c.are_leaves.ensures c.if-not-are_leaves.false)
    (c.in_ok-may_lie.ensures c.if-not-branch.false)
    (subst (λ (p : List CellSeen). IsPathOver (map arc_value c.args.leaves.now) c.path_over.new.fresh p)
    (ap (map arc_value) (sym c.as_slice-2.ensures.value)) c.in_ok-path.ensures.path)
    c.in_ok-path.ensures.next refl refl
    (twig_fits arc_value c.as_slice.result.now c.as_slice-2.result.now c.index-as_slice-0.result c.deref.result.now
    c.in_ok-_pieces._pieces.items (c.as_slice.ensures.value ∙ sym c.as_slice-2.ensures.value) c.index-as_slice-0.is
    c.deref.ensures c.in_ok-_pieces.ensures)
