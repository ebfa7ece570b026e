use Rattle.std.proofs.Common.{◌≡◌, sym, ap, subst}
use Rattle.std.specs.Arc.{arc_value}
use Rattle.std.specs.Option.{option_copied, option_map}
use Rattle.r4_path.specs.r4_cell.Seen.{CellSeen}
use Rattle.r4_edit.proofs.cutting.taken_up.Goals as goal

pub widened-requires-clause-level : goal.widened-requires-clause-level
widened-requires-clause-level c =
    subst (λ (x : CellSeen). x.level ≡ 1) (sym c.deref.ensures)
    (c.requires.leaf (arc_value c.in-Some.leaf.now) (ap (λ o. option_map arc_value (option_copied o)) c.in-Some.is)).0
