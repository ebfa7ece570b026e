use Rattle.std.proofs.Common.{◌∙◌, ap, subst, List}
use Rattle.std.specs.List.Sorted.{IsPermutation}
use Rattle.r4_edit.specs.r4_cell.Seen.{CellSeen}
use Rattle.r4_work.specs.Order.{places_of, without_places}
use Rattle.r4_work.proofs.Ranges.{left_alike}
use Rattle.r4_work.proofs.working.WorkingSet.put_in_place.Goals as goal

pub returns-clause-done : goal.returns-clause-done
returns-clause-done c = record {
  kept = c.take_out_all.ensures
      ∙ (ap (λ (xs : List CellSeen). without_places (places_of xs) c.args.self.now.kept) c.as_slice-2.ensures
      ∙ left_alike c.args.self.now.kept c.args.change.now.old c.requires);
  followed = c.in_ok-whole.ensures;
  made = subst (λ (xs : List CellSeen). IsPermutation xs c.in_ok-made.made) c.as_slice.ensures c.in_ok-made.ensures.same;
}
