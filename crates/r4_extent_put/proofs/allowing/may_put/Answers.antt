use Rattle.std.proofs.Common.{◌≡◌, List, map, true, sym, ◌∙◌}
use Rattle.std.specs.Prelude.{Contains}
use Rattle.std.specs.Arc.{arc_value}
use Rattle.std.specs.List.{list_all}
use Rattle.std.specs.Option.{option_copied}
use Rattle.r4_content.specs.Held.{edits_of}
use Rattle.r4_extent_turned.proofs.r4_extent_growth.Tests.{both_ok}
use Rattle.r4_extent_turned.specs.r4_extent_growth.r4_measure.r4_cell.Seen.{CellSeen}
use Rattle.r4_extent_put.specs.Allowing.{MayPutAll}
use Rattle.r4_extent_put.specs.Taking.{IsKnown, takes_values}
use Rattle.r4_extent_put.specs.Whole.{putting_among}
use Rattle.r4_extent_put.proofs.Found.{put_found}
use Rattle.r4_extent_put.proofs.allowing.may_put.Goals as goal

pub returns-clause-may : goal.returns-clause-may
returns-clause-may c =
    let b = option_copied c.args.body in
    let e = edits_of c.args.edits.now in
    let f = c.args.fresh.now in
    let cells : List CellSeen = map (λ x. arc_value x) c.args.cells.now in
    let leaves = c.is_in_leaves.ensures.leaves c.if-not-is_in_leaves.false in
    let numbers = sym c.in_ok-has_numbers.ensures ∙ c.if-not-branch.false in
    both_ok c.take_all.result (λ ok. ok ≡ list_all (takes_values b e) (putting_among b e cells))
    (λ ok. ok ≡ true → (x : CellSeen) → Contains cells x → IsKnown b e x)
    (λ ok. ok ≡ true → MayPutAll b e f cells)
    (λ ok exact known yes. put_found b e f cells leaves numbers (sym exact ∙ yes) (known yes))
    c.take_all.ensures.exact c.take_all.ensures.known
