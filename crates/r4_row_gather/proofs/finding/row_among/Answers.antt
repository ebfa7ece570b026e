use Rattle.std.proofs.Common.{◌∙◌, ◌∷◌, ◌++◌, [], ap, map, subst, sym, ◌≡◌}
use Rattle.std.specs.Arc.{arc_value}
use Rattle.std.proofs.lemmas.List.{map-append}
use Rattle.r4_base.specs.Key.{rank}
use Rattle.r4_work.specs.r4_cell.Seen.{CellSeen}
use Rattle.r4_row_gather.specs.Finding.{IsRowFrom}
use Rattle.r4_row_gather.proofs.Found.{one_more_row, one_row}
use Rattle.r4_row_gather.proofs.finding.row_among.Goals as goal

pub loop-init : goal.loop-init
loop-init c =
    let cells = map arc_value c.args.cells.now in
    let first = arc_value c.in-Some.first.now in
    let end : rank first.hi ≡ rank c.hi-hi.result =
    sym (ap rank (c.hi-hi.ensures ∙ ap (λ (x : CellSeen). x.hi) c.deref.ensures)) in
    let row : first ∷ [] ≡ map arc_value c.push.new.self.items =
    sym (ap (map arc_value) (c.in_ok-push.ensures.items ∙ ap (λ xs. xs ++ c.in_ok-try_clone.field-0 ∷ []) c.new-row.ensures.items)
    ∙ ap (λ (x : CellSeen). x ∷ []) c.in_ok-try_clone.ensures) in
    subst (λ k. IsRowFrom cells c.args.level (rank c.args.from) k (map arc_value c.push.new.self.items)) end
    (subst (IsRowFrom cells c.args.level (rank c.args.from) (rank first.hi)) row
    (one_row cells c.args.level (rank c.args.from) first c.in-Some.ensures))

pub loop-preserved : goal.loop-preserved
loop-preserved c =
    let cells = map arc_value c.args.cells.now in
    let next = arc_value c.in-Some-cell_from.next.now in
    let end : rank next.hi ≡ rank c.hi-hi-in-loop.result =
    sym (ap rank (c.hi-hi-in-loop.ensures ∙ ap (λ (x : CellSeen). x.hi) c.deref-in-loop.ensures)) in
    let row : map arc_value c.loop.row.items ++ next ∷ [] ≡ map arc_value c.push-in-loop.new.self.items =
    sym (ap (map arc_value) c.in_ok-push-2.ensures.items
    ∙ (map-append arc_value c.loop.row.items (c.in_ok-try_clone-2.field-0 ∷ [])
    ∙ ap (λ (x : CellSeen). map arc_value c.loop.row.items ++ x ∷ []) c.in_ok-try_clone-2.ensures)) in
    subst (λ k. IsRowFrom cells c.args.level (rank c.args.from) k (map arc_value c.push-in-loop.new.self.items)) end
    (subst (IsRowFrom cells c.args.level (rank c.args.from) (rank next.hi)) row
    (one_more_row cells c.args.level (rank c.args.from) (rank c.loop.hi) (map arc_value c.loop.row.items) next
    c.loop.invariant c.in-Some-cell_from.ensures))
