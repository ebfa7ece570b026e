use Rattle.std.proofs.Common.{◌∙◌, ◌∷◌, ◌++◌, [], ap, map, sym}
use Rattle.std.specs.Prelude.{None}
use Rattle.std.specs.Arc.{arc_value}
use Rattle.std.specs.Option.{option_map}
use Rattle.std.proofs.lemmas.List.{map-append}
use Rattle.r4_rows.specs.Rows.{news_in}
use Rattle.r4_row_edit.specs.Climbing.{row_of}
use Rattle.r4_row_edit.proofs.Shifts.{news_over}
use Rattle.r4_row_edit.proofs.shifting.gather.Goals as goal

pub returns-clause-new : goal.returns-clause-new
returns-clause-new c = c.from_vec-3.ensures
    ∙ (ap (map arc_value) c.in_ok-push.ensures.items
    ∙ (map-append arc_value c.add_new.new.cells.items (c.in-Some.cell ∷ [])
    ∙ (ap (λ xs. xs ++ arc_value c.in-Some.cell ∷ []) (c.in_ok-add_new.ensures
    ∙ ap (λ xs. map arc_value xs ++ news_in (map row_of c.args.rows.now) None) c.new-new.ensures.items)
    ∙ (news_over (map row_of c.args.rows.now) (arc_value c.in-Some.cell)
    ∙ ap (λ o. news_in (map row_of c.args.rows.now) (option_map arc_value o)) (sym c.in-Some.is)))))
