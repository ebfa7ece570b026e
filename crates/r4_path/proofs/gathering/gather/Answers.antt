use Rattle.std.proofs.Common.{◌∙◌, ◌++◌, ap, sym, subst, map, Some, [], ◌∷◌}
use Rattle.std.proofs.lemmas.List.{map-append}
use Rattle.std.specs.Prelude.{option_map}
use Rattle.std.specs.Arc.{arc_value}
use Rattle.r4_patch.specs.r4_cell.Seen.{CellSeen}
use Rattle.r4_path.specs.Levels.{HasLevels, step_of}
use Rattle.r4_path.proofs.Upwards.{news_over}
use Rattle.r4_path.proofs.gathering.gather.Goals as goal

pub returns : goal.returns
returns c =
    let cell = arc_value c.in-Some.cell in
    let id = c.id.ensures ∙ ap (λ (x : CellSeen). x.id) c.deref.ensures in
    let height = c.level.ensures ∙ ap (λ (x : CellSeen). x.level) c.deref-2.ensures in
    subst (λ o. HasLevels (map step_of c.args.levels.now) (option_map (λ x. arc_value x) o)
    (record {
      old = c.from_vec-old.result;
      new = c.from_vec-2.result;
      root = Some
          (record { id = c.id.result; height = c.level.result });
    })) (sym c.in-Some.is)
    (record {
      old = c.from_vec-old.ensures ∙ c.in_ok-old_cells.ensures;
      new = c.from_vec-2.ensures ∙ (ap (map arc_value) c.in_ok-push.ensures.items
          ∙ (map-append arc_value c.in_ok-new.new.items (c.in-Some.cell ∷ [])
          ∙ (ap (λ xs. xs ++ cell ∷ []) c.in_ok-new.ensures ∙ sym (news_over (map step_of c.args.levels.now) cell))));
      pair = λ i. Some (record { id = record { 0 = id i }; height = height i });
    })
