use Rattle.std.proofs.Common.{◌≡◌, ◌++◌, List, [], ◌∷◌, map, sym, ap, ◌∙◌, rules}
use Rattle.std.proofs.lemmas.List.{append-nil, map-append}
use Rattle.std.specs.Arc.{arc_value}
use Rattle.r4_cell.specs.Seen.{CellSeen}
use Rattle.r4_patch.proofs.LeftOut.{kept_alone, left_out}
use Rattle.r4_patch.proofs.following.share_unless.Goals as goal

pub returns-then-is_among : goal.returns-then-is_among
returns-then-is_among c =
    sym (append-nil _)
    ∙ ap (λ (rest : List CellSeen). map (λ cell. arc_value cell) c.args.items.now.items ++ rest)
    (sym (left_out c.args.ids.now (arc_value c.args.cell.now) (search rules)))

pub returns : goal.returns
returns c =
    let pushed : c.push.new.self.items ≡ c.args.items.now.items ++ c.in_ok-try_clone.field-0 ∷ [] = search rules in
    ap (map (λ cell. arc_value cell)) pushed
    ∙ (map-append (λ cell. arc_value cell) c.args.items.now.items (c.in_ok-try_clone.field-0 ∷ [])
    ∙ ap (λ (rest : List CellSeen). map (λ cell. arc_value cell) c.args.items.now.items ++ rest)
    (ap (λ (x : CellSeen). x ∷ []) c.in_ok-try_clone.ensures
    ∙ sym (kept_alone c.args.ids.now (arc_value c.args.cell.now) (search rules))))
