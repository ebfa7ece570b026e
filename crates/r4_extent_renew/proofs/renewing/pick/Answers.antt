use Rattle.std.proofs.Common.{inl, ◌++◌, [], ◌∷◌, map, refl, sym, ap, ◌∙◌}
use Rattle.std.proofs.lemmas.List.{append-nil}
use Rattle.std.specs.Arc.{arc_value}
use Rattle.r4_twig_work.specs.r4_cell.Seen.{CellSeen}
use Rattle.r4_extent_renew.proofs.Overwritten.{more_behind}
use Rattle.r4_extent_renew.proofs.renewing.pick.Goals as goal

pub returns : goal.returns
returns c =
    let this : CellSeen = arc_value c.args.cell.now in (
      this ∷ [],
      more_behind (λ x. arc_value x) c.args.blocks.now.items _ _ c.in_ok-try_clone.field-0 [] c.in_ok-push.ensures.items (sym (append-nil _))
          ∙ ap (λ (x : CellSeen). map (λ x. arc_value x) c.args.blocks.now.items ++ x ∷ []) c.in_ok-try_clone.ensures,
      inl ([], refl, sym (ap (λ (x : CellSeen). x.level) c.deref.ensures) ∙ (sym c.level.ensures ∙ c.if-level-ne0.false), refl),
    )
