use Rattle.std.proofs.Common.{◌∷◌, length, map, refl, sym, ap, subst, ◌∙◌, arith}
use Rattle.std.specs.Prelude.{Contains}
use Rattle.std.specs.Arc.{arc_value}
use Rattle.r4_twig_work.specs.r4_cell.Seen.{CellSeen}
use Rattle.r4_content.specs.Held.{edits_of}
use Rattle.r4_extent_blocks.specs.Setting.{IsOverwritten}
use Rattle.r4_twig_work.proofs.r4_patch.Members.{here, later}
use Rattle.r4_extent_renew.specs.Overwriting.{AreOverwritten}
use Rattle.r4_extent_renew.proofs.Overwritten.{more_behind}
use Rattle.r4_extent_renew.proofs.renewing.+overwrite_each.Goals as goal

pub overwritten-requires : goal.overwritten-requires
overwritten-requires t c =
    let is = ap (map (λ x. arc_value x)) c.in-Some.ensures.cases.0 in
    ap (λ (x : CellSeen). x.level) c.deref.ensures
    ∙ c.requires (arc_value c.in-Some.first.now) (subst (λ xs. Contains xs (arc_value c.in-Some.first.now)) (sym is) (here (arc_value c.in-Some.first.now) (map (λ x. arc_value x) c.in-Some.rest.now)))

pub overwrite_each-requires : goal.overwrite_each-requires
overwrite_each-requires t c =
    let is = ap (map (λ x. arc_value x)) c.in-Some.ensures.cases.0 in
    let n = ap length c.in-Some.ensures.cases.0 in (
      omega (arith, n),
      λ d at. c.requires d (subst (λ xs. Contains xs d) (sym is) (later (arc_value c.in-Some.first.now) d (map (λ x. arc_value x) c.in-Some.rest.now) at)),
    )

pub returns-in_ok-overwrite_each-in-Some : goal.returns-in_ok-overwrite_each-in-Some
returns-in_ok-overwrite_each-in-Some t c =
    let e = edits_of c.args.edits.now in
    let is = ap (map (λ x. arc_value x)) c.in-Some.ensures.cases.0 in
    let d : CellSeen = arc_value c.in_ok-overwritten-in-Some.field-0 in
    let (news, news_are, made) = c.in_ok-overwrite_each-in-Some.ensures in
    let over : IsOverwritten e (arc_value c.in-Some.first.now) d = subst (λ (x : CellSeen). IsOverwritten e x d) c.deref.ensures c.in_ok-overwritten-in-Some.ensures in (
      d ∷ news,
      more_behind (λ x. arc_value x) _ _ _ c.in_ok-overwritten-in-Some.field-0 news c.in_ok-push-in-Some.ensures.items news_are,
      subst (λ xs. AreOverwritten e xs (d ∷ news)) (sym is) (d, news, refl, over, made),
    )
