use Rattle.std.proofs.Common.{◌++◌, map, sym, ap, subst, ◌∙◌}
use Rattle.std.proofs.lemmas.List.{append_assoc}
use Rattle.std.specs.Arc.{arc_value}
use Rattle.r4_content.specs.Held.{edits_of}
use Rattle.r4_extent_renew.specs.Overwriting.{AreSetAmong}
use Rattle.r4_extent_renew.proofs.Picked.{picked_more}
use Rattle.r4_extent_renew.proofs.renewing.+pick_each.Goals as goal

pub returns-in_ok-pick_each-in-Some : goal.returns-in_ok-pick_each-in-Some
returns-in_ok-pick_each-in-Some t c =
    let e = edits_of c.args.edits.now in
    let is = ap (map (λ x. arc_value x)) c.in-Some.ensures.cases.0 in
    let (one, one_is, first) = c.in_ok-pick-in-Some.ensures in
    let (more, more_is, rest) = c.in_ok-pick_each-in-Some.ensures in (
      one ++ more,
      more_is ∙ (ap (λ xs. xs ++ more) one_is ∙ append_assoc (map (λ x. arc_value x) c.args.blocks.now.items) one more),
      subst (λ xs. AreSetAmong e xs (one ++ more)) (sym is) (picked_more e _ _ one more first rest),
    )
