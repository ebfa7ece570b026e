use Rattle.std.proofs.Common.{sym, ap, subst, ◌∙◌}
use Rattle.std.proofs.lemmas.Result.{IfOk-weaker}
use Rattle.r4_base.specs.Key.{rank}
use Rattle.r4_leaf.specs.Remade.{CanPutAll, cut_all, put_all}
use Rattle.r4_leaf.proofs.remaking.pieces_after.Goals as goal

pub put_each-requires-clause-pieces : goal.put_each-requires-clause-pieces
put_each-requires-clause-pieces c =
    let (hi, (lie, within)) = c.requires.leaf in
    (rank c.args.lo, hi, (c.in_ok-left.ensures.follow (rank c.args.lo) hi (c.in_ok-pieces.ensures.follow (rank c.args.lo) hi lie), within))

pub put_each-requires-clause-can : goal.put_each-requires-clause-can
put_each-requires-clause-can c =
    subst (CanPutAll c.args.items.now) (sym (c.in_ok-left.ensures.units ∙ ap (cut_all c.args.cuts.now) c.in_ok-pieces.ensures.units)) c.requires.can

pub returns-clause-units : goal.returns-clause-units
returns-clause-units c =
    IfOk-weaker c.put_each.result _ _
    (λ v units. units ∙ ap (put_all c.args.items.now) (c.in_ok-left.ensures.units ∙ ap (cut_all c.args.cuts.now) c.in_ok-pieces.ensures.units)) c.put_each.ensures.units

pub returns-clause-follow : goal.returns-clause-follow
returns-clause-follow c =
    IfOk-weaker c.put_each.result _ _
    (λ v follow hi lie within. follow (rank c.args.lo) hi (c.in_ok-left.ensures.follow (rank c.args.lo) hi (c.in_ok-pieces.ensures.follow (rank c.args.lo) hi lie)) within)
    c.put_each.ensures.follow
