use Rattle.std.proofs.Common.{◌∙◌, ap, sym}
use Rattle.std.specs.List.{filter}
use Rattle.std.proofs.lemmas.List.{take_all}
use Rattle.r4_check_objects.specs.Known.{is_other}
use Rattle.r4_check_objects.proofs.Names.{filter_kept, filter_put}
use Rattle.r4_check_objects.proofs.known.others_in.Goals as goal
use Rattle.r4_check_objects.proofs.known.others_in.Goals.{then-is_other+in_ok-push, else-is_other}

pub loop-held-preserved : goal.loop-held-preserved
loop-held-preserved c =
    let test = sym (c.is_other.ensures c.args.found.now c.requires) in
    elim c.if-is_other.branch [
      | then-is_other+in_ok-push w ↦ filter_put (is_other c.args.found.now) c.args.found.now c.loop-held.held-index _ c.loop-held-test.true c.loop-held.others.items c.loop-held.invariant c.if-is_other.others.items (test ∙ w.if-is_other.true) (ap (λ v. v.items) w.others-is ∙ w.in_ok-push.ensures.items)
      | else-is_other w ↦ filter_kept (is_other c.args.found.now) c.args.found.now c.loop-held.held-index _ c.loop-held-test.true c.loop-held.others.items c.loop-held.invariant c.if-is_other.others.items (test ∙ w.if-is_other.false) (ap (λ v. v.items) w.others-is)
    ]

pub returns : goal.returns
returns c = c.loop-held.invariant ∙ ap (filter (is_other c.args.found.now)) (take_all c.loop-held.held-index c.args.found.now c.loop-held-test.false)
