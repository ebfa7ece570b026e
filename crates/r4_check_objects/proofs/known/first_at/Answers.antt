use Rattle.std.proofs.Common.{◌∙◌, ap, sym}
use Rattle.std.specs.List.{find}
use Rattle.std.proofs.lemmas.List.{take_all}
use Rattle.r4_check_objects.specs.Objects.{is_object_at}
use Rattle.r4_check_objects.proofs.Names.{find_here, find_more}
use Rattle.r4_check_objects.proofs.known.first_at.Goals as goal

pub loop-held-preserved : goal.loop-held-preserved
loop-held-preserved c = find_more (is_object_at c.args.object.now) c.args.others.now c.loop-held.held-index _ c.loop-held-test.true c.loop-held.invariant (sym c.is_object_at.ensures ∙ c.if-is_object_at.false)

pub returns-then-is_object_at : goal.returns-then-is_object_at
returns-then-is_object_at c = sym (find_here (is_object_at c.args.object.now) c.args.others.now c.loop-held.held-index _ c.loop-held-test.true c.loop-held.invariant (sym c.is_object_at.ensures ∙ c.if-is_object_at.true))

pub returns : goal.returns
returns c = sym (sym (ap (find (is_object_at c.args.object.now)) (take_all c.loop-held.held-index c.args.others.now c.loop-held-test.false)) ∙ c.loop-held.invariant)
