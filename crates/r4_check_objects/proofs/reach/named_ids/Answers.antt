use Rattle.std.proofs.Common.{List, subst}
use Rattle.std.proofs.lemmas.List.{take_all}
use Rattle.r4_check_objects.specs.Reach.{AreNamed}
use Rattle.r4_check_objects.specs.declared.held.Held.{Held}
use Rattle.r4_check_objects.proofs.Names.{name_more, name_none, no_names}
use Rattle.r4_check_objects.proofs.reach.named_ids.Goals as goal
use Rattle.r4_check_objects.proofs.reach.named_ids.Goals.{in-Some+in_ok-add_name, in_default}

pub loop-held-init : goal.loop-held-init
loop-held-init c = no_names c.new-named.result c.new-named.ensures.empty

pub loop-held-preserved : goal.loop-held-preserved
loop-held-preserved c = elim c.match-target.branch [
  | in-Some+in_ok-add_name w ↦ name_more c.args.found.now c.loop-held.held-index _ c.loop-held-test.true c.loop-held.named c.match-target.named c.loop-held.invariant c.target.result w.in-Some.target w.id.result w.add_name.new.named c.target.ensures w.in-Some.is w.id.ensures w.in_ok-add_name.ensures w.named-is
  | in_default w ↦ name_none c.args.found.now c.loop-held.held-index _ c.loop-held-test.true c.loop-held.named c.match-target.named c.loop-held.invariant c.target.result c.target.ensures w.in_default.is w.named-is
]

pub returns : goal.returns
returns c = subst (λ (l : List Held). AreNamed l c.loop-held.named) (take_all c.loop-held.held-index c.args.found.now c.loop-held-test.false) c.loop-held.invariant
