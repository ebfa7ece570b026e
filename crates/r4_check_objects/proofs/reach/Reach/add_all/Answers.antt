use Rattle.std.proofs.Common.{List, ℕ, subst}
use Rattle.std.proofs.lemmas.List.{take_all}
use Rattle.r4_check_objects.specs.Reach.{Grows}
use Rattle.r4_check_objects.proofs.Among.{grows_more, grows_none}
use Rattle.r4_check_objects.proofs.reach.Reach.add_all.Goals as goal

pub loop-id-init : goal.loop-id-init
loop-id-init c = grows_none c.args.self.now c.requires

pub add-requires : goal.add-requires
add-requires c = c.loop-id.invariant.good

pub loop-id-preserved : goal.loop-id-preserved
loop-id-preserved c = grows_more c.args.ids.now c.loop-id.id-index 0 c.loop-id-test.true c.args.self.now c.loop-id.self c.add.new.self c.loop-id.invariant c.in_ok-add.ensures

pub returns : goal.returns
returns c = subst (λ (l : List ℕ). Grows l c.args.self.now c.loop-id.self) (take_all c.loop-id.id-index c.args.ids.now c.loop-id-test.false) c.loop-id.invariant
