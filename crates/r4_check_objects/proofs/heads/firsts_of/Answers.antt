use Rattle.std.proofs.Common.{List, subst, sym, take}
use Rattle.std.proofs.lemmas.List.{take_all, take_more}
use Rattle.r4_check_objects.specs.Known.{AreFirsts}
use Rattle.r4_check_objects.specs.declared.held.Held.{Held}
use Rattle.r4_check_objects.proofs.heads.firsts_of.Goals as goal

pub loop-held-preserved : goal.loop-held-preserved
loop-held-preserved c = subst (λ (l : List Held). AreFirsts l c.note.new.self) (sym (take_more c.args.found.now c.loop-held.held-index _ c.loop-held-test.true)) (c.in_ok-note.ensures (take c.loop-held.held-index c.args.found.now) c.loop-held.invariant)

pub returns : goal.returns
returns c = subst (λ (l : List Held). AreFirsts l c.loop-held.firsts) (take_all c.loop-held.held-index c.args.found.now c.loop-held-test.false) c.loop-held.invariant
