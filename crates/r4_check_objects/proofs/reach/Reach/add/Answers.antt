use Rattle.std.proofs.Common.{◌∙◌, sym}
use Rattle.r4_check_objects.proofs.Among.{adds_new}
use Rattle.r4_check_objects.proofs.reach.Reach.add.Goals as goal

pub returns-in_ok-push : goal.returns-in_ok-push
returns-in_ok-push c = adds_new c.args.id c.args.self.now c.put.new.self c.push.new.self c.requires (sym c.get.ensures ∙ c.if-not-get.true) c.in_ok-put.ensures c.in_ok-push.ensures.items
