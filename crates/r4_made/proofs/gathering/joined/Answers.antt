use Rattle.std.proofs.lemmas.Result.{IfOk-weaker}
use Rattle.r4_made.proofs.Gathered.{made_of_both}
use Rattle.r4_made.proofs.gathering.joined.Goals as goal

pub returns : goal.returns
returns c =
    let (t, (r, is)) = c.requires.task in
    IfOk-weaker c.follow.result _ _ (λ d followed. made_of_both c.args.task.now c.args.gathered.now c.requires.gathered
    c.args.change.now d c.requires.made followed c.requires.outside t r is) c.follow.ensures
