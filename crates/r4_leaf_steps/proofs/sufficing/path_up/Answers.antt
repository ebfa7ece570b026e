use Rattle.std.proofs.Common.{◌∙◌, ap, map}
use Rattle.std.specs.Arc.{arc_value}
use Rattle.std.specs.Prelude.{reverse}
use Rattle.std.proofs.lemmas.List.{reverse-reverse}
use Rattle.r4_base.specs.Key.{rank}
use Rattle.r4_build.proofs.r4_work.Ups.{map_reverse}
use Rattle.r4_build.specs.r4_work.Working.{path_of}
use Rattle.r4_leaf_steps.proofs.sufficing.path_up.Goals as goal

pub returns : goal.returns
returns c t r f is =
    ap (map (λ x. arc_value x)) c.reverse.ensures.items
    ∙ (map_reverse (λ x. arc_value x) c.in_ok-path.path.items
    ∙ (ap reverse (c.in_ok-path.ensures t r f is) ∙ reverse-reverse (path_of c.args.set.now (rank c.args.key.now))))
