use Rattle.std.proofs.Common.{ap, ◌∙◌}
use Rattle.r4_bodies.specs.r4_leaf_edits.r4_reach.Reach.{is_body}
use Rattle.r4_bodies.specs.r4_leaf_edits.r4_reach.Touched.{Body}
use Rattle.r4_extent_demands.proofs.sized_body.SizedBody.first_byte.Goals as goal

pub first_of-requires : goal.first_of-requires
first_of-requires c = ap (λ (x : Body). is_body x.first) c.self.view_is ∙ c.requires.body

pub returns : goal.returns
returns c = c.first_of.ensures c.args.self.now (ap (λ (x : Body). x.file) c.self.view_is)
