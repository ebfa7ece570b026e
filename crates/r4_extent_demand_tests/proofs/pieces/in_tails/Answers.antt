use Rattle.std.proofs.Common.{subst, sym, ◌∙◌}
use Rattle.std.proofs.lemmas.Bool.{eq-eqb}
use Rattle.r4_leaf_edits.proofs.KeyRanks.{body_is}
use Rattle.r4_reach.specs.Touched.{Body}
use Rattle.r4_extent_demands.specs.Sizes.{IsSizedBody}
use Rattle.r4_extent_demand_tests.proofs.pieces.in_tails.Goals as goal

pub returns : goal.returns
returns c = subst (λ (b : Body). IsSizedBody b) (sym c.new.ensures) (record {
  body = body_is c.byte.result c.byte.ensures.key ∙ eq-eqb _ 4 c.byte.ensures.minor;
  was = c.requires.before;
  now = c.requires.after;
})
