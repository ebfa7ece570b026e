use Rattle.std.proofs.Common.{rules, subst, sym}
use Rattle.r4_base.proofs.Keys.{is_key}
use Rattle.r4_base.specs.declared.key.Key.{Key}
use Rattle.r4_extent_demands.specs.Sizes.{IsFirstKey}
use Rattle.r4_extent_demands.proofs.Firsts.{first_key}
use Rattle.r4_extent_demands.proofs.sized_body.first_of.Goals as goal

pub returns : goal.returns
returns c = λ b file. subst (λ (k : Key). IsFirstKey b k) (sym c.with_offset.ensures)
    (first_key c.args.key b
    (is_key c.args.key (search rules) (search rules) (search rules) (search rules) (search rules)) file c.requires)
