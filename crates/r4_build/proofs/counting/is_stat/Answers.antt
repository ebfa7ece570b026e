use Rattle.std.proofs.Common.{ap, rules, sym}
use Rattle.std.specs.Prelude.{◌==◌}
use Rattle.r4_base.proofs.Keys.{is_key}
use Rattle.r4_base.specs.Key.{minor_of}
use Rattle.r4_base.specs.declared.key.Key.{Key}
use Rattle.r4_leaf_edits.proofs.KeyRanks.{key_again}
use Rattle.r4_build.proofs.counting.is_stat.Goals as goal

pub returns : goal.returns
returns c = sym (ap (λ (k : Key). minor_of k == 1)
    (key_again c.args.key (is_key c.args.key (search rules) (search rules) (search rules) (search rules) (search rules))))
