use Rattle.std.proofs.Common.{◌≡◌, ap, ◌∙◌, refl}
use Rattle.r4_base.specs.Bytes.{put_all}
use Rattle.r4_base.specs.Stat.{attr_of, stat_of}
use Rattle.r4_base.proofs.Stats.{stat_table, is_stat_body, attr_again, stat_again}
use Rattle.r4_meta.proofs.stat.write_stat.Goals as goal

pub returns-clause-spelled : goal.returns-clause-spelled
returns-clause-spelled c =
    let chain : c.put_attributes.new.body ≡ put_all (stat_table c.args.a.now) 0 c.args.body.now = rw (c.put_attributes.ensures.spelled, c.put16.ensures) refl in
    chain ∙ is_stat_body c.args.a.now c.args.body.now c.requires

pub returns-clause-fields : goal.returns-clause-fields
returns-clause-fields c = ap attr_of (returns-clause-spelled c) ∙ attr_again c.args.a.now c.put_attributes.ensures.fit

pub returns-clause-again : goal.returns-clause-again
returns-clause-again c kind = ap stat_of (returns-clause-spelled c) ∙ stat_again c.args.a.now c.put_attributes.ensures.fit kind
