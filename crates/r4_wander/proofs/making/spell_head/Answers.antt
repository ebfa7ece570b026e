use Rattle.std.proofs.Common.{ℕ, List, length, ap, sym, ◌∙◌}
use Rattle.r4_base.proofs.Lent.{refilled_is}
use Rattle.r4_logfmt.proofs.Laws.{length-head_block}
use Rattle.r4_wander.proofs.making.spell_head.Goals as goal

pub returns-clause-spelled : goal.returns-clause-spelled
returns-clause-spelled c = refilled_is c.in_ok-block.block c.write_head.new.b (ap (λ (l : List ℕ). length l) c.write_head.ensures.spelled ∙ length-head_block c.args.head.now ∙ sym c.bytes_mut.ensures.len) ∙ c.write_head.ensures.spelled
