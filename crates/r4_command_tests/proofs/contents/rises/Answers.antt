use Rattle.std.proofs.Common.{subst, sym, ◌∙◌, ap}
use Rattle.std.specs.Prelude.{T}
use Rattle.r4_command_tests.specs.Rising.{is_rising}
use Rattle.r4_command_tests.proofs.Rising.{parts_rise}
use Rattle.r4_command_tests.proofs.contents.rises.Goals as goal

pub returns : goal.returns
returns c is = parts_rise c.args.seen.now.parts.items (subst T (sym (sym (c.is_rising.ensures ∙ ap is_rising c.as_slice.ensures.value) ∙ is)) tt)
