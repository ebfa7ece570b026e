use Rattle.std.proofs.Common.{sym, ap, ◌∙◌}
use Rattle.std.specs.Option.{option_map}
use Rattle.r4_base.specs.Key.{rank}
use Rattle.r4_content.specs.Ways.{entry_in}
use Rattle.r4_dir.specs.Finding.{named_of}
use Rattle.r4_dir.proofs.Finds.{no_entry, none_found, one_found}
use Rattle.r4_dir.proofs.finding.entry_at.Goals as goal

pub returns-in_err-value_at : goal.returns-in_err-value_at
returns-in_err-value_at c = ap (option_map named_of) c.from_residual.ensures ∙ sym (no_entry _ (none_found c.args.seen.now.parts.items (rank c.args.key) c.in_err-value_at.ensures.none))

pub returns : goal.returns
returns c = c.entry_of.ensures ∙ sym (ap entry_in (one_found c.args.seen.now.parts.items (rank c.args.key) _ c.requires c.in_ok-value_at.ensures.some))
