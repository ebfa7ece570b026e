use Rattle.std.proofs.Common.{sym, ap, ◌∙◌}
use Rattle.std.specs.Prelude.{◌==◌}
use Rattle.r4_base.specs.Key.{rank}
use Rattle.r4_leaf.specs.Measure.{takes_entry}
use Rattle.r4_leaf.specs.declared.measuring.Tip.{Tip}
use Rattle.r4_leaf.proofs.Weighed.{first_number}
use Rattle.r4_leaf.proofs.measuring.continues_entry.Goals as goal

pub returns-in-Directory : goal.returns-in-Directory
returns-in-Directory c = λ before tip.
    ap (λ n. c.in-Directory.number == n) (sym (first_number c.args.key.now c.requires))
    ∙ (sym (ap (λ (t : Tip). takes_entry t (rank c.args.key.now)) c.in-Directory.is)
    ∙ sym (tip.entries (rank c.args.key.now)))
