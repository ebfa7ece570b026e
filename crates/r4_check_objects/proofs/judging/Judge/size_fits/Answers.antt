use Rattle.std.proofs.Common.{ℕ, ◌==◌, ◌∙◌, ap, sym}
use Rattle.r4_check_objects.proofs.Told.{directory_size, few_entries}
use Rattle.r4_check_objects.proofs.judging.Judge.size_fits.Goals as goal

pub returns-then-facts-2 : goal.returns-then-facts-2
returns-then-facts-2 c found j =
    ap (λ (n : ℕ). c.args.facts.size == n) (c.get.ensures ∙ j.totals.entries.each c.args.id ∙ few_entries found c.args.id j.few)
    ∙ sym (directory_size found c.args.id c.args.facts c.if-facts.false c.if-facts-2.true)
