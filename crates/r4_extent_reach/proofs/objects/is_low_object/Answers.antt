use Rattle.std.proofs.Common.{ap, refl, subst, sym, ◌∙◌}
use Rattle.std.specs.Prelude.{MatchBool}
use Rattle.r4_base.specs.Key.{rank}
use Rattle.r4_content.specs.Held.{part_pairs}
use Rattle.r4_content.specs.declared.seen.SeenPart.{SeenPart}
use Rattle.r4_content.specs.declared.seen.SeenPart.TheVariants.{One}
use Rattle.r4_extent_reaching.specs.r4_reaching.Answers.{HaveObjectNumbers, SeesLowObject}
use Rattle.r4_extent_reach.proofs.Numbers.{run_numbers}
use Rattle.r4_extent_reach.proofs.objects.is_low_object.Goals as goal

pub returns-in-Attr : goal.returns-in-Attr
returns-in-Attr c =
    subst (λ (p : SeenPart). MatchBool c.is_low_number.result (SeesLowObject (part_pairs p))
    (HaveObjectNumbers (part_pairs p))) (sym (c.in-One.is ∙ ap (λ v. One c.in-One.key v) c.in-Attr.is))
    (c.is_low_number.ensures c.in-Attr.attr refl)

pub returns-in-Run : goal.returns-in-Run
returns-in-Run c = subst (λ (p : SeenPart). HaveObjectNumbers (part_pairs p)) (sym c.in-Run.is)
    (run_numbers (rank c.in-Run.field-0.from) c.in-Run.field-0.bytes)
