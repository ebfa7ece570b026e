use Rattle.std.proofs.Common.{map, ap, ◌∙◌}
use Rattle.std.specs.Arc.{arc_value}
use Rattle.std.specs.Option.{option_copied}
use Rattle.std.specs.Prelude.{None, sum_by}
use Rattle.r4_content.specs.Held.{edits_of}
use Rattle.r4_extent_turned.specs.r4_extent_growth.r4_extent_change.r4_extent_counts.Coming.{twig_cells}
use Rattle.r4_extent_put.proofs.Counted.{edits_alone, one_twig}
use Rattle.r4_extent_put.proofs.coming.leaves_of.Goals as goal

pub cells_coming-requires : goal.cells_coming-requires
cells_coming-requires c = edits_alone (option_copied c.args.body) (edits_of c.args.edits.now) c.requires.in_leaves c.requires.edits

pub returns : goal.returns
returns c =
    let b = option_copied c.args.body in
    let e = edits_of c.args.edits.now in
    c.in_ok-count.ensures ∙ (ap (λ xs. sum_by (twig_cells None e) (map (λ x. arc_value x) xs)) c.from_ref.ensures.value
    ∙ one_twig b e c.requires.in_leaves (arc_value c.args.twig.now) c.requires.twig)
