use Rattle.std.proofs.Common.{map, ◌∙◌}
use Rattle.std.specs.Arc.{arc_value}
use Rattle.std.specs.Option.{option_copied}
use Rattle.r4_content.specs.Held.{edits_of}
use Rattle.r4_extent_put.proofs.Counted.{all_twigs, edits_alone}
use Rattle.r4_extent_put.proofs.coming.leaves_put.Goals as goal

pub cells_coming-requires : goal.cells_coming-requires
cells_coming-requires c = edits_alone (option_copied c.args.body) (edits_of c.args.edits.now) c.requires.in_leaves c.requires.edits

pub returns : goal.returns
returns c =
    c.in_ok-count.ensures ∙ all_twigs (option_copied c.args.body) (edits_of c.args.edits.now) c.requires.in_leaves (map (λ x. arc_value x) c.args.cells.now)
