use Rattle.std.specs.Option.{option_copied}
use Rattle.std.proofs.Common.{sym, ◌∙◌}
use Rattle.r4_bodies.specs.r4_cell.Seen.{node_of}
use Rattle.r4_content.specs.Held.{edits_of}
use Rattle.r4_extent_demands.specs.Ranges.{puts_into}
use Rattle.r4_extent_demands.proofs.PutsInto.{among_is, any_is}
use Rattle.r4_extent_demands.proofs.changing.puts_among.Goals as goal

pub returns : goal.returns
returns c =
    let b = option_copied c.args.body in
    let e = edits_of c.args.edits.now in
    any_is c.extents_have.result (puts_into b e) (node_of c.args.twig.now).spans c.extents_have.ensures
    ∙ sym (among_is b e (node_of c.args.twig.now).spans)
