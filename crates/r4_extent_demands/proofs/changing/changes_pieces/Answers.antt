use Rattle.std.proofs.Common.{sym, ◌∙◌}
use Rattle.std.specs.Option.{option_copied}
use Rattle.std.specs.Prelude.{◌||◌}
use Rattle.r4_bodies.specs.r4_cell.Seen.{node_of}
use Rattle.r4_content.specs.Held.{edits_of}
use Rattle.r4_extent_demands.specs.Changing.{changes_units}
use Rattle.r4_extent_demands.proofs.Changes.{changes_both}
use Rattle.r4_extent_demands.proofs.changing.changes_pieces.Goals as goal

pub returns-then-puts_among : goal.returns-then-puts_among
returns-then-puts_among c =
    let b = option_copied c.args.body in
    let e = edits_of c.args.edits.now in
    let n = node_of c.args.twig.now in
    c.if-puts_among.true ∙ sym (λ i. (sym c.puts_among.ensures ∙ c.if-puts_among.true) i || changes_units b e n)
    ∙ sym (changes_both b e n)

pub returns-else-puts_among : goal.returns-else-puts_among
returns-else-puts_among c =
    let b = option_copied c.args.body in
    let e = edits_of c.args.edits.now in
    let n = node_of c.args.twig.now in
    c.changes_some.ensures ∙ sym (λ i. (sym c.puts_among.ensures ∙ c.if-puts_among.false) i || changes_units b e n)
    ∙ sym (changes_both b e n)
