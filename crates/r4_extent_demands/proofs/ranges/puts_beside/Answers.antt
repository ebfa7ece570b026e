use Rattle.std.proofs.Common.{ap, not, sym, ◌∙◌}
use Rattle.std.specs.List.{list_any}
use Rattle.std.specs.Prelude.{◌&&◌, Some}
use Rattle.r4_base.specs.Key.{rank}
use Rattle.r4_content.specs.Edited.{is_between}
use Rattle.r4_bodies.specs.r4_leaf_demands.Touching.{span_of}
use Rattle.r4_bodies.specs.r4_leaf_edits.r4_reach.Reach.{is_body}
use Rattle.r4_extent_demands.specs.Sizes.{end_of_bytes}
use Rattle.r4_extent_demands.proofs.PutsInto.{spread_into}
use Rattle.r4_extent_demands.proofs.ranges.puts_beside.Goals as goal

pub returns-then-is_spread : goal.returns-then-is_spread
returns-then-is_spread c =
    let b = c.args.body.now in
    let s = span_of c.args.range.now in
    c.puts_others.ensures
    ∙ ap (λ vs. list_any (λ p. is_between s.lo s.hi (rank p.0) && not (is_body (rank p.0))) vs) c.as_slice.ensures.value
    ∙ sym (spread_into c.args.edits.now (end_of_bytes (Some b)) c.requires.suit b s
    (sym c.is_spread.ensures ∙ c.if-is_spread.true))
