use Rattle.std.proofs.Common.{sym, subst, ap, ◌∙◌, ◌^◌}
use Rattle.std.specs.List.{flat_map}
use Rattle.std.specs.Prelude.{All}
use Rattle.r4_base.specs.Key.{rank}
use Rattle.r4_content.specs.Edited.{put_keys}
use Rattle.r4_content.specs.Held.{fill_pairs}
use Rattle.r4_leaf_demands.specs.r4_leaf_edits.Suiting.{IsBefore}
use Rattle.r4_leaf_demands.proofs.r4_leaf_edits.Clipped.{all_left}
use Rattle.r4_bodies.proofs.FirstKeys.{fill_first, here, keys_both}
use Rattle.r4_bodies.proofs.finding.+first_of_fills.Goals as goal

pub returns-then-is_below : goal.returns-then-is_below
returns-then-is_below t c =
    let f = c.in-Some.first.now in
    let rest = flat_map fill_pairs c.in-Some.rest.now in
    let is = ap (flat_map fill_pairs) c.in-Some.ensures.cases.0 in
    here (put_keys (fill_pairs f)) (put_keys rest) (put_keys (flat_map fill_pairs c.args.fills.now)) (rank f.from)
    (keys_both (fill_pairs f) rest (flat_map fill_pairs c.args.fills.now) is)
    (fill_first (2 ^ 64) f
    (all_left (IsBefore (2 ^ 64)) (fill_pairs f) rest (subst (All (IsBefore (2 ^ 64))) is c.requires))
    (sym c.is_below.ensures ∙ c.if-is_below.true))
