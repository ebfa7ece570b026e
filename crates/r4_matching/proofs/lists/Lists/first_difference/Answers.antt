use Rattle.std.proofs.Common.{[], drop}
use Rattle.r4_matching.proofs.NearestLaws.{is_first, merged_swapped}
use Rattle.r4_matching.proofs.lists.Lists.first_difference.Goals as goal

pub returns : goal.returns
returns c =
    let had = c.args.self.now.had.now in
    let has = c.args.self.now.has.now in
    let kept = drop c.merge-merged.result.has has in
    is_first had has c.nearest.result
    (c.nearest.ensures.found (c.nearest-first.ensures.found c.merge-merged.ensures.found))
    (merged_swapped had has c.nearest.result [] []
    (c.nearest.ensures.merged []
    (merged_swapped had has c.nearest-first.result [] kept
    (c.nearest-first.ensures.merged kept c.merge-merged.ensures.merged))))
