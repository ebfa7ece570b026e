use Rattle.std.proofs.Common.{◌∙◌, ap}
use Rattle.r4_space.specs.Space.{free_of}
use Rattle.r4_space.proofs.SpaceLaws.{free_is}
use Rattle.r4_space.proofs.space_map.SpaceMap.free.Goals as goal

pub returns : goal.returns
returns c =
    let i = c.self.inside in
    c.saturating_sub.ensures ∙ rw (c.clear.ensures.count, c.owed.ensures) (free_is i.blocks i.marked i.placed i.held.items i.deferred.items i.claimed i.twice i.taken i.ledger.bitmaps i.ledger.spare _ _ i.ledger.atoms i.ledger.sealed c.self.invariant) ∙ ap free_of c.self.view_is
