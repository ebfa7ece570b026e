use Rattle.std.proofs.Common.{◌∙◌, ap, sym}
use Rattle.std.proofs.lemmas.Bool.{le-ltb}
use Rattle.r4_space.specs.Space.{Space, is_taken}
use Rattle.r4_space.proofs.SpaceLaws.{unused_past}
use Rattle.r4_space.proofs.space_map.SpaceMap.is_used.Goals as goal

pub returns-else-block-self : goal.returns-else-block-self
returns-else-block-self c =
    let i = c.self.inside in
    le-ltb _ _ c.if-block-self.false ∙ sym (unused_past i.blocks c.args.block.0 i.marked i.placed i.taken i.held.items i.deferred.items c.self.invariant.blocks c.if-block-self.false) ∙ ap (λ (s : Space). is_taken s c.args.block.0) c.self.view_is
