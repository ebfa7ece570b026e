use Rattle.std.proofs.Common.{◌≡◌, [], ◌∷◌, sym, ap, subst, ◌∙◌}
use Rattle.std.specs.Prelude.{Contains}
use Rattle.std.specs.Arc.{arc_value}
use Rattle.r4_base.specs.Key.{rank}
use Rattle.r4_extent_build.specs.r4_cell.Seen.{CellSeen}
use Rattle.r4_extent_build.proofs.r4_patch.Members.{here}
use Rattle.r4_extent_loss.specs.Losing.{leaf_at, taken_block}
use Rattle.r4_extent_loss.specs.LosingEach.{loss_of}
use Rattle.r4_extent_loss.proofs.losing.leaf_at.Goals as goal

pub new_cell-requires : goal.new_cell-requires
new_cell-requires c =
    let d : CellSeen = record { id = c.args.id.0; level = 1; lo = c.in-Some.range.from; hi = c.in-Some.range.to; block = c.in_ok-block.block } in
    let is : leaf_at (rank c.args.key.now) c.args.id.0 (arc_value c.args.losing.now.twig).hi (taken_block (loss_of c.args.losing.now)) c.args.pieces.now ≡ d ∷ [] =
    (λ i. leaf_at (rank c.args.key.now) c.args.id.0 (sym (c.hi.ensures ∙ ap (λ (x : CellSeen). x.hi) c.deref.ensures) i) (sym c.in_ok-block.ensures i) c.args.pieces.now)
    ∙ c.in-Some.ensures c.args.id.0 c.in_ok-block.block in
    (c.requires d (subst (λ ds. Contains ds d) (sym is) (here d []))).accepted
