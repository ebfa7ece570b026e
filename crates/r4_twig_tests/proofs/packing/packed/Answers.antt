use Rattle.std.proofs.Common.{◌≡◌, ℕ, ◌^◌, ◌<◌, List, length, get_or, sym, subst, ap, ◌∙◌}
use Rattle.r4_base.specs.Key.{rank}
use Rattle.r4_branch.specs.Pieces.{AreTwigPieces, MayStand}
use Rattle.r4_branch.specs.Twigs.{PacksTwigs}
use Rattle.r4_branch.specs.declared.piece.TwigPiece.{TwigPiece}
use Rattle.r4_branch.specs.declared.twig.Twig.{Twig}
use Rattle.r4_branch.proofs.Packed.{packs_stand}
use Rattle.r4_twig_tests.proofs.packing.packed.Goals as goal

stands : (lo hi : ℕ) (ps : List TwigPiece) (twigs lent : List Twig) (i : ℕ) (x : Twig) → PacksTwigs lo hi ps twigs → lent ≡ twigs → i < length lent → x ≡ get_or lent i x → (from : ℕ) × (to : ℕ) × MayStand from to x.block
stands lo hi ps twigs lent i x p same lt is =
    subst (λ (y : Twig). (from : ℕ) × (to : ℕ) × MayStand from to y.block) (sym (is ∙ ap (λ (ts : List Twig). get_or ts i x) same))
    (packs_stand lo hi ps twigs i x p (subst (λ (ts : List Twig). i < length ts) same lt))

pub read_back-requires : goal.read_back-requires
read_back-requires c =
    let are : AreTwigPieces (rank c.key_at.result) (2 ^ 64) c.deref.result.now =
    subst (λ k. AreTwigPieces k (2 ^ 64) c.deref.result.now) (sym c.key_at.ensures.rank) (subst (λ (ps : List TwigPiece). AreTwigPieces 0 (2 ^ 64) ps) (sym c.deref.ensures.value) c.in_ok-pieces.ensures) in
    stands (rank c.key_at.result) (2 ^ 64) c.deref.result.now c.in_ok-twigs.twigs.items c.deref-twig-items.result.now c.loop-twig.twig-index c.twig-item.result (c.in_ok-twigs.ensures.packs (2 ^ 64) are) c.deref-twig-items.ensures.value c.loop-twig-test.true c.twig-item.is
