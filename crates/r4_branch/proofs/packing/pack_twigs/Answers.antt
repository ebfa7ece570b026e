use Rattle.std.proofs.Common.{◌≡◌, ◌++◌, ◌∷◌, ◌<◌, [], List, length, refl, sym, subst}
use Rattle.std.specs.Prelude.{Contains}
use Rattle.r4_base.specs.Key.{rank}
use Rattle.r4_base.specs.Node.{mkfs_id_of}
use Rattle.r4_branch.specs.Twigs.{PacksTwigs}
use Rattle.r4_branch.specs.declared.piece.TwigPiece.{TwigPiece}
use Rattle.r4_branch.specs.declared.twig.Twig.{Twig}
use Rattle.r4_branch.proofs.Counted.{are_few}
use Rattle.r4_branch.proofs.Packed.{Packing, fewer, ids_more, next_at, no_ids, none_left, pack_begins, pack_ends, packing_more}
use Rattle.r4_branch.proofs.packing.pack_twigs.Goals as goal

pub loop-twigs-init : goal.loop-twigs-init
loop-twigs-init c = record {
  packing = subst (λ (ts : List Twig). Packing (rank c.args.lo) c.args.pieces.now (rank c.args.lo) c.args.pieces.now ts) (sym c.new-twigs.ensures.items) (pack_begins (rank c.args.lo) c.args.pieces.now);
  id = no_ids c.args.mkfs_id c.new-twigs.result.items c.new-twigs.ensures.items;
}

pub fill_block-count-requires : goal.fill_block-count-requires
fill_block-count-requires c = (rank c.loop-twigs.from, c.requires.0, (c.loop-twigs.invariant.packing.are c.requires.0 c.requires.1).follow)

pub returns-in-None-clause-packs : goal.returns-in-None-clause-packs
returns-in-None-clause-packs c = λ hi h.
    let twig : Twig = record { lo = c.loop-twigs.from; block = c.fill_block-count.new.block } in
    subst (λ (ts : List Twig). PacksTwigs (rank c.args.lo) hi c.args.pieces.now ts) (sym c.in_ok-push.ensures.items)
    (pack_ends (rank c.args.lo) (rank c.loop-twigs.from) c.args.pieces.now c.loop-twigs.rest.now c.fill_block-count.result c.loop-twigs.twigs.items twig refl c.loop-twigs.invariant.packing
    (λ k. c.fill_block-count.ensures.fills (rank c.loop-twigs.from) k) (none_left c.fill_block-count.result c.loop-twigs.rest.now c.split_at.result.1.now c.split_at.ensures.back (sym c.in-None.ensures.value)) hi h)

pub returns-in-None-clause-few : goal.returns-in-None-clause-few
returns-in-None-clause-few c = are_few (rank c.args.lo) c.requires.0 c.args.pieces.now c.push.new.self.items (returns-in-None-clause-packs c c.requires.0 c.requires.1)

pub loop-twigs-smaller : goal.loop-twigs-smaller
loop-twigs-smaller c =
    let twig : Twig = record { lo = c.loop-twigs.from; block = c.fill_block-count.new.block } in
    subst (λ (ps : List TwigPiece). length ps < length c.loop-twigs.rest.now) (sym c.split_at.ensures.back)
    (fewer (rank c.args.lo) (rank c.loop-twigs.from) c.args.pieces.now c.loop-twigs.rest.now c.fill_block-count.result c.loop-twigs.twigs.items twig refl c.loop-twigs.invariant.packing
    (λ k. c.fill_block-count.ensures.fills (rank c.loop-twigs.from) k) c.in-Some.next.now (next_at c.fill_block-count.result c.loop-twigs.rest.now c.split_at.result.1.now c.in-Some.next.now c.split_at.ensures.back (sym c.in-Some.ensures.value)) c.requires.0 c.requires.1)

pub loop-twigs-preserved : goal.loop-twigs-preserved
loop-twigs-preserved c =
    let twig : Twig = record { lo = c.loop-twigs.from; block = c.fill_block-count.new.block } in
    record {
      packing = subst (λ (ts : List Twig). Packing (rank c.args.lo) c.args.pieces.now (rank c.in-Some.next.now.key) c.split_at.result.1.now ts) (sym c.in_ok-push.ensures.items)
          (subst (λ (ps : List TwigPiece). Packing (rank c.args.lo) c.args.pieces.now (rank c.in-Some.next.now.key) ps (c.loop-twigs.twigs.items ++ twig ∷ [])) (sym c.split_at.ensures.back)
          (packing_more (rank c.args.lo) (rank c.loop-twigs.from) c.args.pieces.now c.loop-twigs.rest.now c.fill_block-count.result c.loop-twigs.twigs.items twig refl c.loop-twigs.invariant.packing
          (λ k. c.fill_block-count.ensures.fills (rank c.loop-twigs.from) k) c.in-Some.next.now (next_at c.fill_block-count.result c.loop-twigs.rest.now c.split_at.result.1.now c.in-Some.next.now c.split_at.ensures.back (sym c.in-Some.ensures.value))));
      id = subst (λ (ts : List Twig). (x : Twig) → Contains ts x → mkfs_id_of x.block ≡ c.args.mkfs_id) (sym c.in_ok-push.ensures.items) (ids_more c.args.mkfs_id c.loop-twigs.twigs.items twig c.loop-twigs.invariant.id c.fill_block-count.ensures.id);
    }
