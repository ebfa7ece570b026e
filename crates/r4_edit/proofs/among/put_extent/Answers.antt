use Rattle.std.proofs.Common.{◌≡◌, List, map, sym, subst, ◌∙◌}
use Rattle.std.specs.Prelude.{reverse}
use Rattle.std.specs.Arc.{arc_value}
use Rattle.std.proofs.lemmas.Result.{IfOk-weaker}
use Rattle.r4_base.specs.Tree.{Root as TreeRoot, Store}
use Rattle.r4_base.specs.Value.{Value}
use Rattle.r4_path.specs.r4_branch.Pieces.{item_pieces}
use Rattle.r4_path.specs.r4_cell.Seen.{CellSeen}
use Rattle.r4_edit.specs.Editing.{given_item}
use Rattle.r4_edit.specs.Extents.{IsSpreadUp, item_blocks}
use Rattle.r4_path.specs.TwigPieces.{ArePiecesOf, put_pieces, twig_pieces}
use Rattle.r4_path.specs.Grafts.{AreBlocksOf, GraftsBelow, IsGraftBelowIn, IsGraftIn}
use Rattle.r4_path.specs.Twigs.{Below}
use Rattle.r4_edit.proofs.PutUnits.{spreads_up}
use Rattle.r4_edit.proofs.Spread.{nothing, spread_below_in, spread_graft_in, spread_level}
use Rattle.r4_edit.proofs.among.put_extent.Goals as goal
use Rattle.r4_edit.proofs.among.put_extent.Goals.{After-drop-extent-2}

pub pieces_with-requires : goal.pieces_with-requires
pieces_with-requires c =
    let (t, (r, is)) = c.requires.path in
    subst (λ (x : CellSeen). x.level ≡ 2) (sym c.deref.ensures) (spread_level arc_value c.args.path.now c.index-path-path.result c.index-path-path.is t r (given_item c.args.key.now 5 c.args.body.now) c.args.fresh.now is)

-- the pieces that are packed
packed : (c : goal.After-graft_below-arg-1) → c.as_slice-2.result.now ≡ put_pieces c.args.key.now (item_pieces (given_item c.args.key.now 5 c.args.body.now)) (twig_pieces (arc_value c.index-path-path.result))
packed c =
    c.as_slice-2.ensures.value ∙ (c.in_ok-pieces.ensures.with
    ∙ (λ i. put_pieces c.args.key.now ((c.as_slice.ensures.value ∙ c.in_ok-extent.ensures) i) (twig_pieces (c.deref.ensures i))))

are : (c : goal.After-graft_below-arg-1) → ArePiecesOf (arc_value c.index-path-path.result) (twig_pieces (arc_value c.index-path-path.result))
are c = subst (λ (x : CellSeen). ArePiecesOf x (twig_pieces x)) c.deref.ensures c.in_ok-pieces.ensures.are

pub graft_below-requires-clause-path : goal.graft_below-requires-clause-path
graft_below-requires-clause-path c =
    let (t, (r, is)) = c.requires.path in (
      t,
      (
        r,
        subst (λ qs. IsGraftIn t r (map arc_value c.args.path.now) qs c.args.fresh.now) (sym (packed c))
            (spread_graft_in arc_value c.args.path.now c.index-path-path.result c.index-path-path.is t r (given_item c.args.key.now 5 c.args.body.now) c.args.fresh.now is (are c)),
      ),
    )

module _ (c : After-drop-extent-2) where
  packed_then : c.as_slice-2.result.now ≡ put_pieces c.args.key.now (item_pieces (given_item c.args.key.now 5 c.args.body.now)) (twig_pieces (arc_value c.index-path-path.result))
  packed_then =
      c.as_slice-2.ensures.value ∙ (c.in_ok-pieces.ensures.with
      ∙ (λ i. put_pieces c.args.key.now ((c.as_slice.ensures.value ∙ c.in_ok-extent.ensures) i) (twig_pieces (c.deref.ensures i))))

  are_then : ArePiecesOf (arc_value c.index-path-path.result) (twig_pieces (arc_value c.index-path-path.result))
  are_then = subst (λ (x : CellSeen). ArePiecesOf x (twig_pieces x)) c.deref.ensures c.in_ok-pieces.ensures.are

  below : (t : Store Value) (r : TreeRoot) → IsSpreadUp t r (given_item c.args.key.now 5 c.args.body.now) c.args.fresh.now (reverse (map arc_value c.args.path.now))
      → (blocks : List CellSeen) → AreBlocksOf (item_blocks (given_item c.args.key.now 5 c.args.body.now)) blocks
      → IsGraftBelowIn t r (map arc_value c.args.path.now) c.as_slice-2.result.now (record { old = map arc_value c.new.result.items; new = map arc_value c.new-2.result.items }) blocks c.args.fresh.now.next c.args.fresh.now
  below t r is blocks of =
      subst (λ qs. IsGraftBelowIn t r (map arc_value c.args.path.now) qs (record { old = map arc_value c.new.result.items; new = map arc_value c.new-2.result.items }) blocks c.args.fresh.now.next c.args.fresh.now) (sym packed_then)
      (subst (λ (b : Below). IsGraftBelowIn t r (map arc_value c.args.path.now) (put_pieces c.args.key.now (item_pieces (given_item c.args.key.now 5 c.args.body.now)) (twig_pieces (arc_value c.index-path-path.result))) b blocks c.args.fresh.now.next c.args.fresh.now)
      (λ i. record { old = map arc_value (sym c.new.ensures.items i); new = map arc_value (sym c.new-2.ensures.items i) })
      (spread_below_in arc_value c.args.path.now c.index-path-path.result c.index-path-path.is t r (given_item c.args.key.now 5 c.args.body.now) c.args.fresh.now is are_then blocks of))

pub returns-clause-change : goal.returns-clause-change
returns-clause-change c =
    let (t, (r, is)) = c.requires.path in
    IfOk-weaker c.graft_below.result _ _ (λ d change blocks of. change t r blocks c.args.fresh.now.next (below c t r is blocks of)) c.graft_below.ensures.change

pub returns-clause-meets : goal.returns-clause-meets
returns-clause-meets c = IfOk-weaker c.graft_below.result _ _ (λ d meets t r blocks is of. meets t r blocks c.args.fresh.now.next (below c t r is blocks of)) c.graft_below.ensures.meets

pub returns-clause-spreads : goal.returns-clause-spreads
returns-clause-spreads c =
    let (t, (r, is)) = c.requires.path in
    IfOk-weaker c.graft_below.result _ _ (λ d grafts.
    spreads_up arc_value c.args.path.now c.index-path-path.result c.index-path-path.is t r (given_item c.args.key.now 5 c.args.body.now) c.args.fresh.now is (are_then c) c.graft_below.new.fresh d
    (subst (λ qs. GraftsBelow (map arc_value c.args.path.now) qs nothing c.args.fresh.now c.graft_below.new.fresh d) (packed_then c)
    (subst (λ (b : Below). GraftsBelow (map arc_value c.args.path.now) c.as_slice-2.result.now b c.args.fresh.now c.graft_below.new.fresh d)
    (λ i. record { old = map arc_value (c.new.ensures.items i); new = map arc_value (c.new-2.ensures.items i) }) grafts))) c.graft_below.ensures.grafts
