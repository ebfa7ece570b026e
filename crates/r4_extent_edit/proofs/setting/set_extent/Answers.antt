use Rattle.std.proofs.Common.{◌≡◌, List, map, sym, subst, ◌∙◌}
use Rattle.std.specs.Prelude.{reverse}
use Rattle.std.specs.Arc.{arc_value}
use Rattle.std.proofs.lemmas.Result.{IfOk-weaker}
use Rattle.r4_base.specs.Cell.{item_end}
use Rattle.r4_base.specs.Key.{rank}
use Rattle.r4_base.specs.Node.{Item}
use Rattle.r4_base.specs.Tree.{Root as TreeRoot, Store}
use Rattle.r4_base.specs.Value.{Value}
use Rattle.r4_work.specs.r4_cell.Seen.{CellSeen}
use Rattle.r4_work.specs.r4_cell.declared.change.Change.{Change}
use Rattle.r4_work.specs.r4_edit.Editing.{given_item}
use Rattle.r4_work.specs.r4_edit.Extents.{item_blocks}
use Rattle.r4_work.proofs.r4_edit.Spread.{nothing}
use Rattle.r4_work.specs.r4_graft.Splices.{IsBorder}
use Rattle.r4_work.specs.r4_path.Grafts.{AreBlocksOf, GraftsBelow, IsGraftBelowIn, IsGraftIn}
use Rattle.r4_work.specs.r4_path.TwigPieces.{ArePiecesOf, twig_pieces}
use Rattle.r4_work.specs.r4_path.Twigs.{Below}
use Rattle.r4_extent_edit.specs.Between.{EndsAt, pieces_over}
use Rattle.r4_extent_edit.specs.Setting.{IsSetUp, SetsUp, set_pieces}
use Rattle.r4_extent_edit.proofs.Ends.{extent_ends}
use Rattle.r4_extent_edit.proofs.HoleGraft.{set_below_in, set_graft_in, set_in, sets_up}
use Rattle.r4_extent_edit.proofs.TurnEnds.{set_item}
use Rattle.r4_extent_edit.proofs.PutEffect.{set_told}
use Rattle.r4_extent_edit.proofs.Told.{if_all}
use Rattle.r4_extent_edit.proofs.setting.set_extent.Goals as goal
use Rattle.r4_extent_edit.proofs.setting.set_extent.Goals.{After-drop-extent-2}

pub key_behind-end-requires : goal.key_behind-end-requires
key_behind-end-requires c =
    let it = given_item c.args.key.now 5 c.args.body.now in
    let (t, (r, is)) = c.requires.path in
    let given = set_item t r it c.args.fresh.now (reverse (map arc_value c.args.path.now)) is in (
      item_end it,
      subst (EndsAt (item_end it)) (sym (c.as_slice.ensures.value
          ∙ c.in_ok-extent.ensures)) (extent_ends it given.0 given.1),
    )

pub pieces_put_over-requires-clause-border : goal.pieces_put_over-requires-clause-border
pieces_put_over-requires-clause-border c are =
    let it = given_item c.args.key.now 5 c.args.body.now in
    let (t, (r, is)) = c.requires.path in
    subst (λ (x : CellSeen). IsBorder (rank c.args.key.now) (twig_pieces x)) (sym c.deref.ensures)
    (set_in arc_value c.args.path.now c.index-path-path.result c.index-path-path.is t r it c.args.fresh.now
    is).holes.first_border

-- the pieces that are packed
packed_so : (c : goal.After-graft_below-arg-1) → c.as_slice-3.result.now
    ≡ set_pieces (given_item c.args.key.now 5 c.args.body.now) (arc_value c.index-path-path.result)
packed_so c =
    let it = given_item c.args.key.now 5 c.args.body.now in
    let (t, (r, is)) = c.requires.path in
    let given = set_item t r it c.args.fresh.now (reverse (map arc_value c.args.path.now)) is in
    let end = c.key_behind-end.ensures (item_end it) (subst (EndsAt (item_end it)) (sym (c.as_slice.ensures.value
    ∙ c.in_ok-extent.ensures)) (extent_ends it given.0 given.1)) in
    let others = c.as_slice-2.ensures.value ∙ c.in_ok-extent.ensures in
    c.as_slice-3.ensures.value ∙ (c.in_ok-pieces.ensures.over
    ∙ (λ i. pieces_over (rank c.args.key.now) (end i) (others i) (c.deref.ensures i)))

pub graft_below-requires-clause-path : goal.graft_below-requires-clause-path
graft_below-requires-clause-path c =
    let it = given_item c.args.key.now 5 c.args.body.now in
    let (t, (r, is)) = c.requires.path in
    let are = subst (λ (x : CellSeen). ArePiecesOf x (twig_pieces x)) c.deref.ensures c.in_ok-pieces.ensures.are in (
      t,
      (
        r,
        subst (λ qs. IsGraftIn t r (map arc_value c.args.path.now) qs c.args.fresh.now) (sym (packed_so c))
            (set_graft_in arc_value c.args.path.now c.index-path-path.result c.index-path-path.is t r it
            c.args.fresh.now is are),
      ),
    )

module _ (c : After-drop-extent-2) where
  abbrev it : Item
  it = given_item c.args.key.now 5 c.args.body.now

  abbrev twig : CellSeen
  twig = arc_value c.index-path-path.result

  packed : c.as_slice-3.result.now ≡ set_pieces it twig
  packed =
      let (t, (r, is)) = c.requires.path in
      let given = set_item t r it c.args.fresh.now (reverse (map arc_value c.args.path.now)) is in
      let end = c.key_behind-end.ensures (item_end it) (subst (EndsAt (item_end it)) (sym (c.as_slice.ensures.value
      ∙ c.in_ok-extent.ensures)) (extent_ends it given.0 given.1)) in
      let others = c.as_slice-2.ensures.value ∙ c.in_ok-extent.ensures in
      c.as_slice-3.ensures.value ∙ (c.in_ok-pieces.ensures.over
      ∙ (λ i. pieces_over (rank c.args.key.now) (end i) (others i) (c.deref.ensures i)))

  are : ArePiecesOf twig (twig_pieces twig)
  are = subst (λ (x : CellSeen). ArePiecesOf x (twig_pieces x)) c.deref.ensures c.in_ok-pieces.ensures.are

  abbrev lent : Below
  lent = record { old = map arc_value c.new.result.items; new = map arc_value c.new-2.result.items }

  below : (t : Store Value) (r : TreeRoot) → IsSetUp t r it c.args.fresh.now (reverse (map arc_value c.args.path.now))
      → (blocks : List CellSeen) → AreBlocksOf (item_blocks it) blocks
      → IsGraftBelowIn t r (map arc_value c.args.path.now) c.as_slice-3.result.now lent blocks c.args.fresh.now.next
      c.args.fresh.now
  below t r is blocks of =
      subst (λ qs. IsGraftBelowIn t r (map arc_value c.args.path.now) qs lent blocks c.args.fresh.now.next
      c.args.fresh.now) (sym packed)
      (subst (λ (b : Below). IsGraftBelowIn t r (map arc_value c.args.path.now)
      (set_pieces it twig) b blocks c.args.fresh.now.next c.args.fresh.now)
      (λ i. record {
        old = map arc_value (sym c.new.ensures.items i);
        new = map arc_value
            (sym c.new-2.ensures.items i);
      })
      (set_below_in arc_value c.args.path.now c.index-path-path.result c.index-path-path.is t r it c.args.fresh.now is
      are blocks of))

  -- what the change does to the twig
  sets : (d : Change) → GraftsBelow (map arc_value c.args.path.now) c.as_slice-3.result.now lent c.args.fresh.now
      c.graft_below.new.fresh d
      → SetsUp (map arc_value c.args.path.now) it c.args.fresh.now c.graft_below.new.fresh d (reverse
      (map arc_value c.args.path.now))
  sets d grafts =
      let (t, (r, is)) = c.requires.path in
      sets_up arc_value c.args.path.now c.index-path-path.result c.index-path-path.is t r it c.args.fresh.now is are
      c.graft_below.new.fresh d
      (subst (λ qs. GraftsBelow (map arc_value c.args.path.now) qs nothing c.args.fresh.now c.graft_below.new.fresh d)
      packed
      (subst (λ (b : Below). GraftsBelow (map arc_value c.args.path.now) c.as_slice-3.result.now b c.args.fresh.now
      c.graft_below.new.fresh d)
      (λ i. record {
        old = map arc_value (c.new.ensures.items i);
        new = map arc_value
            (c.new-2.ensures.items i);
      }) grafts))

pub returns-clause-change : goal.returns-clause-change
returns-clause-change c =
    let (t, (r, is)) = c.requires.path in
    IfOk-weaker c.graft_below.result _ _ (λ d change blocks of. change t r blocks c.args.fresh.now.next
    (below c t r is blocks of)) c.graft_below.ensures.change

pub returns-clause-meets : goal.returns-clause-meets
returns-clause-meets c = IfOk-weaker c.graft_below.result _ _
    (λ d meets t r blocks is of. meets t r blocks c.args.fresh.now.next
    (below c t r is blocks of)) c.graft_below.ensures.meets

pub returns-clause-sets : goal.returns-clause-sets
returns-clause-sets c = IfOk-weaker c.graft_below.result _ _ (λ d grafts. sets c d grafts) c.graft_below.ensures.grafts

pub returns-clause-effect : goal.returns-clause-effect
returns-clause-effect c =
    let (t, (r, is)) = c.requires.path in
    if_all c.graft_below.result _ _ _ _ c.graft_below.ensures.change c.graft_below.ensures.meets
    c.graft_below.ensures.grafts (λ d change meets grafts blocks of.
    set_told t r (map arc_value c.args.path.now) (it c) c.args.fresh.now c.graft_below.new.fresh d blocks of
    (record {
      change = change t r blocks c.args.fresh.now.next (below c t r is blocks of);
      meets = meets t r blocks c.args.fresh.now.next (below c t r is blocks of);
    }) is (sets c d grafts))
