use Rattle.std.proofs.Common.{◌≡◌, ◌++◌, List, map, sym, ap, subst, ◌∙◌}
use Rattle.std.specs.Prelude.{Option, reverse}
use Rattle.std.specs.Arc.{arc_value}
use Rattle.std.specs.Option.{option_map}
use Rattle.std.proofs.lemmas.Result.{IfOk-weaker}
use Rattle.r4_base.specs.Cell.{item_end}
use Rattle.r4_base.specs.Key.{rank}
use Rattle.r4_base.specs.Node.{Item}
use Rattle.r4_base.specs.Tree.{Root as TreeRoot, Store}
use Rattle.r4_base.specs.Value.{Value}
use Rattle.r4_work.specs.r4_cell.Seen.{CellSeen}
use Rattle.r4_work.specs.r4_cell.declared.change.Change.{Change}
use Rattle.r4_work.specs.r4_edit.Editing.{given_item}
use Rattle.r4_work.specs.r4_edit.Extents.{given_cells, item_blocks, pointer_to}
use Rattle.r4_work.specs.r4_graft.Splices.{IsBorder}
use Rattle.r4_work.specs.r4_path.Grafts.{AreBlocksOf, GraftsBelow, IsGraftBelowIn, IsGraftIn}
use Rattle.r4_work.specs.r4_path.TwigPieces.{ArePiecesOf, twig_pieces}
use Rattle.r4_work.specs.r4_path.Twigs.{Below}
use Rattle.r4_extent_edit.specs.Between.{EndsAt, pieces_over}
use Rattle.r4_extent_edit.specs.Turning.{IsTurnUp, TurnsUp, turned_pieces}
use Rattle.r4_extent_edit.proofs.Ends.{extent_ends}
use Rattle.r4_extent_edit.proofs.Told.{if_all}
use Rattle.r4_extent_edit.proofs.TurnEffect.{turn_told}
use Rattle.r4_extent_edit.proofs.TurnEnds.{turn_ends, turn_item}
use Rattle.r4_extent_edit.proofs.TurnGraft.{turn_at, turn_below_in, turn_graft_in, turns_up}
use Rattle.r4_extent_edit.proofs.turning.turn.Goals as goal
use Rattle.r4_extent_edit.proofs.turning.turn.Goals.{After-drop-others-2}

pub key_behind-end-requires : goal.key_behind-end-requires
key_behind-end-requires c =
    let it = given_item c.args.key.now 5 c.args.body.now in
    let (t, (r, is)) = c.requires.path in
    let given = turn_item t r it (map arc_value c.args.leaves.now) c.args.fresh.now (reverse
    (map arc_value c.args.path.now)) is in (
      item_end it,
      subst (EndsAt (item_end it)) (sym (c.as_slice.ensures.value
          ∙ c.in_ok-others.ensures)) (extent_ends it given.0 given.1.0),
    )

pub ends_kept-requires-clause-ends : goal.ends_kept-requires-clause-ends
ends_kept-requires-clause-ends c =
    let it = given_item c.args.key.now 5 c.args.body.now in
    let (t, (r, is)) = c.requires.path in
    let given = turn_item t r it (map arc_value c.args.leaves.now) c.args.fresh.now (reverse
    (map arc_value c.args.path.now)) is in
    let end = c.key_behind-end.ensures (item_end it) (subst (EndsAt (item_end it)) (sym (c.as_slice.ensures.value
    ∙ c.in_ok-others.ensures)) (extent_ends it given.0 given.1.0)) in
    turn_ends t r it (map arc_value c.args.leaves.now) c.args.fresh.now (reverse
    (map arc_value c.args.path.now)) is c.key_behind-end.result end

pub pieces_put_over-requires-clause-border : goal.pieces_put_over-requires-clause-border
pieces_put_over-requires-clause-border c =
    let it = given_item c.args.key.now 5 c.args.body.now in
    let (t, (r, is)) = c.requires.path in
    subst (λ (x : CellSeen). ArePiecesOf x (twig_pieces x)
    → IsBorder (rank c.args.key.now) (twig_pieces x)) (sym c.deref.ensures)
    (turn_at arc_value c.args.path.now c.index-path-path.result c.index-path-path.is t r it
    (map arc_value c.args.leaves.now) c.args.fresh.now is)

pub graft_below-requires-clause-path : goal.graft_below-requires-clause-path
graft_below-requires-clause-path c =
    let it = given_item c.args.key.now 5 c.args.body.now in
    let (t, (r, is)) = c.requires.path in
    let given = turn_item t r it (map arc_value c.args.leaves.now) c.args.fresh.now (reverse
    (map arc_value c.args.path.now)) is in
    let end = c.key_behind-end.ensures (item_end it) (subst (EndsAt (item_end it)) (sym (c.as_slice.ensures.value
    ∙ c.in_ok-others.ensures)) (extent_ends it given.0 given.1.0)) in
    let right = option_map arc_value c.in_ok-parts.parts.right in
    let others = c.as_slice-2.ensures.value ∙ (c.in_ok-add_pointer.ensures
    ∙ ap (λ ps. ps ++ pointer_to right) c.in_ok-others.ensures) in
    let packed = c.as_slice-3.ensures.value ∙ (c.in_ok-pieces.ensures.over
    ∙ (λ i. pieces_over (rank c.args.key.now) (end i) (others i) (c.deref.ensures i))) in
    let are = subst (λ (x : CellSeen). ArePiecesOf x (twig_pieces x)) c.deref.ensures c.in_ok-pieces.ensures.are in (
      t,
      (
        r,
        subst (λ qs. IsGraftIn t r (map arc_value c.args.path.now) qs c.ends_kept.new.fresh) (sym packed)
            (turn_graft_in arc_value c.args.path.now c.index-path-path.result c.index-path-path.is t r it
            (map arc_value c.args.leaves.now) c.args.fresh.now is
            are c.ends_kept.new.fresh (option_map arc_value c.in_ok-parts.parts.left) right c.key_behind-end.result
            end c.in_ok-parts.ensures.keeps c.requires.numbers),
      ),
    )

module _ (c : After-drop-others-2) where
  abbrev it : Item
  it = given_item c.args.key.now 5 c.args.body.now

  abbrev twig : CellSeen
  twig = arc_value c.index-path-path.result

  abbrev leaves : List CellSeen
  leaves = map arc_value c.args.leaves.now

  abbrev left : Option CellSeen
  left = option_map arc_value c.in_ok-parts.parts.left

  abbrev right : Option CellSeen
  right = option_map arc_value c.in_ok-parts.parts.right

  ends : rank c.key_behind-end.result ≡ item_end it
  ends =
      let (t, (r, is)) = c.requires.path in
      let given = turn_item t r it leaves c.args.fresh.now (reverse (map arc_value c.args.path.now)) is in
      c.key_behind-end.ensures (item_end it) (subst (EndsAt (item_end it)) (sym (c.as_slice.ensures.value
      ∙ c.in_ok-others.ensures)) (extent_ends it given.0 given.1.0))

  packed : c.as_slice-3.result.now ≡ turned_pieces it right twig
  packed =
      let others = c.as_slice-2.ensures.value ∙ (c.in_ok-add_pointer.ensures
      ∙ ap (λ ps. ps ++ pointer_to right) c.in_ok-others.ensures) in
      c.as_slice-3.ensures.value ∙ (c.in_ok-pieces.ensures.over
      ∙ (λ i. pieces_over (rank c.args.key.now) (ends i) (others i) (c.deref.ensures i)))

  are : ArePiecesOf twig (twig_pieces twig)
  are = subst (λ (x : CellSeen). ArePiecesOf x (twig_pieces x)) c.deref.ensures c.in_ok-pieces.ensures.are

  abbrev lent : Below
  lent = record { old = map arc_value c.in_ok-old.old.items; new = map arc_value c.in_ok-new.new.items }

  abbrev parts : Below
  parts = record { old = leaves; new = given_cells left ++ given_cells right }

  same : parts ≡ lent
  same i = record { old = sym c.in_ok-old.ensures i; new = sym c.in_ok-new.ensures i }

  below : (t : Store Value) (r : TreeRoot) → IsTurnUp t r it leaves c.args.fresh.now (reverse
      (map arc_value c.args.path.now))
      → (blocks : List CellSeen) → AreBlocksOf (item_blocks it) blocks
      → IsGraftBelowIn t r (map arc_value c.args.path.now) c.as_slice-3.result.now lent blocks c.args.fresh.now.next
      c.ends_kept.new.fresh
  below t r is blocks of =
      subst (λ qs. IsGraftBelowIn t r (map arc_value c.args.path.now) qs lent blocks c.args.fresh.now.next
      c.ends_kept.new.fresh) (sym packed)
      (subst (λ (b : Below). IsGraftBelowIn t r (map arc_value c.args.path.now)
      (turned_pieces it right twig) b blocks c.args.fresh.now.next c.ends_kept.new.fresh) same
      (turn_below_in arc_value c.args.path.now c.index-path-path.result c.index-path-path.is t r it leaves
      c.args.fresh.now is are c.ends_kept.new.fresh left right c.key_behind-end.result ends
      c.in_ok-parts.ensures.keeps c.requires.numbers blocks of))

  -- what the change does to the twig
  turns : (d : Change) → GraftsBelow (map arc_value c.args.path.now) c.as_slice-3.result.now lent
      c.ends_kept.new.fresh c.graft_below.new.fresh d
      → TurnsUp (map arc_value c.args.path.now) it leaves c.args.fresh.now c.graft_below.new.fresh d (reverse
      (map arc_value c.args.path.now))
  turns d grafts =
      let (t, (r, is)) = c.requires.path in
      turns_up arc_value c.args.path.now c.index-path-path.result c.index-path-path.is t r it leaves c.args.fresh.now
      is are c.ends_kept.new.fresh left right c.key_behind-end.result ends
      c.in_ok-parts.ensures.keeps c.requires.numbers c.graft_below.new.fresh d
      (subst (λ qs. GraftsBelow (map arc_value c.args.path.now) qs parts c.ends_kept.new.fresh c.graft_below.new.fresh
      d) packed
      (subst (λ (b : Below). GraftsBelow (map arc_value c.args.path.now) c.as_slice-3.result.now b
      c.ends_kept.new.fresh c.graft_below.new.fresh d) (sym same) grafts))

pub returns-clause-change : goal.returns-clause-change
returns-clause-change c =
    let (t, (r, is)) = c.requires.path in
    IfOk-weaker c.graft_below.result _ _ (λ d change blocks of. change t r blocks c.args.fresh.now.next
    (below c t r is blocks of)) c.graft_below.ensures.change

pub returns-clause-meets : goal.returns-clause-meets
returns-clause-meets c = IfOk-weaker c.graft_below.result _ _
    (λ d meets t r blocks is of. meets t r blocks c.args.fresh.now.next
    (below c t r is blocks of)) c.graft_below.ensures.meets

pub returns-clause-turns : goal.returns-clause-turns
returns-clause-turns c = IfOk-weaker c.graft_below.result _ _
    (λ d grafts. turns c d grafts) c.graft_below.ensures.grafts

pub returns-clause-effect : goal.returns-clause-effect
returns-clause-effect c =
    let (t, (r, is)) = c.requires.path in
    if_all c.graft_below.result _ _ _ _ c.graft_below.ensures.change c.graft_below.ensures.meets
    c.graft_below.ensures.grafts (λ d change meets grafts blocks of.
    turn_told t r (map arc_value c.args.path.now) (it c) c.args.fresh.now c.graft_below.new.fresh d blocks of
    (record {
      change = change t r blocks c.args.fresh.now.next (below c t r is blocks of);
      meets = meets t r blocks c.args.fresh.now.next (below c t r is blocks of);
    }) (leaves c) is (turns c d grafts))
