use Rattle.std.proofs.Common.{Option, ◌-◌, length, take, ◌≡◌, ◌++◌, ◌∷◌, List, [], map, sym, subst, ◌∙◌}
use Rattle.std.specs.Prelude.{Contains, reverse}
use Rattle.std.specs.Arc.{arc_value}
use Rattle.std.specs.Option.{option_map}
use Rattle.std.proofs.lemmas.Result.{IfOk-weaker}
use Rattle.r4_base.specs.Node.{Item}
use Rattle.r4_base.specs.Tree.{Root as TreeRoot, Store}
use Rattle.r4_base.specs.Value.{Value}
use Rattle.r4_path.specs.r4_cell.Seen.{CellSeen, node_of}
use Rattle.r4_edit.specs.Editing.{given_item}
use Rattle.r4_edit.specs.Extents.{IsOverUp, given_cells, item_blocks, over_pieces}
use Rattle.r4_path.specs.TwigPieces.{ArePiecesOf, twig_pieces}
use Rattle.r4_path.specs.Grafts.{AreBlocksOf, GraftsBelow, IsGraftBelowIn, IsGraftIn}
use Rattle.r4_path.specs.Steps.{name_of}
use Rattle.r4_path.specs.Twigs.{Below}
use Rattle.r4_edit.proofs.OverLeaf.{over_below, over_grafted}
use Rattle.r4_edit.proofs.OverPath.{below_above, graft_above, leaf_in, over_in, ups}
use Rattle.r4_edit.proofs.OverUnits.{puts_over_up}
use Rattle.r4_edit.proofs.over.put_over.Goals as goal
use Rattle.r4_edit.proofs.over.put_over.Goals.{After-drop-pieces-2}

pub part_leaf-requires-clause-level : goal.part_leaf-requires-clause-level
part_leaf-requires-clause-level c =
    let (t, (r, is)) = c.requires.path in
    (leaf_in arc_value c.args.path.now c.index-path-count.result c.index-path-count.is t r (given_item c.args.key.now 5 c.args.body.now) c.args.fresh.now is).level

pub part_leaf-requires-clause-from : goal.part_leaf-requires-clause-from
part_leaf-requires-clause-from c =
    let (t, (r, is)) = c.requires.path in
    (leaf_in arc_value c.args.path.now c.index-path-count.result c.index-path-count.is t r (given_item c.args.key.now 5 c.args.body.now) c.args.fresh.now is).from

pub part_leaf-requires-clause-to : goal.part_leaf-requires-clause-to
part_leaf-requires-clause-to c =
    let (t, (r, is)) = c.requires.path in
    (leaf_in arc_value c.args.path.now c.index-path-count.result c.index-path-count.is t r (given_item c.args.key.now 5 c.args.body.now) c.args.fresh.now is).to

pub part_leaf-requires-clause-number : goal.part_leaf-requires-clause-number
part_leaf-requires-clause-number c =
    let (t, (r, is)) = c.requires.path in
    (leaf_in arc_value c.args.path.now c.index-path-count.result c.index-path-count.is t r (given_item c.args.key.now 5 c.args.body.now) c.args.fresh.now is).number

pub pieces_over-requires-clause-level : goal.pieces_over-requires-clause-level
pieces_over-requires-clause-level c =
    let (t, (r, is)) = c.requires.path in
    let at = over_in arc_value c.args.path.now c.index-path-count.result c.index-path-count-2.result c.index-path-count.is c.index-path-count-2.is t r (given_item c.args.key.now 5 c.args.body.now) c.args.fresh.now is in
    subst (λ (x : CellSeen). x.level ≡ 2) (sym c.deref.ensures) at.level

pub pieces_over-requires-clause-named : goal.pieces_over-requires-clause-named
pieces_over-requires-clause-named c =
    let (t, (r, is)) = c.requires.path in
    let at = over_in arc_value c.args.path.now c.index-path-count.result c.index-path-count-2.result c.index-path-count.is c.index-path-count-2.is t r (given_item c.args.key.now 5 c.args.body.now) c.args.fresh.now is in
    subst (λ (x : CellSeen). Contains (node_of x).names (name_of c.deref-2.result.now)) (sym c.deref.ensures)
    (subst (λ (x : CellSeen). Contains (node_of (arc_value c.index-path-count-2.result)).names (name_of x)) (sym c.deref-2.ensures) at.named)

module _ (c : After-drop-pieces-2) where
  abbrev item : Item
  item = given_item c.args.key.now 5 c.args.body.now

  abbrev leaf : CellSeen
  leaf = arc_value c.index-path-count.result

  abbrev twig : CellSeen
  twig = arc_value c.index-path-count-2.result

  abbrev left : Option CellSeen
  left = option_map arc_value c.in_ok-parts.parts.left

  abbrev right : Option CellSeen
  right = option_map arc_value c.in_ok-parts.parts.right

  packed : c.as_slice.result.now ≡ over_pieces item leaf right (twig_pieces twig)
  packed = c.as_slice.ensures.value ∙ (c.in_ok-pieces.ensures.over ∙ (λ i. over_pieces item (c.deref-2.ensures i) right (twig_pieces (c.deref.ensures i))))

  are : ArePiecesOf twig (twig_pieces twig)
  are = subst (λ (x : CellSeen). ArePiecesOf x (twig_pieces x)) c.deref.ensures c.in_ok-pieces.ensures.are

  given_below : (t : Store Value) (r : TreeRoot) → IsOverUp t r item c.args.fresh.now (reverse (map arc_value c.args.path.now))
      → (blocks : List CellSeen) → AreBlocksOf (item_blocks item) blocks
      → IsGraftBelowIn t r (map arc_value (take (length c.args.path.now - 1) c.args.path.now)) c.as_slice.result.now (record { old = map arc_value c.in_ok-old.old.items; new = map arc_value c.in_ok-new.new.items }) blocks c.args.fresh.now.next c.part_leaf.new.fresh
  given_below t r is blocks of =
      let at = over_in arc_value c.args.path.now c.index-path-count.result c.index-path-count-2.result c.index-path-count.is c.index-path-count-2.is t r item c.args.fresh.now is in
      let ends = (leaf_in arc_value c.args.path.now c.index-path-count.result c.index-path-count.is t r item c.args.fresh.now is).to in
      subst (λ qs. IsGraftBelowIn t r (map arc_value (take (length c.args.path.now - 1) c.args.path.now)) qs (record { old = map arc_value c.in_ok-old.old.items; new = map arc_value c.in_ok-new.new.items }) blocks c.args.fresh.now.next c.part_leaf.new.fresh) (sym packed)
      (subst (λ (b : Below). IsGraftBelowIn t r (map arc_value (take (length c.args.path.now - 1) c.args.path.now)) (over_pieces item leaf right (twig_pieces twig)) b blocks c.args.fresh.now.next c.part_leaf.new.fresh)
      (λ i. record { old = sym c.in_ok-old.ensures i; new = sym c.in_ok-new.ensures i })
      (below_above arc_value c.args.path.now c.index-path-count.result c.index-path-count-2.result c.index-path-count.is c.index-path-count-2.is t r item c.args.fresh.now is (over_pieces item leaf right (twig_pieces twig)) c.part_leaf.new.fresh (record { old = leaf ∷ []; new = given_cells left ++ given_cells right }) blocks c.args.fresh.now.next
      (over_below t r item leaf twig (ups arc_value c.args.path.now c.index-path-count.result c.index-path-count-2.result c.index-path-count.is c.index-path-count-2.is t r item c.args.fresh.now is) c.args.fresh.now c.part_leaf.new.fresh at are left right c.in_ok-parts.ensures.parts c.requires.numbers ends blocks of)))

pub graft_below-requires-clause-path : goal.graft_below-requires-clause-path
graft_below-requires-clause-path c =
    let (t, (r, is)) = c.requires.path in
    let item = given_item c.args.key.now 5 c.args.body.now in
    let at = over_in arc_value c.args.path.now c.index-path-count.result c.index-path-count-2.result c.index-path-count.is c.index-path-count-2.is t r item c.args.fresh.now is in
    let ends = (leaf_in arc_value c.args.path.now c.index-path-count.result c.index-path-count.is t r item c.args.fresh.now is).to in
    let packed = c.as_slice.ensures.value ∙ (c.in_ok-pieces.ensures.over ∙ (λ i. over_pieces item (c.deref-2.ensures i) (option_map arc_value c.in_ok-parts.parts.right) (twig_pieces (c.deref.ensures i)))) in (
      t,
      (
        r,
        subst (λ qs. IsGraftIn t r (map arc_value (take (length c.args.path.now - 1) c.args.path.now)) qs c.part_leaf.new.fresh) (sym packed)
            (graft_above arc_value c.args.path.now c.index-path-count.result c.index-path-count-2.result c.index-path-count.is c.index-path-count-2.is t r item c.args.fresh.now is _ c.part_leaf.new.fresh
            (over_grafted t r item (arc_value c.index-path-count.result) (arc_value c.index-path-count-2.result) (ups arc_value c.args.path.now c.index-path-count.result c.index-path-count-2.result c.index-path-count.is c.index-path-count-2.is t r item c.args.fresh.now is) c.args.fresh.now c.part_leaf.new.fresh at
            (subst (λ (x : CellSeen). ArePiecesOf x (twig_pieces x)) c.deref.ensures c.in_ok-pieces.ensures.are) (option_map arc_value c.in_ok-parts.parts.left) (option_map arc_value c.in_ok-parts.parts.right) c.in_ok-parts.ensures.parts c.requires.numbers ends)),
      ),
    )

pub returns-clause-change : goal.returns-clause-change
returns-clause-change c =
    let (t, (r, is)) = c.requires.path in
    IfOk-weaker c.graft_below.result _ _ (λ d change blocks of. change t r blocks c.args.fresh.now.next (given_below c t r is blocks of)) c.graft_below.ensures.change

pub returns-clause-meets : goal.returns-clause-meets
returns-clause-meets c = IfOk-weaker c.graft_below.result _ _ (λ d meets t r blocks is of. meets t r blocks c.args.fresh.now.next (given_below c t r is blocks of)) c.graft_below.ensures.meets

pub returns-clause-over : goal.returns-clause-over
returns-clause-over c =
    let (t, (r, is)) = c.requires.path in
    let ends = (leaf_in arc_value c.args.path.now c.index-path-count.result c.index-path-count.is t r (item c) c.args.fresh.now is).to in
    IfOk-weaker c.graft_below.result _ _ (λ d grafts.
    puts_over_up arc_value c.args.path.now c.index-path-count.result c.index-path-count-2.result c.index-path-count.is c.index-path-count-2.is t r (item c) c.args.fresh.now is
    (are c) (left c) (right c) c.part_leaf.new.fresh c.in_ok-parts.ensures.parts c.requires.numbers ends c.graft_below.new.fresh d
    (subst (λ qs. GraftsBelow (map arc_value (take (length c.args.path.now - 1) c.args.path.now)) qs (record { old = leaf c ∷ []; new = given_cells (left c) ++ given_cells (right c) }) c.part_leaf.new.fresh c.graft_below.new.fresh d) (packed c)
    (subst (λ (b : Below). GraftsBelow (map arc_value (take (length c.args.path.now - 1) c.args.path.now)) c.as_slice.result.now b c.part_leaf.new.fresh c.graft_below.new.fresh d)
    (λ i. record { old = c.in_ok-old.ensures i; new = c.in_ok-new.ensures i }) grafts))) c.graft_below.ensures.grafts
