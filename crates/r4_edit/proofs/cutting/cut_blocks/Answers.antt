use Rattle.std.proofs.Common.{◌≡◌, ℕ, ◌≤◌, [], refl, map, sym, ap, subst, ◌∙◌, arith}
use Rattle.std.specs.Prelude.{reverse}
use Rattle.std.specs.Arc.{arc_value}
use Rattle.std.specs.Option.{option_copied, option_map}
use Rattle.std.proofs.lemmas.Result.{IfOk-weaker}
use Rattle.r4_base.specs.Key.{rank}
use Rattle.r4_base.specs.Node.{mkfs_id_of}
use Rattle.r4_base.specs.Tree.{Root as TreeRoot, Store}
use Rattle.r4_base.specs.Value.{Value}
use Rattle.r4_path.specs.r4_cell.Seen.{CellSeen}
use Rattle.r4_path.specs.r4_cell.declared.change.Fresh.{Fresh}
use Rattle.r4_path.specs.r4_graft.Splices.{IsBorder}
use Rattle.r4_edit.specs.CutBlocks.{IsCutUp, IsTakenUp, after_leaves, cut_pieces, end_key, new_pointer, parted_twice}
use Rattle.r4_path.specs.TwigPieces.{ArePiecesOf, twig_pieces}
use Rattle.r4_path.specs.Grafts.{IsGraftBelowIn, IsGraftIn}
use Rattle.r4_edit.proofs.CutPath.{change_alone, cut_graft_in, cut_last, cut_left, cut_below_as, cuts_as, meets_alone}
use Rattle.r4_edit.proofs.cutting.cut_blocks.Goals as goal
use Rattle.r4_edit.proofs.cutting.cut_blocks.Goals.{After-drop-pieces}

pub returns-in_err-old-clause-numbers : goal.returns-in_err-old-clause-numbers
returns-in_err-old-clause-numbers c =
    let (t, (r, is)) = c.requires.path in
    let leaf = option_map arc_value (option_copied c.args.leaf) in
    let at = cut_last arc_value c.args.path.now c.index-path-path.result c.index-path-path.is t r leaf (map arc_value c.args.blocks.now) (rank c.args.from.now) (rank c.args.to.now) c.args.fresh.now is in
    let numbers = (at.room c.args.fresh.now.next).numbers in
    (omega arith, omega (arith, numbers), refl)

pub cut_twig-requires-clause-level : goal.cut_twig-requires-clause-level
cut_twig-requires-clause-level c =
    let (t, (r, is)) = c.requires.path in
    subst (λ (x : CellSeen). x.level ≡ 2) (sym c.deref.ensures) ((cut_last arc_value c.args.path.now c.index-path-path.result c.index-path-path.is t r (option_map arc_value (option_copied c.args.leaf)) (map arc_value c.args.blocks.now) (rank c.args.from.now) (rank c.args.to.now) c.args.fresh.now is).room c.args.fresh.now.next).level

pub cut_twig-requires-clause-border : goal.cut_twig-requires-clause-border
cut_twig-requires-clause-border c =
    let (t, (r, is)) = c.requires.path in
    subst (λ (x : CellSeen). IsBorder (rank c.args.from.now) (twig_pieces x)) (sym c.deref.ensures) (cut_last arc_value c.args.path.now c.index-path-path.result c.index-path-path.is t r (option_map arc_value (option_copied c.args.leaf)) (map arc_value c.args.blocks.now) (rank c.args.from.now) (rank c.args.to.now) c.args.fresh.now is).first_border

pub cut_twig-requires-clause-leaf : goal.cut_twig-requires-clause-leaf
cut_twig-requires-clause-leaf c d same =
    let (t, (r, is)) = c.requires.path in
    subst (λ (x : CellSeen). (d.level ≡ 1) × (ArePiecesOf x (twig_pieces x) → rank d.hi ≤ rank (end_key (rank c.args.from.now) (rank c.args.to.now) x))) (sym c.deref.ensures)
    (cut_left arc_value c.args.path.now c.index-path-path.result c.index-path-path.is t r (option_map arc_value (option_copied c.args.leaf)) (map arc_value c.args.blocks.now) (rank c.args.from.now) (rank c.args.to.now) c.args.fresh.now is d same c.requires.numbers)

pub cut_twig-requires-clause-number : goal.cut_twig-requires-clause-number
cut_twig-requires-clause-number c =
    let (t, (r, is)) = c.requires.path in
    let numbers = ((cut_last arc_value c.args.path.now c.index-path-path.result c.index-path-path.is t r (option_map arc_value (option_copied c.args.leaf)) (map arc_value c.args.blocks.now) (rank c.args.from.now) (rank c.args.to.now) c.args.fresh.now is).room c.args.fresh.now.next).numbers in
    omega (arith, numbers)

pub graft_below-requires-clause-path : goal.graft_below-requires-clause-path
graft_below-requires-clause-path c =
    let (t, (r, is)) = c.requires.path in
    let leaf = option_map arc_value (option_copied c.args.leaf) in
    let from = rank c.args.from.now in
    let to = rank c.args.to.now in
    let twig = arc_value c.index-path-path.result in
    let e = c.in_ok-pieces.ensures in
    let are = subst (λ (x : CellSeen). ArePiecesOf x (twig_pieces x)) c.deref.ensures e.are in
    let packed = c.as_slice.ensures.value ∙ (e.pieces ∙ ap (cut_pieces from to c.args.fresh.now.next leaf) c.deref.ensures) in
    let later = e.fresh ∙ ap (λ (x : CellSeen). after_leaves from to leaf x c.args.fresh.now) c.deref.ensures in (
      t,
      (
        r,
        subst (λ (f : Fresh). IsGraftIn t r (map arc_value c.args.path.now) c.as_slice.result.now f) (sym later)
            (subst (λ qs. IsGraftIn t r (map arc_value c.args.path.now) qs (after_leaves from to leaf twig c.args.fresh.now)) (sym packed)
            (cut_graft_in arc_value c.args.path.now c.index-path-path.result c.index-path-path.is t r leaf (map arc_value c.args.blocks.now) from to c.args.fresh.now is are c.requires.numbers)),
      ),
    )

module _ (c : After-drop-pieces) where
  abbrev twig : CellSeen
  twig = arc_value c.index-path-path.result

  abbrev from : ℕ
  from = rank c.args.from.now

  abbrev to : ℕ
  to = rank c.args.to.now

  are : ArePiecesOf twig (twig_pieces twig)
  are = subst (λ (x : CellSeen). ArePiecesOf x (twig_pieces x)) c.deref.ensures c.in_ok-pieces.ensures.are

  packed : c.as_slice.result.now ≡ cut_pieces from to c.args.fresh.now.next (option_map arc_value (option_copied c.args.leaf)) twig
  packed = c.as_slice.ensures.value ∙ (c.in_ok-pieces.ensures.pieces ∙ ap (cut_pieces from to c.args.fresh.now.next (option_map arc_value (option_copied c.args.leaf))) c.deref.ensures)

  later : c.cut_twig.new.fresh ≡ after_leaves from to (option_map arc_value (option_copied c.args.leaf)) twig c.args.fresh.now
  later = c.in_ok-pieces.ensures.fresh ∙ ap (λ (x : CellSeen). after_leaves from to (option_map arc_value (option_copied c.args.leaf)) x c.args.fresh.now) c.deref.ensures

  taken : IsTakenUp (option_map arc_value (option_copied c.args.leaf)) (new_pointer from to c.args.fresh.now.next (option_map arc_value (option_copied c.args.leaf)) (parted_twice from to (twig_pieces twig)))
      c.args.fresh.now.next (end_key from to twig) (mkfs_id_of twig.block) (map arc_value c.in_ok-pieces.field-0.new.items)
  taken = subst (λ (x : CellSeen). IsTakenUp (option_map arc_value (option_copied c.args.leaf)) (new_pointer from to c.args.fresh.now.next (option_map arc_value (option_copied c.args.leaf)) (parted_twice from to (twig_pieces x)))
      c.args.fresh.now.next (end_key from to x) (mkfs_id_of x.block) (map arc_value c.in_ok-pieces.field-0.new.items)) c.deref.ensures c.in_ok-pieces.ensures.cells

  below : (t : Store Value) (r : TreeRoot) → IsCutUp t r (option_map arc_value (option_copied c.args.leaf)) (map arc_value c.args.blocks.now) from to c.args.fresh.now (reverse (map arc_value c.args.path.now))
      → IsGraftBelowIn t r (map arc_value c.args.path.now) c.as_slice.result.now (record { old = map arc_value c.in_ok-old.old.items; new = map arc_value c.in_ok-pieces.field-0.new.items }) [] c.args.fresh.now.next c.cut_twig.new.fresh
  below t r is = cut_below_as arc_value c.args.path.now c.index-path-path.result c.index-path-path.is t r (option_map arc_value (option_copied c.args.leaf)) (map arc_value c.args.blocks.now) from to c.args.fresh.now is
      are c.requires.numbers (map arc_value c.in_ok-pieces.field-0.new.items) taken c.as_slice.result.now c.cut_twig.new.fresh (map arc_value c.in_ok-old.old.items) packed later c.in_ok-old.ensures

pub returns-clause-change : goal.returns-clause-change
returns-clause-change c =
    let (t, (r, is)) = c.requires.path in
    IfOk-weaker c.graft_below.result _ _ (λ d change. change_alone d (change t r [] c.args.fresh.now.next (below c t r is))) c.graft_below.ensures.change

pub returns-clause-meets : goal.returns-clause-meets
returns-clause-meets c = IfOk-weaker c.graft_below.result _ _ (λ d meets t r is. meets_alone d t r (meets t r [] c.args.fresh.now.next (below c t r is))) c.graft_below.ensures.meets

pub returns-clause-cuts : goal.returns-clause-cuts
returns-clause-cuts c =
    let (t, (r, is)) = c.requires.path in
    IfOk-weaker c.graft_below.result _ _ (λ d grafts.
    cuts_as arc_value c.args.path.now c.index-path-path.result c.index-path-path.is t r (option_map arc_value (option_copied c.args.leaf)) (map arc_value c.args.blocks.now) (from c) (to c) c.args.fresh.now is
    (are c) c.requires.numbers (map arc_value c.in_ok-pieces.field-0.new.items) (taken c) c.as_slice.result.now c.cut_twig.new.fresh (map arc_value c.in_ok-old.old.items) (packed c) (later c) c.in_ok-old.ensures
    c.graft_below.new.fresh d grafts) c.graft_below.ensures.grafts
