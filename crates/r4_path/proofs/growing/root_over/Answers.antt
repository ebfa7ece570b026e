use Rattle.std.proofs.Common.{◌≡◌, ◌∙◌, ◌+◌, ap, sym, subst, arith, get_or, length, map, List, [], ◌∷◌, ℕ}
use Rattle.std.specs.Prelude.{Some, slice_get}
use Rattle.std.proofs.lemmas.Option.{same_Some}
use Rattle.std.proofs.lemmas.Result.{IfOk-weaker}
use Rattle.std.specs.Arc.{arc_value}
use Rattle.r4_base.specs.Key.{least, rank, top}
use Rattle.r4_base.specs.Node.{Item, KeysRise, mkfs_id_of}
use Rattle.r4_patch.specs.r4_cell.Seen.{CellSeen}
use Rattle.r4_path.specs.Nodes.{IsNodeOf, pointer_item}
use Rattle.r4_path.proofs.CellNodes.{long_map, map_twice, root_is, root_sound}
use Rattle.r4_path.proofs.PointerNodes.{pointers_rise}
use Rattle.r4_path.proofs.growing.root_over.Goals as goal

first_of : {A : Type 0} (f : A → CellSeen) (xs : List A) (y : A) (first : CellSeen) → y ≡ get_or xs 0 y
    → slice_get (map f xs) 0 ≡ Some first → f y ≡ first
first_of f [] y first is at = absurd cc
first_of f (x ∷ xs) y first is at = ap f is ∙ same_Some (f x) first at

pub fill_pointers-requires-clause-rising : goal.fill_pointers-requires-clause-rising
fill_pointers-requires-clause-rising c = subst KeysRise (sym (map_twice arc_value c.args.cells.now))
    (pointers_rise c.args.level least top (map arc_value c.args.cells.now) c.requires.follow)

pub new_cell-requires : goal.new_cell-requires
new_cell-requires c =
    let long = long_map arc_value c.args.cells.now in
    let some = c.requires.some in
    root_sound c.args.level (map arc_value c.args.cells.now) c.requires.follow c.requires.able (omega (arith, long, some))
    (c.args.level + 1) (rank c.least.result) (rank c.top.result) c.fill_pointers.new.block
    (omega arith) c.least.ensures c.top.ensures
    (subst (λ (items : List Item). IsNodeOf (c.args.level + 1) items c.fill_pointers.new.block)
    (map_twice arc_value c.args.cells.now) c.fill_pointers.ensures.node)

pub returns-clause-root : goal.returns-clause-root
returns-clause-root c =
    let long = long_map arc_value c.args.cells.now in
    let some = c.requires.some in
    IfOk-weaker c.new_cell.result _ _ (λ x is.
    root_is c.args.level (map arc_value c.args.cells.now) c.requires.follow c.requires.able (omega (arith, long, some))
    (c.args.level + 1) c.args.fresh.now.next (arc_value x) (omega arith)
    (ap (λ (s : CellSeen). s.id) is ∙ c.take_number.ensures.number) (ap (λ (s : CellSeen). s.level) is)
    (ap (λ (s : CellSeen). rank s.lo) is ∙ c.least.ensures) (ap (λ (s : CellSeen). rank s.hi) is ∙ c.top.ensures)
    (ap (λ (s : CellSeen). length s.block) is ∙ c.fill_pointers.ensures.node.node.laid.whole)
    (subst (λ (b : List ℕ). IsNodeOf (c.args.level + 1) (map pointer_item (map arc_value c.args.cells.now)) b)
    (sym (ap (λ (s : CellSeen). s.block) is))
    (subst (λ (items : List Item). IsNodeOf (c.args.level + 1) items c.fill_pointers.new.block)
    (map_twice arc_value c.args.cells.now) c.fill_pointers.ensures.node))
    (λ first at. ap (λ (s : CellSeen). mkfs_id_of s.block) is ∙ (c.fill_pointers.ensures.mkfs_id ∙ (c.get32-mkfs_id.ensures
    ∙ ap mkfs_id_of (c.bytes.ensures.value ∙ (c.block.ensures ∙ ap (λ (s : CellSeen). s.block)
    (c.deref.ensures ∙ first_of arc_value c.args.cells.now c.index-cells-0.result first c.index-cells-0.is at)))))))
    c.new_cell.ensures
