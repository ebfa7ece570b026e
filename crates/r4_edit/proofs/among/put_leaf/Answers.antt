use Rattle.std.proofs.Common.{ℕ, drop, ◌≡◌, ◌++◌, ◌∷◌, [], map, ap, subst, ◌∙◌, arith}
use Rattle.std.specs.Prelude.{reverse}
use Rattle.std.specs.Arc.{arc_value}
use Rattle.std.proofs.lemmas.Result.{IfOk-weaker}
use Rattle.std.proofs.lemmas.List.{append-nil}
use Rattle.r4_base.specs.Key.{rank}
use Rattle.r4_base.specs.Node.{Item, mkfs_id_of}
use Rattle.r4_base.specs.Tree.{Root as TreeRoot, Store}
use Rattle.r4_base.specs.Value.{Value}
use Rattle.r4_path.specs.r4_branch.Pieces.{next_of}
use Rattle.r4_path.specs.r4_graft.Splices.{place}
use Rattle.r4_path.specs.r4_cell.Patch.{IsChange, patch_of}
use Rattle.r4_path.specs.r4_patch.Part.{MeetsPart}
use Rattle.r4_path.specs.r4_cell.Seen.{CellSeen}
use Rattle.r4_edit.specs.Editing.{given_item}
use Rattle.r4_edit.specs.Extents.{IsLeafPutUp, leaf_pointer}
use Rattle.r4_path.specs.TwigPieces.{ArePiecesOf, put_pieces, twig_pieces}
use Rattle.r4_path.specs.Grafts.{IsGraftBelowIn, IsGraftIn}
use Rattle.r4_edit.specs.LeafParts.{IsLeafOf}
use Rattle.r4_edit.proofs.LeafAmong.{item_fits, leaf_number, leaf_put_in, packed_below, packed_in, took_one}
use Rattle.r4_edit.proofs.PutUnits.{puts_leaf_up}
use Rattle.r4_edit.proofs.among.put_leaf.Goals as goal

pub take_number-id-requires : goal.take_number-id-requires
take_number-id-requires c =
    let (t, (r, is)) = c.requires.path in
    leaf_number arc_value c.args.path.now c.index-path-path.result c.index-path-path.is t r (given_item c.args.key.now c.args.plugin c.args.body.now) c.args.fresh.now is

pub returns-in_err-old-clause-numbers : goal.returns-in_err-old-clause-numbers
returns-in_err-old-clause-numbers c =
    let (t, (r, is)) = c.requires.path in
    took_one c.args.fresh.now c.take_number-id.new.fresh (leaf_number arc_value c.args.path.now c.index-path-path.result c.index-path-path.is t r (given_item c.args.key.now c.args.plugin c.args.body.now) c.args.fresh.now is) c.take_number-id.ensures.next

pub returns-in_err-pieces-clause-numbers : goal.returns-in_err-pieces-clause-numbers
returns-in_err-pieces-clause-numbers c =
    let (t, (r, is)) = c.requires.path in
    took_one c.args.fresh.now c.take_number-id.new.fresh (leaf_number arc_value c.args.path.now c.index-path-path.result c.index-path-path.is t r (given_item c.args.key.now c.args.plugin c.args.body.now) c.args.fresh.now is) c.take_number-id.ensures.next

pub leaf_of-requires-clause-to : goal.leaf_of-requires-clause-to
leaf_of-requires-clause-to c =
    let (t, (r, is)) = c.requires.path in
    let item = given_item c.args.key.now c.args.plugin c.args.body.now in
    let at = leaf_put_in arc_value c.args.path.now c.index-path-path.result c.index-path-path.is t r item c.args.fresh.now is in
    let are = subst (λ (x : CellSeen). ArePiecesOf x (twig_pieces x)) c.deref.ensures (subst (ArePiecesOf c.deref.result.now) c.in_ok-old.ensures.is c.in_ok-old.ensures) in
    let fits = item_fits (arc_value c.index-path-path.result) item are at.keys in
    let slice = c.as_slice.ensures.value ∙ (c.in_ok-old.ensures.is ∙ ap twig_pieces c.deref.ensures) in
    let end = c.end_behind-hi.ensures ∙ (λ i. next_of (rank ((c.hi.ensures ∙ ap (λ (x : CellSeen). x.hi) c.deref-2.ensures) i)) (drop (place (rank c.args.key.now) (slice i)) (slice i))) in
    omega (arith, fits, end)

pub returns-in_err-leaf_of-clause-numbers : goal.returns-in_err-leaf_of-clause-numbers
returns-in_err-leaf_of-clause-numbers c =
    let (t, (r, is)) = c.requires.path in
    took_one c.args.fresh.now c.take_number-id.new.fresh (leaf_number arc_value c.args.path.now c.index-path-path.result c.index-path-path.is t r (given_item c.args.key.now c.args.plugin c.args.body.now) c.args.fresh.now is) c.take_number-id.ensures.next

module _ (c : goal.After-graft_below-arg-1) where
  abbrev item : Item
  item = given_item c.args.key.now c.args.plugin c.args.body.now

  abbrev twig : CellSeen
  twig = arc_value c.index-path-path.result

  abbrev leaf : CellSeen
  leaf = arc_value c.in_ok-leaf_of.field-0

  slice : c.as_slice.result.now ≡ twig_pieces twig
  slice = c.as_slice.ensures.value ∙ (c.in_ok-old.ensures.is ∙ ap twig_pieces c.deref.ensures)

  packed : c.as_slice-3.result.now ≡ put_pieces c.args.key.now (leaf_pointer c.args.key.now c.args.fresh.now.next) (twig_pieces twig)
  packed =
      c.as_slice-3.ensures.value ∙ (c.in_ok-pieces.ensures
      ∙ (λ i. put_pieces c.args.key.now (leaf_pointer c.args.key.now (c.take_number-id.ensures.number i)) ((c.as_slice-2.ensures.value ∙ (c.in_ok-old.ensures.is ∙ ap twig_pieces c.deref.ensures)) i)))

  end : rank c.end_behind-hi.result ≡ next_of (rank twig.hi) (drop (place (rank c.args.key.now) (twig_pieces twig)) (twig_pieces twig))
  end = c.end_behind-hi.ensures ∙ (λ i. next_of (rank ((c.hi.ensures ∙ ap (λ (x : CellSeen). x.hi) c.deref-2.ensures) i)) (drop (place (rank c.args.key.now) (slice i)) (slice i)))

  are : ArePiecesOf twig (twig_pieces twig)
  are = subst (λ (x : CellSeen). ArePiecesOf x (twig_pieces x)) c.deref.ensures (subst (ArePiecesOf c.deref.result.now) c.in_ok-old.ensures.is c.in_ok-old.ensures)

  leaf_is : IsLeafOf item c.args.fresh.now.next c.end_behind-hi.result c.get32-mkfs_id.result leaf
  leaf_is = subst (λ (n : ℕ). IsLeafOf item n c.end_behind-hi.result c.get32-mkfs_id.result leaf) c.take_number-id.ensures.number c.in_ok-leaf_of.ensures

  path_in : (t : Store Value) (r : TreeRoot) → IsLeafPutUp t r item c.args.fresh.now (reverse (map arc_value c.args.path.now)) → IsGraftIn t r (map arc_value c.args.path.now) c.as_slice-3.result.now c.take_number-id.new.fresh
  path_in t r is =
      packed_in arc_value c.args.path.now c.index-path-path.result c.index-path-path.is t r item c.args.fresh.now is c.requires.numbers
      c.take_number-id.new.fresh c.take_number-id.ensures.next leaf c.end_behind-hi.result c.get32-mkfs_id.result leaf_is end are c.as_slice-3.result.now packed

pub graft_below-requires-clause-path : goal.graft_below-requires-clause-path
graft_below-requires-clause-path c = let (t, (r, is)) = c.requires.path in (t, (r, path_in c t r is))

module _ (c : goal.After-drop-old-2) where
  abbrev then_item : Item
  then_item = given_item c.args.key.now c.args.plugin c.args.body.now

  abbrev then_twig : CellSeen
  then_twig = arc_value c.index-path-path.result

  abbrev then_leaf : CellSeen
  then_leaf = arc_value c.in_ok-leaf_of.field-0

  then_slice : c.as_slice.result.now ≡ twig_pieces then_twig
  then_slice = c.as_slice.ensures.value ∙ (c.in_ok-old.ensures.is ∙ ap twig_pieces c.deref.ensures)

  then_packed : c.as_slice-3.result.now ≡ put_pieces c.args.key.now (leaf_pointer c.args.key.now c.args.fresh.now.next) (twig_pieces then_twig)
  then_packed =
      c.as_slice-3.ensures.value ∙ (c.in_ok-pieces.ensures
      ∙ (λ i. put_pieces c.args.key.now (leaf_pointer c.args.key.now (c.take_number-id.ensures.number i)) ((c.as_slice-2.ensures.value ∙ (c.in_ok-old.ensures.is ∙ ap twig_pieces c.deref.ensures)) i)))

  then_end : rank c.end_behind-hi.result ≡ next_of (rank then_twig.hi) (drop (place (rank c.args.key.now) (twig_pieces then_twig)) (twig_pieces then_twig))
  then_end = c.end_behind-hi.ensures ∙ (λ i. next_of (rank ((c.hi.ensures ∙ ap (λ (x : CellSeen). x.hi) c.deref-2.ensures) i)) (drop (place (rank c.args.key.now) (then_slice i)) (then_slice i)))

  then_are : ArePiecesOf then_twig (twig_pieces then_twig)
  then_are = subst (λ (x : CellSeen). ArePiecesOf x (twig_pieces x)) c.deref.ensures (subst (ArePiecesOf c.deref.result.now) c.in_ok-old.ensures.is c.in_ok-old.ensures)

  then_leaf_is : IsLeafOf then_item c.args.fresh.now.next c.end_behind-hi.result c.get32-mkfs_id.result then_leaf
  then_leaf_is = subst (λ (n : ℕ). IsLeafOf then_item n c.end_behind-hi.result c.get32-mkfs_id.result then_leaf) c.take_number-id.ensures.number c.in_ok-leaf_of.ensures

  come : map arc_value c.push.new.self.items ≡ then_leaf ∷ []
  come = ap (map arc_value) (c.in_ok-push.ensures.items ∙ ap (λ xs. xs ++ c.in_ok-leaf_of.field-0 ∷ []) c.in_ok-new.ensures.items)

  below_in : (t : Store Value) (r : TreeRoot) → IsLeafPutUp t r then_item c.args.fresh.now (reverse (map arc_value c.args.path.now))
      → IsGraftBelowIn t r (map arc_value c.args.path.now) c.as_slice-3.result.now (record { old = map arc_value c.new.result.items; new = map arc_value c.push.new.self.items }) [] c.args.fresh.now.next c.take_number-id.new.fresh
  below_in t r is =
      packed_below arc_value c.args.path.now c.index-path-path.result c.index-path-path.is t r then_item c.args.fresh.now is c.requires.numbers
      c.take_number-id.new.fresh c.take_number-id.ensures.next then_leaf c.end_behind-hi.result c.get32-mkfs_id.result then_leaf_is then_end then_are c.as_slice-3.result.now then_packed
      (map arc_value c.new.result.items) (map arc_value c.push.new.self.items) (ap (map arc_value) c.new.ensures.items) come

pub returns-clause-change : goal.returns-clause-change
returns-clause-change c =
    let (t, (r, is)) = c.requires.path in
    IfOk-weaker c.graft_below.result _ _ (λ d change. subst (λ new. IsChange d.old new d.root) (append-nil d.new) (change t r [] c.args.fresh.now.next (below_in c t r is))) c.graft_below.ensures.change

pub returns-clause-meets : goal.returns-clause-meets
returns-clause-meets c =
    IfOk-weaker c.graft_below.result _ _ (λ d meets t r is. subst (λ new. MeetsPart (patch_of d.old new d.root) t r) (append-nil d.new) (meets t r [] c.args.fresh.now.next (below_in c t r is))) c.graft_below.ensures.meets

then_mkfs_id : (c : goal.After-drop-old-2) → c.get32-mkfs_id.result ≡ mkfs_id_of (then_twig c).block
then_mkfs_id c = c.get32-mkfs_id.ensures ∙ ap mkfs_id_of (c.bytes.ensures.value ∙ (c.block.ensures ∙ ap (λ (x : CellSeen). x.block) c.deref-3.ensures))

pub returns-clause-apart : goal.returns-clause-apart
returns-clause-apart c =
    let (t, (r, is)) = c.requires.path in
    IfOk-weaker c.graft_below.result _ _ (λ d grafts.
    puts_leaf_up arc_value c.args.path.now c.index-path-path.result c.index-path-path.is t r (then_item c) c.args.fresh.now is c.requires.numbers
    c.take_number-id.new.fresh c.take_number-id.ensures.next (then_leaf c) c.end_behind-hi.result c.get32-mkfs_id.result (then_leaf_is c) (then_end c) (then_are c) c.as_slice-3.result.now (then_packed c)
    (then_mkfs_id c) (map arc_value c.new.result.items) (map arc_value c.push.new.self.items) (ap (map arc_value) c.new.ensures.items) (come c) c.graft_below.new.fresh d grafts) c.graft_below.ensures.grafts
