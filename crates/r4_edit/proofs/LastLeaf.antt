-- The leaf of a path that is given from the top down, in whose place leaves come.
use Rattle.std.proofs.Common.{◌≡◌, ◌≢◌, ◌+◌, ◌-◌, ◌<◌, List, [], ◌∷◌, length, map, take, get_or, sym, subst, arith}
use Rattle.std.specs.Prelude.{min, reverse}
use Rattle.r4_base.specs.Node.{Item, mkfs_id_of}
use Rattle.r4_base.specs.Tree.{Root, Store}
use Rattle.r4_base.specs.Value.{Value}
use Rattle.r4_base.specs.declared.key.Key.{Key}
use Rattle.r4_path.specs.r4_cell.Seen.{CellSeen}
use Rattle.r4_path.specs.r4_cell.declared.change.Change.{Change}
use Rattle.r4_path.specs.r4_cell.declared.change.Fresh.{Fresh}
use Rattle.r4_path.specs.r4_leaf.Leaves.{HaveMkfsId}
use Rattle.r4_path.specs.r4_leaf.Units.{LeafUnit}
use Rattle.r4_path.specs.r4_leaf.declared.leaf.Leaf.{Leaf}
use Rattle.r4_edit.specs.Editing.{AreLeavesOf, EditsUp, IsCutOfLeafIn, IsCutOutIn, IsCutOutUp, IsEditedIn, IsInsertIn, IsInsertedIn}
use Rattle.r4_edit.specs.Editing.{IsInsertedUp, IsReplacedUp, extra_for, extra_up}
use Rattle.r4_path.proofs.Upwards.{last_first, long_above}

module _ {A : Type 0} (h : A → CellSeen) (path : List A) (x : A) (last : x ≡ get_or path (length path - 1) x) (f : Fresh) where
  -- ---- an item that is put in

  some_inserted : (t : Store Value) (r : Root) (it : Item) (xs : List A) → IsInsertIn t r (map h xs) it f → length xs ≢ 0
  some_inserted t r it [] is e = is
  some_inserted t r it (y ∷ ys) is e = omega (arith, e)

  pub inserted : (t : Store Value) (r : Root) (it : Item) → IsInsertIn t r (map h path) it f
      → IsInsertedIn t r it (h x) (reverse (map h (take (length path - 1) path))) f
  inserted t r it is = subst (IsInsertedUp t r it f) (last_first h path x (some_inserted t r it path is) last) is

  pub insert_some : (t : Store Value) (r : Root) (it : Item) → IsInsertIn t r (map h path) it f → length path ≢ 0
  insert_some t r it is = some_inserted t r it path is

  -- ---- units that are cut out

  some_cut : (t : Store Value) (r : Root) (from to : Key) (xs : List A) → IsCutOfLeafIn t r (map h xs) from to f → length xs ≢ 0
  some_cut t r from to [] is e = is
  some_cut t r from to (y ∷ ys) is e = omega (arith, e)

  pub cut_out : (t : Store Value) (r : Root) (from to : Key) → IsCutOfLeafIn t r (map h path) from to f
      → IsCutOutIn t r from to (h x) (reverse (map h (take (length path - 1) path))) f
  cut_out t r from to is = subst (IsCutOutUp t r from to f) (last_first h path x (some_cut t r from to path is) last) is

  pub cut_some : (t : Store Value) (r : Root) (from to : Key) → IsCutOfLeafIn t r (map h path) from to f → length path ≢ 0
  cut_some t r from to is = some_cut t r from to path is

  -- ---- what comes in its place

  module _ (after : CellSeen → List LeafUnit) (some : length path ≢ 0) where
    pub replaced : (t : Store Value) (r : Root) (leaves : List Leaf) (seen : CellSeen) → seen ≡ h x
        → IsEditedIn t r (after (h x)) (h x) (reverse (map h (take (length path - 1) path))) f
        → AreLeavesOf seen (after seen) leaves → HaveMkfsId (mkfs_id_of seen.block) leaves
        → f.next + length path + extra_for after (map h path) < f.end
        → IsReplacedUp t r (after (h x)) leaves f (reverse (map h path))
    replaced t r leaves seen same edited are ids numbers =
        let up = last_first h path x some last in
        let extra = subst (λ cells. f.next + length path + min 15 (extra_up after cells) < f.end) up numbers in
        let long = long_above h path some in
        subst (IsReplacedUp t r (after (h x)) leaves f) (sym up) (record {
          edited = edited;
          leaves_are = subst (λ c. AreLeavesOf c (after c) leaves) same are;
          mkfs_id = subst (λ c. HaveMkfsId (mkfs_id_of c.block) leaves) same ids;
          numbers = omega (arith, extra, long);
        })

    pub edited : (g : Fresh) (d : Change) → EditsUp (λ leaf. after (h x)) f g d (reverse (map h path))
        → EditsUp after f g d (reverse (map h path))
    edited g d edits =
        let up = last_first h path x some last in
        subst (EditsUp after f g d) (sym up) (subst (EditsUp (λ leaf. after (h x)) f g d) up edits)
