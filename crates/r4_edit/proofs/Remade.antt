-- The leaf of a path that is given from the top down, of which all edits are made at once.
use Rattle.std.proofs.Common.{◌≡◌, ◌≢◌, ◌-◌, ◌<◌, ◌≤◌, List, [], ◌∷◌, length, map, take, get_or, sym, subst, arith}
use Rattle.std.specs.Prelude.{reverse}
use Rattle.r4_base.specs.Key.{rank}
use Rattle.r4_base.specs.Tree.{Root, Store}
use Rattle.r4_base.specs.Value.{Value}
use Rattle.r4_path.specs.r4_cell.Seen.{CellSeen, node_of}
use Rattle.r4_path.specs.r4_cell.declared.change.Fresh.{Fresh}
use Rattle.r4_path.specs.r4_leaf.declared.remaking.Given.{Given}
use Rattle.r4_path.specs.r4_leaf.declared.remaking.KeyRange.{KeyRange}
use Rattle.r4_edit.specs.Remaking.{IsRemadeIn, IsRemadeUp, IsRemakeIn}
use Rattle.r4_path.proofs.Rising.{hi_is, lo_is}
use Rattle.r4_path.proofs.Upwards.{last_first}

module _ {A : Type 0} (h : A → CellSeen) (path : List A) (x : A) (last : x ≡ get_or path (length path - 1) x) (f : Fresh) (cuts : List KeyRange) (items : List Given) where
  some_in : (t : Store Value) (r : Root) (xs : List A) → IsRemakeIn t r (map h xs) cuts items f → length xs ≢ 0
  some_in t r [] is e = is
  some_in t r (y ∷ ys) is e = omega (arith, e)

  pub remake_some : (t : Store Value) (r : Root) → IsRemakeIn t r (map h path) cuts items f → length path ≢ 0
  remake_some t r is = some_in t r path is

  pub remade : (t : Store Value) (r : Root) → IsRemakeIn t r (map h path) cuts items f
      → IsRemadeIn t r cuts items (h x) (reverse (map h (take (length path - 1) path))) f
  remade t r is = subst (IsRemadeUp t r cuts items f) (last_first h path x (some_in t r path is) last) is

-- the leaf has a range
pub has_range : (t : Store Value) (r : Root) (cuts : List KeyRange) (items : List Given) (leaf : CellSeen) (ups : List CellSeen) (f : Fresh) → IsRemadeIn t r cuts items leaf ups f → rank leaf.lo ≤ rank leaf.hi
has_range t r cuts items leaf ups f is =
    let node = is.edited.path.part.nodes leaf.id (node_of leaf) is.edited.path.ascends.0 in
    let some = node.nonempty in
    let lo = lo_is leaf in
    let hi = hi_is leaf in
    omega (arith, some, lo, hi)
