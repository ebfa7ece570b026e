-- An extent over the last cell of a path, a leaf below the last but one.
use Rattle.std.proofs.Common.{◌≡◌, ◌≢◌, ℕ, ◌-◌, ◌<◌, ◌≤◌, List, [], ◌∷◌, length, map, take, get_or, sym, subst, arith}
use Rattle.std.specs.Prelude.{reverse}
use Rattle.std.proofs.lemmas.List.{length-take}
use Rattle.r4_base.specs.Key.{rank}
use Rattle.r4_base.specs.Node.{Item}
use Rattle.r4_base.specs.Tree.{Root, Store}
use Rattle.r4_base.specs.Value.{Value}
use Rattle.r4_path.specs.r4_branch.declared.piece.TwigPiece.{TwigPiece}
use Rattle.r4_path.proofs.r4_branch.Filled.{item_has_end}
use Rattle.r4_path.specs.r4_cell.Seen.{CellSeen}
use Rattle.r4_path.specs.r4_cell.declared.change.Fresh.{Fresh}
use Rattle.r4_edit.specs.Extents.{IsOverIn, IsOverUp}
use Rattle.r4_path.specs.Grafts.{IsGraftBelow, IsGraftBelowIn, IsGraftBelowUp, IsGraftIn, IsGraftedIn, IsGraftedUp}
use Rattle.r4_path.specs.Twigs.{Below}
use Rattle.r4_path.proofs.LastCell.{above_last, up_last}
use Rattle.r4_path.proofs.Upwards.{last_first}

-- The item begins in the leaf's range, and a number is free.
pub record BeginsIn (it : Item) (leaf : CellSeen) (fresh : Fresh) : Type 0 where
  pub level : leaf.level ≡ 1
  pub from : rank leaf.lo ≤ rank it.key
  pub to : rank it.key < rank leaf.hi
  pub number : fresh.next < fresh.end

pub leaf_in : {A : Type 0} (h : A → CellSeen) (path : List A) (x : A) → x ≡ get_or path (length path - 1) x
    → (t : Store Value) (r : Root) (it : Item) (fresh : Fresh) → IsOverUp t r it fresh (reverse (map h path)) → BeginsIn it (h x) fresh
leaf_in h path x last t r it fresh is = by_cells (reverse (map h (take (length path - 1) path))) (up_last h (IsOverUp t r it fresh) (λ e. e) path x last is)
  where
    by_cells : (cells : List CellSeen) → IsOverUp t r it fresh (h x ∷ cells) → BeginsIn it (h x) fresh
    by_cells [] e = absurd e
    by_cells (twig ∷ ups) e =
        let end = item_has_end it e.given.sound in
        let to = e.to in
        record { level = e.leaf_level; from = e.from; to = omega (arith, end, to); number = e.number }

module _ {A : Type 0} (h : A → CellSeen) (path : List A) (x y : A) (last : x ≡ get_or path (length path - 1) x)
    (next : y ≡ get_or path (length path - 1 - 1) y) (t : Store Value) (r : Root) (it : Item) (fresh : Fresh)
    (is : IsOverUp t r it fresh (reverse (map h path))) where
  abbrev pub above : List A
  above = take (length path - 1) path

  abbrev pub ups : List CellSeen
  ups = reverse (map h (take (length above - 1) above))

  mine : IsOverUp t r it fresh (h x ∷ reverse (map h above))
  mine = up_last h (IsOverUp t r it fresh) (λ e. e) path x last is

  some : (xs : List A) → IsOverUp t r it fresh (h x ∷ reverse (map h xs)) → length xs ≢ 0
  some [] e = absurd e
  some (z ∷ xs) e = λ n. omega (arith, n)

  two : 2 ≤ length path
  two = let long = length-take (length path - 1) path in let n = some above mine in omega (arith, long, n)

  pub parted : reverse (map h above) ≡ h y ∷ ups
  parted = last_first h above y (some above mine) (above_last h path x y last next two)

  pub over_in : IsOverIn t r it (h x) (h y) ups fresh
  over_in = subst (λ cells. IsOverUp t r it fresh (h x ∷ cells)) parted mine

  pub graft_above : (qs : List TwigPiece) (after : Fresh) → IsGraftedIn t r qs (h y) ups after → IsGraftIn t r (map h above) qs after
  graft_above qs after g = subst (IsGraftedUp t r qs after) (sym parted) g

  pub below_above : (qs : List TwigPiece) (after : Fresh) (b : Below) (blocks : List CellSeen) (first : ℕ) → IsGraftBelow t r qs b blocks first after (h y) ups
      → IsGraftBelowIn t r (map h above) qs b blocks first after
  below_above qs after b blocks first g = subst (IsGraftBelowUp t r qs b blocks first after) (sym parted) g
