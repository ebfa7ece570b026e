-- Blocks that are cut out of the last cell of a path, which is given from the top down.
use Rattle.std.proofs.Common.{◌≡◌, ◌≢◌, ℕ, ◌-◌, ◌^◌, ◌≤◌, List, [], ◌++◌, length, map, take, get_or, sym, subst, arith}
use Rattle.std.specs.Prelude.{Option, Some, reverse}
use Rattle.std.proofs.lemmas.List.{append-nil}
use Rattle.r4_base.specs.Key.{rank}
use Rattle.r4_base.specs.Node.{mkfs_id_of}
use Rattle.r4_base.specs.Tree.{Root, Store}
use Rattle.r4_base.specs.Value.{Value}
use Rattle.r4_path.specs.r4_branch.declared.piece.TwigPiece.{TwigPiece}
use Rattle.r4_path.specs.r4_cell.Patch.{IsChange, patch_of}
use Rattle.r4_path.specs.r4_cell.Seen.{CellSeen}
use Rattle.r4_path.specs.r4_cell.declared.change.Change.{Change}
use Rattle.r4_path.specs.r4_cell.declared.change.Fresh.{Fresh}
use Rattle.r4_path.specs.r4_patch.Part.{MeetsPart}
use Rattle.r4_edit.specs.CutBlocks.{CutsUp, IsCutIn, IsCutUp, IsTakenUp, after_leaves, cut_pieces, end_key, new_pointer, parted_twice}
use Rattle.r4_edit.specs.Extents.{given_cells}
use Rattle.r4_path.specs.TwigPieces.{ArePiecesOf, twig_pieces}
use Rattle.r4_path.specs.Grafts.{GraftsBelow, IsGraftBelowIn, IsGraftBelowUp, IsGraftIn, IsGraftedUp}
use Rattle.r4_path.specs.Twigs.{Below}
use Rattle.r4_edit.proofs.CutGraft.{cut_below, cut_grafted, cut_has_units, cut_wider}
use Rattle.r4_path.proofs.LastCell.{last_up, up_last, up_some}

module _ {A : Type 0} (h : A → CellSeen) (path : List A) (x : A) (last : x ≡ get_or path (length path - 1) x)
    (t : Store Value) (r : Root) (leaf : Option CellSeen) (blocks : List CellSeen) (from to : ℕ) (fresh : Fresh)
    (is : IsCutUp t r leaf blocks from to fresh (reverse (map h path))) where
  abbrev ups : List CellSeen
  ups = reverse (map h (take (length path - 1) path))

  pub cut_last : IsCutIn t r leaf blocks from to fresh (h x) ups
  cut_last = up_last h (IsCutUp t r leaf blocks from to fresh) (λ e. e) path x last is

  some : length path ≢ 0
  some = up_some h (IsCutUp t r leaf blocks from to fresh) (λ e. e) path is

  pub cut_left : (c : CellSeen) → leaf ≡ Some c → (2 ^ 63 ≤ fresh.next) → (c.level ≡ 1) × (ArePiecesOf (h x) (twig_pieces (h x)) → rank c.hi ≤ rank (end_key from to (h x)))
  cut_left c same unplaced =
      let all = subst (λ o. IsCutIn t r o blocks from to fresh (h x) ups) same cut_last in
      (all.left.level_is, λ are. let less = cut_wider t r (Some c) blocks from to fresh (h x) ups are all unplaced c all.left in omega (arith, less))

  module _ (are : ArePiecesOf (h x) (twig_pieces (h x))) (unplaced : 2 ^ 63 ≤ fresh.next) where
    abbrev qs : List TwigPiece
    qs = cut_pieces from to fresh.next leaf (h x)

    abbrev later : Fresh
    later = after_leaves from to leaf (h x) fresh

    pub cut_graft_in : IsGraftIn t r (map h path) qs later
    cut_graft_in = last_up h (IsGraftedUp t r qs later) path x some last (cut_grafted t r leaf blocks from to fresh (h x) ups are cut_last unplaced)

    module _ (come : List CellSeen)
        (taken : IsTakenUp leaf (new_pointer from to fresh.next leaf (parted_twice from to (twig_pieces (h x)))) fresh.next (end_key from to (h x)) (mkfs_id_of (h x).block) come) where
      abbrev below : Below
      below = record { old = blocks ++ given_cells leaf; new = come }

      pub cut_below_in : IsGraftBelowIn t r (map h path) qs below [] fresh.next later
      cut_below_in =
          last_up h (IsGraftBelowUp t r qs below [] fresh.next later) path x some last
          (cut_below t r leaf blocks from to fresh (h x) ups are cut_last unplaced come taken)

      pub cuts_up : (after : Fresh) (c : Change) → GraftsBelow (map h path) qs below later after c
          → CutsUp (map h path) leaf blocks from to fresh after c (reverse (map h path))
      cuts_up after c grafts = last_up h (CutsUp (map h path) leaf blocks from to fresh after c) path x some last (record {
        come = come;
        taken_up = taken;
        grafts = grafts;
        units = cut_has_units t r leaf blocks from to fresh (h x) ups are cut_last unplaced;
      })

      -- the same of what is equal to these pieces, numbers and cells
      module _ (items : List TwigPiece) (f : Fresh) (old : List CellSeen) (packed : items ≡ qs) (numbers : f ≡ later) (gone : old ≡ blocks ++ given_cells leaf) where
        pub cut_below_as : IsGraftBelowIn t r (map h path) items (record { old = old; new = come }) [] fresh.next f
        cut_below_as = subst (λ (g : Fresh). IsGraftBelowIn t r (map h path) items (record { old = old; new = come }) [] fresh.next g) (sym numbers)
            (subst (λ (cells : List CellSeen). IsGraftBelowIn t r (map h path) items (record { old = cells; new = come }) [] fresh.next later) (sym gone)
            (subst (λ (ps : List TwigPiece). IsGraftBelowIn t r (map h path) ps below [] fresh.next later) (sym packed) cut_below_in))

        pub cuts_as : (after : Fresh) (c : Change) → GraftsBelow (map h path) items (record { old = old; new = come }) f after c
            → CutsUp (map h path) leaf blocks from to fresh after c (reverse (map h path))
        cuts_as after c grafts = cuts_up after c
            (subst (λ (ps : List TwigPiece). GraftsBelow (map h path) ps below later after c) packed
            (subst (λ (cells : List CellSeen). GraftsBelow (map h path) items (record { old = cells; new = come }) later after c) gone
            (subst (λ (g : Fresh). GraftsBelow (map h path) items (record { old = old; new = come }) g after c) numbers grafts)))

-- without data blocks that come
pub change_alone : (c : Change) → IsChange c.old (c.new ++ []) c.root → IsChange c.old c.new c.root
change_alone c is = subst (λ cells. IsChange c.old cells c.root) (append-nil c.new) is

pub meets_alone : (c : Change) (t : Store Value) (r : Root) → MeetsPart (patch_of c.old (c.new ++ []) c.root) t r → MeetsPart (patch_of c.old c.new c.root) t r
meets_alone c t r is = subst (λ cells. MeetsPart (patch_of c.old cells c.root) t r) (append-nil c.new) is
