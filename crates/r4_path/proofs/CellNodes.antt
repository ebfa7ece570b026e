-- What the node of a cell names and has, by its items.
use Rattle.std.proofs.Common.{◌≡◌, ℕ, zero, suc, ◌^◌, ◌≤◌, true, List, [], ◌∷◌, length, map, refl, sym, ap, subst, ◌∙◌, arith}
use Rattle.std.specs.Prelude.{All, None, Some, slice_get}
use Rattle.r4_base.specs.Cell.{cell_fault, cell_of, names_in, spans_in, units_in}
use Rattle.r4_base.specs.Key.{least, rank, top}
use Rattle.r4_base.specs.Node.{items_of, mkfs_id_of}
use Rattle.r4_base.proofs.FreshTree.{least_below}
use Rattle.r4_patch.proofs.r4_cell.Nodes.{cell_node}
use Rattle.r4_patch.specs.r4_cell.Seen.{CellSeen, node_of}
use Rattle.r4_path.specs.Nodes.{IsNodeOf, IsPointable, IsPointingTo, pointer_item}
use Rattle.r4_path.specs.Steps.{Follow}
use Rattle.r4_path.proofs.Lying.{Good, sound}
use Rattle.r4_path.proofs.PointerNodes.{pointers_good, pointers_name, pointers_span, pointers_unit}

cell_names : (l level lo hi : ℕ) (b : List ℕ) → level ≡ suc l → (cell_of level lo hi b).names ≡ names_in (suc l) hi (items_of b)
unfolding cell_of
cell_names l zero lo hi b e = absurd (omega (arith, e))
cell_names l (suc k) lo hi b e = ap (λ m. names_in m hi (items_of b)) e

cell_spans : (l level lo hi : ℕ) (b : List ℕ) → level ≡ suc l → (cell_of level lo hi b).spans ≡ spans_in hi (items_of b)
unfolding cell_of
cell_spans l zero lo hi b e = absurd (omega (arith, e))
cell_spans l (suc k) lo hi b e = refl

cell_units : (l level lo hi : ℕ) (b : List ℕ) → level ≡ suc l → (cell_of level lo hi b).units ≡ units_in (items_of b)
unfolding cell_of
cell_units l zero lo hi b e = absurd (omega (arith, e))
cell_units l (suc k) lo hi b e = refl

pub names_are : (x : CellSeen) (l : ℕ) → x.level ≡ suc l → (node_of x).names ≡ names_in (suc l) (rank x.hi) (items_of x.block)
names_are x l e = cell_names l x.level (rank x.lo) (rank x.hi) x.block e

pub spans_are : (x : CellSeen) (l : ℕ) → x.level ≡ suc l → (node_of x).spans ≡ spans_in (rank x.hi) (items_of x.block)
spans_are x l e = cell_spans l x.level (rank x.lo) (rank x.hi) x.block e

pub units_are : (x : CellSeen) (l : ℕ) → x.level ≡ suc l → (node_of x).units ≡ units_in (items_of x.block)
units_are x l e = cell_units l x.level (rank x.lo) (rank x.hi) x.block e

pub map_twice : {A : Type 0} (f : A → CellSeen) (xs : List A) → map (λ x. pointer_item (f x)) xs ≡ map pointer_item (map f xs)
map_twice f [] = refl
map_twice f (x ∷ xs) = ap (λ ys. pointer_item (f x) ∷ ys) (map_twice f xs)

pub long_map : {A : Type 0} (f : A → CellSeen) (xs : List A) → length (map f xs) ≡ length xs
long_map f [] = refl
long_map f (x ∷ xs) = let h = long_map f xs in omega (arith, h)

pub long_pointers : (cells : List CellSeen) → length (map pointer_item cells) ≡ length cells
long_pointers [] = refl
long_pointers (c ∷ cells) = let h = long_pointers cells in omega (arith, h)

-- ---- a root over cells

module _ (l : ℕ) (cells : List CellSeen) (follow : Follow l least top cells) (able : All (λ c. IsPointable c.id) cells)
    (some : 1 ≤ length cells) where
  pub root_sound : (level lo hi : ℕ) (b : List ℕ) → level ≡ suc l → lo ≡ least → hi ≡ top
      → IsNodeOf level (map pointer_item cells) b → cell_fault true (2 ^ 64) level lo hi b ≡ None
  root_sound level lo hi b up from to node =
      sound level lo hi (map pointer_item cells) b (omega (arith, up)) node
      (λ two. let h = long_pointers cells in omega (arith, h, some))
      (subst (λ x. Good level x hi 0 (map pointer_item cells)) (sym from)
      (subst (λ x. Good level least x 0 (map pointer_item cells)) (sym to)
      (pointers_good level least top 0 least l cells follow able (omega arith) (λ e. refl))))

  pub root_is : (level id : ℕ) (x : CellSeen) → level ≡ suc l → x.id ≡ id → x.level ≡ level → rank x.lo ≡ least → rank x.hi
      ≡ top → length x.block ≡ 4096 → IsNodeOf level (map pointer_item cells) x.block
      → ((first : CellSeen) → slice_get cells 0 ≡ Some first → mkfs_id_of x.block ≡ mkfs_id_of first.block)
      → IsPointingTo cells level id x
  root_is level id x up xi xl from to whole node mkfs_id =
      let level_is : x.level ≡ suc l = xl ∙ up in
      record {
        number = xi;
        level_is = xl;
        lo = from;
        hi = to;
        names = names_are x l level_is ∙
            (ap (λ h. names_in (suc l) h (items_of x.block)) to
            ∙ (ap (λ items. names_in (suc l) top items) node.items_are ∙ pointers_name l least top cells follow able));
        items = node.items_are;
        spans = spans_are x l level_is ∙
            (ap (λ items. spans_in (rank x.hi) items) node.items_are ∙ pointers_span (rank x.hi) cells);
        units = units_are x l level_is ∙ (ap units_in node.items_are ∙ pointers_unit cells);
        node = cell_node true (2 ^ 64) x.level (rank x.lo) (rank x.hi) x.block whole (omega (arith, level_is))
            (omega (arith, from)) (let low = least_below in omega (arith, low, from, to)) (omega (arith, to))
            (root_sound x.level (rank x.lo) (rank x.hi) x.block level_is from to
            (subst (λ k. IsNodeOf k (map pointer_item cells) x.block) (sym xl) node));
        mkfs_id = mkfs_id;
      }
