-- Which way an item is put in: by its plugin and by the level of the path's last cell.
use Rattle.std.proofs.Common.{◌≡◌, ◌≢◌, inl, inr, ◌-◌, List, [], ◌∷◌, length, map, get_or, refl, ap, arith}
use Rattle.std.specs.Prelude.{reverse}
use Rattle.r4_base.specs.Cell.{item_names}
use Rattle.r4_base.specs.Node.{Item}
use Rattle.r4_base.specs.Tree.{Root, Store}
use Rattle.r4_base.specs.Value.{Value}
use Rattle.r4_path.specs.r4_cell.Seen.{CellSeen}
use Rattle.r4_path.specs.r4_cell.declared.change.Fresh.{Fresh}
use Rattle.r4_path.specs.r4_leaf.Leaves.{IsGiven}
use Rattle.r4_edit.specs.Editing.{IsInsertedUp}
use Rattle.r4_edit.specs.Extents.{IsIntoLeafIn, IsLeafPutUp, IsOverUp, IsPutIn, IsSpreadUp, item_blocks}
use Rattle.r4_path.specs.Grafts.{AreBlocksOf}
use Rattle.r4_path.proofs.LastCell.{up_last, up_some}
use Rattle.r4_edit.proofs.OverPath.{leaf_in}

-- an item of a leaf is no extent
pub no_extent : (it : Item) → IsGiven it → it.plugin ≢ 5
no_extent it given five = elim given.plugin [
  | inl is ↦ omega (arith, is, five)
  | inr more ↦ elim more [ inl is ↦ omega (arith, is, five) | inr is ↦ omega (arith, is, five) ]
]

-- and names no blocks
pub no_item_blocks : (it : Item) → IsGiven it → item_blocks it ≡ []
unfolding item_names
no_item_blocks it given = elim given.plugin [
  | inl is ↦ rw is refl
  | inr more ↦ elim more [ inl is ↦ rw is refl | inr is ↦ rw is refl ]
]

module _ {A : Type 0} (h : A → CellSeen) (path : List A) (x : A) (last : x ≡ get_or path (length path - 1) x)
    (t : Store Value) (r : Root) (it : Item) (fresh : Fresh) where
  pub put_some : IsPutIn t r (map h path) it fresh → length path ≢ 0
  put_some (inl into) = up_some h (IsInsertedUp t r it fresh) (λ e. e) path into.inserts
  put_some (inr (inl over)) = up_some h (IsOverUp t r it fresh) (λ e. e) path over
  put_some (inr (inr (inl spread))) = up_some h (IsSpreadUp t r it fresh) (λ e. e) path spread
  put_some (inr (inr (inr leaf))) = up_some h (IsLeafPutUp t r it fresh) (λ e. e) path leaf

  into_level : IsIntoLeafIn t r (map h path) it fresh → (h x).level ≡ 1
  into_level into = (up_last h (IsInsertedUp t r it fresh) (λ e. e) path x last into.inserts).edited.level

  over_level : IsOverUp t r it fresh (reverse (map h path)) → (h x).level ≡ 1
  over_level over = (leaf_in h path x last t r it fresh over).level

  over_plugin : (cells : List CellSeen) → IsOverUp t r it fresh cells → it.plugin ≡ 5
  over_plugin [] e = absurd e
  over_plugin (c ∷ []) e = absurd e
  over_plugin (c ∷ (d ∷ cells)) e = e.given.plugin

  pub spread_level : IsSpreadUp t r it fresh (reverse (map h path)) → (it.plugin ≡ 5) × ((h x).level ≡ 2)
  spread_level spread = let at = up_last h (IsSpreadUp t r it fresh) (λ e. e) path x last spread in (at.given.plugin, at.room.level)

  leaf_level : IsLeafPutUp t r it fresh (reverse (map h path)) → IsGiven it × ((h x).level ≡ 2)
  leaf_level leaf = let at = up_last h (IsLeafPutUp t r it fresh) (λ e. e) path x last leaf in (at.given, at.level)

  pub leaf_given : IsLeafPutUp t r it fresh (reverse (map h path)) → IsGiven it
  leaf_given leaf = (leaf_level leaf).0

  -- the plugin and the level of each way
  pub into_kind : IsIntoLeafIn t r (map h path) it fresh → (it.plugin ≢ 5) × ((h x).level ≡ 1)
  into_kind into = (no_extent it into.given, into_level into)

  pub over_kind : IsOverUp t r it fresh (reverse (map h path)) → (it.plugin ≡ 5) × ((h x).level ≡ 1)
  over_kind over = (over_plugin (reverse (map h path)) over, over_level over)

  pub leaf_kind : IsLeafPutUp t r it fresh (reverse (map h path)) → (it.plugin ≢ 5) × ((h x).level ≡ 2)
  leaf_kind leaf = (no_extent it (leaf_level leaf).0, (leaf_level leaf).1)

  pub into_of : IsPutIn t r (map h path) it fresh → it.plugin ≢ 5 → (h x).level ≡ 1 → IsIntoLeafIn t r (map h path) it fresh
  into_of (inl into) plugin level = into
  into_of (inr (inl over)) plugin level = absurd (plugin (over_plugin (reverse (map h path)) over))
  into_of (inr (inr (inl spread))) plugin level = absurd (plugin (spread_level spread).0)
  into_of (inr (inr (inr leaf))) plugin level = let two = (leaf_level leaf).1 in absurd (omega (arith, two, level))

  pub over_of : IsPutIn t r (map h path) it fresh → it.plugin ≡ 5 → (h x).level ≡ 1 → IsOverUp t r it fresh (reverse (map h path))
  over_of (inl into) plugin level = absurd (no_extent it into.given plugin)
  over_of (inr (inl over)) plugin level = over
  over_of (inr (inr (inl spread))) plugin level = let two = (spread_level spread).1 in absurd (omega (arith, two, level))
  over_of (inr (inr (inr leaf))) plugin level = absurd (no_extent it (leaf_level leaf).0 plugin)

  pub spread_of : IsPutIn t r (map h path) it fresh → it.plugin ≡ 5 → (h x).level ≢ 1 → IsSpreadUp t r it fresh (reverse (map h path))
  spread_of (inl into) plugin level = absurd (no_extent it into.given plugin)
  spread_of (inr (inl over)) plugin level = absurd (level (over_level over))
  spread_of (inr (inr (inl spread))) plugin level = spread
  spread_of (inr (inr (inr leaf))) plugin level = absurd (no_extent it (leaf_level leaf).0 plugin)

  pub leaf_put_of : IsPutIn t r (map h path) it fresh → it.plugin ≢ 5 → (h x).level ≢ 1 → IsLeafPutUp t r it fresh (reverse (map h path))
  leaf_put_of (inl into) plugin level = absurd (level (into_level into))
  leaf_put_of (inr (inl over)) plugin level = absurd (plugin (over_plugin (reverse (map h path)) over))
  leaf_put_of (inr (inr (inl spread))) plugin level = absurd (plugin (spread_level spread).0)
  leaf_put_of (inr (inr (inr leaf))) plugin level = leaf

-- no blocks of no names
pub no_cells : (blocks : List CellSeen) → AreBlocksOf [] blocks → blocks ≡ []
no_cells [] of = refl
no_cells (b ∷ blocks) of = absurd (some_not_none of.names)
  where
    some_not_none : {X : Type 0} → {x : X} {xs : List X} → (x ∷ xs) ≡ [] → ⊥
    some_not_none e = let n = ap length e in omega (arith, n)
