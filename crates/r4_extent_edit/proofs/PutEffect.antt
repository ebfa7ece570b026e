-- What an extent that is put among others, or in the place of holes, does to units.
use Rattle.std.specs.Prelude.{◌≡◌, ◌↔◌, ℕ, ◌<◌, ◌≤◌, ◌⊎◌, false, not, List, [], ◌∷◌, Contains, reverse}
use mathlib.Core.Path.{refl, subst}
use mathlib.Core.Logic.{inl, inr}
use native.Mathlib.Omega.{arith}
use Rattle.r4_base.specs.Cell.{item_end, item_units}
use Rattle.r4_base.specs.Key.{rank}
use Rattle.r4_base.specs.Node.{Item}
use Rattle.r4_base.specs.Tree.{Holds, InName, IsNode, Name, Root, Store}
use Rattle.r4_base.specs.Value.{Value}
use Rattle.r4_work.specs.r4_branch.Pieces.{units_of}
use Rattle.r4_work.specs.r4_branch.declared.piece.TwigPiece.{TwigPiece}
use Rattle.r4_work.specs.r4_cell.Seen.{CellSeen, node_of}
use Rattle.r4_work.specs.r4_cell.declared.change.Change.{Change}
use Rattle.r4_work.specs.r4_cell.declared.change.Fresh.{Fresh}
use Rattle.r4_work.specs.r4_leaf.Units.{LeafUnit, cut_units, is_between, put_units}
use Rattle.r4_work.specs.r4_patch.Effect.{Placed}
use Rattle.r4_work.proofs.r4_patch.Members.{none}
use Rattle.r4_work.specs.r4_path.Grafts.{AreBlocksOf, GraftsUp}
use Rattle.r4_work.proofs.r4_path.Rising.{in_node, level_is}
use Rattle.r4_work.specs.r4_edit.Extents.{AreAmongExtents, IsGivenExtent, IsSpreadUp, SpreadsUp, item_blocks}
use Rattle.r4_work.proofs.r4_edit.Spread.{nothing}
use Rattle.r4_work.proofs.UnitMembers.{filtered, not_false, not_true, to_filtered}
use Rattle.r4_extent_edit.specs.Effects.{EditsUnits, IsMadeIn, extent_values, item_keys}
use Rattle.r4_extent_edit.specs.Setting.{IsSetUp, SetsUp}
use Rattle.r4_extent_edit.proofs.ExtentEffect.{extent_effect, is_off}
use Rattle.r4_extent_edit.proofs.GraftEffect.{IsPlacedIn, IsRepacked, graft_names, graft_root, twig_stands}

-- ---- keys that a twig holds

pub twig_holds : (twig : CellSeen) (k : ℕ) → IsNode (node_of twig) → twig.level ≡ 2 → rank twig.lo ≤ k
    → k < rank twig.hi
    → ((n : Name) → Contains (node_of twig).names n → InName n k → ⊥) → Holds (node_of twig) k
twig_holds twig k node level low high clear =
    let l = level_is twig in
    elim (node.covered k (omega (arith, l, level)) (in_node twig k (low, high))) [
      | inl h ↦ let (n, cn, nl, range) = h in absurd (clear n cn range)
      | inr h ↦ let (x, cx, range) = h in inr (x, cx, range, λ n cn block in_n. clear n cn in_n)
    ]

pub clear_key : (n : Name) (from to k : ℕ) → (n.hi ≤ from) ⊎ (to ≤ n.lo) → from ≤ k → k < to → InName n k → ⊥
clear_key n from to k (inl below) low high range = omega (arith, below, low, range)
clear_key n from to k (inr behind) low high range = omega (arith, behind, high, range)

-- units but those between two keys
pub cut_members : (from to : ℕ) (us : List LeafUnit) (k : ℕ) → (v : Value) → Contains (cut_units from to us) (k, v)
    ↔ (Contains us (k, v) × (is_between from to k ≡ false))
cut_members from to us k v = (
  λ h. let x = filtered (λ (u : LeafUnit). not (is_between from to u.0)) us (k, v) h in
      (x.0, not_true (is_between from to k) x.1),
  λ h. to_filtered (λ (u : LeafUnit). not (is_between from to u.0)) us (k, v) (not_false
      (is_between from to k) h.1) h.0,
)

-- ---- nothing goes or comes below the twig

module _ {s : Store Value} {r : Root} {twig : CellSeen} {ups : List CellSeen} {qs : List TwigPiece} {blocks : List
    CellSeen}
    {before after : Fresh} {d c : Change} (g : IsRepacked s r twig ups qs nothing blocks before after d c)
    (it : Item) (given : IsGivenExtent it) (are : AreBlocksOf (item_blocks it) blocks) (rest : List LeafUnit)
    (units : units_of qs ≡ put_units (item_units it) rest)
    (rest_is : (k : ℕ) (v : Value) → Contains rest (k, v) ↔ (Contains (node_of twig).units (k, v) × (item_keys it k
    ≡ false)))
    (low : rank twig.lo ≤ rank it.key) (high : item_end it ≤ rank twig.hi)
    (clear : (n : Name) → Contains (node_of twig).names n → (n.hi ≤ rank it.key) ⊎ (item_end it ≤ n.lo)) where
  no_leaves : (k : ℕ) (u : Placed Value) → IsPlacedIn [] k u ↔ (IsPlacedIn [] k u × (item_keys it k ≡ false))
  no_leaves k u = (λ x. absurd (none x.0 x.1), λ x. absurd (none x.0.0 x.0.1))

  node : IsNode (node_of twig)
  node = g.part.nodes twig.id (node_of twig) (twig_stands g)

  pub alone_told : EditsUnits c blocks before after (item_keys it) (extent_values it blocks)
  alone_told = record {
    effect = extent_effect g it given are rest units rest_is no_leaves (λ k from to. (
      twig,
      inr refl,
      twig_holds twig k node g.level (omega (arith, low, from)) (omega (arith, high, to)) (λ n cn range. clear_key n
          (rank it.key) (item_end it) k (clear n cn) from to range),
    ));
    names = λ x at gone. graft_names g x (subst (λ cells. Contains cells x) g.below.new_is at) gone;
    root_number = graft_root g;
  }

-- ---- an extent among others

no_units : (twig : CellSeen) (from to : ℕ) → AreAmongExtents twig from to → (k : ℕ) (v : Value)
    → Contains (node_of twig).units (k, v) ↔ (Contains (node_of twig).units (k, v) × (is_between from to k ≡ false))
no_units twig from to keys k v = (
  λ h. (
    h,
    is_off from to k (λ a b. elim (keys.clear.own k v h) [
      | inl x ↦ omega (arith, x, a)
      | inr x ↦
          omega (arith, x, b)
    ]),
  ),
  λ h. h.0,
)

module _ (t : Store Value) (r : Root) (path : List CellSeen) (it : Item) (before after : Fresh) (c : Change)
    (blocks : List CellSeen)
    (are : AreBlocksOf (item_blocks it) blocks) (made : IsMadeIn t r c blocks) where
  spread_cells : (cells : List CellSeen) → reverse path ≡ cells → IsSpreadUp t r it before cells
      → SpreadsUp path it before after c cells
      → EditsUnits c blocks before after (item_keys it) (extent_values it blocks)
  spread_cells [] same is does = absurd is
  spread_cells (twig ∷ ups) same is does = alone_told
      (record {
        part = is.room.path.part;
        level = is.room.level;
        above = is.room.path.ascends.3;
        grafts = subst (GraftsUp _ before after does.grafts.change) same does.grafts.grafts;
        below = does.grafts.below;
        made = made;
      })
      it is.given are (node_of twig).units does.units (no_units twig (rank it.key)
      (item_end it) is.keys) is.keys.low is.keys.high is.keys.clear.named

  pub spread_told : IsSpreadUp t r it before (reverse path) → SpreadsUp path it before after c (reverse path)
      → EditsUnits c blocks before after (item_keys it) (extent_values it blocks)
  spread_told = spread_cells (reverse path) refl

  -- ---- an extent in the place of holes

  set_cells : (cells : List CellSeen) → reverse path ≡ cells → IsSetUp t r it before cells
      → SetsUp path it before after c cells
      → EditsUnits c blocks before after (item_keys it) (extent_values it blocks)
  set_cells [] same is does = absurd is
  set_cells (twig ∷ ups) same is does = alone_told
      (record {
        part = is.room.path.part;
        level = is.room.level;
        above = is.room.path.ascends.3;
        grafts = subst (GraftsUp _ before after does.grafts.change) same does.grafts.grafts;
        below = does.grafts.below;
        made = made;
      })
      it is.given are (cut_units (rank it.key) (item_end it) (node_of twig).units) does.units
      (cut_members (rank it.key) (item_end it) (node_of twig).units) is.holes.low is.holes.high is.holes.clear

  pub set_told : IsSetUp t r it before (reverse path) → SetsUp path it before after c (reverse path)
      → EditsUnits c blocks before after (item_keys it) (extent_values it blocks)
  set_told = set_cells (reverse path) refl
