-- Twigs of a body that loses blocks, packed anew one after the other (docs/volume.md, "Bodies in extents"). A key is
-- its rank.
use Rattle.std.specs.Prelude.{◌≡◌, ◌↔◌, ℕ, ◌+◌, ◌^◌, ◌<◌, ◌≤◌, true, Bool, List, [], ◌∷◌, ◌++◌, map, Contains, Option}
use Rattle.std.specs.Prelude.{None, Some}
use Rattle.std.specs.List.{list_any}
use Rattle.std.specs.Arc.{arc_value}
use Rattle.std.specs.Option.{option_map}
use Rattle.r4_base.specs.Node.{mkfs_id_of}
use Rattle.r4_base.specs.Tree.{InSpan, Name, Root, Span, Store}
use Rattle.r4_base.specs.Value.{Value}
use Rattle.r4_base.specs.declared.key.Key.{Key}
use Rattle.r4_extent_build.specs.r4_cell.Patch.{HaveNames}
use Rattle.r4_extent_build.specs.r4_cell.Seen.{CellSeen, node_of}
use Rattle.r4_extent_build.specs.r4_cell.declared.change.Fresh.{Fresh}
use Rattle.r4_content.specs.Edited.{Edits}
use Rattle.r4_extent_build.specs.r4_edit.CutBlocks.{BeginsAt, pieces_between}
use Rattle.r4_extent_build.specs.r4_edit.Extents.{given_cells}
use Rattle.r4_extent_build.specs.r4_graft.Splices.{IsBorder}
use Rattle.r4_extent_build.specs.r4_leaf.declared.remaking.KeyRange.{KeyRange}
use Rattle.r4_extent_build.specs.r4_measure.Budget.{AreUnplaced, Budget}
use Rattle.r4_extent_build.specs.r4_measure.Grafting.{IsQuietBelow}
use Rattle.r4_extent_build.specs.r4_measure.Measured.{IsMeasured}
use Rattle.r4_extent_build.specs.r4_path.Grafts.{extra_twigs}
use Rattle.r4_extent_build.specs.r4_path.Steps.{IsNameOf}
use Rattle.r4_extent_build.specs.r4_path.TwigPieces.{ArePiecesOf, twig_pieces}
use Rattle.r4_extent_build.specs.r4_reach.Needs.{pieces_after}
use Rattle.r4_extent_build.specs.r4_reach.Touched.{Body}
use Rattle.r4_extent_build.specs.r4_twig_turns.Turning.{CanRegraftAll, TwigTurn, numbers_for}
use Rattle.r4_extent_build.specs.r4_work.Working.{standing}
use Rattle.r4_extent_build.specs.r4_work.declared.working.WorkingSet.{WorkingSet}
use Rattle.r4_extent_loss.specs.Losing.{IsLeft, IsLosing, IsLossOf, Loss, gone_from, gone_to}
use Rattle.r4_extent_loss.specs.Losing.{in_gone, losing_turn, parted_pieces}
use Rattle.r4_extent_loss.specs.declared.losing.Losing.{Losing}

-- what contracts see of a twig of which blocks go
abbrev pub loss_of : Losing → Loss
loss_of x = record {
  twig = arc_value x.twig;
  leaf = option_map (λ c. arc_value c) x.leaf;
  blocks = map (λ c. arc_value c) x.blocks.items;
}

-- the leaf for a range, if there is one
abbrev pub leaf_in : (id : ℕ) → (block : List ℕ) → Option KeyRange → List CellSeen
leaf_in id block None = []
leaf_in id block (Some r) =
    record { id = id; level = 1; lo = r.from; hi = r.to; block = block } ∷ []

-- The twig stands in the set, and so does what goes of it.
pub record StandsLoss (w : WorkingSet) (x : Loss) : Type 0 where
  pub twig : Contains (standing w) x.twig
  pub goes : (c : CellSeen) → Contains (x.blocks ++ given_cells x.leaf) c → Contains (standing w) c

-- Blocks go of a standing twig, whose keys all lie in extents of it: those that begin there, which stand, and the leaf
-- that ends where the first of them begins, if one does.
pub record IsLossIn (b : Body) (w : WorkingSet) (x : Loss) : Type 0 where
  pub stands : StandsLoss w x
  pub pieces : ArePiecesOf x.twig (twig_pieces x.twig)
  pub level : x.twig.level ≡ 2
  pub some : gone_from b x.twig < gone_to b x.twig
  pub spanned : (k : ℕ) → in_gone b x.twig k ≡ true
      → (s : Span) × Contains (node_of x.twig).spans s × InSpan s k
  pub first_border : IsBorder (gone_from b x.twig) (twig_pieces x.twig)
  pub last_border : IsBorder (gone_to b x.twig) (twig_pieces x.twig)
  pub begins : BeginsAt (gone_from b x.twig)
      (pieces_between (gone_from b x.twig) (gone_to b x.twig) (parted_pieces b x.twig))
  pub goes : (n : Name) → IsNameOf x.blocks n ↔ (Contains (node_of x.twig).names n
      × ((n.level ≡ 0) × ((gone_from b x.twig ≤ n.lo) × (n.lo < gone_to b x.twig))))
  pub once : HaveNames x.blocks
  pub left : IsLeft b x.twig x.leaf
  pub mkfs_id : mkfs_id_of x.twig.block < 2 ^ 32

-- their turns
abbrev pub losing_turns : Body → Edits → List Loss → List TwigTurn
losing_turns b e xs = map (losing_turn b e) xs

-- The twigs may be packed anew, one after the other, and there are numbers for them.
pub record CanLoseAll (b : Body) (e : Edits) (t : Store Value) (r : Root) (xs : List Loss)
    (f : Fresh) (w : WorkingSet) : Type 0 where
  pub first : Key
  pub losing : IsLosing b first e
  pub turns : CanRegraftAll t r (losing_turns b e xs) f w
  pub each : (x : Loss) → Contains xs x → IsLossOf b x
  pub low : 2 ^ 63 ≤ f.next
  pub numbers : f.next + numbers_for (losing_turns b e xs) ≤ f.end

-- The set is measured, and nothing more comes of leaves and blocks. Blocks go of each of these twigs, no two of one
-- number; what comes beside it is in the budget. There are numbers for all.
pub record MayGo (b : Body) (first : Key) (e : Edits) (t : Store Value) (r : Root) (xs : List Loss)
    (f : Fresh) (w : WorkingSet) (u : Budget) : Type 0 where
  pub losing : IsLosing b first e
  pub measured : IsMeasured t r f w u
  pub quiet : IsQuietBelow u
  pub each : (x : Loss) → Contains xs x → IsLossIn b w x
  pub come : (x : Loss) → Contains xs x
      → extra_twigs (pieces_after (Some b) e (node_of x.twig) []) ≤ u 2 x.twig.id
  pub names : HaveNames (map (λ (x : Loss). x.twig) xs)
  pub unplaced : AreUnplaced f
  pub numbers : f.next + numbers_for (losing_turns b e xs) ≤ f.end

-- the keys that go of all of them
abbrev pub gone_of_each : Body → List Loss → (key : ℕ) → Bool
gone_of_each b xs k = list_any (λ (x : Loss). in_gone b x.twig k) xs
