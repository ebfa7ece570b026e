-- A command's change of the cells of its task, where its body stands in extents and loses blocks (docs/volume.md,
-- "Bodies in extents"). A key is its rank.
use Rattle.std.specs.Prelude.{◌≡◌, ℕ, ◌+◌, ◌*◌, ◌^◌, ◌<◌, ◌≤◌, ◌||◌, if◌then◌else◌, Bool, true, List, [], length}
use Rattle.std.specs.Prelude.{Contains, None, Option, Some, map, sum_by}
use Rattle.r4_base.specs.Key.{rank}
use Rattle.r4_base.specs.Node.{mkfs_id_of}
use Rattle.r4_base.specs.Tree.{InSpan, Name, Root, Span, Store}
use Rattle.r4_base.specs.Value.{Value}
use Rattle.r4_base.specs.declared.key.Key.{Key}
use Rattle.r4_build.specs.Building.{LiesInLeaf, set_by}
use Rattle.r4_content.specs.Edited.{Edits, changed, is_in}
use Rattle.r4_extent_loss.specs.r4_extent_build.Looping.{behind_all}
use Rattle.r4_extent_loss.specs.r4_extent_build.r4_twig_turns.Turning.{numbers_for}
use Rattle.r4_extent_counts.specs.Coming.{leaf_taking_up}
use Rattle.r4_extent_loss.specs.Losing.{IsLosing, Loss, gone_from, gone_to, in_gone}
use Rattle.r4_extent_loss.specs.LosingEach.{losing_turns}
use Rattle.r4_build.specs.r4_measure.Budget.{AreUnplaced, Budget, most_from}
use Rattle.r4_build.specs.r4_measure.Grafting.{IsQuietBelow}
use Rattle.r4_build.specs.r4_measure.Measured.{IsMeasured}
use Rattle.r4_build.specs.r4_measure.r4_cell.Patch.{HaveNames}
use Rattle.r4_build.specs.r4_measure.r4_cell.Seen.{CellSeen, node_of}
use Rattle.r4_build.specs.r4_measure.r4_cell.declared.change.Fresh.{Fresh}
use Rattle.r4_build.specs.r4_measure.r4_branch.Pieces.{piece_end}
use Rattle.r4_build.specs.r4_measure.r4_branch.declared.piece.TwigPiece.{TwigPiece}
use Rattle.r4_build.specs.r4_measure.r4_path.r4_graft.Splices.{IsBorder}
use Rattle.r4_build.specs.r4_measure.r4_leaf.Units.{leaf_bytes}
use Rattle.r4_build.specs.r4_measure.r4_patch.Effect.{Placed}
use Rattle.r4_build.specs.r4_measure.r4_path.Grafts.{extra_twigs}
use Rattle.r4_build.specs.r4_measure.r4_path.Sharing.{IsSound}
use Rattle.r4_build.specs.r4_measure.r4_path.Steps.{IsNameOf}
use Rattle.r4_build.specs.r4_measure.r4_path.TwigPieces.{ArePiecesOf, twig_pieces}
use Rattle.r4_build.specs.r4_measure.r4_reach.Needs.{is_met, pieces_after, units_after}
use Rattle.r4_build.specs.r4_measure.r4_reach.Touched.{Body}
use Rattle.r4_build.specs.r4_measure.r4_work.Working.{AreCellsIn, root_of, standing}
use Rattle.r4_build.specs.r4_measure.r4_work.declared.working.WorkingSet.{WorkingSet}
use Rattle.r4_extent_change.specs.Among.{gone_among, losing_twigs, losses_among}
use Rattle.r4_extent_change.specs.Beside.{without_bytes}
use Rattle.r4_extent_change.specs.Changing.{AreMeasured}
use Rattle.r4_extent_change.specs.Wider.{GoesOn}

-- ---- when it may be asked for

-- The keys that go of the twig lie in its extents, and begin and end at borders of blocks; a piece has the first of them.
-- What the twig names there is among the cells: the data blocks that go, and the leaf that ends where they begin.
pub record HasLoss (b : Body) (cells : List CellSeen) (c : CellSeen) : Type 0 where
  pub pieces : ArePiecesOf c (twig_pieces c)
  pub spanned : (k : ℕ) → in_gone b c k ≡ true
      → (s : Span) × Contains (node_of c).spans s × InSpan s k
  pub first_border : IsBorder (gone_from b c) (twig_pieces c)
  pub last_border : IsBorder (gone_to b c) (twig_pieces c)
  pub begins : (p : TwigPiece) × Contains (twig_pieces c) p × (rank p.key ≤ gone_from b c)
      × (gone_from b c < piece_end p)
  pub blocks : (n : Name) → Contains (node_of c).names n → n.level ≡ 0
      → in_gone b c n.lo ≡ true → IsNameOf cells n
  pub left : (n : Name) → Contains (node_of c).names n → n.level ≡ 1
      → n.hi ≡ gone_from b c → IsNameOf cells n
  pub mkfs_id : mkfs_id_of c.block < 2 ^ 32

-- and what comes beside it is in the budget
pub record MayLose (b : Body) (e : Edits) (u : Budget) (cells : List CellSeen) (c : CellSeen)
    : Type 0 where
  pub loss : HasLoss b cells c
  pub come : extra_twigs (pieces_after (Some b) e (node_of c) []) ≤ u 2 c.id

-- how many numbers suffice: those that the twigs' turns take, and 64 for each cell
abbrev pub numbers_lost : Body → Edits → List CellSeen → ℕ
numbers_lost b e cells = numbers_for (losing_turns b e (losses_among b cells)) + 64 * length cells

-- The body loses blocks. The cells are a part's and measured, and nothing comes beside leaves; leaves are sound. Each
-- twig that loses blocks may do so. What is no byte lies in leaves among the cells, and each of these has room for what
-- it is to have. There are numbers enough.
pub record CanLose (b : Body) (e : Edits) (u : Budget) (t : Store Value) (r : Root) (f : Fresh)
    (cells : List CellSeen) : Type 0 where
  pub first : Key
  pub losing : IsLosing b first e
  pub cells_in : AreCellsIn t r f cells
  pub names : HaveNames cells
  pub measured : AreMeasured t r u cells
  pub quiet : IsQuietBelow u
  pub sound : (c : CellSeen) → Contains cells c → c.level ≡ 1 → IsSound c
  pub twigs : (c : CellSeen) → Contains (losing_twigs b cells) c → MayLose b e u cells c
  pub lie : (k : ℕ) → is_in (changed (without_bytes e)) k ≡ true → LiesInLeaf cells k
  pub room : (c : CellSeen) → Contains cells c → c.level ≡ 1
      → is_met (changed (without_bytes e)) (rank c.lo) (rank c.hi) ≡ true
      → leaf_bytes (units_after None (without_bytes e) (node_of c)) ≤ 4068
  pub unplaced : AreUnplaced f
  pub numbers : f.next + numbers_lost b e cells ≤ f.end

-- ---- what the turns of the twigs leave

-- how many leaves come to these twigs that take up the range of what goes, where nothing left of it does
abbrev pub leaves_coming : Body → (twigs : List CellSeen) → ℕ
leaves_coming b twigs = sum_by (λ (c : CellSeen). leaf_taking_up b (node_of c)) twigs

-- The set after it is measured for the numbers that are left, and still nothing more comes below twigs. In the end
-- there may be no more cells than before, and the leaves that came; each leaf that stood stands, or goes on.
pub record LeavesWider (b : Body) (e : Edits) (u : Budget) (t : Store Value) (r : Root) (f : Fresh)
    (w now : WorkingSet) (xs : List Loss) : Type 0 where
  pub left : Budget
  pub measured : IsMeasured t r (behind_all (losing_turns b e xs) f) now left
  pub quiet : IsQuietBelow left
  pub few : most_from left (root_of now r) (standing now)
      ≤ most_from u (root_of w r) (standing w) + leaves_coming b (map (λ (x : Loss). x.twig) xs)
  pub leaves : (c : CellSeen) → Contains (standing w) c → c.level ≡ 1 → GoesOn now c

-- ---- what it does

-- how many new cells come at most: for each cell what may come in its place, a new root, and the leaves that come
abbrev pub most_lost : Body → Budget → Root → List CellSeen → ℕ
most_lost b u r cells = most_from u r cells + leaves_coming b (losing_twigs b cells)

-- the keys that change: those in leaves, and those that go
abbrev pub lost_keys : Body → Edits → List CellSeen → (key : ℕ) → Bool
lost_keys b e cells k = is_in (changed (without_bytes e)) k || gone_among b cells k

-- what stands there: what is put there, in a leaf; else nothing
abbrev pub lost_values : Edits → (key : ℕ) → Option (Placed Value)
lost_values e k = if is_in (changed (without_bytes e)) k then set_by (without_bytes e) k else None
