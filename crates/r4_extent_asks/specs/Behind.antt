-- Which of a node's names stand directly left of a key, and which of a leaf's units behind one (docs/volume.md,
-- "Reach"). A key is its rank.
use Rattle.std.specs.Prelude.{◌≡◌, ℕ, List, ◌++◌, map, Bool, true, false, ◌&&◌, ◌==◌, nat_le, nat_lt, slice_get}
use Rattle.std.specs.Prelude.{Option, None, Some, if◌then◌else◌}
use Rattle.std.specs.List.{filter, list_any}
use Rattle.r4_base.specs.Key.{rank}
use Rattle.r4_base.specs.Node.{Item, items_of}
use Rattle.r4_base.specs.Tree.{Name, Node}
use Rattle.r4_base.specs.Value.{Value}
use Rattle.r4_base.specs.declared.key.Key.{Key}
use Rattle.r4_units.specs.r4_cell.Seen.{CellSeen}
use Rattle.r4_twig_asks.specs.r4_leaf.Units.{LeafUnit}
use Rattle.r4_twig_asks.specs.r4_leaf.declared.remaking.KeyRange.{KeyRange}
use Rattle.r4_twig_asks.specs.r4_marking.Marks.{names_at}
use Rattle.r4_twig_asks.specs.r4_reach.Needs.{cut_in_two, meets}

-- ---- names

-- the numbers of the leaves among the names that end at a key
abbrev pub leaves_left : (key : ℕ) → List Name → List ℕ
leaves_left k ns = map (λ (n : Name). n.id) (filter (λ (n : Name). (n.level == 1) && (n.hi == k)) ns)

-- Those that the item at a place names come behind the others.
abbrev pub AddsLeft : CellSeen → (place key : ℕ) → (old new : List ℕ) → Type 0
AddsLeft c place k old new = (it : Item) → slice_get (items_of c.block) place ≡ Some it
    → new ≡ old ++ leaves_left k (names_at c place it)

-- The key is the first of the range, if that has keys.
abbrev pub IsFirstGone : ℕ × ℕ → Option Key → Type 0
IsFirstGone r None = nat_lt r.0 r.1 ≡ false
IsFirstGone r (Some k) = (nat_lt r.0 r.1 ≡ true) × (rank k ≡ r.0)

-- ---- units

-- The range is that of the blocks that come, where it meets another one.
abbrev pub IsComing : ℕ × ℕ → (lo hi : ℕ) → Option KeyRange → Type 0
IsComing come lo hi None = meets lo hi come ≡ false
IsComing come lo hi (Some r) = (meets lo hi come ≡ true) × (come ≡ (rank r.from, rank r.to))

-- some stand from a key on
abbrev pub has_behind : (key : ℕ) → List LeafUnit → Bool
has_behind k us = list_any (λ (u : LeafUnit). nat_le k u.0) us

-- Blocks that come part the leaf in two, if so.
abbrev pub IsPartedIf : Bool → ℕ × ℕ → Node Value → List LeafUnit → Type 0
IsPartedIf t come c us = (if t then 1 else 0) ≡ cut_in_two come c us
