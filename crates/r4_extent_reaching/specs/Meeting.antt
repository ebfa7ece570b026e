-- A command whose edits are known, and the cells that were met for it, bodies in extents included (docs/volume.md,
-- "Reach"). A key is its rank.
use Rattle.std.specs.Prelude.{◌≡◌, ◌↔◌, ℕ, ◌+◌, ◌<◌, ◌≤◌, ◌||◌, Bool, true, false, List, [], Contains, Option, Some}
use Rattle.std.specs.Prelude.{length, map, nat_lt, sum_by}
use Rattle.std.specs.Arc.{arc_value}
use Rattle.std.specs.Option.{option_map}
use Rattle.r4_base.specs.Key.{least, top}
use Rattle.r4_base.specs.Tree.{Span}
use Rattle.r4_reaching.specs.r4_cell.Seen.{CellSeen, node_of}
use Rattle.r4_reaching.specs.r4_cell.declared.change.Root.{Root}
use Rattle.r4_content.specs.Edited.{Intervals, is_in}
use Rattle.r4_content.specs.Held.{edits_of, pairs_of}
use Rattle.r4_content.specs.declared.command.Command.{Command}
use Rattle.r4_content.specs.declared.edits.Edits.{Edits as HeldEdits}
use Rattle.r4_content.specs.declared.seen.Seen.{Seen}
use Rattle.r4_extent_touching.specs.Holding.{AreHeld, AreLeftMet}
use Rattle.r4_extent_touching.specs.r4_marking.Marks.{ask_seen}
use Rattle.r4_extent_touching.specs.r4_marking.declared.marking.Marks.{Marks}
use Rattle.r4_reaching.specs.r4_reach.Leaves.{rise_of}
use Rattle.r4_reaching.specs.r4_reach.Needs.{demand_of, going_of, is_met}
use Rattle.r4_reaching.specs.r4_reach.Touched.{Body, IsKindIn, body_on, changes_on, edits_on, kind_reads}
use Rattle.r4_reaching.specs.Answers.{IsAllSeen}
use Rattle.r4_reaching.specs.r4_bodies.r4_leaf_demands.Leaves.{IsInLeaves}
use Rattle.r4_reaching.specs.r4_search.Pool.{PoolState}
use Rattle.r4_reaching.specs.r4_seeing.Looking.{met_cells}
use Rattle.r4_extent_counts.specs.Coming.{twig_cells}
use Rattle.r4_extent_reaching.specs.Standing.{HasFileSizes}
use Rattle.r4_extent_reaching.specs.declared.reached.Reach.{Reach}

-- what is known of a command: its edits, the body that they change, where that stood, and the keys that count as
-- changed
pub record Planned : Type 0 where
  pub edits : HeldEdits
  pub body : Option Body
  pub in_extents : Bool
  pub changes : Intervals

-- It is so of the command, on what was seen.
pub record IsPlanned
    (p : PoolState) (root : Root) (c : Command) (s : Seen) (known questions : Intervals) (n : Planned)
    : Type 0
  where
    pub all_seen : IsAllSeen p root c s known questions
    pub edits : edits_of n.edits ≡ edits_on c (pairs_of s)
    pub body : n.body ≡ body_on c (pairs_of s) n.in_extents
    pub sizes : HasFileSizes n.body
    pub kind : IsKindIn (met_cells p) n.body
    pub changes : (k : ℕ) → k < top
        → is_in n.changes k ≡ is_in (changes_on c (pairs_of s) n.in_extents) k
    pub lawful : (k : ℕ) → is_in (changes_on c (pairs_of s) n.in_extents) k ≡ true
        → (least ≤ k) × (k < top)

-- And the cells were met that hold what it touches, and where blocks go the leaves beside twigs that turn.
pub record IsTouched
    (p : PoolState) (root : Root) (c : Command) (s : Seen) (known questions : Intervals) (n : Planned)
    : Type 0
  where
    pub planned : IsPlanned p root c s known questions n
    pub held : AreHeld p (λ k. is_in (kind_reads n.body) k || is_in n.changes k)
    pub beside : (x : CellSeen) → p.met x.id ≡ Some x
        → (demand_of n.body (edits_of n.edits) [] n.changes).turns (node_of x) ≡ true
        → nat_lt (going_of n.body).0 (going_of n.body).1 ≡ true → AreLeftMet p x (going_of n.body).0

-- The keys of a tree among these are those of the questions, and the one that tells where the body stands.
abbrev pub AreReadKeys : (held questions : Intervals) → Option Body → Type 0
AreReadKeys held questions b = (k : ℕ) → least ≤ k → k < top
    → is_in held k ≡ (is_in questions k || is_in (kind_reads b) k)

-- No body stands in extents, before or afterwards, and none of the cells has an extent with one of these keys.
pub record IsOfLeaves (b : Option Body) (in_extents : Bool) (changes : Intervals) (cells : List CellSeen)
    : Type 0
  where
    pub kind : in_extents ≡ false
    pub body : IsInLeaves b
    pub spared : (x : CellSeen) (s : Span) → Contains cells x → Contains (node_of x).spans s
        → is_met changes s.lo s.hi ≡ false

-- The answer is made of these cells and marks.
pub record IsFrom (root : Root) (seen : Seen) (n : Planned) (met : List CellSeen) (m : Marks) (r : Reach)
    : Type 0
  where
    pub reads : r.reads ≡ map (λ c. arc_value c) m.reads.items
    pub writes : r.writes ≡ map (λ c. arc_value c) m.writes.items
    pub met_are : r.met ≡ met
    pub root_is : r.root ≡ option_map (λ a. root) m.rises
    pub seen_is : r.seen ≡ seen
    pub kind_is : r.in_extents ≡ n.in_extents
    pub leaves : (r.in_leaves ≡ true) ↔ IsOfLeaves n.body n.in_extents n.changes met
    pub most : r.most ≡ length m.writes.items + m.more + rise_of (option_map ask_seen m.rises)
        + sum_by (twig_cells n.body (edits_of n.edits)) (map (λ c. arc_value c) m.writes.items)
