-- What a twig needs, and asks for.
use Rattle.std.specs.Prelude.{◌≡◌, ℕ, ◌+◌, ◌-◌, ◌*◌, ◌/◌, ◌≤◌, List, length, Bool, true, false, ◌&&◌, ◌||◌, ◌==◌, ◌^◌, map, IfSome}
use Rattle.std.specs.Prelude.{None, Option, Some, nat_lt, if◌then◌else◌}
use Rattle.std.proofs.Common.{arith, refl, sym, ap, ◌∙◌}
use Rattle.r4_base.specs.Key.{rank}
use Rattle.r4_base.specs.Node.{items_of}
use Rattle.r4_base.specs.Tree.{Name, Node}
use Rattle.r4_base.specs.Value.{Value}
use Rattle.r4_extent_demands.specs.r4_branch.Pieces.{twig_bytes}
use Rattle.r4_extent_demands.specs.r4_cell.Seen.{CellSeen, node_of}
use Rattle.r4_content.specs.Bodies.{larger}
use Rattle.r4_content.specs.Edited.{Edits}
use Rattle.r4_extent_demands.specs.r4_marking.r4_path.Nodes.{weight}
use Rattle.r4_extent_demands.proofs.r4_marking.r4_path.Rising.{hi_is, lo_is}
use Rattle.r4_extent_demands.proofs.r4_leaf_demands.Weighed.{block_is, little}
use Rattle.r4_extent_demands.specs.r4_marking.r4_reach.Needs.{Ask, all_more, asking, changes_pieces, come_of, growing, meets, moves, over, pieces_after}
use Rattle.r4_extent_demands.specs.r4_marking.r4_reach.Needs.{put_among, twig_asks, twig_need}
use Rattle.r4_extent_demands.specs.r4_marking.r4_reach.Touched.{Body, is_spread}
use Rattle.r4_extent_demands.proofs.r4_bodies.Premises.{suits_later}
use Rattle.r4_extent_demands.specs.r4_leaf_edits.Suiting.{SuitLeaves}
use Rattle.r4_extent_demands.specs.r4_marking.Marks.{AreSmall, heard_seen, most_for}
use Rattle.r4_extent_demands.specs.r4_marking.declared.demands.Asking.{Asking}
use Rattle.r4_extent_demands.specs.r4_marking.declared.demands.Heard.{Heard}
use Rattle.r4_twig_asks.specs.Asking.{more_for}
use Rattle.r4_extent_demands.specs.Sizes.{end_of_bytes}
use Rattle.r4_extent_demands.specs.Changing.{changes_units}
use Rattle.r4_extent_demands.proofs.Changes.{changes_both}

module _ (b : Option Body) (e : Edits) (x : CellSeen) (hs : List (Name × Ask)) where
  meets_at : meets (node_of x).lo (node_of x).hi (come_of b) ≡ meets (rank x.lo) (rank x.hi) (come_of b)
  meets_at = (λ i. meets (lo_is x i) (hi_is x i) (come_of b))

  -- what it needs, by whether it is packed anew
  by_need : (t : Bool) → ((nat_lt 0 (put_among b e (node_of x)) || changes_units b e (node_of x))
      || meets (rank x.lo) (rank x.hi) (come_of b)) ≡ t
      → twig_need b e (node_of x) hs
      ≡ (if t then twig_bytes (pieces_after b e (node_of x) hs) + 46 * (all_more hs + put_among b e (node_of x))
      else weight (items_of (node_of x).block) + 46 * all_more hs)
  by_need t is = ap (λ (y : Bool). if y then twig_bytes (pieces_after b e (node_of x) hs)
      + 46 * (all_more hs + put_among b e (node_of x))
      else weight (items_of (node_of x).block) + 46 * all_more hs)
      ((λ i. changes_both b e (node_of x) i || meets_at i) ∙ is)

  pub need_items : ((nat_lt 0 (put_among b e (node_of x)) || changes_units b e (node_of x))
      || meets (rank x.lo) (rank x.hi) (come_of b)) ≡ false
      → twig_need b e (node_of x) hs ≡ weight (items_of x.block) + 46 * all_more hs
  need_items is = by_need false is ∙ ap (λ bytes. weight (items_of bytes) + 46 * all_more hs) (block_is x)

  pub need_pieces : ((nat_lt 0 (put_among b e (node_of x)) || changes_units b e (node_of x))
      || meets (rank x.lo) (rank x.hi) (come_of b)) ≡ true
      → twig_need b e (node_of x) hs
      ≡ twig_bytes (pieces_after b e (node_of x) hs) + 46 * (all_more hs + put_among b e (node_of x))
  need_pieces is = by_need true is

  pub asks_are : (always : Bool) (need more : ℕ) (gone : Bool) → always ≡ moves (come_of b) (node_of x)
      → need ≡ twig_need b e (node_of x) hs → more ≡ more_for need (growing hs)
      → gone ≡ (meets (rank x.lo) (rank x.hi) (come_of b) && (length (pieces_after b e (node_of x) hs) == 0))
      → asking always (record { more = more; gone = gone }) ≡ twig_asks b e (node_of x) hs
  asks_are always need more gone m n k g =
      (λ i. asking (m i) (record {
        more = (k ∙ ap (λ (y : ℕ). more_for y (growing hs)) n) i;
        gone = (g ∙ (λ j. sym meets_at j && (length (pieces_after b e (node_of x) hs) == 0))) i;
      }))

-- ---- it is little

pub more_few : (bytes leaves : ℕ) → bytes ≤ 33557476 → leaves ≤ 107 → more_for bytes leaves ≤ 32768
more_few bytes leaves few less = by_test (nat_lt 4068 bytes)
  where
    over_few : (t : Bool) → (if t then 1 + (bytes - 4068 + 1023) / 1024 else 0) ≤ 32768
    over_few true = omega (arith, few)
    over_few false = omega arith

    larger_few : (t : Bool) → (if t then leaves else over bytes) ≤ 32768
    larger_few true = omega (arith, less)
    larger_few false = over_few (nat_lt 4068 bytes)

    by_test : (t : Bool) → (if t then larger (over bytes) leaves else 0) ≤ 32768
    by_test true = larger_few (nat_lt (over bytes) leaves)
    by_test false = omega arith

-- few pointers are asked for below, by few
pub few_below : (heard : List Heard) (bytes items : ℕ) → bytes ≤ 4068 → 38 * items ≤ bytes → length heard ≤ items
    → AreSmall (most_for 2) heard
    → (all_more (map heard_seen heard) ≤ 438272) × (length heard ≤ 107) × (items ≤ 107)
few_below heard bytes items fits few less small =
    let m : most_for 2 ≡ 4096 = refl in
    let all = (little 2 heard (omega arith) (omega (arith, fits, few, less)) small).all in
    (omega (arith, m, all), omega (arith, fits, few, less), omega (arith, fits, few))

pub some_few : (o : Option Asking) (n most : ℕ) → n ≤ most → IfSome o (λ a. a.more ≡ n) → IfSome o (λ a. a.more ≤ most)
some_few None n most le is = tt
some_few (Some a) n most le is = omega (arith, le, is)

-- bytes are put below the greatest size of a file
pub low_suit : (b : Option Body) (e : Edits) → SuitLeaves (end_of_bytes b) e → SuitLeaves (2 ^ 30) e
low_suit None e suit = suits_later 16384 (2 ^ 30) e (omega arith) suit
low_suit (Some b) e suit = by_test (is_spread b) suit
  where
    by_test : (t : Bool) → SuitLeaves (if t then 2 ^ 30 else 16384) e → SuitLeaves (2 ^ 30) e
    by_test true s = s
    by_test false s = suits_later 16384 (2 ^ 30) e (omega arith) s
