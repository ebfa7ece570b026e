-- What the items of nodes weigh, and how many pointers are asked for.
use Rattle.std.specs.Prelude.{◌≡◌, ◌≢◌, ℕ, zero, suc, ◌+◌, ◌-◌, ◌*◌, ◌/◌, ◌^◌, ◌<◌, ◌≤◌, ◌==◌, List, [], ◌∷◌, length}
use Rattle.std.specs.Prelude.{map, take}
use Rattle.std.specs.Prelude.{Bool, true, false, None, Some, nat_lt, max, slice_get, if◌then◌else◌}
use Rattle.std.proofs.Common.{arith, refl, sym, ap, ◌∙◌}
use Rattle.std.proofs.Math.Nat.{mul-le-mul_right, one-le-pow, pow-le-pow_right}
use Rattle.std.proofs.lemmas.Bool.{eq-eqb, le-ltb, lt-ltb, ltb-false, ltb-true, ne_eqb}
use Rattle.std.proofs.lemmas.List.Elements.{All-head, All-tail}
use Rattle.std.proofs.lemmas.List.Sums.{sum_by-append, sum_by-cons}
use Rattle.std.proofs.lemmas.Nat.{pow-add}
use Rattle.r4_base.specs.Cell.{cell_fault, cell_of}
use Rattle.r4_base.specs.Key.{rank}
use Rattle.r4_base.specs.Node.{Item, items_of}
use Rattle.r4_base.specs.Tree.{Name}
use Rattle.r4_cell.specs.Seen.{CellSeen, node_of}
use Rattle.r4_cell.proofs.NodesAt.{node_at}
use Rattle.r4_content.specs.Bodies.{larger}
use Rattle.r4_content.specs.Edited.{Edits}
use Rattle.r4_marking.specs.Marks.{AreSmall, heard_seen, most_for}
use Rattle.r4_marking.specs.declared.demands.Heard.{Heard}
use Rattle.r4_marking.proofs.Asked.{node_level}
use Rattle.r4_node40.proofs.Accepted.{good}
use Rattle.r4_marking.specs.r4_path.Nodes.{weight, weight_of}
use Rattle.r4_marking.proofs.r4_path.Filling.{take_more, weight_one}
use Rattle.r4_marking.proofs.r4_path.Finding.{node_weighs, weighs_length}
use Rattle.r4_marking.specs.r4_reach.Needs.{Ask, all_more, growing, over}
use Rattle.r4_leaf_demands.specs.Leaves.{bearing, leaf_change_asks, needing, node_more}

-- ---- items

pub weight_next : (items : List Item) (i : ℕ) (it : Item) → slice_get items i ≡ Some it → weight (take (i + 1) items)
    ≡ weight (take i items) + weight_of it
weight_next items i it at =
    let sum = ap weight (take_more i items it at) ∙ sum_by-append weight_of (take i items) (it ∷ []) in
    let one = weight_one it in
    omega (arith, sum, one)

-- ---- a node that may stand

pub record IsSound (c : CellSeen) : Type 0 where
  pub fits : weight (items_of c.block) ≤ 4068
  pub few : 38 * length (items_of c.block) ≤ weight (items_of c.block)
  pub level : c.level ≤ 8

pub sound : (c : CellSeen) → 1 ≤ c.level → length c.block ≡ 4096 → cell_fault true (2 ^ 64) c.level (rank c.lo)
    (rank c.hi) c.block ≡ None → IsSound c
sound c some whole stands =
    let at = node_at true (2 ^ 64) c.level (rank c.lo) (rank c.hi) c.block some stands in
    let node = (good c.block whole at.accepted).0 in
    let level = at.level_is in
    let low = node.head.level.1 in
    record {
      fits = node_weighs c.block node.laid;
      few = weighs_length (items_of c.block);
      level = omega
          (arith, level, low);
    }

pub block_is : (c : CellSeen) → (node_of c).block ≡ c.block
unfolding cell_of
block_is c = by_level c.level
  where
    by_level : (l : ℕ) → (cell_of l (rank c.lo) (rank c.hi) c.block).block ≡ c.block
    by_level zero = refl
    by_level (suc l) = refl

pub bearing_is : (c : CellSeen) (hs : List (Name × Ask)) → bearing (node_of c) hs
    ≡ weight (items_of c.block) + 46 * all_more hs
bearing_is c hs = ap (λ (b : List ℕ). weight (items_of b) + 46 * all_more hs) (block_is c)

-- ---- what is asked for

one_more : (m n : ℕ) → suc n * m ≡ m + n * m
one_more m n = omega arith

more_cons : (x : Heard) (xs : List Heard) → all_more (map heard_seen (x ∷ xs))
    ≡ x.ask.more + all_more (map heard_seen xs)
more_cons x xs = sum_by-cons (λ (h : Name × Ask). h.1.more) (heard_seen x) (map heard_seen xs)

all_few : (m : ℕ) (heard : List Heard) → AreSmall m heard → all_more (map heard_seen heard) ≤ length heard * m
all_few m [] all = omega arith
all_few m (x ∷ xs) all =
    let first = All-head (λ (h : Heard). h.ask.more ≤ m) x xs all in
    let rest = all_few m xs (All-tail (λ (h : Heard). h.ask.more ≤ m) x xs all) in
    let sum = more_cons x xs in
    let step = one_more m (length xs) in
    omega (arith, first, rest, sum, step)

pub record IsLittle (level more : ℕ) : Type 0 where
  pub all : more ≤ 107 * most_for level
  pub some : 64 ≤ most_for level
  pub most : most_for level ≤ 1073741824
  pub next : most_for (level + 1) ≡ 8 * most_for level

pub little : (level : ℕ) (heard : List Heard) → level ≤ 8 → length heard ≤ 107 → AreSmall (most_for level) heard
    → IsLittle level (all_more (map heard_seen heard))
little level heard low few all =
    let sum = all_few (most_for level) heard all in
    let count : length heard * most_for level ≤ 107 * most_for level = mul-le-mul_right (most_for level) few in
    let some : 1 ≤ 8 ^ level = one-le-pow level 8 (omega arith) in
    let most : 8 ^ level ≤ 8 ^ 8 = pow-le-pow_right (omega arith) low in
    let next : 8 ^ (level + 1) ≡ 8 ^ level * 8 ^ 1 = pow-add 8 level 1 in
    record {
      all = omega (arith, sum, count);
      some = omega (arith, some);
      most = omega (arith, most);
      next = omega (arith, next);
    }

over_most : (n : ℕ) → over n ≤ 1 + (n - 4068 + 1023) / 1024
over_most n = by_test (nat_lt 4068 n)
  where
    by_test : (t : Bool) → (if t then 1 + (n - 4068 + 1023) / 1024 else 0) ≤ 1 + (n - 4068 + 1023) / 1024
    by_test true = omega arith
    by_test false = omega arith

pub over_little : (level more bytes n : ℕ) → IsLittle level more → bytes ≤ 4068 → n ≡ over (bytes + 46 * more)
    → n ≤ most_for (level + 1)
over_little level more bytes n h fits is =
    let most = over_most (bytes + 46 * more) in
    let all = h.all in
    let some = h.some in
    let next = h.next in
    omega (arith, is, most, all, some, next, fits)

pub larger_little : (most a b : ℕ) → a ≤ most → b ≤ most → larger a b ≤ most
larger_little most a b f g = by_test (nat_lt a b)
  where
    by_test : (t : Bool) → (if t then b else a) ≤ most
    by_test true = g
    by_test false = f

pub max_larger : (a b : ℕ) → max a b ≡ larger a b
max_larger a b = by_test (nat_lt a b) refl
  where
    by_test : (t : Bool) → nat_lt a b ≡ t → max a b ≡ (if t then b else a)
    by_test true e = let lt = ltb-true a b e in omega (arith, lt)
    by_test false e = let le = ltb-false a b e in omega (arith, le)

-- ---- a node

pub more_above : (level bytes leaves : ℕ) → level ≢ 2 → node_more level bytes leaves ≡ over bytes
more_above level bytes leaves other = let t : (level == 2) ≡ false = ne_eqb level 2 other in rw t refl

pub more_full : (level bytes leaves : ℕ) → level ≡ 2 → 4068 < bytes → node_more level bytes leaves
    ≡ larger (over bytes) leaves
more_full level bytes leaves two big =
    let t : (level == 2) ≡ true = eq-eqb level 2 two in
    let b : nat_lt 4068 bytes ≡ true = lt-ltb 4068 bytes big in
    rw (t, b) refl

pub more_none : (level bytes leaves : ℕ) → level ≡ 2 → bytes ≤ 4068 → node_more level bytes leaves ≡ 0
more_none level bytes leaves two few =
    let t : (level == 2) ≡ true = eq-eqb level 2 two in
    let b : nat_lt 4068 bytes ≡ false = le-ltb 4068 bytes few in
    rw (t, b) refl

pub node_asks : (c : CellSeen) (e : Edits) (hs : List (Name × Ask)) → c.level ≢ 1 → leaf_change_asks e (node_of c) hs
    ≡ needing (node_more c.level (bearing (node_of c) hs) (growing hs))
node_asks c e hs other =
    let same = node_level c in
    let t : ((node_of c).level == 1) ≡ false = ne_eqb (node_of c).level 1 (λ one. other (sym same ∙ one)) in
    rw t (ap (λ (l : ℕ). needing (node_more l (bearing (node_of c) hs) (growing hs))) same)
