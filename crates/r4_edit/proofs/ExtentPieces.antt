-- The small change of a twig, by pieces, is a graft.
use Rattle.std.proofs.Common.{◌≡◌, ◌⊎◌, inl, inr, ℕ, ◌+◌, ◌-◌, ◌/◌, ◌^◌, ◌<◌, ◌≤◌, false, List, [], ◌∷◌, length}
use Rattle.std.proofs.Common.{refl, sym, ap, subst, ◌∙◌, arith}
use Rattle.std.specs.Prelude.{Contains, None, Some, ◌==◌}
use Rattle.std.proofs.Math.Dec.{lit<}
use Rattle.std.proofs.lemmas.Bool.{ne_eqb}
use Rattle.r4_base.proofs.Keys.{is_key}
use Rattle.r4_base.specs.Extents.{IsRun, holds_fixed}
use Rattle.r4_base.specs.Fresh.{root_key}
use Rattle.r4_base.specs.Key.{rank}
use Rattle.r4_base.specs.Tree.{IsNode, Name}
use Rattle.r4_path.specs.r4_branch.Pieces.{AreTwigPieces, bytes_behind, names_of, twig_bytes}
use Rattle.r4_path.specs.r4_cell.Seen.{CellSeen, node_of}
use Rattle.r4_path.specs.r4_patch.SecondRoot.{small_root}
use Rattle.r4_path.proofs.r4_patch.PartCells.{tree_is_part}
use Rattle.r4_path.proofs.r4_patch.SecondRoot.{small_is_tree}
use Rattle.r4_edit.specs.ExtentGraft.{all_fresh, put_below, put_blocks, put_pieces}
use Rattle.r4_path.specs.ExtentPut.{data_cell, extent_tree, file_key, last_key, leaf_cell, pointer_block, stat_block, twig_cell}
use Rattle.r4_path.specs.Grafts.{AreCountedBelow, IsGraftBelow, IsGraftOf, IsGraftedIn, IsUnusedBeside, extra_twigs}
use Rattle.r4_path.specs.Growing.{IsPathIn}
use Rattle.r4_path.specs.Steps.{IsFree, IsNameOf, name_of}
use Rattle.r4_path.proofs.Counted.{count_once}
use Rattle.r4_path.proofs.ExtentChange.{file_top, from_least, goes_name, least_file, old_name, only, sound_node, to_top, unused}
use Rattle.r4_path.proofs.Instance.{leaf_sound, old_leaf, old_twig}
use Rattle.r4_path.proofs.r4_patch.Members.{cases, have_names, here, later, none}

abbrev twig : CellSeen
twig = twig_cell pointer_block

abbrev was : CellSeen
was = leaf_cell last_key

abbrev leaf : CellSeen
leaf = leaf_cell (file_key 0)

abbrev block_names : List Name
block_names = name_of (data_cell 0) ∷ (name_of (data_cell 1) ∷ [])

-- ---- the path

missing : (i : ℕ) → 2 ^ 63 ≤ i → extent_tree i ≡ None
missing i high =
    let a : (22 == i) ≡ false = ne_eqb 22 i (λ e. omega (arith, e, high)) in
    let b : (23 == i) ≡ false = ne_eqb 23 i (λ e. omega (arith, e, high)) in
    rw (a, b) refl

free : IsFree (2 ^ 63) (2 ^ 64 - 1) extent_tree
free = record {
  cells = λ i low high. missing i low;
  names = λ i low high named. (unused i (missing i low)).1 named;
}

path : IsPathIn extent_tree small_root (twig ∷ []) all_fresh
path = record {
  part = tree_is_part extent_tree small_root (small_is_tree pointer_block stat_block);
  ascends = (ap Some (sym old_twig), omega arith, tt, tt);
  free = free;
  root_number = (lit< tt, refl);
}

-- ---- the pieces

run : IsRun (2 ^ 64) (record { start = 24; width = 2 })
unfolding holds_fixed
run = record { start = omega arith; width = omega arith; within = omega arith; spares_fixed = refl }

pieces : AreTwigPieces (rank root_key) (rank last_key) put_pieces
pieces = record {
  some = omega arith;
  first = refl;
  follow = (
    omega arith,
    (is_key root_key refl (lit< tt) (lit< tt) (lit< tt) (lit< tt), refl),
    (
      omega (arith, from_least, least_file),
      (is_key (file_key 0) refl (lit< tt) (lit< tt) (lit< tt) (lit< tt), (inr (inr run), omega arith)),
      omega (arith, to_top, file_top),
    ),
  );
}

bytes : twig_bytes put_pieces ≡ 100
unfolding bytes_behind
bytes = refl

no_extra : extra_twigs put_pieces ≡ 0
no_extra = ap (λ n. (n - 4068 + 1023) / 1024) bytes

grafted : IsGraftedIn extent_tree small_root put_pieces twig [] all_fresh
grafted = record {
  path = path;
  level = refl;
  pieces = pieces;
  bytes = let b = bytes in omega (arith, b);
  enough = inl (let b = bytes in omega (arith, b));
  numbers = let e = no_extra in omega (arith, e);
}

-- ---- the names

names_are : names_of (rank last_key) put_pieces ≡ name_of leaf ∷ block_names
unfolding names_of rank
names_are = refl

names_to : (n : Name) → Contains (name_of leaf ∷ block_names) n
    → (Contains (node_of twig).names n × (IsNameOf put_below.old n → ⊥)) ⊎ (IsNameOf put_below.new n ⊎ Contains block_names n)
names_to n at = elim (cases (name_of leaf) n block_names at) [
  | inl is ↦ inr (inl (leaf, here leaf [], is))
  | inr more ↦ inr (inr more)
]

names_from : (n : Name)
    → (Contains (node_of twig).names n × (IsNameOf put_below.old n → ⊥)) ⊎ (IsNameOf put_below.new n ⊎ Contains block_names n)
    → Contains (name_of leaf ∷ block_names) n
names_from n (inl stays) = absurd (stays.1 (was, here was [], old_name n stays.0))
names_from n (inr (inl (c, at, is))) = subst (Contains (name_of leaf ∷ block_names))
    (sym (is ∙ ap name_of (only leaf c at))) (here (name_of leaf) block_names)
names_from n (inr (inr block)) = later (name_of leaf) n block_names block

block_is : (n : Name) → Contains block_names n → (n ≡ name_of (data_cell 0)) ⊎ (n ≡ name_of (data_cell 1))
block_is n at = elim (cases (name_of (data_cell 0)) n (name_of (data_cell 1) ∷ []) at)
    [ inl is ↦ inl is | inr more ↦ inr (only (name_of (data_cell 1)) n more) ]

leaf_node : IsNode (node_of leaf)
leaf_node = sound_node leaf leaf_sound (omega arith) (omega (arith, from_least))
    (omega (arith, from_least, least_file)) (omega (arith, file_top))

is_graft_of : IsGraftOf extent_tree twig put_pieces put_below block_names
is_graft_of = record {
  goes = λ c at. subst (λ (x : CellSeen). Contains (node_of twig).names (name_of x)) (sym (only was c at)) goes_name;
  gone = λ c at. subst (λ (x : CellSeen). extent_tree x.id ≡ Some (node_of x)) (sym (only was c at)) (ap Some (sym old_leaf));
  names = λ n. (
    (λ h. names_to n (subst (λ ns. Contains ns n) names_are h)),
    (λ h. subst (λ ns. Contains ns n) (sym names_are) (names_from n h)),
  );
  nodes = λ c at. subst (λ (x : CellSeen). IsNode (node_of x)) (sym (only leaf c at)) leaf_node;
  blocks = λ n at. elim (block_is n at) [
    | inl is ↦ ap (λ (m : Name). m.level) is
    | inr is ↦ ap (λ (m : Name). m.level) is
  ];
}

-- ---- the numbers

beside : (i : ℕ) → extent_tree i ≡ None → i < 2 ^ 63 → IsUnusedBeside extent_tree (2 ^ 63) (2 ^ 64 - 1) i
beside i gone low = (unused i gone, inl low)

counted : AreCountedBelow extent_tree put_below block_names (2 ^ 63) all_fresh
counted = record {
  mine = [];
  old = have_names (was ∷ []) (λ y at. absurd (none y at), tt);
  new = have_names (leaf ∷ []) (λ y at. absurd (none y at), tt);
  each = λ c at. inl (subst (λ (x : CellSeen). Contains (23 ∷ []) x.id) (sym (only leaf c at)) (here 23 []));
  counts = tt;
  ends = omega arith;
  free = free;
  blocks = λ n at. elim (block_is n at) [
    | inl is ↦ subst (λ (m : Name). IsUnusedBeside extent_tree (2 ^ 63) (2 ^ 64 - 1) m.id) (sym is) (beside 24 refl (lit< tt))
    | inr is ↦ subst (λ (m : Name). IsUnusedBeside extent_tree (2 ^ 63) (2 ^ 64 - 1) m.id) (sym is) (beside 25 refl (lit< tt))
  ];
  once = count_once 24 (24 ∷ (25 ∷ [])) (refl, (refl, tt));
}

pub small_graft : IsGraftBelow extent_tree small_root put_pieces put_below put_blocks (2 ^ 63) all_fresh twig []
small_graft = record {
  data_names = block_names;
  grafted = grafted;
  of = is_graft_of;
  blocks_are = record { names = refl; whole = whole };
  counted = counted;
}
  where
    whole : (c : CellSeen) → Contains put_blocks c → length c.block ≡ 4096
    whole c at = elim (cases (data_cell 0) c (data_cell 1 ∷ []) at) [
      | inl is ↦ ap (λ (x : CellSeen). length x.block) is
      | inr more ↦ ap (λ (x : CellSeen). length x.block) (only (data_cell 1) c more)
    ]
