-- Below a root stand an extent of four blocks, and before it a leaf or another extent: what the root names, and its paths.
use Rattle.std.proofs.Common.{◌≡◌, ◌⊎◌, inl, inr, ℕ, zero, suc, ◌+◌, ◌*◌, ◌^◌, ◌<◌, ◌≤◌, Bool, true, false, List, [], ◌∷◌, ◌++◌, length, refl, sym, ap, subst, ◌∙◌, arith}
use Rattle.std.specs.Prelude.{Contains, slice_get, Some}
use Rattle.std.proofs.Math.Dec.{lit<}
use Rattle.std.proofs.lemmas.Option.{same_Some, slice_get_within}
use Rattle.r4_base.specs.Cell.{cell_of, run_names}
use Rattle.r4_base.specs.Key.{IsBelow, least, rank, top}
use Rattle.r4_base.specs.Node.{Item, count_of, items_of}
use Rattle.r4_base.specs.Tree.{IsNode, Name}
use Rattle.r4_base.specs.declared.key.Key.{Key}
use Rattle.r4_node40.specs.Edits.{GoesBetween}
use Rattle.r4_node40.proofs.Laid.{length-items_of}
use Rattle.r4_branch.specs.Pieces.{names_of}
use Rattle.r4_cell.specs.Patch.{by_name}
use Rattle.r4_cell.specs.Seen.{CellSeen, node_of}
use Rattle.r4_cell.specs.declared.change.Fresh.{Fresh}
use Rattle.r4_cell.proofs.Nodes.{data_node}
use Rattle.r4_path.specs.Growing.{IsPathIn}
use Rattle.r4_path.specs.Nodes.{IsPointable}
use Rattle.r4_path.specs.Steps.{name_of}
use Rattle.r4_edit_testing.specs.Trials.{IsRunBlock, IsRunLeaf, IsRunTwig, byte_key, first_piece, low_root, run_pieces}
use Rattle.r4_patch.proofs.Members.{cases, here, later, none}
use Rattle.r4_edit_testing.proofs.RootPart.{root_path}

-- ---- keys

pub first_key : (leaf : Bool) → rank (first_piece leaf).key ≡ least
unfolding rank least
first_key leaf = refl

pub least_byte : least < rank (byte_key 0)
unfolding rank least
least_byte = lit< tt

pub block_before : least + 4096 < rank (byte_key 0)
unfolding rank least
block_before = lit< tt

pub byte_top : rank (byte_key 0) + 2 ^ 60 < top
unfolding rank top
byte_top = lit< tt

pub byte_at : (n : ℕ) → rank (byte_key n) ≡ rank (byte_key 0) + n
unfolding rank
byte_at n = omega arith

pub twig_range : (twig : CellSeen) → rank twig.lo ≡ least → rank twig.hi ≡ top → rank twig.lo < rank twig.hi
twig_range twig lo hi = omega (arith, lo, hi, least_byte, byte_top)

-- ---- the names of a run

abbrev pub run_name : (key start nth : ℕ) → Name
run_name k s j = record { id = s + j; level = 0; lo = k + 4096 * j; hi = k + 4096 * j + 4096 }

same_name : (k s i j a b : ℕ) → k + 4096 * i ≡ a + 4096 * j → s + i ≡ b + j → run_name k s i ≡ run_name a b j
same_name k s i j a b lo id = (λ p. record { id = id p; level = 0; lo = lo p; hi = lo p + 4096 })

pub in_run : (k s m : ℕ) (n : Name) → Contains (run_names k s m) n → (j : ℕ) × (j < m) × (n ≡ run_name k s j)
in_run k s zero n at = absurd (none n at)
in_run k s (suc m) n at = elim (cases (record { id = s; level = 0; lo = k; hi = k + 4096 }) n (run_names (k + 4096) (s + 1) m) at) [
  | inl is ↦
      let id : s ≡ s + 0 = omega arith in
      let lo : k ≡ k + 4096 * 0 = omega arith in
      (zero, omega arith, is ∙ (λ p. record { id = id p; level = 0; lo = lo p; hi = lo p + 4096 }))
  | inr more ↦
      let (j, less, is) = in_run (k + 4096) (s + 1) m n more in
      (suc j, omega (arith, less), is ∙ same_name (k + 4096) (s + 1) j (suc j) k s (omega arith) (omega arith))
]

pub of_run : (k s m j : ℕ) → j < m → Contains (run_names k s m) (run_name k s j)
of_run k s zero j less = absurd (omega (arith, less))
of_run k s (suc m) zero less =
    let id : s ≡ s + 0 = omega arith in
    let lo : k ≡ k + 4096 * 0 = omega arith in
    subst (Contains (run_names k s (suc m))) (λ p. record { id = id p; level = 0; lo = lo p; hi = lo p + 4096 })
    (here (record { id = s; level = 0; lo = k; hi = k + 4096 }) (run_names (k + 4096) (s + 1) m))
of_run k s (suc m) (suc j) less =
    later (record { id = s; level = 0; lo = k; hi = k + 4096 }) (run_name k s (suc j)) (run_names (k + 4096) (s + 1) m)
    (subst (Contains (run_names (k + 4096) (s + 1) m))
    (same_name (k + 4096) (s + 1) j (suc j) k s (omega arith) (omega arith))
    (of_run (k + 4096) (s + 1) m j (omega (arith, less))))

-- ---- the names of the root

-- the first piece's name: that of the leaf, or of the block
abbrev pub first_name : (leaf : Bool) → Name
first_name true = record { id = 23; level = 1; lo = rank (first_piece true).key; hi = rank (byte_key 0) }
first_name false = record { id = 23; level = 0; lo = rank (first_piece false).key; hi = rank (first_piece false).key + 4096 }

abbrev pub block_name : (nth : ℕ) → Name
block_name nth = run_name (rank (byte_key 0)) 24 nth

-- It lies before the run, and a leaf ends there.
pub record IsFirst (n : Name) : Type 0 where
  pub id : n.id ≡ 23
  pub low : n.lo < rank (byte_key 0)
  pub high : n.hi ≤ rank (byte_key 0)
  pub ends : n.level ≡ 1 → n.hi ≡ rank (byte_key 0)

first_is : (leaf : Bool) → IsFirst (first_name leaf)
first_is true = record { id = refl; low = omega (arith, first_key true, least_byte); high = omega arith; ends = λ _. refl }
first_is false = record {
  id = refl;
  low = omega (arith, first_key false, least_byte);
  high = omega (arith, first_key false, block_before);
  ends = λ level. absurd (omega (arith, level));
}

names_of_run : (leaf : Bool) (hi : ℕ) → names_of hi (run_pieces leaf) ≡ first_name leaf ∷ run_names (rank (byte_key 0)) 24 4
unfolding names_of
names_of_run true hi = refl
names_of_run false hi = refl

pub leaf_named : (leaf : CellSeen) → IsRunLeaf leaf → name_of leaf ≡ first_name true
leaf_named leaf is =
    let lo = is.lo ∙ sym (first_key true) in
    (λ p. record { id = is.id p; level = is.level p; lo = lo p; hi = is.hi p })

pub block_named : (nth : ℕ) (block : CellSeen) → IsRunBlock nth block → name_of block ≡ block_name nth
block_named nth block is =
    let lo : rank block.lo ≡ rank (byte_key 0) + 4096 * nth = is.lo ∙ byte_at (4096 * nth) in
    let at = byte_at (4096 * nth + 4096) in
    let to = is.hi in
    let hi : rank block.hi ≡ rank (byte_key 0) + 4096 * nth + 4096 = omega (arith, at, to) in
    (λ p. record { id = is.id p; level = is.level p; lo = lo p; hi = hi p })

pub block_node : (nth : ℕ) (block : CellSeen) → nth < 4 → IsRunBlock nth block → IsNode (node_of block)
block_node nth block less is =
    let name = block_named nth block is in
    let lo : rank block.lo ≡ rank (byte_key 0) + 4096 * nth = ap (λ (n : Name). n.lo) name in
    let to = ap (λ (n : Name). n.hi) name in
    let hi : rank block.hi ≡ rank block.lo + 4096 = omega (arith, lo, to) in
    let level = is.level in
    subst (λ (l : ℕ). IsNode (cell_of l (rank block.lo) (rank block.hi) block.block)) (sym level)
    (subst (λ (h : ℕ). IsNode (cell_of 0 (rank block.lo) h block.block)) (sym hi)
    (data_node (rank block.lo) block.block is.whole (omega (arith, lo, least_byte)) (omega (arith, lo, less, byte_top))))

module _ (leaf : Bool) (twig : CellSeen) (is : IsRunTwig leaf twig) where
  names : (node_of twig).names ≡ first_name leaf ∷ run_names (rank (byte_key 0)) 24 4
  names = sym is.pieces.names ∙ names_of_run leaf (rank twig.hi)

  pub has_first : Contains (node_of twig).names (first_name leaf)
  has_first = subst (λ ns. Contains ns (first_name leaf)) (sym names) (here (first_name leaf) (run_names (rank (byte_key 0)) 24 4))

  pub has_block : (j : ℕ) → j < 4 → Contains (node_of twig).names (block_name j)
  has_block j less = subst (λ ns. Contains ns (block_name j)) (sym names)
      (later (first_name leaf) (block_name j) (run_names (rank (byte_key 0)) 24 4) (of_run (rank (byte_key 0)) 24 4 j less))

  pub name_is : (n : Name) → Contains (node_of twig).names n
      → (n ≡ first_name leaf) ⊎ ((j : ℕ) × (j < 4) × (n ≡ block_name j))
  name_is n at = elim (cases (first_name leaf) n (run_names (rank (byte_key 0)) 24 4) (subst (λ ns. Contains ns n) names at)) [
    | inl first ↦ inl first
    | inr more ↦ inr (in_run (rank (byte_key 0)) 24 4 n more)
  ]

  id_is : (n : Name) → Contains (node_of twig).names n → (23 ≤ n.id) × (n.id < 28)
  id_is n at = elim (name_is n at) [
    | inl first ↦
        let id = ap (λ (m : Name). m.id) first in
        let at = (first_is leaf).id in
        (omega (arith, id, at), omega (arith, id, at))
    | inr block ↦
        let (j, less, e) = block in
        let id = ap (λ (m : Name). m.id) e in
        (omega (arith, id), omega (arith, id, less))
  ]

  once : (n m : Name) → Contains (node_of twig).names n → Contains (node_of twig).names m → n.id ≡ m.id → n ≡ m
  once n m a b same = elim (name_is n a) [
    | inl x ↦ elim (name_is m b) [
      | inl y ↦ x ∙ sym y
      | inr block ↦
          let (j, less, e) = block in
          let one = ap (λ (k : Name). k.id) x in
          let two = ap (λ (k : Name). k.id) e in
          let at = (first_is leaf).id in
          absurd (omega (arith, one, two, same, at))
    ]
    | inr first ↦
        let (i, few, d) = first in
        let one = ap (λ (k : Name). k.id) d in
        elim (name_is m b) [
          | inl y ↦
              let two = ap (λ (k : Name). k.id) y in
              let at = (first_is leaf).id in
              absurd (omega (arith, one, two, same, at))
          | inr block ↦
              let (j, less, e) = block in
              let two = ap (λ (k : Name). k.id) e in
              let index : i ≡ j = omega (arith, one, two, same) in
              d ∙ (ap block_name index ∙ sym e)
        ]
  ]

  pub first_of : (n : Name) → n ≡ first_name leaf → IsFirst n
  first_of n e = subst IsFirst (sym e) (first_is leaf)

  pub path_of : (below : List CellSeen) → ((c : CellSeen) → Contains below c → IsNode (node_of c))
      → ((c : CellSeen) → Contains below c → c.level ≤ 1)
      → ((c : CellSeen) → Contains below c → Contains (node_of twig).names (name_of c))
      → (f : Fresh) → 28 ≤ f.next → IsPathIn (by_name (twig ∷ below)) (low_root twig) (twig ∷ []) f
  path_of below nodes low named f next =
      root_path twig below is.level is.lo is.hi is.node nodes low named once
      (λ n at e. let w = id_is n at in let id = is.id in omega (arith, w, e, id))
      28 (λ n at. (id_is n at).1) (let id = is.id in omega (arith, id)) f next
      (subst IsPointable (sym is.id) (lit< tt, refl))

-- ---- the block that it is made of

pub one_counted : (b : List ℕ) (was : List Item) (x : Item) → was ≡ [] → items_of b ≡ was ++ x ∷ [] → 1 ≡ count_of b
one_counted b was x bare e =
    let long = ap length (e ∙ ap (λ (xs : List Item). xs ++ x ∷ []) bare) in
    let count = length-items_of b in
    omega (arith, long, count)

pub above_one : (items was : List Item) (x : Item) (key : Key) → was ≡ [] → items ≡ was ++ x ∷ [] → IsBelow x.key key
    → GoesBetween items 1 key
above_one items was x key bare e below = record {
  above = λ k y next at.
      let place : k ≡ 0 = omega (arith, next) in
      let first : slice_get items k ≡ Some x = (λ i. slice_get (one i) (place i)) in
      subst (λ (z : Item). IsBelow z.key key) (same_Some x y (sym first ∙ at)) below;
  below = λ y at.
      let past = slice_get_within items 1 y at in
      let long = ap length one in
      absurd (omega (arith, past, long));
}
  where
    one : items ≡ x ∷ []
    one = e ∙ ap (λ (xs : List Item). xs ++ x ∷ []) bare
