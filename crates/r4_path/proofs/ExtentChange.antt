-- The small change is a change of a twig.
use Rattle.std.proofs.Common.{◌≡◌, ◌≢◌, ◌⊎◌, ◌↔◌, inl, inr, ℕ, ◌+◌, ◌<◌, ◌≤◌, ◌*◌, ◌^◌, List, [], ◌∷◌, refl, sym, ap, subst}
use Rattle.std.proofs.Common.{◌∙◌, arith}
use Rattle.std.specs.Prelude.{Contains, None, Some, true}
use Rattle.std.proofs.Math.Dec.{lit<}
use Rattle.std.proofs.lemmas.Option.{none-some}
use Rattle.r4_base.specs.Cell.{cell_of}
use Rattle.r4_base.specs.Fresh.{root_key}
use Rattle.r4_base.specs.Key.{least, rank, top}
use Rattle.r4_base.specs.Tree.{IsNode, Name, Node}
use Rattle.r4_base.specs.Value.{Value}
use Rattle.r4_patch.specs.r4_cell.Seen.{CellSeen, node_of}
use Rattle.r4_patch.proofs.r4_cell.Nodes.{cell_node, data_node}
use Rattle.r4_patch.specs.SecondRoot.{small_root}
use Rattle.r4_patch.proofs.PartCells.{tree_is_part}
use Rattle.r4_patch.proofs.SecondRoot.{small_is_tree}
use Rattle.r4_path.specs.Sharing.{IsSound}
use Rattle.r4_path.specs.Steps.{AreNaming, IsNameOf, fresh_ids, name_of}
use Rattle.r4_patch.proofs.Members.{cases, have_names, here, later, none}
use Rattle.r4_path.specs.ExtentPut.{data_cell, extent_below, extent_block, extent_step, extent_tree, file_key, last_key}
use Rattle.r4_path.specs.ExtentPut.{leaf_cell, pointer_block, stat_block, twig_cell}
use Rattle.r4_path.specs.Twigs.{HaveNumbers, IsTwigChange, IsTwigStep, IsUnused}
use Rattle.r4_path.proofs.Instance.{data_sound, leaf_sound, new_names, old_leaf, old_leaf_sound, old_twig, twig_sound}
use Rattle.r4_path.proofs.Instance.{was_sound}

-- ---- members of short lists

pub only : {A : Type 0} (x y : A) → Contains (x ∷ []) y → y ≡ x
only x y at = elim (cases x y [] at) [ inl is ↦ is | inr more ↦ absurd (none y more) ]

three : {A : Type 0} (x y z u : A) → Contains (x ∷ (y ∷ (z ∷ []))) u → (u ≡ x) ⊎ ((u ≡ y) ⊎ (u ≡ z))
three x y z u at = elim (cases x u (y ∷ (z ∷ [])) at) [
  | inl is ↦ inl is
  | inr more ↦ elim (cases y u (z ∷ []) more) [
    | inl is ↦ inr (inl is)
    | inr last ↦ inr (inr (only z u last))
  ]
]

-- ---- ranks

pub from_least : rank root_key ≡ least
unfolding rank least
from_least = refl

pub to_top : rank last_key ≡ top
unfolding rank top
to_top = refl

pub least_file : least < rank (file_key 0)
unfolding rank least
least_file = lit< tt

pub file_top : rank (file_key 0) + 8192 < top
unfolding rank top
file_top = lit< tt

data_hi : (nth : ℕ) → rank (data_cell nth).hi ≡ rank (data_cell nth).lo + 4096
unfolding rank
data_hi nth = omega arith

data_lo : (nth : ℕ) → rank (data_cell nth).lo ≡ rank (file_key 0) + 4096 * nth
unfolding rank
data_lo nth = omega arith

-- ---- nodes

pub sound_node : (c : CellSeen) → IsSound c → 1 ≤ c.level → least ≤ rank c.lo → rank c.lo < rank c.hi → rank c.hi ≤ top
    → IsNode (node_of c)
sound_node c ok one from some to = cell_node true (2 ^ 64) c.level (rank c.lo)
    (rank c.hi) c.block ok.whole one from some to ok.accepted

twig_node : IsNode (node_of (twig_cell extent_block))
twig_node = sound_node (twig_cell extent_block) twig_sound (omega arith) (omega (arith, from_least))
    (omega (arith, from_least, to_top, least_file, file_top)) (omega (arith, to_top))

leaf_node : IsNode (node_of (leaf_cell (file_key 0)))
leaf_node = sound_node (leaf_cell (file_key 0)) leaf_sound (omega arith) (omega (arith, from_least))
    (omega (arith, from_least, least_file)) (omega (arith, file_top))

block_node : (nth : ℕ) → nth < 2 → IsNode (node_of (data_cell nth))
block_node nth less =
    let lo = data_lo nth in
    let hi = data_hi nth in
    subst (λ (h : ℕ). IsNode (cell_of 0 (rank (data_cell nth).lo) h (data_cell nth).block)) (sym hi)
    (data_node (rank (data_cell nth).lo) (data_cell nth).block refl (omega (arith, lo, least_file))
    (omega (arith, lo, less, file_top)))

abbrev leaf : CellSeen
leaf = leaf_cell (file_key 0)

abbrev twig : CellSeen
twig = twig_cell extent_block

pub new_cell : (c : CellSeen) → Contains (leaf ∷ (data_cell 0 ∷ (data_cell 1 ∷ []))) c
    → (c ≡ leaf) ⊎ ((c ≡ data_cell 0) ⊎ (c ≡ data_cell 1))
new_cell c at = three leaf (data_cell 0) (data_cell 1) c at

nodes : (c : CellSeen) → Contains (leaf ∷ (data_cell 0 ∷ (data_cell 1 ∷ (twig ∷ [])))) c → IsNode (node_of c)
nodes c at = elim (cases leaf c (data_cell 0 ∷ (data_cell 1 ∷ (twig ∷ []))) at) [
  | inl is ↦ subst (λ (x : CellSeen). IsNode (node_of x)) (sym is) leaf_node
  | inr more ↦ elim (three (data_cell 0) (data_cell 1) twig c more) [
    | inl is ↦ subst (λ (x : CellSeen). IsNode (node_of x)) (sym is) (block_node 0 (omega arith))
    | inr last ↦ elim last [
      | inl is ↦ subst (λ (x : CellSeen). IsNode (node_of x)) (sym is) (block_node 1 (omega arith))
      | inr is ↦ subst (λ (x : CellSeen). IsNode (node_of x)) (sym is) twig_node
    ]
  ]
]

-- ---- what is named

pub old_name : (n : Name) → Contains (node_of (twig_cell pointer_block)).names n → n ≡ name_of (leaf_cell last_key)
unfolding rank least top
old_name n at = only (name_of (leaf_cell last_key)) n (subst (λ (d : Node Value). Contains d.names n) old_twig at)

pub goes_name : Contains (node_of (twig_cell pointer_block)).names (name_of (leaf_cell last_key))
unfolding rank least top
goes_name = subst (λ (d : Node Value). Contains d.names (name_of (leaf_cell last_key))) (sym old_twig)
    (here (name_of (leaf_cell last_key)) [])

abbrev come_names : List Name
come_names = name_of leaf ∷ (name_of (data_cell 0) ∷ (name_of (data_cell 1) ∷ []))

pub names_to : (n : Name) → Contains (node_of twig).names n → IsNameOf extent_below.new n
names_to n at = elim (three (name_of leaf) (name_of (data_cell 0)) (name_of (data_cell 1)) n
    (subst (λ (l : List Name). Contains l n) new_names at)) [
      | inl is ↦ (leaf, here leaf (data_cell 0 ∷ (data_cell 1 ∷ [])), is)
      | inr more ↦ elim more [
        | inl is ↦ (
          data_cell 0,
          later leaf (data_cell 0) (data_cell 0 ∷ (data_cell 1 ∷ [])) (here (data_cell 0) (data_cell 1 ∷ [])),
          is,
        )
        | inr is ↦ (
          data_cell 1,
          later leaf (data_cell 1) (data_cell 0 ∷ (data_cell 1 ∷ []))
              (later (data_cell 0) (data_cell 1) (data_cell 1 ∷ []) (here (data_cell 1) [])),
          is,
        )
      ]
    ]

pub names_from : (n : Name) → IsNameOf extent_below.new n → Contains (node_of twig).names n
names_from n (c, at, e) = subst (λ (l : List Name). Contains l n) (sym new_names)
    (subst (Contains come_names) (sym e) (among (new_cell c at)))
  where
    among : (c ≡ leaf) ⊎ ((c ≡ data_cell 0) ⊎ (c ≡ data_cell 1)) → Contains come_names (name_of c)
    among (inl is) = subst (λ (x : CellSeen). Contains come_names (name_of x)) (sym is)
        (here (name_of leaf) (name_of (data_cell 0) ∷ (name_of (data_cell 1) ∷ [])))
    among (inr (inl is)) = subst (λ (x : CellSeen). Contains come_names (name_of x)) (sym is)
        (later (name_of leaf) (name_of (data_cell 0)) (name_of (data_cell 0) ∷ (name_of (data_cell 1) ∷ []))
        (here (name_of (data_cell 0)) (name_of (data_cell 1) ∷ [])))
    among (inr (inr is)) = subst (λ (x : CellSeen). Contains come_names (name_of x)) (sym is)
        (later (name_of leaf) (name_of (data_cell 1)) (name_of (data_cell 0) ∷ (name_of (data_cell 1) ∷ []))
        (later (name_of (data_cell 0)) (name_of (data_cell 1)) (name_of (data_cell 1) ∷ []) (here (name_of (data_cell 1)) [])))

names : (n : Name) → AreNaming (twig ∷ []) n ↔ ((Contains (node_of (twig_cell pointer_block)).names n ×
    (IsNameOf extent_below.old n → ⊥)) ⊎ IsNameOf extent_below.new n)
names n = (
  λ h. let (c, at, member) = h in inr (names_to n (subst (λ (x : CellSeen). Contains (node_of x).names n)
      (only twig c at) member)),
  λ h. elim h [
    | inl stays ↦ absurd (stays.1 (leaf_cell last_key, here (leaf_cell last_key) [], old_name n stays.0))
    | inr comes ↦ (twig, here twig [], names_from n comes)
  ],
)

-- ---- numbers

pub unused : (i : ℕ) → extent_tree i ≡ None → IsUnused extent_tree i
unused i gone = (
  gone,
  λ named. let (n, (j, c, there, member), same) = named in
      let (d, at, fits) = (small_is_tree pointer_block stat_block).named j c n there member in
      none-some d (sym gone ∙ subst (λ x. extent_tree x ≡ Some d) same at),
)

none_taken : (i : ℕ) → Contains (fresh_ids (extent_step ∷ []) None) i → ⊥
none_taken i at = none i at

pub numbers : HaveNumbers extent_tree extent_below (fresh_ids (extent_step ∷ []) None)
numbers = record {
  old = have_names (leaf_cell last_key ∷ []) (λ y at. absurd (none y at), tt);
  new = have_names (leaf ∷ (data_cell 0 ∷ (data_cell 1 ∷ []))) (apart_leaf, (apart_block, (λ y at. absurd (none y at), tt)));
  each = λ c at. elim (new_cell c at) [
    | inl is ↦ inl (subst (λ (x : CellSeen). Contains (23 ∷ []) x.id) (sym is) (here 23 []))
    | inr more ↦ inr (elim more [
      | inl is ↦ (subst (λ (x : CellSeen). IsUnused extent_tree x.id) (sym is) (unused 24 refl), none_taken c.id)
      | inr is ↦ (subst (λ (x : CellSeen). IsUnused extent_tree x.id) (sym is) (unused 25 refl), none_taken c.id)
    ])
  ];
  once = λ i j d a b. absurd (omega (arith, b));
  unused = λ i at. absurd (none_taken i at);
}
  where
    apart_leaf : (y : CellSeen) → Contains (data_cell 0 ∷ (data_cell 1 ∷ [])) y → leaf.id ≢ y.id
    apart_leaf y at same = elim (cases (data_cell 0) y (data_cell 1 ∷ []) at) [
      | inl is ↦ let id = ap (λ (x : CellSeen). x.id) is in omega (arith, id, same)
      | inr more ↦ let id = ap (λ (x : CellSeen). x.id) (only (data_cell 1) y more) in omega (arith, id, same)
    ]

    apart_block : (y : CellSeen) → Contains (data_cell 1 ∷ []) y → (data_cell 0).id ≢ y.id
    apart_block y at same = let id = ap (λ (x : CellSeen). x.id) (only (data_cell 1) y at) in omega (arith, id, same)

-- ---- the change

step : IsTwigStep extent_below extent_step
step = record {
  level = refl;
  first = refl;
  ranges = (refl, refl, omega (arith, from_least, to_top, least_file, file_top), refl);
  goes = λ c at. subst (λ (x : CellSeen). Contains (node_of (twig_cell pointer_block)).names (name_of x))
      (sym (only (leaf_cell last_key) c at)) goes_name;
  names = names;
}

pub small_change : IsTwigChange extent_tree small_root extent_below extent_step [] None
small_change = record {
  part = tree_is_part extent_tree small_root (small_is_tree pointer_block stat_block);
  path = (ap Some (sym old_twig), omega arith, tt, tt);
  gone = λ c at. subst (λ (x : CellSeen). extent_tree x.id ≡ Some (node_of x)) (sym (only (leaf_cell last_key) c at))
      (ap Some (sym old_leaf));
  step = step;
  climbs = tt;
  ends = (twig, refl);
  nodes = nodes;
  numbers = numbers;
}

pub all_sound : (c : CellSeen) → Contains (leaf_cell last_key ∷
    (twig_cell pointer_block ∷ (leaf ∷ (data_cell 0 ∷ (data_cell 1 ∷ (twig ∷ [])))))) c → IsSound c
all_sound c at = elim (cases (leaf_cell last_key) c (twig_cell pointer_block ∷
    (leaf ∷ (data_cell 0 ∷ (data_cell 1 ∷ (twig ∷ []))))) at) [
      | inl is ↦ subst IsSound (sym is) old_leaf_sound
      | inr a ↦ elim (cases (twig_cell pointer_block) c (leaf ∷ (data_cell 0 ∷ (data_cell 1 ∷ (twig ∷ [])))) a) [
        | inl is ↦ subst IsSound (sym is) was_sound
        | inr b ↦ elim (cases leaf c (data_cell 0 ∷ (data_cell 1 ∷ (twig ∷ []))) b) [
          | inl is ↦ subst IsSound (sym is) leaf_sound
          | inr d ↦ elim (three (data_cell 0) (data_cell 1) twig c d) [
            | inl is ↦ subst IsSound (sym is) (data_sound 0)
            | inr e ↦ elim e [ inl is ↦ subst IsSound (sym is) (data_sound 1) | inr is ↦ subst IsSound (sym is) twig_sound ]
          ]
        ]
      ]
    ]
