-- The root and the one leaf of a small volume, and edits for which the leaf has room.
use Rattle.std.proofs.Common.{◌≡◌, inl, inr, ℕ, zero, suc, ◌+◌, ◌^◌, ◌<◌, ◌≤◌, ◌⊎◌, Bool, true, false, List, [], ◌∷◌, length, refl, ap, sym, subst, ◌∙◌, arith, if◌then◌else◌, ◌==◌}
use Rattle.std.specs.Prelude.{Contains, Option, None, Some, filter}
use Rattle.std.proofs.Math.Dec.{lit<}
use Rattle.std.proofs.lemmas.Grind.{common_steps}
use Rattle.r4_base.specs.Bytes.{number_bytes}
use Rattle.r4_base.specs.Cell.{cell_fault, cell_of}
use Rattle.r4_base.specs.Bytes.{number_at}
use Rattle.r4_base.specs.Fresh.{HasOneItem, root_key}
use Rattle.r4_base.specs.Node.{items_of}
use Rattle.r4_base.specs.Key.{least, rank, top}
use Rattle.r4_base.specs.Tree.{Fits, IsNode, Name, Node, Store}
use Rattle.r4_base.specs.Value.{Value}
use Rattle.r4_base.proofs.FreshTree.{down, fresh_is_tree, fresh_twig, least_below, only, twig_says, twig_there}
use Rattle.r4_cell.specs.Patch.{NamesId, by_name}
use Rattle.r4_cell.specs.Seen.{CellSeen, node_of}
use Rattle.r4_cell.proofs.Nodes.{cell_node}
use Rattle.r4_content.specs.Edited.{Edits, Intervals, Pairs, changed, is_in}
use Rattle.r4_content.specs.Listed.{list_edited}
use Rattle.r4_content.specs.declared.command.Command.{Command}
use Rattle.r4_leaf.specs.Units.{LeafUnit, is_between, leaf_bytes}
use Rattle.r4_patch.specs.Part.{IsPart}
use Rattle.r4_patch.proofs.Members.{Distinct, cases, found, have_names, here, later, none, there}
use Rattle.r4_reach.proofs.r4_path.Rising.{hi_is, level_is, lo_is}
use Rattle.r4_reach.specs.Demand.{Demand, ask, ask_of, heard, heard_one}
use Rattle.r4_reach.specs.Needs.{Ask, asking, cell_asks, changes_pieces, cut_in_two, demand_of, is_gone, leaf_asks, meets, over, units_after}
use Rattle.r4_reach.specs.Touched.{Body, body_on, edits_on, reads_on}
use Rattle.r4_reach.specs.Leaves.{more_of, rise_of}
use Rattle.r4_build.specs.r4_branch.Pieces.{pieces_in}
use Rattle.r4_build.specs.r4_branch.declared.piece.TwigPart.TheVariants.{Pointer}
use Rattle.r4_build.specs.r4_measure.Asked.{asked_of}
use Rattle.r4_build.specs.r4_measure.Begin.{IsQuiet, IsReachedFor}
use Rattle.r4_build.specs.r4_measure.Examples.{fresh_root, some_numbers}
use Rattle.r4_build.specs.r4_measure.r4_cell.declared.change.Fresh.{Fresh}
use Rattle.r4_build.specs.r4_work.Working.{AreCellsIn}
use Rattle.r4_build.specs.Building.{CanBuild, HaveLawfulKeys, LiesInLeaf, most_new}
use Rattle.r4_build.specs.Built.{IsBuildable}
use Rattle.r4_build.specs.r4_leaf_edits.Made.{spread_keys}
use Rattle.r4_spared.proofs.Spared.{none_come, own_edits}
use Rattle.r4_build_testing.specs.Small.{AreLawful, HasAllKeys, HasRoomFor, IsSmall, small_scope}

rise_one : (o : Option Ask) → rise_of o ≤ 1
rise_one None = omega arith
rise_one (Some a) = omega arith

no_members : {A : Type 0} (xs : List A) → ((x : A) → Contains xs x → ⊥) → xs ≡ []
no_members [] h = refl
no_members (x ∷ xs) h = absurd (h x (here x xs))

-- a leaf of all keys, without names, asks for nothing where its units fit
module _ (b : Option Body) (tails : spread_keys b ≡ None) (e : Edits) (c : Node Value) (one : c.level ≡ 1) (lo : c.lo ≡ least) (hi : c.hi ≡ top)
    (room : leaf_bytes (units_after None e c) ≤ 4068) where
  no_ask_alone : leaf_asks None e c ≡ None
  unfolding least top
  no_ask_alone = grind (arith, common_steps, lo, hi, room)

  abbrev asks_where : ℕ × ℕ → Edits → Option Ask
  asks_where come edits =
      let us = filter (λ (u : LeafUnit). is_between c.lo c.hi u.0) (list_edited edits c.units) in
      if meets c.lo c.hi come then asking true
      (record { more = over (leaf_bytes us) + cut_in_two come c us; gone = is_gone come c us })
      else asking false (record { more = over (leaf_bytes us); gone = false })

  no_ask : leaf_asks b e c ≡ None
  no_ask = (λ i. asks_where (none_come b tails i) (own_edits b e tails i)) ∙ no_ask_alone

  if_at_all : (b : Bool) (o p : Option Ask) → o ≡ None → (if b then (if c.level == 1 then o else p) else None) ≡ None
  if_at_all false o p h = refl
  if_at_all true o p h = grind (arith, common_steps, one, h)

  pub no_cell_ask : cell_asks b e (changed e) c [] ≡ None
  no_cell_ask = if_at_all _ _ _ no_ask

module _ (twig leaf : CellSeen) (above : HasAllKeys 22 2 twig) (below : HasAllKeys 23 1 leaf) (pointer : HasOneItem twig.block 2 3 (number_bytes 8 23)) (whole : length leaf.block ≡ 4096)
    (stands : cell_fault true (2 ^ 64) leaf.level (rank leaf.lo) (rank leaf.hi) leaf.block ≡ None) where
  abbrev cells : List CellSeen
  cells = twig ∷ leaf ∷ []

  abbrev tree : Store Value
  tree = by_name cells

  in_twig : Contains cells twig
  in_twig = here twig (leaf ∷ [])

  in_leaf : Contains cells leaf
  in_leaf = later twig leaf (leaf ∷ []) (here leaf [])

  twig_is : node_of twig ≡ fresh_twig twig.block
  twig_is = (λ i. cell_of (above.level_is i) (above.lo i) (above.hi i) twig.block) ∙ sym (twig_says twig.block pointer)

  leaf_is : node_of leaf ≡ cell_of 1 least top leaf.block
  leaf_is = λ i. cell_of (below.level_is i) (below.lo i) (below.hi i) leaf.block

  leaf_level : (node_of leaf).level ≡ 1
  leaf_level = level_is leaf ∙ below.level_is

  leaf_lo : (node_of leaf).lo ≡ least
  leaf_lo = lo_is leaf ∙ below.lo

  leaf_hi : (node_of leaf).hi ≡ top
  leaf_hi = hi_is leaf ∙ below.hi

  leaf_node : IsNode (node_of leaf)
  leaf_node =
      let l = below.level_is in
      let lo = below.lo in
      let hi = below.hi in
      let some = least_below in
      cell_node true (2 ^ 64) leaf.level (rank leaf.lo) (rank leaf.hi) leaf.block whole (omega (arith, l)) (omega (arith, lo)) (omega (arith, lo, hi, some)) (omega (arith, hi)) stands

  twig_node : IsNode (node_of twig)
  twig_node = subst IsNode (sym twig_is) ((fresh_is_tree twig.block []).nodes 22 (fresh_twig twig.block) (twig_there twig.block []))

  no_names : (node_of leaf).names ≡ []
  no_names = no_members (node_of leaf).names (λ n at. let l = leaf_level in elim (leaf_node.below n at) [
    | inl h ↦ omega (arith, h, l)
    | inr h ↦ omega (arith, h, l)
  ])

  no_spans : (node_of leaf).spans ≡ []
  no_spans = no_members (node_of leaf).spans (λ s at. let l = leaf_level in let two = leaf_node.spans_in_twigs s at in omega (arith, two, l))

  distinct : Distinct cells
  distinct =
      let up = above.id_is in
      let low = below.id_is in
      ((λ y at same. let e = ap (λ (z : CellSeen). z.id) (only leaf y at) in omega (arith, e, same, up, low)), ((λ y at. absurd (none y at)), tt))

  stand : (c : CellSeen) → Contains cells c → tree c.id ≡ Some (node_of c)
  stand c at = there cells c distinct at

  root_there : tree 22 ≡ Some (node_of twig)
  root_there = subst (λ j. tree j ≡ Some (node_of twig)) above.id_is (stand twig in_twig)

  leaf_there : tree 23 ≡ Some (node_of leaf)
  leaf_there = subst (λ j. tree j ≡ Some (node_of leaf)) below.id_is (stand leaf in_leaf)

  -- each cell is one of the two
  each : (i : ℕ) (c : Node Value) → tree i ≡ Some c → ((i ≡ 22) × (c ≡ node_of twig)) ⊎ ((i ≡ 23) × (c ≡ node_of leaf))
  each i c e = let (x, at, id, is) = found cells i c e in elim (cases twig x (leaf ∷ []) at) [
    | inl h ↦ inl (sym id ∙ ap (λ (z : CellSeen). z.id) h ∙ above.id_is, is ∙ ap node_of h)
    | inr h ↦ inr (sym id ∙ ap (λ (z : CellSeen). z.id) (only leaf x h) ∙ below.id_is, is ∙ ap node_of (only leaf x h))
  ]

  down_in : Contains (node_of twig).names down
  unfolding fresh_twig
  down_in = subst (λ (x : Node Value). Contains x.names down) (sym twig_is) (here down [])

  is_down : (n : Name) → Contains (node_of twig).names n → n ≡ down
  unfolding fresh_twig
  is_down n at = only down n (subst (λ (x : Node Value). Contains x.names n) twig_is at)

  named_down : (i : ℕ) (c : Node Value) (n : Name) → tree i ≡ Some c → Contains c.names n → n ≡ down
  named_down i c n e at = elim (each i c e) [
    | inl h ↦ is_down n (subst (λ (x : Node Value). Contains x.names n) h.1 at)
    | inr h ↦ absurd (none n (subst (λ (ns : List Name). Contains ns n) no_names (subst (λ (x : Node Value). Contains x.names n) h.1 at)))
  ]

  fits : Fits down (node_of leaf)
  unfolding down
  fits = record { level = leaf_level; lo = leaf_lo; hi = leaf_hi }

  named : (i : ℕ) (c d : Node Value) (n : Name) → tree i ≡ Some c → Contains c.names n → tree n.id ≡ Some d → Fits n d
  unfolding down
  named i c d n e at f =
      let is : n ≡ down = named_down i c n e at in
      let number : n.id ≡ 23 = ap (λ (x : Name). x.id) is in
      elim (each n.id d f) [
        | inl h ↦ let bad = h.0 in absurd (omega (arith, bad, number))
        | inr h ↦ subst (λ (x : Name). Fits x d) (sym is) (subst (λ (x : Node Value). Fits down x) (sym h.1) fits)
      ]

  reached : (i : ℕ) (c : Node Value) → tree i ≡ Some c → (i ≡ 22) ⊎ NamesId tree i
  unfolding down
  reached i c e = elim (each i c e) [
    | inl h ↦ inl h.0
    | inr h ↦ inr (down, (22, node_of twig, root_there, down_in), sym h.0)
  ]

  root_lo : (node_of twig).lo ≡ least
  root_lo = lo_is twig ∙ above.lo

  root_hi : (node_of twig).hi ≡ top
  root_hi = hi_is twig ∙ above.hi

  low_level : (i : ℕ) (c : Node Value) → tree i ≡ Some c → c.level ≤ 2
  low_level i c e = elim (each i c e) [
    | inl h ↦ let l = ap (λ (x : Node Value). x.level) h.1 in let m = level_is twig in let k = above.level_is in omega (arith, l, m, k)
    | inr h ↦ let l = ap (λ (x : Node Value). x.level) h.1 in let m = leaf_level in omega (arith, l, m)
  ]

  part : IsPart tree fresh_root
  part = record {
    nodes = λ i c e. elim (each i c e) [
      | inl h ↦ subst IsNode (sym h.1) twig_node
      | inr h ↦ subst IsNode (sym h.1) leaf_node
    ];
    root_node = node_of twig;
    root_is = root_there;
    root_level = level_is twig ∙ above.level_is;
    root_lo = root_lo;
    root_hi = root_hi;
    height = omega arith;
    none_above = low_level;
    named = named;
    reached = reached;
  }

  low : (i : ℕ) (c : Node Value) → tree i ≡ Some c → i < 2 ^ 63
  low i c e = elim (each i c e) [
    | inl h ↦ let at = h.0 in omega (arith, at)
    | inr h ↦ let at = h.0 in omega (arith, at)
  ]

  no_cell : (i : ℕ) → 2 ^ 63 ≤ i → tree i ≡ None
  no_cell i high = by_node (tree i) refl
    where
      by_node : (o : Option (Node Value)) → tree i ≡ o → o ≡ None
      by_node None e = refl
      by_node (Some c) e = let h = low i c e in absurd (omega (arith, h, high))

  no_name : (i : ℕ) → 2 ^ 63 ≤ i → NamesId tree i → ⊥
  unfolding down
  no_name i high (n, (j, c, e, at), id) =
      let number : n.id ≡ 23 = ap (λ (x : Name). x.id) (named_down j c n e at) in
      absurd (omega (arith, number, id, high))

  cells_in : (f : Fresh) → 2 ^ 63 ≤ f.next → AreCellsIn tree fresh_root f cells
  cells_in f placed = record {
    part = part;
    stand = stand;
    free = record { cells = λ i high end. no_cell i (omega (arith, high, placed)); names = λ i high end. no_name i (omega (arith, high, placed)) };
    root_number = (lit< tt, refl);
  }

  module _ (b : Option Body) (tails : spread_keys b ≡ None) (reads : Intervals) (e : Edits) (lawful : HaveLawfulKeys e) (room : HasRoomFor e leaf) where
    abbrev d : Demand Ask
    d = demand_of b e reads (changed e)

    leaf_asks_none : (l : ℕ) → ask d tree l (node_of leaf) ≡ None
    leaf_asks_none zero = refl
    leaf_asks_none (suc l) = ap (λ (ns : List Name). cell_asks b e (changed e) (node_of leaf) (heard (ask d tree l) tree ns)) no_names
        ∙ no_cell_ask b tails e (node_of leaf) leaf_level leaf_lo leaf_hi room

    twig_hears : (l : ℕ) → heard (ask d tree l) tree (down ∷ []) ≡ []
    unfolding down
    twig_hears l = ap (λ (o : Option (Node Value)). heard_one down (ask_of (ask d tree l) o) []) leaf_there ∙ ap (λ (o : Option Ask). heard_one down o []) (leaf_asks_none l)

    twig_asks_none : (l : ℕ) → ask d tree l (fresh_twig twig.block) ≡ None
    unfolding fresh_twig
    twig_asks_none zero = refl
    twig_asks_none (suc l) = ap (λ hs. cell_asks b e (changed e) (fresh_twig twig.block) hs) (twig_hears l)

    small : (l i : ℕ) → asked_of d tree l i ≤ 87
    small l i = by_node (tree i) refl
      where
        by_node : (o : Option (Node Value)) → tree i ≡ o → more_of (ask_of (ask d tree l) o) ≤ 87
        by_node None at = omega arith
        by_node (Some c) at = elim (each i c at) [
          | inl h ↦ let nothing = ap more_of (ap (ask d tree l) (h.1 ∙ twig_is) ∙ twig_asks_none l) in omega (arith, nothing)
          | inr h ↦ let nothing = ap more_of (ap (ask d tree l) h.1 ∙ leaf_asks_none l) in omega (arith, nothing)
        ]

    one_pointer : pieces_in (items_of twig.block) ≡ record { key = root_key; part = Pointer (record { 0 = number_at 8 0 (number_bytes 8 23) }) } ∷ []
    one_pointer = ap pieces_in pointer.items

    twig_still : (o : Option Body) → changes_pieces o e (fresh_twig twig.block) ≡ false
    unfolding fresh_twig
    twig_still None = refl
    twig_still (Some body) = rw one_pointer refl

    still : (i : ℕ) (c : Node Value) → tree i ≡ Some c → c.level ≡ 2 → changes_pieces b e c ≡ false
    still i c at two = elim (each i c at) [
      | inl h ↦ ap (changes_pieces b e) (h.1 ∙ twig_is) ∙ twig_still b
      | inr h ↦ let one = ap (λ (x : Node Value). x.level) h.1 ∙ leaf_level in absurd (omega (arith, two, one))
    ]

    of_tree : (i : ℕ) (c : Node Value) → tree i ≡ Some c → (x : CellSeen) × Contains cells x × (x.id ≡ i) × (c ≡ node_of x)
    of_tree i c at = let (x, in_cells, id, is) = found cells i c at in (x, in_cells, id, is)

    quiet : IsQuiet b e reads (changed e) tree fresh_root
    quiet = record {
      quiet = none_come b tails;
      seen = λ i c at. let (x, in_cells, id, is) = of_tree i c at in (x, is);
      still = still;
      small = small;
      low = λ x h. omega arith;
    }

    is_reached : IsReachedFor b e reads (changed e) tree fresh_root some_numbers cells
    is_reached = record {
      quiet = quiet;
      height = omega arith;
      cells_in = cells_in some_numbers (omega arith);
      written = λ i (c, at, h). let (x, in_cells, id, is) = of_tree i c at in (x, in_cells, id);
    }

    lie : (k : ℕ) → is_in (changed e) k ≡ true → LiesInLeaf cells k
    lie k on =
        let (from, to) = lawful k on in
        let lo = below.lo in
        let hi = below.hi in
        (leaf, in_leaf, below.level_is, (omega (arith, lo, from), omega (arith, hi, to)))

    own_bytes : leaf_bytes (units_after b e (node_of leaf)) ≡ leaf_bytes (units_after None e (node_of leaf))
    own_bytes = ap (λ (x : Edits). leaf_bytes (filter (λ (u : LeafUnit). is_between (node_of leaf).lo (node_of leaf).hi u.0)
        (list_edited x (node_of leaf).units))) (own_edits b e tails)

    small_leaf : (c : CellSeen) → Contains cells c → c.level ≡ 1 → leaf_bytes (units_after b e (node_of c)) < 58912
    small_leaf c at level = elim (cases twig c (leaf ∷ []) at) [
      | inl h ↦ let two = ap (λ (z : CellSeen). z.level) h in let l = above.level_is in absurd (omega (arith, two, level, l))
      | inr h ↦ subst (λ (z : CellSeen). leaf_bytes (units_after b e (node_of z)) < 58912) (sym (only leaf c h))
          (let r = room in let same = own_bytes in omega (arith, r, same))
    ]

    can_build_two : CanBuild b e reads tree fresh_root some_numbers cells
    can_build_two = record {
      reached = is_reached;
      tails = tails;
      names = have_names cells distinct;
      lie = lie;
      small = λ c at level met. small_leaf c at level;
      unplaced = (lit< tt, lit< tt);
      numbers = lit< tt;
    }

    no_more : (c : CellSeen) → Contains cells c → more_of (ask d tree c.level (node_of c)) ≡ 0
    no_more c at = elim (cases twig c (leaf ∷ []) at) [
      | inl h ↦ ap (λ (z : CellSeen). more_of (ask d tree z.level (node_of z))) h
          ∙ ap (λ (z : Node Value). more_of (ask d tree twig.level z)) twig_is ∙ ap more_of (twig_asks_none twig.level)
      | inr h ↦ ap (λ (z : CellSeen). more_of (ask d tree z.level (node_of z))) (only leaf c h)
          ∙ ap more_of (leaf_asks_none leaf.level)
    ]

    -- no more new cells come than the two
    few : most_new b e reads tree fresh_root cells ≤ 3
    few =
        let one = no_more twig in_twig in
        let two = no_more leaf in_leaf in
        let rise = rise_one (ask_of (ask d tree 2) (tree 22)) in
        omega (arith, one, two, rise)

    pub buildable_two : (c : Command) (s : Pairs) → b ≡ body_on c s false → e ≡ edits_on c s → reads ≡ reads_on c s false
        → IsBuildable c s small_scope tree fresh_root some_numbers cells
    buildable_two c s is same asked = record {
      root = refl;
      height = omega arith;
      seen = quiet.seen;
      cells_in = is_reached.cells_in;
      names = have_names cells distinct;
      unplaced = (lit< tt, lit< tt);
      numbers = lit< tt;
      leaves = λ leaves. subst (λ (o : Option Body). CanBuild o (edits_on c s) (reads_on c s false) tree fresh_root some_numbers cells) is
          (subst (λ (x : Edits). CanBuild b x (reads_on c s false) tree fresh_root some_numbers cells) same
          (subst (λ (rs : Intervals). CanBuild b e rs tree fresh_root some_numbers cells) asked can_build_two));
      few = λ leaves. subst (λ (o : Option Body). most_new o (edits_on c s) (reads_on c s false) tree fresh_root cells ≤ 3) is
          (subst (λ (x : Edits). most_new b x (reads_on c s false) tree fresh_root cells ≤ 3) same
          (subst (λ (rs : Intervals). most_new b e rs tree fresh_root cells ≤ 3) asked few));
    }

-- the command may be built in a small volume
pub buildable : (c : Command) (s : Pairs) (cells : List CellSeen) → (small : IsSmall cells) → spread_keys (body_on c s false) ≡ None
    → AreLawful (edits_on c s) → HasRoomFor (edits_on c s) small.leaf
    → IsBuildable c s small_scope (by_name cells) fresh_root some_numbers cells
buildable c s cells small tails lawful room =
    subst (λ (cs : List CellSeen). IsBuildable c s small_scope (by_name cs) fresh_root some_numbers cs) (sym small.are)
    (buildable_two small.twig small.leaf small.above small.below small.pointer small.whole small.stands
    (body_on c s false) tails (reads_on c s false) (edits_on c s) lawful.keys room c s refl refl refl)

-- the cells of a small volume are a part's
pub small_cells : (cells : List CellSeen) → IsSmall cells → (f : Fresh) → 2 ^ 63 ≤ f.next → AreCellsIn (by_name cells) fresh_root f cells
small_cells cells small f placed =
    subst (λ (cs : List CellSeen). AreCellsIn (by_name cs) fresh_root f cs) (sym small.are)
    (cells_in small.twig small.leaf small.above small.below small.pointer small.whole small.stands f placed)
