-- Twigs that are packed anew one after the other: each has its condition at its turn.
use Rattle.std.proofs.Common.{◌≡◌, ◌≢◌, ◌⊎◌, inl, inr, ℕ, zero, suc, ◌+◌, ◌-◌, ◌^◌, ◌<◌, ◌≤◌, List, [], ◌∷◌, ◌++◌, drop, length, map, refl, ap, sym, subst, ◌∙◌, arith}
use Rattle.std.specs.Prelude.{Contains, Option, None, Some}
use Rattle.std.proofs.lemmas.List.{length-append}
use Rattle.std.proofs.lemmas.List.Sums.{sum_by-cons}
use Rattle.std.proofs.lemmas.List.Elements.{Contains-append_cases, Contains-append_left, Contains-append_right}
use Rattle.std.proofs.lemmas.Option.{none-some, same_Some}
use Rattle.r4_base.specs.Key.{rank}
use Rattle.r4_base.specs.Tree.{Name, Node, Root, Store}
use Rattle.r4_base.specs.Value.{Value}
use Rattle.r4_base.proofs.Trees.{one_cell}
use Rattle.r4_twig_work.specs.r4_branch.Pieces.{AreTwigPieces, names_of}
use Rattle.r4_twig_work.specs.r4_branch.declared.piece.TwigPiece.{TwigPiece}
use Rattle.r4_twig_work.specs.r4_cell.Patch.{by_name, over, place}
use Rattle.r4_twig_work.specs.r4_cell.Seen.{CellSeen, node_of}
use Rattle.r4_twig_work.specs.r4_cell.declared.change.Fresh.{Fresh}
use Rattle.r4_twig_work.specs.r4_cell.declared.change.Root.{Root as RootPair}
use Rattle.r4_twig_work.specs.r4_measure.Budget.{Budget, most_from}
use Rattle.r4_twig_work.specs.r4_measure.Grafting.{Beside, IsQuietBelow, comes_below}
use Rattle.r4_twig_work.specs.r4_measure.Measured.{IsMeasured}
use Rattle.r4_twig_work.proofs.r4_measure.Loop.{from_new, of_id}
use Rattle.r4_twig_work.proofs.r4_measure.Placed.{cells_are, still_in}
use Rattle.r4_twig_work.proofs.r4_measure.Kept.{not_named}
use Rattle.r4_twig_work.proofs.r4_measure.Suffices.{finds}
use Rattle.r4_twig_work.proofs.r4_measure.TwigTurn.{twig_enough}
use Rattle.r4_twig_work.specs.r4_patch.Joining.{ids_of, patch_of_change}
use Rattle.r4_twig_work.specs.r4_patch.Part.{IsPart}
use Rattle.r4_twig_work.proofs.r4_patch.Members.{absent, cases, here, later, none}
use Rattle.r4_twig_work.proofs.r4_patch.PartCells.{apart, level_above, named_once, one_above}
use Rattle.r4_twig_work.specs.r4_path.Grafts.{IsGraftBelow, IsGraftBelowUp, extra_twigs}
use Rattle.r4_twig_work.specs.r4_path.Steps.{Ascends, IsFree, Step, fresh_ids, name_of, news, olds, root_pair}
use Rattle.r4_twig_work.specs.r4_path.Nodes.{IsPointable}
use Rattle.r4_twig_work.proofs.r4_path.Begun.{ascends_take}
use Rattle.r4_twig_work.proofs.r4_path.Counted.{count_once}
use Rattle.r4_twig_work.proofs.r4_path.Rising.{InCell, count_within, hi_is, id_member, in_node, level_is, lo_is}
use Rattle.r4_twig_work.specs.Regrafting.{IsRegraftable}
use Rattle.r4_twig_work.specs.r4_work.Order.{cell_at}
use Rattle.r4_twig_work.specs.r4_work.Working.{IsWorking, first_and, now_of, root_of, standing, twig_path_of, ups_of}
use Rattle.r4_twig_work.specs.r4_work.declared.working.WorkingSet.{WorkingSet}
use Rattle.r4_twig_work.proofs.r4_work.InPlace.{now_part, now_working, standing_is}
use Rattle.r4_twig_work.proofs.r4_work.Paths.{ascends_from, found_is, lowest_from}
use Rattle.r4_twig_turns.specs.Turning.{AreReady, CanRegraftAll, IsReady, IsTurnOf, IsTurned, IsTwigAt, TurnAtMost, TwigTurn, behind, come_at_most, numbers_for, own_of}
use Rattle.r4_twig_turns.proofs.KeptTurn.{kept, stood}
use Rattle.r4_twig_turns.proofs.Left.{long_sum}

first_long : (o : Option CellSeen) (rest : List CellSeen) → length (first_and o rest) ≤ 1 + length rest
first_long None rest = omega arith
first_long (Some c) rest = omega arith

ups_long : (n : ℕ) (cells : List CellSeen) (level k : ℕ) → length (ups_of n cells level k) ≤ n
unfolding ups_of
ups_long zero cells level k = omega arith
ups_long (suc n) cells level k = let h = ups_long n cells (level + 1) k in let g = first_long (cell_at cells level k) (ups_of n cells (level + 1) k) in omega (arith, h, g)

path_is : (cells : List CellSeen) (k : ℕ) (q : CellSeen) → cell_at cells 2 k ≡ Some q → ups_of 7 cells 2 k ≡ q ∷ ups_of 6 cells 3 k
unfolding ups_of
path_is cells k q e = ap (λ o. first_and o (ups_of 6 cells 3 k)) e

long_names : (ns : List Name) → length (map (λ (n : Name). n.id) ns) ≡ length ns
long_names [] = refl
long_names (n ∷ ns) = let h = long_names ns in omega (arith, h)

name_member : (ns : List Name) (n : Name) → Contains ns n → Contains (map (λ (m : Name). m.id) ns) n.id
name_member [] n at = absurd (none n at)
name_member (m ∷ ns) n at = elim (cases m n ns at) [
  | inl is ↦ subst (λ (x : Name). Contains (m.id ∷ map (λ (y : Name). y.id) ns) x.id) (sym is) (here m.id (map (λ (y : Name). y.id) ns))
  | inr more ↦ later m.id n.id (map (λ (y : Name). y.id) ns) (name_member ns n more)
]

cell_member : (cells : List CellSeen) (c : CellSeen) → Contains cells c → Contains (map name_of cells) (name_of c)
cell_member [] c at = absurd (none c at)
cell_member (d ∷ ds) c at = elim (cases d c ds at) [
  | inl is ↦ subst (λ (x : CellSeen). Contains (name_of d ∷ map name_of ds) (name_of x)) (sym is) (here (name_of d) (map name_of ds))
  | inr more ↦ later (name_of d) (name_of c) (map name_of ds) (cell_member ds c more)
]

ids_append : (xs ys : List CellSeen) → ids_of (xs ++ ys) ≡ ids_of xs ++ ids_of ys
ids_append [] ys = refl
ids_append (x ∷ xs) ys = ap (λ is. x.id ∷ is) (ids_append xs ys)

split_ids : (xs ys : List CellSeen) (i : ℕ) → Contains (ids_of (xs ++ ys)) i → Contains (ids_of xs) i ⊎ Contains (ids_of ys) i
split_ids xs ys i m = Contains-append_cases (ids_of xs) (ids_of ys) i (subst (λ is. Contains is i) (ids_append xs ys) m)

-- cells above one of a level
above : (s : Store Value) (root : Root) → IsPart s root → (b : CellSeen) (cells : List CellSeen) → 1 ≤ b.level → Ascends s (Some b) cells → (y : CellSeen) → Contains cells y → (b.level < y.level) × (s y.id ≡ Some (node_of y))
above s root part b [] low path y at = absurd (none y at)
above s root part b (c ∷ cells) low (sc, one, named, rest) y at =
    let up = one_above (node_of c) (name_of b) (part.nodes c.id (node_of c) sc) named low in
    let l = level_is c in
    elim (cases c y cells at) [
      | inl is ↦ subst (λ (z : CellSeen). (b.level < z.level) × (s z.id ≡ Some (node_of z))) (sym is) (omega (arith, up, l), sc)
      | inr more ↦ let h = above s root part c cells (omega (arith, up, l)) rest y more in (let k = h.0 in omega (arith, k, up, l), h.1)
    ]

module _ (t : Store Value) (r : Root) (f : Fresh) (w : WorkingSet) (b : Budget) (is : IsMeasured t r f w b) (quiet : IsQuietBelow b) (e : TwigTurn) (i : ℕ) (ready : IsReady t w b e i) (unplaced : 2 ^ 63 ≤ f.next) (high : f.end < 2 ^ 64)
    (numbers : f.next + (e.blocks + (e.leaves + 64)) ≤ f.end) where
  abbrev s : Store Value
  s = now_of w t

  abbrev root : Root
  root = root_of w r

  part : IsPart s root
  part = now_part t r f w is.working

  abbrev pub qs : List TwigPiece
  qs = e.pieces f.next

  abbrev pub x : Beside
  x = e.beside f.next

  turn : IsTurnOf ready.node e f.next
  turn = ready.turn f.next unplaced (omega (arith, numbers, high))

  -- ---- the numbers of the turn

  own_free : IsFree (f.next + (e.blocks + e.leaves)) (f.next + (e.blocks + (e.leaves + 64))) s
  own_free = record { cells = λ j low less. is.working.free.cells j (omega (arith, low)) (omega (arith, less, numbers)); names = λ j low less. is.working.free.names j (omega (arith, low)) (omega (arith, less, numbers)) }

  own_working : IsWorking t r (own_of e f) w
  own_working = record {
    part = is.working.part;
    change = is.working.change;
    meets = is.working.meets;
    made = is.working.made;
    kept = is.working.kept;
    free = own_free;
    root_number = is.working.root_number;
  }

  own_measured : IsMeasured t r (own_of e f) w b
  own_measured = record { working = own_working; seen = is.seen; budget = is.budget; height = is.height; kept = is.kept }

  -- ---- the twig

  y : CellSeen
  y = ready.stands.0

  y_at : s i ≡ Some (node_of y)
  unfolding y
  y_at = subst (λ j. s j ≡ Some (node_of ready.stands.0)) ready.stands.2 (standing_is t r f w is.working ready.stands.0 ready.stands.1)

  y_node : node_of y ≡ ready.node
  y_node = one_cell s i (node_of y) ready.node y_at ready.at

  y_level : y.level ≡ 2
  y_level = sym (level_is y) ∙ (ap (λ (c : Node Value). c.level) y_node ∙ ready.level)

  y_range : InCell y e.key
  y_range =
      let lo = lo_is y in
      let hi = hi_is y in
      let a = ap (λ (c : Node Value). c.lo) y_node in
      let z = ap (λ (c : Node Value). c.hi) y_node in
      let k = ready.key in
      (omega (arith, lo, a, k), omega (arith, hi, z, k))

  is_found : (q : CellSeen) × (cell_at (standing w) 2 e.key ≡ Some q)
  unfolding y
  is_found = finds (standing w) 2 e.key ready.stands.0 ready.stands.1 y_level y_range

  -- a cell of level 2 that stands and has the key is the twig
  the_twig : (q : CellSeen) → s q.id ≡ Some (node_of q) → q.level ≡ 2 → InCell q e.key → (q.id ≡ i) × (node_of q ≡ ready.node)
  the_twig q sq ql at =
      let a = level_is q in
      let c = level_is y in
      let yl = y_level in
      let same : q.id ≡ i = apart s root part q.id i (node_of q) (node_of y) e.key sq y_at (omega (arith, a, c, ql, yl)) (omega (arith, a, ql)) (in_node q e.key at) (in_node y e.key y_range) in
      (same, one_cell s i (node_of q) ready.node (subst (λ j. s j ≡ Some (node_of q)) same sq) ready.at)

  few_bytes : extra_twigs qs ≤ 12
  few_bytes = let n = turn.bytes in omega (arith, n)

  -- ---- its condition

  module _ (q : CellSeen) (q_found : cell_at (standing w) 2 e.key ≡ Some q) where
    q_path : twig_path_of w e.key ≡ q ∷ ups_of 6 (standing w) 3 e.key
    q_path = path_is (standing w) e.key q q_found

    q_is : (q.id ≡ i) × (node_of q ≡ ready.node)
    q_is = let at = found_is (standing w) 2 e.key q q_found in the_twig q (standing_is t r f w is.working q at.among) at.level_is at.range

    q_lo : ready.node.lo ≡ rank q.lo
    q_lo = sym (ap (λ (c : Node Value). c.lo) q_is.1) ∙ lo_is q

    q_hi : ready.node.hi ≡ rank q.hi
    q_hi = sym (ap (λ (c : Node Value). c.hi) q_is.1) ∙ hi_is q

    q_names : ready.node.names ≡ (node_of q).names
    q_names = sym (ap (λ (c : Node Value). c.names) q_is.1)

    q_come : extra_twigs qs ≤ b 2 q.id
    q_come = subst (λ j. extra_twigs qs ≤ b 2 j) (sym q_is.0) (ready.come f.next)

    q_ascends : Ascends s None (q ∷ ups_of 6 (standing w) 3 e.key)
    q_ascends = subst (Ascends s None) q_path (ascends_from s root part (standing w) (standing_is t r f w is.working) e.key 7 2 (omega arith))

    below_it : IsGraftBelow s root qs x.below x.blocks (f.next + e.blocks) (own_of e f) q (ups_of 6 (standing w) 3 e.key)
    below_it = record {
      data_names = turn.data_names;
      grafted = record {
        path = record { part = part; ascends = q_ascends; free = own_free; root_number = is.working.root_number };
        level = (found_is (standing w) 2 e.key q q_found).level_is;
        pieces = subst (λ k. AreTwigPieces k (rank q.hi) qs) q_lo (subst (λ k. AreTwigPieces ready.node.lo k qs) q_hi turn.pieces);
        bytes = turn.bytes;
        enough = twig_enough t r (own_of e f) w b own_measured e.key q (ups_of 6 (standing w) 3 e.key) q_path qs q_come;
        numbers = let l = ups_long 6 (standing w) 3 e.key in let n = few_bytes in omega (arith, l, n);
      };
      of = record {
        goes = λ c m. subst (λ ns. Contains ns (name_of c)) q_names (turn.goes c m);
        gone = λ c m. standing_is t r f w is.working c (ready.goes f.next c m);
        names = λ n. let h = turn.names n in (
          λ m. elim (h.0 (subst (λ k. Contains (names_of k qs) n) (sym q_hi) m)) [ inl old ↦ inl (subst (λ ns. Contains ns n) q_names old.0, old.1) | inr new ↦ inr new ],
          λ m. subst (λ k. Contains (names_of k qs) n) q_hi (h.1 (elim m [ inl old ↦ inl (subst (λ ns. Contains ns n) (sym q_names) old.0, old.1) | inr new ↦ inr new ])),
        );
        nodes = turn.nodes;
        blocks = turn.of_data;
      };
      blocks_are = turn.blocks;
      counted = record {
        mine = turn.mine;
        old = turn.old;
        new = turn.new;
        each = turn.each;
        counts = turn.leaf_numbers;
        ends = let n = turn.leaf_count in omega (arith, n);
        free = record { cells = λ j low less. is.working.free.cells j (omega (arith, low)) (omega (arith, less, numbers)); names = λ j low less. is.working.free.names j (omega (arith, low)) (omega (arith, less, numbers)) };
        blocks = λ n m.
            let at = block_number n m in
            ((is.working.free.cells n.id (omega (arith, at)) (omega (arith, at, numbers)), is.working.free.names n.id (omega (arith, at)) (omega (arith, at, numbers))), inl (omega (arith, at)));
        once = count_once f.next (map (λ (n : Name). n.id) turn.data_names) turn.block_numbers;
      };
    }
      where
        block_number : (n : Name) → Contains turn.data_names n → (f.next ≤ n.id) × (n.id < f.next + e.blocks)
        block_number n m =
            let c = count_within f.next (map (λ (k : Name). k.id) turn.data_names) n.id turn.block_numbers (name_member turn.data_names n m) in
            let l = long_names turn.data_names in
            let k = turn.block_count in
            (omega (arith, c), omega (arith, c, l, k))

  block_id : (c : CellSeen) → Contains x.blocks c → (f.next ≤ c.id) × (c.id < f.next + e.blocks)
  block_id c m =
      let named = subst (λ ns. Contains ns (name_of c)) turn.blocks.names (cell_member x.blocks c m) in
      let k = count_within f.next (map (λ (n : Name). n.id) turn.data_names) c.id turn.block_numbers (name_member turn.data_names (name_of c) named) in
      let l = long_names turn.data_names in
      let n = turn.block_count in
      (omega (arith, k), omega (arith, k, l, n))

  leaf_id : (c : CellSeen) → Contains x.below.new c → Contains (ids_of x.below.old) c.id ⊎ ((f.next + e.blocks ≤ c.id) × (c.id < f.next + (e.blocks + e.leaves)))
  leaf_id c m = elim (turn.each c m) [
    | inl old ↦ inl old
    | inr mine ↦
        let k = count_within (f.next + e.blocks) turn.mine c.id turn.leaf_numbers mine in
        let n = turn.leaf_count in
        inr (omega (arith, k), omega (arith, k, n))
  ]

  pub can_turn : IsRegraftable t r (own_of e f) w e.key qs x (f.next + e.blocks)
  can_turn =
      let (q, q_found) = is_found in
      record {
        working = own_working;
        graft = subst (IsGraftBelowUp s root qs x.below x.blocks (f.next + e.blocks) (own_of e f)) (sym (q_path q q_found)) (below_it q q_found);
        goes = ready.goes f.next;
        low = turn.low;
        taken = λ c m. elim (Contains-append_cases x.below.new x.blocks c m) [
          | inl leaf ↦ elim (leaf_id c leaf) [ inl old ↦ inl old | inr at ↦ inr at.1 ]
          | inr block ↦ let n = block_id c block in inr (omega (arith, n))
        ];
      }

  pub stands_there : IsTwigAt w e
  stands_there q ups path = let at = lowest_from 6 (standing w) 2 e.key q ups path in (the_twig q (standing_is t r f w is.working q at.among) at.level_is at.range).1 ∙ ready.node_is

  -- ---- what it leaves

  module _ (after : Fresh) (v : WorkingSet) (made : IsTurned t r e f after w v) where
    pub at_twig : (made.twig.id ≡ i) × (node_of made.twig ≡ ready.node)
    at_twig = let at = lowest_from 6 (standing w) 2 e.key made.twig made.ups made.path in the_twig made.twig (standing_is t r f w is.working made.twig at.among) at.level_is at.range

    fits : extra_twigs qs ≤ b 2 made.twig.id
    fits = subst (λ j. extra_twigs qs ≤ b 2 j) (sym at_twig.0) (ready.come f.next)

    abbrev steps : List Step
    steps = made.grafts.grafts.lowest ∷ made.grafts.grafts.more

    abbrev upper : List CellSeen
    upper = olds made.grafts.grafts.more

    abbrev pub ours : List CellSeen
    ours = made.grafts.grafts.lowest.new ++ news made.grafts.grafts.more made.grafts.grafts.over

    old_are : made.edit.old ≡ x.below.old ++ (made.twig ∷ upper)
    old_are = ap (λ c. c.old) made.grafts.is ∙ (made.grafts.below_is.old_is
        ∙ ap (λ cells. x.below.old ++ cells) (made.grafts.grafts.levels.old ∙ ap (λ (c : CellSeen). c ∷ upper) made.grafts.grafts.level.row.old))

    pub new_are : made.edit.new ≡ (x.below.new ++ ours) ++ x.blocks
    new_are = ap (λ c. c.new) made.grafts.is
        ∙ ap (λ cells. cells ++ x.blocks) (made.grafts.below_is.new_is ∙ ap (λ cells. x.below.new ++ cells) made.grafts.grafts.levels.new)

    twig_at : s made.twig.id ≡ Some (node_of made.twig)
    twig_at = let at = lowest_from 6 (standing w) 2 e.key made.twig made.ups made.path in standing_is t r f w is.working made.twig at.among

    twig_level : made.twig.level ≡ 2
    twig_level = made.grafts.level

    upper_path : Ascends s (Some made.twig) upper
    upper_path =
        let path : Ascends s None (made.twig ∷ made.ups) = subst (Ascends s None) made.path (ascends_from s root part (standing w) (standing_is t r f w is.working) e.key 7 2 (omega arith)) in
        subst (λ cells. Ascends s (Some made.twig) cells) (sym made.grafts.grafts.ups_are) (ascends_take s (Some made.twig) (length made.grafts.grafts.more) made.ups path.3)

    -- a cell that goes is one below the twig, the twig, or one above it
    abbrev pub IsOldAt : CellSeen → Type 0
    IsOldAt c = Contains x.below.old c ⊎ ((c ≡ made.twig) ⊎ (2 < c.level))

    pub old_at : (c : CellSeen) → Contains made.edit.old c → (s c.id ≡ Some (node_of c)) × IsOldAt c
    old_at c m = elim (Contains-append_cases x.below.old (made.twig ∷ upper) c (subst (λ cs. Contains cs c) old_are m)) [
      | inl goes ↦ (standing_is t r f w is.working c (ready.goes f.next c goes), inl goes)
      | inr more ↦ elim (cases made.twig c upper more) [
        | inl same ↦ (subst (λ (z : CellSeen). s z.id ≡ Some (node_of z)) (sym same) twig_at, inr (inl same))
        | inr up ↦
            let l = twig_level in
            let h = above s root part made.twig upper (omega (arith, l)) upper_path c up in
            (h.1, inr (inr (let k = h.0 in omega (arith, k, l))))
      ]
    ]

    -- a cell of another twig, or below one, is none of them
    not_old : (j : ℕ) (c : Node Value) → s j ≡ Some c → c.level ≤ 2 → j ≢ i
        → ((n : Name) → Contains ready.node.names n → n.id ≡ j → ⊥) → (d : CellSeen) → Contains made.edit.old d → d.id ≢ j
    not_old j c at low ne other d m same =
        let h = old_at d m in
        elim h.1 [
          | inl goes ↦ other (name_of d) (ready.named f.next d goes) same
          | inr rest ↦ elim rest [
            | inl is_twig ↦ ne (sym same ∙ (ap (λ (z : CellSeen). z.id) is_twig ∙ at_twig.0))
            | inr up ↦
                let one : node_of d ≡ c = one_cell s j (node_of d) c (subst (λ k. s k ≡ Some (node_of d)) same h.0) at in
                let l = level_is d in
                let k = ap (λ (z : Node Value). z.level) one in
                omega (arith, up, l, k, low)
          ]
        ]

    -- the twig names no twig
    no_twig : (j : ℕ) (c : Node Value) → s j ≡ Some c → c.level ≡ 2 → (n : Name) → Contains ready.node.names n → n.id ≡ j → ⊥
    no_twig j c at level n named same =
        let up = level_above ready.node n (part.nodes i ready.node ready.at) named in
        let fit = part.named i ready.node c n ready.at named (subst (λ k. s k ≡ Some c) (sym same) at) in
        let l = fit.level in
        let k = ready.level in
        omega (arith, up, l, k, level)

    -- ---- the numbers of new cells

    own_fresh : (j : ℕ) → Contains (fresh_ids steps made.grafts.grafts.over) j → (f.next ≤ j) × (j < f.next + (e.blocks + (e.leaves + 64)))
    own_fresh j m =
        let c = count_within made.grafts.mid.next (fresh_ids steps made.grafts.grafts.over) j made.grafts.grafts.counts m in
        let n = ap (λ (z : Fresh). z.next) made.grafts.grafts.number in
        let took = made.grafts.took in
        let takes = made.grafts.takes in
        (omega (arith, c, took), omega (arith, c, n, takes))

    abbrev pub IsOldOrOwn : ℕ → Type 0
    IsOldOrOwn j = Contains (ids_of made.edit.old) j ⊎ ((f.next ≤ j) × (j < f.next + (e.blocks + (e.leaves + 64))))

    old_id : (j : ℕ) → Contains (ids_of (x.below.old ++ (made.twig ∷ upper))) j → Contains (ids_of made.edit.old) j
    old_id j m = subst (λ cs. Contains (ids_of cs) j) (sym old_are) m

    in_right : (xs ys : List CellSeen) (j : ℕ) → Contains (ids_of ys) j → Contains (ids_of (xs ++ ys)) j
    in_right xs ys j m = subst (λ is. Contains is j) (sym (ids_append xs ys)) (Contains-append_right (ids_of xs) (ids_of ys) j m)

    in_left : (xs ys : List CellSeen) (j : ℕ) → Contains (ids_of xs) j → Contains (ids_of (xs ++ ys)) j
    in_left xs ys j m = subst (λ is. Contains is j) (sym (ids_append xs ys)) (Contains-append_left (ids_of xs) (ids_of ys) j m)

    pub new_id : (j : ℕ) → Contains (ids_of made.edit.new) j → IsOldOrOwn j
    new_id j m = elim (split_ids (x.below.new ++ ours) x.blocks j (subst (λ cs. Contains (ids_of cs) j) new_are m)) [
      | inr block ↦
          let (c, at, same) = of_id x.blocks j block in
          let n = block_id c at in
          inr (omega (arith, n, same), omega (arith, n, same))
      | inl front ↦ elim (split_ids x.below.new ours j front) [
        | inl leaf ↦
            let (c, at, same) = of_id x.below.new j leaf in
            elim (leaf_id c at) [
              | inl old ↦ inl (old_id j (in_left x.below.old (made.twig ∷ upper) j (subst (λ k. Contains (ids_of x.below.old) k) same old)))
              | inr n ↦ inr (omega (arith, n, same), omega (arith, n, same))
            ]
        | inr node ↦ elim (split_ids made.grafts.grafts.lowest.new (news made.grafts.grafts.more made.grafts.grafts.over) j node) [
          | inl low ↦ elim (cases made.twig.id j (ids_of (drop 1 made.grafts.grafts.lowest.new)) (subst (λ is. Contains is j) made.grafts.grafts.level.row.first low)) [
            | inl same ↦ inl (old_id j (in_right x.below.old (made.twig ∷ upper) j (subst (λ k. Contains (made.twig.id ∷ ids_of upper) k) (sym same) (here made.twig.id (ids_of upper)))))
            | inr more ↦ inr (own_fresh j (Contains-append_left (ids_of (drop 1 made.grafts.grafts.lowest.new)) (fresh_ids made.grafts.grafts.more made.grafts.grafts.over) j more))
          ]
          | inr high_up ↦ elim (from_new (Some made.grafts.grafts.lowest) made.grafts.grafts.more made.grafts.grafts.over j made.grafts.grafts.climbs high_up) [
            | inl old ↦ inl (old_id j (in_right x.below.old (made.twig ∷ upper) j (later made.twig.id j (ids_of upper) old)))
            | inr own ↦ inr (own_fresh j (Contains-append_right (ids_of (drop 1 made.grafts.grafts.lowest.new)) (fresh_ids made.grafts.grafts.more made.grafts.grafts.over) j own))
          ]
        ]
      ]
    ]

    -- ---- the set with all numbers that are left

    pub next_working : IsWorking t r (behind e f) v
    next_working = now_working t r w v f (behind e f) made.edit is.working (record {
      change = made.change;
      meets = made.meets;
      names = λ c m gone. elim (new_id c.id (id_member made.edit.new c m)) [
        | inl old ↦ absurd (not_named made.edit.old c.id gone old)
        | inr own ↦ own.1
      ];
      takes = (omega arith, omega (arith, numbers), refl);
      root = λ pair is_pair. root_named pair (sym (ap (λ c. c.root) made.grafts.is ∙ (made.grafts.below_is.root_is ∙ made.grafts.grafts.levels.pair)) ∙ is_pair);
    }) made.put
      where
        by_over : (o : Option CellSeen) (pair : RootPair) → root_pair o ≡ Some pair → (d : CellSeen) × (o ≡ Some d) × (d.id ≡ pair.id.0)
        by_over None pair same = absurd (none-some pair same)
        by_over (Some d) pair same = (d, refl, ap (λ (z : RootPair). z.id.0) (same_Some (record { id = record { 0 = d.id }; height = d.level }) pair same))

        root_named : (pair : RootPair) → root_pair made.grafts.grafts.over ≡ Some pair → IsPointable pair.id.0
        root_named pair same = let (d, is_over, id) = by_over made.grafts.grafts.over pair same in subst IsPointable id (made.grafts.grafts.root_able d is_over)

    pub next_measure : (c2 : Budget) × IsMeasured t r (behind e f) v c2 × IsQuietBelow c2 × ((k j : ℕ) → (Contains (ids_of made.edit.new) j → ⊥) → c2 k j ≡ b k j)
        × (most_from c2 (root_of v r) (standing v) ≤ most_from b (root_of w r) (standing w) + (length (comes_below x) - length x.below.old))
    next_measure =
        let (c2, m, quiet2, same, few) = kept t r (own_of e f) after w v b own_measured quiet e.key qs x made fits (omega (arith, unplaced)) (omega (arith, numbers, high)) in
        (c2, record { working = next_working; seen = m.seen; budget = m.budget; height = m.height; kept = m.kept }, quiet2, same, few)

    pub few_come : length (comes_below x) ≤ e.blocks + (length x.below.new)
    few_come =
        let a = length-append x.below.new x.blocks in
        let n = long_cells x.blocks in
        let m = ap length turn.blocks.names in
        let k = turn.block_count in
        omega (arith, a, n, m, k)
      where
        long_cells : (cells : List CellSeen) → length (map name_of cells) ≡ length cells
        long_cells [] = refl
        long_cells (c ∷ cs) = let h = long_cells cs in omega (arith, h)

    -- the cells that go stand
    pub olds_stand : (z : CellSeen) → Contains made.edit.old z → Contains (standing w) z
    olds_stand = stood t r (own_of e f) after w v b own_measured quiet e.key qs x made fits (omega (arith, unplaced)) (omega (arith, numbers, high))

    -- ---- another twig

    pub still_ready : (c2 : Budget) → ((k j : ℕ) → (Contains (ids_of made.edit.new) j → ⊥) → c2 k j ≡ b k j) → (e2 : TwigTurn) (j : ℕ) → j ≢ i → IsReady t w b e2 j → IsReady t v c2 e2 j
    still_ready c2 same e2 j ne ready2 =
        let out : (d : CellSeen) → Contains made.edit.old d → d.id ≢ j = not_old j ready2.node ready2.at (let l = ready2.level in omega (arith, l)) ne (no_twig j ready2.node ready2.at ready2.level) in
        let old_none : by_name made.edit.old j ≡ None = absent made.edit.old j out in
        let new_out : Contains (ids_of made.edit.new) j → ⊥ = λ m. elim (new_id j m) [
          | inl old ↦ let (d, at, id) = of_id made.edit.old j old in out d at id
          | inr own ↦ none-some ready2.node (sym (is.working.free.cells j own.0 (omega (arith, own, numbers))) ∙ ready2.at)
        ] in
        let new_none : by_name made.edit.new j ≡ None = absent made.edit.new j (λ z m id. new_out (subst (λ n. Contains (ids_of made.edit.new) n) id (id_member made.edit.new z m))) in
        let was : place (patch_of_change made.edit) s j ≡ Some ready2.node = ap (λ o. over o (by_name made.edit.old j) (s j)) new_none ∙ (ap (λ o. over None o (s j)) old_none ∙ ready2.at) in
        let same_cells = cells_are t r f w b is v (behind e f) made.edit made.change made.meets olds_stand made.put next_working in
        let (q, mq, id) = ready2.stands in
        record {
          node = ready2.node;
          node_is = ready2.node_is;
          at = ap (λ (u : Store Value). u j) same_cells ∙ was;
          stands = (q, still_in t r f w b is v (behind e f) made.edit made.change made.meets olds_stand made.put next_working j q id old_none mq, id);
          level = ready2.level;
          key = ready2.key;
          turn = ready2.turn;
          goes = λ n z m.
              let zs = standing_is t r f w is.working z (ready2.goes n z m) in
              let low = level_above ready2.node (name_of z) (part.nodes j ready2.node ready2.at) (ready2.named n z m) in
              let l = level_is z in
              let k = ready2.level in
              still_in t r f w b is v (behind e f) made.edit made.change made.meets olds_stand made.put next_working z.id z refl
              (absent made.edit.old z.id (not_old z.id (node_of z) zs (omega (arith, low, l, k)) (not_the_twig z zs (omega (arith, low, l, k)))
              (λ m2 named2 id2. ne (sym (named_once s root part i j z.id ready.node ready2.node (node_of z) m2 (name_of z) ready.at ready2.at named2 (ready2.named n z m) zs id2 refl).0)))) (ready2.goes n z m);
          named = ready2.named;
          come = λ n. subst (λ k. extra_twigs (e2.pieces n) ≤ k) (sym (same 2 j new_out)) (ready2.come n);
        }
      where
        not_the_twig : (z : CellSeen) → s z.id ≡ Some (node_of z) → (node_of z).level < 2 → z.id ≢ i
        not_the_twig z zs low same =
            let one : node_of z ≡ ready.node = one_cell s i (node_of z) ready.node (subst (λ k. s k ≡ Some (node_of z)) same zs) ready.at in
            let l = ap (λ (c : Node Value). c.level) one in
            let k = ready.level in
            omega (arith, l, k, low)

-- ---- all of them

pub still_all : (t : Store Value) (w v : WorkingSet) (b c2 : Budget) (i : ℕ) → ((e2 : TwigTurn) (j : ℕ) → j ≢ i → IsReady t w b e2 j → IsReady t v c2 e2 j) → (es : List TwigTurn) (is : List ℕ) → ((j : ℕ) → Contains is j → j ≢ i) → AreReady t w b es is → AreReady t v c2 es is
still_all t w v b c2 i still [] [] ne h = tt
still_all t w v b c2 i still [] (j ∷ js) ne h = absurd h
still_all t w v b c2 i still (e ∷ es) [] ne h = absurd h
still_all t w v b c2 i still (e ∷ es) (j ∷ js) ne (h, apart2, rest) = (still e j (ne j (here j js)) h, apart2, still_all t w v b c2 i still es js (λ k m. ne k (later j k js m)) rest)

pub all_turns : (t : Store Value) (r : Root) (es : List TwigTurn) (is : List ℕ) (f : Fresh) (w : WorkingSet) (b : Budget) → IsMeasured t r f w b → IsQuietBelow b → AreReady t w b es is → 2 ^ 63 ≤ f.next → f.end < 2 ^ 64 → f.next + numbers_for es ≤ f.end → CanRegraftAll t r es f w
all_turns t r [] is f w b measured quiet ready unplaced high numbers = tt
all_turns t r (e ∷ es) [] f w b measured quiet ready unplaced high numbers = absurd ready
all_turns t r (e ∷ es) (i ∷ is) f w b measured quiet (ready, apart2, rest) unplaced high numbers =
    let n = sum_by-cons (λ (d : TwigTurn). d.blocks + (d.leaves + 64)) e es in
    let here_fits : f.next + (e.blocks + (e.leaves + 64)) ≤ f.end = omega (arith, n, numbers) in (
      can_turn t r f w b measured quiet e i ready unplaced high here_fits,
      stands_there t r f w b measured quiet e i ready unplaced high here_fits,
      λ after v made.
          let (c2, next, quiet2, same, few) = next_measure t r f w b measured quiet e i ready unplaced high here_fits after v made in
          all_turns t r es is (behind e f) v c2 next quiet2
          (still_all t w v b c2 i (λ e2 j ne ready2. still_ready t r f w b measured quiet e i ready unplaced high here_fits after v made c2 same e2 j ne ready2) es is apart2 rest)
          (omega (arith, unplaced)) high (omega (arith, n, numbers)),
    )

-- ---- how many cells stand then

pub few_stand : (most : ℕ) (t : Store Value) (r : Root) (es : List TwigTurn) (is : List ℕ) (f : Fresh) (w : WorkingSet) (b : Budget) → IsMeasured t r f w b → IsQuietBelow b → AreReady t w b es is → 2 ^ 63 ≤ f.next → f.end < 2 ^ 64 → f.next + numbers_for es ≤ f.end
    → most_from b (root_of w r) (standing w) + come_at_most es ≤ most → TurnAtMost most t r es f w
few_stand most t r [] is f w b measured quiet ready unplaced high numbers few = let h = long_sum b (standing w) in (measured.working, omega (arith, few, h))
few_stand most t r (e ∷ es) [] f w b measured quiet ready unplaced high numbers few = absurd ready
few_stand most t r (e ∷ es) (i ∷ is) f w b measured quiet (ready, apart2, rest) unplaced high numbers few =
    let n = sum_by-cons (λ (d : TwigTurn). d.blocks + (d.leaves + 64)) e es in
    let k = sum_by-cons (λ (d : TwigTurn). d.blocks + (d.leaves + 1)) e es in
    let here_fits : f.next + (e.blocks + (e.leaves + 64)) ≤ f.end = omega (arith, n, numbers) in
    λ after v made.
    let (c2, next, quiet2, same, fewer) = next_measure t r f w b measured quiet e i ready unplaced high here_fits after v made in
    let come = few_come t r f w b measured quiet e i ready unplaced high here_fits after v made in
    let leaves = (ready.turn f.next unplaced (omega (arith, here_fits, high))).few in
    few_stand most t r es is (behind e f) v c2 next quiet2
    (still_all t w v b c2 i (λ e2 j ne ready2. still_ready t r f w b measured quiet e i ready unplaced high here_fits after v made c2 same e2 j ne ready2) es is apart2 rest)
    (omega (arith, unplaced)) high (omega (arith, n, numbers)) (omega (arith, few, fewer, come, leaves, k))
