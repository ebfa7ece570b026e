-- What the demand of leaves asks of cells is what the command asks of them.
use Rattle.std.specs.Prelude.{◌≡◌, ◌≢◌, ℕ, zero, suc, ◌-◌, ◌≤◌, ◌==◌, List, [], ◌∷◌, length, Bool, true, false}
use Rattle.std.specs.Prelude.{Contains, Option, Some, None, not, nat_lt, ◌&&◌, ◌||◌, if◌then◌else◌}
use Rattle.std.proofs.Common.{arith, inl, inr, refl, sym, ap, subst, ◌∙◌}
use Rattle.std.specs.List.{filter}
use Rattle.std.proofs.lemmas.Bool.{and_left, both_ways, eq-eqb, eqb-true, le-ltb, ne_eqb}
use Rattle.std.proofs.lemmas.Option.{same_Some}
use Rattle.r4_base.specs.Node.{items_of}
use Rattle.r4_base.specs.Tree.{Name, Node, Root, Store}
use Rattle.r4_base.specs.Value.{Value}
use Rattle.r4_cell.specs.Patch.{HaveNames, by_name}
use Rattle.r4_cell.specs.Seen.{CellSeen, node_of}
use Rattle.r4_content.specs.Bodies.{larger}
use Rattle.r4_content.specs.Edited.{Edits, Intervals, changed, is_between}
use Rattle.r4_content.specs.Listed.{list_edited}
use Rattle.r4_leaf.specs.Units.{leaf_bytes}
use Rattle.r4_marking.specs.Marks.{AreChosen, AreMarks}
use Rattle.r4_marking.proofs.Asked.{node_level}
use Rattle.r4_marking.proofs.r4_patch.Members.{distinct, found, there}
use Rattle.r4_marking.specs.r4_path.Nodes.{weight}
use Rattle.r4_marking.specs.r4_reach.Demand.{Demand, ask, ask_of, heard, heard_one}
use Rattle.r4_marking.specs.r4_reach.Needs.{Ask, all_gone, asking, cell_asks, changes_pieces, come_of, demand_of, growing, is_met}
use Rattle.r4_marking.specs.r4_reach.Needs.{is_touched, leaf_asks, leaf_edits, meets, moves, node_asks, node_need, over}
use Rattle.r4_marking.specs.r4_reach.Needs.{pieces_after, twig_asks}
use Rattle.r4_marking.specs.r4_reach.Needs.{twig_more, units_after}
use Rattle.r4_marking.specs.r4_reach.Reach.{IsRead, IsRootAsking, IsWritten}
use Rattle.r4_marking.specs.r4_reach.Touched.{Body, blocks_end, first_byte, raw_changes}
use Rattle.r4_marking.proofs.r4_reach.Enough.{node_needs, none_meet, twig_needs}
use Rattle.r4_marking.proofs.r4_reach.Heard.{choose, here, later, split}
use Rattle.r4_leaf_demands.specs.Leaves.{AreOfLeaves, IsInLeaves, bearing, leaf_change_asks, leaf_demand, needing}
use Rattle.r4_leaf_demands.specs.Leaves.{node_more}
use Rattle.r4_leaf_demands.proofs.Weighed.{block_is}

-- ---- one cell

none_move : (c : Node Value) → moves (0, 0) c ≡ false
none_move c = by_tests (nat_lt 0 c.lo) (nat_lt 0 c.hi)
  where
    low : (n : ℕ) → nat_lt n 0 ≡ false
    low n = le-ltb n 0 (omega arith)

    by_tests : (a b : Bool) → ((a && nat_lt c.lo 0) || (b && nat_lt c.hi 0)) ≡ false
    by_tests true true = let e = low c.lo in let f = low c.hi in rw (e, f) refl
    by_tests true false = let e = low c.lo in rw e refl
    by_tests false true = let f = low c.hi in f
    by_tests false false = refl

module _ (b : Option Body) (e : Edits) (reads : Intervals) (quiet : come_of b ≡ (0, 0)) (same : leaf_edits b e ≡ e)
    (c : Node Value) where
  no_meet : meets c.lo c.hi (come_of b) ≡ false
  no_meet = subst (λ (r : ℕ × ℕ). meets c.lo c.hi r ≡ false) (sym quiet) (none_meet c.lo c.hi)

  no_move : moves (come_of b) c ≡ false
  no_move = subst (λ (r : ℕ × ℕ). moves r c ≡ false) (sym quiet) (none_move c)

  leaf_same : leaf_asks b e c ≡ needing (over (leaf_bytes (units_after None e c)))
  leaf_same =
      let still = no_meet in
      rw still (ap
      (λ (x : Edits). asking false
      (record {
        more = over (leaf_bytes (filter (λ u. is_between c.lo c.hi u.0) (list_edited x c.units)));
        gone =
            false;
      })) same)

  module _ (hs : List (Name × Ask)) where
    twig_same : changes_pieces b e c ≡ false → (c.level == 2) ≡ true → twig_asks b e c hs
        ≡ needing (node_more c.level (bearing c hs) (growing hs))
    twig_same still two =
        let need : twig_more b e c hs ≡ node_more c.level (bearing c hs) (growing hs) =
        ap (λ (n : ℕ). if nat_lt 4068 n then larger (over n) (growing hs) else 0)
        (twig_needs b e reads (changed e) quiet c hs still)
        ∙ sym (ap
        (λ (t : Bool). if t then
        (if nat_lt 4068 (bearing c hs) then larger (over (bearing c hs)) (growing hs) else 0) else over
        (bearing c hs)) two) in
        let gone = and_left (meets c.lo c.hi (come_of b)) (length (pieces_after b e c hs) == 0) no_meet in
        (λ i. asking (no_move i) (record { more = need i; gone = gone i }))

    node_same : (c.level == 2) ≡ false → node_asks b c hs ≡ needing (node_more c.level (bearing c hs) (growing hs))
    node_same other =
        let need : over (node_need b c hs) ≡ node_more c.level (bearing c hs) (growing hs) =
        ap over (node_needs b e reads (changed e) quiet c hs)
        ∙ sym (ap
        (λ (t : Bool). if t then
        (if nat_lt 4068 (bearing c hs) then larger (over (bearing c hs)) (growing hs) else 0) else over
        (bearing c hs)) other) in
        let gone = and_left (meets c.lo c.hi (come_of b)) (length c.names == all_gone hs) no_meet in
        (λ i. asking (no_move i) (record { more = need i; gone = gone i }))

    above_same : (c.level ≡ 2 → changes_pieces b e c ≡ false) → (if c.level == 2 then twig_asks b e c hs else node_asks b c hs)
        ≡ needing (node_more c.level (bearing c hs) (growing hs))
    above_same still = by_level (c.level == 2) refl
      where
        by_level : (t : Bool) → (c.level == 2) ≡ t → (if t then twig_asks b e c hs else node_asks b c hs)
            ≡ needing (node_more c.level (bearing c hs) (growing hs))
        by_level true two = twig_same (still (eqb-true c.level 2 two)) two
        by_level false other = node_same other

  -- a node that hears nothing asks for nothing
  fits_none : weight (items_of c.block) ≤ 4068 → needing (node_more c.level (bearing c []) (growing [])) ≡ None
  fits_none fits = by_level (c.level == 2)
    where
      room : nat_lt 4068 (bearing c []) ≡ false
      room = le-ltb 4068 (bearing c []) (omega (arith, fits))

      by_level : (t : Bool)
          → needing
          (if t then (if nat_lt 4068 (bearing c []) then larger (over (bearing c [])) (growing []) else 0) else over
          (bearing c [])) ≡ None
      by_level true = let r = room in rw r refl
      by_level false = let r = room in rw r refl

  pub asks_same : (hs : List (Name × Ask)) → 1 ≤ c.level → (c.level ≡ 2 → changes_pieces b e c ≡ false)
      → (2 ≤ c.level → weight (items_of c.block) ≤ 4068) → (c.level ≡ 1 → hs ≡ [])
      → leaf_change_asks e c hs ≡ cell_asks b e (changed e) c hs
  asks_same hs some still fits silent = by_level (c.level == 1) refl
    where
      in_leaf : (m : Bool) → (if m then needing (over (leaf_bytes (units_after None e c))) else None)
          ≡ (if m || false then leaf_asks b e c else None)
      in_leaf true = sym leaf_same
      in_leaf false = refl

      leaf : (c.level == 1) ≡ true → leaf_change_asks e c [] ≡ cell_asks b e (changed e) c []
      leaf one = rw one (in_leaf (is_met (changed e) c.lo c.hi))

      above : (t : Bool) → (hs : List (Name × Ask)) → 2 ≤ c.level
          → needing (node_more c.level (bearing c hs) (growing hs))
          ≡ (if t || not (length hs == 0) then (if c.level == 2 then twig_asks b e c hs else node_asks b c hs) else
          None)
      above true hs high = sym (above_same hs still)
      above false [] high = fits_none (fits high)
      above false (h ∷ hs) high =
          let some_heard : (length (h ∷ hs) == 0) ≡ false = ne_eqb (length (h ∷ hs)) 0 (λ none. omega (arith, none)) in
          rw some_heard (sym (above_same (h ∷ hs) still))

      by_level : (t : Bool) → (c.level == 1) ≡ t → leaf_change_asks e c hs ≡ cell_asks b e (changed e) c hs
      by_level true one = subst (λ (xs : List (Name × Ask)). leaf_change_asks e c xs ≡ cell_asks b e (changed e) c xs)
          (sym (silent (eqb-true c.level 1 one))) (leaf one)
      by_level false other =
          let high : 2 ≤ c.level = elim_high other in
          let way = above (is_touched (changed e) c) hs high in
          above_is other way
        where
          elim_high : (c.level == 1) ≡ false → 2 ≤ c.level
          elim_high h = grind (arith, some, h)

          above_is : (c.level == 1) ≡ false → needing (node_more c.level (bearing c hs) (growing hs))
              ≡ (if is_touched (changed e) c || not (length hs == 0) then
              (if c.level == 2 then twig_asks b e c hs else node_asks b c hs) else None)
              → leaf_change_asks e c hs ≡ cell_asks b e (changed e) c hs
          above_is h way =
              ap (λ (t : Bool). if t then
              (if is_met (changed e) c.lo c.hi then needing (over (leaf_bytes (units_after None e c))) else None)
              else needing (node_more c.level (bearing c hs) (growing hs))) h
              ∙ way
              ∙ sym (ap
              (λ (t : Bool). if is_touched (changed e) c || not (length hs == 0) then
              (if t then leaf_asks b e c else (if c.level == 2 then twig_asks b e c hs else node_asks b c hs)) else
              None) h)

-- ---- a body that stands in no extents afterwards

pub in_leaves_come : (b : Option Body) → IsInLeaves b → come_of b ≡ (0, 0)
in_leaves_come None h = refl
in_leaves_come (Some b) h = ap
    (λ (t : Bool). if t then (if b.in_extents then blocks_end b b.was else first_byte b, blocks_end b b.now) else
    (0, 0)) h

pub in_leaves_edits : (b : Option Body) (e : Edits) → IsInLeaves b → leaf_edits b e ≡ e
in_leaves_edits None e h = refl
in_leaves_edits (Some b) e h = rw h refl

pub in_leaves_changes : (b : Option Body) (rs : Intervals) → IsInLeaves b → raw_changes b rs ≡ rs
in_leaves_changes None rs h = refl
in_leaves_changes (Some b) rs h = rw h refl

-- ---- all cells

heard_eq : (f g : Node Value → Option Ask) (t : Store Value) (ns : List Name)
    → ((n : Name) → Contains ns n → n.level ≢ 0 → ask_of f (t n.id) ≡ ask_of g (t n.id)) → heard f t ns ≡ heard g t ns
heard_eq f g t [] h = refl
heard_eq f g t (n ∷ ns) h =
    let rest = heard_eq f g t ns (λ m at some. h m (later n m ns at) some) in
    choose (n.level == 0) (heard f t ns) (heard g t ns) (heard_one n (ask_of f (t n.id)) (heard f t ns))
    (heard_one n (ask_of g (t n.id)) (heard g t ns)) rest
    (λ is. (λ i. heard_one n (h n (here n ns) (λ none. both_ways (n.level == 0) is (eq-eqb n.level 0 none)) i)
    (rest i)))

module _ (b : Option Body) (e : Edits) (reads : Intervals) (met : List CellSeen) (root : Root)
    (h : AreOfLeaves b e met root) where
  t : Store Value
  t = by_name met

  mine : Demand Ask
  mine = leaf_demand e reads

  theirs : Demand Ask
  theirs = demand_of b e reads (changed e)

  still_at : (i : ℕ) (c : Node Value) → t i ≡ Some c → c.level ≡ 2 → changes_pieces b e c ≡ false
  unfolding t
  still_at i c is two =
      let (x, at, id, says) = found met i c is in
      let level = ap (λ (n : Node Value). n.level) says in
      ap (changes_pieces b e) says ∙ h.still x at (sym (node_level x) ∙ (sym level ∙ two))

  fits_at : (i : ℕ) (c : Node Value) → t i ≡ Some c → 2 ≤ c.level → weight (items_of c.block) ≤ 4068
  unfolding t
  fits_at i c is high =
      let (x, at, id, says) = found met i c is in
      let level = ap (λ (n : Node Value). n.level) says in
      let same = node_level x in
      let block = ap (λ (n : Node Value). n.block) says ∙ block_is x in
      subst (λ (y : List ℕ). weight (items_of y) ≤ 4068) (sym block) (h.fits x at (omega (arith, high, level, same)))

  -- a node that is named is one level below
  below_at : (i : ℕ) (c : Node Value) (n : Name) → t i ≡ Some c → Contains c.names n → n.level ≢ 0 → suc n.level
      ≡ c.level
  unfolding t
  below_at i c n is at some = elim
      ((h.part.nodes i c is).below n at) [ inl node ↦ node.1 | inr data_block ↦ absurd (some data_block.1) ]

  heards : (l : ℕ) → ((i : ℕ) (c : Node Value) → t i ≡ Some c → c.level ≡ l → ask mine t l c ≡ ask theirs t l c)
      → (i : ℕ) (c : Node Value) → t i ≡ Some c
      → ((n : Name) → Contains c.names n → n.level ≢ 0 → n.level ≡ l) → heard (ask mine t l) t c.names
      ≡ heard (ask theirs t l) t c.names
  unfolding t
  heards l same i c is down = heard_eq (ask mine t l) (ask theirs t l) t c.names
      (λ n at some. by_node n at (down n at some) (t n.id) refl)
    where
      by_node : (n : Name) → Contains c.names n → n.level ≡ l → (o : Option (Node Value)) → t n.id ≡ o
          → ask_of (ask mine t l) o ≡ ask_of (ask theirs t l) o
      by_node n at level None there = refl
      by_node n at level (Some x) there = same n.id x there ((h.part.named i c x n is at there).level ∙ level)

  silent_leaf : (f : Node Value → Option Ask) (i : ℕ) (c : Node Value) → t i ≡ Some c → c.level ≡ 1 → heard f t c.names
      ≡ []
  unfolding t
  silent_leaf f i c is one = elim (split c.names) [
    | inl nothing ↦ ap (heard f t) nothing
    | inr more ↦
        let (n, ns, names) = more in
        let at = subst (λ (xs : List Name). Contains xs n) (sym names) (here n ns) in
        absurd (elim
        ((h.part.nodes i c is).below n at) [
          | inl node ↦ (let low = node.0 in let up = node.1 in omega (arith, low, up, one))
          | inr data_block ↦
              (let two = data_block.0 in omega (arith, two, one))
        ])
  ]

  ask_same : (l i : ℕ) (c : Node Value) → t i ≡ Some c → c.level ≡ l → ask mine t l c ≡ ask theirs t l c
  unfolding mine theirs
  ask_same zero i c is level = refl
  ask_same (suc l) i c is level =
      asks_same b e reads (in_leaves_come b h.in_leaves) (in_leaves_edits b e h.in_leaves) c
      (heard (ask mine t l) t c.names) (omega (arith, level)) (still_at i c is) (fits_at i c is)
      (silent_leaf (ask mine t l) i c is)
      ∙ ap (cell_asks b e (changed e) c)
      (heards l (ask_same l) i c is (λ n at some. let up = below_at i c n is at some in omega (arith, up, level)))

  heard_same : (i : ℕ) (c : Node Value) → t i ≡ Some c → heard (ask mine t (c.level - 1)) t c.names
      ≡ heard (ask theirs t (c.level - 1)) t c.names
  heard_same i c is = heards (c.level - 1) (ask_same (c.level - 1)) i c is
      (λ n at some. let up = below_at i c n is at some in omega (arith, up))

  no_turn : (i : ℕ) (c : Node Value) → t i ≡ Some c → theirs.turns c ≡ true → ⊥
  unfolding theirs
  no_turn i c is turns = by_tests (is_touched (changed e) c) (c.level == 2) refl turns
    where
      by_tests : (p q : Bool) → (c.level == 2) ≡ q → (p && (q && changes_pieces b e c)) ≡ true → ⊥
      by_tests true true two so = both_ways (changes_pieces b e c) (still_at i c is (eqb-true c.level 2 two)) so
      by_tests true false other so = both_ways false refl so
      by_tests false q other so = both_ways false refl so

  written_to : (i : ℕ) → IsWritten mine t i → IsWritten theirs t i
  unfolding mine theirs
  written_to i (c, is, way) = (
    c,
    is,
    elim way [
      | inl keys ↦ inl keys
      | inr rest ↦ elim rest [
        | inl turns ↦ absurd (both_ways false refl turns)
        | inr more ↦ elim more [
          | inl beside ↦ (let (j, x, n, tj, turns, has, id) = beside in absurd (both_ways false refl turns))
          | inr asked ↦ inr (inr (inr (λ nothing. asked (heard_same i c is ∙ nothing))))
        ]
      ]
    ],
  )

  written_from : (i : ℕ) → IsWritten theirs t i → IsWritten mine t i
  unfolding mine theirs
  written_from i (c, is, way) = (
    c,
    is,
    elim way [
      | inl keys ↦ inl keys
      | inr rest ↦ elim rest [
        | inl turns ↦ absurd (no_turn i c is turns)
        | inr more ↦ elim more [
          | inl beside ↦ (let (j, x, n, tj, turns, has, id) = beside in absurd (no_turn j x tj turns))
          | inr asked ↦ inr (inr (inr (λ nothing. asked (sym (heard_same i c is) ∙ nothing))))
        ]
      ]
    ],
  )

  read_to : (i : ℕ) → IsRead mine t i → IsRead theirs t i
  unfolding mine theirs
  read_to i (reached, not) =
      (elim reached [ inl w ↦ inl (written_to i w) | inr r ↦ inr r ], (λ w. not (written_from i w)))

  read_from : (i : ℕ) → IsRead theirs t i → IsRead mine t i
  unfolding mine theirs
  read_from i (reached, not) =
      (elim reached [ inl w ↦ inl (written_from i w) | inr r ↦ inr r ], (λ w. not (written_to i w)))

  root_at : (c : Node Value) → t root.id ≡ Some c → c.level ≡ root.height
  unfolding t
  root_at c is = ap (λ (n : Node Value). n.level) (same_Some c h.part.root_node (sym is ∙ h.part.root_is))
      ∙ h.part.root_level

  root_to : (a : Ask) → IsRootAsking mine t root a → IsRootAsking theirs t root a
  root_to a (c, is, asks) = (c, is, sym (ask_same root.height root.id c is (root_at c is)) ∙ asks)

  root_from : (a : Ask) → IsRootAsking theirs t root a → IsRootAsking mine t root a
  root_from a (c, is, asks) = (c, is, ask_same root.height root.id c is (root_at c is) ∙ asks)

  chosen : (P Q : ℕ → Type 0) (cells : List CellSeen) → ((i : ℕ) → P i → Q i) → ((i : ℕ) → Q i → P i)
      → AreChosen P met cells → AreChosen Q met cells
  chosen P Q cells to from old = record {
    are = λ c. (
      (λ at. let (among, kind) = (old.are c).0 at in (among, to c.id kind)),
      (λ both. (old.are c).1 (both.0, from c.id both.1)),
    );
    order = old.order;
  }

  pub marks_same : (rs ws : List CellSeen) (rises : Option Ask) → AreMarks (leaf_demand e reads) met root rs ws rises
      → AreMarks (demand_of b e reads (changed e)) met root rs ws rises
  unfolding t mine theirs
  marks_same rs ws rises m = record {
    read = chosen (IsRead mine t) (IsRead theirs t) rs read_to read_from m.read;
    written = chosen (IsWritten mine t) (IsWritten theirs t) ws written_to written_from m.written;
    rising = λ a. ((λ is. root_to a ((m.rising a).0 is)), (λ asks. (m.rising a).1 (root_from a asks)));
  }

  -- and each cell that was met asks for the same
  pub asks_as : HaveNames met → (c : CellSeen) → Contains met c
      → ask (leaf_demand e reads) (by_name met) c.level (node_of c)
      ≡ ask (demand_of b e reads (changed e)) (by_name met) c.level (node_of c)
  unfolding t mine theirs
  asks_as names c at = ask_same c.level c.id (node_of c) (there met c (distinct met names) at) (node_level c)
