-- A twig of a body that comes to extents at its turn: what is known of the set afterwards.
use Rattle.std.proofs.Common.{◌≡◌, ◌≢◌, ◌⊎◌, inl, inr, ℕ, ◌+◌, ◌^◌, ◌<◌, ◌≤◌, List, [], ◌∷◌, ◌++◌, drop, length, map, refl, ap, sym, subst, ◌∙◌, arith}
use Rattle.std.specs.Prelude.{Contains, None, Some, true, false}
use Rattle.std.proofs.lemmas.List.{length-append}
use Rattle.std.proofs.lemmas.List.Elements.{Contains-append_cases, Contains-append_left, Contains-append_right}
use Rattle.std.proofs.lemmas.List.Sorted.{Contains-permutation, IsPermutation-sym}
use Rattle.r4_base.specs.Key.{rank}
use Rattle.r4_base.specs.Tree.{Name, Node, Root, Store}
use Rattle.r4_base.specs.Value.{Value}
use Rattle.r4_base.specs.declared.key.Key.{Key}
use Rattle.r4_base.proofs.Trees.{one_cell}
use Rattle.r4_build.specs.r4_branch.declared.piece.TwigPiece.{TwigPiece}
use Rattle.r4_build.specs.Making.{IsOf}
use Rattle.r4_extent_build.specs.r4_cell.Seen.{CellSeen, node_of}
use Rattle.r4_extent_build.specs.r4_cell.declared.change.Fresh.{Fresh}
use Rattle.r4_content.specs.Edited.{Edits}
use Rattle.r4_extent_build.proofs.r4_twig_turns.KeptTurn.{ascends, stood}
use Rattle.r4_extent_build.proofs.r4_twig_turns.Left.{left_budget}
use Rattle.r4_extent_build.proofs.r4_twig_turns.TurnByTurn.{can_turn, next_working}
use Rattle.r4_extent_build.specs.Looping.{AreTurned}
use Rattle.r4_extent_build.specs.r4_twig_turns.Turning.{IsReady, IsTurnOf, IsTurned, TwigTurn, behind, own_of}
use Rattle.r4_build.proofs.r4_measure.Loop.{from_new, of_id}
use Rattle.r4_build.proofs.r4_measure.Grafted.{graft_height, graft_seen}
use Rattle.r4_build.proofs.r4_measure.Placed.{placed_measured, still_in}
use Rattle.r4_build.proofs.r4_measure.TwigTurn.{twig_enough}
use Rattle.r4_build.specs.r4_measure.Budget.{Budget, most_from}
use Rattle.r4_build.specs.r4_measure.Grafting.{AreGraftsIn, Beside, IsQuietBelow}
use Rattle.r4_build.specs.r4_measure.Measured.{IsMeasured}
use Rattle.r4_build.proofs.r4_patch.Followed.{among_cell, among_or_not, cell_among, in_without, to_without}
use Rattle.r4_build.proofs.r4_patch.Members.{absent, cases, have_names, here, later, none}
use Rattle.r4_build.proofs.r4_patch.PartCells.{apart, one_above}
use Rattle.r4_build.specs.r4_patch.Following.{is_among, without}
use Rattle.r4_build.specs.r4_patch.Joining.{ids_of}
use Rattle.r4_build.specs.r4_patch.Part.{IsPart}
use Rattle.r4_build.proofs.r4_path.Begun.{ascends_take}
use Rattle.r4_build.proofs.r4_path.Rising.{count_within, hi_is, id_member, in_node, level_is, lo_is}
use Rattle.r4_build.specs.r4_path.Grafts.{extra_twigs}
use Rattle.r4_build.specs.r4_path.Steps.{Ascends, Step, fresh_ids, name_of, news, olds}
use Rattle.r4_build.specs.r4_reach.Touched.{Body}
use Rattle.r4_build.proofs.r4_work.InPlace.{now_part, standing_is}
use Rattle.r4_build.proofs.r4_work.Paths.{ascends_from, lowest_from}
use Rattle.r4_build.specs.r4_work.Working.{IsWorking, now_of, root_of, standing}
use Rattle.r4_build.specs.r4_work.declared.working.WorkingSet.{WorkingSet}
use Rattle.r4_extent_turn.specs.TurnedOut.{LeavesLeaves}
use Rattle.r4_extent_turn.specs.Turning.{AreKept, Kept, Turn, blocks_turned, kept_cells, leaves_of, turning_turn}
use Rattle.r4_extent_turn.specs.TurningIn.{MayTurnOut, turns_to}
use Rattle.r4_extent_turn.proofs.FewerLeft.{fewer_left}
use Rattle.r4_extent_turn.proofs.Keeps.{AreNumbered, kept_node, number_within, numbers_are}
use Rattle.r4_extent_turn.proofs.ReadyTurn.{ready as ready_turn, turn}
use Rattle.r4_extent_turn.proofs.TurnOf.{turn_of}

long_names : (ns : List Name) → length (map (λ (n : Name). n.id) ns) ≡ length ns
long_names [] = refl
long_names (n ∷ ns) = let h = long_names ns in omega (arith, h)

long_cells : (cells : List CellSeen) → length (map name_of cells) ≡ length cells
long_cells [] = refl
long_cells (c ∷ cs) = let h = long_cells cs in omega (arith, h)

name_member : (ns : List Name) (n : Name) → Contains ns n → Contains (map (λ (m : Name). m.id) ns) n.id
name_member [] n at = absurd (none n at)
name_member (m ∷ ns) n at = elim (cases m n ns at) [
  | inl is ↦ subst (λ (x : Name). Contains (m.id ∷ map (λ (y : Name). y.id) ns) x.id) (sym is) (here m.id (map (λ (y : Name). y.id) ns))
  | inr more ↦ later m.id n.id (map (λ (y : Name). y.id) ns) (name_member ns n more)
]

cell_member : (cells : List CellSeen) (c : CellSeen) → Contains cells c → Contains (map name_of cells) (name_of c)
cell_member [] c at = absurd (none c at)
cell_member (d ∷ ds) c at = elim (cases d c ds at) [
  | inl is ↦ subst (λ (x : CellSeen). Contains (name_of d ∷ map name_of ds) (name_of x)) (sym is) (here (name_of d) (map name_of ds))
  | inr more ↦ later (name_of d) (name_of c) (map name_of ds) (cell_member ds c more)
]

ids_append : (xs ys : List CellSeen) → ids_of (xs ++ ys) ≡ ids_of xs ++ ids_of ys
ids_append [] ys = refl
ids_append (x ∷ xs) ys = ap (λ is. x.id ∷ is) (ids_append xs ys)

split_ids : (xs ys : List CellSeen) (i : ℕ) → Contains (ids_of (xs ++ ys)) i → Contains (ids_of xs) i ⊎ Contains (ids_of ys) i
split_ids xs ys i m = Contains-append_cases (ids_of xs) (ids_of ys) i (subst (λ is. Contains is i) (ids_append xs ys) m)

ids_left : (xs ys : List CellSeen) (i : ℕ) → Contains (ids_of xs) i → Contains (ids_of (xs ++ ys)) i
ids_left xs ys i m = let (x, at, id) = of_id xs i m in subst (Contains (ids_of (xs ++ ys))) id (id_member (xs ++ ys) x (Contains-append_left xs ys x at))

-- cells above one of a level
above : (s : Store Value) (root : Root) → IsPart s root → (b : CellSeen) (cells : List CellSeen) → 1 ≤ b.level → Ascends s (Some b) cells → (y : CellSeen) → Contains cells y → b.level < y.level
above s root part b [] low path y at = absurd (none y at)
above s root part b (c ∷ cells) low (sc, one, named, rest) y at =
    let up = one_above (node_of c) (name_of b) (part.nodes c.id (node_of c) sc) named low in
    let l = level_is c in
    elim (cases c y cells at) [
      | inl is ↦ subst (λ (z : CellSeen). b.level < z.level) (sym is) (omega (arith, up, l))
      | inr more ↦ let h = above s root part c cells (omega (arith, up, l)) rest y more in omega (arith, h, up, l)
    ]

module _ (b : Body) (first : Key) (ed : Edits) (t : Store Value) (r : Root) (x : Turn) (f : Fresh) (w : WorkingSet) (u : Budget) (may : MayTurnOut b first ed t r x f w u) (kp : Kept) (ks : AreKept b x kp) where
  abbrev e : TwigTurn
  e = turning_turn b ed x kp

  abbrev c : CellSeen
  c = x.twig

  abbrev s : Store Value
  s = now_of w t

  abbrev root : Root
  root = root_of w r

  abbrev is : IsMeasured t r f w u
  is = may.measured

  abbrev quiet : IsQuietBelow u
  quiet = may.quiet

  abbrev stands : Contains (standing w) x.twig
  stands = may.turn.stands.twig

  abbrev unplaced : 2 ^ 63 ≤ f.next
  unplaced = may.unplaced.0

  abbrev high : f.end < 2 ^ 64
  high = may.unplaced.1

  part : IsPart s root
  part = now_part t r f w is.working

  ready : IsReady t w u e c.id
  ready = ready_turn b first ed t r x f w u may kp ks

  numbers : f.next + (e.blocks + (e.leaves + 64)) ≤ f.end
  numbers = let n = may.numbers in omega (arith, n)

  module _ (after : Fresh) (v : WorkingSet) (made : IsTurned t r e f after w v) where
    turn_at : IsTurnOf (node_of c) e f.next
    turn_at = turn_of b x (turn b first ed t r x f w u may) kp ks first may.turning ed (may.room kp ks) f.next unplaced

    abbrev qs : List TwigPiece
    qs = e.pieces f.next

    abbrev y : Beside
    y = e.beside f.next

    c_at : s c.id ≡ Some (node_of c)
    c_at = standing_is t r f w is.working c stands

    -- ---- the twig that is packed anew

    some_keys : rank c.lo < rank c.hi
    some_keys =
        let lo = ap (λ (z : Node Value). z.lo) ready.node_is in
        let hi = ap (λ (z : Node Value). z.hi) ready.node_is in
        let own_lo = lo_is c in
        let own_hi = hi_is c in
        let key = ready.key in
        omega (arith, lo, hi, own_lo, own_hi, key)

    twig_at : s made.twig.id ≡ Some (node_of made.twig)
    twig_at = let at = lowest_from 6 (standing w) 2 e.key made.twig made.ups made.path in standing_is t r f w is.working made.twig at.among

    twig_id : made.twig.id ≡ c.id
    twig_id =
        let at = lowest_from 6 (standing w) 2 e.key made.twig made.ups made.path in
        let l = level_is made.twig in
        let m = level_is c in
        let two = at.level_is in
        let low = may.turn.level in
        apart s root part made.twig.id c.id (node_of made.twig) (node_of c) e.key twig_at c_at (omega (arith, l, m, two, low)) (omega (arith, l, two))
        (in_node made.twig e.key at.range) (in_node c e.key (omega arith, some_keys))

    fits : extra_twigs qs ≤ u 2 made.twig.id
    fits = subst (λ j. extra_twigs qs ≤ u 2 j) (sym twig_id) (ready.come f.next)

    own_working : IsWorking t r (own_of e f) w
    own_working = (can_turn t r f w u is quiet e c.id ready unplaced high numbers).working

    own_measured : IsMeasured t r (own_of e f) w u
    own_measured = record { working = own_working; seen = is.seen; budget = is.budget; height = is.height; kept = is.kept }

    old_stands : (d : CellSeen) → Contains made.edit.old d → Contains (standing w) d
    old_stands = stood t r (own_of e f) after w v u own_measured quiet e.key qs y made fits (omega (arith, unplaced)) (omega (arith, numbers, high))

    -- ---- old cells and new ones

    abbrev steps : List Step
    steps = made.grafts.grafts.lowest ∷ made.grafts.grafts.more

    abbrev upper : List CellSeen
    upper = olds made.grafts.grafts.more

    abbrev ours : List CellSeen
    ours = made.grafts.grafts.lowest.new ++ news made.grafts.grafts.more made.grafts.grafts.over

    old_are : made.edit.old ≡ leaves_of x ++ (made.twig ∷ upper)
    old_are = ap (λ z. z.old) made.grafts.is ∙ (made.grafts.below_is.old_is
        ∙ ap (λ cells. leaves_of x ++ cells) (made.grafts.grafts.levels.old ∙ ap (λ (z : CellSeen). z ∷ upper) made.grafts.grafts.level.row.old))

    new_are : made.edit.new ≡ (y.below.new ++ ours) ++ y.blocks
    new_are = ap (λ z. z.new) made.grafts.is ∙ ap (λ cells. cells ++ y.blocks) (made.grafts.below_is.new_is ∙ ap (λ cells. y.below.new ++ cells) made.grafts.grafts.levels.new)

    upper_path : Ascends s (Some made.twig) upper
    upper_path =
        let path : Ascends s None (made.twig ∷ made.ups) = subst (Ascends s None) made.path (ascends_from s root part (standing w) (standing_is t r f w is.working) e.key 7 2 (omega arith)) in
        subst (λ cells. Ascends s (Some made.twig) cells) (sym made.grafts.grafts.ups_are) (ascends_take s (Some made.twig) (length made.grafts.grafts.more) made.ups path.3)

    -- a cell of another twig, or below one, is none of the old cells
    not_old : (d : CellSeen) → Contains (standing w) d → d.level ≤ 2 → d.id ≢ c.id → (Contains (ids_of (leaves_of x)) d.id → ⊥) → (z : CellSeen) → Contains made.edit.old z → z.id ≢ d.id
    not_old d at low ne other z m same = elim (Contains-append_cases (leaves_of x) (made.twig ∷ upper) z (subst (λ cs. Contains cs z) old_are m)) [
      | inl leaf ↦ other (subst (Contains (ids_of (leaves_of x))) same (id_member (leaves_of x) z leaf))
      | inr more ↦ above_leaves more
    ]
      where
        above_leaves : Contains (made.twig ∷ upper) z → ⊥
        above_leaves more = elim (cases made.twig z upper more) [
          | inl is_twig ↦ ne (sym same ∙ (ap (λ (q : CellSeen). q.id) is_twig ∙ twig_id))
          | inr up ↦
              let level = made.grafts.level in
              let high_up = above s root part made.twig upper (omega (arith, level)) upper_path z up in
              let one : node_of z ≡ node_of d = one_cell s d.id (node_of z) (node_of d) (subst (λ k. s k ≡ Some (node_of z)) same (standing_is t r f w is.working z (old_stands z m))) (standing_is t r f w is.working d at) in
              let lz = level_is z in
              let ld = level_is d in
              let l = ap (λ (y : Node Value). y.level) one in
              omega (arith, high_up, level, lz, ld, l, low)
        ]

    own_fresh : (j : ℕ) → Contains (fresh_ids steps made.grafts.grafts.over) j → (f.next ≤ j) × (j < f.next + (e.blocks + (e.leaves + 64)))
    own_fresh j m =
        let k = count_within made.grafts.mid.next (fresh_ids steps made.grafts.grafts.over) j made.grafts.grafts.counts m in
        let n = ap (λ (z : Fresh). z.next) made.grafts.grafts.number in
        let took = made.grafts.took in
        let takes = made.grafts.takes in
        (omega (arith, k, took), omega (arith, k, n, takes))

    block_id : (z : CellSeen) → Contains y.blocks z → (f.next ≤ z.id) × (z.id < f.next + e.blocks)
    block_id z m =
        let named = subst (λ ns. Contains ns (name_of z)) turn_at.blocks.names (cell_member y.blocks z m) in
        let k = count_within f.next (map (λ (n : Name). n.id) turn_at.data_names) z.id turn_at.block_numbers (name_member turn_at.data_names (name_of z) named) in
        let l = long_names turn_at.data_names in
        let n = turn_at.block_count in
        (omega (arith, k), omega (arith, k, l, n))

    old_id : (j : ℕ) → Contains (ids_of (made.twig ∷ upper)) j → Contains (ids_of made.edit.old) j
    old_id j m = subst (λ cs. Contains (ids_of cs) j) (sym old_are) (subst (λ is. Contains is j) (sym (ids_append (leaves_of x) (made.twig ∷ upper)))
        (Contains-append_right (ids_of (leaves_of x)) (ids_of (made.twig ∷ upper)) j m))

    leaf_id : (j : ℕ) → Contains (ids_of (leaves_of x)) j → Contains (ids_of made.edit.old) j
    leaf_id j m = subst (λ cs. Contains (ids_of cs) j) (sym old_are) (ids_left (leaves_of x) (made.twig ∷ upper) j m)

    -- what stays of the leaves
    kept_are : AreNumbered x (f.next + blocks_turned b ed) y.below.new (length (kept_cells kp))
    kept_are = numbers_are x ks.from (f.next + blocks_turned b ed) kp ks.left

    kept_id : (d : CellSeen) → Contains y.below.new d → Contains (ids_of (leaves_of x)) d.id ⊎ ((f.next ≤ d.id) × (d.id < f.next + (e.blocks + (e.leaves + 64))))
    kept_id d at = elim (kept_are.each d at) [
      | inl same ↦ inl (subst (Contains (ids_of (leaves_of x))) (sym same) (id_member (leaves_of x) x.leaf (here x.leaf x.more)))
      | inr same ↦ let k = number_within x (f.next + blocks_turned b ed) in inr (omega (arith, k, same), omega (arith, k, same))
    ]

    abbrev IsOldOrOwn : ℕ → Type 0
    IsOldOrOwn j = Contains (ids_of made.edit.old) j ⊎ ((f.next ≤ j) × (j < f.next + (e.blocks + (e.leaves + 64))))

    new_id : (j : ℕ) → Contains (ids_of made.edit.new) j → IsOldOrOwn j
    new_id j m = elim (split_ids (y.below.new ++ ours) y.blocks j (subst (λ cs. Contains (ids_of cs) j) new_are m)) [
      | inr block ↦
          let (z, at, same) = of_id y.blocks j block in
          let n = block_id z at in
          inr (omega (arith, n, same), omega (arith, n, same))
      | inl nodes ↦ elim (split_ids y.below.new ours j nodes) [
        | inl kept_one ↦
            let (z, at, same) = of_id y.below.new j kept_one in
            elim (kept_id z at) [
              | inl leaf ↦ inl (leaf_id j (subst (Contains (ids_of (leaves_of x))) same leaf))
              | inr own ↦ inr (omega (arith, own, same), omega (arith, own, same))
            ]
        | inr node ↦ own_id j node
      ]
    ]
      where
        own_id : (j : ℕ) → Contains (ids_of ours) j → IsOldOrOwn j
        own_id j node = elim (split_ids made.grafts.grafts.lowest.new (news made.grafts.grafts.more made.grafts.grafts.over) j node) [
          | inl low ↦ elim (cases made.twig.id j (ids_of (drop 1 made.grafts.grafts.lowest.new)) (subst (λ is. Contains is j) made.grafts.grafts.level.row.first low)) [
            | inl same ↦ inl (old_id j (subst (λ k. Contains (made.twig.id ∷ ids_of upper) k) (sym same) (here made.twig.id (ids_of upper))))
            | inr more ↦ inr (own_fresh j (Contains-append_left (ids_of (drop 1 made.grafts.grafts.lowest.new)) (fresh_ids made.grafts.grafts.more made.grafts.grafts.over) j more))
          ]
          | inr high_up ↦ elim (from_new (Some made.grafts.grafts.lowest) made.grafts.grafts.more made.grafts.grafts.over j made.grafts.grafts.climbs high_up) [
            | inl old ↦ inl (old_id j (later made.twig.id j (ids_of upper) old))
            | inr own ↦ inr (own_fresh j (Contains-append_right (ids_of (drop 1 made.grafts.grafts.lowest.new)) (fresh_ids made.grafts.grafts.more made.grafts.grafts.over) j own))
          ]
        ]

    -- ---- what is left

    pub now_working : IsWorking t r (behind e f) v
    now_working = next_working t r f w u is quiet e c.id ready unplaced high numbers after v made

    come_long : length (y.below.new ++ y.blocks) ≡ e.blocks + length (kept_cells kp)
    come_long =
        let n = long_cells y.blocks in
        let m = ap length turn_at.blocks.names in
        let k = turn_at.block_count in
        let a = length-append y.below.new y.blocks in
        let l = kept_are.long in
        omega (arith, n, m, k, a, l)

    own_low : 2 ^ 63 ≤ (own_of e f).next
    own_low = omega (arith, unplaced)

    own_high : (own_of e f).end < 2 ^ 64
    own_high = omega (arith, numbers, high)

    grafts : AreGraftsIn s root u made.twig made.ups qs y (own_of e f) after made.edit
    grafts = record {
      path = ascends t r (own_of e f) after w v u own_measured quiet e.key qs y made fits own_low own_high;
      enough = twig_enough t r (own_of e f) w u own_measured e.key made.twig made.ups made.path qs fits;
      come = inr fits;
      quiet = quiet;
      grafts = made.grafts;
    }

    now_measured : (left : Budget) × IsMeasured t r (behind e f) v left × IsQuietBelow left
        × (most_from left (root_of v r) (standing v) + length (leaves_of x) ≤ most_from u (root_of w r) (standing w) + (e.blocks + length (kept_cells kp)))
    now_measured =
        let (left, budget, less, still, same, few, stays) = left_budget s root part is.seen (own_of e f) after own_working.free own_low own_high is.working.root_number u is.budget made.twig made.ups qs y made.edit grafts in
        let seen2 = graft_seen s root part is.seen (own_of e f) after own_working.free own_low own_high is.working.root_number u is.budget made.twig made.ups qs y made.edit grafts in
        let height2 = graft_height s root part is.seen (own_of e f) after own_working.free own_low own_high is.working.root_number u is.budget made.twig made.ups qs y made.edit grafts is.height in
        let n = come_long in (
          left,
          placed_measured t r (own_of e f) w u own_measured v (behind e f) made.edit made.change made.meets old_stands made.put now_working left budget seen2 height2 less,
          still,
          fewer_left t r (own_of e f) w u own_measured v made.edit made.change made.meets old_stands made.put left less (length (leaves_of x)) (e.blocks + length (kept_cells kp)) (omega (arith, few, n)),
        )

    -- another leaf stands as before
    other_leaf : (d : CellSeen) → Contains (standing w) d → d.level ≡ 1 → (Contains (ids_of (leaves_of x)) d.id → ⊥) → Contains (standing v) d
    other_leaf d at one other =
        still_in t r f w u is v (behind e f) made.edit made.change made.meets old_stands made.put now_working d.id d refl (absent made.edit.old d.id (not_old d at (omega (arith, one)) not_twig other)) at
      where
        not_twig : d.id ≢ c.id
        not_twig id =
            let same : node_of d ≡ node_of c = one_cell s c.id (node_of d) (node_of c) (subst (λ j. s j ≡ Some (node_of d)) id (standing_is t r f w is.working d at)) c_at in
            let l = ap (λ (z : Node Value). z.level) same in
            let ld = level_is d in
            let lc = level_is c in
            let two = may.turn.level in
            omega (arith, l, ld, lc, two, one)

    -- and what stays of the leaves
    kept_stands : (d : CellSeen) → Contains y.below.new d → Contains (standing v) d
    kept_stands d at = Contains-append_left v.made v.kept d (Contains-permutation v.change.new v.made d made.put.made (subst (λ cs. Contains cs d) (sym made.put.followed.new)
        (Contains-append_left made.edit.new (without (ids_of made.edit.old) w.change.new) d (subst (λ cs. Contains cs d) (sym new_are)
        (Contains-append_left (y.below.new ++ ours) y.blocks d (Contains-append_left y.below.new ours d at))))))

    -- ---- of which cells the set is

    module _ (cells : List CellSeen) (from : ℕ) (low : from ≤ f.next) (was : IsOf cells from f w) where
      abbrev g : Fresh
      g = behind e f

      old_kept : (z : CellSeen) → Contains made.edit.old z → is_among (ids_of w.change.new) z.id ≡ false → Contains w.kept z
      old_kept z at new = elim (Contains-append_cases w.made w.kept z (old_stands z at)) [
        | inr is_kept ↦ is_kept
        | inl m ↦
            let among = among_cell w.change.new z.id z (Contains-permutation w.made w.change.new z (IsPermutation-sym w.change.new w.made is.working.made) m) refl in
            let bad : true ≡ false = sym among ∙ new in cc
      ]

      abbrev IsNumbered : ℕ → Type 0
      IsNumbered i = Contains (ids_of v.change.old) i ⊎ ((from ≤ i) × (i < g.next))

      was_new : (z : CellSeen) → Contains w.change.new z → IsNumbered z.id
      was_new z m = elim (was.new z m) [
        | inl old ↦ inl (subst (λ cs. Contains (ids_of cs) z.id) (sym made.put.followed.old) (ids_left w.change.old (without (ids_of w.change.new) made.edit.old) z.id old))
        | inr taken ↦ inr (taken.0, omega (arith, taken))
      ]

      of_old : (z : CellSeen) → Contains made.edit.old z → IsNumbered z.id
      of_old z at = elim (among_or_not (ids_of w.change.new) z.id) [
        | inl among ↦ let (y, m, id) = cell_among w.change.new z.id among in subst IsNumbered id (was_new y m)
        | inr new ↦ inl (subst (λ cs. Contains (ids_of cs) z.id) (sym made.put.followed.old)
            (id_member (w.change.old ++ without (ids_of w.change.new) made.edit.old) z
            (Contains-append_right w.change.old (without (ids_of w.change.new) made.edit.old) z (to_without (ids_of w.change.new) made.edit.old z at new))))
      ]

      of_new : (z : CellSeen) → Contains made.edit.new z → IsNumbered z.id
      of_new z at = elim (new_id z.id (id_member made.edit.new z at)) [
        | inl old ↦ let (y, m, id) = of_id made.edit.old z.id old in subst IsNumbered id (of_old y m)
        | inr own ↦ inr (omega (arith, own, low), own.1)
      ]

      pub now_of_cells : IsOf cells from g v
      now_of_cells = record {
        old = λ z at. elim (Contains-append_cases w.change.old (without (ids_of w.change.new) made.edit.old) z (subst (λ cs. Contains cs z) made.put.followed.old at)) [
          | inl m ↦ was.old z m
          | inr m ↦ let (there, new) = in_without (ids_of w.change.new) made.edit.old z m in was.kept z (old_kept z there new)
        ];
        kept = λ z at. was.kept z (in_without (ids_of made.edit.old) w.kept z (subst (λ cs. Contains cs z) made.put.kept at)).0;
        new = λ z at. elim (Contains-append_cases made.edit.new (without (ids_of made.edit.old) w.change.new) z (subst (λ cs. Contains cs z) made.put.followed.new at)) [
          | inl m ↦ of_new z m
          | inr m ↦ was_new z (in_without (ids_of made.edit.old) w.change.new z m).0
        ];
      }

    pub leaves_leaves : (now : WorkingSet) → now ≡ v → LeavesLeaves b ed u t r f w now x kp
    leaves_leaves now same = subst (λ z. LeavesLeaves b ed u t r f w z x kp) (sym same) (
        let (left, measured, still, few) = now_measured in record {
          left = left;
          measured = measured;
          quiet = still;
          few = few;
          leaves = other_leaf;
          kept = λ d at. (kept_stands d at, (kept_node b x (turn b first ed t r x f w u may) kp ks (f.next + blocks_turned b ed) d at).1);
          taken = kept_id;
          names = have_names y.below.new kept_are.distinct;
          stays = λ cells from low was. now_of_cells cells from low was;
        })

pub turn_leaves : (b : Body) (first : Key) (e : Edits) (t : Store Value) (r : Root) (x : Turn) (s : Kept) (f : Fresh) (w now : WorkingSet) (u : Budget)
    → MayTurnOut b first e t r x f w u → AreKept b x s → AreTurned t r (turns_to b e x s) f w now → LeavesLeaves b e u t r f w now x s
turn_leaves b first e t r x s f w now u may kept_are (after, (v, turned, does, rest)) = leaves_leaves b first e t r x f w u may s kept_are after v turned now rest
