-- What is left of a budget after a change of a level and of those above it, and so after all edits of a leaf.
use Rattle.std.proofs.Common.{◌≡◌, ◌⊎◌, inl, inr, ℕ, zero, suc, ◌+◌, ◌-◌, ◌^◌, ◌<◌, ◌≤◌, Bool, true, false, List, [], ◌∷◌, ◌++◌, drop, length, refl, ap, sym, subst, ◌∙◌, arith}
use Rattle.std.specs.Prelude.{Contains, Option, None, Some, ◌==◌, if◌then◌else◌, min, sum_by}
use Rattle.std.specs.Option.{option_map, unwrap_or}
use Rattle.std.proofs.lemmas.Bool.{cases_eq, cases_lt, eq-eqb}
use Rattle.std.proofs.lemmas.List.Elements.{Contains-append_cases, Contains-append_left, Contains-append_right}
use Rattle.std.proofs.lemmas.List.Sums.{sum_by-append, sum_by-cons}
use Rattle.std.proofs.lemmas.Option.{none-some, same_Some}
use Rattle.r4_base.specs.Cell.{block_names, cell_of, item_names, names_in, next_key, pointer_names}
use Rattle.r4_base.specs.Extents.{pointer_of, units_of}
use Rattle.r4_base.specs.Key.{rank}
use Rattle.r4_base.specs.Node.{Item, items_of}
use Rattle.r4_base.specs.Tree.{Name, Node, Root, Store}
use Rattle.r4_base.specs.Value.{Value}
use Rattle.r4_reach.specs.r4_cell.Patch.{Patch, by_name, over, place, root_after, root_of_pair}
use Rattle.r4_reach.specs.r4_cell.Seen.{CellSeen, node_of}
use Rattle.r4_reach.specs.r4_cell.declared.change.Change.{Change}
use Rattle.r4_reach.specs.r4_cell.declared.change.Fresh.{Fresh}
use Rattle.r4_reach.specs.r4_patch.Joining.{ids_of, patch_of_change}
use Rattle.r4_reach.specs.r4_patch.Part.{IsPart}
use Rattle.r4_reach.proofs.r4_patch.PartCells.{root_high}
use Rattle.r4_reach.specs.r4_leaf.Units.{LeafUnit, leaf_bytes}
use Rattle.r4_work.specs.r4_edit.Editing.{Edits, extra_cells}
use Rattle.r4_reach.specs.r4_path.Levels.{AreNeeded, AreRows, IsLongEnough, Keeps as StepKeeps}
use Rattle.r4_reach.specs.r4_path.Nodes.{IsPointable}
use Rattle.r4_reach.specs.r4_path.Steps.{Ascends, Climbs, Ends, IsFree, OnlyTakes, Step, fresh_ids, name_of, news, olds, root_pair}
use Rattle.r4_reach.proofs.r4_path.Begun.{ascends_take}
use Rattle.r4_reach.proofs.r4_path.CellNodes.{names_are}
use Rattle.r4_reach.proofs.r4_patch.Members.{cases, found, here, here_named, later, later_named, none}
use Rattle.r4_reach.proofs.r4_path.Rising.{count_within, follow_within, level_is}
use Rattle.r4_measure.specs.Budget.{AllBear, AreSeen, AreUp, Bears, Budget, HasNoFresh, IsBudget, IsFresh, IsSpent, Rises, below, cells_from, most_from, none_at, spent_on}
use Rattle.r4_measure.proofs.Climb.{climbing, in_left, in_right, none_less, none_member, none_other}
use Rattle.r4_measure.proofs.Few.{over_count, step_few, steps_few}
use Rattle.r4_measure.proofs.Parent.{less_below, less_grows, min_less}

-- ---- cells and their items

pub block_is : (c : CellSeen) → (node_of c).block ≡ c.block
unfolding cell_of
block_is c = by_level c.level
  where
    by_level : (l : ℕ) → (cell_of l (rank c.lo) (rank c.hi) c.block).block ≡ c.block
    by_level zero = refl
    by_level (suc l) = refl

pointer_named : (level next : ℕ) (it : Item) (k : ℕ) → it.plugin ≡ 3 → pointer_of it.body ≡ Some k → (n : Name) × Contains (item_names level next it) n × (n.id ≡ k)
unfolding item_names
pointer_named level next it k p e = by_plugin (it.plugin == 3) (eq-eqb it.plugin 3 p)
  where
    Has : List Name → Type 0
    Has ns = (n : Name) × Contains ns n × (n.id ≡ k)

    one : Has (pointer_names level (rank it.key) next (Some k))
    one = (record { id = k; level = level - 1; lo = rank it.key; hi = next }, here (record { id = k; level = level - 1; lo = rank it.key; hi = next }) [], refl)

    by_plugin : (t : Bool) → t ≡ true → (n : Name) × Contains (if t then pointer_names level (rank it.key) next (pointer_of it.body) else (if it.plugin == 5 then block_names (rank it.key) (units_of it.body) else [])) n × (n.id ≡ k)
    by_plugin true h = subst Has (ap (pointer_names level (rank it.key) next) (sym e)) one
    by_plugin false h = absurd cc

item_named : (level hi : ℕ) (items : List Item) (it : Item) (k : ℕ) → Contains items it → it.plugin ≡ 3 → pointer_of it.body ≡ Some k → (n : Name) × Contains (names_in level hi items) n × (n.id ≡ k)
unfolding names_in
item_named level hi [] it k member p e = absurd (none it member)
item_named level hi (x ∷ xs) it k member p e = elim (cases x it xs member) [
  | inl same ↦
      let (n, at, is) = pointer_named level (next_key hi xs) x k (ap (λ (y : Item). y.plugin) (sym same) ∙ p) (ap (λ (y : Item). pointer_of y.body) (sym same) ∙ e) in
      (n, Contains-append_left (item_names level (next_key hi xs) x) (names_in level hi xs) n at, is)
  | inr rest ↦
      let (n, at, is) = item_named level hi xs it k rest p e in
      (n, Contains-append_right (item_names level (next_key hi xs) x) (names_in level hi xs) n at, is)
]

module _ (now : Store Value) (seen : AreSeen now) (f : Fresh) (free : IsFree f.next f.end now) where
  pub clean_node : (i : ℕ) (c : Node Value) (l : ℕ) → now i ≡ Some c → c.level ≡ suc l → HasNoFresh f (items_of c.block)
  clean_node i c l at up it k member p e fresh =
      let (x, is) = seen i c at in
      let level : x.level ≡ suc l = sym (level_is x) ∙ (ap (λ (y : Node Value). y.level) (sym is) ∙ up) in
      let mine : Contains (items_of x.block) it = subst (λ (b : List ℕ). Contains (items_of b) it) (ap (λ (y : Node Value). y.block) is ∙ block_is x) member in
      let (n, named, id_is) = item_named (suc l) (rank x.hi) (items_of x.block) it k mine p e in
      let named_c : Contains c.names n = subst (λ ns. Contains ns n) (sym (ap (λ (y : Node Value). y.names) is ∙ names_are x l level)) named in
      free.names k fresh.0 fresh.1 (n, (i, c, at, named_c), id_is)

-- ---- the cells above

module _ (now : Store Value) (r : Root) (it : IsPart now r) (seen : AreSeen now) (f : Fresh) (free : IsFree f.next f.end now) (b : Budget) (is : IsBudget now r b) where
  not_fresh : (i : ℕ) (c : Node Value) → now i ≡ Some c → IsFresh f i → ⊥
  not_fresh i c at fresh = none-some c (sym (free.cells i fresh.0 fresh.1) ∙ at)

  pub up_path : (l : ℕ) (lower : CellSeen) (more : List Step) → 1 ≤ l → lower.level ≡ l → Ascends now (Some lower) (olds more) → AreUp f b l more
  up_path l lower [] low level path = tt
  up_path l lower (u ∷ us) low level (at, pos, named, rest) =
      let up : u.old.level ≡ suc l = elim ((it.nodes u.old.id (node_of u.old) at).below (name_of lower) named) [
        | inl pointer ↦ let a = pointer.1 in let c = level_is u.old in omega (arith, a, c, level)
        | inr extent ↦ let a = extent.1 in absurd (omega (arith, a, low, level))
      ] in
      let node_up : (node_of u.old).level ≡ suc l = level_is u.old ∙ up in (
        record {
          level = up;
          old = not_fresh u.old.id (node_of u.old) at;
          clean = subst (λ (bytes : List ℕ). HasNoFresh f (items_of bytes)) (block_is u.old) (clean_node now seen f free u.old.id (node_of u.old) l at node_up);
          bears = subst (λ (bytes : List ℕ). Bears (b l) (b (suc l)) (suc l) (items_of bytes) u.old.id) (block_is u.old) (is.bears u.old.id (node_of u.old) l at node_up low);
        },
        up_path (suc l) u.old us (omega (arith, low)) up rest,
      )

-- a new cell above the lowest step suffices for what is left below it
pub bear_of : (f : Fresh) (b after : Budget) (r : Root) (l : ℕ) (s : Step) (more : List Step) (over : Option CellSeen) → s.old.level ≡ l → AreUp f b l more → Climbs (Some s) more → Ends r (s ∷ more) over → AllBear after l more over
    → (x : CellSeen) → Contains (news more over) x → (k : ℕ) × (l ≤ k) × (x.level ≡ suc k) × Bears (after k) (after (suc k)) (suc k) (items_of x.block) x.id
bear_of f b after r l s [] None level ups climbs ends bear x member = absurd (none x member)
bear_of f b after r l s [] (Some c) level ups climbs ends bear x member = elim (cases c x [] member) [
  | inl e ↦ subst (λ (z : CellSeen). (k : ℕ) × (l ≤ k) × (z.level ≡ suc k) × Bears (after k) (after (suc k)) (suc k) (items_of z.block) z.id) (sym e) (l, omega arith, ends.level ∙ ap suc level, bear)
  | inr m ↦ absurd (none x m)
]
bear_of f b after r l s (u ∷ us) over level (up, ups) (step, climbs) ends (bear, rest) x member = elim (Contains-append_cases u.new (news us over) x member) [
  | inl mine ↦ (l, omega arith, (follow_within u.old.level (rank u.old.lo) (rank u.old.hi) u.new x step.ranges mine).level_as ∙ up.level, bear x mine)
  | inr more ↦ let (k, le, xl, h) = bear_of f b after r (suc l) u us over up.level ups climbs ends rest x more in (k, omega (arith, le), xl, h)
]

-- ---- all of it

pub not_named : (cells : List CellSeen) (i : ℕ) → by_name cells i ≡ None → Contains (ids_of cells) i → ⊥
not_named [] i e member = none i member
not_named (x ∷ xs) i e member = elim (cases_eq x.id i) [
  | inl same ↦ none-some (node_of x) (sym e ∙ here_named x xs i same)
  | inr other ↦ elim (cases x.id i (ids_of xs) member) [
    | inl h ↦ other (sym h)
    | inr m ↦ not_named xs i (sym (later_named x xs i other) ∙ e) m
  ]
]

-- The cells of a change of a level and of those above it: it begins at a cell that stands, with what is in the budget, and
-- its new cells of that level suffice for what may come below them.
pub record IsLift (now : Store Value) (r : Root) (f : Fresh) (b : Budget) (l : ℕ) (s : Step) (more : List Step) (over : Option CellSeen) : Type 0 where
  pub low : 1 ≤ l
  pub first : ids_of s.new ≡ s.old.id ∷ ids_of (drop 1 s.new)
  pub level : s.old.level ≡ l
  pub levels : (x : CellSeen) → Contains s.new x → x.level ≡ l
  pub come : length (drop 1 s.new) ≤ b l s.old.id
  pub fresh : (i : ℕ) → Contains (fresh_ids (s ∷ more) over) i → IsFresh f i
  pub climbs : Climbs (Some s) more
  pub keep : (u : Step) → Contains more u → StepKeeps u
  pub needed : AreNeeded (s ∷ more)
  pub rows : AreRows (s ∷ more) over
  pub ends : Ends r (s ∷ more) over
  pub stands : now s.old.id ≡ Some (node_of s.old)
  pub ups : Ascends now (Some s.old) (olds more)
  pub own : (x : CellSeen) (m : ℕ) → Contains s.new x → l ≡ suc m → 1 ≤ m → Bears (b m) (none_at s.new (b l)) l (items_of x.block) x.id

-- The patch has these cells, and others below the twigs.
pub record IsLiftOf (p : Patch Value) (others : List CellSeen) (s : Step) (more : List Step) (over : Option CellSeen) : Type 0 where
  pub low : (x : CellSeen) → Contains others x → x.level ≤ 1
  pub from : (i : ℕ) (n : Node Value) → p.new i ≡ Some n → (x : CellSeen) × (Contains others x ⊎ Contains (s.new ++ news more over) x) × (x.id ≡ i) × (n ≡ node_of x)
  pub all : (i : ℕ) → p.new i ≡ None → Contains (ids_of (s.new ++ news more over)) i → ⊥
  pub root : p.root ≡ option_map root_of_pair (root_pair over)

module _ (now : Store Value) (r : Root) (it : IsPart now r) (seen : AreSeen now) (f : Fresh) (free : IsFree f.next f.end now) (unplaced : 2 ^ 63 ≤ f.next) (high : f.end < 2 ^ 64) (able : IsPointable r.id) (b : Budget) (is : IsBudget now r b)
    (l : ℕ) (s : Step) (more : List Step) (over_root : Option CellSeen) (lift : IsLift now r f b l s more over_root) where
  abbrev left : ℕ → ℕ
  left = none_at s.new (b l)

  zeros : (cells : List CellSeen) → ((c : CellSeen) → Contains cells c → left c.id ≡ 0) → sum_by (λ (c : CellSeen). left c.id) cells ≡ 0
  zeros [] h = refl
  zeros (c ∷ cs) h = let a = sum_by-cons (λ (x : CellSeen). left x.id) c cs in let z = h c (here c cs) in let rest = zeros cs (λ x m. h x (later c x cs m)) in omega (arith, a, z, rest)

  spent : IsSpent f (b l) left s
  spent = record {
    less = λ i h. none_less s.new (b l) i;
    spent = let z = zeros s.new (λ c m. none_member s.new (b l) c m) in let h = lift.come in omega (arith, z, h);
    small = λ i. let h = none_less s.new (b l) i in let m = is.small l i in omega (arith, h, m);
    others = λ i out. none_other s.new (b l) i out;
    once = λ one c m. none_member s.new (b l) c m;
  }

  ups_are : AreUp f b l more
  ups_are = up_path now r it seen f free b is l s.old more lift.low lift.level lift.ups

  -- an old cell that is the root stands at its level
  tops : (u : Step) → Contains (s ∷ more) u → u.old.id ≡ r.id → u.old.level ≡ r.height
  tops u member is_root = elim (cases s u more member) [
    | inl same ↦
        let at : now u.old.id ≡ Some (node_of u.old) = subst (λ (v : Step). now v.old.id ≡ Some (node_of v.old)) (sym same) lift.stands in
        let h = root_high now r it u.old.id (node_of u.old) at is_root in
        let v = level_is u.old in
        omega (arith, h, v)
    | inr above ↦
        let at = stands_old more (Some s.old) lift.ups u above in
        let h = root_high now r it u.old.id (node_of u.old) at is_root in
        let v = level_is u.old in
        omega (arith, h, v)
  ]
    where
      stands_old : (steps : List Step) (below : Option CellSeen) → Ascends now below (olds steps) → (u : Step) → Contains steps u → now u.old.id ≡ Some (node_of u.old)
      stands_old [] below path u member = absurd (none u member)
      stands_old (v ∷ vs) below (at, low, named, rest) u member = elim (cases v u vs member) [
        | inl same ↦ subst (λ (x : Step). now x.old.id ≡ Some (node_of x.old)) (sym same) at
        | inr above ↦ stands_old vs (Some v.old) rest u above
      ]

  pub rises : Rises r f b l left more over_root
  rises = climbing f unplaced high r able b is.small is.root l left s more over_root lift.low lift.level spent lift.first lift.fresh lift.rows lift.needed lift.keep lift.climbs lift.ends tops ups_are

  less : (k i : ℕ) → (IsFresh f i → ⊥) → rises.after k i ≤ b k i
  less = rises.less

  same_below : (k i : ℕ) → (Contains (ids_of (s.new ++ news more over_root)) i → ⊥) → rises.after k i ≡ b k i
  same_below k i out = elim (cases_eq k l) [
    | inl one ↦ subst (λ j. rises.after j i ≡ b j i) (sym one) (ap (λ g. g i) rises.at ∙ spent.others i (λ m. out (in_left s.new (news more over_root) i m)))
    | inr ne ↦ rises.others k i ne (λ m. out (in_right s.new (news more over_root) i m))
  ]

  kept_node : (i : ℕ) (c : Node Value) (k : ℕ) → now i ≡ Some c → (Contains (ids_of (s.new ++ news more over_root)) i → ⊥) → c.level ≡ suc k → 1 ≤ k → Bears (rises.after k) (rises.after (suc k)) (suc k) (items_of c.block) i
  kept_node i c k at out up low =
      let clean = clean_node now seen f free i c k at up in
      let a = less_below f (b k) (rises.after k) (less k) (items_of c.block) clean in
      let g = less_grows f (b k) (rises.after k) (less k) (items_of c.block) clean in
      let own = same_below (suc k) i out in
      elim (is.bears i c k at up low) [
        | inl fits ↦ inl (omega (arith, a, fits))
        | inr rest ↦ elim rest [
          | inl empty ↦ inr (inl (omega (arith, a, empty)))
          | inr rest2 ↦ elim rest2 [
            | inl twig ↦ let h = twig.1 in inr (inr (inl (twig.0, omega (arith, g, h, own))))
            | inr node ↦ let h = node.1 in inr (inr (inr (node.0, omega (arith, a, h, own))))
          ]
        ]
      ]

  new_node : (x : CellSeen) (k : ℕ) → Contains (s.new ++ news more over_root) x → (node_of x).level ≡ suc k → 1 ≤ k → Bears (rises.after k) (rises.after (suc k)) (suc k) (items_of (node_of x).block) x.id
  new_node x k member up low = elim (Contains-append_cases s.new (news more over_root) x member) [
    | inl mine ↦
        let v = level_is x in
        let same : l ≡ suc k = sym (lift.levels x mine) ∙ (sym v ∙ up) in
        subst (λ (bytes : List ℕ). Bears (rises.after k) (rises.after (suc k)) (suc k) (items_of bytes) x.id) (sym (block_is x))
        (subst (λ j. Bears (rises.after k) (rises.after j) j (items_of x.block) x.id) same
        (subst (λ g. Bears (rises.after k) g l (items_of x.block) x.id) (sym rises.at)
        (subst (λ g. Bears g left l (items_of x.block) x.id) (sym (rises.low k (omega (arith, same)))) (lift.own x k mine same low))))
    | inr upper ↦
        let (j, le, xl, h) = bear_of f b rises.after r l s more over_root lift.level ups_are lift.climbs lift.ends rises.bear x upper in
        let v = level_is x in
        let same : j ≡ k = omega (arith, v, xl, up) in
        subst (λ (bytes : List ℕ). Bears (rises.after k) (rises.after (suc k)) (suc k) (items_of bytes) x.id) (sym (block_is x))
        (subst (λ j. Bears (rises.after j) (rises.after (suc j)) (suc j) (items_of x.block) x.id) same h)
  ]

  -- the new cells and what may come of them are in what the old ones had, and in a new root
  pub lifted_few : cells_from rises.after (s.new ++ news more over_root) ≤ cells_from b (s.old ∷ olds more) + over_count over_root
  lifted_few =
      let x = sum_by-append (λ (c : CellSeen). 1 + rises.after c.level c.id) s.new (news more over_root) in
      let y = sum_by-cons (λ (c : CellSeen). 1 + b c.level c.id) s.old (olds more) in
      let one = step_few b rises.after s l lift.level lift.levels lift.first (subst (λ g. spent_on g s ≤ b l s.old.id) (sym rises.at) spent.spent) in
      let above = steps_few b rises.after f (Some s) l more over_root ups_are lift.climbs rises.spent (λ c is_over. let (lt, le, none_left, some) = rises.new_root c is_over in none_left) in
      omega (arith, x, y, one, above)

  -- ---- with the change in place

  module _ (p : Patch Value) (others : List CellSeen) (of : IsLiftOf p others s more over_root) where
    all_nodes : (i : ℕ) (c : Node Value) (k : ℕ) → place p now i ≡ Some c → c.level ≡ suc k → 1 ≤ k → Bears (rises.after k) (rises.after (suc k)) (suc k) (items_of c.block) i
    all_nodes i c k at up low = by_new (p.new i) refl (p.old i) at
      where
        by_new : (o : Option (Node Value)) → p.new i ≡ o → (q : Option (Node Value)) → over o q (now i) ≡ Some c → Bears (rises.after k) (rises.after (suc k)) (suc k) (items_of c.block) i
        by_new (Some n) o q h =
            let (x, member, id_is, says) = of.from i n o in
            let same : c ≡ node_of x = sym (same_Some n c h) ∙ says in
            let x_up : (node_of x).level ≡ suc k = ap (λ (z : Node Value). z.level) (sym same) ∙ up in
            elim member [
              | inl below ↦ let one = of.low x below in let v = level_is x in absurd (omega (arith, one, v, x_up, low))
              | inr mine ↦
                  subst (λ (z : Node Value). Bears (rises.after k) (rises.after (suc k)) (suc k) (items_of z.block) i) (sym same)
                  (subst (λ j. Bears (rises.after k) (rises.after (suc k)) (suc k) (items_of (node_of x).block) j) id_is (new_node x k mine x_up low))
            ]
        by_new None o (Some q) h = absurd (none-some c h)
        by_new None o None h = kept_node i c k h (of.all i o) up low

    abbrev root2 : Root
    root2 = root_after p r

    abbrev HasTop : Option CellSeen → Type 0
    HasTop o = (c : CellSeen) → o ≡ Some c → (l < c.level) × (c.level ≤ 8) × (rises.after c.level c.id ≡ 0) × (1 ≤ b r.height r.id)

    root_same : (o : Option CellSeen) → p.root ≡ option_map root_of_pair (root_pair o) → root2 ≡ unwrap_or (option_map root_of_pair (root_pair o)) r
    root_same o pair = ap (λ (q : Option Root). unwrap_or q r) pair

    root_kept : 1 ≤ rises.after root2.height root2.id → root2.height < 8
    root_kept = by_over over_root rises.new_root of.root
      where
        Low : Root → Type 0
        Low q = 1 ≤ rises.after q.height q.id → q.height < 8

        by_over : (o : Option CellSeen) → ((c : CellSeen) → o ≡ Some c → (l < c.level) × (c.level ≤ 8) × (rises.after c.level c.id ≡ 0) × (1 ≤ b r.height r.id)) → p.root ≡ option_map root_of_pair (root_pair o) → 1 ≤ rises.after root2.height root2.id → root2.height < 8
        by_over None h pair = subst Low (sym (root_same None pair))
            (λ some. is.root (let k = less r.height r.id (not_fresh now r it seen f free b is r.id it.root_node it.root_is) in omega (arith, some, k)))
        by_over (Some c) h pair = subst Low (sym (root_same (Some c) pair))
            (λ some. let z = (h c refl).2 in absurd (omega (arith, z, some)))

    pub lifted_height : r.height ≤ 8 → root2.height ≤ 8
    lifted_height low = by_over over_root rises.new_root of.root
      where
        by_over : (o : Option CellSeen) → ((c : CellSeen) → o ≡ Some c → (l < c.level) × (c.level ≤ 8) × (rises.after c.level c.id ≡ 0) × (1 ≤ b r.height r.id)) → p.root ≡ option_map root_of_pair (root_pair o) → root2.height ≤ 8
        by_over None h pair = subst (λ (q : Root). q.height ≤ 8) (sym (root_same None pair)) low
        by_over (Some c) h pair = subst (λ (q : Root). q.height ≤ 8) (sym (root_same (Some c) pair)) ((h c refl).1)

    -- where nothing may come of the root, it stays
    root_stays : b r.height r.id ≡ 0 → (root2 ≡ r) × (rises.after r.height r.id ≡ 0)
    root_stays zero_root = (by_over over_root rises.new_root of.root, let k = less r.height r.id (not_fresh now r it seen f free b is r.id it.root_node it.root_is) in omega (arith, k, zero_root))
      where
        by_over : (o : Option CellSeen) → ((c : CellSeen) → o ≡ Some c → (l < c.level) × (c.level ≤ 8) × (rises.after c.level c.id ≡ 0) × (1 ≤ b r.height r.id)) → p.root ≡ option_map root_of_pair (root_pair o) → root2 ≡ r
        by_over None h pair = root_same None pair
        by_over (Some c) h pair = let some = (h c refl).3 in absurd (omega (arith, some, zero_root))

    few : most_from rises.after root2 (s.new ++ news more over_root) ≤ most_from b r (s.old ∷ olds more)
    few = by_over over_root rises.new_root of.root lifted_few
      where
        Few : Root → Type 0
        Few q = most_from rises.after q (s.new ++ news more over_root) ≤ most_from b r (s.old ∷ olds more)

        by_over : (o : Option CellSeen) → ((c : CellSeen) → o ≡ Some c → (l < c.level) × (c.level ≤ 8) × (rises.after c.level c.id ≡ 0) × (1 ≤ b r.height r.id)) → p.root ≡ option_map root_of_pair (root_pair o)
            → cells_from rises.after (s.new ++ news more over_root) ≤ cells_from b (s.old ∷ olds more) + over_count o → Few root2
        by_over None h pair cells = subst Few (sym (root_same None pair))
            (let k = less r.height r.id (not_fresh now r it seen f free b is r.id it.root_node it.root_is) in kept_root (rises.after r.height r.id) (b r.height r.id) k cells)
          where
            kept_root : (x y : ℕ) → x ≤ y → cells_from rises.after (s.new ++ news more over_root) ≤ cells_from b (s.old ∷ olds more) + 0
                → cells_from rises.after (s.new ++ news more over_root) + min 1 x ≤ cells_from b (s.old ∷ olds more) + min 1 y
            kept_root x y le h = let m = min_less x y le in omega (arith, m, h)
        by_over (Some c) h pair cells = subst Few (sym (root_same (Some c) pair))
            (let (lt, le, none_left, some) = h c refl in other_root (rises.after c.level c.id) (b r.height r.id) none_left some cells)
          where
            other_root : (x y : ℕ) → x ≡ 0 → 1 ≤ y → cells_from rises.after (s.new ++ news more over_root) ≤ cells_from b (s.old ∷ olds more) + 1
                → cells_from rises.after (s.new ++ news more over_root) + min 1 x ≤ cells_from b (s.old ∷ olds more) + min 1 y
            other_root x y z some h =
                let m : min 1 x ≡ 0 = ap (min 1) z in
                let k = min_less 1 y some in
                let o : min 1 1 ≡ 1 = refl in
                omega (arith, m, k, o, h)

    pub lifted_budget : (c2 : Budget) × IsBudget (place p now) root2 c2 × ((k i : ℕ) → (Contains (ids_of (s.new ++ news more over_root)) i → ⊥) → c2 k i ≡ b k i) × ((k i : ℕ) → (IsFresh f i → ⊥) → c2 k i ≤ b k i)
        × (most_from c2 root2 (s.new ++ news more over_root) ≤ most_from b r (s.old ∷ olds more)) × (b r.height r.id ≡ 0 → (root2 ≡ r) × (c2 r.height r.id ≡ 0)) × ((k : ℕ) → k < l → c2 k ≡ b k)
    lifted_budget = (rises.after, record { bears = all_nodes; small = rises.small; root = root_kept }, same_below, less, few, root_stays, rises.low)

    pub lifted_seen : AreSeen (place p now)
    lifted_seen i c at = by_new (p.new i) refl (p.old i) at
      where
        by_new : (o : Option (Node Value)) → p.new i ≡ o → (q : Option (Node Value)) → over o q (now i) ≡ Some c → (x : CellSeen) × (c ≡ node_of x)
        by_new (Some n) o q h = let (x, member, id_is, says) = of.from i n o in (x, sym (same_Some n c h) ∙ says)
        by_new None o (Some q) h = absurd (none-some c h)
        by_new None o None h = seen i c h

module _ (now : Store Value) (r : Root) (it : IsPart now r) (seen : AreSeen now) (f after : Fresh) (free : IsFree f.next f.end now) (unplaced : 2 ^ 63 ≤ f.next) (high : f.end < 2 ^ 64) (takes : OnlyTakes f after) (able : IsPointable r.id)
    (b : Budget) (is : IsBudget now r b) (us : List LeafUnit) (leaf : CellSeen) (ups : List CellSeen) (d : Change) (leaf_level : leaf.level ≡ 1) (path : Ascends now None (leaf ∷ ups))
    (enough : (leaf_bytes us ≤ 4068) ⊎ IsLongEnough r (extra_cells us) leaf ups) (has : (leaf_bytes us ≤ 4068) ⊎ (extra_cells us ≤ b 1 leaf.id)) (e : Edits leaf ups us f after d) where
  abbrev s : Step
  s = e.lowest

  first : ids_of s.new ≡ s.old.id ∷ ids_of (drop 1 s.new)
  first = e.climbs.0.first

  s_level : s.old.level ≡ 1
  s_level = ap (λ (c : CellSeen). c.level) e.old ∙ leaf_level

  long : (cells : List CellSeen) → 1 ≤ length cells → length cells ≡ 1 + length (drop 1 cells)
  long [] h = absurd (omega (arith, h))
  long (c ∷ cs) h = omega arith

  come : length (drop 1 s.new) ≤ b 1 s.old.id
  come =
      let same : b 1 s.old.id ≡ b 1 leaf.id = ap (λ (c : CellSeen). b 1 c.id) e.old in
      elim (cases_lt 4068 (leaf_bytes us)) [
        | inl over ↦
            let n = e.several over in
            let l = long s.new (omega (arith, n)) in
            elim has [ inl fits ↦ absurd (omega (arith, over, fits)) | inr h ↦ omega (arith, n, l, h, same) ]
        | inr fits ↦ let n = e.one fits in let l = long s.new (omega (arith, n)) in omega (arith, n, l)
      ]

  fresh : (i : ℕ) → Contains (fresh_ids (s ∷ e.more) e.over) i → IsFresh f i
  fresh i member =
      let w = count_within f.next (fresh_ids (s ∷ e.more) e.over) i e.counts member in
      let n = ap (λ (x : Fresh). x.next) e.number in
      (omega (arith, w), omega (arith, w, n, takes))

  ends : Ends r (s ∷ e.more) e.over
  ends = e.ends r (elim enough [
    | inl fits ↦ inl (e.one fits)
    | inr h ↦ elim (cases_lt 4068 (leaf_bytes us)) [
      | inl over ↦ let n = e.several over in let l = long s.new (omega (arith, n)) in inr (fewer r (extra_cells us) (length (drop 1 s.new)) leaf ups (omega (arith, n, l)) h)
      | inr fits ↦ inl (e.one fits)
    ]
  ])
    where
      fewer : (r : Root) (n m : ℕ) (c : CellSeen) (cs : List CellSeen) → m ≤ n → IsLongEnough r n c cs → IsLongEnough r m c cs
      fewer r n m c [] le h = h
      fewer r n m c (d ∷ ds) le h = elim h [ inl room ↦ inl (omega (arith, room, le)) | inr rest ↦ inr rest ]

  ups_stand : Ascends now (Some leaf) (olds e.more)
  ups_stand = subst (λ cells. Ascends now (Some leaf) cells) (sym e.ups_are) (ascends_take now (Some leaf) (length e.more) ups path.3)

  lift : IsLift now r f b 1 s e.more e.over
  lift = record {
    low = omega arith;
    first = first;
    level = s_level;
    levels = λ x m. (follow_within s.old.level (rank s.old.lo) (rank s.old.hi) s.new x e.climbs.0.ranges m).level_as ∙ s_level;
    come = come;
    fresh = fresh;
    climbs = e.climbs.1;
    keep = e.keep;
    needed = e.needed;
    rows = e.rows;
    ends = ends;
    stands = subst (λ (c : CellSeen). now c.id ≡ Some (node_of c)) (sym e.old) path.0;
    ups = subst (λ (c : CellSeen). Ascends now (Some c) (olds e.more)) (sym e.old) ups_stand;
    own = λ x m member one some. absurd (omega (arith, one, some));
  }

  pub new_are : d.new ≡ s.new ++ news e.more e.over
  new_are = e.levels.new

  of : IsLiftOf (patch_of_change d) [] s e.more e.over
  of = record {
    low = λ x m. absurd (none x m);
    from = λ i n o. let (x, member, id_is, says) = found d.new i n o in (x, inr (subst (λ cs. Contains cs x) new_are member), id_is, says);
    all = λ i o m. not_named d.new i o (subst (λ cs. Contains (ids_of cs) i) (sym new_are) m);
    root = ap (option_map root_of_pair) e.levels.pair;
  }

  pub height_kept : r.height ≤ 8 → (root_after (patch_of_change d) r).height ≤ 8
  height_kept = lifted_height now r it seen f free unplaced high able b is 1 s e.more e.over lift (patch_of_change d) [] of

  pub seen_kept : AreSeen (place (patch_of_change d) now)
  seen_kept = lifted_seen now r it seen f free unplaced high able b is 1 s e.more e.over lift (patch_of_change d) [] of

  pub budget_kept : (left : Budget) × IsBudget (place (patch_of_change d) now) (root_after (patch_of_change d) r) left × ((k i : ℕ) → (Contains (ids_of d.new) i → ⊥) → left k i ≡ b k i) × ((k i : ℕ) → (IsFresh f i → ⊥) → left k i ≤ b k i)
      × (most_from left (root_after (patch_of_change d) r) d.new ≤ most_from b r d.old) × (b r.height r.id ≡ 0 → (root_after (patch_of_change d) r ≡ r) × (left r.height r.id ≡ 0))
  budget_kept =
      let (c2, budget, same, less, few, stays, low) = lifted_budget now r it seen f free unplaced high able b is 1 s e.more e.over lift (patch_of_change d) [] of in (
        c2,
        budget,
        (λ k i out. same k i (λ m. out (subst (λ cs. Contains (ids_of cs) i) (sym new_are) m))),
        less,
        subst (λ cs. most_from c2 (root_after (patch_of_change d) r) cs ≤ most_from b r d.old) (sym new_are)
            (subst (λ cs. most_from c2 (root_after (patch_of_change d) r) (s.new ++ news e.more e.over) ≤ most_from b r cs) (sym e.levels.old) few),
        stays,
      )
