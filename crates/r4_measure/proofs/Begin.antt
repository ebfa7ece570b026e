-- From what is reached to the first edit.
use Rattle.std.proofs.Common.{Bool, true, false, ◌≡◌, ◌≢◌, inl, inr, ℕ, ◌+◌, ◌-◌, ◌*◌, ◌/◌, ◌^◌, ◌<◌, ◌≤◌, List, [], ◌∷◌, length, refl, ap, sym, subst, ◌∙◌, arith}
use Rattle.std.specs.Prelude.{Contains, Option, None, Some, not, ◌||◌, ◌==◌, if◌then◌else◌, min, nat_lt}
use Rattle.std.proofs.lemmas.Bool.{cases_lt, eq-eqb}
use Rattle.r4_base.specs.Tree.{Name, Node, Root, Store}
use Rattle.r4_base.specs.Value.{Value}
use Rattle.r4_reach.specs.r4_cell.Patch.{Patch, patch_of, place, root_after}
use Rattle.r4_reach.specs.r4_cell.Seen.{CellSeen, node_of}
use Rattle.r4_reach.specs.r4_cell.declared.change.Fresh.{Fresh}
use Rattle.r4_content.specs.Edited.{Edits, Intervals}
use Rattle.r4_reach.specs.r4_patch.Joining.{patch_of_change}
use Rattle.r4_reach.proofs.r4_patch.Members.{here, later}
use Rattle.r4_reach.specs.r4_leaf.Units.{leaf_bytes}
use Rattle.r4_work.specs.r4_edit.Editing.{extra_cells}
use Rattle.r4_work.specs.Working.{IsStart}
use Rattle.r4_work.specs.Working.{IsWorking, now_of, root_of, standing}
use Rattle.r4_work.specs.declared.working.WorkingSet.{WorkingSet}
use Rattle.r4_work.proofs.Starting.{start_working}
use Rattle.std.proofs.lemmas.List.Elements.{Contains-append_right}
use Rattle.std.proofs.lemmas.List.Sorted.{Contains-permutation, sum_by-IsPermutation}
use Rattle.std.proofs.lemmas.List.Sums.{sum_by-append, sum_by-cons}
use Rattle.r4_reach.specs.Demand.{Demand, ask, ask_of, heard}
use Rattle.r4_reach.specs.Needs.{Ask, asking, come_of, cut_in_two, demand_of, is_gone, is_touched, leaf_asks, meets, node_asks, over, twig_asks, units_after}
use Rattle.r4_reach.specs.Touched.{Body}
use Rattle.r4_reach.proofs.Enough.{asks_some, none_meet, over_some}
use Rattle.r4_reach.proofs.Heard.{is_heard}
use Rattle.r4_reach.specs.Leaves.{more_in, more_of, most_of, rise_of}
use Rattle.r4_measure.specs.Asked.{asked_of}
use Rattle.r4_measure.specs.Begin.{AreEditsOf, IsEditOf, IsReachedFor}
use Rattle.r4_measure.specs.Budget.{AreSeen, IsBudget, cells_from, most_from}
use Rattle.r4_measure.specs.Loop.{AreReady, CanRemakeAll, IsReady, LeafTurn, StandAtMost, units_now}
use Rattle.r4_measure.specs.Measured.{IsMeasured}
use Rattle.r4_measure.proofs.Asked.{asked_budget, some_asked, own_of}
use Rattle.r4_measure.proofs.Loop.{all_turns, few_stand}

over_extra : (n : ℕ) → 4068 < n → (n - 4068 + 1023) / 1024 ≤ over n
over_extra n h = by_test (nat_lt 4068 n) refl
  where
    by_test : (v : Bool) → nat_lt 4068 n ≡ v → (n - 4068 + 1023) / 1024 ≤ (if v then 1 + (n - 4068 + 1023) / 1024 else 0)
    by_test true g = omega arith
    by_test false g = absurd (grind (arith, g, h))

module _ (b : Option Body) (e : Edits) (reads rs : Intervals) (t : Store Value) (r : Root) (f : Fresh) (cells : List CellSeen) (is : IsReachedFor b e reads rs t r f cells) where
  abbrev d : Demand Ask
  d = demand_of b e reads rs

  -- a leaf that grows asks for what comes
  leaf_come : (u : LeafTurn) (i : ℕ) (h : IsEditOf b e reads rs t u i) → extra_cells (units_now u h.node) ≤ asked_of d t 1 i
  leaf_come u i h = elim (cases_lt 4068 (leaf_bytes (units_now u h.node))) [
    | inr fits ↦ let z : extra_cells (units_now u h.node) ≤ 0 = omega (arith, fits) in omega (arith, z)
    | inl full ↦
        let same : leaf_bytes (units_after b e h.node) ≡ leaf_bytes (units_now u h.node) = ap leaf_bytes h.units in
        let more = over_extra (leaf_bytes (units_now u h.node)) full in
        let asks = leaf_says h.node (subst (λ n. 4068 < n) (sym same) full) in
        let told = by_touch h.node (is_touched rs h.node) (h.node.level == 1) h.touched (eq-eqb h.node.level 1 h.level) (not (length (heard (ask d t 0) t h.node.names) == 0)) (twig_or h.node) in
        let own : asked_of d t 1 i ≡ over (leaf_bytes (units_after b e h.node)) = own_of d t i 1 h.node h.at ∙ (ap more_of told ∙ asks) in
        let o = ap over same in
        omega (arith, more, own, o)
  ]
    where
      twig_or : Node Value → Option Ask
      twig_or c = if c.level == 2 then twig_asks b e c (heard (ask d t 0) t c.names) else node_asks b c (heard (ask d t 0) t c.names)

      by_touch : (c : Node Value) (x y : Bool) → x ≡ true → y ≡ true → (z : Bool) (rest : Option Ask) → (if x || z then (if y then leaf_asks b e c else rest) else None) ≡ leaf_asks b e c
      by_touch c true true p q z rest = refl
      by_touch c true false p q z rest = absurd cc
      by_touch c false y p q z rest = absurd cc

      by_meet : (v : Bool) → v ≡ false → (x y : Option Ask) → (if v then x else y) ≡ y
      by_meet true g x y = absurd cc
      by_meet false g x y = refl

      leaf_meets : Node Value → Option Ask
      leaf_meets c = asking true (record { more = over (leaf_bytes (units_after b e c)) + cut_in_two (come_of b) c (units_after b e c); gone = is_gone (come_of b) c (units_after b e c) })

      leaf_says : (c : Node Value) → 4068 < leaf_bytes (units_after b e c) → more_of (leaf_asks b e c) ≡ over (leaf_bytes (units_after b e c))
      leaf_says c full =
          let a : Ask = record { more = over (leaf_bytes (units_after b e c)); gone = false } in
          let quiet : meets c.lo c.hi (come_of b) ≡ false = subst (λ q. meets c.lo c.hi q ≡ false) (sym is.quiet.quiet) (none_meet c.lo c.hi) in
          ap more_of (by_meet (meets c.lo c.hi (come_of b)) quiet (leaf_meets c) (asking false a) ∙ asks_some false a (over_some (leaf_bytes (units_after b e c)) full))

  module _ (w : WorkingSet) (start : IsStart cells w) where
    same : patch_of_change w.change ≡ patch_of [] [] None
    same = λ j. patch_of (start.old j) (start.new j) (start.root j)

    as_before : now_of w t ≡ t
    as_before = ap (λ (p : Patch Value). place p t) same

    root_as_before : root_of w r ≡ r
    root_as_before = ap (λ (p : Patch Value). root_after p r) same

    working : IsWorking t r f w
    working = start_working cells w start t r f is.cells_in

    standing_in : (x : CellSeen) → Contains cells x → Contains (standing w) x
    standing_in x m = Contains-append_right w.made w.kept x (Contains-permutation cells w.kept x start.kept m)

    kept : (i : ℕ) (c : Node Value) (n : Name) → t i ≡ Some c → Contains c.names n → 1 ≤ n.level → 1 ≤ asked_of d t n.level n.id → (x : CellSeen) × Contains (standing w) x × (x.id ≡ i)
    kept i c n at names low some = by_node (t n.id) refl
      where
        by_node : (o : Option (Node Value)) → t n.id ≡ o → (x : CellSeen) × Contains (standing w) x × (x.id ≡ i)
        by_node None e2 = absurd (none_some (subst (λ o. 1 ≤ more_of (ask_of (ask d t n.level) o)) e2 some))
          where
            none_some : 1 ≤ 0 → ⊥
            none_some h = omega (arith, h)
        by_node (Some m) e2 =
            let (a, asks) = some_asked (ask d t n.level m) (let own = own_of d t n.id n.level m e2 in omega (arith, own, some)) in
            let up : c.level - 1 ≡ n.level = level_of in
            let hears = is_heard (ask d t n.level) t c.names n m a names (λ z. absurd (omega (arith, z, low))) e2 asks in
            let (x, member, id) = is.written i (c, at, inr (inr (inr (subst (λ l. heard (ask d t l) t c.names ≢ []) (sym up) hears)))) in
            (x, standing_in x member, id)
          where
            level_of : c.level - 1 ≡ n.level
            level_of = elim ((is.cells_in.part.nodes i c at).below n names) [
              | inl h ↦ let k = h.1 in omega (arith, k)
              | inr h ↦ let k = h.1 in absurd (omega (arith, k, low))
            ]

    pub start_measured : IsMeasured t r f w (asked_of d t)
    start_measured = record {
      working = working;
      seen = subst AreSeen (sym as_before) is.quiet.seen;
      budget = subst (λ (u : Store Value). IsBudget u (root_of w r) (asked_of d t)) (sym as_before) (subst (λ (q : Root). IsBudget t q (asked_of d t)) (sym root_as_before)
          (asked_budget b e reads rs t r is.cells_in.part is.quiet));
      height = subst (λ (q : Root). q.height ≤ 8) (sym root_as_before) is.height;
      kept = λ i c n at names low some. kept i c n (subst (λ (u : Store Value). u i ≡ Some c) as_before at) names low some;
    }

    ready_one : (u : LeafTurn) (i : ℕ) → IsEditOf b e reads rs t u i → IsReady t w (asked_of d t) u i
    ready_one u i h =
        let (x, member, id) = is.written i h.written in
        record {
          node = h.node;
          at = ap (λ (v : Store Value). v i) as_before ∙ h.at;
          stands = (x, standing_in x member, id);
          level = h.level;
          key = h.key;
          cuts_within = h.cuts_within;
          within = h.within;
          keys = h.keys;
          can = h.can;
          small = h.small;
          come = leaf_come u i h;
        }

    all_ready : (us : List LeafTurn) (ids : List ℕ) → AreEditsOf b e reads rs t us ids → AreReady t w (asked_of d t) us ids
    all_ready [] [] h = tt
    all_ready [] (i ∷ ids) h = absurd h
    all_ready (u ∷ us) [] h = absurd h
    all_ready (u ∷ us) (i ∷ ids) (h, apart, rest) = (ready_one u i h, apart, all_ready us ids rest)

    pub reach_turns : (us : List LeafTurn) (ids : List ℕ) → AreEditsOf b e reads rs t us ids → 2 ^ 63 ≤ f.next → f.end < 2 ^ 64 → f.next + 64 * length us ≤ f.end → CanRemakeAll t r us f w
    reach_turns us ids h unplaced high numbers = all_turns t r us ids f w (asked_of d t) start_measured (all_ready us ids h) unplaced high numbers

    -- ---- how many cells there may be in the end

    -- each cell and those for which it asks
    asked_cells : (cs : List CellSeen) → ((c : CellSeen) → Contains cs c → t c.id ≡ Some (node_of c)) → cells_from (asked_of d t) cs ≡ length cs + more_in d t cs
    asked_cells [] stand = refl
    asked_cells (c ∷ cs) stand =
        let a = sum_by-cons (λ (x : CellSeen). 1 + asked_of d t x.level x.id) c cs in
        let z = sum_by-cons (λ (x : CellSeen). more_of (ask d t x.level (node_of x))) c cs in
        let own = own_of d t c.id c.level (node_of c) (stand c (here c cs)) in
        let rest = asked_cells cs (λ x m. stand x (later c x cs m)) in
        omega (arith, a, z, own, rest)

    one_root : (o : Option Ask) → min 1 (more_of o) ≤ rise_of o
    one_root None = omega arith
    one_root (Some a) = omega arith

    start_few : most_from (asked_of d t) (root_of w r) (standing w) ≤ most_of d t r cells
    start_few =
        let top = ap (λ (q : Root). min 1 (asked_of d t q.height q.id)) root_as_before in
        let root = one_root (ask_of (ask d t r.height) (t r.id)) in
        let a = sum_by-append (λ (c : CellSeen). 1 + asked_of d t c.level c.id) w.made w.kept in
        let m = ap (cells_from (asked_of d t)) start.made in
        let p = sum_by-IsPermutation (λ (c : CellSeen). 1 + asked_of d t c.level c.id) cells w.kept start.kept in
        let asked = asked_cells cells is.cells_in.stand in
        omega (arith, top, root, a, m, p, asked)

    pub reach_few : (us : List LeafTurn) (ids : List ℕ) → AreEditsOf b e reads rs t us ids → 2 ^ 63 ≤ f.next → f.end < 2 ^ 64 → f.next + 64 * length us ≤ f.end → StandAtMost (most_of d t r cells) t r us f w
    reach_few us ids h unplaced high numbers = few_stand (most_of d t r cells) t r us ids f w (asked_of d t) start_measured (all_ready us ids h) unplaced high numbers start_few
