-- The cells that stand suffice for what is in the budget.
use Rattle.std.proofs.Common.{◌≡◌, ◌≢◌, ◌⊎◌, inl, inr, ℕ, zero, suc, ◌+◌, ◌*◌, ◌<◌, ◌≤◌, Bool, true, false, List, [], ◌∷◌, ◌++◌, refl, ap, sym, subst, ◌∙◌, arith}
use Rattle.std.specs.Prelude.{Contains, Option, None, Some, ◌==◌, ◌&&◌, if◌then◌else◌, min, nat_le, nat_lt}
use Rattle.std.proofs.lemmas.Bool.{cases_lt, eq-eqb}
use Rattle.std.proofs.lemmas.List.Sums.{sum_by-append, sum_by-cons}
use Rattle.std.proofs.lemmas.Option.{none-some}
use Rattle.r4_base.specs.Extents.{pointer_of}
use Rattle.r4_base.specs.Key.{rank}
use Rattle.r4_base.specs.Node.{Item, items_of}
use Rattle.r4_base.specs.Tree.{Name, Node, Root, Store}
use Rattle.r4_base.specs.Value.{Value}
use Rattle.r4_base.proofs.Trees.{one_cell}
use Rattle.r4_reach.specs.r4_cell.Seen.{CellSeen, node_of}
use Rattle.r4_reach.specs.r4_patch.Part.{IsPart}
use Rattle.r4_reach.proofs.r4_patch.PartCells.{in_name, in_namer, one_above, parent, root_high}
use Rattle.r4_reach.specs.r4_path.Levels.{IsLongEnough}
use Rattle.r4_reach.specs.r4_path.Nodes.{weight}
use Rattle.r4_reach.specs.r4_path.Steps.{name_of}
use Rattle.r4_reach.proofs.r4_path.CellNodes.{names_are}
use Rattle.r4_reach.proofs.r4_path.Finding.{find}
use Rattle.r4_reach.proofs.r4_patch.Members.{cases, none}
use Rattle.r4_reach.proofs.r4_path.Rising.{InCell, hi_is, in_node, level_is, lo_is}
use Rattle.std.specs.Option.{option_or}
use Rattle.r4_work.specs.Order.{IsAt, cell_at, is_at}
use Rattle.r4_work.specs.Working.{first_and, ups_of}
use Rattle.r4_work.proofs.Paths.{found_is, names_next}
use Rattle.r4_measure.specs.Budget.{Bears, Budget, IsBudget, below, grows, of_item, of_target}
use Rattle.r4_measure.proofs.Kept.{block_is}

-- a cell of the list has the key, so one is found
is_there : (level k : ℕ) (c : CellSeen) → c.level ≡ level → InCell c k → is_at level k c ≡ true
is_there level k c l at = both (c.level == level) (nat_le (rank c.lo) k) (nat_lt k (rank c.hi)) (eq-eqb c.level level l) (let a = at.0 in grind (arith, a)) (let b = at.1 in grind (arith, b))
  where
    both : (x y z : Bool) → x ≡ true → y ≡ true → z ≡ true → x && y && z ≡ true
    both true true z a b c = c
    both true false z a b c = absurd cc
    both false y z a b c = absurd cc

pub finds : (cells : List CellSeen) (level k : ℕ) (x : CellSeen) → Contains cells x → x.level ≡ level → InCell x k
    → (q : CellSeen) × (cell_at cells level k ≡ Some q)
finds [] level k x member l at = absurd (none x member)
finds (y ∷ ys) level k x member l at = elim (cases y x ys member) [
  | inl e ↦ taken (cell_at ys level k) (is_at level k y) (subst (λ z. is_at level k z ≡ true) e (is_there level k x l at))
  | inr rest ↦
      let (q, h) = finds ys level k x rest l at in
      (q, ap (λ o. option_or o (if is_at level k y then Some y else None)) h)
]
  where
    taken : (o : Option CellSeen) (v : Bool) → v ≡ true
        → (q : CellSeen) × (option_or o (if v then Some y else None) ≡ Some q)
    taken (Some q) v h = (q, refl)
    taken None true h = (y, refl)
    taken None false h = absurd cc

-- one pointer more than there is room for: something may come of the node
pub room_or_more : (under own : ℕ → ℕ) (level : ℕ) (items before : List Item) (p : Item) (behind : List Item) (id i come : ℕ) → items ≡ before ++ p ∷ behind → p.plugin ≡ 3 → pointer_of p.body ≡ Some i → Bears under own level items id
    → 1 ≤ come → come ≤ under i → (weight items + 46 * come ≤ 4068) ⊎ (1 ≤ own id)
room_or_more under own level items before p behind id i come parts plugin to bears some fits =
    let target : of_item under p ≡ under i = by_plugin (p.plugin == 3) (eq-eqb p.plugin 3 plugin) in
    let e = ap (below under) parts in
    let a = sum_by-append (of_item under) before (p ∷ behind) in
    let b = sum_by-cons (of_item under) p behind in
    let e2 = ap (grows under) parts in
    let a2 = sum_by-append (λ (it : Item). min 1 (of_item under it)) before (p ∷ behind) in
    let b2 = sum_by-cons (λ (it : Item). min 1 (of_item under it)) p behind in
    let m : 1 ≤ min 1 (of_item under p) = at_least (of_item under p) (omega (arith, target, some, fits)) in
    elim bears [
      | inl room ↦ inl (omega (arith, room, e, a, b, target, fits))
      | inr rest ↦ elim rest [
        | inl empty ↦ absurd (omega (arith, empty, e, a, b, target, some, fits))
        | inr rest2 ↦ elim rest2 [
          | inl twig ↦ let h = twig.1 in inr (omega (arith, h, e2, a2, b2, m))
          | inr node ↦ let h = node.1 in elim (cases_lt 4068 (weight items + 46 * come)) [
            | inl over ↦ inr (omega (arith, h, e, a, b, target, fits, over))
            | inr room ↦ inl room
          ]
        ]
      ]
    ]
  where
    by_plugin : (v : Bool) → v ≡ true → (if v then of_target under (pointer_of p.body) else 0) ≡ under i
    by_plugin true h = ap (of_target under) to
    by_plugin false h = absurd cc

    at_least : (n : ℕ) → 1 ≤ n → 1 ≤ min 1 n
    at_least zero h = absurd (omega (arith, h))
    at_least (suc n) h = omega arith

module _ (s : Store Value) (r : Root) (part : IsPart s r) (b : Budget) (budget : IsBudget s r b) (cells : List CellSeen) (stand : (c : CellSeen) → Contains cells c → s c.id ≡ Some (node_of c)) (high : r.height ≤ 8)
    (kept : (i : ℕ) (c : Node Value) (n : Name) → s i ≡ Some c → Contains c.names n → 1 ≤ n.level → 1 ≤ b n.level n.id → (x : CellSeen) × Contains cells x × (x.id ≡ i)) (k : ℕ) where
  -- nothing stands above the root
  none_over : (l : ℕ) → r.height < l → cell_at cells l k ≡ None
  none_over l lt = by_found (cell_at cells l k) refl
    where
      by_found : (o : Option CellSeen) → cell_at cells l k ≡ o → o ≡ None
      by_found None e = refl
      by_found (Some q) e =
          let at = found_is cells l k q e in
          let most = part.none_above q.id (node_of q) (stand q at.among) in
          let ql = at.level_is in
          let v = level_is q in
          absurd (omega (arith, most, ql, v, lt))

  -- the cell that names one of which something may come is found
  next_found : (l : ℕ) (c : CellSeen) → IsAt cells l k c → 1 ≤ l → 1 ≤ b l c.id → c.id ≢ r.id → (q : CellSeen) × (cell_at cells (l + 1) k ≡ Some q) × (l < r.height)
  next_found l c at low some not_root =
      let sc = stand c at.among in
      let cl = at.level_is in
      let v = level_is c in
      elim (parent s r part c.id (node_of c) sc) [
        | inl is ↦ absurd (not_root is)
        | inr h ↦
            let (j, d, n, sd, dn, is, f) = h in
            let nl = f.level in
            let dl = one_above d n (part.nodes j d sd) dn (omega (arith, nl, v, cl, low)) in
            let level : n.level ≡ l = omega (arith, nl, v, cl) in
            let some_n : 1 ≤ b n.level n.id = subst (λ m. 1 ≤ b m n.id) (sym level) (subst (λ i. 1 ≤ b l i) (sym is) some) in
            let (x, member, xj) = kept j d n sd dn (omega (arith, level, low)) some_n in
            let sx = stand x member in
            let same : d ≡ node_of x = one_cell s j d (node_of x) sd (subst (λ i. s i ≡ Some (node_of x)) xj sx) in
            let in_d = in_namer d n k (part.nodes j d sd) dn (in_name (node_of c) n k f (in_node c k at.range)) in
            let xl = level_is x in
            let xlo = lo_is x in
            let xhi = hi_is x in
            let el = ap (λ (y : Node Value). y.level) same in
            let elo = ap (λ (y : Node Value). y.lo) same in
            let ehi = ap (λ (y : Node Value). y.hi) same in
            let (q, found) = finds cells (l + 1) k x member (omega (arith, el, xl, dl, level)) (omega (arith, in_d, elo, xlo), omega (arith, in_d, ehi, xhi)) in
            let most = part.none_above j d sd in
            (q, found, omega (arith, most, dl, level))
      ]

  pub long_enough : (n l : ℕ) (c : CellSeen) (come : ℕ) → IsAt cells l k c → 1 ≤ l → 8 ≤ l + n → 1 ≤ come → come ≤ b l c.id → IsLongEnough r come c (ups_of n cells (l + 1) k)
  unfolding ups_of
  long_enough zero l c come at low fuel some fits =
      let cl = at.level_is in
      let v = level_is c in
      elim (cases_root (c.id == r.id) refl) [
        | inl is ↦ root_case l c at is (omega (arith, some, fits))
        | inr not_root ↦ let (q, found, lt) = next_found l c at low (omega (arith, some, fits)) not_root in absurd (omega (arith, lt, high, fuel))
      ]
    where
      cases_root : (t : Bool) → (c.id == r.id) ≡ t → (c.id ≡ r.id) ⊎ (c.id ≢ r.id)
      cases_root true g = inl (grind (arith, g))
      cases_root false g = inr (λ e. absurd (grind (arith, g, e)))

      root_case : (l : ℕ) (c : CellSeen) → IsAt cells l k c → c.id ≡ r.id → 1 ≤ b l c.id → (c.id ≡ r.id) × (c.level < 8)
      root_case l c at is some =
          let cl = at.level_is in
          let v = level_is c in
          let top = root_high s r part c.id (node_of c) (stand c at.among) is in
          let lr : l ≡ r.height = omega (arith, cl, v, top) in
          let small = budget.root (subst (λ m. 1 ≤ b m r.id) lr (subst (λ i. 1 ≤ b l i) is some)) in
          (is, omega (arith, small, lr, cl))
  long_enough (suc n) l c come at low fuel some fits =
      elim (cases_root (c.id == r.id) refl) [
        | inl is ↦ root_up (cell_at cells (l + 1) k) (none_over (l + 1) (let top = root_high s r part c.id (node_of c) (stand c at.among) is in let cl = at.level_is in let v = level_is c in omega (arith, top, cl, v))) (root_case is)
        | inr not_root ↦
            let (q, found, lt) = next_found l c at low (omega (arith, some, fits)) not_root in
            subst (λ o. IsLongEnough r come c (first_and o (ups_of n cells ((l + 1) + 1) k))) (sym found)
            (step (λ p p_at more. long_enough n (l + 1) p 1 p_at (omega (arith, low)) (omega (arith, fuel)) (omega arith) more) q (found_is cells (l + 1) k q found))
      ]
    where
      cases_root : (t : Bool) → (c.id == r.id) ≡ t → (c.id ≡ r.id) ⊎ (c.id ≢ r.id)
      cases_root true g = inl (grind (arith, g))
      cases_root false g = inr (λ e. absurd (grind (arith, g, e)))

      root_case : c.id ≡ r.id → (c.id ≡ r.id) × (c.level < 8)
      root_case is =
          let cl = at.level_is in
          let v = level_is c in
          let top = root_high s r part c.id (node_of c) (stand c at.among) is in
          let lr : l ≡ r.height = omega (arith, cl, v, top) in
          let small = budget.root (subst (λ m. 1 ≤ b m r.id) lr (subst (λ i. 1 ≤ b l i) is (omega (arith, some, fits)))) in
          (is, omega (arith, small, lr, cl))

      root_up : (o : Option CellSeen) → o ≡ None → (c.id ≡ r.id) × (c.level < 8) → IsLongEnough r come c (first_and o (ups_of n cells ((l + 1) + 1) k))
      root_up None e h = h
      root_up (Some q) e h = absurd (none-some q (sym e))

      step : ((p : CellSeen) → IsAt cells (l + 1) k p → 1 ≤ b (l + 1) p.id → IsLongEnough r 1 p (ups_of n cells ((l + 1) + 1) k)) → (q : CellSeen) → IsAt cells (l + 1) k q → IsLongEnough r come c (q ∷ ups_of n cells ((l + 1) + 1) k)
      step go q q_at =
          let ql : q.level ≡ suc l = let h = q_at.level_is in omega (arith, h) in
          let cl = at.level_is in
          let sq = stand q q_at.among in
          let named = names_next s r part c q k (stand c at.among) sq (omega (arith, cl, low)) (omega (arith, cl, ql)) at.range q_at.range in
          let f = find (suc l) (rank q.hi) (items_of q.block) (name_of c) (let h : 1 ≤ c.level = omega (arith, cl, low) in h) (subst (λ ns. Contains ns (name_of c)) (names_are q l ql) named) in
          let bears : Bears (b l) (b (suc l)) (suc l) (items_of q.block) q.id = subst (λ (bytes : List ℕ). Bears (b l) (b (suc l)) (suc l) (items_of bytes) q.id) (block_is q) (budget.bears q.id (node_of q) l sq (level_is q ∙ ql) low) in
          elim (room_or_more (b l) (b (suc l)) (suc l) (items_of q.block) f.before f.p f.behind q.id c.id come f.parts f.points.plugin f.points.to bears some fits) [
            | inl room ↦ inl room
            | inr more ↦ inr (go q q_at (subst (λ m. 1 ≤ b m q.id) (let e : suc l ≡ l + 1 = omega arith in e) more))
          ]
