-- A table that is allowed is a budget of each part of a tree of which the cells are cells.
use Rattle.std.proofs.Common.{◌≡◌, ◌⊎◌, inl, inr, ℕ, suc, ◌-◌, ◌<◌, ◌≤◌, List, [], ◌∷◌, refl, ap, sym, subst, ◌∙◌, arith}
use Rattle.std.specs.Prelude.{Contains, Some}
use Rattle.std.proofs.lemmas.Bool.{cases_eq, cases_lt}
use Rattle.std.proofs.lemmas.Option.{same_Some}
use Rattle.r4_base.specs.Node.{items_of}
use Rattle.r4_base.specs.Tree.{Name, Node, Root, Store}
use Rattle.r4_base.specs.Value.{Value}
use Rattle.r4_extent_put.specs.r4_extent_change.r4_measure.Budget.{Bears, Budget}
use Rattle.r4_extent_put.specs.r4_extent_change.r4_measure.r4_cell.Seen.{CellSeen, node_of}
use Rattle.r4_extent_put.specs.r4_extent_change.r4_measure.r4_cell.declared.change.Fresh.{Fresh}
use Rattle.r4_extent_put.proofs.r4_extent_change.r4_measure.Grafted.{none_below}
use Rattle.r4_extent_put.proofs.r4_extent_change.r4_measure.Kept.{block_is}
use Rattle.r4_extent_put.proofs.r4_extent_change.r4_measure.r4_patch.Members.{cases, here, later, none}
use Rattle.r4_extent_put.proofs.r4_extent_change.r4_measure.r4_patch.PartCells.{named_once, root_unnamed}
use Rattle.r4_extent_put.proofs.r4_extent_change.r4_measure.r4_path.Rising.{level_is}
use Rattle.r4_allowed.specs.Allowing.{AreTaskCells, IsAllowed, IsMeasure, LetsCome}
use Rattle.r4_allowed.specs.Table.{budget_of}
use Rattle.r4_allowed.specs.declared.table.Allowance.{Allowance}
use Rattle.r4_allowed.proofs.Entries.{entry_of}
use Rattle.r4_allowed.proofs.Pointing.{names_it, nothing_below}

-- one of the cells has the number
abbrev Among : List CellSeen → ℕ → Type 0
Among cells i = (x : CellSeen) × Contains cells x × (x.id ≡ i)

among : (cells : List CellSeen) (i : ℕ) → Among cells i ⊎ (Among cells i → ⊥)
among [] i = inr (λ (x, member, is). none x member)
among (c ∷ cells) i = elim (cases_eq c.id i) [
  | inl is ↦ inl (c, here c cells, is)
  | inr other ↦ elim (among cells i) [
    | inl found ↦ let (x, member, is) = found in inl (x, later c x cells member, is)
    | inr off ↦ inr (λ (x, member, is). elim (cases c x cells member) [
      | inl same ↦ other (ap (λ (y : CellSeen). y.id) (sym same) ∙ is)
      | inr rest ↦ off (x, rest, is)
    ])
  ]
]

module _ (t : Store Value) (r : Root) (f : Fresh) (cells : List CellSeen) (table : List Allowance) (task : AreTaskCells t r f cells) (is : IsAllowed r cells table) where
  abbrev b : Budget
  b = budget_of table

  -- what may grow at a level and a number
  Grows : (l i : ℕ) → Type 0
  Grows l i = (a : Allowance) × (a.level ≡ l) × (a.id.0 ≡ i) × (a.most ≡ b l i) × LetsCome r cells a

  grows : (l i : ℕ) → 1 ≤ b l i → Grows l i
  unfolding Grows
  grows l i some =
      let e = entry_of table l i some in
      let most = e.most in
      (e.entry, e.level, e.id, e.most, is.entries e.entry e.member (omega (arith, most, some)))

  quiet : (l i : ℕ) → l ≤ 1 → b l i ≡ 0
  unfolding Grows
  quiet l i low = elim (cases_lt 0 (b l i)) [
    | inl some ↦
        let (a, level, id, most, may) = grows l i (omega (arith, some)) in
        let high = may.high in
        absurd (omega (arith, high, level, low))
    | inr off ↦ omega (arith, off)
  ]

  small : (l i : ℕ) → b l i ≤ 87
  unfolding Grows
  small l i = elim (cases_lt 0 (b l i)) [
    | inl some ↦
        let (a, level, id, most, may) = grows l i (omega (arith, some)) in
        let few = may.few in
        omega (arith, few, most)
    | inr off ↦ omega (arith, off)
  ]

  -- a cell among these stands no higher than the root
  low : (x : CellSeen) → Contains cells x → x.level ≤ r.height
  low x member =
      let h = task.cells_in.part.none_above x.id (node_of x) (task.cells_in.stand x member) in
      let e = level_is x in
      omega (arith, h, e)

  root_low : 1 ≤ b r.height r.id → r.height < 8
  unfolding Grows
  root_low some =
      let (a, level, id, most, may) = grows r.height r.id some in
      elim may.hangs [
        | inl root ↦ root.2
        | inr (p, member, up, points) ↦
            let h = low p member in
            absurd (omega (arith, h, up, level))
      ]

  kept : (i : ℕ) (c : Node Value) (n : Name) → t i ≡ Some c → Contains c.names n → 1 ≤ b n.level n.id → Among cells i
  unfolding Grows
  kept i c n at named some =
      let (a, level, id, most, may) = grows n.level n.id some in
      let (x, x_in, x_level, x_id) = may.stands in
      let stands : t n.id ≡ Some (node_of x) = ap t (sym (x_id ∙ id)) ∙ task.cells_in.stand x x_in in
      elim may.hangs [
        | inl root ↦ absurd (root_unnamed t r task.cells_in.part i c n at named (sym id ∙ root.1))
        | inr (p, member, up, points) ↦
            let (m, m_named, m_id) = names_it p a.level a.id.0 up points in
            let once = named_once t r task.cells_in.part i p.id n.id c (node_of p) (node_of x) n m at (task.cells_in.stand p member) named m_named stands refl (m_id ∙ id) in
            (p, member, sym once.0)
      ]

  module _ (i : ℕ) (c : Node Value) (l : ℕ) (at : t i ≡ Some c) (up : c.level ≡ suc l) where
    abbrev Suffices : Type 0
    Suffices = Bears (b l) (b (suc l)) (suc l) (items_of c.block) i

    of_these : 2 ≤ l → Among cells i → Suffices
    of_these high (x, member, id) =
        let same : c ≡ node_of x = same_Some c (node_of x) (sym at ∙ (ap t (sym id) ∙ task.cells_in.stand x member)) in
        let level : x.level ≡ suc l = sym (level_is x) ∙ (ap (λ (y : Node Value). y.level) (sym same) ∙ up) in
        let bears = is.bear x member (omega (arith, level, high)) in
        let at_level : Bears (b (suc l - 1)) (b (suc l)) (suc l) (items_of x.block) x.id =
        subst (λ k. Bears (b (k - 1)) (b k) k (items_of x.block) x.id) level bears in
        let under : suc l - 1 ≡ l = omega arith in
        let at_under : Bears (b l) (b (suc l)) (suc l) (items_of x.block) x.id =
        subst (λ k. Bears (b k) (b (suc l)) (suc l) (items_of x.block) x.id) under at_level in
        let block : x.block ≡ c.block = sym (ap (λ (y : Node Value). y.block) same ∙ block_is x) in
        subst (λ k. Bears (b l) (b (suc l)) (suc l) (items_of c.block) k) id
        (subst (λ (bytes : List ℕ). Bears (b l) (b (suc l)) (suc l) (items_of bytes) x.id) block at_under)

    of_others : 2 ≤ l → (Among cells i → ⊥) → Suffices
    of_others high off =
        let (x, same) = task.seen i c at in
        let level : x.level ≡ suc l = sym (level_is x) ∙ (ap (λ (y : Node Value). y.level) (sym same) ∙ up) in
        let block : c.block ≡ x.block = ap (λ (y : Node Value). y.block) same ∙ block_is x in
        inr (inl (nothing_below (b l) (items_of c.block) (λ it k member points.
        let mine : Contains (items_of x.block) it = subst (λ (bytes : List ℕ). Contains (items_of bytes) it) block member in
        let (n, named, n_id) = names_it x l k level (it, mine, points) in
        let named_c : Contains c.names n = subst (λ ns. Contains ns n) (sym (ap (λ (y : Node Value). y.names) same)) named in
        let n_level : n.level ≡ l = elim ((task.cells_in.part.nodes i c at).below n named_c) [
          | inl node ↦ let e = node.1 in omega (arith, e, up)
          | inr block_of ↦ let e = block_of.0 in absurd (omega (arith, e, up, high))
        ] in
        elim (cases_lt 0 (b l k)) [
          | inl some ↦
              let some_n : 1 ≤ b n.level n.id = subst (λ j. 1 ≤ b n.level j) (sym n_id) (subst (λ j. 1 ≤ b j k) (sym n_level) (omega (arith, some))) in
              absurd (off (kept i c n at named_c some_n))
          | inr none_of ↦ omega (arith, none_of)
        ])))

    suffices : 1 ≤ l → Suffices
    suffices pos = elim (cases_lt 1 l) [
      | inl high ↦ elim (among cells i) [
        | inl these ↦ of_these (omega (arith, high)) these
        | inr others ↦ of_others (omega (arith, high)) others
      ]
      | inr twig ↦ inr (inl (none_below (b l) (λ j. quiet l j (omega (arith, twig))) (items_of c.block)))
    ]

  pub measure : IsMeasure t r cells table
  measure = record {
    measured = record {
      seen = task.seen;
      budget = record {
        bears = λ i c l at up pos. suffices i c l at up pos;
        small = small;
        root = root_low;
      };
      height = task.height;
      kept = λ i c n at named pos some. kept i c n at named some;
    };
    quiet = quiet;
  }
