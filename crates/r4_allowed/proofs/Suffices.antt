-- A made table lets each cell suffice for what comes below it.
use Rattle.std.proofs.Common.{◌≡◌, ◌≢◌, inl, inr, ℕ, suc, ◌+◌, ◌-◌, ◌*◌, ◌≤◌, Bool, true, false, List, [], ◌∷◌, refl, sym, subst, ◌∙◌, arith}
use Rattle.std.specs.Prelude.{Contains, ◌==◌, ◌&&◌, if◌then◌else◌}
use Rattle.std.proofs.lemmas.Bool.{eq-eqb, ne_eqb}
use Rattle.r4_base.specs.Node.{items_of}
use Rattle.r4_extent_put.specs.r4_extent_change.r4_measure.Budget.{below}
use Rattle.r4_extent_put.specs.r4_extent_change.r4_measure.r4_cell.Patch.{HaveNames}
use Rattle.r4_extent_put.specs.r4_extent_change.r4_measure.r4_cell.Seen.{CellSeen}
use Rattle.r4_extent_put.specs.r4_extent_change.r4_measure.r4_path.Nodes.{weight}
use Rattle.r4_extent_put.proofs.r4_extent_change.r4_measure.r4_patch.Members.{Distinct, cases, distinct, none}
use Rattle.r4_allowed.specs.Allowing.{BearsBy}
use Rattle.r4_allowed.specs.Making.{IsRaised, needed_at, needed_by, partings}
use Rattle.r4_allowed.specs.Table.{budget_of}
use Rattle.r4_allowed.specs.declared.table.Allowance.{Allowance}

-- ---- the need of a cell is found by its level and its number

module _ (u : ℕ → ℕ) where
  at_first : (c : CellSeen) (cells : List CellSeen) → needed_at u (c ∷ cells) c.level c.id ≡ needed_by u c
  at_first c cells = by (c.level == c.level) (c.id == c.id) (eq-eqb c.level c.level refl) (eq-eqb c.id c.id refl)
    where
      by : (v w : Bool) → v ≡ true → w ≡ true
          → (if v && w then needed_by u c else needed_at u cells c.level c.id) ≡ needed_by u c
      by true true g h = refl
      by false w g h = absurd cc
      by true false g h = absurd cc

  at_later : (d : CellSeen) (cells : List CellSeen) (l i : ℕ) → d.id ≢ i → needed_at u (d ∷ cells) l i ≡ needed_at u cells l i
  at_later d cells l i other = by (d.level == l) (d.id == i) (ne_eqb d.id i other)
    where
      by : (v w : Bool) → w ≡ false → (if v && w then needed_by u d else needed_at u cells l i) ≡ needed_at u cells l i
      by true false h = refl
      by false w h = refl
      by true true h = absurd cc

  need_of : (cells : List CellSeen) (c : CellSeen) → Distinct cells → Contains cells c
      → needed_at u cells c.level c.id ≡ needed_by u c
  need_of [] c apart member = absurd (none c member)
  need_of (d ∷ cells) c (first, rest) member = elim (cases d c cells member) [
    | inl same ↦ subst (λ (x : CellSeen). needed_at u (d ∷ cells) x.level x.id ≡ needed_by u x) (sym same) (at_first d cells)
    | inr behind ↦ at_later d cells c.level c.id (first c behind) ∙ need_of cells c rest behind
  ]

-- ---- so it suffices

pub enough : (bytes : ℕ) → bytes ≤ 4068 + 1024 * partings bytes
enough bytes = omega arith

module _ (top : ℕ) (cells : List CellSeen) (given : ℕ → ℕ) (table : List Allowance) (names : HaveNames cells)
    (raised : IsRaised top cells given (budget_of table)) (c : CellSeen) (member : Contains cells c) (low : c.level ≤ top) where
  own : 3 ≤ c.level → budget_of table c.level c.id ≡ needed_by (budget_of table (c.level - 1)) c
  own high =
      let up : suc (c.level - 1) ≡ c.level = omega (arith, high) in
      let is = raised.above (c.level - 1) c.id (omega (arith, high)) (omega (arith, high, low)) in
      subst (λ k. budget_of table k c.id ≡ needed_at (budget_of table (c.level - 1)) cells k c.id) up is
      ∙ need_of (budget_of table (c.level - 1)) cells c (distinct cells names) member

  pub made_bears : BearsBy table c
  made_bears high =
      let most = own high in
      let fits = enough (weight (items_of c.block) + 46 * below (budget_of table (c.level - 1)) (items_of c.block)) in
      inr (inr (inr (high, omega (arith, most, fits))))
