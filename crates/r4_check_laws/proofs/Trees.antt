-- Cells that name one another from a root down are a tree.
use Rattle.std.proofs.Common.{◌≡◌, ◌⊎◌, inl, inr, ℕ, zero, suc, ◌+◌, ◌-◌, ◌<◌, ◌≤◌, refl, sym, ap, subst, ◌∙◌, arith}
use Rattle.std.specs.Prelude.{Some, Contains}
use Rattle.r4_base.specs.Key.{least, top}
use Rattle.r4_base.specs.Tree.{Fits, InName, InNode, InSpan, IsNode, IsTree, Name, Node, Span}
use Rattle.r4_base.specs.Value.{Value}
use Rattle.r4_check_laws.proofs.Stores.{AreOnce, Cells, in_cells, one_cell, store_of, stored}

-- a name that a cell has
abbrev pub IsNamedBy : Cells → Name → Type 0
IsNamedBy cells n = (j : ℕ) × (d : Node Value) × Contains cells (j, d) × Contains d.names n

-- a cell of this name is there
abbrev pub IsThere : Cells → Name → Type 0
IsThere cells n = (d : Node Value) × Contains cells (n.id, d) × Fits n d

pub record AreLinked (cells : Cells) (root : Name) : Type 0 where
  pub once : AreOnce cells
  pub nodes : (i : ℕ) (c : Node Value) → Contains cells (i, c) → IsNode c
  pub low : (i : ℕ) (c : Node Value) → Contains cells (i, c) → c.level ≤ root.level
  pub root_there : IsThere cells root
  pub from : root.lo ≡ least
  pub to : root.hi ≡ top
  pub high : 2 ≤ root.level
  pub named : (i : ℕ) (c : Node Value) (n : Name) → Contains cells (i, c) → Contains c.names n → IsThere cells n
  pub parent : (i : ℕ) (c : Node Value) → Contains cells (i, c) → (n : Name) × ((n ≡ root) ⊎ IsNamedBy cells n) × (i ≡ n.id) × Fits n c

module _ (cells : Cells) (root : Name) (w : AreLinked cells root) where
  -- below the root a cell is named
  up : (i : ℕ) (c : Node Value) → Contains cells (i, c) → c.level < root.level → (n : Name) × IsNamedBy cells n × (i ≡ n.id) × Fits n c
  up i c at low =
      let (n, from, is, f) = w.parent i c at in
      elim from [
        | inl e ↦ let lv = f.level in let le = ap (λ (m : Name). m.level) e in absurd (omega (arith, lv, le, low))
        | inr by ↦ (n, by, is, f)
      ]

  -- at the root's level there is the root alone
  highest : (i : ℕ) (c : Node Value) → Contains cells (i, c) → c.level ≡ root.level → i ≡ root.id
  highest i c at level =
      let (n, from, is, f) = w.parent i c at in
      elim from [
        | inl e ↦ is ∙ ap (λ (m : Name). m.id) e
        | inr by ↦
            let (j, d, dj, dn) = by in
            let lv = f.level in
            let high = w.high in
            let most = w.low j d dj in
            absurd (elim ((w.nodes j d dj).below n dn) [
              | inl below ↦ omega (arith, below, lv, level, most)
              | inr bottom ↦ omega (arith, bottom, lv, level, high)
            ])
      ]

  above : (c d : Node Value) (n : Name) → IsNode d → Contains d.names n → Fits n c → 1 ≤ c.level → d.level ≡ suc c.level
  above c d n node named f some = let lv = f.level in elim (node.below n named) [
    | inl below ↦ omega (arith, below, lv)
    | inr bottom ↦ omega (arith, bottom, lv, some)
  ]

  in_name : (c : Node Value) (n : Name) (k : ℕ) → Fits n c → InNode c k → InName n k
  in_name c n k f at = let lo = f.lo in let hi = f.hi in (omega (arith, lo, at), omega (arith, hi, at))

  in_parent : (d : Node Value) (n : Name) (k : ℕ) → IsNode d → Contains d.names n → InName n k → InNode d k
  in_parent d n k node named at = let a = node.name_from n named in let b = node.name_to n named in (omega (arith, a, at), omega (arith, b, at))

  apart_by : (left l : ℕ) → l + left ≡ root.level → 1 ≤ l → (i j : ℕ) (c d : Node Value) (k : ℕ) → Contains cells (i, c) → Contains cells (j, d) → c.level ≡ l → d.level ≡ l → InNode c k → InNode d k → i ≡ j
  apart_by zero l e some i j c d k ci dj lc ld at_c at_d = highest i c ci (omega (arith, e, lc)) ∙ sym (highest j d dj (omega (arith, e, ld)))
  apart_by (suc left) l e some i j c d k ci dj lc ld at_c at_d =
      let (n, (a, p, pa, pn), is, f) = up i c ci (omega (arith, e, lc)) in
      let (m, (b, q, qb, qm), js, g) = up j d dj (omega (arith, e, ld)) in
      let p_node = w.nodes a p pa in
      let q_node = w.nodes b q qb in
      let at_n = in_name c n k f at_c in
      let at_m = in_name d m k g at_d in
      let lp = above c p n p_node pn f (omega (arith, some, lc)) in
      let lq = above d q m q_node qm g (omega (arith, some, ld)) in
      let same : a ≡ b = apart_by left (suc l) (omega (arith, e)) (omega arith) a b p q k pa qb (omega (arith, lp, lc)) (omega (arith, lq, ld)) (in_parent p n k p_node pn at_n) (in_parent q m k q_node qm at_m) in
      let cell : p ≡ q = one_cell cells w.once b p q (subst (λ (x : ℕ). Contains cells (x, p)) same pa) qb in
      let fl = f.level in
      let gl = g.level in
      let one : n ≡ m = q_node.names_apart n m k (subst (λ (x : Node Value). Contains x.names n) cell pn) qm (omega (arith, fl, gl, lc, ld)) at_n at_m in
      is ∙ ap (λ (x : Name). x.id) one ∙ sym js

  apart : (i j : ℕ) (c d : Node Value) (k : ℕ) → Contains cells (i, c) → Contains cells (j, d) → c.level ≡ d.level → 1 ≤ c.level → InNode c k → InNode d k → i ≡ j
  apart i j c d k ci dj same some at_c at_d = let low = w.low i c ci in apart_by (root.level - c.level) c.level (omega (arith, low)) some i j c d k ci dj refl (sym same) at_c at_d

  leaf_or_extent : (i j : ℕ) (c d : Node Value) (s : Span) (k : ℕ) → Contains cells (i, c) → Contains cells (j, d) → c.level ≡ 1 → Contains d.spans s → InNode c k → InSpan s k → ⊥
  leaf_or_extent i j c d s k ci dj leaf ds at_c at_s =
      let high = w.high in
      let (n, (a, p, pa, pn), is, f) = up i c ci (omega (arith, high, leaf)) in
      let p_node = w.nodes a p pa in
      let d_node = w.nodes j d dj in
      let at_n = in_name c n k f at_c in
      let lp = above c p n p_node pn f (omega (arith, leaf)) in
      let ld = d_node.spans_in_twigs s ds in
      let a1 = d_node.span_from s ds in
      let a2 = d_node.span_to s ds in
      let same : a ≡ j = apart a j p d k pa dj (omega (arith, lp, ld, leaf)) (omega (arith, lp)) (in_parent p n k p_node pn at_n) (omega (arith, a1, at_s), omega (arith, a2, at_s)) in
      let cell : p ≡ d = one_cell cells w.once j p d (subst (λ (x : ℕ). Contains cells (x, p)) same pa) dj in
      let bottom = d_node.spans_apart n s k (subst (λ (x : Node Value). Contains x.names n) cell pn) ds at_n at_s in
      let fl = f.level in
      omega (arith, bottom, fl, leaf)

  data_named : (i : ℕ) (c : Node Value) → Contains cells (i, c) → c.level ≡ 0 → (j : ℕ) × (d : Node Value) × (n : Name) × (store_of cells j ≡ Some d) × Contains d.names n × (n.id ≡ i)
  data_named i c at low =
      let high = w.high in
      let (n, (j, d, dj, dn), is, f) = up i c at (omega (arith, high, low)) in
      (j, d, n, stored cells w.once j d dj, dn, sym is)

  pub is_tree : IsTree (store_of cells) (record { id = root.id; height = root.level })
  is_tree = record {
    nodes = λ i c e. w.nodes i c (in_cells cells i c e);
    root_node = w.root_there.0;
    root_is = stored cells w.once root.id w.root_there.0 w.root_there.1;
    root_level = w.root_there.2.level;
    root_lo = w.root_there.2.lo ∙ w.from;
    root_hi = w.root_there.2.hi ∙ w.to;
    height = w.high;
    none_above = λ i c e. w.low i c (in_cells cells i c e);
    named = λ i c n e h. (let there = w.named i c n (in_cells cells i c e) h in (there.0, stored cells w.once n.id there.0 there.1, there.2));
    apart = λ i j c d k e f. apart i j c d k (in_cells cells i c e) (in_cells cells j d f);
    leaf_or_extent = λ i j c d s k e f. leaf_or_extent i j c d s k (in_cells cells i c e) (in_cells cells j d f);
    data_named = λ i c e. data_named i c (in_cells cells i c e);
  }
