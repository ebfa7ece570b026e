-- A tree under other names is a tree with the same units.
use Rattle.std.specs.Prelude.{◌≡◌, ◌==◌, ◌⊎◌, ℕ, ◌<◌, ◌≤◌, suc, Bool, true, false, cond, Contains, Some}
use Rattle.std.proofs.Common.{arith, inl, inr, refl, sym, ap, subst, ◌∙◌}
use Rattle.r4_base.specs.Value.{Value}
use Rattle.r4_base.specs.Tree.{InName, InNode, IsData, IsNode, IsTree, Name, Node, Root, Store}
use Rattle.r4_content.specs.Locality.{Meaning}
use Rattle.r4_content.specs.declared.command.Command.{Command}
use Rattle.r4_content.specs.declared.reply.Reply.{Reply}
use Rattle.r4_sets.specs.Renaming.{IsRenamed, IsRenaming, Renames, renamed, renamed_name, renamed_root}
use Rattle.r4_sets.specs.Session.{Session, Sets, Stands, cells, in_set, picks, root_with}
use Rattle.r4_sets.specs.Units.{SameUnit}
use Rattle.r4_sets.proofs.Flushed.{same_stands}

-- ---- a cell

module _ (f : ℕ → ℕ) (c d : Node Value) (r : IsRenamed f c d) (ic : IsNode c) where
  in_node : (k : ℕ) → InNode d k → InNode c k
  in_node k at = let lo = r.lo in let hi = r.hi in (omega (arith, at, lo), omega (arith, at, hi))

  -- what is so of all names of c, told without the number, is so of those of d
  of_names : (P : Name → Type 0) → ((n : Name) → P n → P (renamed_name f n)) → ((n : Name) → Contains c.names n → P n)
      → (m : Name) → Contains d.names m → P m
  of_names P moves h m dm = let (n, cn, is) = r.names_from m dm in subst P (sym is) (moves n (h n cn))

  pub renamed_node : IsNode d
  renamed_node =
      let level = r.level in
      let lo = r.lo in
      let hi = r.hi in
      let from = ic.from_least in
      let full = ic.nonempty in
      let to = ic.to_top in
      record {
        from_least = omega (arith, lo, from);
        nonempty = omega (arith, lo, hi, full);
        to_top = omega (arith, hi, to);
        below = λ m dm. subst (λ l. ((1 ≤ m.level) × (suc m.level ≡ l)) ⊎ ((l ≡ 2) × IsData m)) (sym level)
            (of_names (λ n. ((1 ≤ n.level) × (suc n.level ≡ c.level)) ⊎ ((c.level ≡ 2) × IsData n)) (λ n h. h) ic.below
            m dm);
        name_nonempty = of_names (λ n. n.lo < n.hi) (λ n h. h) ic.name_nonempty;
        name_from = λ m dm. subst (λ l. l ≤ m.lo) (sym lo) (of_names (λ n. c.lo ≤ n.lo) (λ n h. h) ic.name_from m dm);
        name_to = λ m dm. subst (λ l. m.hi ≤ l) (sym hi) (of_names (λ n. n.hi ≤ c.hi) (λ n h. h) ic.name_to m dm);
        names_apart = λ m o k dm do_ level_is in_m in_o.
            let (n, cn, is_m) = r.names_from m dm in
            let (p, cp, is_o) = r.names_from o do_ in
            let same : n ≡ p = ic.names_apart n p k cn cp (sym (ap (λ (x : Name). x.level) is_m) ∙ level_is
            ∙ ap (λ (x : Name). x.level) is_o) (subst (λ (x : Name). InName x k) is_m in_m)
            (subst (λ (x : Name). InName x k) is_o in_o) in
            is_m ∙ ap (renamed_name f) same ∙ sym is_o;
        spans_apart = λ m s k dm ds in_m in_s.
            let (n, cn, is_m) = r.names_from m dm in
            ap (λ (x : Name). x.level) is_m
            ∙ ic.spans_apart n s k cn ((r.spans s).1 ds) (subst (λ (x : Name). InName x k) is_m in_m) in_s;
        span_from = λ s ds. subst (λ l. l ≤ s.lo) (sym lo) (ic.span_from s ((r.spans s).1 ds));
        span_to = λ s ds. subst (λ l. s.hi ≤ l) (sym hi) (ic.span_to s ((r.spans s).1 ds));
        spans_in_twigs = λ s ds. level ∙ ic.spans_in_twigs s ((r.spans s).1 ds);
        covered = λ k two at. elim (ic.covered k (subst (λ l. 2 ≤ l) level two) (in_node k at)) [
          | inl h ↦ let (n, cn, below, at_n) = h in inl (renamed_name f n, r.names_to n cn, below ∙ sym level, at_n)
          | inr h ↦ let (s, cs, at_s) = h in inr (s, (r.spans s).0 cs, at_s)
        ];
        data_in_span = λ m dm low.
            let (n, cn, is_m) = r.names_from m dm in
            let (s, cs, a, b) = ic.data_in_span n cn (sym (ap (λ (x : Name). x.level) is_m) ∙ low) in
            let at_lo : m.lo ≡ n.lo = ap (λ (x : Name). x.lo) is_m in
            let at_hi : m.hi ≡ n.hi = ap (λ (x : Name). x.hi) is_m in
            (s, (r.spans s).0 cs, omega (arith, a, at_lo), omega (arith, b, at_hi));
        unit_in = λ k v has. let at = ic.unit_in k v ((r.units k v).1 has) in
            (omega (arith, at, lo), omega (arith, at, hi));
        unit_low = λ k v has. elim (ic.unit_low k v ((r.units k v).1 has)) [
          | inl h ↦ inl (omega (arith, h, level))
          | inr h ↦ let (s, cs, at) = h in inr (s, (r.spans s).0 cs, at)
        ];
        unit_in_hole = λ m k v dm low has in_m.
            let (n, cn, is_m) = r.names_from m dm in
            ic.unit_in_hole n k v cn (sym (ap (λ (x : Name). x.level) is_m) ∙ low) ((r.units k v).1 has)
            (subst (λ (x : Name). InName x k) is_m in_m);
        one_unit = λ k v u hv hu. ic.one_unit k v u ((r.units k v).1 hv) ((r.units k u).1 hu);
      }

-- ---- a tree

module _ (f g : ℕ → ℕ) (t u : Store Value) (ren : IsRenaming f g t u) where
  module _ (root : Root) (it : IsTree t root) where
    one_back : (i j : ℕ) → g i ≡ g j → i ≡ j
    one_back i j e = sym (ren.again i) ∙ ap f e ∙ ren.again j

    pub renamed_tree : IsTree u (renamed_root f root)
    renamed_tree =
        let (top_cell, is_top, top_ren) = ren.to root.id it.root_node it.root_is in
        record {
          nodes = λ j d ud. let (c, tc, r) = ren.from j d ud in renamed_node f c d r (it.nodes (g j) c tc);
          root_node = top_cell;
          root_is = is_top;
          root_level = top_ren.level ∙ it.root_level;
          root_lo = top_ren.lo ∙ it.root_lo;
          root_hi = top_ren.hi ∙ it.root_hi;
          height = it.height;
          none_above = λ j d ud. let (c, tc, r) = ren.from j d ud in let high = it.none_above (g j) c tc in let level =
              r.level in omega (arith, high, level);
          named = λ j d m ud dm.
              let (c, tc, r) = ren.from j d ud in
              let (n, cn, is_m) = r.names_from m dm in
              let (e, te, fits) = it.named (g j) c n tc cn in
              let (b, ub, s) = ren.to n.id e te in (
                b,
                subst (λ (x : Name). u x.id ≡ Some b) (sym is_m) ub,
                record {
                  level = s.level ∙ fits.level ∙ sym (ap (λ (x : Name). x.level) is_m);
                  lo = s.lo ∙ fits.lo ∙ sym (ap (λ (x : Name). x.lo) is_m);
                  hi = s.hi ∙ fits.hi ∙ sym (ap (λ (x : Name). x.hi) is_m);
                },
              );
          apart = λ i j c d k uc ud same low at_c at_d.
              let (a, ta, r) = ren.from i c uc in
              let (b, tb, s) = ren.from j d ud in
              one_back i j (it.apart (g i) (g j) a b k ta tb (sym r.level ∙ same ∙ s.level)
              (subst (λ l. 1 ≤ l) r.level low) (in_node f a c r (it.nodes (g i) a ta) k at_c)
              (in_node f b d s (it.nodes (g j) b tb) k at_d));
          leaf_or_extent = λ i j c d s k uc ud low ds at_c at_s.
              let (a, ta, r) = ren.from i c uc in
              let (b, tb, q) = ren.from j d ud in
              it.leaf_or_extent (g i) (g j) a b s k ta tb (sym r.level ∙ low) ((q.spans s).1 ds)
              (in_node f a c r (it.nodes (g i) a ta) k at_c) at_s;
          data_named = λ i c uc low.
              let (a, ta, r) = ren.from i c uc in
              let (j, b, n, tb, bn, is) = it.data_named (g i) a ta (sym r.level ∙ low) in
              let (d, ud, s) = ren.to j b tb in
              (f j, d, renamed_name f n, ud, s.names_to n bn, ap f is ∙ ren.again i);
        }

  pub renamed_units : (k : ℕ) → SameUnit t u k
  renamed_units k v = (
    λ (i, c, tc, has, kind). let (d, ud, r) =
        ren.to i c tc in (f i, d, ud, (r.units k v.0).0 has, ap (λ (l : ℕ). l == 1) r.level ∙ kind),
    λ (j, d, ud, has, kind). let (c, tc, r) =
        ren.from j d ud in (g j, c, tc, (r.units k v.0).1 has, ap (λ (l : ℕ). l == 1) (sym r.level) ∙ kind),
  )

-- ---- a session

pick_is : {A : Type 0} (b : Bool) (x y : A) (P : Bool → A → Type 0) → (b ≡ true → P true x) → (b ≡ false → P false y)
    → P b (cond b x y)
pick_is true x y P h g = h refl
pick_is false x y P h g = g refl

pick_of : {A B : Type 0} (h : A → B) (b : Bool) (x y : A) → cond b (h x) (h y) ≡ h (cond b x y)
pick_of h true x y = refl
pick_of h false x y = refl

module _ (w : Meaning Command Reply) (c : Session) (sets : Sets w c) (f g : ℕ → ℕ) (under memory : Store Value)
    (h : Renames c f g under memory) where
  -- which of two a cell is, and that of the same choice among their new ones
  to_one : (b : Bool) (i : ℕ) (d : Node Value) → cond b (c.memory i) (c.under.cells i) ≡ Some d → (e : Node Value)
      × (cond b (memory (f i)) (under (f i)) ≡ Some e) × IsRenamed f d e
  to_one true i d is = h.in_memory.to i d is
  to_one false i d is = h.in_under.to i d is

  from_one : (b : Bool) (j : ℕ) (e : Node Value) → cond b (memory j) (under j) ≡ Some e → (d : Node Value)
      × (cond b (c.memory (g j)) (c.under.cells (g j)) ≡ Some d) × IsRenamed f d e
  from_one true j e is = h.in_memory.from j e is
  from_one false j e is = h.in_under.from j e is

  renaming : (s : ℕ → Bool) → IsRenaming f g (cells c s) (cells (renamed c f under memory) s)
  renaming s = record {
    to = λ i d is.
        let (e, now, r) = to_one (picks s (c.owner i)) i d is in
        (e, ap (λ o. cond (picks s o) (memory (f i)) (under (f i))) (h.owner_to i) ∙ now, r);
    from = λ j e is.
        let (d, was, r) = from_one (picks s (c.owner j)) j e is in
        (d, ap (λ o. cond (picks s o) (c.memory (g j)) (c.under.cells (g j))) (h.owner_from j) ∙ was, r);
    back = h.in_under.back;
    again = h.in_under.again;
  }

  root_now : (s : ℕ → Bool) → root_with (renamed c f under memory) s ≡ renamed_root f (root_with c s)
  root_now s = ap (λ o. cond (picks s o) (renamed_root f c.root) (renamed_root f c.under.root)) (h.owner_to c.root.id)
      ∙ pick_of (renamed_root f) (picks s (c.owner c.root.id)) c.root c.under.root

  pub renamed_sets : Sets w (renamed c f under memory)
  renamed_sets = record {
    clean = h.clean;
    one_root = elim sets.one_root [
      | inl e ↦ inl (ap (renamed_root f) e)
      | inr q ↦ let (n, at_root, at_under) =
          q in inr (n, h.owner_to c.root.id ∙ at_root, h.owner_to c.under.root.id ∙ at_under)
    ];
    counts = sets.counts;
    committed = sets.committed;
    each = λ s.
        let now = sets.each s in
        subst (Stands w c.start c.trace (in_set c s) (cells (renamed c f under memory) s)) (sym (root_now s))
        (same_stands w c.start c.trace (in_set c s) (cells c s) (cells (renamed c f under memory) s) (root_with c s)
        (renamed_root f (root_with c s))
        (renamed_tree f g (cells c s) (cells (renamed c f under memory) s) (renaming s) (root_with c s)
        now.is.tree) (renamed_units f g (cells c s) (cells (renamed c f under memory) s) (renaming s)) now);
  }
