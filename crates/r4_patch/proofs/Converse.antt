-- What takes a tree to a tree is a patch.
use Rattle.std.specs.Prelude.{◌≡◌, ℕ, ◌<◌, ◌≤◌, ◌⊎◌, Contains, IsSome, None, Some}
use mathlib.Core.Path.{sym, ap, subst, ◌∙◌}
use mathlib.Core.Logic.{inl, inr}
use native.Mathlib.Omega.{arith}
use Rattle.std.specs.Option.{unwrap_or}
use Rattle.std.proofs.Math.Decide.{dec_le}
use Rattle.std.proofs.Math.Nat.{lt_of_not-le, le_refl}
use Rattle.r4_base.specs.Key.{least, top}
use Rattle.r4_base.specs.Tree.{Covers, CoversLeaf, Name, Node, Store, Root, Fits, IsNode, IsTree}
use Rattle.r4_base.proofs.Trees.{covered_above, covered_low, has_parent, named_once, not_both, one_cell}
use Rattle.r4_cell.specs.Patch.{Patch, place, root_after, Names, NamesId, SameRange, NeedsName, IsNewRoot, IsPatch, Meets}
use Rattle.r4_patch.proofs.PartCells.{Piece, from_piece, one_piece, to_piece, tree_is_part}
use Rattle.r4_patch.proofs.Placed.{over_from, over_kept, over_new, root_or_not, some_of, some_or_none}

same_name : (n m : Name) → n.id ≡ m.id → n.level ≡ m.level → n.lo ≡ m.lo → n.hi ≡ m.hi → n ≡ m
same_name n m a b c d = λ i. record { id = a i; level = b i; lo = c i; hi = d i }

module _ {V : Type 0} (p : Patch V) (t : Store V) (root : Root) (it : IsTree t root) (m : Meets p t root) (is : IsTree (place p t) (root_after p root)) (rises : root.height ≤ (root_after p root).height) where
  from : (i : ℕ) (c : Node V) → place p t i ≡ Some c → (p.new i ≡ Some c) ⊎ ((p.new i ≡ None) × (p.old i ≡ None) × (t i ≡ Some c))
  from i c e = over_from (p.new i) (p.old i) (t i) c e

  in_new : (i : ℕ) (c : Node V) → p.new i ≡ Some c → place p t i ≡ Some c
  in_new i c e = over_new (p.new i) (p.old i) (t i) c e

  stays : (i : ℕ) (c : Node V) → p.old i ≡ None → t i ≡ Some c → place p t i ≡ Some c
  stays i c gone e = over_kept (p.new i) (p.old i) (t i) c (λ d h. not_both t i c (m.free i d h gone) e) gone e

  -- no new cell has the name of an untouched one
  no_clash : (i : ℕ) (c d : Node V) → p.new i ≡ Some c → p.old i ≡ None → t i ≡ Some d → ⊥
  no_clash i c d nc gone td = not_both t i d (m.free i c nc gone) td

  unchanged_root : p.root ≡ None → root_after p root ≡ root
  unchanged_root e = ap (λ o. unwrap_or o root) e

  changed_root : (r : Root) → p.root ≡ Some r → root_after p root ≡ r
  changed_root r e = ap (λ o. unwrap_or o root) e

  level_above : (c : Node V) (n : Name) → IsNode c → Contains c.names n → (n.level < c.level) × (1 ≤ c.level)
  level_above c n ic cn = elim (ic.below n cn) [ inl h ↦ omega (arith, h) | inr h ↦ omega (arith, h) ]

  -- the root of a tree is named by none of its cells
  root_unnamed : (s : Store V) (r : Root) → IsTree s r → (j : ℕ) (d : Node V) (n : Name) → s j ≡ Some d → Contains d.names n → n.id ≡ r.id → ⊥
  root_unnamed s r st j d n sd dn e =
      let (c, sc, f) = st.named j d n sd dn in
      let same : c ≡ st.root_node = one_cell s r.id c st.root_node (subst (λ x. s x ≡ Some c) e sc) st.root_is in
      let lv : n.level ≡ r.height = sym f.level ∙ ap (λ x. x.level) same ∙ st.root_level in
      let above = (level_above d n (st.nodes j d sd) dn).0 in
      let most = st.none_above j d sd in
      omega (arith, lv, above, most)

  -- the root after: unchanged, or a new cell
  new_is_new : (r : Root) → p.root ≡ Some r → (c : Node V) × (p.new r.id ≡ Some c) × (c.level ≡ r.height) × (c.lo ≡ least) × (c.hi ≡ top)
  new_is_new r e =
      let same = changed_root r e in
      let c = is.root_node in
      let uc : place p t r.id ≡ Some c = subst (λ x. place p t x.id ≡ Some c) same is.root_is in
      let level : c.level ≡ r.height = subst (λ x. c.level ≡ x.height) same is.root_level in
      let taller : root.height ≤ r.height = subst (λ x. root.height ≤ x.height) same rises in
      elim (from r.id c uc) [
        | inl nc ↦ (c, nc, level, is.root_lo, is.root_hi)
        | inr h ↦
            let low = it.none_above r.id c h.2 in
            let rl = it.root_level in
            let ic = it.nodes r.id c h.2 in
            let lo = it.root_lo in
            let hi = it.root_hi in
            let high = it.height in
            let one : r.id ≡ root.id = it.apart r.id root.id c it.root_node c.lo h.2 it.root_is (omega (arith, low, level, taller, rl)) (omega (arith, level, taller, high)) (le_refl c.lo, ic.nonempty) (omega (arith, lo, ic.from_least), omega (arith, hi, ic.to_top, ic.nonempty)) in
            let (d, od) = m.root_old (some_of p.root r e) in
            absurd (not_both p.old root.id d (subst (λ x. p.old x ≡ None) one h.1) od)
      ]

  -- above the leaves
  covers_old : (l k : ℕ) → 2 ≤ l → Covers p.old l k → Covers p.new l k
  covers_old l k two (a, o, ao, al, at) =
      let ta = m.has_old a o ao in
      let io = it.nodes a o ta in
      let low = it.none_above a o ta in
      let from_l = io.from_least in
      let to_t = io.to_top in
      let (i, c, uc, cl, at_c) = covered_above (place p t) (root_after p root) is l k two (omega (arith, low, al, rises)) (omega (arith, from_l, at)) (omega (arith, to_t, at)) in
      elim (from i c uc) [
        | inl nc ↦ (i, c, nc, cl, at_c)
        | inr h ↦
            let one : i ≡ a = it.apart i a c o k h.2 ta (cl ∙ sym al) (omega (arith, cl, two)) at_c at in
            absurd (not_both p.old i o h.1 (subst (λ x. p.old x ≡ Some o) (sym one) ao))
      ]

  covers_new : (l k : ℕ) → 2 ≤ l → Covers p.new l k → Covers p.old l k ⊎ (IsSome p.root × ((i : ℕ) (c : Node V) → p.old i ≡ Some c → c.level < l))
  covers_new l k two (i, c, nc, cl, at) = elim (dec_le l root.height) [
    | yes low ↦
        let ic = is.nodes i c (in_new i c nc) in
        let from_l = ic.from_least in
        let to_t = ic.to_top in
        let (a, o, ta, al, at_o) = covered_above t root it l k two low (omega (arith, from_l, at)) (omega (arith, to_t, at)) in
        elim (some_or_none (p.old a)) [
          | inl h ↦
              let (x, ox) = h in
              let same : x ≡ o = one_cell t a x o (m.has_old a x ox) ta in
              inl (a, o, ox ∙ ap Some same, al, at_o)
          | inr gone ↦
              let one : i ≡ a = is.apart i a c o k (in_new i c nc) (stays a o gone ta) (cl ∙ sym al) (omega (arith, cl, two)) at at_o in
              absurd (no_clash a c o (subst (λ x. p.new x ≡ Some c) one nc) gone ta)
        ]
    | no above ↦
        let high = lt_of_not-le above in
        inr (elim (root_or_not p.root) [
          | inl h ↦ (some_of p.root h.0 h.1, λ j o oj. let q = it.none_above j o (m.has_old j o oj) in omega (arith, q, high))
          | inr h ↦
              let most = subst (λ x. c.level ≤ x.height) (unchanged_root h) (is.none_above i c (in_new i c nc)) in
              absurd (omega (arith, most, high, cl))
        ])
  ]

  new_root : (r : Root) → p.root ≡ Some r → IsNewRoot p.new r
  new_root r e =
      let (c, nc, level, lo, hi) = new_is_new r e in
      record { node = c; is = nc; level = level; lo = lo; hi = hi; highest = λ i d nd. subst (λ x. d.level ≤ x.height) (changed_root r e) (is.none_above i d (in_new i d nd)) }

  -- a name in the tree after and one in the tree before, of one cell
  one_name : (i : ℕ) (c : Node V) (n n2 : Name) → Fits n c → Fits n2 c → n.id ≡ n2.id → n ≡ n2
  one_name i c n n2 f g e = same_name n n2 e (sym f.level ∙ g.level) (sym f.lo ∙ g.lo) (sym f.hi ∙ g.hi)

  -- an untouched cell that is named is not the root before, nor after
  named : (n : Name) → Names p.new n → ((d : Node V) × (p.new n.id ≡ Some d) × Fits n d) ⊎ ((p.old n.id ≡ None) × Names p.old n)
  named n (i, c, nc, cn) =
      let uc = in_new i c nc in
      let (d, ud, f) = is.named i c n uc cn in
      elim (from n.id d ud) [
        | inl nd ↦ inl (d, nd, f)
        | inr h ↦ inr (
          h.1,
          elim (has_parent t root it n.id d h.2) [
            | inr g ↦
                let (j, e, n2, te, en, same) = g in
                let (d2, td2, f2) = it.named j e n2 te en in
                let one : d2 ≡ d = one_cell t n.id d2 d (subst (λ x. t x ≡ Some d2) same td2) h.2 in
                let names : n2 ≡ n = one_name n.id d n2 n (subst (Fits n2) one f2) f same in
                elim (some_or_none (p.old j)) [
                  | inl x ↦
                      let (o, oj) = x in
                      let both : o ≡ e = one_cell t j o e (m.has_old j o oj) te in
                      (j, e, oj ∙ ap Some both, subst (Contains e.names) names en)
                  | inr gone ↦
                      let (ij, _) = named_once (place p t) (root_after p root) is i j c e n n2 uc (stays j e gone te) cn en (sym same) in
                      absurd (no_clash j c e (subst (λ x. p.new x ≡ Some c) ij nc) gone te)
                ]
            | inl at_root ↦ absurd (elim (root_or_not p.root) [
              | inl x ↦
                  let (b, ob) = m.root_old (some_of p.root x.0 x.1) in
                  not_both p.old root.id b (subst (λ y. p.old y ≡ None) at_root h.1) ob
              | inr x ↦ root_unnamed (place p t) (root_after p root) is i c n uc cn (at_root ∙ ap (λ y. y.id) (sym (unchanged_root x)))
            ])
          ],
        )
      ]

  kept : (n : Name) → Names p.old n → p.old n.id ≡ None → Names p.new n
  kept n (i, o, oi, on) gone =
      let to = m.has_old i o oi in
      let (d, td, f) = it.named i o n to on in
      let ud = stays n.id d gone td in
      elim (has_parent (place p t) (root_after p root) is n.id d ud) [
        | inl at_root ↦ absurd (elim (root_or_not p.root) [
          | inr x ↦ root_unnamed t root it i o n to on (at_root ∙ ap (λ y. y.id) (unchanged_root x))
          | inl x ↦
              let (r, e) = x in
              let (c, nc, _, _, _) = new_is_new r e in
              let at : n.id ≡ r.id = at_root ∙ ap (λ y. y.id) (changed_root r e) in
              no_clash n.id c d (subst (λ y. p.new y ≡ Some c) (sym at) nc) gone td
        ])
        | inr g ↦
            let (j, e, n2, ue, en, same) = g in
            let (d2, ud2, f2) = is.named j e n2 ue en in
            let one : d2 ≡ d = one_cell (place p t) n.id d2 d (subst (λ x. place p t x ≡ Some d2) same ud2) ud in
            let names : n2 ≡ n = one_name n.id d n2 n (subst (Fits n2) one f2) f same in
            elim (from j e ue) [
              | inl ne ↦ (j, e, ne, subst (Contains e.names) names en)
              | inr h ↦
                  let (ij, _) = named_once t root it i j o e n n2 to h.2 on en (sym same) in
                  absurd (not_both p.old j o h.1 (subst (λ x. p.old x ≡ Some o) ij oi))
            ]
      ]

  replaced : (i : ℕ) (c : Node V) → p.old i ≡ Some c → ¬ (NamesId p.old i) → ((d : Node V) × (p.new i ≡ Some d) × SameRange d c) ⊎ (IsSome p.root × ((j : ℕ) (d : Node V) → p.old j ≡ Some d → d.level ≤ c.level))
  replaced i c oc unnamed =
      let tc = m.has_old i c oc in
      let in_place : (d : Node V) → place p t i ≡ Some d → p.new i ≡ Some d = λ d ud. elim (from i d ud) [ inl nd ↦ nd | inr h ↦ absurd (not_both p.old i c h.1 oc) ] in
      elim (has_parent t root it i c tc) [
        | inr g ↦
            let (j, e, n, te, en, same) = g in
            elim (some_or_none (p.old j)) [
              | inl x ↦
                  let (o, oj) = x in
                  let both : o ≡ e = one_cell t j o e (m.has_old j o oj) te in
                  absurd (unnamed (n, (j, e, oj ∙ ap Some both, en), same))
              | inr gone ↦
                  let (d, td, f) = it.named j e n te en in
                  let (b, ub, g2) = is.named j e n (stays j e gone te) en in
                  let one : d ≡ c = one_cell t i d c (subst (λ x. t x ≡ Some d) same td) tc in
                  let fc = subst (Fits n) one f in
                  inl (b, in_place b (subst (λ x. place p t x ≡ Some b) same ub), (g2.level ∙ sym fc.level, g2.lo ∙ sym fc.lo, g2.hi ∙ sym fc.hi))
            ]
        | inl at_root ↦
            let one : c ≡ it.root_node = one_cell t root.id c it.root_node (subst (λ x. t x ≡ Some c) at_root tc) it.root_is in
            let level : c.level ≡ root.height = ap (λ x. x.level) one ∙ it.root_level in
            elim (root_or_not p.root) [
              | inl x ↦ inr (some_of p.root x.0 x.1, λ j d od. let q = it.none_above j d (m.has_old j d od) in omega (arith, q, level))
              | inr x ↦
                  let same = unchanged_root x in
                  let b = is.root_node in
                  let ub : place p t i ≡ Some b = subst (λ y. place p t y ≡ Some b) (ap (λ y. y.id) same ∙ sym at_root) is.root_is in
                  let bl : b.level ≡ root.height = is.root_level ∙ ap (λ y. y.height) same in
                  inl (b, in_place b ub, (bl ∙ sym level, is.root_lo ∙ sym it.root_lo ∙ sym (ap (λ y. y.lo) one), is.root_hi ∙ sym it.root_hi ∙ sym (ap (λ y. y.hi) one)))
            ]
      ]

  reached : (i : ℕ) (c : Node V) → p.new i ≡ Some c → NeedsName p i c → NamesId p.new i ⊎ ((r : Root) × (p.root ≡ Some r) × (r.id ≡ i))
  reached i c nc needs =
      let uc = in_new i c nc in
      elim (has_parent (place p t) (root_after p root) is i c uc) [
        | inr g ↦
            let (j, e, n, ue, en, same) = g in
            elim (from j e ue) [
              | inl ne ↦ inl (n, (j, e, ne, en), same)
              | inr h ↦
                  let (d, td, f) = it.named j e n h.2 en in
                  let (b, ub, f2) = is.named j e n ue en in
                  let ti : t i ≡ Some d = subst (λ x. t x ≡ Some d) same td in
                  let bc : b ≡ c = one_cell (place p t) i b c (subst (λ x. place p t x ≡ Some b) same ub) uc in
                  let fc = subst (Fits n) bc f2 in
                  absurd (elim needs [
                    | inl gone ↦ no_clash i c d nc gone ti
                    | inr x ↦ elim x [
                      | inl y ↦
                          let (n2, (a, o, oa, on), same2) = y in
                          let (ja, _) = named_once t root it j a e o n n2 h.2 (m.has_old a o oa) en on (same ∙ sym same2) in
                          not_both p.old a o (subst (λ z. p.old z ≡ None) ja h.1) oa
                      | inr y ↦
                          let (o, oi, other) = y in
                          let od : o ≡ d = one_cell t i o d (m.has_old i o oi) ti in
                          let fo = subst (Fits n) (sym od) f in
                          other (fo.level ∙ sym fc.level, fo.lo ∙ sym fc.lo, fo.hi ∙ sym fc.hi)
                    ]
                  ])
            ]
        | inl at_root ↦ elim (root_or_not p.root) [
          | inl x ↦ let (r, e) = x in inr (r, e, ap (λ y. y.id) (sym (changed_root r e)) ∙ sym at_root)
          | inr x ↦
              let same = unchanged_root x in
              let ir : i ≡ root.id = at_root ∙ ap (λ y. y.id) same in
              absurd (elim needs [
                | inl gone ↦ no_clash i c it.root_node nc gone (subst (λ y. t y ≡ Some it.root_node) (sym ir) it.root_is)
                | inr g ↦ elim g [
                  | inl y ↦
                      let (n, (a, o, oa, on), e) = y in
                      root_unnamed t root it a o n (m.has_old a o oa) on (e ∙ ir)
                  | inr y ↦
                      let (o, oi, other) = y in
                      let one : o ≡ it.root_node = one_cell t root.id o it.root_node (subst (λ z. t z ≡ Some o) ir (m.has_old i o oi)) it.root_is in
                      let two : c ≡ is.root_node = one_cell (place p t) (root_after p root).id c is.root_node (subst (λ z. place p t z ≡ Some c) at_root uc) is.root_is in
                      other (
                        ap (λ z. z.level) one ∙ it.root_level ∙ ap (λ z. z.height) (sym same) ∙ sym is.root_level ∙ ap (λ z. z.level) (sym two),
                        ap (λ z. z.lo) one ∙ it.root_lo ∙ sym is.root_lo ∙ ap (λ z. z.lo) (sym two),
                        ap (λ z. z.hi) one ∙ it.root_hi ∙ sym is.root_hi ∙ ap (λ z. z.hi) (sym two),
                      )
                ]
              ])
        ]
      ]

  piece_range : (s : Store V) (r : Root) → IsTree s r → (k : ℕ) → Piece s k → (least ≤ k) × (k < top)
  piece_range s r st k (i, c, sc, inl (low, at)) = let ic = st.nodes i c sc in (omega (arith, at, ic.from_least), omega (arith, at, ic.to_top))
  piece_range s r st k (i, c, sc, inr (x, cx, at)) = let ic = st.nodes i c sc in (omega (arith, at, ic.span_from x cx, ic.from_least), omega (arith, at, ic.span_to x cx, ic.to_top))

  leaves_old : (k : ℕ) → CoversLeaf p.old k → CoversLeaf p.new k
  leaves_old k h =
      let (a, o, oa, at) = to_piece p.old k h in
      let ta = m.has_old a o oa in
      let (lo, hi) = piece_range t root it k (a, o, ta, at) in
      let (i, c, uc, at_c) = to_piece (place p t) k (covered_low (place p t) (root_after p root) is k lo hi) in
      elim (from i c uc) [
        | inl nc ↦ from_piece p.new k (i, c, nc, at_c)
        | inr g ↦
            let one : i ≡ a = one_piece t root (tree_is_part t root it) k i a c o g.2 ta at_c at in
            absurd (not_both p.old i o g.1 (subst (λ x. p.old x ≡ Some o) (sym one) oa))
      ]

  leaves_new : (k : ℕ) → CoversLeaf p.new k → CoversLeaf p.old k
  leaves_new k h =
      let (i, c, nc, at) = to_piece p.new k h in
      let uc = in_new i c nc in
      let (lo, hi) = piece_range (place p t) (root_after p root) is k (i, c, uc, at) in
      let (a, o, ta, at_o) = to_piece t k (covered_low t root it k lo hi) in
      elim (some_or_none (p.old a)) [
        | inl x ↦
            let (b, ob) = x in
            let same : b ≡ o = one_cell t a b o (m.has_old a b ob) ta in
            from_piece p.old k (a, o, ob ∙ ap Some same, at_o)
        | inr gone ↦
            let one : i ≡ a = one_piece (place p t) (root_after p root) (tree_is_part (place p t) (root_after p root) is) k i a c o uc (stays a o gone ta) at at_o in
            absurd (no_clash a c o (subst (λ x. p.new x ≡ Some c) one nc) gone ta)
      ]

  pub patch_from_trees : IsPatch p
  patch_from_trees = record {
    nodes = λ i c nc. is.nodes i c (in_new i c nc);
    covers_old = covers_old;
    covers_new = covers_new;
    new_root = new_root;
    apart = λ i j c d k nc nd. is.apart i j c d k (in_new i c nc) (in_new j d nd);
    named = named;
    kept = kept;
    replaced = replaced;
    reached = reached;
    leaves_old = leaves_old;
    leaves_new = leaves_new;
  }
