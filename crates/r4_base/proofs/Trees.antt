-- Trees: each key of a tree is held by one cell, each cell but the root is named once, and a key has one value.
use Rattle.std.specs.Prelude.{◌≡◌, ℕ, zero, suc, ◌+◌, ◌<◌, ◌≤◌, ◌-◌, ◌⊎◌, ◌↔◌, List, [], ◌∷◌, Contains, Some, None}
use mathlib.Core.Path.{refl, sym, ap, subst, ◌∙◌}
use mathlib.Core.Logic.{inl, inr}
use native.Mathlib.Omega.{arith}
use Rattle.std.proofs.Math.Decide.{dec_le, ℕ_discrete}
use Rattle.std.proofs.Math.Nat.{lt_of_not-le, le_refl}
use Rattle.std.proofs.lemmas.Option.{none-some, same_Some}
use Rattle.r4_base.specs.Key.{least, top}
use Rattle.r4_base.specs.Tree.{Name, Span, Node, Store, Root, InNode, InName, InSpan, IsData, IsTree, UnitAt, Holds, Covers, CoversLeaf}

module _ {V : Type 0} where
  pub one_cell : (s : Store V) (i : ℕ) (c d : Node V) → s i ≡ Some c → s i ≡ Some d → c ≡ d
  one_cell s i c d e h = same_Some c d (sym e ∙ h)

  pub not_both : (s : Store V) (i : ℕ) (c : Node V) → s i ≡ None → s i ≡ Some c → ⊥
  not_both s i c e h = none-some c (sym e ∙ h)

module _ {V : Type 0} (t : Store V) (root : Root) (it : IsTree t root) where
  -- the twig and the extent that a data block stands in
  pub block_twig : (i : ℕ) (c : Node V) (k : ℕ) → t i ≡ Some c → c.level ≡ 0 → InNode c k → (j : ℕ) × (d : Node V) × (n : Name) × (s : Span) × (t j ≡ Some d) × (d.level ≡ 2) × Contains d.names n × (n.id ≡ i) × IsData n × InName n k × Contains d.spans s × InSpan s k × InNode d k
  block_twig i c k tc low at =
      let (j, d, n, tj, dn, is) = it.data_named i c tc low in
      let (e, te, f) = it.named j d n tj dn in
      let same : e ≡ c = one_cell t i e c (subst (λ x. t x ≡ Some e) is te) tc in
      let lv : n.level ≡ 0 = sym f.level ∙ ap (λ x. x.level) same ∙ low in
      let lo : n.lo ≡ c.lo = sym f.lo ∙ ap (λ x. x.lo) same in
      let hi : n.hi ≡ c.hi = sym f.hi ∙ ap (λ x. x.hi) same in
      let jd = it.nodes j d tj in
      let (s, ds, from, to) = jd.data_in_span n dn lv in
      let at_n : InName n k = (omega (arith, lo, at), omega (arith, hi, at)) in
      let at_s : InSpan s k = (omega (arith, from, at_n), omega (arith, to, at_n)) in
      let at_d : InNode d k = (omega (arith, jd.span_from s ds, at_s), omega (arith, jd.span_to s ds, at_s)) in
      (j, d, n, s, tj, jd.spans_in_twigs s ds, dn, is, lv, at_n, ds, at_s, at_d)

  -- in a leaf's range the leaf has the units
  pub leaf_holds : (i : ℕ) (c : Node V) (k : ℕ) (v : V) → t i ≡ Some c → c.level ≡ 1 → InNode c k → UnitAt t k v → Contains c.units (k, v)
  leaf_holds i c k v tc low at (j, d, tj, has) =
      let jd = it.nodes j d tj in
      let at_d = jd.unit_in k v has in
      elim (jd.unit_low k v has) [
        | inr h ↦ let (s, ds, at_s) = h in absurd (it.leaf_or_extent i j c d s k tc tj low ds at at_s)
        | inl h ↦ elim (dec_le 1 d.level) [
          | yes one ↦
              let is : j ≡ i = it.apart j i d c k tj tc (omega (arith, h, one, low)) one at_d at in
              let same : d ≡ c = one_cell t i d c (subst (λ x. t x ≡ Some d) is tj) tc in
              subst (λ x. Contains x.units (k, v)) same has
          | no zero_level ↦
              let (a, b, n, s, ta, _, _, _, _, _, bs, at_s, _) = block_twig j d k tj (omega (arith, lt_of_not-le zero_level)) at_d in
              absurd (it.leaf_or_extent i a c b s k tc ta low bs at at_s)
        ]
      ]

  -- two blocks with a key in common are one
  pub same_block : (i j : ℕ) (c d : Node V) (k : ℕ) → t i ≡ Some c → t j ≡ Some d → c.level ≡ 0 → d.level ≡ 0 → InNode c k → InNode d k → i ≡ j
  same_block i j c d k tc td lc ld at_c at_d =
      let (a, e, n, s, ta, la, en, ni, nz, at_n, es, at_s, at_e) = block_twig i c k tc lc at_c in
      let (b, f, m, r, tb, lb, fm, mj, mz, at_m, fr, at_r, at_f) = block_twig j d k td ld at_d in
      let is : a ≡ b = it.apart a b e f k ta tb (la ∙ sym lb) (omega (arith, la)) at_e at_f in
      let same : e ≡ f = one_cell t b e f (subst (λ x. t x ≡ Some e) is ta) tb in
      let one : n ≡ m = (it.nodes b f tb).names_apart n m k (subst (λ x. Contains x.names n) same en) fm (nz ∙ sym mz) at_n at_m in
      sym ni ∙ ap (λ x. x.id) one ∙ mj

  -- in a block's range the block has the units
  pub block_holds : (i : ℕ) (c : Node V) (k : ℕ) (v : V) → t i ≡ Some c → c.level ≡ 0 → InNode c k → UnitAt t k v → Contains c.units (k, v)
  block_holds i c k v tc low at (j, d, tj, has) =
      let jd = it.nodes j d tj in
      let at_d = jd.unit_in k v has in
      let (a, b, n, s, ta, lb, bn, ni, nz, at_n, bs, at_s, at_b) = block_twig i c k tc low at in
      elim (dec_le 1 d.level) [
        | no zero_level ↦
            let is : j ≡ i = same_block j i d c k tj tc (omega (arith, lt_of_not-le zero_level)) low at_d at in
            let same : d ≡ c = one_cell t i d c (subst (λ x. t x ≡ Some d) is tj) tc in
            subst (λ x. Contains x.units (k, v)) same has
        | yes one ↦ elim (jd.unit_low k v has) [
          | inl h ↦ absurd (it.leaf_or_extent j a d b s k tj ta (omega (arith, h, one)) bs at_d at_s)
          | inr h ↦
              let (r, dr, at_r) = h in
              let is : j ≡ a = it.apart j a d b k tj ta (jd.spans_in_twigs r dr ∙ sym lb) one at_d at_b in
              let same : d ≡ b = one_cell t a d b (subst (λ x. t x ≡ Some d) is tj) ta in
              absurd ((it.nodes a b ta).unit_in_hole n k v bn nz (subst (λ x. Contains x.units (k, v)) same has) at_n)
        ]
      ]

  -- in a twig's range, past its blocks and leaves, the twig has the units
  twig_holds : (i : ℕ) (c : Node V) (k : ℕ) (v w : V) → t i ≡ Some c → c.level ≡ 2 → Contains c.units (k, v) → UnitAt t k w → Contains c.units (k, w)
  twig_holds i c k v w tc two has_v (j, d, tj, has) =
      let ic = it.nodes i c tc in
      let jd = it.nodes j d tj in
      let at_c = ic.unit_in k v has_v in
      let at_d = jd.unit_in k w has in
      elim (ic.unit_low k v has_v) [
        | inl h ↦ absurd (omega (arith, h, two))
        | inr g ↦
            let (s, cs, at_s) = g in
            elim (dec_le 1 d.level) [
              | no zero_level ↦
                  let (a, b, n, r, ta, lb, bn, ni, nz, at_n, br, at_r, at_b) = block_twig j d k tj (omega (arith, lt_of_not-le zero_level)) at_d in
                  let is : i ≡ a = it.apart i a c b k tc ta (two ∙ sym lb) (omega (arith, two)) at_c at_b in
                  let same : c ≡ b = one_cell t a c b (subst (λ x. t x ≡ Some c) is tc) ta in
                  absurd ((it.nodes a b ta).unit_in_hole n k v bn nz (subst (λ x. Contains x.units (k, v)) same has_v) at_n)
              | yes one ↦ elim (jd.unit_low k w has) [
                | inl h ↦ absurd (it.leaf_or_extent j i d c s k tj tc (omega (arith, h, one)) cs at_d at_s)
                | inr h ↦
                    let (r, dr, at_r) = h in
                    let is : j ≡ i = it.apart j i d c k tj tc (jd.spans_in_twigs r dr ∙ sym two) one at_d at_c in
                    let same : d ≡ c = one_cell t i d c (subst (λ x. t x ≡ Some d) is tj) tc in
                    subst (λ x. Contains x.units (k, w)) same has
              ]
            ]
      ]

  -- one key has one value
  pub unit_once : (k : ℕ) (v w : V) → UnitAt t k v → UnitAt t k w → v ≡ w
  unit_once k v w (i, c, tc, has) u =
      let ic = it.nodes i c tc in
      let at = ic.unit_in k v has in
      elim (dec_le 1 c.level) [
        | no zero_level ↦ ic.one_unit k v w has (block_holds i c k w tc (omega (arith, lt_of_not-le zero_level)) at u)
        | yes one ↦ elim (ic.unit_low k v has) [
          | inl h ↦ ic.one_unit k v w has (leaf_holds i c k w tc (omega (arith, h, one)) at u)
          | inr h ↦ let (s, cs, _) = h in ic.one_unit k v w has (twig_holds i c k v w tc (ic.spans_in_twigs s cs) has u)
        ]
      ]

  -- above the leaves each key is covered: by induction on how far below the root
  covered_by : (n l k : ℕ) → n + l ≡ root.height → 2 ≤ l → least ≤ k → k < top → Covers t l k
  covered_by zero l k e two from to =
      let level = it.root_level in
      let lo = it.root_lo in
      let hi = it.root_hi in
      (root.id, it.root_node, it.root_is, omega (arith, level, e), (omega (arith, lo, from), omega (arith, hi, to)))
  covered_by (suc n) l k e two from to =
      let (i, c, tc, cl, at) = covered_by n (suc l) k (omega (arith, e)) (omega (arith, two)) from to in
      elim ((it.nodes i c tc).covered k (omega (arith, cl, two)) at) [
        | inl h ↦
            let (m, cm, ml, at_m) = h in
            let (d, td, f) = it.named i c m tc cm in
            let fl = f.level in
            let flo = f.lo in
            let fhi = f.hi in
            (m.id, d, td, omega (arith, fl, ml, cl), (omega (arith, flo, at_m), omega (arith, fhi, at_m)))
        | inr h ↦
            let (s, cs, _) = h in
            let q = (it.nodes i c tc).spans_in_twigs s cs in
            absurd (omega (arith, q, cl, two))
      ]

  pub covered_above : (l k : ℕ) → 2 ≤ l → l ≤ root.height → least ≤ k → k < top → Covers t l k
  covered_above l k two low from to = covered_by (root.height - l) l k (omega (arith, low)) two from to

  -- each key lies in a leaf or in an extent
  pub covered_low : (k : ℕ) → least ≤ k → k < top → CoversLeaf t k
  covered_low k from to =
      let (i, c, tc, cl, at) = covered_above 2 k (le_refl 2) it.height from to in
      elim ((it.nodes i c tc).covered k (omega (arith, cl)) at) [
        | inl h ↦
            let (m, cm, ml, at_m) = h in
            let (d, td, f) = it.named i c m tc cm in
            let fl = f.level in
            let flo = f.lo in
            let fhi = f.hi in
            inl (m.id, d, td, omega (arith, fl, ml, cl), (omega (arith, flo, at_m), omega (arith, fhi, at_m)))
        | inr h ↦ let (s, cs, at_s) = h in inr (i, c, s, tc, cs, at_s)
      ]

  -- each cell but the root is named
  pub has_parent : (i : ℕ) (c : Node V) → t i ≡ Some c → (i ≡ root.id) ⊎ ((j : ℕ) × (d : Node V) × (n : Name) × (t j ≡ Some d) × Contains d.names n × (n.id ≡ i))
  has_parent i c tc =
      let ic = it.nodes i c tc in
      let most = it.none_above i c tc in
      let level = it.root_level in
      let from = ic.from_least in
      let full = ic.nonempty in
      let to = ic.to_top in
      let at : InNode c c.lo = (le_refl c.lo, full) in
      elim (ℕ_discrete c.level 0) [
        | yes zero_level ↦ inr (it.data_named i c tc zero_level)
        | no some_level ↦ elim (ℕ_discrete c.level root.height) [
          | yes high ↦
              let lo = it.root_lo in
              let hi = it.root_hi in
              inl (it.apart i root.id c it.root_node c.lo tc it.root_is (omega (arith, high, level)) (omega (arith, some_level)) at (omega (arith, lo, from), omega (arith, hi, full, to)))
          | no lower ↦
              let (j, d, tj, dl, at_d) = covered_above (suc c.level) c.lo (omega (arith, some_level)) (omega (arith, lower, most)) from (omega (arith, full, to)) in
              inr (elim ((it.nodes j d tj).covered c.lo (omega (arith, dl, some_level)) at_d) [
                | inl h ↦
                    let (n, dn, nl, at_n) = h in
                    let (e, te, f) = it.named j d n tj dn in
                    let fl = f.level in
                    let flo = f.lo in
                    let fhi = f.hi in
                    (j, d, n, tj, dn, it.apart n.id i e c c.lo te tc (omega (arith, fl, nl, dl)) (omega (arith, fl, nl, dl, some_level)) (omega (arith, flo, at_n), omega (arith, fhi, at_n)) at)
                | inr h ↦
                    let (s, ds, at_s) = h in
                    let q = (it.nodes j d tj).spans_in_twigs s ds in
                    absurd (it.leaf_or_extent i j c d s c.lo tc tj (omega (arith, q, dl)) ds at at_s)
              ])
        ]
      ]

  -- and once
  pub named_once : (i j : ℕ) (c d : Node V) (n m : Name) → t i ≡ Some c → t j ≡ Some d → Contains c.names n → Contains d.names m → n.id ≡ m.id → (i ≡ j) × (n ≡ m)
  named_once i j c d n m tc td cn dm is =
      let (e, te, f) = it.named i c n tc cn in
      let (g, tg, h) = it.named j d m td dm in
      let same : e ≡ g = one_cell t m.id e g (subst (λ x. t x ≡ Some e) is te) tg in
      let lv : n.level ≡ m.level = sym f.level ∙ ap (λ x. x.level) same ∙ h.level in
      let lo : n.lo ≡ m.lo = sym f.lo ∙ ap (λ x. x.lo) same ∙ h.lo in
      let hi : n.hi ≡ m.hi = sym f.hi ∙ ap (λ x. x.hi) same ∙ h.hi in
      let ic = it.nodes i c tc in
      let jd = it.nodes j d td in
      let full = ic.name_nonempty n cn in
      let a = ic.name_from n cn in
      let b = ic.name_to n cn in
      let a2 = jd.name_from m dm in
      let b2 = jd.name_to m dm in
      let levels : c.level ≡ d.level = elim (ic.below n cn) [
        | inl x ↦ elim (jd.below m dm) [ inl y ↦ omega (arith, x, y, lv) | inr y ↦ omega (arith, x, y, lv) ]
        | inr x ↦ elim (jd.below m dm) [ inl y ↦ omega (arith, x, y, lv) | inr y ↦ omega (arith, x, y, lv) ]
      ] in
      let low : 1 ≤ c.level = elim (ic.below n cn) [ inl x ↦ omega (arith, x) | inr x ↦ omega (arith, x) ] in
      let one : i ≡ j = it.apart i j c d n.lo tc td levels low (a, omega (arith, full, b)) (omega (arith, a2, lo), omega (arith, full, b2, hi)) in
      let both : c ≡ d = one_cell t j c d (subst (λ x. t x ≡ Some c) one tc) td in
      (one, jd.names_apart n m n.lo (subst (λ x. Contains x.names n) both cn) dm lv (le_refl n.lo, full) (omega (arith, lo), omega (arith, hi, full)))

in_head : {A : Type 0} (x : A) (xs : List A) → Contains (x ∷ xs) x
in_head x xs = (zero, omega arith, refl)

in_tail : {A : Type 0} (x y : A) (xs : List A) → Contains xs y → Contains (x ∷ xs) y
in_tail x y xs (k, l, e) = (suc k, omega (arith, l), e)

-- an element passes, or none does
search_list : {A : Type 0} (P : A → Type 0) → ((x : A) → P x ⊎ ¬ (P x)) → (xs : List A) → ((x : A) × Contains xs x × P x) ⊎ ((x : A) → Contains xs x → ¬ (P x))
search_list P dec [] = inr (λ x h p. omega (arith, h.1))
search_list {A} P dec (x ∷ xs) = go (dec x) (search_list P dec xs)
  where
    none : ¬ (P x) → ((y : A) → Contains xs y → ¬ (P y)) → (y : A) → Contains (x ∷ xs) y → ¬ (P y)
    none h g y (zero, l, e) p = h (subst P (sym e) p)
    none h g y (suc k, l, e) p = g y (k, omega (arith, l), e) p

    go : P x ⊎ ¬ (P x) → ((y : A) × Contains xs y × P y) ⊎ ((y : A) → Contains xs y → ¬ (P y)) → ((y : A) × Contains (x ∷ xs) y × P y) ⊎ ((y : A) → Contains (x ∷ xs) y → ¬ (P y))
    go (inl p) r = inl (x, in_head x xs, p)
    go (inr h) (inl (y, c, p)) = inl (y, in_tail x y xs c, p)
    go (inr h) (inr g) = inr (none h g)

block_at : (k : ℕ) (n : Name) → (IsData n × InName n k) ⊎ ¬ (IsData n × InName n k)
block_at k n = elim (ℕ_discrete n.level 0) [
  | no other ↦ inr (λ h. other h.0)
  | yes low ↦ elim (dec_le n.lo k) [
    | no other ↦ inr (λ h. other h.1.0)
    | yes from ↦ elim (dec_le (suc k) n.hi) [
      | no other ↦ inr (λ h. other h.1.1)
      | yes to ↦ inl (low, (from, to))
    ]
  ]
]

module _ {V : Type 0} (t : Store V) (root : Root) (it : IsTree t root) where
  pub holder : (k : ℕ) → least ≤ k → k < top → (i : ℕ) × (c : Node V) × (t i ≡ Some c) × Holds c k
  holder k from to = elim (covered_low t root it k from to) [
    | inl h ↦ let (i, c, tc, low, at) = h in (i, c, tc, inl (omega (arith, low), at))
    | inr h ↦
        let (i, c, s, tc, cs, at_s) = h in
        elim (search_list (λ n. IsData n × InName n k) (block_at k) c.names) [
          | inl g ↦
              let (n, cn, (low, at_n)) = g in
              let (d, td, f) = it.named i c n tc cn in
              let fl = f.level in
              let flo = f.lo in
              let fhi = f.hi in
              (n.id, d, td, inl (omega (arith, fl, low), (omega (arith, flo, at_n), omega (arith, fhi, at_n))))
          | inr g ↦ (i, c, tc, inr (s, cs, at_s, λ n cn low at. g n cn (low, at)))
        ]
  ]

  in_twig : (i : ℕ) (c : Node V) (s : Span) (k : ℕ) → t i ≡ Some c → Contains c.spans s → InSpan s k → InNode c k
  in_twig i c s k tc cs at =
      let ic = it.nodes i c tc in
      (omega (arith, ic.span_from s cs, at), omega (arith, ic.span_to s cs, at))

  pub holds_in : (i : ℕ) (c : Node V) (k : ℕ) → t i ≡ Some c → Holds c k → InNode c k
  holds_in i c k tc (inl h) = h.1
  holds_in i c k tc (inr (s, cs, at, _)) = in_twig i c s k tc cs at

  low_hole : (i j : ℕ) (c d : Node V) (s : Span) (k : ℕ) → t i ≡ Some c → t j ≡ Some d → c.level ≤ 1 → InNode c k → Contains d.spans s → InSpan s k → ((n : Name) → Contains d.names n → IsData n → InName n k → ⊥) → ⊥
  low_hole i j c d s k tc td low at ds at_s hole = elim (dec_le 1 c.level) [
    | yes one ↦ it.leaf_or_extent i j c d s k tc td (omega (arith, low, one)) ds at at_s
    | no zero_level ↦
        let (a, b, n, r, ta, lb, bn, ni, nz, at_n, br, at_r, at_b) = block_twig t root it i c k tc (omega (arith, lt_of_not-le zero_level)) at in
        let is : a ≡ j = it.apart a j b d k ta td (lb ∙ sym ((it.nodes j d td).spans_in_twigs s ds)) (omega (arith, lb)) at_b (in_twig j d s k td ds at_s) in
        let same : b ≡ d = one_cell t j b d (subst (λ x. t x ≡ Some b) is ta) td in
        hole n (subst (λ x. Contains x.names n) same bn) nz at_n
  ]

  low_low : (i j : ℕ) (c d : Node V) (k : ℕ) → t i ≡ Some c → t j ≡ Some d → c.level ≤ 1 → d.level ≤ 1 → InNode c k → InNode d k → i ≡ j
  low_low i j c d k tc td lc ld at_c at_d = elim (dec_le 1 c.level) [
    | yes one ↦ elim (dec_le 1 d.level) [
      | yes one2 ↦ it.apart i j c d k tc td (omega (arith, lc, ld, one, one2)) one at_c at_d
      | no zero_level ↦
          let (a, b, n, r, ta, lb, bn, ni, nz, at_n, br, at_r, at_b) = block_twig t root it j d k td (omega (arith, lt_of_not-le zero_level)) at_d in
          absurd (it.leaf_or_extent i a c b r k tc ta (omega (arith, lc, one)) br at_c at_r)
    ]
    | no zero_level ↦ elim (dec_le 1 d.level) [
      | yes one2 ↦
          let (a, b, n, r, ta, lb, bn, ni, nz, at_n, br, at_r, at_b) = block_twig t root it i c k tc (omega (arith, lt_of_not-le zero_level)) at_c in
          absurd (it.leaf_or_extent j a d b r k td ta (omega (arith, ld, one2)) br at_d at_r)
      | no zero_level2 ↦ same_block t root it i j c d k tc td (omega (arith, lt_of_not-le zero_level)) (omega (arith, lt_of_not-le zero_level2)) at_c at_d
    ]
  ]

  pub holder_once : (i j : ℕ) (c d : Node V) (k : ℕ) → t i ≡ Some c → t j ≡ Some d → Holds c k → Holds d k → i ≡ j
  holder_once i j c d k tc td (inl (lc, at_c)) (inl (ld, at_d)) = low_low i j c d k tc td lc ld at_c at_d
  holder_once i j c d k tc td (inl (lc, at_c)) (inr (s, ds, at_s, hole)) = absurd (low_hole i j c d s k tc td lc at_c ds at_s hole)
  holder_once i j c d k tc td (inr (s, cs, at_s, hole)) (inl (ld, at_d)) = absurd (low_hole j i d c s k td tc ld at_d cs at_s hole)
  holder_once i j c d k tc td (inr (s, cs, at_s, hole)) (inr (r, dr, at_r, hole2)) =
      it.apart i j c d k tc td ((it.nodes i c tc).spans_in_twigs s cs ∙ sym ((it.nodes j d td).spans_in_twigs r dr)) (let q = (it.nodes i c tc).spans_in_twigs s cs in omega (arith, q)) (in_twig i c s k tc cs at_s) (in_twig j d r k td dr at_r)

  unit_holder : (i : ℕ) (c : Node V) (k : ℕ) (v : V) → t i ≡ Some c → Contains c.units (k, v) → Holds c k
  unit_holder i c k v tc has =
      let ic = it.nodes i c tc in
      elim (ic.unit_low k v has) [
        | inl h ↦ inl (h, ic.unit_in k v has)
        | inr h ↦ let (s, cs, at) = h in inr (s, cs, at, λ n cn low at_n. ic.unit_in_hole n k v cn low has at_n)
      ]

  -- the holder has the unit
  pub holds_unit : (i : ℕ) (c : Node V) (k : ℕ) (v : V) → t i ≡ Some c → Holds c k → UnitAt t k v → Contains c.units (k, v)
  holds_unit i c k v tc h (j, d, td, has) =
      let is : j ≡ i = holder_once j i d c k td tc (unit_holder j d k v td has) h in
      let same : d ≡ c = one_cell t i d c (subst (λ x. t x ≡ Some d) is td) tc in
      subst (λ x. Contains x.units (k, v)) same has

  pub unit_iff : (i : ℕ) (c : Node V) (k : ℕ) (v : V) → t i ≡ Some c → Holds c k → UnitAt t k v ↔ Contains c.units (k, v)
  unit_iff i c k v tc h = (holds_unit i c k v tc h, λ has. (i, c, tc, has))

  pub unit_range : (k : ℕ) (v : V) → UnitAt t k v → (least ≤ k) × (k < top)
  unit_range k v (i, c, tc, has) =
      let ic = it.nodes i c tc in
      let at = ic.unit_in k v has in
      let from = ic.from_least in
      let to = ic.to_top in
      (omega (arith, at, from), omega (arith, at, to))
