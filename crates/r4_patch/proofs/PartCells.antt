-- Parts of a tree: no key lies in two cells of one level, and a cell that is there is named once.
use Rattle.std.specs.Prelude.{◌≡◌, ℕ, zero, suc, ◌+◌, ◌<◌, ◌≤◌, ◌-◌, ◌⊎◌, if◌then◌else◌, Bool, true, false, IsTrue, Contains, Option, Some, None}
use mathlib.Core.Path.{refl, sym, ap, subst, ◌∙◌}
use mathlib.Core.Logic.{inl, inr}
use native.Mathlib.Omega.{arith}
use Rattle.std.proofs.Math.Nat.{le_refl}
use Rattle.std.proofs.lemmas.Option.{none-some}
use Rattle.r4_base.specs.Tree.{CoversLeaf, Name, Span, Node, Store, Root, InNode, InName, InSpan, Fits, IsNode, IsTree}
use Rattle.r4_base.proofs.Trees.{has_parent, not_both, one_cell}
use Rattle.r4_cell.specs.Patch.{Patch, NamesId, Meets}
use Rattle.r4_patch.specs.Part.{IsPart, IsWhole, IsClosed, IsUnnamed, cut}

module _ {V : Type 0} where
  -- the level of a cell, from that of one that it names
  pub level_above : (c : Node V) (n : Name) → IsNode c → Contains c.names n → (n.level < c.level) × (1 ≤ c.level)
  level_above c n ic cn = elim (ic.below n cn) [ inl h ↦ omega (arith, h) | inr h ↦ omega (arith, h) ]

  pub one_above : (c : Node V) (n : Name) → IsNode c → Contains c.names n → 1 ≤ n.level → c.level ≡ suc n.level
  one_above c n ic cn one = elim (ic.below n cn) [ inl h ↦ omega (arith, h) | inr h ↦ omega (arith, h, one) ]

  same_level : (c d : Node V) (n m : Name) → IsNode c → IsNode d → Contains c.names n → Contains d.names m → n.level ≡ m.level → c.level ≡ d.level
  same_level c d n m ic id cn dm e = elim (ic.below n cn) [
    | inl h ↦ elim (id.below m dm) [ inl g ↦ omega (arith, h, g, e) | inr g ↦ omega (arith, h, g, e) ]
    | inr h ↦ elim (id.below m dm) [ inl g ↦ omega (arith, h, g, e) | inr g ↦ omega (arith, h, g, e) ]
  ]

  pub in_name : (c : Node V) (n : Name) (k : ℕ) → Fits n c → InNode c k → InName n k
  in_name c n k f at = let lo = f.lo in let hi = f.hi in (omega (arith, lo, at), omega (arith, hi, at))

  pub in_namer : (c : Node V) (n : Name) (k : ℕ) → IsNode c → Contains c.names n → InName n k → InNode c k
  in_namer c n k ic cn at = (omega (arith, ic.name_from n cn, at), omega (arith, ic.name_to n cn, at))

  pub in_twig : (c : Node V) (s : Span) (k : ℕ) → IsNode c → Contains c.spans s → InSpan s k → InNode c k
  in_twig c s k ic cs at = (omega (arith, ic.span_from s cs, at), omega (arith, ic.span_to s cs, at))

-- the key lies in the leaf, or in an extent of the twig
abbrev pub HasPiece : {V : Type 0} → Node V → ℕ → Type 0
HasPiece c k = ((c.level ≡ 1) × InNode c k) ⊎ ((s : Span) × Contains c.spans s × InSpan s k)

-- a piece at a key, with its cell
abbrev pub Piece : {V : Type 0} → Store V → ℕ → Type 0
Piece {V} t k = (i : ℕ) × (c : Node V) × (t i ≡ Some c) × HasPiece c k

module _ {V : Type 0} where
  pub to_piece : (t : Store V) (k : ℕ) → CoversLeaf t k → Piece t k
  to_piece t k (inl (i, c, tc, low, at)) = (i, c, tc, inl (low, at))
  to_piece t k (inr (i, c, s, tc, cs, at)) = (i, c, tc, inr (s, cs, at))

  pub from_piece : (t : Store V) (k : ℕ) → Piece t k → CoversLeaf t k
  from_piece t k (i, c, tc, inl (low, at)) = inl (i, c, tc, low, at)
  from_piece t k (i, c, tc, inr (s, cs, at)) = inr (i, c, s, tc, cs, at)

-- the cell that names another, and the name
abbrev pub Parent : {V : Type 0} → Store V → ℕ → Node V → Type 0
Parent {V} t i c = (j : ℕ) × (d : Node V) × (n : Name) × (t j ≡ Some d) × Contains d.names n × (n.id ≡ i) × Fits n c

module _ {V : Type 0} (t : Store V) (root : Root) (it : IsPart t root) where
  pub parent : (i : ℕ) (c : Node V) → t i ≡ Some c → (i ≡ root.id) ⊎ Parent t i c
  parent i c tc = elim (it.reached i c tc) [
    | inl h ↦ inl h
    | inr h ↦
        let (n, (j, d, td, dn), is) = h in
        inr (j, d, n, td, dn, is, it.named j d c n td dn (subst (λ x. t x ≡ Some c) (sym is) tc))
  ]

  pub root_high : (i : ℕ) (c : Node V) → t i ≡ Some c → i ≡ root.id → c.level ≡ root.height
  root_high i c tc is = ap (λ x. x.level) (one_cell t root.id c it.root_node (subst (λ x. t x ≡ Some c) is tc) it.root_is) ∙ it.root_level

  pub under_root : (i : ℕ) (c : Node V) → Parent t i c → c.level < root.height
  under_root i c (j, d, n, td, dn, is, f) =
      let above = (level_above d n (it.nodes j d td) dn).0 in
      let most = it.none_above j d td in
      let level = f.level in
      omega (arith, above, most, level)

  pub root_unnamed : (j : ℕ) (d : Node V) (n : Name) → t j ≡ Some d → Contains d.names n → n.id ≡ root.id → ⊥
  root_unnamed j d n td dn is =
      let f = it.named j d it.root_node n td dn (subst (λ x. t x ≡ Some it.root_node) (sym is) it.root_is) in
      let low = under_root root.id it.root_node (j, d, n, td, dn, is, f) in
      let level = it.root_level in
      omega (arith, low, level)

  at_root : (i : ℕ) (c : Node V) → t i ≡ Some c → c.level ≡ root.height → i ≡ root.id
  at_root i c tc high = elim (parent i c tc) [ inl h ↦ h | inr h ↦ let low = under_root i c h in absurd (omega (arith, low, high)) ]

  -- by induction on how far below the root: the same key leads to one cell
  apart_by : (m i j : ℕ) (c d : Node V) (k : ℕ) → m + c.level ≡ root.height → t i ≡ Some c → t j ≡ Some d → c.level ≡ d.level → 1 ≤ c.level → InNode c k → InNode d k → i ≡ j
  apart_by zero i j c d k e tc td same one at_c at_d = at_root i c tc (omega (arith, e)) ∙ sym (at_root j d td (omega (arith, e, same)))
  apart_by (suc m) i j c d k e tc td same one at_c at_d = elim (parent i c tc) [
    | inl h ↦ let high = root_high i c tc h in absurd (omega (arith, high, e))
    | inr h ↦ elim (parent j d td) [
      | inl g ↦ let high = root_high j d td g in absurd (omega (arith, high, e, same))
      | inr g ↦
          let (a, x, n, tx, xn, ni, f) = h in
          let (b, y, o, ty, yo, oj, f2) = g in
          let ix = it.nodes a x tx in
          let iy = it.nodes b y ty in
          let nl = f.level in
          let ol = f2.level in
          let xl = one_above x n ix xn (omega (arith, nl, one)) in
          let yl = one_above y o iy yo (omega (arith, ol, one, same)) in
          let at_n = in_name c n k f at_c in
          let at_o = in_name d o k f2 at_d in
          let ab : a ≡ b = apart_by m a b x y k (omega (arith, e, xl, nl)) tx ty (omega (arith, xl, yl, nl, ol, same)) (omega (arith, xl)) (in_namer x n k ix xn at_n) (in_namer y o k iy yo at_o) in
          let xy : x ≡ y = one_cell t b x y (subst (λ z. t z ≡ Some x) ab tx) ty in
          let no : n ≡ o = iy.names_apart n o k (subst (λ z. Contains z.names n) xy xn) yo (omega (arith, nl, ol, same)) at_n at_o in
          sym ni ∙ ap (λ z. z.id) no ∙ oj
    ]
  ]

  pub apart : (i j : ℕ) (c d : Node V) (k : ℕ) → t i ≡ Some c → t j ≡ Some d → c.level ≡ d.level → 1 ≤ c.level → InNode c k → InNode d k → i ≡ j
  apart i j c d k tc td same one at_c at_d =
      let most = it.none_above i c tc in
      apart_by (root.height - c.level) i j c d k (omega (arith, most)) tc td same one at_c at_d

  -- a leaf is below the root
  leaf_parent : (i : ℕ) (c : Node V) → t i ≡ Some c → c.level ≤ 1 → Parent t i c
  leaf_parent i c tc low = elim (parent i c tc) [
    | inl h ↦
        let high = root_high i c tc h in
        let height = it.height in
        absurd (omega (arith, high, height, low))
    | inr h ↦ h
  ]

  pub leaf_or_extent : (i j : ℕ) (c d : Node V) (s : Span) (k : ℕ) → t i ≡ Some c → t j ≡ Some d → c.level ≡ 1 → Contains d.spans s → InNode c k → InSpan s k → ⊥
  leaf_or_extent i j c d s k tc td low ds at_c at_s =
      let (a, x, n, tx, xn, ni, f) = leaf_parent i c tc (omega (arith, low)) in
      let ix = it.nodes a x tx in
      let jd = it.nodes j d td in
      let level = f.level in
      let xl = one_above x n ix xn (omega (arith, level, low)) in
      let twig = jd.spans_in_twigs s ds in
      let at_n = in_name c n k f at_c in
      let aj : a ≡ j = apart a j x d k tx td (omega (arith, xl, level, low, twig)) (omega (arith, xl)) (in_namer x n k ix xn at_n) (in_twig d s k jd ds at_s) in
      let xd : x ≡ d = one_cell t j x d (subst (λ z. t z ≡ Some x) aj tx) td in
      let block = jd.spans_apart n s k (subst (λ z. Contains z.names n) xd xn) ds at_n at_s in
      omega (arith, block, level, low)

  -- two pieces with a key in common are of one cell
  pub one_piece : (k i j : ℕ) (c d : Node V) → t i ≡ Some c → t j ≡ Some d → HasPiece c k → HasPiece d k → i ≡ j
  one_piece k i j c d tc td (inl (lc, at_c)) (inl (ld, at_d)) = apart i j c d k tc td (lc ∙ sym ld) (omega (arith, lc)) at_c at_d
  one_piece k i j c d tc td (inl (lc, at_c)) (inr (s, ds, at_s)) = absurd (leaf_or_extent i j c d s k tc td lc ds at_c at_s)
  one_piece k i j c d tc td (inr (s, cs, at_s)) (inl (ld, at_d)) = absurd (leaf_or_extent j i d c s k td tc ld cs at_d at_s)
  one_piece k i j c d tc td (inr (s, cs, at_s)) (inr (r, dr, at_r)) =
      let ic = it.nodes i c tc in
      let id = it.nodes j d td in
      let lc = ic.spans_in_twigs s cs in
      apart i j c d k tc td (lc ∙ sym (id.spans_in_twigs r dr)) (omega (arith, lc)) (in_twig c s k ic cs at_s) (in_twig d r k id dr at_r)

  pub data_named : (i : ℕ) (c : Node V) → t i ≡ Some c → c.level ≡ 0 → (j : ℕ) × (d : Node V) × (n : Name) × (t j ≡ Some d) × Contains d.names n × (n.id ≡ i)
  data_named i c tc low = let (j, d, n, td, dn, is, f) = leaf_parent i c tc (omega (arith, low)) in (j, d, n, td, dn, is)

  -- two names of a cell that is there are one
  pub named_once : (i j a : ℕ) (c d x : Node V) (n m : Name) → t i ≡ Some c → t j ≡ Some d → Contains c.names n → Contains d.names m → t a ≡ Some x → n.id ≡ a → m.id ≡ a → (i ≡ j) × (n ≡ m)
  named_once i j a c d x n m tc td cn dm tx na ma =
      let f = it.named i c x n tc cn (subst (λ y. t y ≡ Some x) (sym na) tx) in
      let g = it.named j d x m td dm (subst (λ y. t y ≡ Some x) (sym ma) tx) in
      let lv : n.level ≡ m.level = sym f.level ∙ g.level in
      let lo : n.lo ≡ m.lo = sym f.lo ∙ g.lo in
      let hi : n.hi ≡ m.hi = sym f.hi ∙ g.hi in
      let ic = it.nodes i c tc in
      let id = it.nodes j d td in
      let full = ic.name_nonempty n cn in
      let at_n : InName n n.lo = (le_refl n.lo, full) in
      let at_m : InName m n.lo = (omega (arith, lo), omega (arith, hi, full)) in
      let ij : i ≡ j = apart i j c d n.lo tc td (same_level c d n m ic id cn dm lv) (level_above c n ic cn).1 (in_namer c n n.lo ic cn at_n) (in_namer d m n.lo id dm at_m) in
      let cd : c ≡ d = one_cell t j c d (subst (λ z. t z ≡ Some c) ij tc) td in
      (ij, id.names_apart n m n.lo (subst (λ z. Contains z.names n) cd cn) dm lv at_n at_m)

  pub whole_is_tree : IsWhole t → IsTree t root
  whole_is_tree whole = record {
    nodes = it.nodes;
    root_node = it.root_node;
    root_is = it.root_is;
    root_level = it.root_level;
    root_lo = it.root_lo;
    root_hi = it.root_hi;
    height = it.height;
    none_above = it.none_above;
    named = λ i c n tc cn. let (d, td) = whole i c n tc cn in (d, td, it.named i c d n tc cn td);
    apart = apart;
    leaf_or_extent = leaf_or_extent;
    data_named = data_named;
  }

module _ {V : Type 0} (t : Store V) (root : Root) (it : IsTree t root) where
  tree_named : (i : ℕ) (c d : Node V) (n : Name) → t i ≡ Some c → Contains c.names n → t n.id ≡ Some d → Fits n d
  tree_named i c d n tc cn td = let (e, te, f) = it.named i c n tc cn in subst (Fits n) (one_cell t n.id e d te td) f

  tree_reached : (i : ℕ) (c : Node V) → t i ≡ Some c → (i ≡ root.id) ⊎ NamesId t i
  tree_reached i c tc = elim (has_parent t root it i c tc) [
    | inl h ↦ inl h
    | inr h ↦ let (j, d, n, td, dn, is) = h in inr (n, (j, d, td, dn), is)
  ]

  pub tree_is_part : IsPart t root
  tree_is_part = record {
    nodes = it.nodes;
    root_node = it.root_node;
    root_is = it.root_is;
    root_level = it.root_level;
    root_lo = it.root_lo;
    root_hi = it.root_hi;
    height = it.height;
    none_above = it.none_above;
    named = tree_named;
    reached = tree_reached;
  }

  pub tree_is_whole : IsWhole t
  tree_is_whole i c n tc cn = let (d, td, f) = it.named i c n tc cn in (d, td)

  pub tree_unnamed : (p : Patch V) → Meets p t root → IsUnnamed p t
  tree_unnamed p m i c nc gone (n, (j, d, td, dn), is) =
      let (e, te, f) = it.named j d n td dn in
      not_both t i e (m.free i c nc gone) (subst (λ x. t x ≡ Some e) is te)

-- ---- the cells of a set

module _ {V : Type 0} where
  kept_by : (b : Bool) (o : Option (Node V)) (c : Node V) → (if b then o else None) ≡ Some c → IsTrue b × (o ≡ Some c)
  kept_by true o c e = (refl, e)
  kept_by false o c e = absurd (none-some c e)

  keeps_by : (b : Bool) (o : Option (Node V)) (c : Node V) → IsTrue b → o ≡ Some c → (if b then o else None) ≡ Some c
  keeps_by true o c h e = e
  keeps_by false o c h e = grind (arith, h)

module _ {V : Type 0} (t : Store V) (root : Root) (it : IsPart t root) (keep : ℕ → Bool) (has_root : IsTrue (keep root.id)) (closed : IsClosed keep t) where
  cut_reached : (i : ℕ) (c : Node V) → cut keep t i ≡ Some c → (i ≡ root.id) ⊎ NamesId (cut keep t) i
  cut_reached i c uc =
      let (k, tc) = kept_by (keep i) (t i) c uc in
      elim (it.reached i c tc) [
        | inl h ↦ inl h
        | inr h ↦
            let (n, (j, d, td, dn), is) = h in
            let up = closed j d c n td dn (subst (λ x. t x ≡ Some c) (sym is) tc) (subst (λ x. IsTrue (keep x)) (sym is) k) in
            inr (n, (j, d, keeps_by (keep j) (t j) d up td, dn), is)
      ]

  pub cut_is_part : IsPart (cut keep t) root
  cut_is_part = record {
    nodes = λ i c uc. it.nodes i c (kept_by (keep i) (t i) c uc).1;
    root_node = it.root_node;
    root_is = keeps_by (keep root.id) (t root.id) it.root_node has_root it.root_is;
    root_level = it.root_level;
    root_lo = it.root_lo;
    root_hi = it.root_hi;
    height = it.height;
    none_above = λ i c uc. it.none_above i c (kept_by (keep i) (t i) c uc).1;
    named = λ i c d n uc cn ud. it.named i c d n (kept_by (keep i) (t i) c uc).1 cn (kept_by (keep n.id) (t n.id) d ud).1;
    reached = cut_reached;
  }
