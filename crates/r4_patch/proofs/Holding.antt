-- In a part of a tree one cell holds a key, and what a patch's new cells hold its old ones held.
use Rattle.std.specs.Prelude.{◌≡◌, ℕ, zero, suc, ◌≤◌, ◌⊎◌, List, [], ◌∷◌, Contains, None, Some}
use mathlib.Core.Path.{refl, sym, ap, subst, ◌∙◌}
use mathlib.Core.Logic.{inl, inr}
use native.Mathlib.Omega.{arith}
use Rattle.std.proofs.Math.Decide.{dec_le, ℕ_discrete}
use Rattle.std.proofs.Math.Nat.{lt_of_not-le}
use Rattle.r4_base.specs.Tree.{CoversLeaf, Name, Span, Node, Store, Root, Holds, InNode, InName, InSpan, IsData, IsNode, UnitAt}
use Rattle.r4_base.proofs.Trees.{one_cell}
use Rattle.r4_cell.specs.Patch.{Patch, place, root_after, Names, IsPatch}
use Rattle.r4_patch.specs.Part.{IsPart, MeetsPart}
use Rattle.r4_patch.proofs.PartCells.{apart, in_name, in_twig, leaf_or_extent, parent, root_high}
use Rattle.r4_patch.proofs.Placed.{over_from, over_new, placed_part, some_or_none}

-- the twig and the extent that a data block stands in, with its name
abbrev pub InTwig : {V : Type 0} → Store V → ℕ → ℕ → Type 0
InTwig {V} t i k = (j : ℕ) × (d : Node V) × (n : Name) × (s : Span) × (t j ≡ Some d) × Contains d.names n × (n.id ≡ i) × IsData n × InName n k × Contains d.spans s × InSpan s k

-- a data name of the key among these, or none
pub find_name : (ns : List Name) (k : ℕ) → ((n : Name) × Contains ns n × IsData n × InName n k) ⊎ ((n : Name) → Contains ns n → IsData n → InName n k → ⊥)
find_name [] k = inr (λ n h. absurd (let (j, l, e) = h in omega (arith, l)))
find_name (m ∷ ns) k = elim (find_name ns k) [
  | inl h ↦ let (n, (j, l, e), z, at) = h in inl (n, (suc j, omega (arith, l), e), z, at)
  | inr none ↦ elim (ℕ_discrete m.level 0) [
    | no other ↦ inr (λ n h z at. first_or_more m ns k n h z at none (λ zm _. other zm))
    | yes zero_level ↦ elim (dec_le m.lo k) [
      | no less ↦ inr (λ n h z at. first_or_more m ns k n h z at none (λ _ am. less am.0))
      | yes from ↦ elim (dec_le m.hi k) [
        | no more ↦ inl (m, (zero, omega arith, refl), zero_level, (from, lt_of_not-le more))
        | yes past ↦ inr (λ n h z at. first_or_more m ns k n h z at none (λ _ am. absurd (omega (arith, past, am))))
      ]
    ]
  ]
]
  where
    first_or_more : (m : Name) (ns : List Name) (k : ℕ) (n : Name) → Contains (m ∷ ns) n → IsData n → InName n k → ((n : Name) → Contains ns n → IsData n → InName n k → ⊥) → (IsData m → InName m k → ⊥) → ⊥
    first_or_more m ns k n (zero, l, e) z at none not_m = not_m (subst IsData (sym e) z) (subst (λ x. InName x k) (sym e) at)
    first_or_more m ns k n (suc j, l, e) z at none not_m = none n (j, omega (arith, l), e) z at

module _ {V : Type 0} where
  -- a unit of a cell stands at a key that the cell holds
  pub unit_held : (c : Node V) (k : ℕ) (v : V) → IsNode c → Contains c.units (k, v) → Holds c k
  unit_held c k v ic has = elim (ic.unit_low k v has) [
    | inl low ↦ inl (low, ic.unit_in k v has)
    | inr h ↦ let (s, cs, at) = h in inr (s, cs, at, λ n cn z at_n. ic.unit_in_hole n k v cn z has at_n)
  ]

module _ {V : Type 0} (t : Store V) (root : Root) (it : IsPart t root) where
  pub block_twig : (i : ℕ) (c : Node V) (k : ℕ) → t i ≡ Some c → c.level ≡ 0 → InNode c k → InTwig t i k
  block_twig i c k tc low at = elim (parent t root it i c tc) [
    | inl h ↦
        let high = root_high t root it i c tc h in
        let height = it.height in
        absurd (omega (arith, high, height, low))
    | inr h ↦
        let (j, d, n, td, dn, is, f) = h in
        let z : n.level ≡ 0 = sym f.level ∙ low in
        let at_n = in_name c n k f at in
        let (s, ds, from, to) = (it.nodes j d td).data_in_span n dn z in
        (j, d, n, s, td, dn, is, z, at_n, ds, (omega (arith, from, at_n), omega (arith, to, at_n)))
  ]

  -- two twigs with an extent at the key are one
  pub one_span : (k i j : ℕ) (c d : Node V) (s r : Span) → t i ≡ Some c → t j ≡ Some d → Contains c.spans s → InSpan s k → Contains d.spans r → InSpan r k → i ≡ j
  one_span k i j c d s r tc td cs at_s dr at_r =
      let ic = it.nodes i c tc in
      let id = it.nodes j d td in
      let lc = ic.spans_in_twigs s cs in
      apart t root it i j c d k tc td (lc ∙ sym (id.spans_in_twigs r dr)) (omega (arith, lc)) (in_twig c s k ic cs at_s) (in_twig d r k id dr at_r)

  -- a name of a data block of the key is one
  pub one_name : (k i j : ℕ) (c d : Node V) (n m : Name) → t i ≡ Some c → t j ≡ Some d → Contains c.names n → IsData n → InName n k → Contains d.names m → IsData m → InName m k → n ≡ m
  one_name k i j c d n m tc td cn zn at_n dm zm at_m =
      let ic = it.nodes i c tc in
      let id = it.nodes j d td in
      let (s, cs, from, to) = ic.data_in_span n cn zn in
      let (r, dr, from2, to2) = id.data_in_span m dm zm in
      let is : i ≡ j = one_span k i j c d s r tc td cs (omega (arith, from, at_n), omega (arith, to, at_n)) dr (omega (arith, from2, at_m), omega (arith, to2, at_m)) in
      let same : c ≡ d = one_cell t j c d (subst (λ x. t x ≡ Some c) is tc) td in
      id.names_apart n m k (subst (λ x. Contains x.names n) same cn) dm (zn ∙ sym zm) at_n at_m

  -- a cell with the key and a twig with an extent at it
  low_and_span : (k i j : ℕ) (c d : Node V) (r : Span) → t i ≡ Some c → t j ≡ Some d → c.level ≤ 1 → InNode c k → Contains d.spans r → InSpan r k → ((n : Name) → Contains d.names n → IsData n → InName n k → ⊥) → ⊥
  low_and_span k i j c d r tc td low at dr at_r none = elim (dec_le 1 c.level) [
    | yes one ↦ leaf_or_extent t root it i j c d r k tc td (omega (arith, low, one)) dr at at_r
    | no zero_level ↦
        let (a, e, n, s, te, en, is, z, at_n, es, at_s) = block_twig i c k tc (omega (arith, lt_of_not-le zero_level)) at in
        let aj : a ≡ j = one_span k a j e d s r te td es at_s dr at_r in
        let same : e ≡ d = one_cell t j e d (subst (λ x. t x ≡ Some e) aj te) td in
        none n (subst (λ x. Contains x.names n) same en) z at_n
  ]

  -- two low cells with the key are one
  low_and_low : (k i j : ℕ) (c d : Node V) → t i ≡ Some c → t j ≡ Some d → c.level ≤ 1 → InNode c k → d.level ≤ 1 → InNode d k → i ≡ j
  low_and_low k i j c d tc td lc at_c ld at_d = elim (dec_le 1 c.level) [
    | yes one ↦ elim (dec_le 1 d.level) [
      | yes one2 ↦ apart t root it i j c d k tc td (omega (arith, lc, one, ld, one2)) one at_c at_d
      | no zero_level ↦
          let (a, e, n, s, te, en, is, z, at_n, es, at_s) = block_twig j d k td (omega (arith, lt_of_not-le zero_level)) at_d in
          absurd (leaf_or_extent t root it i a c e s k tc te (omega (arith, lc, one)) es at_c at_s)
    ]
    | no zero_level ↦
        let (a, e, n, s, te, en, is, z, at_n, es, at_s) = block_twig i c k tc (omega (arith, lt_of_not-le zero_level)) at_c in
        elim (dec_le 1 d.level) [
          | yes one2 ↦ absurd (leaf_or_extent t root it j a d e s k td te (omega (arith, ld, one2)) es at_d at_s)
          | no zero2 ↦
              let (b, f, m, r, tf, fm, is2, z2, at_m, fr, at_r) = block_twig j d k td (omega (arith, lt_of_not-le zero2)) at_d in
              sym is ∙ ap (λ x. x.id) (one_name k a b e f n m te tf en z at_n fm z2 at_m) ∙ is2
        ]
  ]

  pub one_holder : (k i j : ℕ) (c d : Node V) → t i ≡ Some c → t j ≡ Some d → Holds c k → Holds d k → i ≡ j
  one_holder k i j c d tc td (inl (lc, at_c)) (inl (ld, at_d)) = low_and_low k i j c d tc td lc at_c ld at_d
  one_holder k i j c d tc td (inl (lc, at_c)) (inr (r, dr, at_r, none)) = absurd (low_and_span k i j c d r tc td lc at_c dr at_r none)
  one_holder k i j c d tc td (inr (s, cs, at_s, none)) (inl (ld, at_d)) = absurd (low_and_span k j i d c s td tc ld at_d cs at_s none)
  one_holder k i j c d tc td (inr (s, cs, at_s, none)) (inr (r, dr, at_r, none2)) = one_span k i j c d s r tc td cs at_s dr at_r

module _ {V : Type 0} (p : Patch V) (t : Store V) (root : Root) (it : IsPart t root) (ip : IsPatch p) (mp : MeetsPart p t root) where
  mid : IsPart (place p t) (root_after p root)
  mid = placed_part p t root ip it mp.meets mp.unnamed

  placed_new : (i : ℕ) (c : Node V) → p.new i ≡ Some c → place p t i ≡ Some c
  placed_new i c e = over_new (p.new i) (p.old i) (t i) c e

  -- an old cell holds the key
  HeldBefore : ℕ → Type 0
  HeldBefore k = (j : ℕ) × (o : Node V) × (p.old j ≡ Some o) × Holds o k

  -- no new twig names a data block of the key that is not old and was named by an old cell
  IsClear : ℕ → Type 0
  IsClear k = (n : Name) → Names p.new n → IsData n → InName n k → p.old n.id ≡ None → Names p.old n → ⊥

  -- an old leaf or extent that has the key, or an old block there
  from_cover : (k : ℕ) → CoversLeaf p.old k → IsClear k → HeldBefore k
  unfolding HeldBefore IsClear
  from_cover k (inl (j, o, po, level, at)) clear = (j, o, po, inl (omega (arith, level), at))
  from_cover k (inr (j, o, s, po, os, at)) clear = elim (find_name o.names k) [
    | inr none ↦ (j, o, po, inr (s, os, at, none))
    | inl h ↦
        let (n, on, z, at_n) = h in
        elim (some_or_none (p.old n.id)) [
          | inl x ↦
              let f = it.named j o x.0 n (mp.meets.has_old j o po) on (mp.meets.has_old n.id x.0 x.1) in
              let level = f.level in
              let lo = f.lo in
              let hi = f.hi in
              (n.id, x.0, x.1, inl (omega (arith, level, z), (omega (arith, lo, at_n), omega (arith, hi, at_n))))
          | inr gone ↦ absurd (clear n (ip.kept n (j, o, po, on) gone) z at_n gone (j, o, po, on))
        ]
  ]

  -- a leaf that has the key leaves it to no block
  leaf_clear : (i : ℕ) (c : Node V) (k : ℕ) → p.new i ≡ Some c → c.level ≡ 1 → InNode c k → IsClear k
  unfolding IsClear
  leaf_clear i c k nc level at n (a, e, ea, en) z at_n gone named =
      let (s, es, from, to) = (ip.nodes a e ea).data_in_span n en z in
      leaf_or_extent (place p t) (root_after p root) mid i a c e s k (placed_new i c nc) (placed_new a e ea) level es at (omega (arith, from, at_n), omega (arith, to, at_n))

  -- nor does a twig whose extent has the key, and no block of it
  twig_clear : (i : ℕ) (c : Node V) (k : ℕ) (s : Span) → p.new i ≡ Some c → Contains c.spans s → InSpan s k → ((n : Name) → Contains c.names n → IsData n → InName n k → ⊥) → IsClear k
  unfolding IsClear
  twig_clear i c k s nc cs at none n (a, e, ea, en) z at_n gone named =
      let (r, er, from, to) = (ip.nodes a e ea).data_in_span n en z in
      let ai : a ≡ i = one_span (place p t) (root_after p root) mid k a i e c r s (placed_new a e ea) (placed_new i c nc) er (omega (arith, from, at_n), omega (arith, to, at_n)) cs at in
      let same : e ≡ c = one_cell p.new i e c (subst (λ x. p.new x ≡ Some e) ai ea) nc in
      none n (subst (λ x. Contains x.names n) same en) z at_n

  -- nor a new block, that a new twig names
  block_clear : (i j : ℕ) (c d : Node V) (m : Name) (k : ℕ) → p.new i ≡ Some c → p.new j ≡ Some d → Contains d.names m → IsData m → InName m k → m.id ≡ i → IsClear k
  unfolding IsClear
  block_clear i j c d m k nc nd dm zm at_m is n (a, e, ea, en) z at_n gone (b, o, ob, on) =
      let one : n ≡ m = one_name (place p t) (root_after p root) mid k a j e d n m (placed_new a e ea) (placed_new j d nd) en z at_n dm zm at_m in
      let at_i : n.id ≡ i = ap (λ x. x.id) one ∙ is in
      mp.unnamed i c nc (subst (λ x. p.old x ≡ None) at_i gone) (n, (b, o, mp.meets.has_old b o ob, on), at_i)

  block_before : (i : ℕ) (c : Node V) (k : ℕ) → p.new i ≡ Some c → c.level ≡ 0 → InNode c k → HeldBefore k
  unfolding HeldBefore
  block_before i c k nc low at = elim (parent (place p t) (root_after p root) mid i c (placed_new i c nc)) [
    | inl h ↦
        let high = root_high (place p t) (root_after p root) mid i c (placed_new i c nc) h in
        let height = mid.height in
        absurd (omega (arith, high, height, low))
    | inr h ↦
        let (j, d, n, wd, dn, is, f) = h in
        let z : n.level ≡ 0 = sym f.level ∙ low in
        let at_n = in_name c n k f at in
        elim (over_from (p.new j) (p.old j) (t j) d wd) [
          | inl nd ↦
              let (s, ds, from, to) = (ip.nodes j d nd).data_in_span n dn z in
              from_cover k (ip.leaves_new k (inr (j, d, s, nd, ds, (omega (arith, from, at_n), omega (arith, to, at_n))))) (block_clear i j c d n k nc nd dn z at_n is)
          | inr u ↦ elim (some_or_none (p.old i)) [
            | inr gone ↦ absurd (mp.unnamed i c nc gone (n, (j, d, u.2, dn), is))
            | inl x ↦
                let g = it.named j d x.0 n u.2 dn (subst (λ y. t y ≡ Some x.0) (sym is) (mp.meets.has_old i x.0 x.1)) in
                let level = g.level in
                let lo = g.lo in
                let hi = g.hi in
                (i, x.0, x.1, inl (omega (arith, level, z), (omega (arith, lo, at_n), omega (arith, hi, at_n))))
          ]
        ]
  ]

  pub held_before : (i : ℕ) (c : Node V) (k : ℕ) → p.new i ≡ Some c → Holds c k → (j : ℕ) × (o : Node V) × (p.old j ≡ Some o) × Holds o k
  unfolding HeldBefore
  held_before i c k nc (inl (low, at)) = elim (dec_le 1 c.level) [
    | yes one ↦
        let level : c.level ≡ 1 = omega (arith, low, one) in
        from_cover k (ip.leaves_new k (inl (i, c, nc, level, at))) (leaf_clear i c k nc level at)
    | no zero_level ↦ block_before i c k nc (omega (arith, lt_of_not-le zero_level)) at
  ]
  held_before i c k nc (inr (s, cs, at, none)) = from_cover k (ip.leaves_new k (inr (i, c, s, nc, cs, at))) (twig_clear i c k s nc cs at none)

-- a key has one value
pub unit_once : {V : Type 0} (t : Store V) (root : Root) → IsPart t root → (k : ℕ) (v w : V) → UnitAt t k v → UnitAt t k w → v ≡ w
unit_once t root it k v w (i, c, tc, has) (j, d, td, has_d) =
    let is : i ≡ j = one_holder t root it k i j c d tc td (unit_held c k v (it.nodes i c tc) has) (unit_held d k w (it.nodes j d td) has_d) in
    let same : c ≡ d = one_cell t j c d (subst (λ x. t x ≡ Some c) is tc) td in
    (it.nodes j d td).one_unit k v w (subst (λ x. Contains x.units (k, v)) same has) has_d
