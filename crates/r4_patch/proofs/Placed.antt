-- A part of a tree with a patch in place is again a part, and a tree a tree.
use Rattle.std.specs.Prelude.{◌≡◌, ℕ, ◌≤◌, ◌⊎◌, ◌+◌, ◌-◌, zero, suc, Contains, IsSome, None, Option, Some}
use mathlib.Core.Path.{refl, sym, ap, subst, ◌∙◌}
use mathlib.Core.Logic.{inl, inr}
use Rattle.std.specs.Option.{unwrap_or}
use native.Mathlib.Omega.{arith}
use Rattle.std.proofs.Math.Decide.{dec_le, ℕ_discrete}
use Rattle.std.proofs.Math.Nat.{lt_of_not-le, le_trans, le_refl}
use Rattle.std.proofs.lemmas.Option.{none-some}
use Rattle.r4_base.specs.Key.{least, top}
use Rattle.r4_base.specs.Tree.{Name, Node, Store, Root, InNode, Fits, IsTree}
use Rattle.r4_base.proofs.Trees.{not_both, one_cell}
use Rattle.r4_cell.specs.Patch.{Patch, over, place, root_after, NamesId, SameRange, NeedsName, IsPatch, Meets}
use Rattle.r4_patch.specs.Part.{IsPart, IsUnnamed, IsWhole}
use Rattle.r4_patch.proofs.PartCells.{named_once, root_high, root_unnamed, tree_is_part, tree_is_whole, tree_unnamed, under_root, level_above, whole_is_tree}

module _ {V : Type 0} where
  pub over_from : (n o w : Option (Node V)) (c : Node V) → over n o w ≡ Some c → (n ≡ Some c) ⊎ ((n ≡ None) × (o ≡ None) × (w ≡ Some c))
  over_from (Some d) o w c e = inl e
  over_from None (Some d) w c e = absurd (none-some c e)
  over_from None None w c e = inr (refl, refl, e)

  pub over_kept : (n o w : Option (Node V)) (c : Node V) → ((d : Node V) → n ≡ Some d → ⊥) → o ≡ None → w ≡ Some c → over n o w ≡ Some c
  over_kept (Some d) o w c fresh e h = absurd (fresh d refl)
  over_kept None (Some d) w c fresh e h = absurd (none-some d (sym e))
  over_kept None None w c fresh e h = h

  pub over_new : (n o w : Option (Node V)) (c : Node V) → n ≡ Some c → over n o w ≡ Some c
  over_new (Some d) o w c e = e
  over_new None o w c e = absurd (none-some c e)

  -- a cell is there or not
  pub some_or_none : (o : Option (Node V)) → ((c : Node V) × (o ≡ Some c)) ⊎ (o ≡ None)
  some_or_none (Some c) = inl (c, refl)
  some_or_none None = inr refl

-- two cells have one level and range or not
pub same_range : {V : Type 0} (o c : Node V) → SameRange o c ⊎ (¬ (SameRange o c))
same_range o c = elim (ℕ_discrete o.level c.level) [
  | no other ↦ inr (λ h. other h.0)
  | yes level ↦ elim (ℕ_discrete o.lo c.lo) [
    | no other ↦ inr (λ h. other h.1)
    | yes lo ↦ elim (ℕ_discrete o.hi c.hi) [
      | no other ↦ inr (λ h. other h.2)
      | yes hi ↦ inl (level, lo, hi)
    ]
  ]
]

not_some : IsSome {T = Root} None → ⊥
not_some h = grind arith

pub root_or_not : (o : Option Root) → ((r : Root) × (o ≡ Some r)) ⊎ (o ≡ None)
root_or_not (Some r) = inl (r, refl)
root_or_not None = inr refl

pub some_of : (o : Option Root) (r : Root) → o ≡ Some r → IsSome o
some_of (Some x) r e = refl
some_of None r e = absurd (none-some r e)

module _ {V : Type 0} (p : Patch V) (t : Store V) (root : Root) (ip : IsPatch p) (it : IsPart t root) (m : Meets p t root) where
  -- a cell of the new part is a new one, or an untouched one
  from : (i : ℕ) (c : Node V) → place p t i ≡ Some c → (p.new i ≡ Some c) ⊎ ((p.new i ≡ None) × (p.old i ≡ None) × (t i ≡ Some c))
  from i c e = over_from (p.new i) (p.old i) (t i) c e

  in_new : (i : ℕ) (c : Node V) → p.new i ≡ Some c → place p t i ≡ Some c
  in_new i c e = over_new (p.new i) (p.old i) (t i) c e

  stays : (i : ℕ) (c : Node V) → p.old i ≡ None → t i ≡ Some c → place p t i ≡ Some c
  stays i c gone e = over_kept (p.new i) (p.old i) (t i) c (λ d h. not_both t i c (m.free i d h gone) e) gone e

  pub old_level : (i : ℕ) (c : Node V) → p.old i ≡ Some c → c.level ≤ root.height
  old_level i c oc = it.none_above i c (m.has_old i c oc)

  -- where the root pair changes, an old cell has the root's level
  pub old_root : IsSome p.root → (c : Node V) × (p.old root.id ≡ Some c) × (c.level ≡ root.height)
  old_root changed = let (c, oc) = m.root_old changed in (c, oc, root_high t root it root.id c (m.has_old root.id c oc) refl)

  -- and the new root is at least as high
  pub rises : (r : Root) → p.root ≡ Some r → root.height ≤ r.height
  rises r e =
      let (c, oc, level) = old_root (some_of p.root r e) in
      let high = it.height in
      let (i, d, nd, dl, _) = ip.covers_old root.height c.lo high (root.id, c, oc, level, (le_refl c.lo, (it.nodes root.id c (m.has_old root.id c oc)).nonempty)) in
      let top = (ip.new_root r e).highest i d nd in
      omega (arith, top, dl)

  -- else no new cell is above the root
  pub new_level : (IsSome p.root → ⊥) → (i : ℕ) (d : Node V) → p.new i ≡ Some d → d.level ≤ root.height
  new_level unchanged i d nd = elim (dec_le 2 d.level) [
    | no less ↦ let high = it.height in omega (arith, lt_of_not-le less, high)
    | yes two ↦ elim (ip.covers_new d.level d.lo two (i, d, nd, refl, (le_refl d.lo, (ip.nodes i d nd).nonempty))) [
      | inl h ↦ let (a, o, ao, al, _) = h in let low = old_level a o ao in omega (arith, al, low)
      | inr h ↦ absurd (unchanged h.0)
    ]
  ]

  -- an old cell that an untouched cell names has a new one that fits
  pub still_there : (i : ℕ) (c o : Node V) (n : Name) → t i ≡ Some c → Contains c.names n → p.old i ≡ None → p.old n.id ≡ Some o → (d : Node V) × (p.new n.id ≡ Some d) × Fits n d
  still_there i c o n tc cn gone oe =
      let to = m.has_old n.id o oe in
      let f = it.named i c o n tc cn to in
      let other : ¬ (NamesId p.old n.id) = λ h.
      let (n2, (j, b, bj, bn), is) = h in
      let (ij, _) = named_once t root it i j n.id c b o n n2 tc (m.has_old j b bj) cn bn to refl is in
      not_both p.old i b gone (subst (λ x. p.old x ≡ Some b) (sym ij) bj)
      in
      elim (ip.replaced n.id o oe other) [
        | inl r ↦ let (e, ne, (el, elo, ehi)) = r in (e, ne, record { level = el ∙ f.level; lo = elo ∙ f.lo; hi = ehi ∙ f.hi })
        | inr r ↦
            let (b, ob, level) = old_root r.0 in
            let low = r.1 root.id b ob in
            let under = under_root t root it n.id o (i, c, n, tc, cn, refl, f) in
            absurd (omega (arith, level, low, under))
      ]

  -- the root stays where the root pair does
  IsRootNode : Root → Type 0
  IsRootNode r = (c : Node V) × (place p t r.id ≡ Some c) × (c.level ≡ r.height) × (c.lo ≡ least) × (c.hi ≡ top) × (2 ≤ r.height) × ((i : ℕ) (d : Node V) → place p t i ≡ Some d → d.level ≤ r.height)

  same_root : p.root ≡ None → IsRootNode root
  unfolding IsRootNode
  same_root unchanged =
      let not_changed : IsSome p.root → ⊥ = λ h. not_some (subst IsSome unchanged h) in
      let most : (i : ℕ) (d : Node V) → place p t i ≡ Some d → d.level ≤ root.height = λ i d pd. elim (from i d pd) [
        | inr h ↦ it.none_above i d h.2
        | inl nd ↦ new_level not_changed i d nd
      ] in
      elim (some_or_none (p.old root.id)) [
        | inr gone ↦ (it.root_node, stays root.id it.root_node gone it.root_is, it.root_level, it.root_lo, it.root_hi, it.height, most)
        | inl h ↦
            let (o, oe) = h in
            let same : o ≡ it.root_node = one_cell t root.id o it.root_node (m.has_old root.id o oe) it.root_is in
            let unnamed : ¬ (NamesId p.old root.id) = λ g. let (n, (j, b, bj, bn), is) = g in root_unnamed t root it j b n (m.has_old j b bj) bn is in
            elim (ip.replaced root.id o oe unnamed) [
              | inl r ↦
                  let (e, ne, (el, elo, ehi)) = r in
                  (e, in_new root.id e ne, el ∙ ap (λ x. x.level) same ∙ it.root_level, elo ∙ ap (λ x. x.lo) same ∙ it.root_lo, ehi ∙ ap (λ x. x.hi) same ∙ it.root_hi, it.height, most)
              | inr r ↦ absurd (not_changed r.0)
            ]
      ]

  other_root : (r : Root) → p.root ≡ Some r → IsRootNode r
  unfolding IsRootNode
  other_root r e =
      let is = ip.new_root r e in
      let risen = rises r e in
      let high = it.height in (
        is.node,
        in_new r.id is.node is.is,
        is.level,
        is.lo,
        is.hi,
        le_trans high risen,
        λ i d pd. elim (from i d pd) [
          | inl nd ↦ is.highest i d nd
          | inr h ↦ le_trans (it.none_above i d h.2) risen
        ],
      )

  root_there : (o : Option Root) → p.root ≡ o → IsRootNode (unwrap_or o root)
  root_there None e = same_root e
  root_there (Some r) e = other_root r e

  -- from the new root down to the old root's level: a new cell at the least key, that is the new root or is named
  Below : Root → ℕ → Type 0
  Below r l = (j : ℕ) × (d : Node V) × (p.new j ≡ Some d) × (d.level ≡ l) × InNode d least × ((j ≡ r.id) ⊎ NamesId p.new j)

  below_root : (r : Root) → p.root ≡ Some r → (k l : ℕ) → k + l ≡ r.height → root.height ≤ l → Below r l
  unfolding Below
  below_root r e zero l is low =
      let new = ip.new_root r e in
      let lo = new.lo in
      let hi = new.hi in
      let level = new.level in
      let full = (ip.nodes r.id new.node new.is).nonempty in
      (r.id, new.node, new.is, omega (arith, level, is), (omega (arith, lo), omega (arith, lo, hi, full)), inl refl)
  below_root r e (suc k) l is low =
      let (j, d, nd, dl, at, _) = below_root r e k (suc l) (omega (arith, is)) (omega (arith, low)) in
      let high = it.height in
      let jd = ip.nodes j d nd in
      elim (jd.covered least (omega (arith, dl, low, high)) at) [
        | inr h ↦ let twig = jd.spans_in_twigs h.0 h.1 in absurd (omega (arith, twig, dl, low, high))
        | inl h ↦
            let (n, dn, nl, at_n) = h in
            elim (ip.named n (j, d, nd, dn)) [
              | inl g ↦
                  let (c, nc, f) = g in
                  let fl = f.level in
                  let flo = f.lo in
                  let fhi = f.hi in
                  (n.id, c, nc, omega (arith, fl, nl, dl), (omega (arith, flo, at_n), omega (arith, fhi, at_n)), inr (n, (j, d, nd, dn), refl))
              | inr g ↦
                  let (a, o, oa, on) = g.1 in
                  let above = (level_above o n (it.nodes a o (m.has_old a o oa)) on).0 in
                  let most = old_level a o oa in
                  absurd (omega (arith, above, most, nl, dl, low))
            ]
      ]

  -- so a new cell in the old root's place is the new root or is named
  grown : (r : Root) → p.root ≡ Some r → (i : ℕ) (c : Node V) → p.new i ≡ Some c → c.level ≡ root.height → c.lo ≡ least → (i ≡ r.id) ⊎ NamesId p.new i
  unfolding Below
  grown r e i c nc level lo =
      let risen = rises r e in
      let high = it.height in
      let full = (ip.nodes i c nc).nonempty in
      let (j, d, nd, dl, at, by) = below_root r e (r.height - root.height) root.height (omega (arith, risen)) (le_refl root.height) in
      let ji : j ≡ i = ip.apart j i d c least nd nc (dl ∙ sym level) (omega (arith, dl, high)) at (omega (arith, lo), omega (arith, lo, full)) in
      subst (λ x. (x ≡ r.id) ⊎ NamesId p.new x) ji by

  module _ (unnamed : IsUnnamed p t) where
    placed_named : (i : ℕ) (c d : Node V) (n : Name) → place p t i ≡ Some c → Contains c.names n → place p t n.id ≡ Some d → Fits n d
    placed_named i c d n pc cn pd = elim (from i c pc) [
      | inl nc ↦ elim (ip.named n (i, c, nc, cn)) [
        | inl h ↦ let (e, ne, f) = h in subst (Fits n) (one_cell (place p t) n.id e d (in_new n.id e ne) pd) f
        | inr h ↦
            let (gone, (j, o, oj, on)) = h in
            let tj = m.has_old j o oj in
            elim (from n.id d pd) [
              | inl nd ↦ absurd (unnamed n.id d nd gone (n, (j, o, tj, on), refl))
              | inr g ↦ it.named j o d n tj on g.2
            ]
      ]
      | inr g ↦ elim (from n.id d pd) [
        | inr h ↦ it.named i c d n g.2 cn h.2
        | inl nd ↦ elim (some_or_none (p.old n.id)) [
          | inr gone ↦ absurd (unnamed n.id d nd gone (n, (i, c, g.2, cn), refl))
          | inl h ↦ let (e, ne, f) = still_there i c h.0 n g.2 cn g.1 h.1 in subst (Fits n) (one_cell p.new n.id e d ne nd) f
        ]
      ]
    ]

    IsReached : ℕ → Type 0
    IsReached i = (i ≡ (root_after p root).id) ⊎ NamesId (place p t) i

    by_new : (i : ℕ) → NamesId p.new i → IsReached i
    unfolding IsReached
    by_new i (n, (j, d, nd, dn), is) = inr (n, (j, d, in_new j d nd, dn), is)

    changed_root : (r : Root) → p.root ≡ Some r → r.id ≡ (root_after p root).id
    changed_root r e = ap (λ o. (unwrap_or o root).id) (sym e)

    unchanged_root : p.root ≡ None → root.id ≡ (root_after p root).id
    unchanged_root e = ap (λ o. (unwrap_or o root).id) (sym e)

    when_named : (i : ℕ) (c : Node V) → p.new i ≡ Some c → NeedsName p i c → IsReached i
    unfolding IsReached
    when_named i c nc needs = elim (ip.reached i c nc needs) [
      | inl h ↦ by_new i h
      | inr h ↦ let (r, e, is) = h in inl (sym is ∙ changed_root r e)
    ]

    in_roots_place : (i : ℕ) (o c : Node V) → p.old i ≡ Some o → p.new i ≡ Some c → SameRange o c → i ≡ root.id → IsReached i
    unfolding IsReached
    in_roots_place i o c oi nc (ol, olo, ohi) is = elim (root_or_not p.root) [
      | inr e ↦ inl (is ∙ unchanged_root e)
      | inl h ↦
          let (r, e) = h in
          let to : t root.id ≡ Some o = subst (λ x. t x ≡ Some o) is (m.has_old i o oi) in
          let same : o ≡ it.root_node = one_cell t root.id o it.root_node to it.root_is in
          elim (grown r e i c nc (sym ol ∙ ap (λ x. x.level) same ∙ it.root_level) (sym olo ∙ ap (λ x. x.lo) same ∙ it.root_lo)) [
            | inl g ↦ inl (g ∙ changed_root r e)
            | inr g ↦ by_new i g
          ]
    ]

    new_reached : (i : ℕ) (c : Node V) → p.new i ≡ Some c → IsReached i
    unfolding IsReached
    new_reached i c nc = elim (some_or_none (p.old i)) [
      | inr gone ↦ when_named i c nc (inl gone)
      | inl h ↦
          let (o, oi) = h in
          elim (same_range o c) [
            | inr other ↦ when_named i c nc (inr (inr (o, oi, other)))
            | inl same ↦ elim (it.reached i o (m.has_old i o oi)) [
              | inl at ↦ in_roots_place i o c oi nc same at
              | inr g ↦
                  let (n, (j, d, td, dn), is) = g in
                  elim (some_or_none (p.old j)) [
                    | inr gone ↦ inr (n, (j, d, stays j d gone td, dn), is)
                    | inl x ↦
                        let (b, bj) = x in
                        let one : d ≡ b = one_cell t j d b td (m.has_old j b bj) in
                        when_named i c nc (inr (inl (n, (j, b, bj, subst (λ y. Contains y.names n) one dn), is)))
                  ]
            ]
          ]
    ]

    untouched_reached : (i : ℕ) (c : Node V) → p.old i ≡ None → t i ≡ Some c → IsReached i
    unfolding IsReached
    untouched_reached i c gone tc = elim (it.reached i c tc) [
      | inl at ↦ elim (root_or_not p.root) [
        | inr e ↦ inl (at ∙ unchanged_root e)
        | inl h ↦ let (b, ob, _) = old_root (some_of p.root h.0 h.1) in absurd (not_both p.old root.id b (subst (λ x. p.old x ≡ None) at gone) ob)
      ]
      | inr h ↦
          let (n, (j, d, td, dn), is) = h in
          elim (some_or_none (p.old j)) [
            | inr left ↦ inr (n, (j, d, stays j d left td, dn), is)
            | inl x ↦
                let (b, bj) = x in
                let one : d ≡ b = one_cell t j d b td (m.has_old j b bj) in
                let (a, e, ae, en) = ip.kept n (j, b, bj, subst (λ y. Contains y.names n) one dn) (subst (λ y. p.old y ≡ None) (sym is) gone) in
                by_new i (n, (a, e, ae, en), is)
          ]
    ]

    pub placed_part : IsPart (place p t) (root_after p root)
    unfolding IsRootNode IsReached
    placed_part =
        let (c, is, level, lo, hi, high, most) = root_there p.root refl in
        record {
          nodes = λ i d pd. elim (from i d pd) [ inl nd ↦ ip.nodes i d nd | inr h ↦ it.nodes i d h.2 ];
          root_node = c;
          root_is = is;
          root_level = level;
          root_lo = lo;
          root_hi = hi;
          height = high;
          none_above = most;
          named = placed_named;
          reached = λ i d pd. elim (from i d pd) [ inl nd ↦ new_reached i d nd | inr h ↦ untouched_reached i d h.1 h.2 ];
        }

  placed_whole : IsWhole t → IsWhole (place p t)
  placed_whole whole i c n pc cn = elim (from i c pc) [
    | inl nc ↦ elim (ip.named n (i, c, nc, cn)) [
      | inl h ↦ (h.0, in_new n.id h.0 h.1)
      | inr h ↦
          let (gone, (j, o, oj, on)) = h in
          let (d, td) = whole j o n (m.has_old j o oj) on in
          (d, stays n.id d gone td)
    ]
    | inr g ↦ elim (some_or_none (p.old n.id)) [
      | inl h ↦ let (e, ne, _) = still_there i c h.0 n g.2 cn g.1 h.1 in (e, in_new n.id e ne)
      | inr gone ↦ let (d, td) = whole i c n g.2 cn in (d, stays n.id d gone td)
    ]
  ]

pub placed_tree : {V : Type 0} (p : Patch V) (t : Store V) (root : Root) → IsPatch p → IsTree t root → Meets p t root → IsTree (place p t) (root_after p root)
placed_tree p t root ip it m =
    let part = tree_is_part t root it in
    whole_is_tree (place p t) (root_after p root) (placed_part p t root ip part m (tree_unnamed t root it p m)) (placed_whole p t root ip part m (tree_is_whole t root it))
