-- A patch over another, on a part of a tree, is one patch of the part.
use Rattle.std.specs.Prelude.{◌≡◌, ℕ, ◌<◌, ◌≤◌, ◌⊎◌, Contains, IsSome, None, Option, Some}
use Rattle.std.specs.Option.{unwrap_or}
use mathlib.Core.Path.{refl, sym, ap, subst, ◌∙◌}
use mathlib.Core.Logic.{inl, inr}
use native.Mathlib.Omega.{arith}
use Rattle.std.proofs.Math.Nat.{le_trans, le_refl}
use Rattle.std.proofs.lemmas.Option.{none-some}
use Rattle.r4_base.specs.Tree.{Covers, CoversLeaf, Name, Node, Store, Root, Fits}
use Rattle.r4_base.proofs.Trees.{not_both, one_cell}
use Rattle.r4_cell.specs.Patch.{Patch, place, root_after, Names, NamesId, SameRange, NeedsName, IsNewRoot, IsPatch, Meets, captured, last_root, join}
use Rattle.r4_patch.specs.Part.{IsPart, IsUnnamed, MeetsPart}
use Rattle.r4_patch.proofs.PartCells.{Piece, apart, from_piece, named_once, root_high, root_unnamed, to_piece}
use Rattle.r4_patch.proofs.Placed.{old_root, over_from, over_kept, over_new, placed_part, rises, root_or_not, some_of, some_or_none, still_there}
use Rattle.r4_patch.proofs.Joined.{meets_joined, place_joined, root_joined}

module _ {V : Type 0} where
  captured_from : (po pn qo : Option (Node V)) (c : Node V) → captured po pn qo ≡ Some c → (po ≡ Some c) ⊎ ((po ≡ None) × (pn ≡ None) × (qo ≡ Some c))
  captured_from (Some x) pn qo c e = inl e
  captured_from None (Some d) qo c e = absurd (none-some c e)
  captured_from None None qo c e = inr (refl, refl, e)

  captured_none : (po pn qo : Option (Node V)) → captured po pn qo ≡ None → (po ≡ None) × (((c : Node V) × (pn ≡ Some c)) ⊎ ((pn ≡ None) × (qo ≡ None)))
  captured_none (Some x) pn qo e = absurd (none-some x (sym e))
  captured_none None (Some d) qo e = (refl, inl (d, refl))
  captured_none None None qo e = (refl, inr (refl, e))

  captured_first : (po pn qo : Option (Node V)) (c : Node V) → po ≡ Some c → captured po pn qo ≡ Some c
  captured_first (Some x) pn qo c e = e
  captured_first None pn qo c e = absurd (none-some c e)

  captured_second : (po pn qo : Option (Node V)) (c : Node V) → po ≡ None → pn ≡ None → qo ≡ Some c → captured po pn qo ≡ Some c
  captured_second None None qo c a b e = e
  captured_second None (Some d) qo c a b e = absurd (none-some d (sym b))
  captured_second (Some d) pn qo c a b e = absurd (none-some d (sym a))

  captured_neither : (po pn qo : Option (Node V)) → po ≡ None → qo ≡ None → captured po pn qo ≡ None
  captured_neither None None qo a b = b
  captured_neither None (Some d) qo a b = refl
  captured_neither (Some d) pn qo a b = absurd (none-some d (sym a))

some_first : (a b : Option Root) → IsSome a → IsSome (last_root a b)
some_first a (Some r) h = refl
some_first a None h = h

some_second : (a b : Option Root) → IsSome b → IsSome (last_root a b)
some_second a (Some r) h = refl
some_second (Some r) None h = refl
some_second None None h = h

module _ {V : Type 0} where
  taller : (p : Patch V) (t : Store V) (root : Root) → IsPart t root → IsPatch p → Meets p t root → root.height ≤ (root_after p root).height
  taller p t root it ip mp = elim (root_or_not p.root) [
    | inr e ↦ subst (λ o. root.height ≤ (unwrap_or o root).height) (sym e) (le_refl root.height)
    | inl h ↦ subst (λ o. root.height ≤ (unwrap_or o root).height) (sym h.1) (rises p t root ip it mp h.0 h.1)
  ]

module _ {V : Type 0} (p q : Patch V) (t : Store V) (root : Root) (it : IsPart t root) (ip : IsPatch p) (mp : MeetsPart p t root) (iq : IsPatch q) (mq : MeetsPart q (place p t) (root_after p root)) where
  mid : IsPart (place p t) (root_after p root)
  mid = placed_part p t root ip it mp.meets mp.unnamed

  pub meets_both : Meets (join p q) t root
  meets_both = meets_joined p q t root mp.meets mq.meets it

  -- the part with both in place
  pub both : IsPart (place (join p q) t) (root_after (join p q) root)
  both =
      subst (λ s. IsPart s (root_after (join p q) root)) (sym (place_joined p q t root mp.meets))
      (subst (IsPart (place q (place p t))) (sym (root_joined p q root)) (placed_part q (place p t) (root_after p root) iq mid mq.meets mq.unnamed))

  -- ---- where cells come from and go to

  placed_new : (i : ℕ) (c : Node V) → p.new i ≡ Some c → place p t i ≡ Some c
  placed_new i c e = over_new (p.new i) (p.old i) (t i) c e

  stays : (i : ℕ) (c : Node V) → p.old i ≡ None → t i ≡ Some c → place p t i ≡ Some c
  stays i c gone e = over_kept (p.new i) (p.old i) (t i) c (λ d h. not_both t i c (mp.meets.free i d h gone) e) gone e

  pub p_old_in : (i : ℕ) (c : Node V) → p.old i ≡ Some c → (join p q).old i ≡ Some c
  p_old_in i c e = captured_first (p.old i) (p.new i) (q.old i) c e

  pub q_new_in : (i : ℕ) (c : Node V) → q.new i ≡ Some c → (join p q).new i ≡ Some c
  q_new_in i c e = over_new (q.new i) (q.old i) (p.new i) c e

  pub p_new_in : (i : ℕ) (c : Node V) → p.new i ≡ Some c → ((join p q).new i ≡ Some c) ⊎ (q.old i ≡ Some c)
  p_new_in i c e = elim (some_or_none (q.old i)) [
    | inl h ↦ inr (h.1 ∙ ap Some (one_cell (place p t) i h.0 c (mq.meets.has_old i h.0 h.1) (placed_new i c e)))
    | inr gone ↦ inl (over_kept (q.new i) (q.old i) (p.new i) c (λ d h. not_both (place p t) i c (mq.meets.free i d h gone) (placed_new i c e)) gone e)
  ]

  abbrev pub IsUntouched : ℕ → Node V → Type 0
  IsUntouched i c = ((join p q).old i ≡ Some c) × (p.new i ≡ None) × (p.old i ≡ None) × (t i ≡ Some c)

  pub q_old_from : (i : ℕ) (c : Node V) → q.old i ≡ Some c → (p.new i ≡ Some c) ⊎ IsUntouched i c
  q_old_from i c e = elim (over_from (p.new i) (p.old i) (t i) c (mq.meets.has_old i c e)) [
    | inl h ↦ inl h
    | inr h ↦ inr (captured_second (p.old i) (p.new i) (q.old i) c h.1 h.0 e, h.0, h.1, h.2)
  ]

  pub from_old : (i : ℕ) (c : Node V) → (join p q).old i ≡ Some c → (p.old i ≡ Some c) ⊎ ((p.old i ≡ None) × (p.new i ≡ None) × (q.old i ≡ Some c))
  from_old i c e = captured_from (p.old i) (p.new i) (q.old i) c e

  pub from_new : (i : ℕ) (c : Node V) → (join p q).new i ≡ Some c → (q.new i ≡ Some c) ⊎ ((q.new i ≡ None) × (q.old i ≡ None) × (p.new i ≡ Some c))
  from_new i c e = over_from (q.new i) (q.old i) (p.new i) c e

  in_both : (i : ℕ) (c : Node V) → (join p q).new i ≡ Some c → place (join p q) t i ≡ Some c
  in_both i c e = over_new ((join p q).new i) ((join p q).old i) (t i) c e

  none_old : (i : ℕ) → p.old i ≡ None → q.old i ≡ None → (join p q).old i ≡ None
  none_old i a b = captured_neither (p.old i) (p.new i) (q.old i) a b

  low : (i : ℕ) (c : Node V) → (join p q).old i ≡ Some c → c.level ≤ root.height
  low i c e = it.none_above i c (meets_both.has_old i c e)

  low_after : root.height ≤ (root_after p root).height
  low_after = taller p t root it ip mp.meets

  -- ---- the names of new cells are free

  names_stay : (i : ℕ) → p.old i ≡ None → NamesId t i → NamesId (place p t) i
  names_stay i gone (n, (a, o, ta, on), is) = elim (some_or_none (p.old a)) [
    | inr none ↦ (n, (a, o, stays a o none ta, on), is)
    | inl h ↦
        let one : h.0 ≡ o = one_cell t a h.0 o (mp.meets.has_old a h.0 h.1) ta in
        let (j, d, pd, dn) = ip.kept n (a, h.0, h.1, subst (λ x. Contains x.names n) (sym one) on) (subst (λ x. p.old x ≡ None) (sym is) gone) in
        (n, (j, d, placed_new j d pd, dn), is)
  ]

  pub unnamed_both : IsUnnamed (join p q) t
  unnamed_both i c e gone h =
      let (pgone, rest) = captured_none (p.old i) (p.new i) (q.old i) gone in
      elim (from_new i c e) [
        | inr g ↦ mp.unnamed i c g.2 pgone h
        | inl g ↦ elim rest [
          | inl x ↦ mp.unnamed i x.0 x.1 pgone h
          | inr x ↦ mq.unnamed i c g x.1 (names_stay i pgone h)
        ]
      ]

  -- ---- the points of a patch

  covers_old : (l k : ℕ) → 2 ≤ l → Covers (join p q).old l k → Covers (join p q).new l k
  covers_old l k two (a, o, ao, al, at) = elim (from_old a o ao) [
    | inl h ↦
        let (i, c, pc, cl, at_c) = ip.covers_old l k two (a, o, h, al, at) in
        elim (p_new_in i c pc) [
          | inl x ↦ (i, c, x, cl, at_c)
          | inr x ↦ let (j, d, qd, dl, at_d) = iq.covers_old l k two (i, c, x, cl, at_c) in (j, d, q_new_in j d qd, dl, at_d)
        ]
    | inr h ↦ let (j, d, qd, dl, at_d) = iq.covers_old l k two (a, o, h.2, al, at) in (j, d, q_new_in j d qd, dl, at_d)
  ]

  IsHigher : ℕ → Type 0
  IsHigher l = IsSome (join p q).root × ((i : ℕ) (c : Node V) → (join p q).old i ≡ Some c → c.level < l)

  covers_first : (l k : ℕ) → 2 ≤ l → Covers p.new l k → Covers (join p q).old l k ⊎ IsHigher l
  unfolding IsHigher
  covers_first l k two h = elim (ip.covers_new l k two h) [
    | inl g ↦ let (b, x, bx, xl, at) = g in inl (b, x, p_old_in b x bx, xl, at)
    | inr g ↦
        let (b, ob, level) = old_root p t root ip it mp.meets g.0 in
        let below = g.1 root.id b ob in
        inr (some_first p.root q.root g.0, λ i c e. let most = low i c e in omega (arith, level, below, most))
  ]

  covers_new : (l k : ℕ) → 2 ≤ l → Covers (join p q).new l k → Covers (join p q).old l k ⊎ IsHigher l
  unfolding IsHigher
  covers_new l k two (i, c, e, cl, at) = elim (from_new i c e) [
    | inr h ↦ covers_first l k two (i, c, h.2, cl, at)
    | inl h ↦ elim (iq.covers_new l k two (i, c, h, cl, at)) [
      | inl g ↦
          let (a, o, ao, ol, at_o) = g in
          elim (q_old_from a o ao) [
            | inl x ↦ covers_first l k two (a, o, x, ol, at_o)
            | inr x ↦ inl (a, o, x.0, ol, at_o)
          ]
      | inr g ↦
          let (b, ob, level) = old_root q (place p t) (root_after p root) iq mid mq.meets g.0 in
          let below = g.1 (root_after p root).id b ob in
          let after = low_after in
          inr (some_second p.root q.root g.0, λ j d u. let most = low j d u in omega (arith, level, below, most, after))
    ]
  ]

  pub unchanged_root : (join p q).root ≡ None → root_after (join p q) root ≡ root
  unchanged_root e = ap (λ o. unwrap_or o root) e

  changed_root : (r : Root) → (join p q).root ≡ Some r → root_after (join p q) root ≡ r
  changed_root r e = ap (λ o. unwrap_or o root) e

  new_root : (r : Root) → (join p q).root ≡ Some r → IsNewRoot (join p q).new r
  new_root r e =
      let part : IsPart (place (join p q) t) r = subst (IsPart (place (join p q) t)) (changed_root r e) both in
      let c = part.root_node in
      let full = (part.nodes r.id c part.root_is).nonempty in
      let from = (part.nodes r.id c part.root_is).from_least in
      let lo = part.root_lo in
      let hi = part.root_hi in
      let level = part.root_level in
      let high = taller q (place p t) (root_after p root) mid iq mq.meets in
      let after = low_after in
      let tall : root.height ≤ r.height = subst (λ x. root.height ≤ x.height) (sym (root_joined p q root) ∙ changed_root r e) (le_trans after high) in
      record {
        node = c;
        is = elim (over_from ((join p q).new r.id) ((join p q).old r.id) (t r.id) c part.root_is) [
          | inl h ↦ h
          | inr h ↦
              let most = it.none_above r.id c h.2 in
              let root_level = it.root_level in
              let root_lo = it.root_lo in
              let root_hi = it.root_hi in
              let height = it.height in
              let is : r.id ≡ root.id = apart t root it r.id root.id c it.root_node c.lo h.2 it.root_is (omega (arith, most, level, tall, root_level)) (omega (arith, level, tall, height)) (le_refl c.lo, full) (omega (arith, root_lo, lo), omega (arith, root_hi, hi, full)) in
              let (d, od) = meets_both.root_old (some_of (join p q).root r e) in
              absurd (not_both (join p q).old root.id d (subst (λ x. (join p q).old x ≡ None) is h.1) od)
        ];
        level = level;
        lo = lo;
        hi = hi;
        highest = λ i d u. part.none_above i d (in_both i d u);
      }

  named : (n : Name) → Names (join p q).new n → ((d : Node V) × ((join p q).new n.id ≡ Some d) × Fits n d) ⊎ (((join p q).old n.id ≡ None) × Names (join p q).old n)
  named n (j, c, e, cn) = elim (from_new j c e) [
    | inl h ↦ elim (iq.named n (j, c, h, cn)) [
      | inl g ↦ inl (g.0, q_new_in n.id g.0 g.1, g.2)
      | inr g ↦
          let (gone, (a, o, ao, on)) = g in
          elim (q_old_from a o ao) [
            | inl x ↦ elim (ip.named n (a, o, x, on)) [
              | inl y ↦ elim (p_new_in n.id y.0 y.1) [
                | inl z ↦ inl (y.0, z, y.2)
                | inr z ↦ absurd (not_both q.old n.id y.0 gone z)
              ]
              | inr y ↦ let (pgone, (b, m, bm, mn)) = y in inr (none_old n.id pgone gone, (b, m, p_old_in b m bm, mn))
            ]
            | inr x ↦ elim (some_or_none (p.old n.id)) [
              | inr pgone ↦ inr (none_old n.id pgone gone, (a, o, x.0, on))
              | inl y ↦
                  let (d, pd, f) = still_there p t root ip it mp.meets a o y.0 n x.3 on x.2 y.1 in
                  elim (p_new_in n.id d pd) [
                    | inl z ↦ inl (d, z, f)
                    | inr z ↦ absurd (not_both q.old n.id d gone z)
                  ]
            ]
          ]
    ]
    | inr h ↦ elim (ip.named n (j, c, h.2, cn)) [
      | inl g ↦ elim (p_new_in n.id g.0 g.1) [
        | inl z ↦ inl (g.0, z, g.2)
        | inr z ↦
            let (d, qd, f) = still_there q (place p t) (root_after p root) iq mid mq.meets j c g.0 n (placed_new j c h.2) cn h.1 z in
            inl (d, q_new_in n.id d qd, f)
      ]
      | inr g ↦
          let (pgone, (a, o, ao, on)) = g in
          elim (some_or_none (q.old n.id)) [
            | inr gone ↦ inr (none_old n.id pgone gone, (a, o, p_old_in a o ao, on))
            | inl x ↦
                let (d, qd, f) = still_there q (place p t) (root_after p root) iq mid mq.meets j c x.0 n (placed_new j c h.2) cn h.1 x.1 in
                inl (d, q_new_in n.id d qd, f)
          ]
    ]
  ]

  kept : (n : Name) → Names (join p q).old n → (join p q).old n.id ≡ None → Names (join p q).new n
  kept n (a, o, ao, on) gone =
      let (pgone, rest) = captured_none (p.old n.id) (p.new n.id) (q.old n.id) gone in
      let qgone : q.old n.id ≡ None = elim rest [
        | inl x ↦ absurd (mp.unnamed n.id x.0 x.1 pgone (n, (a, o, meets_both.has_old a o ao, on), refl))
        | inr x ↦ x.1
      ] in
      let through_q : Names q.old n → Names (join p q).new n = λ h. let (j, d, qd, dn) = iq.kept n h qgone in (j, d, q_new_in j d qd, dn) in
      elim (from_old a o ao) [
        | inl h ↦
            let (j, d, pd, dn) = ip.kept n (a, o, h, on) pgone in
            elim (p_new_in j d pd) [ inl x ↦ (j, d, x, dn) | inr x ↦ through_q (j, d, x, dn) ]
        | inr h ↦ through_q (a, o, h.2, on)
      ]

  IsHighest : Node V → Type 0
  IsHighest c = IsSome (join p q).root × ((j : ℕ) (d : Node V) → (join p q).old j ≡ Some d → d.level ≤ c.level)

  highest_first : (c : Node V) → IsSome p.root → root.height ≤ c.level → IsHighest c
  unfolding IsHighest
  highest_first c h tall = (some_first p.root q.root h, λ j d e. le_trans (low j d e) tall)

  highest_second : (c : Node V) → IsSome q.root → ((j : ℕ) (d : Node V) → q.old j ≡ Some d → d.level ≤ c.level) → IsHighest c
  unfolding IsHighest
  highest_second c h most =
      let (b, ob, level) = old_root q (place p t) (root_after p root) iq mid mq.meets h in
      let below = most (root_after p root).id b ob in
      let after = low_after in
      (some_second p.root q.root h, λ j d e. let under = low j d e in omega (arith, level, below, after, under))

  IsReplaced : ℕ → Node V → Type 0
  IsReplaced i c = ((d : Node V) × ((join p q).new i ≡ Some d) × SameRange d c) ⊎ IsHighest c

  p_names_in : (i : ℕ) → NamesId p.old i → NamesId (join p q).old i
  p_names_in i (n, (a, o, ao, on), is) = (n, (a, o, p_old_in a o ao, on), is)

  -- an old cell of the first, whose new one is an old cell of the second
  replaced_twice : (i : ℕ) (c d : Node V) → p.old i ≡ Some c → p.new i ≡ Some d → SameRange d c → q.old i ≡ Some d → ¬ (NamesId (join p q).old i) → IsReplaced i c
  unfolding IsReplaced IsHighest
  replaced_twice i c d pc pd same qd unnamed =
      let by_second : ¬ (NamesId q.old i) → IsReplaced i c = λ free. elim (iq.replaced i d qd free) [
        | inl g ↦ inl (g.0, q_new_in i g.0 g.1, (g.2.0 ∙ same.0, g.2.1 ∙ same.1, g.2.2 ∙ same.2))
        | inr g ↦ inr (highest_second c g.0 (λ j x e. let most = g.1 j x e in let level = same.0 in omega (arith, most, level)))
      ] in
      let ti = mp.meets.has_old i c pc in
      elim (mid.reached i d (placed_new i d pd)) [
        | inl at ↦ by_second (λ h. let (n, (a, o, ao, on), is) = h in root_unnamed (place p t) (root_after p root) mid a o n (mq.meets.has_old a o ao) on (is ∙ at))
        | inr h ↦
            let (n, (a, o, pa, on), is) = h in
            elim (over_from (p.new a) (p.old a) (t a) o pa) [
              | inl na ↦ elim (it.reached i c ti) [
                | inl at ↦ elim (root_or_not p.root) [
                  | inl r ↦ let level = root_high t root it i c ti at in inr (highest_first c (some_of p.root r.0 r.1) (omega (arith, level)))
                  | inr r ↦ absurd (root_unnamed (place p t) (root_after p root) mid a o n pa on (is ∙ at ∙ ap (λ x. (unwrap_or x root).id) (sym r)))
                ]
                | inr g ↦
                    let (m, (b, x, tb, xm), is2) = g in
                    elim (some_or_none (p.old b)) [
                      | inl y ↦
                          let one : y.0 ≡ x = one_cell t b y.0 x (mp.meets.has_old b y.0 y.1) tb in
                          absurd (unnamed (p_names_in i (m, (b, y.0, y.1, subst (λ z. Contains z.names m) (sym one) xm), is2)))
                      | inr gone ↦
                          let (ab, _) = named_once (place p t) (root_after p root) mid a b i o x d n m pa (stays b x gone tb) on xm (placed_new i d pd) is is2 in
                          absurd (not_both t b x (mp.meets.free b o (subst (λ z. p.new z ≡ Some o) ab na) gone) tb)
                    ]
              ]
              | inr ua ↦ elim (some_or_none (q.old a)) [
                | inl y ↦
                    let one : y.0 ≡ o = one_cell (place p t) a y.0 o (mq.meets.has_old a y.0 y.1) pa in
                    let old : (join p q).old a ≡ Some y.0 = captured_second (p.old a) (p.new a) (q.old a) y.0 ua.1 ua.0 y.1 in
                    absurd (unnamed (n, (a, y.0, old, subst (λ z. Contains z.names n) (sym one) on), is))
                | inr gone ↦
                    let f = mid.named a o d n pa on (subst (λ z. place p t z ≡ Some d) (sym is) (placed_new i d pd)) in
                    let (e, qe, f2) = still_there q (place p t) (root_after p root) iq mid mq.meets a o d n pa on gone (subst (λ z. q.old z ≡ Some d) (sym is) qd) in
                    inl (e, q_new_in i e (subst (λ z. q.new z ≡ Some e) is qe), (f2.level ∙ sym f.level ∙ same.0, f2.lo ∙ sym f.lo ∙ same.1, f2.hi ∙ sym f.hi ∙ same.2))
              ]
            ]
      ]

  replaced : (i : ℕ) (c : Node V) → (join p q).old i ≡ Some c → ¬ (NamesId (join p q).old i) → IsReplaced i c
  unfolding IsReplaced IsHighest
  replaced i c e unnamed = elim (from_old i c e) [
    | inl h ↦ elim (ip.replaced i c h (λ x. unnamed (p_names_in i x))) [
      | inr g ↦
          let (b, ob, level) = old_root p t root ip it mp.meets g.0 in
          let most = g.1 root.id b ob in
          inr (highest_first c g.0 (omega (arith, level, most)))
      | inl g ↦ elim (p_new_in i g.0 g.1) [
        | inl x ↦ inl (g.0, x, g.2)
        | inr x ↦ replaced_twice i c g.0 h g.1 g.2 x unnamed
      ]
    ]
    | inr h ↦
        let (pgone, fresh, qc) = h in
        let free : ¬ (NamesId q.old i) = λ g.
        let (n, (a, o, ao, on), is) = g in
        elim (q_old_from a o ao) [
          | inr x ↦ unnamed (n, (a, o, x.0, on), is)
          | inl x ↦ elim (ip.named n (a, o, x, on)) [
            | inl y ↦ not_both p.new i y.0 fresh (subst (λ z. p.new z ≡ Some y.0) is y.1)
            | inr y ↦ let (b, m, bm, mn) = y.1 in unnamed (n, (b, m, p_old_in b m bm, mn), is)
          ]
        ]
        in
        elim (iq.replaced i c qc free) [
          | inl g ↦ inl (g.0, q_new_in i g.0 g.1, g.2)
          | inr g ↦ inr (highest_second c g.0 g.1)
        ]
  ]

  IsReached : ℕ → Type 0
  IsReached i = NamesId (join p q).new i ⊎ ((r : Root) × ((join p q).root ≡ Some r) × (r.id ≡ i))

  -- an untouched cell does not name a new cell that needs a name
  not_by_untouched : (i a : ℕ) (c o : Node V) (n : Name) → (join p q).new i ≡ Some c → NeedsName (join p q) i c → (join p q).new a ≡ None → (join p q).old a ≡ None → t a ≡ Some o → Contains o.names n → n.id ≡ i → ⊥
  not_by_untouched i a c o n e (inl gone) _ _ ta on is = unnamed_both i c e gone (n, (a, o, ta, on), is)
  not_by_untouched i a c o n e (inr (inl (m, (b, x, bx, xm), is2))) _ left_a ta on is = elim (some_or_none (t i)) [
    | inl y ↦
        let (ab, _) = named_once t root it a b i o x y.0 n m ta (meets_both.has_old b x bx) on xm y.1 is is2 in
        not_both (join p q).old b x (subst (λ z. (join p q).old z ≡ None) ab left_a) bx
    | inr none ↦ elim (some_or_none ((join p q).old i)) [
      | inl y ↦ not_both t i y.0 none (meets_both.has_old i y.0 y.1)
      | inr gone ↦ unnamed_both i c e gone (n, (a, o, ta, on), is)
    ]
  ]
  not_by_untouched i a c o n e (inr (inr (x, xi, other))) new_a left_a ta on is =
      let f = it.named a o x n ta on (subst (λ z. t z ≡ Some x) (sym is) (meets_both.has_old i x xi)) in
      let wa : place (join p q) t a ≡ Some o = over_kept ((join p q).new a) ((join p q).old a) (t a) o (λ d h. not_both (join p q).new a d new_a h) left_a ta in
      let f2 = both.named a o c n wa on (subst (λ z. place (join p q) t z ≡ Some c) (sym is) (in_both i c e)) in
      other (f.level ∙ sym f2.level, f.lo ∙ sym f2.lo, f.hi ∙ sym f2.hi)

  -- nor is it the root, where that stays
  not_the_root : (i : ℕ) (c : Node V) → (join p q).new i ≡ Some c → NeedsName (join p q) i c → (join p q).root ≡ None → i ≡ root.id → ⊥
  not_the_root i c e (inl gone) none at = not_both t root.id it.root_node (subst (λ z. t z ≡ None) at (meets_both.free i c e gone)) it.root_is
  not_the_root i c e (inr (inl (m, (b, x, bx, xm), is2))) none at = root_unnamed t root it b x m (meets_both.has_old b x bx) xm (is2 ∙ at)
  not_the_root i c e (inr (inr (x, xi, other))) none at =
      let part : IsPart (place (join p q) t) root = subst (IsPart (place (join p q) t)) (unchanged_root none) both in
      let one : x ≡ it.root_node = one_cell t root.id x it.root_node (subst (λ z. t z ≡ Some x) at (meets_both.has_old i x xi)) it.root_is in
      let two : c ≡ part.root_node = one_cell (place (join p q) t) root.id c part.root_node (subst (λ z. place (join p q) t z ≡ Some c) at (in_both i c e)) part.root_is in
      other (
        ap (λ z. z.level) one ∙ it.root_level ∙ sym part.root_level ∙ ap (λ z. z.level) (sym two),
        ap (λ z. z.lo) one ∙ it.root_lo ∙ sym part.root_lo ∙ ap (λ z. z.lo) (sym two),
        ap (λ z. z.hi) one ∙ it.root_hi ∙ sym part.root_hi ∙ ap (λ z. z.hi) (sym two),
      )

  reached : (i : ℕ) (c : Node V) → (join p q).new i ≡ Some c → NeedsName (join p q) i c → IsReached i
  unfolding IsReached
  reached i c e needs = elim (both.reached i c (in_both i c e)) [
    | inl at ↦ elim (root_or_not (join p q).root) [
      | inl r ↦ inr (r.0, r.1, ap (λ z. z.id) (sym (changed_root r.0 r.1)) ∙ sym at)
      | inr none ↦ absurd (not_the_root i c e needs none (at ∙ ap (λ z. z.id) (unchanged_root none)))
    ]
    | inr h ↦
        let (n, (a, o, wa, on), is) = h in
        elim (over_from ((join p q).new a) ((join p q).old a) (t a) o wa) [
          | inl x ↦ inl (n, (a, o, x, on), is)
          | inr x ↦ absurd (not_by_untouched i a c o n e needs x.0 x.1 x.2 on is)
        ]
  ]

  leaves_old : (k : ℕ) → CoversLeaf (join p q).old k → CoversLeaf (join p q).new k
  leaves_old k h =
      let (i, c, e, at) = to_piece (join p q).old k h in
      let by_second : (j : ℕ) (d : Node V) → q.old j ≡ Some d → Piece q.new k → CoversLeaf (join p q).new k = λ j d _ x. let (a, o, qo, at_o) = x in from_piece (join p q).new k (a, o, q_new_in a o qo, at_o) in
      elim (from_old i c e) [
        | inr g ↦ by_second i c g.2 (to_piece q.new k (iq.leaves_old k (from_piece q.old k (i, c, g.2, at))))
        | inl g ↦
            let (j, d, pd, at_d) = to_piece p.new k (ip.leaves_old k (from_piece p.old k (i, c, g, at))) in
            elim (p_new_in j d pd) [
              | inl x ↦ from_piece (join p q).new k (j, d, x, at_d)
              | inr x ↦ by_second j d x (to_piece q.new k (iq.leaves_old k (from_piece q.old k (j, d, x, at_d))))
            ]
      ]

  leaves_new : (k : ℕ) → CoversLeaf (join p q).new k → CoversLeaf (join p q).old k
  leaves_new k h =
      let (i, c, e, at) = to_piece (join p q).new k h in
      let by_first : Piece p.old k → CoversLeaf (join p q).old k = λ x. let (a, o, po, at_o) = x in from_piece (join p q).old k (a, o, p_old_in a o po, at_o) in
      elim (from_new i c e) [
        | inr g ↦ by_first (to_piece p.old k (ip.leaves_new k (from_piece p.new k (i, c, g.2, at))))
        | inl g ↦
            let (j, d, qd, at_d) = to_piece q.old k (iq.leaves_new k (from_piece q.new k (i, c, g, at))) in
            elim (q_old_from j d qd) [
              | inl x ↦ by_first (to_piece p.old k (ip.leaves_new k (from_piece p.new k (j, d, x, at_d))))
              | inr x ↦ from_piece (join p q).old k (j, d, x.0, at_d)
            ]
      ]

  pub follow_patch : IsPatch (join p q)
  unfolding IsHigher IsHighest IsReplaced IsReached
  follow_patch = record {
    nodes = λ i c e. elim (from_new i c e) [ inl h ↦ iq.nodes i c h | inr h ↦ ip.nodes i c h.2 ];
    covers_old = covers_old;
    covers_new = covers_new;
    new_root = new_root;
    apart = λ i j c d k a b same one at_c at_d. apart (place (join p q) t) (root_after (join p q) root) both i j c d k (in_both i c a) (in_both j d b) same one at_c at_d;
    named = named;
    kept = kept;
    replaced = replaced;
    reached = reached;
    leaves_old = leaves_old;
    leaves_new = leaves_new;
  }

  pub follow_meets : MeetsPart (join p q) t root
  follow_meets = record { meets = meets_both; unnamed = unnamed_both }
