-- A change along a path is a patch, which its part meets.
use Rattle.std.proofs.Common.{◌≡◌, ◌≢◌, ◌⊎◌, inl, inr, ℕ, ◌<◌, ◌≤◌, List, [], ◌∷◌, drop, refl, sym, ap, subst, ◌∙◌, arith}
use Rattle.std.specs.Prelude.{Contains, IsSome, Option, None, Some}
use Rattle.std.specs.Option.{option_map}
use Rattle.std.proofs.lemmas.Option.{none-some, same_Some}
use Rattle.r4_base.specs.Key.{rank}
use Rattle.r4_base.specs.Tree.{Covers, CoversLeaf, Fits, InNode, IsNode, Name, Node, Root, Store}
use Rattle.r4_base.specs.Value.{Value}
use Rattle.r4_patch.specs.r4_cell.Patch.{IsChange, IsNewRoot, Names, NamesId, NeedsName, Patch, SameRange, patch_of, root_of_pair}
use Rattle.r4_patch.specs.r4_cell.Seen.{CellSeen, node_of}
use Rattle.r4_patch.specs.Joining.{ids_of}
use Rattle.r4_patch.specs.Part.{MeetsPart}
use Rattle.r4_patch.proofs.PartCells.{named_once}
use Rattle.r4_path.specs.Steps.{Ends, Follow, IsNameOf, IsNamedAfter, IsPathChange, IsRootOver, IsStep, Step, fresh_ids}
use Rattle.r4_path.specs.Steps.{name_of, news, olds, root_pair}
use Rattle.r4_patch.proofs.Members.{absent, cases, found, have_names, here, none, there}
use Rattle.r4_path.proofs.OnPath.{IsHighest, Stands, StandsIn, above_or_highest, below_stands, distinct_news, distinct_olds}
use Rattle.r4_path.proofs.OnPath.{highest, new_id, new_stands, old_stands, one_step, only_below, over_new, some_step, stands_in}
use Rattle.r4_path.proofs.OnPath.{stands_new, stands_old, stands_step, up_one}
use Rattle.r4_path.proofs.Rising.{Within, count_within, follow_apart, follow_covers, follow_within, hi_is, in_cell, in_node}
use Rattle.r4_path.proofs.Rising.{level_is, lo_is}

none_or_some : (o : Option CellSeen) → (o ≡ None) ⊎ ((c : CellSeen) × (o ≡ Some c))
none_or_some None = inl refl
none_or_some (Some c) = inr (c, refl)

some_root : (o : Option CellSeen) (c : CellSeen) → o ≡ Some c → IsSome (option_map root_of_pair (root_pair o))
some_root o c e = subst (λ (x : Option CellSeen). IsSome (option_map root_of_pair (root_pair x))) (sym e) refl

root_some : (o : Option CellSeen) → IsSome (option_map root_of_pair (root_pair o)) → (c : CellSeen) × (o ≡ Some c)
root_some None h = absurd cc
root_some (Some c) h = (c, refl)

root_is : (o : Option CellSeen) (q : Root) → option_map root_of_pair (root_pair o) ≡ Some q → (c : CellSeen) × (o ≡ Some c)
    × (q.id ≡ c.id) × (q.height ≡ c.level)
root_is None q h = absurd (none-some q h)
root_is (Some c) q h =
    let e : q ≡ record { id = c.id; height = c.level } = same_Some q (record { id = c.id; height = c.level }) (sym h) in
    (c, refl, ap (λ (x : Root). x.id) e, ap (λ (x : Root). x.height) e)

fits_name : (c : CellSeen) → Fits (name_of c) (node_of c)
fits_name c = record { level = level_is c; lo = lo_is c; hi = hi_is c }

one_cell : (s : Step) (c x : CellSeen) → s.new ≡ c ∷ [] → Contains s.new x → x ≡ c
one_cell s c x e member = elim (cases c x [] (subst (λ (cells : List CellSeen). Contains cells x) e member)) [
  | inl is ↦ is
  | inr more ↦ absurd (none x more)
]

-- one cell in the place of an old one has its name, level and range
pub record Replaces (o c : CellSeen) : Type 0 where
  pub id : c.id ≡ o.id
  pub level : c.level ≡ o.level
  pub lo : rank c.lo ≡ rank o.lo
  pub hi : rank c.hi ≡ rank o.hi

replaces : (b : Option Step) (s : Step) (c : CellSeen) → IsStep b s → s.new ≡ c ∷ [] → Replaces s.old c
replaces b s c step e =
    let follow : Follow s.old.level (rank s.old.lo) (rank s.old.hi) (c ∷ []) = subst
    (Follow s.old.level (rank s.old.lo) (rank s.old.hi)) e step.ranges in
    let first : ids_of (c ∷ []) ≡ s.old.id ∷ ids_of (drop 1 (c ∷ [])) = subst
    (λ (cells : List CellSeen). ids_of cells ≡ s.old.id ∷ ids_of (drop 1 cells)) e step.first in
    let same : c.id ≡ s.old.id = cc in
    record { id = same; level = follow.0; lo = follow.1; hi = follow.3 }

module _ (t : Store Value) (r : Root) (from : ℕ) (steps : List Step) (over : Option CellSeen)
    (is : IsPathChange t r from steps over) where
  abbrev p : Patch Value
  p = patch_of (olds steps) (news steps over) (root_pair over)

  sit : (b : Option Step) (s : Step) → Stands None steps b s → StandsIn t b s
  sit b s st = stands_in t None steps b s is.path st

  step_of : (b : Option Step) (s : Step) → Stands None steps b s → IsStep b s
  step_of b s st = stands_step None steps b s is.climbs st

  piece : (b : Option Step) (s : Step) (x : CellSeen) → Stands None steps b s → Contains s.new x
      → Within s.old.level (rank s.old.lo) (rank s.old.hi) x
  piece b s x st member = follow_within s.old.level (rank s.old.lo) (rank s.old.hi) s.new x (step_of b s st).ranges member

  -- ---- what stands under a name

  old_at : (i : ℕ) (c : Node Value) → p.old i ≡ Some c → (b : Option Step) × (s : Step) × Stands None steps b s
      × (s.old.id ≡ i) × (c ≡ node_of s.old)
  old_at i c e =
      let (x, member, id, says) = found (olds steps) i c e in
      let (b, s, st, xs) = old_stands None steps x member in
      (b, s, st, sym (ap (λ (y : CellSeen). y.id) xs) ∙ id, says ∙ ap node_of xs)

  has_old : (b : Option Step) (s : Step) → Stands None steps b s → p.old s.old.id ≡ Some (node_of s.old)
  has_old b s st = there (olds steps) s.old (distinct_olds t r is.part None steps is.path) (stands_old None steps b s st)

  has_new : (x : CellSeen) → Contains (news steps over) x → p.new x.id ≡ Some (node_of x)
  has_new x member = there (news steps over) x
      (distinct_news t r is.part None steps over from is.path is.climbs is.counts is.free) member

  of_step : (b : Option Step) (s : Step) (x : CellSeen) → Stands None steps b s → Contains s.new x → p.new x.id
      ≡ Some (node_of x)
  of_step b s x st member = has_new x (stands_new None steps over b s x st member)

  is_new : (c : CellSeen) → over ≡ Some c → Contains (news steps over) c
  is_new c e = subst (λ (o : Option CellSeen). Contains (news steps o) c) (sym e) (over_new steps c)

  not_old : (i : ℕ) → ((b : Option Step) (s : Step) → Stands None steps b s → s.old.id ≢ i) → p.old i ≡ None
  not_old i none_is = absent (olds steps) i
      (λ x member id. let (b, s, st, xs) = old_stands None steps x member in
      none_is b s st (sym (ap (λ (y : CellSeen). y.id) xs) ∙ id))

  new_root_over : (s : Step) (c : CellSeen) → IsHighest t r is.part over None steps s → over ≡ Some c → IsRootOver r s c
  new_root_over s c high e = let ends : Ends r (s ∷ []) (Some c) = subst (Ends r (s ∷ [])) e high.ends in ends

  -- ---- levels

  top_level : (c : CellSeen) → over ≡ Some c → (b : Option Step) (s : Step) → Stands None steps b s → s.old.level < c.level
  top_level c e b s st =
      let (b0, s0, st0, high) = highest t r is.part over None steps is.path is.ends in
      let most = high.most b s st in
      let above = (new_root_over s0 c high e).level in
      omega (arith, most, above)

  old_covers : (l k i : ℕ) (c : Node Value) → p.old i ≡ Some c → c.level ≡ l → InNode c k → Covers p.new l k
  old_covers l k i c e cl at =
      let (b, s, st, id, says) = old_at i c e in
      let inside = in_cell s.old k (subst (λ (d : Node Value). InNode d k) says at) in
      let (x, member, in_x) = follow_covers s.old.level (rank s.old.lo) (rank s.old.hi) s.new k
      (step_of b s st).ranges inside.0 inside.1 in
      let w = piece b s x st member in (
        x.id,
        node_of x,
        of_step b s x st member,
        level_is x
            ∙ (w.level_as ∙ (sym (level_is s.old) ∙ (sym (ap (λ (d : Node Value). d.level) says) ∙ cl))),
        in_node x k in_x,
      )

  piece_covers : (l k : ℕ) (b : Option Step) (s : Step) (x : CellSeen) → Stands None steps b s → Contains s.new x
      → (node_of x).level ≡ l → InNode (node_of x) k → Covers p.old l k
  piece_covers l k b s x st member xl at =
      let w = piece b s x st member in
      let inside = in_cell x k at in
      let low = w.from in
      let high = w.to in (
        s.old.id,
        node_of s.old,
        has_old b s st,
        level_is s.old
            ∙ (sym w.level_as ∙ (sym (level_is x) ∙ xl)),
        in_node s.old k
            (omega (arith, low, inside), omega (arith, high, inside)),
      )

  -- ---- the points of a patch

  nodes : (i : ℕ) (c : Node Value) → p.new i ≡ Some c → IsNode c
  nodes i c e = let (x, member, id, says) = found (news steps over) i c e in subst IsNode (sym says) (is.nodes x member)

  covers_new : (l k : ℕ) → Covers p.new l k → Covers p.old l k
      ⊎ (IsSome p.root × ((i : ℕ) (c : Node Value) → p.old i ≡ Some c → c.level < l))
  covers_new l k (i, c, e, cl, at) =
      let (x, member, id, says) = found (news steps over) i c e in
      let xl : (node_of x).level ≡ l = sym (ap (λ (d : Node Value). d.level) says) ∙ cl in
      elim (new_stands None steps over x member) [
        | inl h ↦ let (b, s, st, in_s) = h in inl
            (piece_covers l k b s x st in_s xl (subst (λ (d : Node Value). InNode d k) says at))
        | inr high ↦ inr (
          some_root over x high,
          λ j d f.
              let (b, s, st, _, is_d) = old_at j d f in
              let low = top_level x high b s st in
              let dl : d.level ≡ s.old.level = ap (λ (y : Node Value). y.level) is_d ∙ level_is s.old in
              let xx = level_is x in
              omega (arith, low, dl, xx, xl),
        )
      ]

  new_root : (q : Root) → p.root ≡ Some q → IsNewRoot p.new q
  new_root q e =
      let (c, top_is, qi, qh) = root_is over q e in
      let (b0, s0, st0, high) = highest t r is.part over None steps is.path is.ends in
      let root = new_root_over s0 c high top_is in
      record {
        node = node_of c;
        is = subst (λ i. p.new i ≡ Some (node_of c)) (sym qi) (has_new c (is_new c top_is));
        level = level_is c ∙ sym qh;
        lo = lo_is c ∙ root.lo;
        hi = hi_is c ∙ root.hi;
        highest = λ i d f.
            let (x, member, id, says) = found (news steps over) i d f in
            let dl : d.level ≡ x.level = ap (λ (y : Node Value). y.level) says ∙ level_is x in
            elim (new_stands None steps over x member) [
              | inl h ↦
                  let (b, s, st, in_s) = h in
                  let w = (piece b s x st in_s).level_as in
                  let low = top_level c top_is b s st in
                  omega (arith, dl, w, low, qh)
              | inr is_c ↦
                  let same = ap (λ (y : CellSeen). y.level) (same_Some x c (sym is_c ∙ top_is)) in
                  omega (arith, dl, same, qh)
            ];
      }

  apart : (i j : ℕ) (c d : Node Value) (k : ℕ) → p.new i ≡ Some c → p.new j ≡ Some d → c.level ≡ d.level → InNode c k
      → InNode d k → i ≡ j
  apart i j c d k ei ej same at_c at_d =
      let (x, mx, ix, sx) = found (news steps over) i c ei in
      let (y, my, iy, sy) = found (news steps over) j d ej in
      let lx : c.level ≡ x.level = ap (λ (z : Node Value). z.level) sx ∙ level_is x in
      let ly : d.level ≡ y.level = ap (λ (z : Node Value). z.level) sy ∙ level_is y in
      let in_x = in_cell x k (subst (λ (z : Node Value). InNode z k) sx at_c) in
      let in_y = in_cell y k (subst (λ (z : Node Value). InNode z k) sy at_d) in
      let goes : x ≡ y → i ≡ j = λ e. sym ix ∙ (ap (λ (z : CellSeen). z.id) e ∙ iy) in
      elim (new_stands None steps over x mx) [
        | inl h ↦
            let (b, s, st, in_s) = h in
            let wx = (piece b s x st in_s).level_as in
            elim (new_stands None steps over y my) [
              | inl g ↦
                  let (a, u, su, in_u) = g in
                  let wy = (piece a u y su in_u).level_as in
                  let one : s ≡ u = one_step t r is.part None steps b a s u is.path st su
                  (omega (arith, wx, wy, lx, ly, same)) in
                  goes (follow_apart s.old.level (rank s.old.lo) (rank s.old.hi) s.new x y k (step_of b s st).ranges in_s
                  (subst (λ (z : Step). Contains z.new y) (sym one) in_u) in_x in_y)
              | inr top_y ↦ let low = top_level y top_y b s st in absurd (omega (arith, low, wx, lx, ly, same))
            ]
        | inr top_x ↦ elim (new_stands None steps over y my) [
          | inl g ↦
              let (a, u, su, in_u) = g in
              let wy = (piece a u y su in_u).level_as in
              let low = top_level x top_x a u su in
              absurd (omega (arith, low, wy, lx, ly, same))
          | inr top_y ↦ goes (same_Some x y (sym top_x ∙ top_y))
        ]
      ]

  -- the name of a new cell of a step
  names_piece : (b : Option Step) (s : Step) (n : Name) → Stands None steps b s → IsNameOf s.new n → (d : Node Value)
      × (p.new n.id ≡ Some d) × Fits n d
  names_piece b s n st (x, member, e) = (
    node_of x,
    subst (λ (m : Name). p.new m.id ≡ Some (node_of x)) (sym e)
        (of_step b s x st member),
    subst (λ (m : Name). Fits m (node_of x)) (sym e) (fits_name x),
  )

  stands_below : (b s : Step) → Stands None steps (Some b) s → (a : Option Step) × Stands None steps a b
  stands_below b s st = elim (below_stands None steps b s st) [ inl e ↦ absurd (none-some b e) | inr h ↦ h ]

  named_after : (b : Option Step) (s : Step) (n : Name) → Stands None steps b s → IsNamedAfter b s.old n
      → ((d : Node Value) × (p.new n.id ≡ Some d) × Fits n d) ⊎ ((p.old n.id ≡ None) × Names p.old n)
  named_after None s n st member = inr (
    not_old n.id (λ c u su e. none-some u (only_below t r is.part steps None c s u n is.path st su member (sym e))),
    (s.old.id, node_of s.old, has_old None s st, member),
  )
  named_after (Some b) s n st (inl (member, other)) =
      let (a, sb) = stands_below b s st in
      let low = sit a b sb in
      let high = sit (Some b) s st in
      inr (
        not_old n.id (λ c u su e.
            let one = some_step b u (only_below t r is.part steps (Some b) c s u n is.path st su member (sym e)) in
            other (named_once t r is.part s.old.id s.old.id b.old.id (node_of s.old) (node_of s.old) (node_of b.old) n
            (name_of b.old) high.there high.there member high.leads low.there
            (sym e ∙ sym (ap (λ (z : Step). z.old.id) one)) refl).1
            ),
        (s.old.id, node_of s.old, has_old (Some b) s st, member),
      )
  named_after (Some b) s n st (inr h) = let (a, sb) = stands_below b s st in inl (names_piece a b n sb h)

  named : (n : Name) → Names p.new n → ((d : Node Value) × (p.new n.id ≡ Some d) × Fits n d)
      ⊎ ((p.old n.id ≡ None) × Names p.old n)
  named n (i, c, e, member) =
      let (x, mx, id, says) = found (news steps over) i c e in
      let in_x = subst (λ (d : Node Value). Contains d.names n) says member in
      elim (new_stands None steps over x mx) [
        | inl h ↦ let (b, s, st, in_s) = h in named_after b s n st (((step_of b s st).names n).0 (x, in_s, in_x))
        | inr top_is ↦
            let (b0, s0, st0, high) = highest t r is.part over None steps is.path is.ends in
            inl (names_piece b0 s0 n st0 (((new_root_over s0 x high top_is).names n).0 in_x))
      ]

  kept_after : (b : Option Step) (s : Step) (n : Name) → Stands None steps b s → Contains (node_of s.old).names n → p.old n.id
      ≡ None → IsNamedAfter b s.old n
  kept_after None s n st member gone = member
  kept_after (Some b) s n st member gone = let (a, sb) = stands_below b s st in inl (
    member,
    λ e. none-some (node_of b.old)
        (sym gone ∙ subst (λ i. p.old i ≡ Some (node_of b.old)) (sym (ap (λ (m : Name). m.id) e)) (has_old a b sb)),
  )

  kept : (n : Name) → Names p.old n → p.old n.id ≡ None → Names p.new n
  kept n (i, c, e, member) gone =
      let (b, s, st, id, says) = old_at i c e in
      let (x, in_s, in_x) = ((step_of b s st).names n).1
      (kept_after b s n st (subst (λ (d : Node Value). Contains d.names n) says member) gone) in
      (x.id, node_of x, of_step b s x st in_s, in_x)

  same_range : (o c : CellSeen) → Replaces o c → SameRange (node_of c) (node_of o)
  same_range o c h = (
    level_is c ∙ (h.level ∙ sym (level_is o)),
    lo_is c ∙ (h.lo ∙ sym (lo_is o)),
    hi_is c
        ∙ (h.hi ∙ sym (hi_is o)),
  )

  none_over : (s : Step) → IsHighest t r is.part over None steps s → over ≡ None → (c : CellSeen) × (s.new ≡ c ∷ [])
  none_over s high e = let ends : Ends r (s ∷ []) None = subst (Ends r (s ∷ [])) e high.ends in ends

  replaced : (i : ℕ) (c : Node Value) → p.old i ≡ Some c → ¬ (NamesId p.old i)
      → ((d : Node Value) × (p.new i ≡ Some d) × SameRange d c)
      ⊎ (IsSome p.root × ((j : ℕ) (d : Node Value) → p.old j ≡ Some d → d.level ≤ c.level))
  replaced i c e unnamed =
      let (b, s, st, id, says) = old_at i c e in
      elim (above_or_highest t r is.part over None steps b s is.path is.ends st) [
        | inl above ↦
            let (a, sa) = above in
            absurd (unnamed (name_of s.old, (a.old.id, node_of a.old, has_old (Some s) a sa, (sit (Some s) a sa).leads), id))
        | inr high ↦ elim (none_or_some over) [
          | inl bare ↦
              let (x, one) = none_over s high bare in
              let same = replaces b s x (step_of b s st) one in
              inl (
                node_of x,
                subst (λ j. p.new j ≡ Some (node_of x)) (same.id ∙ id)
                    (of_step b s x st (subst (λ (cells : List CellSeen). Contains cells x) (sym one) (here x []))),
                subst
                    (λ (d : Node Value). SameRange (node_of x) d) (sym says) (same_range s.old x same),
              )
          | inr above ↦ inr (
            some_root over above.0 above.1,
            λ j d f.
                let (a, u, su, _, is_d) = old_at j d f in
                let most = high.most a u su in
                let dl : d.level ≡ u.old.level = ap (λ (y : Node Value). y.level) is_d ∙ level_is u.old in
                let cl : c.level ≡ s.old.level = ap (λ (y : Node Value). y.level) says ∙ level_is s.old in
                omega (arith, most, dl, cl),
          )
        ]
      ]

  -- the highest old cell is not named by an old one
  top_unnamed : (b : Option Step) (s : Step) → Stands None steps b s → IsHighest t r is.part over None steps s
      → NamesId p.old s.old.id → ⊥
  top_unnamed b s st high (n, (j, d, e, member), same) =
      let (a, u, su, id, says) = old_at j d e in
      let under = only_below t r is.part steps a b u s n is.path su st
      (subst (λ (z : Node Value). Contains z.names n) says member) same in
      let lower = stands_higher a u su under in
      let most = high.most a u su in
      omega (arith, lower, most)
    where
      stands_higher : (a : Option Step) (u : Step) → Stands None steps a u → a ≡ Some s → s.old.level < u.old.level
      stands_higher a u su e =
          let su2 : Stands None steps (Some s) u = subst (λ (z : Option Step). Stands None steps z u) e su in
          let up = up_one t r is.part s u (sit (Some s) u su2) (sit b s st).level in
          omega (arith, up)

  reached : (i : ℕ) (c : Node Value) → p.new i ≡ Some c → NeedsName p i c → NamesId p.new i
      ⊎ ((q : Root) × (p.root ≡ Some q) × (q.id ≡ i))
  reached i c e needs =
      let (x, mx, id, says) = found (news steps over) i c e in
      elim (new_stands None steps over x mx) [
        | inl h ↦
            let (b, s, st, in_s) = h in
            elim (above_or_highest t r is.part over None steps b s is.path is.ends st) [
              | inl above ↦
                  let (a, sa) = above in
                  let (y, in_a, in_y) = ((step_of (Some s) a sa).names (name_of x)).1 (inr (x, in_s, refl)) in
                  inl (name_of x, (y.id, node_of y, of_step (Some s) a y sa in_a, in_y), id)
              | inr high ↦ elim (none_or_some over) [
                | inl bare ↦
                    let (z, one) = none_over s high bare in
                    let zx = one_cell s z x one in_s in
                    let same = replaces b s z (step_of b s st) one in
                    let si : s.old.id ≡ i = sym same.id ∙ (sym (ap (λ (v : CellSeen). v.id) zx) ∙ id) in
                    absurd (not_needed b s x st high si says (subst (Replaces s.old) (sym zx) same))
                | inr above ↦
                    let (d, top_is) = above in
                    inl (
                      name_of x,
                      (
                        d.id,
                        node_of d,
                        has_new d (is_new d top_is),
                        ((new_root_over s d high top_is).names (name_of x)).1 (x, in_s, refl),
                      ),
                      id,
                    )
              ]
            ]
        | inr top_is ↦ inr (
          record { id = x.id; height = x.level },
          ap
              (λ (o : Option CellSeen). option_map root_of_pair (root_pair o)) top_is,
          id,
        )
      ]
    where
      not_needed : (b : Option Step) (s : Step) (x : CellSeen) → Stands None steps b s
          → IsHighest t r is.part over None steps s → s.old.id ≡ i → c ≡ node_of x → Replaces s.old x → ⊥
      not_needed b s x st high si says same =
          let was : p.old i ≡ Some (node_of s.old) = subst (λ j. p.old j ≡ Some (node_of s.old)) si (has_old b s st) in
          elim needs [
            | inl gone ↦ none-some (node_of s.old) (sym gone ∙ was)
            | inr more ↦ elim more [
              | inl name ↦ top_unnamed b s st high (subst (NamesId p.old) (sym si) name)
              | inr other ↦
                  let (o, is_o, differs) = other in
                  let one : o ≡ node_of s.old = same_Some o (node_of s.old) (sym is_o ∙ was) in
                  let range = same_range s.old x same in
                  let alike : SameRange (node_of s.old) (node_of x) = (sym range.0, sym range.1, sym range.2) in
                  differs (subst (λ (z : Node Value). SameRange z c) (sym one)
                  (subst (SameRange (node_of s.old)) (sym says) alike))
            ]
          ]

  leaves_old : (k : ℕ) → CoversLeaf p.old k → CoversLeaf p.new k
  leaves_old k (inl (i, c, e, cl, at)) = inl (old_covers 1 k i c e cl at)
  leaves_old k (inr (i, c, v, e, member, at)) =
      let (b, s, st, id, says) = old_at i c e in
      let (x, in_s, in_x) = ((step_of b s st).spans v).1 (subst (λ (d : Node Value). Contains d.spans v) says member) in
      inr (x.id, node_of x, v, of_step b s x st in_s, in_x, at)

  leaves_new : (k : ℕ) → CoversLeaf p.new k → CoversLeaf p.old k
  leaves_new k (inl (i, c, e, cl, at)) =
      let (x, mx, id, says) = found (news steps over) i c e in
      let xl : (node_of x).level ≡ 1 = sym (ap (λ (d : Node Value). d.level) says) ∙ cl in
      elim (new_stands None steps over x mx) [
        | inl h ↦ let (b, s, st, in_s) = h in inl
            (piece_covers 1 k b s x st in_s xl (subst (λ (d : Node Value). InNode d k) says at))
        | inr top_is ↦
            let (b0, s0, st0, high) = highest t r is.part over None steps is.path is.ends in
            let low = top_level x top_is b0 s0 st0 in
            let one = (sit b0 s0 st0).level in
            let xx = level_is x in
            absurd (omega (arith, low, one, xx, xl))
      ]
  leaves_new k (inr (i, c, v, e, member, at)) =
      let (x, mx, id, says) = found (news steps over) i c e in
      let in_x = subst (λ (d : Node Value). Contains d.spans v) says member in
      elim (new_stands None steps over x mx) [
        | inl h ↦
            let (b, s, st, in_s) = h in
            inr (s.old.id, node_of s.old, v, has_old b s st, ((step_of b s st).spans v).0 (x, in_s, in_x), at)
        | inr top_is ↦
            let (b0, s0, st0, high) = highest t r is.part over None steps is.path is.ends in
            absurd ((new_root_over s0 x high top_is).spans v in_x)
      ]

  pub change_is : IsChange (olds steps) (news steps over) (root_pair over)
  change_is = record {
    old_names = have_names (olds steps) (distinct_olds t r is.part None steps is.path);
    new_names = have_names (news steps over)
        (distinct_news t r is.part None steps over from is.path is.climbs is.counts is.free);
    patch = record {
      nodes = nodes;
      covers_old = λ l k two h. let (i, c, e, cl, at) = h in old_covers l k i c e cl at;
      covers_new = λ l k two h. covers_new l k h;
      new_root = new_root;
      apart = λ i j c d k ei ej same low at_c at_d. apart i j c d k ei ej same at_c at_d;
      named = named;
      kept = kept;
      replaced = replaced;
      reached = reached;
      leaves_old = leaves_old;
      leaves_new = leaves_new;
    };
  }

  -- ---- the part meets it

  new_name : (i : ℕ) (c : Node Value) → p.new i ≡ Some c → p.old i ≡ None → Contains (fresh_ids steps over) i
  new_name i c e gone =
      let (x, mx, id, says) = found (news steps over) i c e in
      elim (new_id None steps over x is.climbs mx) [
        | inl h ↦
            let (b, s, st, same) = h in
            absurd (none-some (node_of s.old)
            (sym gone ∙ subst (λ j. p.old j ≡ Some (node_of s.old)) (sym same ∙ id) (has_old b s st)))
        | inr fresh ↦ subst (Contains (fresh_ids steps over)) id fresh
      ]

  pub part_meets : MeetsPart p t r
  part_meets = record {
    meets = record {
      has_old = λ i c e.
          let (b, s, st, id, says) = old_at i c e in
          subst (λ j. t j ≡ Some c) id (subst (λ (d : Node Value). t s.old.id ≡ Some d) (sym says) (sit b s st).there);
      free = λ i c e gone.
          let w = count_within from (fresh_ids steps over) i is.counts (new_name i c e gone) in
          is.free.cells i w.0 w.1;
      root_old = λ some.
          let (c, top_is) = root_some over some in
          let (b0, s0, st0, high) = highest t r is.part over None steps is.path is.ends in (
            node_of s0.old,
            subst (λ j. p.old j ≡ Some (node_of s0.old)) (new_root_over s0 c high top_is).was
                (has_old b0 s0 st0),
          );
    };
    unnamed = λ i c e gone named.
        let w = count_within from (fresh_ids steps over) i is.counts (new_name i c e gone) in
        is.free.names i w.0 w.1 named;
  }
