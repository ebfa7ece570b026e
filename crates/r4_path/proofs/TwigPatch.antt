-- A change of a twig and of what stands below it is a patch, which its part meets.
use Rattle.std.proofs.Common.{◌≡◌, ◌≢◌, ◌⊎◌, ◌↔◌, inl, inr, ℕ, ◌<◌, ◌≤◌, List, [], ◌∷◌, ◌++◌, drop, refl, sym, ap, subst, ◌∙◌}
use Rattle.std.proofs.Common.{arith}
use Rattle.std.specs.Prelude.{Contains, IsSome, Option, None, Some}
use Rattle.std.specs.Option.{option_map}
use Rattle.std.proofs.lemmas.List.Elements.{Contains-append_cases, Contains-append_left, Contains-append_right}
use Rattle.std.proofs.lemmas.Option.{none-some, same_Some}
use Rattle.r4_base.specs.Key.{rank}
use Rattle.r4_base.specs.Tree.{Covers, CoversLeaf, Fits, InNode, IsNode, Name, Node, Root, Span, Store}
use Rattle.r4_base.specs.Value.{Value}
use Rattle.r4_patch.specs.r4_cell.Patch.{IsChange, IsNewRoot, Names, NamesId, NeedsName, Patch, SameRange, patch_of, root_of_pair}
use Rattle.r4_patch.specs.r4_cell.Seen.{CellSeen, node_of}
use Rattle.r4_patch.specs.Joining.{ids_of}
use Rattle.r4_patch.specs.Part.{MeetsPart}
use Rattle.r4_patch.proofs.PartCells.{named_once}
use Rattle.r4_path.specs.Steps.{AreSpanning, Ends, Follow, IsNameOf, IsRootOver, IsStep, Step, fresh_ids, name_of, news, olds}
use Rattle.r4_path.specs.Steps.{root_pair}
use Rattle.r4_patch.proofs.Members.{absent, cases, distinct_append, Distinct, found, have_names, here, none, there}
use Rattle.r4_path.proofs.OnPath.{IsHighest, Stands, StandsIn, above_or_highest, below_stands, distinct_olds, highest}
use Rattle.r4_path.proofs.OnPath.{new_stands, old_stands, one_step, only_below, over_new, some_step, stands_in, stands_new}
use Rattle.r4_path.proofs.OnPath.{stands_old, stands_step, up_one}
use Rattle.r4_path.proofs.Rising.{Within, follow_apart, follow_covers, follow_within, hi_is, in_cell, in_node, level_is, lo_is}
use Rattle.r4_path.specs.Twigs.{Below, CoversBelow, IsTwigChange}
use Rattle.r4_path.proofs.Ordered.{distinct, once}
use Rattle.r4_path.proofs.TwigBelow.{covered, gone_id, id_cell, low_new, low_old}
use Rattle.r4_path.proofs.TwigNames.{AreFirst, IsFirst, climbs_first, distinct_new, has_below, higher, id_from}

none_or_some : (o : Option CellSeen) → (o ≡ None) ⊎ ((c : CellSeen) × (o ≡ Some c))
none_or_some None = inl refl
none_or_some (Some c) = inr (c, refl)

some_root : (o : Option CellSeen) (c : CellSeen) → o ≡ Some c → IsSome (option_map root_of_pair (root_pair o))
some_root o c e = subst (λ (x : Option CellSeen). IsSome (option_map root_of_pair (root_pair x))) (sym e) refl

root_some : (o : Option CellSeen) → IsSome (option_map root_of_pair (root_pair o)) → (c : CellSeen) × (o ≡ Some c)
root_some None h = absurd cc
root_some (Some c) h = (c, refl)

root_is : (o : Option CellSeen) (q : Root) → option_map root_of_pair (root_pair o) ≡ Some q
    → (c : CellSeen) × (o ≡ Some c) × (q.id ≡ c.id) × (q.height ≡ c.level)
root_is None q h = absurd (none-some q h)
root_is (Some c) q h =
    let e : q ≡ record { id = c.id; height = c.level } = same_Some q (record { id = c.id; height = c.level }) (sym h) in
    (c, refl, ap (λ (x : Root). x.id) e, ap (λ (x : Root). x.height) e)

fits_name : (c : CellSeen) → Fits (name_of c) (node_of c)
fits_name c = record { level = level_is c; lo = lo_is c; hi = hi_is c }

one_cell : (s : Step) (c x : CellSeen) → s.new ≡ c ∷ [] → Contains s.new x → x ≡ c
one_cell s c x e member = elim (cases c x [] (subst (λ (cells : List CellSeen). Contains cells x) e member)) [
  | inl is ↦ is
  | inr more ↦ absurd (none x more)
]

-- one cell in the place of an old one has its name, level and range
record Replaces (o c : CellSeen) : Type 0 where
  id : c.id ≡ o.id
  level : c.level ≡ o.level
  lo : rank c.lo ≡ rank o.lo
  hi : rank c.hi ≡ rank o.hi

replaces : (s : Step) (c : CellSeen) → IsFirst s → Follow s.old.level (rank s.old.lo) (rank s.old.hi) s.new → s.new ≡ c ∷ []
    → Replaces s.old c
replaces s c is_first ranges e =
    let follow : Follow s.old.level (rank s.old.lo) (rank s.old.hi) (c ∷ []) = subst
    (Follow s.old.level (rank s.old.lo) (rank s.old.hi)) e ranges in
    let first : ids_of (c ∷ []) ≡ s.old.id ∷ ids_of (drop 1 (c ∷ [])) = subst
    (λ (cells : List CellSeen). ids_of cells ≡ s.old.id ∷ ids_of (drop 1 cells)) e is_first in
    let same : c.id ≡ s.old.id = cc in
    record { id = same; level = follow.0; lo = follow.1; hi = follow.3 }

-- a leaf or a data block names nothing
low_names : (c : CellSeen) (n : Name) → IsNode (node_of c) → c.level ≤ 1 → Contains (node_of c).names n → ⊥
low_names c n ok low member =
    let same = level_is c in
    elim (ok.below n member) [ inl h ↦ omega (arith, h, low, same) | inr h ↦ omega (arith, h, low, same) ]

module _ (t : Store Value) (r : Root) (b : Below) (s : Step) (more : List Step) (over : Option CellSeen)
    (is : IsTwigChange t r b s more over) where
  abbrev steps : List Step
  steps = s ∷ more

  abbrev p : Patch Value
  p = patch_of (b.old ++ olds (s ∷ more)) (b.new ++ news (s ∷ more) over) (root_pair over)

  low_below : (x : CellSeen) → Contains b.old x → x.level ≤ 1
  low_below x member = low_old t r b s more over is x member

  low_come : (x : CellSeen) → Contains b.new x → x.level ≤ 1
  low_come x member = low_new t r b s more over is x member

  is_covered : (k : ℕ) → CoversBelow (s.old ∷ []) b.old k ↔ CoversBelow s.new b.new k
  is_covered k = covered t r b s more over is k

  -- ---- the steps

  lowest : Stands None steps None s
  lowest = inl (refl, refl)

  step_over : (a u : Step) → Stands None steps (Some a) u → IsStep (Some a) u
  step_over a u (inl (ea, eu)) = absurd (none-some a (sym ea))
  step_over a u (inr h) = stands_step (Some s) more (Some a) u is.climbs h

  -- a step is the lowest, or stands over another one
  kind : (a : Option Step) (u : Step) → Stands None steps a u → (u ≡ s) ⊎ ((c : Step) × Stands None steps (Some c) u)
  kind None u (inl (ea, eu)) = inl eu
  kind None u (inr h) = absurd (has_below s more u h)
  kind (Some a) u (inl (ea, eu)) = inl eu
  kind (Some a) u (inr h) = inr (a, inr h)

  ranges : (a : Option Step) (u : Step) → Stands None steps a u → Follow u.old.level (rank u.old.lo) (rank u.old.hi) u.new
  ranges a u st = elim (kind a u st) [
    | inl eq ↦ subst (λ (z : Step). Follow z.old.level (rank z.old.lo) (rank z.old.hi) z.new) (sym eq) is.step.ranges
    | inr above ↦ let (c, sc) = above in (step_over c u sc).ranges
  ]

  first : (a : Option Step) (u : Step) → Stands None steps a u → IsFirst u
  first a u st = elim (kind a u st) [
    | inl eq ↦ subst IsFirst (sym eq) is.step.first
    | inr above ↦ let (c, sc) = above in (step_over c u sc).first
  ]

  firsts : AreFirst steps
  firsts = (is.step.first, climbs_first (Some s) more is.climbs)

  sit : (a : Option Step) (u : Step) → Stands None steps a u → StandsIn t a u
  sit a u st = stands_in t None steps a u is.path st

  two : (a : Option Step) (u : Step) → Stands None steps a u → 2 ≤ u.old.level
  two a u (inl (ea, eu)) = let twig = is.step.level in let same = ap (λ (z : Step). z.old.level) eu in omega (arith, twig, same)
  two a u (inr h) =
      let (at, level, leads, rest) = is.path in
      let twig = is.step.level in
      let up = higher t r is.part s more a u level rest h in
      omega (arith, twig, up)

  three : (a u : Step) → Stands None steps (Some a) u → 3 ≤ u.old.level
  three a u (inl (ea, eu)) = absurd (none-some a (sym ea))
  three a u (inr h) =
      let (at, level, leads, rest) = is.path in
      let twig = is.step.level in
      let up = higher t r is.part s more (Some a) u level rest h in
      omega (arith, twig, up)

  piece : (a : Option Step) (u : Step) (x : CellSeen) → Stands None steps a u → Contains u.new x
      → Within u.old.level (rank u.old.lo) (rank u.old.hi) x
  piece a u x st member = follow_within u.old.level (rank u.old.lo) (rank u.old.hi) u.new x (ranges a u st) member

  -- ---- no name twice

  same_level : (x y : CellSeen) → t x.id ≡ Some (node_of x) → t y.id ≡ Some (node_of y) → x.id ≡ y.id → x.level ≡ y.level
  same_level x y tx ty same = sym (level_is x) ∙ (ap (λ (d : Node Value). d.level)
      (same_Some (node_of x) (node_of y) (sym (subst (λ i. t i ≡ Some (node_of x)) same tx) ∙ ty)) ∙ level_is y)

  -- what goes below has no name of a step
  below_step : (x : CellSeen) (a : Option Step) (u : Step) → Contains b.old x → Stands None steps a u → x.id ≡ u.old.id → ⊥
  below_step x a u in_b st same =
      let tx = is.gone x in_b in
      let low = low_below x in_b in
      let high = two a u st in
      let level = same_level x u.old tx (sit a u st).there same in
      omega (arith, low, high, level)

  distinct_old : Distinct (b.old ++ olds steps)
  distinct_old = distinct_append b.old (olds steps) (distinct b.old is.numbers.old)
      (distinct_olds t r is.part None steps is.path)
      (λ x y in_x in_y same. let (a, u, st, ey) = old_stands None steps y in_y in below_step x a u in_x st
      (same ∙ ap (λ (z : CellSeen). z.id) ey))

  distinct_ups : Distinct (news steps over)
  distinct_ups = distinct_new t r is.part None steps over is.path firsts (once (fresh_ids steps over) is.numbers.once)
      (λ i at. (is.numbers.unused i at).0)

  distinct_all : Distinct (b.new ++ news steps over)
  distinct_all = distinct_append b.new (news steps over) (distinct b.new is.numbers.new) distinct_ups
      (λ x y in_x in_y same. elim (is.numbers.each x in_x) [
        | inl again ↦
            let (o, in_o, same_o) = id_cell b.old x.id again in
            elim (id_from None steps over y firsts in_y) [
              | inl h ↦ let (a, u, st, ey) = h in below_step o a u in_o st (same_o ∙ (same ∙ ey))
              | inr h ↦ none-some (node_of o) (sym (is.numbers.unused y.id h).0 ∙ subst (λ i. t i ≡ Some (node_of o))
                  (same_o ∙ same) (is.gone o in_o))
            ]
        | inr new ↦
            let (unused, apart) = new in
            elim (id_from None steps over y firsts in_y) [
              | inl h ↦ let (a, u, st, ey) = h in none-some (node_of u.old)
                  (sym unused.0 ∙ subst (λ i. t i ≡ Some (node_of u.old)) (sym (same ∙ ey)) (sit a u st).there)
              | inr h ↦ apart (subst (Contains (fresh_ids steps over)) (sym same) h)
            ]
      ])

  -- ---- what stands under a name

  -- an old cell is below, or of a step
  abbrev OldAt : ℕ → Node Value → Type 0
  OldAt i c = ((x : CellSeen) × Contains b.old x × (x.id ≡ i) × (c ≡ node_of x)) ⊎
      ((a : Option Step) × (u : Step) × Stands None steps a u × (u.old.id ≡ i) × (c ≡ node_of u.old))

  old_at : (i : ℕ) (c : Node Value) → p.old i ≡ Some c → OldAt i c
  old_at i c e =
      let (x, member, id, says) = found (b.old ++ olds steps) i c e in
      elim (Contains-append_cases b.old (olds steps) x member) [
        | inl low ↦ inl (x, low, id, says)
        | inr high ↦ let (a, u, st, xs) = old_stands None steps x high in inr
            (a, u, st, sym (ap (λ (y : CellSeen). y.id) xs) ∙ id, says ∙ ap node_of xs)
      ]

  has_low : (x : CellSeen) → Contains b.old x → p.old x.id ≡ Some (node_of x)
  has_low x member = there (b.old ++ olds steps) x distinct_old (Contains-append_left b.old (olds steps) x member)

  has_old : (a : Option Step) (u : Step) → Stands None steps a u → p.old u.old.id ≡ Some (node_of u.old)
  has_old a u st = there (b.old ++ olds steps) u.old distinct_old
      (Contains-append_right b.old (olds steps) u.old (stands_old None steps a u st))

  -- a new cell is below, of a step, or the new root
  abbrev NewOf : CellSeen → Type 0
  NewOf x = Contains b.new x ⊎ (((a : Option Step) × (u : Step) × Stands None steps a u × Contains u.new x) ⊎ (over ≡ Some x))

  new_of : (x : CellSeen) → Contains (b.new ++ news steps over) x → NewOf x
  new_of x member = elim (Contains-append_cases b.new (news steps over) x member) [
    | inl low ↦ inl low
    | inr high ↦ inr (new_stands None steps over x high)
  ]

  abbrev NewAt : ℕ → Node Value → Type 0
  NewAt i c = (x : CellSeen) × NewOf x × (x.id ≡ i) × (c ≡ node_of x)

  new_at : (i : ℕ) (c : Node Value) → p.new i ≡ Some c → NewAt i c
  new_at i c e = let (x, member, id, says) = found (b.new ++ news steps over) i c e in (x, new_of x member, id, says)

  has_new : (x : CellSeen) → Contains (b.new ++ news steps over) x → p.new x.id ≡ Some (node_of x)
  has_new x member = there (b.new ++ news steps over) x distinct_all member

  new_low : (x : CellSeen) → Contains b.new x → p.new x.id ≡ Some (node_of x)
  new_low x member = has_new x (Contains-append_left b.new (news steps over) x member)

  of_step : (a : Option Step) (u : Step) (x : CellSeen) → Stands None steps a u → Contains u.new x
      → p.new x.id ≡ Some (node_of x)
  of_step a u x st member = has_new x (Contains-append_right b.new (news steps over) x
      (stands_new None steps over a u x st member))

  root_new : (c : CellSeen) → over ≡ Some c → Contains (b.new ++ news steps over) c
  root_new c e = Contains-append_right b.new (news steps over) c
      (subst (λ (o : Option CellSeen). Contains (news steps o) c) (sym e) (over_new steps c))

  node_low : (x : CellSeen) → Contains b.new x → IsNode (node_of x)
  node_low x member = is.nodes x (Contains-append_left b.new (news steps over) x member)

  node_step : (a : Option Step) (u : Step) (x : CellSeen) → Stands None steps a u → Contains u.new x → IsNode (node_of x)
  node_step a u x st member = is.nodes x (Contains-append_right b.new (news steps over) x
      (stands_new None steps over a u x st member))

  not_old : (i : ℕ) → ((x : CellSeen) → Contains b.old x → x.id ≢ i)
      → ((a : Option Step) (u : Step) → Stands None steps a u → u.old.id ≢ i) → p.old i ≡ None
  not_old i none_low none_is = absent (b.old ++ olds steps) i
      (λ x member id. elim (Contains-append_cases b.old (olds steps) x member) [
        | inl low ↦ none_low x low id
        | inr high ↦
            let (a, u, st, xs) = old_stands None steps x high in
            none_is a u st (sym (ap (λ (y : CellSeen). y.id) xs) ∙ id)
      ])

  new_root_over : (u : Step) (c : CellSeen) → IsHighest t r is.part over None steps u → over ≡ Some c → IsRootOver r u c
  new_root_over u c high e = let ends : Ends r (u ∷ []) (Some c) = subst (Ends r (u ∷ [])) e high.ends in ends

  -- ---- levels

  level_as : (c : Node Value) (x : CellSeen) → c ≡ node_of x → c.level ≡ x.level
  level_as c x says = ap (λ (d : Node Value). d.level) says ∙ level_is x

  top_level : (c : CellSeen) → over ≡ Some c → (a : Option Step) (u : Step) → Stands None steps a u → u.old.level < c.level
  top_level c e a u st =
      let (a0, s0, st0, high) = highest t r is.part over None steps is.path is.ends in
      let most = high.most a u st in
      let above = (new_root_over s0 c high e).level in
      omega (arith, most, above)

  top_three : (c : CellSeen) → over ≡ Some c → 3 ≤ c.level
  top_three c e = let up = top_level c e None s lowest in let twig = is.step.level in omega (arith, up, twig)

  step_covers : (l k : ℕ) (a : Option Step) (u : Step) (c : Node Value) → Stands None steps a u → c ≡ node_of u.old
      → c.level ≡ l → InNode c k → Covers p.new l k
  step_covers l k a u c st says cl at =
      let inside = in_cell u.old k (subst (λ (d : Node Value). InNode d k) says at) in
      let (x, member, in_x) = follow_covers u.old.level (rank u.old.lo) (rank u.old.hi) u.new k
      (ranges a u st) inside.0 inside.1 in
      let w = piece a u x st member in (
        x.id,
        node_of x,
        of_step a u x st member,
        level_is x ∙ (w.level_as ∙ (sym (level_as c u.old says) ∙ cl)),
        in_node x k in_x,
      )

  covers_old : (l k : ℕ) → 2 ≤ l → Covers p.old l k → Covers p.new l k
  covers_old l k high (i, c, e, cl, at) = elim (old_at i c e) [
    | inl h ↦
        let (x, in_b, id, says) = h in
        let low = low_below x in_b in
        let cx = level_as c x says in
        absurd (omega (arith, high, low, cx, cl))
    | inr h ↦ let (a, u, st, id, says) = h in step_covers l k a u c st says cl at
  ]

  piece_covers : (l k : ℕ) (a : Option Step) (u : Step) (x : CellSeen) → Stands None steps a u → Contains u.new x
      → (node_of x).level ≡ l → InNode (node_of x) k → Covers p.old l k
  piece_covers l k a u x st member xl at =
      let w = piece a u x st member in
      let inside = in_cell x k at in
      let low = w.from in
      let high = w.to in (
        u.old.id,
        node_of u.old,
        has_old a u st,
        level_is u.old ∙ (sym w.level_as ∙ (sym (level_is x) ∙ xl)),
        in_node u.old k (omega (arith, low, inside), omega (arith, high, inside)),
      )

  -- all old cells are lower than the new root
  under_top : (x : CellSeen) → over ≡ Some x → (i : ℕ) (c : Node Value) → p.old i ≡ Some c → c.level < x.level
  under_top x top_is i c e = elim (old_at i c e) [
    | inl h ↦
        let (y, in_b, id, says) = h in
        let low = low_below y in_b in
        let cy = level_as c y says in
        let up = top_three x top_is in
        omega (arith, low, cy, up)
    | inr h ↦
        let (a, u, st, id, says) = h in
        let cu = level_as c u.old says in
        let up = top_level x top_is a u st in
        omega (arith, cu, up)
  ]

  covers_new : (l k : ℕ) → 2 ≤ l → Covers p.new l k → Covers p.old l k ⊎
      (IsSome p.root × ((i : ℕ) (c : Node Value) → p.old i ≡ Some c → c.level < l))
  covers_new l k high (i, c, e, cl, at) =
      let (x, kind_x, id, says) = new_at i c e in
      let cx = level_as c x says in
      elim kind_x [
        | inl in_b ↦ let low = low_come x in_b in absurd (omega (arith, low, cx, cl, high))
        | inr up ↦ elim up [
          | inl h ↦
              let (a, u, st, in_u) = h in
              inl (piece_covers l k a u x st in_u (sym (ap (λ (d : Node Value). d.level) says) ∙ cl)
              (subst (λ (d : Node Value). InNode d k) says at))
          | inr top_is ↦ inr (
            some_root over x top_is,
            λ j d f. let low = under_top x top_is j d f in omega (arith, low, cx, cl),
          )
        ]
      ]

  nodes : (i : ℕ) (c : Node Value) → p.new i ≡ Some c → IsNode c
  nodes i c e = let (x, member, id, says) = found (b.new ++ news steps over) i c e in subst IsNode (sym says)
      (is.nodes x member)

  new_root : (q : Root) → p.root ≡ Some q → IsNewRoot p.new q
  new_root q e =
      let (c, top_is, qi, qh) = root_is over q e in
      let (a0, s0, st0, high) = highest t r is.part over None steps is.path is.ends in
      let root = new_root_over s0 c high top_is in
      record {
        node = node_of c;
        is = subst (λ i. p.new i ≡ Some (node_of c)) (sym qi) (has_new c (root_new c top_is));
        level = level_is c ∙ sym qh;
        lo = lo_is c ∙ root.lo;
        hi = hi_is c ∙ root.hi;
        highest = λ i d f.
            let (x, kind_x, id, says) = new_at i d f in
            let dl = level_as d x says in
            elim kind_x [
              | inl in_b ↦
                  let low = low_come x in_b in
                  let up = top_three c top_is in
                  omega (arith, low, up, dl, qh)
              | inr up ↦ elim up [
                | inl h ↦
                    let (a, u, st, in_u) = h in
                    let w = (piece a u x st in_u).level_as in
                    let low = top_level c top_is a u st in
                    omega (arith, dl, w, low, qh)
                | inr is_c ↦
                    let same = ap (λ (y : CellSeen). y.level) (same_Some x c (sym is_c ∙ top_is)) in
                    omega (arith, dl, same, qh)
              ]
            ];
      }

  -- ---- new cells do not meet

  -- two leaves that come
  leaves_apart : (x y : CellSeen) (k : ℕ) → Contains b.new x → Contains b.new y → x.level ≡ 1 → y.level ≡ 1
      → InNode (node_of x) k → InNode (node_of y) k → x.id ≡ y.id
  leaves_apart x y k in_x in_y lx ly at_x at_y =
      let (u, in_u, names_x) = (is.step.names (name_of x)).1 (inr (x, in_x, refl)) in
      let (v, in_v, names_y) = (is.step.names (name_of y)).1 (inr (y, in_y, refl)) in
      let nu = node_step None s u lowest in_u in
      let nv = node_step None s v lowest in_v in
      let cx = in_cell x k at_x in
      let cy = in_cell y k at_y in
      let at_u = in_cell u k (
        omega (arith, nu.name_from (name_of x) names_x, cx),
        omega (arith, nu.name_to (name_of x) names_x, cx),
      ) in
      let at_v = in_cell v k (
        omega (arith, nv.name_from (name_of y) names_y, cy),
        omega (arith, nv.name_to (name_of y) names_y, cy),
      ) in
      let one : u ≡ v = follow_apart s.old.level (rank s.old.lo)
      (rank s.old.hi) s.new u v k is.step.ranges in_u in_v at_u at_v in
      let both = subst (λ (z : CellSeen). Contains (node_of z).names (name_of x)) one names_x in
      ap (λ (n : Name). n.id) (nv.names_apart (name_of x) (name_of y) k both names_y (lx ∙ sym ly) cx cy)

  step_high : (a : Option Step) (u : Step) (x : CellSeen) → Stands None steps a u → Contains u.new x → 2 ≤ x.level
  step_high a u x st member = let w = (piece a u x st member).level_as in let high = two a u st in omega (arith, w, high)

  up_high : (x : CellSeen) → ((a : Option Step) × (u : Step) × Stands None steps a u × Contains u.new x) ⊎ (over ≡ Some x)
      → 2 ≤ x.level
  up_high x (inl (a, u, st, member)) = step_high a u x st member
  up_high x (inr top_is) = let high = top_three x top_is in omega (arith, high)

  ups_apart : (x y : CellSeen) (k : ℕ) → ((a : Option Step) × (u : Step) × Stands None steps a u × Contains u.new x) ⊎
      (over ≡ Some x) → ((a : Option Step) × (u : Step) × Stands None steps a u × Contains u.new y) ⊎ (over ≡ Some y)
      → x.level ≡ y.level → InNode (node_of x) k → InNode (node_of y) k → x ≡ y
  ups_apart x y k (inl (a, u, su, in_u)) (inl (c, v, sv, in_v)) same at_x at_y =
      let wx = (piece a u x su in_u).level_as in
      let wy = (piece c v y sv in_v).level_as in
      let one : u ≡ v = one_step t r is.part None steps a c u v is.path su sv (omega (arith, wx, wy, same)) in
      follow_apart u.old.level (rank u.old.lo) (rank u.old.hi) u.new x y k (ranges a u su) in_u
      (subst (λ (z : Step). Contains z.new y) (sym one) in_v) (in_cell x k at_x) (in_cell y k at_y)
  ups_apart x y k (inl (a, u, su, in_u)) (inr top_y) same at_x at_y =
      let wx = (piece a u x su in_u).level_as in
      let low = top_level y top_y a u su in
      absurd (omega (arith, low, wx, same))
  ups_apart x y k (inr top_x) (inl (c, v, sv, in_v)) same at_x at_y =
      let wy = (piece c v y sv in_v).level_as in
      let low = top_level x top_x c v sv in
      absurd (omega (arith, low, wy, same))
  ups_apart x y k (inr top_x) (inr top_y) same at_x at_y = same_Some x y (sym top_x ∙ top_y)

  new_apart : (x y : CellSeen) (k : ℕ) → NewOf x → NewOf y → x.level ≡ y.level → 1 ≤ x.level → InNode (node_of x) k
      → InNode (node_of y) k → x.id ≡ y.id
  new_apart x y k (inl in_x) (inl in_y) same one at_x at_y =
      let low = low_come x in_x in
      leaves_apart x y k in_x in_y (omega (arith, low, one)) (omega (arith, low, one, same)) at_x at_y
  new_apart x y k (inl in_x) (inr up_y) same one at_x at_y = let low = low_come x in_x in let high = up_high y up_y in absurd
      (omega (arith, low, high, same))
  new_apart x y k (inr up_x) (inl in_y) same one at_x at_y = let low = low_come y in_y in let high = up_high x up_x in absurd
      (omega (arith, low, high, same))
  new_apart x y k (inr up_x) (inr up_y) same one at_x at_y = ap (λ (z : CellSeen). z.id)
      (ups_apart x y k up_x up_y same at_x at_y)

  apart : (i j : ℕ) (c d : Node Value) (k : ℕ) → p.new i ≡ Some c → p.new j ≡ Some d → c.level ≡ d.level → 1 ≤ c.level
      → InNode c k → InNode d k → i ≡ j
  apart i j c d k ei ej same one at_c at_d =
      let (x, kind_x, ix, sx) = new_at i c ei in
      let (y, kind_y, iy, sy) = new_at j d ej in
      let lx = level_as c x sx in
      let ly = level_as d y sy in
      let xy = new_apart x y k kind_x kind_y (omega (arith, lx, ly, same)) (omega (arith, lx, one))
      (subst (λ (z : Node Value). InNode z k) sx at_c) (subst (λ (z : Node Value). InNode z k) sy at_d) in
      sym ix ∙ (xy ∙ iy)

  -- ---- what is named

  abbrev IsNamedNew : Name → Type 0
  IsNamedNew n = (d : Node Value) × (p.new n.id ≡ Some d) × Fits n d

  abbrev IsNamedOld : Name → Type 0
  IsNamedOld n = (p.old n.id ≡ None) × Names p.old n

  new_cell_named : (x : CellSeen) (n : Name) → p.new x.id ≡ Some (node_of x) → n ≡ name_of x → IsNamedNew n
  new_cell_named x n at e = (
    node_of x,
    subst (λ (m : Name). p.new m.id ≡ Some (node_of x)) (sym e) at,
    subst
        (λ (m : Name). Fits m (node_of x)) (sym e) (fits_name x),
  )

  names_piece : (a : Option Step) (u : Step) (n : Name) → Stands None steps a u → IsNameOf u.new n → IsNamedNew n
  names_piece a u n st (x, member, e) = new_cell_named x n (of_step a u x st member) e

  stands_below : (a u : Step) → Stands None steps (Some a) u → (c : Option Step) × Stands None steps c a
  stands_below a u st = elim (below_stands None steps a u st) [ inl e ↦ absurd (none-some a e) | inr h ↦ h ]

  -- what the old twig named and what does not go
  twig_keeps : (n : Name) → Contains (node_of s.old).names n → (IsNameOf b.old n → ⊥) → IsNamedOld n
  twig_keeps n member stays =
      let at = (sit None s lowest).there in (
        not_old n.id
            (λ x in_b e. stays (x, in_b, gone_id t r b s more over is x n in_b member (sym e)))
            (λ c u su e. none-some u (only_below t r is.part steps None c s u n is.path lowest su member (sym e))),
        (s.old.id, node_of s.old, has_old None s lowest, member),
      )

  -- what an old cell above named and what does not go
  step_keeps : (a u : Step) (n : Name) → Stands None steps (Some a) u → Contains (node_of u.old).names n → n ≢ name_of a.old
      → IsNamedOld n
  step_keeps a u n st member other =
      let (c, sa) = stands_below a u st in
      let low = sit c a sa in
      let high = sit (Some a) u st in (
        not_old n.id
            (λ x in_b e.
            let tx = is.gone x in_b in
            let is_low = low_below x in_b in
            let fits = (is.part.named u.old.id (node_of u.old) (node_of x) n high.there member
            (subst (λ i. t i ≡ Some (node_of x)) e tx)).level in
            let ups = three a u st in
            let lx = level_is x in
            let lu = level_is u.old in
            elim ((is.part.nodes u.old.id (node_of u.old) high.there).below n member) [
              | inl h ↦ omega (arith, h, fits, ups, lx, lu, is_low)
              | inr h ↦ omega (arith, h, ups, lu)
            ])
            (λ d v sv e.
            let one = some_step a v (only_below t r is.part steps (Some a) d u v n is.path st sv member (sym e)) in
            other (named_once t r is.part u.old.id u.old.id a.old.id (node_of u.old) (node_of u.old) (node_of a.old) n
            (name_of a.old) high.there high.there member high.leads low.there
            (sym e ∙ sym (ap (λ (z : Step). z.old.id) one)) refl).1),
        (u.old.id, node_of u.old, has_old (Some a) u st, member),
      )

  twig_named : (n : Name) (x : CellSeen) → Contains s.new x → Contains (node_of x).names n → IsNamedNew n ⊎ IsNamedOld n
  twig_named n x in_s member = elim ((is.step.names n).0 (x, in_s, member)) [
    | inl stays ↦ inr (twig_keeps n stays.0 stays.1)
    | inr comes ↦ let (y, in_b, e) = comes in inl (new_cell_named y n (new_low y in_b) e)
  ]

  over_named : (a u : Step) (n : Name) (x : CellSeen) → Stands None steps (Some a) u → Contains u.new x
      → Contains (node_of x).names n → IsNamedNew n ⊎ IsNamedOld n
  over_named a u n x st in_u member = elim (((step_over a u st).names n).0 (x, in_u, member)) [
    | inl stays ↦ inr (step_keeps a u n st stays.0 stays.1)
    | inr comes ↦ let (c, sa) = stands_below a u st in inl (names_piece c a n sa comes)
  ]

  named : (n : Name) → Names p.new n → IsNamedNew n ⊎ IsNamedOld n
  named n (i, c, e, member) =
      let (x, kind_x, id, says) = new_at i c e in
      let in_x = subst (λ (d : Node Value). Contains d.names n) says member in
      elim kind_x [
        | inl in_b ↦ absurd (low_names x n (node_low x in_b) (low_come x in_b) in_x)
        | inr up ↦ elim up [
          | inl h ↦
              let (a, u, st, in_u) = h in
              elim (kind a u st) [
                | inl eq ↦ twig_named n x (subst (λ (z : Step). Contains z.new x) eq in_u) in_x
                | inr above ↦ let (d, sd) = above in over_named d u n x sd in_u in_x
              ]
          | inr top_is ↦
              let (a0, s0, st0, high) = highest t r is.part over None steps is.path is.ends in
              inl (names_piece a0 s0 n st0 (((new_root_over s0 x high top_is).names n).0 in_x))
        ]
      ]

  old_low_names : (x : CellSeen) (n : Name) → Contains b.old x → Contains (node_of x).names n → ⊥
  old_low_names x n in_b member = let tx = is.gone x in_b in
      let low = low_below x in_b in low_names x n (is.part.nodes x.id (node_of x) tx) low member

  kept_twig : (n : Name) → Contains (node_of s.old).names n → p.old n.id ≡ None → Names p.new n
  kept_twig n member gone =
      let (x, in_s, in_x) = (is.step.names n).1 (inl (
        member,
        λ goes. let (y, in_b, e) = goes in none-some (node_of y)
            (sym gone ∙ subst (λ i. p.old i ≡ Some (node_of y)) (sym (ap (λ (m : Name). m.id) e)) (has_low y in_b)),
      )) in
      (x.id, node_of x, of_step None s x lowest in_s, in_x)

  kept_over : (a u : Step) (n : Name) → Stands None steps (Some a) u → Contains (node_of u.old).names n → p.old n.id ≡ None
      → Names p.new n
  kept_over a u n st member gone =
      let (c, sa) = stands_below a u st in
      let (x, in_u, in_x) = ((step_over a u st).names n).1 (inl (
        member,
        λ e. none-some (node_of a.old) (sym gone ∙ subst (λ i. p.old i ≡ Some (node_of a.old))
            (sym (ap (λ (m : Name). m.id) e)) (has_old c a sa)),
      )) in
      (x.id, node_of x, of_step (Some a) u x st in_u, in_x)

  kept : (n : Name) → Names p.old n → p.old n.id ≡ None → Names p.new n
  kept n (i, c, e, member) gone = elim (old_at i c e) [
    | inl h ↦ let (x, in_b, id, says) = h in absurd (old_low_names x n in_b
        (subst (λ (d : Node Value). Contains d.names n) says member))
    | inr h ↦
        let (a, u, st, id, says) = h in
        let in_u = subst (λ (d : Node Value). Contains d.names n) says member in
        elim (kind a u st) [
          | inl eq ↦ kept_twig n (subst (λ (z : Step). Contains (node_of z.old).names n) eq in_u) gone
          | inr above ↦ let (d, sd) = above in kept_over d u n sd in_u gone
        ]
  ]

  -- ---- each cell has its place

  same_range : (o c : CellSeen) → Replaces o c → SameRange (node_of c) (node_of o)
  same_range o c h = (
    level_is c ∙ (h.level ∙ sym (level_is o)),
    lo_is c ∙ (h.lo ∙ sym (lo_is o)),
    hi_is c ∙ (h.hi ∙ sym (hi_is o)),
  )

  none_over : (u : Step) → IsHighest t r is.part over None steps u → over ≡ None → (c : CellSeen) × (u.new ≡ c ∷ [])
  none_over u high e = let ends : Ends r (u ∷ []) None = subst (Ends r (u ∷ [])) e high.ends in ends

  -- no old cell is higher than the highest step
  most_level : (u : Step) → (a : Option Step) → Stands None steps a u → IsHighest t r is.part over None steps u
      → (j : ℕ) (d : Node Value) → p.old j ≡ Some d → d.level ≤ u.old.level
  most_level u a st high j d f = elim (old_at j d f) [
    | inl h ↦
        let (x, in_b, id, says) = h in
        let low = low_below x in_b in
        let dx = level_as d x says in
        let up = two a u st in
        omega (arith, low, dx, up)
    | inr h ↦
        let (c, v, sv, id, says) = h in
        let most = high.most c v sv in
        let dv = level_as d v.old says in
        omega (arith, most, dv)
  ]

  replaced : (i : ℕ) (c : Node Value) → p.old i ≡ Some c → ¬ (NamesId p.old i)
      → ((d : Node Value) × (p.new i ≡ Some d) × SameRange d c) ⊎
      (IsSome p.root × ((j : ℕ) (d : Node Value) → p.old j ≡ Some d → d.level ≤ c.level))
  replaced i c e unnamed = elim (old_at i c e) [
    | inl h ↦ let (x, in_b, id, says) = h in absurd (unnamed
        (name_of x, (s.old.id, node_of s.old, has_old None s lowest, is.step.goes x in_b), id))
    | inr h ↦ let (a, u, st, id, says) = h in step_replaced a u st id says
  ]
    where
      step_replaced : (a : Option Step) (u : Step) → Stands None steps a u → u.old.id ≡ i → c ≡ node_of u.old
          → ((d : Node Value) × (p.new i ≡ Some d) × SameRange d c) ⊎
          (IsSome p.root × ((j : ℕ) (d : Node Value) → p.old j ≡ Some d → d.level ≤ c.level))
      step_replaced a u st id says = elim (above_or_highest t r is.part over None steps a u is.path is.ends st) [
        | inl above ↦
            let (v, sv) = above in
            absurd (unnamed (name_of u.old, (v.old.id, node_of v.old, has_old (Some u) v sv, (sit (Some u) v sv).leads), id))
        | inr high ↦ elim (none_or_some over) [
          | inl bare ↦
              let (x, one) = none_over u high bare in
              let same = replaces u x (first a u st) (ranges a u st) one in
              inl (
                node_of x,
                subst (λ j. p.new j ≡ Some (node_of x)) (same.id ∙ id)
                    (of_step a u x st (subst (λ (cells : List CellSeen). Contains cells x) (sym one) (here x []))),
                subst
                    (λ (d : Node Value). SameRange (node_of x) d) (sym says) (same_range u.old x same),
              )
          | inr top_is ↦ inr (
            some_root over top_is.0 top_is.1,
            λ j d f.
                let most = most_level u a st high j d f in
                let cl = level_as c u.old says in
                omega (arith, most, cl),
          )
        ]
      ]

  -- the highest old cell is not named by an old one
  top_unnamed : (a : Option Step) (u : Step) → Stands None steps a u → IsHighest t r is.part over None steps u
      → NamesId p.old u.old.id → ⊥
  top_unnamed a u st high (n, (j, d, e, member), same) = elim (old_at j d e) [
    | inl h ↦ let (x, in_b, id, says) = h in old_low_names x n in_b (subst (λ (z : Node Value). Contains z.names n) says member)
    | inr h ↦
        let (c, v, sv, id, says) = h in
        let under = only_below t r is.part steps c a v u n is.path sv st
        (subst (λ (z : Node Value). Contains z.names n) says member) same in
        let lower = stands_higher c v sv under in
        let most = high.most c v sv in
        omega (arith, lower, most)
  ]
    where
      stands_higher : (c : Option Step) (v : Step) → Stands None steps c v → c ≡ Some u → u.old.level < v.old.level
      stands_higher c v sv e =
          let over_u : Stands None steps (Some u) v = subst (λ (z : Option Step). Stands None steps z v) e sv in
          let up = up_one t r is.part u v (sit (Some u) v over_u) (sit a u st).level in
          omega (arith, up)

  not_needed : (i : ℕ) (c : Node Value) (a : Option Step) (u : Step) (x : CellSeen) → NeedsName p i c → Stands None steps a u
      → IsHighest t r is.part over None steps u → u.old.id ≡ i → c ≡ node_of x → Replaces u.old x → ⊥
  not_needed i c a u x needs st high ui says same =
      let was : p.old i ≡ Some (node_of u.old) = subst (λ j. p.old j ≡ Some (node_of u.old)) ui (has_old a u st) in
      elim needs [
        | inl gone ↦ none-some (node_of u.old) (sym gone ∙ was)
        | inr others ↦ elim others [
          | inl name ↦ top_unnamed a u st high (subst (NamesId p.old) (sym ui) name)
          | inr other ↦
              let (o, is_o, differs) = other in
              let one : o ≡ node_of u.old = same_Some o (node_of u.old) (sym is_o ∙ was) in
              let range = same_range u.old x same in
              let alike : SameRange (node_of u.old) (node_of x) = (sym range.0, sym range.1, sym range.2) in
              differs (subst (λ (z : Node Value). SameRange z c) (sym one) (subst (SameRange (node_of u.old)) (sym says) alike))
        ]
      ]

  step_reached : (i : ℕ) (c : Node Value) (a : Option Step) (u : Step) (x : CellSeen) → NeedsName p i c → Stands None steps a u
      → Contains u.new x → x.id ≡ i → c ≡ node_of x → NamesId p.new i
  step_reached i c a u x needs st in_u id says = elim (above_or_highest t r is.part over None steps a u is.path is.ends st) [
    | inl above ↦
        let (v, sv) = above in
        let (y, in_v, in_y) = ((step_over u v sv).names (name_of x)).1 (inr (x, in_u, refl)) in
        (name_of x, (y.id, node_of y, of_step (Some u) v y sv in_v, in_y), id)
    | inr high ↦ elim (none_or_some over) [
      | inl bare ↦
          let (z, one) = none_over u high bare in
          let zx = one_cell u z x one in_u in
          let same = replaces u z (first a u st) (ranges a u st) one in
          let ui : u.old.id ≡ i = sym same.id ∙ (sym (ap (λ (v : CellSeen). v.id) zx) ∙ id) in
          absurd (not_needed i c a u x needs st high ui says (subst (Replaces u.old) (sym zx) same))
      | inr top_is ↦
          let (d, is_d) = top_is in (
            name_of x,
            (
              d.id,
              node_of d,
              has_new d (root_new d is_d),
              ((new_root_over u d high is_d).names (name_of x)).1 (x, in_u, refl),
            ),
            id,
          )
    ]
  ]

  reached : (i : ℕ) (c : Node Value) → p.new i ≡ Some c → NeedsName p i c
      → NamesId p.new i ⊎ ((q : Root) × (p.root ≡ Some q) × (q.id ≡ i))
  reached i c e needs =
      let (x, kind_x, id, says) = new_at i c e in
      elim kind_x [
        | inl in_b ↦
            let (y, in_s, in_y) = (is.step.names (name_of x)).1 (inr (x, in_b, refl)) in
            inl (name_of x, (y.id, node_of y, of_step None s y lowest in_s, in_y), id)
        | inr up ↦ elim up [
          | inl h ↦ let (a, u, st, in_u) = h in inl (step_reached i c a u x needs st in_u id says)
          | inr top_is ↦ inr (
            record { id = x.id; height = x.level },
            ap
                (λ (o : Option CellSeen). option_map root_of_pair (root_pair o)) top_is,
            id,
          )
        ]
      ]

  -- ---- leaves and extents

  spans_twig : (c : CellSeen) (v : Span) → IsNode (node_of c) → Contains (node_of c).spans v → c.level ≡ 2
  spans_twig c v ok member = sym (level_is c) ∙ ok.spans_in_twigs v member

  -- a step with an extent is the lowest
  twig_is_lowest : (a : Option Step) (u : Step) → Stands None steps a u → u.old.level ≡ 2 → u ≡ s
  twig_is_lowest a u st twig = elim (kind a u st) [
    | inl eq ↦ eq
    | inr above ↦ let (c, sc) = above in let high = three c u sc in absurd (omega (arith, high, twig))
  ]

  old_below : (k : ℕ) → CoversLeaf p.old k → CoversBelow (s.old ∷ []) b.old k
  old_below k (inl (i, c, e, cl, at)) = elim (old_at i c e) [
    | inl h ↦
        let (x, in_b, id, says) = h in
        inl (x, in_b, sym (level_as c x says) ∙ cl, subst (λ (d : Node Value). InNode d k) says at)
    | inr h ↦
        let (a, u, st, id, says) = h in
        let high = two a u st in
        let cu = level_as c u.old says in
        absurd (omega (arith, high, cu, cl))
  ]
  old_below k (inr (i, c, v, e, member, at)) = elim (old_at i c e) [
    | inl h ↦
        let (x, in_b, id, says) = h in
        let tx = is.gone x in_b in
        let low = low_below x in_b in
        let twig = spans_twig x v (is.part.nodes x.id (node_of x) tx)
        (subst (λ (d : Node Value). Contains d.spans v) says member) in
        absurd (omega (arith, twig, low))
    | inr h ↦
        let (a, u, st, id, says) = h in
        let in_u = subst (λ (d : Node Value). Contains d.spans v) says member in
        let eq = twig_is_lowest a u st (spans_twig u.old v (is.part.nodes u.old.id (node_of u.old) (sit a u st).there) in_u) in
        inr (v, (s.old, here s.old [], subst (λ (z : Step). Contains (node_of z.old).spans v) eq in_u), at)
  ]

  below_old : (k : ℕ) → CoversBelow (s.old ∷ []) b.old k → CoversLeaf p.old k
  below_old k (inl (x, in_b, leaf, at)) = inl (x.id, node_of x, has_low x in_b, level_is x ∙ leaf, at)
  below_old k (inr (v, (x, in_s, member), at)) = elim (cases s.old x [] in_s) [
    | inl eq ↦ inr (
      s.old.id,
      node_of s.old,
      v,
      has_old None s lowest,
      subst
          (λ (z : CellSeen). Contains (node_of z).spans v) eq member,
      at,
    )
    | inr none_is ↦ absurd (none x none_is)
  ]

  below_new : (k : ℕ) → CoversBelow s.new b.new k → CoversLeaf p.new k
  below_new k (inl (x, in_b, leaf, at)) = inl (x.id, node_of x, new_low x in_b, level_is x ∙ leaf, at)
  below_new k (inr (v, (x, in_s, member), at)) = inr (x.id, node_of x, v, of_step None s x lowest in_s, member, at)

  step_spans : (a : Option Step) (u : Step) (x : CellSeen) (v : Span) → Stands None steps a u → Contains u.new x
      → Contains (node_of x).spans v → AreSpanning s.new v
  step_spans a u x v st in_u member =
      let twig = spans_twig x v (node_step a u x st in_u) member in
      let eq = twig_is_lowest a u st (sym (piece a u x st in_u).level_as ∙ twig) in
      (x, subst (λ (z : Step). Contains z.new x) eq in_u, member)

  new_below : (k : ℕ) → CoversLeaf p.new k → CoversBelow s.new b.new k
  new_below k (inl (i, c, e, cl, at)) =
      let (x, kind_x, id, says) = new_at i c e in
      let cx = level_as c x says in
      elim kind_x [
        | inl in_b ↦ inl (x, in_b, sym cx ∙ cl, subst (λ (d : Node Value). InNode d k) says at)
        | inr up ↦ let high = up_high x up in absurd (omega (arith, high, cx, cl))
      ]
  new_below k (inr (i, c, v, e, member, at)) =
      let (x, kind_x, id, says) = new_at i c e in
      let in_x = subst (λ (d : Node Value). Contains d.spans v) says member in
      elim kind_x [
        | inl in_b ↦
            let low = low_come x in_b in
            let twig = spans_twig x v (node_low x in_b) in_x in
            absurd (omega (arith, twig, low))
        | inr up ↦ elim up [
          | inl h ↦ let (a, u, st, in_u) = h in inr (v, step_spans a u x v st in_u in_x, at)
          | inr top_is ↦
              let (a0, s0, st0, high) = highest t r is.part over None steps is.path is.ends in
              absurd ((new_root_over s0 x high top_is).spans v in_x)
        ]
      ]

  -- ---- the patch

  pub change_is : IsChange (b.old ++ olds (s ∷ more)) (b.new ++ news (s ∷ more) over) (root_pair over)
  change_is = record {
    old_names = have_names (b.old ++ olds steps) distinct_old;
    new_names = have_names (b.new ++ news steps over) distinct_all;
    patch = record {
      nodes = nodes;
      covers_old = covers_old;
      covers_new = covers_new;
      new_root = new_root;
      apart = apart;
      named = named;
      kept = kept;
      replaced = replaced;
      reached = reached;
      leaves_old = λ k h. below_new k ((is_covered k).0 (old_below k h));
      leaves_new = λ k h. below_old k ((is_covered k).1 (new_below k h));
    };
  }

  -- ---- the part meets it

  step_unused : (x : CellSeen) → Contains (news steps over) x → p.old x.id ≡ None → (t x.id ≡ None) × (NamesId t x.id → ⊥)
  step_unused x member gone = elim (id_from None steps over x firsts member) [
    | inl h ↦
        let (a, u, st, same) = h in
        absurd (none-some (node_of u.old) (sym gone ∙ subst (λ j. p.old j ≡ Some (node_of u.old)) (sym same) (has_old a u st)))
    | inr fresh ↦ is.numbers.unused x.id fresh
  ]

  low_unused : (x : CellSeen) → Contains b.new x → p.old x.id ≡ None → (t x.id ≡ None) × (NamesId t x.id → ⊥)
  low_unused x member gone = elim (is.numbers.each x member) [
    | inl again ↦
        let (o, in_o, same) = id_cell b.old x.id again in
        absurd (none-some (node_of o) (sym gone ∙ subst (λ j. p.old j ≡ Some (node_of o)) same (has_low o in_o)))
    | inr new ↦ new.0
  ]

  unused : (i : ℕ) (c : Node Value) → p.new i ≡ Some c → p.old i ≡ None → (t i ≡ None) × (NamesId t i → ⊥)
  unused i c e gone =
      let (x, member, id, says) = found (b.new ++ news steps over) i c e in
      let gone_x : p.old x.id ≡ None = subst (λ j. p.old j ≡ None) (sym id) gone in
      subst (λ j. (t j ≡ None) × (NamesId t j → ⊥)) id (elim (Contains-append_cases b.new (news steps over) x member) [
        | inl low ↦ low_unused x low gone_x
        | inr high ↦ step_unused x high gone_x
      ])

  old_there : (i : ℕ) (c : Node Value) → p.old i ≡ Some c → t i ≡ Some c
  old_there i c e = elim (old_at i c e) [
    | inl h ↦ let (x, in_b, id, says) = h in subst (λ j. t j ≡ Some c) id
        (subst (λ (d : Node Value). t x.id ≡ Some d) (sym says) (is.gone x in_b))
    | inr h ↦ let (a, u, st, id, says) = h in subst (λ j. t j ≡ Some c) id
        (subst (λ (d : Node Value). t u.old.id ≡ Some d) (sym says) (sit a u st).there)
  ]

  pub part_meets : MeetsPart p t r
  part_meets = record {
    meets = record {
      has_old = old_there;
      free = λ i c e gone. (unused i c e gone).0;
      root_old = λ some.
          let (c, top_is) = root_some over some in
          let (a0, s0, st0, high) = highest t r is.part over None steps is.path is.ends in (
            node_of s0.old,
            subst (λ j. p.old j ≡ Some (node_of s0.old)) (new_root_over s0 c high top_is).was (has_old a0 s0 st0),
          );
    };
    unnamed = λ i c e gone. (unused i c e gone).1;
  }
