-- The steps of a change along a path: each with the one below it.
use Rattle.std.proofs.Common.{◌≡◌, ◌⊎◌, inl, inr, ℕ, suc, ◌+◌, ◌<◌, ◌≤◌, List, [], ◌∷◌, ◌++◌, length, drop, refl, sym, ap}
use Rattle.std.proofs.Common.{subst, ◌∙◌, arith}
use Rattle.std.specs.Prelude.{Contains, Option, None, Some}
use Rattle.std.proofs.lemmas.List.Elements.{Contains-append_cases, Contains-append_left, Contains-append_right}
use Rattle.std.proofs.lemmas.List.{length-append}
use Rattle.std.proofs.lemmas.Option.{none-some, same_Some}
use Rattle.r4_base.specs.Tree.{Name, Node, Root, Store}
use Rattle.r4_base.specs.Value.{Value}
use Rattle.r4_patch.specs.r4_cell.Seen.{CellSeen, node_of}
use Rattle.r4_patch.specs.Joining.{ids_of}
use Rattle.r4_patch.specs.Part.{IsPart}
use Rattle.r4_patch.proofs.PartCells.{one_above}
use Rattle.r4_path.specs.Steps.{Ascends, Climbs, CountUp, Ends, IsFree, IsNamedBy, IsStep, Step, fresh_ids, name_of, news, olds}
use Rattle.r4_patch.proofs.Members.{Distinct, cases, distinct_append, here, later, none}
use Rattle.r4_path.proofs.Rising.{count_distinct, count_split, count_within, id_member, level_is}

-- the step stands in the list, with the one below it
abbrev pub Stands : (below : Option Step) → List Step → (b : Option Step) → Step → Type 0
Stands below [] b s = ⊥
Stands below (u ∷ us) b s = ((b ≡ below) × (s ≡ u)) ⊎ Stands (Some u) us b s

abbrev pub old_below : Option Step → Option CellSeen
old_below None = None
old_below (Some b) = Some b.old

pub some_step : (b u : Step) → Some b ≡ Some u → b ≡ u
some_step b u e = cc

-- ---- membership

pub old_stands : (below : Option Step) (steps : List Step) (x : CellSeen) → Contains (olds steps) x → (b : Option Step)
    × (s : Step) × Stands below steps b s × (x ≡ s.old)
old_stands below [] x at = absurd (none x at)
old_stands below (u ∷ us) x at = elim (cases u.old x (olds us) at) [
  | inl is ↦ (below, u, inl (refl, refl), is)
  | inr more ↦ let (b, s, st, is) = old_stands (Some u) us x more in (b, s, inr st, is)
]

pub stands_old : (below : Option Step) (steps : List Step) (b : Option Step) (s : Step) → Stands below steps b s
    → Contains (olds steps) s.old
stands_old below [] b s h = absurd h
stands_old below (u ∷ us) b s (inl (eb, es)) = subst (λ (v : Step). Contains (u.old ∷ olds us) v.old) (sym es)
    (here u.old (olds us))
stands_old below (u ∷ us) b s (inr h) = later u.old s.old (olds us) (stands_old (Some u) us b s h)

-- a new cell is of a step, or the new root
pub new_stands : (below : Option Step) (steps : List Step) (over : Option CellSeen) (x : CellSeen)
    → Contains (news steps over) x
    → ((b : Option Step) × (s : Step) × Stands below steps b s × Contains s.new x) ⊎ (over ≡ Some x)
new_stands below [] None x at = absurd (none x at)
new_stands below [] (Some c) x at = elim (cases c x [] at) [
  | inl is ↦ inr (ap Some (sym is))
  | inr more ↦ absurd (none x more)
]
new_stands below (u ∷ us) over x at = elim (Contains-append_cases u.new (news us over) x at) [
  | inl member ↦ inl (below, u, inl (refl, refl), member)
  | inr more ↦ elim (new_stands (Some u) us over x more) [
    | inl h ↦ let (b, s, st, is) = h in inl (b, s, inr st, is)
    | inr is ↦ inr is
  ]
]

pub stands_new : (below : Option Step) (steps : List Step) (over : Option CellSeen) (b : Option Step) (s : Step)
    (x : CellSeen) → Stands below steps b s → Contains s.new x → Contains (news steps over) x
stands_new below [] over b s x h at = absurd h
stands_new below (u ∷ us) over b s x (inl (eb, es)) at = Contains-append_left u.new (news us over) x
    (subst (λ (v : Step). Contains v.new x) es at)
stands_new below (u ∷ us) over b s x (inr h) at = Contains-append_right u.new (news us over) x
    (stands_new (Some u) us over b s x h at)

pub over_new : (steps : List Step) (c : CellSeen) → Contains (news steps (Some c)) c
over_new [] c = here c []
over_new (u ∷ us) c = Contains-append_right u.new (news us (Some c)) c (over_new us c)

-- ---- what holds of each step

pub stands_step : (below : Option Step) (steps : List Step) (b : Option Step) (s : Step) → Climbs below steps
    → Stands below steps b s → IsStep b s
stands_step below [] b s climbs h = absurd h
stands_step below (u ∷ us) b s (first, rest) (inl (eb, es)) = subst (λ (w : Option Step). IsStep w s) (sym eb)
    (subst (IsStep below) (sym es) first)
stands_step below (u ∷ us) b s (first, rest) (inr h) = stands_step (Some u) us b s rest h

pub record StandsIn (t : Store Value) (b : Option Step) (s : Step) : Type 0 where
  pub there : t s.old.id ≡ Some (node_of s.old)
  pub level : 1 ≤ s.old.level
  pub leads : IsNamedBy (old_below b) s.old

pub stands_in : (t : Store Value) (below : Option Step) (steps : List Step) (b : Option Step) (s : Step)
    → Ascends t (old_below below) (olds steps) → Stands below steps b s → StandsIn t b s
stands_in t below [] b s path h = absurd h
stands_in t below (u ∷ us) b s (at, level, leads, rest) (inl (eb, es)) = subst (λ (w : Option Step). StandsIn t w s) (sym eb)
    (subst (StandsIn t below) (sym es) (record { there = at; level = level; leads = leads }))
stands_in t below (u ∷ us) b s (at, level, leads, rest) (inr h) = stands_in t (Some u) us b s rest h

-- the one below it stands in the list too, or is the one below all
pub below_stands : (below : Option Step) (steps : List Step) (b s : Step) → Stands below steps (Some b) s → (below ≡ Some b)
    ⊎ ((a : Option Step) × Stands below steps a b)
below_stands below [] b s h = absurd h
below_stands below (u ∷ us) b s (inl (eb, es)) = inl (sym eb)
below_stands below (u ∷ us) b s (inr h) = elim (below_stands (Some u) us b s h) [
  | inl is ↦ inr (below, inl (refl, some_step b u (sym is)))
  | inr more ↦ let (a, st) = more in inr (a, inr st)
]

-- ---- levels

module _ (t : Store Value) (r : Root) (part : IsPart t r) where
  pub up_one : (b s : Step) → StandsIn t (Some b) s → 1 ≤ b.old.level → s.old.level ≡ suc b.old.level
  up_one b s h low = sym (level_is s.old)
      ∙ one_above (node_of s.old) (name_of b.old) (part.nodes s.old.id (node_of s.old) h.there) h.leads low

  -- a step is higher than the one below all
  rises : (u : Step) (steps : List Step) (b : Option Step) (s : Step) → 1 ≤ u.old.level → Ascends t (Some u.old) (olds steps)
      → Stands (Some u) steps b s → u.old.level < s.old.level
  rises u [] b s low path h = absurd h
  rises u (v ∷ vs) b s low (at, level, leads, rest) (inl (eb, es)) =
      let up = up_one u v (record { there = at; level = level; leads = leads }) low in
      let same = ap (λ (w : Step). w.old.level) es in
      omega (arith, up, same)
  rises u (v ∷ vs) b s low (at, level, leads, rest) (inr h) =
      let up = up_one u v (record { there = at; level = level; leads = leads }) low in
      let more = rises v vs b s level rest h in
      omega (arith, up, more)

  -- two steps of one level are one
  pub one_step : (below : Option Step) (steps : List Step) (b c : Option Step) (s u : Step)
      → Ascends t (old_below below) (olds steps) → Stands below steps b s → Stands below steps c u → s.old.level ≡ u.old.level
      → s ≡ u
  one_step below [] b c s u path hs hu same = absurd hs
  one_step below (v ∷ vs) b c s u (at, level, leads, rest) (inl (eb, es)) (inl (ec, eu)) same = es ∙ sym eu
  one_step below (v ∷ vs) b c s u (at, level, leads, rest) (inl (eb, es)) (inr hu) same =
      let up = rises v vs c u level rest hu in
      let level_as = ap (λ (w : Step). w.old.level) es in
      absurd (omega (arith, up, level_as, same))
  one_step below (v ∷ vs) b c s u (at, level, leads, rest) (inr hs) (inl (ec, eu)) same =
      let up = rises v vs b s level rest hs in
      let level_as = ap (λ (w : Step). w.old.level) eu in
      absurd (omega (arith, up, level_as, same))
  one_step below (v ∷ vs) b c s u (at, level, leads, rest) (inr hs) (inr hu) same = one_step (Some v) vs b c s u rest hs hu same

  -- the lowest step is no higher than any other
  not_none : (u : Step) (steps : List Step) (s : Step) → Stands (Some u) steps None s → ⊥
  not_none u [] s h = h
  not_none u (v ∷ vs) s (inl (eb, es)) = none-some u eb
  not_none u (v ∷ vs) s (inr h) = not_none v vs s h

  lowest : (below : Option Step) (steps : List Step) (s : Step) (c : Option Step) (u : Step) → below ≡ None
      → Ascends t (old_below below) (olds steps) → Stands below steps None s → Stands below steps c u
      → s.old.level ≤ u.old.level
  lowest below [] s c u none path hs hu = absurd hs
  lowest below (v ∷ vs) s c u none (at, level, leads, rest) (inl (eb, es)) (inl (ec, eu)) = let e = ap
      (λ (z : Step). z.old.level) (es ∙ sym eu) in omega (arith, e)
  lowest below (v ∷ vs) s c u none (at, level, leads, rest) (inl (eb, es)) (inr hu) =
      let up = rises v vs c u level rest hu in
      let level_as = ap (λ (z : Step). z.old.level) es in
      omega (arith, up, level_as)
  lowest below (v ∷ vs) s c u none path (inr hs) hu = absurd (not_none v vs s hs)

  -- ---- the highest step

  -- the change ends at this step, and none is higher
  pub record IsHighest (over : Option CellSeen) (below : Option Step) (steps : List Step) (s : Step) : Type 0 where
    pub ends : Ends r (s ∷ []) over
    pub most : (c : Option Step) (u : Step) → Stands below steps c u → u.old.level ≤ s.old.level

  still_highest : (over : Option CellSeen) (below : Option Step) (u : Step) (us : List Step) (b : Option Step) (s : Step)
      → 1 ≤ u.old.level → Ascends t (Some u.old) (olds us) → Stands (Some u) us b s → IsHighest over (Some u) us s
      → IsHighest over below (u ∷ us) s
  still_highest over below u us b s low path st high = record {
    ends = high.ends;
    most = λ c v h. elim h [
      | inl is ↦ let up = rises u us b s low path st in let level_as = ap (λ (z : Step). z.old.level) is.1 in
          omega (arith, up, level_as)
      | inr more ↦ high.most c v more
    ];
  }

  alone : (over : Option CellSeen) (below : Option Step) (u : Step) → Ends r (u ∷ []) over → IsHighest over below (u ∷ []) u
  alone over below u ends = record {
    ends = ends;
    most = λ c v h. elim h [
      | inl is ↦ let level_as = ap (λ (z : Step). z.old.level) is.1 in
          omega (arith, level_as)
      | inr more ↦ absurd more
    ];
  }

  pub highest : (over : Option CellSeen) (below : Option Step) (steps : List Step) → Ascends t (old_below below) (olds steps)
      → Ends r steps over → (b : Option Step) × (s : Step) × Stands below steps b s × IsHighest over below steps s
  highest over below [] path ends = absurd ends
  highest over below (u ∷ []) path ends = (below, u, inl (refl, refl), alone over below u ends)
  highest over below (u ∷ (v ∷ vs)) (at, level, leads, rest) ends =
      let (b, s, st, high) = highest over (Some u) (v ∷ vs) rest ends in
      (b, s, inr st, still_highest over below u (v ∷ vs) b s level rest st high)

  -- each step has one above it, or is the highest
  pub above_or_highest : (over : Option CellSeen) (below : Option Step) (steps : List Step) (b : Option Step) (s : Step)
      → Ascends t (old_below below) (olds steps) → Ends r steps over → Stands below steps b s
      → ((a : Step) × Stands below steps (Some s) a) ⊎ IsHighest over below steps s
  above_or_highest over below [] b s path ends h = absurd h
  above_or_highest over below (u ∷ []) b s path ends (inl (eb, es)) = inr
      (subst (λ (v : Step). IsHighest over below (u ∷ []) v) (sym es) (alone over below u ends))
  above_or_highest over below (u ∷ []) b s path ends (inr h) = absurd h
  above_or_highest over below (u ∷ (v ∷ vs)) b s path ends (inl (eb, es)) = inl (v, inr (inl (ap Some es, refl)))
  above_or_highest over below (u ∷ (v ∷ vs)) b s (at, level, leads, rest) ends (inr h) = elim
      (above_or_highest over (Some u) (v ∷ vs) b s rest ends h) [
        | inl more ↦ let (a, st) = more in inl (a, inr st)
        | inr high ↦ inr (still_highest over below u (v ∷ vs) b s level rest h high)
      ]

  -- ---- who names whom

  one_id : (b c : Option Step) (s u : Step) → StandsIn t b s → StandsIn t c u → s.old.id ≡ u.old.id → s.old.level ≡ u.old.level
  one_id b c s u hs hu same = sym (level_is s.old)
      ∙ (ap (λ (d : Node Value). d.level)
      (same_Some (node_of s.old) (node_of u.old) (sym (subst (λ i. t i ≡ Some (node_of s.old)) same hs.there) ∙ hu.there))
      ∙ level_is u.old)

  -- what an old cell names is no old cell but the one below
  pub only_below : (steps : List Step) (b c : Option Step) (s u : Step) (n : Name) → Ascends t None (olds steps)
      → Stands None steps b s → Stands None steps c u → Contains (node_of s.old).names n → n.id ≡ u.old.id → b ≡ Some u
  only_below steps b c s u n path hs hu member is =
      let sit = stands_in t None steps b s path hs in
      let down = stands_in t None steps c u path hu in
      let fits = part.named s.old.id (node_of s.old) (node_of u.old) n sit.there member
      (subst (λ i. t i ≡ Some (node_of u.old)) (sym is) down.there) in
      let same : u.old.level ≡ n.level = sym (level_is u.old) ∙ fits.level in
      let low : 1 ≤ n.level = subst (λ l. 1 ≤ l) same down.level in
      let up : s.old.level ≡ suc u.old.level = sym (level_is s.old)
      ∙ (one_above (node_of s.old) n (part.nodes s.old.id (node_of s.old) sit.there) member low ∙ ap suc (sym same)) in
      below_is b hs up
    where
      below_is : (b : Option Step) → Stands None steps b s → s.old.level ≡ suc u.old.level → b ≡ Some u
      below_is None hs up = let least = lowest None steps s c u refl path hs hu in absurd (omega (arith, least, up))
      below_is (Some w) hs up = elim (below_stands None steps w s hs) [
        | inl e ↦ absurd (none-some w e)
        | inr more ↦
            let (a, hw) = more in
            let next = up_one w s (stands_in t None steps (Some w) s path hs) (stands_in t None steps a w path hw).level in
            ap Some (one_step None steps a c w u path hw hu (omega (arith, next, up)))
      ]

  pub same_step : (steps : List Step) (b c : Option Step) (s u : Step) → Ascends t None (olds steps) → Stands None steps b s
      → Stands None steps c u → s.old.id ≡ u.old.id → s ≡ u
  same_step steps b c s u path hs hu same = one_step None steps b c s u path hs hu
      (one_id b c s u (stands_in t None steps b s path hs) (stands_in t None steps c u path hu) same)

  -- ---- no name twice

  pub distinct_olds : (below : Option Step) (steps : List Step) → Ascends t (old_below below) (olds steps)
      → Distinct (olds steps)
  distinct_olds below [] path = tt
  distinct_olds below (u ∷ us) (at, level, leads, rest) = (
    λ y member same.
        let (b, s, st, is) = old_stands (Some u) us y member in
        let up = rises u us b s level rest st in
        let equal = one_id None b u s (record { there = at; level = level; leads = tt }) (stands_in t (Some u) us b s rest st)
        (same ∙ ap (λ (c : CellSeen). c.id) is) in
        omega (arith, up, equal),
    distinct_olds (Some u) us rest,
  )

  taken : (from to : ℕ) (i : ℕ) (c : Node Value) → IsFree from to t → t i ≡ Some c → from ≤ i → i < to → ⊥
  taken from to i c free there low high = none-some c (sym (free.cells i low high) ∙ there)

  step_distinct : (from to : ℕ) (o : CellSeen) (cells : List CellSeen) → ids_of cells ≡ o.id ∷ ids_of (drop 1 cells) → t o.id
      ≡ Some (node_of o) → CountUp from (ids_of (drop 1 cells)) → from + length (ids_of (drop 1 cells)) ≤ to
      → IsFree from to t → Distinct cells
  step_distinct from to o [] first there counts within free = absurd cc
  step_distinct from to o (c ∷ cells) first there counts within free = (
    λ y member same.
        let w = count_within from (ids_of cells) y.id counts (id_member cells y member) in
        let head : c.id ≡ o.id = cc in
        taken from to y.id (node_of o) free (subst (λ i. t i ≡ Some (node_of o)) (sym head ∙ same) there) w.0
        (omega (arith, w, within)),
    count_distinct from cells counts,
  )

  -- the name of a new cell of a step
  pub step_id : (b : Option Step) (s : Step) (x : CellSeen) → IsStep b s → Contains s.new x → (x.id ≡ s.old.id)
      ⊎ Contains (ids_of (drop 1 s.new)) x.id
  step_id b s x step member = cases s.old.id x.id (ids_of (drop 1 s.new))
      (subst (λ ids. Contains ids x.id) step.first (id_member s.new x member))

-- ---- names

-- a new cell has the name of an old one of its steps, or a new name
pub new_id : (below : Option Step) (steps : List Step) (over : Option CellSeen) (x : CellSeen) → Climbs below steps
    → Contains (news steps over) x
    → ((b : Option Step) × (s : Step) × Stands below steps b s × (x.id ≡ s.old.id)) ⊎ Contains (fresh_ids steps over) x.id
new_id below [] None x climbs at = absurd (none x at)
new_id below [] (Some c) x climbs at = elim (cases c x [] at) [
  | inl is ↦ inr (subst (λ (z : CellSeen). Contains (c.id ∷ []) z.id) (sym is) (here c.id []))
  | inr more ↦ absurd (none x more)
]
new_id below (u ∷ us) over x (step, rest) at = elim (Contains-append_cases u.new (news us over) x at) [
  | inl member ↦ elim (cases u.old.id x.id (ids_of (drop 1 u.new))
      (subst (λ ids. Contains ids x.id) step.first (id_member u.new x member))) [
        | inl is ↦ inl (below, u, inl (refl, refl), is)
        | inr more ↦ inr (Contains-append_left (ids_of (drop 1 u.new)) (fresh_ids us over) x.id more)
      ]
  | inr more ↦ elim (new_id (Some u) us over x rest more) [
    | inl h ↦ let (b, s, st, is) = h in inl (b, s, inr st, is)
    | inr is ↦ inr (Contains-append_right (ids_of (drop 1 u.new)) (fresh_ids us over) x.id is)
  ]
]

module _ (t : Store Value) (r : Root) (part : IsPart t r) where
  pub distinct_news : (below : Option Step) (steps : List Step) (over : Option CellSeen) (n : ℕ)
      → Ascends t (old_below below) (olds steps) → Climbs below steps → CountUp n (fresh_ids steps over)
      → IsFree n (n + length (fresh_ids steps over)) t → Distinct (news steps over)
  distinct_news below [] None n path climbs counts free = tt
  distinct_news below [] (Some c) n path climbs counts free = (λ y member. absurd (none y member), tt)
  distinct_news below (u ∷ us) over n path climbs counts free =
      let (at, level, leads, rest) = path in
      let (step, more) = climbs in
      let here_ids = ids_of (drop 1 u.new) in
      let (mine, others) = count_split n here_ids (fresh_ids us over) counts in
      let long : length (here_ids ++ fresh_ids us over)
      ≡ length here_ids + length (fresh_ids us over) = length-append here_ids (fresh_ids us over) in
      let free_more : IsFree (n + length here_ids)
      (n + length here_ids + length (fresh_ids us over)) t = record {
        cells = λ i low high. free.cells i
            (omega (arith, low)) (omega (arith, high, long));
        names = λ i low high. free.names i (omega (arith, low))
            (omega (arith, high, long));
      } in
      distinct_append u.new (news us over)
      (step_distinct t r part n (n + length (here_ids ++ fresh_ids us over)) u.old u.new step.first at mine
      (omega (arith, long)) free)
      (distinct_news (Some u) us over (n + length here_ids) rest more others free_more)
      (λ x y in_x in_y same. elim (step_id t r part below u x step in_x) [
        | inl ex ↦ elim (new_id (Some u) us over y more in_y) [
          | inl h ↦
              let (b, s, st, ey) = h in
              (distinct_olds t r part below (u ∷ us) path).0 s.old (stands_old (Some u) us b s st) (sym ex ∙ (same ∙ ey))
          | inr h ↦
              let w = count_within (n + length here_ids) (fresh_ids us over) y.id others h in
              taken t r part n (n + length (here_ids ++ fresh_ids us over)) y.id (node_of u.old) free
              (subst (λ i. t i ≡ Some (node_of u.old)) (sym ex ∙ same) at) (omega (arith, w)) (omega (arith, w, long))
        ]
        | inr fx ↦ elim (new_id (Some u) us over y more in_y) [
          | inl h ↦
              let (b, s, st, ey) = h in
              let w = count_within n here_ids x.id mine fx in
              taken t r part n (n + length (here_ids ++ fresh_ids us over)) x.id (node_of s.old) free
              (subst (λ i. t i ≡ Some (node_of s.old)) (sym (same ∙ ey)) (stands_in t (Some u) us b s rest st).there)
              (omega (arith, w)) (omega (arith, w, long))
          | inr h ↦
              let w = count_within n here_ids x.id mine fx in
              let v = count_within (n + length here_ids) (fresh_ids us over) y.id others h in
              absurd (omega (arith, w, v, same))
        ]
      ])
