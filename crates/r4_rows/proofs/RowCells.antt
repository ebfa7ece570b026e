-- A change of rows, on lists of cells.
use Rattle.std.proofs.Common.{◌≡◌, ◌≢◌, ◌⊎◌, inl, inr, ℕ, suc, ◌<◌, ◌≤◌, List, [], ◌∷◌, ◌++◌, refl, sym, ap, subst, ◌∙◌}
use Rattle.std.proofs.Common.{arith}
use Rattle.std.specs.Prelude.{◌↔◌, Contains, Option, None, Some}
use Rattle.std.proofs.lemmas.List.Elements.{Contains-append_cases, Contains-append_left, Contains-append_right}
use Rattle.std.proofs.lemmas.Bool.{cases_eq, cases_lt}
use Rattle.std.proofs.lemmas.Option.{none-some, same_Some}
use Rattle.r4_base.specs.Tree.{InName, IsNode, Name, Root, Span, Store}
use Rattle.r4_base.specs.Value.{Value}
use Rattle.r4_cell.specs.Patch.{IsChange, patch_of}
use Rattle.r4_cell.specs.Seen.{CellSeen, node_of}
use Rattle.r4_patch.specs.Part.{MeetsPart}
use Rattle.r4_patch.proofs.PartCells.{in_namer, in_twig, named_once, one_above}
use Rattle.r4_path.specs.Steps.{AreNaming, Follow, IsNameOf, name_of, root_pair}
use Rattle.r4_patch.proofs.Members.{Distinct, cases, distinct_append, here, none}
use Rattle.r4_path.proofs.Rising.{InCell, Within, follow_apart, follow_covers, follow_within, in_cell, in_node}
use Rattle.r4_path.proofs.Rising.{level_is}
use Rattle.r4_patch.proofs.Members.{distinct}
use Rattle.r4_path.proofs.TwigBelow.{id_cell}
use Rattle.r4_rows.specs.Rows.{EndsRow, IsOver, IsRow, IsRowChange, KeepsSpans, Row, news_in, olds_in}
use Rattle.r4_rows.proofs.Flat.{EndsAt, Has, IsAlike, IsFlat, IsLowIn, IsRootAbove, flat_change, flat_meets}
use Rattle.r4_rows.proofs.Flat.{same_name}
use Rattle.r4_rows.proofs.Stacked.{Highest, InNew, InOld, Stands, above_or_last, at_least, below_is, head_is, highest}
use Rattle.r4_rows.proofs.Stacked.{in_new, in_old}
use Rattle.r4_rows.proofs.Stacked.{new_in, old_in, one_row, over_in, row_of, row_with, rows_distinct, same_level, under}

-- the one old cell of the highest row, and the new cell that is over all
pub record IsEnd (r : Root) (over : Option CellSeen) (v : Row) (high last : CellSeen) : Type 0 where
  pub was : v.old ≡ high ∷ []
  pub how : ((over ≡ None) × (v.new ≡ last ∷ []) × (last.id ≡ high.id)) ⊎ ((over ≡ Some last) × IsOver r v last)

pub end_of : (r : Root) (over : Option CellSeen) (v : Row) → EndsRow r v over → (high : CellSeen) × (last : CellSeen)
    × IsEnd r over v high last
end_of r None v ends = (ends.was, ends.is, record { was = ends.old; how = inl (refl, ends.new, ends.id) })
end_of r (Some c) v ends = (ends.was, c, record { was = ends.old; how = inr (refl, ends) })

pub only : (c x : CellSeen) (cells : List CellSeen) → cells ≡ c ∷ [] → Contains cells x → x ≡ c
only c x cells e at = elim (cases c x [] (subst (λ (xs : List CellSeen). Contains xs x) e at)) [
  | inl is ↦ is
  | inr more ↦ absurd (none x more)
]

pub is_only : (c : CellSeen) (cells : List CellSeen) → cells ≡ c ∷ [] → Contains cells c
is_only c cells e = subst (λ (xs : List CellSeen). Contains xs c) (sym e) (here c [])

head_same : (a b : CellSeen) (cells : List CellSeen) → cells ≡ a ∷ [] → cells ≡ b ∷ [] → a ≡ b
head_same a b cells e f = cc

pub low_no_names : (x : CellSeen) (n : Name) → IsNode (node_of x) → x.level ≤ 1 → Contains (node_of x).names n → ⊥
low_no_names x n ok low member =
    let l = level_is x in
    elim (ok.below n member) [ inl h ↦ omega (arith, h, l, low) | inr h ↦ omega (arith, h, l, low) ]

low_spans : (x : CellSeen) (v : Span) → IsNode (node_of x) → Contains (node_of x).spans v → x.level ≡ 2
low_spans x v ok member = sym (level_is x) ∙ ok.spans_in_twigs v member

find_id : (cells : List CellSeen) (i : ℕ) → ((x : CellSeen) × Contains cells x × (x.id ≡ i))
    ⊎ ((x : CellSeen) → Contains cells x → x.id ≢ i)
find_id [] i = inr (λ x at. absurd (none x at))
find_id (c ∷ cells) i = elim (cases_eq c.id i) [
  | inl same ↦ inl (c, here c cells, same)
  | inr other ↦ elim (find_id cells i) [
    | inl more ↦ let (x, mx, id) = more in inl (x, Contains-append_right (c ∷ []) cells x mx, id)
    | inr none_is ↦ inr (λ x at. elim (cases c x cells at) [
      | inl e ↦ λ same. other (sym (ap (λ (z : CellSeen). z.id) e) ∙ same)
      | inr more ↦ none_is x more
    ])
  ]
]

module _ (t : Store Value) (r : Root) (l : ℕ) (b s : Row) (more : List Row) (over : Option CellSeen)
    (is : IsRowChange t r l b s more over) where
  abbrev rows : List Row
  rows = s ∷ more

  abbrev old : List CellSeen
  old = b.old ++ olds_in (s ∷ more)

  abbrev new : List CellSeen
  new = b.new ++ news_in (s ∷ more) over

  pub row : (m : ℕ) (u v : Row) → Stands l b (s ∷ more) m u v → IsRow t m u v
  row m u v h = row_with t l b s more m u v is.lowest is.mounts h

  pub old_cases : (x : CellSeen) → Contains old x → Contains b.old x ⊎ InOld l b (s ∷ more) x
  old_cases x at = elim (Contains-append_cases b.old (olds_in (s ∷ more)) x at) [
    | inl low ↦ inl low
    | inr up ↦ inr (old_in l b (s ∷ more) x up)
  ]

  pub new_cases : (x : CellSeen) → Contains new x → Contains b.new x ⊎ (InNew l b (s ∷ more) x ⊎ (over ≡ Some x))
  new_cases x at = elim (Contains-append_cases b.new (news_in (s ∷ more) over) x at) [
    | inl low ↦ inl low
    | inr up ↦ inr (new_in l b (s ∷ more) over x up)
  ]

  pub low_in_old : (x : CellSeen) → Contains b.old x → Contains old x
  low_in_old x at = Contains-append_left b.old (olds_in (s ∷ more)) x at

  pub low_in_new : (x : CellSeen) → Contains b.new x → Contains new x
  low_in_new x at = Contains-append_left b.new (news_in (s ∷ more) over) x at

  pub row_in_old : (m : ℕ) (u v : Row) (x : CellSeen) → Stands l b (s ∷ more) m u v → Contains v.old x → Contains old x
  row_in_old m u v x h at = Contains-append_right b.old (olds_in (s ∷ more)) x (in_old l b (s ∷ more) m u v x h at)

  pub row_in_new : (m : ℕ) (u v : Row) (x : CellSeen) → Stands l b (s ∷ more) m u v → Contains v.new x → Contains new x
  row_in_new m u v x h at =
      Contains-append_right b.new (news_in (s ∷ more) over) x (in_new l b (s ∷ more) over m u v x h at)

  pub over_in_new : (x : CellSeen) → over ≡ Some x → Contains new x
  over_in_new x e = Contains-append_right b.new (news_in (s ∷ more) over) x (over_in (s ∷ more) over x e)

  -- what a row stands over
  below_old : (m : ℕ) (u v : Row) (x : CellSeen) → Stands l b (s ∷ more) m u v → Contains u.old x → Contains old x
  below_old m u v x h at = elim (under l b (s ∷ more) m u v h) [
    | inl e ↦ low_in_old x (subst (λ (z : Row). Contains z.old x) e at)
    | inr g ↦ let (n, w, st) = g in row_in_old n w u x st at
  ]

  below_new : (m : ℕ) (u v : Row) (x : CellSeen) → Stands l b (s ∷ more) m u v → Contains u.new x → Contains new x
  below_new m u v x h at = elim (under l b (s ∷ more) m u v h) [
    | inl e ↦ low_in_new x (subst (λ (z : Row). Contains z.new x) e at)
    | inr g ↦ let (n, w, st) = g in row_in_new n w u x st at
  ]

  there : (x : CellSeen) → Contains old x → t x.id ≡ Some (node_of x)
  there x at = elim (old_cases x at) [
    | inl low ↦ is.gone x low
    | inr up ↦ let (m, u, v, h, member) = up in (row m u v h).there x member
  ]

  pub old_node : (x : CellSeen) → Contains old x → IsNode (node_of x)
  old_node x at = is.part.nodes x.id (node_of x) (there x at)

  pub one_le : (m : ℕ) (u v : Row) → Stands l b (s ∷ more) m u v → 1 ≤ m
  one_le m u v h = let le = at_least l b (s ∷ more) m u v h in let one = is.branch in omega (arith, le, one)

  pub old_within : (m : ℕ) (u v : Row) (x : CellSeen) (h : Stands l b (s ∷ more) m u v) → Contains v.old x
      → Within m (row m u v h).from (row m u v h).to x
  old_within m u v x h at = follow_within m (row m u v h).from (row m u v h).to v.old x (row m u v h).were at

  pub new_within : (m : ℕ) (u v : Row) (x : CellSeen) (h : Stands l b (s ∷ more) m u v) → Contains v.new x
      → Within m (row m u v h).from (row m u v h).to x
  new_within m u v x h at = follow_within m (row m u v h).from (row m u v h).to v.new x (row m u v h).are at

  -- ---- where something goes or comes below, the lowest row is one of twigs

  is_two : (c x : CellSeen) → IsNode (node_of c) → Contains (node_of c).names (name_of x) → x.level ≤ 1 → c.level ≡ 2
  is_two c x ok member low =
      let cl = level_is c in
      elim (ok.below (name_of x) member) [
        | inl h ↦ omega (arith, h, cl, low)
        | inr h ↦ let two = h.0 in omega (arith, two, cl)
      ]

  pub lowest_in : Stands l b (s ∷ more) l b s
  lowest_in = inl (refl, refl, refl)

  two_old : (x : CellSeen) → Contains b.old x → l ≡ 2
  two_old x at =
      let (c, mc, member) = is.lowest.leads x at in
      let two = is_two c x (old_node c (row_in_old l b s c lowest_in mc)) member (is.low_old x at) in
      sym (old_within l b s c lowest_in mc).level_as ∙ two

  -- a new cell of the lowest row names it
  namer : (x : CellSeen) → Contains b.new x → AreNaming s.new (name_of x)
  namer x at = (is.lowest.names (name_of x)).1 (inr (x, at, refl))

  two_new : (x : CellSeen) → Contains b.new x → l ≡ 2
  two_new x at =
      let (c, mc, member) = namer x at in
      let two = is_two c x (is.nodes c (row_in_new l b s c lowest_in mc)) member (is.low_new x at) in
      sym (new_within l b s c lowest_in mc).level_as ∙ two

  -- ---- the highest row

  pub top_row : Highest r over l b (s ∷ more)
  top_row = highest r over l b s more is.ends

  is_top : (m : ℕ) (u v : Row) → Stands l b (s ∷ more) m u v
      → ((n : ℕ) (w z : Row) → Stands l b (s ∷ more) n w z → n ≤ m)
      → v ≡ top_row.row
  is_top m u v h most =
      let up = top_row.most m u v h in
      let down = most top_row.level top_row.below top_row.row top_row.stands in
      one_row l b (s ∷ more) m top_row.level u v top_row.below top_row.row (omega (arith, up, down)) h top_row.stands

  -- ---- no name twice

  pub distinct_old : Distinct old
  distinct_old = distinct_append b.old (olds_in (s ∷ more)) (distinct b.old is.old_names)
      (rows_distinct t l b (s ∷ more) row)
      (λ x y mx my same.
      let (m, u, v, h, in_v) = old_in l b (s ∷ more) y my in
      let level = same_level t x y (is.gone x mx) ((row m u v h).there y in_v) same in
      let ly = (old_within m u v y h in_v).level_as in
      let le = at_least l b (s ∷ more) m u v h in
      let low = is.low_old x mx in
      let two = two_old x mx in
      omega (arith, level, ly, le, low, two))

  -- ---- ranges

  covers_old : (n k : ℕ) → 2 ≤ n → Has old n k → Has new n k
  covers_old n k two (x, mx, xl, at) = elim (old_cases x mx) [
    | inl low ↦ let le = is.low_old x low in absurd (omega (arith, le, xl, two))
    | inr up ↦
        let (m, u, v, h, member) = up in
        let w = old_within m u v x h member in
        let from = w.from in
        let to = w.to in
        let (y, my, in_y) = follow_covers m (row m u v h).from (row m u v h).to v.new k (row m u v h).are
        (omega (arith, from, at)) (omega (arith, to, at)) in
        (y, row_in_new m u v y h my, (new_within m u v y h my).level_as ∙ (sym w.level_as ∙ xl), in_y)
  ]

  -- ---- names

  lift_naming_old : (m : ℕ) (u v : Row) (n : Name) → Stands l b (s ∷ more) m u v → AreNaming v.old n → AreNaming old n
  lift_naming_old m u v n h (x, mx, member) = (x, row_in_old m u v x h mx, member)

  lift_naming_new : (m : ℕ) (u v : Row) (n : Name) → Stands l b (s ∷ more) m u v → AreNaming v.new n → AreNaming new n
  lift_naming_new m u v n h (x, mx, member) = (x, row_in_new m u v x h mx, member)

  -- what a row named and is no old cell below it is no old cell
  not_old : (m : ℕ) (u v : Row) (n : Name) → Stands l b (s ∷ more) m u v → AreNaming v.old n → (IsNameOf u.old n → ⊥)
      → IsNameOf old n → ⊥
  not_old m u v n h (z, mz, zn) other (y, my, e) =
      let z_in = row_in_old m u v z h mz in
      let zl = (old_within m u v z h mz).level_as in
      elim (old_cases y my) [
        | inl low ↦
            let (c, mc, cn) = is.lowest.leads y low in
            let c_in = row_in_old l b s c lowest_in mc in
            let same = (named_once t r is.part z.id c.id y.id (node_of z) (node_of c) (node_of y) n (name_of y)
            (there z z_in)
            (there c c_in) zn cn (there y my) (ap (λ (q : Name). q.id) e) refl).0 in
            let level = same_level t z c (there z z_in) (there c c_in) same in
            let cl = (old_within l b s c lowest_in mc).level_as in
            let u_is = (head_is l b s more m u v (omega (arith, level, cl, zl)) h).0 in
            other (y, subst (λ (q : Row). Contains q.old y) (sym u_is) low, e)
        | inr up ↦
            let (k, w, q, g, in_q) = up in
            let yl = (old_within k w q y g in_q).level_as in
            let one = one_le k w q g in
            let nl : n.level ≡ y.level = ap (λ (x : Name). x.level) e in
            let above = one_above (node_of z) n (old_node z z_in) zn (omega (arith, nl, yl, one)) in
            let zz = level_is z in
            let u_is = below_is l b (s ∷ more) m k u v w q (omega (arith, above, zz, zl, nl, yl)) h g in
            other (y, subst (λ (x : Row). Contains x.old y) (sym u_is) in_q, e)
      ]

  kept : (n : Name) → AreNaming old n → (IsNameOf old n → ⊥) → AreNaming new n
  kept n (x, mx, member) other = elim (old_cases x mx) [
    | inl low ↦ absurd (low_no_names x n (old_node x mx) (is.low_old x low) member)
    | inr up ↦
        let (m, u, v, h, in_v) = up in
        lift_naming_new m u v n h (((row m u v h).names n).1
        (inl ((x, in_v, member), λ g. let (y, my, e) = g in other (y, below_old m u v y h my, e))))
  ]

  under_old : (high : CellSeen) → top_row.row.old ≡ high ∷ [] → (x : CellSeen) → Contains old x
      → (x ≡ high) ⊎ AreNaming old (name_of x)
  under_old high e x at = elim (old_cases x at) [
    | inl low ↦ inr (lift_naming_old l b s (name_of x) lowest_in (is.lowest.leads x low))
    | inr up ↦
        let (m, u, v, h, in_v) = up in
        elim (above_or_last l b (s ∷ more) m u v h) [
          | inl above ↦
              let (w, g) = above in
              inr (lift_naming_old (suc m) v w (name_of x) g ((row (suc m) v w g).leads x in_v))
          | inr most ↦ inl (only high x top_row.row.old e
              (subst (λ (z : Row). Contains z.old x) (is_top m u v h most) in_v))
        ]
  ]

  -- ---- the keys of leaves and extents: those of the range that lie under no pointer that stays

  abbrev StaysNamed : Name → Type 0
  StaysNamed n = AreNaming s.old n × (IsNameOf b.old n → ⊥) × (n.level ≡ 1)

  abbrev IsBare : ℕ → Type 0
  IsBare k = (is.lowest.from ≤ k) × (k < is.lowest.to) × ((n : Name) → StaysNamed n → InName n k → ⊥)

  lowest_old : (x : CellSeen) → Contains s.old x → Within l is.lowest.from is.lowest.to x
  lowest_old x at = follow_within l is.lowest.from is.lowest.to s.old x is.lowest.were at

  lowest_new : (x : CellSeen) → Contains s.new x → Within l is.lowest.from is.lowest.to x
  lowest_new x at = follow_within l is.lowest.from is.lowest.to s.new x is.lowest.are at

  twig_old : (c : CellSeen) → Contains s.old c → IsNode (node_of c)
  twig_old c at = old_node c (row_in_old l b s c lowest_in at)

  twig_new : (c : CellSeen) → Contains s.new c → IsNode (node_of c)
  twig_new c at = is.nodes c (row_in_new l b s c lowest_in at)

  -- a name that stays is not that of a new cell
  stays_old : (n : Name) → StaysNamed n → IsNameOf b.new n → ⊥
  stays_old n ((c, mc, cn), other, one) (x, mx, e) =
      let id = ap (λ (q : Name). q.id) e in
      let tc = there c (row_in_old l b s c lowest_in mc) in
      elim (is.each x (low_in_new x mx)) [
        | inl again ↦
            let (y, my, same) = id_cell old x.id again in
            let fits = is.part.named c.id (node_of c) (node_of y) n tc cn
            (subst (λ i. t i ≡ Some (node_of y)) (same ∙ sym id) (there y my)) in
            let says = same_name n y (id ∙ sym same) fits in
            elim (old_cases y my) [
              | inl low ↦ other (y, low, says)
              | inr up ↦
                  let (m, u, v, h, in_v) = up in
                  let yl = (old_within m u v y h in_v).level_as in
                  let le = at_least l b (s ∷ more) m u v h in
                  let two = two_new x mx in
                  let nl = ap (λ (q : Name). q.level) says in
                  omega (arith, yl, le, two, nl, one)
            ]
        | inr unused ↦ unused.1 (n, (c.id, node_of c, tc, cn), id)
      ]

  low_bare_old : l ≡ 2 → (k : ℕ) → IsLowIn (b.old ++ s.old) k → IsBare k
  low_bare_old two k (inl (x, mx, one, at)) = elim (Contains-append_cases b.old s.old x mx) [
    | inl low ↦
        let (c, mc, cx) = is.lowest.leads x low in
        let at_x = in_cell x k at in
        let in_c = in_cell c k (in_namer (node_of c) (name_of x) k (twig_old c mc) cx at_x) in
        let w = lowest_old c mc in
        let from = w.from in
        let to = w.to in (
          omega (arith, from, in_c),
          omega (arith, to, in_c),
          λ n stays in_n.
              let ((d, md, dn), other, n_one) = stays in
              let in_d = in_cell d k (in_namer (node_of d) n k (twig_old d md) dn in_n) in
              let same = follow_apart l is.lowest.from is.lowest.to s.old c d k is.lowest.were mc md in_c in_d in
              let says = (twig_old d md).names_apart (name_of x) n k
              (subst (λ (z : CellSeen). Contains (node_of z).names (name_of x)) same cx) dn
              (one ∙ sym n_one) at_x in_n in
              other (x, low, sym says),
        )
    | inr up ↦
        let xl = (lowest_old x up).level_as in
        absurd (omega (arith, xl, two, one))
  ]
  low_bare_old two k (inr (p, (x, mx, member), at)) = elim (Contains-append_cases b.old s.old x mx) [
    | inl low ↦
        let xl = low_spans x p (old_node x (low_in_old x low)) member in
        let le = is.low_old x low in
        absurd (omega (arith, xl, le))
    | inr up ↦
        let ok = twig_old x up in
        let in_x = in_cell x k (in_twig (node_of x) p k ok member at) in
        let w = lowest_old x up in
        let from = w.from in
        let to = w.to in (
          omega (arith, from, in_x),
          omega (arith, to, in_x),
          λ n stays in_n.
              let ((d, md, dn), other, n_one) = stays in
              let in_d = in_cell d k (in_namer (node_of d) n k (twig_old d md) dn in_n) in
              let same = follow_apart l is.lowest.from is.lowest.to s.old d x k is.lowest.were md up in_d in_x in
              let block = ok.spans_apart n p k
              (subst (λ (z : CellSeen). Contains (node_of z).names n) same dn) member in_n at in
              omega (arith, block, n_one),
        )
  ]

  low_bare_new : l ≡ 2 → (k : ℕ) → IsLowIn (b.new ++ s.new) k → IsBare k
  low_bare_new two k (inl (x, mx, one, at)) = elim (Contains-append_cases b.new s.new x mx) [
    | inl low ↦
        let (c, mc, cx) = namer x low in
        let at_x = in_cell x k at in
        let in_c = in_cell c k (in_namer (node_of c) (name_of x) k (twig_new c mc) cx at_x) in
        let w = lowest_new c mc in
        let from = w.from in
        let to = w.to in (
          omega (arith, from, in_c),
          omega (arith, to, in_c),
          λ n stays in_n.
              let (d, md, dn) = (is.lowest.names n).1 (inl (stays.0, stays.1)) in
              let in_d = in_cell d k (in_namer (node_of d) n k (twig_new d md) dn in_n) in
              let same = follow_apart l is.lowest.from is.lowest.to s.new c d k is.lowest.are mc md in_c in_d in
              let says = (twig_new d md).names_apart (name_of x) n k
              (subst (λ (z : CellSeen). Contains (node_of z).names (name_of x)) same cx) dn
              (one ∙ sym stays.2) at_x in_n in
              stays_old n stays (x, low, sym says),
        )
    | inr up ↦
        let xl = (lowest_new x up).level_as in
        absurd (omega (arith, xl, two, one))
  ]
  low_bare_new two k (inr (p, (x, mx, member), at)) = elim (Contains-append_cases b.new s.new x mx) [
    | inl low ↦
        let xl = low_spans x p (is.nodes x (low_in_new x low)) member in
        let le = is.low_new x low in
        absurd (omega (arith, xl, le))
    | inr up ↦
        let ok = twig_new x up in
        let in_x = in_cell x k (in_twig (node_of x) p k ok member at) in
        let w = lowest_new x up in
        let from = w.from in
        let to = w.to in (
          omega (arith, from, in_x),
          omega (arith, to, in_x),
          λ n stays in_n.
              let (d, md, dn) = (is.lowest.names n).1 (inl (stays.0, stays.1)) in
              let n_one = stays.2 in
              let in_d = in_cell d k (in_namer (node_of d) n k (twig_new d md) dn in_n) in
              let same = follow_apart l is.lowest.from is.lowest.to s.new d x k is.lowest.are md up in_d in_x in
              let block = ok.spans_apart n p k
              (subst (λ (z : CellSeen). Contains (node_of z).names n) same dn) member in_n at in
              omega (arith, block, n_one),
        )
  ]

  bare_low_old : l ≡ 2 → (k : ℕ) → IsBare k → IsLowIn (b.old ++ s.old) k
  bare_low_old two k (from, to, bare) =
      let (c, mc, in_c) = follow_covers l is.lowest.from is.lowest.to s.old k is.lowest.were from to in
      let ok = twig_old c mc in
      let cl = (lowest_old c mc).level_as in
      let ll = level_is c in
      elim (ok.covered k (omega (arith, cl, ll, two)) (in_node c k in_c)) [
        | inl h ↦
            let (n, cn, up, at) = h in
            elim (find_id b.old n.id) [
              | inl is_old ↦
                  let (x, mx, id) = is_old in
                  let fits = is.part.named c.id (node_of c) (node_of x) n (there c (row_in_old l b s c lowest_in mc)) cn
                  (subst (λ i. t i ≡ Some (node_of x)) id (is.gone x mx)) in
                  let lo = fits.lo in
                  let hi = fits.hi in
                  let fl = fits.level in
                  let xl = level_is x in
                  inl (
                    x,
                    Contains-append_left b.old s.old x mx,
                    omega (arith, fl, xl, up, cl, ll, two),
                    (omega (arith, lo, at), omega (arith, hi, at)),
                  )
              | inr other ↦ absurd (bare n (
                (c, mc, cn),
                λ g. let (x, mx, e) = g in other x mx (sym (ap (λ (q : Name). q.id) e)),
                omega (arith, up, cl, ll, two),
              )
                  at)
            ]
        | inr h ↦ let (p, cp, at) = h in inr (p, (c, Contains-append_right b.old s.old c mc, cp), at)
      ]

  bare_low_new : l ≡ 2 → (k : ℕ) → IsBare k → IsLowIn (b.new ++ s.new) k
  bare_low_new two k (from, to, bare) =
      let (c, mc, in_c) = follow_covers l is.lowest.from is.lowest.to s.new k is.lowest.are from to in
      let ok = twig_new c mc in
      let cl = (lowest_new c mc).level_as in
      let ll = level_is c in
      elim (ok.covered k (omega (arith, cl, ll, two)) (in_node c k in_c)) [
        | inl h ↦
            let (n, cn, up, at) = h in
            elim ((is.lowest.names n).0 (c, mc, cn)) [
              | inl stays ↦ absurd (bare n (stays.0, stays.1, omega (arith, up, cl, ll, two)) at)
              | inr comes ↦
                  let (x, mx, e) = comes in
                  let nl = ap (λ (q : Name). q.level) e in
                  let lo = ap (λ (q : Name). q.lo) e in
                  let hi = ap (λ (q : Name). q.hi) e in
                  inl (
                    x,
                    Contains-append_left b.new s.new x mx,
                    omega (arith, nl, up, cl, ll, two),
                    in_node x k (omega (arith, lo, at), omega (arith, hi, at)),
                  )
            ]
        | inr h ↦ let (p, cp, at) = h in inr (p, (c, Contains-append_right b.new s.new c mc, cp), at)
      ]

  -- leaves alone
  leaf_covered_old : l ≡ 1 → (k : ℕ) → IsLowIn (b.old ++ s.old) k → IsLowIn (b.new ++ s.new) k
  leaf_covered_old one k (inl (x, mx, xl, at)) = elim (Contains-append_cases b.old s.old x mx) [
    | inl low ↦ let two = two_old x low in absurd (omega (arith, one, two))
    | inr up ↦
        let w = lowest_old x up in
        let from = w.from in
        let to = w.to in
        let inside = in_cell x k at in
        let (y, my, in_y) = follow_covers l is.lowest.from is.lowest.to s.new k is.lowest.are
        (omega (arith, from, inside))
        (omega (arith, to, inside)) in
        inl (
          y,
          Contains-append_right b.new s.new y my,
          (lowest_new y my).level_as ∙ one,
          in_node y k in_y,
        )
  ]
  leaf_covered_old one k (inr (p, (x, mx, member), at)) = elim (Contains-append_cases b.old s.old x mx) [
    | inl low ↦ let two = two_old x low in absurd (omega (arith, one, two))
    | inr up ↦
        let xl = low_spans x p (twig_old x up) member in
        let w = (lowest_old x up).level_as in
        absurd (omega (arith, xl, w, one))
  ]

  leaf_covered_new : l ≡ 1 → (k : ℕ) → IsLowIn (b.new ++ s.new) k → IsLowIn (b.old ++ s.old) k
  leaf_covered_new one k (inl (x, mx, xl, at)) = elim (Contains-append_cases b.new s.new x mx) [
    | inl low ↦ let two = two_new x low in absurd (omega (arith, one, two))
    | inr up ↦
        let w = lowest_new x up in
        let from = w.from in
        let to = w.to in
        let inside = in_cell x k at in
        let (y, my, in_y) = follow_covers l is.lowest.from is.lowest.to s.old k is.lowest.were
        (omega (arith, from, inside))
        (omega (arith, to, inside)) in
        inl (
          y,
          Contains-append_right b.old s.old y my,
          (lowest_old y my).level_as ∙ one,
          in_node y k in_y,
        )
  ]
  leaf_covered_new one k (inr (p, (x, mx, member), at)) = elim (Contains-append_cases b.new s.new x mx) [
    | inl low ↦ let two = two_new x low in absurd (omega (arith, one, two))
    | inr up ↦
        let xl = low_spans x p (twig_new x up) member in
        let w = (lowest_new x up).level_as in
        absurd (omega (arith, xl, w, one))
  ]

  -- above the twigs there is none
  high_covered_old : 3 ≤ l → (k : ℕ) → IsLowIn (b.old ++ s.old) k → ⊥
  high_covered_old high k (inl (x, mx, xl, at)) = elim (Contains-append_cases b.old s.old x mx) [
    | inl low ↦ let two = two_old x low in omega (arith, high, two)
    | inr up ↦ let w = (lowest_old x up).level_as in omega (arith, w, xl, high)
  ]
  high_covered_old high k (inr (p, (x, mx, member), at)) = elim (Contains-append_cases b.old s.old x mx) [
    | inl low ↦ let two = two_old x low in omega (arith, high, two)
    | inr up ↦
        let xl = low_spans x p (twig_old x up) member in
        let w = (lowest_old x up).level_as in
        omega (arith, xl, w, high)
  ]

  high_covered_new : 3 ≤ l → (k : ℕ) → IsLowIn (b.new ++ s.new) k → ⊥
  high_covered_new high k (inl (x, mx, xl, at)) = elim (Contains-append_cases b.new s.new x mx) [
    | inl low ↦ let two = two_new x low in omega (arith, high, two)
    | inr up ↦ let w = (lowest_new x up).level_as in omega (arith, w, xl, high)
  ]
  high_covered_new high k (inr (p, (x, mx, member), at)) = elim (Contains-append_cases b.new s.new x mx) [
    | inl low ↦ let two = two_new x low in omega (arith, high, two)
    | inr up ↦
        let xl = low_spans x p (twig_new x up) member in
        let w = (lowest_new x up).level_as in
        omega (arith, xl, w, high)
  ]

  covered : (k : ℕ) → IsLowIn (b.old ++ s.old) k ↔ IsLowIn (b.new ++ s.new) k
  covered k = elim (cases_lt l 2) [
    | inl less ↦
        let one = is.branch in
        let e : l ≡ 1 = omega (arith, less, one) in
        (leaf_covered_old e k, leaf_covered_new e k)
    | inr more_than ↦ elim (cases_lt l 3) [
      | inl less ↦
          let e : l ≡ 2 = omega (arith, less, more_than) in (
            λ h. bare_low_new e k (low_bare_old e k h),
            λ h. bare_low_old e k (low_bare_new e k h),
          )
      | inr high ↦ (λ h. absurd (high_covered_old high k h), λ h. absurd (high_covered_new high k h))
    ]
  ]

  -- ---- leaves

  -- a row of leaves, or one with extents, is the lowest or keeps its extents
  spans_kept : (m : ℕ) (u v : Row) → Stands l b (s ∷ more) m u v → (v ≡ s) ⊎ KeepsSpans v
  spans_kept m u v (inl (em, eu, ev)) = inl ev
  spans_kept m u v (inr h) = elim (cases_lt m 3) [
    | inl less ↦
        let le = at_least (suc l) s more m u v h in
        let one = is.branch in
        inr ((row_of t (suc l) s more m u v is.mounts h).1 (omega (arith, less, le, one)))
    | inr high ↦ inr (λ p. (
      λ g.
          let (x, mx, member) = g in
          let xl = low_spans x p (is.nodes x (row_in_new m u v x (inr h) mx)) member in
          let w = (new_within m u v x (inr h) mx).level_as in
          absurd (omega (arith, xl, w, high)),
      λ g.
          let (x, mx, member) = g in
          let xl = low_spans x p (old_node x (row_in_old m u v x (inr h) mx)) member in
          let w = (old_within m u v x (inr h) mx).level_as in
          absurd (omega (arith, xl, w, high)),
    ))
  ]

  is_lowest : (m : ℕ) (u v : Row) → Stands l b (s ∷ more) m u v → m ≡ 1 → v ≡ s
  is_lowest m u v h e =
      let le = at_least l b (s ∷ more) m u v h in
      let one = is.branch in
      (head_is l b s more m u v (omega (arith, le, one, e)) h).1

  pub low_up_old : (x : CellSeen) → Contains (b.old ++ s.old) x → Contains old x
  low_up_old x at = elim (Contains-append_cases b.old s.old x at) [
    | inl low ↦ low_in_old x low
    | inr up ↦ row_in_old l b s x lowest_in up
  ]

  pub low_up_new : (x : CellSeen) → Contains (b.new ++ s.new) x → Contains new x
  low_up_new x at = elim (Contains-append_cases b.new s.new x at) [
    | inl low ↦ low_in_new x low
    | inr up ↦ row_in_new l b s x lowest_in up
  ]

  lift_low_old : (k : ℕ) → IsLowIn (b.old ++ s.old) k → IsLowIn old k
  lift_low_old k (inl (x, mx, one, at)) = inl (x, low_up_old x mx, one, at)
  lift_low_old k (inr (v, (x, mx, member), at)) = inr (v, (x, low_up_old x mx, member), at)

  lift_low_new : (k : ℕ) → IsLowIn (b.new ++ s.new) k → IsLowIn new k
  lift_low_new k (inl (x, mx, one, at)) = inl (x, low_up_new x mx, one, at)
  lift_low_new k (inr (v, (x, mx, member), at)) = inr (v, (x, low_up_new x mx, member), at)

  leaves_old : (k : ℕ) → IsLowIn old k → IsLowIn new k
  leaves_old k (inl (x, mx, one, at)) = elim (old_cases x mx) [
    | inl low ↦ lift_low_new k ((covered k).0 (inl (x, Contains-append_left b.old s.old x low, one, at)))
    | inr up ↦
        let (m, u, v, h, in_v) = up in
        let v_is = is_lowest m u v h (sym (old_within m u v x h in_v).level_as ∙ one) in
        lift_low_new k ((covered k).0
        (inl (x, Contains-append_right b.old s.old x (subst (λ (z : Row). Contains z.old x) v_is in_v), one, at)))
  ]
  leaves_old k (inr (p, (x, mx, member), at)) = elim (old_cases x mx) [
    | inl low ↦ lift_low_new k ((covered k).0 (inr (p, (x, Contains-append_left b.old s.old x low, member), at)))
    | inr up ↦
        let (m, u, v, h, in_v) = up in
        elim (spans_kept m u v h) [
          | inl v_is ↦ lift_low_new k ((covered k).0
              (inr (
                p,
                (
                  x,
                  Contains-append_right b.old s.old x (subst (λ (z : Row). Contains z.old x) v_is in_v),
                  member,
                ),
                at,
              )))
          | inr keeps ↦
              let (y, my, in_y) = (keeps p).1 (x, in_v, member) in
              inr (p, (y, row_in_new m u v y h my, in_y), at)
        ]
  ]

  -- ---- with the ends

  module _ (high last : CellSeen) (end : IsEnd r over top_row.row high last) where
    high_in : Contains old high
    high_in = row_in_old top_row.level top_row.below top_row.row high top_row.stands
        (is_only high top_row.row.old end.was)

    high_level : high.level ≡ top_row.level
    high_level = (old_within top_row.level top_row.below top_row.row high top_row.stands
        (is_only high top_row.row.old end.was)).level_as

    pub over_is : (x : CellSeen) → over ≡ Some x → (x ≡ last) × IsOver r top_row.row last
    over_is x e = elim end.how [
      | inl h ↦ absurd (none-some x (sym h.0 ∙ e))
      | inr h ↦ (same_Some x last (sym e ∙ h.0), h.1)
    ]

    pub over_level : IsOver r top_row.row last → last.level ≡ suc top_row.level
    over_level h = h.level
        ∙ ap suc (ap (λ (x : CellSeen). x.level) (head_same h.was high top_row.row.old h.old end.was) ∙ high_level)

    last_in : Contains new last
    last_in = elim end.how [
      | inl h ↦ row_in_new top_row.level top_row.below top_row.row last top_row.stands
          (is_only last top_row.row.new h.1)
      | inr h ↦ over_in_new last h.0
    ]

    -- a new cell is below, or has the level of a row, or is over all
    covers_new : (n k : ℕ) → 2 ≤ n → Has new n k → Has old n k ⊎ ((over ≡ Some last) × (n ≡ last.level))
    covers_new n k two (x, mx, xl, at) = elim (new_cases x mx) [
      | inl low ↦ let le = is.low_new x low in absurd (omega (arith, le, xl, two))
      | inr up ↦ elim up [
        | inl g ↦
            let (m, u, v, h, member) = g in
            let w = new_within m u v x h member in
            let from = w.from in
            let to = w.to in
            let (y, my, in_y) = follow_covers m (row m u v h).from (row m u v h).to v.old k (row m u v h).were
            (omega (arith, from, at)) (omega (arith, to, at)) in
            inl (y, row_in_old m u v y h my, (old_within m u v y h my).level_as ∙ (sym w.level_as ∙ xl), in_y)
        | inr e ↦
            let same = (over_is x e).0 in
            inr (e ∙ ap Some same, sym xl ∙ ap (λ (y : CellSeen). y.level) same)
      ]
    ]

    -- two new leaves below that have a key in common have one name
    low_apart : (x y : CellSeen) (k : ℕ) → Contains b.new x → Contains b.new y → x.level ≡ y.level → InCell x k
        → InCell y k
        → x.id ≡ y.id
    low_apart x y k mx my same at_x at_y =
        let (c, mc, cx) = namer x mx in
        let (d, md, dy) = namer y my in
        let ic = is.nodes c (row_in_new l b s c lowest_in mc) in
        let id = is.nodes d (row_in_new l b s d lowest_in md) in
        let in_c = in_cell c k (in_namer (node_of c) (name_of x) k ic cx at_x) in
        let in_d = in_cell d k (in_namer (node_of d) (name_of y) k id dy at_y) in
        let one = follow_apart l is.lowest.from is.lowest.to s.new c d k is.lowest.are mc md in_c in_d in
        ap (λ (n : Name). n.id) (id.names_apart (name_of x) (name_of y) k
        (subst (λ (z : CellSeen). Contains (node_of z).names (name_of x)) one cx) dy same at_x at_y)

    low_up : (x y : CellSeen) → Contains b.new x → InNew l b (s ∷ more) y ⊎ (over ≡ Some y) → x.level < y.level
    low_up x y mx up =
        let low = is.low_new x mx in
        let two = two_new x mx in
        elim up [
          | inl g ↦
              let (m, u, v, h, in_v) = g in
              let yl = (new_within m u v y h in_v).level_as in
              let le = at_least l b (s ∷ more) m u v h in
              omega (arith, low, two, yl, le)
          | inr e ↦
              let (is_last, o) = over_is y e in
              let yl = ap (λ (z : CellSeen). z.level) is_last in
              let ll = over_level o in
              let le = at_least l b (s ∷ more) top_row.level top_row.below top_row.row top_row.stands in
              omega (arith, low, two, yl, ll, le)
        ]

    row_below : (x y : CellSeen) → InNew l b (s ∷ more) x → over ≡ Some y → x.level < y.level
    row_below x y (m, u, v, h, in_v) e =
        let (is_last, o) = over_is y e in
        let yl = ap (λ (z : CellSeen). z.level) is_last in
        let ll = over_level o in
        let xl = (new_within m u v x h in_v).level_as in
        let most = top_row.most m u v h in
        omega (arith, yl, ll, xl, most)

    rows_apart : (x y : CellSeen) (k : ℕ) → InNew l b (s ∷ more) x → InNew l b (s ∷ more) y → x.level ≡ y.level
        → InCell x k
        → InCell y k → x ≡ y
    rows_apart x y k (m, u, v, h, in_v) (n, w, z, g, in_z) same at_x at_y =
        let xl = (new_within m u v x h in_v).level_as in
        let yl = (new_within n w z y g in_z).level_as in
        let one = one_row l b (s ∷ more) m n u v w z (omega (arith, xl, yl, same)) h g in
        follow_apart m (row m u v h).from (row m u v h).to v.new x y k (row m u v h).are in_v
        (subst (λ (q : Row). Contains q.new y) (sym one) in_z) at_x at_y

    apart : (x y : CellSeen) (k : ℕ) → Contains new x → Contains new y → x.level ≡ y.level → 1 ≤ x.level → InCell x k
        → InCell y k
        → x.id ≡ y.id
    apart x y k mx my same one at_x at_y = elim (new_cases x mx) [
      | inl low_x ↦ elim (new_cases y my) [
        | inl low_y ↦ low_apart x y k low_x low_y same at_x at_y
        | inr up_y ↦ let lt = low_up x y low_x up_y in absurd (omega (arith, lt, same))
      ]
      | inr up_x ↦ elim (new_cases y my) [
        | inl low_y ↦ let lt = low_up y x low_y up_x in absurd (omega (arith, lt, same))
        | inr up_y ↦ elim up_x [
          | inl row_x ↦ elim up_y [
            | inl row_y ↦ ap (λ (z : CellSeen). z.id) (rows_apart x y k row_x row_y same at_x at_y)
            | inr top_y ↦ let lt = row_below x y row_x top_y in absurd (omega (arith, lt, same))
          ]
          | inr top_x ↦ elim up_y [
            | inl row_y ↦ let lt = row_below y x row_y top_x in absurd (omega (arith, lt, same))
            | inr top_y ↦ ap (λ (z : CellSeen). z.id) (same_Some x y (sym top_x ∙ top_y))
          ]
        ]
      ]
    ]

    named : (n : Name) → AreNaming new n → IsNameOf new n ⊎ (AreNaming old n × (IsNameOf old n → ⊥))
    named n (x, mx, member) = elim (new_cases x mx) [
      | inl low ↦ absurd (low_no_names x n (is.nodes x mx) (is.low_new x low) member)
      | inr up ↦ elim up [
        | inl g ↦
            let (m, u, v, h, in_v) = g in
            elim (((row m u v h).names n).0 (x, in_v, member)) [
              | inl was ↦ inr (lift_naming_old m u v n h was.0, not_old m u v n h was.0 was.1)
              | inr comes ↦ let (y, my, e) = comes in inl (y, below_new m u v y h my, e)
            ]
        | inr e ↦
            let (is_last, o) = over_is x e in
            let (y, my, says) = (o.names n).0
            (last, here last [], subst (λ (z : CellSeen). Contains (node_of z).names n) is_last member) in
            inl (y, row_in_new top_row.level top_row.below top_row.row y top_row.stands my, says)
      ]
    ]

    under_new : (x : CellSeen) → Contains new x → (x ≡ last) ⊎ AreNaming new (name_of x)
    under_new x mx = elim (new_cases x mx) [
      | inl low ↦ inr (lift_naming_new l b s (name_of x) lowest_in (namer x low))
      | inr up ↦ elim up [
        | inl g ↦
            let (m, u, v, h, in_v) = g in
            elim (above_or_last l b (s ∷ more) m u v h) [
              | inl above ↦
                  let (w, a) = above in
                  inr (lift_naming_new (suc m) v w (name_of x) a
                  (((row (suc m) v w a).names (name_of x)).1 (inr (x, in_v, refl))))
              | inr most ↦
                  let in_top = subst (λ (z : Row). Contains z.new x) (is_top m u v h most) in_v in
                  elim end.how [
                    | inl one ↦ inl (only last x top_row.row.new one.1 in_top)
                    | inr o ↦
                        let (y, my, says) = (o.1.names (name_of x)).1 (x, in_top, refl) in
                        inr (y, subst (Contains new) (sym (only last y (last ∷ []) refl my)) last_in, says)
                  ]
            ]
        | inr e ↦ inl (over_is x e).0
      ]
    ]

    leaves_new : (k : ℕ) → IsLowIn new k → IsLowIn old k
    leaves_new k (inl (x, mx, one, at)) = elim (new_cases x mx) [
      | inl low ↦ lift_low_old k ((covered k).1 (inl (x, Contains-append_left b.new s.new x low, one, at)))
      | inr up ↦ elim up [
        | inl g ↦
            let (m, u, v, h, in_v) = g in
            let v_is = is_lowest m u v h (sym (new_within m u v x h in_v).level_as ∙ one) in
            lift_low_old k ((covered k).1
            (inl (x, Contains-append_right b.new s.new x (subst (λ (z : Row). Contains z.new x) v_is in_v), one, at)))
        | inr e ↦
            let (is_last, o) = over_is x e in
            let xl = ap (λ (z : CellSeen). z.level) is_last in
            let ll = over_level o in
            let low = one_le top_row.level top_row.below top_row.row top_row.stands in
            absurd (omega (arith, xl, ll, low, one))
      ]
    ]
    leaves_new k (inr (p, (x, mx, member), at)) = elim (new_cases x mx) [
      | inl low ↦ lift_low_old k ((covered k).1 (inr (p, (x, Contains-append_left b.new s.new x low, member), at)))
      | inr up ↦ elim up [
        | inl g ↦
            let (m, u, v, h, in_v) = g in
            elim (spans_kept m u v h) [
              | inl v_is ↦ lift_low_old k ((covered k).1
                  (inr (
                    p,
                    (
                      x,
                      Contains-append_right b.new s.new x (subst (λ (z : Row). Contains z.new x) v_is in_v),
                      member,
                    ),
                    at,
                  )))
              | inr keeps ↦
                  let (y, my, in_y) = (keeps p).0 (x, in_v, member) in
                  inr (p, (y, row_in_old m u v y h my, in_y), at)
            ]
        | inr e ↦
            let (is_last, o) = over_is x e in
            absurd (o.spans p (
              last,
              here last [],
              subst (λ (z : CellSeen). Contains (node_of z).spans p) is_last member,
            ))
      ]
    ]

    same_follow : (m lo hi : ℕ) (x y : CellSeen) → Follow m lo hi (x ∷ []) → Follow m lo hi (y ∷ []) → y.id ≡ x.id
        → IsAlike x y
    same_follow m lo hi x y (lx, ax, nx, ex) (ly, ay, ny, ey) id = record {
      id = id;
      level = ly ∙ sym lx;
      lo = ay ∙ sym ax;
      hi = ey ∙ sym ex;
    }

    ends : EndsAt r new over high last
    ends = elim end.how [
      | inl h ↦
          let it = row top_row.level top_row.below top_row.row top_row.stands in
          let alike : EndsAt r new None high last = same_follow top_row.level it.from it.to high last
          (subst (Follow top_row.level it.from it.to) end.was it.were)
          (subst (Follow top_row.level it.from it.to) h.1 it.are) h.2 in
          subst (λ (o : Option CellSeen). EndsAt r new o high last) (sym h.0) alike
      | inr h ↦
          let o = h.1 in
          let was = head_same o.was high top_row.row.old o.old end.was in
          let up = over_level o in
          let hl = high_level in
          let root : IsRootAbove r new high last = record {
            id = sym (ap (λ (x : CellSeen). x.id) was) ∙ o.id;
            above = omega (arith, up, hl);
            lo = o.lo;
            hi = o.hi;
            most = λ x mx. elim (new_cases x mx) [
              | inl low ↦ let lt = low_up x last low (inr h.0) in omega (arith, lt)
              | inr g ↦ elim g [
                | inl in_row ↦ let lt = row_below x last in_row h.0 in omega (arith, lt)
                | inr e ↦ let same = ap (λ (z : CellSeen). z.level) (over_is x e).0 in omega (arith, same)
              ]
            ];
          } in
          let rooted : EndsAt r new (Some last) high last = (refl, root) in
          subst (λ (z : Option CellSeen). EndsAt r new z high last) (sym h.0) rooted
    ]

    flat : IsFlat t r old new over high last
    flat = record {
      part = is.part;
      there = there;
      distinct_old = distinct_old;
      distinct_new = distinct new is.new_names;
      nodes = is.nodes;
      covers_old = covers_old;
      covers_new = covers_new;
      apart = apart;
      named = named;
      kept = kept;
      high_in = high_in;
      highest = λ x mx. elim (old_cases x mx) [
        | inl low ↦
            let le = is.low_old x low in
            let hl = high_level in
            let one = one_le top_row.level top_row.below top_row.row top_row.stands in
            omega (arith, le, hl, one)
        | inr up ↦
            let (m, u, v, h, in_v) = up in
            let xl = (old_within m u v x h in_v).level_as in
            let most = top_row.most m u v h in
            let hl = high_level in
            omega (arith, xl, most, hl)
      ];
      under_old = under_old high end.was;
      last_in = last_in;
      under_new = under_new;
      ends = ends;
      leaves = λ k. (leaves_old k, leaves_new k);
      used = is.each;
    }

  pub rows_change : IsChange old new (root_pair over)
  rows_change = let (high, last, end) = end_of r over top_row.row top_row.ends in
      flat_change t r old new over high last (flat high last end)

  pub rows_meet : MeetsPart (patch_of old new (root_pair over)) t r
  rows_meet = let (high, last, end) = end_of r over top_row.row top_row.ends in
      flat_meets t r old new over high last (flat high last end)
