-- Rows one over the other: each with the one below it, and its level.
use Rattle.std.proofs.Common.{◌≡◌, ◌⊎◌, inl, inr, ℕ, suc, ◌≤◌, List, [], ◌∷◌, refl, sym, ap, subst, ◌∙◌, arith}
use Rattle.std.specs.Prelude.{Contains, Option, None, Some}
use Rattle.std.proofs.lemmas.List.Elements.{Contains-append_cases, Contains-append_left, Contains-append_right}
use Rattle.std.proofs.lemmas.Option.{same_Some}
use Rattle.r4_base.specs.Key.{rank}
use Rattle.r4_base.specs.Tree.{Node, Root, Store}
use Rattle.r4_base.specs.Value.{Value}
use Rattle.r4_cell.specs.Seen.{CellSeen, node_of}
use Rattle.r4_path.specs.Steps.{Follow}
use Rattle.r4_patch.proofs.Members.{Distinct, cases, distinct_append, here, none}
use Rattle.r4_path.proofs.Rising.{follow_within, level_is, lo_is}
use Rattle.r4_rows.specs.Rows.{AreThere, EndsIn, EndsRow, IsRow, KeepsSpans, Mounts, Row, news_in, olds_in}

-- the row v stands at the level m, over u
abbrev pub Stands : (l : ℕ) → (b : Row) → List Row → (m : ℕ) → (u v : Row) → Type 0
Stands l b [] m u v = ⊥
Stands l b (s ∷ rows) m u v = ((m ≡ l) × (u ≡ b) × (v ≡ s)) ⊎ Stands (suc l) s rows m u v

pub at_least : (l : ℕ) (b : Row) (rows : List Row) (m : ℕ) (u v : Row) → Stands l b rows m u v → l ≤ m
at_least l b [] m u v h = absurd h
at_least l b (s ∷ rows) m u v (inl (em, eu, ev)) = omega (arith, em)
at_least l b (s ∷ rows) m u v (inr h) = let le = at_least (suc l) s rows m u v h in omega (arith, le)

pub head_is : (l : ℕ) (b s : Row) (rows : List Row) (m : ℕ) (u v : Row) → m ≡ l → Stands l b (s ∷ rows) m u v → (u ≡ b)
    × (v ≡ s)
head_is l b s rows m u v e (inl (em, eu, ev)) = (eu, ev)
head_is l b s rows m u v e (inr h) = let le = at_least (suc l) s rows m u v h in absurd (omega (arith, le, e))

pub one_row : (l : ℕ) (b : Row) (rows : List Row) (m n : ℕ) (u v w z : Row) → m ≡ n → Stands l b rows m u v
    → Stands l b rows n w z
    → v ≡ z
one_row l b [] m n u v w z e h g = absurd h
one_row l b (s ∷ rows) m n u v w z e (inl (em, eu, ev)) (inl (en, ew, ez)) = ev ∙ sym ez
one_row l b (s ∷ rows) m n u v w z e (inl (em, eu, ev)) (inr g) =
    let le = at_least (suc l) s rows n w z g in absurd (omega (arith, le, em, e))
one_row l b (s ∷ rows) m n u v w z e (inr h) (inl (en, ew, ez)) =
    let le = at_least (suc l) s rows m u v h in absurd (omega (arith, le, en, e))
one_row l b (s ∷ rows) m n u v w z e (inr h) (inr g) = one_row (suc l) s rows m n u v w z e h g

first_over : (l : ℕ) (b : Row) (rows : List Row) (m : ℕ) (u v : Row) → m ≡ l → Stands l b rows m u v → u ≡ b
first_over l b [] m u v e h = absurd h
first_over l b (s ∷ rows) m u v e h = (head_is l b s rows m u v e h).0

-- the row one level below is the one that it stands over
pub below_is : (l : ℕ) (b : Row) (rows : List Row) (m n : ℕ) (u v w z : Row) → m ≡ suc n → Stands l b rows m u v
    → Stands l b rows n w z → u ≡ z
below_is l b [] m n u v w z e h g = absurd h
below_is l b (s ∷ rows) m n u v w z e (inl (em, eu, ev)) g =
    let le = at_least l b (s ∷ rows) n w z g in absurd (omega (arith, le, em, e))
below_is l b (s ∷ rows) m n u v w z e (inr h) (inl (en, ew, ez)) =
    first_over (suc l) s rows m u v (omega (arith, e, en)) h ∙ sym ez
below_is l b (s ∷ rows) m n u v w z e (inr h) (inr g) = below_is (suc l) s rows m n u v w z e h g

-- what it stands over is the one below all, or stands itself
pub under : (l : ℕ) (b : Row) (rows : List Row) (m : ℕ) (u v : Row) → Stands l b rows m u v → (u ≡ b)
    ⊎ ((n : ℕ) × (w : Row) × Stands l b rows n w u)
under l b [] m u v h = absurd h
under l b (s ∷ rows) m u v (inl (em, eu, ev)) = inl eu
under l b (s ∷ rows) m u v (inr h) = elim (under (suc l) s rows m u v h) [
  | inl is ↦ inr (l, b, inl (refl, refl, is))
  | inr more ↦ let (n, w, g) = more in inr (n, w, inr g)
]

-- ---- membership

abbrev pub InOld : (l : ℕ) → (b : Row) → List Row → CellSeen → Type 0
InOld l b rows x = (m : ℕ) × (u : Row) × (v : Row) × Stands l b rows m u v × Contains v.old x

abbrev pub InNew : (l : ℕ) → (b : Row) → List Row → CellSeen → Type 0
InNew l b rows x = (m : ℕ) × (u : Row) × (v : Row) × Stands l b rows m u v × Contains v.new x

pub old_in : (l : ℕ) (b : Row) (rows : List Row) (x : CellSeen) → Contains (olds_in rows) x → InOld l b rows x
old_in l b [] x at = absurd (none x at)
old_in l b (s ∷ rows) x at = elim (Contains-append_cases s.old (olds_in rows) x at) [
  | inl mine ↦ (l, b, s, inl (refl, refl, refl), mine)
  | inr more ↦ let (m, u, v, h, member) = old_in (suc l) s rows x more in (m, u, v, inr h, member)
]

pub in_old : (l : ℕ) (b : Row) (rows : List Row) (m : ℕ) (u v : Row) (x : CellSeen) → Stands l b rows m u v
    → Contains v.old x
    → Contains (olds_in rows) x
in_old l b [] m u v x h at = absurd h
in_old l b (s ∷ rows) m u v x (inl (em, eu, ev)) at = Contains-append_left s.old (olds_in rows) x
    (subst (λ (z : Row). Contains z.old x) ev at)
in_old l b (s ∷ rows) m u v x (inr h) at =
    Contains-append_right s.old (olds_in rows) x (in_old (suc l) s rows m u v x h at)

pub new_in : (l : ℕ) (b : Row) (rows : List Row) (over : Option CellSeen) (x : CellSeen)
    → Contains (news_in rows over) x
    → InNew l b rows x ⊎ (over ≡ Some x)
new_in l b [] None x at = absurd (none x at)
new_in l b [] (Some c) x at =
    elim (cases c x [] at) [ inl is ↦ inr (ap Some (sym is)) | inr more ↦ absurd (none x more) ]
new_in l b (s ∷ rows) over x at = elim (Contains-append_cases s.new (news_in rows over) x at) [
  | inl mine ↦ inl (l, b, s, inl (refl, refl, refl), mine)
  | inr more ↦ elim (new_in (suc l) s rows over x more) [
    | inl g ↦ let (m, u, v, h, member) = g in inl (m, u, v, inr h, member)
    | inr is ↦ inr is
  ]
]

pub in_new : (l : ℕ) (b : Row) (rows : List Row) (over : Option CellSeen) (m : ℕ) (u v : Row) (x : CellSeen)
    → Stands l b rows m u v → Contains v.new x → Contains (news_in rows over) x
in_new l b [] over m u v x h at = absurd h
in_new l b (s ∷ rows) over m u v x (inl (em, eu, ev)) at = Contains-append_left s.new (news_in rows over) x
    (subst (λ (z : Row). Contains z.new x) ev at)
in_new l b (s ∷ rows) over m u v x (inr h) at = Contains-append_right s.new (news_in rows over) x
    (in_new (suc l) s rows over m u v x h at)

pub over_in : (rows : List Row) (over : Option CellSeen) (c : CellSeen) → over ≡ Some c → Contains (news_in rows over) c
over_in [] over c e = subst (λ (o : Option CellSeen). Contains (news_in [] o) c) (sym e) (here c [])
over_in (s ∷ rows) over c e = Contains-append_right s.new (news_in rows over) c (over_in rows over c e)

-- ---- what holds of each row

pub moved : (t : Store Value) (l m : ℕ) (b u s v : Row) → m ≡ l → u ≡ b → v ≡ s → IsRow t l b s → IsRow t m u v
moved t l m b u s v em eu ev h = subst (λ n. IsRow t n u v) (sym em)
    (subst (λ (w : Row). IsRow t l w v) (sym eu) (subst (λ (z : Row). IsRow t l b z) (sym ev) h))

pub row_of : (t : Store Value) (l : ℕ) (b : Row) (rows : List Row) (m : ℕ) (u v : Row) → Mounts t l b rows
    → Stands l b rows m u v
    → IsRow t m u v × (m ≡ 2 → KeepsSpans v)
row_of t l b [] m u v mounts h = absurd h
row_of t l b (s ∷ rows) m u v (row, keeps, rest) (inl (em, eu, ev)) = (
  moved t l m b u s v em eu ev row,
  λ e. subst KeepsSpans (sym ev) (keeps (sym em ∙ e)),
)
row_of t l b (s ∷ rows) m u v (row, keeps, rest) (inr h) = row_of t (suc l) s rows m u v rest h

pub row_with : (t : Store Value) (l : ℕ) (b s : Row) (more : List Row) (m : ℕ) (u v : Row) → IsRow t l b s
    → Mounts t (suc l) s more
    → Stands l b (s ∷ more) m u v → IsRow t m u v
row_with t l b s more m u v row mounts (inl (em, eu, ev)) = moved t l m b u s v em eu ev row
row_with t l b s more m u v row mounts (inr h) = (row_of t (suc l) s more m u v mounts h).0

-- ---- the highest row

pub record Highest (r : Root) (over : Option CellSeen) (l : ℕ) (b : Row) (rows : List Row) : Type 0 where
  pub level : ℕ
  pub below : Row
  pub row : Row
  pub stands : Stands l b rows level below row
  pub ends : EndsRow r row over
  pub most : (m : ℕ) (u v : Row) → Stands l b rows m u v → m ≤ level

pub highest : (r : Root) (over : Option CellSeen) (l : ℕ) (b s : Row) (more : List Row) → EndsIn r s more over
    → Highest r over l b (s ∷ more)
highest r over l b s [] ends = record {
  level = l;
  below = b;
  row = s;
  stands = inl (refl, refl, refl);
  ends = ends;
  most = λ m u v h. elim h [ inl is ↦ let e = is.0 in omega (arith, e) | inr more ↦ absurd more ];
}
highest r over l b s (x ∷ xs) ends =
    let up = highest r over (suc l) s x xs ends in
    record {
      level = up.level;
      below = up.below;
      row = up.row;
      stands = inr up.stands;
      ends = up.ends;
      most = λ m u v h. elim h [
        | inl is ↦
            let e = is.0 in
            let le = at_least (suc l) s (x ∷ xs) up.level up.below up.row up.stands in
            omega (arith, e, le)
        | inr more ↦ up.most m u v more
      ];
    }

-- a row has one over it, or none is higher
pub above_or_last : (l : ℕ) (b : Row) (rows : List Row) (m : ℕ) (u v : Row) → Stands l b rows m u v
    → ((w : Row) × Stands l b rows (suc m) v w) ⊎ ((n : ℕ) (w z : Row) → Stands l b rows n w z → n ≤ m)
above_or_last l b [] m u v h = absurd h
above_or_last l b (s ∷ []) m u v (inl (em, eu, ev)) = inr
    (λ n w z g. elim g [ inl is ↦ let e = is.0 in omega (arith, e, em) | inr more ↦ absurd more ])
above_or_last l b (s ∷ []) m u v (inr h) = absurd h
above_or_last l b (s ∷ (x ∷ xs)) m u v (inl (em, eu, ev)) = inl (x, inr (inl (ap suc em, ev, refl)))
above_or_last l b (s ∷ (x ∷ xs)) m u v (inr h) = elim (above_or_last (suc l) s (x ∷ xs) m u v h) [
  | inl up ↦ let (w, g) = up in inl (w, inr g)
  | inr most ↦ inr (λ n w z g. elim g [
    | inl is ↦
        let e = is.0 in
        let le = at_least (suc l) s (x ∷ xs) m u v h in
        omega (arith, e, le)
    | inr more ↦ most n w z more
  ])
]

-- ---- no name twice among the old cells

pub same_node : (t : Store Value) (x y : CellSeen) → t x.id ≡ Some (node_of x) → t y.id ≡ Some (node_of y) → x.id ≡ y.id
    → node_of x ≡ node_of y
same_node t x y tx ty same = same_Some (node_of x) (node_of y)
    (sym (subst (λ i. t i ≡ Some (node_of x)) same tx) ∙ ty)

pub same_level : (t : Store Value) (x y : CellSeen) → t x.id ≡ Some (node_of x) → t y.id ≡ Some (node_of y)
    → x.id ≡ y.id
    → x.level ≡ y.level
same_level t x y tx ty same = sym (level_is x)
    ∙ (ap (λ (d : Node Value). d.level) (same_node t x y tx ty same) ∙ level_is y)

follow_distinct : (t : Store Value) (level lo hi : ℕ) (cells : List CellSeen) → Follow level lo hi cells
    → AreThere t cells
    → Distinct cells
follow_distinct t level lo hi [] f there = tt
follow_distinct t level lo hi (c ∷ cells) (l, at, lt, rest) there = (
  λ y member same.
      let w = follow_within level (rank c.hi) hi cells y rest member in
      let from = w.from in
      let node = same_node t c y (there c (here c cells))
      (there y (Contains-append_right (c ∷ []) cells y member)) same in
      let lo_same : rank c.lo ≡ rank y.lo = sym (lo_is c) ∙ (ap (λ (d : Node Value). d.lo) node ∙ lo_is y) in
      omega (arith, from, lo_same, at, lt),
  follow_distinct t level (rank c.hi) hi cells rest
      (λ x member. there x (Contains-append_right (c ∷ []) cells x member)),
)

pub rows_distinct : (t : Store Value) (l : ℕ) (b : Row) (rows : List Row)
    → ((m : ℕ) (u v : Row) → Stands l b rows m u v → IsRow t m u v) → Distinct (olds_in rows)
rows_distinct t l b [] rows_are = tt
rows_distinct t l b (s ∷ rows) rows_are =
    let mine = rows_are l b s (inl (refl, refl, refl)) in
    distinct_append s.old (olds_in rows) (follow_distinct t l mine.from mine.to s.old mine.were mine.there)
    (rows_distinct t (suc l) s rows (λ m u v h. rows_are m u v (inr h)))
    (λ x y mx my same.
    let (m, u, v, h, in_v) = old_in (suc l) s rows y my in
    let up = rows_are m u v (inr h) in
    let le = at_least (suc l) s rows m u v h in
    let lx = (follow_within l mine.from mine.to s.old x mine.were mx).level_as in
    let ly = (follow_within m up.from up.to v.old y up.were in_v).level_as in
    let level = same_level t x y (mine.there x mx) (up.there y in_v) same in
    omega (arith, le, lx, ly, level))
