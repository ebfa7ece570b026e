-- Cells whose ranges follow each other, and numbers that count up.
use Rattle.std.proofs.Common.{◌≡◌, inl, inr, ℕ, zero, suc, ◌+◌, ◌<◌, ◌≤◌, List, [], ◌∷◌, ◌++◌, length, refl, sym, ap, subst}
use Rattle.std.proofs.Common.{◌∙◌, arith}
use Rattle.std.specs.Prelude.{Contains}
use Rattle.std.proofs.lemmas.Bool.{cases_lt}
use Rattle.r4_base.specs.Cell.{cell_of}
use Rattle.r4_base.specs.Key.{rank}
use Rattle.r4_base.specs.Tree.{InNode}
use Rattle.r4_patch.specs.r4_cell.Seen.{CellSeen, node_of}
use Rattle.r4_patch.specs.Joining.{ids_of}
use Rattle.r4_path.specs.Steps.{CountUp, Follow}
use Rattle.r4_patch.proofs.Members.{Distinct, cases, here, later, none}

-- ---- what a cell says of itself

cell_level : (level lo hi : ℕ) (b : List ℕ) → (cell_of level lo hi b).level ≡ level
unfolding cell_of
cell_level zero lo hi b = refl
cell_level (suc l) lo hi b = refl

cell_lo : (level lo hi : ℕ) (b : List ℕ) → (cell_of level lo hi b).lo ≡ lo
unfolding cell_of
cell_lo zero lo hi b = refl
cell_lo (suc l) lo hi b = refl

cell_hi : (level lo hi : ℕ) (b : List ℕ) → (cell_of level lo hi b).hi ≡ hi
unfolding cell_of
cell_hi zero lo hi b = refl
cell_hi (suc l) lo hi b = refl

pub level_is : (c : CellSeen) → (node_of c).level ≡ c.level
level_is c = cell_level c.level (rank c.lo) (rank c.hi) c.block

pub lo_is : (c : CellSeen) → (node_of c).lo ≡ rank c.lo
lo_is c = cell_lo c.level (rank c.lo) (rank c.hi) c.block

pub hi_is : (c : CellSeen) → (node_of c).hi ≡ rank c.hi
hi_is c = cell_hi c.level (rank c.lo) (rank c.hi) c.block

-- the key lies in the cell's range
abbrev pub InCell : CellSeen → ℕ → Type 0
InCell c k = (rank c.lo ≤ k) × (k < rank c.hi)

pub in_cell : (c : CellSeen) (k : ℕ) → InNode (node_of c) k → InCell c k
in_cell c k at = let lo = lo_is c in let hi = hi_is c in (omega (arith, lo, at), omega (arith, hi, at))

pub in_node : (c : CellSeen) (k : ℕ) → InCell c k → InNode (node_of c) k
in_node c k at = let lo = lo_is c in let hi = hi_is c in (omega (arith, lo, at), omega (arith, hi, at))

-- ---- ranges that follow each other

pub follow_order : (level lo hi : ℕ) (cells : List CellSeen) → Follow level lo hi cells → lo ≤ hi
follow_order level lo hi [] e = omega (arith, e)
follow_order level lo hi (c ∷ cells) (l, at, lt, rest) = let h = follow_order level (rank c.hi) hi cells rest in
    omega (arith, h, lt)

pub record Within (level lo hi : ℕ) (c : CellSeen) : Type 0 where
  pub level_as : c.level ≡ level
  pub from : lo ≤ rank c.lo
  pub to : rank c.hi ≤ hi
  pub nonempty : rank c.lo < rank c.hi

pub follow_within : (level lo hi : ℕ) (cells : List CellSeen) (x : CellSeen) → Follow level lo hi cells → Contains cells x
    → Within level lo hi x
follow_within level lo hi [] x h at = absurd (none x at)
follow_within level lo hi (c ∷ cells) x (l, at, lt, rest) member =
    let most = follow_order level (rank c.hi) hi cells rest in
    elim (cases c x cells member) [
      | inl is ↦ subst (Within level lo hi) (sym is)
          (record { level_as = l; from = omega (arith, at); to = most; nonempty = omega (arith, at, lt) })
      | inr more ↦
          let w = follow_within level (rank c.hi) hi cells x rest more in
          let from = w.from in
          record { level_as = w.level_as; from = omega (arith, lt, from); to = w.to; nonempty = w.nonempty }
    ]

pub follow_covers : (level lo hi : ℕ) (cells : List CellSeen) (k : ℕ) → Follow level lo hi cells → lo ≤ k → k < hi
    → (x : CellSeen) × Contains cells x × InCell x k
follow_covers level lo hi [] k e from to = absurd (omega (arith, e, from, to))
follow_covers level lo hi (c ∷ cells) k (l, at, lt, rest) from to = elim (cases_lt k (rank c.hi)) [
  | inl below ↦ (c, here c cells, (omega (arith, at, from), below))
  | inr past ↦ let (x, member, inside) = follow_covers level (rank c.hi) hi cells k rest past to in
      (x, later c x cells member, inside)
]

pub follow_apart : (level lo hi : ℕ) (cells : List CellSeen) (x y : CellSeen) (k : ℕ) → Follow level lo hi cells
    → Contains cells x → Contains cells y → InCell x k → InCell y k → x ≡ y
follow_apart level lo hi [] x y k h at_x at_y in_x in_y = absurd (none x at_x)
follow_apart level lo hi (c ∷ cells) x y k (l, at, lt, rest) at_x at_y in_x in_y = elim (cases c x cells at_x) [
  | inl ex ↦ elim (cases c y cells at_y) [
    | inl ey ↦ ex ∙ sym ey
    | inr my ↦
        let w = follow_within level (rank c.hi) hi cells y rest my in
        let from = w.from in
        let top = ap (λ (z : CellSeen). rank z.hi) ex in
        absurd (omega (arith, from, in_x, in_y, top))
  ]
  | inr mx ↦ elim (cases c y cells at_y) [
    | inl ey ↦
        let w = follow_within level (rank c.hi) hi cells x rest mx in
        let from = w.from in
        let top = ap (λ (z : CellSeen). rank z.hi) ey in
        absurd (omega (arith, from, in_x, in_y, top))
    | inr my ↦ follow_apart level (rank c.hi) hi cells x y k rest mx my in_x in_y
  ]
]

-- ---- numbers that count up

pub count_within : (n : ℕ) (ids : List ℕ) (i : ℕ) → CountUp n ids → Contains ids i → (n ≤ i) × (i < n + length ids)
count_within n [] i h at = absurd (none i at)
count_within n (j ∷ ids) i (is, rest) at = elim (cases j i ids at) [
  | inl e ↦ (omega (arith, e, is), omega (arith, e, is))
  | inr more ↦ let w = count_within (n + 1) ids i rest more in (omega (arith, w), omega (arith, w))
]

pub count_split : (n : ℕ) (xs ys : List ℕ) → CountUp n (xs ++ ys) → CountUp n xs × CountUp (n + length xs) ys
count_split n [] ys h = (tt, subst (λ m. CountUp m ys) (omega arith) h)
count_split n (x ∷ xs) ys (is, rest) = let (a, b) = count_split (n + 1) xs ys rest in
    ((is, a), subst (λ m. CountUp m ys) (omega arith) b)

pub id_member : (cells : List CellSeen) (x : CellSeen) → Contains cells x → Contains (ids_of cells) x.id
id_member [] x at = absurd (none x at)
id_member (c ∷ cells) x at = elim (cases c x cells at) [
  | inl is ↦ subst (λ (z : CellSeen). Contains (c.id ∷ ids_of cells) z.id) (sym is) (here c.id (ids_of cells))
  | inr more ↦ later c.id x.id (ids_of cells) (id_member cells x more)
]

pub count_distinct : (n : ℕ) (cells : List CellSeen) → CountUp n (ids_of cells) → Distinct cells
count_distinct n [] h = tt
count_distinct n (c ∷ cells) (is, rest) = (
  λ y at e. let w = count_within (n + 1) (ids_of cells) y.id rest
      (id_member cells y at) in absurd (omega (arith, w, is, e)),
  count_distinct (n + 1) cells rest,
)
