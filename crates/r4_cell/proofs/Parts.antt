-- Parts of a cell: what a range of its keys has of names, extents and units, and two parts side by side.
use Rattle.std.proofs.Common.{◌≡◌, ◌⊎◌, inl, inr, ℕ, zero, suc, ◌-◌, ◌<◌, ◌≤◌, List, [], ◌∷◌, ◌++◌, refl, ap, arith}
use Rattle.std.specs.Prelude.{Contains}
use Rattle.std.proofs.lemmas.Bool.{cases_lt}
use Rattle.std.proofs.lemmas.List.Elements.{Contains-append_left, Contains-append_right, Contains-append_cases}
use Rattle.r4_base.specs.Tree.{Name, Span, InName, InSpan, IsData}
use Rattle.r4_base.specs.Value.{Value}
use Rattle.r4_base.proofs.FreshTree.{only}
use Rattle.r4_base.proofs.Choices.{nothing_in}
use Rattle.r4_cell.proofs.Rows.{IsRow, row_append, row_name, row_none, row_wider, name_below, name_above}

abbrev pub IsBelowLevel : ℕ → Name → Type 0
IsBelowLevel level n = ((1 ≤ n.level) × (suc n.level ≡ level)) ⊎ ((level ≡ 2) × IsData n)

abbrev pub Covers : (level key : ℕ) → List Name → List Span → Type 0
Covers level k names spans = ((n : Name) × Contains names n × (suc n.level ≡ level) × InName n k) ⊎ ((s : Span) × Contains spans s × InSpan s k)

abbrev pub SpanHas : List Span → ℕ → Type 0
SpanHas spans k = (s : Span) × Contains spans s × InSpan s k

abbrev pub SpanHolds : List Span → Name → Type 0
SpanHolds spans n = (s : Span) × Contains spans s × (s.lo ≤ n.lo) × (n.hi ≤ s.hi)

-- What a cell of the level may have in a range of keys.
pub record IsPart (level lo hi : ℕ) (names : List Name) (spans : List Span) (units : List (ℕ × Value)) : Type 0 where
  pub row : IsRow lo hi names units
  pub below : (n : Name) → Contains names n → IsBelowLevel level n
  pub spans_apart : (n : Name) (s : Span) (k : ℕ) → Contains names n → Contains spans s → InName n k → InSpan s k → IsData n
  pub span_from : (s : Span) → Contains spans s → lo ≤ s.lo
  pub span_to : (s : Span) → Contains spans s → s.hi ≤ hi
  pub in_twigs : (s : Span) → Contains spans s → level ≡ 2
  pub covered : (k : ℕ) → 2 ≤ level → lo ≤ k → k < hi → Covers level k names spans
  pub data_in_span : (n : Name) → Contains names n → IsData n → SpanHolds spans n
  pub unit_low : (k : ℕ) (v : Value) → Contains units (k, v) → (level ≤ 1) ⊎ SpanHas spans k

pub part_none : (level hi : ℕ) → IsPart level hi hi [] [] []
part_none level hi = record {
  row = row_none hi hi (omega arith);
  below = λ n h. absurd (nothing_in n h);
  spans_apart = λ n s k x _ _ _. absurd (nothing_in n x);
  span_from = λ s h. absurd (nothing_in s h);
  span_to = λ s h. absurd (nothing_in s h);
  in_twigs = λ s h. absurd (nothing_in s h);
  covered = λ k two low high. absurd (omega (arith, low, high));
  data_in_span = λ n h _. absurd (nothing_in n h);
  unit_low = λ k v h. absurd (nothing_in (k, v) h);
}

pub part_leaf : (level lo hi : ℕ) (units : List (ℕ × Value)) → level ≡ 1 → IsRow lo hi [] units → IsPart level lo hi [] [] units
part_leaf level lo hi units one r = record {
  row = r;
  below = λ n h. absurd (nothing_in n h);
  spans_apart = λ n s k x _ _ _. absurd (nothing_in n x);
  span_from = λ s h. absurd (nothing_in s h);
  span_to = λ s h. absurd (nothing_in s h);
  in_twigs = λ s h. absurd (nothing_in s h);
  covered = λ k two low high. absurd (omega (arith, two, one));
  data_in_span = λ n h _. absurd (nothing_in n h);
  unit_low = λ k v h. inl (omega (arith, one));
}

pub part_pointer : (level lo hi to : ℕ) → 2 ≤ level → lo < hi → IsPart level lo hi (record { id = to; level = level - 1; lo = lo; hi = hi } ∷ []) [] []
part_pointer level lo hi to two lt =
    let a : Name = record { id = to; level = level - 1; lo = lo; hi = hi } in
    record {
      row = row_name a lt;
      below = λ n h. let e : n.level ≡ level - 1 = ap (λ (x : Name). x.level) (only a n h) in inl (omega (arith, e, two), omega (arith, e, two));
      spans_apart = λ n s k _ y _ _. absurd (nothing_in s y);
      span_from = λ s h. absurd (nothing_in s h);
      span_to = λ s h. absurd (nothing_in s h);
      in_twigs = λ s h. absurd (nothing_in s h);
      covered = λ k _ low high. inl (a, (zero, omega arith, refl), omega (arith, two), (low, high));
      data_in_span = λ n h zero_level. let e : n.level ≡ level - 1 = ap (λ (x : Name). x.level) (only a n h) in absurd (omega (arith, e, two, zero_level));
      unit_low = λ k v h. absurd (nothing_in (k, v) h);
    }

pub part_extent : (level lo end hi : ℕ) (names : List Name) (units : List (ℕ × Value)) → level ≡ 2 → end ≤ hi → ((n : Name) → Contains names n → IsData n) → IsRow lo end names units
    → IsPart level lo hi names (record { lo = lo; hi = hi } ∷ []) units
part_extent level lo end hi names units two high each r =
    let s : Span = record { lo = lo; hi = hi } in
    let there : Contains (s ∷ []) s = (zero, omega arith, refl) in
    record {
      row = row_wider lo end lo hi names units (omega arith) high r;
      below = λ n h. inr (two, each n h);
      spans_apart = λ n x k h _ _ _. each n h;
      span_from = λ x h. let e : x.lo ≡ lo = ap (λ (y : Span). y.lo) (only s x h) in omega (arith, e);
      span_to = λ x h. let e : x.hi ≡ hi = ap (λ (y : Span). y.hi) (only s x h) in omega (arith, e);
      in_twigs = λ x h. two;
      covered = λ k _ low below. inr (s, there, (low, below));
      data_in_span = λ n h _. let t = r.to n h in (s, there, r.from n h, omega (arith, t, high));
      unit_low = λ k v h. let i = r.unit_in k v h in let a = i.0 in let b = i.1 in inr (s, there, (a, omega (arith, b, high)));
    }

-- a part goes on down to a lesser key, in a leaf alone
pub part_wider : (level lo from hi : ℕ) (names : List Name) (spans : List Span) (units : List (ℕ × Value)) → from ≤ lo → (2 ≤ level → lo ≡ from) → IsPart level lo hi names spans units → IsPart level from hi names spans units
part_wider level lo from hi names spans units low same p = record {
  row = row_wider lo hi from hi names units low (omega arith) p.row;
  below = p.below;
  spans_apart = p.spans_apart;
  span_from = λ s h. let f = p.span_from s h in omega (arith, low, f);
  span_to = p.span_to;
  in_twigs = p.in_twigs;
  covered = λ k two above under. let e = same two in p.covered k two (omega (arith, e, above)) under;
  data_in_span = p.data_in_span;
  unit_low = p.unit_low;
}

-- ---- a longer list of extents has what a shorter one has

holds_left : (ss ts : List Span) (n : Name) → SpanHolds ss n → SpanHolds (ss ++ ts) n
holds_left ss ts n (s, at, low, high) = (s, Contains-append_left ss ts s at, low, high)

holds_right : (ss ts : List Span) (n : Name) → SpanHolds ts n → SpanHolds (ss ++ ts) n
holds_right ss ts n (s, at, low, high) = (s, Contains-append_right ss ts s at, low, high)

low_left : (level k : ℕ) (ss ts : List Span) → (level ≤ 1) ⊎ SpanHas ss k → (level ≤ 1) ⊎ SpanHas (ss ++ ts) k
low_left level k ss ts (inl le) = inl le
low_left level k ss ts (inr (s, at, within)) = inr (s, Contains-append_left ss ts s at, within)

low_right : (level k : ℕ) (ss ts : List Span) → (level ≤ 1) ⊎ SpanHas ts k → (level ≤ 1) ⊎ SpanHas (ss ++ ts) k
low_right level k ss ts (inl le) = inl le
low_right level k ss ts (inr (s, at, within)) = inr (s, Contains-append_right ss ts s at, within)

covers_left : (level k : ℕ) (ns ms : List Name) (ss ts : List Span) → Covers level k ns ss → Covers level k (ns ++ ms) (ss ++ ts)
covers_left level k ns ms ss ts (inl (n, at, is, within)) = inl (n, Contains-append_left ns ms n at, is, within)
covers_left level k ns ms ss ts (inr (s, at, within)) = inr (s, Contains-append_left ss ts s at, within)

covers_right : (level k : ℕ) (ns ms : List Name) (ss ts : List Span) → Covers level k ms ts → Covers level k (ns ++ ms) (ss ++ ts)
covers_right level k ns ms ss ts (inl (n, at, is, within)) = inl (n, Contains-append_right ns ms n at, is, within)
covers_right level k ns ms ss ts (inr (s, at, within)) = inr (s, Contains-append_right ss ts s at, within)

-- ---- two parts side by side

module _ (level lo mid hi : ℕ) (ns ms : List Name) (ss ts : List Span) (us vs : List (ℕ × Value)) (p : IsPart level lo mid ns ss us) (q : IsPart level mid hi ms ts vs) where
  span_below : (s : Span) (k : ℕ) → Contains ss s → InSpan s k → k < mid
  span_below s k h at = let t = p.span_to s h in let a = at.1 in omega (arith, t, a)

  span_above : (s : Span) (k : ℕ) → Contains ts s → InSpan s k → mid ≤ k
  span_above s k h at = let t = q.span_from s h in let a = at.0 in omega (arith, t, a)

  pub part_append : IsPart level lo hi (ns ++ ms) (ss ++ ts) (us ++ vs)
  part_append = record {
    row = row_append lo mid hi ns ms us vs p.row q.row;
    below = λ n h. elim (Contains-append_cases ns ms n h) [
      | inl x ↦ p.below n x
      | inr x ↦ q.below n x
    ];
    spans_apart = λ n s k h g at bt. elim (Contains-append_cases ns ms n h) [
      | inl x ↦ elim (Contains-append_cases ss ts s g) [
        | inl y ↦ p.spans_apart n s k x y at bt
        | inr y ↦ let a = name_below lo mid hi ns ms us vs p.row q.row n k x at in let b = span_above s k y bt in absurd (omega (arith, a, b))
      ]
      | inr x ↦ elim (Contains-append_cases ss ts s g) [
        | inl y ↦ let a = name_above lo mid hi ns ms us vs p.row q.row n k x at in let b = span_below s k y bt in absurd (omega (arith, a, b))
        | inr y ↦ q.spans_apart n s k x y at bt
      ]
    ];
    span_from = λ s h. elim (Contains-append_cases ss ts s h) [
      | inl x ↦ p.span_from s x
      | inr x ↦ let a = p.row.order in let b = q.span_from s x in omega (arith, a, b)
    ];
    span_to = λ s h. elim (Contains-append_cases ss ts s h) [
      | inl x ↦ let a = q.row.order in let b = p.span_to s x in omega (arith, a, b)
      | inr x ↦ q.span_to s x
    ];
    in_twigs = λ s h. elim (Contains-append_cases ss ts s h) [
      | inl x ↦ p.in_twigs s x
      | inr x ↦ q.in_twigs s x
    ];
    covered = λ k two low high. elim (cases_lt k mid) [
      | inl lt ↦ covers_left level k ns ms ss ts (p.covered k two low lt)
      | inr past ↦ covers_right level k ns ms ss ts (q.covered k two past high)
    ];
    data_in_span = λ n h is. elim (Contains-append_cases ns ms n h) [
      | inl x ↦ holds_left ss ts n (p.data_in_span n x is)
      | inr x ↦ holds_right ss ts n (q.data_in_span n x is)
    ];
    unit_low = λ k v h. elim (Contains-append_cases us vs (k, v) h) [
      | inl x ↦ low_left level k ss ts (p.unit_low k v x)
      | inr x ↦ low_right level k ss ts (q.unit_low k v x)
    ];
  }
