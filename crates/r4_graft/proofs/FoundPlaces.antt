-- The pointer to a leaf among pieces, and a gap between them.
use Rattle.std.proofs.Common.{◌≡◌, ◌⊎◌, inl, inr, ℕ, zero, suc, ◌+◌, ◌*◌, ◌<◌, ◌≤◌, Bool, true, false, List, [], ◌∷◌, ◌++◌, length, refl, sym, ap, subst, ◌∙◌, arith}
use Rattle.std.specs.Prelude.{Contains, if◌then◌else◌}
use Rattle.std.proofs.lemmas.Bool.{cases_eq, cases_lt}
use Rattle.std.proofs.lemmas.List.Elements.{Contains-append_cases, Contains-append_left, Contains-append_right}
use Rattle.r4_base.specs.Cell.{run_names, zeros_from}
use Rattle.r4_base.specs.Extents.{is_hole}
use Rattle.r4_base.specs.Key.{offset_of, rank}
use Rattle.r4_base.specs.Tree.{Name}
use Rattle.r4_base.specs.Value.{Value, Byte}
use Rattle.r4_base.specs.declared.items.Unit.{Unit as ExtentUnit}
use Rattle.r4_branch.specs.Pieces.{AreTwigPieces, Follow, IsSoundPart, names_of, next_of, part_end, part_names, part_units, piece_end, units_of}
use Rattle.r4_branch.specs.declared.piece.TwigPart.{TwigPart}
use Rattle.r4_branch.specs.declared.piece.TwigPart.TheVariants.{Pointer, Blocks}
use Rattle.r4_branch.specs.declared.piece.TwigPiece.{TwigPiece}
use Rattle.r4_branch.proofs.UnitPieces.{some_width}
use Rattle.r4_graft.specs.Places.{AreClear, HasGap, HasPointer}
use Rattle.r4_graft.specs.Splices.{place}
use Rattle.r4_graft.proofs.Placed.{first_member, first_or_later, has_end, later_member, not_in_none, place_none, place_some}
use Rattle.r4_graft.proofs.SplicedNames.{names_begin}

-- ---- a pointer

pub runs_level : (k start count : ℕ) (n : Name) → Contains (run_names k start count) n → n.level ≡ 0
runs_level k start zero n at = absurd (not_in_none n at)
runs_level k start (suc m) n at = elim (first_or_later _ _ n at) [
  | inl is ↦ sym (ap (λ (x : Name). x.level) is)
  | inr more ↦ runs_level (k + 4096) (start + 1) m n more
]

-- a part that names a leaf is a pointer to it
part_points : (k next : ℕ) (t : TwigPart) (n : Name) → Contains (part_names k next t) n → n.level ≡ 1 → (t ≡ Pointer (record { 0 = n.id })) × ((k ≡ n.lo) × (next ≡ n.hi))
part_points k next (Pointer to) n at leaf = elim (first_or_later _ [] n at) [
  | inl is ↦ (ap (λ (x : Name). Pointer (record { 0 = x.id })) is, (ap (λ (x : Name). x.lo) is, ap (λ (x : Name). x.hi) is))
  | inr none ↦ absurd (not_in_none n none)
]
part_points k next (Blocks u) n at leaf = absurd (by_hole (is_hole u) at)
  where
    by_hole : (t : Bool) → Contains (if t then [] else run_names k u.start u.width) n → ⊥
    by_hole true none = not_in_none n none
    by_hole false here = let r = runs_level k u.start u.width n here in omega (arith, r, leaf)

pub find_pointer : (from to hi : ℕ) (ps : List TwigPiece) (n : Name) → Follow from to ps → Contains (names_of hi ps) n → n.level ≡ 1 → HasPointer hi ps n
unfolding names_of
find_pointer from to hi [] n f at leaf = absurd (not_in_none n at)
find_pointer from to hi (p ∷ ps) n f at leaf = elim (Contains-append_cases (part_names (rank p.key) (next_of hi ps) p.part) (names_of hi ps) n at) [
  | inl mine ↦
      let r = part_points (rank p.key) (next_of hi ps) p.part n mine leaf in
      let low = r.1.0 in
      record {
        before = [];
        piece = p;
        behind = ps;
        is = refl;
        key = r.1.0;
        part = r.0;
        next = r.1.1;
        at = place_none n.lo p ps (omega (arith, low));
      }
  | inr more ↦
      let r = find_pointer (piece_end p) to hi ps n f.2 more leaf in
      let low = names_begin (piece_end p) to hi ps n f.2 more in
      let e = has_end p f.1 in
      record {
        before = p ∷ r.before;
        piece = r.piece;
        behind = r.behind;
        is = ap (λ qs. p ∷ qs) r.is;
        key = r.key;
        part = r.part;
        next = r.next;
        at = place_some n.lo p ps (omega (arith, low, e)) ∙ ap suc r.at;
      }
]

-- ---- a gap

-- a part has a name or a unit at its key
part_has_key : (k o next : ℕ) (t : TwigPart) → IsSoundPart o t → k < next → ((n : Name) × (Contains (part_names k next t) n × ((n.lo ≡ k) × (k < n.hi)))) ⊎ ((v : Value) × Contains (part_units k t) (k, v))
part_has_key k o next (Pointer to) s lt = inl (record { id = to.0; level = 1; lo = k; hi = next }, (first_member _ [], (refl, lt)))
part_has_key k o next (Blocks u) s lt = by_hole (is_hole u)
  where
    runs : (count : ℕ) → 1 ≤ count → (n : Name) × (Contains (run_names k u.start count) n × ((n.lo ≡ k) × (k < n.hi)))
    runs zero some = absurd (omega (arith, some))
    runs (suc m) some = (record { id = u.start; level = 0; lo = k; hi = k + 4096 }, (first_member _ _, (refl, omega arith)))

    zeros : (count : ℕ) → 1 ≤ count → (v : Value) × Contains (zeros_from k count) (k, v)
    zeros zero some = absurd (omega (arith, some))
    zeros (suc m) some = (Byte 0, first_member _ _)

    by_hole : (t : Bool) → ((n : Name) × (Contains (if t then [] else run_names k u.start u.width) n × ((n.lo ≡ k) × (k < n.hi)))) ⊎ ((v : Value) × Contains (if t then zeros_from k (4096 * u.width) else []) (k, v))
    by_hole true = let w = some_width u s.0 in inr (zeros (4096 * u.width) (omega (arith, w)))
    by_hole false = inl (runs u.width (some_width u s.0))

-- each key of a unit's blocks is in one that it names, or has a unit
blocks_have : (k next x : ℕ) (u : ExtentUnit) → k ≤ x → x < k + 4096 * u.width → ((n : Name) × (Contains (part_names k next (Blocks u)) n × ((n.lo ≤ x) × (x < n.hi)))) ⊎ ((v : Value) × Contains (part_units k (Blocks u)) (x, v))
blocks_have k next x u low high = by_hole (is_hole u)
  where
    runs : (j start count : ℕ) → j ≤ x → x < j + 4096 * count → (n : Name) × (Contains (run_names j start count) n × ((n.lo ≤ x) × (x < n.hi)))
    runs j start zero a b = absurd (omega (arith, a, b))
    runs j start (suc m) a b = elim (cases_lt x (j + 4096)) [
      | inl lt ↦ (record { id = start; level = 0; lo = j; hi = j + 4096 }, (first_member _ _, (a, lt)))
      | inr ge ↦ let r = runs (j + 4096) (start + 1) m ge (omega (arith, b)) in (r.0, (later_member _ _ r.0 r.1.0, r.1.1))
    ]

    zeros : (j count : ℕ) → j ≤ x → x < j + count → (v : Value) × Contains (zeros_from j count) (x, v)
    zeros j zero a b = absurd (omega (arith, a, b))
    zeros j (suc m) a b = elim (cases_eq j x) [
      | inl is ↦ (Byte 0, subst (λ i. Contains (zeros_from j (suc m)) (i, Byte 0)) is (first_member _ _))
      | inr other ↦ let r = zeros (j + 1) m (omega (arith, a, other)) (omega (arith, b)) in (r.0, later_member _ _ (x, r.0) r.1)
    ]

    by_hole : (t : Bool) → ((n : Name) × (Contains (if t then [] else run_names k u.start u.width) n × ((n.lo ≤ x) × (x < n.hi)))) ⊎ ((v : Value) × Contains (if t then zeros_from k (4096 * u.width) else []) (x, v))
    by_hole true = inr (zeros k (4096 * u.width) low high)
    by_hole false = inl (runs k u.start u.width low high)

clear_first : (hi from to : ℕ) (p : TwigPiece) (ps : List TwigPiece) → AreClear (names_of hi (p ∷ ps)) (units_of (p ∷ ps)) from to → AreClear (part_names (rank p.key) (next_of hi ps) p.part) (part_units (rank p.key) p.part) from to
unfolding names_of units_of
clear_first hi from to p ps c = record {
  named = λ n at. c.named n (Contains-append_left _ (names_of hi ps) n at);
  own = λ k v at. c.own k v (Contains-append_left _ (units_of ps) (k, v) at);
}

clear_more : (hi from to : ℕ) (p : TwigPiece) (ps : List TwigPiece) → AreClear (names_of hi (p ∷ ps)) (units_of (p ∷ ps)) from to → AreClear (names_of hi ps) (units_of ps) from to
unfolding names_of units_of
clear_more hi from to p ps c = record {
  named = λ n at. c.named n (Contains-append_right (part_names (rank p.key) (next_of hi ps) p.part) (names_of hi ps) n at);
  own = λ k v at. c.own k v (Contains-append_right (part_units (rank p.key) p.part) (units_of ps) (k, v) at);
}

-- a part that begins below clear keys ends before them
part_ends : (k next from to : ℕ) (t : TwigPart) → AreClear (part_names k next t) (part_units k t) from to → k < from → from < to → part_end k t ≤ from
part_ends k next from to (Pointer i) c low lt = omega (arith, low)
part_ends k next from to (Blocks u) c low lt = elim (cases_lt from (k + 4096 * u.width)) [
  | inl inside ↦ elim (blocks_have k next from u (omega (arith, low)) inside) [
    | inl n ↦ absurd (elim (c.named n.0 n.1.0) [
      | inl before ↦ omega (arith, before, n.1.1.1)
      | inr behind ↦ let a = n.1.1.0 in omega (arith, behind, a, lt)
    ])
    | inr v ↦ absurd (elim (c.own from v.0 v.1) [
      | inl before ↦ omega (arith, before)
      | inr behind ↦ omega (arith, behind, lt)
    ])
  ]
  | inr ge ↦ ge
]

-- a part that does not begin below clear keys begins behind them
part_behind : (k o next from to : ℕ) (t : TwigPart) → IsSoundPart o t → k < next → AreClear (part_names k next t) (part_units k t) from to → from ≤ k → to ≤ k
part_behind k o next from to t s lt c le = elim (part_has_key k o next t s lt) [
  | inl n ↦ elim (c.named n.0 n.1.0) [
    | inl before ↦ let e = n.1.1 in absurd (omega (arith, before, e, le))
    | inr behind ↦ let e = n.1.1 in omega (arith, behind, e)
  ]
  | inr v ↦ elim (c.own k v.0 v.1) [
    | inl before ↦ absurd (omega (arith, before, le))
    | inr behind ↦ behind
  ]
]

pub next_lower : (from to : ℕ) (ps : List TwigPiece) → Follow from to ps → from ≤ next_of to ps
next_lower from to [] f = f
next_lower from to (p ∷ ps) f = f.0

-- a part before the clear keys, where the next piece begins behind them, is no pointer
part_left : (k next from to : ℕ) (t : TwigPart) → AreClear (part_names k next t) (part_units k t) from to → k < from → from < to → to ≤ next → (j : ℕ) → part_names k j t ≡ part_names k next t
part_left k next from to (Blocks u) c low lt far j = refl
part_left k next from to (Pointer i) c low lt far j = absurd (elim (c.named (record { id = i.0; level = 1; lo = k; hi = next }) (first_member _ [])) [
  | inl before ↦ omega (arith, before, far, lt)
  | inr behind ↦ omega (arith, behind, low, lt)
])

-- where there is a gap, but that something stands before it
record Gap (start hi from to : ℕ) (ps : List TwigPiece) : Type 0 where
  before : List TwigPiece
  behind : List TwigPiece
  is : ps ≡ before ++ behind
  at : place from ps ≡ length before
  low : Follow start from before
  high : Follow to hi behind
  next : to ≤ next_of hi behind
  left : (j : ℕ) → names_of j before ≡ names_of (next_of hi behind) before

gap_here : (start hi from to : ℕ) (p : TwigPiece) (ps : List TwigPiece) → Follow start hi (p ∷ ps) → start ≤ from → from ≤ rank p.key → AreClear (part_names (rank p.key) (next_of hi ps) p.part) (part_units (rank p.key) p.part) from to → Gap start hi from to (p ∷ ps)
unfolding names_of
gap_here start hi from to p ps f le ge c =
    let e = has_end p f.1 in
    let n = next_lower (piece_end p) hi ps f.2 in
    let far = part_behind (rank p.key) (offset_of p.key) (next_of hi ps) from to p.part f.1.1 (omega (arith, e, n)) c ge in
    record {
      before = [];
      behind = p ∷ ps;
      is = refl;
      at = place_none from p ps ge;
      low = le;
      high = (far, f.1, f.2);
      next = far;
      left = λ j. refl;
    }

gap_behind : (start hi from to : ℕ) (p : TwigPiece) (ps : List TwigPiece) → Follow start hi (p ∷ ps) → rank p.key < from → from < to → AreClear (part_names (rank p.key) (next_of hi ps) p.part) (part_units (rank p.key) p.part) from to → Gap (piece_end p) hi from to ps → Gap start hi from to (p ∷ ps)
unfolding names_of
gap_behind start hi from to p ps f lt some c g = record {
  before = p ∷ g.before;
  behind = g.behind;
  is = ap (λ qs. p ∷ qs) g.is;
  at = place_some from p ps lt ∙ ap suc g.at;
  low = (f.0, f.1, g.low);
  high = g.high;
  next = g.next;
  left = by_before g.before g.is g.left;
}
  where
    by_before : (qs : List TwigPiece) → ps ≡ qs ++ g.behind → ((j : ℕ) → names_of j qs ≡ names_of (next_of hi g.behind) qs) → (j : ℕ) → names_of j (p ∷ qs) ≡ names_of (next_of hi g.behind) (p ∷ qs)
    by_before [] is same j =
        let far = g.next in
        let here : next_of hi ps ≡ next_of hi g.behind = ap (next_of hi) is in
        let clear = subst (λ (n : ℕ). AreClear (part_names (rank p.key) n p.part) (part_units (rank p.key) p.part) from to) here c in
        ap (λ ns. ns ++ names_of j []) (part_left (rank p.key) (next_of hi g.behind) from to p.part clear lt some far j)
    by_before (q ∷ qs) is same j = ap (λ ns. part_names (rank p.key) (rank q.key) p.part ++ ns) (same j)

gap : (start hi from to : ℕ) (ps : List TwigPiece) → Follow start hi ps → start ≤ from → from < to → to ≤ hi → AreClear (names_of hi ps) (units_of ps) from to → Gap start hi from to ps
unfolding names_of
gap start hi from to [] f le lt high c = record { before = []; behind = []; is = refl; at = refl; low = le; high = high; next = high; left = λ j. refl }
gap start hi from to (p ∷ ps) f le lt high c = elim (cases_lt (rank p.key) from) [
  | inl low ↦
      let mine = clear_first hi from to p ps c in
      let e = part_ends (rank p.key) (next_of hi ps) from to p.part mine low lt in
      gap_behind start hi from to p ps f low lt mine (gap (piece_end p) hi from to ps f.2 e lt high (clear_more hi from to p ps c))
  | inr ge ↦ gap_here start hi from to p ps f le ge (clear_first hi from to p ps c)
]

pub find_gap : (lo hi from to : ℕ) (ps : List TwigPiece) → AreTwigPieces lo hi ps → lo ≤ from → from < to → to ≤ hi → AreClear (names_of hi ps) (units_of ps) from to → HasGap lo hi from to ps
find_gap lo hi from to ps twig le lt high c =
    let g = gap lo hi from to ps twig.follow le lt high c in
    record {
      before = g.before;
      behind = g.behind;
      is = g.is;
      at = g.at;
      low = g.low;
      high = g.high;
      next = g.next;
      left = g.left;
      some = by_before g.before g.behind g.is g.next;
    }
  where
    by_before : (qs : List TwigPiece) → (ys : List TwigPiece) → ps ≡ qs ++ ys → to ≤ next_of hi ys → 1 ≤ length qs
    by_before [] ys is far = let a = ap (next_of hi) is in let b = twig.first in absurd (omega (arith, a, b, far, le, lt))
    by_before (q ∷ qs) ys is far = omega arith
