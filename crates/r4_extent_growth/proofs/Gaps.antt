-- A gap among a twig's pieces, where none of them stands in its range and the one before it is a unit.
use Rattle.std.proofs.Common.{◌≡◌, ◌⊎◌, inl, inr, ℕ, suc, ◌<◌, ◌≤◌, true, List, [], ◌∷◌, ◌++◌, length, take, refl, ap, subst, ◌∙◌, arith}
use Rattle.std.specs.Prelude.{Contains, None, Option, is_some}
use Rattle.std.proofs.lemmas.Bool.{cases_lt}
use Rattle.r4_base.specs.Key.{rank}
use Rattle.r4_twig_asks.proofs.r4_graft.Placed.{first_member, has_end, later_member, place_none, place_some}
use Rattle.r4_twig_asks.specs.r4_graft.Places.{HasGap}
use Rattle.r4_twig_asks.specs.r4_graft.Splices.{place}
use Rattle.r4_extent_change.specs.r4_measure.r4_branch.Pieces.{Follow, last_end, names_of, next_of, open_end, part_names, piece_end}
use Rattle.r4_extent_change.specs.r4_measure.r4_branch.declared.piece.TwigPart.{TwigPart}
use Rattle.r4_extent_change.specs.r4_measure.r4_branch.declared.piece.TwigPart.TheVariants.{Blocks, Pointer}
use Rattle.r4_extent_change.specs.r4_measure.r4_branch.declared.piece.TwigPiece.{TwigPiece}
use Rattle.r4_base.specs.declared.key.Key.{Key}

-- a unit's names do not depend on where the next piece begins
unit_names : (key : Key) (t : TwigPart) → is_some (open_end (record { key = key; part = t })) ≡ true → (m n : ℕ) → part_names (rank key) m t ≡ part_names (rank key) n t
unit_names key (Pointer to) some m n = absurd cc
unit_names key (Blocks u) some m n = refl

-- None of the pieces stands between the keys.
abbrev AreClear : (from to : ℕ) → List TwigPiece → Type 0
AreClear from to ps = (p : TwigPiece) → Contains ps p → (piece_end p ≤ from) ⊎ (to ≤ rank p.key)

-- where there is a gap, if the piece before it is a unit
record Gap (start hi from to : ℕ) (ps : List TwigPiece) : Type 0 where
  before : List TwigPiece
  behind : List TwigPiece
  is : ps ≡ before ++ behind
  at : place from ps ≡ length before
  taken : take (place from ps) ps ≡ before
  low : Follow start from before
  high : Follow to hi behind
  next : to ≤ next_of hi behind
  left : (o : Option ℕ) → is_some (last_end o before) ≡ true → (j : ℕ) → names_of j before ≡ names_of (next_of hi behind) before

gap_here : (start hi from to : ℕ) (p : TwigPiece) (ps : List TwigPiece) → Follow start hi (p ∷ ps) → start ≤ from → from ≤ rank p.key → to ≤ rank p.key → Gap start hi from to (p ∷ ps)
unfolding names_of
gap_here start hi from to p ps f le ge far = record {
  before = [];
  behind = p ∷ ps;
  is = refl;
  at = place_none from p ps ge;
  taken = ap (λ n. take n (p ∷ ps)) (place_none from p ps ge);
  low = le;
  high = (far, f.1, f.2);
  next = far;
  left = λ o some j. refl;
}

gap_behind : (start hi from to : ℕ) (p : TwigPiece) (ps : List TwigPiece) → Follow start hi (p ∷ ps) → rank p.key < from → Gap (piece_end p) hi from to ps → Gap start hi from to (p ∷ ps)
unfolding names_of
gap_behind start hi from to p ps f lt g = record {
  before = p ∷ g.before;
  behind = g.behind;
  is = ap (λ qs. p ∷ qs) g.is;
  at = place_some from p ps lt ∙ ap suc g.at;
  taken = ap (λ n. take n (p ∷ ps)) (place_some from p ps lt) ∙ ap (λ qs. p ∷ qs) g.taken;
  low = (f.0, f.1, g.low);
  high = g.high;
  next = g.next;
  left = λ o. by_before g.before g.left;
}
  where
    by_before : (qs : List TwigPiece) → ((o : Option ℕ) → is_some (last_end o qs) ≡ true → (j : ℕ) → names_of j qs ≡ names_of (next_of hi g.behind) qs)
        → is_some (last_end (open_end p) qs) ≡ true → (j : ℕ) → names_of j (p ∷ qs) ≡ names_of (next_of hi g.behind) (p ∷ qs)
    by_before [] same some j = ap (λ ns. ns ++ names_of j []) (unit_names p.key p.part some j (next_of hi g.behind))
    by_before (q ∷ qs) same some j = ap (λ ns. part_names (rank p.key) (rank q.key) p.part ++ ns) (same (open_end p) some j)

gap : (start hi from to : ℕ) (ps : List TwigPiece) → Follow start hi ps → start ≤ from → from < to → to ≤ hi → AreClear from to ps → Gap start hi from to ps
unfolding names_of
gap start hi from to [] f le lt high c = record { before = []; behind = []; is = refl; at = refl; taken = refl; low = le; high = high; next = high; left = λ o some j. refl }
gap start hi from to (p ∷ ps) f le lt high c = elim (cases_lt (rank p.key) from) [
  | inl low ↦
      let ends : piece_end p ≤ from = elim (c p (first_member p ps)) [ inl h ↦ h | inr h ↦ absurd (omega (arith, h, low, lt)) ] in
      gap_behind start hi from to p ps f low (gap (piece_end p) hi from to ps f.2 ends lt high (λ q at. c q (later_member p ps q at)))
  | inr ge ↦
      let end = has_end p f.1 in
      let far : to ≤ rank p.key = elim (c p (first_member p ps)) [ inl h ↦ absurd (omega (arith, h, ge, end)) | inr h ↦ h ] in
      gap_here start hi from to p ps f le ge far
]

pub gap_behind_unit : (lo hi from to : ℕ) (ps : List TwigPiece) → Follow lo hi ps → lo ≤ from → from < to → to ≤ hi
    → ((p : TwigPiece) → Contains ps p → (piece_end p ≤ from) ⊎ (to ≤ rank p.key))
    → is_some (last_end None (take (place from ps) ps)) ≡ true → HasGap lo hi from to ps
gap_behind_unit lo hi from to ps f le lt high c some =
    let g = gap lo hi from to ps f le lt high c in
    let unit = subst (λ (qs : List TwigPiece). is_some (last_end None qs) ≡ true) g.taken some in
    record {
      before = g.before;
      behind = g.behind;
      is = g.is;
      at = g.at;
      low = g.low;
      high = g.high;
      next = g.next;
      left = g.left None unit;
      some = by_before g.before unit;
    }
  where
    by_before : (qs : List TwigPiece) → is_some (last_end None qs) ≡ true → 1 ≤ length qs
    by_before [] unit = absurd cc
    by_before (q ∷ qs) unit = omega arith
