-- The ranges of a twig's extents rise, and each ends where a piece begins, or where the twig's does.
use Rattle.std.proofs.Common.{◌≡◌, ◌⊎◌, inl, inr, ℕ, ◌+◌, ◌^◌, ◌<◌, ◌≤◌, Bool, true, false, List, [], ◌∷◌, ◌++◌, sym, ap, subst, ◌∙◌, arith}
use Rattle.std.specs.Prelude.{Contains, None, if◌then◌else◌}
use Rattle.std.proofs.lemmas.List.Elements.{Contains-append_cases, Contains-append_right}
use Rattle.r4_base.specs.Cell.{cell_fault, is_extent, item_end, next_key, spans_in}
use Rattle.r4_base.specs.Key.{rank}
use Rattle.r4_base.specs.Node.{Item, items_of}
use Rattle.r4_base.specs.Tree.{Span}
use Rattle.r4_build.specs.r4_branch.Items.{IsSoundItem, Lie}
use Rattle.r4_build.specs.r4_branch.Pieces.{Follow, MayStand, item_pieces, next_of, piece_end, pieces_in}
use Rattle.r4_build.specs.r4_branch.declared.piece.TwigPiece.{TwigPiece}
use Rattle.r4_build.proofs.r4_branch.ItemPieces.{follow_item, next_of_item, next_of_items}
use Rattle.r4_build.proofs.r4_branch.Standing.{stand_lie}
use Rattle.r4_extent_build.specs.r4_cell.Seen.{CellSeen, node_of}
use Rattle.r4_extent_build.proofs.r4_graft.Placed.{first_member, first_or_later, follow_end, has_end, not_in_none}
use Rattle.r4_build.specs.r4_path.Sharing.{IsSound}
use Rattle.r4_build.specs.r4_path.TwigPieces.{twig_pieces}
use Rattle.r4_build.proofs.r4_path.CellNodes.{spans_are}

-- each begins where the one before it ends, or behind, and has a key
abbrev pub SpansRise : (from : ℕ) → List Span → Type 0
SpansRise from [] = Unit {0}
SpansRise from (s ∷ ss) = (from ≤ s.lo) × (s.lo < s.hi) × SpansRise s.hi ss

-- a piece begins with the key, or the range ends there
abbrev pub IsEnd : List TwigPiece → (hi key : ℕ) → Type 0
IsEnd ps hi k = (k ≡ hi) ⊎ ((p : TwigPiece) × Contains ps p × (rank p.key ≡ k))

lower : (from to : ℕ) (ss : List Span) → from ≤ to → SpansRise to ss → SpansRise from ss
lower from to [] le h = tt
lower from to (s ∷ ss) le h = let a = h.0 in (omega (arith, a, le), h.1, h.2)

pub item_wide : (x : Item) → IsSoundItem x → rank x.key < item_end x
item_wide x sound = by_pieces (item_pieces x) (follow_item x sound) (next_of_item x sound (rank x.key + 1))
  where
    by_pieces : (ps : List TwigPiece) → Follow (rank x.key) (item_end x) ps → next_of (rank x.key + 1) ps ≡ rank x.key → rank x.key < item_end x
    by_pieces [] f first = absurd (omega (arith, first))
    by_pieces (p ∷ ps) f first = let low = f.0 in let wide = has_end p f.1 in let end = follow_end (piece_end p) (item_end x) ps f.2 in omega (arith, low, wide, end)

next_behind : (from to : ℕ) (xs : List Item) → Lie from to xs → from ≤ next_key to xs
next_behind from to [] lie = lie
next_behind from to (x ∷ xs) lie = lie.0

pub lie_again : (from to : ℕ) (xs : List Item) → Lie from to xs → Lie (next_key to xs) to xs
lie_again from to [] lie = omega arith
lie_again from to (x ∷ xs) lie = (omega arith, lie.1, lie.2)

-- they end at the second key, or before
pub lie_order : (from to : ℕ) (xs : List Item) → Lie from to xs → from ≤ to
lie_order from to [] lie = lie
lie_order from to (x ∷ xs) lie = let a = lie.0 in let w = item_wide x lie.1 in let z = lie_order (item_end x) to xs lie.2 in omega (arith, a, w, z)

pub spans_rise : (from to : ℕ) (xs : List Item) → Lie from to xs → SpansRise from (spans_in to xs)
unfolding spans_in
spans_rise from to [] lie = tt
spans_rise from to (x ∷ xs) lie =
    let w = item_wide x lie.1 in
    let n = next_behind (item_end x) to xs lie.2 in
    by_test (is_extent x) (omega (arith, w, n)) (spans_rise (next_key to xs) to xs (lie_again (item_end x) to xs lie.2))
  where
    by_test : (t : Bool) → rank x.key < next_key to xs → SpansRise (next_key to xs) (spans_in to xs)
        → SpansRise from ((if t then (record { lo = rank x.key; hi = next_key to xs } ∷ []) else []) ++ spans_in to xs)
    by_test true wide rest = (lie.0, wide, rest)
    by_test false wide rest = lower from (next_key to xs) (spans_in to xs) (let a = lie.0 in omega (arith, a, wide)) rest

end_more : (xs ys : List TwigPiece) (hi k : ℕ) → IsEnd ys hi k → IsEnd (xs ++ ys) hi k
end_more xs ys hi k (inl is) = inl is
end_more xs ys hi k (inr (p, at, is)) = inr (p, Contains-append_right xs ys p at, is)

next_end : (hi k : ℕ) (ps : List TwigPiece) → next_of hi ps ≡ k → IsEnd ps hi k
next_end hi k [] is = inl (sym is)
next_end hi k (p ∷ ps) is = inr (p, first_member p ps, is)

ends_in : (from to : ℕ) (xs : List Item) (s : Span) → Lie from to xs → Contains (spans_in to xs) s → IsEnd (pieces_in xs) to s.hi
unfolding spans_in
ends_in from to [] s lie at = absurd (not_in_none s at)
ends_in from to (x ∷ xs) s lie at = elim (Contains-append_cases (if is_extent x then (record { lo = rank x.key; hi = next_key to xs } ∷ []) else []) (spans_in to xs) s at) [
  | inr more ↦ end_more (item_pieces x) (pieces_in xs) to s.hi (ends_in (item_end x) to xs s lie.2 more)
  | inl mine ↦ by_test (is_extent x) mine
]
  where
    by_test : (t : Bool) → Contains (if t then (record { lo = rank x.key; hi = next_key to xs } ∷ []) else []) s → IsEnd (item_pieces x ++ pieces_in xs) to s.hi
    by_test false none = absurd (not_in_none s none)
    by_test true mine = elim (first_or_later (record { lo = rank x.key; hi = next_key to xs }) [] s mine) [
      | inr none ↦ absurd (not_in_none s none)
      | inl is ↦ end_more (item_pieces x) (pieces_in xs) to s.hi (next_end to s.hi (pieces_in xs) (next_of_items (item_end x) to xs lie.2 to ∙ ap (λ (y : Span). y.hi) is))
    ]

module _ (twig : CellSeen) (sound : IsSound twig) (level : twig.level ≡ 2) where
  stands : MayStand (rank twig.lo) (rank twig.hi) twig.block
  stands = (
    sound.whole,
    subst (λ (l : ℕ). cell_fault true (2 ^ 64) l (rank twig.lo) (rank twig.hi) twig.block ≡ None) level sound.accepted,
  )

  pub lie : Lie (rank twig.lo) (rank twig.hi) (items_of twig.block)
  lie = stand_lie (rank twig.lo) (rank twig.hi) twig.block stands

  pub twig_spans : SpansRise (rank twig.lo) (node_of twig).spans
  twig_spans = subst (SpansRise (rank twig.lo)) (sym (spans_are twig 1 level)) (spans_rise (rank twig.lo) (rank twig.hi) (items_of twig.block) lie)

  pub twig_ends : (s : Span) → Contains (node_of twig).spans s → IsEnd (twig_pieces twig) (rank twig.hi) s.hi
  twig_ends s at = ends_in (rank twig.lo) (rank twig.hi) (items_of twig.block) s lie (subst (λ ss. Contains ss s) (spans_are twig 1 level) at)

-- each range has a key
pub some_key : (from : ℕ) (ss : List Span) (s : Span) → SpansRise from ss → Contains ss s → s.lo < s.hi
some_key from [] s rise at = absurd (not_in_none s at)
some_key from (x ∷ ss) s rise at = elim (first_or_later x ss s at) [
  | inl is ↦ subst (λ (y : Span). y.lo < y.hi) is rise.1
  | inr more ↦ some_key x.hi ss s rise.2 more
]
