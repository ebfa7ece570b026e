-- Pieces that are put where a twig has none.
use Rattle.std.proofs.Common.{◌≡◌, ◌↔◌, ◌⊎◌, inl, inr, ℕ, ◌+◌, ◌≤◌, List, [], ◌∷◌, ◌++◌, length, refl, sym, ap, subst, ◌∙◌, arith}
use Rattle.std.specs.Prelude.{Contains}
use Rattle.std.proofs.Math.Seq.{drop-append_seam, take-append_seam}
use Rattle.std.proofs.lemmas.List.{length-append}
use Rattle.r4_base.specs.Key.{rank}
use Rattle.r4_base.specs.Tree.{Name}
use Rattle.r4_path.specs.r4_branch.Pieces.{AreTwigPieces, Follow, names_of, next_of, twig_bytes}
use Rattle.r4_path.specs.r4_branch.declared.piece.TwigPiece.{TwigPiece}
use Rattle.r4_path.specs.r4_cell.Seen.{CellSeen, node_of}
use Rattle.r4_path.specs.r4_graft.Places.{HasGap}
use Rattle.r4_path.specs.r4_graft.Splices.{place, spliced}
use Rattle.r4_path.proofs.r4_graft.FoundPlaces.{find_gap}
use Rattle.r4_path.proofs.r4_graft.Joined.{follow_join, spliced_bytes}
use Rattle.r4_path.proofs.r4_graft.Placed.{not_in_none}
use Rattle.r4_path.proofs.r4_graft.SplicedNames.{spliced_names}
use Rattle.r4_edit.specs.Extents.{AreAmongExtents}
use Rattle.r4_path.specs.TwigPieces.{ArePiecesOf}

pub same_first : (hi : ℕ) (xs ys zs : List TwigPiece) → 1 ≤ length xs → next_of hi (xs ++ ys) ≡ next_of hi (xs ++ zs)
same_first hi [] ys zs some = absurd (omega (arith, some))
same_first hi (x ∷ xs) ys zs some = refl

module _ (twig : CellSeen) (ps : List TwigPiece) (are : ArePiecesOf twig ps) (from to : ℕ)
    (keys : AreAmongExtents twig from to) where
  pub gap : HasGap (rank twig.lo) (rank twig.hi) from to ps
  gap =
      find_gap (rank twig.lo) (rank twig.hi) from to ps are.pieces keys.low keys.some keys.high
      (record {
        named = λ n at. keys.clear.named n (subst (λ ns. Contains ns n) are.names at);
        own = λ k v at. keys.clear.own k v (subst (λ us. Contains us (k, v)) are.units at);
      })

  module _ (us : List TwigPiece) (f : Follow from to us) where
    abbrev pub spread : List TwigPiece
    spread = spliced (place from ps) (place from ps) us ps

    pub spread_is : spread ≡ gap.before ++ (us ++ gap.behind)
    spread_is =
        (λ i. spliced (gap.at i) (gap.at i) us (gap.is i))
        ∙ (λ i. take-append_seam gap.before gap.behind i ++ (us ++ drop-append_seam gap.before gap.behind i))

    pub spread_pieces : AreTwigPieces (rank twig.lo) (rank twig.hi) spread
    spread_pieces =
        let long = length-append gap.before (us ++ gap.behind) in
        let some = gap.some in
        subst (AreTwigPieces (rank twig.lo) (rank twig.hi)) (sym spread_is) (record {
          some = omega (arith, long, some);
          first = same_first (rank twig.hi) gap.before (us ++ gap.behind) gap.behind some ∙ (ap (next_of (rank twig.hi)) (sym gap.is) ∙ are.pieces.first);
          follow = follow_join (rank twig.lo) from (rank twig.hi) gap.before (us ++ gap.behind) gap.low (follow_join from to (rank twig.hi) us gap.behind f gap.high);
        })

    pub spread_bytes : twig_bytes spread ≤ twig_bytes ps + twig_bytes us + 38
    spread_bytes =
        let more = spliced_bytes gap.before [] gap.behind us in
        let one = ap twig_bytes spread_is in
        let two = ap twig_bytes gap.is in
        omega (arith, more, one, two)

    -- What they name: what the twig named, and what those that were put in name.
    pub spread_names : (n : Name) → Contains (names_of (rank twig.hi) spread) n ↔ (Contains (node_of twig).names n ⊎ Contains (names_of (next_of (rank twig.hi) gap.behind) us) n)
    unfolding names_of
    spread_names n = (
      λ at. elim (names.0 (subst (λ qs. Contains (names_of (rank twig.hi) qs) n) spread_is at)) [
        | inl was ↦ inl (subst (λ ns. Contains ns n) are.names (subst (λ qs. Contains (names_of (rank twig.hi) qs) n) (sym gap.is) was.0))
        | inr new ↦ inr new
      ],
      λ at. subst (λ qs. Contains (names_of (rank twig.hi) qs) n) (sym spread_is) (names.1 (elim at [
        | inl was ↦ inl (subst (λ qs. Contains (names_of (rank twig.hi) qs) n) gap.is (subst (λ ns. Contains ns n) (sym are.names) was), not_in_none n)
        | inr new ↦ inr new
      ])),
    )
      where
        names : Contains (names_of (rank twig.hi) (gap.before ++ (us ++ gap.behind))) n ↔ ((Contains (names_of (rank twig.hi) (gap.before ++ ([] ++ gap.behind))) n × (Contains (names_of (next_of (rank twig.hi) gap.behind) []) n → ⊥)) ⊎ Contains (names_of (next_of (rank twig.hi) gap.behind) us) n)
        names = spliced_names (rank twig.hi) (rank twig.lo) (rank twig.hi) gap.before [] us gap.behind (subst (Follow (rank twig.lo) (rank twig.hi)) gap.is are.pieces.follow) (gap.left (next_of (next_of (rank twig.hi) gap.behind) us)) n
