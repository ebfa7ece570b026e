-- Where a piece of a twig has the first key that goes, what goes begins there.
use Rattle.std.proofs.Common.{◌≡◌, inl, inr, ℕ, ◌+◌, ◌*◌, ◌<◌, ◌≤◌, List, [], ◌∷◌, ◌++◌, sym, ap, subst, ◌∙◌, arith}
use Rattle.std.specs.Prelude.{Contains}
use Rattle.std.proofs.lemmas.Bool.{cases_lt}
use Rattle.std.proofs.lemmas.List.Elements.{Contains-append_cases, Contains-append_left, Contains-append_right}
use Rattle.r4_base.specs.Key.{later as key_later, rank}
use Rattle.r4_extent_build.specs.r4_branch.Pieces.{Follow, IsSound, piece_end}
use Rattle.r4_extent_build.specs.r4_branch.declared.piece.TwigPiece.{TwigPiece}
use Rattle.r4_extent_build.specs.r4_edit.CutBlocks.{BeginsAt, parted_twice, pieces_behind, pieces_below, pieces_between}
use Rattle.r4_extent_build.proofs.r4_edit.CutParts.{AreSplit, border_again, split}
use Rattle.r4_extent_build.specs.r4_graft.Splices.{IsBorder, blocks_past, first_blocks, parted, parted_piece}
use Rattle.r4_extent_build.proofs.r4_graft.Halves.{later_rank}
use Rattle.r4_extent_build.proofs.r4_graft.Parted.{halved_or_not, parted_follow}
use Rattle.r4_extent_build.proofs.r4_graft.Placed.{follow_above, has_end, take_below}
use Rattle.r4_extent_build.proofs.r4_patch.Members.{cases, here, later, none}

-- one of the pieces begins at the key
abbrev HasFirst : (key : ℕ) → List TwigPiece → Type 0
HasFirst k ps = (q : TwigPiece) × Contains ps q × (rank q.key ≡ k)

module _ (k : ℕ) where
  -- parted at a key, the piece that has it gives one that begins there
  first_piece : (p : TwigPiece) → IsSound p → (rank p.key < k → k < piece_end p → (n : ℕ) × (k ≡ rank p.key + 4096 * n)) → rank p.key ≤ k → k < piece_end p → HasFirst k (parted_piece k p)
  first_piece p sound border low high = elim (halved_or_not k p sound border) [
    | inl h ↦
        let one : TwigPiece = record p { part = first_blocks h.n p.part } in
        let two : TwigPiece = record { key = key_later p.key (4096 * h.n); part = blocks_past h.n p.part } in
        (two, subst (λ qs. Contains qs two) (sym h.parts) (later one two (two ∷ []) (here two [])), later_rank p.key (4096 * h.n) ∙ sym h.at)
    | inr whole ↦ (
      p,
      subst (λ qs. Contains qs p) (sym whole.0) (here p []),
      elim (cases_lt (rank p.key) k) [
        | inl lt ↦ let end = whole.1 lt in absurd (omega (arith, end, high))
        | inr ge ↦ omega (arith, ge, low)
      ],
    )
  ]

  has_first : (from to : ℕ) (ps : List TwigPiece) → Follow from to ps → IsBorder k ps → (p : TwigPiece) → Contains ps p → rank p.key ≤ k → k < piece_end p → HasFirst k (parted k ps)
  has_first from to [] f b p at low high = absurd (none p at)
  has_first from to (r ∷ ps) f b p at low high = elim (cases r p ps at) [
    | inl is ↦
        let (q, m, key) = first_piece r f.1 (b r (here r ps)) (subst (λ (y : TwigPiece). rank y.key ≤ k) is low) (subst (λ (y : TwigPiece). k < piece_end y) is high) in
        (q, Contains-append_left (parted_piece k r) (parted k ps) q m, key)
    | inr more ↦
        let (q, m, key) = has_first (piece_end r) to ps f.2 (λ y in_ps. b y (later r y ps in_ps)) p more low high in
        (q, Contains-append_right (parted_piece k r) (parted k ps) q m, key)
  ]

  -- parted at another key, they still have it
  keeps_piece : (l : ℕ) (p : TwigPiece) → IsSound p → (rank p.key < l → l < piece_end p → (n : ℕ) × (l ≡ rank p.key + 4096 * n)) → rank p.key ≡ k → HasFirst k (parted_piece l p)
  keeps_piece l p sound border key = elim (halved_or_not l p sound border) [
    | inl h ↦
        let one : TwigPiece = record p { part = first_blocks h.n p.part } in
        let two : TwigPiece = record { key = key_later p.key (4096 * h.n); part = blocks_past h.n p.part } in
        (one, subst (λ qs. Contains qs one) (sym h.parts) (here one (two ∷ [])), key)
    | inr whole ↦ (p, subst (λ qs. Contains qs p) (sym whole.0) (here p []), key)
  ]

  keeps_first : (l from to : ℕ) (ps : List TwigPiece) → Follow from to ps → IsBorder l ps → HasFirst k ps → HasFirst k (parted l ps)
  keeps_first l from to [] f b (p, at, key) = absurd (none p at)
  keeps_first l from to (r ∷ ps) f b (p, at, key) = elim (cases r p ps at) [
    | inl is ↦
        let (q, m, same) = keeps_piece l r f.1 (b r (here r ps)) (ap (λ (y : TwigPiece). rank y.key) (sym is) ∙ key) in
        (q, Contains-append_left (parted_piece l r) (parted l ps) q m, same)
    | inr more ↦
        let (q, m, same) = keeps_first l (piece_end r) to ps f.2 (λ y in_ps. b y (later r y ps in_ps)) (p, more, key) in
        (q, Contains-append_right (parted_piece l r) (parted l ps) q m, same)
  ]

  first_of : (to : ℕ) (ps : List TwigPiece) → Follow k to ps → HasFirst k ps → BeginsAt k ps
  first_of to [] f (p, at, key) = absurd (none p at)
  first_of to (r ∷ ps) f (p, at, key) = elim (cases r p ps at) [
    | inl is ↦ ap (λ (y : TwigPiece). rank y.key) (sym is) ∙ key
    | inr more ↦
        let above = follow_above (piece_end r) to ps f.2 p more in
        let end = has_end r f.1 in
        let low = f.0 in
        absurd (omega (arith, above, end, low, key))
  ]

module _ (lo hi from to : ℕ) (ps : List TwigPiece) (follow : Follow lo hi ps) (low : lo ≤ from) (some : from < to) (high : to ≤ hi) (first : IsBorder from ps) (last : IsBorder to ps) where
  abbrev pp : List TwigPiece
  pp = parted_twice from to ps

  parts : AreSplit lo hi from to (parted_twice from to ps) (pieces_below from (parted_twice from to ps)) (pieces_between from to (parted_twice from to ps)) (pieces_behind to (parted_twice from to ps))
  parts = split lo hi from to ps follow low some high first last

  pub begins_there : (p : TwigPiece) → Contains ps p → rank p.key ≤ from → from < piece_end p → BeginsAt from (pieces_between from to (parted_twice from to ps))
  begins_there p at before behind =
      let (m, in_all, key) = keeps_first from to lo hi (parted from ps) (parted_follow from lo hi ps follow first) (border_again from to some lo hi ps follow first last) (has_first from lo hi ps follow first p at before behind) in
      first_of from to (pieces_between from to pp) parts.mid (
        m,
        elim (Contains-append_cases (pieces_below from pp) (pieces_between from to pp ++ pieces_behind to pp) m (subst (λ qs. Contains qs m) parts.is in_all)) [
          | inl below ↦ let n = take_below from pp m below in absurd (omega (arith, n, key))
          | inr rest ↦ elim (Contains-append_cases (pieces_between from to pp) (pieces_behind to pp) m rest) [
            | inl mid ↦ mid
            | inr end ↦ let a = follow_above to hi (pieces_behind to pp) parts.right m end in absurd (omega (arith, a, key, some))
          ]
        ],
        key,
      )
