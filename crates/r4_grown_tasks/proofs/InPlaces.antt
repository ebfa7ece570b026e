-- A key that lies in one of the ranges lies in a data block, or in a hole or among the blocks that
-- come of a twig whose pieces change.
use Rattle.std.proofs.Common.{◌≡◌, ◌⊎◌, inl, inr, ℕ, ◌+◌, ◌*◌, ◌^◌, Bool, true, false, List, [], ◌∷◌}
use Rattle.std.proofs.Common.{refl, sym, ap, ◌∙◌, None, Some}
use Rattle.std.specs.Prelude.{Contains, ◌==◌, ◌&&◌, ◌||◌, nat_lt, if◌then◌else◌}
use Rattle.std.specs.List.{flat_map}
use Rattle.std.proofs.Math.Bool.{or-false}
use Rattle.std.proofs.lemmas.Bool.{and_from, eqb-true, or_cases}
use Rattle.r4_base.specs.Key.{offset_of, rank}
use Rattle.r4_base.specs.declared.key.Key.{Key}
use Rattle.r4_content.specs.Edited.{Edits, Intervals, is_between, is_in}
use Rattle.r4_content.proofs.EditLaws.{in_append}
use Rattle.r4_lost_tasks.specs.r4_extent_growth.r4_extent_build.Growing.{end_after, end_before}
use Rattle.r4_lost_tasks.specs.r4_extent_growth.r4_extent_build.Setting.{in_coming, in_hole_of, is_hole_of}
use Rattle.r4_lost_tasks.specs.r4_extent_growth.r4_extent_change.Beside.{is_turning, turning_among}
use Rattle.r4_lost_tasks.specs.r4_extent_growth.r4_extent_change.r4_extent_renew.Overwriting.{blocks_among, in_blocks}
use Rattle.r4_lost_tasks.specs.r4_extent_growth.r4_measure.r4_branch.Pieces.{open_end, piece_end}
use Rattle.r4_lost_tasks.specs.r4_extent_growth.r4_measure.r4_branch.declared.piece.TwigPart.{TwigPart}
use Rattle.r4_lost_tasks.specs.r4_extent_growth.r4_measure.r4_branch.declared.piece.TwigPart.TheVariants.{Blocks, Pointer}
use Rattle.r4_lost_tasks.specs.r4_extent_growth.r4_measure.r4_branch.declared.piece.TwigPiece.{TwigPiece}
use Rattle.r4_lost_tasks.specs.r4_extent_growth.r4_measure.r4_cell.Seen.{CellSeen}
use Rattle.r4_lost_tasks.specs.r4_extent_growth.r4_measure.r4_path.TwigPieces.{twig_pieces}
use Rattle.r4_lost_tasks.specs.r4_extent_growth.r4_measure.r4_reach.Touched.{Body, coming}
use Rattle.r4_lost_tasks.proofs.r4_extent_growth.r4_extent_change.Chosen.{kept_in}
use Rattle.r4_lost_tasks.proofs.r4_extent_growth.r4_extent_change.r4_extent_build.r4_extent_demands.PutsInto.{any_there}
use Rattle.r4_lost_tasks.proofs.r4_extent_growth.r4_extent_change.r4_extent_build.r4_patch.Members.{here, later}
use Rattle.r4_grown_tasks.specs.Places.{cell_ranges, coming_range, hole_range, places, still, still_ranges}
use Rattle.r4_grown_tasks.specs.Places.{twig_ranges, up_to}

no_true : false ≡ true → ⊥
no_true e = cc

alone : (p : Bool) → (p || false) ≡ true → p ≡ true
alone p e = sym (or-false p) ∙ e

-- a key in the ranges of some is in those of one of them
pub of_one : {X : Type 0} (f : X → Intervals) (xs : List X) (k : ℕ) → is_in (flat_map f xs) k ≡ true
    → (x : X) × Contains xs x × (is_in (f x) k ≡ true)
of_one f [] k on = absurd (no_true on)
of_one f (x ∷ xs) k on = elim (or_cases (is_in (f x) k) (is_in (flat_map f xs) k) (sym (in_append (f x) (flat_map f xs) k) ∙ on)) [
  | inl own ↦ (x, here x xs, own)
  | inr rest ↦ let (y, has, at) = of_one f xs k rest in (y, later x y xs has, at)
]

-- one in a hole's range is in the hole
in_hole : (b : Body) (p : TwigPiece) (k : ℕ) → is_in (hole_range b p) k ≡ true
    → (is_hole_of b p && is_between (rank p.key) (piece_end p) k) ≡ true
in_hole b p k on = by (is_hole_of b p) refl on
  where
    ends : (key : Key) (t : TwigPart) → is_in (up_to (rank key) (open_end (record { key = key; part = t }))) k ≡ true
        → is_between (rank key) (piece_end (record { key = key; part = t })) k ≡ true
    ends key (Pointer to) at = absurd (no_true at)
    ends key (Blocks u) at = by_end (nat_lt (offset_of key + 4096 * u.width) (2 ^ 64)) at
      where
        by_end : (t : Bool) → is_in (up_to (rank key) (if t then Some (rank key + 4096 * u.width) else None)) k ≡ true
            → is_between (rank key) (rank key + 4096 * u.width) k ≡ true
        by_end true here_on = alone (is_between (rank key) (rank key + 4096 * u.width) k) here_on
        by_end false here_on = absurd (no_true here_on)

    by : (t : Bool) → is_hole_of b p ≡ t → is_in (if t then up_to (rank p.key) (open_end p) else []) k ≡ true
        → (is_hole_of b p && is_between (rank p.key) (piece_end p) k) ≡ true
    by true hole at = and_from (is_hole_of b p) (is_between (rank p.key) (piece_end p) k) hole (ends p.key p.part at)
    by false other at = absurd (no_true at)

module _ (b : Body) (e : Edits) (come : coming b ≡ (end_before b, end_after b)) where
  coming_in : (c : CellSeen) (k : ℕ) → is_in (coming_range b c) k ≡ true → in_coming b c k ≡ true
  coming_in c k on = by (is_between (rank c.lo) (rank c.hi) (coming b).0) refl on
    where
      by : (t : Bool) → is_between (rank c.lo) (rank c.hi) (coming b).0 ≡ t
          → is_in (if t then coming b ∷ [] else []) k ≡ true → in_coming b c k ≡ true
      by true inside at =
          and_from (is_between (rank c.lo) (rank c.hi) (end_before b)) (is_between (end_before b) (end_after b) k)
          (ap (λ (r : ℕ × ℕ). is_between (rank c.lo) (rank c.hi) r.0) (sym come) ∙ inside)
          (ap (λ (r : ℕ × ℕ). is_between r.0 r.1 k) (sym come) ∙ alone (is_between (coming b).0 (coming b).1 k) at)
      by false other at = absurd (no_true at)

  in_twig : (c : CellSeen) (k : ℕ) → is_in (twig_ranges b c) k ≡ true
      → (in_hole_of b (twig_pieces c) k ≡ true) ⊎ (in_coming b c k ≡ true)
  in_twig c k on = elim (or_cases (is_in (flat_map (hole_range b) (twig_pieces c)) k) (is_in (coming_range b c) k)
      (sym (in_append (flat_map (hole_range b) (twig_pieces c)) (coming_range b c) k) ∙ on)) [
        | inr at ↦ inr (coming_in c k at)
        | inl holes ↦
            let (p, has, at) = of_one (hole_range b) (twig_pieces c) k holes in
            inl (any_there (λ (q : TwigPiece). is_hole_of b q && is_between (rank q.key) (piece_end q) k) (twig_pieces c) p
            has (in_hole b p k at))
      ]

  pub in_place : (cells : List CellSeen) (k : ℕ) → is_in (places b e cells) k ≡ true
      → (in_blocks (blocks_among cells) k ≡ true)
      ⊎ ((c : CellSeen) × Contains (turning_among b e cells) c
      × ((in_hole_of b (twig_pieces c) k ≡ true) ⊎ (in_coming b c k ≡ true)))
  in_place cells k on =
      let (c, has, at) = of_one (cell_ranges b e) cells k on in
      by_level c has (c.level == 0) refl at
    where
      by_turn : (c : CellSeen) → Contains cells c → (t : Bool) → is_turning b e c ≡ t
          → is_in (if t then twig_ranges b c else []) k ≡ true
          → (c : CellSeen) × Contains (turning_among b e cells) c
          × ((in_hole_of b (twig_pieces c) k ≡ true) ⊎ (in_coming b c k ≡ true))
      by_turn c has true turns at = (c, kept_in (is_turning b e) cells c turns has, in_twig c k at)
      by_turn c has false other at = absurd (no_true at)

      by_level : (c : CellSeen) → Contains cells c → (t : Bool) → (c.level == 0) ≡ t
          → is_in (if t then (rank c.lo, rank c.hi) ∷ [] else (if is_turning b e c then twig_ranges b c else [])) k ≡ true
          → (in_blocks (blocks_among cells) k ≡ true)
          ⊎ ((c : CellSeen) × Contains (turning_among b e cells) c
          × ((in_hole_of b (twig_pieces c) k ≡ true) ⊎ (in_coming b c k ≡ true)))
      by_level c has true block at =
          inl (any_there (λ (d : CellSeen). is_between (rank d.lo) (rank d.hi) k) (blocks_among cells) c
          (kept_in (λ (d : CellSeen). d.level == 0) cells c block has) (alone (is_between (rank c.lo) (rank c.hi) k) at))
      by_level c has false other at = inr (by_turn c has (is_turning b e c) refl at)

-- ---- a key in a hole of a twig that is only read

pub in_still : (b : Body) (reads : List CellSeen) (k : ℕ) → is_in (still b reads) k ≡ true
    → (c : CellSeen) × Contains reads c × (c.level ≡ 2) × (in_hole_of b (twig_pieces c) k ≡ true)
in_still b reads k on = let (c, has, at) = of_one (still_ranges b) reads k on in by c has (c.level == 2) refl at
  where
    by : (c : CellSeen) → Contains reads c → (t : Bool) → (c.level == 2) ≡ t
        → is_in (if t then flat_map (hole_range b) (twig_pieces c) else []) k ≡ true
        → (c : CellSeen) × Contains reads c × (c.level ≡ 2) × (in_hole_of b (twig_pieces c) k ≡ true)
    by c has false other at = absurd (no_true at)
    by c has true level at =
        let (p, among, inside) = of_one (hole_range b) (twig_pieces c) k at in (
          c,
          has,
          eqb-true c.level 2 level,
          any_there (λ (q : TwigPiece). is_hole_of b q && is_between (rank q.key) (piece_end q) k) (twig_pieces c) p among
              (in_hole b p k inside),
        )
