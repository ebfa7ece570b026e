-- Blocks of a twig, of which all keys or none lie between two borders.
use Rattle.std.proofs.Common.{◌≡◌, ◌⊎◌, inl, inr, ℕ, zero, suc, ◌+◌, ◌*◌, ◌<◌, ◌≤◌, Bool, true, false, List, [], ◌∷◌}
use Rattle.std.proofs.Common.{◌++◌, sym, ap, subst, ◌∙◌, arith}
use Rattle.std.specs.Prelude.{Contains, if◌then◌else◌}
use Rattle.std.proofs.lemmas.List.Elements.{Contains-append_cases}
use Rattle.r4_base.specs.Cell.{run_names}
use Rattle.r4_base.specs.Extents.{is_hole}
use Rattle.r4_base.specs.Key.{rank}
use Rattle.r4_base.specs.Tree.{IsData, Name}
use Rattle.r4_work.specs.r4_branch.Pieces.{Follow, names_of, next_of, part_end, part_names, piece_end}
use Rattle.r4_work.specs.r4_branch.declared.piece.TwigPart.{TwigPart}
use Rattle.r4_work.specs.r4_branch.declared.piece.TwigPart.TheVariants.{Pointer, Blocks}
use Rattle.r4_work.specs.r4_branch.declared.piece.TwigPiece.{TwigPiece}
use Rattle.r4_work.specs.r4_cell.Seen.{CellSeen, node_of}
use Rattle.r4_work.specs.r4_graft.Splices.{IsBorder}
use Rattle.r4_work.proofs.r4_graft.Joined.{names_join, next_join}
use Rattle.r4_work.proofs.r4_graft.Placed.{first_or_later, follow_end, has_end, not_in_none}
use Rattle.r4_work.specs.r4_path.TwigPieces.{ArePiecesOf, twig_pieces}
use Rattle.r4_work.specs.r4_edit.CutBlocks.{parted_twice, pieces_behind, pieces_below, pieces_between}
use Rattle.r4_work.proofs.r4_edit.CutParts.{AreSplit, split, twice_names}

run_within : (k start count : ℕ) (n : Name) → Contains (run_names k start count) n → (k ≤ n.lo)
    × (n.hi ≤ k + 4096 * count)
run_within k start zero n at = absurd (not_in_none n at)
run_within k start (suc m) n at = elim (first_or_later _ _ n at) [
  | inl is ↦
      let lo : k ≡ n.lo = ap (λ (x : Name). x.lo) is in
      let hi : k + 4096 ≡ n.hi = ap (λ (x : Name). x.hi) is in
      (omega (arith, lo), omega (arith, hi))
  | inr more ↦ let r = run_within (k + 4096) (start + 1) m n more in (omega (arith, r), omega (arith, r))
]

part_within : (k next : ℕ) (t : TwigPart) (n : Name) → IsData n → Contains (part_names k next t) n → (k ≤ n.lo)
    × (n.hi ≤ part_end k t)
part_within k next (Pointer to) n block at = elim (first_or_later _ [] n at) [
  | inl is ↦ let l : 1 ≡ n.level = ap (λ (x : Name). x.level) is in absurd (omega (arith, l, block))
  | inr none ↦ absurd (not_in_none n none)
]
part_within k next (Blocks u) n block at = by_hole (is_hole u) at
  where
    by_hole : (t : Bool) → Contains (if t then [] else run_names k u.start u.width) n → (k ≤ n.lo)
        × (n.hi ≤ k + 4096 * u.width)
    by_hole true none = absurd (not_in_none n none)
    by_hole false here = run_within k u.start u.width n here

-- Blocks that pieces name lie within their range.
pub data_within : (from to h : ℕ) (ps : List TwigPiece) (n : Name) → Follow from to ps → IsData n
    → Contains (names_of h ps) n → (from ≤ n.lo) × (n.hi ≤ to)
unfolding names_of
data_within from to h [] n f block at = absurd (not_in_none n at)
data_within from to h (p ∷ ps) n f block at = elim (Contains-append_cases (part_names (rank p.key)
    (next_of h ps) p.part) (names_of h ps) n at) [
      | inl mine ↦
          let r = part_within (rank p.key) (next_of h ps) p.part n block mine in
          let low = f.0 in
          let e = follow_end (piece_end p) to ps f.2 in
          (omega (arith, r, low), omega (arith, r, e))
      | inr more ↦
          let r = data_within (piece_end p) to h ps n f.2 block more in
          let low = f.0 in
          let e = has_end p f.1 in
          (omega (arith, r, low, e), r.1)
    ]

module _ (twig : CellSeen) (are : ArePiecesOf twig (twig_pieces twig)) (from to : ℕ) (low : rank twig.lo ≤ from)
    (some : from < to)
    (high : to ≤ rank twig.hi) (one : IsBorder from (twig_pieces twig)) (two : IsBorder to (twig_pieces twig)) where
  abbrev lo : ℕ
  lo = rank twig.lo

  abbrev hi : ℕ
  hi = rank twig.hi

  abbrev ps : List TwigPiece
  ps = twig_pieces twig

  abbrev pp : List TwigPiece
  pp = parted_twice from to ps

  abbrev xs : List TwigPiece
  xs = pieces_below from pp

  abbrev ms : List TwigPiece
  ms = pieces_between from to pp

  abbrev ys : List TwigPiece
  ys = pieces_behind to pp

  s : AreSplit lo hi from to pp xs ms ys
  s = split lo hi from to ps are.pieces.follow low some high one two

  names_are : (node_of twig).names ≡ names_of (next_of (next_of hi ys) ms) xs ++ (names_of (next_of hi ys) ms
      ++ names_of hi ys)
  names_are =
      sym (twice_names lo hi from to ps are.pieces.follow low some high one two hi ∙ are.names)
      ∙ (ap (names_of hi) s.is ∙ (names_join hi xs (ms ++ ys)
      ∙ (λ i. names_of (next_join hi ms ys i) xs ++ names_join hi ms ys i)))

  pub whole_blocks : (n : Name) → Contains (node_of twig).names n → IsData n → ((n.hi ≤ from) ⊎ (to ≤ n.lo))
      ⊎ ((from ≤ n.lo) × (n.hi ≤ to))
  whole_blocks n at block = elim (Contains-append_cases (names_of (next_of (next_of hi ys) ms) xs) (names_of
      (next_of hi ys) ms ++ names_of hi ys) n (subst (λ ns. Contains ns n) names_are at)) [
        | inl left ↦ inl (inl (data_within lo from (next_of (next_of hi ys) ms) xs n s.left block left).1)
        | inr more ↦ elim (Contains-append_cases (names_of (next_of hi ys) ms) (names_of hi ys) n more) [
          | inl mine ↦ inr (data_within from to (next_of hi ys) ms n s.mid block mine)
          | inr behind ↦ inl (inr (data_within to hi hi ys n s.right block behind).0)
        ]
      ]
