-- A root that is a twig of two holes is a path, and may be parted.
use Rattle.std.proofs.Common.{◌≡◌, ℕ, ◌<◌, ◌≤◌, false, slice_index_or, List, [], ◌∷◌, ◌++◌, length, refl, sym, ap, subst, arith}
use Rattle.std.specs.Prelude.{◌==◌, Contains}
use Rattle.std.proofs.Math.Dec.{lit<}
use Rattle.std.proofs.lemmas.Bool.{eq-eqb}
use Rattle.r4_base.specs.Key.{rank}
use Rattle.r4_base.specs.Tree.{Name, Root, Store}
use Rattle.r4_base.specs.Value.{Value}
use Rattle.r4_branch.specs.Pieces.{names_of, next_of, part_names}
use Rattle.r4_branch.specs.declared.piece.TwigPiece.{TwigPiece}
use Rattle.r4_cell.specs.Patch.{by_name}
use Rattle.r4_cell.specs.Seen.{CellSeen, node_of}
use Rattle.r4_cell.specs.declared.change.Fresh.{Fresh}
use Rattle.r4_path.specs.TwigPieces.{twig_pieces}
use Rattle.r4_path.specs.Nodes.{IsPointable}
use Rattle.r4_edit.specs.Splitting.{IsSplitIn, unit_count}
use Rattle.r4_edit_testing.specs.Trials.{AreTwoHoles, IsTwigOfHoles, low_root}
use Rattle.r4_patch.proofs.Members.{none}
use Rattle.r4_edit_testing.proofs.RootPart.{root_path}

-- the piece names nothing
abbrev pub IsHole : TwigPiece → Type 0
IsHole p = (next : ℕ) → part_names (rank p.key) next p.part ≡ []

pub two_holes : (ps : List TwigPiece) (d : TwigPiece) → 2 ≤ length ps → length ps < 3 → IsHole (slice_index_or ps 0 d)
    → IsHole (slice_index_or ps 1 d) → AreTwoHoles ps
unfolding names_of
two_holes [] d some few first second = absurd (omega (arith, some))
two_holes (p ∷ []) d some few first second = absurd (omega (arith, some))
two_holes (p ∷ (q ∷ [])) d some few first second = record {
  two = refl;
  names = λ hi i. first (next_of hi (q ∷ [])) i ++ (second hi i ++ []);
}
two_holes (p ∷ (q ∷ (r ∷ ps))) d some few first second = absurd (omega (arith, few))

module _ (twig : CellSeen) (is : IsTwigOfHoles twig) where
  no_name : (n : Name) → Contains (node_of twig).names n → ⊥
  no_name n at = none n (subst (λ ns. Contains ns n) is.names at)

  count : unit_count twig ≡ length (twig_pieces twig)
  count =
      let one : (twig.level == 1) ≡ false = ap (λ (l : ℕ). l == 1) is.level in
      let two = eq-eqb twig.level 2 is.level in
      rw (one, two) refl

  pub may_be_parted : (f : Fresh) → 23 ≤ f.next → (t : Store Value) × ((r : Root) × IsSplitIn t r (twig ∷ []) f)
  may_be_parted f next = (
    by_name (twig ∷ []),
    (
      low_root twig,
      record {
        path = root_path twig [] is.level is.lo is.hi is.node (λ c at. absurd (none c at)) (λ c at. absurd (none c at))
            (λ c at. absurd (none c at)) (λ n m at same e. absurd (no_name n at)) (λ n at. absurd (no_name n at)) 23
            (λ n at. absurd (no_name n at)) (let id = is.id in omega (arith, id)) f next
            (subst IsPointable (sym is.id) (lit< tt, refl));
        enough = (refl, (let level = is.level in omega (arith, level)));
        units = let c = count in let two = is.two in omega (arith, c, two);
      },
    ),
  )
