-- The twigs of a slum, and the first of its cells.
use Rattle.std.proofs.Common.{◌≡◌, ℕ, suc, ◌-◌, ◌<◌, ◌≤◌, List, [], ◌∷◌, map, get_or, length, sym, ap, subst, ◌∙◌, arith}
use Rattle.r4_base.specs.Key.{rank}
use Rattle.r4_base.specs.Node.{mkfs_id_of}
use Rattle.r4_branch.specs.Pieces.{AreTwigPieces}
use Rattle.r4_branch.specs.Twigs.{AreFewTwigs, PacksTwigs}
use Rattle.r4_branch.specs.declared.piece.TwigPiece.{TwigPiece}
use Rattle.r4_branch.specs.declared.twig.Twig.{Twig}
use Rattle.r4_cell.specs.Seen.{CellSeen}
use Rattle.r4_path.specs.Grafts.{TwigsHaveMkfsId}
use Rattle.r4_path.specs.Steps.{Follow}
use Rattle.r4_rows.proofs.SlumPieces.{twig_pieces}
use Rattle.r4_rows.specs.Fewest.{joined}
use Rattle.r4_rows.specs.Packed.{AreTheirPieces}
use Rattle.r4_squeeze.specs.Packing.{PacksSlumTwigs, filled_twig, first_mkfs_id}
use Rattle.r4_squeeze.specs.declared.filled.Filled.{Filled}

-- the first of cells that share out a range that is not empty
pub split_first : {A : Type 0} (f : A → CellSeen) (level from to : ℕ) (xs : List A) (x : A) → x ≡ get_or xs 0 x
    → Follow level from to (map f xs) → from < to → (rest : List A) × (xs ≡ x ∷ rest)
split_first f level from to [] x is follow lt = absurd (omega (arith, follow, lt))
split_first f level from to (y ∷ ys) x is follow lt = (ys, ap (λ z. z ∷ ys) (sym is))

pub first_lo : {A : Type 0} (f : A → CellSeen) (level from to : ℕ) (xs : List A) (x : A) → x ≡ get_or xs 0 x
    → Follow level from to (map f xs) → from < to → rank (f x).lo ≡ from
first_lo f level from to [] x is follow lt = absurd (omega (arith, follow, lt))
first_lo f level from to (y ∷ ys) x is follow lt = ap (λ z. rank (f z).lo) is ∙ follow.1

pub first_id : {A : Type 0} (f : A → CellSeen) (level from to : ℕ) (xs : List A) (x : A) → x ≡ get_or xs 0 x
    → Follow level from to (map f xs) → from < to → mkfs_id_of (f x).block ≡ first_mkfs_id (map f xs)
first_id f level from to [] x is follow lt = absurd (omega (arith, follow, lt))
first_id f level from to (y ∷ ys) x is follow lt = ap (λ z. mkfs_id_of (f z).block) is

module _ (slum : List CellSeen) (from to lo : ℕ) (each : List (List TwigPiece)) (ps : List TwigPiece)
    (theirs : AreTheirPieces slum each) (all : ps ≡ joined each) (begin : lo ≡ from) (follow : Follow 2 from to slum)
    (less : from < to) where
  pub slum_twig_pieces : AreTwigPieces lo to ps
  slum_twig_pieces = subst (λ k. AreTwigPieces k to ps) (sym begin)
      (subst (AreTwigPieces from to) (sym all) (twig_pieces slum from to each follow less theirs))

  pub slum_twigs : (twigs : List Twig) (m : ℕ) (filled : List Filled)
      → ((hi : ℕ) → AreTwigPieces lo hi ps → PacksTwigs lo hi ps twigs) → AreFewTwigs ps twigs
      → TwigsHaveMkfsId m twigs → m ≡ first_mkfs_id slum → filled ≡ map filled_twig twigs
      → PacksSlumTwigs from to slum filled
  slum_twigs twigs m filled packs few have same is = record {
    each = each;
    pieces = theirs;
    twigs = twigs;
    are = is;
    packs = subst (λ k. PacksTwigs k to (joined each) twigs) begin
        (subst (λ qs. PacksTwigs lo to qs twigs) all (packs to slum_twig_pieces));
    few = subst (λ qs. AreFewTwigs qs twigs) all few;
    mkfs_id = subst (λ n. TwigsHaveMkfsId n twigs) same have;
  }

pub first_level_is : {A : Type 0} (f : A → CellSeen) (level from to : ℕ) (xs : List A) (x : A) → x ≡ get_or xs 0 x
    → Follow level from to (map f xs) → from < to → (f x).level ≡ level
first_level_is f level from to [] x is follow lt = absurd (omega (arith, follow, lt))
first_level_is f level from to (y ∷ ys) x is follow lt = ap (λ z. (f z).level) is ∙ follow.0

-- where the last of them ends
pub last_hi : {A : Type 0} (f : A → CellSeen) (level from to : ℕ) (xs : List A) (x : A) → x ≡ get_or xs (length xs - 1) x
    → Follow level from to (map f xs) → from < to → rank (f x).hi ≡ to
last_hi f level from to [] x is follow lt = absurd (omega (arith, follow, lt))
last_hi f level from to (y ∷ []) x is follow lt = ap (λ z. rank (f z).hi) is ∙ follow.3
last_hi f level from to (y ∷ (z ∷ ys)) x is follow lt =
    last_hi f level (rank (f y).hi) to (z ∷ ys) x
    (is ∙ ap (λ k. get_or (y ∷ (z ∷ ys)) k x) (let step : length (y ∷ (z ∷ ys)) - 1 ≡ suc (length (z ∷ ys) - 1) = omega arith in step))
    follow.3 (rises level (rank (f y).hi) to (map f (z ∷ ys)) follow.3 (omega arith))
  where
    rises : (level lo hi : ℕ) (cs : List CellSeen) → Follow level lo hi cs → 1 ≤ length cs → lo < hi
    rises level lo hi [] follow some = absurd (omega (arith, some))
    rises level lo hi (c ∷ []) follow some = let lt = follow.2 in let end = follow.3 in omega (arith, lt, end)
    rises level lo hi (c ∷ (d ∷ cs)) follow some =
        let lt = follow.2 in
        let more = rises level (rank c.hi) hi (d ∷ cs) follow.3 (omega arith) in
        omega (arith, lt, more)
