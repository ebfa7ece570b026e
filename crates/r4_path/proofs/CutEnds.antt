-- Where an extent ends that more may continue.
use Rattle.std.proofs.Common.{◌≡◌, ℕ, ◌+◌, ◌*◌, ◌^◌, ◌<◌, true, false, List, [], ◌∷◌, ◌++◌, refl, sym, ap, ◌∙◌}
use Rattle.std.specs.Prelude.{Option, None, Some, nat_lt, if◌then◌else◌}
use Rattle.std.proofs.lemmas.Bool.{lt-ltb}
use Rattle.r4_base.specs.Key.{offset_of, rank}
use Rattle.r4_base.specs.declared.items.Unit.{Unit as ExtentUnit}
use Rattle.r4_graft.specs.r4_branch.Pieces.{is_at, last_end, names_of, open_end, part_names}
use Rattle.r4_graft.specs.r4_branch.declared.piece.TwigPart.{TwigPart}
use Rattle.r4_graft.specs.r4_branch.declared.piece.TwigPart.TheVariants.{Pointer, Blocks}
use Rattle.r4_graft.specs.r4_branch.declared.piece.TwigPiece.{TwigPiece}

open_by : (offset key : ℕ) → TwigPart → Option ℕ
open_by o j (Pointer to) = None
open_by o j (Blocks u) = if nat_lt (o + 4096 * u.width) (2 ^ 64) then Some (j + 4096 * u.width) else None

open_is : (p : TwigPiece) → open_end p ≡ open_by (offset_of p.key) (rank p.key) p.part
unfolding open_by
open_is p = refl

pub open_within : (p : TwigPiece) (u : ExtentUnit) → p.part ≡ Blocks u → offset_of p.key + 4096 * u.width < 2 ^ 64 → open_end p ≡ Some (rank p.key + 4096 * u.width)
unfolding open_by
open_within p u is lt = open_is p ∙ (ap (open_by (offset_of p.key) (rank p.key)) is ∙ (rw (lt-ltb (offset_of p.key + 4096 * u.width) (2 ^ 64) lt) refl))

-- What stands before an extent's end names the same, wherever the next piece begins.
pub open_names : (k : ℕ) (before : Option ℕ) (xs : List TwigPiece) → is_at (last_end before xs) k ≡ true → (i j : ℕ) → names_of i xs ≡ names_of j xs
unfolding names_of open_by
open_names k before [] ends i j = refl
open_names k before (x ∷ []) ends i j = by_part x.part refl
  where
    by_part : (t : TwigPart) → t ≡ x.part → part_names (rank x.key) i x.part ++ [] ≡ part_names (rank x.key) j x.part ++ []
    by_part (Blocks u) is = (λ h. part_names (rank x.key) i (sym is h) ++ []) ∙ (λ h. part_names (rank x.key) j (is h) ++ [])
    by_part (Pointer to) is =
        let none : open_end x ≡ None = open_is x ∙ ap (open_by (offset_of x.key) (rank x.key)) (sym is) in
        let e : false ≡ true = sym (ap (λ o. is_at o k) none) ∙ ends in
        absurd cc
open_names k before (x ∷ (y ∷ xs)) ends i j = ap (λ ns. part_names (rank x.key) (rank y.key) x.part ++ ns) (open_names k (open_end x) (y ∷ xs) ends i j)
