-- A body that comes to extents: where it begins, how many blocks it has, and the pieces of its extent.
use Rattle.std.proofs.Common.{◌≡◌, ℕ, ◌+◌, ◌*◌, ◌^◌, ◌<◌, ◌≤◌, Bool, true, false, cond, [], List, refl, subst, ◌∙◌, arith, ltb-true}
use Rattle.std.specs.Prelude.{◌&&◌, ◌||◌, not, nat_lt}
use Rattle.r4_base.specs.Key.{offset_of, rank}
use Rattle.r4_base.specs.Volume.{blocks_for}
use Rattle.r4_base.specs.declared.key.Key.{Key}
use Rattle.r4_build.specs.r4_branch.Pieces.{Follow, names_of, next_of, units_of}
use Rattle.r4_build.specs.r4_branch.declared.piece.TwigPiece.{TwigPiece}
use Rattle.r4_content.specs.Edited.{Edits}
use Rattle.r4_extent_build.specs.Growing.{end_after}
use Rattle.r4_extent_build.specs.Numbering.{names_coming, with_numbers}
use Rattle.r4_extent_build.proofs.Numbers.{numbers_follow, numbers_next, numbers_units}
use Rattle.r4_extent_build.proofs.RunPieces.{AreFree, AreRuns, are_runs}
use Rattle.r4_build.specs.r4_reach.Needs.{gets_bytes, runs}
use Rattle.r4_build.specs.r4_reach.Touched.{Body, blocks_end, coming, first_byte}
use Rattle.r4_extent_turn.specs.Turning.{IsTurningBody, told_extent}

module _ (b : Body) (first : Key) (g : IsTurningBody b first) where
  pub turned : (b.in_extents ≡ false) × (16384 < b.now)
  turned = by_tests b.in_extents (nat_lt 16384 b.now) g.turns (λ h. ltb-true 16384 b.now h)
    where
      by_tests : (x y : Bool) → ((x || y) && not x) ≡ true → (y ≡ true → 16384 < b.now) → (x ≡ false) × (16384 < b.now)
      by_tests true y h up = absurd cc
      by_tests false true h up = (refl, up refl)
      by_tests false false h up = absurd cc

  pub coming_is : coming b ≡ (first_byte b, end_after b)
  coming_is = by_tests b.in_extents (nat_lt 16384 b.now) turned.0 g.turns
    where
      by_tests : (t l : Bool) → t ≡ false → ((t || l) && not t) ≡ true → ◌≡◌ {A = ℕ × ℕ} (cond (t || l) (cond t (blocks_end b b.was) (first_byte b), end_after b) (0, 0)) (first_byte b, end_after b)
      by_tests true l is_false on = absurd cc
      by_tests false true is_false on = refl
      by_tests false false is_false on = absurd cc

  abbrev pub count : ℕ
  count = blocks_for b.now

  pub some : 1 ≤ count
  some = let t = turned.1 in omega (arith, t)

  pub some_keys : first_byte b < end_after b
  some_keys = let s = some in omega (arith, s)

  pub fits : offset_of first + 4096 * count < 2 ^ 64
  fits = let o = g.key.begins in let n = g.sized.now in omega (arith, o, n)

  module _ (e : Edits) where
    free : (k n : ℕ) → AreFree [] k n
    free k n i lt = refl

    are : AreRuns [] first count (runs (gets_bytes b e) (rank first) count)
    are = let f = fits in are_runs [] (gets_bytes b e) count first g.key.key (omega (arith, f)) (free (rank first) count)

    pub told_are : AreRuns [] first count (told_extent b e)
    told_are = subst (λ (j : ℕ). AreRuns [] first count (runs (gets_bytes b e) j count)) g.key.at are

    pub told_follow : Follow (first_byte b) (end_after b) (told_extent b e)
    told_follow = subst (λ (j : ℕ). Follow j (j + 4096 * count) (told_extent b e)) g.key.at told_are.follow

    module _ (n : ℕ) (high : 2 ^ 63 ≤ n) where
      abbrev pub extent : List TwigPiece
      extent = with_numbers [] n (told_extent b e)

      pub extent_follow : Follow (first_byte b) (end_after b) extent
      extent_follow = numbers_follow [] n (first_byte b) (end_after b) (told_extent b e) high told_follow

      pub extent_next : (z : ℕ) → next_of z extent ≡ first_byte b
      extent_next z = numbers_next [] n z (told_extent b e) ∙ (told_are.some z some ∙ g.key.at)

      pub extent_names : (z : ℕ) → names_of z extent ≡ names_coming [] n (told_extent b e)
      extent_names z = told_are.names n z (omega (arith, high))

      pub extent_units : units_of extent ≡ units_of (told_extent b e)
      extent_units = numbers_units [] n (told_extent b e) (omega (arith, high))
