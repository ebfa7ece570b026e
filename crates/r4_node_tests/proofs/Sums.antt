-- How many blocks units have, one unit after the other.
use Rattle.std.proofs.Common.{◌≡◌, ℕ, zero, suc, ◌+◌, List, [], ◌∷◌, take, Some, ap, arith, add-one}
use Rattle.std.specs.Prelude.{slice_get}
use Rattle.r4_base.specs.declared.items.Unit.{Unit as ExtentUnit}
use Rattle.r4_base.specs.Extents.{blocks_in}

blocks_next : (us : List ExtentUnit) (i : ℕ) (u : ExtentUnit) → slice_get us i ≡ Some u → blocks_in (take (suc i) us) ≡ blocks_in (take i us) + u.width
blocks_next [] i u e = absurd (cc e)
blocks_next (v ∷ us) zero u e = let same : v ≡ u = cc e in let width = ap (λ (x : ExtentUnit). x.width) same in omega (arith, width)
blocks_next (v ∷ us) (suc i) u e = let ih = blocks_next us i u e in omega (arith, ih)

pub blocks_more : (us : List ExtentUnit) (i : ℕ) (u : ExtentUnit) → slice_get us i ≡ Some u → blocks_in (take (i + 1) us) ≡ blocks_in (take i us) + u.width
blocks_more us i u e = rw add-one (blocks_next us i u e)
