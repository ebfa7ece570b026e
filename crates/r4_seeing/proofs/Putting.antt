-- Parts that are put among others one by one, the last one first.
use Rattle.std.proofs.Common.{◌≡◌, ℕ, ◌+◌, ◌≤◌, List, [], ◌∷◌, ◌++◌, drop, length, take}
use Rattle.r4_content.specs.declared.seen.SeenPart.{SeenPart}

-- Some of them stand at the place already; the others come before these.
pub record IsPutting (at : ℕ) (old all now rest : List SeenPart) : Type 0 where
  pub put : List SeenPart
  pub within : at ≤ length old
  pub parts : now ≡ take at old ++ (put ++ drop at old)
  pub left : all ≡ rest ++ put
