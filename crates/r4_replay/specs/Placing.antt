-- What putting transactions in place leaves.
use Rattle.std.specs.Prelude.{◌≡◌, ◌⊎◌, ℕ, List, Contains, map}
use Rattle.r4_base.specs.Image.{Image, block_at, put_pairs, AgreesOutside}
use Rattle.r4_base.specs.Chain.{Txn, chain_pairs, is_footer, committed, flushed}
use Rattle.r4_outside.specs.Device.{State, IsTorn}
use Rattle.r4_replay.specs.Replay.{footer_after}

abbrev pub IsOriginalOf : List (ℕ × ℕ) → ℕ → Type 0
IsOriginalOf ps b = Contains (map (λ p. p.0) ps) b

-- as it was outside the originals, or with all pairs in place and the footer torn
abbrev pub LeftByPut : List (ℕ × ℕ) → List ℕ → Image → Image → Type 0
LeftByPut ps footer base image = AgreesOutside (IsOriginalOf ps) base image ⊎ IsTorn 20 footer (put_pairs ps base) image

-- The device reads as the settled image but for the footer's block, which names the newest transaction; header and footer are equal.
pub record IsPlaced (old : State) (chain : List Txn) (new : State) : Type 0 where
  pub settled : AgreesOutside is_footer (put_pairs (chain_pairs chain) old.seen) new.seen
  pub footer : block_at new.seen 20 ≡ footer_after chain (block_at old.seen 20)
  pub equal : committed new.seen ≡ flushed new.seen
