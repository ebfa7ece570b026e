-- Where nothing is written.
use Rattle.std.proofs.Common.{◌≡◌, ℕ, refl, sym, subst}
use Rattle.r4_base.specs.Image.{Image}
use Rattle.r4_outside.specs.Device.{State, Goes, IsQuiet}
use Rattle.r4_outside.proofs.Moments.{one_left}
use Rattle.r4_replay.specs.Replay.{SettlesAlike, SettlesAlways}

pub settles_same : (n : ℕ) (base : Image) → SettlesAlike n base base
settles_same n base = record {
  settled = λ s is. record { settled = s; settles = is; agrees = record { blocks = refl; others = λ b out. refl } };
  refused = λ r is. is;
}

-- a quiet device on which nothing is written
pub idle_always : (old new : State) → Goes old new → new.clock ≡ old.clock → IsQuiet old → SettlesAlways old new
idle_always old new goes clock quiet = record {
  each = λ m image lo hi left. subst (λ (i : Image). SettlesAlike old.blocks old.seen i) (sym (one_left old new m image goes clock quiet lo hi left)) (settles_same old.blocks old.seen);
}
