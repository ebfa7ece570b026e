use Rattle.std.proofs.Common.{◌≡◌, inl, inr, ◌+◌, ◌-◌, ◌*◌, ◌/◌, ◌<◌, ℕ, ◌&&◌, None, Some, refl, ◌∙◌}
use Rattle.std.specs.Prelude.{nat_lt, if◌then◌else◌}
use Rattle.std.proofs.lemmas.Bool.{cases_lt, lt-ltb, le-ltb}
use Rattle.r4_base.specs.Key.{rank}
use Rattle.r4_graft.proofs.parting.blocks_before.Goals as goal

not_within : (k e w : ℕ) → (k < e → e < k + 4096 * w → ⊥) → None ≡ (if nat_lt k e && nat_lt e (k + 4096 * w) then Some ((e - k) / 4096) else None)
not_within k e w never = elim (cases_lt k e) [
  | inl lt ↦ elim (cases_lt e (k + 4096 * w)) [
    | inl high ↦ absurd (never lt high)
    | inr ge ↦ rw (lt-ltb k e lt, le-ltb e (k + 4096 * w) ge) refl
  ]
  | inr ge ↦ rw (le-ltb k e ge) refl
]

pub returns-in_err-bytes : goal.returns-in_err-bytes
returns-in_err-bytes c = c.from_residual.ensures ∙ not_within (rank c.args.key.now) (rank c.args.end.now) c.args.width (λ low high. c.in_err-bytes.ensures.none refl (4096 * c.args.width) c.requires low high)
