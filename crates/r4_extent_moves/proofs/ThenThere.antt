-- What is to stand at the keys of a body, of which edits without bytes change none.
use Rattle.std.proofs.Common.{◌≡◌, inl, inr, ℕ, ◌<◌, ◌≤◌, Bool, true, false, cond, Some, None, refl, ap, arith}
use Rattle.std.specs.Prelude.{nat_lt, unwrap_or}
use Rattle.std.proofs.lemmas.Bool.{cases_Bool, lt-ltb, ltb-true}
use Rattle.r4_base.specs.Value.{Byte, Content, at_key}
use Rattle.r4_content.specs.Edited.{Edits, changed, is_in}
use Rattle.r4_applied.specs.r4_reach.Touched.{Body}
use Rattle.r4_applied.proofs.r4_sets.Carried.{not_both_ways}
use Rattle.r4_allowed.specs.r4_extent_change.Beside.{without_bytes}
use Rattle.r4_allowed.specs.r4_extent_change.r4_extent_blocks.Setting.{byte_set}
use Rattle.r4_allowed.specs.r4_extent_change.r4_extent_build.Growing.{end_after}
use Rattle.r4_extent_moves.specs.Moving.{body_then, byte_there, in_body}

module _ (b : Body) (e : Edits) (raw : Content) (k : ℕ) where
  then_is : (t : Bool) → nat_lt k (end_after b) ≡ t
      → body_then b e raw k ≡ cond t (Some (Byte (unwrap_or (byte_set e k) (byte_there (at_key raw k))), false)) None
  then_is t is = ap (λ (s : Bool). cond s (Some (Byte (unwrap_or (byte_set e k) (byte_there (at_key raw k))), false)) None) is

  -- up to the end of its blocks a byte, and nothing behind that
  pub some_then : k < end_after b → body_then b e raw k ≡ Some (Byte (unwrap_or (byte_set e k) (byte_there (at_key raw k))), false)
  some_then low = then_is true (lt-ltb k (end_after b) low)

  pub nothing_then : end_after b ≤ k → body_then b e raw k ≡ None
  nothing_then high = by (nat_lt k (end_after b)) refl
    where
      by : (t : Bool) → nat_lt k (end_after b) ≡ t → body_then b e raw k ≡ None
      by false is = then_is false is
      by true is = let low = ltb-true k (end_after b) is in absurd (omega (arith, low, high))

pub beside_off : (b : Body) (e : Edits) → ((k : ℕ) → is_in (changed (without_bytes e)) k ≡ true → in_body b k ≡ false)
    → (k : ℕ) → in_body b k ≡ true → is_in (changed (without_bytes e)) k ≡ false
beside_off b e beside k on = elim (cases_Bool (is_in (changed (without_bytes e)) k)) [
  | inl change ↦ absurd (not_both_ways on (beside k change))
  | inr off ↦ off
]
