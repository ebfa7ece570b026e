-- A crash may leave just one of the writes that are not synced.
use Rattle.std.proofs.Common.{◌≡◌, ℕ, ◌<◌, List, [], set, sym, ap, ◌∙◌, subst, arith, inl, inr, get_or-set_same}
use Rattle.std.proofs.Common.{get_or-set_other}
use Rattle.std.specs.Prelude.{Contains}
use Rattle.std.proofs.lemmas.Bool.{cases_eq}
use Rattle.std.proofs.lemmas.List.{length-set}
use Rattle.r4_base.specs.Image.{Image, IsBlock, IsImage, block_at, sector}
use Rattle.r4_wander.specs.Torn.{IsTornBy, Write}

module _ (n : ℕ) (ws : List Write) (base : Image) (at : ℕ) (x : List ℕ) (whole : IsImage n base) (lt : at < n) where
  pub written : block_at (set base at x) at ≡ x
  written = get_or-set_same base at x [] (omega (arith, lt, whole.blocks))

  others : (b : ℕ) → (b ≡ at → ⊥) → block_at (set base at x) b ≡ block_at base b
  others b apart = get_or-set_other base at b x [] apart

  pub one_write : Contains ws (at, x) → IsBlock x → IsTornBy ws base (set base at x)
  one_write one block = record {
    blocks = length-set base at x;
    whole = λ b inside. elim (cases_eq b at) [
      | inl is ↦ subst IsBlock (sym (ap (λ (k : ℕ). block_at (set base at x) k) is ∙ written)) block
      | inr apart ↦
          subst IsBlock (sym (others b apart)) (whole.whole b (subst (λ (k : ℕ). b < k) whole.blocks inside))
    ];
    sectors = λ b s inside ls. elim (cases_eq b at) [
      | inl is ↦ inr (
        (at, x),
        one,
        is,
        ap (λ (y : List ℕ). sector y s) (ap (λ (k : ℕ). block_at (set base at x) k) is ∙ written),
      )
      | inr apart ↦ inl (ap (λ (y : List ℕ). sector y s) (others b apart))
    ];
  }
