-- A small commit: one pair, on an image of zeros but for the block of its original, in which nothing is unflushed.
use Rattle.std.proofs.Common.{◌≡◌, ◌≢◌, ℕ, zero, suc, ◌^◌, ◌<◌, ◌≤◌, List, [], length, replicate, set, None, Some}
use Rattle.std.proofs.Common.{refl, sym, ap, ◌∙◌, subst, arith, inl, inr, get_or-set_same, get_or-set_other}
use Rattle.std.proofs.lemmas.Bool.{cases_eq}
use Rattle.std.proofs.lemmas.List.{length-set, length-replicate, get_or-replicate}
use Rattle.std.proofs.lemmas.List.Elements.{All-cons, All-nil}
use Rattle.r4_base.specs.Image.{Image, IsBlock, IsImage, block_at}
use Rattle.r4_base.specs.Bytes.{number_at}
use Rattle.r4_base.specs.Chain.{committed, flushed}
use Rattle.r4_base.specs.Log.{footer_fields, footer_of, head_of, header_fields, header_of, record_block, record_of}
use Rattle.r4_base.proofs.Numbers.{number_at-lt}
use Rattle.r4_logfmt.proofs.Again.{record_again}
use Rattle.r4_logfmt.proofs.Fields.{length-put_all}
use Rattle.r4_logfmt.proofs.Laws.{footer_again, head_again, header_again}
use Rattle.r4_wander.specs.Seen.{Copy}
use Rattle.r4_wander.specs.Torn.{Write}
use Rattle.r4_wander.specs.Safe.{IsEncoded, IsSafe}
use Rattle.r4_wander.specs.declared.plan.LogPlan.{LogPlan}
use Rattle.r4_wander.specs.LogPlan.{footer_bytes, footer_says, header_bytes, header_says, head_says, record_says}
use Rattle.r4_wander.proofs.Instance.{can_be_written, is_safe, one_pair}
use Rattle.r4_wander.proofs.Written.{is_encoded}

abbrev pub zeros : List ℕ
zeros = replicate 4096 0

abbrev pub ones : List ℕ
ones = replicate 4096 1

pub whole_zeros : IsBlock zeros
whole_zeros = length-replicate 4096 zero

pub whole_ones : IsBlock ones
whole_ones = let one : ℕ = 1 in length-replicate 4096 one

unfoldable pub image : ℕ → (x y : List ℕ) → Image
image n x y = set (replicate n x) 17 y

module _ (n : ℕ) (x y : List ℕ) (more : 64 ≤ n) where
  long : length (image n x y) ≡ n
  unfolding image
  long = length-set (replicate n x) 17 y ∙ length-replicate n x

  pub other : (b : ℕ) → b < n → b ≢ 17 → block_at (image n x y) b ≡ x
  unfolding image
  other b lt apart = get_or-set_other (replicate n x) 17 b y [] apart ∙ get_or-replicate n b x [] lt

  pub original : block_at (image n x y) 17 ≡ y
  unfolding image
  original = get_or-set_same (replicate n x) 17 y [] (omega (arith, more, length-replicate n x))

  pub is_image : IsBlock x → IsBlock y → IsImage n (image n x y)
  is_image whole_x whole_y = record {
    blocks = long;
    whole = λ b lt. elim (cases_eq b 17) [
      | inl is ↦ subst IsBlock (sym (ap (λ (k : ℕ). block_at (image n x y) k) is ∙ original)) whole_y
      | inr apart ↦ subst IsBlock (sym (other b lt apart)) whole_x
    ];
  }

  -- the journal header and the journal footer name the same
  header_is : committed (image n x y) ≡ number_at 8 0 x
  unfolding header_of
  header_is = ap (number_at 8 0) (other 19 (omega (arith, more)) (λ is. absurd (omega (arith, is))))

  pub footer_is : flushed (image n x y) ≡ number_at 8 0 x
  unfolding footer_of
  footer_is = ap (number_at 8 0) (other 20 (omega (arith, more)) (λ is. absurd (omega (arith, is))))

  pub even : committed (image n x y) ≡ flushed (image n x y)
  even = header_is ∙ sym footer_is

-- ---- the plan reads back

abbrev IsFit : ℕ × ℕ → Type 0
IsFit p = (p.0 ≢ 0) × (p.0 < 2 ^ 64) × (p.1 < 2 ^ 64)

pub code : (prev : ℕ) → prev < 2 ^ 64 → IsEncoded (one_pair prev)
unfolding header_bytes footer_bytes head_says record_says
code prev small =
    let p = one_pair prev in
    is_encoded p (can_be_written prev) records
    (head_again (head_says p) (
      omega arith,
      (
        omega arith,
        (
          omega arith,
          (
            small,
            (
              omega arith,
              (
                omega arith,
                (omega arith, (omega arith, tt)),
              ),
            ),
          ),
        ),
      ),
    ))
    (header_again (header_says p) zeros (omega (arith, whole_zeros)) (omega arith, tt))
    (length-put_all (header_fields (header_says p)) 0 zeros (omega (arith, whole_zeros)) ∙ whole_zeros)
    (footer_again (footer_says p) zeros (omega (arith, whole_zeros)) (
      omega arith,
      (
        omega arith,
        (
          omega arith,
          (omega arith, tt),
        ),
      ),
    ))
    (length-put_all (footer_fields (footer_says p)) 0 zeros (omega (arith, whole_zeros)) ∙ whole_zeros)
    (All-nil (λ (w : Write). IsBlock w.1))
    (All-cons (λ (w : Copy). IsBlock w.block) _ [] whole_zeros (All-nil (λ (w : Copy). IsBlock w.block)))
  where
    one_record : record_of (record_block (record_says (one_pair prev) 0)) ≡ Some (record_says (one_pair prev) 0)
    one_record =
        record_again (record_says (one_pair prev) 0) (omega arith, (omega arith, (omega arith, (omega arith, tt))))
        (All-cons IsFit (17, 24) [] ((λ is. absurd (omega (arith, is))), omega arith, omega arith) (All-nil IsFit))
        (omega arith)

    records : (k : ℕ) → k < 1 → record_of (record_block (record_says (one_pair prev) k)) ≡ Some (record_says
        (one_pair prev) k)
    records zero lt = one_record
    records (suc k) lt = absurd (omega arith)

pub no_head : head_of zeros ≡ None
unfolding head_of
no_head = refl

pub no_number : number_at 8 0 zeros ≡ 0
unfolding number_at
no_number = refl

-- the small image, and its plan
abbrev pub small : Image
small = image 64 zeros ones

abbrev pub small_plan : LogPlan
small_plan = one_pair (committed small)

pub small_safe : IsSafe 64 small [] small_plan
small_safe =
    is_safe 64 small (is_image 64 zeros ones (omega arith) whole_zeros
    whole_ones) (omega arith) (even 64 zeros ones (omega arith))
    (λ is. absurd (omega (arith, sym (footer_is 64 zeros ones (omega arith) ∙ no_number) ∙ is)))

pub small_reads : IsEncoded small_plan
unfolding header_of
small_reads = code (committed small) (number_at-lt 8 0 (block_at small 19))
