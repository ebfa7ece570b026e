-- The keys that a body may have.
use Rattle.std.proofs.Common.{◌≡◌, inl, inr, ℕ, ◌+◌, ◌-◌, ◌*◌, ◌/◌, ◌<◌, ◌≤◌, ◌^◌, true, false, refl, ap, ◌∙◌, arith}
use Rattle.std.proofs.lemmas.Bool.{cases_Bool, le-leb, lt-ltb}
use Rattle.r4_base.specs.Key.{key_of_rank, minor_of, offset_of}
use Rattle.r4_base.specs.Volume.{IsObject, blocks_for, byte_rank, object_of, stat_rank}
use Rattle.r4_base.specs.declared.items.Target.{Target}
use Rattle.r4_base.proofs.Visible.{byte_back}
use Rattle.r4_content.proofs.Keeping.{byte_key}
use Rattle.r4_content.proofs.Ranks.{between_is, byte_after, stat_not_byte}
use Rattle.r4_applied.specs.r4_reach.Touched.{Body, blocks_end, first_byte}
use Rattle.r4_applied.proofs.r4_sets.Carried.{byte_owner}
use Rattle.r4_extent_moves.specs.Moving.{in_body}

pub in_on : (b : Body) (k : ℕ) → first_byte b ≤ k → k < first_byte b + 2 ^ 64 → in_body b k ≡ true
in_on b k low high = rw (le-leb (first_byte b) k low, lt-ltb k (first_byte b + 2 ^ 64) high) refl

module _ (b : Body) (is : IsObject b.file) where
  pub at_offset : (x : ℕ) → byte_rank b.file x ≡ first_byte b + x
  at_offset x = ap (byte_rank b.file) (let same : x ≡ 0 + x = omega arith in same) ∙ byte_after b.file 0 x

  -- such a key is that of one of its bytes
  pub offset_at : (k : ℕ) → in_body b k ≡ true → (x : ℕ) × (x < 2 ^ 64) × (k ≡ byte_rank b.file x)
  offset_at k on =
      let (low, high) = between_is (first_byte b) (first_byte b + 2 ^ 64) k on in
      let step = at_offset (k - first_byte b) in
      (k - first_byte b, omega (arith, low, high), omega (arith, step, low))

  pub body_at : (x : ℕ) → x < 2 ^ 64 → in_body b (byte_rank b.file x) ≡ true
  body_at x lt =
      let step = at_offset x in
      rw (
        le-leb (first_byte b) (byte_rank b.file x) (omega (arith, step)),
        lt-ltb (byte_rank b.file x) (first_byte b + 2 ^ 64) (omega (arith, step, lt)),
      ) refl

  pub owner_at : (k : ℕ) → in_body b k ≡ true → object_of (key_of_rank k) ≡ b.file
  owner_at k on =
      let (x, lt, at) = offset_at k on in
      ap (λ (q : ℕ). object_of (key_of_rank q)) at ∙ byte_owner b.file x is lt

  pub minor_at : (k : ℕ) → in_body b k ≡ true → minor_of (key_of_rank k) ≡ 4
  minor_at k on =
      let (x, lt, at) = offset_at k on in
      ap (λ (q : ℕ). minor_of (key_of_rank q)) at ∙ (ap minor_of (byte_back b.file x is lt) ∙ omega arith)

  -- every key of a byte of the file is one of them
  pub of_body : (k : ℕ) → minor_of (key_of_rank k) ≡ 4 → object_of (key_of_rank k) ≡ b.file → in_body b k ≡ true
  of_body k four own =
      let (at, lt) = byte_key k four in
      ap (in_body b) (at ∙ ap (λ (o : Target). byte_rank o (offset_of (key_of_rank k))) own)
      ∙ body_at (offset_of (key_of_rank k)) lt

  -- and no key of stat data
  pub not_stat : (o : Target) → IsObject o → in_body b (stat_rank o) ≡ false
  not_stat o object = elim (cases_Bool (in_body b (stat_rank o))) [
    | inl on ↦ let (x, lt, at) = offset_at (stat_rank o) on in absurd (stat_not_byte o b.file x object is lt at)
    | inr off ↦ off
  ]

  -- where the blocks end of a body of so many bytes
  pub before_end : (x size : ℕ) → byte_rank b.file x < blocks_end b size → x < 4096 * blocks_for size
  before_end x size lt = let step = at_offset x in omega (arith, step, lt)

  pub end_behind : (x size : ℕ) → x < 4096 * blocks_for size → byte_rank b.file x < blocks_end b size
  end_behind x size lt = let step = at_offset x in omega (arith, step, lt)

  pub some_bytes : (k size : ℕ) → in_body b k ≡ true → k < blocks_end b size → 0 < size
  some_bytes k size on lt =
      let (low, high) = between_is (first_byte b) (first_byte b + 2 ^ 64) k on in
      let blocks : blocks_for size ≡ (size + 4095) / 4096 = refl in
      omega (arith, low, lt, blocks)
