-- Keys, sizes and bytes stay lawful where the bodies of files that stay are not touched.
use Rattle.std.specs.Prelude.{◌≡◌, ◌⊎◌, ◌↔◌, ℕ, ◌+◌, ◌*◌, ◌/◌, ◌%◌, ◌^◌, ◌<◌, ◌≤◌, false, slice_index, Some}
use Rattle.std.proofs.Common.{arith, inl, inr, refl, sym, ap, ◌∙◌}
use Rattle.r4_base.specs.Key.{key_of_rank, minor_of, offset_of, rank}
use Rattle.r4_base.specs.Value.{Value, Stat, Entry, Byte, Content, at_key}
use Rattle.r4_base.specs.Volume.{HasObjects, HasStat, IsObject, KeyFits, byte_rank, is_directory, object_of, stat_rank}
use Rattle.r4_base.specs.declared.key.Key.{Key}
use Rattle.r4_base.specs.declared.items.Attr.{Attr}
use Rattle.r4_base.specs.declared.items.Target.{Target}
use Rattle.r4_content.specs.Lawful.{HasBodies, HasByte}
use Rattle.r4_content.proofs.Shapes.{stat_back}

-- ---- a body key is that of an object's byte

numbers_of_key : (k : ℕ) → (slice_index (key_of_rank k).el 0 ≡ k / 2 ^ 192) × (slice_index (key_of_rank k).el 1 ≡ k / 2 ^ 128 % 2 ^ 64) × (slice_index (key_of_rank k).el 2 ≡ k / 2 ^ 64 % 2 ^ 64)
    × (slice_index (key_of_rank k).el 3 ≡ k % 2 ^ 64)
unfolding key_of_rank
numbers_of_key k = (refl, refl, refl, refl)

rank_is : (t : Target) (x : ℕ) → byte_rank t x ≡ (t.locality * 16 + 4) * 2 ^ 192 + (t.ordering * 2 ^ 128 + (t.oid.0 * 2 ^ 64 + x))
unfolding rank
rank_is t x = refl

pub byte_key : (k : ℕ) → minor_of (key_of_rank k) ≡ 4 → (k ≡ byte_rank (object_of (key_of_rank k)) (offset_of (key_of_rank k))) × (offset_of (key_of_rank k) < 2 ^ 64)
byte_key k minor =
    let (a, b, c, d) = numbers_of_key k in
    let t = object_of (key_of_rank k) in
    let x = offset_of (key_of_rank k) in
    let is = rank_is t x in
    let four : k / 2 ^ 192 % 16 ≡ 4 = ap (λ (y : ℕ). y % 16) (sym a) ∙ minor in
    let l : t.locality ≡ k / 2 ^ 192 / 16 = ap (λ (y : ℕ). y / 16) a in
    let o : t.ordering ≡ k / 2 ^ 128 % 2 ^ 64 = b in
    let i : t.oid.0 ≡ k / 2 ^ 64 % 2 ^ 64 = c in
    let z : x ≡ k % 2 ^ 64 = d in
    (omega arith, omega arith)

-- what fits a key, whatever the objects are
abbrev pub PlainFit : Key → Value → Type 0
PlainFit k (Stat a) = (minor_of k ≡ 1) × (offset_of k ≡ 0)
PlainFit k (Entry s t) = minor_of k ≡ 0
PlainFit k (Byte x) = ⊥

pub stat_fit : (t : Target) (a : Attr) → IsObject t → PlainFit (key_of_rank (stat_rank t)) (Stat a)
stat_fit t a is =
    let back = stat_back t is in
    (ap minor_of back ∙ omega arith, ap offset_of back)

-- the bytes of a file that stays are as they were
pub record IsKeptFile (m n : Content) (t : Target) (b : Attr) : Type 0 where
  pub old : Attr
  pub stat : HasStat m t old
  pub file : is_directory old ≡ false
  pub size : b.size ≡ old.size
  pub same : (x : ℕ) → x < 2 ^ 64 → at_key n (byte_rank t x) ≡ at_key m (byte_rank t x)

pub record IsEmptyFile (n : Content) (t : Target) (b : Attr) : Type 0 where
  pub size : b.size ≡ 0
  pub none : (x y : ℕ) → x < 2 ^ 64 → at_key n (byte_rank t x) ≡ Some (Byte y) → ⊥

-- what a file is that was written
pub record IsWholeFile (limit : ℕ) (n : Content) (t : Target) (b : Attr) : Type 0 where
  pub small : b.size ≤ limit
  pub offsets : (x : ℕ) → x < 2 ^ 64 → HasByte n t x ↔ (x < b.size)

pub plain_fits : (n : Content) (k : Key) (v : Value) → PlainFit k v → KeyFits n k v
plain_fits n k (Stat a) f = f
plain_fits n k (Entry s t) f = f
plain_fits n k (Byte x) f = absurd f

pub record KeepsBodies (limit : ℕ) (m n : Content) : Type 0 where
  pub fits : (k : ℕ) (v : Value) → at_key n k ≡ Some v → (at_key m k ≡ Some v) ⊎ KeyFits n (key_of_rank k) v
  pub alive : (t : Target) (a : Attr) (x y : ℕ) → HasStat m t a → is_directory a ≡ false → x < 2 ^ 64 → at_key n (byte_rank t x) ≡ Some (Byte y) → (b : Attr) × HasStat n t b × (is_directory b ≡ false)
  pub files : (t : Target) (b : Attr) → HasStat n t b → is_directory b ≡ false → IsKeptFile m n t b ⊎ (IsEmptyFile n t b ⊎ IsWholeFile limit n t b)
  pub bytes : (t : Target) (b : Attr) → HasStat n t b → b.bytes ≡ b.size

module _ (limit : ℕ) (m n : Content) (bodies : HasBodies limit m) (h : KeepsBodies limit m n) where
  keys : (k : ℕ) (v : Value) → at_key n k ≡ Some v → KeyFits n (key_of_rank k) v
  keys k v at = elim (h.fits k v at) [
    | inl old ↦ by_value v at (bodies.keys k v old)
    | inr fits ↦ fits
  ]
    where
      by_value : (w : Value) → at_key n k ≡ Some w → KeyFits m (key_of_rank k) w → KeyFits n (key_of_rank k) w
      by_value (Stat a) there f = f
      by_value (Entry s t) there f = f
      by_value (Byte x) there (minor, (a, stat, file)) =
          let (is, lt) = byte_key k minor in
          let (b, now, still) = h.alive (object_of (key_of_rank k)) a (offset_of (key_of_rank k)) x stat file lt (ap (at_key n) (sym is) ∙ there) in
          (minor, (b, now, still))

  small : (t : Target) (b : Attr) → HasStat n t b → is_directory b ≡ false → b.size ≤ limit
  small t b there file = elim (h.files t b there file) [
    | inl kept ↦ let le = bodies.small t kept.old kept.stat kept.file in let e = kept.size in omega arith
    | inr other ↦ elim other [
      | inl empty ↦ let e = empty.size in omega arith
      | inr whole ↦ whole.small
    ]
  ]

  offsets : (t : Target) (b : Attr) → HasStat n t b → is_directory b ≡ false → (x : ℕ) → x < 2 ^ 64 → HasByte n t x ↔ (x < b.size)
  offsets t b there file x lt = elim (h.files t b there file) [
    | inl kept ↦
        let was = bodies.offsets t kept.old kept.stat kept.file x lt in
        let e = kept.size in
        let same = kept.same x lt in
        ((λ (y, at). let below = was.0 (y, sym same ∙ at) in omega arith), (λ below. let (y, at) = was.1 (omega arith) in (y, same ∙ at)))
    | inr other ↦ elim other [
      | inl empty ↦ let e = empty.size in ((λ (y, at). absurd (empty.none x y lt at)), (λ below. absurd (omega arith)))
      | inr whole ↦ whole.offsets x lt
    ]
  ]

  pub bodies_kept : HasBodies limit n
  bodies_kept = record { keys = keys; small = small; offsets = offsets; bytes = h.bytes }

-- what is asked of a content after a command
abbrev pub Stays : (limit : ℕ) → Content → Type 0
Stays limit m = HasObjects m × HasBodies limit m
