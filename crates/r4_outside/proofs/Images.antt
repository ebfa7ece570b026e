-- Blocks of an image, and sectors of a block.
use Rattle.std.proofs.Common.{◌≡◌, ◌≢◌, ◌⊎◌, inl, inr, ℕ, zero, suc, ◌+◌, ◌*◌, ◌<◌, ◌≤◌, List, [], ◌∷◌, ◌++◌, refl, length, drop, slice_set, sym, ◌∙◌, ap, arith, get_or-set_same, get_or-set_other, All}
use Rattle.std.proofs.lemmas.Bool.{cases_eq, cases_lt}
use Rattle.std.proofs.lemmas.List.{drop-drop, take-append-drop, length-set, drop_all, get_or_past}
use Rattle.std.proofs.lemmas.List.Elements.{All-head, All-tail}
use Rattle.r4_base.specs.Image.{Image, IsBlock, block_at, sector, put_pairs}

pub read_written : (image : Image) (at : ℕ) (block : List ℕ) → at < length image → block_at (slice_set image at block) at ≡ block
read_written image at block h = get_or-set_same image at block [] h

pub read_other : (image : Image) (at b : ℕ) (block : List ℕ) → b ≢ at → block_at (slice_set image at block) b ≡ block_at image b
read_other image at b block h = get_or-set_other image at b block [] h

-- a block after a write, whatever it is
pub written_block : (image : Image) (at b : ℕ) (block : List ℕ) → ((b ≡ at) × (block_at (slice_set image at block) b ≡ block)) ⊎ (block_at (slice_set image at block) b ≡ block_at image b)
written_block image at b block = elim (cases_eq b at) [
  | inl same ↦ elim (cases_lt at (length image)) [
    | inl lt ↦ inl (same, ap (λ (k : ℕ). block_at (slice_set image at block) k) same ∙ get_or-set_same image at block [] lt)
    | inr ge ↦ inr (get_or_past (slice_set image at block) b [] (omega (arith, length-set image at block, same, ge)) ∙ sym (get_or_past image b [] (omega (arith, same, ge))))
  ]
  | inr other ↦ inr (get_or-set_other image at b block [] other)
]

cut : (s : ℕ) (x : List ℕ) → drop (512 * s) x ≡ sector x s ++ drop (512 * suc s) x
cut s x = sym (take-append-drop 512 (drop (512 * s) x)) ∙ ap (λ (l : List ℕ). sector x s ++ l) (drop-drop 512 (512 * s) x ∙ ap (λ (k : ℕ). drop k x) (omega arith))

from_sectors : (n s : ℕ) (x y : List ℕ) → ((k : ℕ) → s ≤ k → k < s + n → sector x k ≡ sector y k) → length x ≡ 512 * (s + n) → length y ≡ 512 * (s + n) → drop (512 * s) x ≡ drop (512 * s) y
from_sectors zero s x y same lx ly = drop_all _ x (omega (arith, lx)) ∙ sym (drop_all _ y (omega (arith, ly)))
from_sectors (suc n) s x y same lx ly =
    let rest : drop (512 * suc s) x ≡ drop (512 * suc s) y = from_sectors n (suc s) x y (λ k lo hi. same k (omega (arith, lo)) (omega (arith, hi))) (omega (arith, lx)) (omega (arith, ly)) in
    cut s x ∙ ap (λ (l : List ℕ). l ++ drop (512 * suc s) x) (same s (omega arith) (omega arith)) ∙ ap (λ (l : List ℕ). sector y s ++ l) rest ∙ sym (cut s y)

-- two blocks of the same sectors are equal
pub same_sectors : (x y : List ℕ) → IsBlock x → IsBlock y → ((k : ℕ) → k < 8 → sector x k ≡ sector y k) → x ≡ y
same_sectors x y lx ly same = from_sectors 8 0 x y (λ k lo hi. same k hi) (omega (arith, lx)) (omega (arith, ly))

-- what is put in place leaves the number of blocks, and the blocks that are no originals
pub length-put_pairs : (ps : List (ℕ × ℕ)) (image : Image) → length (put_pairs ps image) ≡ length image
length-put_pairs [] image = refl
length-put_pairs (p ∷ ps) image = length-put_pairs ps _ ∙ length-set image p.0 (block_at image p.1)

pub put_elsewhere : (ps : List (ℕ × ℕ)) (image : Image) (b : ℕ) → All (λ (p : ℕ × ℕ). b ≢ p.0) ps → block_at (put_pairs ps image) b ≡ block_at image b
put_elsewhere [] image b h = refl
put_elsewhere (p ∷ ps) image b h = put_elsewhere ps _ b (All-tail (λ (q : ℕ × ℕ). b ≢ q.0) p ps h) ∙ read_other image p.0 b _ (All-head (λ (q : ℕ × ℕ). b ≢ q.0) p ps h)
