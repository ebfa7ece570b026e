-- A block that neither the tree nor the log needs may hold anything.
use Rattle.std.proofs.Common.{◌≡◌, ℕ, zero, suc, ◌+◌, ◌/◌, ◌%◌, ◌<◌, ◌≤◌, List, length, refl, sym, ap, subst, ◌∙◌, arith, inl, inr}
use Rattle.std.specs.Prelude.{Some}
use Rattle.std.proofs.lemmas.List.Elements.{Contains-append_right}
use Rattle.r4_base.specs.Image.{Image, IsImage, block_at, put_pairs}
use Rattle.r4_base.specs.Log.{header_of, footer_of}
use Rattle.r4_base.specs.Chain.{HasLog, chain_pairs, wandered, log_blocks, home}
use Rattle.r4_base.specs.Layout.{master_of, super_of}
use Rattle.r4_base.specs.Bitmap.{bits_of, is_used, is_marked, bitmap_bits, bitmap_block, bitmap_count, bitmap_fault, first_unheld, free_below}
use Rattle.r4_base.specs.Value.{Value, Content}
use Rattle.r4_base.specs.Tree.{Node}
use Rattle.r4_base.specs.Cell.{IsCellOf}
use Rattle.r4_base.specs.Volume.{HasContent, HasLayout, HasVolume, IsMadeOf, IsPlace, Needs}
use Rattle.r4_base.proofs.Frame.{same_log, settled_at, length-put_pairs, past}

-- ---- bitmaps that are the same

module _ (image other : Image) (count : ℕ) (same : (k : ℕ) → k < count → block_at other (bitmap_block k) ≡ block_at image (bitmap_block k)) where
  same_bits : (k : ℕ) → k < count → bitmap_bits other k ≡ bitmap_bits image k
  same_bits k lt = ap bits_of (same k lt)

  same_free : (n : ℕ) → n ≤ count → free_below n other ≡ free_below n image
  unfolding free_below
  same_free zero le = refl
  same_free (suc n) le = rw (same_free n (omega (arith, le)), same_bits n (omega (arith, le))) refl

  same_unheld : (block_count k n : ℕ) → n + k ≤ count → first_unheld block_count k n other ≡ first_unheld block_count k n image
  unfolding first_unheld
  same_unheld block_count zero n le = refl
  same_unheld block_count (suc k) n le = rw (same_bits n (omega (arith, le)), same_unheld block_count k (n + 1) (omega (arith, le))) refl

same_fault : (image other : Image) (block_count free_blocks : ℕ) → ((k : ℕ) → k < bitmap_count block_count → block_at other (bitmap_block k) ≡ block_at image (bitmap_block k))
    → bitmap_fault block_count free_blocks other ≡ bitmap_fault block_count free_blocks image
unfolding bitmap_fault
same_fault image other block_count free_blocks same =
    let free = same_free image other (bitmap_count block_count) same (bitmap_count block_count) (omega arith) in
    rw (same_unheld image other (bitmap_count block_count) same block_count (bitmap_count block_count) 0 (omega arith), free) refl

-- ---- the same content

module _ (n : ℕ) (image other : Image) (m : Content) (c : HasContent n image m) (same : (d : ℕ) → IsMadeOf c d → block_at other d ≡ block_at image d) where
  same_bitmap : (k : ℕ) → k < bitmap_count c.super.block_count → block_at other (bitmap_block k) ≡ block_at image (bitmap_block k)
  same_bitmap k lt = same (bitmap_block k) (inr (inr (inl (k, lt, refl))))

  same_layout : HasLayout n other c.super
  same_layout = record {
    master = (c.layout.master.0, ap master_of (same 16 (inl refl)) ∙ c.layout.master.1);
    format = ap (super_of n) (same 17 (inr (inl refl))) ∙ c.layout.format;
    bitmaps = same_fault image other c.super.block_count c.super.free_blocks same_bitmap ∙ c.layout.bitmaps;
  }

  same_cells : (i : ℕ) (d : Node Value) → c.store i ≡ Some d → IsCellOf c.super.block_count (block_at other i) d
  same_cells i d is = subst (λ (b : List ℕ). IsCellOf c.super.block_count b d) (sym (same i (inr (inr (inr (d, is)))))) (c.cells i d is)

  same_mark : (b : ℕ) → b < c.super.block_count → is_marked other b ≡ is_marked image b
  same_mark b lt = ap (λ (x : List ℕ). is_used x (b % 32736)) (same_bitmap (b / 32736) (omega (arith, lt)))

  same_places : (i : ℕ) (d : Node Value) → c.store i ≡ Some d → IsPlace c.super.block_count other i
  same_places i d is =
      let p = c.places i d is in
      (p.0, p.1, same_mark i p.0 ∙ p.2)

  pub same_content : HasContent n other m
  same_content = record {
    super = c.super;
    layout = same_layout;
    store = c.store;
    cells = same_cells;
    tree = c.tree;
    places = same_places;
    raw = c.raw;
    units = c.units;
    files = c.files;
    objects = c.objects;
    ids = c.ids;
    visible = c.visible;
  }

  pub same_super : same_content.super ≡ c.super
  unfolding same_content
  same_super = refl

  pub same_store : same_content.store ≡ c.store
  unfolding same_content
  same_store = refl

-- ---- the same volume

module _ (n : ℕ) (image other : Image) (m : Content) (v : HasVolume n image m) (whole : IsImage n other) (header : block_at other 19 ≡ block_at image 19) (footer : block_at other 20 ≡ block_at image 20)
    (same : (b : ℕ) → Needs v b → block_at other b ≡ block_at image b) where
  log : HasLog n other v.chain
  log = same_log other image n v.chain (ap (λ (x : List ℕ). (header_of x).last) header) (ap (λ (x : List ℕ). (footer_of x).last) footer)
      (λ b one. same b (inl (Contains-append_right (wandered v.chain) (log_blocks v.chain) b one))) v.log

  ends : length (put_pairs (chain_pairs v.chain) other) ≡ length (put_pairs (chain_pairs v.chain) image)
  ends = length-put_pairs (chain_pairs v.chain) other ∙ whole.blocks ∙ sym v.whole.blocks ∙ sym (length-put_pairs (chain_pairs v.chain) image)

  settled : (d : ℕ) → IsMadeOf v.content d → block_at (put_pairs (chain_pairs v.chain) other) d ≡ block_at (put_pairs (chain_pairs v.chain) image) d
  settled d made = past (put_pairs (chain_pairs v.chain) other) (put_pairs (chain_pairs v.chain) image) d ends (λ lt.
      let below : d < length image = omega (arith, lt, length-put_pairs (chain_pairs v.chain) image) in
      let below_other : d < length other = omega (arith, below, whole.blocks, v.whole.blocks) in
      settled_at other n v.chain d log below_other ∙ same (home (chain_pairs v.chain) d) (inr (d, made, refl)) ∙ sym (settled_at image n v.chain d v.log below))

  pub same_volume : HasVolume n other m
  same_volume = record { whole = whole; chain = v.chain; log = log; content = same_content n (put_pairs (chain_pairs v.chain) image) (put_pairs (chain_pairs v.chain) other) m v.content settled }
