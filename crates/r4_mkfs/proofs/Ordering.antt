-- What a crash leaves while a volume is made: the master superblock that was there, or all the rest of a fresh volume.
use Rattle.std.proofs.Common.{◌≡◌, ◌≢◌, ◌⊎◌, inl, inr, ⊎_elim, ℕ, ◌<◌, ◌≤◌, List, length, slice_set, refl, sym, ap, subst, ◌∙◌, arith}
use Rattle.std.specs.Prelude.{Result, Ok, take}
use Rattle.std.proofs.lemmas.Bool.{cases_eq}
use Rattle.r4_base.specs.Image.{Image, IsImage, IsLawful, block_at}
use Rattle.r4_base.specs.Bitmap.{is_used}
use Rattle.r4_base.specs.Fresh.{IsFreshNode, IsFreshBut16, IsFreshImage}
use Rattle.r4_base.specs.Layout.{master_block}
use Rattle.r4_base.specs.Bytes.{number_bytes}
use Rattle.r4_base.specs.Stat.{stat_body}
use Rattle.r4_base.specs.Volume.{root_attr}
use Rattle.r4_outside.specs.Device.{State, Sectors, HasSectors, Goes, Writes, Syncs, Spares, IsQuiet, IsTorn, only}
use Rattle.r4_outside.proofs.Images.{same_sectors, read_written, read_other}
use Rattle.r4_outside.proofs.Moments.{Run, run_sync, run_synced, run_write, torn_one, or_torn, spares_more}
use Rattle.r4_mkfs.specs.Mkfs.{IsRest, full_label}
use Rattle.r4_mkfs.proofs.Writing.{block_below, not_16}

-- another image with the same blocks but for the 16th
pub fresh_elsewhere : (n : ℕ) (base image : Image) → IsLawful n → IsImage n image → ((b : ℕ) → b < n → b ≢ 16 → block_at image b ≡ block_at base b) → IsFreshBut16 n base → IsFreshBut16 n image
fresh_elsewhere n base image lawful whole same f =
    let here : (b : ℕ) → b < 64 → b ≢ 16 → block_at image b ≡ block_at base b = λ b lt other. same b (omega (arith, lt, lawful.0)) other in
    record {
      whole = whole;
      super = here 17 (omega arith) (λ e. omega (arith, e)) ∙ f.super;
      bitmaps = λ k i lt within. ap (λ (x : List ℕ). is_used x i) (same _ (block_below n k lawful lt) (not_16 k)) ∙ f.bitmaps k i lt within;
      fronts = λ k lt. ap (take 4) (same _ (block_below n k lawful lt) (not_16 k)) ∙ f.fronts k lt;
      header = here 19 (omega arith) (λ e. omega (arith, e)) ∙ f.header;
      footer = here 20 (omega arith) (λ e. omega (arith, e)) ∙ f.footer;
      status = here 21 (omega arith) (λ e. omega (arith, e)) ∙ f.status;
      twig = subst (λ (x : List ℕ). IsFreshNode x 2 3 (number_bytes 8 23)) (sym (here 22 (omega arith) (λ e. omega (arith, e)))) f.twig;
      leaf = subst (λ (x : List ℕ). IsFreshNode x 1 0 (stat_body root_attr)) (sym (here 23 (omega arith) (λ e. omega (arith, e)))) f.leaf;
    }

-- with the master superblock in place the volume is whole
pub with_master : (n : ℕ) (old new : Image) (label master : List ℕ) → IsLawful n → length old ≡ n → IsImage n new → new ≡ slice_set old 16 master → master ≡ master_block (record { label = full_label label }) → IsFreshBut16 n old → IsFreshImage n (full_label label) new
with_master n old new label master lawful long whole is says f = record {
  rest = fresh_elsewhere n old new lawful whole (λ b lt other. ap (λ (i : Image). block_at i b) is ∙ read_other old 16 b master other) f;
  master = ap (λ (i : Image). block_at i 16) is ∙ read_written old 16 master (omega (arith, long, lawful.0)) ∙ says;
}

module _ (s0 : State) (n : ℕ) (blocks : n ≡ s0.blocks) (lawful : IsLawful n) (quiet : IsQuiet s0) where
  abbrev P : Image → Type 0
  P image = (block_at image 16 ≡ block_at s0.seen 16) ⊎ IsFreshBut16 s0.blocks image

  abbrev Other : ℕ → Type 0
  Other b = b ≢ 16

  -- anything but in block 16, and there what was there
  abbrev Q : Sectors
  Q b s x = Other b ⊎ only s0.seen b s x

  before : (image : Image) → HasSectors s0.blocks Q image → P image
  before image h = inl (same_sectors (block_at image 16) (block_at s0.seen 16) (h.whole 16 (omega (arith, blocks, lawful.0))) (quiet.tells.whole 16 (omega (arith, blocks, lawful.0)))
      (λ s ls. ⊎_elim (λ other. absurd (other refl)) (λ same. same) (h.sectors 16 s (omega (arith, blocks, lawful.0)) ls)))

  module _ (s1 : State) (goes : Goes s0 s1) (rest : Spares (IsRest n) s0 s1) where
    spares : Spares Other s0 s1
    spares = spares_more (IsRest n) Other s0 s1 (λ b is. is.1) rest

    spared : (m b s : ℕ) (x : List ℕ) → s0.clock ≤ m → m ≤ s1.clock → b < s0.blocks → s < 8 → s1.may_hold m b s x → Q b s x
    spared m b s x lo hi lb ls may = elim (cases_eq b 16) [
      | inl is ↦ inr (quiet.within.each b s x lb ls (spares.each m b s x lo hi ls (λ other. other is) may))
      | inr other ↦ inl other
    ]

    pub written : Run s0 s1 Q P
    written = record {
      so_far = record {
        each = λ m image lo hi left. before image (record {
          blocks = left.blocks ∙ goes.blocks;
          whole = λ b lb. left.whole b (omega (arith, lb, goes.blocks));
          sectors = λ b s lb ls. spared m b s _ lo hi lb ls (left.sectors b s (omega (arith, lb, goes.blocks)) ls);
        });
      };
      goes = goes;
      within = record { each = λ b s x lb ls may. spared s1.clock b s x goes.time (omega arith) (omega (arith, lb, goes.blocks)) ls may };
      has = before;
    }

    pub written_synced : {T E : Type 0} (s2 : State) (r2 : Result T E) → Syncs s1 r2 s2 → Run s0 s2 Q P
    written_synced s2 r2 y = run_sync s0 s1 s2 Q P written r2 y

    -- after a good sync
    module _ {T E : Type 0} (fresh : IsFreshBut16 n s1.seen) (master : List ℕ) (s2 : State) (v : T) (y : Syncs {E = E} s1 (Ok v) s2) where
      settled : Run s0 s2 (only s2.seen) P
      settled = run_synced s0 s1 s2 Q P written v y quiet.tells

      torn : (image : Image) → HasSectors s0.blocks (or_torn (only s2.seen) 16 master) image → P image
      torn image h =
          let t = torn_one s0.blocks 16 master _ s2.seen image (omega (arith, blocks, lawful.0)) (subst (λ (k : ℕ). HasSectors k (s2.may_hold s2.clock) s2.seen) settled.goes.blocks (settled.goes.crashes.1 quiet.tells)) h in
          let long : length s2.seen ≡ n = t_long h t in
          inr (subst (λ (k : ℕ). IsFreshBut16 k image) blocks
          (fresh_elsewhere n s1.seen image lawful (record { blocks = h.blocks ∙ sym blocks; whole = λ b lt. h.whole b (omega (arith, lt, blocks)) })
          (λ b lt other. t.others b (omega (arith, lt, long)) other ∙ ap (λ (i : Image). block_at i b) y.seen) fresh))
        where
          t_long : HasSectors s0.blocks (or_torn (only s2.seen) 16 master) image → IsTorn 16 master s2.seen image → length s2.seen ≡ n
          t_long h t = sym t.blocks ∙ h.blocks ∙ sym blocks

      pub headed : (s3 : State) (r3 : Result T E) → Writes 16 master s2 r3 s3 → Run s0 s3 (or_torn (only s2.seen) 16 master) P
      headed s3 r3 w = run_write s0 s2 s3 (only s2.seen) P settled 16 master r3 w torn

      pub headed_synced : (s3 s4 : State) (r3 r4 : Result T E) → Writes 16 master s2 r3 s3 → Syncs s3 r4 s4 → Run s0 s4 (or_torn (only s2.seen) 16 master) P
      headed_synced s3 s4 r3 r4 w y4 = run_sync s0 s3 s4 (or_torn (only s2.seen) 16 master) P (headed s3 r3 w) r4 y4
