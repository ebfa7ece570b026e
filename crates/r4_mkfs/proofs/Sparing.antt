-- The writes of a fresh volume spare all blocks but those that they name.
use Rattle.std.proofs.Common.{◌≡◌, inl, refl, ℕ, ◌≤◌, List, subst, slice_set, sym, arith}
use Rattle.std.specs.Prelude.{Result, replicate}
use Rattle.r4_base.specs.Image.{AgreesOutside, Image}
use Rattle.r4_outside.specs.Device.{State, Goes, Spares, Syncs, Untouched, Writes}
use Rattle.r4_outside.proofs.Moments.{goes_both, spares_both, spares_more, spares_read, spares_same, spares_sync, spares_write, goes_same}
use Rattle.r4_mkfs.specs.Mkfs.{IsRest, IsWritten, with_zeros}
use Rattle.r4_mkfs.proofs.Writing.{agrees_more, agrees_same, agrees_set, rest_at}

-- ---- all but the master superblock

module _ {T E : Type 0} (n : ℕ) (s0 s1 s2 : State) (r2 : Result T E) (super : List ℕ) (goes1 : Goes s0 s1) (bitmaps : Spares (IsRest n) s0 s1) (w2 : Writes 17 super s1 r2 s2) where
  goes2 : Goes s0 s2
  goes2 = goes_both s0 s1 s2 goes1 w2.goes

  pub spares2 : Spares (IsRest n) s0 s2
  spares2 = spares_write (IsRest n) s0 s1 s2 bitmaps goes1 r2 17 super (rest_at n 17 (omega arith) (omega arith)) w2

  module _ (s3 : State) (goes3 : Goes s2 s3) (zeros : Spares (IsRest n) s2 s3) where
    pub spares3 : Spares (IsRest n) s0 s3
    spares3 = spares_both (IsRest n) s0 s2 s3 spares2 zeros goes2 goes3

    module _ (s4 : State) (r4 : Result T E) (twig : List ℕ) (w4 : Writes 22 twig s3 r4 s4) where
      pub spares4 : Spares (IsRest n) s0 s4
      spares4 = spares_write (IsRest n) s0 s3 s4 spares3 (goes_both s0 s2 s3 goes2 goes3) r4 22 twig (rest_at n 22 (omega arith) (omega arith)) w4

      pub goes4 : Goes s0 s4
      goes4 = goes_both s0 s2 s4 goes2 (goes_both s2 s3 s4 goes3 w4.goes)

      pub spares5 : (s5 : State) (r5 : Result T E) (leaf : List ℕ) → Writes 23 leaf s4 r5 s5 → Spares (IsRest n) s0 s5
      spares5 s5 r5 leaf w5 = spares_write (IsRest n) s0 s4 s5 spares4 goes4 r5 23 leaf (rest_at n 23 (omega arith) (omega arith)) w5

pub rest_agrees : (n : ℕ) (i0 i1 i2 i3 i4 i5 : Image) (super twig leaf : List ℕ) → AgreesOutside (IsRest n) i0 i1 → i2 ≡ slice_set i1 17 super → i3 ≡ with_zeros i2 → i4 ≡ slice_set i3 22 twig → i5 ≡ slice_set i4 23 leaf
    → AgreesOutside (IsRest n) i0 i5
rest_agrees n i0 i1 i2 i3 i4 i5 super twig leaf a e2 e3 e4 e5 =
    let zeros : List ℕ = replicate 4096 0 in
    let x19 = slice_set i2 19 zeros in
    let x20 = slice_set x19 20 zeros in
    let x21 = slice_set x20 21 zeros in
    let at = λ (b : ℕ) (low : 17 ≤ b) (high : b ≤ 23). rest_at n b low high in
    let a2 = agrees_set (IsRest n) i0 i1 i2 17 super (at 17 (omega arith) (omega arith)) e2 a in
    let a19 = agrees_set (IsRest n) i0 i2 x19 19 zeros (at 19 (omega arith) (omega arith)) refl a2 in
    let a20 = agrees_set (IsRest n) i0 x19 x20 20 zeros (at 20 (omega arith) (omega arith)) refl a19 in
    let a21 = agrees_set (IsRest n) i0 x20 x21 21 zeros (at 21 (omega arith) (omega arith)) refl a20 in
    let a3 = subst (λ (i : Image). AgreesOutside (IsRest n) i0 i) (sym e3) a21 in
    let a4 = agrees_set (IsRest n) i0 i3 i4 22 twig (at 22 (omega arith) (omega arith)) e4 a3 in
    agrees_set (IsRest n) i0 i4 i5 23 leaf (at 23 (omega arith) (omega arith)) e5 a4

-- ---- the whole volume

master_at : (n : ℕ) → IsWritten n 16
master_at n = inl (omega arith, omega arith)

module _ (n : ℕ) (s0 s1 : State) (rest : Spares (IsRest n) s0 s1) where
  pub all1 : Spares (IsWritten n) s0 s1
  all1 = spares_more (IsRest n) (IsWritten n) s0 s1 (λ b is. is.0) rest

  module _ {T E : Type 0} (goes1 : Goes s0 s1) (s2 : State) (r2 : Result T E) (y2 : Syncs s1 r2 s2) where
    pub all2 : Spares (IsWritten n) s0 s2
    all2 = spares_sync (IsWritten n) s0 s1 s2 all1 goes1 r2 y2

    module _ (s3 : State) (r3 : Result T E) (master : List ℕ) (w3 : Writes 16 master s2 r3 s3) where
      pub all3 : Spares (IsWritten n) s0 s3
      all3 = spares_write (IsWritten n) s0 s2 s3 all2 (goes_both s0 s1 s2 goes1 y2.goes) r3 16 master (master_at n) w3

      pub all4 : (s4 : State) (r4 : Result T E) → Syncs s3 r4 s4 → Spares (IsWritten n) s0 s4
      all4 s4 r4 y4 = spares_sync (IsWritten n) s0 s3 s4 all3 (goes_both s0 s1 s3 goes1 (goes_both s1 s2 s3 y2.goes w3.goes)) r4 y4

pub all_agrees : (n : ℕ) (i0 i1 i4 : Image) (master : List ℕ) → AgreesOutside (IsRest n) i0 i1 → i4 ≡ slice_set i1 16 master → AgreesOutside (IsWritten n) i0 i4
all_agrees n i0 i1 i4 master a e = agrees_set (IsWritten n) i0 i1 i4 16 master (master_at n) e (agrees_more (IsRest n) (IsWritten n) i0 i1 (λ b is. is.0) a)

-- where nothing was written before
pub spares_after : (W : ℕ → Type 0) (old mid new : State) → Goes old mid → Untouched old mid → Goes mid new → Spares W mid new → Spares W old new
spares_after W old mid new goes idle went spares =
    spares_both W old mid new (spares_read W old old mid (spares_same W old) (goes_same old) goes idle.clock) spares goes went
