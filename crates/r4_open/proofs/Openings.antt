-- How an image is opened.
use Rattle.std.proofs.Common.{◌≡◌, ℕ, zero, suc, ◌+◌, ◌<◌, ◌≤◌, List, [], ◌∷◌, ◌++◌, length, refl, sym, ap, subst, ◌∙◌, arith}
use Rattle.std.specs.Prelude.{Option, Ok, slice_index_or}
use Rattle.std.proofs.lemmas.Bool.Decides.{nat_tests}
use Rattle.std.proofs.Math.Decide.{ℕ_discrete}
use Rattle.std.proofs.lemmas.List.{length-append}
use Rattle.r4_base.specs.Bitmap.{bitmap_block, bitmap_count, bitmap_fault}
use Rattle.r4_base.specs.Image.{Image, block_at}
use Rattle.r4_base.specs.Layout.{master_of, super_of}
use Rattle.r4_base.specs.Log.{header_of}
use Rattle.r4_base.specs.declared.superblock.Master.{Master}
use Rattle.r4_base.specs.declared.superblock.Super40.{Super40}
use Rattle.r4_outside.specs.Device.{Goes, State, TellsReads}
use Rattle.r4_replay.specs.Homes.{TellsHomes, home_in}
use Rattle.r4_replay.specs.Reading.{Idles}
use Rattle.r4_replay.specs.Replay.{IsNamed}
use Rattle.r4_replay.specs.declared.log.Log.{Log}
use Rattle.r4_space.specs.Bitmaps.{AreBitmapsOf, bitmaps_fault}
use Rattle.r4_space.proofs.BitmapLaws.{same_fault}
use Rattle.r4_base.specs.Chain.{committed}
use Rattle.r4_open.specs.Opening.{AreRead, HasSupers, IsSettledFrom, NamesHead, bitmaps_misfit, format_misfit, layout_misfit, master_misfit}

pub record Reading (old now : State) (home : ℕ → ℕ) (count : ℕ) (bitmaps : List (List ℕ)) : Type 0 where
  pub idles : Idles old now
  pub read : AreRead old home count bitmaps

pub none_read : (old : State) (home : ℕ → ℕ) → AreRead old home 0 []
none_read old home = record { count_is = refl; each = λ tells n lt. absurd (omega (arith, lt)) }

pub one_more : (old : State) (home : ℕ → ℕ) (count : ℕ) (bitmaps more : List (List ℕ)) (b : List ℕ) → AreRead old home count bitmaps → more ≡ bitmaps ++ b ∷ [] → (TellsReads old → b ≡ block_at old.seen (home (bitmap_block count))) → AreRead old home (count + 1) more
one_more old home count bitmaps more b r is read = record {
  count_is = ap (λ (l : List (List ℕ)). length l) is ∙ length-append bitmaps (b ∷ []) ∙ ap (λ (n : ℕ). n + 1) r.count_is;
  each = λ tells n lt. subst (λ (l : List (List ℕ)). slice_index_or l n [] ≡ block_at old.seen (home (bitmap_block n))) (sym is) (elim (ℕ_discrete n count) [
    | yes last ↦ at_end bitmaps b n (last ∙ sym r.count_is) ∙ read tells ∙ ap (λ (k : ℕ). block_at old.seen (home (bitmap_block k))) (sym last)
    | no other ↦ let long = r.count_is in before bitmaps b n (omega (arith, lt, other, long)) ∙ r.each tells n (omega (arith, lt, other))
  ]);
}
  where
    at_end : (xs : List (List ℕ)) (x : List ℕ) (n : ℕ) → n ≡ length xs → slice_index_or (xs ++ x ∷ []) n [] ≡ x
    at_end [] x zero e = refl
    at_end [] x (suc n) e = absurd (omega (arith, e))
    at_end (y ∷ xs) x zero e = absurd (omega (arith, e))
    at_end (y ∷ xs) x (suc n) e = at_end xs x n (omega (arith, e))

    before : (xs : List (List ℕ)) (x : List ℕ) (n : ℕ) → n < length xs → slice_index_or (xs ++ x ∷ []) n [] ≡ slice_index_or xs n []
    before [] x n lt = absurd (omega (arith, lt))
    before (y ∷ xs) x zero lt = refl
    before (y ∷ xs) x (suc n) lt = before xs x n (omega (arith, lt))

-- bitmap n of a volume stands in one of its blocks
pub bitmap_within : (blocks n : ℕ) → 64 ≤ blocks → n < bitmap_count blocks → bitmap_block n < blocks
bitmap_within blocks zero more lt = omega (arith, more)
bitmap_within blocks (suc n) more lt = grind (arith, nat_tests, more, lt)

-- the bitmaps that were read are those of the settled image
pub are_bitmaps : (old : State) (home : ℕ → ℕ) (blocks : ℕ) (image : Image) (bitmaps : List (List ℕ)) → 64 ≤ blocks → blocks ≤ old.blocks → TellsReads old → IsSettledFrom old home image → AreRead old home (bitmap_count blocks) bitmaps → AreBitmapsOf blocks image bitmaps
are_bitmaps old home blocks image bitmaps more within tells settled r = record {
  count = r.count_is;
  each = λ n lt. r.each tells n lt ∙ sym (settled (bitmap_block n));
}

pub layout_is : (n k : ℕ) (image : Image) (m : Master) (s : Super40) → n ≡ k → master_of (block_at image 16) ≡ Ok m → super_of n (block_at image 17) ≡ Ok s → layout_misfit k image ≡ bitmaps_misfit (bitmap_fault s.block_count s.free_blocks image)
layout_is n k image m s same master format =
    subst (λ (j : ℕ). layout_misfit j image ≡ bitmaps_misfit (bitmap_fault s.block_count s.free_blocks image)) same
    (ap (master_misfit n image) master ∙ ap (format_misfit image) format)

-- a block that was read from its home is that of the settled image
pub read_is : {X : Type 0} (old : State) (home : ℕ → ℕ) (image : Image) (b h : ℕ) (got bytes : List ℕ) (f : List ℕ → X) (r x : X) → IsSettledFrom old home image → b < old.blocks → got ≡ block_at old.seen h → h ≡ home b → bytes ≡ got → r ≡ f bytes → r ≡ x → f (block_at image b) ≡ x
read_is {X} old home image b h got bytes f r x settled lt read at same is end =
    ap f (settled b ∙ sym (ap (block_at old.seen) at) ∙ sym read ∙ sym same) ∙ sym is ∙ end

-- what is found of the bitmaps that were read is so of the settled image
pub bitmaps_found : (old : State) (home : ℕ → ℕ) (image : Image) (s : Super40) (bitmaps seen : List (List ℕ)) (o r : Option ℕ) → 64 ≤ s.block_count → s.block_count ≤ old.blocks → TellsReads old → IsSettledFrom old home image
    → AreRead old home (bitmap_count s.block_count) bitmaps → seen ≡ bitmaps → r ≡ bitmaps_fault s.block_count s.free_blocks seen → r ≡ o → bitmap_fault s.block_count s.free_blocks image ≡ o
bitmaps_found old home image s bitmaps seen o r more within tells settled read same is end =
    sym (same_fault s.block_count s.free_blocks image bitmaps (are_bitmaps old home s.block_count image bitmaps more within tells settled read))
    ∙ ap (bitmaps_fault s.block_count s.free_blocks) (sym same) ∙ sym is ∙ end

pub read_later : (a b : State) (home : ℕ → ℕ) (count : ℕ) (bitmaps : List (List ℕ)) → Idles a b → AreRead b home count bitmaps → AreRead a home count bitmaps
read_later a b home count bitmaps d r = record {
  count_is = r.count_is;
  each = λ tells n lt. r.each (d.goes.reads.1 tells) n lt ∙ ap (λ (s : Image). block_at s (home (bitmap_block n))) d.seen;
}

-- the superblocks of the settled image are those that were read, and what is wrong with the bitmaps is wrong with the image
pub supers_misfit : (n k : ℕ) (image : Image) (s : Super40) (o : Option ℕ) → HasSupers k image s → bitmap_fault s.block_count s.free_blocks image ≡ o → n ≡ k → layout_misfit n image ≡ bitmaps_misfit o
supers_misfit n k image s o has is same = layout_is k n image has.master.0 s (sym same) has.master.1 has.format ∙ ap bitmaps_misfit is

-- ---- the head

-- the head of a log that was read is the one that the journal header of the settled image names
pub log_names_head : (first d : State) (log : Log) → Goes first d → d.seen ≡ first.seen → (TellsReads first → TellsHomes first log) → NamesHead d (home_in log.homes) log.head
log_names_head first d log goes same tells_homes = λ tells image settled.
    let h = tells_homes (goes.reads.0 tells) in
    h.head ∙ ap (λ (i : Image). committed i) (sym same) ∙ ap (λ (x : List ℕ). (header_of x).last) (sym (settled 19 ∙ ap (block_at d.seen) h.header))

-- and that of a log that was put in place is the one that the device's header names
pub placed_names_head : (put d : State) (head : ℕ) → Goes put d → d.seen ≡ put.seen → IsNamed put head → NamesHead d (λ b. b) head
placed_names_head put d head goes same named = λ tells image settled.
    named (goes.reads.0 tells) ∙ ap (λ (i : Image). committed i) (sym same) ∙ ap (λ (x : List ℕ). (header_of x).last) (sym (settled 19))
