-- The image with an atom's cells: its superblock, its bitmaps, and what they mark.
use Rattle.std.proofs.Common.{◌≡◌, inl, inr, ⊎_elim, ℕ, zero, suc, ◌+◌, ◌*◌, ◌/◌, ◌%◌, ◌<◌, Bool, true, false, ◌||◌, cond, List, [], ◌∷◌, length, map, get_or, Option, Some, None, Ok, refl, sym, ap, ◌∙◌, subst, arith}
use Rattle.std.specs.Prelude.{Contains, nat_le}
use Rattle.std.specs.Option.{option_or}
use Rattle.std.proofs.lemmas.Bool.{eqb-true}
use Rattle.std.proofs.lemmas.Bool.Decides.{nat_tests}
use Rattle.std.proofs.lemmas.List.Elements.{Contains-append_left}
use Rattle.r4_base.specs.Image.{AreDifferent, Image, block_at, put_pairs}
use Rattle.r4_base.specs.Bitmap.{bitmap_block, bitmap_count, bitmap_fault, free_in, is_always_used, is_fixed, is_marked, is_used}
use Rattle.r4_base.specs.Chain.{Txn, chain_pairs}
use Rattle.r4_base.specs.Layout.{IsLawfulSuper, super_block, super_fields, super_of}
use Rattle.r4_base.specs.Value.{Content}
use Rattle.r4_base.specs.Volume.{HasContent, IsMadeOf}
use Rattle.r4_base.specs.declared.superblock.Super40.{Super40}
use Rattle.r4_base.specs.declared.things.AtomNo.{AtomNo}
use Rattle.r4_base.specs.declared.things.BlockNo.{BlockNo}
use Rattle.r4_base.proofs.Bitmaps.{IsMarkedWhole, without_fault}
use Rattle.r4_base.proofs.Frame.{length-put_pairs}
use Rattle.r4_base.proofs.Superblocks.{lawful_read, magic_stands, mark_stands, read_lawful}
use Rattle.r4_base.proofs.Choices.{never_both}
use Rattle.r4_place.specs.r4_cell.Seen.{CellSeen}
use Rattle.r4_space.specs.Bitmaps.{AreBitmapsOf, bitmaps_fault, first_unheld_of, free_bits}
use Rattle.r4_space.specs.Space.{Space, is_marked_after, is_marked_by}
use Rattle.r4_space.proofs.BitmapLaws.{same_fault}
use Rattle.r4_place.specs.declared.placed.Placed.{Placed}
use Rattle.r4_wander.specs.Torn.{Write, put_writes}
use Rattle.r4_wander.specs.LogPlan.{news, placed_writes}
use Rattle.r4_wander.specs.Safe.{is_scratch, with_atom}
use Rattle.r4_wander.specs.declared.plan.LogPlan.{LogPlan}
use Rattle.r4_wander.proofs.Encoding.{news_are}
use Rattle.r4_wander.proofs.Members.{any_here, any_later}
use Rattle.r4_wander.proofs.Needed.{not_made}
use Rattle.r4_wander.proofs.Order.{put_at}
use Rattle.r4_wander.proofs.Settling.{length-put_writes}
use Rattle.r4_commit.specs.Places.{overwritten, place_of}
use Rattle.r4_commit.specs.Planned.{IsPlanFor, IsUnused, bitmap_writes, blocks_of, new_super}
use Rattle.r4_commit.specs.Plannable.{IsPlannable, is_marked_in}
use Rattle.r4_commit.proofs.PlanFacts.{bitmap_within}
use Rattle.r4_commit.proofs.Safety.{fixed_bitmap, fixed_low, in_scratch, log_block, not_taken, originals_differ}

-- ---- bitmaps among what is written

in_bitmaps : (n k : ℕ) (bs : List (List ℕ)) → k < length bs → Contains (bitmap_writes n bs) (bitmap_block (n + k), get_or bs k [])
in_bitmaps n k [] lt = absurd (omega (arith, lt))
in_bitmaps n zero (b ∷ bs) lt = let at : n + 0 ≡ n = omega arith in any_here (bitmap_block n, b) (bitmap_writes (n + 1) bs) (bitmap_block (n + 0), b) (ap (λ (j : ℕ). (bitmap_block j, b)) at)
in_bitmaps n (suc k) (b ∷ bs) lt =
    let at : n + 1 + k ≡ n + suc k = omega arith in
    any_later (bitmap_block n, b) (bitmap_writes (n + 1) bs) (bitmap_block (n + suc k), get_or bs k [])
    (subst (λ (j : ℕ). Contains (bitmap_writes (n + 1) bs) (bitmap_block j, get_or bs k [])) at (in_bitmaps (n + 1) k bs (omega (arith, lt))))

-- ---- what is marked

unmarked : (s : Space) (atom : AtomNo) (b : ℕ) → IsUnused s b → is_marked_in s b ≡ false → is_marked_by s atom b ≡ false
unfolding is_marked_by is_marked_after
unmarked s atom b free marked =
    let placed = (not_taken s b free.1).0 in
    let inside : nat_le s.block_count b ≡ false = grind (arith, nat_tests, free.0) in
    rw (inside, free.2, marked, placed) refl

always_marked : (s : Space) (atom : AtomNo) (b : ℕ) → is_always_used s.block_count b ≡ true → is_marked_by s atom b ≡ true
unfolding is_marked_by is_marked_after
always_marked s atom b always = go (is_fixed s.block_count b) (nat_le s.block_count b) _ always
  where
    go : (fixed past rest : Bool) → (fixed || past) ≡ true → (past || (fixed || rest)) ≡ true
    go true true rest e = refl
    go true false rest e = refl
    go false true rest e = refl
    go false false rest e = absurd cc

or_first : (a b : Bool) → (a || b) ≡ false → a ≡ false
or_first false b e = refl
or_first true b e = absurd cc

counts : (o : Option ℕ) (t : Bool) → option_or o (cond t None (Some 18)) ≡ None → t ≡ true
counts None true e = refl
counts None false e = absurd cc
counts (Some b) t e = absurd cc

module _ (n : ℕ) (base : Image) (chain : List Txn) (s : Space) (atom : AtomNo) (cells : List CellSeen) (answers : List Placed) (next : Super40) (last : BlockNo) (p : LogPlan)
    (f : IsPlanFor s atom cells answers next last p) (h : IsPlannable n base chain s cells answers next last) where
  long : length (put_writes (placed_writes p) (put_pairs (chain_pairs chain) base)) ≡ n
  long = length-put_writes (placed_writes p) (put_pairs (chain_pairs chain) base) ∙ length-put_pairs (chain_pairs chain) base ∙ h.image.blocks

  block_new : (w : Write) → Contains (news p) w → w.0 < n → block_at (with_atom base chain p) w.0 ≡ w.1
  block_new w one lt = put_at (news p) (put_writes (placed_writes p) (put_pairs (chain_pairs chain) base)) w
      (subst AreDifferent (sym (news_are p.wandered)) (originals_differ n base chain s atom cells answers next last p f h)) one (omega (arith, lt, long))

  super_new : block_at (with_atom base chain p) 17 ≡ super_block (new_super next f.bitmaps)
  super_new = block_new (17, super_block (new_super next f.bitmaps)) (subst (λ (ws : List Write). Contains ws (17, super_block (new_super next f.bitmaps))) (sym f.homes) (any_here (17, super_block (new_super next f.bitmaps)) _ _ refl))
      (omega (arith, h.lawful.least, h.within))

  bitmap_new : (k : ℕ) → k < bitmap_count s.block_count → block_at (with_atom base chain p) (bitmap_block k) ≡ get_or f.bitmaps k []
  bitmap_new k lt =
      let inside : k < length f.bitmaps = omega (arith, lt, f.are_new.count) in
      let at : 0 + k ≡ k = omega arith in
      let below = (bitmap_within s.block_count k h.lawful.least lt).1 in
      block_new (bitmap_block k, get_or f.bitmaps k []) (subst (λ (ws : List Write). Contains ws (bitmap_block k, get_or f.bitmaps k [])) (sym f.homes)
      (any_later (17, super_block (new_super next f.bitmaps)) _ (bitmap_block k, get_or f.bitmaps k [])
      (Contains-append_left (bitmap_writes 0 f.bitmaps) (map (λ (c : CellSeen). (c.id, c.block)) (overwritten (place_of answers) cells)) (bitmap_block k, get_or f.bitmaps k [])
      (subst (λ (j : ℕ). Contains (bitmap_writes 0 f.bitmaps) (bitmap_block j, get_or f.bitmaps k [])) at (in_bitmaps 0 k f.bitmaps inside))))) (omega (arith, below, h.within))

  marks_new : (b : ℕ) → b < bitmap_count s.block_count * 32736 → is_marked (with_atom base chain p) b ≡ is_marked_by s atom b
  marks_new b lt =
      let k : ℕ = b / 32736 in
      let inside : k < bitmap_count s.block_count = omega (arith, lt) in
      let place : b % 32736 < 32736 = omega arith in
      let whole : k * 32736 + b % 32736 ≡ b = omega arith in
      ap (λ (x : List ℕ). is_used x (b % 32736)) (bitmap_new k inside) ∙ (f.are_new.each k inside).bits (b % 32736) place ∙ ap (is_marked_by s atom) whole

  pub volume_marks : (b : ℕ) → b < s.block_count → is_marked (with_atom base chain p) b ≡ is_marked_by s atom b
  volume_marks b lt = marks_new b (omega (arith, lt))

  -- ---- the superblock and the bitmaps are not refused

  pub super_sound : IsLawfulSuper n next → super_of n (block_at (with_atom base chain p) 17) ≡ Ok (record next { free_blocks = p.free_blocks; flushes = p.id })
  super_sound lawful =
      let super : Super40 = new_super next f.bitmaps in
      let same : IsLawfulSuper n super = record { large_keys = lawful.large_keys; nodes = lawful.nodes; height = lawful.height; blocks = lawful.blocks; root = lawful.root; root_not_fixed = lawful.root_not_fixed; next_id = lawful.next_id } in
      ap (super_of n) super_new ∙ lawful_read n super (super_block super) f.reads (magic_stands super) (mark_stands super) same
      ∙ sym (λ i. Ok (record next { free_blocks = f.free_blocks i; flushes = f.id i }))

  marked_whole : IsMarkedWhole s.block_count (with_atom base chain p)
  marked_whole = record { marked = λ b lt always. marks_new b lt ∙ always_marked s atom b always }

  are_bitmaps : AreBitmapsOf s.block_count (with_atom base chain p) f.bitmaps
  are_bitmaps = record { count = f.are_new.count; each = λ k lt. sym (bitmap_new k lt) }

  counted : free_bits f.bitmaps ≡ free_in s.block_count (with_atom base chain p)
  counted =
      let free : ℕ = free_in s.block_count (with_atom base chain p) in
      let none : bitmaps_fault s.block_count free f.bitmaps ≡ None = same_fault s.block_count free (with_atom base chain p) f.bitmaps are_bitmaps ∙ without_fault s.block_count free (with_atom base chain p) marked_whole refl in
      eqb-true _ _ (counts (first_unheld_of s.block_count 0 f.bitmaps) _ none)

  pub bitmaps_sound : bitmap_fault s.block_count p.free_blocks (with_atom base chain p) ≡ None
  bitmaps_sound = without_fault s.block_count p.free_blocks (with_atom base chain p) marked_whole (sym counted ∙ sym f.free_blocks)

  -- ---- nothing stands on a block of the log

  module _ (m : Content) (c : HasContent n (with_atom base chain p) m) where
    same_count : c.super.block_count ≡ s.block_count
    same_count =
        let read = read_lawful n (block_at (with_atom base chain p) 17) c.super c.layout.format in
        ap (λ (x : Super40). x.block_count) (sym read.1 ∙ ap super_fields super_new ∙ f.reads) ∙ h.blocks

    log_made : (b : ℕ) → Contains (blocks_of p) b → IsMadeOf c b → ⊥
    log_made b one made =
        let free : IsUnused s b = log_block n base chain s atom cells answers next last p f h b one in
        go free made
      where
        low : IsUnused s b → b < 22 → ⊥
        low free lt = never_both (is_fixed s.block_count b) (fixed_low s.block_count b lt) free.2

        go : IsUnused s b → IsMadeOf c b → ⊥
        go free (inl is) = low free (omega (arith, is))
        go free (inr (inl is)) = low free (omega (arith, is))
        go free (inr (inr (inl (k, lt, is)))) =
            let inside : k < bitmap_count s.block_count = subst (λ (j : ℕ). k < bitmap_count j) same_count lt in
            never_both (is_fixed s.block_count b) (subst (λ (j : ℕ). is_fixed s.block_count j ≡ true) (sym is) (fixed_bitmap s.block_count k h.lawful.least inside)) free.2
        go free (inr (inr (inr (d, is)))) =
            let marked : is_marked (with_atom base chain p) b ≡ true = (c.places b d is).2 in
            let inside : b < bitmap_count s.block_count * 32736 = omega (arith, free.0) in
            never_both (is_marked_by s atom b) (sym (marks_new b inside) ∙ marked) (unmarked s atom b free (or_first (is_marked_in s b) _ (not_taken s b free.1).1))

    pub keeps_off : (b : ℕ) → is_scratch p b → IsMadeOf c b → ⊥
    keeps_off b which made = ⊎_elim (λ log. log_made b (in_scratch p b log) made) (λ number. not_made n (with_atom base chain p) m c b number made) which
