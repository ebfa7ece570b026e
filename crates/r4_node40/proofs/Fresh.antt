-- A block that was made a node without items.
use Rattle.std.proofs.Common.{◌≡◌, ◌≢◌, sym, ℕ, zero, suc, ◌+◌, ◌^◌, ◌<◌, ◌≤◌, List, [], length, get_or, set, replicate, refl, ◌∙◌, arith}
use Rattle.std.proofs.lemmas.List.{same_lists, length-set, get_or-set_same, get_or-set_other, length-replicate, get_or-replicate}
use Rattle.std.proofs.lemmas.Bool.{eq-eqb}
use Rattle.r4_base.specs.Bytes.{number_at, number_bytes, overwrite}
use Rattle.r4_base.specs.Node.{count_of, start_of, free_of, items_of}
use Rattle.r4_base.proofs.Numbers.{length-overwrite, length-number_bytes, number_at-same, number_at-overwrite, number_at-overwrite_after, get_or-overwrite_above}
use Rattle.r4_node40.proofs.Laid.{length-items_of}
use Rattle.r4_node40.specs.Laid.{IsFresh, fresh_node, room_of}

number_at-zeros : (n at m : ℕ) → at + n ≤ m → number_at n at (replicate m 0) ≡ 0
unfolding number_at
number_at-zeros zero at m fit = refl
number_at-zeros (suc n) at m fit =
    let zeros : List ℕ = replicate m 0 in
    let here : get_or zeros at 0 ≡ 0 = get_or-replicate m at 0 0 (omega arith) in
    let rest = number_at-zeros n (suc at) m (omega arith) in
    rw (here, rest) refl

-- a list of zeros has nothing else, nor behind its end
get_zeros : (m p : ℕ) → let zeros : List ℕ = replicate m 0 in get_or zeros p 0 ≡ 0
get_zeros zero p = refl
get_zeros (suc m) zero = refl
get_zeros (suc m) (suc p) = get_zeros m p

pub fresh : (level mkfs_id : ℕ) → 1 ≤ level → level ≤ 8 → mkfs_id < 2 ^ 32 → IsFresh (fresh_node level mkfs_id) level mkfs_id
unfolding fresh_node room_of
fresh level mkfs_id low high small =
    let b0 : List ℕ = replicate 4096 0 in
    let b1 = overwrite 4 (number_bytes 2 4068) b0 in
    let b2 = overwrite 6 (number_bytes 2 28) b1 in
    let b3 = overwrite 8 (number_bytes 4 0x52344653) b2 in
    let b4 = overwrite 12 (number_bytes 4 mkfs_id) b3 in
    let b5 = set b4 26 level in
    let n1 = length-number_bytes 2 4068 in
    let n2 = length-number_bytes 2 28 in
    let n3 = length-number_bytes 4 0x52344653 in
    let n4 = length-number_bytes 4 mkfs_id in
    let w0 : length b0 ≡ 4096 = length-replicate {A = ℕ} 4096 0 in
    let w1 : length b1 ≡ 4096 = length-overwrite 4 (number_bytes 2 4068) b0 (omega arith) ∙ w0 in
    let w2 : length b2 ≡ 4096 = length-overwrite 6 (number_bytes 2 28) b1 (omega arith) ∙ w1 in
    let w3 : length b3 ≡ 4096 = length-overwrite 8 (number_bytes 4 0x52344653) b2 (omega arith) ∙ w2 in
    let w4 : length b4 ≡ 4096 = length-overwrite 12 (number_bytes 4 mkfs_id) b3 (omega arith) ∙ w3 in
    let w5 : length b5 ≡ 4096 = length-set b4 26 level ∙ w4 in
    let s5 = λ (n i : ℕ) (h : i + n ≤ 26). number_at-same n i b5 b4 (λ k lo hi. get_or-set_other b4 26 k level 0 (λ e. omega (arith, e))) in
    let s4 = λ (n i : ℕ) (h : i + n ≤ 12). number_at-overwrite_after n i 12 (number_bytes 4 mkfs_id) b3 (omega arith) h in
    let s3 = λ (n i : ℕ) (h : i + n ≤ 8). number_at-overwrite_after n i 8 (number_bytes 4 0x52344653) b2 (omega arith) h in
    let s2 = λ (n i : ℕ) (h : i + n ≤ 6). number_at-overwrite_after n i 6 (number_bytes 2 28) b1 (omega arith) h in
    let s1 = λ (n i : ℕ) (h : i + n ≤ 4). number_at-overwrite_after n i 4 (number_bytes 2 4068) b0 (omega arith) h in
    let low_field = λ (n i : ℕ) (h : i + n ≤ 4). s5 n i (omega arith) ∙ s4 n i (omega arith) ∙ s3 n i (omega arith) ∙ s2 n i (omega arith) ∙ s1 n i h ∙ number_at-zeros n i 4096 (omega arith) in
    let count : count_of b5 ≡ 0 = low_field 2 2 (omega arith) in
    let free : free_of b5 ≡ 4068 = s5 2 4 (omega arith) ∙ s4 2 4 (omega arith) ∙ s3 2 4 (omega arith) ∙ s2 2 4 (omega arith) ∙ number_at-overwrite 2 4 4068 b0 (omega arith) (omega arith) in
    let start : start_of b5 ≡ 28 = s5 2 6 (omega arith) ∙ s4 2 6 (omega arith) ∙ s3 2 6 (omega arith) ∙ number_at-overwrite 2 6 28 b1 (omega arith) (omega arith) in
    let still = λ (p : ℕ) (ge : 16 ≤ p) (other : p ≢ 26).
    get_or-set_other b4 26 p level 0 other ∙ get_or-overwrite_above 12 (number_bytes 4 mkfs_id) b3 p 0 (omega arith) (omega arith) ∙ get_or-overwrite_above 8 (number_bytes 4 0x52344653) b2 p 0 (omega arith) (omega arith)
    ∙ get_or-overwrite_above 6 (number_bytes 2 28) b1 p 0 (omega arith) (omega arith) ∙ get_or-overwrite_above 4 (number_bytes 2 4068) b0 p 0 (omega arith) (omega arith) ∙ get_zeros 4096 p in
    let zero_field = λ (n i : ℕ) (ge : 16 ≤ i) (le : i + n ≤ 26). number_at-same n i b5 b0 (λ k lo hi. still k (omega arith) (λ e. omega (arith, e)) ∙ sym (get_zeros 4096 k)) ∙ number_at-zeros n i 4096 (omega arith) in
    let at_level : get_or b5 26 0 ≡ level = get_or-set_same b4 26 level 0 (omega arith) in
    record {
      laid = record { whole = w5; low = omega arith; sum = omega arith; placed = λ k lt. absurd (omega arith) };
      head = record {
        magic = s5 4 8 (omega arith) ∙ s4 4 8 (omega arith) ∙ number_at-overwrite 4 8 0x52344653 b2 (omega arith) (omega arith);
        plugin = low_field 2 0 (omega arith);
        level = (omega arith, omega arith);
      };
      count = count;
      items = same_lists (items_of b5) [] (length-items_of b5 ∙ count) (λ k d lt. absurd (omega (arith, length-items_of b5)));
      room = let t = eq-eqb (count_of b5) 0 count in rw t refl;
      level_is = at_level;
      mkfs_id_is = s5 4 12 (omega arith) ∙ number_at-overwrite 4 12 mkfs_id b3 (omega arith) (omega (arith, small));
      flush_id_is = zero_field 8 16 (omega arith) (omega arith);
      flags_is = zero_field 2 24 (omega arith) (omega arith);
      pad_is = still 27 (omega arith) (λ e. omega (arith, e));
      blank = λ p ge. still p (omega arith) (λ e. omega (arith, e));
    }
