-- No write of a commit but those of the homes falls on a block that some image needs.
use Rattle.std.proofs.Common.{◌≡◌, ◌≢◌, ◌⊎◌, inl, inr, ⊎_elim, ℕ, zero, suc, ◌*◌, ◌<◌, Bool, true, false, cond, List, length, refl, sym, ◌∙◌, ap, subst, arith}
use Rattle.std.specs.Prelude.{Contains, Some}
use Rattle.std.specs.Prelude.{nat_lt, ◌||◌, ◌&&◌, ◌%◌, ◌==◌}
use Rattle.std.proofs.lemmas.Bool.{cases_eq}
use Rattle.std.proofs.lemmas.Bool.Decides.{nat_tests}
use Rattle.std.proofs.lemmas.List.Elements.{Contains-append_left, Contains-append_cases}
use Rattle.r4_base.specs.Image.{Image, block_at, put_pairs}
use Rattle.r4_base.specs.Log.{header_of, footer_of}
use Rattle.r4_base.specs.Bitmap.{is_fixed, bitmap_count, bitmap_block}
use Rattle.r4_base.specs.Chain.{Txn, HasLog, chain_pairs, wandered, log_blocks, kept_blocks, originals, home, committed, flushed}
use Rattle.r4_base.specs.Value.{Content}
use Rattle.r4_base.specs.Volume.{HasContent, HasVolume, IsMadeOf, Needs, root_of}
use Rattle.r4_base.specs.declared.superblock.Super40.{Super40}
use Rattle.r4_base.proofs.Logs.{one_log}
use Rattle.r4_base.proofs.Images.{ReadsAs, one_tree, same_Ok}
use Rattle.r4_base.proofs.Members.{member_or_not}
use Rattle.r4_base.specs.Layout.{super_of}
use Rattle.r4_base.specs.Cell.{IsCellOf}
use Rattle.r4_base.proofs.Frame.{home_cases, framed_log, framed_at, log_in_range, chain_in_range, second_in_range}
use Rattle.r4_base.proofs.Choices.{never_both, nothing_in}
use Rattle.r4_outside.specs.Device.{State, Spares, LeavesOnly}
use Rattle.r4_wander.specs.Torn.{IsTarget, IsTornBy}
use Rattle.r4_wander.specs.Parts.{Parts, part, base_of, IsCommit, is_log_number}
use Rattle.r4_wander.specs.LogPlan.{first, parts_of, txn_of}
use Rattle.r4_wander.specs.declared.plan.LogPlan.{LogPlan}
use Rattle.r4_wander.specs.Progress.{Progress, under_way, Stands, Commits}
use Rattle.r4_wander.specs.Needed.{SparesNeeded}
use Rattle.r4_wander.proofs.Settling.{torn_outside, one_target, length-put_writes}
use Rattle.r4_wander.proofs.Order.{torn_order, part_target}
use Rattle.r4_wander.proofs.Encoding.{is_commit, home_other}
use Rattle.r4_wander.proofs.Standing.{homes_differ}

-- ---- contents over images that agree on the blocks of which one is made are made of the same blocks

module _ (n : ℕ) (one two : Image) (m o : Content) (c : HasContent n one m) (d : HasContent n two o) (same : (k : ℕ) → IsMadeOf c k → block_at two k ≡ block_at one k) where
  super_same : c.super ≡ d.super
  super_same = same_Ok c.super d.super (sym c.layout.format ∙ ap (super_of n) (sym (same 17 (inr (inl refl)))) ∙ d.layout.format)

  one_reads : ReadsAs c.super.block_count two c.store (root_of c.super)
  one_reads = record { tree = c.tree; cells = λ i x is. subst (λ (b : List ℕ). IsCellOf c.super.block_count b x) (sym (same i (inr (inr (inr (x, is)))))) (c.cells i x is) }

  two_reads : ReadsAs c.super.block_count two d.store (root_of c.super)
  two_reads = subst (λ (s : Super40). ReadsAs s.block_count two d.store (root_of s)) (sym super_same) (record { tree = d.tree; cells = d.cells })

  store_same : c.store ≡ d.store
  store_same = one_tree c.super.block_count two c.store d.store (root_of c.super) one_reads two_reads

  made_same : (b : ℕ) → IsMadeOf d b → IsMadeOf c b
  made_same b (inl is) = inl is
  made_same b (inr (inl is)) = inr (inl is)
  made_same b (inr (inr (inl bitmap))) = inr (inr (inl (bitmap.0, subst (λ (s : Super40). bitmap.0 < bitmap_count s.block_count) (sym super_same) bitmap.1, bitmap.2)))
  made_same b (inr (inr (inr cell))) = inr (inr (inr (cell.0, subst (λ s. s b ≡ Some cell.0) (sym store_same) cell.1)))

-- a volume's content and needs over its chain under another name
pub volume_over : (n : ℕ) (image : Image) (m : Content) (v : HasVolume n image m) (chain : List Txn) → v.chain ≡ chain
    → (c : HasContent n (put_pairs (chain_pairs chain) image) m)
    × ((b : ℕ) → (Needs v b → Contains (kept_blocks chain) b ⊎ ((d : ℕ) × IsMadeOf c d × (b ≡ home (chain_pairs chain) d)))
    × (Contains (kept_blocks chain) b ⊎ ((d : ℕ) × IsMadeOf c d × (b ≡ home (chain_pairs chain) d)) → Needs v b))
volume_over n image m v chain same = subst
    (λ (l : List Txn). (c : HasContent n (put_pairs (chain_pairs l) image) m)
    × ((b : ℕ) → (Needs v b → Contains (kept_blocks l) b ⊎ ((d : ℕ) × IsMadeOf c d × (b ≡ home (chain_pairs l) d)))
    × (Contains (kept_blocks l) b ⊎ ((d : ℕ) × IsMadeOf c d × (b ≡ home (chain_pairs l) d)) → Needs v b)))
    same (v.content, λ b. (λ h. h, λ h. h))

-- ---- header and footer are needed by none

low_fixed : (blocks b : ℕ) → b < 22 → is_fixed blocks b ≡ true
low_fixed blocks b lt = let test : nat_lt b 22 ≡ true = grind (arith, nat_tests, lt) in ap (λ (t : Bool). t || (nat_lt 0 b && b % 32736 == 0 && nat_lt b blocks)) test

bitmap_apart : (k b : ℕ) → (b ≡ 19) ⊎ (b ≡ 20) → b ≡ bitmap_block k → ⊥
bitmap_apart k b which is = elim (cases_eq k 0) [
  | inl eq ↦ let e : bitmap_block k ≡ 18 = ap bitmap_block eq in ⊎_elim (λ f. absurd (omega (arith, f, e, is))) (λ f. absurd (omega (arith, f, e, is))) which
  | inr other ↦
      let test : (k == 0) ≡ false = grind (arith, nat_tests) in
      let e : bitmap_block k ≡ k * 32736 = ap (λ (t : Bool). cond t 18 (k * 32736)) test in
      ⊎_elim (λ f. absurd (omega (arith, f, e, is, other))) (λ f. absurd (omega (arith, f, e, is, other))) which
]

log_low : (b : ℕ) → is_log_number b → b < 22
log_low b which = ⊎_elim (λ e. omega (arith, e)) (λ e. omega (arith, e)) which

pub not_made : (n : ℕ) (image : Image) (m : Content) (c : HasContent n image m) (b : ℕ) → is_log_number b → IsMadeOf c b → ⊥
not_made n image m c b which (inl is) = ⊎_elim (λ e. absurd (omega (arith, e, is))) (λ e. absurd (omega (arith, e, is))) which
not_made n image m c b which (inr (inl is)) = ⊎_elim (λ e. absurd (omega (arith, e, is))) (λ e. absurd (omega (arith, e, is))) which
not_made n image m c b which (inr (inr (inl (k, lt, is)))) = bitmap_apart k b which is
not_made n image m c b which (inr (inr (inr (d, is)))) = never_both (is_fixed c.super.block_count b) (low_fixed c.super.block_count b (log_low b which)) (c.places b d is).1

module _ (n : ℕ) (image : Image) (m : Content) (v : HasVolume n image m) (b : ℕ) (which : is_log_number b) where
  kept_high : Contains (kept_blocks v.chain) b → ⊥
  kept_high h = ⊎_elim
      (λ w. let r = second_in_range n (chain_pairs v.chain) b (chain_in_range n image _ _ v.chain v.log.txns) w in absurd (omega (arith, r.0, log_low b which)))
      (λ l. let r = log_in_range n image _ _ b v.chain v.log.txns l in absurd (omega (arith, r.0, log_low b which)))
      (Contains-append_cases (wandered v.chain) (log_blocks v.chain) b h)

  pub log_numbers_free : Needs v b → ⊥
  log_numbers_free (inl kept) = kept_high kept
  log_numbers_free (inr (d, made, is)) = ⊎_elim
      (λ w. kept_high (Contains-append_left (wandered v.chain) (log_blocks v.chain) b (subst (Contains (wandered v.chain)) (sym is) w)))
      (λ stays. not_made n _ m v.content b which (subst (IsMadeOf v.content) (sym (is ∙ stays.0)) made))
      (home_cases (chain_pairs v.chain) d)

-- ---- in the first part no target is needed, where none was needed at the start

module _ (n : ℕ) (base : Image) (chain : List Txn) (txn : Txn) (plan : Parts) (ok : IsCommit n base chain txn plan) (m0 : Content) (v0 : HasVolume n base m0)
    (free : (b : ℕ) → IsTarget plan.first b → Needs v0 b → ⊥) where
  pub first_free : (image : Image) (b : ℕ) (m : Content) (v : HasVolume n image m) → IsTornBy plan.first base image → IsTarget plan.first b → Needs v b → ⊥
  first_free image b m v torn target need =
      let agrees = torn_outside n plan.first base image ok.image torn in
      let header : committed image ≡ committed base = ap (λ (x : List ℕ). (header_of x).last) (agrees.others 19 (λ w. (ok.free 19 w).0 refl)) in
      let footer : flushed image ≡ flushed base = ap (λ (x : List ℕ). (footer_of x).last) (agrees.others 20 (λ w. (ok.free 20 w).1 refl)) in
      let log : HasLog n image chain = framed_log n (IsTarget plan.first) base image chain ok.log agrees (λ k w. (ok.free k w).2) header footer in
      let (c0, needs0) = volume_over n base m0 v0 chain (one_log n base v0.chain chain v0.log ok.log) in
      let (c, needs) = volume_over n image m v chain (one_log n image v.chain chain v.log log) in
      let same : (k : ℕ) → IsMadeOf c0 k → block_at (put_pairs (chain_pairs chain) image) k ≡ block_at (put_pairs (chain_pairs chain) base) k = λ k made.
      framed_at n (IsTarget plan.first) base image chain ok.log agrees (λ j w. (ok.free j w).2) header footer k (λ w. ⊎_elim (λ o. o)
      (λ out. absurd (free k w ((needs0 k).1 (inr (k, made, sym (home_other (chain_pairs chain) k k out))))))
      (member_or_not (originals chain) k)) in
      ⊎_elim (λ kept. (ok.free b target).2 kept)
      (λ r. free b target ((needs0 b).1 (inr (r.0, made_same n _ _ m0 m c0 c same r.0 r.1, r.2))))
      ((needs b).0 need)

  -- nor are the header's block and the footer's
  pub part_free : (i : ℕ) (image : Image) (b : ℕ) (m : Content) (v : HasVolume n image m) → i ≢ 2 → IsTornBy (part plan i) (base_of plan base i) image → IsTarget (part plan i) b → Needs v b → ⊥
  part_free zero image b m v other torn target need = first_free image b m v torn target need
  part_free (suc zero) image b m v other torn target need = log_numbers_free n image m v b (inl (one_target (19, plan.header) b target)) need
  part_free (suc (suc zero)) image b m v other torn target need = absurd (other refl)
  part_free (suc (suc (suc zero))) image b m v other torn target need = log_numbers_free n image m v b (inr (one_target (20, plan.footer) b target)) need
  part_free (suc (suc (suc (suc i)))) image b m v other torn target need = nothing_in b target

length-base_of : (plan : Parts) (base : Image) (i : ℕ) → length (base_of plan base i) ≡ length base
length-base_of plan base zero = refl
length-base_of plan base (suc i) = length-put_writes (part plan i) (base_of plan base i) ∙ length-base_of plan base i

-- so each needed block is spared by a step, but for the homes
pub spares_needed : (w : Progress) (n : ℕ) (base : Image) (chain : List Txn) (p : LogPlan) (m : Content) (v : HasVolume n base m) (old new : State) → Commits w n base chain p → Stands w base old
    → w.part ≢ 2 → ((b : ℕ) → IsTarget (first p) b → Needs v b → ⊥) → Spares (IsTarget (under_way w)) old new → LeavesOnly old new (IsTornBy (under_way w) (base_of w.plan base w.part)) → SparesNeeded old new
spares_needed w n base chain p m v old new c made other free spares left =
    let base_long : length base ≡ n = c.safe.image.blocks in
    let long : n ≡ old.blocks = sym base_long ∙ sym (length-base_of w.plan base w.part) ∙ made.image.blocks in
    record {
      each = λ k image o u b t s x from to leaves need lo hi ls may. spares.each t b s x lo hi ls (λ target.
          let torn : IsTornBy (under_way w) (base_of w.plan base w.part) image = left.each k image from to leaves in
          subst (λ (k : ℕ). (z : HasVolume k image o) → Needs z b → ⊥) long
          (λ z needs. part_free n base chain (txn_of p) (parts_of p) (is_commit n base chain p c.safe c.encoded) m v free w.part image b o z other
          (torn_order (parts_of p) w.plan c.order c.safe.different (homes_differ n base chain p c.safe) base w.part image torn) (part_target (parts_of p) w.plan c.order w.part b target) needs)
          u need) may;
    }
