use Rattle.std.proofs.Common.{◌≡◌, ℕ, ◌+◌, ◌-◌, ◌≤◌, List, length, take, drop, get_or, ap, subst, ◌∙◌, arith}
use Rattle.std.specs.Prelude.{min}
use borrow.Rule.Slice.PartMut.{put_mid}
use Rattle.r4_base.specs.Key.{rank}
use Rattle.r4_content.specs.Objects.{byte_pairs}
use Rattle.r4_extent_blocks.specs.Setting.{AreSet, last_put}
use Rattle.r4_extent_blocks.proofs.Sets.{part_at, part_long, run_set}
use Rattle.r4_extent_blocks.proofs.setting.set_run.Goals as goal

module _ (lo from : ℕ) (run : List ℕ) (a s n : ℕ) (a_is : a ≡ min (from - lo) 4096) (s_is : s ≡ min (lo - from) (length run)) (n_is : n ≡ min (length run - s) (4096 - a)) where
  written : (xs ys : List ℕ) (m : ℕ) → m ≡ n → length xs ≡ 4096 → ys ≡ take (s + n - s) (drop s run) → AreSet (last_put (byte_pairs from run)) lo xs (put_mid a m xs ys)
  written xs ys m same whole is =
      let count : s + n - s ≡ n = omega arith in
      let ends : s + n ≤ length run = omega (arith, s_is, n_is) in
      let bytes : ys ≡ take n (drop s run) = is ∙ ap (λ (k : ℕ). take k (drop s run)) count in
      let long : length ys ≡ n = ap length is ∙ (part_long run s (s + n) ends ∙ count) in
      subst (λ (k : ℕ). AreSet (last_put (byte_pairs from run)) lo xs (put_mid a k xs ys)) (let e : n ≡ m = omega (arith, same) in e)
      (run_set lo from run a s n a_is s_is n_is xs ys whole long (λ i lt. ap (λ (zs : List ℕ). get_or zs i 0) bytes ∙ part_at run s n i lt ends))

pub returns : goal.returns
returns c =
    written (rank c.args.lo.now) (rank c.args.from.now) c.args.run.now _ _ _ c.keys_between-at.ensures c.keys_between-first.ensures c.min-count.ensures c.args.bytes.now c.copy_from_slice.new.self _ (omega arith) c.requires c.copy_from_slice.ensures.after
