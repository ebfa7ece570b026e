use Rattle.std.proofs.Common.{◌≡◌, ◌∙◌, ℕ, ◌+◌, ◌*◌, ◌%◌, ◌<◌, refl, ap, arith, inl, inr, get_or, length, false, ◌||◌}
use Rattle.std.specs.Prelude.{nat_le}
use Rattle.std.proofs.lemmas.Bool.{cases_lt}
use Rattle.r4_space.proofs.HalfLaws.{half_put, half_before, half_front}
use Rattle.r4_space.proofs.marks.write_marks.Goals as goal

pub loop-j-init : goal.loop-j-init
loop-j-init c = rw (c.blank.ensures, c.requires.whole) (record {
  front = refl;
  done = λ k lt. absurd (omega arith);
})

pub loop-j-preserved : goal.loop-j-preserved
loop-j-preserved c =
    let j = c.loop-j.j in
    let long : length c.loop-j.block ≡ 4096 = c.loop-j.auto.block ∙ c.blank.auto.b ∙ c.requires.whole in
    record {
      front = half_front c.loop-j.block c.put32.new.b j _ long c.loop-j-test.true c.put32.ensures ∙ c.loop-j.invariant.front;
      done = λ i lt. elim (cases_lt i (32 * j)) [
        | inl early ↦ half_before c.loop-j.block c.put32.new.b j i _ long c.loop-j-test.true c.put32.ensures early ∙ c.loop-j.invariant.done i early
        | inr here ↦
            let at : 32 * (c.args.n * 1023 + j) + i % 32 ≡ c.args.n * 32736 + i = omega arith in
            let small : i % 32 < 32 = omega arith in
            half_put c.loop-j.block c.put32.new.b j i c.kept_half.result long c.loop-j-test.true (omega arith) c.put32.ensures (omega arith) ∙ c.kept_half.ensures (i % 32) small
            ∙ ap (λ (b : ℕ). nat_le (length c.args.marked.now) b || (get_or c.args.marked.now b false || get_or c.args.placed.now b false)) at
      ];
    }
