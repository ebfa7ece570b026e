use Rattle.std.proofs.Common.{◌≡◌, ◌≢◌, ℕ, ◌+◌, ◌*◌, ◌≤◌, List, drop, length, ap, sym, ◌∙◌, subst, arith, length-take, refl}
use Rattle.std.specs.Prelude.{All}
use Rattle.std.proofs.lemmas.List.Elements.{All-take, All-drop}
use Rattle.r4_base.specs.Log.{Record, record_block}
use Rattle.r4_base.proofs.Lent.{refilled_is}
use Rattle.r4_logfmt.proofs.Writes.{length-record_block}
use Rattle.r4_wander.specs.LogPlan.{record_says}
use Rattle.r4_wander.proofs.Encoding.{pairs_named}
use Rattle.r4_wander.proofs.making.make_record.Goals as goal

pub write_record-requires-clause-few : goal.write_record-requires-clause-few
write_record-requires-clause-few c = omega (arith, ap (λ (l : List (ℕ × ℕ)). length l) c.next_pairs-pairs.ensures, length-take 254 (drop (254 * c.args.k) c.args.all.now))

pub write_record-requires-clause-named : goal.write_record-requires-clause-named
write_record-requires-clause-named c = subst (All (λ (p : ℕ × ℕ). p.0 ≢ 0)) (sym c.next_pairs-pairs.ensures)
    (All-take (λ (p : ℕ × ℕ). p.0 ≢ 0) 254 (drop (254 * c.args.k) c.args.all.now) (All-drop (λ (p : ℕ × ℕ). p.0 ≢ 0) (254 * c.args.k) c.args.all.now
    (subst (All (λ (p : ℕ × ℕ). p.0 ≢ 0)) (sym c.requires.pairs) (pairs_named c.args.plan.now.wandered c.requires.named))))

pub returns-clause-spelled : goal.returns-clause-spelled
unfolding record_says
returns-clause-spelled c =
    let says : Record = record { id = c.args.plan.now.id; total = c.count_blocks-total.result; serial = c.args.k + 1; next_block = c.block_after-next.result; pairs = c.next_pairs-pairs.result.now } in
    let few : length c.next_pairs-pairs.result.now ≤ 254 = omega (arith, ap (λ (l : List (ℕ × ℕ)). length l) c.next_pairs-pairs.ensures, length-take 254 (drop (254 * c.args.k) c.args.all.now)) in
    let same : says ≡ record_says c.args.plan.now c.args.k = rw (c.count_blocks-total.ensures, c.block_after-next.ensures, c.next_pairs-pairs.ensures, c.requires.pairs) refl in
    refilled_is c.in_ok-block.block c.write_record.new.b (ap (λ (l : List ℕ). length l) c.write_record.ensures.spelled ∙ length-record_block says few ∙ sym c.bytes_mut.ensures.len) ∙ c.write_record.ensures.spelled ∙ ap record_block same
