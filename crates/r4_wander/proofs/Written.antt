-- What a writer makes of a plan reads back as the plan.
use Rattle.std.proofs.Common.{◌≡◌, ℕ, ◌*◌, ◌<◌, [], length, drop, arith, length-take}
use Rattle.std.specs.Prelude.{All, Some}
use Rattle.std.specs.List.{range_with_len}
use Rattle.std.proofs.lemmas.List.Elements.{All-append, All-map, All-cons, All-nil}
use Rattle.r4_base.specs.Image.{IsBlock}
use Rattle.r4_base.specs.Log.{head_of, head_block, record_of, record_block, header_of, footer_of}
use Rattle.r4_logfmt.proofs.Laws.{length-head_block}
use Rattle.r4_logfmt.proofs.Writes.{length-record_block}
use Rattle.r4_wander.specs.Seen.{Copy}
use Rattle.r4_wander.specs.Torn.{Write}
use Rattle.r4_wander.specs.declared.plan.LogPlan.{LogPlan}
use Rattle.r4_wander.specs.LogPlan.{pairs, placed_writes, copies, head_says, record_says, record_write, record_writes, head_write, header_says, footer_says, header_bytes, footer_bytes, CanBeWritten}
use Rattle.r4_wander.specs.Safe.{IsEncoded}

record_whole : (p : LogPlan) (k : ℕ) → IsBlock (record_block (record_says p k))
unfolding record_says
record_whole p k = length-record_block (record_says p k) (omega (arith, length-take 254 (drop (254 * k) (pairs p))))

abbrev IsWhole : Write → Type 0
IsWhole w = IsBlock w.1

pub is_encoded : (p : LogPlan) → CanBeWritten p → ((k : ℕ) → k < length p.records → record_of (record_block (record_says p k)) ≡ Some (record_says p k))
    → head_of (head_block (head_says p)) ≡ Some (head_says p) → header_of (header_bytes p) ≡ header_says p → IsBlock (header_bytes p) → footer_of (footer_bytes p) ≡ footer_says p → IsBlock (footer_bytes p)
    → All (λ (w : Write). IsBlock w.1) (placed_writes p) → All (λ (w : Copy). IsBlock w.block) p.wandered → IsEncoded p
is_encoded p can records head header header_whole footer footer_whole placed wandered = record {
  head = head;
  records = records;
  header = header;
  footer = footer;
  enough = omega (arith, can.enough);
  first_whole = All-append IsWhole (placed_writes p) _ placed (All-append IsWhole (copies p) _ (All-map IsWhole (λ (w : Copy). (w.copy, w.block)) p.wandered wandered)
      (All-append IsWhole (record_writes p) _ (All-map IsWhole (record_write p) (range_with_len 0 (length p.records)) (λ i d lt. record_whole p _))
      (All-cons IsWhole (head_write p) [] (length-head_block (head_says p)) (All-nil IsWhole))));
  homes_whole = All-map IsWhole (λ (w : Copy). (w.original, w.block)) p.wandered wandered;
  header_whole = header_whole;
  footer_whole = footer_whole;
}
