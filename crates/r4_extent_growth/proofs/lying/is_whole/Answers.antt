use Rattle.std.proofs.Common.{◌≡◌, ◌+◌, ◌^◌, false, true, ap, sym, ◌∙◌}
use Rattle.std.specs.Prelude.{◌==◌, length, nat_lt, not}
use Rattle.std.proofs.lemmas.Bool.{eq-eqb}
use Rattle.r4_base.specs.Key.{offset_of, rank}
use Rattle.r4_twig_asks.proofs.r4_graft.Halves.{later_rank}
use Rattle.r4_extent_growth.proofs.Tests.{and_on, or_off}
use Rattle.r4_extent_growth.proofs.lying.is_whole.Goals as goal

pub returns-then-has_block : goal.returns-then-has_block
returns-then-has_block c =
    let cell = c.args.cell.now in
    let node : not (cell.level == 0) ≡ false = ap (λ n. not (n == 0)) (sym c.level.ensures ∙ c.if-level-ne0.false) in
    let whole : (length cell.block == 4096) ≡ true = eq-eqb (length cell.block) 4096 (ap length (sym c.block.ensures) ∙ c.bytes-bytes.ensures.len) in
    let last : nat_lt (offset_of cell.lo + 4096) (2 ^ 64) ≡ true
    = ap (λ k. nat_lt (offset_of k + 4096) (2 ^ 64)) (sym c.lo-lo.ensures) ∙ (sym c.has_block.ensures ∙ c.if-has_block.true) in
    let end = ap rank c.behind.ensures ∙ (later_rank c.lo-lo.result 4096 ∙ ap (λ k. rank k + 4096) c.lo-lo.ensures) in
    or_off _ _ c.is_same.result node
    (and_on _ _ c.is_same.result whole
    (and_on _ _ c.is_same.result last (c.is_same.ensures.ranks ∙ (λ i. rank (c.hi.ensures i) == end i))))
