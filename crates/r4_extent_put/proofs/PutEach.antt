-- The numbers that several twigs take, and how many leaves come to them.
use Rattle.std.proofs.Common.{◌≡◌, ◌+◌, ◌≤◌, List, [], ◌∷◌, length, ap, ◌∙◌, arith}
use Rattle.std.specs.Prelude.{Option, sum_by}
use Rattle.std.proofs.lemmas.List.{length-append}
use Rattle.std.proofs.lemmas.List.Sums.{sum_by-cons}
use Rattle.r4_content.specs.Edited.{Edits}
use Rattle.r4_extent_among.proofs.Numbered.{numbered_long}
use Rattle.r4_extent_among.proofs.TurnOf.{few_leaves}
use Rattle.r4_extent_among.specs.AmongEach.{HasPutEach}
use Rattle.r4_extent_among.specs.AmongIn.{numbers_among}
use Rattle.r4_extent_turned.specs.r4_extent_growth.r4_measure.r4_cell.Seen.{CellSeen, node_of}
use Rattle.r4_extent_turned.specs.r4_extent_growth.r4_measure.r4_cell.declared.change.Fresh.{Fresh}
use Rattle.r4_extent_turned.specs.r4_extent_growth.r4_measure.r4_reach.Needs.{put_among}
use Rattle.r4_extent_turned.specs.r4_extent_growth.r4_measure.r4_reach.Touched.{Body}
use Rattle.r4_extent_turned.specs.r4_extent_growth.r4_measure.r4_work.declared.working.WorkingSet.{WorkingSet}

-- what is left of the numbers, and how many leaves came
pub record Taken (b : Option Body) (e : Edits) (twigs : List CellSeen) (f after : Fresh) (news : List CellSeen) : Type 0 where
  pub next : after.next ≤ f.next + sum_by (numbers_among b e) twigs
  pub end : after.end ≡ f.end
  pub few : length news ≤ sum_by (λ (c : CellSeen). put_among b e (node_of c)) twigs

pub taken : (b : Option Body) (e : Edits) (twigs news : List CellSeen) (f after : Fresh) (w now : WorkingSet) → HasPutEach b e twigs f after w now news → Taken b e twigs f after news
taken b e [] news f after w now (after_is, now_is, news_are) =
    let n = ap (λ (g : Fresh). g.next) after_is in
    let l = ap (λ (cs : List CellSeen). length cs) news_are in
    record { next = omega (arith, n); end = ap (λ (g : Fresh). g.end) after_is; few = omega (arith, l) }
taken b e (x ∷ xs) news f after w now (mid, v, mine, others, h, rest, news_are) =
    let more = taken b e xs others mid after v now rest in
    let n = ap (λ (g : Fresh). g.next) h.left in
    let z = ap (λ (g : Fresh). g.end) h.left in
    let count = few_leaves b e x h.leaves h.are in
    let own = ap (λ (cs : List CellSeen). length cs) h.cells_are ∙ numbered_long f.next h.leaves in
    let all = ap (λ (cs : List CellSeen). length cs) news_are ∙ length-append mine others in
    let numbers = sum_by-cons (numbers_among b e) x xs in
    let leaves = sum_by-cons (λ (c : CellSeen). put_among b e (node_of c)) x xs in
    let next = more.next in
    let few = more.few in
    record {
      next = omega (arith, n, count, numbers, next);
      end = more.end ∙ z;
      few = omega (arith, count, own, all, leaves, few);
    }
