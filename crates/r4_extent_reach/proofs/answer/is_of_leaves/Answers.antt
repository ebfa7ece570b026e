use Rattle.std.proofs.Common.{◌≡◌, false, true, not, sym, ap, ◌∙◌}
use Rattle.r4_extent_reach.proofs.answer.is_of_leaves.Goals as goal

pub returns-then-not-is_spread : goal.returns-then-not-is_spread
returns-then-not-is_spread c = (
  (λ spared. let (body, kind) = c.is_spread.ensures.0 c.if-not-is_spread.true in
      record { kind = kind; body = body; spared = c.spare_extents.ensures.0 spared }),
  (λ of_leaves. c.spare_extents.ensures.1 of_leaves.spared),
)

pub returns-else-not-is_spread : goal.returns-else-not-is_spread
returns-else-not-is_spread c = (
  (λ no. absurd (let f : false ≡ true = sym (ap not c.if-not-is_spread.false) ∙ no in cc)),
  (λ of_leaves. absurd (let off = c.is_spread.ensures.1 (of_leaves.body, of_leaves.kind) in
      let on = c.if-not-is_spread.false in
      let f : true ≡ false = sym on ∙ off in cc)),
)
