use Rattle.std.proofs.Common.{[], ◌∷◌, length, ap, sym, ◌∙◌, ◌+◌, ◌^◌, arith}
use Rattle.r4_edit_testing.proofs.ShortOver.{two_units, unit_is}
use Rattle.r4_edit_testing.proofs.trials.are_new_blocks.Goals as goal

pub returns-then-eq : goal.returns-then-eq
returns-then-eq c both =
    let counted = c.len.ensures.units in
    let bytes = c.len.ensures.bytes in
    let two = c.if-len-ne2.false in
    let lent = ap (λ b. length b.now) c.in-Ok.ensures.lent in
    let first = unit_is c.unit.result (2 ^ 63 + 2000) (sym c.if-eq.ensures) in
    let second = unit_is c.unit-then-eq.result (2 ^ 63 + 2001) (sym c.eq-then-eq.ensures ∙ both) in (
      omega (arith, bytes, two, lent),
      sym c.in-Ok.ensures.units
          ∙ (two_units _ c.unit.result c.unit-then-eq.result (omega (arith, counted, two)) c.unit.ensures c.unit-then-eq.ensures
          ∙ (λ i. first i ∷ (second i ∷ []))),
    )
