use Rattle.std.proofs.Common.{arith}
use Rattle.r4_core.proofs.MayDo.{after_small, becomes_of, before_small, fits, handed, less_fresh_there, less_there}
use Rattle.r4_core.proofs.core_state.Core.account_with.Goals as goal

pub account_after-after-requires-clause-cells : goal.account_after-after-requires-clause-cells
account_after-after-requires-clause-cells g c =
    let (s, within, is) = rw (← c.self.view_is) at c.requires in
    rw (c.as_slice-2.ensures.value, c.as_slice.ensures, c.account-before.ensures) (less_there _ _ _
    c.self.invariant s within is.0 c.args.made.now c.args.atom is.1)

pub account_after-after-requires-clause-fresh : goal.account_after-after-requires-clause-fresh
account_after-after-requires-clause-fresh g c =
    let (s, within, is) = rw (← c.self.view_is) at c.requires in
    rw (c.as_slice-2.ensures.value, c.as_slice.ensures, c.account-before.ensures) (less_fresh_there _ _ _
    c.self.invariant s within is.0 c.args.made.now c.args.atom is.1)

pub account_after-after-requires-clause-fit : goal.account_after-after-requires-clause-fit
account_after-after-requires-clause-fit g c =
    let (s, within, is) = rw (← c.self.view_is) at c.requires in
    let e = c.len.ensures in
    let most = c.len.type_inv in
    rw (c.as_slice-2.ensures.value, c.account-before.ensures) (fits _ _ _ c.self.invariant s within is.0
    c.args.made.now c.args.atom is.1 c.lawful.ensures (omega (arith, e, most)))

pub afford-requires-clause-before : goal.afford-requires-clause-before
afford-requires-clause-before g c =
    let (s, within, is) = rw (← c.self.view_is) at c.requires in
    rw c.account-before.ensures (before_small _ _ _ c.self.invariant s within is.0 c.args.made.now c.args.atom is.1
    c.lawful.ensures)

pub afford-requires-clause-after : goal.afford-requires-clause-after
afford-requires-clause-after g c =
    let (s, within, is) = rw (← c.self.view_is) at c.requires in
    after_small _ _ _ c.self.invariant s within is.0 c.args.made.now c.args.atom is.1 c.lawful.ensures
    c.account_after-after.result
    (becomes_of _ c.args.made.now c.args.atom c.account-before.result c.account_after-after.result
    c.as_slice.result.now c.as_slice-2.result.now c.account-before.ensures c.as_slice.ensures
    c.as_slice-2.ensures.value
    c.account_after-after.ensures.counts c.account_after-after.ensures.born c.account_after-after.ensures.gone)

pub returns-in_err-afford-clause-short : goal.returns-in_err-afford-clause-short
returns-in_err-afford-clause-short g c =
    rw (← c.self.view_is) (handed _ c.from_residual.result c.in_err-afford.field-0.0 c.from_residual.ensures.1
    (record {
      account = c.account_after-after.result;
      becomes = (becomes_of _ c.args.made.now c.args.atom c.account-before.result c.account_after-after.result
          c.as_slice.result.now c.as_slice-2.result.now c.account-before.ensures c.as_slice.ensures
          c.as_slice-2.ensures.value
          c.account_after-after.ensures.counts c.account_after-after.ensures.born c.account_after-after.ensures.gone);
      need = c.in_err-afford.ensures.short.2;
      free = c.in_err-afford.ensures.short.1;
      less = c.in_err-afford.ensures.short.0;
    }))

pub returns-clause-ok : goal.returns-clause-ok
returns-clause-ok g c =
    let (s, within, is) = rw (← c.self.view_is) at c.requires in
    rw (← c.self.view_is) (record {
      becomes = (becomes_of _ c.args.made.now c.args.atom c.account-before.result c.account_after-after.result
          c.as_slice.result.now c.as_slice-2.result.now c.account-before.ensures c.as_slice.ensures
          c.as_slice-2.ensures.value
          c.account_after-after.ensures.counts c.account_after-after.ensures.born c.account_after-after.ensures.gone);
      small = after_small _ _ _ c.self.invariant s within is.0 c.args.made.now c.args.atom is.1 c.lawful.ensures
          c.account_after-after.result
          (becomes_of _ c.args.made.now c.args.atom c.account-before.result c.account_after-after.result
          c.as_slice.result.now c.as_slice-2.result.now c.account-before.ensures c.as_slice.ensures
          c.as_slice-2.ensures.value
          c.account_after-after.ensures.counts c.account_after-after.ensures.born c.account_after-after.ensures.gone);
      enough = c.in_ok-afford.ensures.enough;
    })
