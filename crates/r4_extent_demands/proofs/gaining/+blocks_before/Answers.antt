use Rattle.std.proofs.Common.{◌≡◌, ◌+◌, ◌-◌, ◌*◌, ◌/◌, inl, inr, ap, arith, sym, ◌∙◌}
use Rattle.std.proofs.lemmas.Bool.{cases_lt}
use Rattle.r4_base.specs.Key.{rank}
use Rattle.r4_content.specs.Held.{edits_of}
use Rattle.r4_graft.proofs.Halves.{later_rank}
use Rattle.r4_bodies.specs.r4_leaf_edits.r4_reach.Needs.{gets_bytes}
use Rattle.r4_extent_demands.proofs.Gains.{none_gets}
use Rattle.r4_extent_demands.proofs.gaining.+blocks_before.Goals as goal

pub returns-then-not-gets_some-clause-none : goal.returns-then-not-gets_some-clause-none
returns-then-not-gets_some-clause-none t c = λ i lt.
    none_gets c.args.body.now (edits_of c.args.edits.now) (rank c.args.from) c.args.count i
    (sym c.gets_some.ensures ∙ c.if-not-gets_some.true) lt

pub returns-clause-none : goal.returns-clause-none
returns-clause-none t c = λ i lt.
    let past = c.if-before-half.false in
    elim (cases_lt i (c.args.count / 2)) [
      | inl low ↦ c.blocks_before-before.ensures.none i (omega (arith, low, past))
      | inr ge ↦
          let at = ap rank c.behind.ensures ∙ later_rank c.args.from (4096 * (c.args.count / 2)) in
          let same : rank c.args.from + 4096 * i ≡ rank c.behind.result + 4096 * (i - c.args.count / 2) = omega (arith, at, ge) in
          ap (gets_bytes c.args.body.now (edits_of c.args.edits.now)) same
          ∙ c.blocks_before.ensures.none (i - c.args.count / 2) (omega (arith, lt, ge))
    ]

pub returns-clause-next : goal.returns-clause-next
returns-clause-next t c = λ lt.
    let at = ap rank c.behind.ensures ∙ later_rank c.args.from (4096 * (c.args.count / 2)) in
    let same : rank c.args.from + 4096 * (c.args.count / 2 + c.blocks_before.result)
    ≡ rank c.behind.result + 4096 * c.blocks_before.result = omega (arith, at) in
    ap (gets_bytes c.args.body.now (edits_of c.args.edits.now)) same ∙ c.blocks_before.ensures.next (omega (arith, lt))
