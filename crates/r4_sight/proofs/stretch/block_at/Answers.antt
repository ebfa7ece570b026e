use Rattle.std.proofs.Common.{inl, inr, ◌+◌, ◌*◌, ◌∙◌, sym, rules, arith}
use Rattle.r4_base.specs.Extents.{blocks_in, units_of}
use Rattle.r4_base.specs.Key.{rank}
use Rattle.r4_base.proofs.Keys.{is_key}
use Rattle.r4_units.proofs.ExtentUnits.{offset_is, offsets_up_to, one_body, ranks_apart, with_one_body}
use Rattle.r4_units.proofs.LeafUnits.{if_none}
use Rattle.r4_sight.proofs.Bodies.{body_tested, cases_lt, near_keys}
use Rattle.r4_sight.proofs.stretch.block_at.Goals as goal

pub returns-then-not-is_of_one_body-clause-none : goal.returns-then-not-is_of_one_body-clause-none
returns-then-not-is_of_one_body-clause-none c = elim (cases_lt (rank c.args.key) (rank c.args.item.now.key + 4096 * blocks_in (units_of c.args.item.now.body.now))) [
  | inr le ↦ le
  | inl lt ↦
      let item = c.args.item.now.key in
      let key = c.args.key in
      let one = near_keys item key _ c.requires.is_key (is_key key (search rules) (search rules) (search rules) (search rules) (search rules)) c.requires.from lt c.requires.fits in
      let is = body_tested item key one in
      let result = c.is_of_one_body.ensures in
      let not_so = c.if-not-is_of_one_body.true in
      absurd cc
]

pub overflow_sub-block : goal.overflow_sub-block
overflow_sub-block c = offsets_up_to c.args.item.now.key c.args.key (one_body _ _ (sym c.is_of_one_body.ensures ∙ c.if-not-is_of_one_body.false)) c.requires.from

pub returns-in_err-unit-clause-none : goal.returns-in_err-unit-clause-none
returns-in_err-unit-clause-none c =
    let one = one_body _ _ (sym c.is_of_one_body.ensures ∙ c.if-not-is_of_one_body.false) in
    let apart = ranks_apart c.args.item.now.key c.args.key one in
    let up = offsets_up_to c.args.item.now.key c.args.key one c.requires.from in
    let behind = c.in_err-unit.ensures.none in
    if_none c.from_residual.result (omega (arith, apart, up, behind))

pub returns-clause-some : goal.returns-clause-some
returns-clause-some c =
    let one = one_body _ _ (sym c.is_of_one_body.ensures ∙ c.if-not-is_of_one_body.false) in
    let apart = ranks_apart c.args.item.now.key c.args.key one in
    let up = offsets_up_to c.args.item.now.key c.args.key one c.requires.from in
    let unit = c.in_ok-unit.ensures.some in
    let within = unit.within in
    let behind = ranks_apart c.with_offset-lo.result c.args.key (with_one_body c.args.key c.with_offset-lo.result _ c.with_offset-lo.ensures) in
    let offset = offset_is c.args.key c.with_offset-lo.result _ c.with_offset-lo.ensures in
    let fits = c.requires.fits in
    record {
      block = _;
      unit = unit;
      lo = omega (arith, apart, up, behind, offset);
      fits = omega (arith, offset, within, fits);
      from = omega (arith, apart, up, behind, offset);
      below = omega (arith, apart, up, behind, offset);
    }
