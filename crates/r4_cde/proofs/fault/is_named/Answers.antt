use Rattle.std.proofs.Common.{◌∙◌, sym}
use Rattle.r4_cde.proofs.Forms.{short_form}
use Rattle.r4_cde.proofs.fault.is_named.Goals as goal

pub returns-then-body-eq-TARGET : goal.returns-then-body-eq-TARGET
returns-then-body-eq-TARGET c = short_form c.args.key.now c.args.body.now c.as_bytes.result.now c.is_key_of.result (sym c.is_long.ensures ∙ c.if-is_long.false) c.if-body-eq-TARGET.true (c.as_bytes.ensures.bytes ∙ c.spelled_by.ensures) c.is_key_of.ensures.is
