use Rattle.std.proofs.Common.{◌≡◌, ◌<◌, ◌^◌, drop}
use Rattle.r4_script.specs.Field.{digits_from}
use Rattle.r4_script.proofs.number.plain_value.Given as goal

abbrev pub invariant-loop-digit : goal.invariant-loop-digit
invariant-loop-digit l = record { small : l.value < 10 ^ l.digit-index; same : digits_from l.base l.value (drop l.digit-index l.digits) ≡ digits_from l.base 0 l.digits }
