use Rattle.std.proofs.Common.{string_bytes}
use Rattle.r4_words.proofs.Grammar.{too_few, unknown}
use Rattle.r4_words.proofs.words.read_words.Goals as goal

pub returns-in_default-clause-asked : goal.returns-in_default-clause-asked
returns-in_default-clause-asked c = too_few string_bytes c.args.words.now c.in_default.len_below

pub returns-in_default-as_str-clause-asked : goal.returns-in_default-as_str-clause-asked
returns-in_default-as_str-clause-asked c =
    let other = c.in_default-as_str in
    unknown string_bytes c.args.words.now c.name-item.result c.as_str-2.result.now c.name-item.is c.as_str-2.ensures.value other.not-replay other.not-check other.not-mkfs other.not-list other.not-run
