use Rattle.std.proofs.Common.{rules}
use Rattle.r4_words.proofs.Numbers.{too_large}
use Rattle.r4_words.proofs.options.number_for.Goals as goal

pub returns-in_default-clause-found : goal.returns-in_default-clause-found
returns-in_default-clause-found c = too_large c.args.word.now (search rules) c.args.option
    c.in_default.ensures.value.0
