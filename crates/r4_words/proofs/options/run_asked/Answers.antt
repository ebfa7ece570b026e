use Rattle.std.proofs.Common.{arith}
use Rattle.r4_words.specs.declared.options.RunOption.TheVariants.{Tear, Threads}
use Rattle.r4_words.proofs.Ranges.{within}
use Rattle.r4_words.proofs.options.run_asked.Goals as goal

pub overflow_cast-threads : goal.overflow_cast-threads
overflow_cast-threads c =
    let w = within c.args.numbers.threads c.unwrap_or-threads.result 1 1 16
    (c.requires Threads) c.unwrap_or-threads.ensures (omega arith) (omega arith) in
    omega (arith, w.1)

pub overflow_cast-result : goal.overflow_cast-result
overflow_cast-result c =
    let w = within c.args.numbers.tear c.unwrap_or.result 0 0 255 (c.requires Tear) c.unwrap_or.ensures
    (omega arith) (omega arith) in
    omega (arith, w.1)

pub returns-in-Some-clause-range : goal.returns-in-Some-clause-range
returns-in-Some-clause-range c =
    within c.args.numbers.threads c.unwrap_or-threads.result 1 1 16
    (c.requires Threads) c.unwrap_or-threads.ensures (omega arith) (omega arith)

pub returns-in-None-clause-range : goal.returns-in-None-clause-range
returns-in-None-clause-range c =
    within c.args.numbers.threads c.unwrap_or-threads.result 1 1 16
    (c.requires Threads) c.unwrap_or-threads.ensures (omega arith) (omega arith)
