use Rattle.std.proofs.Common.{◌∙◌, ap, map, subst, sym, string_bytes}
use Rattle.std.specs.Prelude.{option_map}
use Rattle.r4_words.specs.Options.{asked_run, given_as}
use Rattle.r4_words.proofs.Splitting.{none_left}
use Rattle.r4_words.proofs.Taking.{IsSoFar, all_read, refused, so_on}
use Rattle.r4_words.proofs.options.read_run.Goals as goal

pub returns-in_err-numbers-clause-found : goal.returns-in_err-numbers-clause-found
returns-in_err-numbers-clause-found c =
    let first = c.in_ok-option.field-0 in
    ap (option_map asked_run) c.from_residual-in_err-numbers.ensures
    ∙ refused (map string_bytes c.args.options.now) (map string_bytes c.loop-rest.rest.now) c.loop-rest.numbers
    c.loop-rest.invariant.0 (map string_bytes first.behind.now) (given_as first) c.in_ok-option.ensures.first
    c.in_err-numbers.ensures.takes

pub loop-rest-preserved : goal.loop-rest-preserved
loop-rest-preserved c =
    let first = c.in_ok-option.field-0 in (
      so_on (map string_bytes c.args.options.now) (map string_bytes c.loop-rest.rest.now) c.loop-rest.numbers
          c.loop-rest.invariant.0 (map string_bytes first.behind.now) (given_as first) c.in_ok-option.ensures.first
          c.in_ok-numbers.numbers c.in_ok-numbers.ensures.takes,
      c.in_ok-numbers.ensures.range c.loop-rest.invariant.1,
    )

pub returns-clause-found : goal.returns-clause-found
returns-clause-found c =
    let words = map string_bytes c.args.options.now in
    let all = subst (λ ws. IsSoFar words ws c.loop-rest.numbers)
    (none_left string_bytes c.loop-rest.rest.now c.loop-rest-test.ensures)
    c.loop-rest.invariant.0 in
    c.run_asked.ensures.found ∙ sym (all_read words c.loop-rest.numbers all)
