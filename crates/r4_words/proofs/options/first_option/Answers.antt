use Rattle.std.proofs.Common.{◌≡◌, ◌∙◌, ap, refl, subst, sym, string_bytes, true, false, map, take, drop, length, ◌-◌}
use Rattle.r4_words.specs.Options.{given_by, given_in, given_in_one, has_sign, option_named, put_before}
use Rattle.r4_words.proofs.Splitting.{is_none, last_here, named, one_here, plain, signed, two_here, unnamed}
use Rattle.r4_words.proofs.options.first_option.Goals as goal

pub returns-in_err-option-clause-first : goal.returns-in_err-option-clause-first
returns-in_err-option-clause-first c =
    let name = c.in-Some.name in
    let value = c.in-Some.value in
    let s = subst (λ w. (has_sign w ≡ true) × (given_in_one w ≡ given_by name.now value.now)) c.deref.ensures
    (signed c.deref.result.now c.split_once.result c.split_once.ensures.cases (name, value) c.in-Some.is) in
    is_none _ c.from_residual.result c.from_residual.ensures (
    one_here string_bytes c.args.words.now c.word-item.result c.in-len1-up.len_at_least c.word-item.is s.0
    ∙ ap (λ o. put_before o (given_in
    (map string_bytes (take (length c.args.words.now - 1) (drop 1 c.args.words.now)))))
    (s.1 ∙ unnamed name.now value.now (sym c.option_by.ensures ∙ c.in_err-option.was))
    )

pub returns-in-Some-clause-first : goal.returns-in-Some-clause-first
returns-in-Some-clause-first c =
    let name = c.in-Some.name in
    let value = c.in-Some.value in
    let s = subst (λ w. (has_sign w ≡ true) × (given_in_one w ≡ given_by name.now value.now)) c.deref.ensures
    (signed c.deref.result.now c.split_once.result c.split_once.ensures.cases (name, value) c.in-Some.is) in
    one_here string_bytes c.args.words.now c.word-item.result c.in-len1-up.len_at_least c.word-item.is s.0
    ∙ ap (λ o. put_before o (given_in
    (map string_bytes (take (length c.args.words.now - 1) (drop 1 c.args.words.now)))))
    (s.1 ∙ named name.now value.now c.in_ok-option.option (sym c.option_by.ensures ∙ c.in_ok-option.was))

pub returns-in_default-rest-clause-first : goal.returns-in_default-rest-clause-first
returns-in_default-rest-clause-first c =
    let p = subst (λ w. has_sign w ≡ false) c.deref.ensures
    (plain c.deref.result.now c.split_once.result c.split_once.ensures.cases c.in_default-split_once.is) in
    last_here string_bytes c.args.words.now _ c.word-item.result c.in-len1-up.len_at_least c.word-item.is p refl
    c.in_default-rest.len_below

pub returns-in_err-option-2-clause-first : goal.returns-in_err-option-2-clause-first
returns-in_err-option-2-clause-first c =
    let p = subst (λ w. has_sign w ≡ false) c.deref.ensures
    (plain c.deref.result.now c.split_once.result c.split_once.ensures.cases c.in_default-split_once.is) in
    let rest = take (length c.args.words.now - 1) (drop 1 c.args.words.now) in
    is_none _ c.from_residual-in_err-option-2.result c.from_residual-in_err-option-2.ensures (
    two_here string_bytes c.args.words.now rest c.word-item.result c.value-item.result c.in-len1-up.len_at_least
    c.word-item.is p
    refl c.in-len1-up-rest.len_at_least c.value-item.is
    ∙ ap (λ o. put_before o (given_in (map string_bytes (take (length rest - 1) (drop 1 rest)))))
    (unnamed (string_bytes c.word-item.result) (string_bytes c.value-item.result)
    (ap option_named (sym c.as_str.ensures.value) ∙ sym c.option_by-2.ensures ∙ c.in_err-option-2.was))
    )

pub returns-clause-first : goal.returns-clause-first
returns-clause-first c =
    let p = subst (λ w. has_sign w ≡ false) c.deref.ensures
    (plain c.deref.result.now c.split_once.result c.split_once.ensures.cases c.in_default-split_once.is) in
    let rest = take (length c.args.words.now - 1) (drop 1 c.args.words.now) in
    two_here string_bytes c.args.words.now rest c.word-item.result c.value-item.result c.in-len1-up.len_at_least
    c.word-item.is p
    refl c.in-len1-up-rest.len_at_least c.value-item.is
    ∙ ap (λ o. put_before o (given_in (map string_bytes (take (length rest - 1) (drop 1 rest)))))
    (ap (λ v. given_by (string_bytes c.word-item.result) v) (sym c.as_str-2.ensures.value)
    ∙ named (string_bytes c.word-item.result) c.as_str-2.result.now c.in_ok-option-2.option
    (ap option_named (sym c.as_str.ensures.value) ∙ sym c.option_by-2.ensures ∙ c.in_ok-option-2.was))
