use Rattle.std.proofs.Common.{◌∙◌, ◌++◌, ◌∷◌, [], ap, arith}
use Rattle.std.proofs.lemmas.Option.{MatchOption-at_none, MatchOption-at_some}
use Rattle.std.proofs.lemmas.Str.Pattern.{split_after, split_parts, strip_prefix_char}
use Rattle.r4_tool.proofs.Lines.{behind_is}
use Rattle.r4_tool.proofs.complaints.block_and_word.Goals as goal

pub returns-in_err-block-clause-told : goal.returns-in_err-block-clause-told
returns-in_err-block-clause-told c block word no-colon no-end e =
    absurd (MatchOption-at_none _ _ c.in_err-block.was
    (split_after 58 c.args.line.now block (32 ∷ (word ++ 10 ∷ [])) c.split_once.result c.split_once.ensures.cases
    (omega arith) e no-colon))

pub returns-in_err-strip_prefix-clause-told : goal.returns-in_err-strip_prefix-clause-told
returns-in_err-strip_prefix-clause-told c block word no-colon no-end e =
    let parts = MatchOption-at_some _ _ _ c.in_ok-block.was
    (split_after 58 c.args.line.now block (32 ∷ (word ++ 10 ∷ [])) c.split_once.result c.split_once.ensures.cases
    (omega arith) e no-colon) in
    absurd (MatchOption-at_none _ _ c.in_err-strip_prefix.was
    (strip_prefix_char 32 c.in_ok-block.rest.now c.strip_prefix.result c.strip_prefix.ensures.cases (omega arith))
    (word ++ 10 ∷ []) parts.1)

pub returns-in_err-word-clause-told : goal.returns-in_err-word-clause-told
returns-in_err-word-clause-told c block word no-colon no-end e =
    let parts = MatchOption-at_some _ _ _ c.in_ok-block.was
    (split_after 58 c.args.line.now block (32 ∷ (word ++ 10 ∷ [])) c.split_once.result c.split_once.ensures.cases
    (omega arith) e no-colon) in
    let rest = MatchOption-at_some _ _ _ c.in_ok-strip_prefix.was
    (strip_prefix_char 32 c.in_ok-block.rest.now c.strip_prefix.result c.strip_prefix.ensures.cases (omega arith)) in
    let behind = behind_is 32 c.in_ok-strip_prefix.field-0.now (word ++ 10 ∷ []) c.in_ok-block.rest.now rest parts.1 in
    absurd (MatchOption-at_none _ _ c.in_err-word.was
    (split_after 10 c.in_ok-strip_prefix.field-0.now word [] c.split_once-2.result c.split_once-2.ensures.cases
    (omega arith) behind no-end))

pub returns-clause-named : goal.returns-clause-named
returns-clause-named c =
    let parts = MatchOption-at_some _ _ _ c.in_ok-block.was
    (split_parts 58 c.args.line.now c.split_once.result c.split_once.ensures.cases (omega arith)) in
    let rest = MatchOption-at_some _ _ _ c.in_ok-strip_prefix.was
    (strip_prefix_char 32 c.in_ok-block.rest.now c.strip_prefix.result c.strip_prefix.ensures.cases (omega arith)) in
    (c.in_ok-strip_prefix.field-0.now, parts.0 ∙ ap (λ l. c.in_ok-block.block.now ++ 58 ∷ l) rest)

pub returns-clause-told : goal.returns-clause-told
returns-clause-told c block word no-colon no-end e =
    let parts = MatchOption-at_some _ _ _ c.in_ok-block.was
    (split_after 58 c.args.line.now block (32 ∷ (word ++ 10 ∷ [])) c.split_once.result c.split_once.ensures.cases
    (omega arith) e no-colon) in
    let rest = MatchOption-at_some _ _ _ c.in_ok-strip_prefix.was
    (strip_prefix_char 32 c.in_ok-block.rest.now c.strip_prefix.result c.strip_prefix.ensures.cases (omega arith)) in
    let behind = behind_is 32 c.in_ok-strip_prefix.field-0.now (word ++ 10 ∷ []) c.in_ok-block.rest.now rest parts.1 in
    let words = MatchOption-at_some _ _ _ c.in_ok-word.was
    (split_after 10 c.in_ok-strip_prefix.field-0.now word [] c.split_once-2.result c.split_once-2.ensures.cases
    (omega arith) behind no-end) in
    (parts.0, words.0)
