use Rattle.std.proofs.Common.{rules, ◌≡◌, ◌∙◌, arith, decimal, sym, subst}
use Rattle.std.specs.Str.{IsUtf8}
use Rattle.std.proofs.lemmas.Bool.{false≢true}
use Rattle.r4_tool.specs.Complaints.{IsWord, line_text}
use Rattle.r4_tool.proofs.Lines.{last_block, one_last, refused_as}
use Rattle.r4_tool.proofs.Plain.{lines_are_text, numbers_go_on, words_go_on}
use Rattle.r4_tool.proofs.complaints.block_and_meaning.Goals as goal

pub returns-in_err-last_line-clause-told : goal.returns-in_err-last_line-clause-told
returns-in_err-last_line-clause-told c block word small is last =
    absurd (c.in_err-last_line.ensures last.0 (line_text block word) (omega arith) last.1)

pub returns-in_err-line-clause-told : goal.returns-in_err-line-clause-told
returns-in_err-line-clause-told c block word small is last =
    let line = one_last c.args.printed.now _ (line_text block word) c.in_ok-last_line.ensures last in
    let text = subst IsUtf8 (sym line) (lines_are_text block word small is) in
    absurd (refused_as c.from_utf8.result _ _ _ (sym c.ok.ensures.value ∙ c.in_err-line.was) c.from_utf8.ensures.cases
    text)

pub returns-in_err-block-clause-told : goal.returns-in_err-block-clause-told
returns-in_err-block-clause-told c block word small is last =
    let whole : c.in_ok-line.line.now ≡ c.in_ok-last_line.field-0.now = search rules in
    let line = one_last c.args.printed.now _ (line_text block word) c.in_ok-last_line.ensures last in
    absurd (c.in_err-block.ensures.told (decimal block) word (numbers_go_on block small) (words_go_on word is)
    (whole ∙ line))

pub returns-in_err-meaning-clause-told : goal.returns-in_err-meaning-clause-told
returns-in_err-meaning-clause-told c block word small is last =
    let whole : c.in_ok-line.line.now ≡ c.in_ok-last_line.field-0.now = search rules in
    let line = one_last c.args.printed.now _ (line_text block word) c.in_ok-last_line.ensures last in
    let found = c.in_ok-block.ensures.told (decimal block) word (numbers_go_on block small) (words_go_on word is)
    (whole ∙ line) in
    absurd (false≢true (c.in_err-meaning.ensures (subst IsWord (sym found.1) is)))

pub returns-clause-named : goal.returns-clause-named
returns-clause-named c =
    let named = c.in_ok-block.ensures.named in
    last_block c.args.printed.now c.in_ok-last_line.field-0.now c.in_ok-line.line.now c.in_ok-block.block.now named.0
    c.in_ok-last_line.ensures (search rules) named.1

pub returns-clause-told : goal.returns-clause-told
returns-clause-told c block word small is last =
    let whole : c.in_ok-line.line.now ≡ c.in_ok-last_line.field-0.now = search rules in
    let line = one_last c.args.printed.now _ (line_text block word) c.in_ok-last_line.ensures last in
    (c.in_ok-block.ensures.told (decimal block) word (numbers_go_on block small) (words_go_on word is)
    (whole ∙ line)).0
