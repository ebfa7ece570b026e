use Rattle.std.proofs.Common.{◌∙◌, sym, ap, refl}
use Rattle.r4_content.specs.Walk.{NoName, NoDirectory, NoEntry, names_in}
use Rattle.r4_list.specs.OverWalks.{walked_of}
use Rattle.r4_list.proofs.BelowPrints.{stopped_other}
use Rattle.r4_list.proofs.BodyOver.{nothing_part}
use Rattle.r4_list.proofs.ListingText.{listed_object, listed_word, same_listing, word_ended, word_printed}
use Rattle.r4_list.proofs.Stages.{ended_by, went_fetched}
use Rattle.r4_list.proofs.WalkPaths.{walk_reached}
use Rattle.r4_list.proofs.listing.print_path.Goals as goal

pub returns-in_err-object-clause-over : goal.returns-in_err-object-clause-over
returns-in_err-object-clause-over g c = λ n image m has over text listing.
    let f = c.in_err-object.ensures.over n image m has over in
    stopped_other has c.args.root.now text _ _ _ f.over c.from_residual.result _ c.from_residual.ensures.1 f.undamaged (λ before w. nothing_part _ before _ w)

pub returns-in-At-clause-printed : goal.returns-in-At-clause-printed
returns-in-At-clause-printed g c = ended_by _ _ _ _ _ _ _ (went_fetched _ _ _ _ _ _ _ c.in_ok-object.ensures.fetched) _ _ _ _ c.print_found.ensures.printed

pub returns-in-At-clause-over : goal.returns-in-At-clause-over
returns-in-At-clause-over g c = λ n image m has over text listing.
    let f = c.in_ok-object.ensures.over n image m has over in
    let o = c.in-At.object in
    let a = c.in-At.attr in
    let at = sym (ap walked_of c.in-At.is) ∙ f.found in
    let (s, r, stands) = walk_reached n image m has (names_in c.args.path.now) o a (sym at) in
    let (steps, enough, e) = listed_object n image m has c.args.path.now text o a listing at in
    same_listing has c.args.root.now _ _ _ _ _ _ (sym e) (c.print_found.ensures.over n image m has f.over s r stands steps enough)

pub returns-in-NoName-clause-printed : goal.returns-in-NoName-clause-printed
returns-in-NoName-clause-printed g c = word_ended c.args.root.now _ _ _ _ _ _ _ _ _ (went_fetched _ _ _ _ _ _ _ c.in_ok-object.ensures.fetched) c.print_word.ensures.appends c.print_word.ensures.cause

pub returns-in-NoName-clause-over : goal.returns-in-NoName-clause-over
returns-in-NoName-clause-over g c = λ n image m has over text listing.
    let f = c.in_ok-object.ensures.over n image m has over in
    word_printed has c.args.root.now _ text _ _ _ _ f.over (listed_word m c.args.path.now text _ NoName (λ steps. refl) listing (sym (ap walked_of c.in-NoName.is) ∙ f.found)) c.print_word.ensures.appends c.print_word.ensures.cause

pub returns-in-NoDirectory-clause-printed : goal.returns-in-NoDirectory-clause-printed
returns-in-NoDirectory-clause-printed g c = word_ended c.args.root.now _ _ _ _ _ _ _ _ _ (went_fetched _ _ _ _ _ _ _ c.in_ok-object.ensures.fetched) c.print_word-in-NoDirectory.ensures.appends c.print_word-in-NoDirectory.ensures.cause

pub returns-in-NoDirectory-clause-over : goal.returns-in-NoDirectory-clause-over
returns-in-NoDirectory-clause-over g c = λ n image m has over text listing.
    let f = c.in_ok-object.ensures.over n image m has over in
    word_printed has c.args.root.now _ text _ _ _ _ f.over (listed_word m c.args.path.now text _ NoDirectory (λ steps. refl) listing (sym (ap walked_of c.in-NoDirectory.is) ∙ f.found)) c.print_word-in-NoDirectory.ensures.appends c.print_word-in-NoDirectory.ensures.cause

pub returns-in-NoEntry-clause-printed : goal.returns-in-NoEntry-clause-printed
returns-in-NoEntry-clause-printed g c = word_ended c.args.root.now _ _ _ _ _ _ _ _ _ (went_fetched _ _ _ _ _ _ _ c.in_ok-object.ensures.fetched) c.print_word-in-NoEntry.ensures.appends c.print_word-in-NoEntry.ensures.cause

pub returns-in-NoEntry-clause-over : goal.returns-in-NoEntry-clause-over
returns-in-NoEntry-clause-over g c = λ n image m has over text listing.
    let f = c.in_ok-object.ensures.over n image m has over in
    word_printed has c.args.root.now _ text _ _ _ _ f.over (listed_word m c.args.path.now text _ NoEntry (λ steps. refl) listing (sym (ap walked_of c.in-NoEntry.is) ∙ f.found)) c.print_word-in-NoEntry.ensures.appends c.print_word-in-NoEntry.ensures.cause
