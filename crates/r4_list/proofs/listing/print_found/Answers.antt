use Rattle.std.proofs.Common.{◌∙◌, ◌++◌, suc, List, ℕ, sym, ap, refl, arith}
use Rattle.r4_list.specs.Listing.{file_text, lines_of}
use Rattle.r4_list.proofs.ListingText.{has_stat, no_bytes, printed_first, printed_on, same_listing, some_bytes}
use Rattle.r4_base.specs.Key.{rank}
use Rattle.r4_list.proofs.Stages.{ended_by, went_printed}
use Rattle.r4_list.proofs.listing.print_found.Goals as goal

pub print_body-requires-clause-from : goal.print_body-requires-clause-from
unfolding rank
print_body-requires-clause-from g c =
    let from = c.requires.reached.from in
    omega (arith, from)

pub returns-clause-printed : goal.returns-clause-printed
returns-clause-printed g c = ended_by _ _ _ _ _ _ _ (went_printed _ _ _ _ _ _ _ _ c.in_ok-print_object.ensures.printed) _ _ _ _ c.print_body.ensures.printed

pub returns-in_err-print_object-clause-over : goal.returns-in_err-print_object-clause-over
returns-in_err-print_object-clause-over g c = λ n image m has over s reached stands steps enough.
    let o = c.args.object.now in
    let a = c.args.attr.now in
    let first = c.in_err-print_object.ensures.over n image m has over s reached stands steps enough in
    printed_first has c.args.root.now _ (file_text m o a) _ (ap (λ (p : List ℕ). lines_of m (suc steps) o p ++ file_text m o a) (sym c.shown.ensures)) _ _ c.in_err-print_object.field-0.0 _ c.from_residual.result c.from_residual.ensures.1 first

pub returns-then-is_directory-clause-over : goal.returns-then-is_directory-clause-over
returns-then-is_directory-clause-over g c = λ n image m has over s reached stands steps enough.
    let o = c.args.object.now in
    let a = c.args.attr.now in
    let first = c.in_ok-print_object.ensures.over n image m has over s reached stands steps enough in
    let is = no_bytes m o a (lines_of m (suc steps) o _) (sym c.is_directory.ensures ∙ c.if-is_directory.true) ∙ ap (lines_of m (suc steps) o) (sym c.shown.ensures) in
    same_listing has c.args.root.now _ _ _ _ _ _ (sym is) first

pub returns-clause-over : goal.returns-clause-over
returns-clause-over g c = λ n image m has over s reached stands steps enough.
    let o = c.args.object.now in
    let a = c.args.attr.now in
    let file = sym c.is_directory.ensures ∙ c.if-is_directory.false in
    let first = c.in_ok-print_object.ensures.over n image m has over s reached stands steps enough in
    let second = c.print_body.ensures.over n image m has a first.over (has_stat n image m has s o a reached stands) file refl in
    printed_on has c.args.root.now _ _ _ (ap (λ (p : List ℕ). lines_of m (suc steps) o p ++ file_text m o a) (sym c.shown.ensures) ∙ ap (λ (t : List ℕ). lines_of m (suc steps) o c.shown.result.now ++ t) (some_bytes m o a file)) _ _ _ _ _ _ c.print_body.result first second
