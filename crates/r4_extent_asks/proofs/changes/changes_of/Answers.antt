use Rattle.std.proofs.Common.{ap, map, sym, ◌∙◌}
use Rattle.std.specs.Option.{option_copied}
use Rattle.std.specs.Prelude.{None, Some}
use Rattle.std.proofs.lemmas.Result.{IfOk-weaker}
use Rattle.r4_content.specs.Edited.{changed, is_in}
use Rattle.r4_content.specs.Held.{edits_of, interval_of}
use Rattle.r4_twig_asks.specs.r4_reach.Touched.{raw_changes}
use Rattle.r4_extent_asks.proofs.Widened.{raw_same}
use Rattle.r4_extent_asks.proofs.changes.changes_of.Goals as goal

pub returns-in-Some : goal.returns-in-Some
returns-in-Some c =
    let b = Some c.in-Some.body.now in
    let rs = map interval_of c.in_ok-keys.keys.items in
    let all = changed (edits_of c.args.edits.now) in
    IfOk-weaker c.in_blocks.result _ _ (λ v h k low. h k low ∙ raw_same b rs all k (c.in_ok-keys.ensures b k low)
    ∙ ap (λ o. is_in (raw_changes (option_copied o) all) k) (sym c.in-Some.is)) c.in_blocks.ensures

pub returns-in-None : goal.returns-in-None
returns-in-None c = λ k low.
    let rs = map interval_of c.in_ok-keys.keys.items in
    let all = changed (edits_of c.args.edits.now) in
    raw_same None rs all k (c.in_ok-keys.ensures None k low)
    ∙ ap (λ o. is_in (raw_changes (option_copied o) all) k) (sym c.in-None.is)
