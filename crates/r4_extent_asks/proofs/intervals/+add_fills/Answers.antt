use Rattle.std.proofs.Common.{ap, subst, rules}
use Rattle.std.specs.List.{flat_map}
use Rattle.std.specs.Prelude.{All, ◌^◌}
use Rattle.std.proofs.lemmas.Result.{on_ok_weaker}
use Rattle.r4_content.specs.Edited.{put_keys}
use Rattle.r4_content.specs.Held.{fill_pairs}
use Rattle.r4_twig_asks.specs.r4_leaf_edits.Suiting.{IsBefore}
use Rattle.r4_twig_asks.proofs.r4_leaf_edits.Clipped.{all_left, all_right}
use Rattle.r4_extent_asks.proofs.Adding.{adds_both, adds_none, keys_both, nothing_of}
use Rattle.r4_extent_asks.proofs.intervals.+add_fills.Goals as goal

pub returns-in-None : goal.returns-in-None
returns-in-None t c = adds_none c.args.keys.now.items (put_keys (flat_map fill_pairs c.args.fills.now))
    (ap (λ fs. put_keys (flat_map fill_pairs fs)) (nothing_of c.args.fills.now c.in-None.ensures.cases))

pub add_filled-requires : goal.add_filled-requires
add_filled-requires t c =
    all_left (IsBefore (2 ^ 30)) (fill_pairs c.in-Some.first.now) (flat_map fill_pairs c.in-Some.rest.now)
    (subst (All (IsBefore (2 ^ 30))) (ap (flat_map fill_pairs) c.in-Some.ensures.cases.0) c.requires)

pub add_fills-requires : goal.add_fills-requires
add_fills-requires t c = (
  search rules,
  all_right (IsBefore (2 ^ 30)) (fill_pairs c.in-Some.first.now) (flat_map fill_pairs c.in-Some.rest.now)
      (subst (All (IsBefore (2 ^ 30))) (ap (flat_map fill_pairs) c.in-Some.ensures.cases.0) c.requires),
)

pub returns-in_ok-add_filled-in-Some : goal.returns-in_ok-add_filled-in-Some
returns-in_ok-add_filled-in-Some t c =
    let f = c.in-Some.first.now in
    on_ok_weaker c.add_fills.result
    (adds_both c.args.keys.now.items c.add_filled.new.keys.items c.add_fills.new.keys.items (put_keys (fill_pairs f))
    (put_keys (flat_map fill_pairs c.in-Some.rest.now)) (put_keys (flat_map fill_pairs c.args.fills.now))
    (keys_both (fill_pairs f) (flat_map fill_pairs c.in-Some.rest.now) (flat_map fill_pairs c.args.fills.now)
    (ap (flat_map fill_pairs) c.in-Some.ensures.cases.0)) c.in_ok-add_filled-in-Some.ensures) c.add_fills.ensures
