use Rattle.std.proofs.Common.{◌≡◌, ◌∙◌, ◌∷◌, [], List, arith, cond, map, refl, rules, tests}
use Rattle.std.specs.Prelude.{◌+◌, ◌==◌, Bool, false, true, count_by, if◌then◌else◌}
use Rattle.std.proofs.lemmas.Iterator.{YieldsList-from_slice}
use Rattle.std.proofs.lemmas.Iterator.Consumers.{YieldsList-from_filter, count_from_yields_List}
use Rattle.std.proofs.lemmas.List.Sums.{length-filter, sum_by-cons}
use Rattle.r4_base.specs.Key.{key_of_rank, minor_of, rank}
use Rattle.r4_content.specs.Counts.{stats_in}
use Rattle.r4_content.specs.Held.{interval_of}
use Rattle.r4_content.specs.declared.edits.Interval.{Interval}
use Rattle.r4_build.proofs.counting.gone.Goals as goal

abbrev begins_with_stat : Interval → Bool
begins_with_stat i = minor_of (key_of_rank (rank i.from)) == 1

stats_counted : (is : List Interval) → count_by begins_with_stat is ≡ stats_in (map interval_of is)
stats_counted [] = refl
stats_counted (i ∷ is) = let h = stats_counted is in let a = sum_by-cons (λ (x : Interval). cond (begins_with_stat x) 1 0) i is in by_test (begins_with_stat i) h a
  where
    by_test : (b : Bool) → count_by begins_with_stat is ≡ stats_in (map interval_of is) → count_by begins_with_stat (i ∷ is) ≡ cond b 1 0 + count_by begins_with_stat is → count_by begins_with_stat (i ∷ is) ≡ (if b then 1 else 0) + stats_in (map interval_of is)
    by_test true h a = omega (arith, h, a)
    by_test false h a = omega (arith, h, a)

pub returns : goal.returns
returns c =
    count_from_yields_List c.filter.result _ c.count.ensures.ran
    (YieldsList-from_filter _ begins_with_stat (YieldsList-from_slice c.args.edits.now.cuts.items cc) c.filter.ensures.closure
    (λ x r q k. search (rules, tests)))
    ∙ length-filter begins_with_stat c.args.edits.now.cuts.items
    ∙ stats_counted c.args.edits.now.cuts.items
