use Rattle.std.proofs.Common.{List, subst, sym, take}
use Rattle.std.proofs.lemmas.List.{take_all, take_more}
use Rattle.r4_check_objects.specs.Known.{AreTotalsOf}
use Rattle.r4_check_objects.specs.declared.held.Held.{Held}
use Rattle.r4_check_objects.proofs.Summed.{sums_at_end}
use Rattle.r4_check_objects.proofs.totals.totals_of.Goals as goal

pub loop-held-init : goal.loop-held-init
loop-held-init c = c.in_ok-totals.ensures c.args.found.now

pub loop-held-preserved : goal.loop-held-preserved
loop-held-preserved c =
    subst (λ (l : List Held). AreTotalsOf c.args.found.now l c.add.new.self) (sym (take_more c.args.found.now c.loop-held.held-index _ c.loop-held-test.true))
    (c.in_ok-add.ensures c.args.found.now (take c.loop-held.held-index c.args.found.now) c.requires c.loop-held.invariant)

pub returns : goal.returns
returns c =
    let all = subst (λ (l : List Held). AreTotalsOf c.args.found.now l c.loop-held.totals) (take_all c.loop-held.held-index c.args.found.now c.loop-held-test.false) c.loop-held.invariant in
    record {
      entries = sums_at_end _ _ _ all.entries;
      directories = sums_at_end _ _ _ all.directories;
      links = sums_at_end _ _ _ all.links;
      reached = sums_at_end _ _ _ all.reached;
      tails = sums_at_end _ _ _ all.tails;
      blocks = sums_at_end _ _ _ all.blocks;
      past = sums_at_end _ _ _ all.past;
      strays = sums_at_end _ _ _ all.strays;
    }
