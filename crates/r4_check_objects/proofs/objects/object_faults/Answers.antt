use Rattle.std.proofs.Common.{List, ◌++◌, ◌∙◌, ap}
use Rattle.std.specs.List.{flat_map}
use Rattle.r4_check_objects.specs.Objects.{count_faults, faults_under, object_faults}
use Rattle.r4_check_objects.specs.declared.fault.Fault.{Fault}
use Rattle.r4_check_objects.proofs.objects.object_faults.Goals as goal

pub returns : goal.returns
unfolding object_faults
returns c =
    let under = faults_under c.args.super40.now c.args.leaf c.args.found.now in
    let last = count_faults c.args.super40.now c.args.found.now in
    c.in_ok-add_count.ensures ∙ ap (λ (l : List Fault). l ++ last)
    (c.in_ok-add_under.ensures ∙ ap (λ (l : List Fault). l ++ flat_map under c.in_ok-firsts.firsts.ids.keys) c.new-faults.ensures.items ∙ ap (flat_map under) c.in_ok-firsts.ensures.ids)
