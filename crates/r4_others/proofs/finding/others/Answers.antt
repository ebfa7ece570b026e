use Rattle.std.proofs.Common.{rules, arith, List, sym, subst}
use Rattle.std.specs.List.Sorted.{IsPermutation}
use Rattle.std.proofs.lemmas.Fn.{dedup_same}
use Rattle.r4_history.specs.Held.{Need}
use Rattle.r4_history.specs.Serving.{AreOthers}
use Rattle.r4_others.specs.declared.finding.Other.{Other}
use Rattle.r4_others.specs.Others.{other_owner, pairs_of}
use Rattle.r4_others.proofs.Firsts.{ordered}
use Rattle.r4_others.proofs.Owners.{are_others, atom_in, by_atom, few_pairs, node_in}
use Rattle.r4_others.proofs.finding.others.Goals as goal

pub returns-clause-exact : goal.returns-clause-exact
returns-clause-exact c =
    let s = c.args.atoms.now in
    let own = c.args.own.0 in
    let need : Need = record { reads = c.args.reads.now; writes = c.args.writes.now } in
    let sorted = c.sort_unstable.new.self.items in
    let kept = dedup_same _ by_atom _ (λ x y b f' x' y' k. search rules) sorted c.dedup_by.new.self.items
    c.dedup_by.ensures.filtered in
    subst (λ (l : List Other). AreOthers s own need (pairs_of l)) (sym kept)
    (are_others s own need sorted
    (subst (λ (l : List Other). IsPermutation l sorted) c.in_ok-others.ensures c.sort_unstable.ensures.permutation)
    (ordered atom_in node_in sorted c.sort_unstable.ensures.sorted))

pub returns-clause-short : goal.returns-clause-short
returns-clause-short c =
    let found = c.in_ok-others.others in
    let sorted = c.sort_unstable.new.self in
    let kept = c.dedup_by.new.self in
    few_pairs (other_owner c.args.atoms.now c.args.own.0) c.args.reads.now c.args.writes.now found.items kept.items
    c.in_ok-others.ensures
    (omega (arith, found.ok.0, kept.ok.0, c.sort_unstable.ensures.len, c.dedup_by.ensures.bound))
