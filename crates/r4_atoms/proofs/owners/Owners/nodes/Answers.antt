use Rattle.std.proofs.Common.{List, ℕ, eqb}
use Rattle.std.specs.Map.{keys_of}
use Rattle.std.proofs.lemmas.List.Filters.{dedup_is}
use Rattle.std.proofs.lemmas.List.Kept.{Contains-dedup_nat}
use Rattle.std.proofs.lemmas.List.Sorted.{Contains-permutation}
use Rattle.std.proofs.lemmas.Map.Keys.{IsStrictlyIncreasing-dedup}
use Rattle.std.proofs.lemmas.Map.Views.{Contains-keys_from_lookup}
use Rattle.std.proofs.lemmas.Bool.{eqb-true}
use Rattle.std.specs.List.{Contains}
use Rattle.std.specs.List.Sorted.{IsStrictlyIncreasing}
use Rattle.r4_atoms.proofs.owners.Owners.nodes.Goals as goal

pub returns-clause-rising : goal.returns-clause-rising
returns-clause-rising c =
    let same = dedup_is eqb c.sort_unstable.new.self.items c.dedup.new.self.items c.dedup.ensures.filtered in
    let P : List ℕ → Type 0 = IsStrictlyIncreasing in
    rw same (IsStrictlyIncreasing-dedup c.sort_unstable.new.self.items c.sort_unstable.ensures.sorted)

pub returns-clause-all : goal.returns-clause-all
returns-clause-all c n labelled =
    let same = dedup_is eqb c.sort_unstable.new.self.items c.dedup.new.self.items c.dedup.ensures.filtered in
    let there : Contains (keys_of c.args.self.now.entries) n = Contains-keys_from_lookup eqb-true n c.args.self.now.entries labelled in
    let listed : Contains c.in_ok-nodes.nodes.items n = rw c.in_ok-nodes.ensures there in
    rw same (Contains-dedup_nat c.sort_unstable.new.self.items n (Contains-permutation c.in_ok-nodes.nodes.items c.sort_unstable.new.self.items n c.sort_unstable.ensures.permutation listed))
