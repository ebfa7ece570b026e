use Rattle.r4_flush.proofs.Flushed.{chosen_flushed, is_flush, plan_is_for, root_agrees}
use Rattle.r4_flushed.specs.r4_commit.Places.{place_of}
use Rattle.r4_flush.specs.Anew.{new_name}
use Rattle.r4_flush.proofs.laws.prepared_atoms_are_flushed.Goals as goal

pub returns : goal.returns
returns c = record {
  flush = λ given atom next last space p x base n m r c' own none.
      is_flush given atom next last space p x base n m r c' own none;
  chosen = λ given atom next last space p x. chosen_flushed (new_name (place_of x.answers)) 22 space x.cells
      x.answers p.renamed.items x.renamed x.chosen;
  plan = λ given atom next last space p x base. plan_is_for given atom next last space p x base;
  root = λ given atom next last space p x base n m r out. root_agrees given atom next last space p x base n m r out;
}
