use Rattle.r4_patch.proofs.Changes.{joined_cells, joined_change, joined_meets, joined_root, of_part}
use Rattle.r4_patch.proofs.laws.joined_change.Goals as goal

pub returns : goal.returns
returns c = record {
  change = λ one two c t root h joined apart. joined_change one two c t root (of_part one two t root h) joined apart;
  meets = λ one two c t root h joined apart. joined_meets one two c t root (of_part one two t root h) joined apart;
  cells = λ one two c t root h joined apart. joined_cells one two c t root (of_part one two t root h) joined apart;
  root = λ one two c t root h joined apart. joined_root one two c t root (of_part one two t root h) joined apart;
}
