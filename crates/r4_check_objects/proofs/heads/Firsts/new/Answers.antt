use Rattle.std.proofs.Common.{◌∙◌, ap, List, ℕ}
use Rattle.std.specs.BTreeSet.{insert_key}
use Rattle.std.specs.Ordering.{nat_cmp}
use Rattle.r4_check_objects.specs.Objects.{ids_of}
use Rattle.r4_check_objects.proofs.FirstThings.{no_heads}
use Rattle.r4_check_objects.proofs.heads.Firsts.new.Goals as goal

pub returns : goal.returns
unfolding ids_of
returns c = record {
  heads = no_heads c.in_ok-heads.heads c.in_ok-heads.ensures;
  ids = c.in_ok-insert.ensures.keys ∙ ap (λ (l : List ℕ). insert_key nat_cmp l 42) c.new-ids.ensures.empty;
}
