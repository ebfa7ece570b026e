use Rattle.std.proofs.Common.{◌-◌, ◌^◌, List, sym, ap, subst, ◌∙◌}
use Rattle.std.specs.Prelude.{min}
use Rattle.r4_base.specs.Key.{rank}
use Rattle.r4_leaf.specs.Pieces.{Follow, units_of}
use Rattle.r4_leaf.specs.Units.{LeafUnit, leaf_bytes}
use Rattle.r4_leaf.proofs.remaking.bytes_after.Goals as goal

pub bytes_of-requires : goal.bytes_of-requires
bytes_of-requires c =
    let (hi, (lie, within)) = c.requires.leaf in
    (rank c.args.lo, hi, subst (Follow (rank c.args.lo) hi) (sym c.deref.ensures.value) (c.in_ok-pieces.ensures.follow hi lie within))

pub returns : goal.returns
returns c =
    c.bytes_of.ensures
    ∙ ap (λ (us : List LeafUnit). min (leaf_bytes us) (2 ^ 64 - 1)) (ap units_of c.deref.ensures.value ∙ c.in_ok-pieces.ensures.units)
