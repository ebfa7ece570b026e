use Rattle.std.proofs.Common.{replicate, refl, subst, sym, ◌∙◌}
use Rattle.std.proofs.lemmas.List.{length-replicate}
use Rattle.r4_base.specs.Key.{rank}
use Rattle.r4_edit_testing.specs.Remaking.{IsTail}
use Rattle.r4_edit_testing.proofs.Together.{tail_stands}
use Rattle.r4_edit_testing.proofs.remaking.fill_stands.Goals as goal

pub returns : goal.returns
returns c = λ true-is.
    let (good, tail) = c.is_tail.ensures true-is in
    tail_stands c.args.key 6 (replicate c.args.count c.args.byte) (rank c.args.end) refl good
    (subst (λ n. IsTail c.args.key n (rank c.args.end)) (c.from.ensures
    ∙ sym (length-replicate c.args.count c.args.byte)) tail)
