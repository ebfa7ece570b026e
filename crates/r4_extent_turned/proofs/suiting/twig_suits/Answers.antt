use Rattle.std.proofs.Common.{sym, ◌∙◌}
use Rattle.std.specs.Arc.{arc_value}
use Rattle.std.proofs.lemmas.List.{length-map}
use Rattle.r4_extent_turned.specs.Suiting.{pieces_suit}
use Rattle.r4_extent_turned.proofs.suiting.twig_suits.Goals as goal

pub returns-clause-exact : goal.returns-clause-exact
returns-clause-exact c =
    c.pieces_suit.ensures ∙ (λ i. pieces_suit c.args.body.now c.args.fresh.now (sym (length-map c.args.cells.now (λ x. arc_value x)) i)
    ((c.as_slice.ensures.value ∙ c.in_ok-old.ensures.is) i) ((c.as_slice-2.ensures.value ∙ c.in_ok-new.ensures) i))
