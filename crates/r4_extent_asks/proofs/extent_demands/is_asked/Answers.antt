use Rattle.std.proofs.Common.{ap, length, map, sym, ◌∙◌}
use Rattle.std.specs.Prelude.{not, ◌==◌, ◌||◌}
use Rattle.std.proofs.lemmas.List.{length-map}
use Rattle.r4_twig_asks.specs.r4_marking.Marks.{heard_seen}
use Rattle.r4_extent_asks.proofs.extent_demands.is_asked.Goals as goal

pub returns-then-is_touched : goal.returns-then-is_touched
returns-then-is_touched c = sym (λ i. (sym c.is_touched.ensures ∙ c.if-is_touched.true) i
    || not (length (map heard_seen c.args.heard.now) == 0))

pub returns : goal.returns
returns c =
    ap not (c.is_empty.ensures ∙ ap (λ n. n == 0) (sym (length-map c.args.heard.now heard_seen)))
    ∙ sym (λ i. (sym c.is_touched.ensures ∙ c.if-is_touched.false) i
    || not (length (map heard_seen c.args.heard.now) == 0))
