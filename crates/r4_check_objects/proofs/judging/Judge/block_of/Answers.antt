use Rattle.std.proofs.Common.{◌∙◌, ap, sym}
use Rattle.std.specs.Prelude.{Option}
use Rattle.std.specs.Option.{option_map_or}
use Rattle.r4_check_objects.specs.Objects.{block_of, block_under}
use Rattle.r4_check_objects.specs.declared.held.Held.{Held}
use Rattle.r4_check_objects.proofs.judging.Judge.block_of.Goals as goal

pub returns-in-Some : goal.returns-in-Some
unfolding block_of
returns-in-Some c found j = c.block_under.ensures ∙ ap (λ (o : Option Held). option_map_or (block_under c.args.self.now.leaf c.args.id) o c.args.self.now.leaf) (sym c.in-Some.is ∙ c.at.ensures ∙ j.known.heads.each c.args.id)

pub returns-in-None : goal.returns-in-None
unfolding block_of
returns-in-None c found j = ap (λ (o : Option Held). option_map_or (block_under c.args.self.now.leaf c.args.id) o c.args.self.now.leaf) (sym c.in-None.is ∙ c.at.ensures ∙ j.known.heads.each c.args.id)
