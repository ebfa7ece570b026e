use Rattle.std.proofs.Common.{◌∙◌, ap, map, sym}
use Rattle.std.specs.Arc.{arc_value}
use Rattle.std.proofs.lemmas.Result.{IfOk-weaker}
use Rattle.r4_cell.specs.Seen.{CellSeen}
use Rattle.r4_squeeze.proofs.PackedLeft.{member_level}
use Rattle.r4_squeeze.proofs.TwigSlums.{first_level_is}
use Rattle.r4_squeeze.proofs.squeezing.fill.Goals as goal

pub returns-in-2-clause-sound : goal.returns-in-2-clause-sound
returns-in-2-clause-sound c =
    let (level, rest) = c.requires in
    let (from, ends) = rest in
    let (to, beside) = ends in
    let first = first_level_is arc_value level from to c.args.slum.now c.index-slum-0.result c.index-slum-0.is
    beside.follow beside.some in
    let is = sym c.level.ensures ∙ c.in-2.is in
    let same = ap (λ (x : CellSeen). x.level) c.deref.ensures in
    IfOk-weaker c.fill_twigs.result _ _ (λ v _ x at other. absurd (other
    (member_level level from to (map arc_value c.args.slum.now) x beside.follow at
    ∙ (sym first ∙ (sym same ∙ is))))) c.fill_twigs.ensures
