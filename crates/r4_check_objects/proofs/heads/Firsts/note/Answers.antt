use Rattle.std.proofs.Common.{◌∙◌}
use Rattle.r4_check_objects.proofs.Ids.{ids_noted}
use Rattle.r4_check_objects.proofs.heads.Firsts.note.Goals as goal

pub returns : goal.returns
returns c found firsts = record {
  heads = c.in_ok-note_head.ensures found firsts.heads;
  ids = ids_noted found c.args.held.now c.at.result.now c.id-id.result c.args.self.now.ids.keys c.note_id.new.ids.keys c.id-id.ensures (c.at.ensures ∙ firsts.heads.each c.id-id.result) firsts.ids c.in_ok-note_id.ensures;
}
