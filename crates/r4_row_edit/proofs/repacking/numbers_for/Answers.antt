use Rattle.std.proofs.Common.{◌∙◌, ap, map, sym, take}
use Rattle.std.specs.Arc.{arc_value}
use Rattle.std.proofs.lemmas.List.{take-map}
use Rattle.r4_patch.specs.Joining.{ids_of}
use Rattle.r4_squeeze.specs.Packing.{numbers}
use Rattle.r4_row_edit.proofs.Counted.{all_added}
use Rattle.r4_row_edit.proofs.repacking.numbers_for.Goals as goal

pub returns : goal.returns
returns c = all_added (ids_of (map arc_value c.args.row.now)) c.args.count c.args.fresh.now c.add_fresh.new.fresh
    (numbers c.truncate.new.self.items) (numbers c.add_fresh.new.ids.items)
    (ap numbers c.truncate.ensures.items
    ∙ (sym (take-map _ c.args.count c.in_ok-ids.ids.items) ∙ ap (take c.args.count) c.in_ok-ids.ensures))
    c.in_ok-add_fresh.ensures
