use Rattle.std.proofs.Common.{◌++◌, ◌∙◌, ap, List, ℕ, codes, decimal}
use Rattle.r4_list.proofs.LineText.{line_ends}
use Rattle.r4_list.proofs.line.push_line.Goals as goal

pub returns : goal.returns
returns c =
    line_ends c.extend_from_slice-4.result c.args.line.now.items c.args.attr.now c.args.path.now
    c.extend_from_slice.new.self.items c.push_mode.new.line.items c.push_number.new.line.items c.push_number-2.new.line.items c.push_number-3.new.line.items c.push_number-4.new.line.items c.extend_from_slice-2.new.self.items c.extend_from_slice-3.new.self.items c.extend_from_slice-4.new.self.items
    (c.in_ok-extend_from_slice.ensures.items ∙ ap (λ (t : List ℕ). c.args.line.now.items ++ t) c.kind.ensures)
    c.in_ok-push_mode.ensures
    (c.in_ok-push_number.ensures ∙ ap (λ (v : ℕ). c.push_mode.new.line.items ++ (codes " " ++ decimal v)) c.from.ensures)
    (c.in_ok-push_number-2.ensures ∙ ap (λ (v : ℕ). c.push_number.new.line.items ++ (codes " " ++ decimal v)) c.from-2.ensures)
    (c.in_ok-push_number-3.ensures ∙ ap (λ (v : ℕ). c.push_number-2.new.line.items ++ (codes " " ++ decimal v)) c.from-3.ensures)
    c.in_ok-push_number-4.ensures
    c.in_ok-extend_from_slice-2.ensures.items
    (c.in_ok-extend_from_slice-3.ensures.items ∙ ap (λ (t : List ℕ). c.extend_from_slice-2.new.self.items ++ t) c.shown.ensures)
    c.extend_from_slice-4.ensures.items
