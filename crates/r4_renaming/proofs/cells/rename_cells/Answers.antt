use Rattle.std.proofs.Common.{ℕ, List, [], ◌∷◌, ◌++◌, take, length, ap, sym, ◌∙◌, subst, arith}
use Rattle.std.proofs.lemmas.List.{length_push}
use Rattle.std.proofs.lemmas.Iterator.Adapters.{YieldsList-from_vec}
use Rattle.std.proofs.lemmas.Iterator.Consumers.{YieldsList-turn}
use Rattle.r4_flush.specs.declared.cells.RenamedCell.{RenamedCell}
use Rattle.r4_renaming.specs.Renaming.{HaveNewNames}
use Rattle.r4_renaming.proofs.Prefix.{more}
use Rattle.r4_renaming.proofs.Standing.{cells_next, free_next}
use Rattle.r4_renaming.proofs.cells.rename_cells.Goals as goal

pub rename_cell-requires-clause-free : goal.rename_cell-requires-clause-free
rename_cell-requires-clause-free c =
    let gives = c.into_iter-cell-iterator.ensures.into_iter_gives in
    let t = YieldsList-turn
    (YieldsList-from_vec c.args.renamed.items gives.0 (gives.1 ∙ c.args.renamed.ok.0))
    c.loop-cell.yielded _ c.loop-cell.yielded_by _ c.next.new.self c.in-Some.cell c.in-Some.is
    c.next.ensures.steps in
    free_next c.args.renamed.items c.requires.before c.requires.then c.args.buffer.now c.requires.there c.requires.free
    (length c.loop-cell.yielded) c.in-Some.cell t.0 t.1 c.loop-cell.buffer c.loop-cell.invariant.cells

pub loop-cell-preserved : goal.loop-cell-preserved
loop-cell-preserved c =
    let gives = c.into_iter-cell-iterator.ensures.into_iter_gives in
    let t = YieldsList-turn
    (YieldsList-from_vec c.args.renamed.items gives.0 (gives.1 ∙ c.args.renamed.ok.0))
    c.loop-cell.yielded _ c.loop-cell.yielded_by _ c.next.new.self c.in-Some.cell c.in-Some.is
    c.next.ensures.steps in
    let one_more = length_push c.loop-cell.yielded c.in-Some.cell in
    let kept = c.loop-cell.invariant.spare in
    let used = c.rename_cell.ensures.spare in
    record {
      same = ap (λ (l : List RenamedCell). l ++ c.in-Some.cell ∷ []) c.loop-cell.invariant.same
          ∙ sym (more c.args.renamed.items (length c.loop-cell.yielded) c.in-Some.cell t.0 t.1)
          ∙ ap (λ (n : ℕ). take n c.args.renamed.items) (sym one_more);
      cells = subst (λ (n : ℕ). HaveNewNames c.args.buffer.now c.rename_cell.new.buffer (take n c.args.renamed.items))
          (sym one_more)
          (cells_next c.args.renamed.items c.requires.before c.requires.then c.args.buffer.now c.requires.there
          c.requires.free (length c.loop-cell.yielded) c.in-Some.cell t.0 t.1 c.loop-cell.buffer
          c.loop-cell.invariant.cells c.rename_cell.new.buffer c.rename_cell.ensures.cells);
      spare = omega (arith, one_more, kept, used);
    }
