use Rattle.std.proofs.Common.{◌≡◌, List, [], ◌∷◌, ℕ, length, sym, ap, ◌∙◌, subst, arith, length-append}
use Rattle.std.specs.Prelude.{All, slice_index_or, false, true}
use Rattle.std.specs.Arc.{arc_value}
use Rattle.r4_space.specs.Space.{Space}
use Rattle.r4_place.specs.declared.placed.Placed.{Placed}
use Rattle.r4_place.specs.Chosen.{behind, behind_all, fresh_blocks, placed_all, placed_in}
use Rattle.r4_cell.specs.Seen.{CellSeen}
use Rattle.r4_place.proofs.ChosenCells.{fresh_unused, fresh_different, fresh_used, others_stay, rest_stays, next_chosen, behind_more, placed_more}
use Rattle.r4_place.proofs.choosing.choose.Goals as goal

pub loop-cell-preserved : goal.loop-cell-preserved
loop-cell-preserved c =
    let p : Placed = record { node = c.id.result; how = c.choose_how-how.result } in
    let more = c.in_ok-push.ensures.items in
    let near : c.look_behind-near.result.0 ≡ behind c.loop-cell.near.0 c.choose_how-how.result = c.look_behind-near.ensures in
    record {
      chosen = next_chosen (λ cell. arc_value cell) c.args.slum.now c.loop-cell.cell-index c.loop-cell.near.0 c.args.space.now c.loop-cell.space c.loop-cell.all.items c.push.new.self.items c.cell-item.result _ p
          c.loop-cell.invariant.chosen c.loop-cell.invariant.near c.loop-cell.invariant.space c.loop-cell-test.true c.cell-item.is c.deref.ensures (c.id.ensures ∙ ap (λ (d : CellSeen). d.id) (c.deref-in-loop-cell.ensures ∙ sym c.deref.ensures)) c.choose_how-how.ensures.chosen more;
      near = near ∙ ap (λ (k : ℕ). behind k c.choose_how-how.result) c.loop-cell.invariant.near ∙ sym (ap (behind_all 22) more ∙ behind_more 22 c.loop-cell.all.items p);
      space = c.choose_how-how.ensures.space ∙ ap (λ (s : Space). placed_in s c.choose_how-how.result) c.loop-cell.invariant.space ∙ sym (ap (placed_all c.args.space.now) more ∙ placed_more c.args.space.now c.loop-cell.all.items p);
      left = omega (arith, c.choose_how-how.ensures.left, c.loop-cell.invariant.left);
      small = let low = c.choose_how-how.ensures.small c.loop-cell.invariant.small in omega (arith, low, near);
      counted = omega (arith, ap (λ (l : List Placed). length l) more, length-append c.loop-cell.all.items (p ∷ []), c.loop-cell.invariant.counted);
      room = omega (arith, c.loop-cell.invariant.room, c.in_ok-push.ensures.capacity);
    }

pub returns-clause-unused : goal.returns-clause-unused
returns-clause-unused c = fresh_unused 22 c.args.space.now _ c.loop-cell.all.items c.lawful.ensures.placed_size c.loop-cell.invariant.chosen

pub returns-clause-different : goal.returns-clause-different
returns-clause-different c = fresh_different 22 c.args.space.now _ c.loop-cell.all.items c.lawful.ensures.placed_size c.loop-cell.invariant.chosen

pub returns-clause-used : goal.returns-clause-used
returns-clause-used c = subst (λ (s : Space). All (λ b. slice_index_or s.placed b false ≡ true) (fresh_blocks c.loop-cell.all.items)) (sym c.loop-cell.invariant.space)
    (fresh_used 22 c.args.space.now _ c.loop-cell.all.items c.lawful.ensures.placed_size c.loop-cell.invariant.chosen)

pub returns-clause-others : goal.returns-clause-others
returns-clause-others c = λ b out. ap (λ (s : Space). slice_index_or s.placed b false) c.loop-cell.invariant.space ∙ others_stay c.args.space.now c.loop-cell.all.items b out

pub returns-clause-rest : goal.returns-clause-rest
returns-clause-rest c = subst (λ (s : Space). s ≡ record c.args.space.now { placed = s.placed }) (sym c.loop-cell.invariant.space) (rest_stays c.args.space.now c.loop-cell.all.items)
