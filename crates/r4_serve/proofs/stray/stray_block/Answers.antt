use Rattle.std.proofs.Common.{List, ℕ, ap, drop, map, subst, sym, take, ◌+◌, ◌++◌, ◌∷◌, ◌∙◌}
use Rattle.std.proofs.lemmas.List.{take_all}
use Rattle.std.specs.Arc.{arc_value}
use Rattle.r4_cell.specs.Seen.{CellSeen}
use Rattle.r4_content.specs.declared.reply.Reply.TheVariants.{Damaged}
use Rattle.r4_search.specs.Keeping.{Shared}
use Rattle.r4_serve.specs.Serving.{IsStray, NoneStray, parts_seen}
use Rattle.r4_serve.proofs.Splitting.{parted_at}
use Rattle.r4_serve.proofs.stray.stray_block.Goals as goal

pub returns-then-is_stray : goal.returns-then-is_stray
returns-then-is_stray c =
    let parts = c.args.parts.now in
    let p = parts_seen parts in
    let cells = c.args.cells.now in
    let i = c.loop-cell.cell-index in
    record {
      before = map (λ x. arc_value x) (take i cells);
      cell = arc_value c.cell-item.result;
      behind = map (λ x. arc_value x) (drop (i + 1) cells);
      among = parted_at (λ x. arc_value x) cells i c.cell-item.result c.loop-cell-test.true
          ∙ ap (λ (x : Shared).
          map (λ y. arc_value y) (take i cells) ++ arc_value x ∷ map (λ y. arc_value y) (drop (i + 1) cells))
          (sym c.cell-item.is);
      none = c.loop-cell.invariant;
      stray = subst (IsStray p) c.deref.ensures c.if-is_stray.ensures;
      reply_is = ap (λ (n : ℕ). Damaged (record { 0 = n }))
          (c.id.ensures ∙ ap (λ (x : CellSeen). x.id) c.deref-then-is_stray.ensures);
    }

pub returns : goal.returns
returns c =
    let parts = c.args.parts.now in
    let p = parts_seen parts in
    subst (λ (l : List Shared). NoneStray p (map (λ x. arc_value x) l))
    (take_all c.loop-cell.cell-index c.args.cells.now c.loop-cell-test.false) c.loop-cell.invariant
