use Rattle.std.proofs.Common.{◌≡◌, ◌∙◌, ◌∷◌, ◌++◌, [], ap, false, length, map, refl, rules, subst, sym, true}
use Rattle.std.specs.Arc.{arc_value}
use Rattle.std.proofs.lemmas.List.{map-append, nil_from_length}
use Rattle.std.proofs.lemmas.Result.{IfOk-weaker}
use Rattle.r4_base.specs.Key.{rank}
use Rattle.r4_base.specs.Node.{items_of}
use Rattle.r4_work.specs.r4_cell.Seen.{CellSeen}
use Rattle.r4_row_gather.specs.Clearing.{AreSortedOut, IsLeafAt, is_in_way}
use Rattle.r4_row_gather.proofs.SortedOut.{sorted_begins, sorted_goes, sorted_none, sorted_stays}
use Rattle.r4_row_gather.proofs.clearing.+sort_out.Goals as goal

pub returns-in_default : goal.returns-in_default
returns-in_default t c = λ same.
    let cells = map arc_value c.args.cells.now in
    let from = rank c.args.keys.now.from in
    let to = rank c.args.keys.now.to in
    let zero : length c.args.pieces.now ≡ 0 = search rules in
    subst (λ ps. AreSortedOut cells from to (rank c.args.hi) ps c.args.sorted.now c.args.sorted.now)
    (sym (nil_from_length c.args.pieces.now zero))
    (sorted_none cells from to (rank c.args.hi) c.args.sorted.now)

pub returns-then-not-is_in_way : goal.returns-then-not-is_in_way
returns-then-not-is_in_way t c =
    let cells = map arc_value c.args.cells.now in
    let from = rank c.args.keys.now.from in
    let to = rank c.args.keys.now.to in
    let hi = rank c.args.hi in
    let before = c.args.sorted.now in
    let out : is_in_way from to c.in-Some.first.now ≡ false = search rules in
    IfOk-weaker c.sort_out.result _ _ (λ ok all good.
    subst (λ ps. AreSortedOut cells from to hi ps before c.sort_out.new.sorted) (sym c.in-Some.ensures.cases.0)
    (sorted_stays cells from to hi c.in-Some.first.now c.in-Some.rest.now before
    (record { pieces = c.push.new.self; gone = before.gone; come = before.come }) c.sort_out.new.sorted out
    (sym c.becomes_longer.ensures ∙ c.if-becomes_longer.false) c.in_ok-push.ensures.items refl refl (all good)))
    c.sort_out.ensures

pub returns-then-is_empty : goal.returns-then-is_empty
returns-then-is_empty t c =
    let cells = map arc_value c.args.cells.now in
    let from = rank c.args.keys.now.from in
    let to = rank c.args.keys.now.to in
    let hi = rank c.args.hi in
    let before = c.args.sorted.now in
    let leaf = arc_value c.in-Some-leaf_at.leaf.now in
    let way : is_in_way from to c.in-Some.first.now ≡ true = search rules in
    let empty : items_of leaf.block ≡ [] =
    ap (λ (x : CellSeen). items_of x.block) (sym c.deref.ensures) ∙ c.is_empty.ensures c.if-is_empty.true in
    let go : map arc_value c.push-then-is_empty.new.self.items ≡ map arc_value before.gone.items ++ leaf ∷ [] =
    ap (map arc_value) c.in_ok-push-2.ensures.items
    ∙ (map-append arc_value before.gone.items (c.in_ok-try_clone.field-0 ∷ [])
    ∙ ap (λ (x : CellSeen). map arc_value before.gone.items ++ x ∷ []) c.in_ok-try_clone.ensures) in
    IfOk-weaker c.sort_out-then-is_empty.result _ _ (λ ok all good.
    subst (λ ps. AreSortedOut cells from to hi ps before c.sort_out-then-is_empty.new.sorted)
    (sym c.in-Some.ensures.cases.0)
    (sorted_goes cells from to hi c.in-Some.first.now c.in-Some.rest.now before
    (record { pieces = before.pieces; gone = c.push-then-is_empty.new.self; come = before.come })
    c.sort_out-then-is_empty.new.sorted leaf way
    (subst (λ k. IsLeafAt k c.in-Some.first.now leaf) c.end_of.ensures c.in-Some-leaf_at.ensures.leaf) empty
    c.in-Some-leaf_at.ensures.among refl go refl (all good))) c.sort_out-then-is_empty.ensures

pub returns : goal.returns
returns t c =
    let cells = map arc_value c.args.cells.now in
    let from = rank c.args.keys.now.from in
    let to = rank c.args.keys.now.to in
    let hi = rank c.args.hi in
    let before = c.args.sorted.now in
    let leaf = arc_value c.in-Some-leaf_at.leaf.now in
    let way : is_in_way from to c.in-Some.first.now ≡ true = search rules in
    let later : c.in_ok-begin_later.field-0 ≡ true = search rules in
    IfOk-weaker c.sort_out-2.result _ _ (λ ok all good.
    subst (λ ps. AreSortedOut cells from to hi ps before c.sort_out-2.new.sorted) (sym c.in-Some.ensures.cases.0)
    (sorted_begins cells from to hi c.in-Some.first.now c.in-Some.rest.now before c.begin_later.new.sorted c.sort_out-2.new.sorted leaf way
    (subst (λ k. IsLeafAt k c.in-Some.first.now leaf) c.end_of.ensures c.in-Some-leaf_at.ensures.leaf)
    c.in-Some-leaf_at.ensures.among (sym c.begins_in_way.ensures ∙ c.if-begins_in_way.false)
    (c.in_ok-begin_later.ensures later) (all good))) c.sort_out-2.ensures
