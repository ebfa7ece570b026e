use Rattle.std.proofs.Common.{◌∙◌, ◌∷◌, ◌++◌, suc, [], ap, arith, length, map, subst, sym}
use Rattle.std.specs.Prelude.{Some}
use Rattle.std.specs.Arc.{arc_value}
use Rattle.std.specs.Option.{option_map}
use Rattle.std.specs.Vec.Iter.{into_iter_items}
use Rattle.std.proofs.lemmas.List.{append_assoc, map-append}
use Rattle.std.proofs.lemmas.Result.{IfOk-weaker}
use Rattle.r4_rows.specs.Rows.{Row}
use Rattle.r4_row_edit.specs.Climbing.{CanClimb, Climbed, row_of}
use Rattle.r4_row_edit.proofs.Climbs.{can_rise, climbed_on, next_can, nothing_left, one_for_one, repacked_for, rose}
use Rattle.r4_row_edit.proofs.climbing.+climb.Goals as goal

pub returns-then-is_one_for_one : goal.returns-then-is_one_for_one
returns-then-is_one_for_one t c = λ l can. (
  [],
  one_for_one l (row_of c.args.row) _ c.args.fresh.now can (sym c.is_one_for_one.ensures ∙ c.if-is_one_for_one.true),
  ap (map row_of) c.in_ok-push.ensures.items ∙ map-append row_of c.args.rows.now.items (c.args.row ∷ []),
)

pub root_of-requires : goal.root_of-requires
root_of-requires t c =
    let (l, can) = c.requires in
    let zero = c.in-None.ensures.cases.0 in
    let long = c.args.above.rest.ok in
    let all = nothing_left (into_iter_items c.args.above) (omega (arith, zero, long)) in (
      l,
      can_rise l (row_of c.args.row) c.args.fresh.now
          (subst (λ rs. CanClimb l (row_of c.args.row) rs c.args.fresh.now) all can)
          (sym c.is_one_for_one.ensures ∙ c.if-is_one_for_one.false),
    )

pub climb-requires : goal.climb-requires
climb-requires t c =
    let (l, can) = c.requires in
    let all = c.in-Some.ensures.items in
    let long = ap length all in
    let able = subst (λ rs. CanClimb l (row_of c.args.row) rs c.args.fresh.now) all can in
    let done = repacked_for l c.in-Some.old c.args.row.old c.args.row.new (map arc_value c.as_slice.result.now)
    (map arc_value c.as_slice-in-Some.result.now) (map arc_value c.as_slice-in-Some-2.result.now)
    (map arc_value c.in_ok-new-in-Some.new.items) c.args.fresh.now c.repacked.new.fresh c.as_slice.ensures
    c.as_slice-in-Some.ensures c.as_slice-in-Some-2.ensures c.in_ok-new-in-Some.ensures able.up.0 in (
      omega (arith, long),
      (
        suc l,
        subst (λ cs. CanClimb (suc l) (record { old = c.in-Some.old; new = cs }) (into_iter_items c.next.new.self)
            c.repacked.new.fresh) (sym c.from_vec.ensures)
            (next_can l (row_of c.args.row) c.in-Some.old (into_iter_items c.next.new.self) c.args.fresh.now able
            c.repacked.new.fresh (map arc_value c.in_ok-new-in-Some.new.items) done),
      ),
    )

pub returns-in_ok-push-in-None : goal.returns-in_ok-push-in-None
returns-in_ok-push-in-None t c = λ l can.
    let zero = c.in-None.ensures.cases.0 in
    let long = c.args.above.rest.ok in
    let all = nothing_left (into_iter_items c.args.above) (omega (arith, zero, long)) in
    let able = subst (λ rs. CanClimb l (row_of c.args.row) rs c.args.fresh.now) all can in
    let other = sym c.is_one_for_one.ensures ∙ c.if-is_one_for_one.false in (
      [],
      subst (λ rs. Climbed l (row_of c.args.row) rs c.args.fresh.now c.root_of.new.fresh [] (Some (arc_value c.in_ok-root-in-None.root))) (sym all)
          (rose l (row_of c.args.row) c.args.fresh.now able other c.root_of.new.fresh (arc_value c.in_ok-root-in-None.root)
          (c.in_ok-root-in-None.ensures.root l (can_rise l (row_of c.args.row) c.args.fresh.now able other))
          c.in_ok-root-in-None.ensures.fresh),
      ap (map row_of) c.in_ok-push-in-None.ensures.items ∙ map-append row_of c.args.rows.now.items (c.args.row ∷ []),
    )

pub returns-in_ok-push-in-Some : goal.returns-in_ok-push-in-Some
returns-in_ok-push-in-Some t c = IfOk-weaker c.climb.result _ _ (λ over found. λ l can.
    let all = c.in-Some.ensures.items in
    let able = subst (λ rs. CanClimb l (row_of c.args.row) rs c.args.fresh.now) all can in
    let cells = map arc_value c.in_ok-new-in-Some.new.items in
    let done = repacked_for l c.in-Some.old c.args.row.old c.args.row.new (map arc_value c.as_slice.result.now)
    (map arc_value c.as_slice-in-Some.result.now) (map arc_value c.as_slice-in-Some-2.result.now)
    cells c.args.fresh.now c.repacked.new.fresh c.as_slice.ensures
    c.as_slice-in-Some.ensures c.as_slice-in-Some-2.ensures c.in_ok-new-in-Some.ensures able.up.0 in
    let (more, climbed, lists) = found (suc l)
    (subst (λ cs. CanClimb (suc l) (record { old = c.in-Some.old; new = cs }) (into_iter_items c.next.new.self)
    c.repacked.new.fresh) (sym c.from_vec.ensures)
    (next_can l (row_of c.args.row) c.in-Some.old (into_iter_items c.next.new.self) c.args.fresh.now able
    c.repacked.new.fresh cells done)) in
    let next : Row = record { old = c.in-Some.old; new = cells } in (
      next ∷ more,
      subst (λ rs. Climbed l (row_of c.args.row) rs c.args.fresh.now c.climb.new.fresh (next ∷ more) (option_map arc_value over)) (sym all)
          (climbed_on l (row_of c.args.row) c.in-Some.old (into_iter_items c.next.new.self) c.args.fresh.now able
          c.repacked.new.fresh cells done c.climb.new.fresh more (option_map arc_value over)
          (subst (λ cs. Climbed (suc l) (record { old = c.in-Some.old; new = cs }) (into_iter_items c.next.new.self)
          c.repacked.new.fresh c.climb.new.fresh more (option_map arc_value over)) c.from_vec.ensures climbed)),
      lists
          ∙ (ap (λ cs. map row_of c.push-in-Some.new.self.items ++ record { old = c.in-Some.old; new = cs } ∷ more)
          c.from_vec.ensures
          ∙ (ap (λ xs. xs ++ next ∷ more) (ap (map row_of) c.in_ok-push-in-Some.ensures.items
          ∙ map-append row_of c.args.rows.now.items (c.args.row ∷ []))
          ∙ append_assoc (map row_of c.args.rows.now.items) (row_of c.args.row ∷ []) (next ∷ more))),
    )) c.climb.ensures
