use Rattle.std.proofs.Common.{map, ◌≡◌, ◌++◌, List, ap, arith, length, subst, sym, ◌∙◌}
use Rattle.std.specs.Prelude.{Contains}
use Rattle.std.specs.Arc.{arc_value}
use Rattle.std.specs.Option.{option_copied}
use Rattle.r4_base.specs.Key.{rank}
use Rattle.r4_extent_build.specs.r4_cell.Seen.{CellSeen}
use Rattle.r4_extent_build.specs.r4_cell.declared.change.Fresh.{Fresh}
use Rattle.r4_content.specs.Held.{edits_of}
use Rattle.r4_extent_build.specs.r4_extent_demands.Putting.{leaves_in, put_into}
use Rattle.r4_extent_build.proofs.r4_extent_demands.Puts.{leaves_more}
use Rattle.r4_build.specs.r4_leaf.declared.remaking.KeyRange.{KeyRange}
use Rattle.r4_extent_build.specs.r4_leaf_demands.Touching.{span_of}
use Rattle.r4_build.proofs.r4_patch.Members.{later}
use Rattle.r4_extent_among.specs.Among.{numbered}
use Rattle.r4_extent_among.proofs.Numbered.{numbered_both}
use Rattle.r4_extent_among.proofs.TurnOf.{few_for}
use Rattle.r4_extent_among.proofs.leaves.+leaves_in.Goals as goal

pub leaves_in-requires : goal.leaves_in-requires
leaves_in-requires t c =
    let b = option_copied c.args.body in
    let e = edits_of c.args.edits.now in
    let r = c.in-Some.first.now in
    let rest = c.in-Some.rest.now in
    let is = c.in-Some.ensures.cases.0 in
    let n = ap length is in
    let all = ap (λ (rs : List KeyRange). leaves_in b e (map span_of rs)) is ∙ leaves_more b e (span_of r) (map span_of rest) in
    let few = few_for (put_into b e (rank r.from) (rank r.to)) (rank r.to) c.args.mkfs_id (map (λ x. arc_value x) c.in_ok-leaves-in-Some.leaves.items) c.in_ok-leaves-in-Some.ensures.leaves in
    let next = ap (λ (f : Fresh). f.next) c.in_ok-leaves-in-Some.ensures.fresh in
    let end = ap (λ (f : Fresh). f.end) c.in_ok-leaves-in-Some.ensures.fresh in
    let enough = c.requires.numbers in (
      omega (arith, n),
      (
        c.requires.edits,
        (
          (λ x at. c.requires.ranges x (subst (λ (rs : List KeyRange). Contains rs x) (sym is) (later r x rest at))),
          omega (arith, all, few, next, end, enough),
        ),
      ),
    )

pub returns-in_ok-add-in-Some-clause-numbered : goal.returns-in_ok-add-in-Some-clause-numbered
returns-in_ok-add-in-Some-clause-numbered t c =
    let xs = map (λ x. arc_value x) c.in_ok-leaves-in-Some.leaves.items in
    let ys = map (λ x. arc_value x) c.in_ok-others-in-Some.others.items in
    let next = ap (λ (f : Fresh). f.next) c.in_ok-leaves-in-Some.ensures.fresh in
    let all : map (λ x. arc_value x) c.add.new.cells.items ≡ xs ++ ys
    = c.in_ok-add-in-Some.ensures ∙ ap (λ zs. xs ++ map (λ x. arc_value x) zs) c.as_slice.ensures.value in
    subst (λ (cs : List CellSeen). cs ≡ numbered c.args.fresh.now.next cs) (sym all)
    (numbered_both c.args.fresh.now.next c.leaves_for.new.fresh.next xs ys c.in_ok-leaves-in-Some.ensures.numbered next c.in_ok-others-in-Some.ensures.numbered)
