use Rattle.std.proofs.Common.{◌≡◌, ◌∙◌, ◌+◌, ◌-◌, true, false, ap, arith, drop, length, map, rules, subst, sym}
use Rattle.std.specs.Arc.{arc_value}
use Rattle.r4_base.specs.Key.{rank}
use Rattle.r4_base.specs.Node.{items_of}
use Rattle.r4_cell.specs.Seen.{CellSeen}
use Rattle.std.proofs.lemmas.Bool.{false≢true}
use Rattle.r4_squeeze.specs.Over.{PointsTo}
use Rattle.r4_squeeze.proofs.Naming.{pointed_no, pointed_past, pointed_then, some_at}
use Rattle.r4_squeeze.proofs.slum.+are_named.Goals as goal

pub returns-then-at-len : goal.returns-then-at-len
returns-then-at-len t c =
    let long = ap length c.requires.items in
    let past = c.if-at-len.true in
    let len = c.len.ensures in (
      λ e. absurd cc,
      λ h. absurd (pointed_past (c.args.parent.now.level - 1) (rank c.args.parent.now.hi) c.args.at
          (items_of c.args.parent.now.block) (arc_value c.in-Some.first.now) (map arc_value c.in-Some.rest.now)
          (map arc_value c.args.slum.now) (ap (map arc_value) c.in-Some.ensures.cases.0)
          (omega (arith, long, past, len)) h),
    )

pub returns-then-not-is_named : goal.returns-then-not-is_named
returns-then-not-is_named t c =
    let long = ap length c.requires.items in
    let past = c.if-at-len.false in
    let len = c.len.ensures in
    let (it, is) = some_at (items_of c.args.parent.now.block) c.args.at (omega (arith, long, past, len)) in
    let not_named : c.is_named.result ≡ false = search rules in (
      λ e. absurd cc,
      λ h. absurd (pointed_no (c.args.parent.now.level - 1) (rank c.args.parent.now.hi) c.args.at
          (items_of c.args.parent.now.block) (arc_value c.in-Some.first.now) (map arc_value c.in-Some.rest.now)
          (map arc_value c.args.slum.now) it (ap (map arc_value) c.in-Some.ensures.cases.0) is
          (λ one. absurd (false≢true (sym not_named ∙ (c.is_named.ensures it is).1
          (subst (λ (x : CellSeen). (x.level ≡ c.args.parent.now.level - 1)
          × PointsTo (rank c.args.parent.now.hi) x it (drop (c.args.at + 1) (items_of c.args.parent.now.block)))
          (sym c.deref.ensures) one)))) h),
    )

pub returns-else-not-is_named : goal.returns-else-not-is_named
returns-else-not-is_named t c =
    let long = ap length c.requires.items in
    let past = c.if-at-len.false in
    let len = c.len.ensures in
    let (it, is) = some_at (items_of c.args.parent.now.block) c.args.at (omega (arith, long, past, len)) in
    let named : c.is_named.result ≡ true = search rules in
    pointed_then (c.args.parent.now.level - 1) (rank c.args.parent.now.hi) c.args.at
    (items_of c.args.parent.now.block) (arc_value c.in-Some.first.now) (map arc_value c.in-Some.rest.now)
    (map arc_value c.args.slum.now) it c.are_named.result (ap (map arc_value) c.in-Some.ensures.cases.0) is
    (subst (λ (x : CellSeen). (x.level ≡ c.args.parent.now.level - 1)
    × PointsTo (rank c.args.parent.now.hi) x it (drop (c.args.at + 1) (items_of c.args.parent.now.block)))
    c.deref.ensures ((c.is_named.ensures it is).0 named)) c.are_named.ensures
