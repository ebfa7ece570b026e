use Rattle.std.proofs.Common.{List, None, ap, arith, refl, subst, sym, ◌∙◌}
use Rattle.r4_atoms.specs.Atoms.{numbers}
use Rattle.r4_base.specs.declared.things.NodeId.{NodeId}
use Rattle.r4_locks.specs.Locks.{conflict_of}
use Rattle.r4_serve.specs.Serving.{IsSealedOwnerOf, NoneSealed, need_in}
use Rattle.r4_serve.proofs.Becoming.{none_there, some_there}
use Rattle.r4_serve.proofs.Owners.{is_clear, none_in_need, owner_of_read, owner_of_written}
use Rattle.r4_serve.proofs.asking.weigh.Goals.{else-is_some-via-else-is_some}
use Rattle.r4_serve.proofs.asking.weigh.Goals.{else-is_some-via-then-is_some+else-height-ge-MOST_LEVELS}
use Rattle.r4_serve.proofs.asking.weigh.Goals as goal

pub returns-in-Some : goal.returns-in-Some
returns-in-Some c =
    let atoms = c.args.parts.now.atoms.now in
    owner_of_read atoms (need_in c.args.reach) c.in-Some.atom.0
    (subst (λ (l : List NodeId). IsSealedOwnerOf atoms (numbers l) c.in-Some.atom.0)
    (c.reads.ensures ∙ ap (λ n. n.reads) c.in_ok-need.ensures) c.in-Some.ensures)

pub returns-in-Some-sealed_owner : goal.returns-in-Some-sealed_owner
returns-in-Some-sealed_owner c =
    let atoms = c.args.parts.now.atoms.now in
    owner_of_written atoms (need_in c.args.reach) c.in-Some-sealed_owner.atom.0
    (subst (λ (l : List NodeId). IsSealedOwnerOf atoms (numbers l) c.in-Some-sealed_owner.atom.0)
    (c.writes.ensures ∙ ap (λ n. n.writes) c.in_ok-need.ensures) c.in-Some-sealed_owner.ensures)

pub returns-in-Some-conflict : goal.returns-in-Some-conflict
returns-in-Some-conflict c =
    let atoms = c.args.parts.now.atoms.now in
    let reads = c.reads.ensures ∙ ap (λ n. n.reads) c.in_ok-need.ensures in
    let writes = c.writes.ensures ∙ ap (λ n. n.writes) c.in_ok-need.ensures in
    let again = c.reads-2.ensures ∙ ap (λ n. n.reads) c.in_ok-need.ensures in
    let also = c.writes-2.ensures ∙ ap (λ n. n.writes) c.in_ok-need.ensures in (
      none_in_need atoms (need_in c.args.reach)
          (subst (λ (l : List NodeId). NoneSealed atoms (numbers l)) reads c.in_default.ensures)
          (subst (λ (l : List NodeId). NoneSealed atoms (numbers l)) writes c.in_default-sealed_owner.ensures),
      (λ i. conflict_of c.args.parts.now.locks.now None (sym again i) (sym also i))
          ∙ (sym c.conflict.ensures ∙ c.in-Some-conflict.is),
    )

pub returns-then-height-ge-MOST_LEVELS : goal.returns-then-height-ge-MOST_LEVELS
returns-then-height-ge-MOST_LEVELS c =
    let atoms = c.args.parts.now.atoms.now in
    let reads = c.reads.ensures ∙ ap (λ n. n.reads) c.in_ok-need.ensures in
    let writes = c.writes.ensures ∙ ap (λ n. n.writes) c.in_ok-need.ensures in
    let again = c.reads-2.ensures ∙ ap (λ n. n.reads) c.in_ok-need.ensures in
    let also = c.writes-2.ensures ∙ ap (λ n. n.writes) c.in_ok-need.ensures in
    let none = none_in_need atoms (need_in c.args.reach)
    (subst (λ (l : List NodeId). NoneSealed atoms (numbers l)) reads c.in_default.ensures)
    (subst (λ (l : List NodeId). NoneSealed atoms (numbers l)) writes c.in_default-sealed_owner.ensures) in
    let free = (λ i. conflict_of c.args.parts.now.locks.now None (sym again i) (sym also i))
    ∙ (sym c.conflict.ensures ∙ c.in_default-conflict.is) in (
      is_clear atoms (need_in c.args.reach) c.args.parts.now.locks.now none free,
      (some_there c.args.reach.root (sym c.if-is_some.true ∙ c.is_some.ensures), c.if-height-ge-MOST_LEVELS.true),
      refl,
    )

pub returns : goal.returns
returns c =
    let atoms = c.args.parts.now.atoms.now in
    let reads = c.reads.ensures ∙ ap (λ n. n.reads) c.in_ok-need.ensures in
    let writes = c.writes.ensures ∙ ap (λ n. n.writes) c.in_ok-need.ensures in
    let again = c.reads-2.ensures ∙ ap (λ n. n.reads) c.in_ok-need.ensures in
    let also = c.writes-2.ensures ∙ ap (λ n. n.writes) c.in_ok-need.ensures in
    let none = none_in_need atoms (need_in c.args.reach)
    (subst (λ (l : List NodeId). NoneSealed atoms (numbers l)) reads c.in_default.ensures)
    (subst (λ (l : List NodeId). NoneSealed atoms (numbers l)) writes c.in_default-sealed_owner.ensures) in
    let free = (λ i. conflict_of c.args.parts.now.locks.now None (sym again i) (sym also i))
    ∙ (sym c.conflict.ensures ∙ c.in_default-conflict.is) in (
      is_clear atoms (need_in c.args.reach) c.args.parts.now.locks.now none free,
      elim c.else-is_some.branch [
        | else-is_some-via-then-is_some+else-height-ge-MOST_LEVELS w ↦
            λ tall. let low = w.if-height-ge-MOST_LEVELS.false in let high = tall.1 in omega (arith, low, high)
        | else-is_some-via-else-is_some w ↦ λ tall.
            none_there c.args.reach.root (sym w.if-is_some.false ∙ c.is_some.ensures) tall.0
      ],
      refl,
      c.in_ok-need.ensures,
    )
