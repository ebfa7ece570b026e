use Rattle.std.proofs.Common.{◌≡◌, List, ℕ, IsPermutation, subst, sym}
use Rattle.r4_patch.specs.Joining.{ids_of}
use Rattle.r4_patch.proofs.Shared.{shared_unsorted, apart_unsorted}
use Rattle.r4_patch.proofs.joining.join.Goals as goal

seen : (ids rising slice : List ℕ) → IsPermutation ids rising → slice ≡ rising → IsPermutation ids slice
seen ids rising slice p e = subst (IsPermutation ids) (sym e) p

pub returns-in-Some-clause-meet : goal.returns-in-Some-clause-meet
returns-in-Some-clause-meet c =
    let one = seen (ids_of c.args.one.now.old) c.in_ok-ids.ids.items c.as_slice.result.now c.in_ok-ids.ensures.moved c.as_slice.ensures.value in
    let two = seen (ids_of c.args.two.now.old) c.in_ok-others.others.items c.as_slice-2.result.now c.in_ok-others.ensures.moved c.as_slice-2.ensures.value in
    shared_unsorted (ids_of c.args.one.now.old) (ids_of c.args.two.now.old) c.as_slice.result.now c.as_slice-2.result.now one two c.in-Some.id c.in-Some.ensures.some

pub returns-clause-apart : goal.returns-clause-apart
returns-clause-apart c =
    let one = seen (ids_of c.args.one.now.old) c.in_ok-ids.ids.items c.as_slice.result.now c.in_ok-ids.ensures.moved c.as_slice.ensures.value in
    let two = seen (ids_of c.args.two.now.old) c.in_ok-others.others.items c.as_slice-2.result.now c.in_ok-others.ensures.moved c.as_slice-2.ensures.value in
    apart_unsorted (ids_of c.args.one.now.old) (ids_of c.args.two.now.old) c.as_slice.result.now c.as_slice-2.result.now one two c.in_default.ensures.none
