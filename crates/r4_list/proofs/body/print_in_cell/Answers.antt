use Rattle.std.proofs.Common.{rules, ◌≡◌, ◌-◌, ℕ, List, arith, sym, subst}
use Rattle.std.specs.Prelude.{Some, slice_get}
use Rattle.r4_base.specs.Key.{rank}
use Rattle.r4_base.proofs.Keys.{is_key}
use Rattle.r4_units.specs.Leaf.{AreUpTo}
use Rattle.r4_list.proofs.BodyParts.{part_handed}
use Rattle.r4_base.specs.Node.{Item, KeysRise, items_of}
use Rattle.r4_units.proofs.Leaves.{keys_rise}
use Rattle.r4_list.proofs.BodyFound.{found}
use Rattle.r4_list.proofs.body.print_in_cell.Goals as goal

pub items_up_to-count-requires : goal.items_up_to-count-requires
items_up_to-count-requires g c = subst KeysRise (sym c.node.ensures.items) (keys_rise c.args.cell.now c.node.ensures.whole c.requires.level c.node.ensures.stands)

pub returns-then-count-eq0-clause-over : goal.returns-then-count-eq0-clause-over
returns-then-count-eq0-clause-over g c = λ n image m content o over stored from ends is file.
    let up : AreUpTo (items_of c.args.cell.now.block) (rank c.args.key) c.items_up_to-count.result = subst (λ (items : List Item). AreUpTo items (rank c.args.key) c.items_up_to-count.result) c.node.ensures.items c.items_up_to-count.ensures in
    let key = is_key c.args.key (search rules) (search rules) (search rules) (search rules) (search rules) in
    let h = found c.args.cell.now c.node.ensures.whole c.requires.level c.node.ensures.stands c.args.key key c.items_up_to-count.result up content stored from c.requires.inside o c.args.end ends is file c.requires.below in
    let last = h.last in
    absurd (omega (arith, last))

pub returns-in_err-printed-clause-over : goal.returns-in_err-printed-clause-over
returns-in_err-printed-clause-over g c = λ n image m content o over stored from ends is file.
    part_handed content c.args.root.now o _ _ _ _ _ c.in_err-printed.field-0.0 c.from_residual.result (c.in_err-printed.ensures.over n image m content o over stored is file) c.from_residual.ensures.1

pub returns-then-printed-eq0-clause-over : goal.returns-then-printed-eq0-clause-over
returns-then-printed-eq0-clause-over g c = λ n image m content o over stored from ends is file.
    let up : AreUpTo (items_of c.args.cell.now.block) (rank c.args.key) c.items_up_to-count.result = subst (λ (items : List Item). AreUpTo items (rank c.args.key) c.items_up_to-count.result) c.node.ensures.items c.items_up_to-count.ensures in
    let key = is_key c.args.key (search rules) (search rules) (search rules) (search rules) (search rules) in
    let h = found c.args.cell.now c.node.ensures.whole c.requires.level c.node.ensures.stands c.args.key key c.items_up_to-count.result up content stored from c.requires.inside o c.args.end ends is file c.requires.below in
    let last = h.last in
    let place : h.place ≡ c.items_up_to-count.result - 1 = omega (arith, last) in
    let at : slice_get (items_of c.args.cell.now.block) (c.items_up_to-count.result - 1) ≡ Some h.item = subst (λ (i : ℕ). slice_get (items_of c.args.cell.now.block) i ≡ Some h.item) place h.is in
    let some = c.in_ok-printed.ensures.some h.item at h.byte in
    absurd (omega (arith, some))

pub returns-clause-over : goal.returns-clause-over
returns-clause-over g c = λ n image m content o over stored from ends is file. c.in_ok-printed.ensures.over n image m content o over stored is file
