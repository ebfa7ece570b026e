use Rattle.std.proofs.Common.{inl, inr, ◌≡◌, ◌≤◌, ◌<◌, ◌-◌, ℕ, length, List, sym, subst, arith, ◌∙◌}
use Rattle.std.specs.Prelude.{Some, Ok, Err, IfOk, Result, min, slice_get, slice_index, slice_range}
use Rattle.r4_cell.specs.Seen.{node_of}
use Rattle.r4_list.specs.Body.{HasByte}
use Rattle.r4_base.specs.declared.key.Key.{Key}
use Rattle.std.proofs.lemmas.Option.{same_Some}
use Rattle.r4_list.specs.declared.fault.Stop.{Stop}
use Rattle.r4_list.proofs.BodyParts.{bytes_stored, exact_len, holes_stored, part_none, part_written, range_len, stretch}
use Rattle.r4_base.specs.Cell.{block_names}
use Rattle.r4_base.specs.Extents.{units_of}
use Rattle.r4_base.specs.Key.{rank}
use Rattle.r4_base.specs.Node.{Item}
use Rattle.r4_node40.specs.View.{item_shown}
use Rattle.r4_cell.proofs.Faults.{body_short}
use Rattle.r4_units.proofs.Leaves.{body_of, extent_good}
use Rattle.r4_list.proofs.Stages.{went_same}
use Rattle.r4_list.proofs.BodyStages.{named_appending, named_by}
use Rattle.r4_units.proofs.ExtentUnits.{extent_among, offsets_up_to, one_body}
use Rattle.r4_list.proofs.body.print_item.Goals as goal

len_is : (r : Result ℕ Stop) (a b : ℕ) → b ≡ a → IfOk r (λ len. len ≡ a) → (len : ℕ) → r ≡ Ok len → len ≡ b
len_is (Ok x) a b e h len is = let same : x ≡ len = cc in sym same ∙ (h ∙ sym e)
len_is (Err y) a b e h len is = absurd cc

some_tail : (r : Result ℕ Stop) (it : Item) (key : Key) (end : ℕ) → it.plugin ≡ 6 → HasByte it key → slice_index it.key.el 3 ≤ slice_index key.el 3 → slice_index key.el 3 < end
    → IfOk r (λ len. len ≡ min (length it.body) (end - slice_index it.key.el 3) - (slice_index key.el 3 - slice_index it.key.el 3)) → IfOk r (λ len. 1 ≤ len)
some_tail (Err e) it key end six h le below len = tt
some_tail (Ok x) it key end six h le below len = elim h.has [
  | inl tail ↦ omega (arith, tail, le, below, len)
  | inr extent ↦ (let five = extent.0 in absurd (omega (arith, five, six)))
]

pub print_tail-requires-clause-from : goal.print_tail-requires-clause-from
print_tail-requires-clause-from g c =
    let is = subst (λ (items : List Item). slice_get items c.args.place ≡ Some (item_shown c.item-item.result)) c.node-node.ensures.items c.item-item.ensures.shown in
    offsets_up_to _ _ (one_body _ _ (sym c.is_of_one_body.ensures ∙ c.if-not-is_of_one_body.false)) (c.requires.from _ is)

pub print_extent-requires-clause-few : goal.print_extent-requires-clause-few
print_extent-requires-clause-few g c =
    let is = subst (λ (items : List Item). slice_get items c.args.place ≡ Some (item_shown c.item-item.result)) c.node-node.ensures.items c.item-item.ensures.shown in
    let short = body_short c.args.cell.now.block c.args.place _ is in
    let whole = c.node-node.ensures.whole in
    omega (arith, short, whole)

pub print_extent-requires-clause-good : goal.print_extent-requires-clause-good
print_extent-requires-clause-good g c =
    let is = subst (λ (items : List Item). slice_get items c.args.place ≡ Some (item_shown c.item-item.result)) c.node-node.ensures.items c.item-item.ensures.shown in
    extent_good (item_shown c.item-item.result) c.in-5.is (body_of c.args.cell.now c.args.place _ c.requires.level c.node-node.ensures.stands is)

pub print_extent-requires-clause-known : goal.print_extent-requires-clause-known
print_extent-requires-clause-known g c =
    let is = subst (λ (items : List Item). slice_get items c.args.place ≡ Some (item_shown c.item-item.result)) c.node-node.ensures.items c.item-item.ensures.shown in
    λ n h. c.requires.known n (extent_among c.args.cell.now c.args.place (item_shown c.item-item.result) c.requires.level is c.in-5.is n h)

pub print_extent-requires-clause-from : goal.print_extent-requires-clause-from
print_extent-requires-clause-from g c =
    let is = subst (λ (items : List Item). slice_get items c.args.place ≡ Some (item_shown c.item-item.result)) c.node-node.ensures.items c.item-item.ensures.shown in
    offsets_up_to _ _ (one_body _ _ (sym c.is_of_one_body.ensures ∙ c.if-not-is_of_one_body.false)) (c.requires.from _ is)

pub returns-in-6-clause-printed : goal.returns-in-6-clause-printed
returns-in-6-clause-printed g c = named_appending _ _ _ _ _ _ _ _ c.print_tail.ensures.appends c.print_tail.ensures.cause

pub returns-in-5-clause-printed : goal.returns-in-5-clause-printed
returns-in-5-clause-printed g c =
    let is = subst (λ (items : List Item). slice_get items c.args.place ≡ Some (item_shown c.item-item.result)) c.node-node.ensures.items c.item-item.ensures.shown in
    named_by _ _ _ _ _ _ _ _ (went_same _ _ _) (block_names (rank c.item-item.result.key) (units_of c.item-item.result.body.now)) _ _ _ _ (extent_among c.args.cell.now c.args.place (item_shown c.item-item.result) c.requires.level is c.in-5.is) c.print_extent.ensures.printed

pub returns-in-6-clause-over : goal.returns-in-6-clause-over
returns-in-6-clause-over g c = λ n image m content o over stored is file.
    let at = subst (λ (items : List Item). slice_get items c.args.place ≡ Some (item_shown c.item-item.result)) c.node-node.ensures.items c.item-item.ensures.shown in
    let one = one_body _ _ (sym c.is_of_one_body.ensures ∙ c.if-not-is_of_one_body.false) in
    let le = offsets_up_to _ _ one (c.requires.from _ at) in
    let below = c.requires.below in
    let body = c.item-item.result.body.now in
    let from : ℕ = slice_index c.args.key.el 3 - slice_index c.item-item.result.key.el 3 in
    let to : ℕ = min (length body) (c.args.end - slice_index c.item-item.result.key.el 3) in
    let spells = stretch content o c.item-item.result.key c.args.key body 0 from to c.args.end is one file (omega (arith, le)) (omega (arith, le)) (omega (arith, le, below))
    (bytes_stored content.store c.args.cell.now stored c.requires.level c.args.place (item_shown c.item-item.result) at c.in-6.is) in
    let len = range_len body from to in
    let exact = exact_len body from to (omega arith) in
    part_written content c.args.root.now o (slice_index c.args.key.el 3) _ _ (slice_range body from to) spells (omega (arith, len, le, below)) _ _ c.print_tail.result over c.print_tail.ensures.appends c.print_tail.ensures.cause
    (len_is c.print_tail.result (to - from) _ exact c.print_tail.ensures.len)

pub returns-in-5-clause-over : goal.returns-in-5-clause-over
returns-in-5-clause-over g c = λ n image m content o over stored is file.
    let at = subst (λ (items : List Item). slice_get items c.args.place ≡ Some (item_shown c.item-item.result)) c.node-node.ensures.items c.item-item.ensures.shown in
    c.print_extent.ensures.over n image m content o over
    (λ x h. content.tree.named c.args.cell.now.id (node_of c.args.cell.now) x stored (extent_among c.args.cell.now c.args.place (item_shown c.item-item.result) c.requires.level at c.in-5.is x h))
    (holes_stored content.store c.args.cell.now stored c.requires.level c.args.place (item_shown c.item-item.result) at c.in-5.is) is file

pub returns-then-not-is_of_one_body-clause-over : goal.returns-then-not-is_of_one_body-clause-over
returns-then-not-is_of_one_body-clause-over g c = λ n image m content o over stored is file. part_none content c.args.root.now o _ _ _ _ over

pub returns-in_default-clause-over : goal.returns-in_default-clause-over
returns-in_default-clause-over g c = λ n image m content o over stored is file. part_none content c.args.root.now o _ _ _ _ over

pub returns-in-6-clause-some : goal.returns-in-6-clause-some
returns-in-6-clause-some g c = λ it is h.
    let at = subst (λ (items : List Item). slice_get items c.args.place ≡ Some (item_shown c.item-item.result)) c.node-node.ensures.items c.item-item.ensures.shown in
    let same : it ≡ item_shown c.item-item.result = same_Some _ _ (sym is ∙ at) in
    let byte : HasByte (item_shown c.item-item.result) c.args.key = subst (λ (x : Item). HasByte x c.args.key) same h in
    some_tail c.print_tail.result (item_shown c.item-item.result) c.args.key c.args.end c.in-6.is byte (offsets_up_to _ _ (one_body _ _ (sym c.is_of_one_body.ensures ∙ c.if-not-is_of_one_body.false)) (c.requires.from _ at)) c.requires.below c.print_tail.ensures.len
