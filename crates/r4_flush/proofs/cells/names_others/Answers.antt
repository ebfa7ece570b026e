use Rattle.std.proofs.Common.{◌≡◌, inl, inr, refl, sym, ap, ◌∙◌, subst, arith}
use Rattle.std.specs.Prelude.{slice_get}
use Rattle.std.specs.Ordering.{nat_cmp}
use Rattle.std.specs.BTreeMap.{get}
use Rattle.std.proofs.lemmas.Bool.{cases_eq}
use Rattle.std.proofs.lemmas.Option.{same_Some, slice_get_within}
use Rattle.r4_base.specs.Node.{Item}
use Rattle.r4_cell.proofs.Faults.{body_short}
use Rattle.r4_node40.specs.View.{item_shown, view_block, view_items}
use Rattle.r4_flush.specs.Anew.{IsItemAnew, new_name}
use Rattle.r4_flush.proofs.Made.{made_self}
use Rattle.r4_flush.proofs.cells.names_others.Goals as goal

pub names_other-requires : goal.names_other-requires
names_other-requires c =
    let short = body_short (view_block c.args.node.now).now c.loop-i.i (item_shown c.item.result) c.item.ensures.shown in
    omega (arith, short, c.requires)

pub loop-i-preserved : goal.loop-i-preserved
loop-i-preserved c = λ k x lt at. elim (cases_eq k c.loop-i.i) [
  | inl is ↦
      let here = sym (ap (slice_get (view_items c.args.node.now)) is) ∙ at in
      let same : item_shown c.item.result ≡ x = same_Some (item_shown c.item.result) x
      (sym c.item.ensures.shown ∙ here) in
      subst (λ (y : Item). IsItemAnew (new_name (get nat_cmp c.args.names.now)) y y) same
      (c.if-names_other.ensures refl)
  | inr other ↦ c.loop-i.invariant k x (omega (arith, lt, other)) at
]

pub returns : goal.returns
returns c = λ no. made_self (IsItemAnew (new_name (get nat_cmp c.args.names.now))) (view_items c.args.node.now)
    (λ k x at.
    let lt = slice_get_within (view_items c.args.node.now) k x at in
    c.loop-i.invariant k x (omega (arith, lt)) at)
