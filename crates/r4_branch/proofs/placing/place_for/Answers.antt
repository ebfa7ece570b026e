use Rattle.std.proofs.Common.{◌≡◌, ℕ, ◌-◌, List, length, false, refl, sym, ap, subst, ◌∙◌, arith}
use Rattle.std.specs.Prelude.{slice_get, Some}
use Rattle.std.proofs.lemmas.Option.{same_Some, slice_get_within}
use Rattle.r4_base.specs.Node.{Item, count_of, items_of}
use Rattle.r4_node40.specs.Loan.{bytes_of}
use Rattle.r4_node40.specs.View.{item_shown}
use Rattle.r4_node40.proofs.Laid.{length-items_of}
use Rattle.r4_branch.specs.Filling.{continues_item}
use Rattle.r4_branch.proofs.Lying.{lie_sound}
use Rattle.r4_branch.proofs.Bodied.{bodied}
use Rattle.r4_branch.proofs.placing.place_for.Goals as goal

pub returns-then-count-eq0 : goal.returns-then-count-eq0
returns-then-count-eq0 c =
    let n = length-items_of (bytes_of c.args.node.now) in
    let count = c.len-count.ensures ∙ ap (λ b. length (items_of b)) c.view-twig.ensures in
    let none = c.if-count-eq0.true in
    record {
      new = λ used. (omega (arith, n, count, none), λ it at. let w = slice_get_within (items_of (bytes_of c.args.node.now)) _ it at in absurd (omega (arith, w, n, count, none)));
      old = λ some. absurd (omega (arith, some));
    }

module _ (b block : List ℕ) (n : ℕ) (x : Item) (same : block ≡ b) (count : n ≡ length (items_of block)) (shown : slice_get (items_of block) (n - 1) ≡ Some x) where
  pub counts : n ≡ count_of b
  counts = count ∙ (ap (λ xs. length (items_of xs)) same ∙ length-items_of b)

  pub at_last : slice_get (items_of b) (n - 1) ≡ Some x
  at_last = subst (λ xs. slice_get (items_of xs) (n - 1) ≡ Some x) same shown

  pub at_count : slice_get (items_of b) (count_of b - 1) ≡ Some x
  at_count = subst (λ k. slice_get (items_of b) (k - 1) ≡ Some x) counts at_last

pub continues-requires : goal.continues-requires
continues-requires c = lie_sound c.requires.lie.0 c.requires.lie.1 (items_of (bytes_of c.args.node.now)) _ (item_shown c.item-last.result) c.requires.lie.2
    (at_last (bytes_of c.args.node.now) _ c.len-count.result (item_shown c.item-last.result) c.view-twig.ensures c.len-count.ensures c.item-last.ensures.shown)

pub overflow_cast-result : goal.overflow_cast-result
overflow_cast-result c =
    let w = bodied (bytes_of c.args.node.now) c.requires.node.laid _ (item_shown c.item-last.result) (at_last (bytes_of c.args.node.now) _ c.len-count.result (item_shown c.item-last.result) c.view-twig.ensures c.len-count.ensures c.item-last.ensures.shown) in
    omega (arith, w)

pub returns-then-continues : goal.returns-then-continues
returns-then-continues c =
    let at = at_last (bytes_of c.args.node.now) _ c.len-count.result (item_shown c.item-last.result) c.view-twig.ensures c.len-count.ensures c.item-last.ensures.shown in
    let n = counts (bytes_of c.args.node.now) _ c.len-count.result (item_shown c.item-last.result) c.view-twig.ensures c.len-count.ensures c.item-last.ensures.shown in
    let w = bodied (bytes_of c.args.node.now) c.requires.node.laid _ (item_shown c.item-last.result) at in
    let some = c.if-count-eq0.false in
    record {
      new = λ used. absurd (omega (arith, w, used));
      old = λ more. (item_shown c.item-last.result, omega (arith, n, some), at, refl, sym c.if-continues.ensures);
    }

pub returns : goal.returns
returns c =
    let at = at_count (bytes_of c.args.node.now) _ c.len-count.result (item_shown c.item-last.result) c.view-twig.ensures c.len-count.ensures c.item-last.ensures.shown in
    let n = counts (bytes_of c.args.node.now) _ c.len-count.result (item_shown c.item-last.result) c.view-twig.ensures c.len-count.ensures c.item-last.ensures.shown in
    record {
      new = λ used. (n, λ it here. subst (λ (x : Item). continues_item x c.args.key.now c.args.plugin ≡ false) (same_Some (item_shown c.item-last.result) it (sym at ∙ here)) (sym c.if-continues.ensures));
      old = λ some. absurd (omega (arith, some));
    }
