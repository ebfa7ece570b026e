use Rattle.std.proofs.Common.{ℕ, Bool, true, false, ◌++◌, refl, ◌≡◌, ◌+◌, length, sym, ap, subst, ◌∙◌, arith}
use Rattle.std.specs.Prelude.{◌==◌, if◌then◌else◌}
use Rattle.std.specs.Arc.{arc_value}
use Rattle.std.specs.Option.{option_map}
use Rattle.r4_base.specs.Key.{rank}
use Rattle.r4_base.specs.declared.key.Key.{Key}
use Rattle.r4_path.specs.r4_graft.Splices.{place, spliced}
use Rattle.r4_edit.specs.Extents.{pointer_to}
use Rattle.r4_path.specs.TwigPieces.{ArePiecesOf}
use Rattle.r4_edit.proofs.OverPieces.{place_before_end}
use Rattle.r4_edit.proofs.over.pieces_over.Goals as goal
use Rattle.r4_edit.proofs.over.pieces_over.Goals.{else-is_same, then-is_same}

pub overflow_add-from : goal.overflow_add-from
overflow_add-from c =
    let less = place_before_end c.args.twig.now c.args.leaf.now c.in_ok-pieces.pieces.items c.in_ok-pieces.ensures c.requires.named c.requires.leaf in
    let at = c.place_of-at.ensures ∙ (λ i. place (rank (c.lo.ensures i)) (c.as_slice.ensures.value i)) in
    let long = ap length c.as_slice.ensures.value in
    let small = c.as_slice.type_inv in
    omega (arith, less, at, long, small)

pub overflow_add-at : goal.overflow_add-at
overflow_add-at c =
    let less = place_before_end c.args.twig.now c.args.leaf.now c.in_ok-pieces.pieces.items c.in_ok-pieces.ensures c.requires.named c.requires.leaf in
    let at = c.place_of-at.ensures ∙ (λ i. place (rank (c.lo.ensures i)) (c.as_slice.ensures.value i)) in
    let long = ap length c.as_slice.ensures.value in
    let small = c.as_slice.type_inv in
    omega (arith, less, at, long, small)

pub splice-requires-clause-from : goal.splice-requires-clause-from
splice-requires-clause-from c =
    let less = place_before_end c.args.twig.now c.args.leaf.now c.in_ok-pieces.pieces.items c.in_ok-pieces.ensures c.requires.named c.requires.leaf in
    let at = c.place_of-at.ensures ∙ (λ i. place (rank (c.lo.ensures i)) (c.as_slice.ensures.value i)) in
    let long = ap length c.as_slice-2.ensures.value in
    elim c.if-is_same.branch [
      | then-is_same w ↦ let is = w.from-is in omega (arith, less, at, long, is)
      | else-is_same w ↦ let is = w.from-is in omega (arith, less, at, long, is)
    ]

pub splice-requires-clause-to : goal.splice-requires-clause-to
splice-requires-clause-to c =
    let less = place_before_end c.args.twig.now c.args.leaf.now c.in_ok-pieces.pieces.items c.in_ok-pieces.ensures c.requires.named c.requires.leaf in
    let at = c.place_of-at.ensures ∙ (λ i. place (rank (c.lo.ensures i)) (c.as_slice.ensures.value i)) in
    let long = ap length c.as_slice-2.ensures.value in
    omega (arith, less, at, long)

pub returns-clause-are : goal.returns-clause-are
returns-clause-are c = subst (ArePiecesOf c.args.twig.now) c.in_ok-pieces.ensures.is c.in_ok-pieces.ensures

true_not_false : true ≡ false → ⊥
true_not_false e = absurd cc

from_at : (from at : ℕ) (b : Bool) → (b ≡ true → from ≡ at) → (b ≡ false → from ≡ at + 1) → from ≡ at + (if b then 0 else 1)
from_at from at true yes_is no_is = let e = yes_is refl in omega (arith, e)
from_at from at false yes_is no_is = let e = no_is refl in omega (arith, e)

pub returns-clause-over : goal.returns-clause-over
returns-clause-over c =
    let at = c.place_of-at.ensures ∙ (λ i. place (rank (c.lo.ensures i)) ((c.as_slice.ensures.value ∙ c.in_ok-pieces.ensures.is) i)) in
    let same = c.is_same.ensures.ranks ∙ ap (λ (k : Key). rank c.args.key.now == rank k) c.lo-2.ensures in
    let from : c.if-is_same.from ≡ c.place_of-at.result + (if rank c.args.key.now == rank c.args.leaf.now.lo then 0 else 1) = elim c.if-is_same.branch [
      | then-is_same w ↦ from_at c.if-is_same.from c.place_of-at.result (rank c.args.key.now == rank c.args.leaf.now.lo) (λ e. w.from-is) (λ e. absurd (true_not_false (sym w.if-is_same.true ∙ (same ∙ e))))
      | else-is_same w ↦ from_at c.if-is_same.from c.place_of-at.result (rank c.args.key.now == rank c.args.leaf.now.lo) (λ e. absurd (true_not_false (sym (same ∙ e) ∙ w.if-is_same.false))) (λ e. w.from-is)
    ] in
    let middle = c.as_slice-3.ensures.value ∙ (c.in_ok-add_pointer.ensures ∙ ap (λ ps. ps ++ pointer_to (option_map (λ x. arc_value x) c.args.parts.now.right)) c.in_ok-middle.ensures) in
    c.in_ok-all.ensures ∙ (λ i. spliced ((from ∙ ap (λ (n : ℕ). n + (if rank c.args.key.now == rank c.args.leaf.now.lo then 0 else 1)) at) i) (at i + 1) (middle i) ((c.as_slice-2.ensures.value ∙ c.in_ok-pieces.ensures.is) i))
