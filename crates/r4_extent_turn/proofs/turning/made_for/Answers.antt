use Rattle.std.proofs.Common.{map, ◌≡◌, ℕ, ◌++◌, ap, sym, subst, ◌∙◌}
use Rattle.std.specs.Prelude.{Contains, true}
use Rattle.std.specs.Arc.{arc_value}
use Rattle.std.specs.Option.{option_map}
use Rattle.r4_base.specs.Key.{rank}
use Rattle.r4_extent_build.specs.r4_cell.Seen.{CellSeen}
use Rattle.r4_content.specs.Held.{edits_of}
use Rattle.r4_extent_build.specs.r4_edit.Extents.{pointer_to}
use Rattle.r4_extent_build.specs.r4_extent_blocks.Setting.{last_put}
use Rattle.r4_extent_build.specs.r4_extent_edit.Between.{pieces_over}
use Rattle.r4_extent_build.specs.r4_extent_edit.Turning.{AreEnds}
use Rattle.r4_build.specs.r4_leaf.Units.{is_between}
use Rattle.r4_build.specs.r4_reach.Touched.{first_byte}
use Rattle.r4_extent_turn.specs.Gathering.{units_within}
use Rattle.r4_extent_turn.specs.Turning.{left_pointer}
use Rattle.r4_extent_turn.specs.TurningIn.{turn_of}
use Rattle.r4_extent_turn.proofs.Bodies.{coming_is}
use Rattle.r4_extent_turn.proofs.GivenLeaves.{are_ends, in_twig, leaves_given, twig_given}
use Rattle.r4_extent_turn.proofs.Keeps.{leaf_level}
use Rattle.r4_extent_turn.proofs.MadeTurn.{can_number, made_for}
use Rattle.r4_extent_turn.proofs.turning.made_for.Goals as goal

pub told_extent-requires-clause-within : goal.told_extent-requires-clause-within
told_extent-requires-clause-within c =
    let b = c.args.body.now in
    let x = turn_of c.args.turning.now in
    let twig : c.deref.result.now ≡ x.twig = c.deref.ensures ∙ sym (twig_given (arc_value c.args.turning.now.twig) (map (λ d. arc_value d) c.args.turning.now.leaves.items)) in
    subst (λ (d : CellSeen). is_between (rank d.lo) (rank d.hi) (first_byte b) ≡ true) (sym twig) (in_twig b x c.requires.turn)

pub tails_in-requires : goal.tails_in-requires
tails_in-requires c =
    let b = c.args.body.now in
    let x = turn_of c.args.turning.now in
    let given = ap (map (λ d. arc_value d)) c.as_slice-leaves.ensures.value ∙ leaves_given b (arc_value c.args.turning.now.twig) (map (λ d. arc_value d) c.args.turning.now.leaves.items) c.requires.turn in
    λ d at. leaf_level b x c.requires.turn d (subst (λ cs. Contains cs d) given at)

pub number_each-requires : goal.number_each-requires
number_each-requires c =
    let (first, g) = c.requires.turning in
    can_number c.args.body.now first g (edits_of c.args.edits.now) c.as_slice.result.now c.args.fresh.now (c.as_slice.ensures.value ∙ c.in_ok-told.ensures) c.requires.numbers

pub ends_kept-requires-clause-ends : goal.ends_kept-requires-clause-ends
ends_kept-requires-clause-ends c =
    let b = c.args.body.now in
    let x = turn_of c.args.turning.now in
    let (first, g) = c.requires.turning in
    let given = ap (map (λ d. arc_value d)) c.as_slice-leaves.ensures.value ∙ leaves_given b (arc_value c.args.turning.now.twig) (map (λ d. arc_value d) c.args.turning.now.leaves.items) c.requires.turn in
    let from = c.coming.ensures.from ∙ ap (λ (r : ℕ × ℕ). r.0) (coming_is b first g) in
    let to = c.coming.ensures.to ∙ ap (λ (r : ℕ × ℕ). r.1) (coming_is b first g) in
    subst (λ cs. AreEnds cs (rank c.coming.result.from) (rank c.coming.result.to)) (sym given) (are_ends b x c.requires.turn (rank c.coming.result.from) (rank c.coming.result.to) from to)

pub returns : goal.returns
returns c =
    let b = c.args.body.now in
    let e = edits_of c.args.edits.now in
    let x = turn_of c.args.turning.now in
    let f = c.args.fresh.now in
    let (first, g) = c.requires.turning in
    let leaves = ap (map (λ d. arc_value d)) c.as_slice-leaves.ensures.value ∙ leaves_given b (arc_value c.args.turning.now.twig) (map (λ d. arc_value d) c.args.turning.now.leaves.items) c.requires.turn in
    let from = c.coming.ensures.from ∙ ap (λ (r : ℕ × ℕ). r.0) (coming_is b first g) in
    let to = c.coming.ensures.to ∙ ap (λ (r : ℕ × ℕ). r.1) (coming_is b first g) in
    let left = option_map arc_value c.in_ok-kept.kept.left in
    let right = option_map arc_value c.in_ok-kept.kept.right in
    made_for b e x f c.number_each.new.fresh c.ends_kept.new.fresh (edits_of c.in_ok-tails.tails) c.as_slice.result.now c.in_ok-extent.extent.pieces.items (map (λ d. arc_value d) c.in_ok-extent.extent.blocks.items)
    c.coming.result.from c.coming.result.to left right from to (c.as_slice.ensures.value ∙ c.in_ok-told.ensures)
    (λ k. c.in_ok-tails.ensures k ∙ ap (λ cs. last_put (units_within (rank c.coming.result.from) (rank c.coming.result.to) cs) k) leaves)
    c.in_ok-extent.ensures (c.in_ok-kept.ensures x leaves) c.in_ok-pieces.pieces.items _ _
    (c.in_ok-pieces.ensures ∙ ap (λ ps. pieces_over (rank x.leaf.lo) (rank c.coming.result.to) (left_pointer left ++ (ps ++ pointer_to right)) x.twig) c.as_slice-2.ensures.value)
    (λ i. record {
      below = record { old = (c.in_ok-all_of.ensures ∙ leaves) i; new = c.in_ok-new.ensures i };
      blocks = map (λ d. arc_value d) c.in_ok-extent.extent.blocks.items;
    })
    (c.in_ok-cells.ensures ∙ (ap (map (λ d. arc_value d)) c.as_slice-3.ensures.value ∙ c.in_ok-new.ensures))
