use Rattle.std.proofs.Common.{◌≡◌, suc, List, [], ◌∷◌, ◌++◌, take, drop, get_or, map, ap, sym, subst, ◌∙◌, arith, drop-cons, refl}
use Rattle.std.proofs.lemmas.List.{take-append-drop, take_more}
use Rattle.std.specs.Arc.{arc_value}
use Rattle.r4_build.specs.r4_branch.declared.piece.TwigPart.TheVariants.{Pointer}
use Rattle.r4_build.specs.r4_branch.declared.piece.TwigPiece.{TwigPiece}
use Rattle.r4_extent_build.specs.r4_cell.declared.change.Fresh.{Fresh}
use Rattle.r4_content.specs.Held.{edits_of}
use Rattle.r4_extent_build.specs.Numbering.{IsNumbered, coming_count}
use Rattle.std.specs.Prelude.{◌&&◌, Bool, false, true}
use Rattle.r4_extent_build.specs.Numbering.{is_coming, is_told_block}
use Rattle.r4_extent_turn.specs.Turning.{set_over}
use Rattle.r4_extent_build.proofs.Numbers.{at_start, count_room, one_coming, one_kept}
use Rattle.r4_extent_turn.proofs.blocks.number_each.Goals as goal
use Rattle.r4_extent_turn.proofs.blocks.number_each.Goals.{then-is_told_block+in_ok-add_block, else-is_told_block+in_ok-push}

-- what stands for no piece
abbrev nothing : TwigPiece
nothing = record { key = record { el = [] }; part = Pointer (record { 0 = 0 }) }

-- a block that is told comes, since the extent is all new
comes : (p : TwigPiece) (t : Bool) → is_told_block p.part ≡ t → is_coming [] p ≡ t
comes p t e = ap (λ (b : Bool). b && true) e ∙ same t
  where
    same : (b : Bool) → (b && true) ≡ b
    same true = refl
    same false = refl

pub loop-piece-init : goal.loop-piece-init
loop-piece-init c = at_start [] (set_over (edits_of c.args.tails.now) (edits_of c.args.edits.now)) c.args.fresh.now _ _ c.new.ensures.items (ap (map (λ x. arc_value x)) c.new-2.ensures.items)

pub add_block-requires-clause-number : goal.add_block-requires-clause-number
add_block-requires-clause-number c =
    let ps = c.args.pieces.now in
    let i = c.loop-piece.piece-index in
    let p = get_or ps i nothing in
    let parts : ps ≡ take i ps ++ (p ∷ drop (suc i) ps) = sym (take-append-drop i ps) ∙ ap (λ (ys : List TwigPiece). take i ps ++ ys) (drop-cons ps i nothing c.loop-piece-test.true) in
    let room = count_room [] (take i ps) (drop (suc i) ps) p (comes p true (sym c.is_told_block.ensures ∙ c.if-is_told_block.true)) in
    let all = ap (coming_count []) parts in
    let numbers = c.requires.numbers in
    let next = ap (λ (f : Fresh). f.next) c.loop-piece.invariant.left in
    let end = ap (λ (f : Fresh). f.end) c.loop-piece.invariant.left in
    omega (arith, room, all, numbers, next, end)

pub loop-piece-preserved : goal.loop-piece-preserved
loop-piece-preserved c =
    let e = set_over (edits_of c.args.tails.now) (edits_of c.args.edits.now) in
    let old : List TwigPiece = [] in
    let ps = c.args.pieces.now in
    let i = c.loop-piece.piece-index in
    let p = get_or ps i nothing in
    elim c.if-is_told_block.branch [
      | then-is_told_block+in_ok-add_block w ↦
          subst (λ xs. IsNumbered old xs e c.args.fresh.now c.if-is_told_block.fresh c.if-is_told_block.made.pieces.items (map (λ x. arc_value x) c.if-is_told_block.made.blocks.items))
          (sym (take_more ps i nothing c.loop-piece-test.true))
          (one_coming old e c.args.fresh.now c.loop-piece.fresh c.if-is_told_block.fresh (take i ps) p _ _ _ _ c.loop-piece.invariant (comes p true (sym c.is_told_block.ensures ∙ w.if-is_told_block.true))
          (ap (λ m. m.pieces.items) w.made-is ∙ w.in_ok-add_block.ensures.pieces)
          (ap (λ m. map (λ x. arc_value x) m.blocks.items) w.made-is ∙ w.in_ok-add_block.ensures.block)
          (w.fresh-is ∙ w.in_ok-add_block.ensures.left))
      | else-is_told_block+in_ok-push w ↦
          subst (λ xs. IsNumbered old xs e c.args.fresh.now c.if-is_told_block.fresh c.if-is_told_block.made.pieces.items (map (λ x. arc_value x) c.if-is_told_block.made.blocks.items))
          (sym (take_more ps i nothing c.loop-piece-test.true))
          (subst (λ f. IsNumbered old (take i ps ++ p ∷ []) e c.args.fresh.now f c.if-is_told_block.made.pieces.items (map (λ x. arc_value x) c.if-is_told_block.made.blocks.items)) (sym w.fresh-is)
          (subst (λ m. IsNumbered old (take i ps ++ p ∷ []) e c.args.fresh.now c.loop-piece.fresh m.pieces.items (map (λ x. arc_value x) m.blocks.items)) (sym w.made-is)
          (one_kept old e c.args.fresh.now c.loop-piece.fresh c.loop-piece.fresh (take i ps) p _ _ _ [] c.loop-piece.invariant (comes p false (sym c.is_told_block.ensures ∙ w.if-is_told_block.false)) w.in_ok-push.ensures.items)))
    ]
