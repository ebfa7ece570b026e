use Rattle.std.proofs.Common.{◌≡◌, ◌^◌, [], ◌∷◌, ◌++◌, List, ap, arith, get_or, sym, take, true, false, ◌∙◌}
use Rattle.std.specs.Prelude.{None}
use Rattle.r4_base.specs.Key.{rank}
use Rattle.r4_base.specs.declared.key.Key.{Key}
use Rattle.r4_graft.specs.r4_branch.Pieces.{is_at, last_end}
use Rattle.r4_graft.specs.r4_branch.declared.piece.TwigPart.TheVariants.{Pointer}
use Rattle.r4_graft.specs.r4_branch.declared.piece.TwigPiece.{TwigPiece}
use Rattle.r4_bodies.proofs.r4_leaf_edits.KeyRanks.{key_again}
use Rattle.r4_extent_demands.specs.Pieces.{has_leaf_end}
use Rattle.r4_extent_demands.proofs.Cuts.{taken_at, taken_left, taken_new}
use Rattle.r4_extent_demands.proofs.Nothing.{nothing}
use Rattle.r4_extent_demands.proofs.cutting.taken_up.Goals as goal

pub returns-then-has_leaf_end-clause-items : goal.returns-then-has_leaf_end-clause-items
returns-then-has_leaf_end-clause-items c =
    let ps = c.args.pieces.now in
    let from = c.args.from in
    let less = c.if-from-to.false in
    let left : has_leaf_end (rank c.args.twig.now.hi) (rank (get_or ps from nothing).key) c.args.all.now ≡ true
    = sym (c.has_leaf_end.ensures
    ∙ ap (λ (h : Key). has_leaf_end (rank h) (rank (get_or ps from nothing).key) c.args.all.now) c.hi.ensures)
    ∙ c.if-has_leaf_end.true in
    c.new-middle.ensures.items ∙ sym (taken_left c.args.twig.now c.args.all.now c.requires.pieces from c.args.to ps nothing
    (omega (arith, less)) c.requires.within left)

pub returns-then-ends_at-clause-items : goal.returns-then-ends_at-clause-items
returns-then-ends_at-clause-items c =
    let ps = c.args.pieces.now in
    let from = c.args.from in
    let less = c.if-from-to.false in
    let left : has_leaf_end (rank c.args.twig.now.hi) (rank (get_or ps from nothing).key) c.args.all.now ≡ false
    = sym (c.has_leaf_end.ensures
    ∙ ap (λ (h : Key). has_leaf_end (rank h) (rank (get_or ps from nothing).key) c.args.all.now) c.hi.ensures)
    ∙ c.if-has_leaf_end.false in
    let at : is_at (last_end None (take from ps)) (rank (get_or ps from nothing).key) ≡ true
    = sym c.ends_at.ensures ∙ c.if-ends_at.true in
    c.new-middle.ensures.items ∙ sym (taken_at c.args.twig.now c.args.all.now c.requires.pieces from c.args.to ps nothing
    (omega (arith, less)) c.requires.within left at)

pub returns-clause-items : goal.returns-clause-items
returns-clause-items c =
    let ps = c.args.pieces.now in
    let from = c.args.from in
    let less = c.if-from-to.false in
    let within = c.requires.within in
    let key = (get_or ps from nothing).key in
    let left : has_leaf_end (rank c.args.twig.now.hi) (rank (get_or ps from nothing).key) c.args.all.now ≡ false
    = sym (c.has_leaf_end.ensures
    ∙ ap (λ (h : Key). has_leaf_end (rank h) (rank (get_or ps from nothing).key) c.args.all.now) c.hi.ensures)
    ∙ c.if-has_leaf_end.false in
    let at : is_at (last_end None (take from ps)) (rank (get_or ps from nothing).key) ≡ false
    = sym c.ends_at.ensures ∙ c.if-ends_at.false in
    let is = (c.requires.room from nothing (omega (arith, less, within))).key in
    c.in_ok-push.ensures.items
    ∙ ap (λ (qs : List TwigPiece). qs ++ (record { key = key; part = Pointer (record { 0 = 2 ^ 63 }) } ∷ []))
    c.new-middle.ensures.items
    ∙ sym (taken_new c.args.twig.now c.args.all.now c.requires.pieces from c.args.to ps nothing (omega (arith, less)) within
    left at ∙ ap (λ (k : Key). record { key = k; part = Pointer (record { 0 = 2 ^ 63 }) } ∷ []) (key_again key is))
