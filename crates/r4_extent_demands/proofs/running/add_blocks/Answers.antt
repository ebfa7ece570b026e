use Rattle.std.proofs.Common.{◌≡◌, ◌+◌, ◌-◌, ◌*◌, [], ◌∷◌, ◌++◌, List, rules, ap, arith, subst, sym, ◌∙◌}
use Rattle.r4_base.proofs.Keys.{is_key}
use Rattle.r4_base.specs.Key.{IsKey, offset_of, rank}
use Rattle.r4_graft.specs.r4_branch.declared.piece.TwigPiece.{TwigPiece}
use Rattle.r4_content.specs.Held.{edits_of}
use Rattle.r4_graft.proofs.Halves.{later_key, later_rank}
use Rattle.r4_bodies.proofs.r4_leaf_edits.KeyRanks.{key_again}
use Rattle.r4_bodies.specs.r4_leaf_edits.r4_reach.Needs.{gets_bytes, runs}
use Rattle.r4_extent_demands.specs.Pieces.{block_at}
use Rattle.r4_extent_demands.proofs.Firsts.{key_at}
use Rattle.r4_extent_demands.proofs.Runs.{last_stretch, next_stretch}
use Rattle.r4_extent_demands.proofs.running.add_blocks.Goals as goal

pub returns-then-hole-count : goal.returns-then-hole-count
returns-then-hole-count c =
    let gets = gets_bytes c.args.body.now (edits_of c.args.edits.now) in
    let from = c.args.from in
    let done = c.loop-done.done in
    let key = c.behind-key.result in
    let hole = c.blocks_before-hole.result in
    let fits = c.requires.fits in
    let lt = c.loop-done-test.true in
    let at : rank c.behind-key.result ≡ rank c.args.from + 4096 * c.loop-done.done
    = ap rank c.behind-key.ensures ∙ later_rank c.args.from (4096 * c.loop-done.done) in
    let is : IsKey c.behind-key.result = subst IsKey (sym c.behind-key.ensures)
    (later_key c.args.from (4096 * c.loop-done.done)
    (is_key c.args.from (search rules) (search rules) (search rules) (search rules) (search rules))
    (omega (arith, fits, lt))) in
    c.in_ok-add_hole.ensures
    ∙ last_stretch gets (rank from) c.args.count done hole (rank key) c.loop-done.pieces.items
    (c.args.pieces.now.items ++ runs gets (rank from) c.args.count) at c.loop-done.invariant.items
    c.blocks_before-hole.ensures.none key (key_again key is) c.if-hole-count.true

pub loop-done-preserved : goal.loop-done-preserved
loop-done-preserved c =
    let gets = gets_bytes c.args.body.now (edits_of c.args.edits.now) in
    let from = c.args.from in
    let done = c.loop-done.done in
    let key = c.behind-key.result in
    let hole = c.blocks_before-hole.result in
    let fits = c.requires.fits in
    let lt = c.loop-done-test.true in
    let most = c.blocks_before-hole.ensures.within in
    let other = c.if-hole-count.false in
    let at : rank c.behind-key.result ≡ rank c.args.from + 4096 * c.loop-done.done
    = ap rank c.behind-key.ensures ∙ later_rank c.args.from (4096 * c.loop-done.done) in
    let off : offset_of c.behind-key.result ≡ offset_of c.args.from + 4096 * c.loop-done.done
    = ap offset_of c.behind-key.ensures in
    let is : IsKey c.behind-key.result = subst IsKey (sym c.behind-key.ensures)
    (later_key c.args.from (4096 * c.loop-done.done)
    (is_key c.args.from (search rules) (search rules) (search rules) (search rules) (search rules))
    (omega (arith, fits, lt))) in
    let next = key_at key c.behind.result (4096 * hole) is (omega (arith, fits, lt, most, other, off)) c.behind.ensures in
    record {
      within = omega (arith, lt, most, other);
      items = ap (λ (ps : List TwigPiece). ps
          ++ runs gets (rank from + 4096 * (done + (hole + 1))) (c.args.count - (done + (hole + 1))))
          (c.in_ok-add_block.ensures
          ∙ ap (λ (ps : List TwigPiece). ps ++ (block_at c.behind.result ∷ [])) c.in_ok-add_hole.ensures)
          ∙ next_stretch gets (rank from) c.args.count done hole (rank key) c.loop-done.pieces.items
          (c.args.pieces.now.items ++ runs gets (rank from) c.args.count) at c.loop-done.invariant.items
          c.blocks_before-hole.ensures.none key c.behind.result (key_again key is) next (omega (arith, lt, most, other))
          (c.blocks_before-hole.ensures.next (omega (arith, lt, most, other)));
    }
