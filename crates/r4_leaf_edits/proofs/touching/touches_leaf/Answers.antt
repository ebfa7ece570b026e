use Rattle.std.proofs.Common.{◌++◌, ◌∙◌, sym}
use Rattle.r4_base.specs.Key.{rank}
use Rattle.r4_content.specs.Edited.{changed, put_keys}
use Rattle.r4_content.specs.Held.{edits_of}
use Rattle.r4_reach.specs.Needs.{is_met}
use Rattle.r4_leaf_edits.proofs.Touched.{met_both, or_false, or_true}
use Rattle.r4_leaf_edits.proofs.touching.touches_leaf.Goals as goal

pub returns-then-sets_in : goal.returns-then-sets_in
returns-then-sets_in c =
    let lo = rank c.args.lo.now in
    let hi = rank c.args.hi.now in
    let e = edits_of c.args.edits.now in
    c.sets_in.ensures ∙ or_true (is_met (put_keys e.puts) lo hi) (is_met (e.zeros ++ e.cuts) lo hi) (is_met (changed e) lo hi) (met_both (put_keys e.puts) (e.zeros ++ e.cuts) lo hi) (sym c.sets_in.ensures ∙ c.if-sets_in.true)

pub returns-else-sets_in : goal.returns-else-sets_in
returns-else-sets_in c =
    let lo = rank c.args.lo.now in
    let hi = rank c.args.hi.now in
    let e = edits_of c.args.edits.now in
    c.takes_in.ensures ∙ or_false (is_met (put_keys e.puts) lo hi) (is_met (e.zeros ++ e.cuts) lo hi) (is_met (changed e) lo hi) (met_both (put_keys e.puts) (e.zeros ++ e.cuts) lo hi) (sym c.sets_in.ensures ∙ c.if-sets_in.false)
