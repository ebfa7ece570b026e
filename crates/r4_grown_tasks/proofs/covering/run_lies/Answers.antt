use Rattle.std.proofs.Common.{◌≡◌, ◌+◌, ◌≤◌, ℕ, arith, ap, false, length, map, rules, sym, ◌∙◌}
use Rattle.std.specs.Prelude.{◌==◌}
use Rattle.std.proofs.lemmas.Bool.{eqb-false}
use Rattle.r4_base.specs.Key.{rank}
use Rattle.r4_base.proofs.Keys.{is_key}
use Rattle.r4_content.specs.Held.{interval_of}
use Rattle.r4_lost_tasks.proofs.r4_extent_growth.r4_extent_change.r4_extent_build.r4_extent_demands.r4_leaf_edits.Spelled.{offset_is}
use Rattle.r4_lost_tasks.proofs.r4_extent_growth.r4_graft.Halves.{later_rank}
use Rattle.r4_grown_tasks.proofs.LyingBytes.{ends_before, run_each}
use Rattle.r4_grown_tasks.proofs.covering.run_lies.Goals as goal

some_of : (n : ℕ) → (n == 0) ≡ false → 1 ≤ n
some_of n e = let h = eqb-false n 0 e in omega (arith, h)

pub behind-requires : goal.behind-requires
behind-requires c =
    let is = is_key c.args.from (search rules) (search rules) (search rules) (search rules) (search rules) in
    let short = ends_before (rank c.args.from) c.args.bytes.now
    (some_of (length c.args.bytes.now) (sym c.is_empty.ensures ∙ c.if-is_empty.false)) c.requires in
    let offset = offset_is c.args.from is in
    omega (arith, short, offset)

pub returns : goal.returns
returns c =
    let end : rank c.behind.result ≡ rank c.args.from + length c.args.bytes.now = ap rank c.behind.ensures
    ∙ later_rank c.args.from (length c.args.bytes.now) in
    c.lies.ensures
    ∙ run_each (map interval_of c.args.places.now) (rank c.args.from) (rank c.behind.result) c.args.bytes.now end
