use Rattle.std.proofs.Common.{◌+◌, ap, arith, sym, ◌∙◌}
use Rattle.std.specs.Option.{option_copied}
use Rattle.r4_base.specs.Key.{rank}
use Rattle.r4_content.specs.Held.{edits_of}
use Rattle.r4_extent_demands.specs.Putting.{put_into}
use Rattle.r4_extent_demands.proofs.Puts.{leaves_none, leaves_some}
use Rattle.r4_extent_demands.proofs.putting.leaves_for.Goals as goal

pub returns-then-bytes-eq0-clause-count : goal.returns-then-bytes-eq0-clause-count
returns-then-bytes-eq0-clause-count c =
    let us = put_into (option_copied c.args.body) (edits_of c.args.edits.now) (rank c.args.range.now.from)
    (rank c.args.range.now.to) in
    sym (leaves_none us (sym c.in_ok-bytes.ensures.bytes ∙ c.if-bytes-eq0.true))

pub returns-clause-count : goal.returns-clause-count
returns-clause-count c =
    let us = put_into (option_copied c.args.body) (edits_of c.args.edits.now) (rank c.args.range.now.from)
    (rank c.args.range.now.to) in
    let some = c.if-bytes-eq0.false in
    ap (λ n. 1 + n) c.over.ensures ∙ leaves_some us c.in_ok-bytes.bytes c.in_ok-bytes.ensures.bytes (omega (arith, some))
