use Rattle.std.proofs.Common.{◌*◌, ap, sym, ◌∙◌, arith, rules}
use Rattle.std.proofs.lemmas.Option.{same_Some}
use Rattle.r4_base.specs.Key.{IsKey, rank}
use Rattle.r4_branch.proofs.UnitPieces.{rank_later}
use Rattle.r4_extent_edit_tests.proofs.blocks.blocks_behind.Goals as goal

pub returns : goal.returns
returns c k e =
    let low = c.if-key-bytes.false in
    let of = c.from-bytes.ensures in
    let whole : IsKey c.args.key.now = search rules in
    let later = ap rank (sym (same_Some _ k e)) ∙ rank_later c.args.key.now (4096 * c.from-bytes.result) in
    (whole, omega (arith, low, of), omega (arith, later, of))
