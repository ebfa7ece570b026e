use Rattle.std.proofs.Common.{ap, Global, map, Vec}
use Rattle.std.proofs.lemmas.Result.{on_ok_weaker}
use Rattle.r4_branch.specs.declared.piece.TwigPiece.{TwigPiece}
use Rattle.r4_row_edit.proofs.Parted.{fill_more}
use Rattle.r4_row_edit.proofs.parting.+fill_parts.Goals as goal

pub returns-in_ok-append-in-Some : goal.returns-in_ok-append-in-Some
returns-in_ok-append-in-Some t c =
    let items = λ (v : Vec TwigPiece Global). v.items in
    on_ok_weaker c.fill_parts.result (λ (more, ends, others).
    fill_more c.args.mkfs_id c.in-Some.part.now.items c.as_slice.result.now (map items c.in-Some.rest.now)
    (map items c.args.parts.now) c.index.result.now c.args.filled.now.items c.in_ok-one-in-Some.one.items
    c.append.new.self.items c.fill_parts.new.filled.items more c.in_ok-twigs-in-Some.twigs.items
    (ap (map items) c.in-Some.ensures.cases.0) c.index.ensures c.as_slice.ensures.value
    c.in_ok-twigs-in-Some.ensures.packs c.in_ok-twigs-in-Some.ensures.few c.in_ok-twigs-in-Some.ensures.id
    c.in_ok-one-in-Some.ensures c.in_ok-append-in-Some.ensures.items ends others) c.fill_parts.ensures
