use Rattle.std.proofs.Common.{◌+◌, ◌-◌, ◌<◌, ℕ, List, length, map, take, drop, refl, sym, ap, ◌∙◌, arith}
use Rattle.std.proofs.lemmas.List.{length-map}
use Rattle.r4_base.specs.declared.things.BlockNo.{BlockNo}
use Rattle.r4_commit.proofs.HeldBlocks.{number, number_at}
use Rattle.r4_commit.proofs.FoundBlocks.{unused_few, split_blocks, head_other}
use Rattle.r4_commit.proofs.log_blocks.find_log.Goals as goal

pub overflow_add-count : goal.overflow_add-count
overflow_add-count c = omega (arith, c.div_ceil-records.ensures, c.requires.unused, unused_few c.args.space.now, c.lawful.ensures.most)

pub overflow_add-count-2 : goal.overflow_add-count-2
overflow_add-count-2 c = omega (arith, c.div_ceil-records.ensures, c.requires.unused, unused_few c.args.space.now, c.lawful.ensures.most)

pub returns-clause-parts : goal.returns-clause-parts
returns-clause-parts c = sym (split_blocks c.in_ok-all.all.items (take c.args.copies c.in_ok-all.all.items) c.in_ok-records.records.items c.args.copies c.div_ceil-records.result (c.args.copies + c.div_ceil-records.result + 1 - 1) c.index-head.result.now
    c.in_ok-all.ensures.count (omega arith) refl (c.in_ok-records.ensures.items ∙ ap (λ (l : List BlockNo). take (c.args.copies + c.div_ceil-records.result + 1 - 1 - c.args.copies) (drop c.args.copies l)) c.deref.ensures.value) c.index-head.ensures)

pub returns-clause-head : goal.returns-clause-head
returns-clause-head c = λ is.
    let last : ℕ = c.args.copies + c.div_ceil-records.result + 1 - 1 in
    let bs : List BlockNo = c.in_ok-all.all.items in
    let long = c.in_ok-all.ensures.count in
    let within : last < length bs = omega (arith, long) in
    head_other c.args.space.now (map number bs) last c.args.prev.0 c.in_ok-all.ensures.different c.in_ok-all.ensures.unused c.in_ok-all.ensures.first (omega (arith, c.requires.some)) (omega (arith, within, length-map bs number))
    (number_at bs last c.index-head.result.now within c.index-head.ensures ∙ ap number is)
