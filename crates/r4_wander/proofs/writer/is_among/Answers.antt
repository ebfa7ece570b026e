use Rattle.std.proofs.Common.{rules}
use Rattle.std.proofs.lemmas.List.Sorted.{answers_always}
use Rattle.r4_wander.proofs.Found.{found}
use Rattle.r4_wander.proofs.writer.is_among.Goals as goal

-- the closure gives a write's block
pub returns : goal.returns
returns c =
    let facts = c.binary_search_by_key.ensures in
    let by_key = facts.position (λ write. write.0) (answers_always _ _ _ (λ f a r g called. search rules)) in
    rw c.is_ok.ensures.value (found c.args.writes.now c.requires c.args.block.0 _ facts.bound by_key)
