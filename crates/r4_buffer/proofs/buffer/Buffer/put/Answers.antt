use Rattle.std.proofs.Common.{map}
use Rattle.std.specs.Arc.{arc_value}
use Rattle.r4_search.specs.Keeping.{Shared}
use Rattle.r4_buffer.specs.Seen.{buffered}
use Rattle.r4_buffer.proofs.Replacing.{replaced_is}
use Rattle.r4_buffer.proofs.buffer.Buffer.put.Goals as goal

pub returns-clause-buffered : goal.returns-clause-buffered
returns-clause-buffered c = λ i.
    replaced_is (map (λ (x : Shared). arc_value x) c.args.old.now) (map (λ (x : Shared). arc_value x) c.args.new.items) i (buffered c.args.self.now i) _ _ _
    (c.lay_aside.ensures.buffered i) (c.place.ensures.buffered i) (c.take_clean.ensures.buffered i)
