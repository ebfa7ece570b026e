use Rattle.std.proofs.Common.{◌≡◌, ◌-◌, vec_len}
use Rattle.r4_source.proofs.Pieces.{HasRead}
use Rattle.r4_source.specs.Reading.{most}
use Rattle.r4_source.proofs.reading.read_text.Given as goal

abbrev pub invariant-pieces : goal.invariant-pieces
invariant-pieces g l = record {
  piece : vec_len l.piece ≡ 65536;
  read : HasRead (g.S.Source.state l.fn.source) l.text.items (g.S.Source.state l.source);
}

abbrev pub decreases-pieces : goal.decreases-pieces
decreases-pieces g l = most - vec_len l.text
