-- Heads as they are kept.
use Rattle.std.specs.Prelude.{List, map}
use Rattle.std.specs.Global.{Vec}
use Rattle.r4_base.specs.Refusal.{Head as Found}
use Rattle.r4_replay.specs.declared.heads.Head.{Head}

abbrev pub head_shown : Head → Found
head_shown h = (h.at, h.says)

abbrev pub heads_shown : Vec Head → List Found
heads_shown heads = map head_shown heads.items
