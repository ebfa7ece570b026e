use Rattle.std.proofs.Common.{take}
use Rattle.r4_content.specs.Fields.{HasBytes}
use Rattle.r4_content.proofs.path.Path.lawful.Given as goal

abbrev pub invariant-loop-name : goal.invariant-loop-name
invariant-loop-name l = HasBytes (take l.name-index l.fn.self)
