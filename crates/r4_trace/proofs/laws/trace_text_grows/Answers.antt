use Rattle.std.proofs.Common.{◌∷◌, ◌++◌, [], flat_map, reverse, ◌∙◌, ap}
use Rattle.std.proofs.lemmas.Grind.{flat_map-append}
use Rattle.std.proofs.lemmas.List.{append-nil, reverse-append}
use Rattle.r4_trace.specs.Text.{entry_text}
use Rattle.r4_trace.proofs.laws.trace_text_grows.Goals as goal

pub returns : goal.returns
returns c e older =
    ap (flat_map entry_text) (reverse-append (e ∷ []) older)
    ∙ flat_map-append entry_text (reverse older) (e ∷ [])
    ∙ ap (λ l. flat_map entry_text (reverse older) ++ l) (append-nil (entry_text e))
