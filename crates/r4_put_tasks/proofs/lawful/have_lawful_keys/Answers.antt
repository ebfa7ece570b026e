use Rattle.std.proofs.Common.{◌∙◌, Bool, sym, ap}
use Rattle.std.specs.Prelude.{◌&&◌}
use Rattle.std.proofs.lemmas.Bool.{and_left}
use Rattle.r4_put_tasks.proofs.LawfulKeys.{found, takes_lawful, puts_lawful}
use Rattle.r4_put_tasks.proofs.lawful.have_lawful_keys.Goals as goal

pub returns-then-put_lawful_keys : goal.returns-then-put_lawful_keys
returns-then-put_lawful_keys c =
    let e = c.args.edits.now in
    found e c.take_lawful_keys.result
    (c.take_lawful_keys.ensures
    ∙ ap (λ (t : Bool). t && takes_lawful e) (sym c.if-put_lawful_keys.true ∙ c.put_lawful_keys.ensures))

pub returns-else-put_lawful_keys : goal.returns-else-put_lawful_keys
returns-else-put_lawful_keys c =
    let e = c.args.edits.now in
    found e c.put_lawful_keys.result
    (c.if-put_lawful_keys.false
    ∙ sym (and_left (puts_lawful e) (takes_lawful e) (sym c.put_lawful_keys.ensures ∙ c.if-put_lawful_keys.false)))
