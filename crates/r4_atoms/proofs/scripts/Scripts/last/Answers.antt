use Rattle.std.proofs.Common.{◌≡◌, sym, ap, Some, None}
use Rattle.r4_atoms.specs.Owned.{label_of}
use Rattle.r4_atoms.specs.Scripts.{or_none, Scripted}
use Rattle.r4_atoms.proofs.ScriptLaws.{latest_seen}
use Rattle.r4_atoms.proofs.scripts.Scripts.last.Goals as goal

pub returns-in-Some : goal.returns-in-Some
returns-in-Some c =
    let i = c.self.inside in
    let found : label_of c.args.script i.last.entries ≡ Some c.in-Some.txn.now = sym c.in-Some.ensures.value in
    latest_seen i.rows.items i.last.entries c.args.self.now.scripts c.args.script c.in-Some.txn.now c.self.invariant.0 (ap (λ (s : Scripted). s.scripts) c.self.view_is) (ap or_none found)

pub returns-in-None : goal.returns-in-None
returns-in-None c =
    let i = c.self.inside in
    let none : label_of c.args.script i.last.entries ≡ None = sym c.in-None.ensures.value in
    latest_seen i.rows.items i.last.entries c.args.self.now.scripts c.args.script 0 c.self.invariant.0 (ap (λ (s : Scripted). s.scripts) c.self.view_is) (ap or_none none)
