use Rattle.std.proofs.Common.{◌≡◌, ◌+◌, sym, ap, length, arith}
use Rattle.std.proofs.lemmas.List.{length_push}
use Rattle.r4_atoms.specs.declared.scripts.Begun.{Begun}
use Rattle.r4_atoms.specs.Scripts.{IsLatest, Scripted, scripts_of}
use Rattle.r4_atoms.proofs.OwnedLaws.{on_ok_at}
use Rattle.r4_atoms.proofs.ScriptLaws.{latest_here, length-scripts, linked_more}
use Rattle.r4_atoms.proofs.scripts.Scripts.push.Goals as goal

pub invariant_of-self : goal.invariant_of-self
invariant_of-self c =
    let i = c.self.inside in
    let s = ap (λ (x : Scripted). x.spare) c.self.view_is in
    let e = ap (λ (x : Scripted). length x.scripts) c.self.view_is in
    let long = length-scripts i.rows.items in
    let number : c.len.result + 1 ≡ length i.rows.items + 1 = omega (arith, c.len.ensures, i.rows.ok, c.requires.few) in
    let b : Begun = record { script = c.args.script; before = c.last-before.result } in
    let longer = length_push i.rows.items b in
    let place = c.insert.ensures.succeeds (omega (arith, c.requires.room, c.self.invariant.1.table)) in
    let updates = on_ok_at _ place c.insert.ensures.updates in
    let whole : IsLatest (scripts_of i.rows.items) c.args.script (length i.rows.items) c.last-before.result = latest_here i.rows.items c.args.self.now.scripts c.args.script c.last-before.result (ap (λ (x : Scripted). x.scripts) c.self.view_is) c.last-before.ensures in
    rw c.add.ensures.items (
      linked_more i.rows.items i.last.entries c.insert.new.self.entries c.args.script c.last-before.result c.self.invariant.0 whole (λ q. rw (sym number) (updates.0 q)),
      record {
        table = omega (arith, c.insert.ensures.spare, c.self.invariant.1.table);
        row = omega (arith, c.requires.room, longer, c.add.ensures.capacity, c.self.invariant.1.row);
      },
    )
