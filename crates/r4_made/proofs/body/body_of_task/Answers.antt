use Rattle.std.proofs.Common.{◌^◌, false, ap, subst, sym, ◌∙◌, option_map}
use Rattle.std.specs.Arc.{arc_value}
use Rattle.r4_put_tasks.specs.r4_build.r4_leaf_edits.Suiting.{SuitLeaves}
use Rattle.r4_put_tasks.specs.r4_build.r4_reach.Touched.{body_key, body_of}
use Rattle.r4_content.specs.Edited.{Edits, changed}
use Rattle.r4_content.specs.Held.{edits_of, pairs_of}
use Rattle.r4_content.specs.declared.seen.Seen.{Seen}
use Rattle.r4_put_tasks.proofs.r4_lost_tasks.r4_extent_shrink.r4_extent_demands.r4_bodies.Premises.{command_bytes}
use Rattle.r4_made.proofs.Bodies.{none, some}
use Rattle.r4_made.proofs.body.body_of_task.Goals as goal

pub body_changed-requires-clause-suits : goal.body_changed-requires-clause-suits
body_changed-requires-clause-suits c =
    let task = c.args.task.now in
    subst (λ (e : Edits). SuitLeaves (2 ^ 64) e) (sym c.requires.edits)
    (command_bytes task.command (pairs_of (arc_value task.seen)) c.requires.paths c.requires.rises c.requires.lawful)

pub returns-in_ok-sized-in-Some : goal.returns-in_ok-sized-in-Some
returns-in_ok-sized-in-Some c =
    let e = edits_of c.args.edits.now in
    some c.args.task.now e c.requires.edits c.requires.rises c.requires.paths c.requires.lawful
    c.in-Some.change c.in_ok-sized-in-Some.field-0
    (sym c.in-Some.is ∙ (c.body_changed.ensures.body
    ∙ ap (λ (s : Seen). option_map (body_of e (pairs_of s) false) (body_key (changed e))) c.deref.ensures))
    c.in_ok-sized-in-Some.ensures

pub returns-in-None : goal.returns-in-None
returns-in-None c =
    let e = edits_of c.args.edits.now in
    none c.args.task.now e c.requires.edits c.requires.rises c.requires.paths c.requires.lawful
    (sym c.in-None.is ∙ (c.body_changed.ensures.body
    ∙ ap (λ (s : Seen). option_map (body_of e (pairs_of s) false) (body_key (changed e))) c.deref.ensures))
