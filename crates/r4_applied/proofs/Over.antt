-- What was built of a command, in the tree in which the reach of its task stands.
use Rattle.std.proofs.Common.{◌≡◌, Some, ap, subst, ◌∙◌, arith}
use Rattle.std.specs.Prelude.{Contains}
use Rattle.std.specs.Arc.{arc_value}
use Rattle.std.proofs.lemmas.List.Elements.{Contains-append_right}
use Rattle.r4_base.specs.Tree.{Root, Store}
use Rattle.r4_base.specs.Value.{Content, Value}
use Rattle.r4_build.specs.Built.{BuiltSeen, HasOldRoot, edits_for}
use Rattle.r4_build.proofs.Contents.{built_born, built_gone, built_reply}
use Rattle.r4_build.proofs.Fitting.{built_meets}
use Rattle.r4_sets_told.specs.r4_cell.Patch.{by_name, root_of_pair}
use Rattle.r4_sets_told.specs.r4_cell.Seen.{CellSeen, node_of}
use Rattle.r4_content.specs.Counts.{born, gone}
use Rattle.r4_content.specs.Edited.{Pairs}
use Rattle.r4_content.specs.Held.{pairs_of}
use Rattle.r4_content.specs.Meaning.{greatest_size, reply}
use Rattle.r4_content.specs.Seen.{IsSeen}
use Rattle.r4_content.proofs.OneObject.{numbers_of}
use Rattle.r4_sets_told.specs.r4_patch.Joining.{patch_of_change}
use Rattle.r4_sets_told.specs.r4_patch.Part.{MeetsPart}
use Rattle.r4_sets_told.proofs.r4_patch.Members.{found}
use Rattle.r4_build.specs.r4_reach.Needs.{demand_on}
use Rattle.r4_build.specs.r4_reach.Reach.{HasReached}
use Rattle.r4_build.specs.r4_reach.Touched.{edits_on}
use Rattle.r4_build.proofs.r4_reach.Answers.{is_seen}
use Rattle.r4_applied.specs.Applying.{IsBuiltOver}
use Rattle.r4_applied.proofs.Reached.{reached_there}
use Rattle.r4_applied.proofs.SeenThere.{seen_there}

module _ (x : BuiltSeen) (u : Store Value) (root : Root) (n : Content) (h : IsBuiltOver x u root n) where
  pub ours : edits_on x.task.command h.task.reach.seen ≡ edits_for x.task
  ours = ap (edits_on x.task.command) h.task.seen

  pub named : (y : CellSeen) → Contains x.task.writes y → by_name h.met y.id ≡ Some (node_of y)
  named y has = h.task.can.cells_in.stand y has

  pub same : HasReached (demand_on x.task.command h.task.reach.seen h.task.reach.in_extents) (by_name h.met) u
  same =
      reached_there h.pair x.task.command h.met x.task.reads x.task.writes h.rises h.task.reach u named h.there.stand

  saw_raw : IsSeen greatest_size x.task.command h.task.reach.seen h.tree.raw
  saw_raw =
      is_seen h.pair x.task.command h.met x.task.reads x.task.writes h.rises h.task.reach u root h.tree.raw h.tree.tree
      same h.tree.units

  -- what was seen as the reach was told
  pub saw : IsSeen greatest_size x.task.command h.task.reach.seen n
  saw =
      seen_there h.tree.raw n h.tree.visible u h.tree.files x.task.command h.task.reach.seen
      (numbers_of greatest_size n (omega arith) h.lawful) h.paths saw_raw

  pub saw_task : IsSeen greatest_size x.task.command (pairs_of (arc_value x.task.seen)) n
  saw_task = subst (λ (l : Pairs). IsSeen greatest_size x.task.command l n) h.task.seen saw

  pub reply_is : x.reply ≡ reply greatest_size x.task.command n
  reply_is = built_reply x h.built n saw_task

  pub born_are : x.objects.born ≡ born greatest_size x.task.command n
  born_are = built_born x h.built n saw_task

  pub gone_are : x.objects.gone ≡ gone greatest_size x.task.command n
  gone_are = built_gone x h.built n saw_task

  -- ---- the change fits

  old_root : HasOldRoot x root
  old_root some =
      let (d, at) =
      (h.built.meets (by_name h.met) (root_of_pair h.pair) h.task.can).meets.root_old some in
      let (y, has, id, says) = found x.change.old (root_of_pair h.pair).id d at in
      let is = h.there.top y (Contains-append_right x.task.reads x.task.writes y (h.built.old y has)) id in
      (d, ap (λ (r : Root). (patch_of_change x.change).old r.id) is ∙ at)

  pub meets : MeetsPart (patch_of_change x.change) u root
  meets =
      built_meets x h.built u root
      (λ y has. h.there.stand y (Contains-append_right x.task.reads x.task.writes y has)) h.there.free old_root
