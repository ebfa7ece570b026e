-- What was built of a command in leaves does in the tree of all atoms what the command means.
use Rattle.std.proofs.Common.{◌≡◌, inl, inr, ℕ, ◌<◌, ◌≤◌, Bool, true, false, ◌++◌}
use Rattle.std.proofs.Common.{Some, sym, ap, subst, ◌∙◌, arith}
use Rattle.std.specs.Prelude.{Contains}
use Rattle.std.specs.Arc.{arc_value}
use Rattle.std.proofs.lemmas.Bool.{or_cases}
use Rattle.std.proofs.lemmas.List.Elements.{Contains-append_right}
use Rattle.r4_base.specs.Key.{least, top}
use Rattle.r4_base.specs.Tree.{Holds, Node, Root, Store}
use Rattle.r4_base.specs.Value.{Content, Value}
use Rattle.r4_base.specs.Volume.{HasUnits}
use Rattle.r4_build.specs.Building.{CanBuild, set_by}
use Rattle.r4_build.specs.Built.{BuiltSeen, IsPlain, edits_for}
use Rattle.r4_build.specs.declared.task.Task.{Task}
use Rattle.r4_build.proofs.Contents as contents
use Rattle.r4_sets_told.specs.r4_cell.Patch.{Patch, by_name, place, root_of_pair}
use Rattle.r4_sets_told.specs.r4_cell.Seen.{CellSeen, node_of}
use Rattle.r4_content.specs.Course.{ending, of_content}
use Rattle.r4_content.specs.Edited.{Edits, Intervals, Pairs, changed, edited, is_in}
use Rattle.r4_content.specs.Held.{pairs_of}
use Rattle.r4_content.specs.Lawful.{HasBodies}
use Rattle.r4_content.specs.Locality.{commands}
use Rattle.r4_content.specs.Meaning.{course, greatest_size}
use Rattle.r4_content.specs.Seen.{IsSeen}
use Rattle.r4_content.specs.Units.{MovesUnits}
use Rattle.r4_content.specs.declared.command.Command.{Command}
use Rattle.r4_content.proofs.EditLaws.{edited_off, edited_on, in_append}
use Rattle.r4_sets_told.specs.r4_patch.Effect.{HasEffect, IsSetAt}
use Rattle.r4_sets_told.specs.r4_patch.Joining.{patch_of_change}
use Rattle.r4_sets_told.specs.r4_patch.Part.{MeetsPart}
use Rattle.r4_build.proofs.r4_path.Rising.{hi_is, level_is, lo_is}
use Rattle.r4_build.specs.r4_reach.Needs.{demand_on}
use Rattle.r4_build.specs.r4_reach.Reach.{HasReached, Touches}
use Rattle.r4_build.specs.r4_reach.Touched.{body_on, edits_on, reads_on}
use Rattle.r4_build.proofs.r4_reach.Trees.{held}
use Rattle.r4_sets_told.specs.r4_sets.Change.{BuiltChange, Does}
use Rattle.r4_sets_told.specs.Touched.{IsBuiltFor}
use Rattle.r4_sets_told.proofs.BuiltFor as built_for
use Rattle.r4_applied.specs.Applying.{IsBuiltOver, IsInReach}
use Rattle.r4_applied.proofs.BodiesThen.{HasEdits, LiesInLeafOf, has_edits, kinds, of_file, units_made}
use Rattle.r4_applied.proofs.BodyTold.{bodies_then, same_edits}
use Rattle.r4_applied.proofs.KeysTouched.{all_touched, reads_alone, touched_by as touched_of}
use Rattle.r4_applied.proofs.Over as over
use Rattle.r4_applied.proofs.Reached.{among}
use Rattle.r4_applied.proofs.SpreadSpared.{changes_are, not_changed}

module _ (x : BuiltSeen) (u : Store Value) (root : Root) (n : Content) (h : IsBuiltOver x u root n)
    (plain : IsPlain x.task (patch_of_change x.change)) where
  abbrev task : Task
  task = x.task

  abbrev c : Command
  c = x.task.command

  -- what was seen as the reach was told
  abbrev s : Pairs
  s = h.task.reach.seen

  abbrev p : Patch Value
  p = patch_of_change x.change

  abbrev raw : Content
  raw = h.tree.raw

  ours : edits_on x.task.command h.task.reach.seen ≡ edits_for x.task
  ours = over.ours x u root n h

  named : (y : CellSeen) → Contains x.task.writes y → by_name h.met y.id ≡ Some (node_of y)
  named = over.named x u root n h

  same : HasReached (demand_on x.task.command h.task.reach.seen h.task.reach.in_extents) (by_name h.met) u
  same = over.same x u root n h

  saw : IsSeen greatest_size x.task.command h.task.reach.seen n
  saw = over.saw x u root n h

  meets : MeetsPart (patch_of_change x.change) u root
  meets = over.meets x u root n h

  -- its edits may be made in leaves
  in_leaves : CanBuild (body_on x.task.command h.task.reach.seen h.task.reach.in_extents) (edits_for x.task)
      (reads_on x.task.command h.task.reach.seen h.task.reach.in_extents) (by_name h.met) (root_of_pair h.pair)
      x.task.fresh x.task.writes
  in_leaves =
      subst (λ (l : Pairs). CanBuild (body_on x.task.command l h.task.reach.in_extents) (edits_for x.task)
      (reads_on x.task.command l h.task.reach.in_extents) (by_name h.met) (root_of_pair h.pair) x.task.fresh x.task.writes)
      (sym h.task.seen)
      (subst (λ (b : Bool). CanBuild (body_on x.task.command (pairs_of (arc_value x.task.seen)) b) (edits_for x.task)
      (reads_on x.task.command (pairs_of (arc_value x.task.seen)) b) (by_name h.met) (root_of_pair h.pair) x.task.fresh
      x.task.writes) (sym h.task.kind) (h.task.can.leaves plain.leaves))

  effect : HasEffect (patch_of_change x.change)
      (is_in (changed (edits_on x.task.command h.task.reach.seen)))
      (set_by (edits_on x.task.command h.task.reach.seen))
  effect =
      subst (λ (e : Edits). HasEffect (patch_of_change x.change) (is_in (changed e)) (set_by e)) (sym ours)
      plain.effect

  lie : (k : ℕ) → is_in (changed (edits_on x.task.command h.task.reach.seen)) k ≡ true → LiesInLeafOf u k
  lie k on =
      let (y, has, level, at) =
      in_leaves.lie k (ap (λ (e : Edits). is_in (changed e) k) (sym ours) ∙ on) in
      let low = lo_is y in
      let high = hi_is y in (
        y.id,
        node_of y,
        h.there.stand y (Contains-append_right x.task.reads x.task.writes y has),
        level_is y ∙ level,
        (omega (arith, low, at), omega (arith, high, at)),
      )

  -- ---- what becomes of the units

  abbrev e : Edits
  e = edits_on x.task.command h.task.reach.seen

  set_there : IsSetAt (is_in (changed (edits_on x.task.command h.task.reach.seen)))
      (set_by (edits_on x.task.command h.task.reach.seen)) h.tree.raw
      (edited (edits_on x.task.command h.task.reach.seen) h.tree.raw)
  set_there k = contents.set_is e h.tree.raw k

  has_edits_there : HasEdits (edits_on x.task.command h.task.reach.seen) u (place (patch_of_change x.change) u)
  has_edits_there = has_edits p u root e h.tree.tree meets effect lie

  units_there : HasUnits (place (patch_of_change x.change) u) (edited (edits_on x.task.command h.task.reach.seen) h.tree.raw)
  units_there = units_made p u root e h.tree.tree meets effect lie h.tree.raw h.tree.units

  bodies_there : HasBodies greatest_size (edited (edits_on x.task.command h.task.reach.seen) n)
  bodies_there = bodies_then x.task.command h.task.reach.seen n saw h.lawful h.paths h.unused

  moves : MovesUnits (ending (course greatest_size x.task.command) (of_content n)).edits n h.tree.raw
      (edited (edits_on x.task.command h.task.reach.seen) h.tree.raw)
      (changed (edits_on x.task.command h.task.reach.seen))
  moves =
      subst (λ (d : Edits). MovesUnits d n h.tree.raw (edited e h.tree.raw) (changed e))
      (same_edits x.task.command h.task.reach.seen n saw h.lawful h.paths h.unused)
      (record {
        visible = h.tree.visible;
        kept = λ k off. edited_off e h.tree.raw k off;
        made = λ k on. inl (edited_on e h.tree.raw n k on);
        spared = λ k off on. absurd (let f : true ≡ false = sym on ∙ off in cc);
        padding = λ k y off also at none. of_file e u (place p u) raw n h.tree.units units_there h.tree.files
            h.tree.visible has_edits_there h.lawful.bodies bodies_there k y off at none;
      })

  -- ---- all together

  abbrev change : BuiltChange
  change = record {
    change = patch_of_change x.change;
    touched = all_touched x.task.command h.task.reach.seen n saw h.lawful h.paths h.unused;
    changed = changed (edits_on x.task.command h.task.reach.seen);
    moved = changed (edits_on x.task.command h.task.reach.seen);
    to = set_by (edits_on x.task.command h.task.reach.seen);
    after = edited (edits_on x.task.command h.task.reach.seen) h.tree.raw;
  }

  promised : IsBuiltFor greatest_size x.task.command u root h.tree.raw n change
  promised = record {
    patch = h.built.change.patch;
    meets = meets.meets;
    effect = effect;
    units = set_there;
    moves = moves;
    keys = touched_of x.task.command h.task.reach.seen n saw h.lawful h.paths h.unused;
    moved_in = λ k on. on;
    kinds = λ o b stat file on. kinds e u (place p u) raw n h.tree.units units_there h.tree.files h.tree.visible
        has_edits_there h.lawful.bodies bodies_there
        (λ q a was kind some extents y lt on. not_changed h.pair x.task.command h.met x.task.reads x.task.writes
        h.rises h.task.reach u root h.tree.tree same in_leaves.tails n saw h.lawful h.paths h.unused q a was kind some
        extents y lt on) o b stat file;
  }

  does_seen : Does (commands greatest_size) x.task.command u root n (patch_of_change x.change)
      (reads_on x.task.command h.task.reach.seen false ++ changed (edits_on x.task.command h.task.reach.seen))
      (changed (edits_on x.task.command h.task.reach.seen))
  does_seen =
      built_for.built greatest_size (omega arith) x.task.command u root n h.tree h.lawful h.paths h.unused change
      promised

  pub does : Does (commands greatest_size) x.task.command u root n (patch_of_change x.change)
      (reads_on x.task.command (pairs_of (arc_value x.task.seen)) false ++ changed (edits_for x.task))
      (changed (edits_for x.task))
  does =
      subst (λ (l : Pairs). Does (commands greatest_size) x.task.command u root n (patch_of_change x.change)
      (reads_on x.task.command l false ++ changed (edits_on x.task.command l)) (changed (edits_on x.task.command l)))
      h.task.seen does_seen

  -- ---- the cells that hold what it touches

  touches : (k : ℕ)
      → is_in (reads_on x.task.command (pairs_of (arc_value x.task.seen)) false ++ changed (edits_for x.task)) k ≡ true
      → Touches (demand_on x.task.command h.task.reach.seen h.task.reach.in_extents) k
  touches k on =
      elim (or_cases (is_in (reads_on x.task.command s false) k) (is_in (changed e) k)
      (sym (in_append (reads_on x.task.command s false) (changed e) k)
      ∙ ap (λ (l : Pairs). is_in (reads_on x.task.command l false ++ changed (edits_on x.task.command l)) k)
      h.task.seen ∙ on)) [
        | inl read ↦
            inl (ap (λ (rs : Intervals). is_in rs k) (reads_alone x.task.command s h.task.reach.in_extents) ∙ read)
        | inr change ↦
            inr (ap (λ (rs : Intervals). is_in rs k)
            (changes_are h.pair x.task.command h.met x.task.reads x.task.writes h.rises h.task.reach u root h.tree.tree
            same in_leaves.tails n saw h.lawful h.paths h.unused) ∙ change)
      ]

  pub in_reach : (k : ℕ)
      → is_in (reads_on x.task.command (pairs_of (arc_value x.task.seen)) false ++ changed (edits_for x.task)) k ≡ true
      → least ≤ k → k < top → IsInReach x.task k
  in_reach k on from to =
      let (i, d, at, holds, reached) =
      held (demand_on x.task.command h.task.reach.seen h.task.reach.in_extents) (by_name h.met) (root_of_pair h.pair)
      h.task.reach.part h.task.reach.has k (touches k on) from to in
      let (y, has, id, is) =
      among h.pair x.task.command h.met x.task.reads x.task.writes h.rises h.task.reach u named h.there.stand i d
      reached
      at in
      record { cell = y; among = has; holds = subst (λ (q : Node Value). Holds q k) (sym is) holds }
