-- What was built of a command whose body stands in extents does in the tree of all atoms what the command means.
use Rattle.std.proofs.Common.{◌≡◌, ◌⊎◌, inl, inr, ℕ, ◌<◌, ◌≤◌, true, false, ◌++◌, sym, ap, subst, ◌∙◌, arith}
use Rattle.std.specs.Arc.{arc_value}
use Rattle.std.proofs.lemmas.Bool.{or_cases}
use Rattle.std.proofs.lemmas.List.Elements.{Contains-append_right}
use Rattle.r4_base.specs.Key.{least, top}
use Rattle.r4_base.specs.Tree.{Holds, Node, Root, Store}
use Rattle.r4_base.specs.Value.{Content, Value}
use Rattle.r4_build.specs.Built.{BuiltSeen, IsBesideByte, IsMove, IsPlaceFor, MovesAsMeant, edits_for}
use Rattle.r4_sets_told.specs.r4_cell.Patch.{by_name, root_of_pair}
use Rattle.r4_content.specs.Course.{ending, of_content}
use Rattle.r4_content.specs.Edited.{Edits, Intervals, Pairs, changed, is_in}
use Rattle.r4_content.specs.Held.{pairs_of}
use Rattle.r4_content.specs.Locality.{commands}
use Rattle.r4_content.specs.Meaning.{course, greatest_size}
use Rattle.r4_content.specs.Seen.{IsSeen}
use Rattle.r4_content.specs.Units.{MovesUnits}
use Rattle.r4_content.proofs.EditLaws.{in_append}
use Rattle.r4_sets_told.specs.r4_patch.Joining.{patch_of_change}
use Rattle.r4_sets_told.specs.r4_patch.Part.{MeetsPart}
use Rattle.r4_sets_told.proofs.r4_patch.Members.{found}
use Rattle.r4_build.specs.r4_reach.Needs.{demand_on}
use Rattle.r4_build.specs.r4_reach.Reach.{Touches}
use Rattle.r4_build.specs.r4_reach.Touched.{edits_on, reads_on}
use Rattle.r4_build.proofs.r4_reach.Trees.{held}
use Rattle.r4_sets_told.specs.r4_sets.Change.{BuiltChange, Does}
use Rattle.r4_sets_told.specs.Touched.{IsBuiltFor}
use Rattle.r4_sets_told.proofs.BuiltFor as built_for
use Rattle.r4_applied.specs.Applying.{IsBuiltOver, IsInReach}
use Rattle.r4_applied.proofs.BodyTold.{same_edits}
use Rattle.r4_applied.proofs.Counted.{counts}
use Rattle.r4_applied.proofs.Filled.{fill, filled}
use Rattle.r4_applied.proofs.KeysTouched.{moved_in, reads_alone, touched_by_moves}
use Rattle.r4_applied.proofs.Over as over
use Rattle.r4_applied.proofs.Reached.{among}

module _ (x : BuiltSeen) (u : Store Value) (root : Root) (n : Content) (h : IsBuiltOver x u root n)
    (move : IsMove x.task (patch_of_change x.change)) where
  abbrev s : Pairs
  s = pairs_of (arc_value x.task.seen)

  saw : IsSeen greatest_size x.task.command (pairs_of (arc_value x.task.seen)) n
  saw = over.saw_task x u root n h

  meets : MeetsPart (patch_of_change x.change) u root
  meets = over.meets x u root n h

  place : IsPlaceFor x.task u root h.tree.raw n
  place = record {
    pair = h.pair;
    met = h.met;
    rises = h.rises;
    given = h.task;
    there = h.there;
    tree = h.tree.tree;
    units = h.tree.units;
    files = h.tree.files;
    visible = h.tree.visible;
    lawful = h.lawful;
    paths = h.paths;
    unused = h.unused;
  }

  abbrev after : Content
  after = fill move.to move.keys h.tree.raw

  meant : MovesAsMeant x.task (patch_of_change x.change) u h.tree.raw n (fill move.to move.keys h.tree.raw) move.keys
  meant = move.moves u root h.tree.raw n (fill move.to move.keys h.tree.raw) place meets (filled move.to move.keys h.tree.raw)

  own : (k : ℕ) → is_in move.keys k ≡ true
      → (is_in (changed (edits_on x.task.command (pairs_of (arc_value x.task.seen)))) k ≡ true)
      ⊎ IsBesideByte (edits_on x.task.command (pairs_of (arc_value x.task.seen))) k
  own = meant.own

  moves : MovesUnits (ending (course greatest_size x.task.command) (of_content n)).edits n h.tree.raw
      (fill move.to move.keys h.tree.raw) move.keys
  moves =
      subst (λ (d : Edits). MovesUnits d n h.tree.raw (fill move.to move.keys h.tree.raw) move.keys)
      (same_edits x.task.command (pairs_of (arc_value x.task.seen)) n saw h.lawful h.paths h.unused) meant.units

  abbrev change : BuiltChange
  change = record {
    change = patch_of_change x.change;
    touched = reads_on x.task.command (pairs_of (arc_value x.task.seen)) false ++ (move.keys ++ changed (edits_for x.task));
    changed = move.keys ++ changed (edits_for x.task);
    moved = move.keys;
    to = move.to;
    after = fill move.to move.keys h.tree.raw;
  }

  promised : IsBuiltFor greatest_size x.task.command u root h.tree.raw n change
  promised = record {
    patch = h.built.change.patch;
    meets = meets.meets;
    effect = move.effect;
    units = filled move.to move.keys h.tree.raw;
    moves = moves;
    keys = touched_by_moves x.task.command s n saw h.lawful h.paths h.unused move.keys own;
    moved_in = moved_in x.task.command s n saw h.lawful h.paths h.unused move.keys own;
    kinds = λ o b stat file on. meant.kinds o b stat file;
  }

  pub does : Does (commands greatest_size) x.task.command u root n (patch_of_change x.change)
      (reads_on x.task.command (pairs_of (arc_value x.task.seen)) false ++ (move.keys ++ changed (edits_for x.task)))
      (move.keys ++ changed (edits_for x.task))
  does =
      built_for.built greatest_size (omega arith) x.task.command u root n h.tree h.lawful h.paths h.unused change
      promised

  -- ---- the cells that hold what it touches

  -- an old cell of the change holds each key that is moved
  of_moved : (k : ℕ) → is_in move.keys k ≡ true → IsInReach x.task k
  of_moved k on =
      let (i, d, at, holds) = move.effect.held k on in
      let (y, has, id, says) = found x.change.old i d at in
      record {
        cell = y;
        among = Contains-append_right x.task.reads x.task.writes y (h.built.old y has);
        holds = subst (λ (q : Node Value). Holds q k) says holds;
      }

  of_touched : (k : ℕ) → Touches (demand_on x.task.command h.task.reach.seen h.task.reach.in_extents) k → least ≤ k
      → k < top → IsInReach x.task k
  of_touched k touches from to =
      let (i, d, at, holds, reached) =
      held (demand_on x.task.command h.task.reach.seen h.task.reach.in_extents) (by_name h.met) (root_of_pair h.pair)
      h.task.reach.part h.task.reach.has k touches from to in
      let (y, has, id, is) =
      among h.pair x.task.command h.met x.task.reads x.task.writes h.rises h.task.reach u (over.named x u root n h)
      h.there.stand i d reached at in
      record { cell = y; among = has; holds = subst (λ (q : Node Value). Holds q k) (sym is) holds }

  pub in_reach : (k : ℕ)
      → is_in (reads_on x.task.command (pairs_of (arc_value x.task.seen)) false
      ++ (move.keys ++ changed (edits_for x.task))) k ≡ true
      → least ≤ k → k < top → IsInReach x.task k
  in_reach k on from to = elim
      (or_cases (is_in (reads_on x.task.command (pairs_of (arc_value x.task.seen)) false) k)
      (is_in (move.keys ++ changed (edits_for x.task)) k)
      (sym (in_append (reads_on x.task.command s false) (move.keys ++ changed (edits_for x.task)) k) ∙ on)) [
        | inl read ↦ of_touched k
            (inl (ap (λ (rs : Intervals). is_in rs k)
            (reads_alone x.task.command h.task.reach.seen h.task.reach.in_extents)
            ∙ ap (λ (l : Pairs). is_in (reads_on x.task.command l false) k) h.task.seen ∙ read)) from to
        | inr changes ↦ elim (or_cases (is_in move.keys k) (is_in (changed (edits_for x.task)) k)
            (sym (in_append move.keys (changed (edits_for x.task)) k) ∙ changes)) [
              | inl moved ↦ of_moved k moved
              | inr edit ↦ of_touched k
                  (inr (counts x.task.command h.task.reach.seen n (over.saw x u root n h) h.lawful h.paths h.unused
                  h.task.reach.in_extents k
                  (ap (λ (l : Pairs). is_in (changed (edits_on x.task.command l)) k) h.task.seen ∙ edit))) from to
            ]
      ]
