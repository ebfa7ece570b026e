-- A change that is built for a command of this project does what the command does.
use Rattle.std.specs.Prelude.{◌≡◌, ℕ, ◌^◌, ◌<◌, ◌≤◌, false}
use Rattle.std.proofs.Common.{arith}
use Rattle.r4_base.specs.Tree.{Root, Store}
use Rattle.r4_base.specs.Value.{Content, Value, at_key}
use Rattle.r4_sets.specs.r4_cell.Patch.{place}
use Rattle.r4_content.specs.Course.{ending, of_content}
use Rattle.r4_content.specs.Edited.{is_in}
use Rattle.r4_content.specs.Fields.{HasBytePaths, NamesUnused}
use Rattle.r4_content.specs.Lawful.{HasBodies, IsLawful}
use Rattle.r4_content.specs.Locality.{commands}
use Rattle.r4_content.specs.Meaning.{after, changes, course}
use Rattle.r4_content.specs.declared.command.Command.{Command}
use Rattle.r4_content.proofs.CourseLaws.{local}
use Rattle.r4_content.proofs.EditLaws.{edited_off}
use Rattle.r4_content.proofs.Staying.{lawful_stays}
use Rattle.r4_sets.specs.Change.{BuiltChange, Does}
use Rattle.r4_sets.specs.Session.{IsTreeOf}
use Rattle.r4_sets.proofs.Carried.{not_both_ways, not_true}
use Rattle.r4_sets.proofs.Promised.{promised}
use Rattle.r4_sets.proofs.Shown.{bodies_shown}
use Rattle.r4_sets_told.specs.Touched.{IsBuiltFor}
use Rattle.r4_sets_told.proofs.MovedFiles.{moved_files}
use Rattle.r4_sets_told.proofs.Showing.{shows, stats}

module _ (limit : ℕ) (small : limit ≤ 2 ^ 30) (x : Command) (u : Store Value) (root : Root) (n : Content)
    (is : IsTreeOf u root n) (lawful : IsLawful limit n) (bytes : HasBytePaths x) (unused : NamesUnused n x)
    (b : BuiltChange) (h : IsBuiltFor limit x u root is.raw n b) where
  lt : limit < 2 ^ 64
  lt = omega (arith, small)

  after_bodies : HasBodies limit (after limit x n)
  after_bodies = (lawful_stays limit x n lt lawful bytes unused).1

  others : (k : ℕ) → is_in b.changed k ≡ false → at_key (after limit x n) k ≡ at_key n k
  others k off =
      edited_off (ending (course limit x) (of_content n)).edits n k
      (not_true (is_in (changes limit x n) k) (λ on. not_both_ways (h.keys.changes k on) off))

  pub built : Does (commands limit) x u root n b.change b.touched b.changed
  built = promised (commands limit) (local limit) x u root n is b (record {
    patch = h.patch;
    meets = h.meets;
    effect = h.effect;
    units = h.units;
    files = moved_files limit small (ending (course limit x) (of_content n)).edits n is.raw b.after b.moved b.changed
        (place b.change u) after_bodies h.moves h.keys.changes h.moved_in h.kinds;
    reads = h.keys.reads;
    changes = h.keys.changes;
    moves = h.moved_in;
    within = h.keys.within;
    stats = stats limit lt x n lawful bytes unused b.touched b.changed h.keys;
    bodies = λ o a stat file on. bodies_shown limit lt b.touched b.changed u is.raw n (after limit x n) is.units
        is.visible
        lawful.bodies after_bodies others (shows limit lt x n lawful bytes unused b.touched b.changed h.keys) o a stat
        file;
  })
