-- A change that keeps its promises does what the command does.
use Rattle.std.specs.Prelude.{◌≡◌, ℕ, false}
use Rattle.r4_base.specs.Tree.{Root, Store}
use Rattle.r4_base.specs.Value.{Content, Value, at_key}
use Rattle.r4_base.specs.Volume.{HasUnits}
use Rattle.r4_patch.specs.r4_cell.Patch.{place}
use Rattle.r4_content.specs.Edited.{is_in}
use Rattle.r4_content.specs.Locality.{IsLocal, Meaning}
use Rattle.r4_content.specs.declared.command.Command.{Command}
use Rattle.r4_content.specs.declared.reply.Reply.{Reply}
use Rattle.r4_patch.specs.Part.{IsPart, MeetsPart}
use Rattle.r4_patch.proofs.Effects.{content_after, others_after}
use Rattle.r4_patch.proofs.PartCells.{tree_is_part, tree_unnamed}
use Rattle.r4_sets.specs.Change.{BuiltChange, Does, Promises}
use Rattle.r4_sets.proofs.Cells.{back_iff}
use Rattle.r4_sets.specs.Session.{IsTreeOf}
use Rattle.r4_sets.specs.Units.{SameUnit}
use Rattle.r4_sets.proofs.Carried.{not_both_ways, not_true}
use Rattle.r4_sets.proofs.FilesAfter.{files_after, visible_after}

module _ (w : Meaning Command Reply) (local : IsLocal w) (x : Command) (u : Store Value) (root : Root) (n : Content)
    (is : IsTreeOf u root n) (b : BuiltChange) (h : Promises w x u root is.raw n b) where
  part : IsPart u root
  part = tree_is_part u root is.tree

  meets : MeetsPart b.change u root
  meets = record { meets = h.meets; unnamed = tree_unnamed u root is.tree b.change h.meets }

  units : HasUnits (place b.change u) b.after
  units = content_after b.change u root (is_in b.moved) b.to is.raw b.after part meets h.effect is.units h.units

  stays : (k : ℕ) → is_in b.changed k ≡ false → SameUnit u (place b.change u) k
  stays k off v = back_iff (others_after b.change u root part meets (is_in b.moved) b.to h.effect k v
      (not_true (is_in b.moved k) (λ e. not_both_ways (h.moves k e) off)))

  others : (k : ℕ) → is_in b.changed k ≡ false → at_key (w.after x n) k ≡ at_key n k
  others k off = local.others x n k (not_true (is_in (w.changes x n) k) (λ e. not_both_ways (h.changes k e) off))

  pub promised : Does w x u root n b.change b.touched b.changed
  promised = record {
    patch = h.patch;
    meets = h.meets;
    after = b.after;
    units = units;
    files = files_after u (place b.change u) is.raw b.after n (w.after x n) b.changed is.units units is.files
        is.visible stays
        others h.files;
    visible = visible_after u (place b.change u) is.raw b.after n (w.after x n) b.changed is.units units is.files
        is.visible stays
        others h.files;
    reads = h.reads;
    changes = h.changes;
    within = h.within;
    stays = stays;
    stats = h.stats;
    bodies = h.bodies;
  }
