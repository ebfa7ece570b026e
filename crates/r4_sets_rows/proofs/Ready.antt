-- Sessions on the small tree, and what `chmod` makes of one.
use Rattle.std.specs.Prelude.{◌≡◌, ℕ, List, true}
use Rattle.std.proofs.Common.{refl}
use Rattle.r4_base.specs.Volume.{is_directory, root_attr}
use Rattle.r4_base.specs.declared.items.Attr.{Attr}
use Rattle.r4_base.specs.declared.things.ScriptNo.{ScriptNo}
use Rattle.r4_base.specs.declared.things.TxnNo.{TxnNo}
use Rattle.r4_content.specs.Locality.{Meaning, commands}
use Rattle.r4_content.specs.declared.command.Command.{Command}
use Rattle.r4_content.specs.declared.reply.Reply.{Reply}
use Rattle.r4_content.proofs.CourseLaws.{local}
use Rattle.r4_patch.specs.SecondRoot.{small_root}
use Rattle.r4_trace.specs.Traced.{IsSealed, atom_in}
use Rattle.r4_sets.specs.Change.{Applies, IsFree, applied}
use Rattle.r4_sets.specs.Session.{Session, Sets, all_done}
use Rattle.r4_sets.proofs.Answered.{opened_sets}
use Rattle.r4_sets_rows.specs.Small.{alone, begun, changing, chmod, small_store, with_mode}
use Rattle.r4_sets_rows.proofs.Modes.{changes_in, mode_after, reads_in}
use Rattle.r4_sets_rows.proofs.Setting.{content_after, memory_after, setting, setting_sets}
use Rattle.r4_sets_rows.proofs.SmallTree.{small_of}

-- the session's memory is the small tree with these attributes, and each set means what it should
pub record Ready (w : Meaning Command Reply) (twig leaf : List ℕ) (r : Attr) (c : Session) : Type 0 where
  pub memory : c.memory ≡ small_store twig leaf r
  pub root : c.root ≡ small_root
  pub content : all_done w c ≡ alone r
  pub sets : Sets w c

pub begun_ready : (w : Meaning Command Reply) (twig leaf : List ℕ) → Ready w twig leaf root_attr (begun twig leaf)
begun_ready w twig leaf = record {
  memory = refl;
  root = refl;
  content = refl;
  sets = opened_sets w (small_store twig leaf root_attr) small_root (alone root_attr)
      (small_of twig leaf root_attr refl refl);
}

module _ (limit : ℕ) (twig leaf after : List ℕ) (r : Attr) (mode : ℕ) (c : Session)
    (h : Ready (commands limit) twig leaf r c)
    (dir : is_directory r ≡ true) (dir_after : is_directory (with_mode r mode) ≡ true) (size : r.bytes ≡ r.size)
    (txn : TxnNo) (unsealed : IsSealed c.trace (atom_in c.trace txn.0) → ⊥)
    (free : IsFree c (atom_in c.trace txn.0) 23) where
  pub mode_applies : Applies (commands limit) c txn.0 (chmod mode) (changing leaf after r (with_mode r mode))
  mode_applies = setting twig leaf after r (with_mode r mode) (commands limit) (chmod mode) dir dir_after size
      (mode_after r limit mode) (reads_in r limit mode) (changes_in r limit mode)
      c h.memory h.root h.content txn unsealed free

  pub mode_ready : (script : ScriptNo) (index : ℕ)
      → Ready (commands limit) twig after (with_mode r mode)
      (applied (commands limit) c txn script index (chmod mode) (changing leaf after r (with_mode r mode)))
  mode_ready script index = record {
    memory = memory_after twig leaf after r (with_mode r mode) (commands limit) (chmod mode) dir dir_after size
        (mode_after r limit mode) (reads_in r limit mode) (changes_in r limit mode)
        c h.memory h.root h.content txn unsealed free script index;
    root = h.root;
    content = content_after twig leaf after r (with_mode r mode) (commands limit) (chmod mode) dir dir_after size
        (mode_after r limit mode) (reads_in r limit mode) (changes_in r limit mode)
        c h.memory h.root h.content txn unsealed free script index;
    sets = setting_sets twig leaf after r (with_mode r mode) (commands limit) (chmod mode) dir dir_after size
        (mode_after r limit mode) (reads_in r limit mode) (changes_in r limit mode)
        c h.memory h.root h.content txn unsealed free (local limit) h.sets script index;
  }
