-- A command that changes no key, and a session that begins.
use Rattle.std.specs.Prelude.{◌≡◌, ℕ, true, false, [], Some, None}
use Rattle.std.proofs.Common.{arith, inl, refl, sym, subst}
use Rattle.std.proofs.lemmas.Option.{none-some}
use Rattle.r4_base.specs.Value.{Value, Content}
use Rattle.r4_base.specs.Tree.{Store, Root}
use Rattle.r4_base.specs.Volume.{HasStat, IsVisible}
use Rattle.r4_patch.specs.r4_cell.Patch.{IsPatch}
use Rattle.r4_content.specs.Locality.{IsLocal, Meaning}
use Rattle.r4_content.proofs.EditLaws.{same_content}
use Rattle.r4_content.specs.declared.command.Command.{Command}
use Rattle.r4_content.specs.declared.reply.Reply.{Reply}
use Rattle.r4_base.specs.declared.things.ScriptNo.{ScriptNo}
use Rattle.r4_base.specs.declared.things.TxnNo.{TxnNo}
use Rattle.r4_sets.specs.Atoms.{opened}
use Rattle.r4_sets.specs.Change.{Answers, Does, answered, no_patch}
use Rattle.r4_sets.specs.Session.{IsTreeOf, Session, Sets, all_done}
use Rattle.r4_sets.proofs.Applied.{applied_sets, memory_stands}
use Rattle.r4_sets.proofs.Carried.{not_both_ways}

no_cell : {A : Type 0} (x : A) → None ≡ Some x → ⊥
no_cell x e = none-some x e

pub no_patch_is : IsPatch no_patch
no_patch_is = record {
  nodes = λ i c e. absurd (no_cell c e);
  covers_old = λ l k two (i, c, e, _, _). absurd (no_cell c e);
  covers_new = λ l k two (i, c, e, _, _). absurd (no_cell c e);
  new_root = λ r e. absurd (no_cell r e);
  apart = λ i j c d k e. absurd (no_cell c e);
  named = λ n (i, c, e, _). absurd (no_cell c e);
  kept = λ n (i, c, e, _) gone. absurd (no_cell c e);
  replaced = λ i c e. absurd (no_cell c e);
  reached = λ i c e. absurd (no_cell c e);
  leaves_old = λ k h. h;
  leaves_new = λ k h. h;
}

module _ (w : Meaning Command Reply) (local : IsLocal w) (c : Session) (sets : Sets w c) (txn : TxnNo)
    (script : ScriptNo) (index : ℕ) (x : Command) (a : Answers w c txn.0 x) where
  now : IsTreeOf c.memory c.root (all_done w c)
  now = (memory_stands w c sets).is

  same_after : w.after x (all_done w c) ≡ all_done w c
  same_after = same_content _ _ (λ k. local.others x (all_done w c) k (a.same k))

  does : Does w x c.memory c.root (all_done w c) no_patch a.touched []
  does = record {
    patch = no_patch_is;
    meets = record {
      has_old = λ i o e. absurd (no_cell o e);
      free = λ i o e gone. absurd (no_cell o e);
      root_old =
          λ h. let f : false ≡ true = h in cc;
    };
    after = now.raw;
    units = now.units;
    files = now.files;
    visible = subst (IsVisible now.raw) (sym same_after) now.visible;
    reads = a.reads;
    changes = λ k e. absurd (not_both_ways e (a.same k));
    within = λ k e. let f : false ≡ true = e in cc;
    stays = λ k off v. (λ h. h, λ h. h);
    stats = a.stats;
    bodies = λ o b stat file h. inl
        (b, subst (λ (m : Content). HasStat m o b) (sym same_after) stat, file, refl, λ x lt. refl);
  }

  pub answered_sets : Sets w (answered w c txn script index x)
  answered_sets = applied_sets w local c sets txn script index x no_patch (record {
    unsealed = a.unsealed;
    touched = a.touched;
    changed = [];
    does = does;
    own = λ i e. let f : false ≡ true = e in cc;
    reach = a.reach;
  })

pub opened_sets : (w : Meaning Command Reply) (t : Store Value) (root : Root) (m : Content) → IsTreeOf t root m
    → Sets w (opened t root m)
opened_sets w t root m h = record {
  clean = λ i none. refl;
  one_root = inl refl;
  counts = omega arith;
  committed = record { is = h; replies = tt; alike = tt };
  each = λ s. record { is = h; replies = tt; alike = tt };
}
