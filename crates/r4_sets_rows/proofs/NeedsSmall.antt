-- Why each thing is asked of a change: on the small tree.
use Rattle.std.specs.Prelude.{◌≡◌, ℕ, List, [], true, false}
use Rattle.std.proofs.Common.{arith, inl, refl, sym, ap, subst, ◌∙◌}
use Rattle.std.proofs.lemmas.Option.{none-some}
use Rattle.r4_base.specs.Volume.{HasUnits, IsVisible, is_directory, root_attr, HasStat}
use Rattle.r4_base.specs.declared.items.Attr.{Attr}
use Rattle.r4_cell.specs.Patch.{Meets}
use Rattle.r4_content.specs.Edited.{is_in}
use Rattle.r4_content.specs.Locality.{Meaning, commands}
use Rattle.r4_content.specs.declared.command.Command.{Command}
use Rattle.r4_content.specs.declared.command.Command.TheVariants.{Stat as Ask}
use Rattle.r4_content.specs.declared.reply.Reply.{Reply}
use Rattle.r4_content.specs.declared.reply.Reply.TheVariants.{Attr as AttrReply}
use Rattle.r4_content.proofs.CourseLaws.{local}
use Rattle.r4_sets.specs.Atoms.{sealed}
use Rattle.r4_sets.specs.Change.{Does, applied, no_patch, IsFree}
use Rattle.r4_sets.specs.Session.{Session, Sets, all_done, nothing, only}
use Rattle.r4_sets.proofs.Answered.{no_patch_is}
use Rattle.r4_sets.proofs.Gathered.{sealed_sets}
use Rattle.r4_sets_rows.specs.Needed.{IsNeeded, Reach, Reads, Unsealed}
use Rattle.r4_sets_rows.specs.Small.{alone, atom, begun, changing, chmod, script, txn}
use Rattle.r4_sets_rows.specs.Worked.{mode_700, mode_750}
use Rattle.r4_sets_rows.proofs.Modes.{changes_in, mode_after, reads_in, stat_after, stat_changes, stat_reads}
use Rattle.r4_sets_rows.proofs.Modes.{stat_reply}
use Rattle.r4_sets_rows.proofs.Ready.{Ready, begun_ready, mode_ready}
use Rattle.r4_sets_rows.proofs.Setting.{in_session, mode_at_leaf, no_body_key, reached, the_key, touched_is}
use Rattle.r4_sets_rows.proofs.SmallTree.{lone_files, no_file, small_units, small_visible}
use Rattle.r4_base.specs.declared.items.Target.{Target}

-- ---- the session in which the first transaction changed the mode

abbrev pub one_done : (limit : ℕ) → Session
one_done limit = applied (commands limit) (begun [] []) (txn 1) (script 1) 1 (chmod 0o700)
    (changing [] [] root_attr mode_700)

pub one_ready : (limit : ℕ) → Ready (commands limit) [] [] mode_700 (one_done limit)
one_ready limit = mode_ready limit [] [] [] root_attr 0o700 (begun [] []) (begun_ready (commands limit) [] []) refl
    refl refl (txn 1) (λ h. h) (inl refl) (script 1) 1

pub unlike : mode_700.mode ≡ root_attr.mode → ⊥
unlike e = absurd (omega (arith, e))

unlike_two : mode_700.mode ≡ mode_750.mode → ⊥
unlike_two e = absurd (omega (arith, e))

pub no_true : false ≡ true → ⊥
no_true e = cc

-- ---- where no cell changes

module _ (w : Meaning Command Reply) (twig leaf : List ℕ) (r : Attr) (c : Session) (h : Ready w twig leaf r c) where
  pub meets_none : Meets no_patch c.memory c.root
  meets_none = record {
    has_old = λ i o e. absurd (none-some o e);
    free =
        λ i o e gone. absurd (none-some o e);
    root_old = λ e. absurd (no_true e);
  }

  pub units_now : HasUnits c.memory (alone r)
  units_now = subst (λ t. HasUnits t (alone r)) (sym h.memory) (small_units twig leaf r)

  pub no_file_now : is_directory r ≡ true → (o : Target) (a : Attr)
      → HasStat (all_done w c) o a → is_directory a ≡ false → ⊥
  no_file_now dir o a stat file =
      no_file r dir o a (subst (λ m. HasStat m o a) h.content stat) file

-- ---- `stat` in a second transaction reads the leaf of the first one's atom: the reply differs in a set

module _ (limit : ℕ) where
  abbrev w : Meaning Command Reply
  w = commands limit

  ask_seen : IsVisible (alone mode_700) (w.after (Ask []) (all_done w (one_done limit)))
  ask_seen = subst (IsVisible (alone mode_700))
      (sym (ap (w.after (Ask [])) (one_ready limit).content ∙ stat_after mode_700 limit)) (small_visible mode_700)

  ask_reads : (k : ℕ) → is_in (w.reads (Ask []) (all_done w (one_done limit))) k ≡ true → is_in the_key k ≡ true
  ask_reads k e = ap (λ rs. is_in rs k)
      (sym (ap (w.reads (Ask [])) (one_ready limit).content ∙ stat_reads mode_700 limit)) ∙ e

  ask_changes : (k : ℕ) → is_in (w.changes (Ask []) (all_done w (one_done limit))) k ≡ true → is_in [] k ≡ true
  ask_changes k e = ap (λ rs. is_in rs k)
      (sym (ap (w.changes (Ask [])) (one_ready limit).content ∙ stat_changes mode_700 limit)) ∙ e

  ask_fails : Sets w (applied w (one_done limit) (txn 2) (script 2) 1 (Ask []) no_patch) → ⊥
  ask_fails sets =
      let told = (sets.each (only 2)).replies.0 refl in
      let now = ap (w.reply (Ask [])) (one_ready limit).content ∙ stat_reply mode_700 limit in
      let was = stat_reply root_attr limit in
      unlike (ap mode_in (sym now ∙ told ∙ was))
    where
      mode_in : Reply → ℕ
      mode_in (AttrReply a) = a.mode
      mode_in r = 0

  pub reach_needed : IsNeeded Reach
  reach_needed = record {
    meaning = w;
    local = local limit;
    session = one_done limit;
    sets = (one_ready limit).sets;
    txn = txn 2;
    script = script 2;
    index = 1;
    command = Ask [];
    change = no_patch;
    all_else = record {
      unsealed = λ h. h;
      touched = the_key;
      changed = [];
      patch = no_patch_is;
      meets = meets_none w [] [] mode_700 (one_done limit) (one_ready limit);
      after = alone mode_700;
      units = units_now w [] [] mode_700 (one_done limit) (one_ready limit);
      files = lone_files (one_done limit).memory mode_700 refl refl;
      visible = ask_seen;
      reads = ask_reads;
      changes = ask_changes;
      within = λ k e. absurd (no_true e);
      stays = λ k off v. (λ x. x, λ x. x);
      stats = λ k e four. absurd (no_body_key k e four);
      bodies = λ o a stat file e. absurd
          (no_file_now w [] [] mode_700 (one_done limit) (one_ready limit) refl o a stat file);
      own = λ i e. absurd (no_true e);
      reach = tt;
    };
    fails = ask_fails;
  }

  pub reads_needed : IsNeeded Reads
  reads_needed = record {
    meaning = w;
    local = local limit;
    session = one_done limit;
    sets = (one_ready limit).sets;
    txn = txn 2;
    script = script 2;
    index = 1;
    command = Ask [];
    change = no_patch;
    all_else = record {
      unsealed = λ h. h;
      touched = [];
      changed = [];
      patch = no_patch_is;
      meets = meets_none w [] [] mode_700 (one_done limit) (one_ready limit);
      after = alone mode_700;
      units = units_now w [] [] mode_700 (one_done limit) (one_ready limit);
      files = lone_files (one_done limit).memory mode_700 refl refl;
      visible = ask_seen;
      reads = tt;
      changes = ask_changes;
      within = λ k e. absurd (no_true e);
      stays = λ k off v. (λ x. x, λ x. x);
      stats = λ k e four. absurd (no_true e);
      bodies = λ o a stat file e. absurd (no_true e);
      own = λ i e. absurd (no_true e);
      reach = λ k e from to. absurd (no_true e);
    };
    fails = ask_fails;
  }

  -- ---- a command of a sealed atom

  abbrev one_sealed : Session
  one_sealed = sealed (one_done limit) (atom 1)

  sealed_ready : Ready w [] [] mode_700 one_sealed
  sealed_ready = record {
    memory = (one_ready limit).memory;
    root = (one_ready limit).root;
    content =
        (one_ready limit).content;
    sets = sealed_sets w (one_done limit) (one_ready limit).sets (atom 1);
  }

  again : Does w (chmod 0o750) one_sealed.memory one_sealed.root (all_done w one_sealed)
      (changing [] [] mode_700 mode_750) the_key the_key
  again = in_session [] [] [] mode_700 mode_750 w (chmod 0o750) refl refl refl (mode_after mode_700 limit 0o750)
      (reads_in mode_700 limit 0o750) (changes_in mode_700 limit 0o750) one_sealed sealed_ready.memory
      sealed_ready.root sealed_ready.content

  sealed_fails : Sets w (applied w one_sealed (txn 1) (script 1) 2 (chmod 0o750) (changing [] [] mode_700 mode_750)) → ⊥
  sealed_fails sets =
      unlike_two (mode_at_leaf _ _ _ (sets.each nothing).is [] mode_700 mode_750 refl
      (ap (w.after (chmod 0o750)) (mode_after root_attr limit 0o700) ∙ mode_after mode_700 limit 0o750))

  pub unsealed_needed : IsNeeded Unsealed
  unsealed_needed = record {
    meaning = w;
    local = local limit;
    session = one_sealed;
    sets = sealed_ready.sets;
    txn = txn 1;
    script = script 1;
    index = 2;
    command = chmod 0o750;
    change = changing [] [] mode_700 mode_750;
    all_else = record {
      unsealed = tt;
      touched = the_key;
      changed = the_key;
      patch = again.patch;
      meets = again.meets;
      after = again.after;
      units = again.units;
      files = again.files;
      visible = again.visible;
      reads = again.reads;
      changes = again.changes;
      within = again.within;
      stays = again.stays;
      stats = again.stats;
      bodies = again.bodies;
      own = λ i e. subst (λ q. IsFree one_sealed 1 q)
          (sym (touched_is [] [] [] mode_700 mode_750 i e)) (inl refl);
      reach = reached [] [] [] mode_700 mode_750 w (chmod 0o750) refl refl refl (mode_after mode_700 limit 0o750)
          (reads_in mode_700 limit 0o750) (changes_in mode_700 limit 0o750) one_sealed sealed_ready.memory
          sealed_ready.root sealed_ready.content 1 (inl refl);
    };
    fails = sealed_fails;
  }
