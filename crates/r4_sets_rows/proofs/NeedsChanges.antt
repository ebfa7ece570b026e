-- Why each thing is asked of a change: changes of the small tree that are no patch, that give other units, or that
-- belong to
-- another atom.
use Rattle.std.specs.Prelude.{◌≡◌, ℕ, zero, List, [], ◌∷◌, cond, Contains, Bool, Option, Some, None, true, false, ◌==◌}
use Rattle.std.specs.FinMap.{insert}
use Rattle.std.proofs.Common.{arith, inl, inr, refl, sym, ap, subst, ◌∙◌}
use Rattle.std.proofs.Math.Nat.{le_refl}
use Rattle.std.proofs.lemmas.Bool.{eqb-true, ne_eqb, eq-eqb}
use Rattle.std.proofs.lemmas.Option.{none-some, same_Some}
use Rattle.r4_base.specs.Key.{least, top}
use Rattle.r4_base.specs.Tree.{IsNode, Node, Store}
use Rattle.r4_base.specs.Value.{Value, Stat, Content, at_key}
use Rattle.r4_base.specs.Volume.{HasUnits, IsVisible, root_attr, root_object}
use Rattle.r4_base.specs.declared.items.Attr.{Attr}
use Rattle.r4_base.proofs.Choices.{nothing_in}
use Rattle.r4_base.proofs.FreshTree.{least_below}
use Rattle.r4_base.proofs.FreshVolume.{root_rank}
use Rattle.r4_cell.specs.Patch.{IsPatch, Meets, Patch, over, place}
use Rattle.r4_patch.proofs.Placed.{over_from}
use Rattle.r4_patch.specs.Effect.{Placed, UnitIn}
use Rattle.r4_patch.specs.SecondRoot.{small_root}
use Rattle.r4_content.specs.Edited.{is_in}
use Rattle.r4_content.specs.Locality.{IsLocal, Meaning, commands}
use Rattle.r4_content.specs.declared.command.Command.{Command}
use Rattle.r4_content.specs.declared.command.Command.TheVariants.{Begin}
use Rattle.r4_content.specs.declared.reply.Reply.{Reply}
use Rattle.r4_content.specs.declared.reply.Reply.TheVariants.{Okay}
use Rattle.r4_content.proofs.CourseLaws.{local}
use Rattle.r4_content.proofs.EditLaws.{at_insert, same_content}
use Rattle.r4_content.proofs.Ranks.{root_is_object}
use Rattle.r4_trace.specs.Folds.{everything}
use Rattle.r4_sets.specs.Change.{applied, no_patch}
use Rattle.r4_sets.specs.Session.{Session, Sets, all_done, only}
use Rattle.r4_sets.specs.Units.{SameUnit}
use Rattle.r4_sets.proofs.Answered.{no_patch_is}
use Rattle.r4_sets_rows.specs.Needed.{IsNeeded, Changes, HasItsFiles, HasItsUnits, IsItsPatch, IsSeen, MeetsIt, Own}
use Rattle.r4_sets_rows.specs.Needed.{Within}
use Rattle.r4_sets_rows.specs.Small.{alone, begun, changing, chmod, leaf_with, script, small_store, txn}
use Rattle.r4_sets_rows.specs.Worked.{mode_700}
use Rattle.r4_sets_rows.proofs.Modes.{changes_in, mode_after, reads_in}
use Rattle.r4_sets_rows.proofs.NeedsSmall.{meets_none, no_true, one_done, one_ready, units_now, unlike}
use Rattle.r4_sets_rows.proofs.Ready.{Ready, begun_ready}
use Rattle.r4_sets_rows.proofs.Setting.{is_one, meets, memory_after, mode_at_leaf, no_body_key, one_of, stays}
use Rattle.r4_sets_rows.proofs.Setting.{patch, placed, setting_sets, the_key}
use Rattle.r4_sets_rows.proofs.SmallTree.{at_alone, leaf_there, lone_files, no_file, small_cell, small_units}
use Rattle.r4_sets_rows.proofs.SmallTree.{small_visible}
use Rattle.r4_sets.proofs.Applied.{memory_stands}

-- ---- the bytes of a leaf that another atom has are changed

-- the same units, in other bytes
same_leaf : (a b e : List ℕ) (r : Attr) (k : ℕ) → SameUnit (small_store a b r) (small_store a e r) k
same_leaf a b e r k v = (over_to b e, over_to e b)
  where
    over_to : (b e : List ℕ) → UnitIn (small_store a b r) k v → UnitIn (small_store a e r) k v
    over_to b e (i, c, tc, has, kind) = elim (small_cell a b r i c tc) [
      | inl h ↦ absurd (nothing_in (k, v.0) (subst (λ x. Contains x.units (k, v.0)) h.1 has))
      | inr h ↦ (
        23,
        leaf_with e r,
        leaf_there a e r,
        subst (λ x. Contains x.units (k, v.0)) h.1 has,
        subst
            (λ x. (x.level == 1) ≡ v.1) h.1 kind,
      )
    ]

module _ (limit : ℕ) where
  abbrev w : Meaning Command Reply
  w = commands limit

  abbrev rewriting : Patch Value
  rewriting = changing [] (1 ∷ []) mode_700 mode_700

  ready : Ready w [] [] mode_700 (one_done limit)
  ready = one_ready limit

  rewritten : place rewriting (one_done limit).memory ≡ small_store [] (1 ∷ []) mode_700
  rewritten = ap (place rewriting) ready.memory ∙ placed [] [] (1 ∷ []) mode_700 mode_700

  same_to : (k : ℕ) → SameUnit (one_done limit).memory (place rewriting (one_done limit).memory) k
  same_to k =
      subst (λ t. SameUnit t (place rewriting (one_done limit).memory) k) (sym ready.memory)
      (subst (λ t. SameUnit (small_store [] [] mode_700) t k) (sym rewritten) (same_leaf [] [] (1 ∷ []) mode_700 k))

  pub own_needed : IsNeeded Own
  own_needed = record {
    meaning = w;
    local = local limit;
    session = one_done limit;
    sets = ready.sets;
    txn = txn 2;
    script = script 2;
    index = 1;
    command = Begin;
    change = rewriting;
    all_else = record {
      unsealed = λ h. h;
      touched = [];
      changed = [];
      patch = patch [] [] (1 ∷ []) mode_700 mode_700;
      meets = subst (λ t. Meets rewriting t small_root) (sym ready.memory) (meets [] [] (1 ∷ []) mode_700 mode_700);
      after = alone mode_700;
      units = subst (λ t. HasUnits t (alone mode_700)) (sym rewritten) (small_units [] (1 ∷ []) mode_700);
      files = lone_files (place rewriting (one_done limit).memory) mode_700 refl refl;
      visible = subst (IsVisible (alone mode_700)) (sym ready.content) (small_visible mode_700);
      reads = λ k e. e;
      changes = λ k e. e;
      within = λ k e. e;
      stays = λ k off. same_to k;
      stats = λ k e four. absurd (no_true e);
      bodies = λ o a stat file e. absurd (no_true e);
      own = tt;
      reach = λ k e from to. absurd (no_true e);
    };
    fails = λ sets. unlike (mode_at_leaf _ _ _ (sets.each (only 2)).is (1 ∷ []) mode_700 root_attr refl refl);
  }

  -- ---- a cell that nobody names

  abbrev stray : Node Value
  stray = record { level = 1; lo = least; hi = top; block = []; names = []; spans = []; units = [] }

  abbrev at_99 : Store Value
  at_99 i = cond (i == 99) (Some stray) None

  abbrev adding : Patch Value
  adding = record { old = λ i. None; new = at_99; root = None }

  abbrev claiming : Patch Value
  claiming = record { old = at_99; new = at_99; root = None }

  from_99 : (i : ℕ) (c : Node Value) → at_99 i ≡ Some c → (i ≡ 99) × (c ≡ stray)
  from_99 i c e = by_test (i == 99) refl e
    where
      by_test : (q : Bool) → (i == 99) ≡ q → cond q (Some stray) None ≡ Some c → (i ≡ 99) × (c ≡ stray)
      by_test true at f = (eqb-true i 99 at, sym (same_Some stray c f))
      by_test false at f = absurd (none-some c f)

  abbrev small : Store Value
  small = small_store [] [] root_attr

  -- the units are those of the small tree
  module _ (d : Patch Value) (new_is : (i : ℕ) → d.new i ≡ at_99 i) (old_in : (i : ℕ) (c : Node Value) → d.old i
      ≡ Some c → i ≡ 99) where
    there_still : (i : ℕ) (c : Node Value) → small i ≡ Some c → place d small i ≡ Some c
    unfolding small_store
    there_still i c tc = by_new (d.new i) (d.old i) refl refl
      where
        not_99 : i ≡ 99 → ⊥
        not_99 e = none-some c (sym (ap small e) ∙ tc)

        by_new : (n o : Option (Node Value)) → d.new i ≡ n → d.old i ≡ o → over n o (small i) ≡ Some c
        by_new (Some x) o e f = absurd (not_99 (from_99 i x (sym (new_is i) ∙ e)).0)
        by_new None (Some x) e f = absurd (not_99 (old_in i x f))
        by_new None None e f = tc

    unit_to : (k : ℕ) (v : Placed Value) → UnitIn small k v → UnitIn (place d small) k v
    unit_to k v (i, c, tc, has, kind) = (i, c, there_still i c tc, has, kind)

    unit_back : (k : ℕ) (v : Placed Value) → UnitIn (place d small) k v → UnitIn small k v
    unit_back k v (i, c, tc, has, kind) = elim (over_from (d.new i) (d.old i) (small i) c tc) [
      | inl n ↦ absurd (nothing_in (k, v.0)
          (subst (λ (x : Node Value). Contains x.units (k, v.0)) (from_99 i c (sym (new_is i) ∙ n)).1 has))
      | inr h ↦ (i, c, h.2, has, kind)
    ]

    pub same_units : (k : ℕ) → SameUnit small (place d small) k
    same_units k v = (unit_to k v, unit_back k v)

    pub has_units : HasUnits (place d small) (alone root_attr)
    has_units k v = (
      λ e. let (i, c, tc, has) = (small_units [] [] root_attr k v).0 e in (i, c, there_still i c tc, has),
      λ (i, c, tc, has). let (j, x, tx, there, _) =
          unit_back k (v, c.level == 1) (i, c, tc, has, refl) in (small_units [] [] root_attr k v).1 (j, x, tx, there),
    )

  stray_node : IsNode stray
  stray_node = record {
    from_least = le_refl least;
    nonempty = least_below;
    to_top = le_refl top;
    below = λ n h. absurd (nothing_in n h);
    name_nonempty = λ n h. absurd (nothing_in n h);
    name_from = λ n h. absurd (nothing_in n h);
    name_to = λ n h. absurd (nothing_in n h);
    names_apart = λ n m k x y _ _ _. absurd (nothing_in n x);
    spans_apart = λ n s k x _ _ _. absurd (nothing_in n x);
    span_from = λ s h. absurd (nothing_in s h);
    span_to = λ s h. absurd (nothing_in s h);
    spans_in_twigs = λ s h. absurd (nothing_in s h);
    covered = λ k two _. absurd (omega (arith, two));
    data_in_span = λ n h _. absurd (nothing_in n h);
    unit_in = λ k v h. absurd (nothing_in (k, v) h);
    unit_low = λ k v h. absurd (nothing_in (k, v) h);
    unit_in_hole = λ n k v x _ _ _. nothing_in n x;
    one_unit = λ k v w x y. absurd (nothing_in (k, v) x);
  }

  claiming_is : IsPatch claiming
  claiming_is = record {
    nodes = λ i c e. subst IsNode (sym (from_99 i c e).1) stray_node;
    covers_old = λ l k two h. h;
    covers_new = λ l k two h. inl h;
    new_root = λ r e. absurd (none-some r e);
    apart = λ i j c d k x y _ _ _ _. (from_99 i c x).0 ∙ sym (from_99 j d y).0;
    named = λ n (i, c, e, h). absurd
        (nothing_in n (subst (λ (x : Node Value). Contains x.names n) (from_99 i c e).1 h));
    kept = λ n h gone. h;
    replaced = λ i c e un. inl (c, e, (refl, refl, refl));
    reached = λ i c e need. absurd (elim need [
      | inl gone ↦ none-some c (sym gone ∙ e)
      | inr h ↦ elim h [
        | inl g ↦ let (n, (j, d, x, has), is) =
            g in nothing_in n (subst (λ (y : Node Value). Contains y.names n) (from_99 j d x).1 has)
        | inr g ↦ let (o, x, other) = g in other (let same : o ≡ c =
            same_Some o c (sym x ∙ e) in (
              ap (λ (y : Node Value). y.level) same,
              ap (λ (y : Node Value). y.lo) same,
              ap
                  (λ (y : Node Value). y.hi) same,
            ))
      ]
    ]);
    leaves_old = λ k h. h;
    leaves_new = λ k h. h;
  }

  stray_fails : (c : Session) → c.memory 23 ≡ Some (leaf_with [] root_attr) → c.memory 99 ≡ Some stray → Sets w c → ⊥
  stray_fails c leaf at sets =
      let tree = (memory_stands w c sets).is.tree in
      let same : 23 ≡ 99 = tree.apart 23 99 (leaf_with [] root_attr) stray least leaf at refl (le_refl 1)
      (le_refl least, least_below) (le_refl least, least_below) in
      absurd (omega (arith, same))

  pub patch_needed : IsNeeded IsItsPatch
  unfolding small_store
  patch_needed = record {
    meaning = w;
    local = local limit;
    session = begun [] [];
    sets = (begun_ready w [] []).sets;
    txn = txn 1;
    script = script 1;
    index = 1;
    command = Begin;
    change = adding;
    all_else = record {
      unsealed = λ h. h;
      touched = [];
      changed = [];
      patch = tt;
      meets = record {
        has_old = λ i c e. absurd (none-some c e);
        free = λ i c e gone. let is = (from_99 i c e).0 in subst (λ q. small q ≡ None) (sym is) refl;
        root_old = λ e. absurd (no_true e);
      };
      after = alone root_attr;
      units = has_units adding (λ i. refl) (λ i c e. absurd (none-some c e));
      files = lone_files (place adding small) root_attr refl refl;
      visible = small_visible root_attr;
      reads = λ k e. e;
      changes = λ k e. e;
      within = λ k e. e;
      stays = λ k off. same_units adding (λ i. refl) (λ i c e. absurd (none-some c e)) k;
      stats = λ k e four. absurd (no_true e);
      bodies = λ o a stat file e. absurd (no_true e);
      own = λ i e. inl refl;
      reach = λ k e from to. absurd (no_true e);
    };
    fails = stray_fails _ refl refl;
  }

  pub meets_needed : IsNeeded MeetsIt
  unfolding small_store
  meets_needed = record {
    meaning = w;
    local = local limit;
    session = begun [] [];
    sets = (begun_ready w [] []).sets;
    txn = txn 1;
    script = script 1;
    index = 1;
    command = Begin;
    change = claiming;
    all_else = record {
      unsealed = λ h. h;
      touched = [];
      changed = [];
      patch = claiming_is;
      meets = tt;
      after = alone root_attr;
      units = has_units claiming (λ i. refl) (λ i c e. (from_99 i c e).0);
      files = lone_files (place claiming small) root_attr refl refl;
      visible = small_visible root_attr;
      reads = λ k e. e;
      changes = λ k e. e;
      within = λ k e. e;
      stays = λ k off. same_units claiming (λ i. refl) (λ i c e. (from_99 i c e).0) k;
      stats = λ k e four. absurd (no_true e);
      bodies = λ o a stat file e. absurd (no_true e);
      own = λ i e. inl refl;
      reach = λ k e from to. absurd (no_true e);
    };
    fails = stray_fails _ refl refl;
  }

  -- ---- the mode is to change, and no cell does

  after_mode : w.after (chmod 0o700) (alone root_attr) ≡ alone mode_700
  after_mode = mode_after root_attr limit 0o700

  undone_fails : Sets w (applied w (begun [] []) (txn 1) (script 1) 1 (chmod 0o700) no_patch) → ⊥
  unfolding small_store
  undone_fails sets = unlike (sym (mode_at_leaf _ _ _ (sets.each everything).is [] root_attr mode_700 refl after_mode))

  pub units_needed : IsNeeded HasItsUnits
  units_needed = record {
    meaning = w;
    local = local limit;
    session = begun [] [];
    sets = (begun_ready w [] []).sets;
    txn = txn 1;
    script = script 1;
    index = 1;
    command = chmod 0o700;
    change = no_patch;
    all_else = record {
      unsealed = λ h. h;
      touched = the_key;
      changed = the_key;
      patch = no_patch_is;
      meets = meets_none w [] [] root_attr (begun [] []) (begun_ready w [] []);
      after = alone mode_700;
      units = tt;
      files = lone_files small mode_700 refl refl;
      visible = subst (IsVisible (alone mode_700)) (sym after_mode) (small_visible mode_700);
      reads = reads_in root_attr limit 0o700;
      changes = changes_in root_attr limit 0o700;
      within = λ k e. e;
      stays = λ k off v. (λ x. x, λ x. x);
      stats = λ k e four. absurd (no_body_key k e four);
      bodies = λ o a stat file e. absurd (no_file root_attr refl o a stat file);
      own = λ i e. absurd (no_true e);
      reach = λ k e from to. (
        23,
        leaf_with [] root_attr,
        leaf_there [] [] root_attr,
        inl (le_refl 1, (from, to)),
        inl
            refl,
      );
    };
    fails = undone_fails;
  }

  pub seen_needed : IsNeeded IsSeen
  seen_needed = record {
    meaning = w;
    local = local limit;
    session = begun [] [];
    sets = (begun_ready w [] []).sets;
    txn = txn 1;
    script = script 1;
    index = 1;
    command = chmod 0o700;
    change = no_patch;
    all_else = record {
      unsealed = λ h. h;
      touched = the_key;
      changed = the_key;
      patch = no_patch_is;
      meets = meets_none w [] [] root_attr (begun [] []) (begun_ready w [] []);
      after = alone root_attr;
      units = small_units [] [] root_attr;
      files = lone_files small root_attr refl refl;
      visible = tt;
      reads = reads_in root_attr limit 0o700;
      changes = changes_in root_attr limit 0o700;
      within = λ k e. e;
      stays = λ k off v. (λ x. x, λ x. x);
      stats = λ k e four. absurd (no_body_key k e four);
      bodies = λ o a stat file e. absurd (no_file root_attr refl o a stat file);
      own = λ i e. absurd (no_true e);
      reach = λ k e from to. (
        23,
        leaf_with [] root_attr,
        leaf_there [] [] root_attr,
        inl (le_refl 1, (from, to)),
        inl
            refl,
      );
    };
    fails = undone_fails;
  }

-- ---- commands that set the attributes of the root directory, whatever they are

abbrev pub blind : Attr → Meaning Command Reply
blind a = record {
  after = λ x m. insert m least (Stat a);
  reply = λ x m. Okay;
  reads = λ x m. [];
  changes = λ x m. the_key;
}

set_alone : (a r : Attr) → insert (alone r) least (Stat a) ≡ alone a
set_alone a r = same_content (insert (alone r) least (Stat a)) (alone a) (λ k.
    at_insert (alone r) least (Stat a) k
    ∙ ap (cond (k == least) (Some (Stat a))) (at_alone r k)
    ∙ once (k == least) (Some (Stat a)) (Some (Stat r))
    ∙ sym (at_alone a k))
  where
    once : (q : Bool) (x y : Option Value) → cond q x (cond q y None) ≡ cond q x None
    once true x y = refl
    once false x y = refl

blind_local : (a : Attr) → IsLocal (blind a)
blind_local a = record {
  same_reads = λ x m n h. refl;
  same_changes = λ x m n h. refl;
  same_reply = λ x m n h. refl;
  same_values = λ x m n k h on. set_at m k (one_of k on) ∙ sym (set_at n k (one_of k on));
  others = λ x m k off. at_insert m least (Stat a) k
      ∙ ap (λ b. cond b (Some (Stat a)) (at_key m k)) (ne_eqb k least (λ e. on_it k e off));
}
  where
    set_at : (m : Content) (k : ℕ) → k ≡ least → at_key (insert m least (Stat a)) k ≡ Some (Stat a)
    set_at m k e = at_insert m least (Stat a) k ∙ ap (λ q. cond (q == least) (Some (Stat a)) (at_key m k)) e
        ∙ ap (λ b. cond b (Some (Stat a)) (at_key m k)) (eq-eqb least least refl)

    on_it : (k : ℕ) → k ≡ least → is_in the_key k ≡ false → ⊥
    on_it k e off = let f : true ≡ false = sym is_one ∙ ap (is_in the_key) (sym e) ∙ off in cc

-- a directory whose count of bytes is not its size
abbrev bad : Attr
bad = record root_attr { bytes = 1 }

pub files_needed : IsNeeded HasItsFiles
files_needed = record {
  meaning = blind bad;
  local = blind_local bad;
  session = begun [] [];
  sets = (begun_ready (blind bad) [] []).sets;
  txn = txn 1;
  script = script 1;
  index = 1;
  command = Begin;
  change = changing [] [] root_attr bad;
  all_else = record {
    unsealed = λ h. h;
    touched = the_key;
    changed = the_key;
    patch = patch [] [] [] root_attr bad;
    meets = meets [] [] [] root_attr bad;
    after = alone bad;
    units = subst (λ t. HasUnits t (alone bad)) (sym (placed [] [] [] root_attr bad)) (small_units [] [] bad);
    files = tt;
    visible = subst (IsVisible (alone bad)) (sym (set_alone bad root_attr)) (small_visible bad);
    reads = λ k e. absurd (no_true e);
    changes = λ k e. e;
    within = λ k e. e;
    stays = stays [] [] [] root_attr bad;
    stats = λ k e four. absurd (no_body_key k e four);
    bodies = λ o a stat file e. absurd (no_file root_attr refl o a stat file);
    own = λ i e. inl refl;
    reach = λ k e from to. (
      23,
      leaf_with [] root_attr,
      leaf_there [] [] root_attr,
      inl (le_refl 1, (from, to)),
      inl
          refl,
    );
  };
  fails = λ sets.
      let h = (sets.each everything).is in
      let raw = (h.units least (Stat bad)).1 (23, leaf_with [] bad, refl, (zero, omega arith, refl)) in
      let same = h.files.bytes root_object bad (root_is_object, ap (at_key h.raw) root_rank ∙ raw) in
      absurd (omega (arith, same));
}

-- ---- a second command sets what a first one of another atom has set: no cell changes

abbrev set_once : Session
set_once = applied (blind mode_700) (begun [] []) (txn 1) (script 1) 1 Begin (changing [] [] root_attr mode_700)

set_ready : Ready (blind mode_700) [] [] mode_700 set_once
set_ready = record {
  memory = memory_after [] [] [] root_attr mode_700 (blind mode_700) Begin refl refl refl
      (set_alone mode_700 root_attr) (λ k e. absurd (no_true e)) (λ k e. e) (begun [] []) refl refl refl (txn 1)
      (λ h. h) (inl refl) (script 1) 1;
  root = refl;
  content = set_alone mode_700 root_attr;
  sets = setting_sets [] [] [] root_attr mode_700 (blind mode_700) Begin refl refl refl (set_alone mode_700 root_attr)
      (λ k e. absurd (no_true e)) (λ k e. e) (begun [] []) refl refl refl (txn 1) (λ h. h) (inl refl)
      (blind_local mode_700) (begun_ready (blind mode_700) [] []).sets (script 1) 1;
}

set_seen : IsVisible (alone mode_700) (insert (all_done (blind mode_700) set_once) least (Stat mode_700))
set_seen = subst (IsVisible (alone mode_700))
    (sym (ap (λ (m : Content). insert m least (Stat mode_700)) set_ready.content ∙ set_alone mode_700 mode_700))
    (small_visible mode_700)

twice_fails : Sets (blind mode_700) (applied (blind mode_700) set_once (txn 2) (script 2) 1 Begin no_patch) → ⊥
unfolding small_store
twice_fails sets = unlike (sym
    (mode_at_leaf _ _ _ (sets.each (only 2)).is [] root_attr mode_700 refl (set_alone mode_700 root_attr)))

pub changes_needed : IsNeeded Changes
changes_needed = record {
  meaning = blind mode_700;
  local = blind_local mode_700;
  session = set_once;
  sets = set_ready.sets;
  txn = txn 2;
  script = script 2;
  index = 1;
  command = Begin;
  change = no_patch;
  all_else = record {
    unsealed = λ h. h;
    touched = [];
    changed = [];
    patch = no_patch_is;
    meets = meets_none (blind mode_700) [] [] mode_700 set_once set_ready;
    after = alone mode_700;
    units = units_now (blind mode_700) [] [] mode_700 set_once set_ready;
    files = lone_files set_once.memory mode_700 refl refl;
    visible = set_seen;
    reads = λ k e. e;
    changes = tt;
    within = λ k e. e;
    stays = λ k off v. (λ x. x, λ x. x);
    stats = λ k e four. absurd (no_true e);
    bodies = λ o a stat file e. absurd (no_true e);
    own = λ i e. absurd (no_true e);
    reach = λ k e from to. absurd (no_true e);
  };
  fails = twice_fails;
}

pub within_needed : IsNeeded Within
within_needed = record {
  meaning = blind mode_700;
  local = blind_local mode_700;
  session = set_once;
  sets = set_ready.sets;
  txn = txn 2;
  script = script 2;
  index = 1;
  command = Begin;
  change = no_patch;
  all_else = record {
    unsealed = λ h. h;
    touched = [];
    changed = the_key;
    patch = no_patch_is;
    meets = meets_none (blind mode_700) [] [] mode_700 set_once set_ready;
    after = alone mode_700;
    units = units_now (blind mode_700) [] [] mode_700 set_once set_ready;
    files = lone_files set_once.memory mode_700 refl refl;
    visible = set_seen;
    reads = λ k e. absurd (no_true e);
    changes = λ k e. e;
    within = tt;
    stays = λ k off v. (λ x. x, λ x. x);
    stats = λ k e four. absurd (no_true e);
    bodies = λ o a stat file e. absurd (no_true e);
    own = λ i e. absurd (no_true e);
    reach = λ k e from to. absurd (no_true e);
  };
  fails = twice_fails;
}
