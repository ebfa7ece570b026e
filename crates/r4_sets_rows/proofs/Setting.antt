-- A command that sets the attributes of the root directory is done by a change of the leaf.
use Rattle.std.specs.Prelude.{◌≡◌, ◌↔◌, ◌⊎◌, ℕ, ◌+◌, ◌*◌, ◌/◌, ◌%◌, ◌<◌, ◌≤◌, zero, List, [], ◌∷◌, cond, Contains, Bool}
use Rattle.std.specs.Prelude.{Option, Some, None, true, false, ◌||◌, ◌==◌, if◌then◌else◌}
use Rattle.std.proofs.Common.{arith, inl, inr, refl, sym, ap, subst, ◌∙◌}
use Rattle.std.proofs.Math.Nat.{le_refl}
use Rattle.std.proofs.lemmas.Bool.{eqb-true, eq-eqb, or_cases}
use Rattle.std.proofs.lemmas.Option.{none-some, same_Some}
use Rattle.r4_base.specs.Key.{key_of_rank, least, minor_of}
use Rattle.r4_base.specs.Tree.{IsTree, Node, Root, Store}
use Rattle.r4_base.specs.Value.{Value, Stat, Content, at_key}
use Rattle.r4_base.specs.Volume.{HasUnits, IsVisible, is_directory}
use Rattle.r4_base.specs.declared.items.Attr.{Attr}
use Rattle.r4_base.specs.declared.things.ScriptNo.{ScriptNo}
use Rattle.r4_base.specs.declared.things.TxnNo.{TxnNo}
use Rattle.r4_base.proofs.FreshTree.{only}
use Rattle.r4_cell.specs.Patch.{IsPatch, Meets, over, place}
use Rattle.r4_patch.proofs.Converse.{patch_from_trees}
use Rattle.r4_patch.specs.Effect.{UnitIn}
use Rattle.r4_patch.specs.SecondRoot.{small_root, whole_twig}
use Rattle.r4_content.specs.Edited.{Intervals, is_between, is_in}
use Rattle.r4_content.specs.Locality.{IsLocal, Meaning}
use Rattle.r4_content.specs.declared.command.Command.{Command}
use Rattle.r4_content.specs.declared.reply.Reply.{Reply}
use Rattle.r4_content.proofs.EditLaws.{one_key}
use Rattle.r4_trace.specs.Traced.{IsSealed, atom_in}
use Rattle.r4_sets.specs.Change.{Applies, Does, IsFree, IsReached, applied, touches}
use Rattle.r4_sets.specs.Session.{IsTreeOf, Session, Sets, all_done}
use Rattle.r4_sets.specs.Units.{SameUnit}
use Rattle.r4_sets.proofs.Applied.{applied_sets}
use Rattle.r4_sets.proofs.Carried.{not_both_ways}
use Rattle.r4_sets_rows.specs.Small.{alone, changing, leaf_with, small_store}
use Rattle.r4_sets_rows.proofs.SmallTree.{found, leaf_there, least_key, lone_files, no_file, small_is_tree, small_units}
use Rattle.r4_sets_rows.proofs.SmallTree.{small_visible, there}

-- ---- the key of the root's stat data

unfoldable pub the_key : Intervals
the_key = (least, least + 1) ∷ []

pub one_of : (k : ℕ) → is_in the_key k ≡ true → k ≡ least
unfolding the_key
one_of k e = elim (or_cases (is_between least (least + 1) k) false e) [
  | inl h ↦ eqb-true k least (sym (one_key k least) ∙ h)
  | inr h ↦ absurd (not_both_ways h refl)
]

pub is_one : is_in the_key least ≡ true
unfolding the_key
is_one = ap (λ b. b || false) (one_key least least ∙ eq-eqb least least refl)

pub no_body_key : (k : ℕ) → is_in the_key k ≡ true → minor_of (key_of_rank k) ≡ 4 → ⊥
no_body_key k h four =
    let one : 1 ≡ 4 = sym least_key.0 ∙ ap (λ x. minor_of (key_of_rank x)) (sym (one_of k h)) ∙ four in
    absurd (omega (arith, one))

-- ---- what a tree says whose leaf has these attributes

pub seen_at_leaf : (t : Store Value) (root : Root) (m : Content) → IsTreeOf t root m → (b : List ℕ) (r : Attr) → t 23
    ≡ Some (leaf_with b r)
    → at_key m least ≡ Some (Stat r)
seen_at_leaf t root m h b r is =
    let raw = (h.units least (Stat r)).1 (23, leaf_with b r, is, (zero, omega arith, refl)) in
    (h.visible least (Stat r)).1 (raw, λ p. p)

pub mode_at_leaf : (t : Store Value) (root : Root) (m : Content) → IsTreeOf t root m → (b : List ℕ) (r q : Attr) → t 23
    ≡ Some (leaf_with b r)
    → m ≡ alone q → r.mode ≡ q.mode
mode_at_leaf t root m h b r q is content =
    let one = seen_at_leaf t root m h b r is in
    let two : Stat r ≡ Stat q = same_Some (Stat r) (Stat q) (sym one ∙ ap (λ x. at_key x least) content ∙ there q) in
    ap mode_in two
  where
    mode_in : Value → ℕ
    mode_in (Stat a) = a.mode
    mode_in v = 0

-- ---- the change

module _ (a b e : List ℕ) (r q : Attr) where
  from_old : (i : ℕ) (c : Node Value) → (changing b e r q).old i ≡ Some c → (i ≡ 23) × (c ≡ leaf_with b r)
  from_old i c is = by_test (i == 23) refl is
    where
      by_test : (p : Bool) → (i == 23) ≡ p → cond p (Some (leaf_with b r)) None ≡ Some c → (i ≡ 23)
          × (c ≡ leaf_with b r)
      by_test true at h = (eqb-true i 23 at, sym (same_Some (leaf_with b r) c h))
      by_test false at h = absurd (none-some c h)

  from_new : (i : ℕ) (c : Node Value) → (changing b e r q).new i ≡ Some c → (i ≡ 23) × (c ≡ leaf_with e q)
  from_new i c is = by_test (i == 23) refl is
    where
      by_test : (p : Bool) → (i == 23) ≡ p → cond p (Some (leaf_with e q)) None ≡ Some c → (i ≡ 23)
          × (c ≡ leaf_with e q)
      by_test true at h = (eqb-true i 23 at, sym (same_Some (leaf_with e q) c h))
      by_test false at h = absurd (none-some c h)

  pub touched_is : (i : ℕ) → touches (changing b e r q) i ≡ true → i ≡ 23
  touched_is i h = by_test (i == 23) refl h
    where
      by_test : (p : Bool) → (i == 23) ≡ p → touches (changing b e r q) i ≡ true → i ≡ 23
      by_test true at f = eqb-true i 23 at
      by_test false at f =
          let none : touches (changing b e r q) i ≡ false =
          ap (λ p. Rattle.std.specs.Prelude.is_some (cond p (Some (leaf_with b r)) None) ||
          Rattle.std.specs.Prelude.is_some (cond p (Some (leaf_with e q)) None)) at in
          absurd (not_both_ways f none)

  pub placed : place (changing b e r q) (small_store a b r) ≡ small_store a e q
  unfolding small_store
  placed j i = by_test (i == 23) refl j
    where
      by_test : (p : Bool) → (i == 23) ≡ p
          → over ((changing b e r q).new i) ((changing b e r q).old i) (small_store a b r i) ≡ small_store a e q i
      by_test true at = subst (λ x. over ((changing b e r q).new x) ((changing b e r q).old x) (small_store a b r x)
          ≡ small_store a e q x) (sym (eqb-true i 23 at)) refl
      by_test false at =
          ap (λ p. over (cond p (Some (leaf_with e q)) None) (cond p (Some (leaf_with b r)) None)
          (if i == 22 then Some (whole_twig a) else if p then Some (leaf_with b r) else None)) at
          ∙ sym (ap (λ p. if i == 22 then Some (whole_twig a) else if p then Some (leaf_with e q) else None) at)

  pub meets : Meets (changing b e r q) (small_store a b r) small_root
  meets = record {
    has_old = λ i c is. let (at, same) =
        from_old i c is in subst (λ x. small_store a b r x ≡ Some c) (sym at) (leaf_there a b r ∙ ap Some (sym same));
    free = λ i c is gone. let (at, same) = from_new i c is in let h : None ≡ Some (leaf_with b r) = sym gone
        ∙ ap (λ x. (changing b e r q).old x) at in absurd (none-some (leaf_with b r) h);
    root_old = λ h. let f : false ≡ true = h in cc;
  }

  tree : IsTree (place (changing b e r q) (small_store a b r)) small_root
  tree = subst (λ t. IsTree t small_root) (sym placed) (small_is_tree a e q)

  pub patch : IsPatch (changing b e r q)
  patch = patch_from_trees (changing b e r q) (small_store a b r) small_root (small_is_tree a b r) meets tree
      (le_refl 2)

  -- no unit of the two leaves stands at another key
  not_there : (c : Node Value) (x : List ℕ) (y : Attr) (k : ℕ) (v : Value) → is_in the_key k ≡ false → c
      ≡ leaf_with x y → Contains c.units (k, v) → ⊥
  not_there c x y k v off same has =
      let is : (k, v) ≡ (least, Stat y) =
      only (least, Stat y) (k, v) (subst (λ (z : Node Value). Contains z.units (k, v)) same has) in
      not_both_ways is_one (ap (is_in the_key) (sym (ap (λ z. z.0) is)) ∙ off)

  pub stays : (k : ℕ) → is_in the_key k ≡ false
      → SameUnit (small_store a b r) (place (changing b e r q) (small_store a b r)) k
  stays k off v = subst (λ t. UnitIn (small_store a b r) k v ↔ UnitIn t k v) (sym placed)
      (λ x. absurd (none b r x), λ x. absurd (none e q x))
    where
      none : (b : List ℕ) (r : Attr) → UnitIn (small_store a b r) k v → ⊥
      none b r (i, c, tc, has, kind) =
          let at = (small_units a b r k v.0).1 (i, c, tc, has) in
          not_both_ways is_one (ap (is_in the_key) (sym (found r k v.0 at).0) ∙ off)

  -- ---- a command that sets them

  module _ (w : Meaning Command Reply) (x : Command) (dir_r : is_directory r ≡ true) (dir_q : is_directory q ≡ true)
      (size_q : q.bytes ≡ q.size)
      (after_is : w.after x (alone r) ≡ alone q) (reads_in : (k : ℕ) → is_in (w.reads x (alone r)) k ≡ true
      → is_in the_key k ≡ true)
      (changes_in : (k : ℕ) → is_in (w.changes x (alone r)) k ≡ true → is_in the_key k ≡ true) where
    pub does : Does w x (small_store a b r) small_root (alone r) (changing b e r q) the_key the_key
    does = record {
      patch = patch;
      meets = meets;
      after = alone q;
      units = subst (λ t. HasUnits t (alone q)) (sym placed) (small_units a e q);
      files = lone_files (place (changing b e r q) (small_store a b r)) q dir_q size_q;
      visible = subst (IsVisible (alone q)) (sym after_is) (small_visible q);
      reads = reads_in;
      changes = changes_in;
      within = λ k h. h;
      stays = stays;
      stats = λ k h four. absurd (no_body_key k h four);
      bodies = λ o y stat file h. absurd (no_file r dir_r o y stat file);
    }

    module _ (c : Session) (memory : c.memory ≡ small_store a b r) (root : c.root ≡ small_root) (content : all_done w c
        ≡ alone r) where
      pub in_session : Does w x c.memory c.root (all_done w c) (changing b e r q) the_key the_key
      in_session =
          subst (λ t. Does w x t c.root (all_done w c) (changing b e r q) the_key the_key) (sym memory)
          (subst (λ s. Does w x (small_store a b r) s (all_done w c) (changing b e r q) the_key the_key) (sym root)
          (subst (λ m. Does w x (small_store a b r) small_root m (changing b e r q) the_key the_key) (sym content)
          does))

      pub reached : (n : ℕ) → IsFree c n 23 → IsReached c n the_key
      reached n free k h from to = (
        23,
        leaf_with b r,
        ap (λ t. t 23) memory
            ∙ leaf_there a b r,
        inl (le_refl 1, (from, to)),
        free,
      )

      module _ (txn : TxnNo) (unsealed : IsSealed c.trace (atom_in c.trace txn.0) → ⊥)
          (free : IsFree c (atom_in c.trace txn.0) 23) where
        pub setting : Applies w c txn.0 x (changing b e r q)
        setting = record {
          unsealed = unsealed;
          touched = the_key;
          changed = the_key;
          does = in_session;
          own = λ i h. subst (IsFree c (atom_in c.trace txn.0)) (sym (touched_is i h)) free;
          reach = reached (atom_in c.trace txn.0) free;
        }

        pub memory_after : (script : ScriptNo) (index : ℕ) → (applied w c txn script index x (changing b e r q)).memory
            ≡ small_store a e q
        memory_after script index = ap (place (changing b e r q)) memory ∙ placed

        pub content_after : (script : ScriptNo) (index : ℕ)
            → all_done w (applied w c txn script index x (changing b e r q)) ≡ alone q
        content_after script index = ap (w.after x) content ∙ after_is

        pub setting_sets : IsLocal w → Sets w c → (script : ScriptNo) (index : ℕ)
            → Sets w (applied w c txn script index x (changing b e r q))
        setting_sets local sets script index = applied_sets w local c sets txn script index x (changing b e r q) setting
