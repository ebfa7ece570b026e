-- Cells of a tree in which no object has a fault have a content.
use Rattle.std.proofs.Common.{◌≡◌, ◌⊎◌, inl, inr, ℕ, ◌≤◌, Bool, true, false, cond, [], ◌∷◌, Option, Some, None, refl, sym, ap, subst, ◌∙◌, arith}
use Rattle.std.specs.Prelude.{Contains, nat_lt, filter}
use Rattle.std.proofs.lemmas.Bool.Decides.{nat_tests}
use Rattle.r4_base.proofs.Trees.{holder_once, unit_once}
use Rattle.r4_base.specs.Key.{key_of_rank, offset_of}
use Rattle.r4_base.specs.Tree.{Holds, IsNode, Name, Node, Store, UnitAt}
use Rattle.r4_base.specs.Value.{Byte, Content, Entry as EntryValue, Stat as StatValue, Value, at_key}
use Rattle.r4_base.specs.Volume.{HasFiles, HasIds, HasObjects, HasStat, HasUnits, IsPadding, IsVisible, object_of, stat_rank}
use Rattle.r4_base.specs.declared.items.Attr.{Attr}
use Rattle.r4_base.specs.declared.key.Key.{Key}
use Rattle.r4_base.specs.declared.superblock.Super40.{Super40}
use Rattle.r4_check.specs.Walk.{found_in}
use Rattle.r4_check_objects.specs.Objects.{object_faults}
use Rattle.r4_check_laws.proofs.Apart.{cell_apart}
use Rattle.r4_check_laws.proofs.Contents.{AreApart, HaveOne, Units, apart_append, in_raw, in_units, raw_of}
use Rattle.r4_check_laws.proofs.Filed.{files_right}
use Rattle.r4_check_laws.proofs.Files.{in_all, of_all}
use Rattle.r4_check_laws.proofs.Lists.{here, later, none_in, one_of}
use Rattle.r4_check_laws.proofs.Objects.{ids_right, objects_right}
use Rattle.r4_check_laws.proofs.Pairs.{all_units, cells_mirrored}
use Rattle.r4_check_laws.proofs.Parts.{AreRead}
use Rattle.r4_check_laws.proofs.Rights.{are_right}
use Rattle.r4_check_laws.proofs.Stores.{AreOnce, Cells, in_cells, store_of, stored}
use Rattle.r4_check_laws.proofs.Trees.{AreLinked, is_tree}

-- ---- what is visible

shown_by : Content → Key → Option Value → Bool
shown_by r k None = true
shown_by r k (Some (StatValue a)) = nat_lt (offset_of k) a.size
shown_by r k (Some (EntryValue n o)) = true
shown_by r k (Some (Byte x)) = true

-- whether a unit is not past its file's size
is_shown : Content → ℕ × Value → Bool
is_shown r (k, StatValue a) = true
is_shown r (k, EntryValue n o) = true
is_shown r (k, Byte x) = shown_by r (key_of_rank k) (at_key r (stat_rank (object_of (key_of_rank k))))

kept : (p : ℕ × Value → Bool) (us : Units) (u : ℕ × Value) → Contains (filter p us) u → Contains us u × (p u ≡ true)
kept p [] u at = absurd (none_in u at)
kept p (x ∷ us) u at = by (p x) refl at (kept p us u)
  where
    by : (b : Bool) → p x ≡ b → Contains (cond b (x ∷ filter p us) (filter p us)) u → (Contains (filter p us) u → Contains us u × (p u ≡ true)) → Contains (x ∷ us) u × (p u ≡ true)
    by true e h rest = elim (one_of x (filter p us) u h) [
      | inl is ↦ (subst (Contains (x ∷ us)) is (here x us), ap p (sym is) ∙ e)
      | inr more ↦ let there = rest more in (later x us u there.0, there.1)
    ]
    by false e h rest = let there = rest h in (later x us u there.0, there.1)

keeps : (p : ℕ × Value → Bool) (us : Units) (u : ℕ × Value) → Contains us u → p u ≡ true → Contains (filter p us) u
keeps p [] u at passes = absurd (none_in u at)
keeps p (x ∷ us) u at passes = by (p x) refl (one_of x us u at) (keeps p us u)
  where
    by : (b : Bool) → p x ≡ b → (x ≡ u) ⊎ Contains us u → (Contains us u → p u ≡ true → Contains (filter p us) u) → Contains (cond b (x ∷ filter p us) (filter p us)) u
    by true e (inl is) more = subst (Contains (x ∷ filter p us)) is (here x (filter p us))
    by true e (inr at) more = later x (filter p us) u (more at passes)
    by false e (inl is) more = let same : p x ≡ true = ap p is ∙ passes in absurd (cc)
    by false e (inr at) more = more at passes

pub visible_of : Units → Content
visible_of us = raw_of (filter (is_shown (raw_of us)) us)

not_lt : (a b : ℕ) → nat_lt a b ≡ false → b ≤ a
not_lt a b e = grind (arith, nat_tests)

past : (a b : ℕ) → b ≤ a → nat_lt a b ≡ false
past a b le = grind (arith, nat_tests)

-- a byte is not shown exactly where it is padding
padded : (r : Content) (k : Key) (a : Attr) → HasStat r (object_of k) a → a.size ≤ offset_of k → shown_by r k (at_key r (stat_rank (object_of k))) ≡ false
unfolding shown_by
padded r k a has le = ap (shown_by r k) has.1 ∙ past (offset_of k) a.size le

hidden : (r : Content) (k : Key) (b : Attr) → HasStat r (object_of k) b → (o : Option Value) → at_key r (stat_rank (object_of k)) ≡ o → shown_by r k o ≡ false → (a : Attr) × HasStat r (object_of k) a × (a.size ≤ offset_of k)
unfolding shown_by
hidden r k b has None e h = absurd (cc)
hidden r k b has (Some (StatValue a)) e h = (a, (has.0, e), not_lt (offset_of k) a.size h)
hidden r k b has (Some (EntryValue n o)) e h = absurd (cc)
hidden r k b has (Some (Byte x)) e h = absurd (cc)

module _ (us : Units) (one : HaveOne us) (t : Store Value) (files : HasFiles t (raw_of us)) where
  shown_one : HaveOne (filter (is_shown (raw_of us)) us)
  shown_one k v w a b = one k v w (kept (is_shown (raw_of us)) us (k, v) a).0 (kept (is_shown (raw_of us)) us (k, w) b).0

  not_padding : (k : ℕ) (v : Value) → is_shown (raw_of us) (k, v) ≡ true → IsPadding (raw_of us) (key_of_rank k) v → ⊥
  unfolding is_shown
  not_padding k (StatValue a) shown padding = padding
  not_padding k (EntryValue n o) shown padding = padding
  not_padding k (Byte x) shown (a, has, le) = let no = padded (raw_of us) (key_of_rank k) a has le in absurd (cc)

  shown_else : (k : ℕ) (v : Value) → at_key (raw_of us) k ≡ Some v → (IsPadding (raw_of us) (key_of_rank k) v → ⊥) → (b : Bool) → is_shown (raw_of us) (k, v) ≡ b → is_shown (raw_of us) (k, v) ≡ true
  unfolding is_shown
  shown_else k v at bare true e = e
  shown_else k (StatValue a) at bare false e = refl
  shown_else k (EntryValue n o) at bare false e = refl
  shown_else k (Byte x) at bare false e =
      let fits = files.keys k (Byte x) at in
      absurd (bare (hidden (raw_of us) (key_of_rank k) fits.1.0 fits.1.1 (at_key (raw_of us) (stat_rank (object_of (key_of_rank k)))) refl e))

  pub is_visible : IsVisible (raw_of us) (visible_of us)
  unfolding visible_of
  is_visible k v = (
    λ at. (
        let there = kept (is_shown (raw_of us)) us (k, v) (in_units (filter (is_shown (raw_of us)) us) k v at) in
        (in_raw us one k v there.0, not_padding k v there.1)
        ),
    λ both. in_raw (filter (is_shown (raw_of us)) us) shown_one k v (keeps (is_shown (raw_of us)) us (k, v) (in_units us k v both.0) (shown_else k v both.0 both.1 (is_shown (raw_of us) (k, v)) refl)),
  )

-- ---- the units of a tree

holds : (c : Node Value) → IsNode c → (k : ℕ) (v : Value) → Contains c.units (k, v) → Holds c k
holds c node k v has = elim (node.unit_low k v has) [
  | inl low ↦ inl (low, node.unit_in k v has)
  | inr span ↦ let (s, cs, at) = span in inr (s, cs, at, λ n cn low at_n. node.unit_in_hole n k v cn low has at_n)
]

module _ (all : Cells) (root : Name) (linked : AreLinked all root) (blocks : ℕ) (read : AreRead blocks all) where
  unit_there : (k : ℕ) (v : Value) → Contains (all_units all) (k, v) → UnitAt (store_of all) k v
  unit_there k v at = let (i, c, there, has) = of_all all (k, v) at in (i, c, stored all linked.once i c there, has)

  pub have_one : HaveOne (all_units all)
  have_one k v w a b = unit_once (store_of all) _ (is_tree all root linked) k v w (unit_there k v a) (unit_there k w b)

  parts_apart : (cells : Cells) → AreOnce cells → ((i : ℕ) (c : Node Value) → Contains cells (i, c) → Contains all (i, c)) → AreApart (all_units cells)
  parts_apart [] once sub = tt
  parts_apart (c ∷ cells) once sub =
      let r = read c.0 c.1 (sub c.0 c.1 (here c cells)) in
      let order = r.node.nonempty in
      let own = subst (λ (d : Node Value). AreApart d.units) (sym r.says) (cell_apart blocks c.1.level c.1.lo c.1.hi r.block r.few r.whole (omega (arith, order)) r.sound) in
      apart_append (all_units cells) c.1.units (parts_apart cells once.1 (λ i d at. sub i d (later c cells (i, d) at))) own
      (λ k v w named a b. cross k v w a b)
    where
      cross : (k : ℕ) (v w : Value) → Contains (all_units cells) (k, v) → Contains c.1.units (k, w) → ⊥
      cross k v w a b =
          let (i, d, there, has) = of_all cells (k, v) a in
          let in_d = sub i d (later c cells (i, d) there) in
          let in_c = sub c.0 c.1 (here c cells) in
          let same : i ≡ c.0 = holder_once (store_of all) _ (is_tree all root linked) i c.0 d c.1 k (stored all linked.once i d in_d) (stored all linked.once c.0 c.1 in_c) (holds d (read i d in_d).node k v has) (holds c.1 (read c.0 c.1 in_c).node k w b) in
          once.0 d (subst (λ (x : ℕ). Contains cells (x, d)) same there)

  pub all_apart : AreApart (all_units all)
  all_apart = parts_apart all linked.once (λ i c at. at)

  pub has_units : HasUnits (store_of all) (raw_of (all_units all))
  has_units k v = (
    λ at. unit_there k v (in_units (all_units all) k v at),
    λ unit. in_raw (all_units all) have_one k v (let (i, c, there, has) = unit in in_all all i c (k, v) (in_cells all i c there) has),
  )

  -- what a content needs beside the tree
  pub record HasRules (s : Super40) : Type 0 where
    pub raw : Content
    pub units : HasUnits (store_of all) raw
    pub files : HasFiles (store_of all) raw
    pub objects : HasObjects raw
    pub ids : HasIds s raw
    pub shown : Content
    pub visible : IsVisible raw shown

  pub has_rules : (s : Super40) (leaf : ℕ) → object_faults s leaf (found_in all) ≡ [] → HasRules s
  has_rules s leaf none =
      let right = are_right s leaf (found_in all) none in
      let pairs = cells_mirrored all (λ i c at. (let r = read i c at in (r.block, r.says))) in
      let files = files_right s blocks all root linked read right have_one all_apart pairs.0 pairs.1 in
      record {
        raw = raw_of (all_units all);
        units = has_units;
        files = files;
        objects = objects_right s (found_in all) right (all_units all) have_one all_apart pairs.0 pairs.1;
        ids = ids_right s (found_in all) right (all_units all) have_one all_apart pairs.0 pairs.1;
        shown = visible_of (all_units all);
        visible = is_visible (all_units all) have_one (store_of all) files;
      }
