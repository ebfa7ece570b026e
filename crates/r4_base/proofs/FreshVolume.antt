-- A fresh image has the empty volume, and no lost block.
use Rattle.std.proofs.Common.{◌≡◌, inl, inr, ⊎_elim, ℕ, ◌+◌, ◌*◌, ◌^◌, ◌<◌, ◌≤◌, true, false, List, [], ◌∷◌, length, replicate, refl, sym, ap, subst, ◌∙◌, arith}
use Rattle.std.specs.Prelude.{Some, None}
use Rattle.std.proofs.Math.Dec.{lit<, lit≤}
use Rattle.std.specs.FinMap.{empty, entries, entries-insert, len-entries, len-empty}
use Rattle.std.specs.Ordering.{nat_cmp}
use Rattle.std.proofs.lemmas.Cmp.{nat_cmp_total}
use Rattle.r4_base.specs.Image.{Image, block_at}
use Rattle.r4_base.specs.Log.{header_of, footer_of}
use Rattle.r4_base.specs.Chain.{HasLog}
use Rattle.r4_base.specs.Layout.{IsLawfulSuper, fields_before_magic, fields_behind_magic}
use Rattle.r4_base.specs.Key.{rank, key_of_rank, least}
use Rattle.r4_base.specs.Value.{Value, Stat, Entry, Byte, at_key}
use Rattle.r4_base.specs.Tree.{Node as Cell}
use Rattle.r4_base.specs.Cell.{IsCellOf}
use Rattle.r4_base.specs.Volume.{HasContent, HasFiles, HasIds, HasLayout, HasObjects, HasStat, HasVolume, IsLost, IsObject, IsPadding, IsPlace, IsVisible, KeyFits, empty_volume, entries_in, directories_in, links_to, objects_in, root_attr, root_object, root_of, stat_rank}
use Rattle.r4_base.specs.Fresh.{IsFreshImage, fresh_super}
use Rattle.r4_base.specs.declared.items.Attr.{Attr}
use Rattle.r4_base.specs.declared.items.Target.{Target}
use Rattle.r4_base.proofs.Members.{no_member}
use Rattle.r4_base.proofs.Superblocks.{FitsSuper, master_again, super_again}
use Rattle.r4_base.proofs.FreshBits.{fresh_fault, fresh_marks, taken_cases, taken_low}
use Rattle.r4_base.proofs.FreshTree.{fresh_cell, fresh_is_tree, fresh_leaf, fresh_root, fresh_store, fresh_twig, fresh_units, found, leaf_says, leaf_sound, leaf_there, root_at, twig_says, twig_sound, twig_there}

-- ---- the one object

root_parts : (l o i : ℕ) → o < 2 ^ 64 → i < 2 ^ 64 → (l * 16 + 1) * 2 ^ 192 + (o * 2 ^ 128 + (i * 2 ^ 64 + 0)) ≡ 657 * 2 ^ 192 + 42 * 2 ^ 64 → (l ≡ 41) × (o ≡ 0) × (i ≡ 42)
root_parts l o i lo li e = (omega (arith, lo, li, e), omega (arith, lo, li, e), omega (arith, lo, li, e))

only_root : (o : Target) → IsObject o → stat_rank o ≡ least → o ≡ root_object
unfolding rank least
only_root o is e = let p = root_parts o.locality o.ordering o.oid.0 is.1 is.2 e in λ i. record { locality = p.0 i; ordering = p.1 i; oid = record { 0 = p.2 i } }

pub same_attr : (a : Attr) (b : Attr) → Stat a ≡ Stat b → a ≡ b
same_attr a b e = ap (λ (v : Value). elim v as (λ _. Attr) [ Stat y ↦ y | Entry s p ↦ a | Byte y ↦ a ]) e

one_object : (o : Target) (a : Attr) → HasStat empty_volume o a → (o ≡ root_object) × (a ≡ root_attr)
one_object o a h = let f = found (stat_rank o) (Stat a) h.1 in (only_root o h.0 f.0, same_attr a root_attr f.1)

pub root_rank : stat_rank root_object ≡ least
unfolding rank least
root_rank = refl

root_there : HasStat empty_volume root_object root_attr
root_there = ((lit< tt, lit< tt, lit< tt), ap (at_key empty_volume) root_rank ∙ root_at)

no_items : (es : List (ℕ × Value)) → length es ≡ 0 → es ≡ []
no_items [] e = refl
no_items (x ∷ es) e = absurd (omega (arith, e))

pub none_in_empty : entries (empty {K = ℕ} {X = Value} {R = nat_cmp}) ≡ []
none_in_empty = no_items (entries (empty {K = ℕ} {X = Value} {R = nat_cmp})) (sym (len-entries (empty {K = ℕ} {X = Value} {R = nat_cmp})) ∙ len-empty nat_cmp Value)

the_entries : entries empty_volume ≡ (least, Stat root_attr) ∷ []
unfolding empty_volume
the_entries = entries-insert nat_cmp_total empty least (Stat root_attr) ∙ rw none_in_empty refl

root_is_dir : (a : Attr) → a ≡ root_attr → Rattle.r4_base.specs.Volume.is_directory a ≡ false → ⊥
root_is_dir a is e = let h : true ≡ false = sym (ap Rattle.r4_base.specs.Volume.is_directory is) ∙ e in absurd cc

no_entry : (k : ℕ) (s : List ℕ) (o : Target) → at_key empty_volume k ≡ Some (Entry s o) → ⊥
no_entry k s o at = let f = (found k (Entry s o) at).1 in absurd cc

-- ---- what is asked of it

fresh_files : (a b : List ℕ) → HasFiles (fresh_store a b) empty_volume
unfolding key_of_rank least
fresh_files a b = record {
  keys = λ k v at. let f = found k v at in subst (λ (w : Value). KeyFits empty_volume (key_of_rank k) w) (sym f.1) (subst (λ (j : ℕ). KeyFits empty_volume (key_of_rank j) (Stat root_attr)) (sym f.0) (refl, refl));
  bodies = λ o x h file. absurd (root_is_dir x (one_object o x h).1 file);
  bytes = λ o x h. let e = (one_object o x h).1 in ap (λ (y : Attr). y.bytes) e ∙ ap (λ (y : Attr). y.size) (sym e);
}

fresh_objects : HasObjects empty_volume
fresh_objects = record {
  root = (root_attr, root_there, refl);
  root_unnamed = rw the_entries refl;
  named_once = λ o x h dir other. absurd (other (one_object o x h).0);
  directories = λ o x h dir.
      let e = (one_object o x h).1 in
      (ap (λ (y : Attr). y.size) e ∙ rw the_entries refl, ap (λ (y : Attr). y.nlink) e ∙ rw the_entries refl);
  files = λ o x h file. absurd (root_is_dir x (one_object o x h).1 file);
  holder = λ k s o at. absurd (no_entry k s o at);
  target = λ k s o at. absurd (no_entry k s o at);
  one_id = λ o p x y h g _. (one_object o x h).0 ∙ sym (one_object p y g).0;
  reached = λ o x h. (0, (one_object o x h).0);
}

fresh_ids : (n : ℕ) → HasIds (fresh_super n) empty_volume
fresh_ids n = record {
  ids = λ o x h. let e = ap (λ (y : Target). y.oid.0) (one_object o x h).0 in (omega (arith, e), omega (arith, e));
  count = rw the_entries refl;
}

all_visible : IsVisible empty_volume empty_volume
all_visible k v = (λ at. (at, λ padding. subst (λ (w : Value). IsPadding empty_volume (key_of_rank k) w) (found k v at).1 padding), λ h. h.0)

-- ---- the image

module _ (n : ℕ) (label : List ℕ) (image : Image) (long : length label ≡ 16) (low : 64 ≤ n) (high : n ≤ 1048576) (f : IsFreshImage n label image) where
  a : List ℕ
  a = block_at image 22

  b : List ℕ
  b = block_at image 23

  fits : FitsSuper (fresh_super n)
  fits = record {
    before = (omega (arith, high), (omega (arith, high), (lit< tt, (lit< tt, (lit< tt, (lit< tt, (lit< tt, tt)))))));
    behind = (lit< tt, (lit< tt, (lit< tt, (lit< tt, (lit< tt, tt)))));
  }

  lawful : IsLawfulSuper n (fresh_super n)
  lawful = record {
    large_keys = refl;
    nodes = refl;
    height = (lit≤ tt, lit≤ tt);
    blocks = (low, high, omega arith);
    root = (lit≤ tt, omega (arith, low));
    root_not_fixed = refl;
    next_id = (lit≤ tt, lit< tt);
  }

  layout : HasLayout n image (fresh_super n)
  layout = record {
    master = (record { label = label }, ap Rattle.r4_base.specs.Layout.master_of f.master ∙ master_again (record { label = label }) long);
    format = ap (Rattle.r4_base.specs.Layout.super_of n) f.rest.super ∙ super_again n (fresh_super n) fits lawful;
    bitmaps = fresh_fault n image low f.rest.bitmaps;
  }

  the_twig : IsCellOf n a (fresh_twig a)
  unfolding fresh_twig a
  the_twig = record { sound = twig_sound n a low f.rest.twig.item; says = twig_says a f.rest.twig.item }

  the_leaf : IsCellOf n b (fresh_leaf b)
  unfolding fresh_leaf b
  the_leaf = record { sound = leaf_sound n b f.rest.leaf.item; says = leaf_says b f.rest.leaf.item }

  cells : (i : ℕ) (c : Cell Value) → fresh_store a b i ≡ Some c → IsCellOf n (block_at image i) c
  unfolding a b
  cells i c is = elim (fresh_cell a b i c is) [
    | inl h ↦ subst (λ (x : Cell Value). IsCellOf n (block_at image i) x) (sym h.1) (subst (λ (j : ℕ). IsCellOf n (block_at image j) (fresh_twig a)) (sym h.0) the_twig)
    | inr h ↦ subst (λ (x : Cell Value). IsCellOf n (block_at image i) x) (sym h.1) (subst (λ (j : ℕ). IsCellOf n (block_at image j) (fresh_leaf b)) (sym h.0) the_leaf)
  ]

  places : (i : ℕ) (c : Cell Value) → fresh_store a b i ≡ Some c → IsPlace n image i
  places i c is = elim (fresh_cell a b i c is) [
    | inl h ↦ subst (λ (j : ℕ). IsPlace n image j) (sym h.0) (omega (arith, low), refl, fresh_marks n image low f.rest.bitmaps 22 (omega (arith, low)) ∙ taken_low n 22 (lit< tt))
    | inr h ↦ subst (λ (j : ℕ). IsPlace n image j) (sym h.0) (omega (arith, low), refl, fresh_marks n image low f.rest.bitmaps 23 (omega (arith, low)) ∙ taken_low n 23 (lit< tt))
  ]

  pub fresh_content : HasContent n image empty_volume
  unfolding fresh_root
  fresh_content = record {
    super = fresh_super n;
    layout = layout;
    store = fresh_store a b;
    cells = cells;
    tree = fresh_is_tree a b;
    places = places;
    raw = empty_volume;
    units = fresh_units a b;
    files = fresh_files a b;
    objects = fresh_objects;
    ids = fresh_ids n;
    visible = all_visible;
  }

  pub none_lost : (x : ℕ) → IsLost fresh_content x → ⊥
  unfolding fresh_content
  none_lost x lost = ⊎_elim
      (λ is. not_there (sym (subst (λ (y : ℕ). fresh_store a b y ≡ None) is lost.3) ∙ twig_there a b))
      (λ is. not_there (sym (subst (λ (y : ℕ). fresh_store a b y ≡ None) is lost.3) ∙ leaf_there a b))
      (taken_cases n x lost.0 (sym (fresh_marks n image low f.rest.bitmaps x lost.0) ∙ lost.1) lost.2)
    where
      not_there : {c : Cell Value} → None ≡ Some c → ⊥
      not_there e = absurd cc

  unlogged : HasLog n image []
  unfolding header_of footer_of
  unlogged = record {
    txns = ap (λ (x : List ℕ). (header_of x).last) f.rest.header ∙ same_zero ∙ ap (λ (x : List ℕ). (footer_of x).last) (sym f.rest.footer);
    few = omega arith;
    apart = λ b o k. no_member b o;
  }
    where
      same_zero : (header_of (replicate 4096 0)).last ≡ (footer_of (replicate 4096 0)).last
      same_zero = refl

  pub fresh_volume : HasVolume n image empty_volume
  fresh_volume = record { whole = f.rest.whole; chain = []; log = unlogged; content = fresh_content }

  pub fresh_super_is : fresh_volume.content.super ≡ fresh_super n
  unfolding fresh_volume fresh_content
  fresh_super_is = refl

  pub fresh_lost : (x : ℕ) → IsLost fresh_volume.content x → ⊥
  unfolding fresh_volume
  fresh_lost = none_lost
