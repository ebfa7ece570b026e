-- Trees and the contents of images.
use Rattle.std.specs.Prelude.{◌≡◌, ℕ, ◌+◌, ◌*◌, ◌%◌, Option, Some, None}
use Rattle.std.proofs.Common.{arith, lit<, refl, sym, ap, ◌∙◌}
use Rattle.std.proofs.lemmas.Option.{none-some, same_Some}
use Rattle.r4_base.specs.Cell.{IsCellOf}
use Rattle.r4_base.specs.Image.{Image, block_at}
use Rattle.r4_base.specs.Key.{key_of_rank, minor_of}
use Rattle.r4_base.specs.Value.{Value, Stat, Entry, Byte, Content, at_key}
use Rattle.r4_base.specs.Tree.{Node, Root, Store}
use Rattle.r4_base.specs.Volume.{HasContent, HasIds, HasLayout, HasObjects, HasStat, IsPlace, byte_rank, is_stat_value}
use Rattle.r4_base.specs.Volume.{objects_in, root_object, root_of, stat_rank}
use Rattle.r4_base.specs.declared.items.Attr.{Attr}
use Rattle.r4_base.specs.declared.items.Target.{Target}
use Rattle.r4_base.specs.declared.superblock.Super40.{Super40}
use Rattle.r4_base.proofs.Visible.{byte_back}
use Rattle.r4_content.specs.Ways.{entry_in}
use Rattle.r4_content.proofs.Counting.{pick, same_count}
use Rattle.r4_content.proofs.Ranks.{root_is_object, stat_not_byte}
use Rattle.r4_content.proofs.Shapes.{shape_lawful, stat_back}
use Rattle.r4_sets.specs.Session.{IsTreeOf}

pub of_image : (n : ℕ) (image : Image) (m : Content) (h : HasContent n image m) → IsTreeOf h.store (root_of h.super) m
of_image n image m h = record { tree = h.tree; raw = h.raw; units = h.units; files = h.files; visible = h.visible }

no_value : {A : Type 0} (v : A) → None ≡ Some v → ⊥
no_value v e = none-some v e

module _ (t : Store Value) (root : Root) (m : Content) (h : IsTreeOf t root m) where
  raw_of : (k : ℕ) (v : Value) → at_key m k ≡ Some v → at_key h.raw k ≡ Some v
  raw_of k v at = ((h.visible k v).0 at).0

  same_of : (k : ℕ) (v w : Value) → at_key h.raw k ≡ Some v → at_key m k ≡ Some w → v ≡ w
  same_of k v w a b = same_Some v w (sym a ∙ raw_of k w b)

  -- the same entries are seen
  entries_seen : (k : ℕ) → entry_in (at_key m k) ≡ entry_in (at_key h.raw k)
  entries_seen k = by_values (at_key h.raw k) (at_key m k) refl refl
    where
      of_same : (v w : Value) → v ≡ w → entry_in (Some w) ≡ entry_in (Some v)
      of_same v w e = ap (λ (x : Value). entry_in (Some x)) (sym e)

      seen : (v : Value) → at_key h.raw k ≡ Some v → at_key m k ≡ None → None ≡ entry_in (Some v)
      seen (Stat a) is none = refl
      seen (Byte x) is none = refl
      seen (Entry s p) is none = absurd (no_value (Entry s p) (sym none ∙ (h.visible k (Entry s p)).1 (is, λ q. q)))

      by_values : (v w : Option Value) → at_key h.raw k ≡ v → at_key m k ≡ w → entry_in w ≡ entry_in v
      by_values None None a b = refl
      by_values None (Some w) a b = absurd (no_value w (sym a ∙ raw_of k w b))
      by_values (Some v) None a b = seen v a b
      by_values (Some v) (Some w) a b = of_same v w (same_of k v w a b)

  stat_seen : (o : Target) (a : Attr) → HasStat h.raw o a → HasStat m o a
  stat_seen o a s = (s.0, (h.visible (stat_rank o) (Stat a)).1 (s.1, λ p. p))

  stat_raw : (o : Target) (a : Attr) → HasStat m o a → HasStat h.raw o a
  stat_raw o a s = (s.0, raw_of (stat_rank o) (Stat a) s.1)

  no_entry : (k : ℕ) → (minor_of (key_of_rank k) ≡ 0 → ⊥) → entry_in (at_key m k) ≡ None
  no_entry k ne = entries_seen k ∙ by_value (at_key h.raw k) refl
    where
      by_value : (v : Option Value) → at_key h.raw k ≡ v → entry_in v ≡ None
      by_value None e = refl
      by_value (Some (Stat a)) e = refl
      by_value (Some (Entry s p)) e = absurd (ne (h.files.keys k (Entry s p) e))
      by_value (Some (Byte x)) e = refl

  pub raw_objects : HasObjects m → HasObjects h.raw
  raw_objects lawful =
      shape_lawful m h.raw (stat_rank root_object) (byte_rank root_object 0) (λ o a. a) lawful
      (stat_not_byte root_object root_object 0 root_is_object root_is_object (lit< tt))
      (no_entry (stat_rank root_object) (λ e. let one : (41 * 16 + 1) % 16 ≡ 0 =
      sym (ap minor_of (stat_back root_object root_is_object)) ∙ e in absurd (omega arith)))
      (no_entry (byte_rank root_object 0) (λ e. let four : (41 * 16 + 4) % 16 ≡ 0 =
      sym (ap minor_of (byte_back root_object 0 root_is_object (lit< tt))) ∙ e in absurd (omega arith)))
      entries_seen stat_raw (λ o b s. (b, stat_seen o b s, refl)) (λ o a s. refl) (λ o a s. refl) (λ o a s d. refl)

  raw_count : objects_in h.raw ≡ objects_in m
  raw_count = same_count (λ u. is_stat_value u.1) (λ u. is_stat_value u.1) h.raw m
      (λ k. by_values k (at_key h.raw k) (at_key m k) refl refl)
    where
      seen : (k : ℕ) (v : Value) → at_key h.raw k ≡ Some v → at_key m k ≡ None
          → pick (λ u. is_stat_value u.1) k (Some v) ≡ None
      seen k (Stat a) is none = absurd (no_value (Stat a) (sym none ∙ (h.visible k (Stat a)).1 (is, λ q. q)))
      seen k (Byte x) is none = refl
      seen k (Entry s p) is none = refl

      by_values : (k : ℕ) (v w : Option Value) → at_key h.raw k ≡ v → at_key m k ≡ w
          → pick (λ u. is_stat_value u.1) k v ≡ pick (λ u. is_stat_value u.1) k w
      by_values k None None a b = refl
      by_values k None (Some w) a b = absurd (no_value w (sym a ∙ raw_of k w b))
      by_values k (Some v) None a b = seen k v a b
      by_values k (Some v) (Some w) a b = ap (λ x. pick (λ u. is_stat_value u.1) k (Some x)) (same_of k v w a b)

  pub raw_ids : (super : Super40) → HasIds super m → HasIds super h.raw
  raw_ids super ids = record { ids = λ o a s. ids.ids o a (stat_seen o a s); count = ids.count ∙ sym raw_count }

pub to_image : (n : ℕ) (image : Image) (super : Super40) (t : Store Value) (m : Content) → HasLayout n image super
    → ((i : ℕ) (c : Node Value) → t i ≡ Some c → IsCellOf super.block_count (block_at image i) c)
    → ((i : ℕ) (c : Node Value) → t i ≡ Some c → IsPlace super.block_count image i) → IsTreeOf t (root_of super) m
    → HasObjects m → HasIds super m → HasContent n image m
to_image n image super t m layout cells places h objects ids = record {
  super = super;
  layout = layout;
  store = t;
  cells = cells;
  tree = h.tree;
  places = places;
  raw = h.raw;
  units = h.units;
  files = h.files;
  objects = raw_objects t (root_of super) m h objects;
  ids = raw_ids t (root_of super) m h super ids;
  visible = h.visible;
}
