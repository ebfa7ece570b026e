-- The content of an image is lawful.
use Rattle.std.specs.Prelude.{◌≡◌, ℕ, ◌+◌, ◌*◌, ◌%◌, ◌^◌, Option, Some, None}
use Rattle.std.proofs.Common.{arith, lit<, refl, sym, ap, ◌∙◌}
use Rattle.std.proofs.lemmas.Option.{same_Some}
use Rattle.r4_base.proofs.Visible.{below_size, byte_back, whole_file}
use Rattle.r4_base.specs.Image.{Image}
use Rattle.r4_base.specs.Key.{key_of_rank, minor_of}
use Rattle.r4_base.specs.Value.{Value, Stat, Entry, Byte, Content, at_key}
use Rattle.r4_base.specs.Volume.{HasContent, HasObjects, HasStat, KeyFits, byte_rank, root_object, stat_rank}
use Rattle.r4_base.specs.declared.items.Attr.{Attr}
use Rattle.r4_base.specs.declared.items.Target.{Target}
use Rattle.r4_content.specs.Lawful.{HasBodies}
use Rattle.r4_content.specs.Ways.{entry_in}
use Rattle.r4_content.proofs.Ranks.{root_is_object, stat_not_byte}
use Rattle.r4_content.proofs.Shapes.{shape_lawful, stat_back}

module _ (n : ℕ) (image : Image) (m : Content) (c : HasContent n image m) where
  pub raw_of : (k : ℕ) (v : Value) → at_key m k ≡ Some v → at_key c.raw k ≡ Some v
  raw_of k v at = ((c.visible k v).0 at).0

  -- the same entries are seen
  entries_seen : (k : ℕ) → entry_in (at_key c.raw k) ≡ entry_in (at_key m k)
  entries_seen k = by_values (at_key c.raw k) (at_key m k) refl refl
    where
      no_value : (v : Value) → None ≡ Some v → ⊥
      no_value v e = cc

      same_of : (v w : Value) → at_key c.raw k ≡ Some v → at_key m k ≡ Some w → v ≡ w
      same_of v w a b = same_Some v w (sym a ∙ raw_of k w b)

      of_same : (v w : Value) → v ≡ w → entry_in (Some v) ≡ entry_in (Some w)
      of_same v w e = ap (λ (x : Value). entry_in (Some x)) e

      seen : (v : Value) → at_key c.raw k ≡ Some v → at_key m k ≡ None → entry_in (Some v) ≡ None
      seen (Stat a) is none = refl
      seen (Byte x) is none = refl
      seen (Entry s t) is none = absurd (no_value (Entry s t) (sym none ∙ (c.visible k (Entry s t)).1 (is, λ p. p)))

      by_values : (v w : Option Value) → at_key c.raw k ≡ v → at_key m k ≡ w → entry_in v ≡ entry_in w
      by_values None None a b = refl
      by_values None (Some w) a b = absurd (no_value w (sym a ∙ raw_of k w b))
      by_values (Some v) None a b = seen v a b
      by_values (Some v) (Some w) a b = of_same v w (same_of v w a b)

  stat_seen : (t : Target) (a : Attr) → HasStat c.raw t a → HasStat m t a
  stat_seen t a h = (h.0, (c.visible (stat_rank t) (Stat a)).1 (h.1, λ p. p))

  stat_raw : (t : Target) (a : Attr) → HasStat m t a → HasStat c.raw t a
  stat_raw t a h = (h.0, raw_of (stat_rank t) (Stat a) h.1)

  no_entry : (k : ℕ) → (minor_of (key_of_rank k) ≡ 0 → ⊥) → entry_in (at_key c.raw k) ≡ None
  no_entry k ne = by_value (at_key c.raw k) refl
    where
      by_value : (v : Option Value) → at_key c.raw k ≡ v → entry_in v ≡ None
      by_value None e = refl
      by_value (Some (Stat a)) e = refl
      by_value (Some (Entry s t)) e = absurd (ne (c.files.keys k (Entry s t) e))
      by_value (Some (Byte x)) e = refl

  pub volume_objects : HasObjects m
  volume_objects =
      shape_lawful c.raw m (stat_rank root_object) (byte_rank root_object 0) (λ t a. a) c.objects (stat_not_byte root_object root_object 0 root_is_object root_is_object (lit< tt))
      (no_entry (stat_rank root_object) (λ e. let one : (41 * 16 + 1) % 16 ≡ 0 = sym (ap minor_of (stat_back root_object root_is_object)) ∙ e in absurd (omega arith)))
      (no_entry (byte_rank root_object 0) (λ e. let four : (41 * 16 + 4) % 16 ≡ 0 = sym (ap minor_of (byte_back root_object 0 root_is_object (lit< tt))) ∙ e in absurd (omega arith)))
      entries_seen stat_seen (λ t b h. (b, stat_raw t b h, refl)) (λ t a h. refl) (λ t a h. refl) (λ t a h d. refl)

  pub volume_bodies : HasBodies (2 ^ 30) m
  volume_bodies = record {
    keys = λ k v at. fits k v (c.files.keys k v (raw_of k v at));
    small = λ t a h file. (c.files.bodies t a (stat_raw t a h) file).0;
    offsets = λ t a h file x lt. ((λ (y, at). below_size n image m c t a x y h lt at), (λ below. whole_file n image m c t a x h file below));
    bytes = λ t a h. c.files.bytes t a (stat_raw t a h);
  }
    where
      fits : (k : ℕ) (v : Value) → KeyFits c.raw (key_of_rank k) v → KeyFits m (key_of_rank k) v
      fits k (Stat a) f = f
      fits k (Entry s t) f = f
      fits k (Byte x) (minor, (a, stat, file)) = (minor, (a, stat_seen _ a stat, file))
