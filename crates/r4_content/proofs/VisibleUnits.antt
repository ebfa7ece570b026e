-- What is visible of units that were moved is the content with the edits made.
use Rattle.std.specs.Prelude.{◌≡◌, ℕ, Bool, true, false, Option, Some, None}
use Rattle.std.proofs.Common.{arith, inl, inr, refl, sym, ap, subst, ◌∙◌}
use Rattle.std.proofs.lemmas.Bool.{cases_lt}
use Rattle.std.proofs.lemmas.Option.{same_Some}
use Rattle.r4_base.specs.Key.{key_of_rank, offset_of}
use Rattle.r4_base.specs.Value.{Value, Stat, Entry, Byte, Content, at_key}
use Rattle.r4_base.specs.Volume.{HasStat, IsPadding, IsVisible, object_of, stat_rank}
use Rattle.r4_base.specs.declared.items.Attr.{Attr}
use Rattle.r4_base.specs.declared.items.Target.{Target}
use Rattle.r4_content.specs.Edited.{Edits, Intervals, changed, edited, is_in}
use Rattle.r4_content.specs.Lawful.{HasBodies}
use Rattle.r4_content.specs.Units.{IsOfFile, IsOrPads, MovesUnits}
use Rattle.r4_content.proofs.EditLaws.{edited_off}
use Rattle.r4_content.proofs.Gaining.{stat_same}
use Rattle.r4_content.proofs.Keeping.{byte_key}

no_value : (v : Value) → None ≡ Some v → ⊥
no_value v e = cc

not_byte : (a : Attr) (x : ℕ) → Some (Stat a) ≡ Some (Byte x) → ⊥
not_byte a x e = cc

-- ---- each unit is the content's, or past a file's size

module _ (e : Edits) (m raw after : Content) (moved : Intervals) (h : MovesUnits e m raw after moved) where
  as_raw : (k : ℕ) → at_key after k ≡ at_key raw k → IsOrPads raw (edited e m) k → IsOrPads after (edited e m) k
  as_raw k same (inl is) = inl (same ∙ is)
  as_raw k same (inr (none, (x, at), of)) = inr (none, (x, same ∙ at), of)

  unchanged : (k : ℕ) → is_in moved k ≡ false → is_in (changed e) k ≡ false → IsOrPads raw (edited e m) k
  unchanged k out off = by_value (at_key m k) (at_key raw k) refl refl
    where
      now : at_key (edited e m) k ≡ at_key m k
      now = edited_off e m k off

      past : (v : Value) → at_key m k ≡ None → at_key raw k ≡ Some v → IsOrPads raw (edited e m) k
      past (Stat a) none at = absurd (no_value (Stat a) (sym none ∙ (h.visible k (Stat a)).1 (at, λ p. p)))
      past (Entry n t) none at = absurd (no_value (Entry n t) (sym none ∙ (h.visible k (Entry n t)).1 (at, λ p. p)))
      past (Byte x) none at = inr (now ∙ none, (x, at), h.padding k x out off at none)

      by_value : (v w : Option Value) → at_key m k ≡ v → at_key raw k ≡ w → IsOrPads raw (edited e m) k
      by_value (Some v) w is there = inl (((h.visible k v).0 is).0 ∙ sym (now ∙ is))
      by_value None None is there = inl (there ∙ sym (now ∙ is))
      by_value None (Some v) is there = past v is there

  pub each_unit : (k : ℕ) → IsOrPads after (edited e m) k
  each_unit k = by_moved (is_in moved k) (is_in (changed e) k) refl refl
    where
      by_moved : (a b : Bool) → is_in moved k ≡ a → is_in (changed e) k ≡ b → IsOrPads after (edited e m) k
      by_moved true b in_it on = h.made k in_it
      by_moved false true out on = as_raw k (h.kept k out) (h.spared k out on)
      by_moved false false out off = as_raw k (h.kept k out) (unchanged k out off)

-- ---- so they are visible as far as the content has them

module _ (limit : ℕ) (units n : Content) (bodies : HasBodies limit n) (each : (k : ℕ) → IsOrPads units n k) where
  stat_here : (o : Target) (a : Attr) → HasStat n o a → HasStat units o a
  stat_here o a there = (there.0, by_unit (each (stat_rank o)))
    where
      by_unit : IsOrPads units n (stat_rank o) → at_key units (stat_rank o) ≡ Some (Stat a)
      by_unit (inl same) = same ∙ there.1
      by_unit (inr (none, at, of)) = absurd (no_value (Stat a) (sym none ∙ there.1))

  stat_back : (o : Target) (a : Attr) → HasStat units o a → HasStat n o a
  stat_back o a there = (there.0, by_unit (each (stat_rank o)))
    where
      by_unit : IsOrPads units n (stat_rank o) → at_key n (stat_rank o) ≡ Some (Stat a)
      by_unit (inl same) = sym same ∙ there.1
      by_unit (inr (none, (x, at), of)) = absurd (not_byte a x (sym there.1 ∙ at))

  -- a byte that the content has not is past its file's size
  pads : (k x : ℕ) → at_key n k ≡ None → IsOfFile n k → IsPadding units (key_of_rank k) (Byte x)
  pads k x none (minor, (a, stat, file)) =
      let (is, lt) = byte_key k minor in (
        a,
        stat_here (object_of (key_of_rank k)) a stat,
        elim (cases_lt (offset_of (key_of_rank k)) a.size) [
          | inl below ↦
              let (y, there) = (bodies.offsets (object_of (key_of_rank k)) a stat file (offset_of (key_of_rank k)) lt).1 below in
              absurd (no_value (Byte y) (sym none ∙ ap (at_key n) is ∙ there))
          | inr past ↦ past
        ],
      )

  -- and one that it has is below
  no_pad : (k x : ℕ) → at_key n k ≡ Some (Byte x) → IsPadding units (key_of_rank k) (Byte x) → ⊥
  no_pad k x at (a, stat, past) =
      let (minor, (b, now, file)) = bodies.keys k (Byte x) at in
      let (is, lt) = byte_key k minor in
      let o = object_of (key_of_rank k) in
      let same : a ≡ b = stat_same a b (sym (stat_back o a stat).1 ∙ now.1) in
      let below = (bodies.offsets o b now file (offset_of (key_of_rank k)) lt).0 (x, ap (at_key n) (sym is) ∙ at) in
      let size : a.size ≡ b.size = ap (λ (y : Attr). y.size) same in
      absurd (omega (arith, past, below, size))

  pub units_visible : IsVisible units n
  units_visible k v = (forth v, back (each k))
    where
      forth : (w : Value) → at_key n k ≡ Some w → (at_key units k ≡ Some w) × (IsPadding units (key_of_rank k) w → ⊥)
      forth w at = (by_unit (each k), by_kind w at)
        where
          by_unit : IsOrPads units n k → at_key units k ≡ Some w
          by_unit (inl same) = same ∙ at
          by_unit (inr (none, there, of)) = absurd (no_value w (sym none ∙ at))

          by_kind : (u : Value) → at_key n k ≡ Some u → IsPadding units (key_of_rank k) u → ⊥
          by_kind (Stat a) is p = p
          by_kind (Entry s t) is p = p
          by_kind (Byte x) is p = no_pad k x is p

      back : IsOrPads units n k → (at_key units k ≡ Some v) × (IsPadding units (key_of_rank k) v → ⊥) → at_key n k ≡ Some v
      back (inl same) (at, shown) = sym same ∙ at
      back (inr (none, (x, there), of)) (at, shown) =
          absurd (shown (subst (IsPadding units (key_of_rank k)) (same_Some (Byte x) v (sym there ∙ at)) (pads k x none of)))
