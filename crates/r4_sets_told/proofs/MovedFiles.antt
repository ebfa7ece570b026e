-- Units that are moved as a command's edits say give files as a volume has them.
use Rattle.std.specs.Prelude.{◌≡◌, ◌↔◌, ◌⊎◌, ℕ, ◌^◌, ◌≤◌, Bool, true, false, Some}
use Rattle.std.proofs.Common.{arith, inl, inr, refl, sym, subst, ◌∙◌}
use Rattle.std.proofs.Math.Decide.{dec_le}
use Rattle.std.proofs.lemmas.Option.{same_Some}
use Rattle.r4_base.specs.Key.{key_of_rank, offset_of}
use Rattle.r4_base.specs.Tree.{Store}
use Rattle.r4_base.specs.Value.{Value, Stat, Entry, Byte, Content, at_key}
use Rattle.r4_base.specs.Volume.{HasExtents, HasStat, HasTails, IsPadding, IsVisible, KeyFits, is_directory, object_of}
use Rattle.r4_base.specs.Volume.{stat_rank}
use Rattle.r4_base.specs.declared.items.Attr.{Attr}
use Rattle.r4_base.specs.declared.items.Target.{Target}
use Rattle.r4_base.specs.declared.key.Key.{Key}
use Rattle.r4_content.specs.Edited.{Edits, Intervals, edited, is_in}
use Rattle.r4_content.specs.Edited.{changed as changed_by}
use Rattle.r4_content.specs.Lawful.{HasBodies}
use Rattle.r4_content.specs.Units.{IsOrPads, MovesUnits}
use Rattle.r4_content.proofs.EditLaws.{edited_off}
use Rattle.r4_content.proofs.VisibleUnits.{each_unit, units_visible}
use Rattle.r4_sets.specs.Change.{FilesAfter, IsTouched}
use Rattle.r4_sets.proofs.Bodies.{one_attr}

module _ (limit : ℕ) (small : limit ≤ 2 ^ 30) (e : Edits) (n raw after : Content) (moved changed : Intervals)
    (u : Store Value)
    (lawful : HasBodies limit (edited e n)) (h : MovesUnits e n raw after moved)
    (edits : (k : ℕ) → is_in (changed_by e) k ≡ true → is_in changed k ≡ true) (moves : (k : ℕ) → is_in moved k ≡ true
    → is_in changed k ≡ true)
    (kinds : (o : Target) (b : Attr) → HasStat after o b → is_directory b ≡ false → IsTouched changed o
    → HasTails u o b.size ⊎ HasExtents u o b.size) where
  abbrev m : Content
  m = edited e n

  seen : IsVisible after m
  seen = units_visible limit after m lawful (each_unit e n raw after moved h)

  -- stat data are seen
  stat_seen : (o : Target) (a : Attr) → HasStat after o a → HasStat m o a
  stat_seen o a s = (s.0, (seen (stat_rank o) (Stat a)).1 (s.1, λ p. p))

  stat_raw : (o : Target) (a : Attr) → HasStat m o a → HasStat after o a
  stat_raw o a s = (s.0, ((seen (stat_rank o) (Stat a)).0 s.1).0)

  fits_raw : (key : Key) (v : Value) → KeyFits m key v → KeyFits after key v
  fits_raw key (Stat a) f = f
  fits_raw key (Entry s o) f = f
  fits_raw key (Byte x) (minor, (a, stat, file)) = (minor, (a, stat_raw (object_of key) a stat, file))

  off_both : (k : ℕ) → is_in changed k ≡ false → (is_in moved k ≡ false) × (is_in (changed_by e) k ≡ false)
  off_both k off = (below (is_in moved k) refl (moves k), below (is_in (changed_by e) k) refl (edits k))
    where
      below : (b : Bool) {c : Bool} → c ≡ b → (c ≡ true → is_in changed k ≡ true) → b ≡ false
      below true is f = let g : true ≡ false = sym (f is) ∙ off in cc
      below false is f = refl

  -- what a byte is of
  of_pads : (k : ℕ) (v : Value) → at_key after k ≡ Some v → IsOrPads after m k → KeyFits after (key_of_rank k) v
  of_pads k v at (inl same) = fits_raw (key_of_rank k) v (lawful.keys k v (sym same ∙ at))
  of_pads k v at (inr (none, (x, is), (minor, (a, stat, file)))) =
      subst (KeyFits after (key_of_rank k)) (same_Some (Byte x) v (sym is ∙ at))
      (minor, (a, stat_raw (object_of (key_of_rank k)) a stat, file))

  -- a byte that stays is past the end of its file where it was
  same_side : (k y : ℕ) (a b : Attr) → is_in changed k ≡ false → at_key raw k ≡ Some (Byte y) → at_key after k
      ≡ Some (Byte y)
      → HasStat raw (object_of (key_of_rank k)) a → HasStat after (object_of (key_of_rank k)) b
      → (a.size ≤ offset_of (key_of_rank k)) ↔ (b.size ≤ offset_of (key_of_rank k))
  same_side k y a b off at now stat_a stat_b = (to, from)
    where
      same : at_key m k ≡ at_key n k
      same = edited_off e n k (off_both k off).1

      no_pad : (r : Content) (c : Attr) → HasStat r (object_of (key_of_rank k)) c
          → (c.size ≤ offset_of (key_of_rank k) → ⊥) → IsPadding r (key_of_rank k) (Byte y) → ⊥
      no_pad r c stat above (d, there, le) =
          above (subst (λ (x : Attr). x.size ≤ offset_of (key_of_rank k))
          (one_attr r (object_of (key_of_rank k)) d c there stat) le)

      to : a.size ≤ offset_of (key_of_rank k) → b.size ≤ offset_of (key_of_rank k)
      to le = elim (dec_le b.size (offset_of (key_of_rank k))) [
        | yes past ↦ past
        | no above ↦ absurd (((h.visible k (Byte y)).0 (sym same
            ∙ (seen k (Byte y)).1 (now, no_pad after b stat_b above))).1 (a, stat_a, le))
      ]

      from : b.size ≤ offset_of (key_of_rank k) → a.size ≤ offset_of (key_of_rank k)
      from le = elim (dec_le a.size (offset_of (key_of_rank k))) [
        | yes past ↦ past
        | no above ↦ absurd (((seen k (Byte y)).0 (same ∙ (h.visible k (Byte y)).1 (at, no_pad raw a stat_a above))).1
            (b, stat_b, le))
      ]

  kept_byte : (k y : ℕ) (a : Attr) → is_in changed k ≡ false → at_key raw k ≡ Some (Byte y)
      → HasStat raw (object_of (key_of_rank k)) a
      → (b : Attr) × HasStat after (object_of (key_of_rank k)) b × (is_directory b ≡ false)
      × ((a.size ≤ offset_of (key_of_rank k)) ↔ (b.size ≤ offset_of (key_of_rank k)))
  kept_byte k y a off at stat =
      let now : at_key after k ≡ Some (Byte y) = h.kept k (off_both k off).0 ∙ at in
      let (_, (b, stat_b, file_b)) = of_pads k (Byte y) now (each_unit e n raw after moved h k) in
      (b, stat_b, file_b, same_side k y a b off at now stat stat_b)

  pub moved_files : FilesAfter u raw after m changed
  moved_files = record {
    fits = λ k v on at. of_pads k v at (each_unit e n raw after moved h k);
    seen = λ k v on. seen k v;
    kept = λ k y a off at stat file on. kept_byte k y a off at stat;
    bodies = λ o b stat file on. let le =
        lawful.small o b (stat_seen o b stat) file in (omega (arith, le, small), kinds o b stat file on);
    bytes = λ o b stat on. lawful.bytes o b (stat_seen o b stat);
  }
