-- A change that leaves at each key of a body what is to stand there moves units as the edits say.
use Rattle.std.proofs.Common.{◌≡◌, inl, inr, ℕ, ◌+◌, ◌*◌, ◌/◌, ◌<◌, ◌≤◌, ◌==◌, ◌^◌, Bool, true, false, cond, Option, Some, None, refl, sym, ap, subst, ◌∙◌, arith, option_map}
use Rattle.std.specs.Prelude.{nat_lt, unwrap_or}
use Rattle.std.proofs.lemmas.Bool.{cases_Bool, lt-ltb, ltb-true}
use Rattle.std.proofs.lemmas.Option.{none-some, same_Some}
use Rattle.r4_base.specs.Key.{key_of_rank, minor_of, offset_of}
use Rattle.r4_base.specs.Tree.{Store}
use Rattle.r4_base.specs.Value.{Byte, Content, Entry, Stat, Value, at_key}
use Rattle.r4_base.specs.Volume.{HasExtents, HasStat, InExtent, InTail, KeyFits, blocks_for, byte_rank, is_directory, object_of}
use Rattle.r4_base.specs.declared.items.Attr.{Attr}
use Rattle.r4_base.specs.declared.items.Target.{Target}
use Rattle.r4_content.specs.Edited.{Edits, Intervals, changed, edited, is_in}
use Rattle.r4_content.specs.Units.{IsOfFile, IsOrPads, MovesUnits}
use Rattle.r4_content.proofs.EditLaws.{edited_off, edited_on}
use Rattle.r4_content.proofs.Keeping.{byte_key}
use Rattle.r4_allowed.specs.r4_extent_change.r4_extent_blocks.Setting.{byte_set}
use Rattle.r4_applied.specs.r4_build.Building.{set_by}
use Rattle.r4_applied.proofs.r4_build.Contents.{set_is}
use Rattle.r4_applied.specs.r4_patch.Effect.{IsSetAt, Placed}
use Rattle.r4_applied.specs.r4_reach.Touched.{Body, blocks_end, first_byte}
use Rattle.r4_applied.proofs.SeenThere.{past_size, stat_seen, stands}
use Rattle.r4_applied.proofs.r4_sets.Bodies.{in_kind, same_option}
use Rattle.r4_applied.proofs.r4_sets.Carried.{byte_owner, not_both_ways}
use Rattle.r4_extent_moves.specs.Moving.{AreKeys, ChangesBody, MovesBody, body_then, byte_there, in_body}
use Rattle.r4_extent_moves.proofs.BodyKeys.{before_end, body_at, minor_at, of_body, offset_at, owner_at, some_bytes}
use Rattle.r4_extent_moves.proofs.BytesSet.{set_byte, unset}

module _ (b : Body) (e : Edits) (u : Store Value) (raw n : Content) (h : ChangesBody b e u raw n) where
  abbrev then_there : Content
  then_there = edited e n

  -- ---- a key of the body

  module _ (k : ℕ) (on : in_body b k ≡ true) where
    offset : (x : ℕ) × (x < 2 ^ 64) × (k ≡ byte_rank b.file x)
    offset = offset_at b h.object k on

    -- what is visible there is a byte below the size
    pub byte_then : (v : Value) → at_key (edited e n) k ≡ Some v → (y : ℕ) × (v ≡ Byte y) × (k < blocks_end b b.now)
    byte_then v at = by v at (h.after.keys k v at)
      where
        by : (v : Value) → at_key (edited e n) k ≡ Some v → KeyFits (edited e n) (key_of_rank k) v
            → (y : ℕ) × (v ≡ Byte y) × (k < blocks_end b b.now)
        by (Stat a) at f = let one = f.0 in let four = minor_at b h.object k on in absurd (omega (arith, one, four))
        by (Entry s t) at f = let four = minor_at b h.object k on in absurd (omega (arith, f, four))
        by (Byte y) at (four, (a, stat, file)) =
            let own : HasStat (edited e n) b.file a =
            subst (λ (o : Target). HasStat (edited e n) o a) (owner_at b h.object k on) stat in
            let (x, lt, is) = offset in
            let low : x < a.size =
            (h.after.offsets b.file a own file x lt).0 (y, ap (at_key (edited e n)) (sym is) ∙ at) in
            let size = h.now a own file in
            let end : blocks_end b b.now ≡ first_byte b + 4096 * blocks_for b.now = refl in
            let blocks : blocks_for b.now ≡ (b.now + 4095) / 4096 = refl in
            let step = Rattle.r4_extent_moves.proofs.BodyKeys.at_offset b h.object x in
            (y, refl, omega (arith, low, size, end, blocks, is, step))

    -- a byte there is of the file
    of_file : k < blocks_end b b.now → IsOfFile (edited e n) k
    of_file low =
        let (a, stat, file) = h.there (some_bytes b h.object k b.now on low) in (
          minor_at b h.object k on,
          (a, subst (λ (o : Target). HasStat (edited e n) o a) (sym (owner_at b h.object k on)) stat, file),
        )

    -- the byte that is visible is the one that is to stand there
    same_byte : (y : ℕ) → at_key (edited e n) k ≡ Some (Byte y)
        → unwrap_or (byte_set e k) (byte_there (at_key raw k)) ≡ y
    same_byte y at = elim (cases_Bool (is_in (changed e) k)) [
      | inl change ↦
          ap (λ (o : Option ℕ). unwrap_or o (byte_there (at_key raw k))) (set_byte e n k y change at)
      | inr off ↦
          ap (λ (o : Option ℕ). unwrap_or o (byte_there (at_key raw k))) (unset e k off)
          ∙ ap byte_there (stands raw n h.visible k (Byte y) (sym (edited_off e n k off) ∙ at))
    ]

    -- units that are as they are to stand are as the edits say, or fill a last block
    as_edited : (units : Content) → at_key units k ≡ option_map (λ w. w.0) (body_then b e raw k)
        → IsOrPads units (edited e n) k
    as_edited units is = by_end (nat_lt k (blocks_end b b.now)) refl
      where
        byte : Value
        byte = Byte (unwrap_or (byte_set e k) (byte_there (at_key raw k)))

        told : (t : Bool) → nat_lt k (blocks_end b b.now) ≡ t → at_key units k ≡ cond t (Some byte) None
        told true at = is ∙ ap (λ (t : Bool). option_map (λ (w : Placed Value). w.0) (cond t (Some (byte, false)) None)) at
        told false at = is ∙ ap (λ (t : Bool). option_map (λ (w : Placed Value). w.0) (cond t (Some (byte, false)) None)) at

        by_end : (t : Bool) → nat_lt k (blocks_end b b.now) ≡ t → IsOrPads units (edited e n) k
        by_end true low = there (at_key (edited e n) k) refl
          where
            there : (o : Option Value) → at_key (edited e n) k ≡ o → IsOrPads units (edited e n) k
            there None none = inr (
              none,
              (unwrap_or (byte_set e k) (byte_there (at_key raw k)), told true low),
              of_file (ltb-true k (blocks_end b b.now) low),
            )
            there (Some v) at =
                let (y, is_byte, below) = byte_then v at in
                inl (told true low ∙ (ap (λ (z : ℕ). Some (Byte z)) (same_byte y (at ∙ ap Some is_byte))
                ∙ sym (at ∙ ap Some is_byte)))
        by_end false high = inl (told false high ∙ sym (none (at_key (edited e n) k) refl))
          where
            none : (o : Option Value) → at_key (edited e n) k ≡ o → at_key (edited e n) k ≡ None
            none None at = at
            none (Some v) at =
                let (y, is_byte, below) = byte_then v at in
                let f : true ≡ false = sym (lt-ltb k (blocks_end b b.now) below) ∙ high in cc

  -- ---- the whole change

  module _ (at : ℕ → Bool) (to : ℕ → Option (Placed Value)) (m : MovesBody b e u raw at to) where
    -- where the body's unit is not moved, it is the one that is to stand there
    stood : (k : ℕ) → in_body b k ≡ true → at k ≡ false
        → at_key raw k ≡ option_map (λ w. w.0) (body_then b e raw k)
    stood k on off = same_option (at_key raw k) (option_map (λ w. w.0) (body_then b e raw k)) (λ v. (
      λ has. (let (i, c, tc, has_unit) = (h.units k v).0 has in
          ap (option_map (λ (w : Placed Value). w.0)) ((m.stays k (v, c.level == 1) on off).0 (i, c, tc, has_unit, refl))),
      λ is. (let (flag, placed) = from_map (body_then b e raw k) v is in
          let (i, c, tc, has_unit, kind) = (m.stays k (v, flag) on off).1 placed in
          (h.units k v).1 (i, c, tc, has_unit)),
    ))
      where
        from_map : (o : Option (Placed Value)) (v : Value) → option_map (λ (w : Placed Value). w.0) o ≡ Some v
            → (flag : Bool) × (o ≡ Some (v, flag))
        from_map None v is = absurd (none-some v is)
        from_map (Some w) v is = (w.1, ap (λ (z : Value). Some (z, w.1)) (same_Some w.0 v is))

    module _ (after : Content) (moved : Intervals) (keys : AreKeys moved at) (set : IsSetAt at to raw after) where
      by_set : (k : ℕ) (t : Bool) → at k ≡ t → at_key after k ≡ cond t (option_map (λ w. w.0) (to k)) (at_key raw k)
      by_set k t is = set k ∙ ap (λ (s : Bool). cond s (option_map (λ (w : Placed Value). w.0) (to k)) (at_key raw k)) is

      made : (k : ℕ) → is_in moved k ≡ true → IsOrPads after (edited e n) k
      made k on = elim (cases_Bool (in_body b k)) [
        | inl body ↦
            as_edited k body after
            (by_set k true (sym (keys k) ∙ on) ∙ ap (option_map (λ (w : Placed Value). w.0)) (m.moved k body (sym (keys k) ∙ on)))
        | inr other ↦
            let change : is_in (changed e) k ≡ true = sym (m.others k other) ∙ (sym (keys k) ∙ on) in
            inl (by_set k true (sym (keys k) ∙ on)
            ∙ (ap (option_map (λ (w : Placed Value). w.0)) (m.own k other (sym (keys k) ∙ on))
            ∙ (sym (set_is e raw k ∙ ap (λ (s : Bool). cond s (option_map (λ (w : Placed Value). w.0) (set_by e k)) (at_key raw k)) change)
            ∙ edited_on e raw n k change)))
      ]

      spared : (k : ℕ) → is_in moved k ≡ false → is_in (changed e) k ≡ true → IsOrPads raw (edited e n) k
      spared k off on = elim (cases_Bool (in_body b k)) [
        | inl body ↦ as_edited k body raw (stood k body (sym (keys k) ∙ off))
        | inr other ↦ absurd (not_both_ways (m.others k other ∙ on) (sym (keys k) ∙ off))
      ]

      -- a byte past its file's size is of one that stays
      padding : (k x : ℕ) → is_in moved k ≡ false → is_in (changed e) k ≡ false → at_key raw k ≡ Some (Byte x)
          → at_key n k ≡ None → IsOfFile (edited e n) k
      padding k x off same has none = elim (cases_Bool (in_body b k)) [
        | inl body ↦ of_file k body (below body (nat_lt k (blocks_end b b.now)) refl)
        | inr other ↦ of_other other
      ]
        where
          below : in_body b k ≡ true → (t : Bool) → nat_lt k (blocks_end b b.now) ≡ t → k < blocks_end b b.now
          below body true low = ltb-true k (blocks_end b b.now) low
          below body false high =
              let byte = Byte (unwrap_or (byte_set e k) (byte_there (at_key raw k))) in
              absurd (none-some (Byte x) (sym (stood k body (sym (keys k) ∙ off)
              ∙ ap (λ (t : Bool). option_map (λ (w : Placed Value). w.0) (cond t (Some (byte, false)) None)) high) ∙ has))

          of_other : in_body b k ≡ false → IsOfFile (edited e n) k
          of_other other =
              let (four, (a, stat, file)) = h.files.keys k (Byte x) has in
              let o = object_of (key_of_rank k) in
              let past = past_size raw n h.visible k x a stat has none in
              let some = some_size a stat file past in
              let seen = stat_seen raw n h.visible o a stat in
              let (y, first) = (h.before.offsets o a seen file 0 (omega arith)).1 some in
              let still : is_in (changed e) (byte_rank o 0) ≡ false = not_changed four stat.0 other in
              let (_, (c, now, kind)) = h.after.keys (byte_rank o 0) (Byte y) (edited_off e n (byte_rank o 0) still ∙ first) in (
                four,
                (c, subst (λ (q : Target). HasStat (edited e n) q c) (byte_owner o 0 stat.0 (omega arith)) now, kind),
              )
            where
              not_changed : minor_of (key_of_rank k) ≡ 4 → Rattle.r4_base.specs.Volume.IsObject (object_of (key_of_rank k))
                  → in_body b k ≡ false → is_in (changed e) (byte_rank (object_of (key_of_rank k)) 0) ≡ false
              not_changed four is other = elim (cases_Bool (is_in (changed e) (byte_rank (object_of (key_of_rank k)) 0))) [
                | inl on ↦
                    let body = h.one (byte_rank (object_of (key_of_rank k)) 0) on
                    (Rattle.r4_applied.proofs.BodyTold.byte_body (object_of (key_of_rank k)) 0 is (omega arith)) in
                    let own : object_of (key_of_rank k) ≡ b.file =
                    sym (byte_owner (object_of (key_of_rank k)) 0 is (omega arith))
                    ∙ owner_at b h.object (byte_rank (object_of (key_of_rank k)) 0) body in
                    absurd (not_both_ways (of_body b h.object k four own) other)
                | inr still ↦ still
              ]

              -- it lies in an extent, so the file has a byte
              some_size : (a : Attr) → HasStat raw (object_of (key_of_rank k)) a → is_directory a ≡ false
                  → a.size ≤ offset_of (key_of_rank k) → 0 < a.size
              some_size a stat file past =
                  let (is, small) = byte_key k (h.files.keys k (Byte x) has).0 in
                  elim (h.files.bodies (object_of (key_of_rank k)) a stat file).1 [
                    | inl tails ↦ elim (in_kind u raw k (Byte x) h.units has) [
                      | inl tail ↦
                          let low = (tails.offsets (offset_of (key_of_rank k)) small).0 (subst (InTail u) is tail) in
                          absurd (omega (arith, low, past))
                      | inr extent ↦
                          absurd (tails.no_extents (offset_of (key_of_rank k)) small (subst (InExtent u) is extent))
                    ]
                    | inr extents ↦ elim (in_kind u raw k (Byte x) h.units has) [
                      | inl tail ↦
                          absurd (extents.no_tails (offset_of (key_of_rank k)) small (subst (InTail u) is tail))
                      | inr extent ↦
                          let low = (extents.offsets (offset_of (key_of_rank k)) small).0 (subst (InExtent u) is extent) in
                          let blocks : blocks_for a.size ≡ (a.size + 4095) / 4096 = refl in
                          omega (arith, low, blocks)
                    ]
                  ]

      pub moves : MovesUnits e n raw after moved
      moves = record {
        visible = h.visible;
        kept = λ k off. by_set k false (sym (keys k) ∙ off);
        made = made;
        spared = spared;
        padding = padding;
      }
