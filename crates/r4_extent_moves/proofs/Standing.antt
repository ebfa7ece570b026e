-- How files stand once a body in extents was changed.
use Rattle.std.proofs.Common.{◌≡◌, ◌↔◌, ◌⊎◌, inl, inr, ℕ, ◌*◌, ◌<◌, ◌==◌, ◌^◌, Bool, true, false, cond, Option, Some, None, refl, sym, ap, subst, ◌∙◌, arith, option_map}
use Rattle.std.specs.Prelude.{nat_lt, unwrap_or}
use Rattle.std.proofs.Math.Decide.{dec_le}
use Rattle.std.proofs.Math.Nat.{lt_of_not-le}
use Rattle.std.proofs.lemmas.Bool.{cases_Bool, eq-eqb, lt-ltb, ltb-true}
use Rattle.std.proofs.lemmas.Option.{none-some, same_Some}
use Rattle.r4_base.specs.Tree.{IsTree, Root, Store}
use Rattle.r4_base.specs.Value.{Byte, Content, Stat, Value, at_key}
use Rattle.r4_base.specs.Volume.{HasExtents, HasStat, HasTails, InExtent, InTail, IsObject, blocks_for, byte_rank, is_directory}
use Rattle.r4_base.specs.Volume.{stat_rank}
use Rattle.r4_base.specs.declared.items.Attr.{Attr}
use Rattle.r4_base.specs.declared.items.Target.{Target}
use Rattle.r4_content.specs.Edited.{Edits, changed, edited, is_in}
use Rattle.r4_content.specs.Lawful.{HasByte}
use Rattle.r4_content.proofs.EditLaws.{edited_off, edited_on}
use Rattle.r4_allowed.specs.r4_extent_change.r4_extent_blocks.Setting.{byte_set}
use Rattle.r4_applied.specs.r4_build.Building.{set_by}
use Rattle.r4_applied.proofs.r4_build.Contents.{set_is}
use Rattle.r4_applied.specs.r4_patch.Effect.{HasEffect, IsSetAt, Placed, UnitIn}
use Rattle.r4_applied.specs.r4_patch.Part.{MeetsPart}
use Rattle.r4_applied.specs.r4_reach.Touched.{Body, blocks_end}
use Rattle.r4_applied.specs.r4_sets.Units.{SameUnit}
use Rattle.r4_applied.specs.r4_sets_told.r4_cell.Patch.{Patch, place}
use Rattle.r4_applied.proofs.BodyTold.{byte_body}
use Rattle.r4_applied.proofs.SeenThere.{stat_seen, stat_stands}
use Rattle.r4_applied.proofs.r4_sets.Bodies.{IsFile, body_of_units, file_or_not, no_body, same_body}
use Rattle.r4_applied.proofs.r4_sets.Carried.{byte_owner, not_both_ways}
use Rattle.r4_applied.proofs.r4_sets.Cells.{then_iff}
use Rattle.r4_applied.proofs.r4_sets_told.r4_patch.Effects.{changed_after, others_after}
use Rattle.r4_applied.proofs.r4_sets_told.r4_patch.PartCells.{tree_is_part}
use Rattle.r4_extent_moves.specs.Moving.{ChangesBody, MovesBody, body_then, byte_there, in_body}
use Rattle.r4_extent_moves.proofs.BodyKeys.{before_end, body_at, end_behind, not_stat, owner_at}

module _ (b : Body) (e : Edits) (u : Store Value) (root : Root) (p : Patch Value) (raw n after : Content)
    (at : ℕ → Bool) (to : ℕ → Option (Placed Value)) (h : ChangesBody b e u raw n) (m : MovesBody b e u raw at to)
    (it : IsTree u root) (meets : MeetsPart p u root) (effect : HasEffect p at to) (set : IsSetAt at to raw after) where
  abbrev tree_then : Store Value
  tree_then = place p u

  moved_units : (k : ℕ) (w : Placed Value) → at k ≡ true → UnitIn (place p u) k w ↔ (to k ≡ Some w)
  moved_units k w on = changed_after p u root (tree_is_part u root it) meets at to effect k w on

  other_units : (k : ℕ) (w : Placed Value) → at k ≡ false → UnitIn (place p u) k w ↔ UnitIn u k w
  other_units k w off = others_after p u root (tree_is_part u root it) meets at to effect k w off

  -- ---- stat data

  stat_now : (o : Target) (a : Attr) → HasStat after o a → HasStat (edited e n) o a
  stat_now o a (is, has) = (is, by (at (stat_rank o)) refl)
    where
      same : at (stat_rank o) ≡ is_in (changed e) (stat_rank o)
      same = m.others (stat_rank o) (not_stat b h.object o is)

      told : (t : Bool) → at (stat_rank o) ≡ t → at_key after (stat_rank o)
          ≡ cond t (option_map (λ (x : Placed Value). x.0) (to (stat_rank o))) (at_key raw (stat_rank o))
      told t on = set (stat_rank o)
          ∙ ap (λ (s : Bool). cond s (option_map (λ (x : Placed Value). x.0) (to (stat_rank o))) (at_key raw (stat_rank o))) on

      by : (t : Bool) → at (stat_rank o) ≡ t → at_key (edited e n) (stat_rank o) ≡ Some (Stat a)
      by true on =
          let change : is_in (changed e) (stat_rank o) ≡ true = sym same ∙ on in
          edited_on e n raw (stat_rank o) change
          ∙ (set_is e raw (stat_rank o)
          ∙ (ap (λ (s : Bool). cond s (option_map (λ (x : Placed Value). x.0) (set_by e (stat_rank o))) (at_key raw (stat_rank o))) change
          ∙ (ap (option_map (λ (x : Placed Value). x.0)) (sym (m.own (stat_rank o) (not_stat b h.object o is) on))
          ∙ (sym (told true on) ∙ has))))
      by false off =
          edited_off e n (stat_rank o) (sym same ∙ off)
          ∙ (stat_seen raw n h.visible o a (is, sym (told false off) ∙ has)).1

  -- ---- the body that is changed

  units_then : (k : ℕ) (w : Placed Value) → in_body b k ≡ true → UnitIn (place p u) k w ↔ (body_then b e raw k ≡ Some w)
  units_then k w body = elim (cases_Bool (at k)) [
    | inl on ↦ (
      λ has. sym (m.moved k body on) ∙ (moved_units k w on).0 has,
      λ is. (moved_units k w on).1 (m.moved k body on ∙ is),
    )
    | inr off ↦ then_iff (other_units k w off) (m.stays k w body off)
  ]

  in_extents : HasExtents (place p u) b.file b.now
  in_extents = record {
    offsets = λ x lt. (λ has. below x lt has, λ low. stands x lt low);
    no_tails = λ x lt has. no_tail x lt has;
  }
    where
      byte : ℕ → Value
      byte k = Byte (unwrap_or (byte_set e k) (byte_there (at_key raw k)))

      then_is : (k : ℕ) (t : Bool) → nat_lt k (blocks_end b b.now) ≡ t → body_then b e raw k ≡ cond t (Some (byte k, false)) None
      then_is k t is = ap (λ (s : Bool). cond s (Some (byte k, false)) None) is

      below : (x : ℕ) → x < 2 ^ 64 → InExtent (place p u) (byte_rank b.file x) → x < 4096 * blocks_for b.now
      below x lt (i, c, v, pc, level, has) =
          by_end (nat_lt (byte_rank b.file x) (blocks_end b b.now)) refl
          ((units_then (byte_rank b.file x) (v, c.level == 1) (body_at b h.object x lt)).0 (i, c, pc, has, refl))
        where
          by_end : (t : Bool) → nat_lt (byte_rank b.file x) (blocks_end b b.now) ≡ t
              → body_then b e raw (byte_rank b.file x) ≡ Some (v, c.level == 1) → x < 4096 * blocks_for b.now
          by_end true low is = before_end b h.object x b.now (ltb-true (byte_rank b.file x) (blocks_end b b.now) low)
          by_end false high is = absurd (none-some (v, c.level == 1) (sym (then_is (byte_rank b.file x) false high) ∙ is))

      stands : (x : ℕ) → x < 2 ^ 64 → x < 4096 * blocks_for b.now → InExtent (place p u) (byte_rank b.file x)
      stands x lt low =
          let k : ℕ = byte_rank b.file x in
          let is = then_is (byte_rank b.file x) true (lt-ltb (byte_rank b.file x) (blocks_end b b.now) (end_behind b h.object x b.now low)) in
          let (i, c, pc, has, kind) = (units_then (byte_rank b.file x) (byte (byte_rank b.file x), false) (body_at b h.object x lt)).1 is in
          (i, c, byte (byte_rank b.file x), pc, (λ one. not_both_ways (eq-eqb c.level 1 one) kind), has)

      no_tail : (x : ℕ) → x < 2 ^ 64 → InTail (place p u) (byte_rank b.file x) → ⊥
      no_tail x lt (i, c, v, pc, one, has) =
          by_end (nat_lt (byte_rank b.file x) (blocks_end b b.now)) refl
          ((units_then (byte_rank b.file x) (v, c.level == 1) (body_at b h.object x lt)).0 (i, c, pc, has, refl))
        where
          by_end : (t : Bool) → nat_lt (byte_rank b.file x) (blocks_end b b.now) ≡ t
              → body_then b e raw (byte_rank b.file x) ≡ Some (v, c.level == 1) → ⊥
          by_end true low is =
              not_both_ways (eq-eqb c.level 1 one)
              (ap (λ (w : Placed Value). w.1) (sym (same_Some (byte (byte_rank b.file x), false) (v, c.level == 1)
              (sym (then_is (byte_rank b.file x) true low) ∙ is))))
          by_end false high is = none-some (v, c.level == 1) (sym (then_is (byte_rank b.file x) false high) ∙ is)

  -- ---- another one

  module _ (o : Target) (object : IsObject o) (other : in_body b (byte_rank o 0) ≡ false) where
    not_mine : (x : ℕ) → x < 2 ^ 64 → in_body b (byte_rank o x) ≡ false
    not_mine x lt = elim (cases_Bool (in_body b (byte_rank o x))) [
      | inl body ↦
          let own : o ≡ b.file = sym (byte_owner o x object lt) ∙ owner_at b h.object (byte_rank o x) body in
          absurd (not_both_ways (ap (λ (q : Target). in_body b (byte_rank q 0)) own ∙ body_at b h.object 0 (omega arith)) other)
      | inr off ↦ off
    ]

    still : (x : ℕ) → x < 2 ^ 64 → is_in (changed e) (byte_rank o x) ≡ false
    still x lt = elim (cases_Bool (is_in (changed e) (byte_rank o x))) [
      | inl on ↦ absurd (not_both_ways (h.one (byte_rank o x) on (byte_body o x object lt)) (not_mine x lt))
      | inr off ↦ off
    ]

    same_units : (x : ℕ) → x < 2 ^ 64 → SameUnit (place p u) u (byte_rank o x)
    same_units x lt w = other_units (byte_rank o x) w (m.others (byte_rank o x) (not_mine x lt) ∙ still x lt)

    same_bytes : (x : ℕ) → x < 2 ^ 64 → at_key (edited e n) (byte_rank o x) ≡ at_key n (byte_rank o x)
    same_bytes x lt = edited_off e n (byte_rank o x) (still x lt)

    module _ (a : Attr) (stat : HasStat (edited e n) o a) (file : is_directory a ≡ false) where
      has_now : (x : ℕ) → x < 2 ^ 64 → HasByte n o x ↔ (x < a.size)
      has_now x lt = (
        λ has. (h.after.offsets o a stat file x lt).0 (has.0, same_bytes x lt ∙ has.1),
        λ low. (let (y, is) = (h.after.offsets o a stat file x lt).1 low in (y, sym (same_bytes x lt) ∙ is)),
      )

      as_it_stood : HasTails (place p u) o a.size ⊎ HasExtents (place p u) o a.size
      as_it_stood = elim (file_or_not n o object) [
        | inr new ↦ inl (of_none new)
        | inl was ↦
            let (c, (there, kind)) = was in
            same_body (place p u) u o a.size (λ x lt. body_of_units (place p u) u o x (same_units x lt))
            (subst (λ (s : ℕ). HasTails u o s ⊎ HasExtents u o s) (same_size c there kind)
            (h.files.bodies o c (stat_stands raw n h.visible o c there) kind).1)
      ]
        where
          same_size : (c : Attr) → HasStat n o c → is_directory c ≡ false → c.size ≡ a.size
          same_size c there kind =
              let small = h.before.small o c there kind in
              let small_now = h.after.small o a stat file in
              elim (dec_le c.size a.size) [
                | yes up ↦ elim (dec_le a.size c.size) [
                  | yes down ↦ omega (arith, up, down)
                  | no less ↦
                      let low = lt_of_not-le less in
                      let lt : c.size < 2 ^ 64 = omega (arith, small) in
                      let below = (h.before.offsets o c there kind c.size lt).0 ((has_now c.size lt).1 low) in
                      absurd (omega (arith, below))
                ]
                | no more ↦
                    let low = lt_of_not-le more in
                    let lt : a.size < 2 ^ 64 = omega (arith, small_now) in
                    let below = (has_now a.size lt).0 ((h.before.offsets o c there kind a.size lt).1 low) in
                    absurd (omega (arith, below))
              ]

          -- a file that was not there has no byte
          of_none : ((c : Attr) → IsFile n o c → ⊥) → HasTails (place p u) o a.size
          of_none new = record {
            offsets = λ x lt. (
              λ tail. absurd (none x lt (inl ((body_of_units (place p u) u o x (same_units x lt)).0.0 tail))),
              λ low. absurd (no_byte x lt low),
            );
            no_extents = λ x lt extent. none x lt (inr ((body_of_units (place p u) u o x (same_units x lt)).1.0 extent));
          }
            where
              none : (x : ℕ) → x < 2 ^ 64 → InTail u (byte_rank o x) ⊎ InExtent u (byte_rank o x) → ⊥
              none x lt has =
                  no_body u raw o h.units h.files object (λ c f. new c (stat_seen raw n h.visible o c f.0, f.1)) x lt has

              no_byte : (x : ℕ) → x < 2 ^ 64 → x < a.size → ⊥
              no_byte x lt low =
                  let (y, is) = (has_now x lt).1 low in
                  let (_, (c, there, kind)) = h.before.keys (byte_rank o x) (Byte y) is in
                  new c (subst (λ (q : Target). HasStat n q c) (byte_owner o x object lt) there, kind)

  pub kinds : (o : Target) (a : Attr) → HasStat after o a → is_directory a ≡ false
      → HasTails (place p u) o a.size ⊎ HasExtents (place p u) o a.size
  kinds o a stat file = elim (cases_Bool (in_body b (byte_rank o 0))) [
    | inl body ↦
        let own : o ≡ b.file = sym (byte_owner o 0 stat.0 (omega arith)) ∙ owner_at b h.object (byte_rank o 0) body in
        let size : a.size ≡ b.now = h.now a (subst (λ (q : Target). HasStat (edited e n) q a) own (stat_now o a stat)) file in
        inr (subst (λ (q : Target). HasExtents (place p u) q a.size) (sym own)
        (subst (λ (s : ℕ). HasExtents (place p u) b.file s) (sym size) in_extents))
    | inr other ↦ as_it_stood o stat.0 other a (stat_now o a stat) file
  ]
