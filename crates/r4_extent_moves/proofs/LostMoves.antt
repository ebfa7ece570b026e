-- The change of a body in extents that loses blocks leaves at each of its keys what is to stand there.
use Rattle.std.proofs.Common.{◌≡◌, ◌↔◌, inl, inr, ℕ, ◌+◌, ◌-◌, ◌/◌, ◌<◌, ◌≤◌, ◌^◌, Bool, true, false, cond, List, Option, Some, None, refl, sym, ap, ◌∙◌, arith}
use Rattle.std.specs.Prelude.{nat_lt, unwrap_or, ◌&&◌, ◌||◌}
use Rattle.std.specs.Option.{option_or}
use Rattle.std.proofs.Math.Bool.{or-false}
use Rattle.std.proofs.Math.Decide.{dec_le}
use Rattle.std.proofs.Math.Nat.{lt_of_not-le}
use Rattle.std.proofs.lemmas.Bool.{cases_Bool, le-leb, lt-ltb, or_left}
use Rattle.std.proofs.lemmas.Option.{none-some, same_Some}
use Rattle.r4_base.specs.Tree.{Store}
use Rattle.r4_base.specs.Value.{Byte, Content, Value, at_key}
use Rattle.r4_base.specs.Volume.{blocks_for}
use Rattle.r4_content.specs.Edited.{Edits, changed, is_in, put_keys}
use Rattle.r4_content.proofs.Ranks.{between_is}
use Rattle.r4_applied.specs.r4_build.Building.{set_by}
use Rattle.r4_applied.proofs.r4_build.MetKeys.{key_met}
use Rattle.r4_applied.specs.r4_patch.Effect.{Placed, UnitIn}
use Rattle.r4_applied.specs.r4_reach.Needs.{is_met}
use Rattle.r4_applied.specs.r4_reach.Touched.{Body, first_byte, turns_out}
use Rattle.r4_applied.specs.r4_sets_told.r4_cell.Seen.{CellSeen}
use Rattle.r4_applied.proofs.r4_sets.Carried.{not_both_ways}
use Rattle.r4_allowed.specs.r4_extent_change.Among.{gone_among}
use Rattle.r4_allowed.specs.r4_extent_change.Beside.{without_bytes}
use Rattle.r4_allowed.specs.r4_extent_change.Losing.{lost_keys, lost_values}
use Rattle.r4_allowed.specs.r4_extent_change.r4_extent_blocks.Setting.{byte_set, zero_in}
use Rattle.r4_allowed.specs.r4_extent_change.r4_extent_build.Growing.{end_after, end_before}
use Rattle.r4_allowed.proofs.r4_extent_change.GoneKeys.{gone_is}
use Rattle.r4_extent_moves.specs.Lost.{LosesBody}
use Rattle.r4_extent_moves.specs.Moving.{ChangesBody, MovesBody, body_then, byte_there, in_body}
use Rattle.r4_extent_moves.proofs.BodyKeys.{in_on}
use Rattle.r4_extent_moves.proofs.BytesSet.{none_put}
use Rattle.r4_extent_moves.proofs.OutsideBody.{same_changes, same_values}
use Rattle.r4_extent_moves.proofs.ThenThere.{beside_off, nothing_then, some_then}
use Rattle.r4_extent_moves.proofs.StoodBody.{in_extent_of, one_at}

module _ (b : Body) (e : Edits) (u : Store Value) (raw n : Content) (cells : List CellSeen)
    (h : ChangesBody b e u raw n) (g : LosesBody b e u raw cells) where
  -- ---- the keys that go

  goes_at : (k : ℕ) → gone_among b cells k ≡ true → (end_after b ≤ k) × (k < end_before b)
  goes_at k on = let (from, to, _) = (gone_is b cells k).0 on in (from, to)

  gone_in_body : (k : ℕ) → gone_among b cells k ≡ true → in_body b k ≡ true
  gone_in_body k on =
      let (from, to) = goes_at k on in
      let small = g.losing.sized.was in
      let blocks : blocks_for b.was ≡ (b.was + 4095) / 4096 = refl in
      in_on b k (omega (arith, from)) (omega (arith, to, small, blocks))

  none_gone : (k : ℕ) → in_body b k ≡ false → gone_among b cells k ≡ false
  none_gone k off = elim (cases_Bool (gone_among b cells k)) [
    | inl on ↦ absurd (not_both_ways (gone_in_body k on) off)
    | inr none ↦ none
  ]

  -- ---- outside of the body

  changes : (k : ℕ) → in_body b k ≡ false → is_in (changed (without_bytes e)) k ≡ is_in (changed e) k
  changes k off = same_changes b e u raw n h g.end g.suits g.cuts k off

  pub outside : (k : ℕ) → in_body b k ≡ false → lost_keys b e cells k ≡ is_in (changed e) k
  outside k off =
      ap (λ (t : Bool). is_in (changed (without_bytes e)) k || t) (none_gone k off)
      ∙ (or-false (is_in (changed (without_bytes e)) k) ∙ changes k off)

  pub own_values : (k : ℕ) → in_body b k ≡ false → lost_keys b e cells k ≡ true → lost_values e k ≡ set_by e k
  own_values k off on =
      ap (λ (t : Bool). cond t (set_by (without_bytes e) k) None) (changes k off ∙ (sym (outside k off) ∙ on))
      ∙ same_values b e u raw n h g.end g.suits g.cuts k off

  -- ---- in the body

  keys_are : (k : ℕ) → in_body b k ≡ true → lost_keys b e cells k ≡ gone_among b cells k
  keys_are k on = ap (λ (t : Bool). t || gone_among b cells k) (beside_off b e g.beside k on)

  pub moved_values : (k : ℕ) → in_body b k ≡ true → lost_keys b e cells k ≡ true → lost_values e k ≡ body_then b e raw k
  moved_values k on at =
      let (from, to) = goes_at k (sym (keys_are k on) ∙ at) in
      ap (λ (t : Bool). cond t (set_by (without_bytes e) k) None) (beside_off b e g.beside k on) ∙ sym (nothing_then b e raw k from)

  -- ---- what stays

  -- no byte is put at a key of the body: it lies in one of its blocks, which all get none
  no_put : (k : ℕ) → in_body b k ≡ true → is_in (put_keys e.puts) k ≡ false
  no_put k on = elim (cases_Bool (is_in (put_keys e.puts) k)) [
    | inr off ↦ off
    | inl put ↦
        let (low, high) = between_is (first_byte b) (first_byte b + 2 ^ 64) k on in
        elim (dec_le (k + 4096) (first_byte b + 2 ^ 64)) [
          | yes lower ↦ absurd (meets_none k put low lower (omega arith) (omega arith))
          | no last ↦
              let past = lt_of_not-le last in
              absurd (meets_none (first_byte b + 2 ^ 64 - 4096) put (omega arith) (omega arith) (omega (arith, past)) (omega (arith, high)))
        ]
  ]
    where
      meets_none : (j : ℕ) → is_in (put_keys e.puts) k ≡ true → first_byte b ≤ j → j + 4096 ≤ first_byte b + 2 ^ 64
          → j ≤ k → k < j + 4096 → ⊥
      meets_none j put from to low high =
          let met = key_met (put_keys e.puts) j (j + 4096) k put low high in
          not_both_ways (or_left (is_met (put_keys e.puts) j (j + 4096)) (turns_out b && nat_lt j (first_byte b + b.was)) met) (g.losing.quiet j from to)

  kept : (k y : ℕ) → in_body b k ≡ true → at_key raw k ≡ Some (Byte y) → unwrap_or (byte_set e k) (byte_there (at_key raw k)) ≡ y
  kept k y on there = elim (cases_Bool (is_in e.zeros k)) [
    | inl zero ↦ ap (λ (o : Option ℕ). unwrap_or o (byte_there (at_key raw k))) (set_is true zero)
        ∙ (sym (ap byte_there (g.zeros k on zero)) ∙ ap byte_there there)
    | inr none ↦ ap (λ (o : Option ℕ). unwrap_or o (byte_there (at_key raw k))) (set_is false none) ∙ ap byte_there there
  ]
    where
      set_is : (t : Bool) → is_in e.zeros k ≡ t → byte_set e k ≡ cond t (Some 0) None
      set_is t is =
          ap (λ (o : Option ℕ). option_or o (zero_in e.zeros k)) (none_put e.puts k (no_put k on))
          ∙ ap (λ (s : Bool). cond s (Some 0) None) is

  pub stays_there : (k : ℕ) (w : Placed Value) → in_body b k ≡ true → lost_keys b e cells k ≡ false
      → UnitIn u k w ↔ (body_then b e raw k ≡ Some w)
  stays_there k w on off = elim (dec_le (end_after b) k) [
    | yes high ↦ elim (dec_le (end_before b) k) [
      | yes behind ↦ (
        λ x. let (_, low) = in_extent_of b e u raw n h g.stood k w on x in absurd (omega (arith, low, behind)),
        λ x. absurd (none-some w (sym (nothing_then b e raw k high) ∙ x)),
      )
      | no low ↦
          let lt = lt_of_not-le low in
          let goes = g.goes k (rw (le-leb (end_after b) k high, lt-ltb k (end_before b) lt) refl) in
          absurd (not_both_ways (keys_are k on ∙ (gone_is b cells k).1 goes) off)
    ]
    | no low ↦ below (lt_of_not-le low)
  ]
    where
      below : k < end_after b → UnitIn u k w ↔ (body_then b e raw k ≡ Some w)
      below low =
          let shorter = g.losing.shorter in
          let one = one_at b e u raw n h g.stood k on (omega (arith, low, shorter)) in
          let is : body_then b e raw k ≡ Some (Byte one.byte, false) =
          some_then b e raw k low ∙ ap (λ (y : ℕ). Some (Byte y, false)) (kept k one.byte on one.value) in (
            λ x. is ∙ ap Some (sym ((one.unit w).0 x)),
            λ x. (one.unit w).1 (sym (same_Some (Byte one.byte, false) w (sym is ∙ x))),
          )

  pub moves : MovesBody b e u raw (lost_keys b e cells) (lost_values e)
  moves = record { others = outside; own = own_values; moved = moved_values; stays = stays_there }
