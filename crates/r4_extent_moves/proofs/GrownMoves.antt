-- The change of a body in extents that grows leaves at each of its keys what is to stand there.
use Rattle.std.proofs.Common.{◌≡◌, ◌↔◌, inl, inr, ℕ, ◌<◌, ◌≤◌, Bool, true, false, cond, List, Option, Some, None, refl, sym, ap, ◌∙◌, arith}
use Rattle.std.specs.Prelude.{Contains, nat_lt, unwrap_or, ◌&&◌, ◌||◌}
use Rattle.std.specs.Option.{is_some}
use Rattle.std.proofs.Math.Bool.{or-false}
use Rattle.std.proofs.Math.Decide.{dec_le}
use Rattle.std.proofs.Math.Nat.{lt_of_not-le}
use Rattle.std.proofs.lemmas.Bool.{ltb-false, le-leb, or_left, or_right}
use Rattle.std.proofs.lemmas.Option.{none-some, same_Some}
use Rattle.r4_base.specs.Tree.{Store}
use Rattle.r4_base.specs.Value.{Byte, Content, Value, at_key}
use Rattle.r4_content.specs.Edited.{Edits, changed, is_in}
use Rattle.r4_applied.specs.r4_build.Building.{set_by}
use Rattle.r4_applied.specs.r4_patch.Effect.{Placed, UnitIn}
use Rattle.r4_applied.specs.r4_reach.Touched.{Body}
use Rattle.r4_applied.specs.r4_sets_told.r4_cell.Seen.{CellSeen}
use Rattle.r4_applied.proofs.r4_sets.Carried.{not_both_ways}
use Rattle.r4_allowed.specs.r4_extent_change.r4_extent_blocks.Setting.{byte_set}
use Rattle.r4_allowed.specs.r4_extent_change.r4_extent_build.Growing.{end_after, end_before}
use Rattle.r4_allowed.specs.r4_extent_change.r4_extent_build.Looping.{keys_of_each}
use Rattle.r4_allowed.specs.r4_extent_change.r4_extent_build.Setting.{bytes_after, in_coming}
use Rattle.r4_allowed.proofs.r4_extent_change.r4_extent_build.UnitsFilled.{or_cases}
use Rattle.r4_allowed.specs.r4_extent_change.r4_extent_renew.Overwriting.{blocks_among, in_blocks, is_set_in}
use Rattle.r4_allowed.specs.r4_extent_change.Beside.{turning_among, without_bytes}
use Rattle.r4_allowed.specs.r4_extent_change.Changing.{grown_keys, grown_values}
use Rattle.r4_extent_moves.specs.Grown.{GetsThere, GrowsBody}
use Rattle.r4_extent_moves.specs.Moving.{ChangesBody, MovesBody, body_then, byte_there, in_body}
use Rattle.r4_extent_moves.proofs.GrownBody.{all_of, coming_at, coming_in_body, hole_at, one_of}
use Rattle.r4_extent_moves.proofs.OutsideBody.{same_changes, same_values, unset_outside}
use Rattle.r4_extent_moves.proofs.ThenThere.{beside_off, nothing_then, some_then}
use Rattle.r4_extent_moves.proofs.StoodBody.{before_end_of, in_extent_of, nothing_at, one_at}
use Rattle.r4_extent_moves.proofs.SuitedBytes.{lies_in}

module _ (b : Body) (e : Edits) (u : Store Value) (raw n : Content) (cells : List CellSeen) (keys : CellSeen → ℕ → Bool)
    (h : ChangesBody b e u raw n) (g : GrowsBody b e u raw cells keys) where
  -- ---- outside of the body

  unset_at : (k : ℕ) → in_body b k ≡ false → byte_set e k ≡ None
  unset_at k off = unset_outside b e u raw n h g.end g.suits k off

  twigs_in_body : (k : ℕ) → keys_of_each keys (turning_among b e cells) k ≡ true → in_body b k ≡ true
  twigs_in_body k on =
      let (c, m, at) = one_of keys (turning_among b e cells) k on in
      elim ((g.twigs.keys c m).within k at) [
        | inl hole ↦ (hole_at b e u raw n cells keys h g c m k hole).body
        | inr come ↦ coming_in_body b e u raw n cells keys h g c k come
      ]

  twigs_off : (k : ℕ) → in_body b k ≡ false → keys_of_each keys (turning_among b e cells) k ≡ false
  twigs_off k off = by (keys_of_each keys (turning_among b e cells) k) refl
    where
      by : (t : Bool) → keys_of_each keys (turning_among b e cells) k ≡ t → keys_of_each keys (turning_among b e cells) k ≡ false
      by false is = is
      by true is = absurd (not_both_ways (twigs_in_body k is) off)

  set_off : (k : ℕ) → byte_set e k ≡ None → is_set_in e (blocks_among cells) k ≡ false
  set_off k is = ap (λ (o : Option ℕ). in_blocks (blocks_among cells) k && is_some o) is ∙ and_off (in_blocks (blocks_among cells) k)
    where
      and_off : (t : Bool) → (t && false) ≡ false
      and_off true = refl
      and_off false = refl

  pub outside : (k : ℕ) → in_body b k ≡ false → grown_keys b e cells keys k ≡ is_in (changed e) k
  outside k off =
      (λ i. is_in (changed (without_bytes e)) k || (twigs_off k off i || set_off k (unset_at k off) i))
      ∙ (or-false (is_in (changed (without_bytes e)) k) ∙ same_changes b e u raw n h g.end g.suits g.cuts k off)

  pub own_values : (k : ℕ) → in_body b k ≡ false → grown_keys b e cells keys k ≡ true → grown_values e k ≡ set_by e k
  own_values k off on =
      ap (λ (t : Bool). cond t (set_by (without_bytes e) k) (bytes_after e k))
      (same_changes b e u raw n h g.end g.suits g.cuts k off ∙ (sym (outside k off) ∙ on))
      ∙ same_values b e u raw n h g.end g.suits g.cuts k off

  -- ---- in the body

  keys_are : (k : ℕ) → in_body b k ≡ true
      → grown_keys b e cells keys k ≡ (keys_of_each keys (turning_among b e cells) k || is_set_in e (blocks_among cells) k)
  keys_are k on = ap (λ (t : Bool). t || (keys_of_each keys (turning_among b e cells) k || is_set_in e (blocks_among cells) k)) (beside_off b e g.beside k on)

  -- a key that is moved lies in the blocks that are needed, and where no byte is set no other than 0 stood there
  record IsMoved (k : ℕ) : Type 0 where
    low : k < end_after b
    zero : byte_set e k ≡ None → byte_there (at_key raw k) ≡ 0

  twig_moved : (k : ℕ) → in_body b k ≡ true → keys_of_each keys (turning_among b e cells) k ≡ true → IsMoved k
  twig_moved k on at =
      let (c, m, has) = one_of keys (turning_among b e cells) k at in
      elim ((g.twigs.keys c m).within k has) [
        | inl hole ↦
            let x = hole_at b e u raw n cells keys h g c m k hole in
            let low = before_end_of b e u raw n h g.stood k on x.extent in
            let longer = g.growing.longer in
            record { low = omega (arith, low, longer); zero = λ _. ap byte_there x.value }
        | inr come ↦
            let (from, to) = coming_at b e u raw n cells keys h g c k come in
            record { low = to; zero = λ _. ap byte_there (nothing_at b e u raw n h g.stood k on from) }
      ]

  set_moved : (k : ℕ) → is_set_in e (blocks_among cells) k ≡ true → IsMoved k
  set_moved k at = by (byte_set e k) refl
    where
      by : (o : Option ℕ) → byte_set e k ≡ o → IsMoved k
      by None is = absurd (not_both_ways at (set_off k is))
      by (Some x) is = record { low = (lies_in b e u raw n h g.end g.suits k x is).1; zero = λ no. absurd (none-some x (sym no ∙ is)) }

  is_moved : (k : ℕ) → in_body b k ≡ true → grown_keys b e cells keys k ≡ true → IsMoved k
  is_moved k on at = elim (or_cases (keys_of_each keys (turning_among b e cells) k) (is_set_in e (blocks_among cells) k) (sym (keys_are k on) ∙ at)) [
    | inl twig ↦ twig_moved k on twig
    | inr block ↦ set_moved k block
  ]

  pub moved_values : (k : ℕ) → in_body b k ≡ true → grown_keys b e cells keys k ≡ true → grown_values e k ≡ body_then b e raw k
  moved_values k on at =
      let m = is_moved k on at in
      ap (λ (t : Bool). cond t (set_by (without_bytes e) k) (bytes_after e k)) (beside_off b e g.beside k on)
      ∙ (ap (λ (y : ℕ). Some (Byte y, false)) (same_or (byte_set e k) (byte_there (at_key raw k)) m.zero)
      ∙ sym (some_then b e raw k m.low))
    where
      same_or : (o : Option ℕ) (y : ℕ) → (o ≡ None → y ≡ 0) → unwrap_or o 0 ≡ unwrap_or o y
      same_or None y zero = sym (zero refl)
      same_or (Some x) y zero = refl

  -- ---- what stays

  twig_keeps : (k : ℕ) (c : CellSeen) → Contains (turning_among b e cells) c → in_body b k ≡ true → grown_keys b e cells keys k ≡ false → keys c k ≡ false
  twig_keeps k c m on off = by (keys c k) refl
    where
      by : (t : Bool) → keys c k ≡ t → keys c k ≡ false
      by false is = is
      by true is =
          absurd (not_both_ways (keys_are k on ∙ or_left (keys_of_each keys (turning_among b e cells) k) (is_set_in e (blocks_among cells) k)
          (all_of keys (turning_among b e cells) k c m is)) off)

  none_comes : (k : ℕ) (c : CellSeen) → Contains (turning_among b e cells) c → in_body b k ≡ true → grown_keys b e cells keys k ≡ false → in_coming b c k ≡ true → ⊥
  none_comes k c m on off come = not_both_ways ((g.twigs.keys c m).coming k come) (twig_keeps k c m on off)

  -- a byte that is set at such a key is a 0 over a 0
  zero_stays : (k x : ℕ) → in_body b k ≡ true → grown_keys b e cells keys k ≡ false → byte_set e k ≡ Some x
      → (x ≡ 0) × (at_key raw k ≡ Some (Byte 0))
  zero_stays k x on off is = by (g.covered k x is)
    where
      by : GetsThere b e raw cells k x → (x ≡ 0) × (at_key raw k ≡ Some (Byte 0))
      by (inl block) =
          let set : is_set_in e (blocks_among cells) k ≡ true = (λ i. block i && is_some (is i)) in
          absurd (not_both_ways (keys_are k on ∙ or_right (keys_of_each keys (turning_among b e cells) k) (is_set_in e (blocks_among cells) k) set) off)
      by (inr (inl (c, m, inl hole))) =
          let zero = (g.twigs.keys c m).holes k (twig_keeps k c m on off) hole in
          let same : Byte x ≡ Byte 0 = ap (λ (o : Option ℕ). Byte (unwrap_or o 0)) (sym is) ∙ zero in
          (ap (λ (v : Value). byte_there (Some v)) same, (hole_at b e u raw n cells keys h g c m k hole).value)
      by (inr (inl (c, m, inr come))) = absurd (none_comes k c m on off come)
      by (inr (inr zero)) = zero

  kept : (k y : ℕ) → in_body b k ≡ true → grown_keys b e cells keys k ≡ false → at_key raw k ≡ Some (Byte y)
      → unwrap_or (byte_set e k) (byte_there (at_key raw k)) ≡ y
  kept k y on off there = by (byte_set e k) refl
    where
      by : (o : Option ℕ) → byte_set e k ≡ o → unwrap_or (byte_set e k) (byte_there (at_key raw k)) ≡ y
      by None is = ap (λ (o : Option ℕ). unwrap_or o (byte_there (at_key raw k))) is ∙ ap byte_there there
      by (Some x) is =
          let (zero, stood) = zero_stays k x on off is in
          ap (λ (o : Option ℕ). unwrap_or o (byte_there (at_key raw k))) is ∙ (zero ∙ (sym (ap byte_there stood) ∙ ap byte_there there))

  pub stays_there : (k : ℕ) (w : Placed Value) → in_body b k ≡ true → grown_keys b e cells keys k ≡ false
      → UnitIn u k w ↔ (body_then b e raw k ≡ Some w)
  stays_there k w on off = elim (dec_le (end_before b) k) [
    | yes high ↦ behind high (nat_lt k (end_after b)) refl
    | no low ↦ below (lt_of_not-le low)
  ]
    where
      behind : end_before b ≤ k → (t : Bool) → nat_lt k (end_after b) ≡ t → UnitIn u k w ↔ (body_then b e raw k ≡ Some w)
      behind high true is =
          let (c, m, come) = g.comes k (rw (le-leb (end_before b) k high, is) refl) in
          absurd (none_comes k c m on off come)
      behind high false is = (
        λ x. let (_, low) = in_extent_of b e u raw n h g.stood k w on x in absurd (omega (arith, low, high)),
        λ x. absurd (none-some w (sym (nothing_then b e raw k (ltb-false k (end_after b) is)) ∙ x)),
      )

      below : k < end_before b → UnitIn u k w ↔ (body_then b e raw k ≡ Some w)
      below low =
          let one = one_at b e u raw n h g.stood k on low in
          let longer = g.growing.longer in
          let is : body_then b e raw k ≡ Some (Byte one.byte, false) =
          some_then b e raw k (omega (arith, low, longer)) ∙ ap (λ (y : ℕ). Some (Byte y, false)) (kept k one.byte on off one.value) in (
            λ x. is ∙ ap Some (sym ((one.unit w).0 x)),
            λ x. (one.unit w).1 (sym (same_Some (Byte one.byte, false) w (sym is ∙ x))),
          )

  pub moves : MovesBody b e u raw (grown_keys b e cells keys) (grown_values e)
  moves = record { others = outside; own = own_values; moved = moved_values; stays = stays_there }
