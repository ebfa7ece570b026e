-- The change of a body that comes out of tails to extents leaves at each of its keys what is to stand there.
use Rattle.std.proofs.Common.{◌≡◌, ◌↔◌, ◌⊎◌, inl, inr, ℕ, ◌+◌, ◌/◌, ◌<◌, ◌^◌, Bool, true, false, cond, Option, Some, None, refl, sym, ap, subst, ◌∙◌, arith}
use Rattle.std.specs.Prelude.{Contains, nat_lt, unwrap_or, ◌||◌}
use Rattle.std.proofs.Math.Bool.{or-false}
use Rattle.std.proofs.Math.Decide.{ℕ_discrete}
use Rattle.std.proofs.lemmas.Bool.{cases_Bool, le-leb, ltb-false}
use Rattle.std.proofs.lemmas.Option.{none-some, same_Some}
use Rattle.r4_base.specs.Key.{key_of_rank, rank}
use Rattle.r4_base.specs.Tree.{Node, Store}
use Rattle.r4_base.specs.Value.{Byte, Content, Entry, Stat, Value, at_key}
use Rattle.r4_base.specs.Volume.{InExtent, InTail, KeyFits, blocks_for}
use Rattle.r4_content.specs.Edited.{Edits, Pairs, changed, is_in}
use Rattle.r4_content.proofs.Ranks.{between_is}
use Rattle.r4_extent_moves.specs.Moving.{ChangesBody, MovesBody, body_then, byte_there, in_body}
use Rattle.r4_extent_moves.specs.r4_applied.r4_build.Building.{set_by}
use Rattle.r4_extent_moves.specs.r4_applied.r4_patch.Effect.{Placed, UnitIn}
use Rattle.r4_extent_moves.specs.r4_applied.r4_reach.Touched.{Body, first_byte}
use Rattle.r4_extent_moves.specs.r4_applied.r4_sets_told.r4_cell.Seen.{node_of}
use Rattle.r4_extent_moves.specs.r4_extent_change.Beside.{without_bytes}
use Rattle.r4_extent_moves.specs.r4_extent_change.r4_extent_blocks.Setting.{byte_set, last_put}
use Rattle.r4_extent_moves.specs.r4_extent_change.r4_extent_build.Growing.{end_after}
use Rattle.r4_extent_moves.proofs.BodyKeys.{at_offset, in_on, minor_at, offset_at}
use Rattle.r4_extent_moves.proofs.ThenThere.{beside_off, nothing_then, some_then}
use Rattle.r4_extent_moves.proofs.OutsideBody.{same_changes, same_values}
use Rattle.r4_extent_moves.proofs.r4_applied.r4_build.r4_path.Rising.{follow_covers, follow_within, in_node, level_is}
use Rattle.r4_extent_moves.proofs.r4_applied.r4_sets.Carried.{not_both_ways}
use Rattle.r4_extent_moves.specs.r4_extent_turned.Whole.{turned_keys, turned_values}
use Rattle.r4_extent_moves.specs.r4_extent_turned.r4_extent_turn.Gathering.{units_within}
use Rattle.r4_extent_moves.specs.r4_extent_turned.r4_extent_turn.Turning.{Turn, in_turned, last_of, leaves_of, tails_of, turned_values as extent_values}
use Rattle.r4_extent_moves.proofs.r4_extent_turned.r4_extent_turn.SetOver.{in_leaf, or_none}
use Rattle.r4_turned_moves.specs.Turned.{TurnsBody}
use Rattle.r4_turned_moves.proofs.TailBytes.{in_units, it_is_put, none_or_it}

module _ (b : Body) (e : Edits) (u : Store Value) (raw n : Content) (x : Turn)
    (h : ChangesBody b e u raw n) (g : TurnsBody b e u x) where
  -- ---- the keys of the blocks that come

  coming_in_body : (k : ℕ) → in_turned b k ≡ true → in_body b k ≡ true
  coming_in_body k on =
      let (low, high) = between_is (first_byte b) (end_after b) k on in
      let small = g.turning.sized.now in
      let blocks : blocks_for b.now ≡ (b.now + 4095) / 4096 = refl in
      in_on b k low (omega (arith, high, small, blocks))

  none_comes : (k : ℕ) → in_body b k ≡ false → in_turned b k ≡ false
  none_comes k off = elim (cases_Bool (in_turned b k)) [
    | inl on ↦ absurd (not_both_ways (coming_in_body k on) off)
    | inr none ↦ none
  ]

  -- ---- outside of the body

  changes : (k : ℕ) → in_body b k ≡ false → is_in (changed (without_bytes e)) k ≡ is_in (changed e) k
  changes k off = same_changes b e u raw n h g.end g.suits g.cuts k off

  pub outside : (k : ℕ) → in_body b k ≡ false → turned_keys b e k ≡ is_in (changed e) k
  outside k off =
      ap (λ (t : Bool). is_in (changed (without_bytes e)) k || t) (none_comes k off)
      ∙ (or-false (is_in (changed (without_bytes e)) k) ∙ changes k off)

  pub own_values : (k : ℕ) → in_body b k ≡ false → turned_keys b e k ≡ true → turned_values b e x k ≡ set_by e k
  own_values k off on =
      ap (λ (t : Bool). cond t (set_by (without_bytes e) k) (extent_values b e x k)) (changes k off ∙ (sym (outside k off) ∙ on))
      ∙ same_values b e u raw n h g.end g.suits g.cuts k off

  -- ---- what stood in the body

  -- a unit there stood in a leaf, below the size that the body had
  in_tail_of : (k : ℕ) (v : Value) (i : ℕ) (c : Node Value) → in_body b k ≡ true → u i ≡ Some c → Contains c.units (k, v)
      → (c.level ≡ 1) × (k < first_byte b + b.was)
  in_tail_of k v i c on is has = elim (ℕ_discrete c.level 1) [
    | yes one ↦
        let (o, lt, at) = offset_at b h.object k on in
        let low = (g.stood.offsets o lt).0 (subst (InTail u) at (i, c, v, is, one, has)) in
        let step = at_offset b h.object o in
        (one, omega (arith, low, at, step))
    | no other ↦
        let (o, lt, at) = offset_at b h.object k on in
        absurd (g.stood.no_extents o lt (subst (InExtent u) at (i, c, v, is, other, has)))
  ]

  abbrev tails : Pairs
  tails = units_within (first_byte b) (end_after b) (leaves_of x)

  of_leaf : (p : ℕ × Value) → Contains tails p → at_key raw p.0 ≡ Some p.1
  of_leaf p m =
      let (c, (at, (has, on))) = in_leaf (first_byte b) (end_after b) (leaves_of x) p m in
      (h.units p.0 p.1).1 (c.id, node_of c, g.leaves_in c at, has)

  -- one of the turn's leaves has it, since no key lies in two leaves of a tree
  to_leaf : (k y : ℕ) → in_turned b k ≡ true → at_key raw k ≡ Some (Byte y) → Contains tails (k, Byte y)
  to_leaf k y on there =
      let (i, c, is, has) = (h.units k (Byte y)).0 there in
      let (one, _) = in_tail_of k (Byte y) i c (coming_in_body k on) is has in
      let (low, high) = between_is (first_byte b) (end_after b) k on in
      let begins = g.around.low in
      let ends = g.around.high in
      let (d, at, range) = follow_covers 1 (rank x.leaf.lo) (rank (last_of x).hi) (leaves_of x) k g.follow (omega (arith, begins, low)) (omega (arith, ends, high)) in
      let leaf = (follow_within 1 (rank x.leaf.lo) (rank (last_of x).hi) (leaves_of x) d g.follow at).level_as in
      let level = level_is d in
      let same : i ≡ d.id =
      g.tree.apart i d.id c (node_of d) k is (g.leaves_in d at) (omega (arith, one, leaf, level)) (omega (arith, one)) ((g.tree.nodes i c is).unit_in k (Byte y) has) (in_node d k range) in
      let cell : c ≡ node_of d = same_Some c (node_of d) (sym is ∙ (ap u same ∙ g.leaves_in d at)) in
      in_units (first_byte b) (end_after b) (leaves_of x) (k, Byte y) d at (subst (λ (z : Node Value). Contains z.units (k, Byte y)) cell has) on

  -- the byte that stood there is the one that the turn takes out of the leaves
  tails_are : (k : ℕ) → in_turned b k ≡ true → unwrap_or (byte_set (tails_of b x) k) 0 ≡ byte_there (at_key raw k)
  tails_are k on = ap (λ (o : Option ℕ). unwrap_or o 0) (or_none (last_put tails k)) ∙ by (at_key raw k) refl
    where
      alone : (y : ℕ) → (at_key raw k ≡ None) ⊎ (at_key raw k ≡ Some (Byte y)) → (p : ℕ × Value) → Contains tails p → p.0 ≡ k → p.1 ≡ Byte y
      alone y (inl nothing) p m same = absurd (none-some p.1 (sym nothing ∙ (ap (at_key raw) (sym same) ∙ of_leaf p m)))
      alone y (inr there) p m same = same_Some p.1 (Byte y) (sym (of_leaf p m) ∙ (ap (at_key raw) same ∙ there))

      by_fit : (v : Value) → at_key raw k ≡ Some v → KeyFits raw (key_of_rank k) v → unwrap_or (last_put tails k) 0 ≡ byte_there (at_key raw k)
      by_fit (Stat a) is f = let one = f.0 in let four = minor_at b h.object k (coming_in_body k on) in absurd (omega (arith, one, four))
      by_fit (Entry s t) is f = let four = minor_at b h.object k (coming_in_body k on) in absurd (omega (arith, f, four))
      by_fit (Byte y) is f =
          ap (λ (o : Option ℕ). unwrap_or o 0) (it_is_put k y tails (alone y (inr is)) (to_leaf k y on is)) ∙ sym (ap byte_there is)

      by : (o : Option Value) → at_key raw k ≡ o → unwrap_or (last_put tails k) 0 ≡ byte_there (at_key raw k)
      by None is = elim (none_or_it k 0 tails (alone 0 (inl is))) [
        | inl none ↦ ap (λ (o : Option ℕ). unwrap_or o 0) none ∙ sym (ap byte_there is)
        | inr zero ↦ ap (λ (o : Option ℕ). unwrap_or o 0) zero ∙ sym (ap byte_there is)
      ]
      by (Some v) is = by_fit v is (h.files.keys k v is)

  -- ---- in the body

  keys_are : (k : ℕ) → in_body b k ≡ true → turned_keys b e k ≡ in_turned b k
  keys_are k on = ap (λ (t : Bool). t || in_turned b k) (beside_off b e g.beside k on)

  pub moved_values : (k : ℕ) → in_body b k ≡ true → turned_keys b e k ≡ true → turned_values b e x k ≡ body_then b e raw k
  moved_values k on at =
      let comes = sym (keys_are k on) ∙ at in
      let (low, high) = between_is (first_byte b) (end_after b) k comes in
      ap (λ (t : Bool). cond t (set_by (without_bytes e) k) (extent_values b e x k)) (beside_off b e g.beside k on)
      ∙ (ap (λ (y : ℕ). Some (Byte (unwrap_or (byte_set e k) y), false)) (tails_are k comes)
      ∙ sym (some_then b e raw k high))

  -- behind the blocks nothing stood, and nothing is to stand
  pub stays_there : (k : ℕ) (w : Placed Value) → in_body b k ≡ true → turned_keys b e k ≡ false
      → UnitIn u k w ↔ (body_then b e raw k ≡ Some w)
  stays_there k w on off = by (nat_lt k (end_after b)) refl
    where
      by : (t : Bool) → nat_lt k (end_after b) ≡ t → UnitIn u k w ↔ (body_then b e raw k ≡ Some w)
      by true low =
          let (from, _) = between_is (first_byte b) (first_byte b + 2 ^ 64) k on in
          let comes : in_turned b k ≡ true = rw (le-leb (first_byte b) k from, low) refl in
          absurd (not_both_ways (keys_are k on ∙ comes) off)
      by false high = (
        λ unit. (let (i, c, is, has, _) = unit in
            let (_, low) = in_tail_of k w.0 i c on is has in
            let longer = g.longer in
            let blocks : blocks_for b.was ≡ (b.was + 4095) / 4096 = refl in
            let from = ltb-false k (end_after b) high in
            absurd (omega (arith, low, longer, blocks, from))),
        λ is. absurd (none-some w (sym (nothing_then b e raw k (ltb-false k (end_after b) high)) ∙ is)),
      )

  pub moves : MovesBody b e u raw (turned_keys b e) (turned_values b e x)
  moves = record { others = outside; own = own_values; moved = moved_values; stays = stays_there }
