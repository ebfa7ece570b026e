-- What stood at the keys of a body that stands in extents, before it changes.
use Rattle.std.proofs.Common.{◌≡◌, ◌≢◌, ◌↔◌, ℕ, ◌<◌, ◌≤◌, ◌==◌, true, false, Option, Some, None, refl, sym, subst, ◌∙◌, arith}
use Rattle.std.specs.Prelude.{Contains}
use Rattle.std.proofs.Math.Decide.{ℕ_discrete}
use Rattle.std.proofs.lemmas.Bool.{ne_eqb}
use Rattle.std.proofs.lemmas.Option.{same_Some}
use Rattle.r4_base.specs.Key.{key_of_rank}
use Rattle.r4_base.specs.Tree.{Node, Store}
use Rattle.r4_base.specs.Value.{Byte, Content, Entry, Stat, Value, at_key}
use Rattle.r4_base.specs.Volume.{HasExtents, InExtent, InTail, KeyFits}
use Rattle.r4_content.specs.Edited.{Edits}
use Rattle.r4_applied.specs.r4_patch.Effect.{Placed, UnitIn}
use Rattle.r4_applied.specs.r4_reach.Touched.{Body}
use Rattle.r4_allowed.specs.r4_extent_change.r4_extent_build.Growing.{end_before}
use Rattle.r4_extent_moves.specs.Moving.{ChangesBody, in_body}
use Rattle.r4_extent_moves.proofs.BodyKeys.{at_offset, minor_at, offset_at}

module _ (b : Body) (e : Edits) (u : Store Value) (raw n : Content) (h : ChangesBody b e u raw n)
    (stood : HasExtents u b.file b.was) where
  -- what stands in an extent of the body stood below the end of its blocks
  pub before_end_of : (k : ℕ) → in_body b k ≡ true → InExtent u k → k < end_before b
  before_end_of k on there =
      let (x, lt, at) = offset_at b h.object k on in
      let low = (stood.offsets x lt).0 (subst (InExtent u) at there) in
      let step = at_offset b h.object x in
      omega (arith, low, at, step)

  -- a unit there stood in an extent
  pub in_extent_of : (k : ℕ) (w : Placed Value) → in_body b k ≡ true → UnitIn u k w → (w.1 ≡ false) × (k < end_before b)
  in_extent_of k (v, t) on (i, c, is, has, kind) = elim (ℕ_discrete c.level 1) [
    | yes one ↦
        let (x, lt, at) = offset_at b h.object k on in
        absurd (stood.no_tails x lt (subst (InTail u) at (i, c, v, is, one, has)))
    | no other ↦ (sym kind ∙ ne_eqb c.level 1 other, before_end_of k on (i, c, v, is, other, has))
  ]

  pub nothing_at : (k : ℕ) → in_body b k ≡ true → end_before b ≤ k → at_key raw k ≡ None
  nothing_at k on high = by (at_key raw k) refl
    where
      by : (o : Option Value) → at_key raw k ≡ o → at_key raw k ≡ None
      by None is = is
      by (Some v) is =
          let (i, c, at, has) = (h.units k v).0 is in
          let (_, low) = in_extent_of k (v, c.level == 1) on (i, c, at, has, refl) in
          absurd (omega (arith, low, high))

  -- below the end of its blocks a byte stood, and no other unit
  pub record HasOne (k : ℕ) : Type 0 where
    pub byte : ℕ
    pub value : at_key raw k ≡ Some (Byte byte)
    pub unit : (w : Placed Value) → UnitIn u k w ↔ (w ≡ (Byte byte, false))

  pub one_at : (k : ℕ) → in_body b k ≡ true → k < end_before b → HasOne k
  one_at k on low =
      let (x, lt, at) = offset_at b h.object k on in
      let step = at_offset b h.object x in
      let (i, c, v, is, level, has) = subst (InExtent u) (sym at) ((stood.offsets x lt).1 (omega (arith, low, at, step))) in
      by i c v is level has ((h.units k v).1 (i, c, is, has)) (h.files.keys k v ((h.units k v).1 (i, c, is, has)))
    where
      by : (i : ℕ) (c : Node Value) (v : Value) → u i ≡ Some c → c.level ≢ 1 → Contains c.units (k, v) → at_key raw k ≡ Some v → KeyFits raw (key_of_rank k) v → HasOne k
      by i c (Stat a) is level has there f = let one = f.0 in let four = minor_at b h.object k on in absurd (omega (arith, one, four))
      by i c (Entry s t) is level has there f = let four = minor_at b h.object k on in absurd (omega (arith, f, four))
      by i c (Byte y) is level has there f = record {
        byte = y;
        value = there;
        unit = λ w. (
          λ x. both w (unit_value w x) (in_extent_of k w on x).0,
          λ same. subst (UnitIn u k) (sym same) (i, c, is, has, ne_eqb c.level 1 level),
        );
      }
        where
          unit_value : (w : Placed Value) → UnitIn u k w → w.0 ≡ Byte y
          unit_value w (j, d, at, m, _) = same_Some w.0 (Byte y) (sym ((h.units k w.0).1 (j, d, at, m)) ∙ there)

          both : (w : Placed Value) → w.0 ≡ Byte y → w.1 ≡ false → w ≡ (Byte y, false)
          both w p q = λ i. (p i, q i)
