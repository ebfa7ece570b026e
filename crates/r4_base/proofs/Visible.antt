-- What stands in a content: units in range, and of a file just the bytes below its size.
use Rattle.std.proofs.Common.{◌≡◌, ℕ, ◌+◌, ◌*◌, ◌/◌, ◌%◌, ◌^◌, ◌<◌, ◌≤◌, false, [], ◌∷◌, refl, sym, ap, subst, ◌∙◌, arith, inl, inr, ⊎_elim}
use Rattle.std.specs.Prelude.{Some, Contains}
use Rattle.std.proofs.lemmas.Bool.{cases_lt}
use Rattle.std.proofs.lemmas.Option.{same_Some}
use Rattle.r4_base.specs.Image.{Image}
use Rattle.r4_base.specs.Key.{rank, key_of_rank, body_key, least, top}
use Rattle.r4_base.specs.Value.{Value, Stat, Entry, Byte, Content, at_key}
use Rattle.r4_base.specs.Tree.{Node, InNode, UnitAt}
use Rattle.r4_base.specs.Volume.{HasContent, HasStat, IsObject, KeyFits, IsPadding, object_of, byte_rank, stat_rank, is_directory}
use Rattle.r4_base.specs.declared.key.Key.{Key}
use Rattle.r4_base.specs.declared.items.Attr.{Attr}
use Rattle.r4_base.specs.declared.items.Target.{Target}

-- ---- ranks, back

parts : (a b c d : ℕ) → b < 2 ^ 64 → c < 2 ^ 64 → d < 2 ^ 64 → let r = a * 2 ^ 192 + (b * 2 ^ 128 + (c * 2 ^ 64 + d)) in (r / 2 ^ 192 ≡ a) × (r / 2 ^ 128 % 2 ^ 64 ≡ b) × (r / 2 ^ 64 % 2 ^ 64 ≡ c) × (r % 2 ^ 64 ≡ d)
parts a b c d lb lc ld = (omega (arith, lb, lc, ld), omega (arith, lb, lc, ld), omega (arith, lb, lc, ld), omega (arith, lb, lc, ld))

key_back : (a b c d : ℕ) → b < 2 ^ 64 → c < 2 ^ 64 → d < 2 ^ 64 → key_of_rank (rank (record { el = a ∷ b ∷ c ∷ d ∷ [] })) ≡ record { el = a ∷ b ∷ c ∷ d ∷ [] }
unfolding key_of_rank rank
key_back a b c d lb lc ld = let p = parts a b c d lb lc ld in rw (p.0, p.1, p.2, p.3) refl

pub byte_back : (o : Target) (offset : ℕ) → IsObject o → offset < 2 ^ 64 → key_of_rank (byte_rank o offset) ≡ body_key o.locality o.ordering o.oid offset
byte_back o offset is lt = key_back (o.locality * 16 + 4) o.ordering o.oid.0 offset is.1 is.2 lt

pub byte_object : (o : Target) (offset : ℕ) → object_of (body_key o.locality o.ordering o.oid offset) ≡ o
byte_object o offset = let e : (o.locality * 16 + 4) / 16 ≡ o.locality = omega arith in rw e refl

-- ---- what stands in the content

module _ (n : ℕ) (image : Image) (m : Content) (c : HasContent n image m) where
  raw_of : (k : ℕ) (v : Value) → at_key m k ≡ Some v → at_key c.raw k ≡ Some v
  raw_of k v at = ((c.visible k v).0 at).0

  -- a key of the content is that of a unit of a cell in whose range it lies
  pub in_cell : (k : ℕ) (v : Value) → at_key m k ≡ Some v → (i : ℕ) × (d : Node Value) × (c.store i ≡ Some d) × InNode d k × Contains d.units (k, v) × (least ≤ k) × (k < top)
  in_cell k v at =
      let (i, d, is, has) = (c.units k v).0 (raw_of k v at) in
      let node = c.tree.nodes i d is in
      let within = node.unit_in k v has in
      (i, d, is, within, has, omega (arith, node.from_least, within), omega (arith, node.to_top, within))

  raw_stat : (o : Target) (a : Attr) → HasStat m o a → HasStat c.raw o a
  raw_stat o a h = (h.0, raw_of (stat_rank o) (Stat a) h.1)

  padded : (o : Target) (a : Attr) (offset x : ℕ) → HasStat m o a → offset < 2 ^ 64 → a.size ≤ offset → IsPadding c.raw (key_of_rank (byte_rank o offset)) (Byte x)
  padded o a offset x h lt past =
      let back = byte_back o offset h.0 lt in
      subst (λ (k : Key). IsPadding c.raw k (Byte x)) (sym back) (a, subst (λ (p : Target). HasStat c.raw p a) (sym (byte_object o offset)) (raw_stat o a h), past)

  -- no byte of the content is at or past its file's size
  pub below_size : (o : Target) (a : Attr) (offset x : ℕ) → HasStat m o a → offset < 2 ^ 64 → at_key m (byte_rank o offset) ≡ Some (Byte x) → offset < a.size
  below_size o a offset x h lt at = elim (cases_lt offset a.size) [
    | inl below ↦ below
    | inr past ↦ absurd (((c.visible (byte_rank o offset) (Byte x)).0 at).1 (padded o a offset x h lt past))
  ]

  one_attr : (o : Target) (a b : Attr) → HasStat c.raw o a → HasStat c.raw o b → a ≡ b
  one_attr o a b h g = ap (λ (v : Value). elim v as (λ _. Attr) [ Stat y ↦ y | Entry s p ↦ a | Byte y ↦ a ]) (same_Some (Stat a) (Stat b) (sym h.1 ∙ g.1))

  -- a unit at the key of a file's byte is a byte
  a_byte : (o : Target) (offset : ℕ) (v : Value) → IsObject o → offset < 2 ^ 64 → at_key c.raw (byte_rank o offset) ≡ Some v → (x : ℕ) × (v ≡ Byte x)
  a_byte o offset v is lt at = fits v (subst (λ (k : Key). KeyFits c.raw k v) (byte_back o offset is lt) (c.files.keys (byte_rank o offset) v at))
    where
      fits : (v : Value) → KeyFits c.raw (body_key o.locality o.ordering o.oid offset) v → (x : ℕ) × (v ≡ Byte x)
      fits (Byte x) f = (x, refl)
      fits (Stat a) f = let e = f.0 in absurd (omega (arith, e))
      fits (Entry s p) f = absurd (omega (arith, f))

  seen : (o : Target) (a : Attr) (offset : ℕ) (v : Value) → HasStat m o a → offset < 2 ^ 64 → offset < a.size → UnitAt c.store (byte_rank o offset) v → (x : ℕ) × (at_key m (byte_rank o offset) ≡ Some (Byte x))
  seen o a offset v h lt below unit =
      let at = (c.units (byte_rank o offset) v).1 unit in
      let (x, is) = a_byte o offset v h.0 lt at in
      (x, (c.visible (byte_rank o offset) (Byte x)).1 (subst (λ (w : Value). at_key c.raw (byte_rank o offset) ≡ Some w) is at, λ padding. not_padded x padding))
    where
      not_padded : (x : ℕ) → IsPadding c.raw (key_of_rank (byte_rank o offset)) (Byte x) → ⊥
      not_padded x padding =
          let (b, g, past) = subst (λ (k : Key). IsPadding c.raw k (Byte x)) (byte_back o offset h.0 lt) padding in
          let same : a ≡ b = one_attr o a b (raw_stat o a h) (subst (λ (p : Target). HasStat c.raw p b) (byte_object o offset) g) in
          let sizes : a.size ≡ b.size = ap (λ (y : Attr). y.size) same in
          omega (arith, sizes, past, below)

  -- each byte of a file below its size is in the content
  pub whole_file : (o : Target) (a : Attr) (offset : ℕ) → HasStat m o a → is_directory a ≡ false → offset < a.size → (x : ℕ) × (at_key m (byte_rank o offset) ≡ Some (Byte x))
  whole_file o a offset h file below =
      let (small, body) = c.files.bodies o a (raw_stat o a h) file in
      let lt : offset < 2 ^ 64 = omega (arith, small, below) in
      ⊎_elim (λ tails. let (i, d, v, is, low, has) = (tails.offsets offset lt).1 below in seen o a offset v h lt below (i, d, is, has))
      (λ extents. let (i, d, v, is, high, has) = (extents.offsets offset lt).1 (omega (arith, below)) in seen o a offset v h lt below (i, d, is, has)) body
