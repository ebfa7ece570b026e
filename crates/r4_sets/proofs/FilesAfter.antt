-- Files after a change, where those that it touches stand as files do.
use Rattle.std.specs.Prelude.{◌≡◌, ◌↔◌, ◌⊎◌, ℕ, suc, ◌+◌, ◌-◌, ◌^◌, ◌<◌, ◌≤◌, [], ◌∷◌, Bool, true, false, ◌||◌, nat_le}
use Rattle.std.specs.Prelude.{nat_lt, Some}
use Rattle.std.proofs.Common.{arith, inl, inr, refl, sym, ap, subst, ◌∙◌}
use Rattle.std.proofs.Math.Decide.{dec_le}
use Rattle.std.proofs.Math.Nat.{lt_of_not-le}
use Rattle.std.proofs.lemmas.Bool.{and_from, le-leb, lt-ltb, or_left, or_right}
use Rattle.r4_base.specs.Key.{key_of_rank, offset_of}
use Rattle.r4_base.specs.Value.{Value, Stat, Entry, Byte, Content, at_key}
use Rattle.r4_base.specs.Tree.{Store}
use Rattle.r4_base.specs.Volume.{HasExtents, HasFiles, HasStat, HasTails, HasUnits, IsPadding, IsVisible, KeyFits}
use Rattle.r4_base.specs.Volume.{byte_rank, is_directory, object_of, stat_rank}
use Rattle.r4_base.specs.declared.items.Attr.{Attr}
use Rattle.r4_base.specs.declared.items.Target.{Target}
use Rattle.r4_content.specs.Edited.{Intervals, is_between, is_in}
use Rattle.r4_content.proofs.Ranks.{between_is, byte_after}
use Rattle.r4_sets.specs.Change.{FilesAfter}
use Rattle.r4_sets.specs.Units.{SameUnit}
use Rattle.r4_sets.proofs.Bodies.{body_of_units, one_attr, same_at, same_body, stat_moved}
use Rattle.r4_sets.proofs.Carried.{true_or_false}
use Rattle.r4_sets.proofs.Cells.{back_iff, then_iff}

-- ---- whether an interval has a key of a body

abbrev InBody : Intervals → Target → Type 0
InBody rs o = (x : ℕ) × (x < 2 ^ 64) × (is_in rs (byte_rank o x) ≡ true)

no_body_key : (b : Bool) → ¬ (b ≡ true) → b ≡ false
no_body_key true h = absurd (h refl)
no_body_key false h = refl

-- one interval: its first key from the body's first one on
first_in : (from to : ℕ) (o : Target) → ((x : ℕ) × (x < 2 ^ 64) × (is_between from to (byte_rank o x) ≡ true))
    ⊎ ((x : ℕ) → x < 2 ^ 64 → is_between from to (byte_rank o x) ≡ false)
first_in from to o = elim (dec_le from (byte_rank o 0)) [
  | yes low ↦ at 0 low (omega arith) (λ x. omega arith)
  | no high ↦
      let above = lt_of_not-le high in
      let x = from - byte_rank o 0 in
      let is : byte_rank o (0 + x) ≡ byte_rank o 0 + x = byte_after o 0 x in
      let same : byte_rank o (0 + x) ≡ byte_rank o x = ap (byte_rank o) (omega arith) in
      at x (omega (arith, above, is, same)) (omega (arith, above, is, same)) (λ y. let iy : byte_rank o (0 + y)
      ≡ byte_rank o 0 + y = byte_after o 0 y in let sy : byte_rank o (0 + y) ≡ byte_rank o y =
      ap (byte_rank o) (omega arith) in λ le. omega (arith, le, iy, sy, above))
]
  where
    at : (x : ℕ) → from ≤ byte_rank o x → byte_rank o x ≤ byte_rank o x → ((y : ℕ) → from ≤ byte_rank o y → x ≤ y)
        → ((x : ℕ) × (x < 2 ^ 64) × (is_between from to (byte_rank o x) ≡ true))
        ⊎ ((x : ℕ) → x < 2 ^ 64 → is_between from to (byte_rank o x) ≡ false)
    at x low _ least_one = elim (dec_le (suc x) (2 ^ 64)) [
      | no out ↦ inr (λ y lt. no_body_key _ (λ e. let (f, t) = between_is from to (byte_rank o y) e in let le =
          least_one y f in out (omega (arith, le, lt))))
      | yes lt ↦ elim (dec_le (suc (byte_rank o x)) to) [
        | yes below ↦ inl (
          x,
          lt,
          and_from (nat_le from (byte_rank o x)) (nat_lt (byte_rank o x) to) (le-leb _ _ low)
              (lt-ltb _ _ below),
        )
        | no past ↦ inr (λ y ly. no_body_key _ (λ e.
            let (f, t) = between_is from to (byte_rank o y) e in
            let le = least_one y f in
            let ix : byte_rank o (0 + x) ≡ byte_rank o 0 + x = byte_after o 0 x in
            let sx : byte_rank o (0 + x) ≡ byte_rank o x = ap (byte_rank o) (omega arith) in
            let iy : byte_rank o (0 + y) ≡ byte_rank o 0 + y = byte_after o 0 y in
            let sy : byte_rank o (0 + y) ≡ byte_rank o y = ap (byte_rank o) (omega arith) in
            past (omega (arith, t, le, ix, sx, iy, sy))))
      ]
    ]

pub in_body_or_not : (rs : Intervals) (o : Target) → InBody rs o
    ⊎ ((x : ℕ) → x < 2 ^ 64 → is_in rs (byte_rank o x) ≡ false)
in_body_or_not [] o = inr (λ x lt. refl)
in_body_or_not (r ∷ rs) o = both (first_in r.0 r.1 o) (in_body_or_not rs o)
  where
    both : ((x : ℕ) × (x < 2 ^ 64) × (is_between r.0 r.1 (byte_rank o x) ≡ true))
        ⊎ ((x : ℕ) → x < 2 ^ 64 → is_between r.0 r.1 (byte_rank o x) ≡ false) → InBody rs o
        ⊎ ((x : ℕ) → x < 2 ^ 64 → is_in rs (byte_rank o x) ≡ false)
        → InBody (r ∷ rs) o ⊎ ((x : ℕ) → x < 2 ^ 64 → is_in (r ∷ rs) (byte_rank o x) ≡ false)
    both (inl (x, lt, e)) h = inl (x, lt, or_left _ _ e)
    both (inr none) (inl (x, lt, e)) = inl (x, lt, or_right _ _ e)
    both (inr none) (inr rest) = inr (λ x lt. ap (λ b. b || is_in rs (byte_rank o x)) (none x lt) ∙ rest x lt)

-- ---- files

module _ (t u : Store Value) (raw new n m : Content) (changed : Intervals) (ht : HasUnits t raw) (hu : HasUnits u new)
    (ft : HasFiles t raw) (vt : IsVisible raw n)
    (stays : (k : ℕ) → is_in changed k ≡ false → SameUnit t u k) (others : (k : ℕ) → is_in changed k ≡ false
    → at_key m k ≡ at_key n k) (h : FilesAfter u raw new m changed) where
  same : (k : ℕ) → is_in changed k ≡ false → at_key raw k ≡ at_key new k
  same k off = same_at t u raw new k ht hu (stays k off)

  abbrev IsKept : ℕ → Attr → Type 0
  IsKept k a = (b : Attr) × HasStat new (object_of (key_of_rank k)) b × (is_directory b ≡ false)
      × ((a.size ≤ offset_of (key_of_rank k)) ↔ (b.size ≤ offset_of (key_of_rank k)))

  kept : (k y : ℕ) (a : Attr) → is_in changed k ≡ false → at_key raw k ≡ Some (Byte y)
      → HasStat raw (object_of (key_of_rank k)) a → is_directory a ≡ false → IsKept k a
  kept k y a off e stat file = elim (true_or_false (is_in changed (stat_rank (object_of (key_of_rank k))))) [
    | inl on ↦ h.kept k y a off e stat file on
    | inr still ↦ (a, stat_moved raw new _ a (same _ still) stat, file, (λ x. x, λ x. x))
  ]

  fits : (k : ℕ) (v : Value) → at_key new k ≡ Some v → KeyFits new (key_of_rank k) v
  fits k v e = elim (true_or_false (is_in changed k)) [
    | inl on ↦ h.fits k v on e
    | inr off ↦ from_t v off (same k off ∙ e) (ft.keys k v (same k off ∙ e))
  ]
    where
      from_t : (v : Value) → is_in changed k ≡ false → at_key raw k ≡ Some v → KeyFits raw (key_of_rank k) v
          → KeyFits new (key_of_rank k) v
      from_t (Stat a) off at f = f
      from_t (Entry s p) off at f = f
      from_t (Byte y) off at (minor, (a, stat, file)) = let (b, stat_b, file_b, _) =
          kept k y a off at stat file in (minor, (b, stat_b, file_b))

  body : (o : Target) (b : Attr) → HasStat new o b → is_directory b ≡ false → (b.size ≤ 2 ^ 30)
      × (HasTails u o b.size ⊎ HasExtents u o b.size)
  body o b stat file = elim (true_or_false (is_in changed (stat_rank o))) [
    | inl on ↦ h.bodies o b stat file (inl on)
    | inr still ↦ elim (in_body_or_not changed o) [
      | inl touched ↦ h.bodies o b stat file (inr touched)
      | inr none ↦
          let (small, stands) = ft.bodies o b (stat_moved new raw o b (sym (same _ still)) stat) file in (
            small,
            same_body u t o b.size (λ x lt. let (tails, extents) =
                body_of_units t u o x (stays _ (none x lt)) in (back_iff tails, back_iff extents)) stands,
          )
    ]
  ]

  pub files_after : HasFiles u new
  files_after = record {
    keys = fits;
    bodies = body;
    bytes = λ o b stat. elim (true_or_false (is_in changed (stat_rank o))) [
      | inl on ↦ h.bytes o b stat on
      | inr still ↦ ft.bytes o b (stat_moved new raw o b (sym (same _ still)) stat)
    ];
  }

  pad_kept : (k : ℕ) (v : Value) → is_in changed k ≡ false → at_key raw k ≡ Some v → IsPadding raw (key_of_rank k) v
      ↔ IsPadding new (key_of_rank k) v
  pad_kept k (Stat a) off e = (λ p. p, λ p. p)
  pad_kept k (Entry s p) off e = (λ q. q, λ q. q)
  pad_kept k (Byte y) off e =
      let (minor, (a, stat, file)) = ft.keys k (Byte y) e in
      let (b, stat_b, _, side) = kept k y a off e stat file in (
        λ (c, sc, le). (
          b,
          stat_b,
          side.0
              (subst (λ (z : Attr). z.size ≤ offset_of (key_of_rank k)) (one_attr raw _ c a sc stat) le),
        ),
        λ (c, sc, le). (
          a,
          stat,
          side.1
              (subst (λ (z : Attr). z.size ≤ offset_of (key_of_rank k)) (one_attr new _ c b sc stat_b) le),
        ),
      )

  visible_off : (k : ℕ) (v : Value) → is_in changed k ≡ false → (at_key n k ≡ Some v)
      ↔ ((at_key new k ≡ Some v) × (IsPadding new (key_of_rank k) v → ⊥))
  visible_off k v off = then_iff (vt k v) (
    λ (e, seen). (sym (same k off) ∙ e, λ p. seen ((pad_kept k v off e).1 p)),
    λ (e, seen). let at = same k off ∙ e in (at, λ p. seen ((pad_kept k v off at).0 p)),
  )

  pub visible_after : IsVisible new m
  visible_after k v = elim (true_or_false (is_in changed k)) [
    | inl on ↦ h.seen k v on
    | inr off ↦ then_iff (λ x. sym (others k off) ∙ x, λ x. others k off ∙ x) (visible_off k v off)
  ]
