-- Pieces of which one is parted: what they name, their units, and the bytes that they take up.
use Rattle.std.proofs.Common.{◌≡◌, ◌⊎◌, inl, inr, ℕ, ◌+◌, ◌-◌, ◌*◌, ◌/◌, ◌^◌, ◌<◌, ◌≤◌, Bool, true, false, List, [], ◌∷◌, ◌++◌, refl, sym, ap, subst, ◌∙◌, arith}
use Rattle.std.specs.Prelude.{◌==◌, Option, Some, None, Contains, nat_lt, if◌then◌else◌}
use Rattle.std.proofs.lemmas.Bool.{cases_lt, eq-eqb, lt-ltb, le-ltb}
use Rattle.std.proofs.lemmas.List.{append-nil}
use Rattle.std.proofs.lemmas.List.Elements.{Contains-append_cases}
use Rattle.r4_base.specs.Key.{offset_of, rank, later}
use Rattle.r4_base.specs.declared.items.Unit.{Unit as ExtentUnit}
use Rattle.r4_branch.proofs.ItemPieces.{units_append}
use Rattle.r4_branch.specs.Pieces.{Follow, IsSound, IsSoundPart, bytes_behind, names_of, next_of, open_end, part_bytes, part_end, part_names, part_units, piece_end, units_of}
use Rattle.r4_branch.specs.declared.piece.TwigPart.{TwigPart}
use Rattle.r4_branch.specs.declared.piece.TwigPart.TheVariants.{Pointer, Blocks}
use Rattle.r4_branch.specs.declared.piece.TwigPiece.{TwigPiece}
use Rattle.r4_graft.specs.Splices.{IsBorder, blocks_past, first_blocks, halves, is_within, parted, parted_piece}
use Rattle.r4_graft.proofs.Halves.{half_names, half_sound, half_units, later_key, later_rank}
use Rattle.r4_graft.proofs.Joined.{follow_join, names_join}
use Rattle.r4_graft.proofs.Placed.{first_member, first_or_later, later_member, has_end, not_in_none}

-- ---- one piece

-- The key lies at the border of a block of the piece's unit, behind its first one and before its end.
pub record IsHalved (k : ℕ) (p : TwigPiece) : Type 0 where
  pub unit : ExtentUnit
  pub is : p.part ≡ Blocks unit
  pub n : ℕ
  pub some : 0 < n
  pub inside : n < unit.width
  pub at : k ≡ rank p.key + 4096 * n
  pub parts : parted_piece k p ≡ halves n p

outside : (k : ℕ) (p : TwigPiece) → (rank p.key < k → k < piece_end p → ⊥) → parted_piece k p ≡ p ∷ []
outside k p never = elim (cases_lt (rank p.key) k) [
  | inl lt ↦ elim (cases_lt k (piece_end p)) [
    | inl high ↦ absurd (never lt high)
    | inr ge ↦ rw (lt-ltb (rank p.key) k lt, le-ltb k (piece_end p) ge) refl
  ]
  | inr ge ↦ rw (le-ltb (rank p.key) k ge) refl
]

pub halved_or_not : (k : ℕ) (p : TwigPiece) → IsSound p → (rank p.key < k → k < piece_end p → (n : ℕ) × (k ≡ rank p.key + 4096 * n)) → IsHalved k p ⊎ (parted_piece k p ≡ p ∷ []) × (rank p.key < k → piece_end p ≤ k)
halved_or_not k p sound border = elim (cases_lt (rank p.key) k) [
  | inl lt ↦ elim (cases_lt k (piece_end p)) [
    | inl high ↦ inl (by_part p.part refl lt high)
    | inr ge ↦ inr (outside k p (λ a b. omega (arith, b, ge)), λ a. ge)
  ]
  | inr ge ↦ inr (outside k p (λ a b. omega (arith, a, ge)), λ a. absurd (omega (arith, a, ge)))
]
  where
    by_part : (t : TwigPart) → t ≡ p.part → rank p.key < k → k < piece_end p → IsHalved k p
    by_part (Pointer to) is low high =
        let e : piece_end p ≡ rank p.key + 1 = ap (part_end (rank p.key)) (sym is) in
        absurd (omega (arith, e, low, high))
    by_part (Blocks u) is low high =
        let e : piece_end p ≡ rank p.key + 4096 * u.width = ap (part_end (rank p.key)) (sym is) in
        let b = border low high in
        let m = b.1 in
        let count : (k - rank p.key) / 4096 ≡ b.0 = omega (arith, m) in
        record {
          unit = u;
          is = sym is;
          n = b.0;
          some = omega (arith, low, m);
          inside = omega (arith, high, m, e);
          at = m;
          parts = (rw (lt-ltb (rank p.key) k low, lt-ltb k (piece_end p) high) refl) ∙ ap (λ n. halves n p) count;
        }

-- where a part's unit ends, as its piece says
open_by : (offset key : ℕ) → TwigPart → Option ℕ
open_by o j (Pointer to) = None
open_by o j (Blocks u) = if nat_lt (o + 4096 * u.width) (2 ^ 64) then Some (j + 4096 * u.width) else None

open_is : (p : TwigPiece) → open_end p ≡ open_by (offset_of p.key) (rank p.key) p.part
unfolding open_by
open_is p = refl

module _ (k : ℕ) (p : TwigPiece) (sound : IsSound p) (h : IsHalved k p) where
  abbrev second : TwigPiece
  second = record { key = later p.key (4096 * h.n); part = blocks_past h.n p.part }

  key_is : rank second.key ≡ rank p.key + 4096 * h.n
  key_is = later_rank p.key (4096 * h.n)

  own : IsSoundPart (offset_of p.key) (Blocks h.unit)
  own = subst (IsSoundPart (offset_of p.key)) h.is sound.1

  pub piece_names : (next : ℕ) → names_of next (parted_piece k p) ≡ part_names (rank p.key) next p.part
  unfolding names_of
  piece_names next =
      ap (names_of next) h.parts
      ∙ ((λ i. part_names (rank p.key) (rank second.key) (first_blocks h.n (h.is i)) ++ (part_names (key_is i) next (blocks_past h.n (h.is i)) ++ []))
      ∙ (ap (λ ns. part_names (rank p.key) next (Blocks (record h.unit { width = h.n })) ++ ns) (append-nil (part_names (rank p.key + 4096 * h.n) next (blocks_past h.n (Blocks h.unit))))
      ∙ (sym (half_names h.unit h.n h.some h.inside (rank p.key) next) ∙ ap (part_names (rank p.key) next) (sym h.is))))

  pub piece_units : units_of (parted_piece k p) ≡ part_units (rank p.key) p.part
  unfolding units_of
  piece_units =
      ap units_of h.parts
      ∙ ((λ i. part_units (rank p.key) (first_blocks h.n (h.is i)) ++ (part_units (key_is i) (blocks_past h.n (h.is i)) ++ []))
      ∙ (ap (λ us. part_units (rank p.key) (Blocks (record h.unit { width = h.n })) ++ us) (append-nil (part_units (rank p.key + 4096 * h.n) (blocks_past h.n (Blocks h.unit))))
      ∙ (sym (half_units h.unit h.n h.some h.inside (rank p.key)) ∙ ap (part_units (rank p.key)) (sym h.is))))

  -- the offset of the second part's key can be written
  fits : offset_of p.key + 4096 * h.n < 2 ^ 64
  fits = let f = own.1 in let lt = h.inside in omega (arith, f, lt)

  ends : piece_end second ≡ piece_end p
  ends =
      let a : piece_end second ≡ rank second.key + 4096 * (h.unit.width - h.n) = ap (λ t. part_end (rank second.key) (blocks_past h.n t)) h.is in
      let b : piece_end p ≡ rank p.key + 4096 * h.unit.width = ap (part_end (rank p.key)) h.is in
      let c = key_is in
      let lt = h.inside in
      omega (arith, a, b, c, lt)

  pub piece_follow : (from to : ℕ) → from ≤ rank p.key → piece_end p ≤ to → Follow from to (parted_piece k p)
  piece_follow from to low high =
      let s = half_sound h.unit h.n h.some h.inside (offset_of p.key) own in
      let one : IsSoundPart (offset_of p.key) (first_blocks h.n p.part) = subst (λ t. IsSoundPart (offset_of p.key) (first_blocks h.n t)) (sym h.is) s.0 in
      let two : IsSoundPart (offset_of p.key + 4096 * h.n) (blocks_past h.n p.part) = subst (λ t. IsSoundPart (offset_of p.key + 4096 * h.n) (blocks_past h.n t)) (sym h.is) s.1 in
      let first_end : part_end (rank p.key) (first_blocks h.n p.part) ≡ rank p.key + 4096 * h.n = ap (λ t. part_end (rank p.key) (first_blocks h.n t)) h.is in
      let c = key_is in
      let e = ends in
      subst (Follow from to) (sym h.parts) (low, (sound.0, one), (omega (arith, first_end, c), (later_key p.key (4096 * h.n) sound.0 fits, two), omega (arith, e, high)))

  pub piece_apart : (q : TwigPiece) → Contains (parted_piece k p) q → rank q.key < k → piece_end q ≤ k
  piece_apart q at low = elim (first_or_later (record p { part = first_blocks h.n p.part }) (second ∷ []) q (subst (λ ps. Contains ps q) h.parts at)) [
    | inl is ↦
        let first_end : part_end (rank p.key) (first_blocks h.n p.part) ≡ rank p.key + 4096 * h.n = ap (λ t. part_end (rank p.key) (first_blocks h.n t)) h.is in
        let m = h.at in
        subst (λ (x : TwigPiece). piece_end x ≤ k) is (omega (arith, first_end, m))
    | inr more ↦ elim (first_or_later second [] q more) [
      | inl is ↦
          let c = key_is in
          let m = h.at in
          let same : rank second.key ≡ rank q.key = ap (λ (x : TwigPiece). rank x.key) is in
          absurd (omega (arith, c, m, same, low))
      | inr none ↦ absurd (not_in_none q none)
    ]
  ]

  opens : open_end second ≡ open_end p
  unfolding open_by
  opens =
      (λ i. open_by (offset_of p.key + 4096 * h.n) (key_is i) (blocks_past h.n (h.is i)))
      ∙ (same_open
      ∙ (λ i. open_by (offset_of p.key) (rank p.key) (sym h.is i)))
    where
      same_open : open_by (offset_of p.key + 4096 * h.n) (rank p.key + 4096 * h.n) (blocks_past h.n (Blocks h.unit)) ≡ open_by (offset_of p.key) (rank p.key) (Blocks h.unit)
      same_open =
          let lt = h.inside in
          let a : offset_of p.key + 4096 * h.n + 4096 * (h.unit.width - h.n) ≡ offset_of p.key + 4096 * h.unit.width = omega (arith, lt) in
          let b : rank p.key + 4096 * h.n + 4096 * (h.unit.width - h.n) ≡ rank p.key + 4096 * h.unit.width = omega (arith, lt) in
          (λ i. if nat_lt (a i) (2 ^ 64) then Some (b i) else None)

  same_first : (b : Option ℕ) → part_bytes b (rank p.key) (first_blocks h.n p.part) ≡ part_bytes b (rank p.key) p.part
  same_first b = (λ i. part_bytes b (rank p.key) (first_blocks h.n (h.is i))) ∙ (λ i. part_bytes b (rank p.key) (sym h.is i))

  abbrev one : TwigPiece
  one = record p { part = first_blocks h.n p.part }

  one_opens : open_end one ≡ Some (rank p.key + 4096 * h.n)
  unfolding open_by
  one_opens =
      open_is one ∙ ((λ i. open_by (offset_of p.key) (rank p.key) (first_blocks h.n (h.is i)))
      ∙ (rw (lt-ltb (offset_of p.key + 4096 * h.n) (2 ^ 64) fits) refl))

  second_bytes : part_bytes (open_end one) (rank second.key) (blocks_past h.n p.part) ≡ 16
  second_bytes =
      let meets : (rank p.key + 4096 * h.n == rank second.key) ≡ true = eq-eqb _ _ (sym key_is) in
      (λ i. part_bytes (one_opens i) (rank second.key) (blocks_past h.n (h.is i))) ∙ (rw meets refl)

  pub piece_bytes : (b : Option ℕ) (rest : List TwigPiece) → bytes_behind b (parted_piece k p ++ rest) ≡ bytes_behind b (p ∷ rest) + 16
  unfolding bytes_behind
  piece_bytes b rest =
      let parts : bytes_behind b (parted_piece k p ++ rest) ≡ bytes_behind b (halves h.n p ++ rest) = ap (λ ps. bytes_behind b (ps ++ rest)) h.parts in
      let x = same_first b in
      let y = second_bytes in
      let z : bytes_behind (open_end second) rest ≡ bytes_behind (open_end p) rest = ap (λ e. bytes_behind e rest) opens in
      omega (arith, parts, x, y, z)

-- ---- all pieces

-- the border of a key in pieces, and in those behind the first
border_more : (k : ℕ) (p : TwigPiece) (ps : List TwigPiece) → IsBorder k (p ∷ ps) → IsBorder k ps
border_more k p ps b = λ q at low high. b q (later_member p ps q at) low high

border_first : (k : ℕ) (p : TwigPiece) (ps : List TwigPiece) → IsBorder k (p ∷ ps) → rank p.key < k → k < piece_end p → (n : ℕ) × (k ≡ rank p.key + 4096 * n)
border_first k p ps b = b p (first_member p ps)

pub parted_next : (k hi : ℕ) (ps : List TwigPiece) → next_of hi (parted k ps) ≡ next_of hi ps
parted_next k hi [] = refl
parted_next k hi (p ∷ ps) = by_test (is_within k p)
  where
    by_test : (t : Bool) → next_of hi ((if t then halves ((k - rank p.key) / 4096) p else p ∷ []) ++ parted k ps) ≡ rank p.key
    by_test true = refl
    by_test false = refl

module _ (k : ℕ) where
  first_names : (p : TwigPiece) (next : ℕ) → IsSound p → (rank p.key < k → k < piece_end p → (n : ℕ) × (k ≡ rank p.key + 4096 * n)) → names_of next (parted_piece k p) ≡ part_names (rank p.key) next p.part
  unfolding names_of
  first_names p next sound border = elim (halved_or_not k p sound border) [
    | inl h ↦ piece_names k p sound h next
    | inr whole ↦ ap (names_of next) whole.0 ∙ append-nil (part_names (rank p.key) next p.part)
  ]

  pub parted_names : (hi from to : ℕ) (ps : List TwigPiece) → Follow from to ps → IsBorder k ps → names_of hi (parted k ps) ≡ names_of hi ps
  unfolding names_of
  parted_names hi from to [] f b = refl
  parted_names hi from to (p ∷ ps) f b =
      names_join hi (parted_piece k p) (parted k ps)
      ∙ ((λ i. names_of (parted_next k hi ps i) (parted_piece k p) ++ parted_names hi (piece_end p) to ps f.2 (border_more k p ps b) i)
      ∙ ap (λ ns. ns ++ names_of hi ps) (first_names p (next_of hi ps) f.1 (border_first k p ps b)))

  first_units : (p : TwigPiece) → IsSound p → (rank p.key < k → k < piece_end p → (n : ℕ) × (k ≡ rank p.key + 4096 * n)) → units_of (parted_piece k p) ≡ part_units (rank p.key) p.part
  unfolding units_of
  first_units p sound border = elim (halved_or_not k p sound border) [
    | inl h ↦ piece_units k p sound h
    | inr whole ↦ ap units_of whole.0 ∙ append-nil (part_units (rank p.key) p.part)
  ]

  pub parted_units : (from to : ℕ) (ps : List TwigPiece) → Follow from to ps → IsBorder k ps → units_of (parted k ps) ≡ units_of ps
  unfolding units_of
  parted_units from to [] f b = refl
  parted_units from to (p ∷ ps) f b =
      units_append (parted_piece k p) (parted k ps)
      ∙ (λ i. first_units p f.1 (border_first k p ps b) i ++ parted_units (piece_end p) to ps f.2 (border_more k p ps b) i)

  first_follow : (p : TwigPiece) (from : ℕ) → from ≤ rank p.key → IsSound p → (rank p.key < k → k < piece_end p → (n : ℕ) × (k ≡ rank p.key + 4096 * n)) → Follow from (piece_end p) (parted_piece k p)
  first_follow p from low sound border = elim (halved_or_not k p sound border) [
    | inl h ↦ piece_follow k p sound h from (piece_end p) low (omega arith)
    | inr whole ↦ subst (Follow from (piece_end p)) (sym whole.0) (low, sound, omega arith)
  ]

  pub parted_follow : (from to : ℕ) (ps : List TwigPiece) → Follow from to ps → IsBorder k ps → Follow from to (parted k ps)
  parted_follow from to [] f b = f
  parted_follow from to (p ∷ ps) f b = follow_join from (piece_end p) to (parted_piece k p) (parted k ps) (first_follow p from f.0 f.1 (border_first k p ps b)) (parted_follow (piece_end p) to ps f.2 (border_more k p ps b))

  -- No piece has the key within its blocks any more.
  pub parted_apart : (from to : ℕ) (ps : List TwigPiece) → Follow from to ps → IsBorder k ps → (q : TwigPiece) → Contains (parted k ps) q → rank q.key < k → piece_end q ≤ k
  parted_apart from to [] f b q at low = absurd (not_in_none q at)
  parted_apart from to (p ∷ ps) f b q at low = elim (Contains-append_cases (parted_piece k p) (parted k ps) q at) [
    | inl mine ↦ elim (halved_or_not k p f.1 (border_first k p ps b)) [
      | inl h ↦ piece_apart k p f.1 h q mine low
      | inr whole ↦ elim (first_or_later p [] q (subst (λ qs. Contains qs q) whole.0 mine)) [
        | inl is ↦ subst (λ (x : TwigPiece). piece_end x ≤ k) is (whole.1 (subst (λ (x : TwigPiece). rank x.key < k) (sym is) low))
        | inr none ↦ absurd (not_in_none q none)
      ]
    ]
    | inr more ↦ parted_apart (piece_end p) to ps f.2 (border_more k p ps b) q more low
  ]

  pub parted_none : (from to : ℕ) (ps : List TwigPiece) → Follow from to ps → k ≤ from → parted k ps ≡ ps
  parted_none from to [] f le = refl
  parted_none from to (p ∷ ps) f le =
      let low = f.0 in
      let e = has_end p f.1 in
      (λ i. outside k p (λ a b. omega (arith, a, low, le)) i ++ parted_none (piece_end p) to ps f.2 (omega (arith, low, e, le)) i)

  -- Parted, they need 16 bytes more at most.
  pub parted_bytes : (b : Option ℕ) (from to : ℕ) (ps : List TwigPiece) → Follow from to ps → IsBorder k ps → bytes_behind b (parted k ps) ≤ bytes_behind b ps + 16
  unfolding bytes_behind
  parted_bytes b from to [] f bd = omega arith
  parted_bytes b from to (p ∷ ps) f bd = elim (halved_or_not k p f.1 (border_first k p ps bd)) [
    | inl h ↦
        let x = piece_bytes k p f.1 h b ps in
        let m = h.at in
        let e : piece_end p ≡ rank p.key + 4096 * h.unit.width = ap (part_end (rank p.key)) h.is in
        let lt = h.inside in
        let rest = ap (λ qs. bytes_behind b (parted_piece k p ++ qs)) (parted_none (piece_end p) to ps f.2 (omega (arith, m, e, lt))) in
        omega (arith, x, rest)
    | inr whole ↦
        let x = parted_bytes (open_end p) (piece_end p) to ps f.2 (border_more k p ps bd) in
        let y = ap (λ qs. bytes_behind b (qs ++ parted k ps)) whole.0 in
        omega (arith, x, y)
  ]
