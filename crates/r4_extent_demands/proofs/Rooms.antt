-- Pieces that have room for their blocks.
use Rattle.std.specs.Prelude.{◌≡◌, ℕ, ◌+◌, ◌-◌, ◌*◌, ◌/◌, ◌^◌, ◌<◌, ◌≤◌, List, [], ◌∷◌, ◌++◌, All, Bool, true, false}
use Rattle.std.specs.Prelude.{if◌then◌else◌, take, drop, nat_lt, Some}
use Rattle.std.proofs.Common.{arith, inl, inr, refl, sym, ap, subst, ◌∙◌}
use Rattle.std.proofs.lemmas.Bool.{and_parts, lt-ltb, ltb-true}
use Rattle.std.proofs.lemmas.List.Elements.{All-append, All-cons, All-drop, All-head, All-nil, All-tail}
use Rattle.std.proofs.lemmas.List.Elements.{All-take}
use Rattle.r4_base.specs.Extents.{IsLawfulUnit, is_hole, unit_past}
use Rattle.r4_base.specs.Key.{IsKey, later, offset_of, rank}
use Rattle.r4_base.specs.declared.items.Unit.{Unit as ExtentUnit}
use Rattle.r4_base.specs.declared.key.Key.{Key}
use Rattle.r4_graft.specs.r4_branch.Pieces.{Follow, IsSound, IsSoundPart, open_end, part_end, piece_end}
use Rattle.r4_graft.specs.r4_branch.declared.piece.TwigPart.{TwigPart}
use Rattle.r4_graft.specs.r4_branch.declared.piece.TwigPart.TheVariants.{Blocks, Pointer}
use Rattle.r4_graft.specs.r4_branch.declared.piece.TwigPiece.{TwigPiece}
use Rattle.r4_graft.specs.Splices.{blocks_past, first_blocks, halves, is_within, parted, parted_piece, spliced}
use Rattle.r4_graft.proofs.r4_branch.UnitPieces.{some_width}
use Rattle.r4_graft.proofs.Halves.{later_key, later_offset}
use Rattle.r4_extent_demands.specs.Pieces.{HasRoom, HasRoomFor, PartHasRoom}

-- ---- pieces that may make a twig

lawful_room : (o : ℕ) (u : ExtentUnit) → IsLawfulUnit true (2 ^ 64) u → o + 4096 * u.width ≤ 2 ^ 64 → HasRoomFor o u
lawful_room o u (inl one) fits = record { bytes = fits; numbers = λ two. let w = one.2 in absurd (omega (arith, w, two)) }
lawful_room o u (inr (inl hole)) fits = record { bytes = fits; numbers = λ two. let z = hole.0 in omega (arith, z, fits) }
lawful_room o u (inr (inr run)) fits = record { bytes = fits; numbers = λ two. run.within }

sound_part : (o : ℕ) (t : TwigPart) → IsSoundPart o t → PartHasRoom o t
sound_part o (Pointer to) h = tt
sound_part o (Blocks u) h = lawful_room o u h.0 h.1

sound_room : (p : TwigPiece) → IsSound p → HasRoom p
sound_room p h = record { key = h.0; part = sound_part (offset_of p.key) p.part h.1 }

pub follow_room : (from to : ℕ) (ps : List TwigPiece) → Follow from to ps → All HasRoom ps
follow_room from to [] f = All-nil HasRoom
follow_room from to (p ∷ ps) f = All-cons HasRoom p ps (sound_room p f.1) (follow_room (piece_end p) to ps f.2)

-- a unit so many blocks behind a key
pub unit_room : (k : Key) (n : ℕ) (u : ExtentUnit) → IsKey k → IsLawfulUnit true (2 ^ 64) u
    → offset_of k + 4096 * (n + u.width) ≤ 2 ^ 64
    → HasRoom (record { key = later k (4096 * n); part = Blocks u })
unit_room k n u key lawful fits =
    let some = some_width u lawful in
    let at = later_offset k (4096 * n) in
    record {
      key = later_key k (4096 * n) key (omega (arith, some, fits));
      part = lawful_room (offset_of (later k (4096 * n))) u lawful (omega (arith, at, fits));
    }

-- ---- pieces that are parted

module _ (k : ℕ) (p : TwigPiece) (h : HasRoom p) where
  first_room : (o n : ℕ) (u : ExtentUnit) → n < u.width → HasRoomFor o u → HasRoomFor o (record u { width = n })
  first_room o n u lt r =
      let b = r.bytes in
      let m = r.numbers in
      record { bytes = omega (arith, b, lt); numbers = λ two. let all = m (omega (arith, lt, two)) in omega (arith, all, lt) }

  rest_room : (o n : ℕ) (u : ExtentUnit) → n < u.width → HasRoomFor o u → HasRoomFor (o + 4096 * n) (unit_past n u)
  rest_room o n u lt r =
      let b = r.bytes in
      record { bytes = omega (arith, b, lt); numbers = λ two. by_hole (is_hole u) two }
    where
      by_hole : (t : Bool) → 2 ≤ u.width - n → (if t then 0 else (u.start + n)) + (u.width - n) ≤ 2 ^ 64
      by_hole true two = let b = r.bytes in omega (arith, b)
      by_hole false two = let all = r.numbers (omega (arith, two)) in omega (arith, all, lt)

  parts : (t : TwigPart) → p.part ≡ t → is_within k p ≡ true → All HasRoom (halves ((k - rank p.key) / 4096) p)
  parts (Pointer to) is within =
      let end : piece_end p ≡ rank p.key + 1 = ap (part_end (rank p.key)) is in
      let (a, b) = and_parts (nat_lt (rank p.key) k) (nat_lt k (piece_end p)) within in
      let low = ltb-true (rank p.key) k a in
      let high = ltb-true k (piece_end p) b in
      absurd (omega (arith, end, low, high))
  parts (Blocks u) is within =
      let end : piece_end p ≡ rank p.key + 4096 * u.width = ap (part_end (rank p.key)) is in
      let (a, b) = and_parts (nat_lt (rank p.key) k) (nat_lt k (piece_end p)) within in
      let low = ltb-true (rank p.key) k a in
      let high = ltb-true k (piece_end p) b in
      let n = (k - rank p.key) / 4096 in
      let lt : n < u.width = omega (arith, end, low, high) in
      let room = subst (PartHasRoom (offset_of p.key)) is h.part in
      let bytes = room.bytes in
      let one : PartHasRoom (offset_of p.key) (first_blocks n p.part)
      = subst (λ (t : TwigPart). PartHasRoom (offset_of p.key) (first_blocks n t)) (sym is)
      (first_room (offset_of p.key) n u lt room) in
      let two : PartHasRoom (offset_of p.key + 4096 * n) (blocks_past n p.part)
      = subst (λ (t : TwigPart). PartHasRoom (offset_of p.key + 4096 * n) (blocks_past n t)) (sym is)
      (rest_room (offset_of p.key) n u lt room) in
      let rest : TwigPiece = record { key = later p.key (4096 * n); part = blocks_past n p.part } in
      All-cons HasRoom (record p { part = first_blocks n p.part }) (rest ∷ []) (record { key = h.key; part = one })
      (All-cons HasRoom rest []
      (record { key = later_key p.key (4096 * n) h.key (omega (arith, bytes, lt)); part = two }) (All-nil HasRoom))

  pub piece_room : All HasRoom (parted_piece k p)
  piece_room = by_test (is_within k p) refl
    where
      by_test : (t : Bool) → is_within k p ≡ t
          → All HasRoom (if t then halves ((k - rank p.key) / 4096) p else p ∷ [])
      by_test true e = parts p.part refl e
      by_test false e = All-cons HasRoom p [] h (All-nil HasRoom)

pub parted_room : (k : ℕ) (ps : List TwigPiece) → All HasRoom ps → All HasRoom (parted k ps)
parted_room k [] all = All-nil HasRoom
parted_room k (p ∷ ps) all =
    All-append HasRoom (parted_piece k p) (parted k ps) (piece_room k p (All-head HasRoom p ps all))
    (parted_room k ps (All-tail HasRoom p ps all))

pub spliced_room : (from to : ℕ) (middle ps : List TwigPiece) → All HasRoom middle → All HasRoom ps
    → All HasRoom (spliced from to middle ps)
spliced_room from to middle ps some all =
    All-append HasRoom (take from ps) (middle ++ drop to ps) (All-take HasRoom from ps all)
    (All-append HasRoom middle (drop to ps) some (All-drop HasRoom to ps all))

-- ---- where a unit ends

pub open_blocks : (p : TwigPiece) (u : ExtentUnit) → p.part ≡ Blocks u → offset_of p.key + 4096 * u.width < 2 ^ 64
    → open_end p ≡ Some (rank p.key + 4096 * u.width)
open_blocks p u is lt =
    ap (λ (t : TwigPart). open_end (record p { part = t })) is
    ∙ (rw (lt-ltb (offset_of p.key + 4096 * u.width) (2 ^ 64) lt) refl)
