-- The numbers of the leaves do not matter for the room that a twig's pieces need.
use Rattle.std.proofs.Common.{map, ◌≡◌, ℕ, ◌+◌, ◌*◌, ◌^◌, List, [], ◌∷◌, ◌++◌, take, drop, refl, sym, ap, ◌∙◌}
use Rattle.std.specs.Prelude.{None, Option, Some, nat_lt, if◌then◌else◌}
use Rattle.std.proofs.lemmas.List.{drop-map, map-append, take-map}
use Rattle.r4_base.specs.Key.{key_of_rank, offset_of, rank}
use Rattle.r4_build.specs.r4_branch.Pieces.{bytes_behind, open_end, part_bytes, twig_bytes}
use Rattle.r4_build.specs.r4_branch.declared.piece.TwigPart.{TwigPart}
use Rattle.r4_build.specs.r4_branch.declared.piece.TwigPart.TheVariants.{Blocks, Pointer}
use Rattle.r4_build.specs.r4_branch.declared.piece.TwigPiece.{TwigPiece}
use Rattle.r4_extent_build.specs.r4_cell.Seen.{CellSeen}
use Rattle.r4_extent_build.specs.r4_graft.Splices.{place, spliced}
use Rattle.r4_extent_among.specs.Among.{numbered, pointer_of, with_leaves}

-- a piece, of which a pointer's number is left out
abbrev plain_part : TwigPart → TwigPart
plain_part (Pointer to) = Pointer (record { 0 = 0 })
plain_part (Blocks u) = Blocks u

abbrev plain : TwigPiece → TwigPiece
plain p = record { key = p.key; part = plain_part p.part }

-- where a part's unit ends, as its piece says
abbrev pub open_by : (offset key : ℕ) → TwigPart → Option ℕ
open_by o j (Pointer to) = None
open_by o j (Blocks u) = if nat_lt (o + 4096 * u.width) (2 ^ 64) then Some (j + 4096 * u.width) else None

pub open_is : (p : TwigPiece) → open_end p ≡ open_by (offset_of p.key) (rank p.key) p.part
open_is p = refl

plain_open : (p : TwigPiece) → open_end (plain p) ≡ open_end p
plain_open p = open_is (plain p) ∙ (by_part p.part ∙ sym (open_is p))
  where
    by_part : (t : TwigPart) → open_by (offset_of p.key) (rank p.key) (plain_part t) ≡ open_by (offset_of p.key) (rank p.key) t
    by_part (Pointer to) = refl
    by_part (Blocks u) = refl

plain_bytes : (d : Option ℕ) (ps : List TwigPiece) → bytes_behind d (map plain ps) ≡ bytes_behind d ps
unfolding bytes_behind
plain_bytes d [] = refl
plain_bytes d (p ∷ ps) = λ i. by_part p.part i + (ap (λ (o : Option ℕ). bytes_behind o (map plain ps)) (plain_open p) ∙ plain_bytes (open_end p) ps) i
  where
    by_part : (t : TwigPart) → part_bytes d (rank p.key) (plain_part t) ≡ part_bytes d (rank p.key) t
    by_part (Pointer to) = refl
    by_part (Blocks u) = refl

plain_place : (k : ℕ) (ps : List TwigPiece) → place k (map plain ps) ≡ place k ps
plain_place k [] = refl
plain_place k (p ∷ ps) = ap (λ n. if nat_lt (rank p.key) k then 1 + n else 0) (plain_place k ps)

-- pieces with a pointer at a key
abbrev with_one : (key : ℕ) → List TwigPiece → List TwigPiece
with_one k ps = spliced (place k ps) (place k ps) (record { key = key_of_rank k; part = Pointer (record { 0 = 0 }) } ∷ []) ps

plain_one : (c : CellSeen) (qs : List TwigPiece) → map plain (spliced (place (rank c.lo) qs) (place (rank c.lo) qs) (pointer_of c ∷ []) qs) ≡ with_one (rank c.lo) (map plain qs)
plain_one c qs =
    let k = rank c.lo in
    let n = place k qs in
    map-append plain (take n qs) (pointer_of c ∷ drop n qs)
    ∙ ((λ i. sym (take-map plain n qs) i ++ (plain (pointer_of c) ∷ sym (drop-map plain n qs) i))
    ∙ (λ i. spliced (sym (plain_place k qs) i) (sym (plain_place k qs) i) (plain (pointer_of c) ∷ []) (map plain qs)))

plain_with : (n m : ℕ) (cs : List CellSeen) (ps : List TwigPiece) → map plain (with_leaves (numbered n cs) ps) ≡ map plain (with_leaves (numbered m cs) ps)
plain_with n m [] ps = refl
plain_with n m (c ∷ cs) ps =
    plain_one (record c { id = n }) (with_leaves (numbered (n + 1) cs) ps)
    ∙ (ap (with_one (rank c.lo)) (plain_with (n + 1) (m + 1) cs ps) ∙ sym (plain_one (record c { id = m }) (with_leaves (numbered (m + 1) cs) ps)))

pub same_bytes : (n m : ℕ) (cs : List CellSeen) (ps : List TwigPiece) → twig_bytes (with_leaves (numbered n cs) ps) ≡ twig_bytes (with_leaves (numbered m cs) ps)
same_bytes n m cs ps = sym (plain_bytes None (with_leaves (numbered n cs) ps)) ∙ (ap twig_bytes (plain_with n m cs ps) ∙ plain_bytes None (with_leaves (numbered m cs) ps))
