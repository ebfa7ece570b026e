-- The place of a key among pieces.
use Rattle.std.proofs.Common.{◌≡◌, ◌⊎◌, inl, inr, ℕ, zero, suc, ◌<◌, ◌≤◌, List, [], ◌∷◌, length, take, drop, refl, sym, subst, arith}
use Rattle.std.specs.Prelude.{Contains}
use Rattle.std.proofs.lemmas.Bool.{cases_lt, lt-ltb, le-ltb}
use Rattle.r4_base.specs.Key.{offset_of, rank}
use Rattle.r4_branch.specs.Pieces.{Follow, IsSound, IsSoundPart, next_of, part_end, piece_end}
use Rattle.r4_branch.specs.declared.piece.TwigPart.{TwigPart}
use Rattle.r4_branch.specs.declared.piece.TwigPart.TheVariants.{Pointer, Blocks}
use Rattle.r4_branch.specs.declared.piece.TwigPiece.{TwigPiece}
use Rattle.r4_branch.proofs.UnitPieces.{some_width}
use Rattle.r4_graft.specs.Splices.{place}
use Rattle.r4_graft.proofs.Joined.{end_of}

pub first_or_later : {X : Type 0} → (x : X) (xs : List X) (y : X) → Contains (x ∷ xs) y → (x ≡ y) ⊎ Contains xs y
first_or_later x xs y (zero, lt, is) = inl is
first_or_later x xs y (suc k, lt, is) = inr (k, omega arith, is)

pub first_member : {X : Type 0} → (x : X) (xs : List X) → Contains (x ∷ xs) x
first_member x xs = (0, omega arith, refl)

pub later_member : {X : Type 0} → (x : X) (xs : List X) (y : X) → Contains xs y → Contains (x ∷ xs) y
later_member x xs y (k, lt, is) = (suc k, omega arith, is)

pub not_in_none : {X : Type 0} → (y : X) → Contains [] y → ⊥
not_in_none y (k, lt, is) = absurd (omega arith)

pub place_some : (k : ℕ) (p : TwigPiece) (ps : List TwigPiece) → rank p.key < k → place k (p ∷ ps) ≡ suc (place k ps)
place_some k p ps lt = rw (lt-ltb (rank p.key) k lt) (omega arith)

pub place_none : (k : ℕ) (p : TwigPiece) (ps : List TwigPiece) → k ≤ rank p.key → place k (p ∷ ps) ≡ 0
place_none k p ps le = rw (le-ltb (rank p.key) k le) refl

pub place_within : (k : ℕ) (ps : List TwigPiece) → place k ps ≤ length ps
place_within k [] = omega arith
place_within k (p ∷ ps) = elim (cases_lt (rank p.key) k) [
  | inl lt ↦ let h = place_within k ps in let e = place_some k p ps lt in omega (arith, h, e)
  | inr ge ↦ let e = place_none k p ps ge in omega (arith, e)
]

-- The pieces before the place begin below the key.
pub take_below : (k : ℕ) (ps : List TwigPiece) (p : TwigPiece) → Contains (take (place k ps) ps) p → rank p.key < k
take_below k [] p at = absurd (not_in_none p at)
take_below k (q ∷ ps) p at = elim (cases_lt (rank q.key) k) [
  | inl lt ↦ elim (first_or_later q (take (place k ps) ps) p (subst (λ n. Contains (take n (q ∷ ps)) p) (place_some k q ps lt) at)) [
    | inl is ↦ subst (λ (x : TwigPiece). rank x.key < k) is lt
    | inr more ↦ take_below k ps p more
  ]
  | inr ge ↦ absurd (not_in_none p (subst (λ n. Contains (take n (q ∷ ps)) p) (place_none k q ps ge) at))
]

part_has_end : (k o : ℕ) (t : TwigPart) → IsSoundPart o t → k < part_end k t
part_has_end k o (Pointer to) h = omega arith
part_has_end k o (Blocks u) h = let w = some_width u h.0 in omega (arith, w)

pub has_end : (p : TwigPiece) → IsSound p → rank p.key < piece_end p
has_end p h = part_has_end (rank p.key) (offset_of p.key) p.part h.1

pub follow_above : (from to : ℕ) (ps : List TwigPiece) → Follow from to ps → (p : TwigPiece) → Contains ps p → from ≤ rank p.key
follow_above from to [] h p at = absurd (not_in_none p at)
follow_above from to (q ∷ ps) h p at = elim (first_or_later q ps p at) [
  | inl is ↦ let low = h.0 in subst (λ (x : TwigPiece). from ≤ rank x.key) is low
  | inr more ↦ let r = follow_above (piece_end q) to ps h.2 p more in let e = has_end q h.1 in let low = h.0 in omega (arith, r, e, low)
]

-- Those from it on do not, and the next of them does not.
pub drop_above : (k from to : ℕ) (ps : List TwigPiece) → Follow from to ps → (p : TwigPiece) → Contains (drop (place k ps) ps) p → k ≤ rank p.key
drop_above k from to [] h p at = absurd (not_in_none p at)
drop_above k from to (q ∷ ps) h p at = elim (cases_lt (rank q.key) k) [
  | inl lt ↦ drop_above k (piece_end q) to ps h.2 p (subst (λ n. Contains (drop n (q ∷ ps)) p) (place_some k q ps lt) at)
  | inr ge ↦ follow_above k to (q ∷ ps) (ge, h.1, h.2) p (subst (λ n. Contains (drop n (q ∷ ps)) p) (place_none k q ps ge) at)
]

pub next_above : (k to : ℕ) (ps : List TwigPiece) → k ≤ to → k ≤ next_of to (drop (place k ps) ps)
next_above k to [] le = le
next_above k to (q ∷ ps) le = elim (cases_lt (rank q.key) k) [
  | inl lt ↦ subst (λ n. k ≤ next_of to (drop n (q ∷ ps))) (sym (place_some k q ps lt)) (next_above k to ps le)
  | inr ge ↦ subst (λ n. k ≤ next_of to (drop n (q ∷ ps))) (sym (place_none k q ps ge)) ge
]

pub follow_end : (from to : ℕ) (ps : List TwigPiece) → Follow from to ps → (from ≤ end_of from ps) × (end_of from ps ≤ to)
follow_end from to [] h = (omega arith, h)
follow_end from to (p ∷ ps) h = let r = follow_end (piece_end p) to ps h.2 in let e = has_end p h.1 in let low = h.0 in (omega (arith, r, e, low), r.1)
