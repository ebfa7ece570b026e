-- Pieces of a range parted at keys that may lie outside of it.
use Rattle.std.proofs.Common.{◌≡◌, inl, inr, ℕ, suc, ◌-◌, ◌/◌, ◌<◌, ◌≤◌, Bool, true, false, cond, List, [], ◌∷◌, ◌++◌, length, take, drop, refl, sym, ap, ◌∙◌, arith}
use Rattle.std.specs.Prelude.{nat_lt, ◌&&◌}
use Rattle.std.proofs.lemmas.Bool.{cases_lt, le-ltb, lt-ltb}
use Rattle.r4_base.specs.Key.{rank}
use Rattle.r4_base.specs.Tree.{Node}
use Rattle.r4_base.specs.Value.{Value}
use Rattle.r4_extent_build.specs.r4_branch.Pieces.{Follow, piece_end}
use Rattle.r4_extent_build.specs.r4_branch.declared.piece.TwigPiece.{TwigPiece}
use Rattle.r4_content.specs.Bodies.{larger, smaller}
use Rattle.r4_extent_build.specs.r4_edit.CutBlocks.{parted_twice, pieces_behind, pieces_below, pieces_between}
use Rattle.r4_extent_build.specs.r4_graft.Splices.{IsBorder, halves, is_within, parted, parted_piece, place, spliced}
use Rattle.r4_extent_build.proofs.r4_graft.Parted.{parted_follow, parted_none}
use Rattle.r4_extent_build.proofs.r4_graft.Placed.{follow_end, has_end, place_none, place_some}
use Rattle.r4_extent_build.specs.r4_reach.Needs.{cut_pieces, taken_up}

pub larger_low : (a b : ℕ) → b ≤ a → larger a b ≡ a
larger_low a b le = ap (λ (t : Bool). cond t b a) (le-ltb a b le)

pub larger_high : (a b : ℕ) → a < b → larger a b ≡ b
larger_high a b lt = ap (λ (t : Bool). cond t b a) (lt-ltb a b lt)

pub smaller_low : (a b : ℕ) → a < b → smaller a b ≡ a
smaller_low a b lt = ap (λ (t : Bool). cond t a b) (lt-ltb a b lt)

pub smaller_high : (a b : ℕ) → b ≤ a → smaller a b ≡ b
smaller_high a b le = ap (λ (t : Bool). cond t a b) (le-ltb a b le)

pub follow_order : (from to : ℕ) (ps : List TwigPiece) → Follow from to ps → from ≤ to
follow_order from to ps f = let e = follow_end from to ps f in omega (arith, e)

parted_past : (k from to : ℕ) (ps : List TwigPiece) → Follow from to ps → to ≤ k → parted k ps ≡ ps
parted_past k from to [] f le = refl
parted_past k from to (p ∷ ps) f le = (λ i. one i ++ parted_past k (piece_end p) to ps f.2 le i)
  where
    ends : piece_end p ≤ k
    ends = let e = follow_order (piece_end p) to ps f.2 in omega (arith, e, le)

    out : is_within k p ≡ false
    out = right_false (nat_lt (rank p.key) k) (nat_lt k (piece_end p)) (le-ltb k (piece_end p) ends)
      where
        right_false : (a b : Bool) → b ≡ false → (a && b) ≡ false
        right_false true b e = e
        right_false false b e = refl

    one : parted_piece k p ≡ p ∷ []
    one = ap (λ (t : Bool). cond t (halves ((k - rank p.key) / 4096) p) (p ∷ [])) out

place_low : (k from to : ℕ) (ps : List TwigPiece) → Follow from to ps → k ≤ from → place k ps ≡ 0
place_low k from to [] f le = refl
place_low k from to (p ∷ ps) f le = let low = f.0 in place_none k p ps (omega (arith, low, le))

place_past : (k from to : ℕ) (ps : List TwigPiece) → Follow from to ps → to ≤ k → place k ps ≡ length ps
place_past k from to [] f le = refl
place_past k from to (p ∷ ps) f le =
    let e = has_end p f.1 in
    let o = follow_order (piece_end p) to ps f.2 in
    place_some k p ps (omega (arith, e, o, le)) ∙ ap suc (place_past k (piece_end p) to ps f.2 le)

module _ (c : Node Value) (lo hi a z : ℕ) (ps : List TwigPiece) (f : Follow lo hi ps) (border : IsBorder (larger lo a) ps) where
  abbrev from : ℕ
  from = larger lo a

  abbrev to : ℕ
  to = smaller hi z

  abbrev once : List TwigPiece
  once = parted (larger lo a) ps

  once_follow : Follow lo hi once
  once_follow = parted_follow (larger lo a) lo hi ps f border

  first : parted a ps ≡ parted (larger lo a) ps
  first = elim (cases_lt lo a) [
    | inl lt ↦ ap (λ k. parted k ps) (sym (larger_high lo a lt))
    | inr le ↦ parted_none a lo hi ps f le ∙ sym (parted_none (larger lo a) lo hi ps f (let e = larger_low lo a le in omega (arith, e)))
  ]

  second : (qs : List TwigPiece) → Follow lo hi qs → parted z qs ≡ parted (smaller hi z) qs
  second qs g = elim (cases_lt hi z) [
    | inl lt ↦ parted_past z lo hi qs g (omega (arith, lt)) ∙ sym (parted_past (smaller hi z) lo hi qs g (let e = smaller_low hi z lt in omega (arith, e)))
    | inr le ↦ ap (λ k. parted k qs) (sym (smaller_high hi z le))
  ]

  abbrev pub pp : List TwigPiece
  pp = parted_twice (larger lo a) (smaller hi z) ps

  both : parted z (parted a ps) ≡ pp
  both = ap (parted z) first ∙ second once once_follow

  module _ (all : Follow lo hi (parted_twice (larger lo a) (smaller hi z) ps)) where
    first_place : place a pp ≡ place (larger lo a) pp
    first_place = elim (cases_lt lo a) [
      | inl lt ↦ ap (λ k. place k pp) (sym (larger_high lo a lt))
      | inr le ↦ place_low a lo hi pp all le ∙ sym (place_low (larger lo a) lo hi pp all (let e = larger_low lo a le in omega (arith, e)))
    ]

    second_place : place z pp ≡ place (smaller hi z) pp
    second_place = elim (cases_lt hi z) [
      | inl lt ↦ place_past z lo hi pp all (omega (arith, lt)) ∙ sym (place_past (smaller hi z) lo hi pp all (let e = smaller_low hi z lt in omega (arith, e)))
      | inr le ↦ ap (λ k. place k pp) (sym (smaller_high hi z le))
    ]

    -- between keys outside of the range the same goes as between its ends
    pub clipped : cut_pieces (a, z) c ps
        ≡ pieces_below (larger lo a) pp ++ (taken_up c (pieces_below (larger lo a) pp) (pieces_between (larger lo a) (smaller hi z) pp) ++ pieces_behind (smaller hi z) pp)
    clipped =
        (λ i. spliced (place a (both i)) (place z (both i)) (taken_up c (take (place a (both i)) (both i)) (take (place z (both i) - place a (both i)) (drop (place a (both i)) (both i)))) (both i))
        ∙ (λ i. spliced (first_place i) (second_place i) (taken_up c (take (first_place i) pp) (take (second_place i - first_place i) (drop (first_place i) pp))) pp)

    -- and so what takes their range up is the same
    pub clipped_taken : taken_up c (take (place a (parted z (parted a ps))) (parted z (parted a ps))) (take (place z (parted z (parted a ps)) - place a (parted z (parted a ps))) (drop (place a (parted z (parted a ps))) (parted z (parted a ps))))
        ≡ taken_up c (pieces_below (larger lo a) pp) (pieces_between (larger lo a) (smaller hi z) pp)
    clipped_taken =
        (λ i. taken_up c (take (place a (both i)) (both i)) (take (place z (both i) - place a (both i)) (drop (place a (both i)) (both i))))
        ∙ (λ i. taken_up c (take (first_place i) pp) (take (second_place i - first_place i) (drop (first_place i) pp)))
