-- Pieces in whose place a pointer to a leaf comes, or nothing.
use Rattle.std.proofs.Common.{◌≡◌, ◌↔◌, ◌⊎◌, inl, inr, ℕ, ◌+◌, ◌^◌, ◌<◌, ◌≤◌, Bool, true, false, List, [], ◌∷◌, ◌++◌, length, map, refl, sym, ap, subst, ◌∙◌, arith}
use Rattle.std.specs.Prelude.{Contains, Option, None, Some, if◌then◌else◌}
use Rattle.r4_base.specs.Cell.{names_block}
use Rattle.r4_base.specs.Key.{rank}
use Rattle.r4_base.specs.Tree.{Name}
use Rattle.r4_base.specs.declared.key.Key.{Key}
use Rattle.r4_extent_build.specs.r4_branch.Pieces.{AreTwigPieces, Follow, is_at, last_end, names_of, next_of, piece_end, twig_bytes}
use Rattle.r4_extent_build.specs.r4_branch.declared.piece.TwigPart.TheVariants.{Pointer}
use Rattle.r4_extent_build.specs.r4_branch.declared.piece.TwigPiece.{TwigPiece}
use Rattle.r4_extent_build.specs.r4_cell.Seen.{CellSeen}
use Rattle.r4_extent_build.specs.r4_edit.CutBlocks.{pointer_over}
use Rattle.r4_extent_build.proofs.r4_edit.CutOut.{exchange, both, nonempty}
use Rattle.r4_extent_build.proofs.r4_edit.CutParts.{AreSplit}
use Rattle.r4_extent_build.proofs.r4_edit.CutTaken.{over_bytes, over_follow, over_left, over_next}
use Rattle.r4_extent_build.proofs.r4_graft.Joined.{follow_join, spliced_bytes}
use Rattle.r4_extent_build.proofs.r4_graft.Placed.{follow_end, has_end}
use Rattle.r4_extent_build.proofs.r4_graft.SplicedNames.{spliced_names}
use Rattle.r4_extent_build.proofs.r4_patch.Members.{cases, none}
use Rattle.r4_extent_build.specs.r4_path.Steps.{IsNameOf, name_of}
use Rattle.r4_extent_build.proofs.r4_path.Grown.{map_names, names_map}

-- the leaf to which the first of the pieces points
abbrev pub cells_of : List TwigPiece → (id : ℕ) → (hi : Key) → (block : List ℕ) → List CellSeen
cells_of [] id hi block = []
cells_of (p ∷ ps) id hi block = record { id = id; level = 1; lo = p.key; hi = hi; block = block } ∷ []

-- A leaf of this number and these bytes that begins between the keys, and ends at this one.
pub record IsTaker (from to id : ℕ) (hi : Key) (block : List ℕ) (c : CellSeen) : Type 0 where
  pub number : c.id ≡ id
  pub level : c.level ≡ 1
  pub low : from ≤ rank c.lo
  pub some : rank c.lo < to
  pub ends : c.hi ≡ hi
  pub bytes : c.block ≡ block

pub each_taker : (from to : ℕ) (before : Option ℕ) (id : ℕ) (hi : Key) (block : List ℕ) (ms : List TwigPiece) → Follow from to ms
    → (c : CellSeen) → Contains (cells_of (pointer_over before id ms) id hi block) c → IsTaker from to id hi block c
each_taker from to before id hi block [] f c at = absurd (none c at)
each_taker from to before id hi block (m ∷ ms) f c at = by_test (is_at before (rank m.key)) at
  where
    begins : rank m.key < to
    begins = let e = has_end m f.1 in let r = follow_end (piece_end m) to ms f.2 in omega (arith, e, r)

    by_test : (t : Bool) → Contains (cells_of (if t then [] else record { key = m.key; part = Pointer (record { 0 = id }) } ∷ []) id hi block) c → IsTaker from to id hi block c
    by_test true h = absurd (none c h)
    by_test false h = elim (cases (record { id = id; level = 1; lo = m.key; hi = hi; block = block }) c [] h) [
      | inl is ↦ subst (IsTaker from to id hi block) (sym is) (record {
        number = refl;
        level = refl;
        low = f.0;
        some = begins;
        ends = refl;
        bytes = refl;
      })
      | inr more ↦ absurd (none c more)
    ]

takers_named : (before : Option ℕ) (id h : ℕ) (hi : Key) (block : List ℕ) (ms : List TwigPiece) → rank hi ≡ h
    → names_of h (pointer_over before id ms) ≡ map name_of (cells_of (pointer_over before id ms) id hi block)
unfolding names_of
takers_named before id h hi block [] same = refl
takers_named before id h hi block (m ∷ ms) same = by_test (is_at before (rank m.key))
  where
    by_test : (t : Bool) → names_of h (if t then [] else record { key = m.key; part = Pointer (record { 0 = id }) } ∷ [])
        ≡ map name_of (cells_of (if t then [] else record { key = m.key; part = Pointer (record { 0 = id }) } ∷ []) id hi block)
    by_test true = refl
    by_test false = λ i. record { id = id; level = 1; lo = rank m.key; hi = sym same i } ∷ []

pub few_takers : (before : Option ℕ) (id n : ℕ) (hi : Key) (block : List ℕ) (ms : List TwigPiece)
    → (length (cells_of (pointer_over before id ms) id hi block) ≡ length (cells_of (pointer_over before n ms) n hi block)) × (length (cells_of (pointer_over before id ms) id hi block) ≤ 1)
few_takers before id n hi block [] = (refl, omega arith)
few_takers before id n hi block (m ∷ ms) = by_test (is_at before (rank m.key))
  where
    by_test : (t : Bool) → (length (cells_of (if t then [] else record { key = m.key; part = Pointer (record { 0 = id }) } ∷ []) id hi block)
        ≡ length (cells_of (if t then [] else record { key = m.key; part = Pointer (record { 0 = n }) } ∷ []) n hi block))
        × (length (cells_of (if t then [] else record { key = m.key; part = Pointer (record { 0 = id }) } ∷ []) id hi block) ≤ 1)
    by_test true = (refl, omega arith)
    by_test false = (refl, omega arith)

-- a pointer that comes in any case
none_left : (h id : ℕ) (xs ms : List TwigPiece) → names_of (next_of h (pointer_over None id ms)) xs ≡ names_of (next_of h ms) xs
none_left h id xs [] = refl
none_left h id xs (m ∷ ms) = refl

none_next : (h id : ℕ) (xs ms ys : List TwigPiece) → next_of h (xs ++ (pointer_over None id ms ++ ys)) ≡ next_of h (xs ++ (ms ++ ys))
none_next h id (x ∷ xs) ms ys = refl
none_next h id [] [] ys = refl
none_next h id [] (m ∷ ms) ys = refl

module _ (lo hi from to : ℕ) (pp xs ms ys : List TwigPiece) (s : AreSplit lo hi from to pp xs ms ys) (follow : Follow lo hi pp) (before : Option ℕ) (how : (before ≡ None) ⊎ (before ≡ last_end None xs)) where
  abbrev pub replaced : (id : ℕ) → List TwigPiece
  replaced id = xs ++ (pointer_over before id ms ++ ys)

  left : (h id : ℕ) → names_of (next_of h (pointer_over before id ms)) xs ≡ names_of (next_of h ms) xs
  left h id = elim how [
    | inl is ↦ subst (λ o. names_of (next_of h (pointer_over o id ms)) xs ≡ names_of (next_of h ms) xs) (sym is) (none_left h id xs ms)
    | inr is ↦ subst (λ o. names_of (next_of h (pointer_over o id ms)) xs ≡ names_of (next_of h ms) xs) (sym is) (over_left h xs ms id)
  ]

  first : (id : ℕ) → next_of hi (replaced id) ≡ next_of hi pp
  first id = elim how [
    | inl is ↦ subst (λ o. next_of hi (xs ++ (pointer_over o id ms ++ ys)) ≡ next_of hi (xs ++ (ms ++ ys))) (sym is) (none_next hi id xs ms ys)
    | inr is ↦ subst (λ o. next_of hi (xs ++ (pointer_over o id ms ++ ys)) ≡ next_of hi (xs ++ (ms ++ ys))) (sym is) (over_next hi xs ms ys id)
  ] ∙ ap (next_of hi) (sym s.is)

  pub replaced_pieces : (id : ℕ) → names_block true (2 ^ 64) (Some id) ≡ true → lo < hi → next_of hi pp ≡ lo → AreTwigPieces lo hi (replaced id)
  replaced_pieces id may some begins =
      let at = first id ∙ begins in
      record {
        some = nonempty lo hi (replaced id) at some;
        first = at;
        follow = follow_join lo from hi xs (pointer_over before id ms ++ ys) s.left (follow_join from to hi (pointer_over before id ms) ys (over_follow from to before id ms may s.mid) s.right);
      }

  pub replaced_bytes : (id : ℕ) → twig_bytes (replaced id) ≤ twig_bytes pp + 84
  replaced_bytes id =
      let a = spliced_bytes xs ms ys (pointer_over before id ms) in
      let b = ap twig_bytes s.is in
      let c = over_bytes before id ms in
      omega (arith, a, b, c)

  module _ (old : List CellSeen) (end : Key) (block : List ℕ) (ends : rank end ≡ next_of hi ys) (gone : (n : Name) → Contains (names_of (next_of hi ys) ms) n ↔ IsNameOf old n) where
    pub replaced_names : (id : ℕ) (n : Name) → Contains (names_of hi (replaced id)) n
        ↔ ((Contains (names_of hi pp) n × (IsNameOf old n → ⊥)) ⊎ IsNameOf (cells_of (pointer_over before id ms) id end block) n)
    replaced_names id n =
        let named = takers_named before id (next_of hi ys) end block ms ends in
        let cells = cells_of (pointer_over before id ms) id end block in
        exchange
        (spliced_names hi lo hi xs ms (pointer_over before id ms) ys (subst (Follow lo hi) s.is follow) (left (next_of hi ys) id) n)
        (both (λ ps. Contains (names_of hi ps) n) (xs ++ (ms ++ ys)) pp (sym s.is))
        (gone n) (
          (λ at. names_map cells n (subst (λ ks. Contains ks n) named at)),
          (λ h. subst (λ ks. Contains ks n) (sym named) (map_names cells n h)),
        )
