-- What calls tell of leaves that were looked at.
use Rattle.std.proofs.Common.{◌≡◌, ◌≢◌, ℕ, zero, suc, ◌+◌, ◌<◌, Bool, true, false, List, [], ◌∷◌, ◌++◌, get_or, length, map, refl, sym, ap, subst, ◌∙◌, arith}
use Rattle.std.specs.Prelude.{◌==◌, ◌&&◌, ◌||◌, Contains, if◌then◌else◌, nat_lt, not}
use Rattle.std.specs.List.{list_all}
use Rattle.std.proofs.lemmas.Bool.{ne_eqb}
use Rattle.std.proofs.lemmas.List.Elements.{All-head}
use Rattle.r4_base.specs.Key.{rank}
use Rattle.r4_content.specs.Edited.{Edits, Pairs, is_between, no_edits}
use Rattle.r4_content.specs.Held.{part_pairs}
use Rattle.r4_content.specs.Seen.{pairs_in}
use Rattle.r4_content.specs.declared.seen.SeenPart.{SeenPart}
use Rattle.r4_extent_shrink.specs.r4_extent_growth.r4_extent_build.Growing.{end_after}
use Rattle.r4_extent_shrink.specs.r4_extent_growth.r4_extent_build.r4_extent_edit.Turning.{last_leaf}
use Rattle.r4_extent_shrink.specs.r4_extent_growth.r4_extent_demands.Pieces.{gets_among}
use Rattle.r4_extent_shrink.specs.r4_extent_growth.r4_measure.r4_cell.Seen.{CellSeen}
use Rattle.r4_extent_shrink.specs.r4_extent_growth.r4_measure.r4_reach.Touched.{Body, blocks_end, coming, first_byte, turns_out}
use Rattle.r4_extent_shrink.proofs.r4_extent_growth.r4_measure.r4_patch.Members.{here, later, none}
use Rattle.r4_extent_shrink.proofs.r4_extent_growth.r4_measure.r4_path.Rising.{follow_within}
use Rattle.r4_extent_turn.specs.r4_sight.Parts.{AreFull, all_pairs}
use Rattle.r4_extent_turned.specs.Suiting.{lie_beside}
use Rattle.r4_extent_turned.proofs.Suited.{row}

-- the cell at an index is one of the cells
pub item_in : {A : Type 0} (f : A → CellSeen) (xs : List A) (i : ℕ) (d : A) → i < length xs → (c : CellSeen) → c ≡ f (get_or xs i d) → Contains (map f xs) c
item_in f [] i d lt c is = absurd (omega (arith, lt))
item_in f (x ∷ xs) zero d lt c is = subst (Contains (f x ∷ map f xs)) (sym is) (here (f x) (map f xs))
item_in f (x ∷ xs) (suc i) d lt c is = later (f x) c (map f xs) (item_in f xs i d (omega (arith, lt)) c is)

-- ---- units

abbrev is_nil : {A : Type 0} → List A → Bool
is_nil [] = true
is_nil (x ∷ xs) = false

none_long : {A : Type 0} (xs : List A) → (length xs == 0) ≡ is_nil xs
none_long [] = refl
none_long (x ∷ xs) = ne_eqb (length (x ∷ xs)) 0 (λ h. omega (arith, h))

none_within : (from to : ℕ) (us : Pairs) → list_all (λ u. not (is_between from to u.0)) us ≡ is_nil (pairs_in us from to)
none_within from to [] = refl
none_within from to (u ∷ us) = by_test (is_between from to u.0) (none_within from to us)
  where
    by_test : (v : Bool) → list_all (λ w. not (is_between from to w.0)) us ≡ is_nil (pairs_in us from to)
        → (not v && list_all (λ w. not (is_between from to w.0)) us) ≡ is_nil (if v then u ∷ pairs_in us from to else pairs_in us from to)
    by_test true h = refl
    by_test false h = h

parts_empty : (ps : List SeenPart) → AreFull ps → is_nil (all_pairs ps) ≡ is_nil ps
parts_empty [] full = refl
parts_empty (p ∷ ps) full = by_first (part_pairs p) (All-head (λ (q : SeenPart). part_pairs q ≢ []) p ps full)
  where
    by_first : (xs : Pairs) → xs ≢ [] → is_nil (xs ++ all_pairs ps) ≡ false
    by_first [] h = absurd (h refl)
    by_first (x ∷ xs) h = refl

-- where nothing was seen, there is nothing
pub seen_clear : (from to : ℕ) (us : Pairs) (ps : List SeenPart) (n : ℕ) → all_pairs ps ≡ pairs_in us from to → AreFull ps → n ≡ length ps → (n == 0) ≡ list_all (λ u. not (is_between from to u.0)) us
seen_clear from to us ps n pairs full many = ap (λ m. m == 0) many ∙ (none_long ps ∙ (sym (parts_empty ps full) ∙ (ap (λ (xs : Pairs). is_nil xs) pairs ∙ sym (none_within from to us))))

-- ---- the size before

pub tells : (b : Body) (e : Edits) (k : ℕ) → e ≡ no_edits → turns_out b ≡ true → gets_among b e k 1 ≡ nat_lt k (first_byte b + b.was)
tells b e k none turns = ap (λ (x : Edits). gets_among b x k 1) none ∙ ap (λ (v : Bool). v && nat_lt k (first_byte b + b.was)) turns

-- where the blocks end that come
pub coming_end : (b : Body) → turns_out b ≡ true → (coming b).1 ≡ end_after b
coming_end b turns = by_tests b.in_extents (nat_lt 16384 b.now) turns
  where
    by_tests : (t l : Bool) → ((t || l) && not t) ≡ true → (let r : ℕ × ℕ = if t || l then (if t then blocks_end b b.was else first_byte b, end_after b) else (0, 0) in r.1 ≡ end_after b)
    by_tests true l on = absurd cc
    by_tests false true on = refl
    by_tests false false on = absurd cc

-- ---- leaves that lie one beside the other

pub levels : (cs : List CellSeen) → ((leaf : CellSeen) (more : List CellSeen) → cs ≡ leaf ∷ more → lie_beside (rank leaf.lo) (leaf ∷ more) ≡ true) → (c : CellSeen) → Contains cs c → c.level ≡ 1
levels [] h c at = absurd (none c at)
levels (d ∷ ds) h c at = (follow_within 1 (rank d.lo) (rank (last_leaf d ds).hi) (d ∷ ds) c (row (rank d.lo) d ds (h d ds refl)) at).level_as
