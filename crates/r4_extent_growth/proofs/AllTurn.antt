-- Whether each twig among cells may have its turn, from cell to cell.
use Rattle.std.proofs.Common.{◌≡◌, inl, inr, ℕ, ◌+◌, ◌-◌, ◌<◌, ◌≤◌, Bool, true, false, List, [], ◌∷◌, drop, drop-cons, get_or, length, map, suc, refl, sym, ap, subst, ◌∙◌, arith}
use Rattle.std.specs.Prelude.{◌&&◌, Contains, None, Some, nat_le, option_map, if◌then◌else◌}
use Rattle.std.specs.List.{list_all}
use Rattle.std.proofs.lemmas.Grind.{common_steps}
use Rattle.std.proofs.lemmas.List.Sums.{sum_by_from}
use Rattle.r4_content.specs.Edited.{Edits}
use Rattle.r4_extent_change.proofs.r4_measure.r4_patch.Members.{cases}
use Rattle.r4_extent_change.specs.r4_measure.r4_cell.Seen.{CellSeen, node_of}
use Rattle.r4_extent_change.specs.r4_measure.r4_path.TwigPieces.{ArePiecesOf, twig_pieces}
use Rattle.r4_extent_change.specs.r4_measure.r4_reach.Needs.{pieces_after}
use Rattle.r4_extent_change.specs.r4_measure.r4_reach.Touched.{Body}
use Rattle.r4_extent_change.specs.r4_extent_build.Looping.{turns_of}
use Rattle.r4_extent_change.specs.r4_extent_build.Numbering.{coming_count}
use Rattle.r4_extent_change.specs.r4_extent_build.r4_twig_turns.Turning.{TwigTurn, numbers_for as numbers_of_turns}
use Rattle.r4_extent_change.specs.Beside.{is_turning, turning_among}
use Rattle.r4_extent_change.specs.Changing.{numbers_needed}
use Rattle.r4_extent_growth.specs.Turning.{may_turn, may_turn_all, numbers_for}

right_off : (x y : Bool) → y ≡ false → (x && y) ≡ false
right_off true y h = h
right_off false y h = refl

too_few : (need left : ℕ) → left < need → nat_le need left ≡ false
too_few need left h = grind (arith, common_steps, h)

less_first : (need n m left : ℕ) → need ≡ n + m → n ≤ left → nat_le need left ≡ nat_le m (left - n)
less_first need n m left is h = ap (λ k. nat_le k left) is ∙ shifted n m left h
  where
    shifted : (n m left : ℕ) → n ≤ left → nat_le (n + m) left ≡ nat_le m (left - n)
    shifted n m left h = grind (arith, common_steps, h)

-- what is left of the cells, with the next one of them
pub rest_is : {A : Type 0} (f : A → CellSeen) (xs : List A) (i : ℕ) (d : A) → i < length xs → (c : CellSeen) → c ≡ f (get_or xs i d)
    → map f (drop i xs) ≡ c ∷ map f (drop (i + 1) xs)
rest_is f xs i d lt c is = ap (map f) (drop-cons xs i d lt) ∙ (λ k. sym is k ∷ map f (drop (next k) xs))
  where
    next : suc i ≡ i + 1
    next = omega arith

module _ (b : Body) (e : Edits) (c : CellSeen) (cs : List CellSeen) where
  abbrev count : ℕ
  count = coming_count (twig_pieces c) (pieces_after (Some b) e (node_of c) [])

  among_on : is_turning b e c ≡ true → turning_among b e (c ∷ cs) ≡ c ∷ turning_among b e cs
  among_on h = ap (λ (v : Bool). if v then c ∷ turning_among b e cs else turning_among b e cs) h

  among_off : is_turning b e c ≡ false → turning_among b e (c ∷ cs) ≡ turning_among b e cs
  among_off h = ap (λ (v : Bool). if v then c ∷ turning_among b e cs else turning_among b e cs) h

  needed_on : is_turning b e c ≡ true → numbers_needed b e (c ∷ cs) ≡ (count + 64 + 64) + numbers_needed b e cs
  needed_on h =
      let a : numbers_of_turns (turns_of b e (turning_among b e (c ∷ cs))) ≡ (0 + (count + (0 + 64))) + numbers_of_turns (turns_of b e (turning_among b e cs))
      = ap (λ (xs : List CellSeen). numbers_of_turns (turns_of b e xs)) (among_on h)
      ∙ sum_by_from (λ (x : TwigTurn). x.blocks + (x.leaves + 64)) (0 + (count + (0 + 64))) (turns_of b e (turning_among b e cs)) in
      omega (arith, a)

  needed_off : is_turning b e c ≡ false → numbers_needed b e (c ∷ cs) ≡ 64 + numbers_needed b e cs
  needed_off h = let a = ap (λ (xs : List CellSeen). numbers_of_turns (turns_of b e xs)) (among_off h) in omega (arith, a)

  told : (v w : Bool) → is_turning b e c ≡ v → may_turn b e c ≡ w
      → numbers_for b e c ≡ (if v then option_map (λ n. n + 64) (if w then Some (count + 64) else None) else Some 64)
  told v w h g = λ i. if h i then option_map (λ n. n + 64) (if g i then Some (count + 64) else None) else Some 64

  may_on : (left : ℕ) → is_turning b e c ≡ true → may_turn_all b e (c ∷ cs) left
      ≡ ((may_turn b e c && list_all (may_turn b e) (turning_among b e cs)) && nat_le (numbers_needed b e (c ∷ cs)) left)
  may_on left h = ap (λ (xs : List CellSeen). list_all (may_turn b e) xs && nat_le (numbers_needed b e (c ∷ cs)) left) (among_on h)

  may_off : (left : ℕ) → is_turning b e c ≡ false → may_turn_all b e (c ∷ cs) left
      ≡ (list_all (may_turn b e) (turning_among b e cs) && nat_le (numbers_needed b e (c ∷ cs)) left)
  may_off left h = ap (λ (xs : List CellSeen). list_all (may_turn b e) xs && nat_le (numbers_needed b e (c ∷ cs)) left) (among_off h)

  pub refused : (left : ℕ) → numbers_for b e c ≡ None → may_turn_all b e (c ∷ cs) left ≡ false
  refused left none = by_tests (is_turning b e c) (may_turn b e c) refl refl
    where
      by_tests : (v w : Bool) → is_turning b e c ≡ v → may_turn b e c ≡ w → may_turn_all b e (c ∷ cs) left ≡ false
      by_tests true true t m = let some = sym (told true true t m) ∙ none in absurd cc
      by_tests true false t m = may_on left t
          ∙ ap (λ (v : Bool). (v && list_all (may_turn b e) (turning_among b e cs)) && nat_le (numbers_needed b e (c ∷ cs)) left) m
      by_tests false w t m = let some = sym (told false w t m) ∙ none in absurd cc

  pub needs_more : (n left : ℕ) → numbers_for b e c ≡ Some n → left < n → may_turn_all b e (c ∷ cs) left ≡ false
  needs_more n left is lt = right_off (list_all (may_turn b e) (turning_among b e (c ∷ cs))) (nat_le (numbers_needed b e (c ∷ cs)) left)
      (too_few (numbers_needed b e (c ∷ cs)) left (by_tests (is_turning b e c) (may_turn b e c) refl refl))
    where
      by_tests : (v w : Bool) → is_turning b e c ≡ v → may_turn b e c ≡ w → left < numbers_needed b e (c ∷ cs)
      by_tests true true t m =
          let same : Some (count + 64 + 64) ≡ Some n = sym (told true true t m) ∙ is in
          let count_is : count + 64 + 64 ≡ n = cc in
          let need = needed_on t in omega (arith, need, count_is, lt)
      by_tests true false t m = let none = sym (told true false t m) ∙ is in absurd cc
      by_tests false w t m =
          let same : Some 64 ≡ Some n = sym (told false w t m) ∙ is in
          let count_is : 64 ≡ n = cc in
          let need = needed_off t in omega (arith, need, count_is, lt)

  pub goes_on : (n left : ℕ) → numbers_for b e c ≡ Some n → n ≤ left → may_turn_all b e (c ∷ cs) left ≡ may_turn_all b e cs (left - n)
  goes_on n left is le = by_tests (is_turning b e c) (may_turn b e c) refl refl
    where
      by_tests : (v w : Bool) → is_turning b e c ≡ v → may_turn b e c ≡ w → may_turn_all b e (c ∷ cs) left ≡ may_turn_all b e cs (left - n)
      by_tests true true t m =
          let same : Some (count + 64 + 64) ≡ Some n = sym (told true true t m) ∙ is in
          let count_is : count + 64 + 64 ≡ n = cc in
          let need = needed_on t in
          may_on left t ∙ (λ i. (m i && list_all (may_turn b e) (turning_among b e cs))
          && less_first (numbers_needed b e (c ∷ cs)) n (numbers_needed b e cs) left (omega (arith, need, count_is)) le i)
      by_tests true false t m = let none = sym (told true false t m) ∙ is in absurd cc
      by_tests false w t m =
          let same : Some 64 ≡ Some n = sym (told false w t m) ∙ is in
          let count_is : 64 ≡ n = cc in
          let need = needed_off t in
          may_off left t ∙ (λ i. list_all (may_turn b e) (turning_among b e cs)
          && less_first (numbers_needed b e (c ∷ cs)) n (numbers_needed b e cs) left (omega (arith, need, count_is)) le i)

  -- what holds of the first, if its pieces change, and of those among the others, holds of all
  pub pieces_of_all : (is_turning b e c ≡ true → ArePiecesOf c (twig_pieces c))
      → ((x : CellSeen) → Contains (turning_among b e cs) x → ArePiecesOf x (twig_pieces x))
      → (x : CellSeen) → Contains (turning_among b e (c ∷ cs)) x → ArePiecesOf x (twig_pieces x)
  pieces_of_all first rest x at = by_test (is_turning b e c) refl
    where
      by_test : (v : Bool) → is_turning b e c ≡ v → ArePiecesOf x (twig_pieces x)
      by_test true t = elim (cases c x (turning_among b e cs) (subst (λ (xs : List CellSeen). Contains xs x) (among_on t) at)) [
        | inl is ↦ subst (λ (y : CellSeen). ArePiecesOf y (twig_pieces y)) (sym is) (first t)
        | inr more ↦ rest x more
      ]
      by_test false t = rest x (subst (λ (xs : List CellSeen). Contains xs x) (among_off t) at)
