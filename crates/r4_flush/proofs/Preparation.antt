-- What is prepared, from what was chosen.
use Rattle.std.proofs.Common.{◌≡◌, ◌≢◌, ⊎_elim, ℕ, ◌+◌, ◌^◌, ◌<◌, ◌≤◌, List, [], ◌∷◌, length, map, Option, refl, sym, ap, ◌∙◌, subst}
use Rattle.std.proofs.Common.{arith}
use Rattle.std.specs.Prelude.{All, Contains, sum_by}
use Rattle.std.specs.Arc.{arc_value}
use Rattle.std.specs.List.Sorted.{IsPermutation}
use Rattle.std.proofs.lemmas.List.{length-map}
use Rattle.std.proofs.lemmas.List.Elements.{All-contains}
use Rattle.std.proofs.lemmas.List.Sorted.{All-permutation, IsPermutation-map, length_permutation, sum_by-IsPermutation}
use Rattle.r4_base.specs.Bitmap.{bitmap_count}
use Rattle.r4_base.specs.declared.things.BlockNo.{BlockNo}
use Rattle.r4_base.proofs.Choices.{nothing_in}
use Rattle.r4_cell.specs.Seen.{CellSeen}
use Rattle.r4_space.specs.Accounts.{price_formula}
use Rattle.r4_space.specs.Lawful.{IsLawful}
use Rattle.r4_space.specs.Space.{Space, unused_count}
use Rattle.r4_place.specs.Chosen.{AreChosen, placed_all}
use Rattle.r4_place.specs.declared.placed.Placed.{Placed}
use Rattle.r4_flushed.proofs.r4_wander.Members.{any_cases, any_here, any_later}
use Rattle.r4_flushed.specs.r4_commit.Places.{place_of}
use Rattle.r4_flush.specs.Anew.{AreMade, BecomeBlocks, new_name}
use Rattle.r4_flush.specs.Asked.{StandsIn, fresh_cell, fresh_count}
use Rattle.r4_flush.specs.Prepared.{WasCell, cells_of}
use Rattle.r4_flush.specs.declared.cells.RenamedCell.{RenamedCell}
use Rattle.r4_flush.proofs.Choosing.{all_of, named_within, names_become, same_count, unused_left}
use Rattle.r4_flush.proofs.Made.{made_long}

-- what is asked of the given cells holds of them in order
pub asked_in_order : {X : Type 0} (g : X → CellSeen) (xs ys zs : List X) (s t : Space) → IsPermutation xs ys → zs ≡ ys
    → t ≡ s → All (StandsIn s.block_count) (map g xs)
    → All (λ c. c.id < 2 ^ 63 → c.id < t.block_count) (map g zs)
asked_in_order {X} g xs ys zs s t perm same space stand =
    subst (λ (l : List X). All (λ c. c.id < 2 ^ 63 → c.id < t.block_count) (map g l)) (sym same)
    (subst (λ (u : Space). All (λ c. c.id < 2 ^ 63 → c.id < u.block_count) (map g ys)) (sym space)
    (λ k d lt low. (All-permutation (StandsIn s.block_count) (map g xs) (map g ys)
    (IsPermutation-map g xs ys perm) stand k d lt low).1))

-- the names of cells that are made of others
made_names : (P : ℕ → Type 0) (f : ℕ → ℕ) (cs : List CellSeen) (rs : List RenamedCell) → AreMade (WasCell f) cs rs
    → ((x : CellSeen) → Contains cs x → P (f x.id)) → (c : CellSeen) → Contains (cells_of rs) c → P c.id
made_names P f [] [] all each c one = absurd (nothing_in c one)
made_names P f [] (r ∷ rs) all each c one = absurd all
made_names P f (x ∷ cs) [] all each c one = absurd all
made_names P f (x ∷ cs) (r ∷ rs) all each c one = ⊎_elim
    (λ is. subst P (sym (ap (λ (y : CellSeen). y.id) is ∙ all.0.cell.id)) (each x (any_here x cs x refl)))
    (λ later. made_names P f cs rs all.1 (λ y in_cs. each y (any_later x cs y in_cs)) c later)
    (any_cases (arc_value r.cell) (cells_of rs) c one)

pays : (p f u v : ℕ) → p + f ≤ u → u ≤ v + f → p ≤ v
pays p f u v enough left = omega (arith, enough, left)

module _ {X : Type 0} (g : X → CellSeen) (xs ys : List X) (perm : IsPermutation xs ys) (s : Space) (lawful : IsLawful s)
    (ps : List Placed) (chosen : AreChosen 22 s (map g ys) ps) where
  same_place : (place : ℕ → Option BlockNo) → ((i : ℕ) → place i ≡ place_of ps i) → place ≡ place_of ps
  same_place place same = λ j i. same i j

  pub renames : (place : ℕ → Option BlockNo) → ((i : ℕ) → place i ≡ place_of ps i) → BecomeBlocks (new_name place)
  renames place same = subst (λ (p : ℕ → Option BlockNo). BecomeBlocks (new_name p)) (sym (same_place place same))
      (names_become s lawful 22 (map g ys) ps chosen)

  pub by_answers : (place : ℕ → Option BlockNo) → ((i : ℕ) → place i ≡ place_of ps i) → (rs : List RenamedCell)
      → AreMade (WasCell (new_name place)) (map g ys) rs → AreMade (WasCell (new_name (place_of ps))) (map g ys) rs
  by_answers place same rs all =
      subst (λ (p : ℕ → Option BlockNo). AreMade (WasCell (new_name p)) (map g ys) rs) (same_place place same) all

  pub in_room : (rs : List RenamedCell) (t : Space) → AreMade (WasCell (new_name (place_of ps))) (map g ys) rs
      → t ≡ placed_all s ps
      → price_formula (length xs) (bitmap_count s.block_count) + fresh_count (map g xs) ≤ unused_count s
      → price_formula (length rs) (bitmap_count t.block_count) ≤ unused_count t
  in_room rs t all is room =
      let long : length rs ≡ length xs =
      made_long (WasCell (new_name (place_of ps))) (map g ys) rs all ∙ length-map ys g ∙ length_permutation xs ys perm in
      let fresh : sum_by fresh_cell (map g ys) ≡ sum_by fresh_cell (map g xs) =
      sum_by-IsPermutation fresh_cell (map g xs) (map g ys) (IsPermutation-map g xs ys perm) in
      let left : unused_count s ≤ unused_count (placed_all s ps) + sum_by fresh_cell (map g xs) =
      subst (λ (n : ℕ). unused_count s ≤ unused_count (placed_all s ps) + n) fresh
      (unused_left 22 s (map g ys) ps lawful chosen) in
      let enough = pays (price_formula (length xs) (bitmap_count s.block_count)) (fresh_count (map g xs))
      (unused_count s) (unused_count (placed_all s ps)) room left in
      subst (λ (u : Space). price_formula (length rs) (bitmap_count u.block_count) ≤ unused_count u) (sym is)
      (subst (λ (n : ℕ). price_formula (length rs) (bitmap_count n) ≤ unused_count (placed_all s ps))
      (sym (same_count s ps))
      (subst (λ (n : ℕ). price_formula n (bitmap_count s.block_count) ≤ unused_count (placed_all s ps)) (sym long)
      enough))

  pub in_volume : (rs : List RenamedCell) (t : Space) → AreMade (WasCell (new_name (place_of ps))) (map g ys) rs
      → t ≡ placed_all s ps → All (StandsIn s.block_count) (map g xs)
      → All (λ c. (c.id ≢ 0) × (c.id < t.block_count)) (cells_of rs)
  in_volume rs t all is stand =
      let sorted = All-permutation (StandsIn s.block_count) (map g xs) (map g ys) (IsPermutation-map g xs ys perm)
      stand in
      subst (λ (n : ℕ). All (λ c. (c.id ≢ 0) × (c.id < n)) (cells_of rs))
      (sym (ap (λ (u : Space). u.block_count) is ∙ same_count s ps))
      (all_of (λ (c : CellSeen). (c.id ≢ 0) × (c.id < s.block_count)) (cells_of rs)
      (made_names (λ (k : ℕ). (k ≢ 0) × (k < s.block_count)) (new_name (place_of ps)) (map g ys) rs all
      (λ x one. named_within s lawful 22 (map g ys) ps chosen x one
      (All-contains (StandsIn s.block_count) (map g ys) x sorted one))))
