-- The items of a row, with pointers to what comes in the place of those to what goes.
use Rattle.std.proofs.Common.{◌≡◌, ◌∙◌, ℕ, suc, ◌<◌, ◌≤◌, List, ◌∷◌, ◌++◌, length, map, take, drop, refl, sym, ap, subst, arith}
use Rattle.std.specs.Prelude.{slice_get, Some}
use Rattle.std.proofs.Math.Seq.{take-append_seam, drop-append_seam}
use Rattle.std.proofs.lemmas.List.{append_assoc, drop-map, map-append, take-map}
use Rattle.r4_base.specs.Key.{rank}
use Rattle.r4_base.specs.Node.{Item}
use Rattle.r4_cell.specs.Seen.{CellSeen}
use Rattle.r4_path.proofs.CellNodes.{map_twice}
use Rattle.r4_path.specs.Nodes.{pointer_item}
use Rattle.r4_path.specs.Sharing.{IsSound, items_of_cells}
use Rattle.r4_squeeze.proofs.Cells.{cells_pointers}
use Rattle.r4_squeeze.specs.Items.{Stand, item_meant, items_meant}
use Rattle.r4_squeeze.specs.Packing.{ArePointers}
use Rattle.r4_squeeze.specs.declared.items.NodeItem.{NodeItem}
use Rattle.r4_row_edit.proofs.Placed.{place_is, point_first, point_many}
use Rattle.r4_row_edit.specs.Over.{StandsOver}
use Rattle.r4_row_edit.specs.Repacked.{items_over}
use Rattle.std.specs.Prelude.{Contains}

module _ (l : ℕ) (gone row : List CellSeen) (s : StandsOver l gone row)
    (sound : (c : CellSeen) → Contains row c → IsSound c) where
  pub row_points : ArePointers (suc l) s.to (items_of_cells row)
  row_points = let low = s.low in
      cells_pointers (suc l) (omega (arith, low)) l s.from s.to row refl s.along sound

  -- the place at which the pointers to what goes begin
  pub place_over : (p key : ℕ) (items : List Item) → items ≡ items_of_cells row → key ≡ s.begin
      → ((k : ℕ) (x : Item) → k < p → slice_get items k ≡ Some x → rank x.key < key)
      → ((x : Item) → slice_get items p ≡ Some x → key ≤ rank x.key) → p ≡ length s.before
  place_over p key items same at below past =
      let f = point_first l s.begin s.end s.pointers gone s.one s.below s.point in
      let parts : items ≡ s.before ++ (f.first ∷ (f.rest ++ s.behind)) =
      same ∙ (s.had ∙ ap (λ xs. s.before ++ (xs ++ s.behind)) f.are) in
      place_is s.to key p s.before f.first (f.rest ++ s.behind)
      (subst (Stand s.to) (sym same ∙ parts) row_points.stand) (f.at ∙ sym at)
      (λ k x lt e. below k x lt (ap (λ xs. slice_get xs k) parts ∙ e))
      (λ x e. past x (ap (λ xs. slice_get xs p) parts ∙ e))

  pub before_is : (p : ℕ) (had : List NodeItem) → items_meant had ≡ items_of_cells row → p ≡ length s.before
      → items_meant (take p had) ≡ s.before
  before_is p had same at = sym (take-map _ p had)
      ∙ (ap (take p) (same ∙ s.had)
      ∙ (ap (λ n. take n (s.before ++ (s.pointers ++ s.behind))) at
      ∙ take-append_seam s.before (s.pointers ++ s.behind)))

  pub behind_is : (p n : ℕ) (had : List NodeItem) → items_meant had ≡ items_of_cells row → p ≡ length s.before
      → n ≡ length gone → items_meant (drop n (drop p had)) ≡ s.behind
  behind_is p n had same at many = sym (drop-map _ n (drop p had))
      ∙ (ap (drop n) (sym (drop-map _ p had)
      ∙ (ap (drop p) (same ∙ s.had)
      ∙ (ap (λ k. drop k (s.before ++ (s.pointers ++ s.behind))) at
      ∙ drop-append_seam s.before (s.pointers ++ s.behind))))
      ∙ (ap (λ k. drop k (s.pointers ++ s.behind)) (many ∙ sym (point_many s.pointers gone s.point))
      ∙ drop-append_seam s.pointers s.behind))

  -- the parts are put together again
  pub spliced : {A : Type 0} (f : A → CellSeen) (p n : ℕ) (had first second all rest behind : List NodeItem) (come : List A)
      → items_meant had ≡ items_of_cells row → p ≡ length s.before → n ≡ length gone → first ≡ take p had
      → rest ≡ drop p had → items_meant second ≡ items_meant first ++ map (λ c. pointer_item (f c)) come
      → behind ≡ drop n rest → all ≡ second ++ behind → items_meant all ≡ items_over l gone row (map f come) s
  spliced f p n had first second all rest behind come same at many one left two past three =
      ap items_meant three
      ∙ (map-append item_meant second behind
      ∙ (ap (λ xs. xs ++ items_meant behind)
      (two ∙ (ap (λ xs. xs ++ map (λ c. pointer_item (f c)) come) (ap items_meant one ∙ before_is p had same at)
      ∙ ap (λ xs. s.before ++ xs) (map_twice f come)))
      ∙ (append_assoc s.before (map pointer_item (map f come)) (items_meant behind)
      ∙ ap (λ xs. s.before ++ (map pointer_item (map f come) ++ xs))
      (ap items_meant (past ∙ ap (drop n) left) ∙ behind_is p n had same at many))))
