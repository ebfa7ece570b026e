-- The bytes that a leaf needs for what it gets, as the calls say that measure them.
use Rattle.std.proofs.Common.{◌≡◌, ◌-◌, ◌^◌, ◌≤◌, ℕ, zero, suc, List, [], ◌∷◌, get_or, map, ap, refl, sym, ◌∙◌, arith}
use Rattle.std.specs.Prelude.{None, min}
use Rattle.std.specs.List.{filter}
use Rattle.std.proofs.lemmas.Grind.{common_steps}
use Rattle.r4_base.specs.Cell.{units_in}
use Rattle.r4_base.specs.Key.{rank}
use Rattle.r4_base.specs.Node.{Item}
use Rattle.r4_cell.specs.Seen.{CellSeen, node_of}
use Rattle.r4_content.specs.Edited.{Edits}
use Rattle.r4_content.specs.Listed.{list_edited}
use Rattle.r4_leaf.specs.Remade.{cut_all, put_all}
use Rattle.r4_leaf.specs.Units.{LeafUnit, is_between, leaf_bytes}
use Rattle.r4_leaf.specs.declared.remaking.Given.{Given}
use Rattle.r4_leaf.specs.declared.remaking.KeyRange.{KeyRange}
use Rattle.r4_leaf_edits.specs.Made.{MakesEdits}
use Rattle.r4_reach.proofs.r4_path.Rising.{hi_is, lo_is}
use Rattle.r4_reach.specs.Needs.{units_after}
use Rattle.r4_build_testing.specs.Small.{HasRoomFor, IsSmall}

least_of : (m n : ℕ) → n ≡ min m (2 ^ 64 - 1) → n ≤ 4068 → m ≤ 4068
least_of m n e h = grind (arith, common_steps, e, h)

pub room_for : (e : Edits) (leaf : CellSeen) (cuts : List KeyRange) (gs : List Given) (items : List Item) (n : ℕ) → units_in items ≡ (node_of leaf).units
    → MakesEdits (rank leaf.lo) (rank leaf.hi) e cuts gs (node_of leaf).units → n ≡ min (leaf_bytes (put_all gs (cut_all cuts (units_in items)))) (2 ^ 64 - 1) → n ≤ 4068 → HasRoomFor e leaf
room_for e leaf cuts gs items n same makes is few =
    let all : put_all gs (cut_all cuts (units_in items)) ≡ units_after None e (node_of leaf) =
    ap (λ (us : List LeafUnit). put_all gs (cut_all cuts us)) same ∙ makes.units
    ∙ (λ i. filter (λ (u : LeafUnit). is_between (sym (lo_is leaf) i) (sym (hi_is leaf) i) u.0) (list_edited e (node_of leaf).units)) in
    least_of _ n (is ∙ ap (λ (us : List LeafUnit). min (leaf_bytes us) (2 ^ 64 - 1)) all) few

mapped : {A B : Type 0} (f : A → B) (xs : List A) (k : ℕ) (d : A) → f (get_or xs k d) ≡ get_or (map f xs) k (f d)
mapped f [] k d = refl
mapped f (x ∷ xs) zero d = refl
mapped f (x ∷ xs) (suc k) d = mapped f xs k d

-- the second cell is the leaf
pub second_is : {A : Type 0} (f : A → CellSeen) (items : List A) (x : A) (cells : List CellSeen) (small : IsSmall cells) → map f items ≡ cells → x ≡ get_or items 1 x → f x ≡ small.leaf
second_is f items x cells small same is = ap f is ∙ mapped f items 1 x ∙ ap (λ (cs : List CellSeen). get_or cs 1 (f x)) (same ∙ small.are)
