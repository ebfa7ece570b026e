-- What an extent over a leaf, and an item of a leaf among extents, do to units.
use Rattle.std.specs.Prelude.{◌≡◌, ◌==◌, ℕ, ◌+◌, ◌-◌, ◌<◌, ◌≤◌, ◌⊎◌, Bool, true, false, if◌then◌else◌, List, [], ◌∷◌}
use Rattle.std.specs.Prelude.{◌++◌, length, take, Contains, None, Option, Some, reverse}
use mathlib.Core.Path.{refl, sym, ap, subst, ◌∙◌}
use mathlib.Core.Logic.{inl, inr}
use native.Mathlib.Omega.{arith}
use Rattle.std.proofs.lemmas.List.{length-append, reverse-append, reverse-reverse}
use Rattle.std.proofs.Math.Seq.{take-append_seam}
use Rattle.std.proofs.lemmas.Option.{none-some}
use Rattle.r4_base.specs.Cell.{item_end}
use Rattle.r4_base.specs.Key.{rank}
use Rattle.r4_base.specs.Node.{Item}
use Rattle.r4_base.specs.Tree.{Root, Store}
use Rattle.r4_base.specs.Value.{Value}
use Rattle.r4_work.proofs.r4_branch.Filled.{item_has_end}
use Rattle.r4_work.specs.r4_cell.Seen.{CellSeen, node_of}
use Rattle.r4_work.specs.r4_cell.declared.change.Change.{Change}
use Rattle.r4_work.specs.r4_cell.declared.change.Fresh.{Fresh}
use Rattle.r4_work.proofs.r4_patch.Members.{cases, here, none}
use Rattle.r4_work.specs.r4_path.Grafts.{AreBlocksOf, GraftsUp}
use Rattle.r4_work.specs.r4_path.Steps.{name_of}
use Rattle.r4_work.proofs.r4_path.Rising.{hi_is, lo_is}
use Rattle.r4_work.specs.r4_edit.Extents.{IsOverIn, IsOverUp, PutsOverIn, PutsOverUp, given_cells, item_blocks, over_pieces}
use Rattle.r4_work.specs.r4_edit.LeafParts.{HasRight, right_id, right_takes}
use Rattle.r4_work.specs.r4_path.TwigPieces.{twig_pieces}
use Rattle.r4_extent_edit.specs.Effects.{EditsUnits, IsMadeIn, extent_values, item_keys, patch_with}
use Rattle.r4_extent_edit.specs.Turning.{AreAround, AreBeside}
use Rattle.r4_extent_edit.proofs.GraftEffect.{IsRepacked, below_there, graft_root}
use Rattle.r4_extent_edit.proofs.TurnEffect.{keeps_from, later_next, leaves_effect, leaves_names}

-- the first cell of a path that is given from the lowest up is the last from the top down
above_first : (path : List CellSeen) (x : CellSeen) (xs : List CellSeen) → reverse path ≡ x ∷ xs
    → reverse (take (length path - 1) path) ≡ xs
above_first path x xs same =
    let back : path ≡ reverse xs ++ (x ∷ []) = sym (reverse-reverse path) ∙ (ap reverse same
    ∙ reverse-append (x ∷ []) xs) in
    let long : length path - 1 ≡ length (reverse xs) = shorter (ap length back) in
    ap reverse ((λ i. take (long i) (back i)) ∙ take-append_seam (reverse xs) (x ∷ [])) ∙ reverse-reverse xs
  where
    shorter : length path ≡ length (reverse xs ++ (x ∷ [])) → length path - 1 ≡ length (reverse xs)
    shorter e = let l = length-append (reverse xs) (x ∷ []) in omega (arith, e, l)

-- ---- an extent over a leaf

over_beside : {t : Store Value} {r : Root} {it : Item} {leaf twig : CellSeen} {ups : List CellSeen} {before : Fresh}
    → IsOverIn t r it leaf twig ups before → AreBeside t twig leaf []
over_beside {t} {r} {it} {leaf} {twig} {ups} {before} is =
    let node = is.path.part.nodes leaf.id (node_of leaf) is.leaf_is in
    let a = lo_is leaf in
    let b = hi_is leaf in
    let some = node.nonempty in
    record {
      follow = (is.leaf_level, refl, omega (arith, a, b, some), refl);
      named = λ c at. subst (λ (x : CellSeen). Contains (node_of twig).names (name_of x)) (sym (only c at)) is.named;
      stand = λ c at. subst (λ (x : CellSeen). t x.id ≡ Some (node_of x)) (sym (only c at)) is.leaf_is;
    }
  where
    only : (c : CellSeen) → Contains (leaf ∷ []) c → c ≡ leaf
    only c at = elim (cases leaf c [] at) [ inl same ↦ same | inr none_is ↦ absurd (none c none_is) ]

over_around : {t : Store Value} {r : Root} {it : Item} {leaf twig : CellSeen} {ups : List CellSeen} {before : Fresh}
    → IsOverIn t r it leaf twig ups before → AreAround leaf [] (rank it.key) (item_end it)
over_around {t} {r} {it} is =
    let from = is.from in
    let to = is.to in
    let end = item_has_end it is.given.sound in
    record { low = from; begins = omega (arith, to, end); ends = omega (arith, from, end); high = to }

module _ {t : Store Value} {r : Root} {it : Item} {leaf twig : CellSeen} {ups : List CellSeen} {before after : Fresh}
    {path : List CellSeen}
    {c : Change} {blocks : List CellSeen} (is : IsOverIn t r it leaf twig ups before)
    (does : PutsOverIn path it before after c leaf twig)
    (g : IsRepacked t r twig ups (over_pieces it leaf does.right (twig_pieces twig)) (record {
      old = leaf
          ∷ [];
      new = given_cells does.left ++ given_cells does.right;
    })
    blocks does.mid after does.grafts.change c) where
  -- what has the leaf's name is no new name
  right_name : (o : Option CellSeen) → HasRight leaf it.key (right_id leaf it.key before) o
      → before.next + right_takes leaf it.key o ≤ after.next
      → (x : CellSeen) → Contains (given_cells o) x → (patch_with c blocks).old x.id ≡ None → (before.next ≤ x.id)
      × (x.id < after.next)
  right_name None h n x at gone = absurd (none x at)
  right_name (Some y) h n x at gone = elim (cases y x [] at) [
    | inr none_is ↦ absurd (none x none_is)
    | inl same ↦ by_test (rank it.key == rank leaf.lo) (ap (λ (z : CellSeen). z.id) same ∙ h.number) n
  ]
    where
      by_test : (b : Bool) → x.id ≡ (if b then leaf.id else before.next)
          → before.next + (if b then 0 else 1) ≤ after.next → (before.next ≤ x.id) × (x.id < after.next)
      by_test true id m = absurd (none-some (node_of leaf) (sym gone ∙ (ap (patch_with c blocks).old id
          ∙ below_there g leaf (here leaf []))))
      by_test false id m = (omega (arith, id), omega (arith, id, m))

  over_does : AreBlocksOf (item_blocks it) blocks → EditsUnits c blocks before after (item_keys it)
      (extent_values it blocks)
  over_does of =
      let keeps = keeps_from it.key (item_end it) leaf (right_id leaf it.key before) does.right does.parts.right_is
      is.leaf_level (λ k v at. let a = is.apart k v at in beside_item k a) in
      let mid_next : does.mid.next ≡ before.next + right_takes leaf it.key does.right = ap (λ
      (f : Fresh). f.next) does.parts.number in
      let l = later_next does.left does.right before g is.given (over_beside is)
      (over_around is) does.units does.parts.left_is keeps in
      record {
        effect = leaves_effect does.left does.right before g is.given (over_beside is)
            (over_around is) does.units does.parts.left_is keeps of;
        names = leaves_names does.left does.right before g is.given (over_beside is)
            (over_around is) does.units does.parts.left_is keeps (omega (arith, mid_next))
            (right_name does.right does.parts.right_is (omega (arith, mid_next, l)));
        root_number = graft_root g;
      }
    where
      beside_item : (k : ℕ) → (k < rank it.key) ⊎ (item_end it ≤ k) → (rank it.key ≤ k → item_end it ≤ k)
          × (item_end it ≤ k → rank it.key ≤ k)
      beside_item k (inl below) = let end = item_has_end it is.given.sound in
          (λ a. omega (arith, a, below), λ a. omega (arith, a, end))
      beside_item k (inr behind) = let end = item_has_end it is.given.sound in (λ a. behind, λ a. omega (arith, a, end))

module _ (t : Store Value) (r : Root) (path : List CellSeen) (it : Item) (before after : Fresh) (c : Change)
    (blocks : List CellSeen)
    (are : AreBlocksOf (item_blocks it) blocks) (made : IsMadeIn t r c blocks) where
  over_cells : (cells : List CellSeen) → reverse path ≡ cells → IsOverUp t r it before cells
      → PutsOverUp path it before after c cells
      → EditsUnits c blocks before after (item_keys it) (extent_values it blocks)
  over_cells [] same is does = absurd is
  over_cells (leaf ∷ []) same is does = absurd is
  over_cells (leaf ∷ (twig ∷ ups)) same is does = over_does is does
      (record {
        part = is.path.part;
        level = is.level;
        above = is.path.ascends.3;
        grafts = subst (GraftsUp _ does.mid after does.grafts.change) (above_first path leaf (twig
            ∷ ups) same) does.grafts.grafts;
        below = does.grafts.below;
        made = made;
      })
      are

  pub over_told : IsOverUp t r it before (reverse path) → PutsOverUp path it before after c (reverse path)
      → EditsUnits c blocks before after (item_keys it) (extent_values it blocks)
  over_told = over_cells (reverse path) refl
