-- The two cells of a fresh volume, and a new mode of its root.
use Rattle.std.specs.Prelude.{◌≡◌, ℕ, ◌+◌, ◌^◌, ◌<◌, List, [], ◌∷◌, length, true, false, Contains, None, Some, All}
use Rattle.std.specs.Prelude.{◌≢◌, ◌*◌, ◌-◌, ◌/◌, ◌%◌}
use Rattle.std.specs.FinMap.{find}
use Rattle.std.specs.Ordering.{nat_cmp}
use Rattle.std.proofs.Common.{arith, inl, inr, refl, sym, ap, subst, ◌∙◌}
use Rattle.std.proofs.lemmas.List.Elements.{All-cons, All-nil}
use Rattle.r4_base.specs.Bytes.{number_bytes}
use Rattle.r4_base.specs.Cell.{cell_fault, cell_of}
use Rattle.r4_base.specs.Fresh.{HasOneItem, root_key}
use Rattle.r4_base.specs.Key.{key_of_rank, least, rank, top}
use Rattle.r4_base.specs.Stat.{stat_body}
use Rattle.r4_base.specs.Tree.{IsData, Name, Node}
use Rattle.r4_base.specs.Value.{Stat, Value}
use Rattle.r4_base.specs.Volume.{root_attr, root_object, stat_rank}
use Rattle.r4_base.specs.declared.items.Attr.{Attr}
use Rattle.r4_base.specs.declared.items.Target.{Target}
use Rattle.r4_base.proofs.FreshTree.{down, fresh_leaf, fresh_twig, leaf_says, leaf_sound, only, twig_says, twig_sound}
use Rattle.r4_base.proofs.Choices.{nothing_in}
use Rattle.r4_search.specs.r4_cell.Patch.{by_name}
use Rattle.r4_search.specs.r4_cell.Seen.{CellSeen, node_of}
use Rattle.r4_search.proofs.r4_cell.Faults.{cell_still}
use Rattle.r4_content.specs.Edited.{Edits, changed, is_in}
use Rattle.r4_content.specs.Ways.{to_object}
use Rattle.r4_content.proofs.Ranks.{root_is_object, same_stat}
use Rattle.r4_content.specs.declared.command.Command.TheVariants.{Chmod}
use Rattle.r4_build.specs.r4_leaf_edits.Made.{spread_keys}
use Rattle.r4_build.proofs.r4_patch.Members.{cases, distinct, there}
use Rattle.r4_build.proofs.r4_path.Rising.{in_node, level_is}
use Rattle.r4_build.specs.r4_reach.Leaves.{LieInLeaves}
use Rattle.r4_build.specs.r4_reach.Touched.{body_on, edits_on}
use Rattle.r4_suited.specs.Suited.{AreLawfulSeen, IsAccepted, IsLawfulSeen}
use Rattle.r4_suited.proofs.Walked.{at_found}
use Rattle.r4_build.specs.r4_measure.Examples.{fresh_cells, fresh_root, set_root, some_numbers}
use Rattle.r4_build.proofs.r4_measure.FreshReach.{highest, leaf_cell, lowest, twig_cell}
use Rattle.r4_build.specs.Building.{CanBuild, HaveLawfulKeys}
use Rattle.r4_build.proofs.FreshBuilt.{fresh_built}
use Rattle.r4_spared.specs.Examples.{root_seen}
use Rattle.r4_spared.specs.Spared.{AreObjectsSeen, ChangesLeaves, MayStandAll}
use Rattle.r4_spared.proofs.Answered.{all_accepted}
use Rattle.r4_spared.proofs.Lawful.{keys_lawful}

new_mode : ℕ → Attr
new_mode mode = record root_attr { mode = root_attr.mode / 4096 * 4096 + mode % 4096 }

edits_are : (mode : ℕ) → edits_on (Chmod [] mode) root_seen ≡ set_root (new_mode mode)
unfolding new_mode to_object rank least
edits_are mode = refl

tails : (mode : ℕ) → spread_keys (body_on (Chmod [] mode) root_seen false) ≡ None
unfolding to_object rank least key_of_rank
tails mode = refl

lawful : (mode : ℕ) → AreLawfulSeen (Chmod [] mode) root_seen
lawful mode k v on at = at_found IsLawfulSeen root_seen k v
    (All-cons IsLawfulSeen (least, Stat root_attr) [] refl (All-nil IsLawfulSeen)) at

root_only : (k : ℕ) (a : Attr) → find nat_cmp k root_seen ≡ Some (Stat a) → (k ≡ least) × (a ≡ root_attr)
root_only k a at = at_found (λ (p : ℕ × Value). (b : Attr) → p.1 ≡ Stat b → (p.0 ≡ least) × (b ≡ root_attr)) root_seen k
    (Stat a)
    (All-cons (λ (p : ℕ × Value). (b : Attr) → p.1 ≡ Stat b → (p.0 ≡ least) × (b ≡ root_attr))
    (least, Stat root_attr) [] (λ b same. (refl, sym (stat_of_value root_attr b same)))
    (All-nil (λ (p : ℕ × Value). (b : Attr) → p.1 ≡ Stat b → (p.0 ≡ least) × (b ≡ root_attr)))) at a refl
  where
    stat_of_value : (x y : Attr) → Stat x ≡ Stat y → x ≡ y
    stat_of_value x y e = cc

root_rank : stat_rank root_object ≡ least
unfolding rank least
root_rank = refl

found_objects : (mode : ℕ) → AreObjectsSeen (Chmod [] mode) root_seen
found_objects mode o a is on at =
    let (key, attr) = root_only (stat_rank o) a at in
    let same : o ≡ root_object = same_stat o root_object is root_is_object (key ∙ sym root_rank) in
    let id = ap (λ (t : Target). t.oid.0) same in
    let size = ap (λ (b : Attr). b.size) attr in
    (omega (arith, key), omega (arith, id), omega (arith, size))

pub fresh_keys : (mode : ℕ) → HaveLawfulKeys (edits_on (Chmod [] mode) root_seen)
fresh_keys mode = keys_lawful (Chmod [] mode) root_seen (All-nil (λ (x : List ℕ). All (λ y. y < 256) x)) (lawful mode)
    (found_objects mode)

stands : (level : ℕ) (b : List ℕ) (lo hi : ℕ) → lo ≡ least → hi ≡ top → cell_fault false 64 level least top b ≡ None
    → cell_fault true (2 ^ 64) level lo hi b ≡ None
stands level b lo hi el eh sound =
    subst (λ (x : ℕ). cell_fault true (2 ^ 64) level x hi b ≡ None) (sym el)
    (subst (λ (x : ℕ). cell_fault true (2 ^ 64) level least x b ≡ None) (sym eh)
    (cell_still false 64 (2 ^ 64) level least top b (omega arith) sound))

module _ (twig leaf : List ℕ) (is_twig : HasOneItem twig 2 3 (number_bytes 8 23))
    (is_leaf : HasOneItem leaf 1 0 (stat_body root_attr)) (whole_twig : length twig ≡ 4096)
    (whole_leaf : length leaf ≡ 4096) where
  abbrev cells : List CellSeen
  cells = fresh_cells twig leaf

  abbrev high : CellSeen
  high = twig_cell twig leaf is_twig is_leaf

  abbrev low : CellSeen
  low = leaf_cell twig leaf is_twig is_leaf

  built : (a : Attr) → CanBuild None (set_root a) [] (by_name cells) fresh_root some_numbers cells
  built a = fresh_built twig leaf is_twig is_leaf a

  named : (l : ℕ) (b : List ℕ) → (cell_of l (rank root_key) (rank (key_of_rank (2 ^ 256 - 1))) b)
      ≡ cell_of l least top b
  named l b = λ i. cell_of l (lowest i) (highest i) b

  pub fresh_stand : MayStandAll cells
  fresh_stand = record {
    accepted = All-cons IsAccepted high (low ∷ [])
        (stands 2 twig (rank root_key) (rank (key_of_rank (2 ^ 256 - 1))) lowest highest
        (twig_sound 64 twig (omega arith) is_twig))
        (All-cons IsAccepted low []
        (stands 1 leaf (rank root_key) (rank (key_of_rank (2 ^ 256 - 1))) lowest highest
        (leaf_sound 64 leaf is_leaf)) (All-nil IsAccepted));
    whole = λ x at. elim (cases high x (low ∷ []) at) [
      | inl is ↦ ap (λ (y : CellSeen). length y.block) is ∙ whole_twig
      | inr more ↦ ap (λ (y : CellSeen). length y.block) (only low x more) ∙ whole_leaf
    ];
    names = (built root_attr).names;
  }

  lies : (e : Edits) (a : Attr) → e ≡ set_root a → LieInLeaves (by_name cells) (is_in (changed e))
  lies e a same k on from to =
      let (x, at, level, key) = (built a).lie k (subst (λ (f : Edits). is_in (changed f) k ≡ true) same on) in
      (x.id, node_of x, there cells x (distinct cells (built a).names) at, level_is x ∙ level, in_node x k key)

  pub fresh_changes : (mode : ℕ) → ChangesLeaves (Chmod [] mode) root_seen false (by_name cells) fresh_root
  fresh_changes mode = record {
    part = (built root_attr).reached.cells_in.part;
    accepted = all_accepted cells fresh_stand;
    paths = All-nil (λ (x : List ℕ). All (λ y. y < 256) x);
    rises = tt;
    lawful = lawful mode;
    tails = tails mode;
    lie = lies (edits_on (Chmod [] mode) root_seen) (new_mode mode) (edits_are mode);
  }
