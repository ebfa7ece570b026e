-- The change that puts leaves in the place of one, along its path.
use Rattle.std.proofs.Common.{◌≢◌, inl, inr, ℕ, ◌+◌, ◌-◌, ◌*◌, ◌/◌, ◌^◌, ◌<◌, ◌≤◌, List, [], ◌∷◌, length, map, drop, refl, ◌∙◌}
use Rattle.std.proofs.Common.{arith}
use Rattle.std.specs.Prelude.{min, reverse}
use Rattle.std.proofs.Math.Nat.{min-eq_left, min-eq_right}
use Rattle.std.proofs.lemmas.Bool.{cases_lt}
use Rattle.std.proofs.lemmas.List.{length-drop}
use Rattle.r4_base.specs.Key.{rank}
use Rattle.r4_base.specs.Tree.{Root, Store}
use Rattle.r4_base.specs.Value.{Value}
use Rattle.r4_path.specs.r4_cell.Seen.{CellSeen}
use Rattle.r4_path.specs.r4_cell.Patch.{IsChange}
use Rattle.r4_path.specs.r4_cell.declared.change.Change.{Change}
use Rattle.r4_path.specs.r4_cell.declared.change.Fresh.{Fresh}
use Rattle.r4_path.specs.r4_leaf.Leaves.{AreFew, Packs}
use Rattle.r4_path.specs.r4_leaf.Units.{LeafUnit, leaf_bytes}
use Rattle.r4_path.specs.r4_leaf.declared.leaf.Leaf.{Leaf}
use Rattle.r4_path.specs.r4_patch.Joining.{patch_of_change}
use Rattle.r4_path.specs.r4_patch.Part.{MeetsPart}
use Rattle.r4_edit.specs.Editing.{Edits, IsEditedIn, IsReplacedIn, IsReplacedUp, extra_cells}
use Rattle.r4_path.specs.LeafSteps.{IsLeafStep}
use Rattle.r4_path.specs.Levels.{CanClimb, IsLongEnough, Rises}
use Rattle.r4_path.specs.Steps.{Step}
use Rattle.r4_path.proofs.Begun.{Begun, Enough, begun_change, begun_climbs, begun_meets, begun_rose}
use Rattle.r4_path.proofs.Enough.{fewer, part_of}

-- the leaves are not more than were foreseen
few_leaves : (us : List LeafUnit) (leaves : List Leaf) → AreFew us leaves → length leaves ≤ 1 + extra_cells us
few_leaves us leaves few = elim (cases_lt 4068 (leaf_bytes us)) [
  | inl over ↦ part_of (leaf_bytes us) (length leaves) over (few.more over)
  | inr fits ↦ let one = few.one fits in omega (arith, one)
]

within : (n m : ℕ) → n ≤ 1 + m → n ≤ 16 → n ≤ 1 + min 15 m
within n m le few = elim (cases_lt m 15) [
  | inl below ↦ let e = min-eq_right (le-of-lt below) in omega (arith, e, le)
  | inr past ↦ let e = min-eq_left past in omega (arith, e, few)
]
  where
    le-of-lt : {a b : ℕ} → a < b → a ≤ b
    le-of-lt h = omega (arith, h)

pub numbered_leaves : (us : List LeafUnit) (leaves : List Leaf) → AreFew us leaves → length leaves ≤ 1 + min 15 (extra_cells us)
numbered_leaves us leaves few = within (length leaves) (extra_cells us) (few_leaves us leaves few) few.few

module _ (leaf : CellSeen) (ups : List CellSeen) (us : List LeafUnit) (leaves : List Leaf) (f g : Fresh) (s : Step)
    (is : IsLeafStep leaf us leaves f g s) (few : AreFew us leaves) where
  begun : Begun leaf f g s
  begun = record {
    old = is.old;
    step = is.step;
    sound = is.sound;
    counts = is.counts;
    number = is.number;
    few = let n = few.few in let many = is.many in omega (arith, n, many);
    mkfs_id = is.mkfs_id;
  }

  come : length (drop 1 s.new) ≤ extra_cells us
  come = let d = length-drop 1 s.new in let many = is.many in let n = few_leaves us leaves few in omega (arith, d, many, n)

  enough : (t : Store Value) (r : Root) → IsEditedIn t r us leaf ups f → Enough r s leaf ups
  enough t r edited = elim edited.enough [
    | inl fits ↦ inl (is.many ∙ few.one fits)
    | inr long ↦ inr (fewer r (length (drop 1 s.new)) (extra_cells us) leaf ups come long)
  ]

  pub edit_starts : (t : Store Value) (r : Root) → IsReplacedIn t r us leaves leaf ups f → 2 ^ 63 ≤ f.next → f.end < 2 ^ 64
      → CanClimb s ups g
  edit_starts t r at unplaced end =
      begun_climbs leaf ups f g s begun t r at.edited.path (enough t r at.edited) unplaced
      (let n = at.numbers in let c = numbered_leaves us leaves few in let d = length-drop 1 s.new in let many = is.many in
      omega (arith, n, c, d, many)) end

  module _ (after : Fresh) (d : Change) (rises : Rises s ups g after d) where
    pub edit_change : (t : Store Value) (r : Root) → IsEditedIn t r us leaf ups f → IsChange d.old d.new d.root
    edit_change t r edited = begun_change leaf ups f g s begun after d rises t r edited.path (enough t r edited)

    pub edit_meets : (t : Store Value) (r : Root) → IsEditedIn t r us leaf ups f → MeetsPart (patch_of_change d) t r
    edit_meets t r edited = begun_meets leaf ups f g s begun after d rises t r edited.path (enough t r edited)

    pub edit_edits : Packs (rank leaf.lo) (rank leaf.hi) us leaves → Edits leaf ups us f after d
    edit_edits packs =
        let rose = begun_rose leaf ups f g s begun after d rises in
        record {
          lowest = record { old = leaf; new = s.new };
          more = rose.more;
          over = rose.over;
          levels = rose.levels;
          old = refl;
          leaves = leaves;
          packs = packs;
          cells = is.cells;
          ups_are = rose.ups_are;
          units = is.units;
          one = λ fits. is.many ∙ few.one fits;
          several = λ over. let many = is.many in let two = few.several over in let n = few_leaves us leaves few in
              (omega (arith, many, two), omega (arith, many, n));
          climbs = rose.climbs;
          keep = rose.keep;
          needed = rose.needed;
          rows = rose.rows;
          ends = rose.ends;
          root_needed = rose.root_needed;
          root_able = rose.root_able;
          mkfs_ids = rose.mkfs_ids;
          root_units = rose.root_units;
          counts = rose.counts;
          number = rose.number;
        }

pub some_replaced : {A : Type 0} (t : Store Value) (r : Root) (us : List LeafUnit) (leaves : List Leaf) (f : Fresh)
    (h : A → CellSeen) (xs : List A) → IsReplacedUp t r us leaves f (reverse (map h xs)) → length xs ≢ 0
some_replaced t r us leaves f h [] is e = is
some_replaced t r us leaves f h (x ∷ xs) is e = omega (arith, e)
