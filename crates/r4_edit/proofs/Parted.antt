-- The change that parts a node in two, along its path.
use Rattle.std.proofs.Common.{◌≡◌, ◌≢◌, inl, inr, ◌+◌, ◌^◌, ◌<◌, ◌≤◌, List, [], ◌∷◌, length, map, drop, refl, sym, subst, arith}
use Rattle.std.specs.Prelude.{reverse}
use Rattle.std.proofs.lemmas.List.{length-drop}
use Rattle.r4_base.specs.Tree.{Root, Store}
use Rattle.r4_base.specs.Value.{Value}
use Rattle.r4_path.specs.r4_cell.Seen.{CellSeen}
use Rattle.r4_path.specs.r4_cell.Patch.{IsChange}
use Rattle.r4_path.specs.r4_cell.declared.change.Change.{Change}
use Rattle.r4_path.specs.r4_cell.declared.change.Fresh.{Fresh}
use Rattle.r4_path.specs.r4_patch.Joining.{patch_of_change}
use Rattle.r4_path.specs.r4_patch.Part.{MeetsPart}
use Rattle.r4_path.specs.Levels.{CanClimb, IsLongEnough, Rises}
use Rattle.r4_edit.specs.Splitting.{IsParted, IsPartedIn, IsPartedUp, IsSharedOut, Parts}
use Rattle.r4_path.specs.Steps.{Step}
use Rattle.r4_path.proofs.Begun.{Begun, Enough, begun_change, begun_climbs, begun_meets, begun_rose}
use Rattle.r4_edit.proofs.PiecesParted.{pieces_change, pieces_meet, pieces_parts, pieces_start}

-- ---- cells that share out what one named

module _ (c : CellSeen) (ups : List CellSeen) (f g : Fresh) (s : Step) (two : length s.new ≡ 2) (p : IsSharedOut c f g s) where
  one_comes : length (drop 1 s.new) ≡ 1
  one_comes = let d = length-drop 1 s.new in omega (arith, d, two)

  begun : Begun c f g s
  begun = record {
    old = p.old;
    step = p.step;
    sound = p.sound;
    counts = p.counts;
    number = p.number;
    few = omega (arith, two);
    mkfs_id = p.mkfs_id;
  }

  enough : (t : Store Value) (r : Root) → IsPartedIn t r c ups f → Enough r s c ups
  enough t r is = inr (subst (λ n. IsLongEnough r n c ups) (sym one_comes) is.enough)

  shared_starts : (t : Store Value) (r : Root) → IsPartedIn t r c ups f → 2 ^ 63 ≤ f.next
      → f.next + (1 + length ups) < f.end → f.end < 2 ^ 64 → CanClimb s ups g
  shared_starts t r is unplaced numbers end = begun_climbs c ups f g s begun t r is.path (enough t r is) unplaced
      (let one = one_comes in omega (arith, numbers, one)) end

-- ---- either way

module _ (c : CellSeen) (ups : List CellSeen) (f g : Fresh) (s : Step) (p : IsParted c f g s) where
  pub step_starts : (t : Store Value) (r : Root) → IsPartedIn t r c ups f → 2 ^ 63 ≤ f.next
      → f.next + (1 + length ups) < f.end → f.end < 2 ^ 64 → CanClimb s ups g
  step_starts t r is unplaced numbers end = elim p.parts [
    | inl shared ↦ shared_starts c ups f g s p.two shared t r is unplaced numbers end
    | inr pieces ↦ pieces_start c ups f g s p.two pieces t r is unplaced numbers end
  ]

  module _ (after : Fresh) (d : Change) (rises : Rises s ups g after d) where
    pub final_change : (t : Store Value) (r : Root) → IsPartedIn t r c ups f → IsChange d.old d.new d.root
    final_change t r is = elim p.parts [
      | inl shared ↦ begun_change c ups f g s (begun c ups f g s p.two shared) after d rises t r is.path
          (enough c ups f g s p.two shared t r is)
      | inr pieces ↦ pieces_change c ups f g s p.two pieces after d rises t r is
    ]

    pub final_meets : (t : Store Value) (r : Root) → IsPartedIn t r c ups f → MeetsPart (patch_of_change d) t r
    final_meets t r is = elim p.parts [
      | inl shared ↦ begun_meets c ups f g s (begun c ups f g s p.two shared) after d rises t r is.path
          (enough c ups f g s p.two shared t r is)
      | inr pieces ↦ pieces_meet c ups f g s p.two pieces after d rises t r is
    ]

    pub final_parts : Parts c ups f after d
    final_parts = elim p.parts [
      | inl shared ↦
          let rose = begun_rose c ups f g s (begun c ups f g s p.two shared) after d rises in
          record {
            lowest = record { old = c; new = s.new };
            more = rose.more;
            over = rose.over;
            levels = rose.levels;
            old = refl;
            ups_are = rose.ups_are;
            two = p.two;
            some = p.some;
            units = p.units;
            keep = rose.keep;
            needed = rose.needed;
            root_needed = rose.root_needed;
            root_able = rose.root_able;
            mkfs_ids = rose.mkfs_ids;
            root_units = rose.root_units;
            counts = rose.counts;
            number = rose.number;
          }
      | inr pieces ↦ pieces_parts c ups f g s p.two pieces after d rises p.some p.units
    ]

pub some_path : {A : Type 0} (t : Store Value) (r : Root) (f : Fresh) (h : A → CellSeen) (xs : List A)
    → IsPartedUp t r f (reverse (map h xs)) → length xs ≢ 0
some_path t r f h [] is e = is
some_path t r f h (x ∷ xs) is e = omega (arith, e)
