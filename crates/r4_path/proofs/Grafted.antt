-- The change that puts twigs in the place of one, no more than are needed, along its path.
use Rattle.std.proofs.Common.{◌≢◌, ◌⊎◌, inl, inr, ℕ, ◌+◌, ◌-◌, ◌/◌, ◌^◌, ◌<◌, ◌≤◌, List, [], ◌∷◌, length}
use Rattle.std.proofs.Common.{map, drop, arith}
use Rattle.std.specs.Prelude.{reverse}
use Rattle.std.proofs.lemmas.Bool.{cases_lt}
use Rattle.std.proofs.lemmas.List.{length-drop}
use Rattle.r4_base.specs.Tree.{Root, Store}
use Rattle.r4_base.specs.Value.{Value}
use Rattle.r4_graft.specs.r4_branch.Pieces.{twig_bytes}
use Rattle.r4_graft.specs.r4_branch.declared.piece.TwigPiece.{TwigPiece}
use Rattle.r4_patch.specs.r4_cell.Seen.{CellSeen}
use Rattle.r4_patch.specs.r4_cell.declared.change.Change.{Change}
use Rattle.r4_patch.specs.r4_cell.declared.change.Fresh.{Fresh}
use Rattle.r4_path.specs.Grafts.{Grafts, IsGraftedIn, IsGraftedUp, IsTwigLevel, extra_twigs}
use Rattle.r4_path.specs.Levels.{CanClimb, Climbed, IsLongEnough, Rises}
use Rattle.r4_path.specs.Steps.{Step}
use Rattle.r4_path.proofs.Enough.{fewer}
use Rattle.r4_path.proofs.TwigRose.{EnoughTwigs, TwigRose, twigs_end, twigs_ids, twigs_rose, twigs_start}

most : (bytes n : ℕ) → bytes ≤ 16000 → n ≤ 1 + (bytes - 4068 + 1023) / 1024 → n ≤ 16
most bytes n few le = omega (arith, few, le)

module _ (twig : CellSeen) (ups : List CellSeen) (qs : List TwigPiece) (f g : Fresh) (s : Step)
    (is : IsTwigLevel twig qs f g s) where
  many : length s.new ≤ 1 + extra_twigs qs
  many = elim (cases_lt 4068 (twig_bytes qs)) [
    | inl over ↦ (is.several over).1
    | inr fits ↦ let one = is.one fits in omega (arith, one)
  ]

  come : length (drop 1 s.new) ≤ extra_twigs qs
  come = let d = length-drop 1 s.new in let n = many in omega (arith, d, n)

  enough : (r : Root) → (twig_bytes qs ≤ 4068) ⊎ IsLongEnough r (extra_twigs qs) twig ups → EnoughTwigs r s twig ups
  enough r (inl fits) = inl (is.one fits)
  enough r (inr long) = inr (fewer r (length (drop 1 s.new)) (extra_twigs qs) twig ups come long)

  pub graft_starts : (t : Store Value) (r : Root) → IsGraftedIn t r qs twig ups f → 2 ^ 63 ≤ f.next → f.end < 2 ^ 64
      → CanClimb s ups g
  graft_starts t r at unplaced end =
      let numbers = at.numbers in
      let extra = come in
      let k = most (twig_bytes qs) (length s.new) at.bytes many in
      twigs_start twig ups qs f g s is.row t r at.path at.level (omega (arith, k)) (enough r at.enough) unplaced
      (omega (arith, numbers, extra)) end

  -- ---- the whole change

  module _ (after : Fresh) (d : Change) (rises : Rises s ups g after d) where
    abbrev up : Climbed s ups g after [] rises.steps rises.over
    up = rises.climbed

    pub graft_grafts : Grafts twig ups qs f after d
    graft_grafts =
        let rose : TwigRose twig ups qs f after s up.more rises.over d = twigs_rose twig ups qs f g s is.row after d rises in
        record {
          lowest = s;
          more = up.more;
          over = rises.over;
          middle = g;
          levels = rose.levels;
          level = is;
          ups_are = up.olds_are;
          climbs = up.climbs;
          keep = up.keep;
          needed = up.needed;
          rows = up.rows;
          root_needed = up.root_needed;
          root_able = up.root_able;
          mkfs_ids = twigs_ids twig ups qs f g s is.row after d rises;
          sound = rose.sound;
          root_units = up.root_units;
          root_node = up.root_node;
          ends = λ r h. twigs_end twig ups qs f g s is.row after d rises r (enough r h);
          counts = rose.counts;
          number = rose.number;
          within = up.within;
        }

pub some_grafted : {A : Type 0} (t : Store Value) (r : Root) (qs : List TwigPiece) (f : Fresh) (h : A → CellSeen) (xs : List A)
    → IsGraftedUp t r qs f (reverse (map h xs)) → length xs ≢ 0
some_grafted t r qs f h [] is e = is
some_grafted t r qs f h (x ∷ xs) is e = omega (arith, e)
