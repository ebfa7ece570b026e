-- Twigs that have their turns, one after the other: what is known of the set in the end.
use Rattle.std.proofs.Common.{◌≡◌, ◌≢◌, ℕ, ◌+◌, ◌^◌, ◌<◌, ◌≤◌, List, [], ◌∷◌, length, refl, sym, subst, ◌∙◌, arith}
use Rattle.std.specs.Prelude.{Contains, sum_by}
use Rattle.std.proofs.lemmas.List.Sums.{sum_by-cons}
use Rattle.r4_base.specs.Tree.{Root, Store}
use Rattle.r4_base.specs.Value.{Value}
use Rattle.r4_build.specs.Making.{IsOf}
use Rattle.r4_extent_loss.proofs.r4_extent_build.r4_twig_turns.TurnByTurn.{few_come, next_measure, still_all, still_ready}
use Rattle.r4_extent_loss.specs.r4_extent_build.Looping.{AreTurned, behind_all}
use Rattle.r4_extent_loss.specs.r4_extent_build.r4_twig_turns.Turning.{AreReady, TwigTurn, behind, numbers_for}
use Rattle.r4_build.proofs.r4_measure.r4_patch.Members.{here, later}
use Rattle.r4_build.specs.r4_measure.Budget.{Budget, most_from}
use Rattle.r4_build.specs.r4_measure.Grafting.{IsQuietBelow}
use Rattle.r4_build.specs.r4_measure.Measured.{IsMeasured}
use Rattle.r4_build.specs.r4_measure.r4_cell.Seen.{CellSeen}
use Rattle.r4_build.specs.r4_measure.r4_cell.declared.change.Fresh.{Fresh}
use Rattle.r4_build.specs.r4_measure.r4_work.Working.{root_of, standing}
use Rattle.r4_build.specs.r4_measure.r4_work.declared.working.WorkingSet.{WorkingSet}
use Rattle.r4_extent_change.specs.Wider.{GoesOn, IsWider}
use Rattle.r4_extent_change.proofs.TwigTurn.{as_wide, leaf_goes_on, leaf_stays, now_of_cells, wider_still}

-- At its turn no more leaves come than go and are counted, and each leaf that goes goes on.
pub record IsMild (e : TwigTurn) : Type 0 where
  pub few : (n : ℕ) → length (e.beside n).below.new ≤ length (e.beside n).below.old + e.leaves
  pub goes : (n : ℕ) (z : CellSeen) → Contains (e.beside n).below.old z → z.level ≡ 1 → (y : CellSeen) × Contains (e.beside n).below.new y × IsWider z y

-- how many cells come at most
abbrev pub coming : List TwigTurn → ℕ
coming es = sum_by (λ (e : TwigTurn). e.blocks + e.leaves) es

-- what is known of the set in the end
pub record AreDone (t : Store Value) (r : Root) (u : Budget) (f : Fresh) (w now : WorkingSet) (es : List TwigTurn) : Type 0 where
  pub left : Budget
  pub measured : IsMeasured t r (behind_all es f) now left
  pub quiet : IsQuietBelow left
  pub few : most_from left (root_of now r) (standing now) ≤ most_from u (root_of w r) (standing w) + coming es
  pub stays : (d : CellSeen) → Contains (standing w) d → d.level ≡ 1 → ((e : TwigTurn) → Contains es e → (n : ℕ) (z : CellSeen) → Contains (e.beside n).below.old z → z.id ≢ d.id) → Contains (standing now) d
  pub goes_on : (d : CellSeen) → Contains (standing w) d → d.level ≡ 1 → GoesOn now d
  pub of_cells : (cells : List CellSeen) (from : ℕ) → from ≤ f.next → IsOf cells from f w → IsOf cells from (behind_all es f) now

pub all_done : (t : Store Value) (r : Root) (u : Budget) (f : Fresh) (w now : WorkingSet) (es : List TwigTurn) (is : List ℕ) → IsMeasured t r f w u → IsQuietBelow u → AreReady t w u es is → ((e : TwigTurn) → Contains es e → IsMild e)
    → 2 ^ 63 ≤ f.next → f.end < 2 ^ 64 → f.next + numbers_for es ≤ f.end → AreTurned t r es f w now → AreDone t r u f w now es
all_done t r u f w now [] is measured quiet ready mild unplaced high numbers same = record {
  left = u;
  measured = subst (λ v. IsMeasured t r f v u) (sym same) measured;
  quiet = quiet;
  few = subst (λ v. most_from u (root_of v r) (standing v) ≤ most_from u (root_of w r) (standing w) + 0) (sym same) (omega arith);
  stays = λ d at one beside. subst (λ v. Contains (standing v) d) (sym same) at;
  goes_on = λ d at one. subst (λ v. GoesOn v d) (sym same) (d, at, as_wide d);
  of_cells = λ cells from low was. subst (IsOf cells from f) (sym same) was;
}
all_done t r u f w now (e ∷ es) [] measured quiet ready mild unplaced high numbers turned = absurd ready
all_done t r u f w now (e ∷ es) (i ∷ is) measured quiet (ready, apart, others) mild unplaced high numbers (after, (v, turned, does, rest)) =
    let n = sum_by-cons (λ (d : TwigTurn). d.blocks + (d.leaves + 64)) e es in
    let k = sum_by-cons (λ (d : TwigTurn). d.blocks + d.leaves) e es in
    let fits : f.next + (e.blocks + (e.leaves + 64)) ≤ f.end = omega (arith, n, numbers) in
    let (left, next, still, same, few) = next_measure t r f w u measured quiet e i ready unplaced high fits after v turned in
    let come = few_come t r f w u measured quiet e i ready unplaced high fits after v turned in
    let first = mild e (here e es) in
    let fewer = first.few f.next in
    let more = all_done t r left (behind e f) v now es is next still
    (still_all t w v u left i (λ e2 j ne ready2. still_ready t r f w u measured quiet e i ready unplaced high fits after v turned left same e2 j ne ready2) es is apart others)
    (λ d m. mild d (later e d es m)) (omega (arith, unplaced)) high (omega (arith, n, numbers)) rest in
    record {
      left = more.left;
      measured = more.measured;
      quiet = more.quiet;
      few = let last = more.few in omega (arith, few, come, fewer, last, k);
      stays = λ d at one beside. more.stays d (leaf_stays t r f w u measured quiet e i ready unplaced high fits after v turned d at one (beside e (here e es) f.next)) one (λ d2 m. beside d2 (later e d2 es m));
      goes_on = λ d at one.
          let (y, there, wide) = leaf_goes_on t r f w u measured quiet e i ready unplaced high fits after v turned (first.goes f.next) d at one in
          let (z, in_end, wider) = more.goes_on y there (wide.level ∙ one) in
          (z, in_end, wider_still d y z wide wider);
      of_cells = λ cells from low was. more.of_cells cells from (omega (arith, low)) (now_of_cells t r f w u measured quiet e i ready unplaced high fits after v turned cells from low was);
    }

-- the numbers that are left
pub left_over : (es : List TwigTurn) (f : Fresh) → ((behind_all es f).next ≡ f.next + numbers_for es) × ((behind_all es f).end ≡ f.end)
left_over [] f = (omega arith, refl)
left_over (e ∷ es) f =
    let n = sum_by-cons (λ (d : TwigTurn). d.blocks + (d.leaves + 64)) e es in
    let (next, end) = left_over es (behind e f) in
    (omega (arith, n, next), end)
