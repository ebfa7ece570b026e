-- Twigs of a body that loses blocks have their turns, one after the other.
use Rattle.std.proofs.Common.{◌≡◌, inl, inr, ℕ, ◌+◌, ◌≤◌, List, [], ◌∷◌, ◌++◌, length, map, refl, sym, ap, subst, ◌∙◌, arith}
use Rattle.std.specs.Prelude.{Contains, None, Option, Some}
use Rattle.std.proofs.lemmas.List.{length-append}
use Rattle.std.proofs.lemmas.List.Elements.{Contains-append_cases}
use Rattle.std.proofs.lemmas.List.Sums.{sum_by-cons}
use Rattle.r4_base.specs.Key.{rank}
use Rattle.r4_base.specs.Tree.{Root, Store}
use Rattle.r4_base.specs.Value.{Value}
use Rattle.r4_base.specs.declared.key.Key.{Key}
use Rattle.r4_build.specs.Making.{IsOf}
use Rattle.r4_content.specs.Edited.{Edits}
use Rattle.r4_extent_loss.specs.r4_extent_build.Looping.{AreTurned, behind_all}
use Rattle.r4_extent_loss.specs.r4_extent_build.r4_twig_turns.Turning.{TwigTurn}
use Rattle.r4_extent_loss.proofs.AllReady.{ready, twigs}
use Rattle.r4_extent_counts.specs.Coming.{leaf_taking_up}
use Rattle.r4_extent_loss.proofs.InParts.{loss_of_part}
use Rattle.r4_extent_loss.proofs.LosingTurns.{as_many, come_is, each, end, end_low}
use Rattle.r4_extent_loss.proofs.LossCounts.{leaves_are}
use Rattle.r4_extent_loss.proofs.Taken.{is_taken}
use Rattle.r4_extent_loss.specs.Losing.{IsLeft, IsLosing, IsLossOf, Loss, leaf_at, losing_turn, numbers_taken, taken_block, taken_from, taken_id}
use Rattle.r4_extent_loss.specs.LosingEach.{MayGo, losing_turns}
use Rattle.r4_build.proofs.r4_measure.r4_patch.Members.{cases, here, later, none}
use Rattle.r4_build.specs.r4_measure.Budget.{Budget}
use Rattle.r4_build.specs.r4_measure.r4_cell.Seen.{CellSeen, node_of}
use Rattle.r4_build.specs.r4_measure.r4_cell.declared.change.Fresh.{Fresh}
use Rattle.r4_build.specs.r4_measure.r4_edit.Extents.{given_cells}
use Rattle.r4_build.specs.r4_measure.r4_patch.Joining.{ids_of}
use Rattle.r4_build.specs.r4_measure.r4_path.Steps.{name_of}
use Rattle.r4_build.specs.r4_measure.r4_reach.Needs.{pieces_after}
use Rattle.r4_build.specs.r4_measure.r4_reach.Touched.{Body}
use Rattle.r4_build.specs.r4_measure.r4_work.declared.working.WorkingSet.{WorkingSet}
use Rattle.r4_extent_change.specs.Losing.{LeavesWider, leaves_coming}
use Rattle.r4_extent_change.specs.Wider.{IsWider}
use Rattle.r4_extent_change.proofs.AllTurned.{AreDone, IsMild, all_done, coming}

-- only leaves come
lost_coming : (b : Body) (first : Key) (e : Edits) → IsLosing b first e → (xs : List Loss) → ((x : Loss) → Contains xs x → IsLossOf b x)
    → coming (losing_turns b e xs) ≡ leaves_coming b (map (λ (x : Loss). x.twig) xs)
lost_coming b first e g [] each = refl
lost_coming b first e g (x ∷ xs) each =
    let n = sum_by-cons (λ (d : TwigTurn). d.blocks + d.leaves) (losing_turn b e x) (losing_turns b e xs) in
    let k = sum_by-cons (λ (c : CellSeen). leaf_taking_up b (node_of c)) x.twig (map (λ (y : Loss). y.twig) xs) in
    let one : (losing_turn b e x).leaves ≡ leaf_taking_up b (node_of x.twig) = leaves_are b first e g x (each x (here x xs)) in
    let h = lost_coming b first e g xs (λ y m. each y (later x y xs m)) in
    omega (arith, n, k, one, h)

turn_among : (b : Body) (e : Edits) (xs : List Loss) (d : TwigTurn) → Contains (losing_turns b e xs) d → (x : Loss) × Contains xs x × (d ≡ losing_turn b e x)
turn_among b e [] d at = absurd (none d at)
turn_among b e (x ∷ xs) d at = elim (cases (losing_turn b e x) d (losing_turns b e xs) at) [
  | inl is ↦ (x, here x xs, is)
  | inr more ↦ let (y, m, is) = turn_among b e xs d more in (y, later x y xs m, is)
]

module _ (b : Body) (first : Key) (e : Edits) (g : IsLosing b first e) (x : Loss) (c : IsLossOf b x) where
  abbrev old : List CellSeen
  old = x.blocks ++ given_cells x.leaf

  abbrev come : (n : ℕ) → List CellSeen
  come n = ((losing_turn b e x).beside n).below.new

  -- no more leaves come than go and are counted
  few : (n : ℕ) → length (come n) ≤ length old + (losing_turn b e x).leaves
  few n = by_leaf x.leaf
    where
      many : length (come n) ≤ 1
      many = (as_many b x c first e g n).1

      by_leaf : (o : Option CellSeen) → length (come n) ≤ length (x.blocks ++ given_cells o) + numbers_taken (record x { leaf = o }) (leaf_at (taken_from b x) 0 x.twig.hi (taken_block x) (pieces_after (Some b) e (node_of x.twig) []))
      by_leaf None = let m = as_many b x c first e g n in omega (arith, m)
      by_leaf (Some l) = let m = many in let a = length-append x.blocks (l ∷ []) in omega (arith, m, a)

  -- the leaf left of what goes goes on
  goes : (n : ℕ) (z : CellSeen) → Contains old z → z.level ≡ 1 → (y : CellSeen) × Contains (come n) y × IsWider z y
  goes n z at one = elim (Contains-append_cases x.blocks (given_cells x.leaf) z at) [
    | inl block ↦ let zero_is = ((c.goes (name_of z)).0 (z, block, refl)).1.0 in absurd (omega (arith, zero_is, one))
    | inr leaf ↦ by_leaf x.leaf refl c.left leaf
  ]
    where
      wider : (l : CellSeen) → x.leaf ≡ Some l → IsLeft b x.twig (Some l) → (y : CellSeen) × Contains (come n) y × IsWider l y
      wider l is left =
          let (y, m) = (is_taken b x c).goes_on l is (taken_id x n) (end b x c) (taken_block x) in
          let t = each b x c (taken_id x n) y m in
          let ends : rank y.hi ≡ rank (end b x c) = ap (λ (k : Key). rank k) t.ends in (
            y,
            subst (λ ds. Contains ds y) (sym (come_is b x c first e g n)) m,
            record {
              id = t.number ∙ ap (λ (o : Option CellSeen). taken_id (record x { leaf = o }) n) is;
              level = t.level ∙ sym left.level;
              lo = (is_taken b x c).lead l is (taken_id x n) (end b x c) (taken_block x) y m;
              hi = let h = end_low b x c in let s = c.some in let k = left.ends in omega (arith, h, s, k, ends);
              block = t.bytes ∙ ap (λ (o : Option CellSeen). taken_block (record x { leaf = o })) is;
            },
          )

      by_leaf : (o : Option CellSeen) → x.leaf ≡ o → IsLeft b x.twig o → Contains (given_cells o) z → (y : CellSeen) × Contains (come n) y × IsWider z y
      by_leaf None is left m = absurd (none z m)
      by_leaf (Some l) is left m = elim (cases l z [] m) [
        | inl same ↦ let (y, new, wide) = wider l is left in (y, new, subst (λ (d : CellSeen). IsWider d y) (sym same) wide)
        | inr nil ↦ absurd (none z nil)
      ]

  pub mild : IsMild (losing_turn b e x)
  mild = record { few = few; goes = goes }

module _ (b : Body) (first : Key) (e : Edits) (u : Budget) (t : Store Value) (r : Root) (f : Fresh) (w now : WorkingSet) (xs : List Loss) (m : MayGo b first e t r xs f w u) (turned : AreTurned t r (losing_turns b e xs) f w now) where
  done : AreDone t r u f w now (losing_turns b e xs)
  done = all_done t r u f w now (losing_turns b e xs) (ids_of (twigs b first e t r xs f w u m)) m.measured m.quiet (ready b first e t r xs f w u m)
      (λ d at. let (x, in_xs, same) = turn_among b e xs d at in subst IsMild (sym same) (mild b first e m.losing x (loss_of_part t r f w m.measured.working b x (m.each x in_xs))))
      m.unplaced.0 m.unplaced.1 m.numbers turned

  pub leaves_wider : LeavesWider b e u t r f w now xs
  leaves_wider =
      let is_done = done in
      record {
        left = is_done.left;
        measured = is_done.measured;
        quiet = is_done.quiet;
        few = let n = is_done.few in let k = lost_coming b first e m.losing xs (λ x at. loss_of_part t r f w m.measured.working b x (m.each x at)) in omega (arith, n, k);
        leaves = is_done.goes_on;
      }

  pub still_of_cells : (cells : List CellSeen) (from : ℕ) → from ≤ f.next → IsOf cells from f w → IsOf cells from (behind_all (losing_turns b e xs) f) now
  still_of_cells = done.of_cells
