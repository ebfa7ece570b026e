-- The change of a body that comes to extents, step by step: what each step needs, and what it leaves for the next one.
use Rattle.std.proofs.Common.{◌≡◌, ◌≢◌, ◌⊎◌, inl, inr, ℕ, ◌+◌, ◌*◌, ◌^◌, ◌<◌, ◌≤◌, Bool, true, false, List, [], ◌∷◌, length, refl, sym, ap, ◌∙◌, arith, subst}
use Rattle.std.specs.Prelude.{◌||◌, Contains, None, Option, Some, if◌then◌else◌, nat_le, nat_lt, not, option_map}
use Rattle.std.specs.List.{list_any}
use Rattle.std.proofs.lemmas.Bool.{le-leb, lt-ltb}
use Rattle.std.proofs.lemmas.List.{length-append}
use Rattle.std.proofs.lemmas.List.Elements.{Contains-append_cases, Contains-append_left, Contains-append_right}
use Rattle.std.proofs.lemmas.Option.{none-some}
use Rattle.r4_base.specs.Key.{rank}
use Rattle.r4_base.specs.Tree.{Root, Store}
use Rattle.r4_base.specs.Value.{Value}
use Rattle.r4_content.specs.Edited.{Edits, changed, is_in}
use Rattle.r4_content.specs.Seen.{Rises}
use Rattle.r4_extent_shrink.specs.r4_extent_growth.r4_build.Building.{LiesInLeaf, set_by}
use Rattle.r4_extent_shrink.specs.r4_extent_growth.r4_build.Making.{AreMadeIn, CanMake, IsOf, MakeAtMost, changed_among}
use Rattle.r4_extent_shrink.specs.r4_extent_growth.r4_extent_build.Growing.{end_after}
use Rattle.r4_extent_shrink.specs.r4_extent_growth.r4_extent_build.Looping.{AreTurned}
use Rattle.r4_extent_shrink.specs.r4_extent_growth.r4_extent_build.r4_twig_turns.Turning.{behind}
use Rattle.r4_extent_shrink.specs.r4_extent_growth.r4_extent_change.Beside.{without_bytes}
use Rattle.r4_extent_shrink.specs.r4_extent_growth.r4_extent_change.Wider.{GoesOn}
use Rattle.r4_extent_shrink.specs.r4_extent_growth.r4_measure.Budget.{Budget, most_from}
use Rattle.r4_extent_shrink.specs.r4_extent_growth.r4_measure.Measured.{IsMeasured}
use Rattle.r4_extent_shrink.specs.r4_extent_growth.r4_measure.r4_cell.Patch.{HaveNames}
use Rattle.r4_extent_shrink.specs.r4_extent_growth.r4_measure.r4_cell.Seen.{CellSeen, node_of}
use Rattle.r4_extent_shrink.specs.r4_extent_growth.r4_measure.r4_cell.declared.change.Fresh.{Fresh}
use Rattle.r4_extent_shrink.specs.r4_extent_growth.r4_measure.r4_edit.Extents.{given_cells}
use Rattle.r4_extent_shrink.specs.r4_extent_growth.r4_measure.r4_edit.LeafParts.{HasLeft, HasRight}
use Rattle.r4_extent_shrink.specs.r4_extent_growth.r4_measure.r4_leaf.Units.{leaf_bytes}
use Rattle.r4_extent_shrink.specs.r4_extent_growth.r4_measure.r4_patch.Effect.{HasEffect, Placed, either, later as value_later}
use Rattle.r4_extent_shrink.specs.r4_extent_growth.r4_measure.r4_patch.Following.{is_among, without}
use Rattle.r4_extent_shrink.specs.r4_extent_growth.r4_measure.r4_patch.Joining.{ids_of, patch_of_change}
use Rattle.r4_extent_shrink.specs.r4_extent_growth.r4_measure.r4_reach.Needs.{is_met, units_after}
use Rattle.r4_extent_shrink.specs.r4_extent_growth.r4_measure.r4_reach.Touched.{Body, first_byte}
use Rattle.r4_extent_shrink.specs.r4_extent_growth.r4_measure.r4_work.Remaking.{Changes}
use Rattle.r4_extent_shrink.specs.r4_extent_growth.r4_measure.r4_work.Working.{HasNoEffect, IsStart, root_of, standing}
use Rattle.r4_extent_shrink.specs.r4_extent_growth.r4_measure.r4_work.declared.working.WorkingSet.{WorkingSet}
use Rattle.r4_extent_shrink.proofs.r4_extent_growth.r4_extent_change.AtStart.{one_named, standing_in, start_few, start_measured}
use Rattle.r4_extent_shrink.proofs.r4_extent_growth.r4_extent_change.Chosen.{picked_apart}
use Rattle.r4_extent_shrink.proofs.r4_extent_growth.r4_extent_change.LeafTurns.{can_make, few_made}
use Rattle.r4_extent_shrink.proofs.r4_extent_growth.r4_extent_change.r4_build.Changing.{same_effect}
use Rattle.r4_extent_shrink.proofs.r4_extent_growth.r4_extent_change.r4_build.Made.{all_keys, few_new, start_of, units_of_leaf}
use Rattle.r4_extent_shrink.proofs.r4_extent_growth.r4_extent_change.r4_build.MetKeys.{key_met, met_key}
use Rattle.r4_extent_shrink.proofs.r4_extent_growth.r4_extent_change.r4_extent_build.r4_extent_demands.PutsInto.{any_there}
use Rattle.r4_extent_shrink.proofs.r4_extent_growth.r4_measure.Loop.{of_id}
use Rattle.r4_extent_shrink.proofs.r4_extent_growth.r4_measure.r4_edit.HalvedLeaf.{lent_stands}
use Rattle.r4_extent_shrink.proofs.r4_extent_growth.r4_measure.r4_edit.OverLeaf.{first_there}
use Rattle.r4_extent_shrink.proofs.r4_extent_growth.r4_measure.r4_patch.Followed.{among_cell, among_or_not, cell_among, in_without, to_without}
use Rattle.r4_extent_shrink.proofs.r4_extent_growth.r4_measure.r4_patch.Members.{cases, distinct, distinct_append, have_names, here, none}
use Rattle.r4_extent_shrink.proofs.r4_extent_growth.r4_measure.r4_path.Rising.{follow_within, hi_is, lo_is}
use Rattle.r4_extent_shrink.proofs.r4_extent_growth.r4_measure.r4_work.InPlace.{standing_is}
use Rattle.r4_extent_turn.specs.TurnedOut.{LeavesLeaves}
use Rattle.r4_extent_turn.specs.Turning.{AreKept, Kept, Turn, blocks_turned, in_turned, kept_cells, last_of, leaves_of, numbered, right_number, turning_turn, with_id}
use Rattle.r4_extent_turn.specs.Turning.{turned_values as extent_values}
use Rattle.r4_extent_turn.specs.TurningIn.{CanTurnOut, MayTurnOut, turns_to}
use Rattle.r4_extent_turn.proofs.Bodies.{some_keys}
use Rattle.r4_extent_turn.proofs.Comes.{right_low}
use Rattle.r4_extent_turn.proofs.LeftSet.{turn_leaves}
use Rattle.r4_extent_turn.proofs.Keeps.{few_kept}
use Rattle.r4_extent_turn.proofs.ReadyTurn.{can_turn_out}
use Rattle.r4_extent_turn.proofs.SetTurned.{set_turned}
use Rattle.r4_extent_turned.specs.Whole.{CanTurn, cells_after, kept_most, most_turned, turned_keys, turned_values}
use Rattle.r4_extent_turned.proofs.KeptRoom.{kept_needs}

-- ---- counts

few_without : (ids : List ℕ) (cells : List CellSeen) → length (without ids cells) ≤ length cells
few_without ids [] = omega arith
few_without ids (c ∷ cs) = by_test (is_among ids c.id) (few_without ids cs)
  where
    by_test : (v : Bool) → length (without ids cs) ≤ length cs → length (if not v then c ∷ without ids cs else without ids cs) ≤ length (c ∷ cs)
    by_test true h = omega (arith, h)
    by_test false h = omega (arith, h)

one_if : (v : Bool) → v ≡ true → 1 ≤ (if v then 1 else 0)
one_if true h = omega arith
one_if false h = absurd cc

-- no more stays of the leaves than is counted
pub kept_few : (b : Body) (x : Turn) (s : Kept) → AreKept b x s → length (kept_cells s) ≤ kept_most b x
kept_few b x s k =
    let n = length-append (given_cells s.left) (given_cells s.right) in
    let l = by_left s.left k.left in
    let r = by_right s.right k.right in
    omega (arith, n, l, r)
  where
    by_left : (o : Option CellSeen) → HasLeft x.leaf k.from o → length (given_cells o) ≤ (if nat_lt (rank x.leaf.lo) (first_byte b) then 1 else 0)
    by_left None left = omega arith
    by_left (Some l) left = let lt = left.0 in let is = k.from_is in one_if (nat_lt (rank x.leaf.lo) (first_byte b)) (lt-ltb (rank x.leaf.lo) (first_byte b) (omega (arith, lt, is)))

    by_right : (o : Option CellSeen) → HasRight (last_of x) k.to k.right_id o → length (given_cells o) ≤ (if list_any (λ u. nat_le (end_after b) u.0) (node_of (last_of x)).units then 1 else 0)
    by_right None right = omega arith
    by_right (Some l) right =
        let there = first_there (rank k.to) (node_of (last_of x)).units (rank l.lo) right.from in
        let low = there.2 in
        let is = k.to_is in
        one_if (list_any (λ u. nat_le (end_after b) u.0) (node_of (last_of x)).units)
        (any_there (λ (u : ℕ × Value). nat_le (end_after b) u.0) (node_of (last_of x)).units (rank l.lo, there.0) there.1 (le-leb (end_after b) (rank l.lo) (omega (arith, low, is))))

-- ---- both kinds of steps, as one effect

keys_again : (one two all : Bool) → all ≡ two → (all || one) ≡ ((false || one) || two)
keys_again one two true h = by_two one two h
  where
    by_two : (one two : Bool) → true ≡ two → true ≡ ((false || one) || two)
    by_two true two h = refl
    by_two false two h = h
keys_again one two false h = by_two one two h
  where
    by_two : (one two : Bool) → false ≡ two → one ≡ ((false || one) || two)
    by_two true true h = refl
    by_two true false h = refl
    by_two false true h = h
    by_two false false h = refl

values_again : (one two all : Bool) (x y : Option (Placed Value)) → all ≡ two → ((false || one) || two) ≡ true → (if two then x else (if one then y else None)) ≡ (if all then x else y)
values_again one true true x y h on = refl
values_again true false false x y h on = refl
values_again false false false x y h on = absurd cc
values_again one true false x y h on = absurd cc
values_again one false true x y h on = absurd cc

module _ (b : Body) (e : Edits) (u : Budget) (t : Store Value) (r : Root) (f : Fresh) (cells : List CellSeen) (x : Turn) (is : CanTurn b e u t r f cells x) (w0 : WorkingSet) (start : IsStart cells w0) where
  abbrev beside : Edits
  beside = without_bytes e

  measured : IsMeasured t r f w0 u
  measured = start_measured cells w0 start t r f is.cells_in u is.measured

  stand : (c : CellSeen) → Contains cells c → Contains (standing w0) c
  stand = standing_in cells w0 start

  -- ---- the twig's turn

  pub may_turn : MayTurnOut b is.first e t r x f w0 u
  may_turn = record {
    turning = is.turning;
    measured = measured;
    quiet = is.quiet;
    turn = record {
      stands = record { twig = stand x.twig is.turn.twig; leaves = λ c at. stand c (is.turn.leaves c at) };
      pieces = is.turn.pieces;
      level = is.turn.level;
      beside = is.turn.beside;
      named = is.turn.named;
      around = is.turn.around;
      short = is.turn.short;
      no_holes = is.turn.no_holes;
    };
    room = is.bytes;
    come = is.come;
    unplaced = is.unplaced;
    numbers = let n = is.numbers in omega (arith, n);
  }

  pub can_out : CanTurnOut b e t r x f w0
  can_out = can_turn_out b is.first e t r x f w0 u may_turn

  module _ (s : Kept) (k : AreKept b x s) (w1 : WorkingSet) (turned : AreTurned t r (turns_to b e x s) f w0 w1) where
    abbrev left : Fresh
    left = behind (turning_turn b e x s) f

    abbrev kept : List CellSeen
    kept = kept_cells (numbered x (f.next + blocks_turned b e) s)

    abbrev after : List CellSeen
    after = cells_after x kept cells

    abbrev first_ids : List ℕ
    first_ids = ids_of (leaves_of x)

    leaves : LeavesLeaves b e u t r f w0 w1 x s
    leaves = turn_leaves b is.first e t r x s f w0 w1 u may_turn k turned

    -- ---- the cells whose edits follow

    in_after : (c : CellSeen) → Contains after c → (Contains cells c × (is_among first_ids c.id ≡ false)) ⊎ Contains kept c
    in_after c at = elim (Contains-append_cases (without first_ids cells) kept c at) [
      | inl m ↦ inl (in_without first_ids cells c m)
      | inr m ↦ inr m
    ]

    enough_taken : left.next + 64 * (length cells + 2) ≤ left.end
    enough_taken = let n = is.numbers in omega (arith, n)

    names : HaveNames after
    names = have_names after (distinct_append (without first_ids cells) kept (picked_apart (λ c. not (is_among first_ids c.id)) cells (distinct cells is.names)) (distinct kept leaves.names) apart)
      where
        apart : (c d : CellSeen) → Contains (without first_ids cells) c → Contains kept d → c.id ≢ d.id
        apart c d mc md same =
            let there = standing_is t r f w0 measured.working c (stand c (in_without first_ids cells c mc).0) in
            let n = enough_taken in
            elim (leaves.taken d md) [
              | inl leaf ↦
                  let (y, in_leaves, id) = of_id (leaves_of x) c.id (subst (Contains first_ids) (sym same) leaf) in
                  let bad : true ≡ false = sym (among_cell (leaves_of x) c.id y in_leaves id) ∙ (in_without first_ids cells c mc).1 in cc
              | inr own ↦ none-some (node_of c) (sym (measured.working.free.cells c.id (omega (arith, own, same)) (omega (arith, own, same, n))) ∙ there)
            ]

    goes_on : (c : CellSeen) → Contains after c → c.level ≡ 1 → GoesOn w1 c
    goes_on c at one = (c, stays, record { id = refl; level = refl; lo = refl; hi = omega arith; block = refl })
      where
        stays : Contains (standing w1) c
        stays = elim (in_after c at) [
          | inl old ↦ leaves.leaves c (stand c old.0) one (λ m.
              let (y, in_leaves, id) = of_id (leaves_of x) c.id m in
              let bad : true ≡ false = sym (among_cell (leaves_of x) c.id y in_leaves id) ∙ old.1 in cc)
          | inr new ↦ (leaves.kept c new).0
        ]

    -- ---- they have room

    abbrev leaf_in : Contains cells x.leaf
    leaf_in = is.turn.leaves x.leaf (here x.leaf x.more)

    leaf_one : x.leaf.level ≡ 1
    leaf_one = is.turn.beside.0

    leaf_rises : rank x.leaf.lo < rank x.leaf.hi → Rises (node_of x.leaf).units
    leaf_rises some = let sound = is.sound x.leaf leaf_in leaf_one in (units_of_leaf x.leaf leaf_one (lent_stands x.leaf x.leaf refl leaf_one sound.whole sound.accepted) some).rises

    room_left : (o : Option CellSeen) → HasLeft x.leaf k.from o → (c : CellSeen) → Contains (given_cells o) c
        → is_met (changed beside) (rank c.lo) (rank c.hi) ≡ true → leaf_bytes (units_after None beside (node_of c)) ≤ 4068
    room_left None h c at met = absurd (none c at)
    room_left (Some l) h c at met = elim (cases l c [] at) [
      | inr nothing ↦ absurd (none c nothing)
      | inl same ↦
          let lo : rank c.lo ≡ rank x.leaf.lo = ap (λ (z : CellSeen). rank z.lo) same ∙ ap rank h.1.from in
          let hi : rank c.hi ≡ rank k.from = ap (λ (z : CellSeen). rank z.hi) same ∙ ap rank h.1.to in
          let units = ap (λ (z : CellSeen). (node_of z).units) same ∙ h.1.units in
          let (j, on, low, high) = met_key (changed beside) (rank c.lo) (rank c.hi) met in
          let from = k.from_is in
          let begins = is.turn.around.begins in
          let own_lo = lo_is c in
          let own_hi = hi_is c in
          let leaf_lo = lo_is x.leaf in
          let leaf_hi = hi_is x.leaf in
          let all = is.room x.leaf leaf_in leaf_one (key_met (changed beside) (rank x.leaf.lo) (rank x.leaf.hi) j on (omega (arith, low, lo)) (omega (arith, high, hi, from, begins))) in
          let less = kept_needs beside (rank k.from) x.leaf c (leaf_rises (omega (arith, low, lo, high, hi, from, begins))) (own_lo ∙ (lo ∙ sym leaf_lo)) (own_hi ∙ hi) (omega (arith, leaf_hi, from, begins)) units in
          omega (arith, all, less)
    ]

    -- nothing changes in what stays of the last one
    none_right : (m : ℕ) (o : Option CellSeen) → s.right ≡ o → (c : CellSeen) → Contains (given_cells (option_map (with_id m) o)) c → is_met (changed beside) (rank c.lo) (rank c.hi) ≡ true → ⊥
    none_right m None is_none c at met = none c at
    none_right m (Some l) is_some c at met = elim (cases (with_id m l) c [] at) [
      | inr nothing ↦ none c nothing
      | inl same ↦
          let lo : rank c.lo ≡ rank l.lo = ap (λ (z : CellSeen). rank z.lo) same in
          let behind_it = (right_low b x can_out.turn s k l is_some).0 in
          let (j, on, low, high) = met_key (changed beside) (rank c.lo) (rank c.hi) met in
          let before = is.before j on in
          let some = some_keys b is.first is.turning in
          omega (arith, lo, behind_it, low, before, some)
    ]

    room : (c : CellSeen) → Contains after c → c.level ≡ 1 → is_met (changed beside) (rank c.lo) (rank c.hi) ≡ true → leaf_bytes (units_after None beside (node_of c)) ≤ 4068
    room c at one met = elim (in_after c at) [
      | inl old ↦ is.room c old.0 one met
      | inr new ↦ elim (Contains-append_cases (given_cells s.left) (given_cells (numbered x (f.next + blocks_turned b e) s).right) c new) [
        | inl a ↦ room_left s.left k.left c a met
        | inr a ↦ absurd (none_right (right_number x (f.next + blocks_turned b e)) s.right refl c a met)
      ]
    ]

    -- ---- what changes lies in them

    in_left : (o : Option CellSeen) → HasLeft x.leaf k.from o → (j : ℕ) → rank x.leaf.lo ≤ j → j < first_byte b
        → (c : CellSeen) × Contains (given_cells o) c × (c.level ≡ 1) × ((rank c.lo ≤ j) × (j < rank c.hi))
    in_left None h j low high = let from = k.from_is in absurd (omega (arith, h, from, low, high))
    in_left (Some l) h j low high =
        let lo = ap rank h.1.from in
        let hi = ap rank h.1.to in
        let from = k.from_is in
        (l, here l [], h.1.level_is, (omega (arith, lo, low), omega (arith, hi, from, high)))

    lie : (j : ℕ) → is_in (changed beside) j ≡ true → LiesInLeaf after j
    lie j on =
        let (c, at, one, has) = is.lie j on in
        elim (among_or_not first_ids c.id) [
          | inr off ↦ (c, Contains-append_left (without first_ids cells) kept c (to_without first_ids cells c at off), one, has)
          | inl among ↦
              let (y, m, id) = cell_among (leaves_of x) c.id among in
              let same : c ≡ y = one_named cells (distinct cells is.names) c y at (is.turn.leaves y m) (sym id) in
              let lo : rank c.lo ≡ rank y.lo = ap (λ (z : CellSeen). rank z.lo) same in
              elim (cases x.leaf y x.more m) [
                | inr more ↦
                    let w = follow_within 1 (rank x.leaf.hi) (rank (last_of x).hi) x.more y is.turn.beside.3 more in
                    let from = w.from in
                    let begins = is.turn.around.begins in
                    let before = is.before j on in
                    absurd (omega (arith, has, lo, from, begins, before))
                | inl first ↦
                    let leaf_lo : rank y.lo ≡ rank x.leaf.lo = ap (λ (z : CellSeen). rank z.lo) first in
                    let (d, in_kept, level, key) = in_left s.left k.left j (omega (arith, has, lo, leaf_lo)) (is.before j on) in (
                      d,
                      Contains-append_right (without first_ids cells) kept d
                          (Contains-append_left (given_cells s.left) (given_cells (numbered x (f.next + blocks_turned b e) s).right) d in_kept),
                      level,
                      key,
                    )
              ]
        ]

    -- ---- the edits of leaves

    pub left_low : 2 ^ 63 ≤ left.next
    left_low = let low = is.unplaced.0 in omega (arith, low)

    left_high : left.end < 2 ^ 64
    left_high = is.unplaced.1

    few_after : length after ≤ length cells + 2
    few_after =
        let n = length-append (without first_ids cells) kept in
        let m = few_without first_ids cells in
        let l = few_kept (numbered x (f.next + blocks_turned b e) s) in
        omega (arith, n, m, l)

    left_enough : left.next + 64 * length after ≤ left.end
    left_enough = let n = enough_taken in let m = few_after in omega (arith, n, m)

    pub left_ends : left.next ≤ left.end
    left_ends = let n = left_enough in omega (arith, n)

    pub can_leaves : CanMake t r beside after left w1
    can_leaves = can_make beside t r left w1 leaves.left leaves.measured after names goes_on room left_low left_high left_enough

    abbrev most : ℕ
    most = most_from leaves.left (root_of w1 r) (standing w1)

    few_leaves : MakeAtMost most t r beside after left w1
    few_leaves = few_made beside t r left w1 leaves.left leaves.measured after names goes_on room left_low left_high left_enough most (omega arith)

    of_those : IsOf cells f.next left w1
    of_those = leaves.stays cells f.next (omega arith) (start_of cells w0 f start)

    twigs_change : Changes w0 w1 (in_turned b) (extent_values b e x)
    twigs_change = set_turned b e t r x s f w0 w1 can_out k turned

    module _ (g : Fresh) (now : WorkingSet) (made : AreMadeIn t r beside after left g w1 now) where
      pub few_turned : length now.change.new + length (leaves_of x) ≤ most_turned b e u r cells x
      few_turned =
          let n = few_new most t r g now made.working (made.few most few_leaves) in
          let h = leaves.few in
          let a = start_few cells w0 start t r f is.cells_in u is.measured in
          let m = kept_few b x s k in
          omega (arith, n, h, a, m)

      pub of_cells : IsOf cells f.next g now
      of_cells = made.stays cells f.next (omega arith) of_those

      pub effect_is : HasNoEffect w0 → HasEffect (patch_of_change now.change) (turned_keys b e) (turned_values b e x)
      effect_is nothing_done =
          let nothing : ℕ → Bool = λ j. false in
          let no_values : ℕ → Option (Placed Value) = λ j. None in
          let one : ℕ → Bool = in_turned b in
          let two : ℕ → Bool = changed_among beside after in
          let all = made.changes (either nothing one) (value_later one (extent_values b e x) no_values) (twigs_change nothing no_values nothing_done) in
          same_effect (patch_of_change now.change) (either (either nothing one) two) (turned_keys b e) (value_later two (set_by beside) (value_later one (extent_values b e x) no_values)) (turned_values b e x) all
          (λ j. keys_again (one j) (two j) (is_in (changed beside) j) (all_keys beside after lie j))
          (λ j on. values_again (one j) (two j) (is_in (changed beside) j) (set_by beside j) (extent_values b e x j) (all_keys beside after lie j) on)
