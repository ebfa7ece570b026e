-- What may be turned of cells, as the tests of them say.
use Rattle.std.proofs.Common.{◌≡◌, inl, inr, ℕ, ◌+◌, ◌*◌, ◌-◌, ◌/◌, ◌<◌, ◌≤◌, Bool, true, false, List, [], ◌∷◌, length, refl, sym, ◌∙◌, arith}
use Rattle.std.specs.Prelude.{◌==◌, ◌&&◌, Contains, Some, if◌then◌else◌, nat_le, nat_lt, not}
use Rattle.std.specs.List.{list_all}
use Rattle.std.proofs.lemmas.Bool.{and_parts, cases_lt, eq-eqb, eqb-true, leb-true, ltb-true}
use Rattle.std.proofs.lemmas.List.{length-append}
use Rattle.r4_base.specs.Key.{rank}
use Rattle.r4_base.specs.Value.{Value}
use Rattle.r4_base.specs.declared.key.Key.{Key}
use Rattle.r4_content.specs.Bodies.{larger}
use Rattle.r4_content.specs.Edited.{Edits, changed, is_in}
use Rattle.r4_extent_shrink.specs.r4_extent_growth.Lying.{has_room, have_room, lie_in_leaves}
use Rattle.r4_extent_shrink.specs.r4_extent_growth.r4_extent_build.Growing.{end_after}
use Rattle.r4_extent_shrink.specs.r4_extent_growth.r4_extent_build.Numbering.{coming_count, is_coming}
use Rattle.r4_extent_shrink.specs.r4_extent_growth.r4_extent_build.Setting.{is_hole_of}
use Rattle.r4_extent_shrink.specs.r4_extent_growth.r4_extent_build.r4_extent_edit.Turning.{AreAround, last_leaf}
use Rattle.r4_extent_shrink.specs.r4_extent_growth.r4_extent_change.Beside.{without_bytes}
use Rattle.r4_extent_shrink.specs.r4_extent_growth.r4_measure.r4_branch.Pieces.{twig_bytes}
use Rattle.r4_extent_shrink.specs.r4_extent_growth.r4_measure.r4_branch.declared.piece.TwigPiece.{TwigPiece}
use Rattle.r4_extent_shrink.specs.r4_extent_growth.r4_measure.r4_cell.Seen.{CellSeen, node_of}
use Rattle.r4_extent_shrink.specs.r4_extent_growth.r4_measure.r4_cell.declared.change.Fresh.{Fresh}
use Rattle.r4_extent_shrink.specs.r4_extent_growth.r4_measure.r4_leaf.Units.{is_between}
use Rattle.r4_extent_shrink.specs.r4_extent_growth.r4_measure.r4_path.Sharing.{IsSound}
use Rattle.r4_extent_shrink.specs.r4_extent_growth.r4_measure.r4_path.Steps.{Follow}
use Rattle.r4_extent_shrink.specs.r4_extent_growth.r4_measure.r4_path.TwigPieces.{ArePiecesOf, twig_pieces}
use Rattle.r4_extent_shrink.specs.r4_extent_growth.r4_measure.r4_reach.Needs.{is_met, pieces_after}
use Rattle.r4_extent_shrink.specs.r4_extent_growth.r4_measure.r4_reach.Touched.{Body, first_byte}
use Rattle.r4_extent_shrink.proofs.r4_extent_growth.Found.{leaf_room, lies_found}
use Rattle.r4_extent_shrink.proofs.r4_extent_growth.Turns.{each, off, second}
use Rattle.r4_extent_shrink.proofs.r4_extent_growth.r4_extent_change.r4_build.MetKeys.{key_met}
use Rattle.r4_extent_shrink.proofs.r4_extent_growth.r4_extent_loss.r4_extent_edit.ExtentEffect.{is_on}
use Rattle.r4_extent_shrink.proofs.r4_extent_growth.r4_measure.r4_work.UnitMembers.{between}
use Rattle.r4_extent_turn.specs.Turning.{IsTurningBody, Turn, blocks_turned, in_turned, last_of, leaves_of, told_extent}
use Rattle.r4_extent_turn.specs.Asked.{without_turned}
use Rattle.r4_extent_turn.proofs.NoPointers.{told_among}
use Rattle.r4_extent_turned.specs.MayTurn.{MayTurnWhole}
use Rattle.r4_extent_turned.specs.Suiting.{changes_before, has_leaves, has_numbers, is_clear, leaves_suit, lie_around, lie_beside, pieces_turned, right_pointer, twig_suits}

on_if : (v : Bool) → not v ≡ true → v ≡ false
on_if true h = absurd cc
on_if false h = refl

-- ---- leaves

pub row : (k : ℕ) (c : CellSeen) (cs : List CellSeen) → lie_beside k (c ∷ cs) ≡ true → Follow 1 k (rank (last_leaf c cs).hi) (c ∷ cs)
row k c [] on =
    let (one, rest) = and_parts (c.level == 1) ((rank c.lo == k) && (nat_lt k (rank c.hi) && true)) on in
    let (at, last) = and_parts (rank c.lo == k) (nat_lt k (rank c.hi) && true) rest in
    let (some, end) = and_parts (nat_lt k (rank c.hi)) true last in
    (eqb-true c.level 1 one, eqb-true (rank c.lo) k at, ltb-true k (rank c.hi) some, refl)
row k c (d ∷ ds) on =
    let more = lie_beside (rank c.hi) (d ∷ ds) in
    let (one, rest) = and_parts (c.level == 1) ((rank c.lo == k) && (nat_lt k (rank c.hi) && more)) on in
    let (at, last) = and_parts (rank c.lo == k) (nat_lt k (rank c.hi) && more) rest in
    let (some, others) = and_parts (nat_lt k (rank c.hi)) more last in
    (eqb-true c.level 1 one, eqb-true (rank c.lo) k at, ltb-true k (rank c.hi) some, row (rank c.hi) d ds others)

around : (b : Body) (x : Turn) → lie_around b x.leaf (last_of x) ≡ true → AreAround x.leaf x.more (first_byte b) (end_after b)
around b x on =
    let low = nat_le (rank x.leaf.lo) (first_byte b) in
    let begins = nat_lt (first_byte b) (rank x.leaf.hi) in
    let ends = nat_lt (rank (last_of x).lo) (end_after b) in
    let high = nat_le (end_after b) (rank (last_of x).hi) in
    let (front, back) = and_parts (low && begins) (ends && high) on in
    let (one, two) = and_parts low begins front in
    let (three, four) = and_parts ends high back in
    record {
      low = leb-true (rank x.leaf.lo) (first_byte b) one;
      begins = ltb-true (first_byte b) (rank x.leaf.hi) two;
      ends = ltb-true (rank (last_of x).lo) (end_after b) three;
      high = leb-true (end_after b) (rank (last_of x).hi) four;
    }

short : (b : Body) (cs : List CellSeen) → list_all (is_clear (first_byte b + b.was) (end_after b)) cs ≡ true → (c : CellSeen) (k : ℕ) (v : Value) → Contains cs c
    → Contains (node_of c).units (k, v) → in_turned b k ≡ true → k < first_byte b + b.was
short b cs all c k v at has inside = elim (cases_lt k (first_byte b + b.was)) [
  | inl lt ↦ lt
  | inr ge ↦
      let from = first_byte b + b.was in
      let to = end_after b in
      let clear = each (is_clear from to) cs all c at in
      let none = on_if (is_between from to k) (each (λ (u : ℕ × Value). not (is_between from to u.0)) (node_of c).units clear (k, v) has) in
      let (low, high) = between (first_byte b) to k inside in
      let on = is_on from to k ge high in
      let bad : true ≡ false = sym on ∙ none in absurd cc
]

-- ---- edits

larger_low : (a z j : ℕ) → a ≤ j → z ≤ j → larger a z ≤ j
larger_low a z j low high = by_test (nat_lt a z)
  where
    by_test : (v : Bool) → (if v then z else a) ≤ j
    by_test true = high
    by_test false = low

before : (b : Body) (e : Edits) (cells : List CellSeen) → lie_in_leaves cells e ≡ true → list_all (changes_before b (without_bytes e)) cells ≡ true
    → (j : ℕ) → is_in (changed (without_bytes e)) j ≡ true → j < first_byte b
before b e cells lie all j on = elim (cases_lt j (first_byte b)) [
  | inl lt ↦ lt
  | inr ge ↦
      let beside : Edits = without_bytes e in
      let (c, at, one, has) = lies_found cells j e lie on in
      let from = larger (rank c.lo) (first_byte b) in
      let met : is_met (changed beside) from (rank c.hi) ≡ true = key_met (changed beside) from (rank c.hi) j on (larger_low (rank c.lo) (first_byte b) j has.0 ge) has.1 in
      let told = second (not (c.level == 1)) (not (is_met (changed beside) from (rank c.hi))) (off (c.level == 1) (eq-eqb c.level 1 one)) (each (changes_before b beside) cells all c at) in
      let bad : true ≡ false = sym met ∙ on_if (is_met (changed beside) from (rank c.hi)) told in absurd cc
]

-- ---- numbers

few_coming : (ps : List TwigPiece) → coming_count [] ps ≤ length ps
unfolding coming_count
few_coming [] = omega arith
few_coming (p ∷ ps) = by_test (is_coming [] p) (few_coming ps)
  where
    by_test : (v : Bool) → coming_count [] ps ≤ length ps → (if v then 1 + coming_count [] ps else coming_count [] ps) ≤ length (p ∷ ps)
    by_test true h = omega (arith, h)
    by_test false h = omega (arith, h)

enough : (f : Fresh) (n m : ℕ) → has_numbers f n m ≡ true → f.next + (n + 194 + 64 * m) ≤ f.end
enough f n m on =
    let (first, rest) = and_parts (nat_le (f.next + (n + 194)) f.end) (nat_le m ((f.end - f.next - (n + 194)) / 64)) on in
    let own = leb-true (f.next + (n + 194)) f.end first in
    let others = leb-true m ((f.end - f.next - (n + 194)) / 64) rest in
    omega (arith, own, others)

module _ (b : Body) (e : Edits) (f : Fresh) (cells : List CellSeen) (x : Turn) (first : Key) (turning : IsTurningBody b first) (lie : lie_in_leaves cells e ≡ true) (room : have_room (without_bytes e) cells ≡ true)
    (changes : list_all (changes_before b (without_bytes e)) cells ≡ true) (has : has_leaves b x.twig (last_of x) ≡ true) (leaves : leaves_suit b x.leaf x.more ≡ true) (twig : twig_suits b e f cells x.twig (last_of x) ≡ true)
    (sound : (c : CellSeen) → Contains cells c → c.level ≡ 1 → IsSound c) (pieces : ArePiecesOf x.twig (twig_pieces x.twig)) where
  in_twig : (x.twig.level ≡ 2) × (is_between (rank x.twig.lo) (rank x.twig.hi) (first_byte b) ≡ true) × (rank (last_of x).lo < rank x.twig.hi)
  in_twig =
      let within = is_between (rank x.twig.lo) (rank x.twig.hi) (first_byte b) in
      let reaches = nat_lt (rank (last_of x).lo) (rank x.twig.hi) in
      let (two, rest) = and_parts (x.twig.level == 2) (within && reaches) has in
      let (begins, last) = and_parts within reaches rest in
      (eqb-true x.twig.level 2 two, begins, ltb-true (rank (last_of x).lo) (rank x.twig.hi) last)

  lying : (lie_beside (rank x.leaf.lo) (leaves_of x) ≡ true) × (lie_around b x.leaf (last_of x) ≡ true) × (list_all (is_clear (first_byte b + b.was) (end_after b)) (leaves_of x) ≡ true)
  lying =
      let beside = lie_beside (rank x.leaf.lo) (leaves_of x) in
      let there = lie_around b x.leaf (last_of x) in
      let (front, clear) = and_parts (beside && there) (list_all (is_clear (first_byte b + b.was) (end_after b)) (leaves_of x)) leaves in
      let (one, two) = and_parts beside there front in
      (one, two, clear)

  twig_told : (list_all (λ p. not (is_hole_of b p)) (twig_pieces x.twig) ≡ true) × (twig_bytes (pieces_turned b e x.twig (last_of x)) ≤ 16000) × (has_numbers f (length (pieces_turned b e x.twig (last_of x))) (length cells) ≡ true)
  twig_told =
      let none = list_all (λ p. not (is_hole_of b p)) (twig_pieces x.twig) in
      let small = nat_le (twig_bytes (pieces_turned b e x.twig (last_of x))) 16000 in
      let numbers = has_numbers f (length (pieces_turned b e x.twig (last_of x))) (length cells) in
      let (one, rest) = and_parts none (small && numbers) twig in
      let (two, three) = and_parts small numbers rest in
      (one, leb-true (twig_bytes (pieces_turned b e x.twig (last_of x))) 16000 two, three)

  no_holes : (p : TwigPiece) → Contains (twig_pieces x.twig) p → is_hole_of b p ≡ false
  no_holes p at = on_if (is_hole_of b p) (each (λ (q : TwigPiece). not (is_hole_of b q)) (twig_pieces x.twig) twig_told.0 p at)

  -- each block that comes is one of the pieces
  few_blocks : blocks_turned b e ≤ length (pieces_turned b e x.twig (last_of x))
  few_blocks =
      let long = told_among b first turning e x.twig pieces in_twig.1 no_holes in
      let more = length-append (without_turned b (pieces_after (Some b) e (node_of x.twig) [])) (right_pointer b x.twig (last_of x)) in
      let few = few_coming (told_extent b e) in
      omega (arith, long, more, few)

  pub suited : MayTurnWhole b e f cells x
  suited = record {
    first = first;
    turning = turning;
    sound = sound;
    pieces = pieces;
    level = in_twig.0;
    begins = between (rank x.twig.lo) (rank x.twig.hi) (first_byte b) in_twig.1;
    reaches = in_twig.2;
    beside = row (rank x.leaf.lo) x.leaf x.more lying.0;
    around = around b x lying.1;
    short = short b (leaves_of x) lying.2;
    no_holes = no_holes;
    bytes = twig_told.1;
    before = before b e cells lie changes;
    lie = λ k at. lies_found cells k e lie at;
    room = λ c at. leaf_room (without_bytes e) c (each (has_room (without_bytes e)) cells room c at);
    numbers = let n = enough f (length (pieces_turned b e x.twig (last_of x))) (length cells) twig_told.2 in let m = few_blocks in omega (arith, n, m);
  }
