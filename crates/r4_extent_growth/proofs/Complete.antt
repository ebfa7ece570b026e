-- What may be grown passes the tests.
use Rattle.std.proofs.Common.{◌≡◌, inl, inr, ℕ, ◌+◌, ◌-◌, ◌*◌, ◌^◌, ◌<◌, ◌≤◌, Bool, true, false, List, [], ◌∷◌, ◌++◌, length, drop, refl, sym, ap, subst, ◌∙◌, arith}
use Rattle.std.specs.Prelude.{◌&&◌, ◌||◌, ◌==◌, Contains, None, Option, Some, if◌then◌else◌, is_some, nat_le, nat_lt, not, take}
use Rattle.std.specs.List.{filter, list_all, list_any}
use Rattle.std.proofs.lemmas.Grind.{common_steps}
use Rattle.std.proofs.lemmas.Bool.{and_parts, eq-eqb, eqb-true, le-leb, leb-false, lt-ltb, ltb-true}
use Rattle.std.proofs.lemmas.List.Elements.{Contains-append_left}
use Rattle.std.proofs.lemmas.List.Folds.{list_any-from_Any}
use Rattle.r4_base.specs.Key.{offset_of, rank}
use Rattle.r4_base.specs.Tree.{Name, Root, Store}
use Rattle.r4_base.specs.Value.{Value}
use Rattle.r4_base.specs.declared.items.Unit.{Unit as ExtentUnit}
use Rattle.r4_base.specs.declared.key.Key.{Key}
use Rattle.r4_content.specs.Edited.{Edits, Intervals, Pairs, changed, is_between, is_in, put_keys}
use Rattle.r4_extent_change.specs.r4_build.Building.{LiesInLeaf}
use Rattle.r4_content.proofs.EditLaws.{in_append}
use Rattle.r4_twig_asks.specs.r4_leaf_edits.Suiting.{is_byte}
use Rattle.r4_extent_change.proofs.r4_measure.r4_patch.Members.{cases, none}
use Rattle.r4_twig_asks.proofs.r4_graft.Placed.{first_member, follow_end, later_member}
use Rattle.r4_twig_asks.specs.r4_graft.Places.{HasGap}
use Rattle.r4_twig_asks.specs.r4_graft.Splices.{place}
use Rattle.r4_extent_change.specs.r4_measure.Budget.{Budget}
use Rattle.r4_extent_change.specs.r4_measure.r4_branch.Pieces.{last_end, names_of, open_end, part_end, part_names, twig_bytes}
use Rattle.r4_extent_change.specs.r4_measure.r4_branch.declared.piece.TwigPart.{TwigPart}
use Rattle.r4_extent_change.specs.r4_measure.r4_branch.declared.piece.TwigPart.TheVariants.{Blocks, Pointer}
use Rattle.r4_extent_change.specs.r4_measure.r4_branch.declared.piece.TwigPiece.{TwigPiece}
use Rattle.r4_extent_change.specs.r4_measure.r4_cell.Seen.{CellSeen, node_of}
use Rattle.r4_extent_change.specs.r4_measure.r4_cell.declared.change.Fresh.{Fresh}
use Rattle.r4_extent_change.specs.r4_measure.r4_leaf.Units.{leaf_bytes}
use Rattle.r4_extent_change.specs.r4_measure.r4_path.TwigPieces.{twig_pieces}
use Rattle.r4_extent_change.specs.r4_measure.r4_reach.Needs.{is_met, pieces_after, units_after}
use Rattle.r4_extent_change.specs.r4_measure.r4_reach.Reach.{is_body}
use Rattle.r4_extent_change.specs.r4_measure.r4_reach.Touched.{Body, is_spread}
use Rattle.r4_extent_change.specs.r4_extent_build.Growing.{IsGrowing, end_after, end_before}
use Rattle.r4_extent_change.specs.r4_extent_build.Numbering.{is_coming}
use Rattle.r4_extent_change.specs.Beside.{turning_among, without_bytes}
use Rattle.r4_extent_change.specs.Changing.{CanGrow, numbers_needed}
use Rattle.r4_extent_change.specs.Turned.{MayTurn}
use Rattle.r4_extent_growth.specs.Growth.{EndInObjects, may_grow}
use Rattle.r4_extent_growth.specs.Lying.{CutsOneByOne, cut_lies, has_all, has_one, has_room, is_whole, put_lies}
use Rattle.r4_extent_growth.specs.Turning.{comes_into, does_grow, ends_by, has_gap, has_next, is_clear, is_open_by, may_turn, stands_clear}
use Rattle.r4_extent_growth.proofs.Turns.{comes_from}

all_from : {A : Type 0} (p : A → Bool) (xs : List A) → ((x : A) → Contains xs x → p x ≡ true) → list_all p xs ≡ true
all_from p [] h = refl
all_from p (x ∷ xs) h = λ i. h x (first_member x xs) i && all_from p xs (λ y at. h y (later_member x xs y at)) i

right_on : (x y : Bool) → y ≡ true → (x || y) ≡ true
right_on true y h = refl
right_on false y h = h

-- ---- the body, blocks and leaves

grows : (b : Body) (first : Key) → IsGrowing b first → does_grow b ≡ true
grows b first g = by_kind b.in_extents refl
  where
    by_kind : (v : Bool) → b.in_extents ≡ v → does_grow b ≡ true
    by_kind true h = ap (λ (v : Bool). if v then nat_le (end_before b) (end_after b) else is_spread b && (b.was == 0)) h ∙ le-leb (end_before b) (end_after b) g.longer
    by_kind false h = ap (λ (v : Bool). if v then nat_le (end_before b) (end_after b) else is_spread b && (b.was == 0)) h ∙ elim g.stood [
      | inl stood ↦ let never = sym h ∙ stood in absurd cc
      | inr empty ↦ (λ i. g.spread i && eq-eqb b.was 0 empty i)
    ]

whole_is : (c : CellSeen) → (c.level ≡ 0 → (rank c.hi ≡ rank c.lo + 4096) × (length c.block ≡ 4096)) → (c.level ≡ 0 → offset_of c.lo + 4096 < 2 ^ 64) → is_whole c ≡ true
whole_is c block near = by_test (c.level == 0) refl
  where
    by_test : (v : Bool) → (c.level == 0) ≡ v → is_whole c ≡ true
    by_test true t =
        let (range, bytes) = block (eqb-true c.level 0 t) in
        λ i. not (t i) || (eq-eqb (length c.block) 4096 bytes i && (lt-ltb (offset_of c.lo + 4096) (2 ^ 64) (near (eqb-true c.level 0 t)) i && eq-eqb (rank c.hi) (rank c.lo + 4096) range i))
    by_test false t = λ i. not (t i) || ((length c.block == 4096) && (nat_lt (offset_of c.lo + 4096) (2 ^ 64) && (rank c.hi == rank c.lo + 4096)))

room_is : (e : Edits) (c : CellSeen) → (c.level ≡ 1 → is_met (changed e) (rank c.lo) (rank c.hi) ≡ true → leaf_bytes (units_after None e (node_of c)) ≤ 4068) → has_room e c ≡ true
room_is e c room = by_tests (c.level == 1) (is_met (changed e) (rank c.lo) (rank c.hi)) refl refl
  where
    by_tests : (v w : Bool) → (c.level == 1) ≡ v → is_met (changed e) (rank c.lo) (rank c.hi) ≡ w → has_room e c ≡ true
    by_tests true true t m = λ i. not (t i) || (not (m i) || le-leb (leaf_bytes (units_after None e (node_of c))) 4068 (room (eqb-true c.level 1 t) m) i)
    by_tests true false t m = λ i. not (t i) || (not (m i) || nat_le (leaf_bytes (units_after None e (node_of c))) 4068)
    by_tests false w t m = λ i. not (t i) || (not (is_met (changed e) (rank c.lo) (rank c.hi)) || nat_le (leaf_bytes (units_after None e (node_of c))) 4068)

-- ---- where edits lie

put_in : (ps : Pairs) (p : ℕ × Value) → Contains ps p → is_byte p.1 ≡ false → is_in (put_keys (filter (λ q. not (is_byte q.1)) ps)) p.0 ≡ true
put_in [] p at other = absurd (none p at)
put_in (q ∷ ps) p at other = elim (cases q p ps at) [
  | inl is ↦ first (is_byte q.1) (ap (λ (x : ℕ × Value). is_byte x.1) (sym is) ∙ other) (ap (λ (x : ℕ × Value). x.0) is)
  | inr more ↦ later (is_byte q.1) (put_in ps p more other)
]
  where
    first : (v : Bool) → v ≡ false → p.0 ≡ q.0 → is_in (put_keys (if not v then q ∷ filter (λ x. not (is_byte x.1)) ps else filter (λ x. not (is_byte x.1)) ps)) p.0 ≡ true
    first true h same = absurd cc
    first false h same = λ i. in_one q.0 p.0 same i || is_in (put_keys (filter (λ x. not (is_byte x.1)) ps)) p.0
      where
        in_one : (k j : ℕ) → j ≡ k → is_between k (k + 1) j ≡ true
        in_one k j e = grind (arith, common_steps, e)

    later : (v : Bool) → is_in (put_keys (filter (λ x. not (is_byte x.1)) ps)) p.0 ≡ true
        → is_in (put_keys (if not v then q ∷ filter (λ x. not (is_byte x.1)) ps else filter (λ x. not (is_byte x.1)) ps)) p.0 ≡ true
    later true rest = rest
    later false rest = right_on (is_between q.0 (q.0 + 1) p.0) (is_in (put_keys (filter (λ x. not (is_byte x.1)) ps)) p.0) rest

any_one : (p : CellSeen → Bool) (c : CellSeen) → p c ≡ true → (xs : List CellSeen) → Contains xs c → list_any p xs ≡ true
any_one p c here xs (k, lt, is) = list_any-from_Any p xs (k, c, lt, is, here)

one_has : (cells : List CellSeen) (k : ℕ) → LiesInLeaf cells k → list_any (has_one k) cells ≡ true
one_has cells k (c, at, level, (low, high)) = any_one (has_one k) c
    (λ i. eq-eqb c.level 1 level i && (le-leb (rank c.lo) k low i && lt-ltb k (rank c.hi) high i)) cells at

puts_lie_is : (cells : List CellSeen) (e : Edits) → ((k : ℕ) → is_in (changed (without_bytes e)) k ≡ true → LiesInLeaf cells k) → list_all (put_lies cells) e.puts ≡ true
puts_lie_is cells e lie = all_from (put_lies cells) e.puts (λ p at. by_test p at (is_byte p.1) refl)
  where
    by_test : (p : ℕ × Value) → Contains e.puts p → (v : Bool) → is_byte p.1 ≡ v → put_lies cells p ≡ true
    by_test p at true t = λ i. t i || list_any (has_one p.0) cells
    by_test p at false t = right_on (is_byte p.1) (list_any (has_one p.0) cells) (one_has cells p.0 (lie p.0
        (in_append (put_keys (without_bytes e).puts) ((without_bytes e).zeros ++ (without_bytes e).cuts) p.0
        ∙ (λ i. put_in e.puts p at t i || is_in ((without_bytes e).zeros ++ (without_bytes e).cuts) p.0))))

cut_in : (rs : Intervals) (r : ℕ × ℕ) → Contains rs r → is_body r.0 ≡ false → r.0 < r.1 → is_in (filter (λ q. not (is_body q.0)) rs) r.0 ≡ true
cut_in [] r at other some = absurd (none r at)
cut_in (q ∷ rs) r at other some = elim (cases q r rs at) [
  | inl is ↦ first (is_body q.0) (ap (λ (x : ℕ × ℕ). is_body x.0) (sym is) ∙ other) (ap (λ (x : ℕ × ℕ). x.0) is) (ap (λ (x : ℕ × ℕ). x.1) is)
  | inr more ↦ later (is_body q.0) (cut_in rs r more other some)
]
  where
    first : (v : Bool) → v ≡ false → r.0 ≡ q.0 → r.1 ≡ q.1 → is_in (if not v then q ∷ filter (λ x. not (is_body x.0)) rs else filter (λ x. not (is_body x.0)) rs) r.0 ≡ true
    first true h from to = absurd cc
    first false h from to = λ i. inside q.0 q.1 r.0 (omega (arith, from)) (omega (arith, from, to, some)) i || is_in (filter (λ x. not (is_body x.0)) rs) r.0
      where
        inside : (lo hi k : ℕ) → lo ≤ k → k < hi → is_between lo hi k ≡ true
        inside lo hi k low high = grind (arith, common_steps, low, high)

    later : (v : Bool) → is_in (filter (λ x. not (is_body x.0)) rs) r.0 ≡ true → is_in (if not v then q ∷ filter (λ x. not (is_body x.0)) rs else filter (λ x. not (is_body x.0)) rs) r.0 ≡ true
    later true rest = rest
    later false rest = right_on (is_between q.0 q.1 r.0) (is_in (filter (λ x. not (is_body x.0)) rs) r.0) rest

all_has : (cells : List CellSeen) (r : ℕ × ℕ) → r.1 ≤ r.0 + 1 → LiesInLeaf cells r.0 → list_any (has_all r) cells ≡ true
all_has cells r short (c, at, level, (low, high)) = any_one (has_all r) c
    (λ i. eq-eqb c.level 1 level i && (le-leb (rank c.lo) r.0 low i && le-leb r.1 (rank c.hi) (omega (arith, high, short)) i)) cells at

cuts_lie_is : (cells : List CellSeen) (e : Edits) → CutsOneByOne e → ((k : ℕ) → is_in (changed (without_bytes e)) k ≡ true → LiesInLeaf cells k) → list_all (cut_lies cells) e.cuts ≡ true
cuts_lie_is cells e single lie = all_from (cut_lies cells) e.cuts (λ r at. by_test r at (is_body r.0) (nat_le r.1 r.0) refl refl)
  where
    by_test : (r : ℕ × ℕ) → Contains e.cuts r → (v w : Bool) → is_body r.0 ≡ v → nat_le r.1 r.0 ≡ w → cut_lies cells r ≡ true
    by_test r at true w t m = λ i. t i || (nat_le r.1 r.0 || list_any (has_all r) cells)
    by_test r at false true t m = right_on (is_body r.0) (nat_le r.1 r.0 || list_any (has_all r) cells) (λ i. m i || list_any (has_all r) cells)
    by_test r at false false t m =
        let some = leb-false r.1 r.0 m in
        let leaf = lie r.0 (in_append (put_keys (without_bytes e).puts) ((without_bytes e).zeros ++ (without_bytes e).cuts) r.0
        ∙ right_on (is_in (put_keys (without_bytes e).puts) r.0) (is_in ((without_bytes e).zeros ++ (without_bytes e).cuts) r.0) (cut_in e.cuts r at t (omega (arith, some)))) in
        right_on (is_body r.0) (nat_le r.1 r.0 || list_any (has_all r) cells) (right_on (nat_le r.1 r.0) (list_any (has_all r) cells) (all_has cells r (single r at t) leaf))

-- ---- pieces

open_is : (key : Key) (u : ExtentUnit) → offset_of key + 4096 * u.width < 2 ^ 64 → open_end (record { key = key; part = Blocks u }) ≡ Some (rank key + 4096 * u.width)
open_is key u near = ap (λ (v : Bool). if v then Some (rank key + 4096 * u.width) else None) (lt-ltb (offset_of key + 4096 * u.width) (2 ^ 64) near)

ends_is : (key : Key) (t : TwigPart) (k : ℕ) → ((u : ExtentUnit) → t ≡ Blocks u → offset_of key + 4096 * u.width < 2 ^ 64) → part_end (rank key) t ≤ k → ends_by k (record { key = key; part = t }) ≡ true
ends_is key (Pointer to) k near h = lt-ltb (rank key) k (omega (arith, h))
ends_is key (Blocks u) k near h = ap (is_open_by k) (open_is key u (near u refl)) ∙ le-leb (rank key + 4096 * u.width) k h

taken_is : (xs ys : List TwigPiece) → take (length xs) (xs ++ ys) ≡ xs
taken_is [] ys = refl
taken_is (x ∷ xs) ys = ap (λ zs. x ∷ zs) (taken_is xs ys)

same_behind : (xs : List Name) (ys zs : List Name) → xs ++ ys ≡ xs ++ zs → ys ≡ zs
same_behind [] ys zs e = e
same_behind (x ∷ xs) ys zs e = same_behind xs ys zs (ap (drop 1) e)

first_hi : List Name → ℕ
first_hi [] = 0
first_hi (x ∷ xs) = x.hi

abbrev pointer_to : (id k n : ℕ) → Name
pointer_to id k n = record { id = id; level = 1; lo = k; hi = n }

pointer_moves : (id k n : ℕ) → pointer_to id k (n + 1) ∷ [] ≡ pointer_to id k n ∷ [] → ⊥
unfolding first_hi
pointer_moves id k n e = let hi : n + 1 ≡ n = ap first_hi e in omega (arith, hi)

-- the last of pieces whose names do not depend on what comes behind them is a unit
last_unit : (o : Option ℕ) (n : ℕ) (ps : List TwigPiece) → 1 ≤ length ps → ((j : ℕ) → names_of j ps ≡ names_of n ps)
    → ((p : TwigPiece) → Contains ps p → (u : ExtentUnit) → p.part ≡ Blocks u → offset_of p.key + 4096 * u.width < 2 ^ 64) → is_some (last_end o ps) ≡ true
unfolding names_of
last_unit o n [] some same near = absurd (omega (arith, some))
last_unit o n (p ∷ []) some same near = by_part p.part (same (n + 1)) (near p (first_member p []))
  where
    by_part : (t : TwigPart) → part_names (rank p.key) (n + 1) t ++ [] ≡ part_names (rank p.key) n t ++ [] → ((u : ExtentUnit) → t ≡ Blocks u → offset_of p.key + 4096 * u.width < 2 ^ 64)
        → is_some (open_end (record { key = p.key; part = t })) ≡ true
    by_part (Pointer to) names ends = absurd (pointer_moves to.0 (rank p.key) n names)
    by_part (Blocks u) names ends = ap is_some (open_is p.key u (ends u refl))
last_unit o n (p ∷ (q ∷ ps)) some same near =
    last_unit (open_end p) n (q ∷ ps) (omega arith) (λ j. same_behind (part_names (rank p.key) (rank q.key) p.part) (names_of j (q ∷ ps)) (names_of n (q ∷ ps)) (same j))
    (λ x at. near x (later_member p (q ∷ ps) x at))

-- ---- a twig

module _ (b : Body) (first : Key) (g : IsGrowing b first) (e : Edits) (u : Budget) (c : CellSeen) (may : MayTurn b e u c)
    (ends : (p : TwigPiece) → Contains (twig_pieces c) p → (x : ExtentUnit) → p.part ≡ Blocks x → offset_of p.key + 4096 * x.width < 2 ^ 64) where
  abbrev ps : List TwigPiece
  ps = twig_pieces c

  stands_is : (p : TwigPiece) → Contains ps p → stands_clear b p ≡ true
  stands_is p at =
      let told : (nat_le (end_after b) (rank p.key) || ends_by (end_before b) p) ≡ true = elim (may.clear.clear p at) [
        | inl before ↦ right_on (nat_le (end_after b) (rank p.key)) (ends_by (end_before b) p) (ends_is p.key p.part (end_before b) (ends p at) before)
        | inr behind ↦ (λ i. le-leb (end_after b) (rank p.key) behind i || ends_by (end_before b) p)
      ] in
      subst (λ (r : ℕ × ℕ). (nat_le r.1 (rank p.key) || ends_by r.0 p) ≡ true) (sym (comes_from b first g)) told

  gap_is : comes_into b c ≡ true → has_gap b c ps ≡ true
  gap_is into =
      let come = comes_from b first g in
      let here = (λ i. is_between (rank c.lo) (rank c.hi) (sym come i).0 && nat_lt (sym come i).0 (sym come i).1) ∙ into in
      let (inside, some) = and_parts (is_between (rank c.lo) (rank c.hi) (end_before b)) (nat_lt (end_before b) (end_after b)) here in
      let gap : HasGap (rank c.lo) (rank c.hi) (end_before b) (end_after b) ps = may.clear.gap inside (ltb-true (end_before b) (end_after b) some) in
      let below = follow_end (end_after b) (rank c.hi) gap.behind gap.high in
      let taken : take (place (end_before b) ps) ps ≡ gap.before = (λ i. take (gap.at i) (gap.is i)) ∙ taken_is gap.before gap.behind in
      let unit = last_unit None _ gap.before gap.some gap.left (λ p at. ends p (subst (λ (xs : List TwigPiece). Contains xs p) (sym gap.is) (Contains-append_left gap.before gap.behind p at))) in
      let told : (nat_le (end_after b) (rank c.hi) && is_some (last_end None (take (place (end_before b) ps) ps))) ≡ true
      = λ i. le-leb (end_after b) (rank c.hi) (omega (arith, below)) i && (ap (λ (xs : List TwigPiece). is_some (last_end None xs)) taken ∙ unit) i in
      subst (λ (r : ℕ × ℕ). (nat_le r.1 (rank c.hi) && is_some (last_end None (take (place r.0 ps) ps))) ≡ true) (sym come) told

  clear_told : is_clear b c ps ≡ true
  clear_told = λ i. all_from (stands_clear b) ps stands_is i && by_test (comes_into b c) refl i
    where
      by_test : (v : Bool) → comes_into b c ≡ v → (not (comes_into b c) || has_gap b c ps) ≡ true
      by_test true t = right_on (not (comes_into b c)) (has_gap b c ps) (gap_is t)
      by_test false t = λ i. not (t i) || has_gap b c ps

  next_is : (p : TwigPiece) → Contains (pieces_after (Some b) e (node_of c) []) p → has_next ps p ≡ true
  next_is p at = by_test (is_coming ps p) refl
    where
      by_test : (v : Bool) → is_coming ps p ≡ v → has_next ps p ≡ true
      by_test true t = right_on (not (is_coming ps p)) _ (lt-ltb (offset_of p.key + 4096) (2 ^ 64) (may.twig.near p at t))
      by_test false t = λ i. not (t i) || nat_lt (offset_of p.key + 4096) (2 ^ 64)

  turn_told : may_turn b e c ≡ true
  turn_told = λ i. clear_told i && (all_from (has_next ps) (pieces_after (Some b) e (node_of c) []) next_is i && le-leb (twig_bytes (pieces_after (Some b) e (node_of c) [])) 16000 may.bytes i)

-- ---- all of it

pub found : (b : Body) (e : Edits) (u : Budget) (t : Store Value) (r : Root) (f : Fresh) (cells : List CellSeen) → CanGrow b e u t r f cells → CutsOneByOne e
    → EndInObjects b e cells → may_grow b e f cells ≡ true
found b e u t r f cells can single ends =
    let n = can.numbers in
    let whole = all_from is_whole cells (λ c at. whole_is c (can.blocks c at) (ends.blocks c at)) in
    let room = all_from (has_room (without_bytes e)) cells (λ c at. room_is (without_bytes e) c (can.room c at)) in
    let turns = all_from (may_turn b e) (turning_among b e cells) (λ c at. turn_told b can.first can.growing e u c (can.twigs c at) (ends.units c at)) in
    λ i. (grows b can.first can.growing i && (whole i && (cuts_lie_is cells e single can.lie i && puts_lie_is cells e can.lie i)))
    && (room i && (le-leb f.next f.end (omega (arith, n)) i && (turns i && le-leb (numbers_needed b e cells) (f.end - f.next) (omega (arith, n)) i)))
