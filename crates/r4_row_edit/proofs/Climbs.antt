-- Rows that are packed anew, one over the other.
use Rattle.std.proofs.Common.{◌≡◌, ◌⊎◌, ◌∙◌, inl, inr, ℕ, zero, suc, ◌+◌, ◌-◌, ◌^◌, ◌≤◌, List, [], ◌∷◌, ◌++◌, length, take, refl, sym, ap, subst, arith, true, false, ◌&&◌, ◌==◌}
use Rattle.std.specs.Prelude.{All, Contains, Option, None, Some}
use Rattle.std.proofs.lemmas.Bool.Decides.{nat_tests}
use Rattle.std.proofs.lemmas.List.{length-append}
use Rattle.std.proofs.lemmas.List.Elements.{All-append, All-cons, All-head, All-nil, All-tail, Contains-append_cases}
use Rattle.std.proofs.lemmas.Option.{same_Some}
use Rattle.r4_base.specs.Key.{least, rank, top}
use Rattle.r4_base.specs.Tree.{IsNode, Name, Root, Span}
use Rattle.r4_cell.specs.Seen.{CellSeen, node_of}
use Rattle.r4_cell.specs.declared.change.Fresh.{Fresh}
use Rattle.r4_patch.proofs.Members.{cases, here, none}
use Rattle.r4_patch.specs.Joining.{ids_of}
use Rattle.r4_path.proofs.Grown.{map_names, names_map}
use Rattle.r4_path.proofs.Upwards.{long_ids, numbered}
use Rattle.r4_path.specs.Nodes.{IsPointable, IsPointingTo}
use Rattle.r4_path.specs.Steps.{AreNaming, AreSpanning, CountUp, Follow}
use Rattle.r4_rows.specs.Numbers.{AreNumbered}
use Rattle.r4_rows.specs.Rows.{EndsIn, IsKept, Row, news_in}
use Rattle.r4_squeeze.proofs.SqueezedSlums.{follow_as, same_range}
use Rattle.r4_row_edit.proofs.Packed.{some_cells}
use Rattle.r4_row_edit.specs.Climbing.{CanClimb, CanRise, Climbed, HasNumbers, IsTop, StandUp, growth, numbers_for}
use Rattle.r4_row_edit.specs.Over.{StandsOver}
use Rattle.r4_row_edit.specs.Repacked.{IsRepacked}

-- ---- numbers that may be pointed to

pub able_of : (ids : List ℕ) (cells : List CellSeen) → ids_of cells ≡ ids → All IsPointable ids
    → All (λ (c : CellSeen). IsPointable c.id) cells
able_of ids [] e able = All-nil (λ (c : CellSeen). IsPointable c.id)
able_of [] (c ∷ cells) e able = absurd cc
able_of (i ∷ ids) (c ∷ cells) e able =
    let head : c.id ≡ i = cc in
    let tail : ids_of cells ≡ ids = cc in
    All-cons (λ (x : CellSeen). IsPointable x.id) c cells (subst IsPointable (sym head) (All-head IsPointable i ids able))
    (able_of ids cells tail (All-tail IsPointable i ids able))

pub ids_able : (n : ℕ) (cells : List CellSeen) → All (λ (c : CellSeen). IsPointable c.id) cells
    → All IsPointable (take n (ids_of cells))
ids_able zero cells able = All-nil IsPointable
ids_able (suc n) [] able = All-nil IsPointable
ids_able (suc n) (c ∷ cells) able = All-cons IsPointable c.id (take n (ids_of cells))
    (All-head (λ (x : CellSeen). IsPointable x.id) c cells able)
    (ids_able n cells (All-tail (λ (x : CellSeen). IsPointable x.id) c cells able))

pub fresh_able : (n : ℕ) (ids : List ℕ) → 2 ^ 63 ≤ n → n + length ids ≤ 2 ^ 64 → CountUp n ids → All IsPointable ids
fresh_able n [] low high counts = All-nil IsPointable
fresh_able n (i ∷ ids) low high (is, counts) = All-cons IsPointable i ids
    (subst IsPointable (sym is) (numbered n low (omega (arith, high))))
    (fresh_able (n + 1) ids (omega (arith, low)) (omega (arith, high)) counts)

-- fresh numbers may be pointed to, as many as there are, if any
pub taken_able : (n d count : ℕ) (fresh : Fresh) (ids : List ℕ) → n ≡ fresh.next → length ids ≤ d → d ≤ count
    → (1 ≤ d → HasNumbers count fresh) → CountUp n ids → All IsPointable ids
taken_able n d count fresh [] at le enough have counts = All-nil IsPointable
taken_able n d count fresh (i ∷ ids) at le enough have counts =
    let h = have (omega (arith, le)) in
    let unplaced = h.unplaced in
    let room = h.enough in
    let fits = h.fits in
    fresh_able n (i ∷ ids) (omega (arith, unplaced, at)) (omega (arith, at, le, enough, room, fits)) counts

-- ---- the rows

-- what stands in the lowest row
pub low_able : (d l : ℕ) (low : List CellSeen) (rows : List (List CellSeen)) → StandUp d l low rows
    → 1 ≤ d + length rows → All (λ (c : CellSeen). IsPointable c.id) low
low_able d l low [] highest some =
    let t = highest.top (omega (arith, some)) in
    subst (All (λ (c : CellSeen). IsPointable c.id)) (sym t.one)
    (All-cons (λ (c : CellSeen). IsPointable c.id) t.root [] t.able (All-nil (λ (c : CellSeen). IsPointable c.id)))
low_able d l low (row ∷ rows) (s, up) some = s.able

-- rows that serve for so much growth serve for less
pub stand_less : (d e l : ℕ) (low : List CellSeen) (rows : List (List CellSeen)) → d ≤ e → StandUp e l low rows
    → StandUp d l low rows
stand_less d e l low [] le h = record {
  cell = h.cell;
  one = h.one;
  level = h.level;
  some = h.some;
  top = λ some. h.top (omega (arith, some, le));
}
stand_less d e l low (row ∷ rows) le (s, up) = (s, stand_less d e (suc l) row rows le up)

pub nothing_left : {A : Type 0} (xs : List A) → length xs ≡ 0 → xs ≡ []
nothing_left [] e = refl
nothing_left (x ∷ xs) e = absurd (omega (arith, e))

pub none_or_some : (n : ℕ) → (n ≡ 0) ⊎ (1 ≤ n)
none_or_some zero = inl refl
none_or_some (suc n) = inr (omega arith)

pub numbers_less : (d e : ℕ) (rows : List (List CellSeen)) → d ≤ e → numbers_for d rows ≤ numbers_for e rows
numbers_less d e [] le = omega arith
numbers_less d e (row ∷ rows) le = let h = numbers_less d e rows le in omega (arith, le, h)

pub some_numbers : (d : ℕ) (rows : List (List CellSeen)) → 1 ≤ numbers_for d rows
some_numbers d [] = omega arith
some_numbers d (row ∷ rows) = let h = some_numbers d rows in omega (arith, h)

pub least_taken : (n : ℕ) (xs : List ℕ) → (length (take n xs) ≤ n) × (n ≤ length (take n xs) + (n - length xs))
least_taken zero xs = (omega arith, omega arith)
least_taken (suc n) [] = (omega arith, omega arith)
least_taken (suc n) (x ∷ xs) = let (a, b) = least_taken n xs in (omega (arith, a), omega (arith, b))

module _ (l : ℕ) (s : Row) (row : List CellSeen) (rows : List (List CellSeen)) (before : Fresh)
    (can : CanClimb l s (row ∷ rows) before) where
  pub over_row : StandsOver l s.old row
  over_row = can.up.0

  pub enough : before.next + (length s.new - length s.old) ≤ before.end
  enough =
      let some = some_numbers (growth s) rows in
      elim (none_or_some (growth s)) [
        | inl none ↦ let order = can.ordered in omega (arith, none, order)
        | inr grows ↦ let n = (can.numbers grows).enough in omega (arith, n, some)
      ]

  module _ (mid : Fresh) (cells : List CellSeen) (done : IsRepacked l row s.old s.new before mid cells) where
    next_row : Row
    next_row = record { old = row; new = cells }

    taken_few : length done.taken ≤ growth s
    taken_few =
        let ids = ap length done.ids in
        let many = long_ids cells in
        let both = length-append (take (length cells) (ids_of row)) done.taken in
        let most = done.grows in
        let front = least_taken (length cells) (ids_of row) in
        let rows_many = long_ids row in
        omega (arith, ids, many, both, most, front, rows_many)

    mid_next : mid.next ≡ before.next + length done.taken
    mid_next = ap (λ (f : Fresh). f.next) done.left

    mid_end : mid.end ≡ before.end
    mid_end = ap (λ (f : Fresh). f.end) done.left

    grows_less : length cells - length row ≤ growth s
    grows_less = let most = done.grows in omega (arith, most)

    fewer : numbers_for (length cells - length row) rows ≤ numbers_for (growth s) rows
    fewer = numbers_less (length cells - length row) (growth s) rows grows_less

    next_numbers : 1 ≤ growth s → HasNumbers (numbers_for (length cells - length row) rows) mid
    next_numbers grows =
        let h = can.numbers grows in
        let unplaced = h.unplaced in
        let enough = h.enough in
        let fits = h.fits in
        let took = taken_few in
        let at = mid_next in
        let end = mid_end in
        let less = fewer in
        record {
          unplaced = omega (arith, unplaced, at);
          enough = omega (arith, at, took, end, enough, less);
          fits = omega (arith, end, fits);
        }

    next_ordered : mid.next ≤ mid.end
    next_ordered =
        let took = taken_few in
        let at = mid_next in
        let end = mid_end in
        elim (none_or_some (growth s)) [
          | inl none ↦ let order = can.ordered in omega (arith, none, took, at, end, order)
          | inr grows ↦ let enough = (next_numbers grows).enough in omega (arith, enough)
        ]

    next_able : 1 ≤ (length cells - length row) + length rows → All (λ (c : CellSeen). IsPointable c.id) cells
    next_able some =
        let less = grows_less in
        let more = some_numbers (growth s) rows in
        able_of (take (length cells) (ids_of row) ++ done.taken) cells done.ids
        (All-append IsPointable (take (length cells) (ids_of row)) done.taken
        (ids_able (length cells) row (low_able (growth s) (suc l) row rows can.up.1 (omega (arith, some, less))))
        (taken_able before.next (growth s) (growth s + numbers_for (growth s) rows) before done.taken refl taken_few
        (omega arith) can.numbers done.count))

    pub next_can : CanClimb (suc l) (record { old = row; new = cells }) rows mid
    next_can =
        let low = can.low in
        let few = can.few in
        let less = grows_less in
        record {
          low = omega (arith, low);
          up = stand_less (length cells - length row) (growth s) (suc l) row rows grows_less can.up.1;
          ranges = λ m a b f.
              let (lm, fa, tb) = same_range (suc l) m over_row.from over_row.to a b row
              (some_cells (suc l) over_row.from over_row.to row over_row.some over_row.along) over_row.along f in
              follow_as (suc l) m over_row.from over_row.to a b cells lm fa tb along;
          able = next_able;
          further = done.taken;
          ids = done.ids;
          few = omega (arith, less, few);
          height = λ more. let h = can.height (omega (arith, less, more)) in omega (arith, h);
          ordered = next_ordered;
          numbers = λ more. next_numbers (omega (arith, less, more));
        }
      where
        along : Follow (suc l) over_row.from over_row.to cells
        along =
            let (lm, fa, tb) = same_range (suc l) (suc l) done.points.from done.points.to over_row.from over_row.to row
            (some_cells (suc l) over_row.from over_row.to row over_row.some over_row.along) done.points.were
            over_row.along in
            follow_as (suc l) (suc l) done.points.from done.points.to over_row.from over_row.to cells lm fa tb
            done.points.are

    mid_still : growth s ≡ 0 → mid ≡ before
    mid_still none =
        let took = taken_few in
        let same : before.next + length done.taken ≡ before.next = omega (arith, took, none) in
        done.left ∙ ap (λ n. record before { next = n }) same

    pub climbed_on : (after : Fresh) (more : List Row) (over : Option CellSeen)
        → Climbed (suc l) (record { old = row; new = cells }) rows mid after more over
        → Climbed l s (row ∷ rows) before after (record { old = row; new = cells } ∷ more) over
    climbed_on after more over c = record {
      points = (done.points, c.points);
      olds = (refl, c.olds);
      numbers = (done.taken, done.ids, done.count, subst (λ n. AreNumbered n after.next more over) mid_next c.numbers);
      sound = λ x at. elim (Contains-append_cases cells (news_in more None) x at) [
        | inl mine ↦ done.points.sound_new x mine
        | inr rest ↦ c.sound x rest
      ];
      root_node = c.root_node;
      ends = λ r up. c.ends r (λ more. up (let less = grows_less in omega (arith, less, more)));
      taken = let (a, b, e) = c.taken in let at = mid_next in let end = mid_end in
          (omega (arith, a, at), b, e ∙ end);
      still = λ none. let less = grows_less in
          let (same, no_root) = c.still (omega (arith, less, none)) in (same ∙ mid_still none, no_root);
    }

-- ---- the highest row

only_name : (c : CellSeen) (n : Name) → AreNaming (c ∷ []) n → Contains (node_of c).names n
only_name c n (x, at, named) = elim (cases c x [] at) [
  | inl is ↦ subst (λ (y : CellSeen). Contains (node_of y).names n) is named
  | inr more ↦ absurd (none x more)
]

only_span : (c : CellSeen) (v : Span) → AreSpanning (c ∷ []) v → Contains (node_of c).spans v
only_span c v (x, at, spans) = elim (cases c x [] at) [
  | inl is ↦ subst (λ (y : CellSeen). Contains (node_of y).spans v) is spans
  | inr more ↦ absurd (none x more)
]

pub one_for_one : (l : ℕ) (s : Row) (rows : List (List CellSeen)) (f : Fresh) → CanClimb l s rows f
    → (length s.old == 1 && length s.new == 1) ≡ true → Climbed l s rows f f [] None
one_for_one l s rows f can is = record {
  points = tt;
  olds = tt;
  numbers = omega arith;
  sound = λ c at. absurd (none c at);
  root_node = λ c e. absurd cc;
  ends = λ r up. go rows r (kept s.old s.new can.further can.ids (both (length s.old) (length s.new) is).0
      (both (length s.old) (length s.new) is).1);
  taken = (omega arith, can.ordered, refl);
  still = λ none. (refl, refl);
}
  where
    both : (a b : ℕ) → (a == 1 && b == 1) ≡ true → (a ≡ 1) × (b ≡ 1)
    both a b e = (grind (arith, nat_tests, e), grind (arith, nat_tests, e))

    kept : (old new : List CellSeen) (xs : List ℕ) → ids_of new ≡ take (length new) (ids_of old) ++ xs → length old ≡ 1
        → length new ≡ 1 → IsKept (record { old = old; new = new })
    kept [] new xs e one two = absurd (omega (arith, one))
    kept (c ∷ (d ∷ old)) new xs e one two = absurd (omega (arith, one))
    kept (c ∷ []) [] xs e one two = absurd (omega (arith, two))
    kept (c ∷ []) (x ∷ (y ∷ new)) xs e one two = absurd (omega (arith, two))
    kept (c ∷ []) (x ∷ []) xs e one two = record {
      was = c;
      is = x;
      old = refl;
      new = refl;
      id = cc;
    }

    go : (rows : List (List CellSeen)) (r : Root) → IsKept s → EndsIn r s [] None
    go rows r k = k

module _ (l : ℕ) (s : Row) (f : Fresh) (can : CanClimb l s [] f)
    (other : (length s.old == 1 && length s.new == 1) ≡ false) where
  old_one : length s.old ≡ 1
  old_one = ap length can.up.one

  new_some : 1 ≤ length s.new
  new_some =
      let c = can.up.cell in
      some_cells l (rank c.lo) (rank c.hi) s.new can.up.some (can.ranges l (rank c.lo) (rank c.hi)
      (subst (Follow l (rank c.lo) (rank c.hi)) (sym can.up.one) (can.up.level, refl, can.up.some, refl)))

  several : 2 ≤ length s.new
  several = let one = old_one in let some = new_some in grind (arith, nat_tests, other, one, some)

  grown : 1 ≤ growth s
  grown = let two = several in let one = old_one in omega (arith, two, one)

  root : IsTop l s.old
  root = can.up.top grown

  along : Follow l least top s.new
  along = can.ranges l least top root.range

  pub can_rise : CanRise l s f
  can_rise =
      let low = can.low in
      let one = old_one in
      let high = can.height grown in
      let few = can.few in
      let numbers = (can.numbers grown).enough in
      let more = grown in
      record {
        low = omega (arith, low);
        high = omega (arith, high);
        root = root;
        some = new_some;
        few = omega (arith, few, one);
        follow = along;
        able = can.able (omega (arith, more));
        number = omega (arith, numbers);
      }

  pub rose : (g : Fresh) (c : CellSeen) → IsPointingTo s.new (l + 1) f.next c → g ≡ record f { next = f.next + 1 }
      → Climbed l s [] f g [] (Some c)
  rose g c points took =
      let numbers = (can.numbers grown).enough in
      let more = grown in
      let next = ap (λ (x : Fresh). x.next) took in
      let end = ap (λ (x : Fresh). x.end) took in
      record {
        points = tt;
        olds = tt;
        numbers = (points.number, omega (arith, next));
        sound = λ d member. absurd (none d member);
        root_node = λ d e. subst (λ (x : CellSeen). IsNode (node_of x)) (same_Some c d e) points.node;
        ends = λ r goes. let up = goes grown in record {
          was = up.0;
          old = up.1;
          id = up.2;
          level = points.level_is ∙ ap (λ k. k + 1) (sym (level_is s.old up.0 up.1 root.range)) ∙ plus_one (up.0).level;
          lo = points.lo;
          hi = points.hi;
          names = λ n. (
            (λ g. names_map s.new n (subst (λ ns. Contains ns n) points.names (only_name c n g))),
            (λ g. (c, here c [], subst (λ ns. Contains ns n) (sym points.names) (map_names s.new n g))),
          );
          spans = λ v g. none v (subst (λ vs. Contains vs v) points.spans (only_span c v g));
        };
        taken = (omega (arith, next), omega (arith, next, end, numbers), end);
        still = λ none. absurd (omega (arith, none, more));
      }
    where
      plus_one : (n : ℕ) → n + 1 ≡ suc n
      plus_one n = omega arith

      level_is : (old : List CellSeen) (x : CellSeen) → old ≡ x ∷ [] → Follow l least top old → x.level ≡ l
      level_is old x is follow = (subst (Follow l least top) is follow).0

-- ---- what the code puts together

pub repacked_for : (l : ℕ) (row gone come xs ys zs cells : List CellSeen) (before mid : Fresh) → xs ≡ row → ys ≡ gone
    → zs ≡ come → ((k : ℕ) → StandsOver k ys xs → IsRepacked k xs ys zs before mid cells) → StandsOver l gone row
    → IsRepacked l row gone come before mid cells
repacked_for l row gone come xs ys zs cells before mid er eg ec all s =
    subst (λ r. IsRepacked l r gone come before mid cells) er
    (subst (λ g. IsRepacked l xs g come before mid cells) eg
    (subst (λ z. IsRepacked l xs ys z before mid cells) ec
    (all l (subst (λ g. StandsOver l g xs) (sym eg) (subst (λ r. StandsOver l gone r) (sym er) s)))))
