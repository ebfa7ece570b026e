-- How many cells there may be in the end.
use Rattle.std.proofs.Common.{◌≡◌, inl, inr, ℕ, suc, ◌+◌, ◌≤◌, Bool, true, false, List, [], ◌∷◌, drop, length, refl, ap, sym, subst, ◌∙◌, arith}
use Rattle.std.specs.Prelude.{Contains, Option, None, Some, ◌||◌, ◌==◌, if◌then◌else◌, not, sum_by}
use Rattle.std.proofs.lemmas.Bool.{eq-eqb}
use Rattle.std.proofs.lemmas.List.Sums.{sum_by-append, sum_by-cons}
use Rattle.r4_base.specs.Key.{rank}
use Rattle.r4_reach.specs.r4_cell.Seen.{CellSeen}
use Rattle.r4_reach.specs.r4_cell.declared.change.Fresh.{Fresh}
use Rattle.r4_reach.specs.r4_patch.Following.{is_among, without}
use Rattle.r4_reach.specs.r4_patch.Joining.{ids_of}
use Rattle.r4_reach.proofs.r4_patch.Followed.{among_or_not, cell_among}
use Rattle.r4_reach.proofs.r4_patch.Members.{Distinct, cases, here, later, none}
use Rattle.r4_reach.specs.r4_path.Steps.{Climbs, Step, news, olds}
use Rattle.r4_reach.proofs.r4_path.Rising.{follow_within}
use Rattle.r4_measure.specs.Budget.{AreSpent, AreUp, Budget, cells_from, spent_on}

-- ---- sums over cells

pub sums_less : (f g : CellSeen → ℕ) (cells : List CellSeen) → ((c : CellSeen) → Contains cells c → f c ≤ g c) → sum_by f cells ≤ sum_by g cells
sums_less f g [] less = omega arith
sums_less f g (c ∷ cs) less =
    let a = sum_by-cons f c cs in
    let b = sum_by-cons g c cs in
    let h = less c (here c cs) in
    let rest = sums_less f g cs (λ d m. less d (later c d cs m)) in
    omega (arith, a, b, h, rest)

-- where one of the cells has so much less
one_less : (f g : CellSeen → ℕ) (n : ℕ) (x : CellSeen) (cells : List CellSeen) → Contains cells x → ((c : CellSeen) → f c ≤ g c) → f x + n ≤ g x → sum_by f cells + n ≤ sum_by g cells
one_less f g n x [] at less mine = absurd (none x at)
one_less f g n x (c ∷ cs) at less mine =
    let a = sum_by-cons f c cs in
    let b = sum_by-cons g c cs in
    elim (cases c x cs at) [
      | inl same ↦
          let h : f c + n ≤ g c = subst (λ (d : CellSeen). f d + n ≤ g d) same mine in
          let rest = sums_less f g cs (λ d m. less d) in
          omega (arith, a, b, h, rest)
      | inr more ↦
          let h = less c in
          let rest = one_less f g n x cs more less mine in
          omega (arith, a, b, h, rest)
    ]

-- of the cells that have none of these numbers
abbrev pub outside : (ids : List ℕ) → (CellSeen → ℕ) → CellSeen → ℕ
outside ids f c = if is_among ids c.id then 0 else f c

test_less : (u v : Bool) (n : ℕ) → (if u || v then 0 else n) ≤ (if v then 0 else n)
test_less true true n = omega arith
test_less true false n = omega arith
test_less false true n = omega arith
test_less false false n = omega arith

test_gone : (u v : Bool) (n : ℕ) → u ≡ true → v ≡ false → (if u || v then 0 else n) + n ≤ (if v then 0 else n)
test_gone true true n a b = absurd cc
test_gone true false n a b = omega arith
test_gone false v n a b = absurd cc

-- members of different names, and the other cells
pub members_and_others : (f : CellSeen → ℕ) (xs cells : List CellSeen) → Distinct xs → ((x : CellSeen) → Contains xs x → Contains cells x) → sum_by f xs + sum_by (outside (ids_of xs) f) cells ≤ sum_by f cells
members_and_others f [] cells apart among = let same : sum_by (outside [] f) cells ≡ sum_by f cells = refl in omega (arith, same)
members_and_others f (x ∷ xs) cells (first, apart) among =
    let a = sum_by-cons f x xs in
    let h = members_and_others f xs cells apart (λ y m. among y (later x y xs m)) in
    let one = one_less (outside (x.id ∷ ids_of xs) f) (outside (ids_of xs) f) (f x) x cells (among x (here x xs))
    (λ c. test_less (x.id == c.id) (is_among (ids_of xs) c.id) (f c))
    (test_gone (x.id == x.id) (is_among (ids_of xs) x.id) (f x) (eq-eqb x.id x.id refl) mine) in
    omega (arith, a, h, one)
  where
    mine : is_among (ids_of xs) x.id ≡ false
    mine = elim (among_or_not (ids_of xs) x.id) [
      | inr h ↦ h
      | inl h ↦ let (y, m, id) = cell_among xs x.id h in absurd (first y m (sym id))
    ]

pub sum_without : (ids : List ℕ) (f : CellSeen → ℕ) (cells : List CellSeen) → sum_by f (without ids cells) ≡ sum_by (outside ids f) cells
sum_without ids f [] = refl
sum_without ids f (c ∷ cs) = by_test (is_among ids c.id) (sum_without ids f cs) ∙ sym (sum_by-cons (outside ids f) c cs)
  where
    by_test : (v : Bool) → sum_by f (without ids cs) ≡ sum_by (outside ids f) cs → sum_by f (if not v then c ∷ without ids cs else without ids cs) ≡ (if v then 0 else f c) + sum_by (outside ids f) cs
    by_test true h = omega (arith, h)
    by_test false h = let a = sum_by-cons f c (without ids cs) in omega (arith, h, a)

-- ---- a change

-- cells of one level
of_level : (b : Budget) (k : ℕ) (cells : List CellSeen) → ((c : CellSeen) → Contains cells c → c.level ≡ k) → cells_from b cells ≡ sum_by (λ (c : CellSeen). b k c.id) cells + length cells
of_level b k [] level = refl
of_level b k (c ∷ cs) level =
    let a = sum_by-cons (λ (x : CellSeen). 1 + b x.level x.id) c cs in
    let z = sum_by-cons (λ (x : CellSeen). b k x.id) c cs in
    let rest = of_level b k cs (λ x m. level x (later c x cs m)) in
    let same = ap (λ l. b l c.id) (level c (here c cs)) in
    omega (arith, a, z, rest, same)

-- the cells of one step
pub step_few : (b left : Budget) (s : Step) (l : ℕ) → s.old.level ≡ l → ((x : CellSeen) → Contains s.new x → x.level ≡ l) → ids_of s.new ≡ s.old.id ∷ ids_of (drop 1 s.new) → spent_on (left l) s ≤ b l s.old.id
    → cells_from left s.new ≤ 1 + b s.old.level s.old.id
step_few b left s l level levels first spent =
    let a = of_level left l s.new levels in
    let n = long s.new first in
    let same = ap (λ k. b k s.old.id) level in
    omega (arith, a, n, same, spent)
  where
    long : (cells : List CellSeen) → ids_of cells ≡ s.old.id ∷ ids_of (drop 1 cells) → length cells ≡ 1 + length (drop 1 cells)
    long [] e = absurd cc
    long (c ∷ cs) e = omega arith

-- a new root is one cell more
abbrev pub over_count : Option CellSeen → ℕ
over_count None = 0
over_count (Some c) = 1

-- and of the steps above it
pub steps_few : (b left : Budget) (f : Fresh) (below : Option Step) (l : ℕ) (steps : List Step) (over : Option CellSeen) → AreUp f b l steps → Climbs below steps → AreSpent b left l steps → ((c : CellSeen) → over ≡ Some c → left c.level c.id ≡ 0)
    → cells_from left (news steps over) ≤ cells_from b (olds steps) + over_count over
steps_few b left f below l [] None ups climbs spent top = omega arith
steps_few b left f below l [] (Some c) ups climbs spent top =
    let a = sum_by-cons (λ (x : CellSeen). 1 + left x.level x.id) c [] in
    let h = top c refl in
    omega (arith, a, h)
steps_few b left f below l (u ∷ us) over (up, ups) (step, climbs) (one, spent) top =
    let a = sum_by-append (λ (x : CellSeen). 1 + left x.level x.id) u.new (news us over) in
    let z = sum_by-cons (λ (x : CellSeen). 1 + b x.level x.id) u.old (olds us) in
    let h = step_few b left u (suc l) up.level (λ x m. (follow_within u.old.level (rank u.old.lo) (rank u.old.hi) u.new x step.ranges m).level_as ∙ up.level) step.first one in
    let rest = steps_few b left f (Some u) (suc l) us over ups climbs spent top in
    omega (arith, a, z, h, rest)
