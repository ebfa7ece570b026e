-- What a table has that is made level by level.
use Rattle.std.proofs.Common.{◌≡◌, ◌≢◌, inl, inr, ℕ, suc, ◌-◌, ◌≤◌, Bool, true, false, List, [], ◌∷◌, ◌++◌, map, refl, ap, sym, subst, ◌∙◌, arith}
use Rattle.std.specs.Prelude.{All, Contains, ◌==◌, ◌&&◌, if◌then◌else◌}
use Rattle.std.proofs.lemmas.Bool.{cases_eq, eq-eqb, ne_eqb}
use Rattle.std.proofs.lemmas.List.Elements.{All-append, All-cons, All-head, All-nil, All-tail, All-weaker}
use Rattle.r4_base.specs.declared.things.NodeId.{NodeId}
use Rattle.r4_extent_put.specs.r4_extent_change.r4_measure.r4_cell.Seen.{CellSeen}
use Rattle.r4_extent_put.proofs.r4_extent_change.r4_measure.r4_patch.Members.{cases, here, later, none}
use Rattle.r4_allowed.specs.Making.{IsOfTwig, IsRaised, IsUpTo, cell_entry, entries_at, entry_at, needed_at, needed_by, told_of, twig_entry}
use Rattle.r4_allowed.specs.Table.{budget_of}
use Rattle.r4_allowed.specs.declared.table.Allowance.{Allowance}

-- ---- entries of other levels

abbrev Apart : ℕ → Allowance → Type 0
Apart l a = a.level ≢ l

skip : (a : Allowance) (table : List Allowance) (l i : ℕ) → a.level ≢ l → budget_of (a ∷ table) l i ≡ budget_of table l i
skip a table l i other = by (a.level == l) (ne_eqb a.level l other)
  where
    by : (v : Bool) → v ≡ false → (if v && (a.id.0 == i) then a.most else budget_of table l i) ≡ budget_of table l i
    by true h = absurd cc
    by false h = refl

none_for : (table : List Allowance) (l i : ℕ) → All (Apart l) table → budget_of table l i ≡ 0
none_for [] l i apart = refl
none_for (a ∷ table) l i apart =
    skip a table l i (All-head (Apart l) a table apart) ∙ none_for table l i (All-tail (Apart l) a table apart)

behind : (xs ys : List Allowance) (l i : ℕ) → All (Apart l) xs → budget_of (xs ++ ys) l i ≡ budget_of ys l i
behind [] ys l i apart = refl
behind (a ∷ xs) ys l i apart =
    skip a (xs ++ ys) l i (All-head (Apart l) a xs apart) ∙ behind xs ys l i (All-tail (Apart l) a xs apart)

before : (xs ys : List Allowance) (l i : ℕ) → All (Apart l) ys → budget_of (xs ++ ys) l i ≡ budget_of xs l i
before [] ys l i apart = none_for ys l i apart
before (a ∷ xs) ys l i apart = by ((a.level == l) && (a.id.0 == i)) (before xs ys l i apart)
  where
    by : (v : Bool) → budget_of (xs ++ ys) l i ≡ budget_of xs l i
        → (if v then a.most else budget_of (xs ++ ys) l i) ≡ (if v then a.most else budget_of xs l i)
    by true h = refl
    by false h = h

-- ---- the entries of a level

AtLevel : ℕ → Allowance → Type 0
AtLevel l a = a.level ≡ l

entry_level : (u : ℕ → ℕ) (l : ℕ) (c : CellSeen) → All (AtLevel l) (entry_at u l c)
unfolding AtLevel
entry_level u l c = by (c.level == l)
  where
    by : (v : Bool) → All (AtLevel l) (if v then (cell_entry u l c ∷ []) else [])
    by true = All-cons (AtLevel l) (cell_entry u l c) [] refl (All-nil (AtLevel l))
    by false = All-nil (AtLevel l)

entries_level : (u : ℕ → ℕ) (l : ℕ) (cells : List CellSeen) → All (AtLevel l) (entries_at u l cells)
entries_level u l [] = All-nil (AtLevel l)
entries_level u l (c ∷ cells) = All-append (AtLevel l) (entry_at u l c) (entries_at u l cells) (entry_level u l c) (entries_level u l cells)

entries_apart : (u : ℕ → ℕ) (l k : ℕ) (cells : List CellSeen) → k ≢ l → All (Apart k) (entries_at u l cells)
unfolding AtLevel
entries_apart u l k cells other = All-weaker (AtLevel l) (Apart k) (λ a at is. other (sym is ∙ at)) (entries_at u l cells) (entries_level u l cells)

entries_have : (u : ℕ → ℕ) (l i : ℕ) (cells : List CellSeen) → budget_of (entries_at u l cells) l i ≡ needed_at u cells l i
entries_have u l i [] = refl
entries_have u l i (c ∷ cells) = by (c.level == l) (entries_have u l i cells)
  where
    here : (t w : Bool) → t ≡ true → budget_of (entries_at u l cells) l i ≡ needed_at u cells l i
        → (if t && w then needed_by u c else budget_of (entries_at u l cells) l i)
        ≡ (if w then needed_by u c else needed_at u cells l i)
    here true true h rest = refl
    here true false h rest = rest
    here false w h rest = absurd cc

    by : (v : Bool) → budget_of (entries_at u l cells) l i ≡ needed_at u cells l i
        → budget_of ((if v then (cell_entry u l c ∷ []) else []) ++ entries_at u l cells) l i
        ≡ (if v && (c.id == i) then needed_by u c else needed_at u cells l i)
    by true rest = here (l == l) (c.id == i) (eq-eqb l l refl) rest
    by false rest = rest

-- ---- twigs alone

of_twig_apart : (table : List Allowance) (l : ℕ) → l ≢ 2 → All IsOfTwig table → All (Apart l) table
of_twig_apart table l other twigs = All-weaker IsOfTwig (Apart l) (λ a at is. other (sym is ∙ at)) table twigs

pub twigs_alone : (top : ℕ) (cells : List CellSeen) (table : List Allowance) → top ≤ 2 → All IsOfTwig table
    → IsRaised top cells (budget_of table 2) (budget_of table)
twigs_alone top cells table low twigs = record {
  low = λ l i one. none_for table l i (of_twig_apart table l (λ is. absurd (omega (arith, is, one))) twigs);
  twigs = λ i. refl;
  above = λ l i two less. absurd (omega (arith, two, less, low));
  over = λ l i three less. none_for table l i (of_twig_apart table l (λ is. absurd (omega (arith, is, three))) twigs);
}

pub twigs_low : (top : ℕ) (table : List Allowance) → All IsOfTwig table → All (IsUpTo top) table
twigs_low top table twigs = All-weaker IsOfTwig (IsUpTo top) (λ a is. inl (omega (arith, is))) table twigs

-- ---- one level more

module _ (p : ℕ) (cells : List CellSeen) (given : ℕ → ℕ) (mid : List Allowance) (high : 2 ≤ p)
    (raised : IsRaised p cells given (budget_of mid)) (levels : All (IsUpTo p) mid) where
  abbrev now : List Allowance
  now = mid ++ entries_at (budget_of mid p) (suc p) cells

  kept : (l i : ℕ) → l ≢ suc p → budget_of now l i ≡ budget_of mid l i
  kept l i other = before mid (entries_at (budget_of mid p) (suc p) cells) l i (entries_apart (budget_of mid p) (suc p) l cells other)

  kept_all : (l : ℕ) → l ≢ suc p → budget_of now l ≡ budget_of mid l
  kept_all l other = λ j. λ i. kept l i other j

  added : (i : ℕ) → budget_of now (suc p) i ≡ needed_at (budget_of mid p) cells (suc p) i
  added i =
      behind mid (entries_at (budget_of mid p) (suc p) cells) (suc p) i
      (All-weaker (IsUpTo p) (Apart (suc p)) (λ a at is. elim at [ inl two ↦ absurd (omega (arith, two, is, high)) | inr less ↦ absurd (omega (arith, less, is)) ]) mid levels)
      ∙ entries_have (budget_of mid p) (suc p) i cells

  pub one_more : IsRaised (suc p) cells given (budget_of now)
  one_more = record {
    low = λ l i one. kept l i (λ is. absurd (omega (arith, is, one, high))) ∙ raised.low l i one;
    twigs = λ i. kept 2 i (λ is. absurd (omega (arith, is, high))) ∙ raised.twigs i;
    above = λ l i two less.
        let same = kept_all l (λ is. absurd (omega (arith, is, less))) in
        elim (cases_eq l p) [
          | inl is ↦
              subst (λ k. budget_of now (suc k) i ≡ needed_at (budget_of now k) cells (suc k) i) (sym is)
              (added i ∙ ap (λ u. needed_at u cells (suc p) i) (sym (kept_all p (λ e. absurd (omega (arith, e))))))
          | inr other ↦
              kept (suc l) i (λ e. other (omega (arith, e)))
              ∙ (raised.above l i two (let ne : l ≢ p = other in omega (arith, less)) ∙ ap (λ u. needed_at u cells (suc l) i) (sym same))
        ];
    over = λ l i three less. kept l i (λ is. absurd (omega (arith, is, less))) ∙ raised.over l i three (omega (arith, less));
  }

  pub more_levels : All (IsUpTo (suc p)) now
  unfolding AtLevel
  more_levels =
      All-append (IsUpTo (suc p)) mid (entries_at (budget_of mid p) (suc p) cells)
      (All-weaker (IsUpTo p) (IsUpTo (suc p)) (λ a at. elim at [ inl two ↦ inl two | inr less ↦ inr (omega (arith, less)) ]) mid levels)
      (All-weaker (AtLevel (suc p)) (IsUpTo (suc p)) (λ a is. inr (omega (arith, is))) (entries_at (budget_of mid p) (suc p) cells) (entries_level (budget_of mid p) (suc p) cells))

-- ---- in the code's words, with a level and the one below it

module _ (top : ℕ) (cells : List CellSeen) (given : ℕ → ℕ) (mid new : List Allowance) (high : 3 ≤ top)
    (raised : IsRaised (top - 1) cells given (budget_of mid)) (levels : All (IsUpTo (top - 1)) mid)
    (is : new ≡ mid ++ entries_at (budget_of mid (top - 1)) top cells) where
  up : suc (top - 1) ≡ top
  up = omega (arith, high)

  is_now : new ≡ now (top - 1) cells given mid (omega (arith, high)) raised levels
  is_now = is ∙ ap (λ k. mid ++ entries_at (budget_of mid (top - 1)) k cells) (sym up)

  pub level_raised : IsRaised top cells given (budget_of new)
  level_raised =
      subst (λ k. IsRaised k cells given (budget_of new)) up
      (subst (λ table. IsRaised (suc (top - 1)) cells given (budget_of table)) (sym is_now)
      (one_more (top - 1) cells given mid (omega (arith, high)) raised levels))

  pub level_levels : All (IsUpTo top) new
  level_levels =
      subst (λ k. All (IsUpTo k) new) up
      (subst (All (IsUpTo (suc (top - 1)))) (sym is_now) (more_levels (top - 1) cells given mid (omega (arith, high)) raised levels))

-- ---- what is told of twigs

pub of_twigs : (xs : List (NodeId × ℕ)) → All IsOfTwig (map twig_entry xs)
of_twigs [] = All-nil IsOfTwig
of_twigs (x ∷ xs) = All-cons IsOfTwig (twig_entry x) (map twig_entry xs) refl (of_twigs xs)

told : (xs : List (NodeId × ℕ)) (i : ℕ) → budget_of (map twig_entry xs) 2 i ≡ told_of xs i
told [] i = refl
told (x ∷ xs) i = by (x.0.0 == i) (told xs i)
  where
    by : (v : Bool) → budget_of (map twig_entry xs) 2 i ≡ told_of xs i
        → (if v then x.1 else budget_of (map twig_entry xs) 2 i) ≡ (if v then x.1 else told_of xs i)
    by true h = refl
    by false h = h

pub raised_told : (top : ℕ) (cells : List CellSeen) (xs : List (NodeId × ℕ)) (old new : List Allowance) → old ≡ map twig_entry xs
    → IsRaised top cells (budget_of old 2) (budget_of new) → IsRaised top cells (told_of xs) (budget_of new)
raised_told top cells xs old new is raised =
    let same : budget_of old 2 ≡ told_of xs = ap (λ table. budget_of table 2) is ∙ (λ j. λ i. told xs i j) in
    subst (λ u. IsRaised top cells u (budget_of new)) same raised

-- ---- one entry

pub entry_here : (u : ℕ → ℕ) (l : ℕ) (c : CellSeen) → c.level ≡ l → entries_at u l (c ∷ []) ≡ cell_entry u l c ∷ []
entry_here u l c is = by (c.level == l) (eq-eqb c.level l is)
  where
    by : (v : Bool) → v ≡ true → (if v then (cell_entry u l c ∷ []) else []) ++ [] ≡ cell_entry u l c ∷ []
    by true h = refl
    by false h = absurd cc

-- a number is told, and each time so many or more: so is what counts
pub told_least : (xs : List (NodeId × ℕ)) (i n : ℕ) → (x : NodeId × ℕ) × Contains xs x × (x.0.0 ≡ i)
    → ((x : NodeId × ℕ) → Contains xs x → x.0.0 ≡ i → n ≤ x.1) → n ≤ told_of xs i
told_least [] i n (x, member, is) least = absurd (none x member)
told_least (y ∷ xs) i n (x, member, is) least = elim (cases_eq y.0.0 i) [
  | inl same ↦ at_first (y.0.0 == i) (eq-eqb y.0.0 i same) (least y (here y xs) same)
  | inr other ↦ at_later (y.0.0 == i) (ne_eqb y.0.0 i other) (told_least xs i n (x, behind_it other, is) (λ z at. least z (later y z xs at)))
]
  where
    at_first : (v : Bool) → v ≡ true → n ≤ y.1 → n ≤ (if v then y.1 else told_of xs i)
    at_first true h le = le
    at_first false h le = absurd cc

    at_later : (v : Bool) → v ≡ false → n ≤ told_of xs i → n ≤ (if v then y.1 else told_of xs i)
    at_later true h le = absurd cc
    at_later false h le = le

    behind_it : y.0.0 ≢ i → Contains xs x
    behind_it other = elim (cases y x xs member) [
      | inl same ↦ absurd (other (ap (λ (z : NodeId × ℕ). z.0.0) (sym same) ∙ is))
      | inr rest ↦ rest
    ]
