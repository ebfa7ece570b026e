-- A pool that keeps what it answers, over one that keeps nothing.
use Rattle.std.proofs.Common.{◌≡◌, ◌⊎◌, inl, inr, ⊎_elim, ℕ, ◌<◌, Bool, true, false, not, ◌&&◌, ◌||◌, cond, List, refl, sym, ap, subst, ◌∙◌}
use Rattle.std.specs.Prelude.{Option, Some, None, IsSome, is_some, Result, Ok, Err, IfOk, IfErr, ◌==◌, nat_eq, nat_lt, if◌then◌else◌}
use Rattle.std.specs.Arc.{arc_value}
use Rattle.std.specs.Map.{lookup}
use Rattle.std.specs.Option.{option_map, option_or}
use Rattle.std.specs.Result.{IsErrAnd}
use Rattle.std.proofs.lemmas.Bool.{eqb-true, eq-eqb, lt-ltb, ltb-true}
use Rattle.std.proofs.lemmas.Option.{none-some, same_Some}
use Rattle.r4_base.specs.Cell.{cell_fault}
use Rattle.r4_base.specs.Key.{rank}
use Rattle.r4_base.specs.Tree.{Name}
use Rattle.r4_base.specs.declared.items.CellFault.TheVariants.{Level, Range}
use Rattle.r4_cell.specs.Seen.{CellSeen}
use Rattle.r4_search.specs.Pool.{PoolState, FaultIs, Fetches, Goes, IsAnswer, IsFrom, IsKeptOrRead, IsKnown, IsNamed, IsNamedFrom, IsOf, IsRead, IsRefused, KnowsNames, place_fault}
use Rattle.r4_search.specs.Keeping.{IsAgain, Keeps, NamesStand, Shared, WasAnswered, WereAnswered, keeping_state, met_in}
use Rattle.r4_search.specs.declared.pool.FetchFault.{FetchFault}
use Rattle.r4_search.specs.declared.pool.FetchFault.TheVariants.{Read, Damaged, Memory}
use Rattle.r4_search.proofs.Walks.{goes_same, hangs_on, known_on, named_below, named_more}

-- ---- the level and the range that are asked for

pub fits : (n : Name) (k : CellSeen) → k.id ≡ n.id → place_fault n k ≡ None → IsNamed n k
fits n k id h = let at = tests (k.level == n.level) (rank k.lo == n.lo) (rank k.hi == n.hi) refl refl refl h in record { id = id; level = at.0; lo = at.1; hi = at.2 }
  where
    tests : (a b c : Bool) → (k.level == n.level) ≡ a → (rank k.lo == n.lo) ≡ b → (rank k.hi == n.hi) ≡ c → (if not a then Some Level else if b && c then None else Some (Range 0)) ≡ None → (k.level ≡ n.level) × (rank k.lo ≡ n.lo) × (rank k.hi ≡ n.hi)
    tests true true true x y z g = (eqb-true _ _ x, eqb-true _ _ y, eqb-true _ _ z)
    tests true true false x y z g = absurd cc
    tests true false c x y z g = absurd cc
    tests false b c x y z g = absurd cc

-- ---- what is of the pool below is of the pool, and the other way round

-- what was answered is of the pool
of_answered : (p : PoolState) (i : ℕ) (c : CellSeen) → WasAnswered p i c → IsOf p c
of_answered p i c was = subst (λ (j : ℕ). IsKeptOrRead p.blocks (p.kept j) (p.meant j) c) (sym was.id) (by (p.kept i) refl)
  where
    meant : (o : Option (List ℕ)) → p.meant i ≡ o → p.kept i ≡ None → IsRead p.blocks o c
    meant None e none = was.accepted none
    meant (Some b) e none = was.read none b e

    by : (o : Option CellSeen) → p.kept i ≡ o → IsKeptOrRead p.blocks o (p.meant i) c
    by (Some k) e = was.kept k e
    by None e = meant (p.meant i) refl e

of_from : (p : PoolState) (c : CellSeen) (o : Option CellSeen) → p.kept c.id ≡ o → IsKeptOrRead p.blocks o (p.meant c.id) c → IsFrom p c
of_from p c (Some k) e h = inl (e ∙ ap Some (sym h))
of_from p c None e h = inr h

module _ (p : PoolState) (all : Bool) (met : List (ℕ × Shared)) (sound : WereAnswered p met) where
  abbrev pub top : PoolState
  top = keeping_state p all met

  from_in : (c : CellSeen) → IsFrom top c → IsFrom p c
  from_in c (inl kept) = by (met_in met c.id) refl kept
    where
      by : (o : Option CellSeen) → met_in met c.id ≡ o → option_or o (p.kept c.id) ≡ Some c → IsFrom p c
      by (Some k) e h =
          let same : k ≡ c = same_Some k c h in
          subst (IsFrom p) same (of_from p k (p.kept k.id) refl (of_answered p c.id k (sound c.id k e)))
      by None e h = inl h
  from_in c (inr read) = inr read

  from_out : (c : CellSeen) → IsFrom p c → IsFrom top c
  from_out c (inl kept) = inl (by (met_in met c.id) refl)
    where
      by : (o : Option CellSeen) → met_in met c.id ≡ o → option_or o (p.kept c.id) ≡ Some c
      by (Some k) e = ap Some ((sound c.id k e).kept c kept)
      by None e = kept
  from_out c (inr read) = inr read

  -- what can be asked for of the pool, and was not met, can be of the one below
  pub known_in : (n : Name) → met_in met n.id ≡ None → IsKnown top n → IsKnown p n
  known_in n none h = record {
    stands = ⊎_elim (λ some. inl (subst (λ (o : Option CellSeen). IsSome (option_or o (p.kept n.id))) none some)) (λ below. inr below) h.stands;
    named = named_more p.root (IsFrom top) (IsFrom p) n from_in h.named;
  }

  some_out : (n : Name) (o : Option CellSeen) → IsSome (p.kept n.id) → IsSome (option_or o (p.kept n.id))
  some_out n (Some k) h = refl
  some_out n None h = h

  pub known_out : (n : Name) → IsKnown p n → IsKnown top n
  known_out n h = record {
    stands = ⊎_elim (λ some. inl (some_out n (met_in met n.id) some)) (λ below. inr below) h.stands;
    named = named_more p.root (IsFrom p) (IsFrom top) n from_out h.named;
  }

  -- what was not met is what the one below has
  pub of_out : (c : CellSeen) → met_in met c.id ≡ None → IsOf p c → IsOf top c
  of_out c none h = subst (λ (o : Option CellSeen). IsKeptOrRead p.blocks (option_or o (p.kept c.id)) (p.meant c.id) c) (sym none) h

  -- what a cell names that was met can be asked for
  pub knows_met : (n : Name) (c : CellSeen) → IsKnown top n → IsNamed n c → met_in met c.id ≡ Some c → NamesStand p c → KnowsNames top c
  knows_met n c known is met_is names m has = record {
    stands = stands (nat_lt m.id p.blocks) (is_some (p.kept m.id)) refl refl (names m has);
    named = named_below p.root (IsFrom top) n m c known.named is (inl (ap (λ (o : Option CellSeen). option_or o (p.kept c.id)) met_is)) has;
  }
    where
      some_kept : (o : Option CellSeen) → p.kept m.id ≡ o → is_some o ≡ true → IsSome (p.kept m.id)
      some_kept (Some k) e h = rw e refl
      some_kept None e h = absurd cc

      stands : (low kept : Bool) → nat_lt m.id p.blocks ≡ low → is_some (p.kept m.id) ≡ kept → (low || kept) ≡ true → IsSome (top.kept m.id) ⊎ (m.id < p.blocks)
      stands true kept e f h = inr (ltb-true _ _ e)
      stands false true e f h = inl (some_out m (met_in met m.id) (some_kept (p.kept m.id) refl f))
      stands false false e f h = absurd cc

  pub of_met : (c : CellSeen) → met_in met c.id ≡ Some c → IsOf top c
  of_met c is = subst (λ (o : Option CellSeen). IsKeptOrRead p.blocks (option_or o (p.kept c.id)) (p.meant c.id) c) (sym is) refl

-- ---- the pool below goes on, and keeps nothing

module _ (p q : PoolState) (goes : Goes p q) (still : (i : ℕ) → q.kept i ≡ p.kept i) where
  pub of_on : (c : CellSeen) → IsOf p c → IsOf q c
  of_on c h = subst (λ (b : ℕ). IsKeptOrRead b (q.kept c.id) (q.meant c.id) c) (sym goes.blocks)
      (subst (λ (m : Option (List ℕ)). IsKeptOrRead p.blocks (q.kept c.id) m c) (sym (goes.meant c.id))
      (subst (λ (k : Option CellSeen). IsKeptOrRead p.blocks k (p.meant c.id) c) (sym (still c.id)) h))

  names_on : (c : CellSeen) → NamesStand p c → NamesStand q c
  names_on c names m has = subst (λ (b : ℕ). (nat_lt m.id b || is_some (q.kept m.id)) ≡ true) (sym goes.blocks)
      (subst (λ (k : Option CellSeen). (nat_lt m.id p.blocks || is_some k) ≡ true) (sym (still m.id)) (names m has))

  answered_on : (i : ℕ) (c : CellSeen) → WasAnswered p i c → WasAnswered q i c
  answered_on i c h = record {
    id = h.id;
    kept = λ k e. h.kept k (sym (still i) ∙ e);
    accepted = λ none.
        subst (λ (n : ℕ). cell_fault false n c.level (rank c.lo) (rank c.hi) c.block ≡ None) (sym goes.blocks)
        (h.accepted (sym (still i) ∙ none));
    read = λ none b e. subst (λ (n : ℕ). IsRead n (Some b) c) (sym goes.blocks) (h.read (sym (still i) ∙ none) b (sym (goes.meant i) ∙ e));
    stands = h.stands;
    names = names_on c h.names;
  }

  pub were_answered_on : (met : List (ℕ × Shared)) → WereAnswered p met → WereAnswered q met
  were_answered_on met sound i c h = answered_on i c (sound i c h)

  module _ (all : Bool) (met more : List (ℕ × Shared)) where
    abbrev pub old : PoolState
    old = keeping_state p all met

    abbrev pub new : PoolState
    new = keeping_state q all more

    -- nothing more was met
    module _ (same : (i : ℕ) → met_in more i ≡ met_in met i) where
      same_kept : (i : ℕ) → new.kept i ≡ old.kept i
      same_kept i = ap (λ (o : Option CellSeen). option_or o (q.kept i)) (same i) ∙ ap (λ (k : Option CellSeen). option_or (met_in met i) k) (still i)

      kept_on : (i : ℕ) (c : CellSeen) → old.kept i ≡ Some c → new.kept i ≡ Some c
      kept_on i c h = same_kept i ∙ h

      none_more : (i : ℕ) (c : CellSeen) → new.kept i ≡ Some c → old.kept i ≡ None → ⊥
      none_more i c h before = none-some c (sym before ∙ (sym (same_kept i) ∙ h))

      none_met : (i : ℕ) (c : CellSeen) → new.met i ≡ Some c → old.met i ≡ None → ⊥
      none_met i c h before = none-some c (sym before ∙ (sym (same i) ∙ h))

      pub still_goes : Goes old new
      still_goes = record {
        root = goes.root;
        blocks = goes.blocks;
        faults = goes.faults;
        meant = goes.meant;
        kept = kept_on;
        added = λ i c h before. absurd (none_more i c h before);
        known = known_on old new goes.root goes.blocks goes.meant kept_on;
        hangs = hangs_on old new goes.root goes.blocks goes.meant kept_on (λ i c h before. absurd (none_more i c h before));
        met = λ i c h. same i ∙ h;
        added_met = λ i c h before. absurd (none_met i c h before);
        keeps = λ level. refl;
      }

      pub still_fetched : {T : Type 0} (view : T → CellSeen) (n : Name) (f : FetchFault) → IsRefused n old f new → Fetches view n old (Err f) new
      still_fetched {T} view n f why = record {
        goes = still_goes;
        only = λ i c h before. absurd (none_more i c h before);
        only_met = λ i c h before. absurd (none_met i c h before);
        still = λ keeps i. same_kept i;
        ok = tt;
        met = tt;
        err = why;
      }

      -- a cell is answered that is kept already, or is of a level that is not kept
      pub still_answered : {T : Type 0} (view : T → CellSeen) (n : Name) (y : T) → IsAnswer n old (view y) new
          → (old.keeps n.level ≡ true → new.met n.id ≡ Some (view y)) → Fetches view n old (Ok y) new
      still_answered {T} view n y answer met = record {
        goes = still_goes;
        only = λ i c h before. absurd (none_more i c h before);
        only_met = λ i c h before. absurd (none_met i c h before);
        still = λ keeps i. same_kept i;
        ok = answer;
        met = met;
        err = tt;
      }

    -- a cell was met
    module _ (x : CellSeen) (n : Name) (is : IsNamed n x) (from : IsNamedFrom p.root (IsFrom old) n) (none : met_in met x.id ≡ None) (of : IsOf p x)
        (keeps : (i : ℕ) → met_in more i ≡ cond (x.id == i) (Some x) (met_in met i)) where
      by_test : (i : ℕ) (t : Bool) → (x.id == i) ≡ t → option_or (cond t (Some x) (met_in met i)) (p.kept i) ≡ cond t (Some x) (old.kept i)
      by_test i true h = refl
      by_test i false h = refl

      kept_is : (i : ℕ) → new.kept i ≡ cond (x.id == i) (Some x) (old.kept i)
      kept_is i = ap (λ (o : Option CellSeen). option_or o (q.kept i)) (keeps i)
          ∙ (ap (λ (k : Option CellSeen). option_or (cond (x.id == i) (Some x) (met_in met i)) k) (still i) ∙ by_test i (x.id == i) refl)

      below : (i : ℕ) → x.id ≡ i → old.kept i ≡ p.kept i
      below i at = ap (λ (o : Option CellSeen). option_or o (p.kept i)) (ap (met_in met) (sym at) ∙ none)

      -- what was kept is kept
      kept_still : (i : ℕ) (c : CellSeen) (t : Bool) → (x.id == i) ≡ t → old.kept i ≡ Some c → cond t (Some x) (old.kept i) ≡ Some c
      kept_still i c true h k =
          let at : x.id ≡ i = eqb-true _ _ h in
          let was : p.kept x.id ≡ Some c = ap p.kept at ∙ (sym (below i at) ∙ k) in
          ap Some (subst (λ (o : Option CellSeen). IsKeptOrRead p.blocks o (p.meant x.id) x) was of)
      kept_still i c false h k = k

      one_more : (i : ℕ) (c : CellSeen) (t : Bool) → (x.id == i) ≡ t → cond t (Some x) (old.kept i) ≡ Some c → old.kept i ≡ None → (c.id ≡ i) × IsRead p.blocks (p.meant i) c × (c ≡ x)
      one_more i c true h k before =
          let same : x ≡ c = same_Some x c k in
          let at : x.id ≡ i = eqb-true _ _ h in
          let was : p.kept x.id ≡ None = ap p.kept at ∙ (sym (below i at) ∙ before) in
          let read : IsRead p.blocks (p.meant x.id) x = subst (λ (o : Option CellSeen). IsKeptOrRead p.blocks o (p.meant x.id) x) was of in
          subst (λ (y : CellSeen). (y.id ≡ i) × IsRead p.blocks (p.meant i) y × (y ≡ x)) same (at, subst (λ (j : ℕ). IsRead p.blocks (p.meant j) x) at read, refl)
      one_more i c false h k before = absurd (none-some c (sym before ∙ k))

      met_kept_on : (i : ℕ) (c : CellSeen) → old.kept i ≡ Some c → new.kept i ≡ Some c
      met_kept_on i c h = kept_is i ∙ kept_still i c (x.id == i) refl h

      is_more : (i : ℕ) (c : CellSeen) → new.kept i ≡ Some c → old.kept i ≡ None → (c.id ≡ i) × IsRead p.blocks (p.meant i) c × (c ≡ x)
      is_more i c h before = one_more i c (x.id == i) refl (sym (kept_is i) ∙ h) before

      met_before : (i : ℕ) (c : CellSeen) (t : Bool) → (x.id == i) ≡ t → met_in met i ≡ Some c → cond t (Some x) (met_in met i) ≡ Some c
      met_before i c true h k = absurd (none-some c (sym none ∙ (ap (met_in met) (eqb-true _ _ h) ∙ k)))
      met_before i c false h k = k

      met_after : (i : ℕ) (c : CellSeen) (t : Bool) → (x.id == i) ≡ t → cond t (Some x) (met_in met i) ≡ Some c → met_in met i ≡ None → c ≡ x
      met_after i c true h k before = sym (same_Some x c k)
      met_after i c false h k before = absurd (none-some c (sym before ∙ k))

      named_after : (i : ℕ) (c : CellSeen) (t : Bool) → (x.id == i) ≡ t → cond t (Some x) (met_in met i) ≡ Some c → met_in met i ≡ None → c.id ≡ i
      named_after i c true h k before = ap (λ (y : CellSeen). y.id) (sym (same_Some x c k)) ∙ eqb-true _ _ h
      named_after i c false h k before = absurd (none-some c (sym before ∙ k))

      met_goes : Goes old new
      met_goes = record {
        root = goes.root;
        blocks = goes.blocks;
        faults = goes.faults;
        meant = goes.meant;
        kept = met_kept_on;
        added = λ i c h before. let a = is_more i c h before in (a.0, a.1);
        known = known_on old new goes.root goes.blocks goes.meant met_kept_on;
        hangs = hangs_on old new goes.root goes.blocks goes.meant met_kept_on (λ i c h before. (n, subst (IsNamed n) (sym (is_more i c h before).2) is, from));
        met = λ i c h. keeps i ∙ met_before i c (x.id == i) refl h;
        added_met = λ i c h before. named_after i c (x.id == i) refl (sym (keeps i) ∙ h) before;
        keeps = λ level. refl;
      }

      pub met_here : new.met x.id ≡ Some x
      met_here = keeps x.id ∙ ap (λ (t : Bool). cond t (Some x) (met_in met x.id)) (eq-eqb x.id x.id refl)

      pub met_fetched : {T : Type 0} (view : T → CellSeen) (y : T) → view y ≡ x → old.keeps n.level ≡ true → IsAnswer n old x new → Fetches view n old (Ok y) new
      met_fetched {T} view y same kept answer = record {
        goes = met_goes;
        only = λ i c h before. (is_more i c h before).2 ∙ sym same;
        only_met = λ i c h before. met_after i c (x.id == i) refl (sym (keeps i) ∙ h) before ∙ sym same;
        still = λ not_kept i. let e = sym kept ∙ not_kept in absurd cc;
        ok = subst (λ (c : CellSeen). IsAnswer n old c new) (sym same) answer;
        met = λ h. ap new.met (sym is.id) ∙ (met_here ∙ ap Some (sym same));
        err = tt;
      }

-- every cell that was met was answered
pub met_more : (p : PoolState) (met more : List (ℕ × Shared)) (x : CellSeen) {T : Type 0} (r : Result T FetchFault) → WereAnswered p met → WasAnswered p x.id x → Keeps met x r more → WereAnswered p more
met_more p met more x {T} (Ok y) all sound keeps i c h = by_name (x.id == i) refl (sym (keeps i) ∙ h)
  where
    by_name : (t : Bool) → (x.id == i) ≡ t → cond t (Some x) (met_in met i) ≡ Some c → WasAnswered p i c
    by_name true is g = subst (WasAnswered p i) (same_Some x c g) (subst (λ (j : ℕ). WasAnswered p j x) (eqb-true _ _ is) sound)
    by_name false is g = all i c g
met_more p met more x {T} (Err (Read at faults)) all sound keeps i c h = absurd keeps
met_more p met more x {T} (Err (Damaged at fault)) all sound keeps i c h = absurd keeps
met_more p met more x {T} (Err Memory) all sound keeps i c h = all i c (sym (keeps i) ∙ h)

-- ---- what `fetch` answers

module _ {T : Type 0} (view : T → CellSeen) (p q : PoolState) (all : Bool) (met : List (ℕ × Shared)) (sound : WereAnswered p met) (n : Name) where
  -- a cell that was met is asked for again
  pub again_fetched : (k : CellSeen) → IsKnown (keeping_state p all met) n → met_in met n.id ≡ Some k → (r : Result T FetchFault) → IfOk r (λ y. (view y ≡ k) × (place_fault n k ≡ None)) → IfErr r (λ e. IsAgain n k e)
      → Fetches view n (keeping_state p all met) r (keeping_state p all met)
  again_fetched k known is (Ok y) ok err =
      let was = sound n.id k is in
      let here : met_in met k.id ≡ Some k = ap (met_in met) was.id ∙ is in
      let named = fits n k was.id ok.1 in
      let answer : IsAnswer n (keeping_state p all met) k (keeping_state p all met) = record {
        named = named;
        is_of = of_met p all met sound k here;
        stands = was.stands;
        knows = knows_met p all met sound n k known named here was.names;
      } in
      still_answered p p (goes_same p) (λ i. refl) all met met (λ i. refl) view n y
      (subst (λ (c : CellSeen). IsAnswer n (keeping_state p all met) c (keeping_state p all met)) (sym ok.0) answer)
      (λ keeps. is ∙ ap Some (sym ok.0))
  again_fetched k known is (Err (Read at faults)) ok err = absurd err
  again_fetched k known is (Err (Damaged at fault)) ok err =
      still_fetched p p (goes_same p) (λ i. refl) all met met (λ i. refl) view n (Damaged at fault)
      (err.0, subst (λ (o : Option CellSeen). FaultIs p.blocks n (option_or o (p.kept n.id)) (p.meant n.id) (Some fault)) (sym is) (sym err.1))
  again_fetched k known is (Err Memory) ok err = still_fetched p p (goes_same p) (λ i. refl) all met met (λ i. refl) view n Memory tt

  module _ (none : met_in met n.id ≡ None) (goes : Goes p q) (still : (i : ℕ) → q.kept i ≡ p.kept i) where
    -- why the pool below refuses it
    pub refused_fetched : (f : FetchFault) → IsRefused n p f q → Fetches view n (keeping_state p all met) (Err f) (keeping_state q all met)
    refused_fetched f why = still_fetched p q goes still all met met (λ i. refl) view n f (refused f why)
      where
        refused : (f : FetchFault) → IsRefused n p f q → IsRefused n (keeping_state p all met) f (keeping_state q all met)
        refused (Read at faults) h = (ap (λ (o : Option CellSeen). option_or o (p.kept n.id)) none ∙ h.0, h.1, h.2, h.3)
        refused (Damaged at fault) h = (h.0, subst (λ (o : Option CellSeen). FaultIs p.blocks n (option_or o (p.kept n.id)) (p.meant n.id) (Some fault)) (sym none) h.1)
        refused Memory h = tt

    answer_out : (more : List (ℕ × Shared)) (x : CellSeen) → IsAnswer n p x q → WereAnswered q more → IsAnswer n (keeping_state p all met) x (keeping_state q all more)
    answer_out more x answer now = record {
      named = answer.named;
      is_of = of_out p all met sound x (ap (met_in met) answer.named.id ∙ none) answer.is_of;
      stands = answer.stands;
      knows = λ m has. known_out q all more now m (answer.knows m has);
    }

    -- a data block that is not kept
    pub passed_fetched : (y : T) → IsAnswer n p (view y) q → (all || nat_lt 0 n.level) ≡ false → Fetches view n (keeping_state p all met) (Ok y) (keeping_state q all met)
    passed_fetched y answer unkept = still_answered p q goes still all met met (λ i. refl) view n y
        (answer_out met (view y) answer (were_answered_on p q goes still met sound)) (λ keeps. let e = sym keeps ∙ unkept in absurd cc)

    pub was_answered : (x : CellSeen) → IsAnswer n p x q → WasAnswered q x.id x
    was_answered x answer = record {
      id = refl;
      kept = λ k e. subst (λ (o : Option CellSeen). IsKeptOrRead q.blocks o (q.meant x.id) x) e of;
      accepted = λ none. is_accepted (q.meant x.id)
          (subst (λ (o : Option CellSeen). IsKeptOrRead q.blocks o (q.meant x.id) x) none of);
      read = λ none b e. subst (λ (m : Option (List ℕ)). IsRead q.blocks m x) e (subst (λ (o : Option CellSeen). IsKeptOrRead q.blocks o (q.meant x.id) x) none of);
      stands = answer.stands;
      names = names;
    }
      where
        of : IsOf q x
        of = of_on p q goes still x answer.is_of

        is_accepted : (o : Option (List ℕ)) → IsRead q.blocks o x
            → cell_fault false q.blocks x.level (rank x.lo) (rank x.hi) x.block ≡ None
        is_accepted None h = h
        is_accepted (Some b) h =
            subst (λ (y : List ℕ). cell_fault false q.blocks x.level (rank x.lo) (rank x.hi) y ≡ None) (sym h.0) h.1

        some_is : (o : Option CellSeen) → IsSome o → is_some o ≡ true
        some_is (Some k) h = refl
        some_is None h = absurd cc

        or_true : (t : Bool) → (t || true) ≡ true
        or_true true = refl
        or_true false = refl

        names : NamesStand q x
        names m has = ⊎_elim
            (λ some. subst (λ (t : Bool). (nat_lt m.id q.blocks || t) ≡ true) (sym (some_is (q.kept m.id) some)) (or_true (nat_lt m.id q.blocks)))
            (λ below. subst (λ (t : Bool). (t || is_some (q.kept m.id)) ≡ true) (sym (lt-ltb _ _ below)) refl)
            (answer.knows m has).stands

    -- a cell that the pool below answered is met, where there is memory
    pub kept_fetched : (more : List (ℕ × Shared)) (x : CellSeen) → IsAnswer n p x q → IsKnown (keeping_state p all met) n → (all || nat_lt 0 n.level) ≡ true → (r : Result T FetchFault) → IfOk r (λ y. view y ≡ x) → Keeps met x r more
        → Fetches view n (keeping_state p all met) r (keeping_state q all more)
    kept_fetched more x answer known kept (Ok y) ok keeps =
        let none_there = ap (met_in met) answer.named.id ∙ none in
        let now = met_more q met more x (Ok y) (were_answered_on p q goes still met sound) (was_answered x answer) keeps in
        met_fetched p q goes still all met more x n answer.named known.named none_there answer.is_of keeps view y ok kept (answer_out more x answer now)
    kept_fetched more x answer known kept (Err (Read at faults)) ok keeps = absurd keeps
    kept_fetched more x answer known kept (Err (Damaged at fault)) ok keeps = absurd keeps
    kept_fetched more x answer known kept (Err Memory) ok keeps = still_fetched p q goes still all met more keeps view n Memory tt

-- ---- what the map has

pub found_is : (met : List (ℕ × Shared)) (i : ℕ) (x : Shared) → Some x ≡ lookup (nat_eq i) met → met_in met i ≡ Some (arc_value x)
found_is met i x h = ap (λ (o : Option Shared). option_map (λ (y : Shared). arc_value y) o) (sym h)

pub missing_is : (met : List (ℕ × Shared)) (i : ℕ) → None ≡ lookup (nat_eq i) met → met_in met i ≡ None
missing_is met i h = ap (λ (o : Option Shared). option_map (λ (y : Shared). arc_value y) o) (sym h)

-- an error that a `?` hands on
pub handed_on : {T : Type 0} (view : T → CellSeen) (n : Name) (old new : PoolState) (r : Result T FetchFault) (e : FetchFault) → IsErrAnd r (λ y. y ≡ e) → Fetches view n old (Err e) new → Fetches view n old r new
handed_on {T} view n old new (Ok x) e h f = absurd h
handed_on {T} view n old new (Err y) e h f = subst (λ (z : FetchFault). Fetches view n old (Err z) new) (sym h) f
