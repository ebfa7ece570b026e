-- What is left at each level of a change that climbs.
use Rattle.std.proofs.Common.{◌≡◌, ◌≢◌, inl, inr, ℕ, zero, suc, ◌+◌, ◌*◌, ◌^◌, ◌<◌, ◌≤◌, Bool, true, false, List, [], ◌∷◌, ◌++◌, drop, length, map, refl, ap, sym, subst, ◌∙◌, arith}
use Rattle.std.specs.Prelude.{Contains, Option, None, Some, ◌==◌, if◌then◌else◌}
use Rattle.std.proofs.lemmas.Bool.{cases_eq, eq-eqb, eqb-true, ne_eqb}
use Rattle.std.proofs.lemmas.List.Elements.{Contains-append_left, Contains-append_right}
use Rattle.std.proofs.lemmas.Option.{none-some, same_Some}
use Rattle.r4_base.specs.Node.{items_of}
use Rattle.r4_base.specs.Tree.{Root}
use Rattle.r4_reach.specs.r4_cell.Seen.{CellSeen}
use Rattle.r4_reach.specs.r4_cell.declared.change.Fresh.{Fresh}
use Rattle.r4_reach.specs.r4_patch.Joining.{ids_of}
use Rattle.r4_reach.specs.r4_path.Levels.{AreNeeded, AreRows, Keeps}
use Rattle.r4_reach.specs.r4_path.Nodes.{IsPointable, pointer_item, weight}
use Rattle.r4_reach.specs.r4_path.Steps.{Climbs, Ends, Step, fresh_ids, news}
use Rattle.r4_reach.proofs.r4_patch.Members.{cases, here, later, none}
use Rattle.r4_reach.proofs.r4_path.Pointers.{pointers_weigh}
use Rattle.r4_reach.proofs.r4_path.Rising.{id_member}
use Rattle.r4_measure.specs.Budget.{AllBear, AreSpent, AreUp, Bears, Budget, IsFresh, IsSpent, Rises, below, none_at, spent_on}
use Rattle.r4_measure.proofs.Parent.{parent_bears, pointable, pointers_below}

-- ---- a budget with another level

abbrev pub put : (l : ℕ) → (ℕ → ℕ) → Budget → Budget
put l g b k = if k == l then g else b k

pub put_here : (l : ℕ) (g : ℕ → ℕ) (b : Budget) → put l g b l ≡ g
put_here l g b = by_test (l == l) (eq-eqb l l refl)
  where
    by_test : (t : Bool) → t ≡ true → (if t then g else b l) ≡ g
    by_test true h = refl
    by_test false h = absurd cc

pub put_other : (l : ℕ) (g : ℕ → ℕ) (b : Budget) (k : ℕ) → k ≢ l → put l g b k ≡ b k
put_other l g b k ne = by_test (k == l) (ne_eqb k l ne)
  where
    by_test : (t : Bool) → t ≡ false → (if t then g else b k) ≡ b k
    by_test true h = absurd cc
    by_test false h = refl

pub put_any : (P : (ℕ → ℕ) → Type 0) (l : ℕ) (g : ℕ → ℕ) (b : Budget) (k : ℕ) → (k ≡ l → P g) → P (b k) → P (put l g b k)
put_any P l g b k at rest = by_test (k == l) refl
  where
    by_test : (t : Bool) → (k == l) ≡ t → P (if t then g else b k)
    by_test true h = at (eqb-true k l h)
    by_test false h = rest

-- ---- the same budget above a level

pub bear_again : (b c : Budget) (l : ℕ) (steps : List Step) (over : Option CellSeen) → ((k : ℕ) → l ≤ k → c k ≡ b k) → AllBear b l steps over → AllBear c l steps over
bear_again b c l [] None same h = tt
bear_again b c l [] (Some x) same h = subst (λ g. Bears g (c (suc l)) (suc l) (items_of x.block) x.id) (sym (same l (omega arith)))
    (subst (λ g. Bears (b l) g (suc l) (items_of x.block) x.id) (sym (same (suc l) (omega arith))) h)
bear_again b c l (u ∷ us) over same (h, rest) = (
  λ x member. subst (λ g. Bears g (c (suc l)) (suc l) (items_of x.block) x.id) (sym (same l (omega arith)))
      (subst (λ g. Bears (b l) g (suc l) (items_of x.block) x.id) (sym (same (suc l) (omega arith))) (h x member)),
  bear_again b c (suc l) us over (λ k le. same k (omega (arith, le))) rest,
)

pub spent_again : (b c d : Budget) (l : ℕ) (steps : List Step) → ((k : ℕ) → l ≤ k → d k ≡ c k) → AreSpent b c l steps → AreSpent b d l steps
spent_again b c d l [] same h = tt
spent_again b c d l (u ∷ us) same (h, rest) = (
  subst (λ g. spent_on g u ≤ b (suc l) u.old.id) (sym (same (suc l) (omega arith))) h,
  spent_again b c d (suc l) us (λ k le. same k (omega (arith, le))) rest,
)

-- ---- nothing more comes in the place of some

test_zero : (t : Bool) (n m : ℕ) → n ≤ m → (if t then 0 else n) ≤ m
test_zero true n m h = omega arith
test_zero false n m h = h

pub none_less : (cells : List CellSeen) (g : ℕ → ℕ) (i : ℕ) → none_at cells g i ≤ g i
none_less [] g i = omega arith
none_less (c ∷ cs) g i = test_zero (c.id == i) (none_at cs g i) (g i) (none_less cs g i)

pub none_member : (cells : List CellSeen) (g : ℕ → ℕ) (x : CellSeen) → Contains cells x → none_at cells g x.id ≡ 0
none_member [] g x member = absurd (none x member)
none_member (c ∷ cs) g x member = elim (cases c x cs member) [
  | inl e ↦ by_test (c.id == x.id) (eq-eqb c.id x.id (ap (λ (z : CellSeen). z.id) (sym e)))
  | inr rest ↦ pass (c.id == x.id) (none_member cs g x rest)
]
  where
    by_test : (t : Bool) → t ≡ true → (if t then 0 else none_at cs g x.id) ≡ 0
    by_test true h = refl
    by_test false h = absurd cc

    pass : (t : Bool) → none_at cs g x.id ≡ 0 → (if t then 0 else none_at cs g x.id) ≡ 0
    pass true h = refl
    pass false h = h

pub none_other : (cells : List CellSeen) (g : ℕ → ℕ) (i : ℕ) → (Contains (ids_of cells) i → ⊥) → none_at cells g i ≡ g i
none_other [] g i out = refl
none_other (c ∷ cs) g i out = by_test (c.id == i) (ne_eqb c.id i (λ e. out (subst (λ k. Contains (c.id ∷ ids_of cs) k) e (here c.id (ids_of cs))))) (none_other cs g i (λ m. out (later c.id i (ids_of cs) m)))
  where
    by_test : (t : Bool) → t ≡ false → none_at cs g i ≡ g i → (if t then 0 else none_at cs g i) ≡ g i
    by_test true h r = absurd cc
    by_test false h r = r

-- ---- ids of two lists

ids_append : (xs ys : List CellSeen) → ids_of (xs ++ ys) ≡ ids_of xs ++ ids_of ys
ids_append [] ys = refl
ids_append (x ∷ xs) ys = ap (λ is. x.id ∷ is) (ids_append xs ys)

pub in_left : (xs ys : List CellSeen) (i : ℕ) → Contains (ids_of xs) i → Contains (ids_of (xs ++ ys)) i
in_left xs ys i m = subst (λ is. Contains is i) (sym (ids_append xs ys)) (Contains-append_left (ids_of xs) (ids_of ys) i m)

pub in_right : (xs ys : List CellSeen) (i : ℕ) → Contains (ids_of ys) i → Contains (ids_of (xs ++ ys)) i
in_right xs ys i m = subst (λ is. Contains is i) (sym (ids_append xs ys)) (Contains-append_right (ids_of xs) (ids_of ys) i m)

module _ (f : Fresh) (unplaced : 2 ^ 63 ≤ f.next) (high : f.end < 2 ^ 64) (r : Root) (able : IsPointable r.id) (b : Budget) (small : (l i : ℕ) → b l i ≤ 87) (root_low : 1 ≤ b r.height r.id → r.height < 8) where
  abbrev pub Up : (l : ℕ) → (ℕ → ℕ) → List Step → Option CellSeen → Type 0
  Up l left more over = Rises r f b l left more over

  -- ---- the end

  ends_none : (l : ℕ) (left : ℕ → ℕ) (s : Step) → IsSpent f (b l) left s → Up l left [] None
  ends_none l left s is = record {
    after = put l left b;
    at = put_here l left b;
    low = λ k lt. put_other l left b k (λ e. absurd (omega (arith, lt, e)));
    less = λ k i old. put_any (λ g. g i ≤ b k i) l left b k (λ e. subst (λ j. left i ≤ b j i) (sym e) (is.less i old)) (omega arith);
    small = λ k i. put_any (λ g. g i ≤ 87) l left b k (λ e. is.small i) (small k i);
    others = λ k i ne out. ap (λ g. g i) (put_other l left b k ne);
    bear = tt;
    spent = tt;
    new_root = λ c e. absurd (none-some c e);
  }

  ends_root : (l : ℕ) (left : ℕ → ℕ) (s : Step) (c : CellSeen) → 1 ≤ l → IsSpent f (b l) left s → ids_of s.new ≡ s.old.id ∷ ids_of (drop 1 s.new) → ((x : CellSeen) → Contains (drop 1 s.new) x → IsFresh f x.id)
      → s.old.id ≡ r.id → l ≡ r.height → c.level ≡ suc l → length s.new ≢ 1 → items_of c.block ≡ map pointer_item s.new → Up l left [] (Some c)
  ends_root l left s c low is first fresh was top_is up several points = record {
    after = put l left base;
    at = put_here l left base;
    low = λ k lt. put_other l left base k (λ e. absurd (omega (arith, lt, e))) ∙ put_other (suc l) top b k (λ e. absurd (omega (arith, lt, e)));
    less = λ k i old. put_any (λ g. g i ≤ b k i) l left base k (λ e. subst (λ j. left i ≤ b j i) (sym e) (is.less i old))
        (put_any (λ g. g i ≤ b k i) (suc l) top b k (λ e. subst (λ j. top i ≤ b j i) (sym e) (none_less (c ∷ []) (b (suc l)) i)) (omega arith));
    small = λ k i. put_any (λ g. g i ≤ 87) l left base k (λ e. is.small i)
        (put_any (λ g. g i ≤ 87) (suc l) top b k (λ e. let h = none_less (c ∷ []) (b (suc l)) i in let m = small (suc l) i in omega (arith, h, m)) (small k i));
    others = λ k i ne out. ap (λ g. g i) (put_other l left base k ne)
        ∙ put_any (λ g. g i ≡ b k i) (suc l) top b k (λ e. subst (λ j. top i ≡ b j i) (sym e) (none_other (c ∷ []) (b (suc l)) i out)) refl;
    bear = inl (subst (λ g. weight (items_of c.block) + 46 * below g (items_of c.block) ≤ 4068) (sym (put_here l left base)) fits);
    spent = tt;
    new_root = λ d e.
        let same = same_Some c d e in
        let zero_top : put l left base (suc l) c.id ≡ 0 = ap (λ g. g c.id) (put_other l left base (suc l) (λ z. absurd (omega (arith, z))) ∙ put_here (suc l) top b) ∙ none_member (c ∷ []) (b (suc l)) c (here c []) in
        subst (λ (x : CellSeen). (l < x.level) × (x.level ≤ 8) × (put l left base x.level x.id ≡ 0) × (1 ≤ b r.height r.id)) same (omega (arith, up), below_8, subst (λ k. put l left base k c.id ≡ 0) (sym up) zero_top, some_root);
  }
    where
      top : ℕ → ℕ
      top = none_at (c ∷ []) (b (suc l))

      base : Budget
      base = put (suc l) top b

      all_able : (cells : List CellSeen) → ids_of cells ≡ s.old.id ∷ ids_of (drop 1 cells) → ((x : CellSeen) → Contains (drop 1 cells) x → IsFresh f x.id) → (x : CellSeen) → Contains cells x → IsPointable x.id
      all_able [] e h x member = absurd (none x member)
      all_able (y ∷ ys) e h x member = elim (cases y x ys member) [
        | inl same ↦ subst IsPointable (sym (ap (λ (z : CellSeen). z.id) same ∙ ((let head : y.id ≡ s.old.id = cc in head) ∙ was))) able
        | inr rest ↦ pointable f unplaced high x.id (h x rest)
      ]

      long : (cells : List CellSeen) (i : ℕ) (is : List ℕ) → ids_of cells ≡ i ∷ is → length cells ≡ 1 + length (drop 1 cells)
      long [] i is e = absurd cc
      long (y ∷ ys) i is e = omega arith

      some_root : 1 ≤ b r.height r.id
      some_root =
          let n = long s.new s.old.id (ids_of (drop 1 s.new)) first in
          let h = is.spent in
          let some : 1 ≤ b l s.old.id = more_than (length s.new) (length (drop 1 s.new)) n several (let k : length (drop 1 s.new) ≤ b l s.old.id = omega (arith, h) in k) in
          subst (λ k. 1 ≤ b k r.id) top_is (subst (λ i. 1 ≤ b l i) was some)
        where
          more_than : (n m : ℕ) → n ≡ 1 + m → n ≢ 1 → m ≤ b l s.old.id → 1 ≤ b l s.old.id
          more_than n zero e ne le = absurd (ne (omega (arith, e)))
          more_than n (suc m) e ne le = omega (arith, le)

      below_8 : c.level ≤ 8
      below_8 = let t = root_low some_root in omega (arith, t, up, top_is)

      fits : weight (items_of c.block) + 46 * below left (items_of c.block) ≤ 4068
      fits =
          let w = ap weight points ∙ pointers_weigh (λ x. x) s.new in
          let g = ap (below left) points ∙ pointers_below left s.new (all_able s.new first fresh) in
          let n = long s.new s.old.id (ids_of (drop 1 s.new)) first in
          let h = is.spent in
          let m = small l s.old.id in
          omega (arith, w, g, n, h, m)

  -- ---- and up

  pub climbing : (l : ℕ) (left : ℕ → ℕ) (s : Step) (more : List Step) (over : Option CellSeen) → 1 ≤ l → s.old.level ≡ l → IsSpent f (b l) left s → ids_of s.new ≡ s.old.id ∷ ids_of (drop 1 s.new)
      → ((i : ℕ) → Contains (fresh_ids (s ∷ more) over) i → IsFresh f i) → AreRows (s ∷ more) over → AreNeeded (s ∷ more) → ((u : Step) → Contains more u → Keeps u) → Climbs (Some s) more → Ends r (s ∷ more) over
      → ((u : Step) → Contains (s ∷ more) u → u.old.id ≡ r.id → u.old.level ≡ r.height) → AreUp f b l more → Up l left more over
  climbing l left s [] None low level is first fresh rows needed keep climbs ends top ups = ends_none l left s is
  climbing l left s [] (Some c) low level is first fresh rows needed keep climbs ends top ups =
      ends_root l left s c low is first (λ x member. fresh x.id (Contains-append_left (ids_of (drop 1 s.new)) (c.id ∷ []) x.id (id_member (drop 1 s.new) x member)))
      ends.was (sym level ∙ top s (here s []) ends.was) (ends.level ∙ ap suc level) rows.0 rows.1
  climbing l left s (u ∷ us) over low level is first fresh (row, rows) (several, room, needed) keep (step, climbs) ends top (up, ups) =
      let mine : (x : CellSeen) → Contains (drop 1 s.new) x → IsFresh f x.id = λ x member. fresh x.id (Contains-append_left (ids_of (drop 1 s.new)) (fresh_ids (u ∷ us) over) x.id (id_member (drop 1 s.new) x member)) in
      let rest : (i : ℕ) → Contains (fresh_ids (u ∷ us) over) i → IsFresh f i = λ i member. fresh i (Contains-append_right (ids_of (drop 1 s.new)) (fresh_ids (u ∷ us) over) i member) in
      let theirs : (x : CellSeen) → Contains (drop 1 u.new) x → IsFresh f x.id = λ x member. rest x.id (Contains-append_left (ids_of (drop 1 u.new)) (fresh_ids us over) x.id (id_member (drop 1 u.new) x member)) in
      let (after, spent, bears) = parent_bears f l (b l) left (b (suc l)) s u unplaced high low level up.level is first several mine row (keep u (here u us)) room step.first theirs up.old up.clean (small (suc l)) up.bears in
      let more = climbing (suc l) after u us over (omega (arith, low)) up.level spent step.first rest rows needed (λ v member. keep v (later u v us member)) climbs ends (λ v member. top v (later s v (u ∷ us) member)) ups in
      record {
        after = put l left more.after;
        at = put_here l left more.after;
        low = λ k lt. put_other l left more.after k (λ e. absurd (omega (arith, lt, e))) ∙ more.low k (omega (arith, lt));
        less = λ k i old. put_any (λ g. g i ≤ b k i) l left more.after k (λ e. subst (λ j. left i ≤ b j i) (sym e) (is.less i old)) (more.less k i old);
        small = λ k i. put_any (λ g. g i ≤ 87) l left more.after k (λ e. is.small i) (more.small k i);
        others = λ k i ne out. ap (λ g. g i) (put_other l left more.after k ne) ∙ elim (cases_eq k (suc l)) [
          | inl e ↦ subst (λ j. more.after j i ≡ b j i) (sym e) (ap (λ g. g i) more.at ∙ spent.others i (λ m. out (in_left u.new (news us over) i m)))
          | inr ne2 ↦ more.others k i ne2 (λ m. out (in_right u.new (news us over) i m))
        ];
        bear = (
          (λ x member. subst (λ g. Bears g (put l left more.after (suc l)) (suc l) (items_of x.block) x.id) (sym (put_here l left more.after))
              (subst (λ g. Bears left g (suc l) (items_of x.block) x.id) (sym (put_other l left more.after (suc l) (λ e. absurd (omega (arith, e))) ∙ more.at)) (bears x member))),
          bear_again more.after (put l left more.after) (suc l) us over (λ k le. put_other l left more.after k (λ e. absurd (omega (arith, le, e)))) more.bear,
        );
        spent = (
          subst (λ g. spent_on g u ≤ b (suc l) u.old.id) (sym (put_other l left more.after (suc l) (λ e. absurd (omega (arith, e))) ∙ more.at)) spent.spent,
          spent_again b more.after (put l left more.after) (suc l) us (λ k le. put_other l left more.after k (λ e. absurd (omega (arith, le, e)))) more.spent,
        );
        new_root = λ c e. let h = more.new_root c e in (let lt = h.0 in omega (arith, lt), h.1, ap (λ g. g c.id) (put_other l left more.after c.level (λ z. absurd (let lt = h.0 in omega (arith, lt, z)))) ∙ h.2, h.3);
      }
