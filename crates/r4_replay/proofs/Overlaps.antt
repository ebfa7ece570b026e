-- Sets of kept blocks, one block after the other, and the smallest original among them.
use Rattle.std.proofs.Common.{◌≡◌, ◌⊎◌, inl, inr, ⊎_elim, ◌↔◌, ℕ, ◌+◌, ◌<◌, ◌≤◌, min, Bool, true, false, cond, List, [], ◌∷◌, ◌++◌, length, take, get_or, map, reverse, Option, Some, None, refl, sym, ap, subst, ◌∙◌, arith, MatchOption}
use Rattle.std.specs.Prelude.{Contains}
use Rattle.std.specs.Ordering.{nat_cmp}
use Rattle.std.specs.BTreeSet.{BTreeSet, Updates}
use Rattle.std.specs.BTreeMap.{is_at}
use Rattle.std.proofs.lemmas.Bool.{cases_eq, cases_lt}
use Rattle.std.proofs.lemmas.Bool.Decides.{nat_tests}
use Rattle.std.proofs.lemmas.List.{take_more, take_all, reverse-append, length-map}
use Rattle.std.proofs.Math.ListN.{get_or-map}
use Rattle.std.proofs.lemmas.List.Elements.{Contains-append_left, Contains-append_right, Contains-append_cases, Contains-push, Contains-push_cases}
use Rattle.r4_base.specs.Chain.{Txn, chain_pairs, originals, wandered, log_blocks, kept_blocks}
use Rattle.r4_base.specs.Refusal.{IsOverlap}
use Rattle.r4_base.proofs.Members.{member_cases, member_here, member_later, no_member}
use Rattle.r4_base.proofs.Frame.{firsts, seconds}
use Rattle.r4_base.proofs.Again.{firsts-append, seconds-append}
use Rattle.r4_replay.specs.Overlaps.{Has, IsApart, HasKept, Adds, IsSmallestIn}

-- ---- one block more in a set

at_is : (k q : ℕ) → (is_at (nat_cmp k) q ≡ true) ↔ (q ≡ k)
at_is k q = (
  (λ e. elim (cases_eq q k) [ inl is ↦ is | inr other ↦ absurd (elim (cases_lt k q) [ inl lt ↦ (let no_eq : is_at (nat_cmp k) q ≡ false = grind (arith, nat_tests) in cc) | inr ge ↦ (let no_eq : is_at (nat_cmp k) q ≡ false = grind (arith, nat_tests) in cc) ]) ]),
  (λ is. grind (arith, nat_tests)),
)

cond_true : (t v : Bool) → (cond t true v ≡ true) ↔ ((t ≡ true) ⊎ (v ≡ true))
cond_true true v = ((λ e. inl refl), (λ h. refl))
cond_true false v = ((λ e. inr e), (λ h. ⊎_elim (λ no_way. absurd (cc)) (λ e. e) h))

pub has_one : (old new : BTreeSet ℕ) (k : ℕ) → Updates nat_cmp old new k true → (b : ℕ) → Has new b ↔ (Has old b ⊎ (b ≡ k))
has_one old new k u b =
    let both = cond_true (is_at (nat_cmp k) b) _ in (
      (λ h. ⊎_elim (λ e. inr ((at_is k b).0 e)) inl (both.0 (sym (u.0 b) ∙ h))),
      (λ h. u.0 b ∙ both.1 (⊎_elim inr (λ is. inl ((at_is k b).1 is)) h)),
    )

pub adds_more : (start now new : BTreeSet ℕ) (xs : List ℕ) (i k d : ℕ) → i < length xs → get_or xs i d ≡ k → Adds start (take i xs) now → Updates nat_cmp now new k true → Adds start (take (i + 1) xs) new
adds_more start now new xs i k d lt is so_far u = record {
  each = λ b.
      let one = has_one now new k u b in
      let before = so_far.each b in
      let more : take (i + 1) xs ≡ take i xs ++ k ∷ [] = take_more xs i d lt ∙ ap (λ (x : ℕ). take i xs ++ x ∷ []) is in (
        (λ h. ⊎_elim (λ was. ⊎_elim inl (λ c. inr (subst (λ (l : List ℕ). Contains l b) (sym more) (Contains-append_left (take i xs) (k ∷ []) b c))) (before.0 was))
            (λ e. inr (subst (λ (l : List ℕ). Contains l b) (sym more) (subst (Contains (take i xs ++ k ∷ [])) (sym e) (Contains-push (take i xs) k)))) (one.0 h)),
        (λ h. one.1 (⊎_elim (λ s. inl (before.1 (inl s))) (λ c. ⊎_elim (λ was. inl (before.1 (inr was))) (λ e. inr (sym e)) (Contains-push_cases (take i xs) k b (subst (λ (l : List ℕ). Contains l b) more c))) h)),
      );
}

-- ---- what transactions keep, in whatever order they stand

abbrev pub Keeps : List Txn → ℕ → Type 0
Keeps [] b = ⊥
Keeps (t ∷ ts) b = ((b ≡ t.head) ⊎ Contains t.records b ⊎ Contains (seconds t.pairs) b) ⊎ Keeps ts b

abbrev pub Places : List Txn → ℕ → Type 0
Places [] b = ⊥
Places (t ∷ ts) b = Contains (firsts t.pairs) b ⊎ Places ts b

keeps_both : (ts us : List Txn) (b : ℕ) → Keeps (ts ++ us) b ↔ (Keeps ts b ⊎ Keeps us b)
keeps_both [] us b = (inr, (λ h. ⊎_elim (λ no_way. absurd no_way) (λ k. k) h))
keeps_both (t ∷ ts) us b = let ih = keeps_both ts us b in (
  (λ h. ⊎_elim (λ one. inl (inl one)) (λ more. ⊎_elim (λ k. inl (inr k)) inr (ih.0 more)) h),
  (λ h. ⊎_elim (λ k. ⊎_elim inl (λ more. inr (ih.1 (inl more))) k) (λ k. inr (ih.1 (inr k))) h),
)

places_both : (ts us : List Txn) (b : ℕ) → Places (ts ++ us) b ↔ (Places ts b ⊎ Places us b)
places_both [] us b = (inr, (λ h. ⊎_elim (λ no_way. absurd no_way) (λ k. k) h))
places_both (t ∷ ts) us b = let ih = places_both ts us b in (
  (λ h. ⊎_elim (λ one. inl (inl one)) (λ more. ⊎_elim (λ k. inl (inr k)) inr (ih.0 more)) h),
  (λ h. ⊎_elim (λ k. ⊎_elim inl (λ more. inr (ih.1 (inl more))) k) (λ k. inr (ih.1 (inr k))) h),
)

keeps_one : (t : Txn) (b : ℕ) → Keeps (t ∷ []) b ↔ ((b ≡ t.head) ⊎ Contains t.records b ⊎ Contains (seconds t.pairs) b)
keeps_one t b = ((λ h. ⊎_elim (λ x. x) (λ no_way. absurd no_way) h), inl)

keeps_reverse : (ts : List Txn) (b : ℕ) → Keeps (reverse ts) b ↔ Keeps ts b
keeps_reverse [] b = ((λ h. h), (λ h. h))
keeps_reverse (t ∷ ts) b =
    let turned : reverse (t ∷ ts) ≡ reverse ts ++ t ∷ [] = reverse-append (t ∷ []) ts in
    let both = keeps_both (reverse ts) (t ∷ []) b in
    let ih = keeps_reverse ts b in (
      (λ h. ⊎_elim (λ k. inr (ih.0 k)) (λ k. inl ((keeps_one t b).0 k)) (both.0 (subst (λ (l : List Txn). Keeps l b) turned h))),
      (λ h. subst (λ (l : List Txn). Keeps l b) (sym turned) (both.1 (⊎_elim (λ k. inr (inl k)) (λ k. inl (ih.1 k)) h))),
    )

places_reverse : (ts : List Txn) (b : ℕ) → Places (reverse ts) b ↔ Places ts b
places_reverse [] b = ((λ h. h), (λ h. h))
places_reverse (t ∷ ts) b =
    let turned : reverse (t ∷ ts) ≡ reverse ts ++ t ∷ [] = reverse-append (t ∷ []) ts in
    let both = places_both (reverse ts) (t ∷ []) b in
    let ih = places_reverse ts b in (
      (λ h. ⊎_elim (λ k. inr (ih.0 k)) (λ k. ⊎_elim inl (λ no_way. absurd no_way) k) (both.0 (subst (λ (l : List Txn). Places l b) turned h))),
      (λ h. subst (λ (l : List Txn). Places l b) (sym turned) (both.1 (⊎_elim (λ k. inr (inl k)) (λ k. inl (ih.1 k)) h))),
    )

-- ---- and as the chain says it

wandered_keeps : (chain : List Txn) (b : ℕ) → Contains (wandered chain) b → Keeps chain b
wandered_keeps [] b h = absurd (no_member b h)
wandered_keeps (t ∷ older) b h = ⊎_elim (λ w. inr (wandered_keeps older b w)) (λ w. inl (inr (inr w)))
    (Contains-append_cases (wandered older) (seconds t.pairs) b (subst (λ (l : List ℕ). Contains l b) (seconds-append (chain_pairs older) t.pairs) h))

log_keeps : (chain : List Txn) (b : ℕ) → Contains (log_blocks chain) b → Keeps chain b
log_keeps [] b h = absurd (no_member b h)
log_keeps (t ∷ older) b h = ⊎_elim (λ is. inl (inl is)) (λ more. ⊎_elim (λ r. inl (inr (inl r))) (λ l. inr (log_keeps older b l))
    (Contains-append_cases t.records (log_blocks older) b more)) (member_cases t.head _ b h)

keeps_either : (chain : List Txn) (b : ℕ) → Keeps chain b → Contains (wandered chain) b ⊎ Contains (log_blocks chain) b
keeps_either [] b h = absurd h
keeps_either (t ∷ older) b h = ⊎_elim
    (λ one. ⊎_elim (λ is. inr (member_here t.head _ b is)) (λ more. ⊎_elim
    (λ r. inr (member_later t.head _ b (Contains-append_left t.records (log_blocks older) b r)))
    (λ w. inl (subst (λ (l : List ℕ). Contains l b) (sym (seconds-append (chain_pairs older) t.pairs)) (Contains-append_right (wandered older) (seconds t.pairs) b w))) more) one)
    (λ later. ⊎_elim
    (λ w. inl (subst (λ (l : List ℕ). Contains l b) (sym (seconds-append (chain_pairs older) t.pairs)) (Contains-append_left (wandered older) (seconds t.pairs) b w)))
    (λ l. inr (member_later t.head _ b (Contains-append_right t.records (log_blocks older) b l)))
    (keeps_either older b later)) h

pub keeps_kept : (chain : List Txn) (b : ℕ) → Contains (kept_blocks chain) b ↔ Keeps chain b
keeps_kept chain b = (
  (λ h. ⊎_elim (wandered_keeps chain b) (log_keeps chain b) (Contains-append_cases (wandered chain) (log_blocks chain) b h)),
  (λ h. ⊎_elim (Contains-append_left (wandered chain) (log_blocks chain) b) (Contains-append_right (wandered chain) (log_blocks chain) b) (keeps_either chain b h)),
)

pub places_originals : (chain : List Txn) (b : ℕ) → Contains (originals chain) b ↔ Places chain b
places_originals [] b = ((λ h. absurd (no_member b h)), (λ h. absurd h))
places_originals (t ∷ older) b =
    let split = firsts-append (chain_pairs older) t.pairs in
    let ih = places_originals older b in (
      (λ h. ⊎_elim (λ o. inr (ih.0 o)) inl (Contains-append_cases (originals older) (firsts t.pairs) b (subst (λ (l : List ℕ). Contains l b) split h))),
      (λ h. subst (λ (l : List ℕ). Contains l b) (sym split) (⊎_elim (Contains-append_right (originals older) (firsts t.pairs) b) (λ k. Contains-append_left (originals older) (firsts t.pairs) b (ih.1 k)) h)),
    )

-- ---- the loops over the transactions

-- The set has the blocks that these transactions keep.
pub record HasKeptOf (ts : List Txn) (set : BTreeSet ℕ) : Type 0 where
  pub each : (b : ℕ) → Has set b ↔ Keeps ts b

pub kept_more : (ts : List Txn) (t : Txn) (s0 s1 s2 s3 : BTreeSet ℕ) → HasKeptOf ts s0 → Updates nat_cmp s0 s1 t.head true → Adds s1 t.records s2 → Adds s2 (seconds t.pairs) s3 → HasKeptOf (ts ++ t ∷ []) s3
kept_more ts t s0 s1 s2 s3 so_far head records copies = record {
  each = λ b.
      let one = has_one s0 s1 t.head head b in
      let both = keeps_both ts (t ∷ []) b in (
        (λ h. both.1 (⊎_elim (λ h2. ⊎_elim (λ h1. ⊎_elim (λ h0. inl ((so_far.each b).0 h0)) (λ is. inr (inl (inl is))) (one.0 h1)) (λ r. inr (inl (inr (inl r)))) ((records.each b).0 h2)) (λ w. inr (inl (inr (inr w)))) ((copies.each b).0 h))),
        (λ h. ⊎_elim
            (λ k. (copies.each b).1 (inl ((records.each b).1 (inl (one.1 (inl ((so_far.each b).1 k)))))))
            (λ k. ⊎_elim (λ is. (copies.each b).1 (inl ((records.each b).1 (inl (one.1 (inr is)))))) (λ more. ⊎_elim (λ r. (copies.each b).1 (inl ((records.each b).1 (inr r)))) (λ w. (copies.each b).1 (inr w)) more) ((keeps_one t b).0 k))
            (both.0 h)),
      );
}

pub kept_of_chain : (ts : List Txn) (set : BTreeSet ℕ) → HasKeptOf ts set → HasKept (reverse ts) set
kept_of_chain ts set has = record {
  each = λ b. (
    (λ h. (keeps_kept (reverse ts) b).1 ((keeps_reverse ts b).1 ((has.each b).0 h))),
    (λ h. (has.each b).1 ((keeps_reverse ts b).0 ((keeps_kept (reverse ts) b).0 h))),
  );
}

-- The smallest block that these transactions put in place and the set has.
abbrev pub IsSmallestOf : BTreeSet ℕ → List Txn → Option ℕ → Type 0
IsSmallestOf set ts None = (b : ℕ) → Places ts b → Has set b → ⊥
IsSmallestOf set ts (Some s) = Places ts s × Has set s × ((b : ℕ) → Places ts b → Has set b → s ≤ b)

places_one : (t : Txn) (b : ℕ) → Places (t ∷ []) b → Contains (firsts t.pairs) b
places_one t b h = ⊎_elim (λ c. c) (λ no_way. absurd no_way) h

no_some : (s : ℕ) → None ≡ Some s → ⊥
no_some s e = cc

some_is : (s x : ℕ) → Some s ≡ Some x → s ≡ x
some_is s x e = cc

pub smallest_more : (set : BTreeSet ℕ) (ts : List Txn) (t : Txn) (before result : Option ℕ) → IsSmallestOf set ts before → IsSmallestIn set (firsts t.pairs) before result → IsSmallestOf set (ts ++ t ∷ []) result
smallest_more set ts t before None so_far (is, none) = λ b p has. ⊎_elim
    (λ q. (let h : IsSmallestOf set ts None = subst (IsSmallestOf set ts) is so_far in h b q has))
    (λ q. none b (places_one t b q) has) ((places_both ts (t ∷ []) b).0 p)
smallest_more set ts t None (Some s) so_far (from, below, least) = ⊎_elim
    (λ is. absurd (no_some s is))
    (λ here. ((places_both ts (t ∷ []) s).1 (inr (inl here.0)), here.1, λ b p has. ⊎_elim (λ q. absurd (so_far b q has)) (λ q. least b (places_one t b q) has) ((places_both ts (t ∷ []) b).0 p)))
    from
smallest_more set ts t (Some x) (Some s) so_far (from, below, least) =
    let low : s ≤ x = below x refl in
    let all : (b : ℕ) → Places (ts ++ t ∷ []) b → Has set b → s ≤ b = λ b p has. ⊎_elim (λ q. let old = so_far.2 b q has in omega (arith, low, old)) (λ q. least b (places_one t b q) has) ((places_both ts (t ∷ []) b).0 p) in
    ⊎_elim
    (λ is. let same : x ≡ s = some_is x s is in ((places_both ts (t ∷ []) s).1 (inl (subst (Places ts) same so_far.0)), subst (Has set) same so_far.1, all))
    (λ here. ((places_both ts (t ∷ []) s).1 (inr (inl here.0)), here.1, all))
    from

pub smallest_of_chain : (set : BTreeSet ℕ) (ts : List Txn) (o : Option ℕ) → HasKept (reverse ts) set → IsSmallestOf set ts o → MatchOption o (IsApart (reverse ts)) (IsOverlap (reverse ts))
smallest_of_chain set ts None kept none = λ b o k. none b ((places_reverse ts b).0 ((places_originals (reverse ts) b).0 o)) ((kept.each b).1 k)
smallest_of_chain set ts (Some s) kept (placed, has, least) = record {
  original = (places_originals (reverse ts) s).1 ((places_reverse ts s).1 placed);
  kept = (kept.each s).0 has;
  smallest = λ c o k. least c ((places_reverse ts c).0 ((places_originals (reverse ts) c).0 o)) ((kept.each c).1 k);
}

-- ---- the loop over a transaction's pairs

pub smallest_none : (set : BTreeSet ℕ) (before : Option ℕ) → IsSmallestIn set [] before before
smallest_none set None = (refl, λ b c has. no_member b c)
smallest_none set (Some s) = (inl refl, (λ b is. (let same : s ≡ b = some_is s b is in omega (arith, same))), λ b c has. absurd (no_member b c))

module _ (set : BTreeSet ℕ) (xs : List ℕ) (k : ℕ) (before : Option ℕ) where
  split : (b : ℕ) → Contains (xs ++ k ∷ []) b → Contains xs b ⊎ (b ≡ k)
  split b c = ⊎_elim inl (λ e. inr (sym e)) (Contains-push_cases xs k b c)

  -- the set lacks the block
  pub smallest_skip : (s : Option ℕ) → (Has set k → ⊥) → IsSmallestIn set xs before s → IsSmallestIn set (xs ++ k ∷ []) before s
  smallest_skip None lacks (is, none) = (is, λ b c has. ⊎_elim (λ old. none b old has) (λ e. lacks (subst (Has set) e has)) (split b c))
  smallest_skip (Some s) lacks (from, below, least) = (
    ⊎_elim inl (λ here. inr (Contains-append_left xs (k ∷ []) s here.0, here.1)) from,
    below,
    λ b c has. ⊎_elim (λ old. least b old has) (λ e. absurd (lacks (subst (Has set) e has))) (split b c),
  )

  -- the set has the block
  pub smallest_take : (s : Option ℕ) (r : ℕ) → Has set k → IsSmallestIn set xs before s → MatchOption s (r ≡ k) (λ f. r ≡ min f k) → IsSmallestIn set (xs ++ k ∷ []) before (Some r)
  smallest_take None r has (is, none) e = (
    inr (subst (Contains (xs ++ k ∷ [])) (sym e) (Contains-push xs k), subst (Has set) (sym e) has),
    (λ b some. absurd (no_some b (sym is ∙ some))),
    λ b c h. ⊎_elim (λ old. absurd (none b old h)) (λ same. omega (arith, e, same)) (split b c),
  )
  smallest_take (Some s) r has (from, below, least) e = (
    (elim (cases_lt s k) [
      | inl lt ↦ (let same : s ≡ r = omega (arith, lt, e) in ⊎_elim (λ is. inl (is ∙ ap Some same)) (λ here. inr (subst (Contains (xs ++ k ∷ [])) same (Contains-append_left xs (k ∷ []) s here.0), subst (Has set) same here.1)) from)
      | inr ge ↦ (let same : k ≡ r = omega (arith, ge, e) in inr (subst (Contains (xs ++ k ∷ [])) same (Contains-push xs k), subst (Has set) same has))
    ]),
    (λ b some. let old = below b some in omega (arith, old, e)),
    λ b c h. ⊎_elim (λ was. let old = least b was h in omega (arith, old, e)) (λ same. omega (arith, e, same)) (split b c),
  )

pub more_taken : {X : Type 0} {Y : Type 0} (f : X → Y) (xs : List X) (i : ℕ) (x : X) → i < length xs → x ≡ get_or xs i x → take (i + 1) (map f xs) ≡ take i (map f xs) ++ f x ∷ []
more_taken {X} {Y} f xs i x lt is = take_more (map f xs) i (f x) (omega (arith, lt, length-map xs f)) ∙ ap (λ (y : Y). take i (map f xs) ++ y ∷ []) (get_or-map f xs i x ∙ ap f (sym is))

pub all_taken : {X : Type 0} {Y : Type 0} (f : X → Y) (xs : List X) (i : ℕ) → length xs ≤ i → take i (map f xs) ≡ map f xs
all_taken {X} {Y} f xs i ge = take_all i (map f xs) (omega (arith, ge, length-map xs f))

pub kept_step : (now more : List Txn) (t : Txn) (s0 s1 s2 s3 : BTreeSet ℕ) (rs : List ℕ) (ps : List (ℕ × ℕ)) → more ≡ now ++ t ∷ [] → rs ≡ t.records → ps ≡ t.pairs → HasKeptOf now s0 → Updates nat_cmp s0 s1 t.head true → Adds s1 rs s2 → Adds s2 (seconds ps) s3 → HasKeptOf more s3
kept_step now more t s0 s1 s2 s3 rs ps e er ep so_far head records copies =
    subst (λ (l : List Txn). HasKeptOf l s3) (sym e) (kept_more now t s0 s1 s2 s3 so_far head (subst (λ (l : List ℕ). Adds s1 l s2) er records) (subst (λ (l : List (ℕ × ℕ)). Adds s2 (seconds l) s3) ep copies))

pub smallest_step : (set : BTreeSet ℕ) (now more : List Txn) (t : Txn) (before result : Option ℕ) (ps : List (ℕ × ℕ)) → more ≡ now ++ t ∷ [] → ps ≡ t.pairs → IsSmallestOf set now before → IsSmallestIn set (firsts ps) before result → IsSmallestOf set more result
smallest_step set now more t before result ps e ep so_far one =
    subst (λ (l : List Txn). IsSmallestOf set l result) (sym e) (smallest_more set now t before result so_far (subst (λ (l : List (ℕ × ℕ)). IsSmallestIn set (firsts l) before result) ep one))

pub more_at : {X : Type 0} {Y : Type 0} (f : X → Y) (xs : List X) (i : ℕ) (d : X) → i < length xs → take (i + 1) (map f xs) ≡ take i (map f xs) ++ f (get_or xs i d) ∷ []
more_at {X} {Y} f xs i d lt = take_more (map f xs) i (f d) (omega (arith, lt, length-map xs f)) ∙ ap (λ (y : Y). take i (map f xs) ++ y ∷ []) (get_or-map f xs i d)

pub pair_skipped : (set : BTreeSet ℕ) (ps : List (ℕ × ℕ)) (i : ℕ) (before now next : Option ℕ) → i < length ps → (Has set (get_or ps i (0, 0)).0 → ⊥) → next ≡ now → IsSmallestIn set (take i (firsts ps)) before now → IsSmallestIn set (take (i + 1) (firsts ps)) before next
pair_skipped set ps i before now next lt lacks e so_far = rw (e, more_at (λ (p : ℕ × ℕ). p.0) ps i (0, 0) lt) (smallest_skip set (take i (firsts ps)) (get_or ps i (0, 0)).0 before now lacks so_far)

pub pair_taken : (set : BTreeSet ℕ) (ps : List (ℕ × ℕ)) (i r : ℕ) (before now next : Option ℕ) → i < length ps → Has set (get_or ps i (0, 0)).0 → next ≡ Some r → MatchOption now (r ≡ (get_or ps i (0, 0)).0) (λ f. r ≡ min f (get_or ps i (0, 0)).0) → IsSmallestIn set (take i (firsts ps)) before now → IsSmallestIn set (take (i + 1) (firsts ps)) before next
pair_taken set ps i r before now next lt has e small so_far = rw (e, more_at (λ (p : ℕ × ℕ). p.0) ps i (0, 0) lt) (smallest_take set (take i (firsts ps)) (get_or ps i (0, 0)).0 before now r has so_far small)
