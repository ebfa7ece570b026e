-- The space when the atom of a commit settles.
use Rattle.std.proofs.Common.{◌≡◌, ◌⊎◌, inl, inr, ⊎_elim, ℕ, suc, ◌+◌, ◌<◌, ◌≤◌, Bool, true, false, not}
use Rattle.std.proofs.Common.{◌&&◌, ◌||◌, cond, List, [], ◌∷◌, length, map, replicate, get_or, refl, sym, ◌∙◌, ap}
use Rattle.std.proofs.Common.{subst}
use Rattle.std.proofs.Common.{arith}
use Rattle.std.specs.Prelude.{count_by}
use Rattle.std.specs.List.{range_with_len}
use Rattle.std.proofs.lemmas.Bool.{eq-eqb, or_cases, or_left}
use Rattle.std.proofs.lemmas.List.{get_or-map, get_or-replicate}
use Rattle.std.proofs.lemmas.List.FromFn.{get_or-range_with_len, length-range_with_len}
use Rattle.std.proofs.lemmas.List.Sums.{sum_by-cons}
use Rattle.r4_base.specs.Bitmap.{is_fixed}
use Rattle.r4_base.specs.declared.things.AtomNo.{AtomNo}
use Rattle.r4_durable.specs.GoingOn.{MarksAlike}
use Rattle.r4_durable.proofs.Opened.{none_in}
use Rattle.r4_durable.specs.r4_flushed.Deferred.{AreDeferred, AreDeferredBut}
use Rattle.r4_durable.proofs.r4_flushed.Deferring.{deferred_settled}
use Rattle.r4_durable.specs.r4_sealed.Commits.{IsLater}
use Rattle.r4_durable.proofs.r4_sealed.NewCells.{or_second}
use Rattle.r4_durable.specs.r4_sets.Session.{Session}
use Rattle.r4_durable.specs.r4_space.Accounts.{dues, is_atom, without_account, without_atom}
use Rattle.r4_durable.specs.r4_space.Lawful.{IsLawful}
use Rattle.r4_durable.specs.r4_space.Space.{Space, claims_of, claims_without, is_block, is_claimed, is_marked_after, is_taken}
use Rattle.r4_durable.specs.r4_space.Space.{is_taken_by, settled, unused_count}
use Rattle.r4_durable.specs.r4_space.declared.things.Claim.{Claim}
use Rattle.r4_durable.proofs.r4_space.AccountLaws.{dues-without}
use Rattle.r4_kept.specs.Accounts.{IsFor, IsStill}

-- ---- blocks that are unused

count_more : (p q : ℕ → Bool) (xs : List ℕ)
    → ((i : ℕ) → i < length xs → p (get_or xs i 0) ≡ true → q (get_or xs i 0) ≡ true)
    → count_by p xs ≤ count_by q xs
count_more p q [] h = omega arith
count_more p q (x ∷ xs) h =
    let one = less (p x) (q x) (h 0 (omega arith)) in
    let rest = count_more p q xs (λ i lt. h (suc i) (omega (arith, lt))) in
    let e = sum_by-cons (λ y. cond {A = ℕ} (p y) 1 0) x xs in
    let f = sum_by-cons (λ y. cond {A = ℕ} (q y) 1 0) x xs in
    omega (arith, one, rest, e, f)
  where
    less : (a b : Bool) → (a ≡ true → b ≡ true) → cond {A = ℕ} a 1 0 ≤ cond {A = ℕ} b 1 0
    less true true k = omega arith
    less true false k = absurd (cc (k refl))
    less false true k = omega arith
    less false false k = omega arith

claimed_less : (a : AtomNo) (claims : List Claim) (b : ℕ) → is_claimed (claims_without a claims) b ≡ true
    → is_claimed claims b ≡ true
claimed_less a [] b h = h
claimed_less a (x ∷ claims) b h = go (not (is_atom a x.atom)) (claimed_less a claims b) h
  where
    go : (t : Bool) → (is_claimed (claims_without a claims) b ≡ true → is_claimed claims b ≡ true)
        → is_claimed (cond t (x ∷ claims_without a claims) (claims_without a claims)) b ≡ true
        → (is_block b x || is_claimed claims b) ≡ true
    go true less e = ⊎_elim
        (λ here. or_left (is_block b x) (is_claimed claims b) here)
        (λ later. or_second (is_block b x) (is_claimed claims b) (less later))
        (or_cases (is_block b x) (is_claimed (claims_without a claims) b) e)
    go false less e = or_second (is_block b x) (is_claimed claims b) (less e)

both_or : (f x c : Bool) → (f || (x && not c)) ≡ true → (f ≡ true) ⊎ (x ≡ true)
both_or true x c h = inl refl
both_or false true c h = inr refl
both_or false false c h = inr h

not_true : (x : Bool) → not x ≡ true → x ≡ false
not_true true h = sym h
not_true false h = refl

not_false : (x : Bool) → (x ≡ true → false ≡ true) → not x ≡ true
not_false true h = h refl
not_false false h = refl

-- what is marked then was marked or placed
module _ (s : Space) (a : AtomNo) (lawful : IsLawful s) (b : ℕ) (lt : b < s.block_count) where
  abbrev claimed : Bool
  claimed = is_claimed s.held b || is_claimed s.deferred b

  abbrev rest : Bool
  rest = get_or s.placed b false || claimed

  marked_is : get_or (settled s a).marked b false
      ≡ is_marked_after s.block_count s.marked s.placed (claims_of a s.deferred) b
  marked_is =
      let blocks : List ℕ = range_with_len 0 s.block_count in
      let long = length-range_with_len 0 s.block_count in
      let zero_more : 0 + b ≡ b = omega arith in
      get_or-map (is_marked_after s.block_count s.marked s.placed (claims_of a s.deferred)) blocks b 0 false
      (omega (arith, lt, long))
      ∙ ap (is_marked_after s.block_count s.marked s.placed (claims_of a s.deferred))
      (get_or-range_with_len 0 s.block_count b 0 lt ∙ zero_more)

  was_marked : is_marked_after s.block_count s.marked s.placed (claims_of a s.deferred) b ≡ true
      → (get_or s.marked b false || get_or s.placed b false) ≡ true
  unfolding is_marked_after
  was_marked h = ⊎_elim
      (λ fixed. or_left (get_or s.marked b false) (get_or s.placed b false) (lawful.fixed b lt fixed))
      (λ x. x)
      (both_or (is_fixed s.block_count b) (get_or s.marked b false || get_or s.placed b false)
      (is_claimed (claims_of a s.deferred) b) h)

  was_taken : is_taken (settled s a) b ≡ true → is_taken s b ≡ true
  unfolding is_taken_by
  was_taken h = ⊎_elim
      (λ marked. ⊎_elim
      (λ m. or_left (get_or s.marked b false) rest m)
      (λ p. or_second (get_or s.marked b false) rest (or_left (get_or s.placed b false) claimed p))
      (or_cases (get_or s.marked b false) (get_or s.placed b false) (was_marked (sym marked_is ∙ marked))))
      (λ other. or_second (get_or s.marked b false) rest (or_second (get_or s.placed b false) claimed (⊎_elim
      (λ placed. absurd (cc (sym (get_or-replicate s.block_count b false false lt) ∙ placed)))
      (λ claims. ⊎_elim
      (λ held. or_left (is_claimed s.held b) (is_claimed s.deferred b) (claimed_less a s.held b held))
      (λ deferred. or_second (is_claimed s.held b) (is_claimed s.deferred b)
      (claimed_less a s.deferred b deferred))
      (or_cases (is_claimed (claims_without a s.held) b) (is_claimed (claims_without a s.deferred) b) claims))
      (or_cases (get_or (replicate s.block_count false) b false)
      (is_claimed (claims_without a s.held) b || is_claimed (claims_without a s.deferred) b) other))))
      (or_cases (get_or (settled s a).marked b false) (get_or (replicate s.block_count false) b false
      || (is_claimed (claims_without a s.held) b || is_claimed (claims_without a s.deferred) b)) h)

-- no fewer are unused then
pub more_unused : (s : Space) (a : AtomNo) → IsLawful s → unused_count s ≤ unused_count (settled s a)
unfolding unused_count
more_unused s a lawful =
    count_more (λ b. not (is_taken s b)) (λ b. not (is_taken (settled s a) b)) (range_with_len 0 s.block_count)
    (λ i lt free.
    (let long = length-range_with_len 0 s.block_count in
    let zero_more : 0 + i ≡ i = omega arith in
    let inside : i < s.block_count = omega (arith, lt, long) in
    let at : get_or (range_with_len 0 s.block_count) i 0 ≡ i =
    get_or-range_with_len 0 s.block_count i 0 inside ∙ zero_more in
    subst (λ (b : ℕ). not (is_taken (settled s a) b) ≡ true) (sym at)
    (not_false (is_taken (settled s a) i) (λ taken.
    sym (not_true (is_taken s i) (subst (λ (b : ℕ). not (is_taken s b) ≡ true) at free))
    ∙ was_taken s a lawful i inside taken))))

-- ---- accounts

-- and no more is taken up
pub fewer_dues : (bitmaps : ℕ) (s : Space) (a : AtomNo) → IsLawful s
    → dues bitmaps (without_account a s.atoms) ≤ dues bitmaps s.atoms
fewer_dues bitmaps s a lawful = let e = dues-without bitmaps a s.atoms lawful.once in omega (arith, e)

-- ---- what is sealed, held and placed

pub still_then : (s : Space) (a : AtomNo) → IsFor a s.sealed s.held
    → IsStill (settled s a).sealed (settled s a).held (settled s a).placed
still_then s a h = record {
  none_sealed = ⊎_elim
      (λ none. ap (without_atom a) none)
      (λ one. ap (without_atom a) one
      ∙ ap (λ (t : Bool). cond (not t) (a ∷ []) []) (eq-eqb a.0 a.0 refl)) h.alone;
  none_held = h.own;
  none_placed = λ b. none_in s.block_count b;
}

-- ---- in a run that names its beginning

same_marks : (n m : ℕ) (marked marks placed places : List Bool) (freed frees : List Claim) → n ≡ m
    → marked ≡ marks → placed ≡ places
    → ((b : ℕ) → is_claimed freed b ≡ is_claimed frees b) → (b : ℕ)
    → is_marked_after n marked placed freed b ≡ is_marked_after m marks places frees b
unfolding is_marked_after
same_marks n m marked marks placed places freed frees count mark place same b = λ i.
    is_fixed (count i) b || ((get_or (mark i) b false || get_or (place i) b false) && not (same b i))

-- two spaces later than that of the commit settle alike
pub settled_alike : (work one two : Space) (a : AtomNo) → IsLater work one a → IsLater work two a
    → MarksAlike (settled one a) (settled two a)
settled_alike work one two a h k =
    let count = k.count ∙ sym h.count in
    record {
      count = count;
      marked =
          ap (λ (f : ℕ → Bool). map f (range_with_len 0 two.block_count))
          (λ i b. same_marks two.block_count one.block_count two.marked one.marked two.placed one.placed
          (claims_of a two.deferred) (claims_of a one.deferred) count (k.marked ∙ sym h.marked)
          (k.placed ∙ sym h.placed) (λ n. k.freed n ∙ sym (h.freed n)) b i)
          ∙ ap (λ (n : ℕ). map (is_marked_after one.block_count one.marked one.placed (claims_of a one.deferred))
          (range_with_len 0 n)) count;
      placed = ap (λ (n : ℕ). replicate n false) count;
    }

-- what is deferred for the others
pub deferred_then : (c : Session) (s : Space) (a : AtomNo) → AreDeferredBut a c s → AreDeferred c (settled s a)
deferred_then c s a h e b =
    let d = deferred_settled c s a 0 h e b in (
      (λ is. (let g = d.0 is in record { own = g.own; gone = g.gone; was = g.was })),
      (λ g. d.1 (record { own = g.own; gone = g.gone; was = g.was })),
    )
