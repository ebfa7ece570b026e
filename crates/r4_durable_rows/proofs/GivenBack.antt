-- The blocks of a log, as a commit settles and where they stay held.
use Rattle.std.proofs.Common.{◌≡◌, ◌≢◌, inl, inr, ⊎_elim, ℕ, ◌+◌, ◌<◌, ◌≤◌, Bool, true, false, not, ◌||◌, List, [], ◌∷◌}
use Rattle.std.proofs.Common.{◌++◌, length, None, get_or, set, refl, sym, ap, ◌∙◌, subst, arith, get_or-set_same}
use Rattle.std.specs.Prelude.{Contains, filter, map}
use Rattle.std.proofs.lemmas.Bool.{cases_Bool, cases_eq, eq-eqb, ne_eqb, or_parts, or_right}
use Rattle.std.proofs.lemmas.List.{append-nil, get_or-replicate}
use Rattle.std.proofs.lemmas.List.Elements.{All-contains, filter-append}
use Rattle.std.proofs.lemmas.List.Folds.{list_any-append}
use Rattle.std.proofs.lemmas.List.FromFn.{get_or-map-range_with_len}
use Rattle.r4_base.specs.Bitmap.{is_fixed, is_marked}
use Rattle.r4_base.specs.Image.{Image}
use Rattle.r4_base.specs.Value.{Content}
use Rattle.r4_base.specs.Volume.{HasContent, IsLost}
use Rattle.r4_base.specs.declared.things.AtomNo.{AtomNo}
use Rattle.r4_base.proofs.Members.{member_cases, no_member}
use Rattle.r4_space.specs.declared.things.Claim.{Claim}
use Rattle.r4_space.specs.Accounts.{is_atom, is_sealed}
use Rattle.r4_space.specs.Lawful.{IsLawful}
use Rattle.r4_space.specs.Space.{Space, claims_of, claims_without, is_block, is_claimed, is_marked_after}
use Rattle.r4_space.specs.Space.{is_marked_by, is_taken, is_taken_by, settled, unused_count, up_to, with_placed}
use Rattle.r4_space.proofs.ClaimLaws.{third}
use Rattle.r4_commit.specs.Plannable.{is_marked_in}
use Rattle.r4_commit.specs.Planned.{IsUnused, blocks_of}
use Rattle.r4_sealed.specs.Commits.{Commit, IsCommitOn}
use Rattle.r4_sealed.proofs.NewCells.{stays_marked}
use Rattle.r4_durable_rows.specs.Spaces.{freed_at_once, given_back, holding, never_given_back}
use Rattle.r4_durable_rows.proofs.Tally.{count-tally, tally-fewer}

pub all_false : (a b c d : Bool) → (a || (b || (c || d))) ≡ false
    → (a ≡ false) × (b ≡ false) × (c ≡ false) × (d ≡ false)
all_false false false false false e = (refl, refl, refl, refl)
all_false true b c d e = absurd cc
all_false false true c d e = absurd cc
all_false false false true d e = absurd cc
all_false false false false true e = absurd cc

pub none_of_four : (a b c d : Bool) → a ≡ false → b ≡ false → c ≡ false → d ≡ false → (a || (b || (c || d))) ≡ false
none_of_four a b c d w x y z = rw (w, x, y, z) refl

-- ---- claims

abbrev claim : AtomNo → ℕ → Claim
claim atom b = record { atom = atom; block = record { 0 = b } }

none_among : (p : Claim → Bool) (claims : List Claim) (b : ℕ) → is_claimed claims b ≡ false
    → is_claimed (filter p claims) b ≡ false
none_among p [] b none = refl
none_among p (c ∷ rest) b none =
    let both = or_parts (is_block b c) (is_claimed rest b) none in
    let ih = none_among p rest b both.1 in
    elim (cases_Bool (p c)) [ inl has ↦ rw (has, both.0) ih | inr out ↦ rw out ih ]

none_without : (atom : AtomNo) (claims : List Claim) (b : ℕ) → is_claimed claims b ≡ false
    → is_claimed (claims_without atom claims) b ≡ false
none_without atom claims b none = none_among (λ (c : Claim). not (is_atom atom c.atom)) claims b none

-- all of an atom's own are gone
own_gone : (atom : AtomNo) (bs : List ℕ) → claims_without atom (map (claim atom) bs) ≡ []
own_gone atom [] = refl
own_gone atom (b ∷ bs) = let same : is_atom atom atom ≡ true = eq-eqb atom.0 atom.0 refl in rw same (own_gone atom bs)

own_claimed : (atom : AtomNo) (bs : List ℕ) (b : ℕ) → Contains bs b → is_claimed (map (claim atom) bs) b ≡ true
own_claimed atom [] b h = absurd (no_member b h)
own_claimed atom (x ∷ bs) b h = ⊎_elim
    (λ is. let hit : is_block b (claim atom x) ≡ true = eq-eqb x b (sym is) in rw hit refl)
    (λ later. or_right (is_block b (claim atom x)) (is_claimed (map (claim atom) bs) b) (own_claimed atom bs b later))
    (member_cases x bs b h)

either_claimed : (xs ys : List Claim) (b : ℕ) → is_claimed ys b ≡ true → is_claimed (xs ++ ys) b ≡ true
either_claimed xs ys b is = list_any-append (is_block b) xs ys ∙ or_right (is_claimed xs b) (is_claimed ys b) is

-- an atom's own claims stay where another atom settles
own_stay : (atom other : AtomNo) (claims : List Claim) → atom.0 ≢ other.0
    → claims_of atom (claims_without other claims) ≡ claims_of atom claims
own_stay atom other [] apart = refl
own_stay atom other (c ∷ rest) apart =
    let ih = own_stay atom other rest apart in
    elim (cases_eq c.atom.0 other.0) [
      | inl is ↦
          let out : is_atom other c.atom ≡ true = eq-eqb c.atom.0 other.0 is in
          let not_own : is_atom atom c.atom ≡ false = ne_eqb c.atom.0 atom.0 (λ same. apart (sym same ∙ is)) in
          rw (out, not_own) ih
      | inr differs ↦
          let kept : is_atom other c.atom ≡ false = ne_eqb c.atom.0 other.0 differs in
          elim (cases_Bool (is_atom atom c.atom)) [
            | inl own ↦ rw (kept, own) (ap (λ (l : List Claim). c ∷ l) ih)
            | inr not_own ↦ rw (kept, not_own) ih
          ]
    ]

pub still_held : (s : Space) (atom other : AtomNo) (b : ℕ) → atom.0 ≢ other.0
    → is_claimed (claims_of atom s.held) b ≡ true → is_claimed (claims_of atom (settled s other).held) b ≡ true
still_held s atom other b apart held =
    ap (λ (l : List Claim). is_claimed l b) (own_stay atom other s.held apart) ∙ held

-- ---- the commit

module _ (n : ℕ) (work : Commit) (ok : IsCommitOn n work) where
  abbrev s : Space
  s = work.space

  log_unused : (b : ℕ) → Contains (blocks_of work.plan) b → IsUnused s b
  log_unused b h = All-contains (IsUnused s) (blocks_of work.plan) b ok.is_for.unused h

  -- those that were held before stay held, but for the atom's own
  left_held : (given_back work).held ≡ claims_without work.atom s.held
  left_held =
      filter-append (λ (c : Claim). not (is_atom work.atom c.atom)) s.held (map (claim work.atom) (blocks_of work.plan))
      ∙ ap (λ (l : List Claim). claims_without work.atom s.held ++ l) (own_gone work.atom (blocks_of work.plan))
      ∙ append-nil (claims_without work.atom s.held)

  marked_now : (b : ℕ) → b < s.block_count → is_marked_in (given_back work) b
      ≡ is_marked_after s.block_count s.marked s.placed (claims_of work.atom s.deferred) b
  marked_now b lt =
      get_or-map-range_with_len (is_marked_after s.block_count s.marked s.placed (claims_of work.atom s.deferred)) 0
      s.block_count b b false lt (omega arith)

  module _ (b : ℕ) (one : Contains (blocks_of work.plan) b) where
    four : (get_or s.marked b false ≡ false) × (get_or s.placed b false ≡ false) × (is_claimed s.held b ≡ false)
        × (is_claimed s.deferred b ≡ false)
    unfolding is_taken_by
    four =
        all_false (get_or s.marked b false) (get_or s.placed b false) (is_claimed s.held b) (is_claimed s.deferred b)
        (log_unused b one).1

    pub log_unmarked : is_marked_in (given_back work) b ≡ false
    unfolding is_marked_after
    log_unmarked =
        let (marked, placed, held, deferred) = four in
        let (lt, clear, free) = log_unused b one in
        marked_now b lt ∙ rw (free, marked, placed) refl

    pub log_free : is_taken (given_back work) b ≡ false
    unfolding is_taken_by
    log_free =
        let (marked, placed, held, deferred) = four in
        let (lt, clear, free) = log_unused b one in
        none_of_four (is_marked_in (given_back work) b) (get_or (given_back work).placed b false)
        (is_claimed (given_back work).held b) (is_claimed (given_back work).deferred b) log_unmarked
        (get_or-replicate s.block_count b false false lt)
        (ap (λ (l : List Claim). is_claimed l b) left_held ∙ none_without work.atom s.held b held)
        (none_without work.atom s.deferred b deferred)

    pub log_kept : is_taken (never_given_back work) b ≡ true
    unfolding is_taken_by
    log_kept =
        third (is_marked_in (given_back work) b) (get_or (given_back work).placed b false)
        (is_claimed (holding work).held b) (is_claimed (given_back work).deferred b)
        (either_claimed s.held (map (claim work.atom) (blocks_of work.plan)) b
        (own_claimed work.atom (blocks_of work.plan) b one))

  -- what is unused with the log held is unused without
  under : (b : ℕ) → not (is_taken (never_given_back work) b) ≡ true → not (is_taken (given_back work) b) ≡ true
  unfolding is_taken_by
  under b clear =
      let (marked, placed, held, deferred) = all_false (is_marked_in (given_back work) b)
      (get_or (given_back work).placed b false) (is_claimed (holding work).held b)
      (is_claimed (given_back work).deferred b) (was_false (is_taken (never_given_back work) b) clear) in
      ap not (none_of_four (is_marked_in (given_back work) b) (get_or (given_back work).placed b false)
      (is_claimed (given_back work).held b) (is_claimed (given_back work).deferred b) marked placed
      (none_without work.atom (holding work).held b held) deferred)
    where
      was_false : (x : Bool) → not x ≡ true → x ≡ false
      was_false true e = absurd cc
      was_false false e = refl

  pub fewer : unused_count (never_given_back work) + length (blocks_of work.plan) ≤ unused_count (given_back work)
  unfolding unused_count
  fewer =
      let f : ℕ → Bool = λ k. not (is_taken (given_back work) k) in
      let g : ℕ → Bool = λ k. not (is_taken (never_given_back work) k) in
      let le = tally-fewer (blocks_of work.plan) f g s.block_count ok.is_for.different
      (λ b h. ((log_unused b h).0, ap not (log_free b h), ap not (log_kept b h))) under in
      omega (arith, count-tally f s.block_count, count-tally g s.block_count, le)

-- ---- a freed block

pub unused_at_once : (s : Space) (b : ℕ) → IsLawful s → b < s.block_count → get_or s.placed b false ≡ false
    → is_claimed s.held b ≡ false → is_claimed s.deferred b ≡ false → is_taken (freed_at_once s b) b ≡ false
unfolding is_taken_by
unused_at_once s b lawful lt placed held deferred =
    none_of_four (get_or (set s.marked b false) b false) (get_or s.placed b false) (is_claimed s.held b)
    (is_claimed s.deferred b)
    (get_or-set_same s.marked b false false (omega (arith, lt, lawful.marked_size))) placed held deferred

-- ---- a block that is placed for a log

pub placed_is_lost : (n : ℕ) (image : Image) (m : Content) (d : HasContent n image m) (s : Space) (atom : AtomNo)
    (b : ℕ)
    → d.super.block_count ≡ s.block_count → length s.placed ≡ s.block_count → IsUnused s b
    → is_marked image b ≡ is_marked_by (with_placed s b) atom b → d.store b ≡ None → IsLost d b
unfolding is_taken_by
placed_is_lost n image m d s atom b count long (lt, clear, free) marked none =
    let (not_marked, not_placed, held, deferred) = all_false (get_or s.marked b false) (get_or s.placed b false)
    (is_claimed s.held b) (is_claimed s.deferred b) clear in
    let now : (get_or s.marked b false || get_or (set s.placed b true) b false) ≡ true =
    or_right (get_or s.marked b false) (get_or (set s.placed b true) b false)
    (get_or-set_same s.placed b true false (omega (arith, lt, long))) in (
      subst (λ (j : ℕ). b < j) (sym count) lt,
      marked ∙ stays_marked (with_placed s b) atom b now
          (none_among (λ (c : Claim). is_sealed (up_to s.sealed atom) c.atom) s.deferred b deferred),
      subst (λ (j : ℕ). is_fixed j b ≡ false) (sym count) free,
      none,
    )
