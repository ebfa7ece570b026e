-- The space of the new content.
use Rattle.std.proofs.Common.{◌≡◌, ◌⊎◌, inl, inr, ⊎_elim, ℕ, ◌+◌, ◌<◌, Bool, true, false, ◌||◌, ◌&&◌, not, eqb, List}
use Rattle.std.proofs.Common.{[], ◌∷◌, length, filter, get_or, refl, sym, ap, ◌∙◌, subst, arith}
use Rattle.std.specs.Prelude.{nat_le, if◌then◌else◌}
use Rattle.std.specs.List.{range_with_len}
use Rattle.std.proofs.lemmas.Bool.{eq-eqb, cases_eq, ne_eqb}
use Rattle.std.proofs.lemmas.Bool.Decides.{nat_tests}
use Rattle.std.proofs.lemmas.List.{get_or-map}
use Rattle.std.proofs.lemmas.List.FromFn.{get_or-range_with_len, length-range_with_len}
use Rattle.r4_base.specs.Bitmap.{is_fixed}
use Rattle.r4_base.specs.Value.{Content}
use Rattle.r4_base.specs.Volume.{HasContent}
use Rattle.r4_base.specs.declared.things.AtomNo.{AtomNo}
use Rattle.r4_commit.specs.r4_space.Accounts.{is_atom, is_sealed}
use Rattle.r4_commit.specs.r4_space.Space.{Space, claims_of, freed_by, is_claimed, is_marked_after, is_marked_by, settled}
use Rattle.r4_commit.specs.r4_space.Space.{up_to}
use Rattle.r4_commit.specs.r4_space.declared.things.Claim.{Claim}
use Rattle.r4_commit.specs.Plannable.{is_marked_in}
use Rattle.r4_sealed.specs.Commits.{Commit, IsCommitOn, IsLater, image_after, is_freed}
use Rattle.r4_sealed.specs.Written.{IsSpaceOf}
use Rattle.r4_sealed.proofs.NewCells.{marks_after}

same_filter : (p q : Claim → Bool) (xs : List Claim) → ((c : Claim) → p c ≡ q c) → filter p xs ≡ filter q xs
same_filter p q [] e = refl
same_filter p q (x ∷ xs) e = rw (e x, same_filter p q xs e) refl

turned : (i j : ℕ) → eqb i j ≡ eqb j i
turned i j = elim (cases_eq i j) [
  | inl is ↦ eq-eqb i j is ∙ sym (eq-eqb j i (sym is))
  | inr other ↦ ne_eqb i j other ∙ sym (ne_eqb j i (λ e. other (sym e)))
]

or_not : (t : Bool) → (t || false) ≡ t
or_not true = refl
or_not false = refl

-- where no other atom was sealed before it, an atom frees what is deferred for it
pub freed_alone : (s : Space) (atom : AtomNo) → (s.sealed ≡ []) ⊎ (s.sealed ≡ atom ∷ []) → (b : ℕ)
    → is_freed s atom b ≡ is_claimed (claims_of atom s.deferred) b
freed_alone s atom alone b =
    let one : up_to s.sealed atom ≡ atom ∷ [] = ⊎_elim
    (λ none. ap (λ (l : List AtomNo). up_to l atom) none)
    (λ it. ap (λ (l : List AtomNo). up_to l atom) it ∙ ap
    (λ (t : Bool). if t then atom ∷ [] else (atom ∷ (atom ∷ []))) (eq-eqb atom.0 atom.0 refl))
    alone in
    ap (λ (l : List AtomNo). is_claimed (freed_by l s.deferred) b) one
    ∙ ap (λ (l : List Claim). is_claimed l b) (same_filter (λ c. is_sealed (atom ∷ []) c.atom)
    (λ c. is_atom atom c.atom) s.deferred (λ c. or_not (is_atom c.atom atom) ∙ turned atom.0 c.atom.0))

module _ (n : ℕ) (work : Commit) (ok : IsCommitOn n work) (m : Content) (c1 : HasContent n (image_after work) m)
    (count : c1.super.block_count ≡ work.space.block_count) (later : Space)
    (l : IsLater work.space later work.atom) where
  told : (b : ℕ) → b < work.space.block_count → is_marked_in
      (settled later work.atom) b ≡ is_marked_after work.space.block_count work.space.marked work.space.placed
      (claims_of work.atom later.deferred) b
  told b lt =
      let blocks : List ℕ = range_with_len 0 later.block_count in
      let inside : b < length blocks = let long = length-range_with_len 0 later.block_count in
      omega (arith, lt, long, l.count) in
      let at : get_or blocks b 0 ≡ b = get_or-range_with_len 0 later.block_count b 0 (omega (arith, lt, l.count))
      ∙ (let same : 0 + b ≡ b = omega arith in same) in
      get_or-map (is_marked_after later.block_count later.marked later.placed (claims_of work.atom later.deferred))
      blocks b 0 false inside
      ∙ ap (is_marked_after later.block_count later.marked later.placed (claims_of work.atom later.deferred)) at
      ∙ (λ i. is_marked_after (l.count i) (l.marked i) (l.placed i) (claims_of work.atom later.deferred) b)

  after_is : (b : ℕ) → b < work.space.block_count → is_marked_after work.space.block_count work.space.marked
      work.space.placed (claims_of work.atom later.deferred) b ≡ is_marked_by work.space work.atom b
  unfolding is_marked_after is_marked_by
  after_is b lt =
      let inside : nat_le work.space.block_count b ≡ false = grind (arith, nat_tests, lt) in
      ap (λ (t : Bool). is_fixed work.space.block_count b ||
      ((get_or work.space.marked b false || get_or work.space.placed b false) && not t)) (l.freed b)
      ∙ sym (ap (λ (t : Bool). t || (is_fixed work.space.block_count b ||
      ((get_or work.space.marked b false || get_or work.space.placed b false) && not
      (is_freed work.space work.atom b)))) inside)

  pub settled_space : IsSpaceOf c1 (settled later work.atom)
  settled_space = record {
    count = count ∙ sym l.count;
    marks = λ b lt. let below : b < work.space.block_count = subst (λ (j : ℕ). b < j) l.count lt in told b below
        ∙ after_is b below ∙ sym (marks_after n work ok b below);
  }
