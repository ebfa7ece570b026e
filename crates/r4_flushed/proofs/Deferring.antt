-- What is deferred for the open atoms of a session.
use Rattle.std.proofs.Common.{◌≡◌, ◌≢◌, ◌⊎◌, inl, inr, ⊎_elim, ℕ, Bool, true, false, ◌||◌, ◌&&◌, not}
use Rattle.std.proofs.Common.{cond, eqb, List, [], ◌∷◌, map, Option, Some, None, refl, sym, ap, ◌∙◌, subst}
use Rattle.std.specs.Prelude.{◌↔◌}
use Rattle.std.specs.List.{list_any}
use Rattle.std.specs.Option.{option_map, option_or}
use Rattle.std.proofs.lemmas.Bool.{cases_eq, eq-eqb, eqb-true, ne_eqb, or_cases, or_left}
use Rattle.r4_base.specs.Tree.{Node, Root, Store}
use Rattle.r4_base.specs.Value.{Content, Value}
use Rattle.r4_base.specs.declared.things.AtomNo.{AtomNo}
use Rattle.r4_base.specs.declared.things.NodeId.{NodeId}
use Rattle.r4_base.proofs.Choices.{never_both}
use Rattle.r4_placed.specs.r4_space.Accounts.{is_atom}
use Rattle.r4_placed.specs.r4_space.Space.{Space, claims_of, claims_without, is_block, is_claimed, merged, renamed, settled}
use Rattle.r4_placed.specs.r4_space.declared.things.Claim.{Claim}
use Rattle.r4_placed.specs.r4_trace.Traced.{renamed_atom}
use Rattle.r4_placed.specs.r4_place.Chosen.{placed_all}
use Rattle.r4_placed.proofs.r4_place.ChosenCells.{rest_stays}
use Rattle.r4_placed.specs.r4_sets.Atoms.{committed, fused, opened, without}
use Rattle.r4_placed.specs.r4_sets.Session.{Session, only, picks}
use Rattle.r4_placed.specs.r4_sealed.Commits.{is_freed}
use Rattle.r4_placed.proofs.r4_sealed.Settled.{freed_alone}
use Rattle.r4_flushed.specs.Deferred.{AreDeferred, AreDeferredBut, IsDeferred}
use Rattle.r4_flushed.specs.Flushed.{AreFlushed, AreUnowned, IsGone, sealed_to, with_flushed}
use Rattle.r4_placed.specs.Flushing.{Flushing, IsAtRest}
use Rattle.r4_flushed.proofs.Gathering.{spot_or_not}
use Rattle.r4_flushed.proofs.Owned.{no_owner, still_owned}
use Rattle.r4_placed.proofs.Planning.{below_or, old_spot}
use Rattle.r4_placed.proofs.r4_sealed.NewCells.{or_second}

-- ---- claims of an atom

-- the list has a claim of the atom on the block
abbrev has : AtomNo → ℕ → List Claim → Bool
has a b l = list_any (λ (x : Claim). is_atom a x.atom && is_block b x) l

claimed_is : (a : AtomNo) (b : ℕ) (l : List Claim) → is_claimed (claims_of a l) b ≡ has a b l
claimed_is a b [] = refl
claimed_is a b (x ∷ l) = go (is_atom a x.atom) (claimed_is a b l)
  where
    go : (t : Bool) → is_claimed (claims_of a l) b ≡ has a b l
        → is_claimed (cond t (x ∷ claims_of a l) (claims_of a l)) b ≡ ((t && is_block b x) || has a b l)
    go true same = ap (λ (r : Bool). is_block b x || r) same
    go false same = same

mix : (k g ks gs : Bool) → ((k || g) || (ks || gs)) ≡ ((k || ks) || (g || gs))
mix true g ks gs = refl
mix false true true gs = refl
mix false true false gs = refl
mix false false ks gs = refl

not_atom : (a c : AtomNo) → a.0 ≢ c.0 → is_atom a c ≡ false
not_atom a c other = ne_eqb c.0 a.0 (λ e. other (sym e))

-- two atoms become one
module _ (kept gone : AtomNo) (b : ℕ) where
  one_kept : (x : Claim) → (is_atom kept (renamed kept gone x).atom && is_block b (renamed kept gone x))
      ≡ ((is_atom kept x.atom && is_block b x) || (is_atom gone x.atom && is_block b x))
  one_kept x = go (is_atom gone x.atom)
    where
      last : (p q : Bool) → q ≡ ((p && q) || q)
      last true true = refl
      last true false = refl
      last false q = refl

      none : (p : Bool) → p ≡ (p || false)
      none true = refl
      none false = refl

      go : (t : Bool) → (is_atom kept (cond t (record x { atom = kept }) x).atom && is_block b
          (cond t (record x { atom = kept }) x))
          ≡ ((is_atom kept x.atom && is_block b x) || (t && is_block b x))
      go true = ap (λ (p : Bool). p && is_block b x) (eq-eqb kept.0 kept.0 refl)
          ∙ last (is_atom kept x.atom) (is_block b x)
      go false = none (is_atom kept x.atom && is_block b x)

  has_kept : (l : List Claim) → has kept b (map (renamed kept gone) l) ≡ (has kept b l || has gone b l)
  has_kept [] = refl
  has_kept (x ∷ l) =
      ap (λ (p : Bool). p || has kept b (map (renamed kept gone) l)) (one_kept x)
      ∙ ap (λ (r : Bool). ((is_atom kept x.atom && is_block b x) || (is_atom gone x.atom && is_block b x)) || r)
      (has_kept l)
      ∙ mix (is_atom kept x.atom && is_block b x) (is_atom gone x.atom && is_block b x) (has kept b l) (has gone b l)

  module _ (a : AtomNo) (other : a.0 ≢ kept.0) where
    one_other : (x : Claim) → (is_atom a (renamed kept gone x).atom && is_block b (renamed kept gone x))
        ≡ (not (is_atom gone x.atom) && (is_atom a x.atom && is_block b x))
    one_other x = go (is_atom gone x.atom)
      where
        go : (t : Bool) → (is_atom a (cond t (record x { atom = kept }) x).atom && is_block b
            (cond t (record x { atom = kept }) x))
            ≡ (not t && (is_atom a x.atom && is_block b x))
        go true = ap (λ (p : Bool). p && is_block b x) (not_atom a kept other)
        go false = refl

    -- nothing is left of the one that is gone
    has_gone : (l : List Claim) → a.0 ≡ gone.0 → has a b (map (renamed kept gone) l) ≡ false
    has_gone [] is = refl
    has_gone (x ∷ l) is =
        ap (λ (p : Bool). p || has a b (map (renamed kept gone) l)) (one_other x ∙ no_more (is_atom gone x.atom) refl)
        ∙ has_gone l is
      where
        no_more : (t : Bool) → is_atom gone x.atom ≡ t → (not t && (is_atom a x.atom && is_block b x)) ≡ false
        no_more true e = refl
        no_more false e = ap (λ (p : Bool). p && is_block b x) (ap (λ (k : ℕ). eqb x.atom.0 k) is ∙ e)

    -- and the others keep theirs
    has_other : (l : List Claim) → a.0 ≢ gone.0 → has a b (map (renamed kept gone) l) ≡ has a b l
    has_other [] out = refl
    has_other (x ∷ l) out =
        ap (λ (p : Bool). p || has a b (map (renamed kept gone) l)) (one_other x ∙ still (is_atom gone x.atom) refl)
        ∙ ap (λ (r : Bool). (is_atom a x.atom && is_block b x) || r) (has_other l out)
      where
        still : (t : Bool) → is_atom gone x.atom ≡ t
            → (not t && (is_atom a x.atom && is_block b x)) ≡ (is_atom a x.atom && is_block b x)
        still false e = refl
        still true e =
            let at : x.atom.0 ≡ gone.0 = eqb-true x.atom.0 gone.0 e in
            sym (ap (λ (p : Bool). p && is_block b x) (not_atom a x.atom (λ same. out (same ∙ at))))

-- the atom's claims go when it settles
module _ (atom a : AtomNo) (b : ℕ) where
  has_settled : (l : List Claim) → a.0 ≢ atom.0 → has a b (claims_without atom l) ≡ has a b l
  has_settled [] other = refl
  has_settled (x ∷ l) other = go (is_atom atom x.atom) refl (has_settled l other)
    where
      go : (t : Bool) → is_atom atom x.atom ≡ t → has a b (claims_without atom l) ≡ has a b l
          → has a b (cond (not t) (x ∷ claims_without atom l) (claims_without atom l))
          ≡ ((is_atom a x.atom && is_block b x) || has a b l)
      go false e same = ap (λ (r : Bool). (is_atom a x.atom && is_block b x) || r) same
      go true e same =
          let at : x.atom.0 ≡ atom.0 = eqb-true x.atom.0 atom.0 e in
          same ∙ sym (ap (λ (p : Bool). (p && is_block b x) || has a b l) (not_atom a x.atom (λ is. other (is ∙ at))))

  none_settled : (l : List Claim) → a.0 ≡ atom.0 → has a b (claims_without atom l) ≡ false
  none_settled [] is = refl
  none_settled (x ∷ l) is = go (is_atom atom x.atom) refl (none_settled l is)
    where
      go : (t : Bool) → is_atom atom x.atom ≡ t → has a b (claims_without atom l) ≡ false
          → has a b (cond (not t) (x ∷ claims_without atom l) (claims_without atom l)) ≡ false
      go true e same = same
      go false e same =
          ap (λ (p : Bool). (p && is_block b x) || has a b (claims_without atom l))
          (ap (λ (k : ℕ). eqb x.atom.0 k) is ∙ e) ∙ same

-- ---- sessions

pub deferred_begun : (t : Store Value) (root : Root) (m : Content) (s : Space) → s.deferred ≡ []
    → AreDeferred (opened t root m) s
deferred_begun t root m s none a b = (
  λ e. absurd (never_both (is_claimed (claims_of a s.deferred) b) e
      (ap (λ (l : List Claim). is_claimed (claims_of a l) b) none)),
  λ g. absurd (no_owner a.0 g.own),
)

-- what a commit frees, where no other atom is sealed
pub freed_is_gone : (c : Session) (s : Space) (atom : AtomNo) → AreDeferred c s
    → (s.sealed ≡ []) ⊎ (s.sealed ≡ atom ∷ []) → (b : ℕ)
    → (is_freed s atom b ≡ true) ↔ IsGone c atom c.under.cells b
freed_is_gone c s atom deferred alone b =
    let same = freed_alone s atom alone b in
    (λ e. (deferred atom b).0 (sym same ∙ e), λ g. same ∙ (deferred atom b).1 g)

module _ (c : Session) (s : Space) (kept gone : AtomNo) (node : NodeId) (deferred : AreDeferred c s) where
  abbrev after : Session
  after = fused c kept gone node

  gone_after : (a : AtomNo) (b : ℕ) → c.memory b ≡ None → (d : Node Value) × (c.under.cells b ≡ Some d)
      → after.owner b ≡ Some a.0 → IsGone after a after.under.cells b
  gone_after a b gone was own = record { own = own; gone = gone; was = was }

  -- whose a cell becomes
  own_kept : (o : Option ℕ) → (o ≡ Some kept.0) ⊎ (o ≡ Some gone.0)
      → option_map (renamed_atom kept.0 gone.0) o ≡ Some kept.0
  own_kept o (inl is) = ap (option_map (renamed_atom kept.0 gone.0)) is
      ∙ ap (λ (k : ℕ). Some k) (go (eqb kept.0 gone.0))
    where
      go : (t : Bool) → cond t kept.0 kept.0 ≡ kept.0
      go true = refl
      go false = refl
  own_kept o (inr is) =
      ap (option_map (renamed_atom kept.0 gone.0)) is
      ∙ ap (λ (t : Bool). Some (cond t kept.0 gone.0)) (eq-eqb gone.0 gone.0 refl)

  own_other : (k : ℕ) (o : Option ℕ) → k ≢ gone.0 → o ≡ Some k → option_map (renamed_atom kept.0 gone.0) o ≡ Some k
  own_other k o out is =
      ap (option_map (renamed_atom kept.0 gone.0)) is ∙ ap (λ (t : Bool). Some (cond t kept.0 k))
      (ne_eqb k gone.0 out)

  -- and whose it was
  was_own : (k : ℕ) (o : Option ℕ) → option_map (renamed_atom kept.0 gone.0) o ≡ Some k
      → ((o ≡ Some gone.0) × (k ≡ kept.0)) ⊎ ((o ≡ Some k) × (k ≢ gone.0))
  was_own k None e = absurd (no_owner k e)
  was_own k (Some j) e = elim (cases_eq j gone.0) [
    | inl is ↦
        inl (
          ap (λ (i : ℕ). Some i) is,
          (let same : Some k ≡ Some kept.0 = sym e ∙ ap (λ (t : Bool). Some (cond t kept.0 j)) (eq-eqb j gone.0 is) in
              let at : k ≡ kept.0 = cc same in at),
        )
    | inr other ↦
        let same : Some j ≡ Some k = sym (ap (λ (t : Bool). Some (cond t kept.0 j)) (ne_eqb j gone.0 other)) ∙ e in
        let at : j ≡ k = cc same in
        inr (same, λ is. other (at ∙ is))
  ]

  abbrev l : List Claim
  l = s.deferred

  abbrev now : List Claim
  now = map (renamed kept gone) s.deferred

  for_kept : (b : ℕ) → IsDeferred (merged s kept gone) kept b ↔ IsGone after kept after.under.cells b
  for_kept b = (
    λ e. ⊎_elim
        (λ k. let g = (deferred kept b).0 (claimed_is kept b l ∙ k) in
        gone_after kept b g.gone g.was (own_kept (c.owner b) (inl g.own)))
        (λ k. let g = (deferred gone b).0 (claimed_is gone b l ∙ k) in
        gone_after kept b g.gone g.was (own_kept (c.owner b) (inr g.own)))
        (or_cases (has kept b l) (has gone b l) (sym (has_kept kept gone b l) ∙ sym (claimed_is kept b now) ∙ e)),
    λ g. claimed_is kept b now ∙ has_kept kept gone b l ∙ ⊎_elim
        (λ (own, is).
        or_second (has kept b l) (has gone b l)
        (sym (claimed_is gone b l) ∙ (deferred gone b).1 (record { own = own; gone = g.gone; was = g.was })))
        (λ (own, out).
        or_left (has kept b l) (has gone b l)
        (sym (claimed_is kept b l) ∙ (deferred kept b).1 (record { own = own; gone = g.gone; was = g.was })))
        (was_own kept.0 (c.owner b) g.own),
  )

  for_gone : (a : AtomNo) (b : ℕ) → a.0 ≢ kept.0 → a.0 ≡ gone.0
      → IsDeferred (merged s kept gone) a b ↔ IsGone after a after.under.cells b
  for_gone a b other is = (
    λ e. absurd (never_both (is_claimed (claims_of a now) b) e
        (claimed_is a b now ∙ has_gone kept gone b a other l is)),
    λ g. ⊎_elim (λ (own, same). absurd (other same)) (λ (own, out). absurd (out is)) (was_own a.0 (c.owner b) g.own),
  )

  for_other : (a : AtomNo) (b : ℕ) → a.0 ≢ kept.0 → a.0 ≢ gone.0
      → IsDeferred (merged s kept gone) a b ↔ IsGone after a after.under.cells b
  for_other a b other out =
      let same = claimed_is a b now ∙ has_other kept gone b a other l out ∙ sym (claimed_is a b l) in (
        λ e. let g = (deferred a b).0 (sym same ∙ e) in
            gone_after a b g.gone g.was (own_other a.0 (c.owner b) out g.own),
        λ g. same ∙ ⊎_elim
            (λ (own, is). absurd (other is))
            (λ (own, still). (deferred a b).1 (record { own = own; gone = g.gone; was = g.was }))
            (was_own a.0 (c.owner b) g.own),
      )

  pub deferred_fused : AreDeferred after (merged s kept gone)
  deferred_fused a b = elim (cases_eq a.0 kept.0) [
    | inl is ↦
        subst (λ (x : AtomNo). IsDeferred (merged s kept gone) x b ↔ IsGone after x after.under.cells b)
        (ap (λ (k : ℕ). record { 0 = k }) (sym is)) (for_kept b)
    | inr other ↦ elim (cases_eq a.0 gone.0) [ inl is ↦ for_gone a b other is | inr out ↦ for_other a b other out ]
  ]

-- ---- one is sealed, and settles

pub deferred_settled : (c : Session) (s : Space) (atom : AtomNo) (clock : ℕ) → AreDeferredBut atom c s
    → AreDeferred (committed c atom clock) (settled s atom)
deferred_settled c s atom clock d a b = elim (cases_eq a.0 atom.0) [
  | inl is ↦ (
    λ e. absurd (never_both (is_claimed (claims_of a (claims_without atom s.deferred)) b) e
        (claimed_is a b (claims_without atom s.deferred) ∙ none_settled atom a b s.deferred is)),
    λ g. absurd (d.none b (g.own ∙ ap (λ (k : ℕ). Some k) is)),
  )
  | inr other ↦
      let same = claimed_is a b (claims_without atom s.deferred) ∙ has_settled atom a b s.deferred other
      ∙ sym (claimed_is a b s.deferred) in (
        λ e. let g = (d.others a b other).0 (sym same ∙ e) in record { own = g.own; gone = g.gone; was = g.was },
        λ g. same ∙ (d.others a b other).1 (record { own = g.own; gone = g.gone; was = g.was }),
      )
]

module _ (n : ℕ) (work : Flushing) (m : Content) (r : IsAtRest n work m) (c : Session)
    (fl : AreFlushed c work r.content.store) (unowned : AreUnowned c work) (deferred : AreDeferred c work.space) where
  abbrev sealed_now : Session
  sealed_now = sealed_to c work (with_flushed c work r.content.store) (with_flushed c work c.memory)

  some_same : (a b : ℕ) → Some a ≡ Some b → a ≡ b
  some_same a b e = cc e

  -- what another atom owns is as it was
  other_at : (t : Store Value) (a b : ℕ) → a ≢ work.atom.0 → c.owner b ≡ Some a → with_flushed c work t b ≡ t b
  other_at t a b other own = ⊎_elim
      (λ (x, one, at). ⊎_elim
      (λ low.
      let same : c.owner b ≡ Some work.atom.0 = ap c.owner (sym at ∙ old_spot n work m r x one low)
      ∙ (fl.flush.owned x one).0 in
      absurd (other (some_same a work.atom.0 (sym own ∙ same))))
      (λ high. absurd (no_owner a (sym (ap c.owner (sym at) ∙ unowned x one high) ∙ own)))
      (below_or x.id))
      (λ (none, off).
      ap (λ (o : Option (Node Value)). option_or o (cond (picks (only work.atom.0) (c.owner b)) None (t b))) none
      ∙ ap (λ (o : Option ℕ). cond (picks (only work.atom.0) o) None (t b)) own
      ∙ ap (λ (p : Bool). cond p None (t b)) (ne_eqb a work.atom.0 other))
      (spot_or_not work.answers work.cells b)

  same_claims : (a : AtomNo) (b : ℕ)
      → is_claimed (claims_of a (placed_all work.space work.answers).deferred) b ≡ is_claimed
      (claims_of a work.space.deferred) b
  same_claims a b = ap (λ (s : Space). is_claimed (claims_of a s.deferred) b) (rest_stays work.space work.answers)

  pub deferred_sealed : AreDeferredBut work.atom sealed_now (placed_all work.space work.answers)
  deferred_sealed = record {
    others = λ a b other. (
      λ e.
          let g = (deferred a b).0 (sym (same_claims a b) ∙ e) in
          let (d, is) = g.was in
          record {
            own = ap (without work.atom.0) g.own ∙ ap (λ (p : Bool). cond p None (Some a.0))
                (ne_eqb a.0 work.atom.0 other);
            gone = other_at c.memory a.0 b other g.own ∙ g.gone;
            was = (d, other_at r.content.store a.0 b other g.own ∙ sym (fl.alone b) ∙ is);
          },
      λ g.
          let own = (still_owned work.atom.0 a.0 (c.owner b) g.own).0 in
          let (d, is) = g.was in
          same_claims a b ∙ (deferred a b).1 (record {
            own = own;
            gone = sym (other_at c.memory a.0 b other own) ∙ g.gone;
            was = (d, fl.alone b ∙ sym (other_at r.content.store a.0 b other own) ∙ is);
          }),
    );
    none = λ b e. let both = still_owned work.atom.0 work.atom.0 (c.owner b) e in both.1 both.0;
  }
