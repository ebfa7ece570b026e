-- What is deferred where two atoms become one while the commit of a third one is under way.
use Rattle.std.proofs.Common.{◌≡◌, ◌≢◌, ℕ, List, [], Option, Some, None, sym, ◌∙◌, ap}
use Rattle.std.proofs.Common.{inl, inr, ◌==◌, true≢false, map}
use Rattle.std.specs.Option.{option_map}
use Rattle.std.proofs.lemmas.Bool.{cases_Bool, cases_eq, cond-false, cond-true}
use Rattle.r4_base.specs.declared.things.AtomNo.{AtomNo}
use Rattle.r4_base.specs.declared.things.NodeId.{NodeId}
use Rattle.r4_kept.specs.r4_flushed.Deferred.{AreDeferred, AreDeferredBut}
use Rattle.r4_kept.proofs.r4_flushed.Deferring.{deferred_fused}
use Rattle.r4_kept.specs.r4_sealed.Commits.{IsLater}
use Rattle.r4_kept.specs.r4_sets.Atoms.{fused}
use Rattle.r4_kept.specs.r4_sets.Session.{Session}
use Rattle.r4_kept.specs.r4_space.Space.{Space, claims_of, claims_without, is_claimed, merged, renamed}
use Rattle.r4_kept.specs.r4_space.declared.things.Claim.{Claim}
use Rattle.r4_kept.specs.r4_trace.Traced.{renamed_atom}
use Rattle.r4_taking.proofs.Merged.{claims_left, claims_other, none_left, without_renamed}

module _ (c : Session) (s : Space) (kept gone atom : AtomNo) (node : NodeId) (not_kept : atom.0 ≢ kept.0)
    (not_gone : atom.0 ≢ gone.0) where
  -- the space without the claims of the atom under way
  abbrev others : Space
  others = record s { deferred = claims_without atom s.deferred }

  all_deferred : AreDeferredBut atom c s → AreDeferred c others
  all_deferred h a b = elim (cases_eq a.0 atom.0) [
    | inl is ↦
        let same : claims_of a (claims_without atom s.deferred) ≡ [] =
        ap (λ (x : AtomNo). claims_of x (claims_without atom s.deferred)) (ap (λ (n : ℕ). record { 0 = n }) is)
        ∙ none_left atom s.deferred in (
          λ e. absurd (true≢false (sym e ∙ ap (λ (l : List Claim). is_claimed l b) same)),
          λ g. absurd (h.none b (g.own ∙ ap Some is)),
        )
    | inr other ↦
        let same : is_claimed (claims_of a others.deferred) b ≡ is_claimed (claims_of a s.deferred) b =
        ap (λ (l : List Claim). is_claimed l b) (claims_left a atom other s.deferred) in
        (λ e. (h.others a b other).0 (sym same ∙ e), λ g. same ∙ (h.others a b other).1 g)
  ]

  -- it owns nothing still
  owns_none : (o : Option ℕ) → (o ≡ Some atom.0 → ⊥) → option_map (renamed_atom kept.0 gone.0) o ≡ Some atom.0 → ⊥
  owns_none None none e = absurd (cc e)
  owns_none (Some x) none e = elim (cases_Bool (x == gone.0)) [
    | inl is ↦ not_kept (sym (cc (sym (ap Some (cond-true (x == gone.0) kept.0 x is)) ∙ e)))
    | inr not ↦ none (sym (ap Some (cond-false (x == gone.0) kept.0 x not)) ∙ e)
  ]

  pub but_fused : AreDeferredBut atom c s → AreDeferredBut atom (fused c kept gone node) (merged s kept gone)
  but_fused h = record {
    others = λ a b other.
        (let same : is_claimed (claims_of a (merged others kept gone).deferred) b
        ≡ is_claimed (claims_of a (merged s kept gone).deferred) b =
        ap (λ (l : List Claim). is_claimed (claims_of a l) b)
        (without_renamed kept gone atom not_kept not_gone s.deferred)
        ∙ ap (λ (l : List Claim). is_claimed l b) (claims_left a atom other (map (renamed kept gone) s.deferred)) in
        let now = deferred_fused c others kept gone node (all_deferred h) a b in
        (λ e. now.0 (same ∙ e), λ g. sym same ∙ now.1 g));
    none = λ b e. owns_none (c.owner b) (h.none b) e;
  }

  pub later_merged : (x : Space) → IsLater x s atom → IsLater x (merged s kept gone) atom
  later_merged x h = record {
    count = h.count;
    marked = h.marked;
    placed = h.placed;
    freed = λ b.
        ap (λ (l : List Claim). is_claimed l b) (claims_other kept gone atom not_kept not_gone s.deferred) ∙ h.freed b;
  }
