use Rattle.std.proofs.Common.{◌≡◌, ℕ, ◌∙◌, refl, sym, Bool, List, Some, None, Option}
use Rattle.r4_atoms.specs.Owned.{label_of}
use Rattle.r4_atoms.specs.Atoms.{owner_of}
use Rattle.r4_atoms.proofs.AtomLaws.{owner_not_found}
use Rattle.std.proofs.Common.{IsSome}
use Rattle.std.proofs.lemmas.Result.{IfOk-weaker}
use Rattle.std.specs.List.{Contains}
use Rattle.std.specs.List.Sorted.{IsStrictlyIncreasing}
use Rattle.r4_atoms.specs.Atoms.{owns}
use Rattle.r4_atoms.proofs.NodeLaws.{contains_kept, is_atom-some, is_atom-true, kept_passes, rising_kept}
use Rattle.r4_atoms.proofs.atoms.Atoms.nodes.Goals as goal

pub returns-clause-rising : goal.returns-clause-rising
returns-clause-rising c =
    let rising : IsStrictlyIncreasing c.as_slice.result.now = rw c.as_slice.ensures.value c.in_ok-all.ensures.rising in
    IfOk-weaker c.owned_of.result _ _ (λ v same. rw same (rising_kept (owns c.args.self.now c.args.atom.0) c.as_slice.result.now rising)) c.owned_of.ensures

pub returns-clause-owned : goal.returns-clause-owned
returns-clause-owned c =
    let p : ℕ → Bool = owns c.args.self.now c.args.atom.0 in
    let all : List ℕ = c.as_slice.result.now in
    IfOk-weaker c.owned_of.result _ _ (λ v same n. (
      λ listed. is_atom-true c.args.atom.0 (owner_of c.args.self.now n) (kept_passes p all n (rw same at listed)),
      λ owned.
          let labelled : IsSome (label_of n c.self.inside.owners.entries) = by_label n owned (label_of n c.self.inside.owners.entries) refl in
          let there : Contains all n = rw c.as_slice.ensures.value (c.in_ok-all.ensures.all n labelled) in
          rw same (contains_kept p all n there (is_atom-some c.args.atom.0 (owner_of c.args.self.now n) owned)),
    )) c.owned_of.ensures
  where
    by_label : (n : ℕ) → owner_of c.args.self.now n ≡ Some c.args.atom.0 → (o : Option ℕ) → label_of n c.self.inside.owners.entries ≡ o → IsSome (label_of n c.self.inside.owners.entries)
    by_label n owned None none = let e = sym owned ∙ owner_not_found _ _ _ _ _ _ _ c.self.invariant.0 _ c.self.view_is n none in absurd (cc)
    by_label n owned (Some t) found = rw found refl
