-- What is told of the commit that is under way, where it goes on unchanged.
use Rattle.std.proofs.Common.{◌≡◌, ⊎_elim, ℕ, ◌+◌, Bool, true≢false, cond, List, Option, Some, None, sym, ◌∙◌, ap}
use Rattle.r4_atoms.specs.Atoms.{AtomsSeen, IsBegun as IsTxn, is_committed}
use Rattle.r4_trace.specs.Traced.{committed_in, last_sealed, sealed_in}
use Rattle.r4_trace.specs.declared.entry.Entry.{Entry}
use Rattle.r4_history.specs.Told.{CommitTells, IsCommitting}
use Rattle.r4_history.proofs.AtomSteps.{SameFlags}

-- The two traces say the same of seals and commits.
pub record SameSeals (old new : List Entry) : Type 0 where
  pub sealed : sealed_in new ≡ sealed_in old
  pub committed : committed_in new ≡ committed_in old
  pub last : last_sealed new ≡ last_sealed old

module _ (old new : AtomsSeen) (was now : List Entry) (f : SameFlags old new)
    (grows : (a : ℕ) → IsTxn old a → IsTxn new a) (e : SameSeals was now) where
  committing_on : (o : Option ℕ) → IsCommitting old o was → IsCommitting new o now
  committing_on None c = e.sealed ∙ c ∙ sym e.committed
  committing_on (Some a) c = record {
    atom = grows a c.atom;
    last = e.last ∙ c.last;
    counts =
        e.sealed ∙ c.counts
        ∙ ap (λ (n : ℕ). n + cond (is_committed old a) 0 1) (sym e.committed)
        ∙ ap (λ (b : Bool). committed_in now + cond b 0 1) (sym (f.committed a c.atom));
  }

  pub commit_on : (commit broken : Option ℕ) → CommitTells old commit broken was → CommitTells new commit broken now
  commit_on commit broken c = record {
    under_way = λ none. committing_on commit (c.under_way none);
    one = λ a none is sealed clean. ⊎_elim
        (λ had. c.one a none had (sym (f.sealed a had) ∙ sealed) (sym (f.cleaned a had) ∙ clean))
        (λ un. absurd (true≢false (sym sealed ∙ un)))
        (f.first a is);
    none = c.none;
  }
