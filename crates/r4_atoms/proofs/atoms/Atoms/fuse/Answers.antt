use Rattle.std.proofs.Common.{◌≡◌, ℕ, ◌∷◌, [], ◌∙◌, refl, sym, ap, List, inl, inr, arith, map, min, max}
use Rattle.std.proofs.lemmas.Bool.{cases_eq, eq-eqb, ne_eqb}
use Rattle.r4_atoms.specs.Names.{renamed}
use Rattle.r4_atoms.specs.Atoms.{renamed_txn, TxnSeen}
use Rattle.r4_atoms.proofs.atoms.Atoms.fuse.Goals as goal

rename_same : (a : ℕ) (ts : List TxnSeen) → map (renamed_txn a a) ts ≡ ts
rename_same a [] = refl
rename_same a (t ∷ ts) =
    let same : renamed a a t.atom ≡ t.atom = elim (cases_eq t.atom a) [
      | inl hit ↦ rw (eq-eqb t.atom a hit) (sym hit)
      | inr miss ↦ rw (ne_eqb t.atom a miss) refl
    ] in
    ap (λ (x : ℕ). record { script = t.script; atom = x; is_open = t.is_open } ∷ map (renamed_txn a a) ts) same ∙ ap (λ (rest : List TxnSeen). t ∷ rest) (rename_same a ts)

pub returns-else-two-one-clause-txns : goal.returns-else-two-one-clause-txns
returns-else-two-one-clause-txns c =
    let same : max c.args.one.0 c.args.two.0 ≡ min c.args.one.0 c.args.two.0 = omega arith in
    rw same (sym (rename_same (min c.args.one.0 c.args.two.0) c.args.self.now.txns))
