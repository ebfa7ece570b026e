use Rattle.std.proofs.Common.{◌≡◌, ◌≢◌, ℕ, ap, ◌∙◌, sym, subst}
use Rattle.std.specs.Option.{option_or}
use Rattle.r4_atoms.specs.Atoms.{owner_of}
use Rattle.r4_renaming.proofs.Owning.{owners_next}
use Rattle.r4_renaming.proofs.Prefix.{new_name, old_name}
use Rattle.r4_renaming.proofs.owners.rename_nodes.Goals as goal

pub loop-cell-preserved : goal.loop-cell-preserved
loop-cell-preserved g c =
    let x = c.cell-item.result in
    let e = c.rename.ensures in
    let rest = c.loop-cell.invariant.rest in
    let named : c.id.result.0 ≡ new_name x = c.id.ensures ∙ ap (λ y. y.id) c.deref.ensures in
    let b = c.loop-cell.atoms in
    let d = c.rename.new.self in
    record {
      owners = owners_next g.atom c.args.renamed.now c.args.atoms.now c.requires.0 c.requires.1.0 c.requires.1.1
          c.loop-cell.cell-index x c.loop-cell-test.true c.cell-item.is b d c.loop-cell.invariant.owners
          (λ other. e.from (subst (λ (n : ℕ). old_name x ≢ n) (sym named) other))
          (subst (λ (n : ℕ). old_name x ≢ n → owner_of d n ≡ option_or (owner_of b n) (owner_of b (old_name x))) named
          e.to)
          (λ same. e.itself (same ∙ sym named))
          (λ i not_old not_new. e.others i not_old (subst (λ (n : ℕ). i ≢ n) (sym named) not_new));
      rest = record {
        txns = e.txns ∙ rest.txns;
        states = e.atoms ∙ rest.states;
        captures = e.spare ∙ rest.captures;
        begins = e.room ∙ rest.begins;
      };
    }
