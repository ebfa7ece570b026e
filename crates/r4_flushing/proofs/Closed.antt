-- Cells of an atom that name each other: then no other cell in memory names a new one of them.
use Rattle.std.proofs.Common.{◌≡◌, ⊎_elim, ℕ, ◌^◌, ◌≤◌, List, Option, Some, None, refl, sym, ◌∙◌, ap, subst}
use Rattle.std.specs.Prelude.{Contains, IsSome}
use Rattle.r4_atoms.specs.Atoms.{owner_of}
use Rattle.r4_base.specs.Tree.{Name}
use Rattle.r4_base.specs.declared.things.AtomNo.{AtomNo}
use Rattle.r4_renaming.specs.r4_buffer.Seen.{EntrySeen, IsLawful as AreNamed, buffered}
use Rattle.r4_accounting.specs.r4_cell.Seen.{CellSeen, node_of}
use Rattle.r4_outside.specs.Device.{State}
use Rattle.r4_renaming.proofs.r4_wander.Members.{from_map}
use Rattle.r4_accounting.specs.r4_kept.Cells.{NamesAt}
use Rattle.r4_accounting.specs.r4_kept.Kept.{IsKept}
use Rattle.r4_accounting.specs.r4_kept.Naming.{Naming}
use Rattle.r4_accounting.specs.r4_kept.View.{CoreSeen}
use Rattle.r4_closed.specs.Closed.{NameEachOther}
use Rattle.r4_flushing.specs.Sealable.{AreNamedByOwn}
use Rattle.r4_flushing.specs.Sealing.{AreCellsOf, CanSeal}
use Rattle.r4_flushing.proofs.Preparing.{entry_of, is_given}

module _ {D : Type 0} (r : Naming) (d : State) (c : CoreSeen D) (a : AtomNo) (given : List CellSeen)
    (k : IsKept r d c) (can : CanSeal c a) (cells : AreCellsOf c.buffer c.atoms a.0 given) (buffer : AreNamed c.buffer)
    (closed : NameEachOther c.tree.id.0 given) where
  module _ (i : ℕ) (n : Name) (h : NamesAt c.buffer i n) (high : 2 ^ 63 ≤ n.id) where
    names_own : owner_of c.atoms i ≡ Some a.0 → owner_of c.atoms n.id ≡ Some a.0
    names_own own =
        let (has, named) = is_given r d c a given k can cells buffer i h.entry h.is own in
        let (y, in_given, same) =
        from_map (λ (y : CellSeen). y.id) given n.id (closed.down h.entry.cell n has h.among high) in
        ap (owner_of c.atoms) same ∙ ((cells.just y).0 in_given).0

    named_own : IsSome (buffered c.buffer n.id) → owner_of c.atoms n.id ≡ Some a.0 → owner_of c.atoms i ≡ Some a.0
    named_own some own = by (buffered c.buffer n.id) refl some
      where
        by : (o : Option EntrySeen) → buffered c.buffer n.id ≡ o → IsSome o → owner_of c.atoms i ≡ Some a.0
        by None at e = absurd (cc e)
        by (Some g) at e =
            let (has, named) = is_given r d c a given k can cells buffer n.id g at own in
            ⊎_elim
            (λ root.
            absurd (k.cells.named.not_root i n h (sym named ∙ root)
            (subst (λ (j : ℕ). 2 ^ 63 ≤ j) (sym named ∙ root) high)))
            (λ up.
            let (x, m, in_given, among, same) = up in
            let (w, there, is) = entry_of r d c a given k can cells buffer x in_given in
            let one =
            k.cells.named.once i x.id n m h (record {
              entry = w;
              is = there;
              among = subst (λ (v : CellSeen). Contains (node_of v).names m) (sym is) among;
            }) (sym (same ∙ named)) high in
            ap (owner_of c.atoms) one.0 ∙ ((cells.just x).0 in_given).0)
            (closed.up g.cell has (subst (λ (j : ℕ). 2 ^ 63 ≤ j) (sym named) high))

  pub named_when_closed : AreNamedByOwn c a
  named_when_closed i n h high some = (names_own i n h high, named_own i n h high some)
