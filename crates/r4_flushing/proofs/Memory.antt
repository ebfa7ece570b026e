-- In a run that names its beginning: the cells in memory once the atom is sealed, and who owns them.
use Rattle.std.proofs.Common.{◌≡◌, inl, inr, ⊎_elim, ℕ, ◌^◌, ◌≤◌, ◌==◌, Bool, true, false, cond, List}
use Rattle.std.proofs.Common.{Option, Some, None, refl, sym, ◌∙◌, ap, subst}
use Rattle.std.specs.Prelude.{Contains}
use Rattle.std.specs.Arc.{arc_value}
use Rattle.std.specs.Option.{option_or}
use Rattle.std.proofs.lemmas.Bool.{cases_Bool, cases_eq, cases_lt, cond-false, cond-true, eq-eqb, ne_eqb}
use Rattle.r4_atoms.specs.Atoms.{is_sealed, owner_of}
use Rattle.r4_base.proofs.Choices.{never_both}
use Rattle.r4_base.specs.Tree.{Node, Store}
use Rattle.r4_base.specs.Value.{Value}
use Rattle.r4_base.specs.declared.things.AtomNo.{AtomNo}
use Rattle.r4_renaming.specs.r4_buffer.Changed.{has_name}
use Rattle.r4_accounting.specs.r4_cell.Seen.{CellSeen, node_of}
use Rattle.r4_renaming.specs.r4_commit.Places.{place_of}
use Rattle.r4_content.specs.Meaning.{greatest_size}
use Rattle.r4_accounting.specs.r4_durable.Kept.{IsUnderWay}
use Rattle.r4_accounting.specs.r4_durable.Meaning.{Beginning, IsNamed}
use Rattle.r4_accounting.proofs.r4_durable.Flushes.{sealed_now}
use Rattle.r4_renaming.specs.r4_flush.Joined.{flushed_cell}
use Rattle.r4_renaming.specs.r4_flush.Prepared.{WasCell, cells_of}
use Rattle.r4_renaming.specs.r4_flush.declared.cells.RenamedCell.{RenamedCell}
use Rattle.r4_renaming.specs.r4_flush.declared.preparing.Prepared.{Prepared}
use Rattle.r4_renaming.specs.r4_flushed.Flushed.{cell_at, with_flushed}
use Rattle.r4_renaming.proofs.r4_flushed.FlushedCells.{picks_cases}
use Rattle.r4_renaming.proofs.r4_flushed.Gathering.{spot_or_not}
use Rattle.r4_outside.specs.Device.{State}
use Rattle.r4_renaming.specs.r4_placed.Flushing.{Flushing}
use Rattle.r4_renaming.specs.r4_sealed.Commits.{spot, spot_of}
use Rattle.r4_renaming.specs.r4_sets.Atoms.{without}
use Rattle.r4_renaming.specs.r4_sets.Session.{Session, only, picks}
use Rattle.r4_renaming.specs.r4_wander.declared.plan.LogPlan.{LogPlan}
use Rattle.r4_renaming.proofs.r4_wander.Members.{in_map}
use Rattle.r4_accounting.specs.r4_kept.Meaning.{HasMeaning, if_open}
use Rattle.r4_accounting.specs.r4_kept.Naming.{Naming, job_named, names_in}
use Rattle.r4_accounting.specs.r4_kept.View.{CoreSeen}
use Rattle.r4_renaming.specs.Renaming.{owner_then}
use Rattle.r4_flushing.proofs.Facts as facts
use Rattle.r4_flushing.proofs.Facts.{Sealing}
use Rattle.r4_flushing.proofs.Flush as flush
use Rattle.r4_flushing.proofs.SealedAtoms.{is_sealed_then, others_sealed, owner_high, owner_low, owner_named}
use Rattle.r4_flushing.proofs.SealedAtoms.{owner_other}

module _ {D : Type 0} (r : Naming) (d : State) (c new : CoreSeen D) (a : AtomNo) (given : List CellSeen) (p : Prepared)
    (z : Sealing r d c new a given p) (b : Beginning) (named : IsNamed (names_in r) d.blocks b)
    (way : IsUnderWay greatest_size b (job_named r.scripts) (flush.c0 r d c new a given p z b named)
    (flush.work r d c new a given p z b named) (flush.plan r d c new a given p z b named)) where
  abbrev c0 : Session
  c0 = flush.c0 r d c new a given p z b named

  abbrev m : HasMeaning b (job_named r.scripts) d c (flush.was r d c new a given p z b named).story
  m = flush.m r d c new a given p z b named

  abbrev work : Flushing
  work = flush.work r d c new a given p z b named

  abbrev plan : LogPlan
  plan = flush.plan r d c new a given p z b named

  abbrev rs : List RenamedCell
  rs = p.renamed.items

  abbrev f : ℕ → ℕ
  f = facts.f r d c new a given p z

  abbrev pub memory : Store Value
  memory = with_flushed c0 work c0.memory

  -- ---- the cells of the flush

  in_work : (q : RenamedCell) → Contains rs q → Contains work.cells (flushed_cell q)
  in_work q has = in_map flushed_cell rs q has

  spot_is : (y : CellSeen) (q : RenamedCell) → WasCell f y q → spot work.answers (flushed_cell q) ≡ f y.id
  spot_is y q made = ap (λ (i : ℕ). spot_of (place_of work.answers i) i) made.was

  -- nobody owns a cell of the atom then, under its new name
  pub owner_gone : (y : CellSeen) → Contains given y → without a.0 (c0.owner (f y.id)) ≡ None
  owner_gone y has = elim (cases_lt y.id (2 ^ 63)) [
    | inl low ↦
        ap (without a.0)
        (ap c0.owner (facts.old_stays r d c new a given p z y.id low)
        ∙ flush.owner_is r d c new a given p z b named y has)
        ∙ cond-true (a.0 == a.0) None (Some a.0) (eq-eqb a.0 a.0 refl)
    | inr high ↦
        (let (q, in_rs, made) = facts.comes_to r d c new a given p z y has in
        let sealed = sealed_now greatest_size b (job_named r.scripts) c0 work plan way.kept way.can in
        ap (without a.0)
        (ap c0.owner (sym (spot_is y q made))
        ∙ sealed.unowned (flushed_cell q) (in_work q in_rs) (subst (λ (i : ℕ). 2 ^ 63 ≤ i) (sym made.was) high)))
  ]

  -- a cell of the atom stands in memory under its new name
  pub memory_new : (y : CellSeen) (q : RenamedCell) → Contains given y → Contains rs q → WasCell f y q
      → memory (f y.id) ≡ Some (node_of (arc_value q.cell))
  memory_new y q has in_rs made =
      let sealed = sealed_now greatest_size b (job_named r.scripts) c0 work plan way.kept way.can in
      sealed.clean (f y.id) (owner_gone y has)
      ∙ ap (with_flushed c0 work c0.base.cells) (sym (spot_is y q made))
      ∙ sealed.flushed.node (flushed_cell q) (in_work q in_rs)

  none_there : (i : ℕ) → has_name (cells_of rs) i ≡ false → cell_at work.answers work.cells i ≡ None
  none_there i miss = ⊎_elim
      (λ one.
      let (v, in_cells, at) = one in
      let (y, q, in_given, in_rs, made, is) = flush.flushed_from r d c new a given p z b named v in_cells in
      absurd (never_both (has_name (cells_of rs) i)
      (subst (λ (n : ℕ). has_name (cells_of rs) n ≡ true)
      (sym (spot_is y q made) ∙ ap (spot work.answers) (sym is) ∙ at)
      (facts.given_named r d c new a given p z y in_given)) miss))
      (λ none. none.0)
      (spot_or_not work.answers work.cells i)

  rest_there : (i : ℕ) → has_name (cells_of rs) i ≡ false
      → memory i ≡ cond (picks (only a.0) (c0.owner i)) None (c0.memory i)
  rest_there i miss =
      ap (λ (o : Option (Node Value)). option_or o (cond (picks (only a.0) (c0.owner i)) None (c0.memory i)))
      (none_there i miss)

  -- what the atom does not own stays
  pub memory_same : (i : ℕ) → has_name (cells_of rs) i ≡ false → (c0.owner i ≡ Some a.0 → ⊥)
      → memory i ≡ c0.memory i
  memory_same i miss not = ⊎_elim
      (λ mine. absurd (not mine.0))
      (λ other. rest_there i miss ∙ cond-false (picks (only a.0) (c0.owner i)) None (c0.memory i) other.1)
      (picks_cases a.0 (c0.owner i))

  -- and its old names have nothing
  pub memory_gone : (i : ℕ) → has_name (cells_of rs) i ≡ false → c0.owner i ≡ Some a.0 → memory i ≡ None
  memory_gone i miss own = ⊎_elim
      (λ mine. rest_there i miss ∙ cond-true (picks (only a.0) (c0.owner i)) None (c0.memory i) mine.1)
      (λ other. absurd (other.0 own))
      (picks_cases a.0 (c0.owner i))

  -- ---- owners

  pub owner_open : (i n : ℕ) → owner_of c.atoms i ≡ Some n → is_sealed c.atoms n ≡ false → c0.owner i ≡ Some n
  owner_open i n own opened =
      m.owner i ∙ ap (if_open c.atoms) own ∙ cond-false (is_sealed c.atoms n) None (Some n) opened

  owners_after : (i : ℕ) → has_name (cells_of rs) i ≡ false → (o : Option ℕ) → owner_of c.atoms i ≡ o
      → without a.0 (if_open c.atoms o) ≡ if_open new.atoms (owner_then a.0 rs i o)
  owners_after i miss None at =
      ap (if_open new.atoms) (sym (owner_other a.0 rs i None miss (λ e. cc e)))
  owners_after i miss (Some n) at = elim (cases_eq n a.0) [
    | inl same ↦
        subst (λ (k : ℕ). without a.0 (if_open c.atoms (Some k)) ≡ if_open new.atoms (owner_then a.0 rs i (Some k)))
        (sym same) mine
    | inr other ↦ theirs other
  ]
    where
      sealed : is_sealed new.atoms a.0 ≡ true
      sealed =
          is_sealed_then c.atoms new.atoms a.0 z.has.txns z.has.states (z.kept.history.told None tt).atoms.states
          z.can.opened.atom.begun

      mine : without a.0 (if_open c.atoms (Some a.0)) ≡ if_open new.atoms (owner_then a.0 rs i (Some a.0))
      mine =
          ap (λ (t : Bool). without a.0 (cond t None (Some a.0))) z.can.opened.unsealed
          ∙ cond-true (a.0 == a.0) None (Some a.0) (eq-eqb a.0 a.0 refl)
          ∙ elim (cases_lt i (2 ^ 63)) [
            | inl low ↦
                sym (ap (if_open new.atoms) (owner_low a.0 rs i (Some a.0) miss low)
                ∙ cond-true (is_sealed new.atoms a.0) None (Some a.0) sealed)
            | inr high ↦
                sym (ap (if_open new.atoms) (owner_high a.0 rs i (Some a.0) miss high
                ∙ cond-true (a.0 == a.0) None (Some a.0) (eq-eqb a.0 a.0 refl)))
          ]

      theirs : (n ≡ a.0 → ⊥)
          → without a.0 (if_open c.atoms (Some n)) ≡ if_open new.atoms (owner_then a.0 rs i (Some n))
      theirs other =
          let some = (z.sealable.owners i n at).0.begun.some in
          let flags =
          others_sealed c.atoms new.atoms a.0 z.has.txns z.has.states (z.kept.history.told None tt).atoms.states
          z.can.opened.atom.begun n some other in
          by (is_sealed c.atoms n) refl
          ∙ ap (λ (t : Bool). cond t None (Some n)) (sym flags)
          ∙ ap (if_open new.atoms) (sym (owner_other a.0 rs i (Some n) miss (λ e. other (cc e))))
        where
          by : (t : Bool) → is_sealed c.atoms n ≡ t
              → without a.0 (if_open c.atoms (Some n)) ≡ cond (is_sealed c.atoms n) None (Some n)
          by true is =
              ap (λ (t : Bool). without a.0 (cond t None (Some n))) is
              ∙ sym (ap (λ (t : Bool). cond t None (Some n)) is)
          by false is =
              ap (λ (t : Bool). without a.0 (cond t None (Some n))) is
              ∙ ap (λ (t : Bool). cond t None (Some n)) (ne_eqb n a.0 other)
              ∙ sym (ap (λ (t : Bool). cond t None (Some n)) is)

  -- the session's owners then are those that are not sealed
  pub owner_now : (i : ℕ) → without a.0 (c0.owner i) ≡ if_open new.atoms (owner_of new.atoms i)
  owner_now i = elim (cases_Bool (has_name (cells_of rs) i)) [
    | inl hit ↦
        (let (y, has, at) = facts.named_given r d c new a given p z i hit in
        ap (λ (n : ℕ). without a.0 (c0.owner n)) (sym at) ∙ owner_gone y has
        ∙ sym (ap (if_open new.atoms) (z.has.owners i ∙ owner_named a.0 rs i (owner_of c.atoms i) hit)
        ∙ cond-true (is_sealed new.atoms a.0) None (Some a.0)
        (is_sealed_then c.atoms new.atoms a.0 z.has.txns z.has.states (z.kept.history.told None tt).atoms.states
        z.can.opened.atom.begun)))
    | inr miss ↦
        ap (without a.0) (m.owner i) ∙ owners_after i miss (owner_of c.atoms i) refl
        ∙ ap (if_open new.atoms) (sym (z.has.owners i))
  ]
