-- In a run that names its beginning: what was prepared is a flush of the session's atom.
use Rattle.std.proofs.Common.{◌≡◌, ℕ, ◌^◌, ◌<◌, ◌≤◌, Bool, true, false, cond, List, [], ◌∷◌}
use Rattle.std.proofs.Common.{map}
use Rattle.std.proofs.Common.{Option, Some, None, refl, sym, ◌∙◌, ap, subst, arith}
use Rattle.std.specs.Prelude.{Contains, IsSome}
use Rattle.std.proofs.lemmas.Bool.{cond-false}
use Rattle.r4_atoms.specs.Atoms.{is_sealed, owner_of}
use Rattle.r4_base.specs.Image.{AreDifferent}
use Rattle.r4_base.specs.Tree.{Node, Store}
use Rattle.r4_base.specs.Value.{Content, Value}
use Rattle.r4_base.specs.Volume.{HasContent}
use Rattle.r4_base.specs.declared.things.AtomNo.{AtomNo}
use Rattle.r4_renaming.specs.r4_buffer.Seen.{EntrySeen, buffered, is_dirty_by}
use Rattle.r4_accounting.specs.r4_cell.Seen.{CellSeen, node_of}
use Rattle.r4_content.specs.Locality.{commands}
use Rattle.r4_content.specs.Meaning.{greatest_size}
use Rattle.r4_accounting.specs.r4_durable.Kept.{HasChosen, Means as MeansAtRest}
use Rattle.r4_accounting.specs.r4_durable.Meaning.{Beginning, IsNamed}
use Rattle.r4_accounting.specs.r4_durable.Sealing.{made_by}
use Rattle.r4_renaming.specs.r4_flush.Anew.{AreMade}
use Rattle.r4_renaming.specs.r4_flush.Joined.{AreOwnCells, NameNoneChosen, flushed_cell, flushed_cells, flushing_of}
use Rattle.r4_renaming.specs.r4_flush.Prepared.{IsPrepared, WasCell}
use Rattle.r4_renaming.specs.r4_flush.declared.cells.RenamedCell.{RenamedCell}
use Rattle.r4_renaming.specs.r4_flush.declared.preparing.Prepared.{Prepared}
use Rattle.r4_renaming.proofs.r4_flush.Flushed.{chosen_flushed, is_flush}
use Rattle.r4_renaming.proofs.r4_flush.Standing.{name_none}
use Rattle.r4_renaming.specs.r4_flushed.Flushed.{IsFlush}
use Rattle.r4_outside.specs.Device.{State}
use Rattle.r4_renaming.specs.r4_placed.Flushing.{Flushing, IsAtRest as IsAtRestFor}
use Rattle.r4_renaming.specs.r4_sets.Session.{Layer, Session}
use Rattle.r4_trace.specs.Job.{Asked}
use Rattle.r4_trace.specs.Traced.{committed_in}
use Rattle.r4_renaming.specs.r4_wander.declared.plan.LogPlan.{LogPlan}
use Rattle.r4_accounting.specs.r4_kept.Kept.{HasStory}
use Rattle.r4_accounting.specs.r4_kept.Meaning.{HasMeaning, IsAt, IsAtRest, if_open}
use Rattle.r4_accounting.specs.r4_kept.Naming.{Naming, job_named, names_in}
use Rattle.r4_accounting.specs.r4_kept.View.{CoreSeen, blocks_of}
use Rattle.r4_accounting.specs.r4_kept.declared.parts.Commit.{Commit}
use Rattle.r4_flushing.specs.Sealing.{super_to_come}
use Rattle.r4_flushing.proofs.Accounts.{fair}
use Rattle.r4_flushing.proofs.Counting.{from_mapped}
use Rattle.r4_flushing.proofs.Facts as facts
use Rattle.r4_flushing.proofs.Facts.{Sealing}
use Rattle.r4_flushing.proofs.NewNames.{once_in_order}

-- the names that the renamed cells had are those of the cells of which they were made
pub was_names : (f : ℕ → ℕ) (xs : List CellSeen) (rs : List RenamedCell) → AreMade (WasCell f) xs rs
    → map (λ (y : CellSeen). y.id) (flushed_cells rs) ≡ map (λ (y : CellSeen). y.id) xs
was_names f [] [] all = refl
was_names f [] (r ∷ rs) all = absurd all
was_names f (x ∷ xs) [] all = absurd all
was_names f (x ∷ xs) (r ∷ rs) all =
    ap (λ (i : ℕ). i ∷ map (λ (y : CellSeen). y.id) (flushed_cells rs)) all.0.was
    ∙ ap (λ (l : List ℕ). x.id ∷ l) (was_names f xs rs all.1)

module _ {D : Type 0} (r : Naming) (d : State) (c new : CoreSeen D) (a : AtomNo) (given : List CellSeen) (p : Prepared)
    (z : Sealing r d c new a given p) (b : Beginning) (named : IsNamed (names_in r) d.blocks b) where
  abbrev pub was : HasStory r b d c
  was = z.kept.story b named

  abbrev pub c0 : Session
  c0 = was.story.session

  abbrev pub job : Option Asked
  job = job_named r.scripts

  abbrev pub m : HasMeaning b job d c was.story
  m = was.means

  abbrev pub x : IsPrepared given a (super_to_come c a.0) c.volume.prev c.space p
  x = facts.x r d c new a given p z

  pub at_rest : IsAtRest b job c0 c.space c.volume d
  at_rest =
      subst (λ (o : Option Commit). IsAt b job c0 c.space c.volume d was.story.flush None o) z.can.rest
      (subst (λ (q : Option ℕ). IsAt b job c0 c.space c.volume d was.story.flush q c.commit) z.can.sound m.at)

  abbrev pub kept : MeansAtRest greatest_size b job c0 c.space d.seen
  kept = at_rest.means

  abbrev pub content : Content
  content = made_by greatest_size c0 (committed_in c0.trace)

  abbrev pub has : HasContent b.blocks d.seen content
  has = kept.rests.has.content

  abbrev pub work : Flushing
  work = flushing_of d.seen c.space a x.answers (super_to_come c a.0) c.volume.prev p

  abbrev pub plan : LogPlan
  plan = x.planned.plan

  -- ---- the cells that the atom owns

  pub owner_is : (y : CellSeen) → Contains given y → c0.owner y.id ≡ Some a.0
  owner_is y in_given =
      m.owner y.id ∙ ap (if_open c.atoms) (facts.owned r d c new a given p z y in_given)
      ∙ cond-false (is_sealed c.atoms a.0) None (Some a.0) z.can.opened.unsealed

  pub memory_is : (y : CellSeen) → Contains given y → c0.memory y.id ≡ Some (node_of y)
  memory_is y in_given =
      let (e, at, same) = facts.entry_of r d c new a given p z y in_given in
      m.cells y.id e at ∙ ap (λ (w : CellSeen). Some (node_of w)) same

  -- what the session says that the atom owns, it owns
  pub owner_before : (i n : ℕ) → c0.owner i ≡ Some n → owner_of c.atoms i ≡ Some n
  owner_before i n own = by (owner_of c.atoms i) refl (sym (m.owner i) ∙ own)
    where
      by : (o : Option ℕ) → owner_of c.atoms i ≡ o → if_open c.atoms o ≡ Some n → owner_of c.atoms i ≡ Some n
      by None at e = absurd (cc e)
      by (Some k) at e = go (is_sealed c.atoms k) e
        where
          go : (t : Bool) → cond t None (Some k) ≡ Some n → owner_of c.atoms i ≡ Some n
          go true f = absurd (cc f)
          go false f = at ∙ f

  pub in_memory : (i : ℕ) (n : Node Value) → owner_of c.atoms i ≡ Some a.0 → c0.memory i ≡ Some n
      → (y : CellSeen) × Contains given y × (y.id ≡ i)
  in_memory i n own there = by (buffered c.buffer i) refl (m.owned i n (subst IsSome (sym own) refl) there)
    where
      by : (o : Option EntrySeen) → buffered c.buffer i ≡ o → is_dirty_by o ≡ true
          → (y : CellSeen) × Contains given y × (y.id ≡ i)
      by None at dirty = absurd (cc dirty)
      by (Some e) at dirty =
          let (in_given, same) = facts.is_given r d c new a given p z i e at own in (e.cell, in_given, same)

  pub own_cells : AreOwnCells c0 a given
  own_cells = record {
    mine = λ i n own there. in_memory i n (owner_before i a.0 own) there;
    owned = λ y in_given. (owner_is y in_given, memory_is y in_given);
    stands = z.sealable.may;
  }

  -- ---- the image is at rest for the flush

  pub same_under : (i : ℕ) → c0.under.cells i ≡ has.store i
  same_under i =
      ap (λ (l : Layer). l.cells i) kept.alone ∙ sym (ap (λ (t : Store Value). t i) kept.rests.has.same_store)

  pub flushed_from : (y : CellSeen) → Contains work.cells y
      → (w : CellSeen) × (q : RenamedCell) × Contains given w × Contains p.renamed.items q
      × WasCell (facts.f r d c new a given p z) w q × (y ≡ flushed_cell q)
  flushed_from y in_cells =
      let (q, in_rs, is) = from_mapped flushed_cell p.renamed.items y in_cells in
      let (w, in_given, made) = facts.came_from r d c new a given p z q in_rs in
      (w, q, in_given, in_rs, made, is)

  pub owner_there : (i n : ℕ) → c0.owner i ≡ Some n → i < 2 ^ 63 → (e : Node Value) × (has.store i ≡ Some e)
  owner_there i n own low =
      let (e, is) = kept.session.owns i n own low in (e, sym (same_under i) ∙ is)

  abbrev pub chosen : HasChosen work
  chosen = record {
    prev = at_rest.prev;
    still_lawful = fair r d c new a given p z;
    names =
        subst AreDifferent (sym (was_names (facts.f r d c new a given p z) x.cells p.renamed.items x.renamed))
        (once_in_order given a (super_to_come c a.0) c.volume.prev c.space p x z.sealable.space
        z.has.cells_are.different (facts.stand r d c new a given p z));
    chosen =
        chosen_flushed (facts.f r d c new a given p z) 22 c.space x.cells x.answers p.renamed.items x.renamed x.chosen;
  }

  abbrev pub rests : IsAtRestFor b.blocks work content
  rests = record {
    content = has;
    image = kept.rests.whole;
    log = kept.rests.log;
    prev = at_rest.prev;
    here = kept.rests.here;
    lawful = z.sealable.space;
    still_lawful = fair r d c new a given p z;
    within =
        let count = facts.count r d c new a given p z in
        let size : blocks_of c ≤ d.blocks = z.kept.cells.super40.blocks.2 in
        let on = named.size in
        omega (arith, count, size, on);
    blocks = sym (facts.count r d c new a given p z);
    none_placed = kept.rests.none_placed;
    names = chosen.names;
    chosen = chosen.chosen;
    old = λ y in_cells low.
        (let (w, q, in_given, in_rs, made, is) = flushed_from y in_cells in
        let id : y.id ≡ w.id = ap (λ (v : CellSeen). v.id) is ∙ made.was in
        owner_there y.id a.0 (ap c0.owner id ∙ owner_is w in_given) low);
  }

  pub none_chosen : NameNoneChosen given x.answers
  none_chosen =
      name_none (commands greatest_size) b.blocks work content rests c0 kept.session.sets same_under kept.session.owns
      given memory_is

  pub flush : IsFlush c0 work
  flush =
      is_flush given a (super_to_come c a.0) c.volume.prev c.space p x d.seen b.blocks content rests c0 own_cells
      none_chosen
