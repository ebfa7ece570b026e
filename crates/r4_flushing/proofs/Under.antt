-- In a run that names its beginning: the flush can be sealed and committed.
use Rattle.std.proofs.Common.{◌≡◌, inl, inr, ℕ, suc, ◌+◌, ◌-◌, ◌^◌, ◌<◌, ◌≤◌, ◌==◌, ◌||◌, ◌&&◌, Bool}
use Rattle.std.proofs.Common.{true≢false, true, false, cond, List, [], ◌∷◌, Option, Some, None, refl, sym, ◌∙◌, ap}
use Rattle.std.proofs.Common.{subst, arith}
use Rattle.std.specs.Prelude.{Contains, Ok, Result, min, nat_lt}
use Rattle.std.proofs.lemmas.Bool.{cases_eq, cases_lt, cond-false, eq-eqb, eqb-true, ne_eqb}
use Rattle.std.proofs.lemmas.Bool.Decides.{nat_tests}
use Rattle.r4_atoms.specs.Atoms.{account_of, is_atom, is_sealed, owner_of, owns}
use Rattle.r4_base.proofs.Choices.{never_both}
use Rattle.r4_base.proofs.Superblocks.{read_lawful}
use Rattle.r4_base.specs.Tree.{Root}
use Rattle.r4_base.specs.Value.{Content}
use Rattle.r4_base.specs.Volume.{HasStat, objects_in, root_of, stat_rank}
use Rattle.r4_base.specs.declared.superblock.LayoutFault.{LayoutFault}
use Rattle.r4_base.specs.declared.superblock.Super40.{Super40}
use Rattle.r4_base.specs.declared.things.AtomNo.{AtomNo}
use Rattle.r4_accounting.specs.r4_cell.Seen.{CellSeen}
use Rattle.r4_accounting.specs.r4_cell.declared.change.Root.{Root as RootPair}
use Rattle.r4_renaming.specs.r4_commit.Plannable.{is_marked_in}
use Rattle.r4_renaming.proofs.r4_commit.Safety.{not_taken}
use Rattle.r4_content.specs.Locality.{commands}
use Rattle.r4_content.specs.Meaning.{greatest_size}
use Rattle.r4_accounting.specs.r4_durable.Kept.{CanSeal as CanBeSealed, IsUnderWay, Means as MeansAtRest, sealing_of}
use Rattle.r4_accounting.specs.r4_durable.Meaning.{Beginning, IsNamed, IsNextId, first_id, ids_for, start_of}
use Rattle.r4_accounting.specs.r4_durable.Sealing.{Sealing as SealingOf, session_after, start_in}
use Rattle.r4_renaming.specs.r4_flush.declared.preparing.Prepared.{Prepared}
use Rattle.r4_renaming.proofs.r4_flush.Flushed.{plan_is_for, root_agrees}
use Rattle.r4_renaming.proofs.r4_flushed.FlushedCells.{FitsOnDisk}
use Rattle.r4_accounting.specs.r4_history.Drawn.{ahead_at}
use Rattle.r4_accounting.specs.r4_history.Tables.{asked}
use Rattle.r4_accounting.proofs.r4_history.Drawing.{from_few}
use Rattle.r4_outside.specs.Device.{State}
use Rattle.r4_renaming.specs.r4_place.Chosen.{fresh_blocks}
use Rattle.r4_renaming.specs.r4_placed.Flushing.{Flushing, name_after}
use Rattle.r4_renaming.proofs.r4_placed.Planning.{cell_marked, or_first}
use Rattle.r4_renaming.specs.r4_script.Text.{job_of}
use Rattle.r4_renaming.specs.r4_script.declared.fault.ScriptFault.{ScriptFault}
use Rattle.r4_renaming.specs.r4_script.declared.job.Job.{Job}
use Rattle.r4_renaming.specs.r4_sealed.Contents.{RenewsSuper}
use Rattle.r4_renaming.specs.r4_sets.Session.{Layer, Session, in_base, in_set, in_under, only, picks}
use Rattle.r4_renaming.specs.r4_sets_told.Runs.{CountsObjects, IsLawfulRun, born_in, gone_in}
use Rattle.r4_renaming.proofs.r4_sets_told.Counted.{counted}
use Rattle.r4_trace.specs.Folds.{content_of}
use Rattle.r4_trace.specs.Ids.{IsDrawn, Start, makers, no_id}
use Rattle.r4_trace.specs.Job.{Asked}
use Rattle.r4_trace.specs.Traced.{IsSealed, atom_in, committed_in, in_first, sealed_in}
use Rattle.r4_trace.specs.declared.entry.Entry.{Entry}
use Rattle.r4_space.specs.Space.{is_claimed, is_taken}
use Rattle.r4_trace.specs.declared.entry.Entry.TheVariants.{Acked, Begin, Broken, Committed, Done, Ended, Fuse, Refused}
use Rattle.r4_trace.specs.declared.entry.Entry.TheVariants.{Sealed}
use Rattle.r4_renaming.specs.r4_wander.declared.plan.LogPlan.{LogPlan}
use Rattle.r4_accounting.specs.r4_kept.Meaning.{HasMeaning, if_open}
use Rattle.r4_accounting.specs.r4_kept.Naming.{Naming, job_named, job_read, names_in}
use Rattle.r4_accounting.specs.r4_kept.View.{CoreSeen, root_seen}
use Rattle.r4_flushing.specs.Sealable.{CountFits}
use Rattle.r4_flushing.specs.Sealing.{root_under, super_to_come}
use Rattle.r4_flushing.proofs.Accounts.{still}
use Rattle.r4_flushing.proofs.Chosen.{fresh_free}
use Rattle.r4_flushing.proofs.Facts.{Sealing}
use Rattle.r4_flushing.proofs.Flush as flush
use Rattle.r4_flushing.proofs.Objects.{born_either, counts_objects, drawn_from, gone_either}
use Rattle.r4_flushing.proofs.Writing.{height}

small : greatest_size < 2 ^ 64
small = omega arith

module _ {D : Type 0} (r : Naming) (d : State) (c new : CoreSeen D) (a : AtomNo) (given : List CellSeen) (p : Prepared)
    (z : Sealing r d c new a given p) (b : Beginning) (named : IsNamed (names_in r) d.blocks b) (disk : FitsOnDisk)
  where
    abbrev c0 : Session
    c0 = flush.c0 r d c new a given p z b named

    abbrev job : Option Asked
    job = job_named r.scripts

    abbrev m : HasMeaning b job d c (flush.was r d c new a given p z b named).story
    m = flush.m r d c new a given p z b named

    abbrev kept : MeansAtRest greatest_size b job c0 c.space d.seen
    kept = flush.kept r d c new a given p z b named

    abbrev work : Flushing
    work = flush.work r d c new a given p z b named

    abbrev plan : LogPlan
    plan = flush.plan r d c new a given p z b named

    abbrev sealing : SealingOf
    sealing = sealing_of c0 work plan

    abbrev next : Super40
    next = super_to_come c a.0

    abbrev fresh : List ℕ
    fresh = fresh_blocks z.has.prepared.answers

    -- ---- the superblock

    same_super : kept.rests.super40 ≡ c.volume.super40
    same_super =
        let one : ◌≡◌ {A = Result Super40 LayoutFault} (Ok kept.rests.has.content.super) (Ok c.volume.super40) =
        sym kept.rests.has.content.layout.format ∙ (flush.at_rest r d c new a given p z b named).super40 in
        let two : kept.rests.has.content.super ≡ c.volume.super40 = cc one in
        sym kept.rests.has.same_super ∙ two

    renews : RenewsSuper kept.rests.super40 work.next
    renews =
        let small = z.kept.history.drawn.small in
        subst (λ (s : Super40). RenewsSuper s work.next) (sym same_super) (record {
          blocks = refl;
          flags = refl;
          nodes = refl;
          height = (height r d c new a given p z disk).1;
          next_id = (z.sealable.ids, omega (arith, small));
        })

    -- ---- the root

    -- a block that is used is none that was chosen
    off : (i : ℕ) → is_taken c.space i ≡ true → Contains fresh i → ⊥
    off i taken has =
        never_both (is_taken c.space i) taken
        (fresh_free c.space z.sealable.space z.has.prepared.cells z.has.prepared.answers z.has.prepared.chosen i has).1

    pub marked_taken : (i : ℕ) → is_marked_in c.space i ≡ true → is_taken c.space i ≡ true
    marked_taken i marked = by (is_taken c.space i) refl
      where
        by : (t : Bool) → is_taken c.space i ≡ t → is_taken c.space i ≡ true
        by true e = e
        by false e =
            absurd (never_both (is_marked_in c.space i) marked
            (or_first (is_marked_in c.space i) (is_claimed c.space.held i || is_claimed c.space.deferred i)
            (not_taken c.space i e).1))

    -- a block from 2^63 on is none of the volume
    off_high : (i : ℕ) → 2 ^ 63 ≤ i → Contains fresh i → ⊥
    off_high i high has =
        let chosen = z.has.prepared.chosen in
        let lt =
        (fresh_free c.space z.sealable.space z.has.prepared.cells z.has.prepared.answers chosen i has).0 in
        let most = z.sealable.space.most in
        absurd (omega (arith, lt, most, high))

    committed_off : Contains fresh c.volume.super40.root_block → ⊥
    committed_off =
        off c.volume.super40.root_block
        (marked_taken c.volume.super40.root_block
        (cell_marked b.blocks work (flush.content r d c new a given p z b named)
        (flush.rests r d c new a given p z b named)
        c.volume.super40.root_block kept.rests.has.content.tree.root_node
        (ap (λ (s : Super40). kept.rests.has.content.store s.root_block)
        (sym (kept.rests.has.same_super ∙ same_super)) ∙ kept.rests.has.content.tree.root_is)).0)

    mine_off : owner_of c.atoms c.tree.id.0 ≡ Some a.0 → Contains fresh c.tree.id.0 → ⊥
    mine_off own = elim (cases_lt c.tree.id.0 (2 ^ 63)) [
      | inl low ↦ off c.tree.id.0 (z.sealable.own c.tree.id.0 own low)
      | inr high ↦ off_high c.tree.id.0 high
    ]

    abbrev root_by : Bool → RootPair
    root_by t = cond t c.tree (record {
      id = record { 0 = c.volume.super40.root_block };
      height = c.volume.super40.tree_height;
    })

    -- the root pair of what stands under the atom, in the session and in the core
    abbrev IsRootBy : Bool → Bool → Type 0
    IsRootBy picked own =
        (cond picked c0.root c0.under.root ≡ root_seen (root_by own)) × (Contains fresh (root_by own).id.0 → ⊥)

    under_root : c0.under.root ≡ root_seen (root_by false)
    under_root =
        ap (λ (l : Layer). l.root) kept.alone ∙ kept.rests.root ∙ ap root_of same_super

    roots : IsRootBy (picks (only a.0) (c0.owner c0.root.id)) (owns c.atoms a.0 c.tree.id.0)
    roots =
        subst (λ (q : Option ℕ). IsRootBy (picks (only a.0) q) (owns c.atoms a.0 c.tree.id.0))
        (sym (ap (λ (s : Root). c0.owner s.id) m.root ∙ m.owner c.tree.id.0))
        (by (owner_of c.atoms c.tree.id.0) refl)
      where
        by : (o : Option ℕ) → owner_of c.atoms c.tree.id.0 ≡ o
            → IsRootBy (picks (only a.0) (if_open c.atoms (owner_of c.atoms c.tree.id.0)))
            (is_atom a.0 (owner_of c.atoms c.tree.id.0))
        by None at =
            subst (λ (q : Option ℕ). IsRootBy (picks (only a.0) (if_open c.atoms q)) (is_atom a.0 q)) (sym at)
            (under_root, committed_off)
        by (Some n) at = elim (cases_eq n a.0) [
          | inl same ↦
              (let own = at ∙ ap (λ (j : ℕ). Some j) same in
              let opened : if_open c.atoms (Some a.0) ≡ Some a.0 =
              cond-false (is_sealed c.atoms a.0) None (Some a.0) z.can.opened.unsealed in
              let hit : (a.0 == a.0) ≡ true = eq-eqb a.0 a.0 refl in
              subst (λ (q : Option ℕ). IsRootBy (picks (only a.0) (if_open c.atoms q)) (is_atom a.0 q)) (sym own)
              (subst (λ (q : Option ℕ). IsRootBy (picks (only a.0) q) (is_atom a.0 (Some a.0))) (sym opened)
              (subst (λ (t : Bool). IsRootBy t t) (sym hit) (m.root, mine_off own))))
          | inr other ↦
              (let miss : (n == a.0) ≡ false = ne_eqb n a.0 other in
              subst (λ (q : Option ℕ). IsRootBy (picks (only a.0) (if_open c.atoms q)) (is_atom a.0 q)) (sym at)
              (subst (λ (t : Bool). IsRootBy (picks (only a.0) (if_open c.atoms (Some n))) t) (sym miss)
              (go n other (is_sealed c.atoms n))))
        ]
          where
            go : (n : ℕ) → (n ≡ a.0 → ⊥) → (t : Bool) → IsRootBy (picks (only a.0) (cond t None (Some n))) false
            go n other true = (under_root, committed_off)
            go n other false =
                subst (λ (t : Bool). IsRootBy t false) (sym (ne_eqb n a.0 other)) (under_root, committed_off)

    root : (session_after sealing).under.root ≡ root_of work.next
    root =
        let (same, out) = roots in
        ap (λ (s : Root). record { id = name_after work s.id; height = s.height }) same
        ∙ ap (λ (i : ℕ). record { id = i; height = (root_under c a.0).height })
        (sym (root_agrees given a next c.volume.prev c.space p z.has.prepared d.seen b.blocks
        (flush.content r d c new a given p z b named) (flush.rests r d c new a given p z b named) out))

    -- ---- what is counted

    abbrev trace : List Entry
    trace = c0.trace

    same_trace : trace ≡ c.trace.entries
    same_trace = m.trace

    abbrev mine : ℕ → Bool
    mine t = atom_in trace t == a.0

    abbrev chosen : ℕ → Bool
    chosen = in_under (session_after sealing)

    all_sealed : committed_in trace ≡ sealed_in trace
    all_sealed = sym kept.none_sealed

    -- no more atoms are among the first that were sealed than were sealed
    no_later : (e : List Entry) (k n : ℕ) → sealed_in e ≤ k → in_first e (suc k) n ≡ in_first e k n
    no_later [] k n le = refl
    no_later (Sealed atom ∷ older) k n le =
        let rest = no_later older k n (omega (arith, le)) in
        let one : nat_lt (sealed_in older) (suc k) ≡ true = grind (arith, nat_tests, le) in
        let two : nat_lt (sealed_in older) k ≡ true = grind (arith, nat_tests, le) in
        rw (one, two, rest) refl
    no_later (Begin txn script ∷ older) k n le = no_later older k n le
    no_later (Done txn script i x reply ∷ older) k n le = no_later older k n le
    no_later (Fuse keeps other node ∷ older) k n le = no_later older k n le
    no_later (Refused txn script i reply ∷ older) k n le = no_later older k n le
    no_later (Ended txn ∷ older) k n le = no_later older k n le
    no_later (Committed atom clock ∷ older) k n le = no_later older k n le
    no_later (Acked script txn clock ∷ older) k n le = no_later older k n le
    no_later (Broken clock faults ∷ older) k n le = no_later older k n le

    -- what stands under the open atoms then: what is committed, and the atom
    abbrev both : ℕ → Bool
    both t = mine t || in_base c0 t

    sealed_later : nat_lt (sealed_in trace) (sealed_in trace + 1) ≡ true
    sealed_later = grind (arith, nat_tests)

    chosen_is : (t : ℕ) → chosen t ≡ both t
    chosen_is t =
        let last : in_first trace (sealed_in trace + 1) (atom_in trace t)
        ≡ in_first trace (sealed_in trace) (atom_in trace t) =
        ap (λ (k : ℕ). in_first trace k (atom_in trace t))
        (let same : sealed_in trace + 1 ≡ suc (sealed_in trace) = omega arith in same)
        ∙ no_later trace (sealed_in trace) (atom_in trace t) (omega arith) in
        ap (λ (s : Bool). (mine t && s) || in_first trace (sealed_in trace + 1) (atom_in trace t)) sealed_later
        ∙ ap (λ (s : Bool). s || in_first trace (sealed_in trace + 1) (atom_in trace t)) (and_true (mine t))
        ∙ ap (λ (s : Bool). mine t || s)
        (last ∙ ap (λ (k : ℕ). in_first trace k (atom_in trace t)) (sym all_sealed))
      where
        and_true : (s : Bool) → (s && true) ≡ s
        and_true true = refl
        and_true false = refl

    -- the atom is none of those that were sealed
    not_first : (e : List Entry) (k n : ℕ) → (IsSealed e n → ⊥) → in_first e k n ≡ false
    not_first [] k n not = refl
    not_first (Sealed atom ∷ older) k n not =
        let rest = not_first older k n (λ h. not (inr h)) in
        let other : (n == atom.0) ≡ false = ne_eqb n atom.0 (λ same. not (inl same)) in
        rw (other, rest) refl
    not_first (Begin txn script ∷ older) k n not = not_first older k n not
    not_first (Done txn script i x reply ∷ older) k n not = not_first older k n not
    not_first (Fuse keeps other node ∷ older) k n not = not_first older k n not
    not_first (Refused txn script i reply ∷ older) k n not = not_first older k n not
    not_first (Ended txn ∷ older) k n not = not_first older k n not
    not_first (Committed atom clock ∷ older) k n not = not_first older k n not
    not_first (Acked script txn clock ∷ older) k n not = not_first older k n not
    not_first (Broken clock faults ∷ older) k n not = not_first older k n not

    unsealed : IsSealed trace a.0 → ⊥
    unsealed has =
        let told = (z.kept.history.told None tt).atoms in
        true≢false
        (sym ((told.sealed a.0 z.can.opened.atom.begun).1 (subst (λ (l : List Entry). IsSealed l a.0) same_trace has))
        ∙ z.can.opened.unsealed)

    apart : (t : ℕ) → mine t ≡ true → in_base c0 t ≡ false
    apart t is =
        ap (in_first trace (committed_in trace)) (eqb-true (atom_in trace t) a.0 is)
        ∙ not_first trace (committed_in trace) a.0 unsealed

    abbrev start : Start
    start = start_in c0 (first_id b)

    -- ---- the counts of the session

    abbrev run : IsLawfulRun greatest_size start job trace
    run = kept.session.run

    base_count : objects_in (content_of (commands greatest_size) c0.start (in_base c0) trace)
        + gone_in greatest_size c0.start (in_base c0) trace
        ≡ objects_in c0.start + born_in greatest_size c0.start (in_base c0) trace
    base_count =
        counted greatest_size small start job (in_base c0) trace run.lawful run.room run.paths run.ids
        kept.session.sets.committed.alike

    set_count : objects_in (content_of (commands greatest_size) c0.start (in_set c0 (only a.0)) trace)
        + gone_in greatest_size c0.start (in_set c0 (only a.0)) trace
        ≡ objects_in c0.start + born_in greatest_size c0.start (in_set c0 (only a.0)) trace
    set_count =
        counted greatest_size small start job (in_set c0 (only a.0)) trace run.lawful run.room run.paths run.ids
        (kept.session.sets.each (only a.0)).alike

    set_is : (t : ℕ) → in_set c0 (only a.0) t ≡ both t
    set_is t =
        ap (λ (k : ℕ). in_first trace k (atom_in trace t) || mine t) (sym all_sealed) ∙ turned (in_base c0 t) (mine t)
      where
        turned : (s q : Bool) → (s || q) ≡ (q || s)
        turned true true = refl
        turned true false = refl
        turned false true = refl
        turned false false = refl

    made : (account_of c.atoms a.0).born ≡ born_in greatest_size c0.start mine trace
    made =
        m.born a.0 z.can.opened
        ∙ ap (λ (l : List Entry). born_in greatest_size b.content (λ t. atom_in l t == a.0) l) (sym same_trace)
        ∙ ap (λ (s : Content). born_in greatest_size s mine trace) (sym kept.session.start)

    took : (account_of c.atoms a.0).gone ≡ gone_in greatest_size c0.start mine trace
    took =
        m.gone a.0 z.can.opened
        ∙ ap (λ (l : List Entry). gone_in greatest_size b.content (λ t. atom_in l t == a.0) l) (sym same_trace)
        ∙ ap (λ (s : Content). gone_in greatest_size s mine trace) (sym kept.session.start)

    files : c.volume.super40.file_count ≡ objects_in (content_of (commands greatest_size) c0.start (in_base c0) trace)
    files =
        ap (λ (s : Super40). s.file_count) (sym (kept.rests.has.same_super ∙ same_super))
        ∙ counts_objects b.blocks d.seen (flush.content r d c new a given p z b named) kept.rests.has.content

    count_then : CountFits r d c a → work.next.file_count + gone_in greatest_size c0.start chosen trace
        ≡ objects_in c0.start + born_in greatest_size c0.start chosen trace
    count_then fits =
        let few = fits b named in
        let chosen_same : chosen ≡ both = λ i t. chosen_is t i in
        let set_same : in_set c0 (only a.0) ≡ both = λ i t. set_is t i in
        let gone_chosen = ap (λ (q : ℕ → Bool). gone_in greatest_size c0.start q trace) chosen_same in
        let born_chosen = ap (λ (q : ℕ → Bool). born_in greatest_size c0.start q trace) chosen_same in
        let gone_set = ap (λ (q : ℕ → Bool). gone_in greatest_size c0.start q trace) set_same in
        let born_set = ap (λ (q : ℕ → Bool). born_in greatest_size c0.start q trace) set_same in
        let gone_two = gone_either greatest_size c0.start mine (in_base c0) apart trace in
        let born_two = born_either greatest_size c0.start mine (in_base c0) apart trace in
        let base = base_count in
        let set = set_count in
        let made_is = made in
        let took_is = took in
        let files_is = files in
        let stays : min (c.volume.super40.file_count + (account_of c.atoms a.0).born) 18446744073709551615
        ≡ c.volume.super40.file_count + (account_of c.atoms a.0).born = omega (arith, few) in
        let is : work.next.file_count
        ≡ c.volume.super40.file_count + (account_of c.atoms a.0).born - (account_of c.atoms a.0).gone =
        ap (λ (n : ℕ). n - (account_of c.atoms a.0).gone) stays in
        omega (
          arith,
          gone_chosen,
          born_chosen,
          gone_set,
          born_set,
          gone_two,
          born_two,
          base,
          set,
          made_is,
          took_is,
          files_is,
          is,
        )

    -- ---- ids

    first_is : z.kept.history.first ≡ first_id b
    first_is = z.kept.history.begins b named

    first_low : 65536 ≤ first_id b
    first_low =
        (read_lawful b.blocks _ b.volume.content.super b.volume.content.layout.format).0.next_id.0

    least_id : first_id b ≤ c.numbers.next_oid
    least_id = let le = z.kept.history.drawn.least in let same = first_is in omega (arith, le, same)

    drawn_low : (y : ℕ) → IsDrawn trace y → y < no_id → first_id b ≤ y
    drawn_low y drawn low =
        let told = z.kept.history.told (Some b) named in
        drawn_from (start_of b) (asked c.turns.job) c.trace.entries told.legal.ids y
        (subst (λ (l : List Entry). IsDrawn l y) same_trace drawn) low

    counts : CountFits r d c a → CountsObjects greatest_size start chosen (session_after sealing).trace work.next
    counts fits = record {
      at_start = λ o s has.
          (let here = subst (λ (n : Content). HasStat n o s) kept.session.start has in
          b.volume.content.ids.ids o s (here.0, ((b.volume.content.visible (stat_rank o) _).0 here.1).0));
      next = least_id;
      drawn = λ y drawn low.
          (let from = drawn_low y drawn low in
          let least = first_low in
          let below =
          z.kept.history.drawn.done y (subst (λ (l : List Entry). IsDrawn l y) same_trace drawn) low in
          (omega (arith, from, least), below));
      count = count_then fits;
    }

    may_draw : (q : Option (List ℕ)) → r.scripts ≡ q → c.numbers.next_oid ≤ first_id b + ids_for (job_named q)
    may_draw None is =
        let few = z.kept.history.drawn.small in omega (arith, few)
    may_draw (Some text) is =
        let read : job_of text ≡ Ok c.turns.job = z.kept.history.job text is in
        let same : ids_for (job_named (Some text)) ≡ makers (asked c.turns.job) =
        ap (λ (q : Result Job ScriptFault). ids_for (job_read q)) read in
        let few = z.kept.history.drawn.few in
        let most = from_few 1 (asked c.turns.job) (ahead_at c.turns) in
        let first = first_is in
        omega (arith, same, few, most, first)

    next_id : IsNextId b work.next.oid
    next_id =
        let few = z.kept.history.drawn.small in
        let may = may_draw r.scripts refl in
        let ids = named.ids in
        let least = least_id in
        (least, omega (arith, few, may, ids))

    -- ---- all

    pub can : CountFits r d c a → CanBeSealed greatest_size b c0 kept.rests.super40 work plan
    can fits = record {
      chosen = flush.chosen r d c new a given p z b named;
      flushed = flush.flush r d c new a given p z b named;
      sealed = inl (still r d c new a given p z).none_sealed;
      has_plan = plan_is_for given a next c.volume.prev c.space p z.has.prepared d.seen;
      renews = renews;
      root = root;
      counts = counts fits;
    }

    pub way : CountFits r d c a → IsUnderWay greatest_size b job c0 work plan
    way fits = record { kept = kept; can = can fits; next_id = next_id }
