-- An open atom with cells is sealed: what holds of a core holds still. Group G, what a crash leaves, is here: an entry
-- that seals changes nothing of what an image means, and the device is quiet, where the plan begins.
use Rattle.std.proofs.Common.{◌≡◌, ℕ, List, Option, Some, None, refl, sym, subst}
use Rattle.r4_base.specs.declared.things.AtomNo.{AtomNo}
use Rattle.r4_accounting.specs.r4_cell.Seen.{CellSeen}
use Rattle.r4_content.specs.Locality.{commands}
use Rattle.r4_content.specs.Meaning.{greatest_size}
use Rattle.r4_accounting.specs.r4_durable.Meaning.{Beginning, IsNamed, means}
use Rattle.r4_renaming.specs.r4_flush.declared.preparing.Prepared.{Prepared}
use Rattle.r4_renaming.proofs.r4_flushed.FlushedCells.{FitsOnDisk}
use Rattle.r4_outside.specs.Device.{IsQuiet, State, TellsCrashes}
use Rattle.r4_space.specs.Space.{sealed_in}
use Rattle.r4_trace.specs.declared.entry.Entry.TheVariants.{Sealed}
use Rattle.r4_trace.proofs.Safely.{safe_push}
use Rattle.r4_renaming.proofs.r4_wander.Ending.{stands_first}
use Rattle.r4_accounting.specs.r4_kept.Durable.{IsDurable, LeavesNow}
use Rattle.r4_accounting.specs.r4_kept.Kept.{IsKept}
use Rattle.r4_accounting.specs.r4_kept.Naming.{Naming, names_in}
use Rattle.r4_accounting.specs.r4_kept.Steps.{with_entry}
use Rattle.r4_accounting.specs.r4_kept.View.{CoreSeen}
use Rattle.r4_accounting.specs.r4_kept.declared.parts.Commit.{Commit}
use Rattle.r4_flushing.specs.Sealable.{CountFits, IsSealable}
use Rattle.r4_renaming.specs.Renaming.{name_then, turns_with_pins}
use Rattle.r4_flushing.specs.Sealing.{CanSeal, HasSealed, root_renamed}
use Rattle.r4_flushing.proofs.Accounts.{accounts_sealed}
use Rattle.r4_flushing.proofs.Cells.{cells_sealed}
use Rattle.r4_flushing.proofs.Facts.{Sealing}
use Rattle.r4_flushing.proofs.History.{history_sealed, legal_now}
use Rattle.r4_flushing.proofs.Meaning.{meaning_sealed, story}
use Rattle.r4_flushing.proofs.Tables.{tables_sealed}
use Rattle.r4_flushing.proofs.Tasks.{tasks_sealed}

module _ {D : Type 0} (disk : FitsOnDisk) (r : Naming) (d : State) (c new : CoreSeen D) (a : AtomNo)
    (given : List CellSeen) (p : Prepared) (k : IsKept r d c) (can : CanSeal c a) (has : HasSealed c new a given p)
    (with : IsSealable c new a given p) (fits : CountFits r d c a) where
  abbrev z : Sealing r d c new a given p
  z = record { kept = k; can = can; has = has; sealable = with }

  abbrev commit : Commit
  commit = record { atom = a; nodes = has.nodes; work = Some p.plan }

  abbrev now : CoreSeen D
  now = record c {
    turns = turns_with_pins (name_then p.renamed.items) c.turns;
    atoms = new.atoms;
    buffer = new.buffer;
    space = sealed_in p.space a;
    tree = root_renamed (name_then p.renamed.items) c.tree;
    commit = Some commit;
    trace = with_entry c.trace (Sealed a);
  }

  module _ (b : Beginning) (named : IsNamed (names_in r) d.blocks b) where
    quiet : (t : ℕ) → r.clock ≡ Some t → TellsCrashes d → IsQuiet d
    quiet t is tells =
        let was = k.story b named in
        subst (λ (o : Option Commit). LeavesNow d was.story.flush None o) can.rest
        (subst (λ (q : Option ℕ). LeavesNow d was.story.flush q c.commit) can.sound (was.durable t is tells).now)

    durable_sealed : (t : ℕ) → r.clock ≡ Some t → TellsCrashes d
        → IsDurable b t d now (story r d c new a given p z disk fits b named)
    durable_sealed t is tells =
        let g = (k.story b named).durable t is tells in
        record {
          each = safe_push (means b) (commands greatest_size) b.content t d c.trace.entries (Sealed a)
              (legal_now r d c new a given p z) tt g.each;
          now =
              subst
              (λ (q : Option ℕ). LeavesNow d (story r d c new a given p z disk fits b named).flush q (Some commit))
              (sym can.sound)
              (stands_first p.plan.work d (quiet t is tells) has.prepared.planned.part has.prepared.planned.done);
        }

  kept_now : IsKept r d now
  kept_now = record {
    history = history_sealed r d c new a given p z now refl;
    tables = tables_sealed r d c new a given p z now refl;
    accounts = accounts_sealed r d c new a given p z now refl;
    cells = cells_sealed r d c new a given p z disk now refl;
    tasks = tasks_sealed r d c new a given p z disk now refl;
    lender = k.lender;
    story = λ b named. record {
      story = story r d c new a given p z disk fits b named;
      means = meaning_sealed r d c new a given p z disk fits b named now refl;
      durable = durable_sealed b named;
    };
  }

  pub keeps_sealed : IsKept r d new
  keeps_sealed = subst (IsKept r d) (sym has.same) kept_now
