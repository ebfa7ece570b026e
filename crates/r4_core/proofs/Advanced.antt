-- What a step of a commit's plan leaves, in the words of its contract.
use Rattle.std.proofs.Common.{◌≡◌, inl, inr, ℕ, ◌+◌, ◌-◌, Option, Some, None, refl, sym, ◌∙◌, ap, subst, arith}
use Rattle.r4_atoms.specs.Atoms.{AtomsSeen}
use Rattle.r4_buffer.specs.Changed.{cleaned, in_turn}
use Rattle.r4_buffer.specs.Seen.{BufferSeen, buffered}
use Rattle.r4_ready.specs.r4_commit.Planned.{CommitSeen}
use Rattle.r4_others.specs.r4_history.Tables.{with_cleaned, with_committed}
use Rattle.r4_outside.specs.Device.{State}
use Rattle.r4_space.specs.Space.{Space, settled}
use Rattle.r4_trace.specs.Kept.{Told}
use Rattle.r4_trace.specs.declared.entry.Entry.TheVariants.{Committed}
use Rattle.r4_wander.specs.Progress.{IsNext, calls_from, calls_left, stage_at}
use Rattle.r4_wander.specs.declared.stage.Stage.{Stage}
use Rattle.r4_wander.specs.declared.stage.Stage.TheVariants.{Footed, Headed}
use Rattle.r4_ready.specs.r4_kept.Kept.{IsKept}
use Rattle.r4_ready.specs.r4_kept.Naming.{Naming}
use Rattle.r4_ready.specs.r4_kept.Steps.{IsAdvanced, IsQuietPart, Writes}
use Rattle.r4_ready.specs.r4_kept.Steps.{with_entry, writing}
use Rattle.r4_ready.specs.r4_kept.View.{CoreSeen}
use Rattle.r4_ready.specs.r4_kept.declared.parts.Commit.{Commit}
use Rattle.r4_ready.specs.r4_kept.declared.parts.Volume.{Volume}
use Rattle.r4_ready.specs.r4_kept.declared.parts.Step.TheVariants as steps
use Rattle.r4_core.proofs.Writing.{at_hand, footer_told, header_told, quiet_told}

-- ---- in which part it was

module _ {D : Type 0} (r : Naming) (d : State) (c : CoreSeen D) (k : Commit) (w : CommitSeen) (h : IsKept r d c)
    (writes : Writes c k w) (v : CommitSeen) (next : IsNext w.work v.work) (s : Stage)
    (told : s ≡ stage_at v.work.part v.work.done) where
  pub at_header : s ≡ Headed → w.work.part ≡ 1
  at_header is = header_told w.work v.work next (at_hand r d c k w h writes).cells.commit.unfinished s told is

  pub at_footer : s ≡ Footed → w.work.part ≡ 3
  at_footer is = footer_told w.work v.work next (at_hand r d c k w h writes).cells.commit.unfinished s told is

  pub at_quiet : (s ≡ Headed → ⊥) → (s ≡ Footed → ⊥) → IsQuietPart w.work.part
  at_quiet not_headed not_footed =
      quiet_told w.work v.work next (at_hand r d c k w h writes).cells.commit.unfinished s told not_headed not_footed

-- ---- what is said of the plan at hand is said of each

pub for_plan : {D : Type 0} (c : CoreSeen D) (k0 : Commit) (w0 : CommitSeen) → c.commit ≡ Some k0 → k0.work ≡ Some w0
    → (P : Commit → CommitSeen → Type 0) → P k0 w0 → (k : Commit) (w : CommitSeen) → Writes c k w → P k w
for_plan c k0 w0 at work P p k w x =
    let same : k0 ≡ k = cc (sym at ∙ x.commit) in
    let also : w0 ≡ w = cc (sym work ∙ ap (λ (y : Commit). y.work) same ∙ x.work) in
    subst (λ (y : Commit). P y w) same (subst (P k0) also p)

-- ---- what it leaves

-- the volume that a plan tells which told the same before
pub same_volume : (w v : CommitSeen) → (v.head ≡ w.head) × (v.super40 ≡ w.super40)
    → let volume : CommitSeen → Volume = λ p. record { super40 = p.super40; prev = p.head } in volume v ≡ volume w
same_volume w v told = λ i. record { super40 = told.1 i; prev = told.0 i }

module _ {D : Type 0} (d e : State) (c : CoreSeen D) (k : Commit) (w v : CommitSeen) (dev : D)
    (told : (v.head ≡ w.head) × (v.super40 ≡ w.super40)) (plan : v.work.plan ≡ w.work.plan)
    (next : IsNext w.work v.work) (calls : e.clock + calls_left v.work ≡ d.clock + calls_left w.work) where
  pub written_now : IsQuietPart w.work.part
      → IsAdvanced d e c (record c { dev = dev; commit = Some (writing k v) }) k w steps.More
  written_now quiet = inl (record {
    part = quiet;
    now = v;
    same = refl;
    told = told;
    plan = plan;
    next = next;
    calls = calls;
  })

  pub headed_now : w.work.part ≡ 1 → (v.work.part ≡ 2) × (v.work.done ≡ 0) → (clock : ℕ) (atoms : AtomsSeen)
      (entries : Told) → clock ≡ e.clock → atoms ≡ with_committed c.atoms k.atom.0
      → entries ≡ with_entry c.trace (Committed k.atom clock)
      → IsAdvanced d e c (record c { dev = dev; atoms = atoms; commit = Some (writing k v); trace = entries }) k w
      (steps.Committed k.atom)
  headed_now is at clock atoms entries is_clock are_atoms are_entries = record {
    part = is;
    now = v;
    same = λ i. record c {
      dev = dev;
      atoms = are_atoms i;
      commit = Some (writing k v);
      trace = (are_entries ∙ ap (λ (n : ℕ). with_entry c.trace (Committed k.atom n)) is_clock) i;
    };
    told = told;
    plan = plan;
    next = at;
    calls = calls;
    answer = refl;
  }

  pub footed_now : w.work.part ≡ 3 → (v.work.part ≡ 4) × (v.work.done ≡ 0) → (atoms : AtomsSeen) (buffer : BufferSeen)
      (space : Space) (volume : Volume) (commit : Option Commit)
      → atoms ≡ with_cleaned c.atoms k.atom.0 → space ≡ settled c.space k.atom
      → volume ≡ record { super40 = w.super40; prev = w.head } → commit ≡ None
      → ((i : ℕ) → buffered buffer i ≡ in_turn cleaned k.nodes i (buffered c.buffer i))
      → buffer.spare ≡ c.buffer.spare
      → IsAdvanced d e c (record c {
        dev = dev;
        atoms = atoms;
        buffer = buffer;
        space = space;
        volume = volume;
        commit = commit;
      }) k w steps.More
  footed_now is at atoms buffer space volume commit are_atoms is_space is_volume is_none cells spare =
      inr (record {
        part = is;
        same = λ i. record c {
          dev = dev;
          atoms = are_atoms i;
          buffer = buffer;
          space = is_space i;
          volume = is_volume i;
          commit = is_none i;
        };
        cells = cells;
        room = spare;
        calls =
            let none : calls_left v.work ≡ 0 =
            ap (λ (i : ℕ). calls_from v.work.plan i - v.work.done) at.0 ∙ omega arith in
            omega (arith, calls, none);
      })
