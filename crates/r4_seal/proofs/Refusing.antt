-- Commands that wait for an atom are refused, script by script.
use Rattle.std.proofs.Common.{◌≡◌, inl, inr, ⊎_elim, ℕ, ◌+◌, ◌-◌, ◌<◌, ◌≤◌, List, [], ◌∷◌, ◌++◌}
use Rattle.std.proofs.Common.{get_or, length, Option, Some, None, refl, sym, ◌∙◌, ap, subst, arith}
use Rattle.std.specs.Prelude.{◌↔◌, Contains, slice_get, slice_index_or}
use Rattle.std.specs.List.{AllPairs}
use Rattle.std.proofs.lemmas.Bool.{cases_eq}
use Rattle.std.proofs.lemmas.List.Elements.{Contains-append_cases, Contains-append_left, Contains-append_right}
use Rattle.std.proofs.lemmas.List.Elements.{Contains-get_or}
use Rattle.std.proofs.lemmas.List.Quantifiers.{all_pairs_push}
use Rattle.std.proofs.Math.ListN.{length-set}
use Rattle.r4_atoms.specs.Atoms.{AtomsSeen}
use Rattle.r4_base.proofs.Choices.{nothing_in}
use Rattle.r4_base.specs.declared.things.ScriptNo.{ScriptNo}
use Rattle.r4_content.specs.Locality.{commands}
use Rattle.r4_content.specs.Meaning.{greatest_size}
use Rattle.r4_content.specs.declared.command.Command.TheVariants as asks
use Rattle.r4_core.proofs.r4_history.DrawnSteps.{turn_other}
use Rattle.r4_core.proofs.r4_history.Places.{is_script_with}
use Rattle.r4_core.proofs.r4_history.WaitingSteps.{next_suits}
use Rattle.r4_core.specs.r4_history.Serving.{Suits}
use Rattle.r4_core.specs.r4_history.Tables.{next_at}
use Rattle.r4_outside.specs.Device.{State}
use Rattle.r4_core.specs.r4_script.declared.job.Job.{Job}
use Rattle.r4_turns.specs.Turns.{IsScript, answered_one, commands_at, no_script, turn_at}
use Rattle.r4_turns.specs.declared.turn.Open.{Open}
use Rattle.r4_turns.specs.declared.turn.Turn.{Turn}
use Rattle.r4_core.proofs.r4_kept.Turning.{commit_owed}
use Rattle.r4_core.specs.r4_kept.History.{owed, owed_for_commit}
use Rattle.r4_core.specs.r4_kept.Kept.{IsKept}
use Rattle.r4_core.specs.r4_kept.Naming.{Naming}
use Rattle.r4_core.specs.r4_kept.Steps.{IsRefusable}
use Rattle.r4_core.specs.r4_kept.View.{CoreSeen, tables_of}
use Rattle.r4_core.proofs.r4_wander.Members.{any_cases, any_here, any_later}
use Rattle.r4_seal.specs.Waiting.{AreWaiting, HasTxnIn, RefusesIfWaiting, WaitsAtCommit}
use Rattle.r4_seal.specs.Waiting.{all_refused, refused_memory}

-- ---- one command may be refused

stands_apart : (o : Option Open) → Suits o (Some asks.Commit) → o ≡ None
stands_apart None ok = refl
stands_apart (Some o) ok = absurd ok

module _ {D : Type 0} (r : Naming) (d : State) (c : CoreSeen D) (k : IsKept r d c) (sound : c.broken ≡ None)
    (atom : ℕ) (s : ScriptNo) (waits : WaitsAtCommit c atom s.0) where
  transaction : (o : Option Open) → (turn_at c.turns s.0).transaction ≡ o → o ≡ None
  transaction o at =
      stands_apart o (next_suits (commands greatest_size) None d.clock (tables_of c) c.trace.entries
      (k.history.told None tt) s.0 o (Some asks.Commit) k.tables.ordered sound
      (record { is_script = waits.is_script; transaction = at; next = waits.next }))

  pub refusable : IsRefusable c.turns s.0 (record { 0 = 0 })
  refusable = record {
    within = None;
    command = asks.Commit;
    stands = record {
      is_script = waits.is_script;
      transaction = transaction (turn_at c.turns s.0).transaction refl;
      next = waits.next;
    };
    names = refl;
    may = tt;
    free = waits.free;
  }

  pub room_to_refuse : owed (answered_one c.turns s.0) + owed_for_commit c.commit + 1 ≤ c.trace.spare
  room_to_refuse =
      let had = k.history.room in
      let less = commit_owed c.turns s.0 waits.is_script (k.history.told None tt).scripts waits.next in
      omega (arith, had, less)

-- ---- what stays as commands are refused

all_last : {D : Type 0} (c : CoreSeen D) (xs : List ScriptNo) (s : ScriptNo)
    → all_refused c (xs ++ s ∷ []) ≡ refused_memory (all_refused c xs) s
all_last c [] s = refl
all_last c (x ∷ xs) s = all_last (refused_memory c x) xs s

same_atoms : {D : Type 0} (c : CoreSeen D) (xs : List ScriptNo) → (all_refused c xs).atoms ≡ c.atoms
same_atoms c [] = refl
same_atoms c (x ∷ xs) = same_atoms (refused_memory c x) xs

same_broken : {D : Type 0} (c : CoreSeen D) (xs : List ScriptNo) → (all_refused c xs).broken ≡ c.broken
same_broken c [] = refl
same_broken c (x ∷ xs) = same_broken (refused_memory c x) xs

same_job : {D : Type 0} (c : CoreSeen D) (xs : List ScriptNo) → (all_refused c xs).turns.job ≡ c.turns.job
same_job c [] = refl
same_job c (x ∷ xs) = same_job (refused_memory c x) xs

same_count : {D : Type 0} (c : CoreSeen D) (xs : List ScriptNo)
    → length (all_refused c xs).turns.turns ≡ length c.turns.turns
same_count c [] = refl
same_count c (x ∷ xs) =
    same_count (refused_memory c x) xs
    ∙ length-set c.turns.turns (x.0 - 1)
    (record (turn_at c.turns x.0) { answered = (turn_at c.turns x.0).answered + 1; numbers = None })

same_turn : {D : Type 0} (c : CoreSeen D) (xs : List ScriptNo) → ((x : ScriptNo) → Contains xs x → IsScript c.turns x.0)
    → (q : ℕ) → 0 < q → ((x : ScriptNo) → Contains xs x → q ≡ x.0 → ⊥)
    → turn_at (all_refused c xs).turns q ≡ turn_at c.turns q
same_turn c [] are q some out = refl
same_turn c (x ∷ xs) are q some out =
    same_turn (refused_memory c x) xs
    (λ y has. is_script_with c.turns x.0 turn y.0 (are y (any_later x xs y has))) q some
    (λ y has. out y (any_later x xs y has))
    ∙ turn_other c.turns x.0 q turn (are x (any_here x xs x refl)) some (out x (any_here x xs x refl))
  where
    turn : Turn
    turn = record (turn_at c.turns x.0) { answered = (turn_at c.turns x.0).answered + 1; numbers = None }

-- ---- up to a script

-- just the scripts up to this one that wait for the atom are refused
pub record IsRefusedUpTo {D : Type 0} (old new : CoreSeen D) (atom at : ℕ) : Type 0 where
  pub scripts : List ScriptNo
  pub rise : AllPairs (λ (s q : ScriptNo). s.0 < q.0) scripts
  pub just : (s : ScriptNo) → Contains scripts s ↔ (WaitsAtCommit old atom s.0 × (s.0 ≤ at))
  pub same : new ≡ all_refused old scripts

module _ {D : Type 0} (old new : CoreSeen D) (atom at : ℕ) (h : IsRefusedUpTo old new atom at) where
  pub count_now : length new.turns.turns ≡ length old.turns.turns
  count_now = ap (λ (c : CoreSeen D). length c.turns.turns) h.same ∙ same_count old h.scripts

  pub broken_now : new.broken ≡ old.broken
  broken_now = ap (λ (c : CoreSeen D). c.broken) h.same ∙ same_broken old h.scripts

  module _ (s : ScriptNo) (is : s.0 ≡ at + 1) where
    apart : (x : ScriptNo) → Contains h.scripts x → s.0 ≡ x.0 → ⊥
    apart x has same = let low = ((h.just x).0 has).1 in absurd (omega (arith, low, same, is))

    turn_now : turn_at new.turns s.0 ≡ turn_at old.turns s.0
    turn_now =
        ap (λ (c : CoreSeen D). turn_at c.turns s.0) h.same
        ∙ same_turn old h.scripts (λ x has. ((h.just x).0 has).0.is_script) s.0 (omega (arith, is)) apart

    next_now : next_at new.turns s.0 ≡ next_at old.turns s.0
    next_now =
        ap (λ (j : Job). slice_get (slice_index_or j.scripts (s.0 - 1) no_script).commands (turn_at new.turns s.0).answered)
        (ap (λ (c : CoreSeen D). c.turns.job) h.same ∙ same_job old h.scripts)
        ∙ ap (λ (t : Turn). slice_get (commands_at old.turns s.0) t.answered) turn_now

    atoms_now : new.atoms ≡ old.atoms
    atoms_now = ap (λ (c : CoreSeen D). c.atoms) h.same ∙ same_atoms old h.scripts

    pub waited : WaitsAtCommit new atom s.0 → WaitsAtCommit old atom s.0
    waited w = record {
      is_script = (w.is_script.0, (let up = w.is_script.1 in let many = count_now in omega (arith, up, many)));
      free = sym (ap (λ (t : Turn). t.out) turn_now) ∙ w.free;
      next = sym next_now ∙ w.next;
      has = subst (λ (t : AtomsSeen). HasTxnIn t s.0 atom) atoms_now w.has;
    }

    still_waits : WaitsAtCommit old atom s.0 → WaitsAtCommit new atom s.0
    still_waits w = record {
      is_script = (w.is_script.0, (let up = w.is_script.1 in let many = count_now in omega (arith, up, many)));
      free = ap (λ (t : Turn). t.out) turn_now ∙ w.free;
      next = next_now ∙ w.next;
      has = subst (λ (t : AtomsSeen). HasTxnIn t s.0 atom) (sym atoms_now) w.has;
    }

    -- it does not wait
    pub passed : (WaitsAtCommit new atom s.0 → ⊥) → IsRefusedUpTo old new atom (at + 1)
    passed not = record {
      scripts = h.scripts;
      rise = h.rise;
      just = λ x. (
        λ has. (((h.just x).0 has).0, (let low = ((h.just x).0 has).1 in omega (arith, low))),
        λ both. (h.just x).1 (
          both.0,
          elim (cases_eq x.0 s.0) [
            | inl same ↦ absurd (not (still_waits (subst (WaitsAtCommit old atom) same both.0)))
            | inr other ↦ (let up = both.1 in omega (arith, up, other, is))
          ],
        ),
      );
      same = h.same;
    }

    -- it is refused
    pub refused : WaitsAtCommit new atom s.0 → (then : CoreSeen D) → then ≡ refused_memory new s
        → IsRefusedUpTo old then atom (at + 1)
    refused waits then is_then = record {
      scripts = h.scripts ++ s ∷ [];
      rise =
          all_pairs_push (λ (x y : ScriptNo). x.0 < y.0) h.scripts s h.rise
          (λ k d lt.
          (let low = ((h.just (get_or h.scripts k d)).0 (Contains-get_or h.scripts k d lt)).1 in
          omega (arith, low, is)));
      just = λ x. (
        λ has. ⊎_elim
            (λ early. (((h.just x).0 early).0, (let low = ((h.just x).0 early).1 in omega (arith, low))))
            (λ late.
            let same = one_of x s late in (
              subst (λ (y : ScriptNo). WaitsAtCommit old atom y.0) (sym same) (waited waits),
              (let e = ap (λ (y : ScriptNo). y.0) same in omega (arith, e, is)),
            ))
            (Contains-append_cases h.scripts (s ∷ []) x has),
        λ both. elim (cases_eq x.0 s.0) [
          | inl same ↦
              Contains-append_right h.scripts (s ∷ []) x
              (any_here s [] x (ap (λ (n : ℕ). record { 0 = n }) same))
          | inr other ↦
              Contains-append_left h.scripts (s ∷ []) x
              ((h.just x).1 (both.0, (let up = both.1 in omega (arith, up, other, is))))
        ],
      );
      same = is_then ∙ ap (λ (c : CoreSeen D). refused_memory c s) h.same ∙ sym (all_last old h.scripts s);
    }
      where
        one_of : (x y : ScriptNo) → Contains (y ∷ []) x → x ≡ y
        one_of x y has = ⊎_elim (λ e. e) (λ none. absurd (nothing_in x none)) (any_cases y [] x has)

pub one_more : {D : Type 0} (old mid then : CoreSeen D) (atom at : ℕ) → IsRefusedUpTo old mid atom at
    → RefusesIfWaiting mid then atom (record { 0 = at + 1 }) → IsRefusedUpTo old then atom (at + 1)
one_more old mid then atom at h step = ⊎_elim
    (λ waits. refused old mid atom at h (record { 0 = at + 1 }) refl waits.0 then waits.1)
    (λ not.
    subst (λ (c : CoreSeen _). IsRefusedUpTo old c atom (at + 1)) (sym not.1)
    (passed old mid atom at h (record { 0 = at + 1 }) refl not.0))
    step

pub none_refused : {D : Type 0} (c : CoreSeen D) (atom : ℕ) → IsRefusedUpTo c c atom 0
none_refused c atom = record {
  scripts = [];
  rise = λ i j d lt within. absurd (omega (arith, within));
  just = λ s. (
    λ has. absurd (nothing_in s has),
    λ both. (let some = both.0.is_script.0 in let none = both.1 in absurd (omega (arith, some, none))),
  );
  same = refl;
}

pub all_are : {D : Type 0} (old new : CoreSeen D) (atom at : ℕ) → IsRefusedUpTo old new atom at
    → length old.turns.turns ≤ at
    → (scripts : List ScriptNo) × AreWaiting old atom scripts × (new ≡ all_refused old scripts)
all_are old new atom at h all = (
  h.scripts,
  record {
    rise = h.rise;
    just = λ s. (
      λ has. ((h.just s).0 has).0,
      λ waits. (h.just s).1 (waits, (let up = waits.is_script.1 in omega (arith, up, all))),
    );
  },
  h.same,
)
